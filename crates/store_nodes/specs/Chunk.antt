-- Flags of some nodes in one array, so many for each node from lo on: of n flags each, flag k of node v stands at
-- n * (v - lo) and k further.
use Rattle.std.specs.Prelude.{◌≡◌, refl, Bool, true, ◌⊎◌, ◌↔◌, List, ◌++◌, ℕ, suc, ◌+◌, ◌-◌, ◌*◌, ◌≤◌, ◌<◌, T, ltb}
use Rattle.std.specs.Prelude.{length, get_or, take, drop, replicate}
use Rattle.std.proofs.Common.{sym, ap, subst, ◌∙◌, inl, inr, mul-suc, mul-le-mul_left, arith, ltb→lt, nltb→le}
use Rattle.std.proofs.Common.{length-take, length-drop, length-append, length-take-le, get_or-take, get_or-drop}
use Rattle.std.proofs.Common.{get_or-append-add}
use Rattle.std.proofs.Math.ListN.{get_or-append}
use Rattle.lists.specs.Lists.{◌∈◌}
use Rattle.lists.specs.Tests.{either}
use Rattle.store_frontier.specs.Zeros.{zero_replicate}
use Rattle.store_slots.specs.Slots.{slots}
use Rattle.store_slots.specs.SlotLaws.{slot_small}
use Rattle.connections.specs.Connections.{Transfer}
use Rattle.timetable.specs.Words.{is_timetable}
use Rattle.store_marks.specs.Marking.{Marked, Slotted}
use Rattle.store_tree.specs.Tree.{Flags, KidFlags}

-- no flag is up
pub record Down (flags : List ℕ) : Type 0 where
  pub none : (i : ℕ) → get_or flags i 0 ≡ 0

pub down_fresh : (n : ℕ) → Down (replicate n 0)
down_fresh n = record { none = zero_replicate n }

-- those flags of node v go up that are told, and no others change
pub record MarkedAt (n : ℕ) (Told : (k : ℕ) → Type 0) (lo v : ℕ) (old new : List ℕ) : Type 0 where
  pub here : (k : ℕ) → k < n
      → (get_or new (n * (v - lo) + k) 0 ≡ 1) ↔ ((get_or old (n * (v - lo) + k) 0 ≡ 1) ⊎ Told k)
  pub below : (i : ℕ) → i < n * (v - lo) → get_or new i 0 ≡ get_or old i 0
  pub above : (i : ℕ) → n * (v - lo) + n ≤ i → get_or new i 0 ≡ get_or old i 0

-- the same for the nodes from lo up to hi
pub record Raised (n : ℕ) (Told : (v k : ℕ) → Type 0) (lo hi : ℕ) (old new : List ℕ) : Type 0 where
  pub here : (v k : ℕ) → lo ≤ v → v < hi → k < n
      → (get_or new (n * (v - lo) + k) 0 ≡ 1) ↔ ((get_or old (n * (v - lo) + k) 0 ≡ 1) ⊎ Told v k)
  pub above : (i : ℕ) → n * (hi - lo) ≤ i → get_or new i 0 ≡ get_or old i 0

-- ---- the places of the flags
module _ (n lo : ℕ) where
  -- where those of the next node begin
  places_next : (v : ℕ) → lo ≤ v → n * (v + 1 - lo) ≡ n * (v - lo) + n
  places_next v h =
      let e : v + 1 - lo ≡ suc (v - lo) = omega arith in
      ap (λ k. n * k) e ∙ mul-suc n (v - lo)

  -- those of an earlier node stand before them
  places_rise : (u v : ℕ) → lo ≤ u → u < v → n * (u - lo) + n ≤ n * (v - lo)
  places_rise u v h g =
      let later : suc (u - lo) ≤ v - lo = omega arith in
      let most : n * suc (u - lo) ≤ n * (v - lo) = mul-le-mul_left n later in
      omega (arith, mul-suc n (u - lo))

-- ---- a part of the array was lent and comes back
-- the n words from o on, and the array with others in their place
abbrev pub part_of : (n o : ℕ) (l : List ℕ) → List ℕ
part_of n o l = take (o + n - o) (drop o l)

abbrev pub put_part : (n o : ℕ) (l part : List ℕ) → List ℕ
put_part n o l part = take o l ++ (part ++ drop (o + n - o) (drop o l))

-- a word of the part that is lent
pub part_at : (n o : ℕ) (l : List ℕ) (j : ℕ) → j < n → get_or (part_of n o l) j 0 ≡ get_or l (o + j) 0
part_at n o l j h = get_or-take (o + n - o) (drop o l) j 0 (omega arith) ∙ get_or-drop o l j 0

pub part_long : (n o : ℕ) (l : List ℕ) → o + n ≤ length l → length (part_of n o l) ≡ n
part_long n o l h = omega (arith, length-take (o + n - o) (drop o l), length-drop o l)

-- the part of a node of 96 has all its flags
pub part_64 : (lo v : ℕ) (l : List ℕ) → length l ≡ 6144 → lo ≤ v → v < lo + 96
    → length (part_of 64 (64 * (v - lo)) l) ≡ 64
part_64 lo v l h low few = part_long 64 (64 * (v - lo)) l (omega arith)

pub part_320 : (lo v : ℕ) (l : List ℕ) → length l ≡ 30720 → lo ≤ v → v < lo + 96
    → length (part_of 320 (320 * (v - lo)) l) ≡ 320
part_320 lo v l h low few = part_long 320 (320 * (v - lo)) l (omega arith)

module _ (n o : ℕ) (l part : List ℕ) (room : o + n ≤ length l) (long : length part ≡ n) where
  abbrev rest : List ℕ
  rest = drop (o + n - o) (drop o l)

  front : length (take o l) ≡ o
  front = length-take-le o l (omega arith)

  pub put_long : length (put_part n o l part) ≡ length l
  put_long =
      omega (
        arith,
        length-append (take o l) (part ++ rest),
        length-append part rest,
        front,
        length-drop (o + n - o) (drop o l),
        length-drop o l,
      )

  put_below : (i : ℕ) → i < o → get_or (put_part n o l part) i 0 ≡ get_or l i 0
  put_below i h =
      get_or-append (take o l) (part ++ rest) 0 i (omega (arith, front)) ∙ get_or-take o l i 0 h

  put_behind : (j : ℕ) → get_or (put_part n o l part) (o + j) 0 ≡ get_or (part ++ rest) j 0
  put_behind j =
      ap (λ k. get_or (put_part n o l part) (k + j) 0) (sym front) ∙ get_or-append-add (take o l) (part ++ rest) j 0

  put_here : (j : ℕ) → j < n → get_or (put_part n o l part) (o + j) 0 ≡ get_or part j 0
  put_here j h = put_behind j ∙ get_or-append part rest 0 j (omega arith)

  put_above : (i : ℕ) → o + n ≤ i → get_or (put_part n o l part) i 0 ≡ get_or l i 0
  put_above i h =
      let j = i - (o + n) in
      let e : o + (n + j) ≡ i = omega arith in
      let f : o + (o + n - o + j) ≡ i = omega arith in
      ap (λ k. get_or (put_part n o l part) k 0) (sym e)
      ∙ put_behind (n + j)
      ∙ ap (λ k. get_or (part ++ rest) (k + j) 0) (sym long)
      ∙ get_or-append-add part rest j 0
      ∙ get_or-drop (o + n - o) (drop o l) j 0
      ∙ get_or-drop o l (o + n - o + j) 0
      ∙ ap (λ k. get_or l k 0) f

module _ (n lo v : ℕ) (l part : List ℕ) (room : n * (v - lo) + n ≤ length l) (part_is : length part ≡ n) where
  marked_in : (Told : (k : ℕ) → Type 0) → Marked n Told (part_of n (n * (v - lo)) l) part
      → MarkedAt n Told lo v l (put_part n (n * (v - lo)) l part)
  marked_in Told marked =
      record {
        here = says;
        below = put_below n (n * (v - lo)) l part room part_is;
        above = put_above n (n * (v - lo)) l part room part_is;
      }
    where
      says : (k : ℕ) → k < n
          → (get_or (put_part n (n * (v - lo)) l part) (n * (v - lo) + k) 0 ≡ 1)
          ↔ ((get_or l (n * (v - lo) + k) 0 ≡ 1) ⊎ Told k)
      says k f =
          let New-is = put_here n (n * (v - lo)) l part room part_is k f in
          let old-is = part_at n (n * (v - lo)) l k f in (
            λ e.
                (elim ((marked.exactly k f).0 (sym New-is ∙ e)) [
                  | inl z ↦ inl (sym old-is ∙ z)
                  | inr t ↦ inr t
                ]),
            λ e. New-is ∙ (marked.exactly k f).1 (elim e [ inl z ↦ inl (old-is ∙ z) | inr t ↦ inr t ]),
          )

-- the flags of arcs, and those of kids
module _ (lo v : ℕ) (l part : List ℕ) (low : lo ≤ v) (few : v < lo + 96) where
  pub marked_long_64 : length l ≡ 6144 → length part ≡ 64 → length (put_part 64 (64 * (v - lo)) l part) ≡ 6144
  marked_long_64 long part_is = put_long 64 (64 * (v - lo)) l part (omega arith) part_is ∙ long

  pub marked_long_320 : length l ≡ 30720 → length part ≡ 320 → length (put_part 320 (320 * (v - lo)) l part) ≡ 30720
  marked_long_320 long part_is = put_long 320 (320 * (v - lo)) l part (omega arith) part_is ∙ long

  pub marked_at_64 : (Told : (k : ℕ) → Type 0) → length l ≡ 6144 → length part ≡ 64
      → Marked 64 Told (part_of 64 (64 * (v - lo)) l) part
      → MarkedAt 64 Told lo v l (put_part 64 (64 * (v - lo)) l part)
  marked_at_64 Told long part_is = marked_in 64 lo v l part (omega arith) part_is Told

  pub marked_at_320 : (Told : (k : ℕ) → Type 0) → length l ≡ 30720 → length part ≡ 320
      → Marked 320 Told (part_of 320 (320 * (v - lo)) l) part
      → MarkedAt 320 Told lo v l (put_part 320 (320 * (v - lo)) l part)
  marked_at_320 Told long part_is = marked_in 320 lo v l part (omega arith) part_is Told

-- ---- node by node
module _ (n : ℕ) (Told : (v k : ℕ) → Type 0) (lo : ℕ) (old : List ℕ) where
  pub raised_none : Raised n Told lo lo old old
  raised_none = record { here = (λ v k h g f. absurd (omega arith)); above = (λ i h. refl) }

  pub raised_more : (v : ℕ) (mid new : List ℕ) → lo ≤ v → Raised n Told lo v old mid
      → MarkedAt n (Told v) lo v mid new → Raised n Told lo (v + 1) old new
  raised_more v mid new low r m = record { here = here; above = above }
    where
      here : (u k : ℕ) → lo ≤ u → u < v + 1 → k < n
          → (get_or new (n * (u - lo) + k) 0 ≡ 1) ↔ ((get_or old (n * (u - lo) + k) 0 ≡ 1) ⊎ Told u k)
      here u k h g f =
          either
          (ltb u v)
          (λ t.
          let l = ltb→lt u v t in
          let same = m.below (n * (u - lo) + k) (omega (arith, places_rise n lo u v h l)) in
          let o = r.here u k h l f in (λ e. o.0 (sym same ∙ e), λ e. same ∙ o.1 e))
          (λ t.
          let l = nltb→le u v t in
          let e : v ≡ u = omega arith in
          subst
          (λ u. (get_or new (n * (u - lo) + k) 0 ≡ 1) ↔ ((get_or old (n * (u - lo) + k) 0 ≡ 1) ⊎ Told u k))
          e
          this)
        where
          same : get_or mid (n * (v - lo) + k) 0 ≡ get_or old (n * (v - lo) + k) 0
          same = r.above (n * (v - lo) + k) (omega arith)

          this : (get_or new (n * (v - lo) + k) 0 ≡ 1) ↔ ((get_or old (n * (v - lo) + k) 0 ≡ 1) ⊎ Told v k)
          this =
              let o = m.here k f in (
                λ e. (elim (o.0 e) [ inl z ↦ inl (sym same ∙ z) | inr t ↦ inr t ]),
                λ e. o.1 (elim e [ inl z ↦ inl (same ∙ z) | inr t ↦ inr t ]),
              )

      above : (i : ℕ) → n * (v + 1 - lo) ≤ i → get_or new i 0 ≡ get_or old i 0
      above i h =
          let e = places_next n lo v low in
          m.above i (omega arith) ∙ r.above i (omega arith)

  pub raised_all : (v hi : ℕ) (new : List ℕ) → v ≤ hi → hi ≤ v → Raised n Told lo v old new
      → Raised n Told lo hi old new
  raised_all v hi new h g r =
      let e : v ≡ hi = omega arith in
      subst (λ k. Raised n Told lo k old new) e r

-- the nodes from v on up to u as well, whatever the flags were when node lo was at hand
pub record RaisedOn (n : ℕ) (Told : (v k : ℕ) → Type 0) (lo v u : ℕ) (old new : List ℕ) : Type 0 where
  pub on : (first : List ℕ) → Raised n Told lo v first old → Raised n Told lo u first new

module _ (n : ℕ) (Told : (v k : ℕ) → Type 0) (lo : ℕ) where
  pub on_none : (v : ℕ) (old : List ℕ) → RaisedOn n Told lo v v old old
  on_none v old = record { on = λ first r. r }

  pub on_more : (v u : ℕ) (old mid new : List ℕ) → lo ≤ u → RaisedOn n Told lo v u old mid
      → MarkedAt n (Told u) lo u mid new → RaisedOn n Told lo v (u + 1) old new
  on_more v u old mid new low r m =
      record { on = λ first h. raised_more n Told lo first u mid new low (r.on first h) m }

  pub on_alone : (v : ℕ) (old new : List ℕ) → lo ≤ v → MarkedAt n (Told v) lo v old new
      → RaisedOn n Told lo v (v + 1) old new
  on_alone v old new low m = on_more v v old old new low (on_none v old) m

  pub on_then : (v u t : ℕ) (old mid new : List ℕ) → RaisedOn n Told lo v u old mid
      → RaisedOn n Told lo u t mid new → RaisedOn n Told lo v t old new
  on_then v u t old mid new r m = record { on = λ first h. m.on first (r.on first h) }

  pub on_all : (v u : ℕ) (first old new : List ℕ) → Raised n Told lo v first old → RaisedOn n Told lo v u old new
      → Raised n Told lo u first new
  on_all v u first old new r m = m.on first r

-- ---- the flags that are up are exactly those told
pub record Shown (n : ℕ) (Told : (v k : ℕ) → Type 0) (lo hi : ℕ) (flags : List ℕ) : Type 0 where
  pub here : (v k : ℕ) → lo ≤ v → v < hi → k < n → (get_or flags (n * (v - lo) + k) 0 ≡ 1) ↔ Told v k

module _ (n lo hi : ℕ) where
  pub shown_more : (Told Now Next : (v k : ℕ) → Type 0) (old new : List ℕ) → Shown n Told lo hi old
      → Raised n Now lo hi old new → ((v k : ℕ) → Next v k ↔ (Told v k ⊎ Now v k)) → Shown n Next lo hi new
  shown_more Told Now Next old new s r next =
      record {
        here =
            λ v k h g f. (
              λ e.
                  (next v k).1
                  (elim ((r.here v k h g f).0 e) [
                    | inl z ↦ inl ((s.here v k h g f).0 z)
                    | inr z ↦ inr z
                  ]),
              λ e.
                  (r.here v k h g f).1
                  (elim ((next v k).0 e) [
                    | inl z ↦ inl ((s.here v k h g f).1 z)
                    | inr z ↦ inr z
                  ]),
            );
      }

  pub shown_same : (Told Next : (v k : ℕ) → Type 0) (flags : List ℕ) → Shown n Told lo hi flags
      → ((v k : ℕ) → Next v k ↔ Told v k) → Shown n Next lo hi flags
  shown_same Told Next flags s next =
      record {
        here =
            λ v k h g f.
            (λ e. (next v k).1 ((s.here v k h g f).0 e), λ e. (s.here v k h g f).1 ((next v k).0 e));
      }

-- as the flags of one node: of its arcs,
module _ (lo hi : ℕ) where
  pub shown_arcs : (Test : (v b : ℕ) → Bool) (flags : List ℕ) → Shown 64 (λ v k. T (Test v (suc k))) lo hi flags
      → (v : ℕ) → lo ≤ v → v < hi → 64 * (v - lo) + 64 ≤ length flags
      → Flags (Test v) (part_of 64 (64 * (v - lo)) flags)
  shown_arcs Test flags s v h g room =
      record {
        long = part_long 64 (64 * (v - lo)) flags room;
        up = λ j f t. (part_at 64 (64 * (v - lo)) flags j f ∙ (s.here v j h g f).1 t);
        down = λ j f e. (s.here v j h g f).0 (sym (part_at 64 (64 * (v - lo)) flags j f) ∙ e);
      }

  -- and of its kids
  pub shown_kids : (w : List ℕ) → is_timetable w ≡ true → (Test : (v : ℕ) → Transfer → Bool) (flags : List ℕ)
      → Shown 320 (λ v. Slotted w (λ b. T (Test v b))) lo hi flags
      → (v : ℕ) → lo ≤ v → v < hi → 320 * (v - lo) + 320 ≤ length flags
      → KidFlags w (Test v) (part_of 320 (320 * (v - lo)) flags)
  shown_kids w accepted Test flags s v h g room =
      record {
        long = part_long 320 (320 * (v - lo)) flags room;
        up = λ j m t.
            (at j (few j m) ∙ (s.here v j h g (few j m)).1 (record { listed = m; holds = t }));
        down = λ j m e. ((s.here v j h g (few j m)).0 (sym (at j (few j m)) ∙ e)).holds;
      }
    where
      few : (j : ℕ) → j ∈ slots w → j < 320
      few j m = slot_small w accepted j m

      at : (j : ℕ) → j < 320 → get_or (part_of 320 (320 * (v - lo)) flags) j 0 ≡ get_or flags (320 * (v - lo) + j) 0
      at j f = part_at 320 (320 * (v - lo)) flags j f
