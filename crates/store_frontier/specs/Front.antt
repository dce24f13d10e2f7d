-- The arrivals of one station, minute by minute: one is on the frontier if it has paid less than all of earlier
-- minutes, and no more than those of its own minute. So the least before the minute and the least with it decide. Who
-- has paid no less than the least before the minute is not on the frontier, whoever else arrives then.
use Rattle.std.specs.Prelude.{◌≡◌, Bool, true, false, cond, ◌&&◌, ◌↔◌, ◌≢◌, List, leb, ltb, eqb, length, set}
use Rattle.std.proofs.Math.Path.{refl}
use Rattle.std.proofs.Common.{sym, ap, subst, ◌∙◌, arith, length-set, get_or-set_same, get_or-set_other}
use Prim.Native.Nat.{ℕ, suc, ◌+◌, ◌^◌, ◌≤◌, ◌<◌, min}
use Rattle.std.proofs.Math.Decide.{ℕ_discrete, dec_lt}
use borrow.Author.Tests.{lt-ltb, le-ltb, eq-eqb, ne_eqb, leb-true}
use Rattle.std.proofs.Math.ListN.{get_or}
use Rattle.store_stops.specs.Stopwise.{arrive}
use Rattle.store_frontier.specs.Arrivals.{Held, Run}

-- ---- the least of the words of the arrivals at places from up to to, or top if that is less
pub record Least (arrivals v : List ℕ) (top from to x : ℕ) : Type 0 where
  pub most : x ≤ top
  pub below : (r : ℕ) → from ≤ r → r < to → x ≤ get_or v (get_or arrivals r 0) 0
  pub greatest : (y : ℕ) → y ≤ top → ((r : ℕ) → from ≤ r → r < to → y ≤ get_or v (get_or arrivals r 0) 0) → y ≤ x

module _ (arrivals v : List ℕ) (top from : ℕ) where
  pub least_none : Least arrivals v top from from top
  least_none =
      record { most = omega arith; below = (λ r h g. absurd (omega arith)); greatest = (λ y h g. h) }

  pub least_more : (to x : ℕ) → from ≤ to → Least arrivals v top from to x
      → Least arrivals v top from (to + 1) (min x (get_or v (get_or arrivals to 0) 0))
  least_more to x on l =
      record {
        most = omega (arith, l.most);
        below =
            (λ r h g.
            elim (ℕ_discrete r to) [
              | yes z ↦ omega (arith, ap (λ k. get_or v (get_or arrivals k 0) 0) z)
              | no z ↦ omega (arith, l.below r h (omega arith))
            ]);
        greatest =
            (λ y h g.
            omega (arith, l.greatest y h (λ r a b. g r a (omega arith)), g to on (omega arith)));
      }

-- two stretches
pub least_join : (arrivals v v₀ : List ℕ) (top from mid to x y : ℕ) → from ≤ mid → mid ≤ to
    → Least arrivals v₀ top from mid x → Least arrivals v x mid to y
    → ((r : ℕ) → mid ≤ r → r < to → get_or v (get_or arrivals r 0) 0 ≡ get_or v₀ (get_or arrivals r 0) 0)
    → Least arrivals v₀ top from to y
least_join arrivals v v₀ top from mid to x y on off a b same =
    record {
      most = omega (arith, a.most, b.most);
      below =
          (λ r h g.
          elim (dec_lt r mid) [
            | yes z ↦ omega (arith, b.most, a.below r h z)
            | no z ↦ omega (arith, b.below r (omega arith) g, same r (omega arith) g)
          ]);
      greatest =
          (λ z h g.
          b.greatest z (a.greatest z h (λ r i j. g r i (omega arith)))
          (λ r i j. omega (arith, g r (omega arith) j, same r i j)));
    }

-- ---- the arrivals of the minute of the one at place p: those from p up to q
pub record MinuteTo (w arrivals : List ℕ) (p q : ℕ) : Type 0 where
  pub later : p < q
  pub same : (r : ℕ) → p ≤ r → r < q → arrive w (get_or arrivals r 0) ≡ arrive w (get_or arrivals p 0)

pub record MinuteEnd (w arrivals : List ℕ) (p end q : ℕ) : Type 0 where
  pub minute : MinuteTo w arrivals p q
  pub most : q ≤ end
  pub next : q < end → arrive w (get_or arrivals q 0) ≢ arrive w (get_or arrivals p 0)

module _ (w arrivals : List ℕ) (p : ℕ) where
  pub minute_first : MinuteTo w arrivals p (p + 1)
  minute_first =
      record {
        later = omega arith;
        same =
            (λ r h g.
            let here : r ≡ p = omega arith in
            ap (λ k. arrive w (get_or arrivals k 0)) here);
      }

  module _ (q : ℕ) (m : MinuteTo w arrivals p q) where
    pub minute_more : (a b : ℕ) → a ≡ arrive w (get_or arrivals p 0) → b ≡ arrive w (get_or arrivals q 0) → b ≡ a
        → MinuteTo w arrivals p (q + 1)
    minute_more a b is-a is_b e =
        record {
          later = omega (arith, m.later);
          same =
              (λ r h g.
              elim (ℕ_discrete r q) [
                | yes z ↦ ap (λ k. arrive w (get_or arrivals k 0)) z ∙ sym is_b ∙ e ∙ is-a
                | no z ↦ m.same r h (omega arith)
              ]);
        }

    pub minute_out : (end : ℕ) → q ≡ end → MinuteEnd w arrivals p end q
    minute_out end e = record { minute = m; most = omega arith; next = (λ h. absurd (omega arith)) }

    pub minute_end : (end a b : ℕ) → q ≤ end → a ≡ arrive w (get_or arrivals p 0) → b ≡ arrive w (get_or arrivals q 0)
        → (b ≡ a → ⊥) → MinuteEnd w arrivals p end q
    minute_end end a b h is-a is_b n =
        record { minute = m; most = h; next = (λ g z. n (is_b ∙ z ∙ sym is-a)) }

-- ---- the words of a minute
-- what becomes of a word: before is the least of earlier minutes, low the least with this one
unfoldable pub mark_of : (before low u : ℕ) → ℕ
mark_of before low u = cond (ltb u before && eqb u low) (u + 1) 0

module _ (before low u : ℕ) where
  pub mark_high : before ≤ u → 0 ≡ mark_of before low u
  unfolding mark_of
  mark_high h = rw (le-ltb u before h)

  pub mark_other : u < before → (u ≡ low → ⊥) → 0 ≡ mark_of before low u
  unfolding mark_of
  mark_other h g = rw (lt-ltb u before h, ne_eqb u low g)

  pub mark_fits : u < before → before < 2 ^ 32 → u + 1 < 2 ^ 32
  mark_fits h g = omega arith

  pub mark_low : (r : ℕ) → r ≡ u + 1 → u < before → u ≡ low → r ≡ mark_of before low u
  unfolding mark_of
  mark_low r e h g = rw (lt-ltb u before h, eq-eqb u low g) e

  mark_some : (x : ℕ) → x < mark_of before low u → (u < before) × (u ≡ low) × (x ≤ u)
  mark_some x h =
      elim (dec_lt u before) [
        | yes a ↦
            elim (ℕ_discrete u low) [
              | yes b ↦ (a, b, omega (arith, mark_low (u + 1) refl a b))
              | no b ↦ absurd (omega (arith, mark_other a b))
            ]
        | no a ↦ absurd (omega (arith, mark_high (omega arith)))
      ]

pub record Marked (arrivals : List ℕ) (before low from to : ℕ) (v v' : List ℕ) : Type 0 where
  pub at : (r : ℕ) → from ≤ r → r < to
      → get_or v' (get_or arrivals r 0) 0 ≡ mark_of before low (get_or v (get_or arrivals r 0) 0)
  pub off : (k : ℕ) → ((r : ℕ) → from ≤ r → r < to → k ≢ get_or arrivals r 0) → get_or v' k 0 ≡ get_or v k 0
  pub long : length v' ≡ length v

module _ (arrivals : List ℕ) (end before low from : ℕ) (held : Held arrivals from end) (v : List ℕ) where
  pub marked_none : Marked arrivals before low from from v v
  marked_none = record { at = (λ r h g. absurd (omega arith)); off = (λ k h. refl); long = refl }

  pub marked_more : (to u x : ℕ) (v' : List ℕ) → from ≤ to → to < end → length v ≡ 2048
      → Marked arrivals before low from to v v'
      → u ≡ get_or v' (get_or arrivals to 0) 0
      → x ≡ mark_of before low u
      → Marked arrivals before low from (to + 1) v (set v' (get_or arrivals to 0) x)
  marked_more to u x v' b c long m is-u is_x =
      record {
        at =
            (λ r h g.
            elim (ℕ_discrete r to) [
              | yes z ↦
                  rw z
                  (get_or-set_same v' (get_or arrivals to 0) x 0 (omega (arith, m.long, held.stop to b c))
                  ∙ is_x
                  ∙ ap (mark_of before low) (is-u ∙ m.off (get_or arrivals to 0) others))
              | no z ↦
                  get_or-set_other v' (get_or arrivals to 0) (get_or arrivals r 0) x 0
                  (λ y. held.once r to h (omega arith) c (sym y))
                  ∙ m.at r h (omega arith)
            ]);
        off =
            (λ k h.
            get_or-set_other v' (get_or arrivals to 0) k x 0 (h to b (omega arith))
            ∙ m.off k (λ r i j. h r i (omega arith)));
        long = length-set v' (get_or arrivals to 0) x ∙ m.long;
      }
    where
      others : (r : ℕ) → from ≤ r → r < to → get_or arrivals to 0 ≢ get_or arrivals r 0
      others r h g = held.once r to h g c

-- ---- an arrival that is left out: it has paid low or more
pub record LeftOut (arrivals : List ℕ) (low p : ℕ) (v : List ℕ) (out : Bool) (v' : List ℕ) : Type 0 where
  pub dear : out ≡ leb low (get_or v (get_or arrivals p 0) 0)
  pub words : v' ≡ cond out (set v (get_or arrivals p 0) 0) v

module _ (arrivals : List ℕ) (low p : ℕ) (v : List ℕ) where
  module _ (j u : ℕ) (r : Bool) (is-j : j ≡ get_or arrivals p 0) (is-u : u ≡ get_or v j 0) (is : r ≡ leb low u) where
    told : r ≡ leb low (get_or v (get_or arrivals p 0) 0)
    told = is ∙ ap (leb low) (is-u ∙ ap (λ k. get_or v k 0) is-j)

    pub out_yes : (v' : List ℕ) → r ≡ true → v' ≡ set v j 0 → LeftOut arrivals low p v true v'
    out_yes v' e put = record { dear = sym e ∙ told; words = put ∙ ap (λ k. set v k 0) is-j }

    pub out_no : r ≡ false → LeftOut arrivals low p v false v
    out_no e = record { dear = sym e ∙ told; words = refl }

  module _ (out : Bool) (v' : List ℕ) (o : LeftOut arrivals low p v out v') where
    pub left_dear : out ≡ true → low ≤ get_or v (get_or arrivals p 0) 0
    left_dear e = leb-true low (get_or v (get_or arrivals p 0) 0) (sym o.dear ∙ e)

    pub left_words : out ≡ true → v' ≡ set v (get_or arrivals p 0) 0
    left_words e = o.words ∙ ap (λ b. cond b (set v (get_or arrivals p 0) 0) v) e

    pub left_none : out ≡ false → v' ≡ v
    left_none e = o.words ∙ ap (λ b. cond b (set v (get_or arrivals p 0) 0) v) e

-- ---- a station
module _ (w arrivals : List ℕ) (from end top : ℕ) (v : List ℕ) where
  -- the arrival at stop k is on the frontier of those at places from up to end, and has paid less than top
  pub record Front (k : ℕ) : Type 0 where
    pub below : get_or v k 0 < top
    pub least : (s : ℕ) → from ≤ s → s < end → arrive w (get_or arrivals s 0) ≤ arrive w k
        → get_or v k 0 ≤ get_or v (get_or arrivals s 0) 0
    pub first : (s : ℕ) → from ≤ s → s < end → arrive w (get_or arrivals s 0) < arrive w k
        → get_or v k 0 < get_or v (get_or arrivals s 0) 0

  -- the words at places up to p are those of the frontier, the others as they were
  pub record Fronted (p : ℕ) (v' : List ℕ) : Type 0 where
    pub at : (r x : ℕ) → from ≤ r → r < p
        → (x < get_or v' (get_or arrivals r 0) 0) ↔ (Front (get_or arrivals r 0) ×
        (x ≤ get_or v (get_or arrivals r 0) 0))
    pub off : (k : ℕ) → ((r : ℕ) → from ≤ r → r < p → k ≢ get_or arrivals r 0) → get_or v' k 0 ≡ get_or v k 0
    pub long : length v' ≡ length v

  -- All places up to p are done. A minute may be cut there: those of it that are done have paid no less than low, so
  -- that low is still the least of the minutes before it.
  pub record Fronting (p low : ℕ) (v' : List ℕ) : Type 0 where
    pub begun : from ≤ p
    pub most : p ≤ end
    pub fronted : Fronted p v'
    pub least : Least arrivals v top from p low
    pub strict : (s : ℕ) → p ≤ s → s < end → (y : ℕ) → y ≤ top
        → ((r : ℕ) → from ≤ r → r < p → arrive w (get_or arrivals r 0) < arrive w (get_or arrivals s 0)
        → y ≤ get_or v (get_or arrivals r 0) 0)
        → y ≤ low

  pub fronting_none : from ≤ end → Fronting from top v
  fronting_none h =
      record {
        begun = omega arith;
        most = h;
        fronted =
            record { at = (λ r x h g. absurd (omega arith)); off = (λ k h. refl); long = refl };
        least = least_none arrivals v top from;
        strict = (λ s h g y most all. most);
      }

  pub fronting_all : (p low : ℕ) (v' : List ℕ) → end ≤ p → Fronting p low v' → Fronted end v'
  fronting_all p low v' h f =
      let e : p ≡ end = omega (arith, f.most) in
      subst (λ q. Fronted q v') e f.fronted

  module _ (run : Run w arrivals from end) (p low : ℕ) (v' : List ℕ) (more : p < end) (f : Fronting p low v') where
    abbrev at : ℕ → ℕ
    at r = get_or arrivals r 0

    -- two places have different arrivals
    differ : (r s : ℕ) → from ≤ r → r < end → from ≤ s → s < end → r ≢ s → at r ≢ at s
    differ r s a b c d n z =
        elim (dec_lt r s) [
          | yes h ↦ run.held.once r s a h d (sym z)
          | no h ↦ run.held.once s r c (omega arith) b z
        ]

    still : (r : ℕ) → p ≤ r → r < end → get_or v' (at r) 0 ≡ get_or v (at r) 0
    still r h g =
        let a = f.begun in
        f.fronted.off (at r) (λ s i j. differ r s (omega arith) g i (omega arith) (omega arith))

    -- one that has paid no less than low is left out
    module _ (dear : low ≤ get_or v' (at p) 0) (long : length v' ≡ 2048) where
      not_front : Front (at p) → ⊥
      not_front g =
          let up : suc (get_or v (at p) 0) ≤ low =
          f.strict p (omega arith) more (suc (get_or v (at p) 0)) g.below
          (λ s i j. g.first s i (omega (arith, f.most))) in
          omega (arith, up, dear, still p (omega arith) more)

      other : (r : ℕ) → from ≤ r → r < p → at p ≢ at r
      other r h g = differ p r f.begun more h (omega arith) (omega arith)

      none_out : (x : ℕ) → (x < get_or (set v' (at p) 0) (at p) 0) ↔ (Front (at p) × (x ≤ get_or v (at p) 0))
      none_out x =
          rw
          (get_or-set_same v' (at p) 0 0 (omega (arith, long, run.held.stop p f.begun more)))
          (λ h. absurd (omega arith), λ h. absurd (not_front h.0))

      pub fronting_out : Fronting (p + 1) low (set v' (at p) 0)
      fronting_out =
          record {
            begun = omega (arith, f.begun);
            most = omega arith;
            fronted =
                record {
                  at =
                      (λ r x h g.
                      elim (ℕ_discrete r p) [
                        | yes z ↦ rw z (none_out x)
                        | no z ↦
                            rw
                            (get_or-set_other v' (at p) (at r) 0 0 (λ e. other r h (omega arith) (sym e)))
                            (f.fronted.at r x h (omega arith))
                      ]);
                  off =
                      (λ j h.
                      get_or-set_other v' (at p) j 0 0 (h p f.begun (omega arith))
                      ∙ f.fronted.off j (λ r a b. h r a (omega arith)));
                  long = length-set v' (at p) 0 ∙ f.fronted.long;
                };
            least =
                record {
                  most = f.least.most;
                  below =
                      (λ r h g.
                      elim (ℕ_discrete r p) [
                        | yes z ↦
                            omega (arith, dear, still p (omega arith) more, ap (λ i. get_or v (at i) 0) z)
                        | no z ↦ f.least.below r h (omega arith)
                      ]);
                  greatest = (λ y h g. f.least.greatest y h (λ r a b. g r a (omega arith)));
                };
            strict =
                (λ s h g y most all. f.strict s (omega arith) g y most (λ r a b. all r a (omega arith)));
          }

    -- a minute, or what is left of it
    module _ (q low' : ℕ) (v'' : List ℕ) (m : MinuteEnd w arrivals p end q) (l : Least arrivals v' low p q low')
        (k : Marked arrivals low low' p q v' v'') where
      within : q ≤ end
      within = m.most

      -- minutes behind
      behind : (s : ℕ) → q ≤ s → s < end → arrive w (at p) < arrive w (at s)
      behind s h g =
          let a = f.begun in
          let b = m.minute.later in
          let step : arrive w (at p) < arrive w (at q) =
          omega (arith, run.rising p q a b (omega arith), m.next (omega arith)) in
          elim (ℕ_discrete s q) [
            | yes z ↦ omega (arith, ap (λ i. arrive w (at i)) z)
            | no z ↦ omega (arith, run.rising q s (omega arith) (omega arith) g)
          ]

      low_now : Least arrivals v top from q low'
      low_now =
          least_join arrivals v' v top from p q low low' f.begun (omega (arith, m.minute.later)) f.least l
          (λ r h g. still r h (omega (arith, within)))

      -- an arrival of this minute
      module _ (r : ℕ) (a : p ≤ r) (b : r < q) where
        u : ℕ
        u = get_or v (at r) 0

        to_front : u < low → u ≡ low' → Front (at r)
        unfolding u
        to_front h g =
            record {
              below = omega (arith, f.least.most);
              least =
                  (λ s i j e.
                  let s_before : s < q =
                  elim (dec_lt s q) [
                    | yes z ↦ z
                    | no z ↦ absurd (omega (arith, behind s (omega arith) j, m.minute.same r a b))
                  ] in
                  omega (arith, low_now.below s i s_before));
              first =
                  (λ s i j e.
                  let s_before : s < p =
                  elim (dec_lt s p) [
                    | yes z ↦ z
                    | no z ↦
                        elim (dec_lt s q) [
                          | yes y ↦
                              absurd (omega (arith, m.minute.same s (omega arith) y, m.minute.same r a b))
                          | no y ↦ absurd (omega (arith, behind s (omega arith) j, m.minute.same r a b))
                        ]
                  ] in
                  omega (arith, f.least.below s i s_before));
            }

        from_front : Front (at r) → (u < low) × (u ≡ low')
        unfolding u
        from_front g =
            let room : r < end = omega (arith, within) in
            let on = f.begun in
            let up : suc (get_or v (at r) 0) ≤ low =
            f.strict r a room (suc (get_or v (at r) 0)) g.below (λ s i j. g.first s i (omega (arith, f.most))) in
            let down : get_or v (at r) 0 ≤ low' =
            low_now.greatest (get_or v (at r) 0) (omega (arith, g.below))
            (λ s i j.
            g.least s i (omega (arith, within))
            (elim (dec_lt s p) [
              | yes z ↦ run.rising s r i (omega arith) room
              | no z ↦ omega (arith, m.minute.same s (omega arith) j, m.minute.same r a b)
            ])) in
            (up, omega (arith, down, low_now.below r (omega arith) b))

        this_minute : (x : ℕ) → (x < get_or v'' (at r) 0) ↔ (Front (at r) × (x ≤ get_or v (at r) 0))
        unfolding u
        this_minute x =
            rw (k.at r a b, still r a (omega (arith, within))) (
              λ h. let g = mark_some low low' (get_or v (at r) 0) x h in (to_front g.0 g.1, g.2),
              λ h.
                  let g = from_front h.0 in
                  omega (arith, mark_low low low' (get_or v (at r) 0) (get_or v (at r) 0 + 1) refl g.0 g.1, h.1),
            )

      pub fronting_more : Fronting q low' v''
      fronting_more =
          record {
            begun = omega (arith, f.begun, m.minute.later);
            most = within;
            fronted =
                record {
                  at =
                      (λ r x h g.
                      elim (dec_lt r p) [
                        | yes z ↦
                            rw
                            (k.off (at r)
                            (λ s i j.
                            differ r s h (omega (arith, within)) (omega (arith, f.begun)) (omega (arith, within))
                            (omega arith)))
                            (f.fronted.at r x h z)
                        | no z ↦ this_minute r (omega arith) g x
                      ]);
                  off =
                      (λ j h.
                      k.off j (λ r a b. h r (omega (arith, f.begun)) b)
                      ∙ f.fronted.off j (λ r a b. h r a (omega (arith, m.minute.later))));
                  long = k.long ∙ f.fronted.long;
                };
            least = low_now;
            strict =
                (λ s h g y most all.
                l.greatest y
                (f.strict p (omega arith) more y most
                (λ r a b e. all r a (omega (arith, m.minute.later)) (omega (arith, behind s h g))))
                (λ r a b.
                omega (
                  arith,
                  all r (omega (arith, f.begun)) b (omega (arith, m.minute.same r a b, behind s h g)),
                  still r a (omega (arith, within)),
                )));
          }
