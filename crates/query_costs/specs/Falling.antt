-- The least penalties so far, held for a span alone: before it there are none, and behind it the last of it stands for
-- all. What words p hold so is `lowest no_points p`.
use Rattle.std.specs.Prelude.{◌≡◌, refl, Bool, List, [], ◌∷◌, ◌++◌, ℕ, zero, suc, ◌+◌, ◌-◌, ◌≤◌, ◌<◌, min, ltb, set}
use Rattle.std.proofs.Math.Path.{sym, ap}
use Rattle.std.proofs.Common.{◌∙◌, inl, inr, ltb→lt, lt→ltb, length-set, take-append-drop, length-take-le}
use Rattle.std.proofs.Common.{get_or-set_same, get_or-set_other, ext_get_or}
use native.Mathlib.Omega.{arith}
use Rattle.std.proofs.Math.Decide.{dec_lt}
use Rattle.std.proofs.Math.ListN.{length, get_or, take, drop, length-append, length-drop, get_or-append}
use Rattle.std.proofs.Math.ListN.{get_or-eq_default}
use Rattle.std.proofs.lemmas.List.{length-replicate}
use Rattle.std.proofs.Math.Seq.{take_at, get_or-take, get_or-drop, get_or-append-add}
use Rattle.lists.specs.First.{Foremost, foremost}
use Rattle.query_minutes.specs.Minutes.{no_points, blank}
use Rattle.query_minutes.specs.Noted.{get_d_any, get_d_blank}
use Rattle.query_costs.specs.declared.Span.{Span}
use Rattle.query_costs.specs.Spans.{Within}
use Rattle.query_costs.specs.Lowest.{lowest, length_lowest, lowest_least, lowest_below, lowest_falls}
use Rattle.query_costs.specs.Lowest.{lowest_stems}
use Rattle.query_costs.specs.Layering.{start_of, first_value}

-- within the span the words are the least so far, outside it there are none
pub record Falls (s : Span) (p : List ℕ) : Type 0 where
  pub long : length p ≡ 2880
  pub within : Within s blank p
  pub level : (m : ℕ) → s.from ≤ m → m < s.to → get_or p m no_points ≡ get_or (lowest no_points p) m no_points

module _ (s : Span) (p : List ℕ) (within : Within s blank p) where
  pub before_none : (m : ℕ) → m < s.from → get_or p m no_points ≡ no_points
  before_none m h = within.below m h ∙ get_d_blank 2880 no_points m

  pub behind_none : (m : ℕ) → s.to ≤ m → get_or p m no_points ≡ no_points
  behind_none m h = within.above m h ∙ get_d_blank 2880 no_points m

-- ---- where there is none, the least so far stays

lowest_most : (p : List ℕ) (m : ℕ) → get_or (lowest no_points p) m no_points ≤ no_points
lowest_most p m =
    elim (dec_lt m (length p)) [
      | yes h ↦ lowest_least no_points p no_points m h
      | no h ↦ omega (
        arith,
        get_or-eq_default (lowest no_points p) no_points {n = m} (omega (arith, length_lowest no_points p)),
      )
    ]

-- up to minute e
pub lowest_none : (p : List ℕ) (e : ℕ) → ((m : ℕ) → m < e → get_or p m no_points ≡ no_points)
    → (m : ℕ) → m < e → get_or (lowest no_points p) m no_points ≡ no_points
lowest_none p e none m h =
    elim (dec_lt m (length p)) [
      | yes g ↦ elim (lowest_stems no_points p no_points m g) [
        | inl z ↦ z
        | inr b ↦ sym b.is ∙ none b.place (omega (arith, b.before))
      ]
      | no g ↦ get_or-eq_default (lowest no_points p) no_points {n = m} (omega (arith, length_lowest no_points p))
    ]

-- behind minute j
lowest_stays : (p : List ℕ) (j m : ℕ) → j ≤ m → m < length p
    → ((k : ℕ) → j < k → get_or p k no_points ≡ no_points)
    → get_or (lowest no_points p) m no_points ≡ get_or (lowest no_points p) j no_points
lowest_stays p j m h inside none =
    omega (arith, lowest_falls no_points p no_points j m h inside, above)
  where
    above : get_or (lowest no_points p) j no_points ≤ get_or (lowest no_points p) m no_points
    above =
        elim (lowest_stems no_points p no_points m inside) [
          | inl e ↦ omega (arith, e, lowest_most p j)
          | inr b ↦ elim (dec_lt j b.place) [
            | yes g ↦ omega (arith, b.is, none b.place g, lowest_most p j)
            | no g ↦ omega (arith, b.is, lowest_below no_points p no_points b.place j (omega arith) (omega arith))
          ]
        ]

-- ---- the words as they are held are enough

module _ (s : Span) (p : List ℕ) (falls : Falls s p) (m : ℕ) (inside : m < 2880)
    (some : get_or (lowest no_points p) m 0 < no_points) where
  some_there : get_or (lowest no_points p) m no_points < no_points
  some_there =
      omega (
        arith,
        some,
        get_d_any (lowest no_points p) m 0 no_points (omega (arith, length_lowest no_points p, falls.long)),
      )

  from_first : s.from ≤ m
  from_first =
      elim (dec_lt m s.from) [
        | yes h ↦ absurd (omega (
          arith,
          some_there,
          lowest_none p s.from (before_none s p falls.within) m h,
        ))
        | no h ↦ omega arith
      ]

  not_empty : s.from < s.to
  not_empty =
      elim (dec_lt s.from s.to) [
        | yes h ↦ h
        | no h ↦ absurd (omega (arith, some_there, lowest_none p 2880 (λ k g. none (omega arith) k) m inside))
      ]
    where
      none : s.to ≤ s.from → (k : ℕ) → get_or p k no_points ≡ no_points
      none h k =
          elim (dec_lt k s.from) [
            | yes g ↦ before_none s p falls.within k g
            | no g ↦ behind_none s p falls.within k (omega arith)
          ]

  pub paid_some : 1 ≤ s.to
  paid_some = omega (arith, not_empty)

  pub paid_inside : (k : ℕ) → k ≡ min m (s.to - 1) → k < length p
  paid_inside k e = omega (arith, e, inside, falls.long)

  pub paid_is : (k r : ℕ) → k ≡ min m (s.to - 1) → r ≡ get_or p k 0 → r ≡ get_or (lowest no_points p) m 0
  paid_is k r e is =
      is
      ∙ get_d_any p k 0 no_points (paid_inside k e)
      ∙ elim (dec_lt m s.to) [
        | yes h ↦ ap (λ j. get_or p j no_points) {x = k} {y = m} (omega (arith, e)) ∙ falls.level m from_first h
        | no h ↦ falls.level k (omega (arith, e, not_empty)) (omega (arith, e, not_empty))
            ∙ sym (lowest_stays p k m (omega (arith, e)) (omega (arith, falls.long))
            (λ j g. behind_none s p falls.within j (omega (arith, e, not_empty))))
      ]
      ∙ sym
      (get_d_any (lowest no_points p) m 0 no_points (omega (arith, length_lowest no_points p, falls.long, inside)))

-- ---- the least so far, taken up to place `to`

unfoldable levelled : (to : ℕ) → List ℕ → List ℕ
levelled to l = take to (lowest no_points l) ++ drop to l

settled : (to least : ℕ) (l : List ℕ) → lowest least (take to (lowest least l) ++ drop to l) ≡ lowest least l
unfolding lowest
settled zero least l = refl
settled (suc to) least [] = refl
settled (suc to) least (x ∷ l) =
    let same : min least (min least x) ≡ min least x = omega arith in
    rw same (ap (λ k. min least x ∷ k) (settled to (min least x) l))

module _ (to : ℕ) (l : List ℕ) (h : to ≤ length l) where
  front : length (take to (lowest no_points l)) ≡ to
  front = length-take-le to (lowest no_points l) (omega (arith, length_lowest no_points l))

  levelled_front : (m : ℕ) → m < to → get_or (levelled to l) m no_points ≡ get_or (lowest no_points l) m no_points
  unfolding levelled
  levelled_front m g =
      get_or-append (take to (lowest no_points l)) (drop to l) no_points m (omega (arith, front))
      ∙ get_or-take to (lowest no_points l) m no_points g

  levelled_rest : (m : ℕ) → to ≤ m → get_or (levelled to l) m no_points ≡ get_or l m no_points
  unfolding levelled
  levelled_rest m g =
      let at : length (take to (lowest no_points l)) + (m - to) ≡ m = omega (arith, front) in
      let there : to + (m - to) ≡ m = omega arith in
      ap (λ k. get_or (take to (lowest no_points l) ++ drop to l) k no_points) (sym at)
      ∙ get_or-append-add (take to (lowest no_points l)) (drop to l) (m - to) no_points
      ∙ get_or-drop to l (m - to) no_points
      ∙ ap (λ k. get_or l k no_points) there

  levelled_long : length (levelled to l) ≡ length l
  unfolding levelled
  levelled_long = length-append (take to (lowest no_points l)) (drop to l) ∙ omega (arith, front, length-drop to l)

-- the first m words are lowered, and m is the end of the span
module _
    (old p : List ℕ)
    (least m : ℕ)
    (long : length p ≡ 2880)
    (so_far : lowest no_points old ≡ take m p ++ lowest least (drop m p))
    (s : Span)
    (rest : drop s.to p ≡ drop s.to old)
    (is : Within s blank old)
    (within-old : length old ≡ 2880)
    (there : m ≤ s.to)
    (past : s.to ≤ m)
  where
    ended : m ≡ s.to
    ended = omega arith

    all : p ≡ levelled s.to old
    unfolding levelled
    all =
        sym (take-append-drop m p)
        ∙ ap (λ l. l ++ drop m p)
        (sym
        (ap (take m) so_far
        ∙ take_at (take m p) (lowest least (drop m p)) m (length-take-le m p (omega (arith, long, is.short)))))
        ∙ ap (λ k. take k (lowest no_points old) ++ drop k p) ended
        ∙ ap (λ l. take s.to (lowest no_points old) ++ l) rest

    pub lowest_kept : lowest no_points p ≡ lowest no_points old
    unfolding levelled
    lowest_kept = ap (lowest no_points) all ∙ settled s.to no_points old

    inside : s.to ≤ length old
    inside = omega (arith, is.short, within-old)

    pub lowest_falls_now : Falls s p
    lowest_falls_now =
        record {
          long = long;
          within = record { short = is.short; below = below; above = above };
          level = λ m h g.
              ap (λ l. get_or l m no_points) all
              ∙ levelled_front s.to old inside m g
              ∙ ap (λ l. get_or l m no_points) (sym lowest_kept);
        }
      where
        above : (k : ℕ) → s.to ≤ k → get_or p k no_points ≡ get_or blank k no_points
        above k h = ap (λ l. get_or l k no_points) all ∙ levelled_rest s.to old inside k h ∙ is.above k h

        below : (k : ℕ) → k < s.from → get_or p k no_points ≡ get_or blank k no_points
        below k h =
            elim (dec_lt k s.to) [
              | yes g ↦ ap (λ l. get_or l k no_points) all
                  ∙ levelled_front s.to old inside k g
                  ∙ lowest_none old s.from (before_none s old is) k h
                  ∙ sym (get_d_blank 2880 no_points k)
              | no g ↦ above k (omega arith)
            ]

-- ---- before the first ride
module _ (minute : ℕ) (h : minute < 2880) (old p : List ℕ) (was : old ≡ blank) (is : p ≡ set old minute 0) where
  begun : p ≡ set blank minute 0
  begun = is ∙ ap (λ l. set l minute 0) was

  begun_long : length p ≡ 2880
  begun_long = ap length begun ∙ length-set blank minute 0 ∙ length-replicate 2880 no_points

  pub start_holds : lowest no_points p ≡ start_of minute
  unfolding start_of
  start_holds = ap (lowest no_points) begun

  begun_else : (m : ℕ) → ¬ (m ≡ minute) → get_or p m no_points ≡ get_or blank m no_points
  begun_else m g = ap (λ l. get_or l m no_points) begun ∙ get_or-set_other blank minute m 0 no_points g

  begun_here : (m : ℕ) → m ≡ minute → get_or p m no_points ≡ 0
  begun_here m e =
      ap (λ k. get_or p k no_points) e
      ∙ ap (λ l. get_or l minute no_points) begun
      ∙ get_or-set_same blank minute 0 no_points (omega (arith, length-replicate 2880 no_points))

  pub start_falls : (to : ℕ) → to ≡ minute + 1 → Falls (record { from = minute; to = to }) p
  start_falls to e =
      record {
        long = begun_long;
        within =
            record {
              short = omega (arith, e);
              below = λ m g. begun_else m (λ z. omega arith);
              above = λ m g. begun_else m (λ z. omega (arith, e));
            };
        level = λ m g k.
            (let here : m ≡ minute = omega (arith, e) in
            omega (
              arith,
              begun_here m here,
              lowest_below no_points p no_points m m (omega arith) (omega (arith, begun_long)),
            ));
      }

-- ---- the first minute by which one is ready
abbrev ready : List ℕ → ℕ → Bool
ready p m = ltb (get_or p m 0) no_points

first_ready_lem : (p : List ℕ) → Foremost (ready p) 0 2880 (first_value p)
unfolding first_value
first_ready_lem p = foremost (ready p) 0 2880

module _ (s : Span) (p : List ℕ) (falls : Falls s p) where
  most : (m : ℕ) → get_or p m no_points ≤ no_points
  most m =
      elim (dec_lt m s.from) [
        | yes h ↦ omega (arith, before_none s p falls.within m h)
        | no h ↦ elim (dec_lt m s.to) [
          | yes g ↦ omega (arith, falls.level m (omega arith) g, lowest_most p m)
          | no g ↦ omega (arith, behind_none s p falls.within m (omega arith))
        ]
      ]

  none_ready : (m : ℕ) → m < first_value p → get_or p m no_points ≡ no_points
  none_ready m h =
      let inside : m < 2880 = omega (arith, h, (first_ready_lem p).most) in
      elim (dec_lt (get_or p m 0) no_points) [
        | yes g ↦ absurd ((first_ready_lem p).before m (omega arith) h (lt→ltb (get_or p m 0) no_points g))
        | no g ↦ omega (arith, most m, get_d_any p m 0 no_points (omega (arith, inside, falls.long)))
      ]

  -- is that of the penalties held
  pub first_held : (r : ℕ) → r ≡ first_value p → r ≡ first_value (lowest no_points p)
  first_held r is =
      elim (dec_lt f g) [
        | yes h ↦ absurd ((first_ready_lem l).before f (omega arith) h (lt→ltb (get_or l f 0) no_points (here h)))
        | no h ↦ elim (dec_lt g f) [
          | yes k ↦ absurd (omega (
            arith,
            ltb→lt (get_or l g 0) no_points ((first_ready_lem l).passes (omega (arith, k, (first_ready_lem p).most))),
            lowest_none p f none_ready g k,
            same g (omega (arith, k, (first_ready_lem p).most)),
          ))
          | no k ↦ omega (arith, is)
        ]
      ]
    where
      l : List ℕ
      l = lowest no_points p

      f : ℕ
      f = first_value p

      g : ℕ
      g = first_value l

      same : (m : ℕ) → m < 2880 → get_or l m 0 ≡ get_or l m no_points
      same m h = get_d_any l m 0 no_points (omega (arith, length_lowest no_points p, falls.long))

      here : f < g → get_or l f 0 < no_points
      here h =
          let inside : f < 2880 = omega (arith, h, (first_ready_lem l).most) in
          let long : f < length p = omega (arith, inside, falls.long) in
          omega (
            arith,
            same f inside,
            lowest_below no_points p no_points f f (omega arith) long,
            get_d_any p f 0 no_points long,
            ltb→lt (get_or p f 0) no_points ((first_ready_lem p).passes (omega arith)),
          )

  -- and the span may begin with it
  pub falls_from : (r : ℕ) → r ≡ first_value p → s.from ≤ r → Falls (record { from = r; to = s.to }) p
  falls_from r is h =
      record {
        long = falls.long;
        within =
            record {
              short = falls.within.short;
              below = λ m g. none_ready m (omega (arith, is)) ∙ sym (get_d_blank 2880 no_points m);
              above = falls.within.above;
            };
        level = λ m g k. falls.level m (omega arith) k;
      }

  pub nothing_held : 2880 ≤ s.from → p ≡ blank
  nothing_held h =
      ext_get_or no_points p blank (falls.long ∙ sym (length-replicate {A = ℕ} 2880 no_points))
      (λ m g. falls.within.below m (omega (arith, falls.long)))

  pub falls_short : s.to ≤ 2880
  falls_short = falls.within.short

  pub falls_within : Within s blank p
  falls_within = falls.within

  pub falls_long : length p ≡ 2880
  falls_long = falls.long

-- ---- a span that is made blank, up to minute m
module _ (s : Span) (m : ℕ) (p : List ℕ) (is : Within (record { from = m; to = s.to }) blank p) where
  pub clear_more : m < s.to → length p ≡ 2880 → (next : List ℕ) → next ≡ set p m no_points
      → Within (record { from = m + 1; to = s.to }) blank next
  clear_more h long next e =
      record { short = is.short; below = below; above = above }
    where
      else : (k : ℕ) → ¬ (k ≡ m) → get_or next k no_points ≡ get_or p k no_points
      else k g = ap (λ l. get_or l k no_points) e ∙ get_or-set_other p m k no_points no_points g

      above : (k : ℕ) → s.to ≤ k → get_or next k no_points ≡ get_or blank k no_points
      above k g = else k (λ z. omega arith) ∙ is.above k g

      below : (k : ℕ) → k < m + 1 → get_or next k no_points ≡ get_or blank k no_points
      below k g =
          elim (dec_lt k m) [
            | yes q ↦ else k (λ z. omega arith) ∙ is.below k q
            | no q ↦ ap (λ j. get_or next j no_points) {x = k} {y = m} (omega arith)
                ∙ ap (λ l. get_or l m no_points) e
                ∙ get_or-set_same p m no_points no_points (omega (arith, long, is.short))
                ∙ sym (get_d_blank 2880 no_points k)
          ]

  pub clear_done : s.to ≤ m → length p ≡ 2880 → p ≡ blank
  clear_done h long =
      ext_get_or no_points p blank (long ∙ sym (length-replicate {A = ℕ} 2880 no_points))
      (λ k g.
      elim (dec_lt k m) [
        | yes q ↦ is.below k q
        | no q ↦ is.above k (omega arith)
      ])
