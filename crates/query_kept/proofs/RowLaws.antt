-- The rows of the answer are written one after the other, one for each minute that leads.
use mathlib.Core.Path.{◌≡◌, refl, sym, ap, ◌∙◌}
use mathlib.Core.Bool.{Bool, true, false, cond}
use mathlib.Core.List.{List, [], ◌∷◌, ◌++◌}
use Prim.Native.Nat.{ℕ, ◌+◌, ◌-◌, ◌*◌, ◌≤◌, ◌<◌, min}
use native.Mathlib.Nat.{zero-add}
use native.Mathlib.Omega.{arith}
use borrow.Author.Tests.{ltb-true, ltb-false}
use lib.Dec.{ltb}
use lib.ListN.{length, get_or, take, drop, length-append, length-drop, drop_of_length-le}
use Rattle.words.specs.Put.{put, put_none, put_append}
use Rattle.words.specs.Written.{left_next, write_some, write_done}
use Rattle.lists.specs.Lists.{concat_map}
use Rattle.results.specs.Results.{Cost}
use Rattle.results.specs.declared.Cost.{Cost as CostStruct}
use Rattle.query_minutes.specs.Minutes.{no_points, leads}
use Rattle.query_kept.specs.Choosing.{Found, row_for}
use Rattle.query_kept.specs.Keeping.{kept_at, rows_kept, lead_words}
use Rattle.query_minutes.proofs.LeadLaws.{leads_here, leads_not}

-- ---- one row, its cost and then its ride
pub row_written : (at : ℕ) (cost : CostStruct) (f : Found) (old one two : List ℕ)
    → at + 6 ≤ length old
    → one ≡ put at (cost.minutes.0 ∷ cost.points.0 ∷ []) old
    → two ≡ put (at + 2) (1 ∷ f.trip ∷ f.board ∷ f.alight ∷ []) one
    → two ≡ put at (cost.minutes.0 ∷ cost.points.0 ∷ 1 ∷ f.trip ∷ f.board ∷ f.alight ∷ []) old
row_written at cost f old one two room e₁ e₂ =
    let ride = 1 ∷ f.trip ∷ f.board ∷ f.alight ∷ [] in
    e₂
    ∙ ap (put (at + 2) ride) e₁
    ∙ put_append at 2 (cost.minutes.0 ∷ cost.points.0 ∷ []) ride old refl (omega arith)

-- ---- one minute
module _ (u at least arrive points : ℕ) (kept old : List ℕ) (r : Bool) (is-r : r ≡ ltb points least) where
  module _ (low : r ≡ true) where
    lead_is : lead_words u kept (record { minutes = arrive; points = points }) least
        ≡ row_for u (record { minutes = arrive; points = points }) (kept_at kept arrive)
    unfolding lead_words
    lead_is = rw (sym is-r ∙ low)

    pub lead_room : at + length (lead_words u kept (record { minutes = arrive; points = points }) least) ≤ length old
        → at + 6 ≤ length old
    lead_room h = omega (arith, ap length lead_is)

    pub lead_written : (end : List ℕ) (d : ℕ) (f : Found) → d ≡ arrive - u → f ≡ kept_at kept arrive
        → end ≡ put at (d ∷ points ∷ 1 ∷ f.trip ∷ f.board ∷ f.alight ∷ []) old
        → end ≡ put at (lead_words u kept (record { minutes = arrive; points = points }) least) old
    lead_written end d f is-d is_f e =
        e ∙ (λ i. put at (row (is-d i) (is_f i)) old) ∙ ap (λ w. put at w old) (sym lead_is)
      where
        row : (d : ℕ) → Found → List ℕ
        row d f = d ∷ points ∷ 1 ∷ f.trip ∷ f.board ∷ f.alight ∷ []

    pub lead_end : at + 6 ≡ at + length (lead_words u kept (record { minutes = arrive; points = points }) least)
    lead_end = omega (arith, ap length lead_is)

  module _ (high : r ≡ false) where
    no_lead : lead_words u kept (record { minutes = arrive; points = points }) least ≡ []
    unfolding lead_words
    no_lead = rw (sym is-r ∙ high)

    pub none_written : old ≡ put at (lead_words u kept (record { minutes = arrive; points = points }) least) old
    none_written = sym (ap (λ w. put at w old) no_lead ∙ put_none at old)

    pub none_end : at ≡ at + length (lead_words u kept (record { minutes = arrive; points = points }) least)
    none_end = omega (arith, ap length no_lead)

-- ---- from minute to minute
abbrev pub words_of : (u : ℕ) → List ℕ → List Cost → List ℕ
words_of u kept cs = concat_map (λ r. r) (rows_kept u kept cs)

rows_long : (u : ℕ) (kept : List ℕ) (cs : List Cost) → length (words_of u kept cs) ≡ 6 * length cs
unfolding rows_kept
rows_long u kept [] = refl
rows_long u kept (c ∷ cs) = omega (arith, rows_long u kept cs)

module _ (u : ℕ) (kept best : List ℕ) (least a : ℕ) (more : a < length best) where
  lead_next : words_of u kept (leads least a (drop a best))
      ≡ lead_words u kept (record { minutes = a; points = get_or best a 0 }) least
      ++ words_of u kept (leads (min least (get_or best a 0)) (a + 1) (drop (a + 1) best))
  unfolding rows_kept lead_words
  lead_next = go (ltb (get_or best a 0) least) refl
    where
      c : Cost
      c = record { minutes = a; points = get_or best a 0 }

      go : (t : Bool) → ltb (get_or best a 0) least ≡ t
          → words_of u kept (leads least a (drop a best))
          ≡ cond t (row_for u c (kept_at kept c.minutes)) []
          ++ words_of u kept (leads (min least (get_or best a 0)) (a + 1) (drop (a + 1) best))
      go true e = ap (words_of u kept) (leads_here best least a more (ltb-true _ _ e))
      go false e = ap (words_of u kept) (leads_not best least a more (ltb-false _ _ e))

-- the first `here` words are written, and those of the minutes from a on are left
pub record Rows (u : ℕ) (kept best old out : List ℕ) (here least a : ℕ) : Type 0 where
  pub on : a ≤ 2880
  pub within : here ≤ length (words_of u kept (leads no_points 0 best))
  pub is_out : out ≡ put 0 (take here (words_of u kept (leads no_points 0 best))) old
  pub left : drop here (words_of u kept (leads no_points 0 best)) ≡ words_of u kept (leads least a (drop a best))
  pub long : length out ≡ length old

module _ (u : ℕ) (kept best old : List ℕ) where
  pub rows_first : 6 * length (leads no_points 0 best) ≤ length old → Rows u kept best old old 0 no_points 0
  rows_first h =
      record {
        on = omega arith;
        within = omega arith;
        is_out = sym (put_none 0 old);
        left = refl;
        long = refl;
      }

  module _
      (out : List ℕ)
      (here least a : ℕ)
      (room : 6 * length (leads no_points 0 best) ≤ length old)
      (k : Rows u kept best old out here least a)
      (long : length best ≡ 2880)
    where
      abbrev whole : List ℕ
      whole = words_of u kept (leads no_points 0 best)

      fits : 0 + length whole ≤ length old
      fits = omega (arith, rows_long u kept (leads no_points 0 best))

      module _ (more : a < 2880) where
        abbrev this : List ℕ
        this = lead_words u kept (record { minutes = a; points = get_or best a 0 }) least

        abbrev rest : List ℕ
        rest = words_of u kept (leads (min least (get_or best a 0)) (a + 1) (drop (a + 1) best))

        next : drop here whole ≡ this ++ rest
        next = k.left ∙ lead_next u kept best least a (omega arith)

        next_long : length whole ≡ here + (length this + length rest)
        next_long = omega (arith, k.within, length-drop here whole, ap length next, length-append this rest)

        rows_on : (end : List ℕ) (here' least' : ℕ)
            → end ≡ put here this out
            → length end ≡ length out
            → here' ≡ here + length this
            → least' ≡ min least (get_or best a 0)
            → Rows u kept best old end here' least' (a + 1)
        rows_on end here' least' e f g h =
            record {
              on = omega arith;
              within = omega (arith, g, next_long);
              is_out =
                  e
                  ∙ ap (λ i. put i this out) (sym (zero-add here))
                  ∙ write_some whole old out 0 here k.is_out fits this rest k.within next
                  ∙ ap (λ i. put 0 (take i whole) old) (sym g);
              left =
                  ap (λ i. drop i whole) g
                  ∙ left_next whole here this rest next
                  ∙ ap (λ m. words_of u kept (leads m (a + 1) (drop (a + 1) best))) (sym h);
              long = f ∙ k.long;
            }

        module _ (x : ℕ) (is_x : x ≡ get_or best a 0) where
          same : lead_words u kept (record { minutes = a; points = x }) least ≡ this
          same = ap (λ y. lead_words u kept (record { minutes = a; points = y }) least) is_x

          pub row_room : here + length (lead_words u kept (record { minutes = a; points = x }) least) ≤ length out
          row_room = omega (arith, next_long, fits, k.long, ap length same)

          pub rows_more : (end : List ℕ) (here' least' : ℕ)
              → end ≡ put here (lead_words u kept (record { minutes = a; points = x }) least) out
              → length end ≡ length out
              → here' ≡ here + length (lead_words u kept (record { minutes = a; points = x }) least)
              → least' ≡ min least x
              → Rows u kept best old end here' least' (a + 1)
          rows_more end here' least' e f g h =
              rows_on end here' least' (e ∙ ap (λ w. put here w out) same) f
              (g ∙ ap (λ w. here + length w) same)
              (h ∙ ap (min least) is_x)

      pub rows_done : 2880 ≤ a → out ≡ put 0 (concat_map (λ r. r) (rows_kept u kept (leads no_points 0 best))) old
      unfolding leads rows_kept
      rows_done h =
          let none : drop here whole ≡ [] =
          k.left ∙ ap (λ l. words_of u kept (leads least a l)) (drop_of_length-le best {i = a} (omega arith)) in
          write_done whole old out 0 here k.is_out fits
          (omega (arith, k.within, length-drop here whole, ap length none))
