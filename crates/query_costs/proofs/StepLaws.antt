-- One step with its way of changing, and the two arrays that change places.
use mathlib.Core.Path.{◌≡◌, sym, ap, subst, ◌∙◌}
use mathlib.Core.Bool.{Bool, true, false, not}
use mathlib.Core.List.{List}
use Prim.Native.Nat.{ℕ, ◌≤◌}
use borrow.Author.Tests.{not-true, not-false}
use Rattle.results.specs.declared.Cost.{Cost}
use Rattle.connections.specs.Rides.{Ride}
use Rattle.query_minutes.specs.Minutes.{no_points, blank}
use Rattle.query_rides.specs.declared.Way.{Way}
use Rattle.query_rides.specs.Ways.{cost_in, way_between}
use Rattle.query_costs.specs.Lowest.{lowest}
use Rattle.query_costs.specs.Layering.{taken_all, taken_way, step_of, first_value}
use Rattle.query_costs.specs.Fitting.{Fitting, Priced}
use Rattle.query_costs.specs.Turning.{held, held_first, held_second, spare, spare_first, spare_second}
use Rattle.query_costs.specs.Onward.{change_words}
use Rattle.query_costs.specs.declared.Span.{Span}
use Rattle.query_costs.specs.Falling.{Falls}

-- ---- the rides noted, if there is a way of changing behind them
module _ (p : List ℕ) (l : List Ride) (g : Way) (best : List ℕ) where
  pub way_shut : not g.found ≡ true → best ≡ taken_way p g best l
  unfolding taken_way
  way_shut e = rw (not-true g.found e)

  pub way_taken : not g.found ≡ false → (c : Cost) → c ≡ cost_in g → (after : List ℕ)
      → after ≡ taken_all p c.minutes.0 c.points.0 best l → after ≡ taken_way p g best l
  unfolding taken_way
  way_taken e c is after h =
      rw (not-false g.found e) (h ∙ ap (λ c. taken_all p c.minutes.0 c.points.0 best l) is)

module _ (g : Way) (priced : Priced g) (c : Cost) (is : c ≡ cost_in g) where
  pub way_short : c.minutes.0 ≤ 240
  way_short = subst (λ c. c.minutes.0 ≤ 240) (sym is) priced.minutes_most

  pub way_cheap : c.points.0 ≤ 1000
  way_cheap = subst (λ c. c.points.0 ≤ 1000) (sym is) priced.points_most

-- ---- a step from blank words
pub step_is : (w : List ℕ) (y z : ℕ) (p : List ℕ) (l : List Ride) (g : Way) → g ≡ way_between w y z
    → (last noted q : List ℕ) → lowest no_points last ≡ lowest no_points noted → noted ≡ taken_way p g q l → q ≡ blank
    → lowest no_points last ≡ change_words w p y z l
unfolding change_words step_of
step_is w y z p l g is last noted q h f e =
    h ∙ ap (lowest no_points) (f ∙ (λ i. taken_way p (is i) (e i) l))

-- ---- the arrays have changed places, or have not
module _ (turned : Bool) (p q : List ℕ) where
  module _ (e : turned ≡ true) where
    pub fitting_second : (l : List Ride) → Fitting (lowest no_points (held turned p q)) l → Fitting (lowest no_points q)
        l
    fitting_second l = subst (λ k. Fitting (lowest no_points k) l) (held_second turned p q e)

    pub falls_second : (s : Span) → Falls s (held turned p q) → Falls s q
    falls_second s = subst (Falls s) (held_second turned p q e)

    pub spare_is_first : spare turned p q ≡ blank → p ≡ blank
    spare_is_first h = sym (spare_first turned p q e) ∙ h

  module _ (e : turned ≡ false) where
    pub fitting_first : (l : List Ride) → Fitting (lowest no_points (held turned p q)) l → Fitting (lowest no_points p)
        l
    fitting_first l = subst (λ k. Fitting (lowest no_points k) l) (held_first turned p q e)

    pub falls_first : (s : Span) → Falls s (held turned p q) → Falls s p
    falls_first s = subst (Falls s) (held_first turned p q e)

    pub spare_is_second : spare turned p q ≡ blank → q ≡ blank
    spare_is_second h = sym (spare_second turned p q e) ∙ h

  module _ (w : List ℕ) (y z : ℕ) (l : List Ride) (after other : List ℕ) where
    pub turned_second : turned ≡ true → lowest no_points after ≡ change_words w (lowest no_points q) y z l
        → lowest no_points (held (not turned) after other) ≡ change_words w (lowest no_points (held turned p q)) y z l
    turned_second e h =
        ap (lowest no_points) (held_first (not turned) after other (ap not e))
        ∙ h
        ∙ ap (λ k. change_words w (lowest no_points k) y z l) (sym (held_second turned p q e))

    pub turned_first : turned ≡ false → lowest no_points after ≡ change_words w (lowest no_points p) y z l
        → lowest no_points (held (not turned) other after) ≡ change_words w (lowest no_points (held turned p q)) y z l
    turned_first e h =
        ap (lowest no_points) (held_second (not turned) other after (ap not e))
        ∙ h
        ∙ ap (λ k. change_words w (lowest no_points k) y z l) (sym (held_first turned p q e))

  module _ (l : List Ride) (best after : List ℕ) where
    pub end_second : turned ≡ true → after ≡ taken_all (lowest no_points q) 0 0 best l
        → after ≡ taken_all (lowest no_points (held turned p q)) 0 0 best l
    end_second e h = h ∙ ap (λ k. taken_all (lowest no_points k) 0 0 best l) (sym (held_second turned p q e))

    pub end_first : turned ≡ false → after ≡ taken_all (lowest no_points p) 0 0 best l
        → after ≡ taken_all (lowest no_points (held turned p q)) 0 0 best l
    end_first e h = h ∙ ap (λ k. taken_all (lowest no_points k) 0 0 best l) (sym (held_first turned p q e))

-- behind a step
module _ (turned : Bool) (p q : List ℕ) where
  pub value_second : (r : ℕ) → turned ≡ true → r ≡ first_value (lowest no_points p)
      → r ≡ first_value (lowest no_points (held (not turned) p q))
  value_second r e h = h ∙ ap (λ l. first_value (lowest no_points l)) (sym (held_first (not turned) p q (ap not e)))

  pub value_first : (r : ℕ) → turned ≡ false → r ≡ first_value (lowest no_points q)
      → r ≡ first_value (lowest no_points (held (not turned) p q))
  value_first r e h = h ∙ ap (λ l. first_value (lowest no_points l)) (sym (held_second (not turned) p q (ap not e)))

  pub next_second : (r : Span) → turned ≡ true → Falls r p → Falls r (held (not turned) p q)
  next_second r e = subst (Falls r) (sym (held_first (not turned) p q (ap not e)))

  pub next_first : (r : Span) → turned ≡ false → Falls r q → Falls r (held (not turned) p q)
  next_first r e = subst (Falls r) (sym (held_second (not turned) p q (ap not e)))

  pub left_second : turned ≡ true → q ≡ blank → spare (not turned) p q ≡ blank
  left_second e h = spare_second (not turned) p q (ap not e) ∙ h

  pub left_first : turned ≡ false → p ≡ blank → spare (not turned) p q ≡ blank
  left_first e h = spare_first (not turned) p q (ap not e) ∙ h
