-- The loop over the rides: those noted so far, and then those that are left, make the same words as all of them.
use mathlib.Core.Path.{◌≡◌, refl, sym, ap, subst, ◌∙◌}
use mathlib.Core.List.Memᴰ.{tail as there}
use mathlib.Core.List.{List, [], ◌∷◌}
use Prim.Native.Nat.{ℕ, ◌+◌, ◌≤◌, ◌<◌, min}
use native.Mathlib.Omega.{arith}
use lib.ListN.{length, get_or}
use Rattle.lists.specs.Lists.{◌∈◌}
use Rattle.connections.specs.Rides.{Ride}
use Rattle.query_places.specs.Candidates.{near_read}
use Rattle.query_minutes.specs.Minutes.{no_points, note_all, lowered}
use Rattle.query_rides.specs.declared.Ride.{Ride as RideStruct}
use Rattle.query_rides.specs.declared.Cursor.{Cursor}
use Rattle.query_rides.specs.Riding.{Good, Tells, near_left, ride_of, near_none, near_goes}
use Rattle.std.specs.Prelude.{Option, None, Some}
use Rattle.query_rides.specs.Ridden.{ride_left}
use Rattle.query_costs.specs.declared.Span.{Span}
use Rattle.query_costs.specs.Spans.{Within, widened, widened_low, within_none, within_more}
use Rattle.query_costs.specs.Layering.{taken_all}
use Rattle.query_costs.specs.Fitting.{Fits, Fitting}

-- one ride more, and none
taken_more : (p : List ℕ) (minutes points : ℕ) (best : List ℕ) (r : Ride) (l : List Ride)
    → taken_all p minutes points best (r ∷ l)
    ≡ taken_all
    p
    minutes
    points
    (lowered best (r.arrive + minutes) (get_or p r.depart 0 + r.points + points))
    l
unfolding taken_all note_all
taken_more p minutes points best r l = refl

taken_none : (p : List ℕ) (minutes points : ℕ) (best : List ℕ) → taken_all p minutes points best [] ≡ best
unfolding taken_all note_all
taken_none p minutes points best = refl

-- what was paid before one ride
module _ (p : List ℕ) (s : RideStruct) (fits : Fits p s) where
  pub fits_depart : s.depart < 2880
  fits_depart = fits.depart

  pub fits_some : get_or p s.depart 0 < no_points
  fits_some = omega (arith, fits.low)

-- the sums of one ride, as the code adds them up
pub ride_noted : (p best after : List ℕ) (d x y a b stood one all ready : ℕ) → stood ≡ get_or p d 0 → one ≡ stood + x
    → all ≡ one + y → ready ≡ a + b → after ≡ lowered best ready all
    → after ≡ lowered best (a + b) (get_or p d 0 + x + y)
ride_noted p best after d x y a b stood one all ready is-stood is_one is_all is_ready e =
    e ∙ (λ i. lowered best (is_ready i) (sum i))
  where
    sum : all ≡ get_or p d 0 + x + y
    sum = is_all ∙ ap (λ k. k + y) (is_one ∙ ap (λ k. k + x) is-stood)

pub ride_widened : (s wider : Span) (a b ready : ℕ) → ready ≡ a + b → wider ≡ widened s ready
    → wider ≡ widened s (a + b)
ride_widened s wider a b ready is e = e ∙ ap (widened s) is

module _ (v : List ℕ) (a b u : ℕ) (p : List ℕ) (o : Option Cursor) where
  -- the rides left fit
  pub fitting_first : Fitting p (near_read v a u b) → near_left v u o ≡ near_read v a u b → Fitting p (near_left v u o)
  fitting_first f e = subst (Fitting p) (sym e) f

  module _ (fit : Fitting p (near_left v u o)) (c : Cursor) (at : o ≡ Some c) where
    pub fitting_next : (d : Option Cursor) → near_left v u (Some c) ≡ ride_of v c ∷ near_left v u d
        → Fitting p (near_left v u d)
    fitting_next d is =
        let e = near_goes v o c at u d is in
        record {
          depart = λ r m. fit.depart r (subst (λ l. r ∈ l) (sym e) (there m));
          low = λ r m. fit.low r (subst (λ l. r ∈ l) (sym e) (there m));
          few = λ r m. fit.few r (subst (λ l. r ∈ l) (sym e) (there m));
        }

    pub fits_here : Good v c → (s : RideStruct) → Tells s (ride_of v c) → Fits p s
    fits_here good s t =
        let m = subst (λ o. ride_of v c ∈ near_left v u o) (sym at) (ride_left v u c good) in
        record {
          depart = omega (arith, t.depart, fit.depart (ride_of v c) m);
          arrive = t.arrive_few;
          low = omega (arith, ap (λ k. get_or p k 0) t.depart, fit.low (ride_of v c) m);
          few = omega (arith, t.points, fit.few (ride_of v c) m);
        }

  pub noting_first : (minutes points : ℕ) (best : List ℕ) → near_left v u o ≡ near_read v a u b
      → taken_all p minutes points best (near_read v a u b) ≡ taken_all p minutes points best (near_left v u o)
  noting_first minutes points best e = ap (taken_all p minutes points best) (sym e)

  module _ (minutes points : ℕ) (whole best : List ℕ) where
    pub noting_more : whole ≡ taken_all p minutes points best (near_left v u o)
        → (c : Cursor) → o ≡ Some c → (s : RideStruct) → Tells s (ride_of v c)
        → (d : Option Cursor) → near_left v u (Some c) ≡ ride_of v c ∷ near_left v u d
        → (after : List ℕ) → after ≡ lowered best (s.arrive + minutes) (get_or p s.depart 0 + s.points.0 + points)
        → whole ≡ taken_all p minutes points after (near_left v u d)
    noting_more h c at s t d e after is =
        h
        ∙ ap (taken_all p minutes points best) (near_goes v o c at u d e)
        ∙ taken_more p minutes points best (ride_of v c) (near_left v u d)
        ∙ sym (ap (λ l. taken_all p minutes points l (near_left v u d)) (is ∙ same))
      where
        same : lowered best (s.arrive + minutes) (get_or p s.depart 0 + s.points.0 + points)
            ≡ lowered best ((ride_of v c).arrive + minutes)
            (get_or p (ride_of v c).depart 0 + (ride_of v c).points + points)
        same =
            (λ i. lowered best (t.arrive i + minutes) (get_or p (t.depart i) 0 + t.points i + points))

    pub noting_done : whole ≡ taken_all p minutes points best (near_left v u o) → o ≡ None → best ≡ whole
    noting_done h e =
        sym
        (h
        ∙ ap (taken_all p minutes points best) (near_none v u o e)
        ∙ taken_none p minutes points best)

-- ---- the span of the minutes noted
module _ (s : Span) (none : s.to ≡ 0) where
  pub span_first : (best : List ℕ) → Within s best best
  span_first best = within_none s (omega (arith, none)) best best refl

  pub span_none : (old best : List ℕ) → best ≡ old → Within s old best
  span_none old best = within_none s (omega (arith, none)) old best

module _ (s : Span) (minutes : ℕ) (r : RideStruct) (wider : Span) (is : wider ≡ widened s (r.arrive + minutes)) where
  pub span_low : s.from ≤ 2880 → wider.from ≤ 2880
  span_low h = subst (λ s. s.from ≤ 2880) (sym is) (widened_low s (r.arrive + minutes) h)

  pub span_more : (old best : List ℕ) → Within s old best → length best ≡ length old → length old ≡ 2880
      → (p : List ℕ) (points : ℕ) (after : List ℕ)
      → after ≡ lowered best (r.arrive + minutes) (get_or p r.depart 0 + r.points.0 + points)
      → Within wider old after
  span_more old best so_far same long p points after e =
      let x = min (get_or best (r.arrive + minutes) 0) (get_or p r.depart 0 + r.points.0 + points) in
      subst
      (λ s. Within s old after)
      (sym is)
      (subst
      (Within (widened s (r.arrive + minutes)) old)
      (sym e)
      (within_more s old best (same ∙ long) so_far (r.arrive + minutes) x))
