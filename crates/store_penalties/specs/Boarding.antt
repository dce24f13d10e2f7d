-- The least that one has paid who leaves a stop.
use Rattle.std.specs.Prelude.{◌≡◌, Bool, true, false, cond, ◌≢◌, ℕ, min, eqb}
use borrow.Author.Tests.{eq-eqb, ne_eqb}

-- nothing at the start, station a, or else by staying aboard or by a change; only who stays aboard leaves a stop that
-- is not open to boarding
unfoldable pub boarding : (opens : Bool) (a c stay change : ℕ) → ℕ
boarding opens a c stay change = cond opens (cond (eqb c a) 0 (min stay change)) stay

module _ (opens : Bool) (a c stay change : ℕ) where
  pub boards_closed : opens ≡ false → boarding opens a c stay change ≡ stay
  unfolding boarding
  boards_closed e = rw e

  module _ (o : opens ≡ true) where
    pub boards_free : c ≡ a → boarding opens a c stay change ≡ 0
    unfolding boarding
    boards_free e = rw (o, eq-eqb c a e)

    pub boards_least : c ≢ a → boarding opens a c stay change ≡ min stay change
    unfolding boarding
    boards_least e = rw (o, ne_eqb c a e)
