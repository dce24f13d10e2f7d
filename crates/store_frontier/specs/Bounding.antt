-- What one who arrives at a stop can have paid, less than that, to end well after a change, where q has for each
-- departure what one can have paid who changes to it or to a later one of its station: the most that a way of changing
-- allows.
use Rattle.std.specs.Prelude.{◌≡◌, refl, cond, ◌⊎◌, ◌↔◌, List, ℕ, ◌+◌, ◌-◌, ◌≤◌, ◌<◌, max, ltb, get_or}
use Rattle.std.proofs.Common.{subst, inl, inr, arith, lt-ltb, le-ltb}
use Rattle.std.proofs.Math.Decide.{dec_lt}
use Rattle.connections.specs.Connections.{Change}
use Rattle.store_stops.specs.Stopwise.{nowhere}
use Rattle.store_departures.specs.Order.{catch_by}

-- the bound of a change to departure f, which costs so much
unfoldable pub caught_bound : (q : List ℕ) (f cost : ℕ) → ℕ
caught_bound q f cost = cond (ltb f nowhere) (get_or q f 0 - cost) 0

pub caught_some : (q : List ℕ) (f cost : ℕ) → f < nowhere → caught_bound q f cost ≡ get_or q f 0 - cost
unfolding caught_bound
caught_some q f cost h = rw (lt-ltb f nowhere h)

pub caught_none : (q : List ℕ) (f cost : ℕ) → nowhere ≤ f → caught_bound q f cost ≡ 0
unfolding caught_bound
caught_none q f cost h = rw (le-ltb f nowhere h)

module _ (w q : List ℕ) (j : ℕ) where
  -- having paid x, one arrives at stop j and changes by one of these ways, below the bound of the departure caught
  pub record Changes (Way : Change → Type 0) (x : ℕ) : Type 0 where
    pub way : Change
    pub opened : Way way
    pub some : catch_by w way j < nowhere
    pub below : x + way.points < get_or q (catch_by w way j) 0

  -- so one can exactly if less than r was paid
  pub record Bounding (Way : Change → Type 0) (r : ℕ) : Type 0 where
    pub exactly : (x : ℕ) → (x < r) ↔ Changes Way x

  pub bounding_none : (Way : Change → Type 0) → ((way : Change) → ¬ Way way) → Bounding Way 0
  bounding_none Way none =
      record { exactly = λ x. (λ h. absurd (omega arith), λ h. absurd (none h.way h.opened)) }

  -- one way alone
  pub bounding_one : (way : Change) → Bounding (λ v. v ≡ way) (caught_bound q (catch_by w way j) way.points)
  bounding_one way = record { exactly = λ x. (to x, from x) }
    where
      to : (x : ℕ) → x < caught_bound q (catch_by w way j) way.points → Changes (λ v. v ≡ way) x
      to x h =
          elim (dec_lt (catch_by w way j) nowhere) [
            | yes g ↦
                record {
                  way = way;
                  opened = refl;
                  some = g;
                  below = omega (arith, h, caught_some q (catch_by w way j) way.points g);
                }
            | no g ↦ absurd (omega (arith, h, caught_none q (catch_by w way j) way.points (omega arith)))
          ]

      least : (x : ℕ) → catch_by w way j < nowhere → x + way.points < get_or q (catch_by w way j) 0
          → x < caught_bound q (catch_by w way j) way.points
      least x g b = omega (arith, b, caught_some q (catch_by w way j) way.points g)

      from : (x : ℕ) → Changes (λ v. v ≡ way) x → x < caught_bound q (catch_by w way j) way.points
      from x h =
          least
          x
          (subst (λ v. catch_by w v j < nowhere) h.opened h.some)
          (subst (λ v. x + v.points < get_or q (catch_by w v j) 0) h.opened h.below)

  -- the same ways, told otherwise
  pub bounding_as : (Way : Change → Type 0) (r : ℕ) → Bounding Way r → (Other : Change → Type 0)
      → ((v : Change) → Way v ↔ Other v) → Bounding Other r
  bounding_as Way r b Other same =
      record {
        exactly =
            λ x. (
              λ h.
                  let c = (b.exactly x).0 h in
                  record { way = c.way; opened = (same c.way).0 c.opened; some = c.some; below = c.below },
              λ c.
                  (b.exactly x).1
                  (record {
                    way = c.way;
                    opened = (same c.way).1 c.opened;
                    some = c.some;
                    below = c.below;
                  }),
            );
      }

  -- some ways, and others
  module _ (Way Other : Change → Type 0) (r s : ℕ) (one : Bounding Way r) (other : Bounding Other s) where
    pub bounding_both : (Both : Change → Type 0) → ((v : Change) → (Way v ⊎ Other v) ↔ Both v)
        → Bounding Both (max r s)
    bounding_both Both both = record { exactly = λ x. (to x, λ c. from x c ((both c.way).1 c.opened)) }
      where
        to : (x : ℕ) → x < max r s → Changes Both x
        to x h =
            elim (dec_lt x r) [
              | yes g ↦
                  (let c = (one.exactly x).0 g in
                  record {
                    way = c.way;
                    opened = (both c.way).0 (inl c.opened);
                    some = c.some;
                    below = c.below;
                  })
              | no g ↦
                  (let c = (other.exactly x).0 (omega arith) in
                  record {
                    way = c.way;
                    opened = (both c.way).0 (inr c.opened);
                    some = c.some;
                    below = c.below;
                  })
            ]

        from : (x : ℕ) (c : Changes Both x) → Way c.way ⊎ Other c.way → x < max r s
        from x c (inl o) =
            let h = (one.exactly x).1 (record { way = c.way; opened = o; some = c.some; below = c.below }) in
            omega arith
        from x c (inr o) =
            let h = (other.exactly x).1 (record { way = c.way; opened = o; some = c.some; below = c.below }) in
            omega arith
