-- What one who arrives at a stop makes of q, which has for each departure the least penalty of a change to it: each way
-- of changing that is open there lowers the word of the departure that it catches.
use Rattle.std.specs.Prelude.{◌≡◌, refl, ◌⊎◌, ◌↔◌, List, ℕ, ◌+◌, ◌≤◌, ◌<◌, get_or}
use Rattle.std.proofs.Common.{sym, ap, subst, ◌∙◌, inl, inr, arith}
use Rattle.std.proofs.Math.Decide.{dec_lt, ℕ_discrete}
use Rattle.connections.specs.Connections.{Change}
use Rattle.store_departures.specs.Order.{catch_by}
use Rattle.store_points.specs.Lowered.{lowered, lowered_here, lowered_else}

-- at stop j, for one who has paid u
module _ (w : List ℕ) (j u : ℕ) where
  -- p is paid by one of these ways, which catches departure f
  pub record Offer (Way : Change → Type 0) (f p : ℕ) : Type 0 where
    pub way : Change
    pub opened : Way way
    pub catches : catch_by w way j ≡ f
    pub is : p ≡ u + way.points

  -- q becomes q' by the changes that these ways offer
  pub record Offering (Way : Change → Type 0) (q q' : List ℕ) : Type 0 where
    pub falls : (f : ℕ) → get_or q' f 0 ≤ get_or q f 0
    pub low : (way : Change) → Way way → get_or q' (catch_by w way j) 0 ≤ u + way.points
    pub offered : (f : ℕ) → get_or q' f 0 < get_or q f 0 → Offer Way f (get_or q' f 0)

  pub offering_none : (Way : Change → Type 0) (q : List ℕ) → ((way : Change) → ¬ Way way) → Offering Way q q
  offering_none Way q none =
      record {
        falls = λ f. omega arith;
        low = λ way o. absurd (none way o);
        offered = λ f h. absurd (omega arith);
      }

  -- one way alone
  pub offering_one : (way : Change) (q q' : List ℕ) → q' ≡ lowered (catch_by w way j) (u + way.points) q
      → Offering (λ v. v ≡ way) q q'
  offering_one way q q' is = record { falls = falls; low = low; offered = offered }
    where
      here : get_or q' (catch_by w way j) 0 ≤ u + way.points
      here = rw is (omega (arith, lowered_here q (catch_by w way j) (u + way.points)))

      falls : (g : ℕ) → get_or q' g 0 ≤ get_or q g 0
      falls g =
          elim (ℕ_discrete g (catch_by w way j)) [
            | yes e ↦ rw (is, e) (omega (arith, lowered_here q (catch_by w way j) (u + way.points)))
            | no e ↦ rw is (omega (arith, lowered_else q (catch_by w way j) (u + way.points) g e))
          ]

      low : (v : Change) → v ≡ way → get_or q' (catch_by w v j) 0 ≤ u + v.points
      low v e = subst (λ z. get_or q' (catch_by w z j) 0 ≤ u + z.points) (sym e) here

      offered : (g : ℕ) → get_or q' g 0 < get_or q g 0 → Offer (λ v. v ≡ way) g (get_or q' g 0)
      offered g h =
          elim (ℕ_discrete g (catch_by w way j)) [
            | yes e ↦
                record {
                  way = way;
                  opened = refl;
                  catches = sym e;
                  is =
                      omega (
                        arith,
                        lowered_here q (catch_by w way j) (u + way.points),
                        ap (λ l. get_or l (catch_by w way j) 0) is,
                        ap (λ z. get_or q' z 0) e,
                        ap (λ z. get_or q z 0) e,
                      );
                }
            | no e ↦
                absurd (omega (
                  arith,
                  lowered_else q (catch_by w way j) (u + way.points) g e,
                  ap (λ l. get_or l g 0) is,
                ))
          ]

  -- the same ways, told otherwise
  pub offering_as : (Way : Change → Type 0) (q q' : List ℕ) → Offering Way q q' → (Other : Change → Type 0)
      → ((v : Change) → Way v ↔ Other v) → Offering Other q q'
  offering_as Way q q' o Other same =
      record {
        falls = o.falls;
        low = λ v h. o.low v ((same v).1 h);
        offered =
            λ f h.
            let r = o.offered f h in
            record { way = r.way; opened = (same r.way).0 r.opened; catches = r.catches; is = r.is };
      }

  -- some ways, and then others
  module _ (Way Other : Change → Type 0) (q q' q'' : List ℕ) (first : Offering Way q q') (then : Offering Other q' q'')
    where
      pub offering_both : (Both : Change → Type 0) → ((v : Change) → (Way v ⊎ Other v) ↔ Both v) → Offering Both q q''
      offering_both Both both =
          record {
            falls = λ f. omega (arith, first.falls f, then.falls f);
            low = λ v o. low v ((both v).1 o);
            offered = offered;
          }
        where
          low : (v : Change) → Way v ⊎ Other v → get_or q'' (catch_by w v j) 0 ≤ u + v.points
          low v (inl o) = omega (arith, first.low v o, then.falls (catch_by w v j))
          low v (inr o) = then.low v o

          offered : (f : ℕ) → get_or q'' f 0 < get_or q f 0 → Offer Both f (get_or q'' f 0)
          offered f h =
              elim (dec_lt (get_or q'' f 0) (get_or q' f 0)) [
                | yes g ↦
                    (let o = then.offered f g in
                    record {
                      way = o.way;
                      opened = (both o.way).0 (inr o.opened);
                      catches = o.catches;
                      is = o.is;
                    })
                | no g ↦
                    (let e : get_or q'' f 0 ≡ get_or q' f 0 = omega (arith, then.falls f) in
                    let o = first.offered f (omega arith) in
                    record {
                      way = o.way;
                      opened = (both o.way).0 (inl o.opened);
                      catches = o.catches;
                      is = e ∙ o.is;
                    })
              ]
