-- Document 02, Nine, seen from One, which had it that "From and to may be equal, for a long platform, and then both
-- ways of changing are open." Where no W line leads from a station to itself, the ways of changing are the same, and
-- with them all connections, rows and stores. For a reader.
use Rattle.std.specs.Prelude.{◌≡◌, refl, Bool, true, false, ℕ, T, length}
use Rattle.std.proofs.Math.Path.{sym, ap}
use Rattle.std.proofs.Common.{◌∙◌}
use mathlib.Core.List.Memᴰ.{head as here}
use mathlib.Core.List.Memᴰ.{tail as there}
use mathlib.Core.List.{List, [], ◌∷◌, ◌++◌, map}
use Rattle.timetable.specs.Timetable.{Timetable}
use Rattle.lists.specs.Lists.{◌∈◌, keep, filter, range}
use Rattle.connections.specs.Rides.{rides_of}
use Rattle.connections.specs.Connections.{change_at, on_foot, applies, changes_of, net}
use Rattle.connections.proofs.RideLaws.{applies_in}
use Rattle.connections.specs.Platforms.{both_open, net_of_one, NoneAlong}

filter_all : (p : ℕ → Bool) (l : List ℕ) → ((x : ℕ) → x ∈ l → T (p x)) → filter p l ≡ l
filter_all p [] h = refl
filter_all p (x ∷ l) h = go (p x) (h x (here refl)) (filter_all p l (λ y m. h y (there m)))
  where
    go : (b : Bool) → T b → filter p l ≡ l → keep b x (filter p l) ≡ x ∷ l
    go true t rest = ap (λ k. x ∷ k) rest
    go false t rest = absurd t

module _ (t : Timetable) (none : NoneAlong t) where
  pub same_changes : changes_of t ≡ both_open t
  unfolding changes_of both_open
  same_changes =
      ap
      (λ l. map (change_at t.stations) l ++ map on_foot t.walks)
      (filter_all (applies t.walks) (range 0 (length t.stations))
      (λ z m. applies_in t.walks z (λ v k from to. none v k (from ∙ sym to))))

  pub same_net : net t ≡ net_of_one t
  same_net = λ i. record { stations = length t.stations; rides = rides_of t; changes = same_changes i }
