-- Trips that run behind one another: an order, with the same stops at each position and no overtaking at any.
use Rattle.std.specs.Prelude.{◌≡◌, refl, [], ◌∷◌, ℕ, zero, suc, ◌≤◌, T, length, get_or}
use Rattle.std.proofs.Common.{ap, ◌∙◌, arith}
use Rattle.timetable.specs.Timetable.{Stop, Trip}
use Rattle.lists.specs.Tests.{T_right, reads, writes}
use Rattle.connections.specs.Rides.{no_stop, ride_points}
use Rattle.connections.proofs.RideLaws.{points_none, points_first, points_next}
use Rattle.lines.specs.Lines.{behind}

-- one stop of a trip that another runs behind
pub record Later (s u : Stop) : Type 0 where
  pub station : s.station ≡ u.station
  pub points : s.points ≡ u.points
  pub mark : s.mark ≡ u.mark
  pub arrive : s.arrive ≤ u.arrive
  pub depart : s.depart ≤ u.depart

later_refl : (s : Stop) → Later s s
later_refl s = record { station = refl; points = refl; mark = refl; arrive = omega arith; depart = omega arith }

module _ (s u : Stop) (k l : Trip) where
  behind_first : T (behind (s ∷ k) (u ∷ l)) → Later s u
  behind_first t =
      record {
        station = search reads;
        points = search reads;
        mark = search reads;
        arrive = search reads;
        depart = search reads;
      }

  behind_rest : T (behind (s ∷ k) (u ∷ l)) → T (behind k l)
  behind_rest t = search T_right

  behind_cons : Later s u → T (behind k l) → T (behind (s ∷ k) (u ∷ l))
  behind_cons h t = search writes

pub behind_refl : (u : Trip) → T (behind u u)
behind_refl [] = tt
behind_refl (s ∷ l) = behind_cons s s l l (later_refl s) (behind_refl l)

pub behind_trans : (u v w : Trip) → T (behind u v) → T (behind v w) → T (behind u w)
behind_trans [] [] w p q = q
behind_trans [] (y ∷ v) w p q = absurd p
behind_trans (x ∷ u) [] w p q = absurd p
behind_trans (x ∷ u) (y ∷ v) [] p q = absurd q
behind_trans (x ∷ u) (y ∷ v) (z ∷ w) p q =
    let a = behind_first x y u v p in
    let b = behind_first y z v w q in
    behind_cons
    x
    z
    u
    w
    (record {
      station = a.station ∙ b.station;
      points = a.points ∙ b.points;
      mark = a.mark ∙ b.mark;
      arrive = omega arith;
      depart = omega arith;
    })
    (behind_trans u v w (behind_rest x y u v p) (behind_rest y z v w q))

pub behind_length : (u v : Trip) → T (behind u v) → length u ≡ length v
behind_length [] [] t = refl
behind_length [] (y ∷ v) t = absurd t
behind_length (x ∷ u) [] t = absurd t
behind_length (x ∷ u) (y ∷ v) t = ap suc (behind_length u v (behind_rest x y u v t))

-- no overtaking, at any position, in arrival or departure; and the same stations, ride penalties
-- and marks
pub behind_at : (u v : Trip) → T (behind u v) → (i : ℕ) → Later (get_or u i no_stop) (get_or v i no_stop)
behind_at [] [] t i = later_refl no_stop
behind_at [] (y ∷ v) t i = absurd t
behind_at (x ∷ u) [] t i = absurd t
behind_at (x ∷ u) (y ∷ v) t zero = behind_first x y u v t
behind_at (x ∷ u) (y ∷ v) t (suc i) = behind_at u v (behind_rest x y u v t) i

-- the ride between two places costs the same on both
pub behind_points : (u v : Trip) → T (behind u v) → (x y : ℕ) → ride_points u x y ≡ ride_points v x y
behind_points [] [] t x y = refl
behind_points [] (b ∷ v) t x y = absurd t
behind_points (a ∷ u) [] t x y = absurd t
behind_points (a ∷ u) (b ∷ v) t x zero = points_none (a ∷ u) x ∙ zero_points
  where
    zero_points : 0 ≡ ride_points (b ∷ v) x 0
    zero_points = omega (arith, points_none (b ∷ v) x)
behind_points (a ∷ u) (b ∷ v) t zero (suc y) =
    let h = behind_first a b u v t in
    let p = points_first a u y in
    let q = points_first b v y in
    omega (arith, behind_points u v (behind_rest a b u v t) 0 y)
behind_points (a ∷ u) (b ∷ v) t (suc x) (suc y) =
    let p = points_next a u x y in
    let q = points_next b v x y in
    omega (arith, behind_points u v (behind_rest a b u v t) x y)
