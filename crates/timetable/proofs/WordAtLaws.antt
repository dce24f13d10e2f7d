-- What is read at the places of the layout.
use mathlib.Core.Path.{◌≡◌, ◌∙◌}
use mathlib.Core.List.{List}
use Prim.Native.Nat.{ℕ, ◌+◌, ◌*◌}
use lib.ListN.{get_or}
use Rattle.timetable.specs.Timetable.{Station, Walk, Stop}
use Rattle.timetable.specs.Words.{
  station_count,
  station_at,
  stop_in,
  stop_at,
  start_at,
  number_at,
  foot_place,
  walks_to,
  walk_at,
}

module _ (w : List ℕ) (i : ℕ) where
  pub station_there : (a b : ℕ) → a ≡ get_or w (3 + 2 * i) 0 → b ≡ get_or w (3 + 2 * i + 1) 0
      → ◌≡◌ {A = Station} (record { minutes = a; points = b }) (station_at w i)
  unfolding station_at
  station_there a b e f = rw (e, f)

  pub stop_read_lem : (a b c d m : ℕ) → a ≡ get_or w i 0 → b ≡ get_or w (i + 1) 0 → c ≡ get_or w (i + 2) 0
      → d ≡ get_or w (i + 3) 0 → m ≡ get_or w (i + 4) 0
      → ◌≡◌ {A = Stop} (record { station = a; arrive = b; depart = c; points = d; mark = m }) (stop_in w i)
  unfolding stop_in
  stop_read_lem a b c d m e f g h k = rw (e, f, g, h, k)

  module _ (n : ℕ) (is : n ≡ get_or w 0 0) where
    pub stop_there : (s : Stop) → s ≡ stop_in w (3 + 2 * n + 5 * i) → s ≡ stop_at w i
    unfolding stop_at
    stop_there s e = e ∙ rw is

    pub start_there : (m r : ℕ) → m ≡ get_or w 2 0 → r ≡ get_or w (3 + 2 * n + 5 * m + i) 0 → r ≡ start_at w i
    unfolding start_at
    start_there m r e f = f ∙ rw (is, e)

    pub number_there : (m t r : ℕ) → m ≡ get_or w 2 0 → t ≡ get_or w 1 0
        → r ≡ get_or w (3 + 2 * n + 5 * m + (t + 1) + i) 0 → r ≡ number_at w i
    unfolding number_at
    number_there m t r e g f = f ∙ rw (is, e, g)

  pub feet_there : (p r : ℕ) → p ≡ foot_place w → r ≡ get_or w (p + i) 0 → r ≡ walks_to w i
  unfolding walks_to
  feet_there p r e f = f ∙ rw e

  pub walk_there : (p a b c d : ℕ) → p ≡ foot_place w + (station_count w + 1) → a ≡ get_or w (p + 4 * i) 0
      → b ≡ get_or w (p + 4 * i + 1) 0 → c ≡ get_or w (p + 4 * i + 2) 0 → d ≡ get_or w (p + 4 * i + 3) 0
      → ◌≡◌ {A = Walk} (record { from = a; to = b; minutes = c; points = d }) (walk_at w i)
  unfolding walk_at
  walk_there p a b c d e f g h k = rw (f, g, h, k, e)
