-- The ways out of `is_timetable`: its tests are those of `decision`, one after the other.
use mathlib.Core.Path.{◌≡◌, sym, ◌∙◌}
use mathlib.Core.Bool.{Bool, true, false, not, ◌&&◌}
use mathlib.Core.List.{List}
use Prim.Native.Nat.{ℕ, ◌+◌, ◌≤◌, ◌<◌}
use borrow.Author.Tests.{le-leb, lt-leb, eq-eqb, ne_eqb, not-true, not-false}
use lib.Dec.{leb, eqb}
use lib.ListN.{get_or}
use Rattle.timetable.specs.Timetable.{valid_stations, valid_walks, climb}
use Rattle.timetable.specs.Words.{start_at, walks_to, is_timetable}
use Rattle.timetable.specs.Check.{stations_at, numbers_at, walks_at, footed_from, trips_test, decided}

module _ (w : List ℕ) (s : ℕ) (is-s : s ≡ get_or w 0 0) where
  pub no_stations : s < 1 → false ≡ is_timetable w
  no_stations h = sym (decided w ∙ simp (← is-s, lt-leb 1 s h))

  module _ (some : 1 ≤ s) where
    pub many_stations : 64 < s → false ≡ is_timetable w
    many_stations h = sym (decided w ∙ simp (← is-s, le-leb 1 s some, lt-leb s 64 h))

    module _ (few : s ≤ 64) (t : ℕ) (is_t : t ≡ get_or w 1 0) where
      pub many_trips : 256 < t → false ≡ is_timetable w
      many_trips h = sym (decided w ∙ simp (← is-s, ← is_t, le-leb 1 s some, le-leb s 64 few, lt-leb t 256 h))

      module _ (few_trips : t ≤ 256) (n : ℕ) (is-n : n ≡ get_or w 2 0) where
        pub many_stops : 2048 < n → false ≡ is_timetable w
        many_stops h =
            sym
            (decided w
            ∙ simp (
              ← is-s,
              ← is_t,
              ← is-n,
              le-leb 1 s some,
              le-leb s 64 few,
              le-leb t 256 few_trips,
              lt-leb n 2048 h,
            ))

        module _ (few_stops : n ≤ 2048) (a : ℕ) (is-a : a ≡ start_at w 0) where
          abbrev climbs : Bool
          climbs = climb 0 (numbers_at w 0 t)

          headed : is_timetable w
              ≡ (eqb a 0
              && climbs
              && valid_stations (stations_at w 0 s)
              && leb (walks_to w s) 256
              && valid_walks s (walks_at w 0 (walks_to w s))
              && footed_from w (walks_at w 0 (walks_to w s)) 0 (s + 1)
              && trips_test w s n 0 0 t)
          headed =
              decided w
              ∙ simp (
                ← is-s,
                ← is_t,
                ← is-n,
                ← is-a,
                le-leb 1 s some,
                le-leb s 64 few,
                le-leb t 256 few_trips,
                le-leb n 2048 few_stops,
              )

          pub late_start : (a ≡ 0 → ⊥) → false ≡ is_timetable w
          late_start h = sym (headed ∙ simp (ne_eqb a 0 h))

          module _ (start : a ≡ 0) (c : Bool) (is_c : c ≡ climb 0 (numbers_at w 0 t)) where
            pub bad_numbers : not c ≡ true → false ≡ is_timetable w
            bad_numbers h = sym (headed ∙ simp (eq-eqb a 0 start, ← is_c, not-true c h))

            module _ (climbing : not c ≡ false) (v : Bool) (is-v : v ≡ valid_stations (stations_at w 0 s)) where
              numbered : is_timetable w
                  ≡ (v
                  && leb (walks_to w s) 256
                  && valid_walks s (walks_at w 0 (walks_to w s))
                  && footed_from w (walks_at w 0 (walks_to w s)) 0 (s + 1)
                  && trips_test w s n 0 0 t)
              numbered = headed ∙ simp (eq-eqb a 0 start, ← is_c, not-false c climbing, ← is-v)

              pub bad_stations : not v ≡ true → false ≡ is_timetable w
              bad_stations h = sym (numbered ∙ simp (not-true v h))

              module _ (placed : not v ≡ false) (m : ℕ) (is_m : m ≡ walks_to w s) where
                pub many_walks : 256 < m → false ≡ is_timetable w
                many_walks h = sym (numbered ∙ simp (not-false v placed, ← is_m, lt-leb m 256 h))

                module _ (few_walks_lem : m ≤ 256) (f : Bool) (is_f : f ≡ valid_walks s (walks_at w 0 m)) where
                  pub bad_walks : not f ≡ true → false ≡ is_timetable w
                  bad_walks h =
                      sym
                      (numbered
                      ∙ simp (not-false v placed, ← is_m, le-leb m 256 few_walks_lem, ← is_f, not-true f h))

                  module _ (walked : not f ≡ false) (g : Bool) (is-g : g ≡ footed_from w (walks_at w 0 m) 0 (s + 1))
                    where
                      feet : is_timetable w ≡ (g && trips_test w s n 0 0 t)
                      feet =
                          numbered
                          ∙ simp (
                            not-false v placed,
                            ← is_m,
                            le-leb m 256 few_walks_lem,
                            ← is_f,
                            not-false f walked,
                            ← is-g,
                          )

                      pub bad_feet : not g ≡ true → false ≡ is_timetable w
                      bad_feet h = sym (feet ∙ simp (not-true g h))

                      pub trips_decide : not g ≡ false → (r : Bool) → r ≡ trips_test w s n 0 0 t → r ≡ is_timetable w
                      trips_decide h r e = e ∙ sym (feet ∙ simp (not-false g h))
