-- "Timetable M" of document 01, on which its cases are worked; document 02, Two: "M's T lines each gain a 0".
use Rattle.std.specs.Prelude.{[], ◌∷◌, ℕ}
use Rattle.timetable.specs.Timetable.{Station, Stop, Timetable}

abbrev pub station : (minutes points : ℕ) → Station
station m p = record { minutes = m; points = p }

abbrev pub stop : (station arrive depart points : ℕ) → Stop
stop s a d p = record { station = s; arrive = a; depart = d; points = p; mark = 0 }

-- M, but for the change minutes at station 2 and the arrival of trip 2
unfoldable pub variant : (change arrival : ℕ) → Timetable
variant c v =
    record {
      stations = station 2 10 ∷ station c 10 ∷ station 5 10 ∷ [];
      walks = [];
      numbers = 1 ∷ 2 ∷ 3 ∷ [];
      trips =
          (stop 1 0 480 0 ∷ stop 2 500 501 0 ∷ stop 3 560 0 0 ∷ [])
          ∷ (stop 2 0 503 0 ∷ stop 3 v 0 0 ∷ [])
          ∷ (stop 2 0 502 0 ∷ stop 3 515 0 0 ∷ [])
          ∷ [];
    }

unfoldable pub M : Timetable
unfolding variant
M = variant 3 520
