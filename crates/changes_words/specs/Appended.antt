-- How the code puts a timetable together: stations, then trip behind trip, in three arrays. No reader of the promise
-- needs this file.
use Rattle.std.specs.Prelude.{◌≡◌, List, ◌++◌, true, ℕ, ◌+◌, ◌≤◌, ◌<◌, length, take, drop}
use Rattle.words.specs.Put.{put}
use Rattle.timetable.specs.Timetable.{Station, Trip, Timetable, stops_of}
use Rattle.timetable.specs.Words.{station_words, stop_words, start_words, words, station_count, trip_count, stop_count}
use Rattle.timetable.specs.Words.{timetable_of, is_timetable}
use Rattle.timetable.specs.Check.{trips_at, numbers_at}
use Rattle.timetable.specs.Changes.{without}
use Rattle.changes_words.specs.declared.Counts.{Counts}

-- what the three arrays hold
pub record Held (st : List Station) (ts : List Trip) (ns : List ℕ) (p : Counts)
    (body starts numbers body₀ starts₀ numbers₀ : List ℕ) : Type 0 where
  pub is_body : body ≡ put 0 (station_words st ++ stop_words (stops_of ts)) body₀
  pub is_starts : starts ≡ put 0 (start_words 0 ts) starts₀
  pub is_numbers : numbers ≡ put 0 ns numbers₀
  pub trips : p.trips ≡ length ts
  pub stops : p.stops ≡ length (stops_of ts)
  pub all_numbered : length ns ≡ length ts

-- more trips of the same stations behind those that stand there
pub record Extends (w : List ℕ) (from to : ℕ) (p q : Counts) (body starts numbers body' starts' numbers' : List ℕ)
    : Type 0 where
  pub holds : (st : List Station) (ts : List Trip) (ns body₀ starts₀ numbers₀ : List ℕ)
      → length st ≡ station_count w → length body₀ ≡ 10368 → length starts₀ ≡ 257 → length numbers₀ ≡ 256
      → Held st ts ns p body starts numbers body₀ starts₀ numbers₀
      → Held st (ts ++ trips_at w from to) (ns ++ numbers_at w from to) q body' starts' numbers' body₀ starts₀ numbers₀

-- the arrays hold the stations and the trips before a place
abbrev pub Front : List ℕ → (place : ℕ) → Counts → (body starts numbers body₀ starts₀ numbers₀ : List ℕ) → Type 0
Front w place p body starts numbers body₀ starts₀ numbers₀ =
    Held (timetable_of w).stations (trips_at w 0 place) (numbers_at w 0 place) p body starts numbers body₀ starts₀
    numbers₀

-- and the trip of another timetable behind them
abbrev pub Middle : List ℕ → (place : ℕ) → (e : List ℕ) → Counts → (body starts numbers body₀ starts₀ numbers₀ : List ℕ)
    → Type 0
Middle w place e p body starts numbers body₀ starts₀ numbers₀ =
    Held (timetable_of w).stations (trips_at w 0 place ++ trips_at e 0 1)
    (numbers_at w 0 place ++ numbers_at e 0 1) p body
    starts numbers body₀ starts₀ numbers₀

-- the arrays hold a timetable
abbrev pub Filled : Timetable → Counts → (body starts numbers body₀ starts₀ numbers₀ : List ℕ) → Type 0
Filled t p body starts numbers body₀ starts₀ numbers₀ =
    Held t.stations t.trips t.numbers p body starts numbers body₀ starts₀ numbers₀

-- words written over those of a timetable: the words of what the arrays hold, with the same stations and walks
pub record WrittenOver (w : List ℕ) (p : Counts) (body starts numbers out : List ℕ) : Type 0 where
  pub is : (t : Timetable) (body₀ starts₀ numbers₀ : List ℕ) → t.stations ≡ (timetable_of w).stations
      → t.walks ≡ (timetable_of w).walks → Filled t p body starts numbers body₀ starts₀ numbers₀
      → out ≡ put 0 (words t) w

-- a timetable of one trip and the same stations, for which there is room
pub record Fitting (w e : List ℕ) : Type 0 where
  pub okay : is_timetable e ≡ true
  pub stations : station_count e ≡ station_count w
  pub one : trip_count e ≡ 1
  pub trips : trip_count w < 256
  pub stops : stop_count w + stop_count e ≤ 2048

-- a timetable without the trip at place k
unfoldable pub left_out : Timetable → (k : ℕ) → Timetable
left_out t k =
    record {
      stations = t.stations;
      walks = t.walks;
      numbers = without k t.numbers;
      trips = without k t.trips;
    }

-- a timetable with the trip of another at place k
unfoldable pub put_in : Timetable → (k : ℕ) → Timetable → Timetable
put_in t k one =
    record {
      stations = t.stations;
      walks = t.walks;
      numbers = take k t.numbers ++ one.numbers ++ drop k t.numbers;
      trips = take k t.trips ++ one.trips ++ drop k t.trips;
    }
