-- A timetable after a change. Document 02, Eleven: "Control rooms cancel and add trips during the day. The timetable
-- words and line tables after each change must equal those built afresh from the trips that now run, taken in rising
-- number."
use Rattle.std.specs.Prelude.{Bool, false, cond, ◌||◌, List, [], ◌∷◌, ◌++◌, ℕ, suc, ltb, eqb, take, drop}
use Rattle.timetable.specs.Timetable.{Trip, Timetable}

-- a list without what stands at place k, and with x put there
abbrev pub without : {A : Type 0} → (k : ℕ) → List A → List A
without k l = take k l ++ drop (suc k) l

abbrev pub inserted : {A : Type 0} → (k : ℕ) → A → List A → List A
inserted k x l = take k l ++ (x ∷ drop k l)

-- the trip of number n runs: n is one of the numbers
unfoldable pub runs_as : (n : ℕ) → List ℕ → Bool
runs_as n [] = false
runs_as n (m ∷ l) = eqb m n || runs_as n l

-- its place in rising number: behind all lower numbers
unfoldable pub place_of : (n : ℕ) → List ℕ → ℕ
place_of n [] = 0
place_of n (m ∷ l) = cond (ltb m n) (suc (place_of n l)) 0

-- the timetable without its trip of number n
unfoldable pub cancelled : Timetable → (n : ℕ) → Timetable
cancelled t n =
    record {
      stations = t.stations;
      walks = t.walks;
      numbers = without (place_of n t.numbers) t.numbers;
      trips = without (place_of n t.numbers) t.trips;
    }

-- the timetable with a trip of number n
unfoldable pub added : Timetable → (n : ℕ) → Trip → Timetable
added t n trip =
    record {
      stations = t.stations;
      walks = t.walks;
      numbers = inserted (place_of n t.numbers) n t.numbers;
      trips = inserted (place_of n t.numbers) trip t.trips;
    }
