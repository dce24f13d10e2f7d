-- The calls that line tables tell of a station: exactly the places at which lines call there, and they rise.
use Rattle.std.specs.Prelude.{◌≡◌, eqb, length, get_or}
use Rattle.std.proofs.Math.Path.{refl, ap}
use Rattle.std.proofs.Common.{sym, subst, ◌∙◌, eqb→eq}
use mathlib.Core.List.Memᴰ
use mathlib.Core.List.{List, [], ◌∷◌, ◌++◌, map}
use Prim.Native.Nat.{ℕ, zero, suc, ◌+◌, ◌-◌, ◌≤◌, ◌<◌}
use native.Mathlib.Omega.{arith}
use borrow.Author.Tests.{le-leb}
use Rattle.std.proofs.Math.Seq.{slice}
use Rattle.lists.specs.Lists.{◌∈◌, filter, concat_map, range}
use Rattle.lists.specs.Tests.{eq→eqb}
use Rattle.lists.specs.Members.{filter_in, filter_out, concat_map_in, concat_map_out, range_in, range_out}
use Rattle.lists.specs.Members.{concat_append}
use Rattle.timetable.specs.Timetable.{Trip, Timetable}
use Rattle.lines.specs.Lines.{lines, course, station_on, line_calls, calls}
use Rattle.lines_tables.specs.Tables.{call_pairs}
use Rattle.lines_lookup.specs.Lookup.{calls_place, list_of}
use Rattle.lines_lookup.specs.Calls.{Call, pairs_of, calls_of}
use Rattle.lines_lookup.specs.Told.{Told}
use Rattle.lines_lookup.specs.Rising.{Rising, call_of, places_rising, lines_rising}

-- a line and a place at which it calls at station s
pub record Met (t : List Trip) (s : ℕ) (c : Call) : Type 0 where
  pub listed : c.line < length (lines t)
  pub inside : c.place < length (course t (get_or (lines t) c.line []))
  pub station : station_on t (get_or (lines t) c.line []) c.place ≡ s

module _ (t : List Trip) (s : ℕ) where
  abbrev line : ℕ → List ℕ
  line i = get_or (lines t) i []

  -- the places of a line at which it calls there
  abbrev places : ℕ → List ℕ
  places i = filter (λ p. eqb (station_on t (line i) p) s) (range 0 (length (course t (line i))))

  abbrev calls_on : ℕ → List Call
  calls_on i = map (call_of i) (places i)

  abbrev all_calls : List Call
  all_calls = concat_map calls_on (range 0 (length (lines t)))

  -- ---- words of two numbers for each call
  abbrev pair : (i p : ℕ) → List ℕ
  pair i p = suc i ∷ suc p ∷ []

  line_read : (i : ℕ) (ps : List ℕ) (l : List ℕ)
      → pairs_of (concat_map (λ q. q) (map (pair i) ps) ++ l) ≡ map (call_of i) ps ++ pairs_of l
  unfolding pairs_of
  line_read i [] l = refl
  line_read i (p ∷ ps) l =
      let is_line : suc i - 1 ≡ i = omega arith in
      let is_place : suc p - 1 ≡ p = omega arith in
      let rest = line_read i ps l in
      λ k. record { line = is_line k; place = is_place k } ∷ rest k

  lines_read : (k n : ℕ)
      → pairs_of (concat_map (λ q. q) (concat_map (line_calls t s) (range k n))) ≡ concat_map calls_on (range k n)
  unfolding pairs_of
  lines_read k zero = refl
  lines_read k (suc n) =
      ap pairs_of (concat_append (line_calls t s k) (concat_map (line_calls t s) (range (suc k) n)))
      ∙ line_read k (places k) (concat_map (λ q. q) (concat_map (line_calls t s) (range (suc k) n)))
      ∙ ap (λ l. calls_on k ++ l) (lines_read (suc k) n)

  -- ---- the calls
  all_out : (c : Call) → c ∈ all_calls → Met t s c
  all_out c m =
      let x = concat_map_out calls_on (range 0 (length (lines t))) m in
      let i = x.0 in
      let y = Memᴰ.of_map (call_of i) (places i) x.2 in
      let f = filter_out (λ p. eqb (station_on t (line i) p) s) (range 0 (length (course t (line i)))) y.1 in
      let a = range_out 0 (length (lines t)) i x.1 in
      let b = range_out 0 (length (course t (line i))) y.0 f.0 in
      subst (Met t s) y.2
      (record {
        listed = omega arith;
        inside = omega arith;
        station = eqb→eq (station_on t (line i) y.0) s f.1;
      })

  all_in : (c : Call) → Met t s c → c ∈ all_calls
  all_in c k =
      let i = c.line in
      let place = range_in 0 (length (course t (line i))) c.place (omega arith) (omega (arith, k.inside)) in
      let test = eq→eqb (station_on t (line i) c.place) s k.station in
      let met = filter_in (λ p. eqb (station_on t (line i) p) s) place test in
      concat_map_in calls_on (range_in 0 (length (lines t)) i (omega arith) (omega (arith, k.listed)))
      (Memᴰ.map (call_of i) met)

  all_rising : Rising all_calls
  all_rising =
      lines_rising calls_on
      (λ i. places_rising i (λ p. eqb (station_on t (line i) p) s) 0 (length (course t (line i))))
      (λ i c m. ap (λ d. d.line) (sym (Memᴰ.of_map (call_of i) (places i) m).2))
      0
      (length (lines t))

module _ (v : List ℕ) (timetable : Timetable) (told : Told v timetable) (s : ℕ) (some : 1 ≤ s)
    (listed : s ≤ length timetable.stations) where
  abbrev trips : List Trip
  trips = timetable.trips

  calls_are : calls_of v s ≡ all_calls trips s
  unfolding calls_of list_of call_pairs calls
  calls_are =
      let last : s - 1 + 1 ≡ s = omega arith in
      let this : suc (s - 1) ≡ s = omega arith in
      rw (le-leb 1 s some, le-leb s (get_or v 0 0) (omega (arith, told.stations)))
      (ap (λ k. pairs_of (slice (calls_place v (s - 1)) (calls_place v k) v)) (sym last)
      ∙ ap pairs_of (told.calls (s - 1) (omega arith))
      ∙ ap (λ k. pairs_of (concat_map (λ q. q) (concat_map (line_calls trips k) (range 0 (length (lines trips)))))) this
      ∙ lines_read trips s 0 (length (lines trips)))

  pub calls_out : (c : Call) → c ∈ calls_of v s → Met trips s c
  calls_out c m = all_out trips s c (rw calls_are at m)

  pub calls_in_lem : (c : Call) → Met trips s c → c ∈ calls_of v s
  calls_in_lem c k = rw calls_are (all_in trips s c k)

  pub calls_rise : Rising (calls_of v s)
  calls_rise = rw calls_are (all_rising trips s)
