-- The key by which connections of one cost are ordered, as the code has it: departure, number of rides, and the numbers
-- of the rides in an array.
use Rattle.std.specs.Prelude.{◌≡◌, refl, Bool, true, false, List, ◌∷◌, ℕ, ◌+◌, ◌-◌, ◌*◌, ◌≤◌, ◌<◌, ltb, eqb, length}
use Rattle.std.specs.Prelude.{get_or, take, drop}
use Rattle.std.proofs.Common.{sym, ap, ◌∙◌, add-one, arith, lt-ltb, le-ltb, eq-eqb, ne_eqb, drop_of_length-le}
use Rattle.std.proofs.Common.{length-take-le}
use Rattle.lists.specs.Places.{drop_taken}
use Rattle.timetable.specs.Timetable.{last_minute}
use Rattle.lists.specs.Lists.{before}
use Rattle.connections.specs.Connections.{Connection, direct, onward, departure}
use Rattle.connections.specs.Planner.{ride_count, numbers, tie_key}

abbrev pub key_words : (depart rides : ℕ) → List ℕ → List ℕ
key_words depart rides numbers = (last_minute - depart) ∷ rides ∷ numbers

pub key_is : (c : Connection) → tie_key c ≡ key_words (departure c) (ride_count c) (numbers c)
unfolding tie_key
key_is c = refl

-- three numbers for each ride
pub numbers_long : (c : Connection) → length (numbers c) ≡ 3 * ride_count c
numbers_long (direct r) = refl
numbers_long (onward r w c) = omega (arith, numbers_long c)

-- ---- words compared one by one
module _ (a b : List ℕ) (n i : ℕ) (long-a : n ≤ length a) (long-b : n ≤ length b)
    (so_far : before (take n a) (take n b) ≡ before (drop i (take n a)) (drop i (take n b))) where
  module _ (h : i < n) where
    pub word_less : get_or a i 0 < get_or b i 0 → true ≡ before (take n a) (take n b)
    word_less l =
        let less : ltb (get_or a i 0) (get_or b i 0) ≡ true = lt-ltb (get_or a i 0) (get_or b i 0) l in
        sym (so_far ∙ rw (drop_taken n i a long-a h, drop_taken n i b long-b h, less))

    pub word_more : get_or b i 0 < get_or a i 0 → false ≡ before (take n a) (take n b)
    word_more l =
        let not_less : ltb (get_or a i 0) (get_or b i 0) ≡ false = le-ltb (get_or a i 0) (get_or b i 0) (omega arith) in
        let not_same : eqb (get_or a i 0) (get_or b i 0) ≡ false = ne_eqb (get_or a i 0) (get_or b i 0)
        (λ e. omega arith) in
        sym (so_far ∙ rw (drop_taken n i a long-a h, drop_taken n i b long-b h, not_less, not_same))

    pub word_same : get_or b i 0 ≤ get_or a i 0 → get_or a i 0 ≤ get_or b i 0
        → before (take n a) (take n b) ≡ before (drop (i + 1) (take n a)) (drop (i + 1) (take n b))
    word_same l g =
        let not_less : ltb (get_or a i 0) (get_or b i 0) ≡ false = le-ltb (get_or a i 0) (get_or b i 0) (omega arith) in
        let same : eqb (get_or a i 0) (get_or b i 0) ≡ true = eq-eqb (get_or a i 0) (get_or b i 0) (omega arith) in
        so_far ∙ rw (drop_taken n i a long-a h, drop_taken n i b long-b h, not_less, same, add-one i)

  pub words_same : n ≤ i → false ≡ before (take n a) (take n b)
  words_same h =
      sym
      (so_far
      ∙ rw (
        drop_of_length-le (take n a) {i = i} (omega (arith, length-take-le n a long-a)),
        drop_of_length-le (take n b) {i = i} (omega (arith, length-take-le n b long-b)),
      ))

-- ---- the parts of the key one after the other
module _ (d e r t : ℕ) (x y : List ℕ) (in_time_lem : d ≤ 2879) (other-in-time : e ≤ 2879) where
  abbrev goes : Bool
  goes = before (key_words d r x) (key_words e t y)

  pub leaves_later : e < d → true ≡ goes
  leaves_later h =
      let less : ltb (2879 - d) (2879 - e) ≡ true = lt-ltb (2879 - d) (2879 - e) (omega arith) in
      rw less

  pub leaves_earlier : d < e → false ≡ goes
  leaves_earlier h =
      let less : ltb (2879 - d) (2879 - e) ≡ false = le-ltb (2879 - d) (2879 - e) (omega arith) in
      let same : eqb (2879 - d) (2879 - e) ≡ false = ne_eqb (2879 - d) (2879 - e) (λ z. omega arith) in
      rw (less, same)

  module _ (h : d ≤ e) (g : e ≤ d) where
    less : ltb (2879 - d) (2879 - e) ≡ false
    less = le-ltb (2879 - d) (2879 - e) (omega arith)

    same : eqb (2879 - d) (2879 - e) ≡ true
    same = eq-eqb (2879 - d) (2879 - e) (omega arith)

    pub fewer_rides : r < t → true ≡ goes
    fewer_rides k = rw (less, same, lt-ltb r t k)

    pub more_rides : t < r → false ≡ goes
    more_rides k =
        let a : ltb r t ≡ false = le-ltb r t (omega arith) in
        let b : eqb r t ≡ false = ne_eqb r t (λ z. omega arith) in
        rw (less, same, a, b)

    pub by_numbers_lem : (z : Bool) → t ≤ r → r ≤ t → z ≡ before x y → z ≡ goes
    by_numbers_lem z k l q =
        let a : ltb r t ≡ false = le-ltb r t (omega arith) in
        let b : eqb r t ≡ true = eq-eqb r t (omega arith) in
        q ∙ rw (less, same, a, b)

-- with as many rides, as many words are compared
pub by_words : (d e r t : ℕ) (tried shown : List ℕ) (z : Bool) → d ≤ 2879 → e ≤ 2879 → d ≤ e → e ≤ d → t ≤ r → r ≤ t
    → z ≡ before (take (3 * r) tried) (take (3 * r) shown)
    → z ≡ before (key_words d r (take (3 * r) tried)) (key_words e t (take (3 * t) shown))
by_words d e r t tried shown z a b h g k l q =
    let same : r ≡ t = omega arith in
    by_numbers_lem d e r t (take (3 * r) tried) (take (3 * t) shown) a b h g z k l
    (q ∙ ap (λ m. before (take (3 * r) tried) (take (3 * m) shown)) same)
