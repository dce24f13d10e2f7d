-- A trip that joins a line, as the arrays see it: it goes in where the line ends, and this line's end and all behind it
-- rise by one. A line that it founds ends behind all others.
use Rattle.std.specs.Prelude.{◌≡◌, Bool, cond, ℕ, zero, suc, ◌+◌, ◌≤◌, ◌<◌, length, get_or, take, set}
use Rattle.std.proofs.Math.Path.{refl, ap}
use Rattle.std.proofs.Common.{◌∙◌, arith, length-append}
use Rattle.std.proofs.Math.Bool.{true, false}
use mathlib.Core.List.Memᴰ.{head as here}
use mathlib.Core.List.Memᴰ.{tail as there}
use mathlib.Core.List.{List, [], ◌∷◌, ◌++◌, map, append_assoc}
use Rattle.std.proofs.Math.Seq.{take-append_seam, drop-append_seam, take-append-add, drop-append-add}
use Rattle.words.specs.Put.{put}
use Rattle.lists.specs.Members.{none, cons_cases}
use Rattle.timetable.specs.Timetable.{Trip}
use Rattle.lines.specs.Lines.{behind, last_of, enter, add_trip}
use Rattle.lines.specs.Once.{on_lines}
use Rattle.lines_found.specs.Grouped.{ends_from}
use Rattle.lines_order.specs.Steps.{Below, inserted, first_place}
use Rattle.lines_found.specs.Steps.{raised}

-- trip z joins line i, or founds the next where there is no such line
unfoldable pub join_at : (i z : ℕ) → List (List ℕ) → List (List ℕ)
join_at i z [] = (z ∷ []) ∷ []
join_at zero z (x ∷ ls) = (x ++ (z ∷ [])) ∷ ls
join_at (suc i) z (x ∷ ls) = x ∷ join_at i z ls

-- where line i ends, and all lines where there is no such line
unfoldable pub end_at : (i : ℕ) → List (List ℕ) → ℕ
end_at i [] = 0
end_at zero (x ∷ ls) = length x
end_at (suc i) (x ∷ ls) = length x + end_at i ls

-- k trips on n lines are held by two arrays, over what stood there before
pub record Holds (ls : List (List ℕ)) (k n : ℕ) (numbers ends numbers₀ ends₀ : List ℕ) : Type 0 where
  pub trips : length (on_lines ls) ≡ k
  pub lines : length ls ≡ n
  pub is_numbers : numbers ≡ put 0 (on_lines ls) numbers₀
  pub is_ends : ends ≡ put 0 (ends_from 0 ls) ends₀

-- where the arrays held k trips on n lines, they now hold them and trip z, which joined line i, on m lines
unfoldable pub Joined : (i z k n m : ℕ) (numbers ends numbers' ends' : List ℕ) → Type 0
Joined i z k n m numbers ends numbers' ends' =
    (ls : List (List ℕ)) (numbers₀ ends₀ : List ℕ) → Holds ls k n numbers ends numbers₀ ends₀
    → Holds (join_at i z ls) (k + 1) m numbers' ends' numbers₀ ends₀

-- ---- a trip is added to the first line that it can join
module _ (t : List Trip) (z : ℕ) where
  abbrev pub joinable : ℕ → Bool
  joinable y = behind (get_or t y []) (get_or t z [])

  pub add_joins : (ls : List (List ℕ)) → add_trip t z ls ≡ join_at (first_place joinable (map last_of ls)) z ls
  unfolding join_at first_place
  add_joins [] = refl
  add_joins (x ∷ ls) = go (joinable (last_of x)) (add_joins ls)
    where
      go : (b : Bool) → add_trip t z ls ≡ join_at (first_place joinable (map last_of ls)) z ls
          → enter b z x ls (add_trip t z ls) ≡ join_at (cond b 0 (suc (first_place joinable (map last_of ls)))) z
          (x ∷ ls)
      go true rest = refl
      go false rest = ap (λ l. x ∷ l) rest

pub length_join : (i z : ℕ) (ls : List (List ℕ)) → length (join_at i z ls) ≤ suc (length ls)
unfolding join_at
length_join i z [] = omega arith
length_join zero z (x ∷ ls) = omega arith
length_join (suc i) z (x ∷ ls) = omega (arith, length_join i z ls)

pub length_joins : (i z : ℕ) (ls : List (List ℕ)) → i < length ls → length (join_at i z ls) ≡ length ls
unfolding join_at
length_joins i z [] h = absurd (omega arith)
length_joins zero z (x ∷ ls) h = refl
length_joins (suc i) z (x ∷ ls) h = ap suc (length_joins i z ls (omega arith))

pub length_founds : (i z : ℕ) (ls : List (List ℕ)) → length ls ≤ i → length (join_at i z ls) ≡ suc (length ls)
unfolding join_at
length_founds i z [] h = refl
length_founds zero z (x ∷ ls) h = absurd (omega arith)
length_founds (suc i) z (x ∷ ls) h = ap suc (length_founds i z ls (omega arith))

-- ---- the trips of all lines
pub numbers_join : (i z : ℕ) (ls : List (List ℕ)) → on_lines (join_at i z ls) ≡ inserted (end_at i ls) z (on_lines ls)
unfolding join_at end_at inserted
numbers_join i z [] = refl
numbers_join zero z (x ∷ ls) =
    rw (take-append_seam x (on_lines ls), drop-append_seam x (on_lines ls)) (append_assoc x (z ∷ []) (on_lines ls))
numbers_join (suc i) z (x ∷ ls) =
    rw (
      take-append-add x (on_lines ls) (end_at i ls),
      drop-append-add x (on_lines ls) (end_at i ls),
      append_assoc x (take (end_at i ls) (on_lines ls)) _,
    )
    (ap (λ l. x ++ l) (numbers_join i z ls))

-- ---- where the lines end
pub length_ends : (k : ℕ) (ls : List (List ℕ)) → length (ends_from k ls) ≡ length ls
unfolding ends_from
length_ends k [] = refl
length_ends k (x ∷ ls) = ap suc (length_ends (k + length x) ls)

pub end_at_lem : (i k : ℕ) (ls : List (List ℕ)) → i < length ls → get_or (ends_from k ls) i 0 ≡ k + end_at i ls
unfolding ends_from end_at
end_at_lem i k [] h = absurd (omega arith)
end_at_lem zero k (x ∷ ls) h = refl
end_at_lem (suc i) k (x ∷ ls) h = end_at_lem i (k + length x) ls (omega arith) ∙ omega arith

-- the last line, and the one past it, end with all trips
pub end_last : (i : ℕ) (ls : List (List ℕ)) → length ls ≤ suc i → end_at i ls ≡ length (on_lines ls)
unfolding end_at
end_last i [] h = refl
end_last zero (x ∷ []) h = simp length-append (omega arith)
end_last zero (x ∷ y ∷ ls) h = absurd (omega arith)
end_last (suc i) (x ∷ ls) h = simp length-append (omega (arith, end_last i ls (omega arith)))

pub ends_below : (k : ℕ) (ls : List (List ℕ)) → Below (k + length (on_lines ls) + 1) (ends_from k ls)
unfolding ends_from Below
ends_below k [] y m = none m
ends_below k (x ∷ ls) y m =
    let long = length-append x (on_lines ls) in
    cons_cases m (λ e. omega arith) (λ i. omega (arith, ends_below (k + length x) ls y i))

ends_suc : (k : ℕ) (ls : List (List ℕ)) → ends_from (suc k) ls ≡ map suc (ends_from k ls)
unfolding ends_from
ends_suc k [] = refl
ends_suc k (x ∷ ls) =
    let up : suc k + length x ≡ suc (k + length x) = omega arith in
    rw up (ap (λ l. suc (k + length x) ∷ l) (ends_suc (k + length x) ls))

pub ends_join : (i z k : ℕ) (ls : List (List ℕ)) → i < length ls → ends_from k (join_at i z ls) ≡ raised i
    (ends_from k ls)
unfolding join_at ends_from raised
ends_join i z k [] h = absurd (omega arith)
ends_join zero z k (x ∷ ls) h =
    let up : k + length (x ++ (z ∷ [])) ≡ suc (k + length x) = simp length-append (omega arith) in
    rw up (ap (λ l. suc (k + length x) ∷ l) (ends_suc (k + length x) ls))
ends_join (suc i) z k (x ∷ ls) h = ap (λ l. (k + length x) ∷ l) (ends_join i z (k + length x) ls (omega arith))

pub ends_found : (i z k : ℕ) (ls : List (List ℕ)) → length ls ≤ i
    → ends_from k (join_at i z ls) ≡ ends_from k ls ++ ((k + length (on_lines ls) + 1) ∷ [])
unfolding join_at ends_from
ends_found i z k [] h =
    let same : k + 1 ≡ k + 0 + 1 = omega arith in
    ap (λ j. j ∷ []) same
ends_found zero z k (x ∷ ls) h = absurd (omega arith)
ends_found (suc i) z k (x ∷ ls) h =
    let same : k + length x + length (on_lines ls) + 1 ≡ k + length (x ++ on_lines ls) + 1 =
    simp length-append (omega arith) in
    ap (λ l. (k + length x) ∷ l)
    (ends_found i z (k + length x) ls (omega arith) ∙ ap (λ j. ends_from (k + length x) ls ++ (j ∷ [])) same)

-- ---- their last trips
last_joined : (x : List ℕ) (z : ℕ) → last_of (x ++ (z ∷ [])) ≡ z
last_joined [] z = refl
last_joined (y ∷ []) z = refl
last_joined (y ∷ w ∷ x) z = last_joined (w ∷ x) z

pub lasts_join : (i z : ℕ) (ls : List (List ℕ)) → i < length ls → map last_of (join_at i z ls) ≡ set (map last_of ls) i
    z
unfolding join_at
lasts_join i z [] h = absurd (omega arith)
lasts_join zero z (x ∷ ls) h = rw (last_joined x z)
lasts_join (suc i) z (x ∷ ls) h = ap (λ l. last_of x ∷ l) (lasts_join i z ls (omega arith))

pub lasts_found : (i z : ℕ) (ls : List (List ℕ)) → length ls ≤ i
    → map last_of (join_at i z ls) ≡ map last_of ls ++ (z ∷ [])
unfolding join_at
lasts_found i z [] h = refl
lasts_found zero z (x ∷ ls) h = absurd (omega arith)
lasts_found (suc i) z (x ∷ ls) h = ap (λ l. last_of x ∷ l) (lasts_found i z ls (omega arith))

pub lasts_below : (n i z : ℕ) (ls : List (List ℕ)) → z < n → Below n (map last_of ls)
    → Below n (map last_of (join_at i z ls))
unfolding join_at Below
lasts_below n i z [] h b y m = cons_cases m (λ e. omega arith) none
lasts_below n zero z (x ∷ ls) h b y m =
    cons_cases m (λ e. omega (arith, last_joined x z)) (λ k. b y (there k))
lasts_below n (suc i) z (x ∷ ls) h b y m =
    cons_cases m (λ e. b y (here e)) (lasts_below n i z ls h (λ v k. b v (there k)) y)
