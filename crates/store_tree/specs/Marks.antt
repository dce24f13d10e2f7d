-- The stations that flags mark, rising, and the slots that flags mark, in their order: where the flags tell of a node
-- which arcs or kids it has, they are its arcs or kids.
use Rattle.std.specs.Prelude.{◌≡◌, refl, Bool, true, false, List, [], ◌∷◌, ◌++◌, map, ℕ, suc, ◌+◌, ◌<◌, T, eqb, length}
use Rattle.std.specs.Prelude.{get_or, drop}
use Rattle.std.proofs.Math.Path.{ap}
use Rattle.std.proofs.Common.{subst, ◌∙◌, add-zero, add-one, arith, eq-eqb, ne_eqb, drop-cons}
use mathlib.Core.List.Memᴰ.{head as here}
use mathlib.Core.List.Memᴰ.{tail as there}
use Rattle.std.proofs.lemmas.List.{map-append, length-map}
use Rattle.lists.specs.Lists.{◌∈◌, keep, filter, range}
use Rattle.store_slots.specs.Slots.{transfer_at, slots}
use Rattle.store_tree.specs.Tree.{has_arc, has_kid, all_stations, arcs_of, kids_of, node_word, Flags, KidFlags}

-- station b, if its flag is 1
unfoldable pub marked : (flag b : ℕ) → List ℕ
marked flag b = keep (eqb flag 1) b []

-- those that are marked, where the first flag is that of station b
unfoldable pub marks_from : ℕ → List ℕ → List ℕ
marks_from b [] = []
marks_from b (x ∷ l) = marked x b ++ marks_from (suc b) l

abbrev pub marks : List ℕ → List ℕ
marks flags = marks_from 1 flags

-- of the slots of a list those that are marked
unfoldable pub slot_marks : (flags : List ℕ) → List ℕ → List ℕ
slot_marks flags [] = []
slot_marks flags (s ∷ l) = marked (get_or flags s 0) s ++ slot_marks flags l

-- the words of the kids of v that end with the changes of these slots
unfoldable pub kid_words : (v : ℕ) → List ℕ → List ℕ
kid_words v bs = map (λ b. node_word b v 0) bs

pub kid_words_lem : (v : ℕ) (bs : List ℕ) → kid_words v bs ≡ map (λ b. node_word b v 0) bs
unfolding kid_words
kid_words_lem v bs = refl

pub kid_words_long : (v : ℕ) (bs : List ℕ) → length (kid_words v bs) ≡ length bs
unfolding kid_words
kid_words_long v bs = length-map bs (λ b. node_word b v 0)

pub kid_words_append : (v : ℕ) (a b : List ℕ) → kid_words v (a ++ b) ≡ kid_words v a ++ kid_words v b
unfolding kid_words
kid_words_append v a b = map-append (λ b. node_word b v 0) a b

pub kid_words_none : (v : ℕ) → kid_words v [] ≡ []
unfolding kid_words
kid_words_none v = refl

pub marks_none : (b : ℕ) → marks_from b [] ≡ []
unfolding marks_from
marks_none b = refl

pub marks_more : (flags : List ℕ) (j : ℕ) → j < length flags
    → marks_from (j + 1) (drop j flags) ≡ marked (get_or flags j 0) (j + 1) ++ marks_from (j + 1 + 1)
    (drop (j + 1) flags)
unfolding marks_from
marks_more flags j h = rw (drop-cons flags j 0 h, add-one (j + 1), add-one j)

pub slots_none : (flags : List ℕ) → slot_marks flags [] ≡ []
unfolding slot_marks
slots_none flags = refl

pub slots_more : (flags l : List ℕ) (j : ℕ) → j < length l
    → slot_marks flags (drop j l) ≡ marked (get_or flags (get_or l j 0) 0) (get_or l j 0) ++ slot_marks flags
    (drop (j + 1) l)
unfolding slot_marks
slots_more flags l j h = rw (drop-cons l j 0 h, add-one j)

pub marked_yes : (flag b : ℕ) → flag ≡ 1 → marked flag b ≡ b ∷ []
unfolding marked
marked_yes flag b e = rw (eq-eqb flag 1 e)

pub marked_no : (flag b : ℕ) → (flag ≡ 1 → ⊥) → marked flag b ≡ []
unfolding marked
marked_no flag b e = rw (ne_eqb flag 1 e)

marks_are : (test : ℕ → Bool) (i : ℕ) (l : List ℕ)
    → ((j : ℕ) → j < length l → eqb (get_or l j 0) 1 ≡ test (i + j)) → marks_from i l ≡ filter test (range i (length l))
unfolding marks_from marked
marks_are test i [] h = refl
marks_are test i (x ∷ l) h = go (eqb x 1) (h 0 (omega arith) ∙ ap test (add-zero i)) (marks_are test (suc i) l rest)
  where
    rest : (j : ℕ) → j < length l → eqb (get_or l j 0) 1 ≡ test (suc i + j)
    rest j g = h (suc j) (omega arith) ∙ ap test (omega arith)

    go : (t : Bool) → t ≡ test i → marks_from (suc i) l ≡ filter test (range (suc i) (length l))
        → keep t i [] ++ marks_from (suc i) l ≡ keep (test i) i (filter test (range (suc i) (length l)))
    go true e ih = rw (← e) (ap (λ m. i ∷ m) ih)
    go false e ih = rw (← e) ih

module _ (test : ℕ → Bool) (flags : List ℕ) (f : Flags test flags) where
  flag_is : (j : ℕ) → j < 64 → eqb (get_or flags j 0) 1 ≡ test (suc j)
  flag_is j h = go (test (suc j)) refl
    where
      go : (t : Bool) → test (suc j) ≡ t → eqb (get_or flags j 0) 1 ≡ t
      go true e = eq-eqb (get_or flags j 0) 1 (f.up j h (rw e tt))
      go false e = ne_eqb (get_or flags j 0) 1 (λ m. subst T e (f.down j h m))

  pub flags_marks : marks flags ≡ filter test all_stations
  unfolding all_stations
  flags_marks =
      marks_are test 1 flags (λ j h. flag_is j (omega (arith, f.long)) ∙ ap test (omega arith))
      ∙ ap (λ k. filter test (range 1 k)) f.long

pub marks_arcs : (ps : List (List ℕ)) (s flags : List ℕ) → Flags (has_arc ps s) flags → marks flags ≡ arcs_of ps s
unfolding arcs_of
marks_arcs ps s flags f = flags_marks (has_arc ps s) flags f

-- ---- slots
slots_are : (flags : List ℕ) (test : ℕ → Bool) (l : List ℕ)
    → ((s : ℕ) → s ∈ l → eqb (get_or flags s 0) 1 ≡ test s) → slot_marks flags l ≡ filter test l
unfolding slot_marks marked
slots_are flags test [] h = refl
slots_are flags test (s ∷ l) h =
    go (eqb (get_or flags s 0) 1) (h s (here refl)) (slots_are flags test l (λ u m. h u (there m)))
  where
    go : (t : Bool) → t ≡ test s → slot_marks flags l ≡ filter test l
        → keep t s [] ++ slot_marks flags l ≡ keep (test s) s (filter test l)
    go true e ih = rw (← e) (ap (λ m. s ∷ m) ih)
    go false e ih = rw (← e) ih

pub marks_kids : (w : List ℕ) (ps : List (List ℕ)) (s flags : List ℕ) → KidFlags w (has_kid ps s) flags
    → slot_marks flags (slots w) ≡ kids_of w ps s
unfolding kids_of
marks_kids w ps s flags f = slots_are flags (λ k. has_kid ps s (transfer_at w k)) (slots w) flag_is
  where
    flag_is : (k : ℕ) → k ∈ slots w → eqb (get_or flags k 0) 1 ≡ has_kid ps s (transfer_at w k)
    flag_is k m = go (has_kid ps s (transfer_at w k)) refl
      where
        go : (t : Bool) → has_kid ps s (transfer_at w k) ≡ t → eqb (get_or flags k 0) 1 ≡ t
        go true e = eq-eqb (get_or flags k 0) 1 (f.up k m (rw e tt))
        go false e = ne_eqb (get_or flags k 0) 1 (λ h. subst T e (f.down k m h))
