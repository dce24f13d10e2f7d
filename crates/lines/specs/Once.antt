-- Each trip stands on exactly one line, once. Adding a trip to the lines inserts it somewhere among all trips of the
-- lines, and each trip is added once.
use Rattle.std.specs.Prelude.{◌≡◌, refl, Bool, true, false, ◌⊎◌, ◌↔◌, ℕ, ◌<◌, get_or, T}
use Rattle.std.proofs.Common.{sym, ap, subst, ◌∙◌, arith}
use Rattle.std.proofs.Math.Logic.{inl, inr}
use mathlib.Core.List.Memᴰ.{head as here}
use mathlib.Core.List.Memᴰ.{tail as there}
use mathlib.Core.List.{List, [], ◌∷◌, ◌++◌, map, append_assoc}
use mathlib.Core.List.Memᴰ
use Rattle.std.proofs.Math.ListN.{length}
use Rattle.timetable.specs.Timetable.{Trip}
use Rattle.lists.specs.Lists.{◌∈◌, concat_map, range, sort, Rising, Distinct, before}
use Rattle.lists.specs.Members.{none, cons_cases, append_cases, concat_map_in, concat_map_out, range_in, range_out}
use Rattle.lists.specs.Order.{before_irrefl}
use Rattle.lists.specs.Sorting.{sort_in, sort_out, sort_rising}
use Rattle.lines.specs.Lines.{behind, last_of, enter, add_trip, add_trips, trip_key, in_order, lines}

-- the trips of the lines, one line after the other
abbrev pub on_lines : List (List ℕ) → List ℕ
on_lines ls = concat_map (λ l. l) ls

-- z was put in somewhere
record Inserted (z : ℕ) (before after : List ℕ) : Type 0 where
  front : List ℕ
  rest : List ℕ
  was : before ≡ front ++ rest
  is : after ≡ front ++ (z ∷ rest)

module _ (z : ℕ) (before after : List ℕ) (i : Inserted z before after) where
  inserted_out : (y : ℕ) → y ∈ after → (y ≡ z) ⊎ y ∈ before
  inserted_out y m =
      append_cases
      i.front
      (rw i.is at m)
      (λ k. inr (rw i.was (Memᴰ.append_left i.rest k)))
      (λ k. cons_cases k inl (λ k. inr (rw i.was (Memᴰ.append_right i.front k))))

  inserted_self : z ∈ after
  inserted_self = rw i.is (Memᴰ.append_right i.front (here refl))

  inserted_old : (y : ℕ) → y ∈ before → y ∈ after
  inserted_old y m =
      append_cases
      i.front
      (rw i.was at m)
      (λ k. rw i.is (Memᴰ.append_left (z ∷ i.rest) k))
      (λ k. rw i.is (Memᴰ.append_right i.front (there k)))

distinct_middle : (z : ℕ) (l m : List ℕ) → Distinct (l ++ m) → ¬ (z ∈ l ++ m) → Distinct (l ++ (z ∷ m))
distinct_middle z [] m d h = (h, d)
distinct_middle z (x ∷ l) m d h = (first, distinct_middle z l m d.1 (λ k. h (there k)))
  where
    first : ¬ (x ∈ l ++ (z ∷ m))
    first k =
        append_cases
        l
        k
        (λ i. d.0 (Memᴰ.append_left m i))
        (λ i. cons_cases i (λ e. h (here (sym e))) (λ j. d.0 (Memᴰ.append_right l j)))

inserted_distinct : (z : ℕ) (before after : List ℕ) → Inserted z before after → Distinct before → ¬ (z ∈ before)
    → Distinct after
inserted_distinct z before after i d h =
    let e = i.was in
    rw i.is (distinct_middle z i.front i.rest (rw e at d) (λ m. h (rw e m)))

module _ (t : List Trip) where
  add_inserts : (z : ℕ) (ls : List (List ℕ)) → Inserted z (on_lines ls) (on_lines (add_trip t z ls))
  add_inserts z [] = record { front = []; rest = []; was = refl; is = refl }
  add_inserts z (x ∷ ls) = go (behind (get_or t (last_of x) []) (get_or t z [])) (add_inserts z ls)
    where
      go : (b : Bool) → Inserted z (on_lines ls) (on_lines (add_trip t z ls))
          → Inserted z (on_lines (x ∷ ls)) (on_lines (enter b z x ls (add_trip t z ls)))
      go true i = record { front = x; rest = on_lines ls; was = refl; is = append_assoc x (z ∷ []) (on_lines ls) }
      go false i =
          record {
            front = x ++ i.front;
            rest = i.rest;
            was = ap (λ l. x ++ l) i.was ∙ sym (append_assoc x i.front i.rest);
            is = ap (λ l. x ++ l) i.is ∙ sym (append_assoc x i.front (z ∷ i.rest));
          }

  adds_out : (zs : List ℕ) (ls : List (List ℕ)) (y : ℕ) → y ∈ on_lines (add_trips t zs ls) → y ∈ zs ⊎ y ∈ on_lines ls
  adds_out [] ls y m = inr m
  adds_out (z ∷ zs) ls y m = go (adds_out zs (add_trip t z ls) y m)
    where
      older : (y ≡ z) ⊎ y ∈ on_lines ls → y ∈ z ∷ zs ⊎ y ∈ on_lines ls
      older (inl e) = inl (here e)
      older (inr k) = inr k

      go : y ∈ zs ⊎ y ∈ on_lines (add_trip t z ls) → y ∈ z ∷ zs ⊎ y ∈ on_lines ls
      go (inl k) = inl (there k)
      go (inr k) = older (inserted_out z (on_lines ls) (on_lines (add_trip t z ls)) (add_inserts z ls) y k)

  adds_in : (zs : List ℕ) (ls : List (List ℕ)) (y : ℕ) → y ∈ zs ⊎ y ∈ on_lines ls → y ∈ on_lines (add_trips t zs ls)
  adds_in [] ls y (inl m) = none m
  adds_in [] ls y (inr m) = m
  adds_in (z ∷ zs) ls y m = adds_in zs (add_trip t z ls) y (next m)
    where
      i : Inserted z (on_lines ls) (on_lines (add_trip t z ls))
      i = add_inserts z ls

      next : y ∈ z ∷ zs ⊎ y ∈ on_lines ls → y ∈ zs ⊎ y ∈ on_lines (add_trip t z ls)
      next (inl k) = cons_cases k (λ e. inr (Memᴰ.cast e (inserted_self z _ _ i))) inl
      next (inr k) = inr (inserted_old z _ _ i y k)

  adds_distinct : (zs : List ℕ) (ls : List (List ℕ)) → Distinct zs → Distinct (on_lines ls)
      → ((z : ℕ) → z ∈ zs → ¬ (z ∈ on_lines ls)) → Distinct (on_lines (add_trips t zs ls))
  adds_distinct [] ls d e h = e
  adds_distinct (z ∷ zs) ls d e h =
      adds_distinct zs (add_trip t z ls) d.1 (inserted_distinct z _ _ i e (h z (here refl))) apart
    where
      i : Inserted z (on_lines ls) (on_lines (add_trip t z ls))
      i = add_inserts z ls

      apart : (y : ℕ) → y ∈ zs → ¬ (y ∈ on_lines (add_trip t z ls))
      apart y m k =
          elim (inserted_out z _ _ i y k) [ inl e ↦ d.0 (Memᴰ.cast (sym e) m) | inr j ↦ h y (there m) j ]

  -- the trips in order: all of them, each once
  abbrev number : List ℕ → ℕ
  number k = get_or k 1 0

  abbrev keys : List (List ℕ)
  keys = map (trip_key t) (range 0 (length t))

  key_out : (k : List ℕ) → k ∈ sort keys → (number k < length t) × (k ≡ trip_key t (number k))
  key_out k m =
      let r = Memᴰ.of_map (trip_key t) (range 0 (length t)) (sort_out keys m) in
      let h = range_out 0 (length t) r.0 r.1 in
      let e = ap number r.2 in
      (omega arith, sym r.2 ∙ ap (trip_key t) e)

  order_out : (z : ℕ) → z ∈ in_order t → z < length t
  unfolding in_order
  order_out z m =
      let r = Memᴰ.of_map number (sort keys) m in
      omega (arith, (key_out r.0 r.1).0, r.2)

  order_in : (z : ℕ) → z < length t → z ∈ in_order t
  unfolding in_order
  order_in z h = Memᴰ.map number (sort_in (Memᴰ.map (trip_key t) (range_in 0 (length t) z (omega arith) (omega arith))))

  -- two keys of one trip would be one key, and no key comes before itself
  numbers_distinct : (l : List (List ℕ)) → Rising l → ((k : List ℕ) → k ∈ l → k ≡ trip_key t (number k))
      → Distinct (map number l)
  numbers_distinct [] r h = tt
  numbers_distinct (k ∷ l) r h = (first, numbers_distinct l r.1 (λ j m. h j (there m)))
    where
      first : ¬ (number k ∈ map number l)
      first m =
          let j = Memᴰ.of_map number l m in
          let same = h j.0 (there j.1) ∙ ap (trip_key t) j.2 ∙ sym (h k (here refl)) in
          before_irrefl k (subst (λ v. T (before k v)) same (r.0 j.0 j.1))

  order_distinct : Distinct (in_order t)
  unfolding in_order
  order_distinct = numbers_distinct (sort keys) (sort_rising keys) (λ k m. (key_out k m).1)

  -- the trips on the lines are those of the timetable
  pub on_lines_lem : (z : ℕ) → z ∈ on_lines (lines t) ↔ (z < length t)
  unfolding lines
  on_lines_lem z = (λ m. elim (adds_out (in_order t) [] z m) [ inl k ↦ order_out z k | inr k ↦ none k ], to)
    where
      to : z < length t → z ∈ on_lines (add_trips t (in_order t) [])
      to h = adds_in (in_order t) [] z (inl (order_in z h))

  pub lines_distinct : Distinct (on_lines (lines t))
  unfolding lines
  lines_distinct = adds_distinct (in_order t) [] order_distinct tt (λ z m k. none k)

apart : (l m : List ℕ) (z : ℕ) → Distinct (l ++ m) → z ∈ l → ¬ (z ∈ m)
apart [] m z d i k = none i
apart (x ∷ l) m z d i k =
    cons_cases i (λ e. d.0 (Memᴰ.append_right l (Memᴰ.cast (sym e) k))) (λ j. apart l m z d.1 j k)

-- the line of a trip
pub record OnLine (t : List Trip) (z : ℕ) : Type 0 where
  pub line : List ℕ
  pub listed : line ∈ lines t
  pub member : z ∈ line

module _ (t : List Trip) where
  pub line_of_lem : (z : ℕ) → z < length t → OnLine t z
  line_of_lem z h =
      let r = concat_map_out (λ l. l) (lines t) ((on_lines_lem t z).1 h) in
      record { line = r.0; listed = r.1; member = r.2 }

  pub trip_listed : (z : ℕ) → OnLine t z → z < length t
  trip_listed z o = (on_lines_lem t z).0 (concat_map_in (λ l. l) o.listed o.member)
