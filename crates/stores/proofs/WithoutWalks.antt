-- Where a timetable has no walk, its stores are those of document 01, which have "per prefix node: station, parent",
-- with that station twice: as alighted at and as boarded at. Here are the sequences and the words of document 01, for
-- that sentence alone. For a reader.
use Rattle.std.specs.Prelude.{◌≡◌, Bool, true, false, ◌&&◌, ◌||◌, ℕ, ◌*◌, ltb, eqb}
use Rattle.std.proofs.Math.Path.{refl, sym, ap}
use Rattle.std.proofs.Common.{◌∙◌, arith, ltb-true, eqb-true, lt-ltb, eq-eqb}
use mathlib.Core.List.{List, [], ◌∷◌, ◌++◌, map, map-map, map-append}
use mathlib.Core.List.Memᴰ.{head as here}
use mathlib.Core.List.Memᴰ.{tail as there}
use Rattle.std.proofs.Math.ListN.{length, length-map}
use Rattle.timetable.specs.Timetable.{Timetable}
use Rattle.lists.specs.Lists.{◌∈◌, filter, concat_map, before, same, settle, insert, sort, tail}
use Rattle.lists.specs.Tests.{same_tests}
use Rattle.lists.specs.Members.{filter_out}
use Rattle.results.specs.Results.{undominated}
use Rattle.connections.specs.Connections.{net, Connection, stations}
use Rattle.connections.specs.Planner.{planner_list, most_rides, measure}
use Rattle.connections.proofs.Listed.{listed_feasible}
use Rattle.connections.specs.WithoutWalks.{former_net, changed_stations, doubled}
use Rattle.connections.proofs.WithoutWalks.{same_net, stations_doubled}
use Rattle.stores.specs.Stored.{minutes, targets, optimals, optimal_stations, stored}
use Rattle.stores.specs.Words.{beginnings, front, final, keyed, nodes, count, place, entry, node_entry, arcs, flat}
use Rattle.stores.specs.Words.{encode, store_words}
use Rattle.stores.specs.WithoutWalks.{former_stations, former_stored, former_beginnings, former_nodes, former_arcs}
use Rattle.stores.specs.WithoutWalks.{former_encode, former_words, named_twice, doubled_store}

-- ---- sequences with each station twice
twice : List ℕ → List ℕ
twice [] = []
twice (x ∷ l) = x ∷ x ∷ twice l

-- a comparison made twice
again : (a e b : Bool) → (a || (e && (a || (e && b)))) ≡ (a || (e && b))
again true e b = refl
again false true b = refl
again false false b = refl

before_twice : (p q : List ℕ) → before (twice p) (twice q) ≡ before p q
unfolding twice
before_twice [] [] = refl
before_twice [] (y ∷ q) = refl
before_twice (x ∷ p) [] = refl
before_twice (x ∷ p) (y ∷ q) =
    ap (λ b. ltb x y || (eqb x y && (ltb x y || (eqb x y && b)))) (before_twice p q)
    ∙ again (ltb x y) (eqb x y) (before p q)

same_again : (e b : Bool) → (e && (e && b)) ≡ (e && b)
same_again true b = refl
same_again false b = refl

same_twice : (p q : List ℕ) → same (twice p) (twice q) ≡ same p q
unfolding twice
same_twice [] [] = refl
same_twice [] (y ∷ q) = refl
same_twice (x ∷ p) [] = refl
same_twice (x ∷ p) (y ∷ q) =
    ap (λ b. eqb x y && (eqb x y && b)) (same_twice p q) ∙ same_again (eqb x y) (same p q)

before_doubled : (p q : List ℕ) → before (doubled p) (doubled q) ≡ before p q
before_doubled [] [] = refl
before_doubled [] (y ∷ []) = refl
before_doubled [] (y ∷ z ∷ q) = refl
before_doubled (x ∷ []) [] = refl
before_doubled (x ∷ []) (y ∷ []) = refl
before_doubled (x ∷ []) (y ∷ z ∷ q) = refl
before_doubled (x ∷ u ∷ p) [] = refl
before_doubled (x ∷ u ∷ p) (y ∷ []) = refl
before_doubled (x ∷ u ∷ p) (y ∷ z ∷ q) =
    ap (λ b. ltb x y || (eqb x y && (ltb x y || (eqb x y && b)))) (before_doubled (u ∷ p) (z ∷ q))
    ∙ again (ltb x y) (eqb x y) (before (u ∷ p) (z ∷ q))

-- ---- a map that keeps the order, and sorting
module _ (f : List ℕ → List ℕ) (keeps : (p q : List ℕ) → before (f p) (f q) ≡ before p q) where
  settle_map : (a b : Bool) (x y : List ℕ) (l r : List (List ℕ))
      → settle a b (f x) (f y) (map f l) (map f r) ≡ map f (settle a b x y l r)
  settle_map true b x y l r = refl
  settle_map false true x y l r = refl
  settle_map false false x y l r = refl

  insert_map : (x : List ℕ) (l : List (List ℕ)) → insert (f x) (map f l) ≡ map f (insert x l)
  insert_map x [] = refl
  insert_map x (y ∷ l) =
      let ih = insert_map x l in
      (λ i. settle (keeps x y i) (keeps y x i) (f x) (f y) (map f l) (ih i))
      ∙ settle_map (before x y) (before y x) x y l (insert x l)

  sort_map : (l : List (List ℕ)) → sort (map f l) ≡ map f (sort l)
  sort_map [] = refl
  sort_map (x ∷ l) = ap (insert (f x)) (sort_map l) ∙ insert_map x (sort l)

-- ---- maps
-- two maps one after the other, as two others
map_maps : {A B C D : Type 0} (f : B → D) (g : A → B) (h : C → D) (k : A → C) → ((x : A) → f (g x) ≡ h (k x))
    → (l : List A) → map f (map g l) ≡ map h (map k l)
map_maps f g h k e l = map-map f g l ∙ (λ i. map (λ x. e x i) l) ∙ sym (map-map h k l)

concat_map_lem : {A B C : Type 0} (f : B → List C) (g : A → B) (l : List A)
    → concat_map f (map g l) ≡ concat_map (λ x. f (g x)) l
concat_map_lem f g [] = refl
concat_map_lem f g (x ∷ l) = ap (λ k. f (g x) ++ k) (concat_map_lem f g l)

-- lists that are mapped, joined
map_concat : {A B C : Type 0} (h : B → C) (k : A → List B) (l : List A)
    → concat_map (λ x. map h (k x)) l ≡ map h (concat_map k l)
map_concat h k [] = refl
map_concat h k (x ∷ l) = ap (λ r. map h (k x) ++ r) (map_concat h k l) ∙ sym (map-append h (k x) (concat_map k l))

-- ---- nodes
beginnings_doubled : (p : List ℕ) → beginnings (doubled p) ≡ map twice (former_beginnings p)
unfolding twice
beginnings_doubled [] = refl
beginnings_doubled (x ∷ []) = refl
beginnings_doubled (x ∷ y ∷ l) =
    let ih = beginnings_doubled (y ∷ l) in
    (λ i. (x ∷ x ∷ []) ∷ map (λ q. x ∷ x ∷ q) (ih i))
    ∙ ap
    (λ k. (x ∷ x ∷ []) ∷ k)
    (map_maps (λ q. x ∷ x ∷ q) twice twice (λ q. x ∷ q) (λ q. refl) (former_beginnings (y ∷ l)))

length_twice : (q : List ℕ) → length (twice q) ≡ 2 * length q
unfolding twice
length_twice [] = refl
length_twice (x ∷ q) = omega (arith, length_twice q)

-- a sequence behind its length
keyed_twice : List ℕ → List ℕ
keyed_twice [] = []
keyed_twice (k ∷ q) = 2 * k ∷ twice q

keyed_twice_lem : (q : List ℕ) → keyed (twice q) ≡ keyed_twice (keyed q)
unfolding keyed_twice
keyed_twice_lem q = λ i. length_twice q i ∷ twice q

twice_less : (k j : ℕ) → ltb (2 * k) (2 * j) ≡ ltb k j
twice_less k j =
    same_tests (ltb (2 * k) (2 * j)) (ltb k j)
    (λ e. lt-ltb k j (omega (arith, ltb-true (2 * k) (2 * j) e)))
    (λ e. lt-ltb (2 * k) (2 * j) (omega (arith, ltb-true k j e)))

twice_equal : (k j : ℕ) → eqb (2 * k) (2 * j) ≡ eqb k j
twice_equal k j =
    same_tests (eqb (2 * k) (2 * j)) (eqb k j)
    (λ e. eq-eqb k j (omega (arith, eqb-true (2 * k) (2 * j) e)))
    (λ e. eq-eqb (2 * k) (2 * j) (omega (arith, eqb-true k j e)))

before_keyed : (p q : List ℕ) → before (keyed_twice p) (keyed_twice q) ≡ before p q
unfolding keyed_twice
before_keyed [] [] = refl
before_keyed [] (y ∷ q) = refl
before_keyed (x ∷ p) [] = refl
before_keyed (x ∷ p) (y ∷ q) = λ i. twice_less x y i || (twice_equal x y i && before_twice p q i)

tail_twice : (p : List ℕ) → tail (keyed_twice p) ≡ twice (tail p)
unfolding keyed_twice twice
tail_twice [] = refl
tail_twice (k ∷ q) = refl

nodes_doubled : (ps : List (List ℕ)) → nodes (map doubled ps) ≡ map twice (former_nodes ps)
unfolding nodes former_nodes
nodes_doubled ps =
    ap
    (λ l. map tail (sort (map keyed l)))
    (concat_map_lem beginnings doubled ps
    ∙ (λ i. concat_map (λ p. beginnings_doubled p i) ps)
    ∙ map_concat twice former_beginnings ps)
    ∙ ap (λ l. map tail (sort l)) (map_maps keyed twice keyed_twice keyed keyed_twice_lem those)
    ∙ ap (map tail) (sort_map keyed_twice before_keyed (map keyed those))
    ∙ map_maps tail keyed_twice twice tail tail_twice (sort (map keyed those))
  where
    those : List (List ℕ)
    those = concat_map former_beginnings ps

-- ---- entries
front_doubled : (p : List ℕ) → front (doubled p) ≡ twice (front p)
unfolding twice
front_doubled [] = refl
front_doubled (x ∷ []) = refl
front_doubled (x ∷ y ∷ []) = refl
front_doubled (x ∷ y ∷ z ∷ l) = ap (λ q. x ∷ x ∷ q) (front_doubled (y ∷ z ∷ l))

final_doubled : (p : List ℕ) → final (doubled p) ≡ final p
final_doubled [] = refl
final_doubled (x ∷ []) = refl
final_doubled (x ∷ y ∷ []) = refl
final_doubled (x ∷ y ∷ z ∷ l) = final_doubled (y ∷ z ∷ l)

final_twice : (q : List ℕ) → final (twice q) ≡ final q
unfolding twice
final_twice [] = refl
final_twice (x ∷ []) = refl
final_twice (x ∷ y ∷ l) = final_twice (y ∷ l)

alighted_twice : (q : List ℕ) → final (front (twice q)) ≡ final q
unfolding twice
alighted_twice [] = refl
alighted_twice (x ∷ []) = refl
alighted_twice (x ∷ y ∷ l) = alighted_twice (y ∷ l)

parent_twice : (q : List ℕ) → front (front (twice q)) ≡ twice (front q)
unfolding twice
parent_twice [] = refl
parent_twice (x ∷ []) = refl
parent_twice (x ∷ y ∷ l) = ap (λ q. x ∷ x ∷ q) (parent_twice (y ∷ l))

place_twice : (q : List ℕ) (l : List (List ℕ)) → place (twice q) (map twice l) ≡ place q l
place_twice q [] = refl
place_twice q (p ∷ l) = let rest = place_twice q l in λ i. count (same_twice q p i) (rest i)

module _ (ns : List (List ℕ)) where
  place_root : (q : List ℕ) → place (twice q) ([] ∷ map twice ns) ≡ place q ([] ∷ ns)
  unfolding twice
  place_root q = place_twice q ([] ∷ ns)

  entry_doubled : (p : List ℕ) → entry (map twice ns) (doubled p) ≡ entry ns p
  entry_doubled p =
      let at = ap (λ q. place q ([] ∷ map twice ns)) (front_doubled p) ∙ place_root (front p) in
      λ i. final_doubled p i ∷ at i ∷ []

  node_twice : (q : List ℕ)
      → node_entry (map twice ns) (twice q) ≡ final q ∷ final q ∷ place (front q) ([] ∷ ns) ∷ []
  node_twice q =
      let at = ap (λ q. place q ([] ∷ map twice ns)) (parent_twice q) ∙ place_root (front q) in
      λ i. alighted_twice q i ∷ final_twice q i ∷ at i ∷ []

  -- the words of nodes, and those behind them
  nodes_named : (l : List (List ℕ)) (more : List ℕ)
      → flat (map (node_entry (map twice ns)) (map twice l)) ++ more
      ≡ named_twice (length l) (flat (map (entry ns) l) ++ more)
  unfolding named_twice
  nodes_named [] more = refl
  nodes_named (q ∷ l) more =
      let rest = nodes_named l more in
      ap (λ e. (e ++ flat (map (node_entry (map twice ns)) (map twice l))) ++ more) (node_twice q)
      ∙ ap (λ w. final q ∷ final q ∷ place (front q) ([] ∷ ns) ∷ w) rest

module _ (ps : List (List ℕ)) where
  arcs_doubled : arcs (map doubled ps) ≡ former_arcs ps
  unfolding arcs former_arcs
  arcs_doubled =
      ap (λ ns. sort (map (entry ns) (map doubled ps))) (nodes_doubled ps)
      ∙ ap
      sort
      (map-map (entry (map twice (former_nodes ps))) doubled ps
      ∙ (λ i. map (λ p. entry_doubled (former_nodes ps) p i) ps))

  encode_doubled : encode (map doubled ps) ≡ doubled_store (former_encode ps)
  unfolding encode former_encode doubled_store
  encode_doubled =
      let ns = former_nodes ps in
      (λ i.
      length (nodes_doubled ps i)
      ∷ length (arcs_doubled i)
      ∷ (flat (map (node_entry (nodes_doubled ps i)) (nodes_doubled ps i)) ++ flat (arcs_doubled i)))
      ∙ (λ i.
      length-map ns twice i ∷ length (former_arcs ps) ∷ nodes_named ns ns (flat (former_arcs ps)) i)

-- ---- the stored sequences
same_on : {A B : Type 0} (f g : A → B) (l : List A) → ((x : A) → x ∈ l → f x ≡ g x) → map f l ≡ map g l
same_on f g [] e = refl
same_on f g (x ∷ l) e = let rest = same_on f g l (λ y m. e y (there m)) in λ i. e x (here refl) i ∷ rest i

module _ (t : Timetable) (a : ℕ) where
  optimal_doubled : (m b : ℕ)
      → map stations (optimals (former_net t) a m b) ≡ map doubled
      (map changed_stations (optimals (former_net t) a m b))
  unfolding optimals planner_list
  optimal_doubled m b =
      same_on stations (λ c. doubled (changed_stations c)) those each
      ∙ sym (map-map doubled changed_stations those)
    where
      whole : List Connection
      whole = planner_list (former_net t) a m b

      those : List Connection
      those = filter (undominated (measure m) whole) whole

      each : (c : Connection) → c ∈ those → stations c ≡ doubled (changed_stations c)
      each c i =
          stations_doubled t a m b c
          (listed_feasible (former_net t) most_rides a m b c (filter_out (undominated (measure m) whole) whole i).0)

  stations_all : (ts bs : List ℕ)
      → optimal_stations (former_net t) a ts bs ≡ map doubled (former_stations (former_net t) a ts bs)
  unfolding optimal_stations former_stations
  stations_all ts bs =
      (λ i. concat_map (λ m. to_targets m i) ts) ∙ map_concat doubled (λ m. concat_map (former m) bs) ts
    where
      former : (m b : ℕ) → List (List ℕ)
      former m b = map changed_stations (optimals (former_net t) a m b)

      to_targets : (m : ℕ) → concat_map (λ b. map stations (optimals (former_net t) a m b)) bs
          ≡ map doubled (concat_map (former m) bs)
      to_targets m =
          (λ i. concat_map (λ b. optimal_doubled m b i) bs) ∙ map_concat doubled (former m) bs

  stored_doubled : stored (former_net t) a ≡ map doubled (former_stored (former_net t) a)
  unfolding stored former_stored
  stored_doubled =
      ap sort (stations_all minutes (targets (former_net t) a))
      ∙ sort_map doubled before_doubled (former_stations (former_net t) a minutes (targets (former_net t) a))

-- for a reader: without walks a store is that of document 01 with the station of each node twice
pub store_doubled : (t : Timetable) → t.walks ≡ [] → (a : ℕ)
    → store_words (net t) a ≡ doubled_store (former_words (former_net t) a)
unfolding store_words former_words
store_doubled t none a =
    ap (λ n. encode (stored n a)) (same_net t none)
    ∙ ap encode (stored_doubled t a)
    ∙ encode_doubled (former_stored (former_net t) a)
