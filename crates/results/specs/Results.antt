-- The result of a list of candidates. Document 01: "Its result is the costs on the list that no cost on the list
-- dominates, each once, in rising duration. [..] The rides of a row are the connection that the rule for equal cost
-- picks from the list." It is said over candidates of any kind, by what they cost, by a key that orders those of equal
-- cost, and by the row in which a cost and a key are told. A query of another kind is another measure, and not another
-- result.
use Rattle.std.specs.Prelude.{◌≡◌, Bool, not, ◌&&◌, ◌||◌, ◌↔◌, List, [], ◌∷◌, map, ℕ, ◌<◌, T, leb, ltb, eqb, length}
use Rattle.lists.specs.Lists.{◌∈◌, filter, any, before, sort}

-- "The duration in minutes and penalty in points are compared separately and never added."
pub record Cost : Type 0 where
  pub minutes : ℕ
  pub points : ℕ

-- "One cost dominates another if neither part is larger and one is smaller."
unfoldable pub dominates : Cost → Cost → Bool
dominates x y =
    leb x.minutes y.minutes
    && leb x.points y.points
    && (ltb x.minutes y.minutes || ltb x.points y.points)

unfoldable pub equal : Cost → Cost → Bool
equal x y = eqb x.minutes y.minutes && eqb x.points y.points

-- What a candidate costs, the key by which those of equal cost are ordered, and the row. It is told from cost and key
-- alone, so candidates of one cost and key have one row; it may begin with any word, since rows are ordered by cost.
pub record Measure (X : Type 0) : Type 0 where
  pub cost : X → Cost
  pub key : X → List ℕ
  pub tells : Cost → List ℕ → List ℕ

module _ {X : Type 0} (m : Measure X) where
  -- the cost as words
  abbrev pub pair : X → List ℕ
  pair c = (m.cost c).minutes ∷ (m.cost c).points ∷ []

  abbrev pub row : X → List ℕ
  row c = m.tells (m.cost c) (m.key c)

  -- cost and key as words, by which rows are ordered, and the row of such words
  abbrev pub entry : X → List ℕ
  entry c = (m.cost c).minutes ∷ (m.cost c).points ∷ m.key c

  abbrev pub told : List ℕ → List ℕ
  told [] = []
  told (d ∷ []) = []
  told (d ∷ p ∷ k) = m.tells (record { minutes = d; points = p }) k

  -- c dominates e
  abbrev pub over : (e c : X) → Bool
  over e c = dominates (m.cost c) (m.cost e)

  abbrev pub undominated : List X → X → Bool
  undominated l e = not (any (over e) l)

  -- c is shown rather than e: it dominates e, or has its cost and goes before it by the key
  abbrev pub ahead : (e c : X) → Bool
  ahead e c = over e c || (equal (m.cost c) (m.cost e) && before (m.key c) (m.key e))

  abbrev pub shown : List X → X → Bool
  shown l e = not (any (ahead e) l)

  -- the entries of those that are shown, rising: two of one cost and key are one entry
  unfoldable pub entries : List X → List (List ℕ)
  entries l = sort (map entry (filter (shown l) l))

  -- the rows of those that are shown, in rising duration
  unfoldable pub result : List X → List (List ℕ)
  result l = map told (entries l)

  -- "the costs on the list that no cost on the list dominates, each once, in rising duration"
  unfoldable pub costs : List X → List (List ℕ)
  costs l = sort (map pair (filter (undominated l) l))

-- The same in words, for a reader who does not care how it is computed.

-- "some connection on the list has that cost and none on the list dominates it"
pub record Undominated {X : Type 0} (m : Measure X) (l : List X) (c : X) : Type 0 where
  pub listed : c ∈ l
  pub free : (e : X) → e ∈ l → ¬ T (over m c e)

-- "the connection of that cost that document 01 picks from the list"
pub record Picked {X : Type 0} (m : Measure X) (l : List X) (c : X) : Type 0 where
  pub best : Undominated m l c
  pub first : (e : X) → e ∈ l → m.cost e ≡ m.cost c → ¬ T (before (m.key e) (m.key c))

-- "in rising duration"
abbrev pub Climbs : {X : Type 0} → Measure X → List X → Type 0
Climbs m [] = Unit {0}
Climbs {X} m (c ∷ l) = ((e : X) → e ∈ l → (m.cost c).minutes < (m.cost e).minutes) × Climbs m l

-- What demand 3 says of the rows. "A pair of duration and penalty stands in a row exactly when some connection on the
-- list has that cost and none on the list dominates it. Each such pair has one row, in rising duration, with the
-- connection of that cost that document 01 picks from the list; the row count is the number of these pairs; and the
-- reply is "none" exactly when the list is empty."
pub record Answers {X : Type 0} (m : Measure X) (l : List X) (rows : List (List ℕ)) : Type 0 where
  -- those that the rows show, row by row
  pub shows : List X
  pub rows_are : map (row m) shows ≡ rows
  pub pairs : (x : Cost)
      → ((c : X) × (c ∈ shows) × (m.cost c ≡ x)) ↔ ((c : X) × Undominated m l c × (m.cost c ≡ x))
  pub rising : Climbs m shows
  pub picked : (c : X) → c ∈ shows → Picked m l c
  pub count : length rows ≡ length (costs m l)
  pub none : (rows ≡ []) ↔ (l ≡ [])
