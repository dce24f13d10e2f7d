-- The rides that the code keeps, four words for each minute of arrival: of the rides with the least penalty of that
-- minute the one that goes before all others. So the rows that it writes from these words are those of the rides that
-- are shown. No reader of the promise needs this file.
use Rattle.std.specs.Prelude.{◌≡◌, Bool, ◌&&◌, ℕ, ◌+◌, ◌*◌, ◌≤◌, ◌<◌, eqb, set, take, drop}
use Rattle.std.proofs.Math.Path.{refl, ap}
use Rattle.std.proofs.Common.{sym, subst, ◌∙◌, add-zero, arith, length-append, length-take, get_or-append-add}
use Rattle.std.proofs.Common.{get_or-set_other, length-take-le}
use Rattle.std.proofs.Math.Bool.{true, false, cond}
use mathlib.Core.List.Memᴰ.{head as here}
use mathlib.Core.List.Memᴰ.{tail as there}
use mathlib.Core.List.{List, [], ◌∷◌, ◌++◌, map}
use Rattle.std.proofs.Math.Decide.{ℕ_discrete}
use borrow.Author.Tests.{lt-ltb, eq-eqb, ne_eqb, ltb-true}
use Rattle.std.proofs.Math.Dec.{ltb}
use Rattle.std.proofs.Math.ListN.{length, get_or, get_or-append}
use Rattle.words.specs.Put.{put, put_three, put_more, length_put}
use Rattle.lists.specs.Lists.{◌∈◌, keep, filter}
use Rattle.results.specs.Results.{Cost}
use Rattle.connections.specs.Rides.{Ride}
use Rattle.query_minutes.specs.Minutes.{no_points, leads}
use Rattle.query_minutes.specs.Noted.{get_d_any, Led, led_exactly}
use Rattle.query_kept.specs.Choosing.{Found, found_of, no_found, goes_before, better, pick_from, of_cost, pick_for}
use Rattle.query_kept.specs.Choosing.{row_for, rows_from}

-- the ride that the words of minute m tell
unfoldable pub kept_at : List ℕ → (m : ℕ) → Found
kept_at kept m =
    record {
      depart = get_or kept (4 * m) 0;
      trip = get_or kept (4 * m + 1) 0;
      board = get_or kept (4 * m + 2) 0;
      alight = get_or kept (4 * m + 3) 0;
    }

abbrev pub ride_words : Found → List ℕ
ride_words f = f.depart ∷ f.trip ∷ f.board ∷ f.alight ∷ []

-- a ride that arrives at minute m takes the place of the one kept, if it goes before that
unfoldable pub kept_with : List ℕ → (m : ℕ) → Found → List ℕ
kept_with kept m f = cond (goes_before f (kept_at kept m)) (put (4 * m) (ride_words f) kept) kept

-- but only if its penalty is the least of that minute
unfoldable pub kept_on : (best kept : List ℕ) → Ride → List ℕ
kept_on best kept r =
    cond
    (ltb r.arrive 2880 && eqb r.points (get_or best r.arrive 0))
    (kept_with kept r.arrive (found_of r))
    kept

-- after some rides more
unfoldable pub keep_all : (best kept : List ℕ) → List Ride → List ℕ
keep_all best kept [] = kept
keep_all best kept (r ∷ l) = keep_all best (kept_on best kept r) l

-- for the first n minutes none is kept
pub record Unkept (kept : List ℕ) (n : ℕ) : Type 0 where
  pub none : (m : ℕ) → m < n → kept_at kept m ≡ no_found

-- the least penalty of minute m
abbrev pub cost_at : List ℕ → (m : ℕ) → Cost
cost_at best m = record { minutes = m; points = get_or best m 0 }

-- the ride shown for it is kept, for every minute
pub record Keeps (best kept : List ℕ) (l : List Ride) : Type 0 where
  pub shown : (m : ℕ) → m < 2880 → kept_at kept m ≡ pick_for l (cost_at best m)

-- the rows of the kept rides, for a query at minute u
unfoldable pub rows_kept : (u : ℕ) → List ℕ → List Cost → List (List ℕ)
rows_kept u kept cs = map (λ c. row_for u c (kept_at kept c.minutes)) cs

-- the row for minute and penalty c, if that is below the least penalty so far
unfoldable pub lead_words : (u : ℕ) → List ℕ → Cost → (least : ℕ) → List ℕ
lead_words u kept c least = cond (ltb c.points least) (row_for u c (kept_at kept c.minutes)) []

-- ---- what is put down for one minute

-- a word of what was put
put_word : (at j : ℕ) (ws old : List ℕ) → at ≤ length old → j < length ws
    → get_or (put at ws old) (at + j) 0 ≡ get_or ws j 0
unfolding put
put_word at j ws old h g =
    let long : length (take at old) ≡ at = length-take-le at old h in
    let inside : at + j < length (take at old ++ ws) = simp (length-append, length-take) (omega arith) in
    get_or-append (take at old ++ ws) (drop (at + length ws) old) 0 (at + j) inside
    ∙ ap (λ n. get_or (take at old ++ ws) (n + j) 0) (sym long)
    ∙ get_or-append-add (take at old) ws j 0

module _ (kept : List ℕ) (m : ℕ) (f : Found) (room : 4 * m + 4 ≤ length kept) where
  abbrev after : List ℕ
  after = put (4 * m) (ride_words f) kept

  pub put_here : kept_at (put (4 * m) (ride_words f) kept) m ≡ f
  unfolding kept_at
  put_here =
      let word : (j : ℕ) → j < 4 → get_or after (4 * m + j) 0 ≡ get_or (ride_words f) j 0
      = (λ j h. put_word (4 * m) j (ride_words f) kept (omega arith) h) in
      let depart = ap (λ i. get_or after i 0) (sym (add-zero (4 * m))) ∙ word 0 (omega arith) in
      let trip = word 1 (omega arith) in
      let board = word 2 (omega arith) in
      let alight = word 3 (omega arith) in
      λ i. record { depart = depart i; trip = trip i; board = board i; alight = alight i }

  -- any other word stays
  other_word : (i : ℕ) → (i ≡ 4 * m → ⊥) → (i ≡ 4 * m + 1 → ⊥) → (i ≡ 4 * m + 2 → ⊥) → (i ≡ 4 * m + 3 → ⊥)
      → get_or after i 0 ≡ get_or kept i 0
  other_word i a b c d =
      let at = 4 * m in
      let one = set kept at f.depart in
      let two = set one (at + 1) f.trip in
      let three = set two (at + 2) f.board in
      let front = f.depart ∷ f.trip ∷ f.board ∷ [] in
      let all : set three (at + 3) f.alight ≡ put at (ride_words f) kept =
      ap (λ l. set l (at + 3) f.alight) (put_three at kept f.depart f.trip f.board (omega (arith, room)))
      ∙ put_more at 3 front kept f.alight refl (omega (arith, room)) in
      ap (λ l. get_or l i 0) (sym all)
      ∙ get_or-set_other three (at + 3) i f.alight 0 d
      ∙ get_or-set_other two (at + 2) i f.board 0 c
      ∙ get_or-set_other one (at + 1) i f.trip 0 b
      ∙ get_or-set_other kept at i f.depart 0 a

  pub put_elsewhere : (e : ℕ) → (e ≡ m → ⊥) → kept_at (put (4 * m) (ride_words f) kept) e ≡ kept_at kept e
  unfolding kept_at
  put_elsewhere e h =
      let depart = other_word (4 * e) (omega arith) (omega arith) (omega arith) (omega arith) in
      let trip = other_word (4 * e + 1) (omega arith) (omega arith) (omega arith) (omega arith) in
      let board = other_word (4 * e + 2) (omega arith) (omega arith) (omega arith) (omega arith) in
      let alight = other_word (4 * e + 3) (omega arith) (omega arith) (omega arith) (omega arith) in
      λ i. record { depart = depart i; trip = trip i; board = board i; alight = alight i }

-- ---- one ride
module _ (kept : List ℕ) (m : ℕ) (f : Found) (room : 4 * m + 4 ≤ length kept) where
  with_here : kept_at (kept_with kept m f) m ≡ better (kept_at kept m) f
  unfolding kept_with
  with_here = go (goes_before f (kept_at kept m))
    where
      go : (b : Bool)
          → kept_at (cond b (put (4 * m) (ride_words f) kept) kept) m ≡ cond b f (kept_at kept m)
      go true = put_here kept m f room
      go false = refl

  with_elsewhere : (e : ℕ) → (e ≡ m → ⊥) → kept_at (kept_with kept m f) e ≡ kept_at kept e
  unfolding kept_with
  with_elsewhere e h = go (goes_before f (kept_at kept m))
    where
      go : (b : Bool) → kept_at (cond b (put (4 * m) (ride_words f) kept) kept) e ≡ kept_at kept e
      go true = put_elsewhere kept m f room e h
      go false = refl

  with_long : length (kept_with kept m f) ≡ length kept
  unfolding kept_with
  with_long = go (goes_before f (kept_at kept m))
    where
      go : (b : Bool) → length (cond b (put (4 * m) (ride_words f) kept) kept) ≡ length kept
      go true = length_put (4 * m) (ride_words f) kept room
      go false = refl

-- a ride is kept for its minute only, and only if it has the least penalty of that minute
module _ (best kept : List ℕ) (r : Ride) (long : length kept ≡ 11520) where
  on_long : length (kept_on best kept r) ≡ 11520
  unfolding kept_on
  on_long = go (ltb r.arrive 2880) refl (eqb r.points (get_or best r.arrive 0))
    where
      go : (a : Bool) → ltb r.arrive 2880 ≡ a → (b : Bool)
          → length (cond (a && b) (kept_with kept r.arrive (found_of r)) kept) ≡ 11520
      go true e true = with_long kept r.arrive (found_of r) (omega (arith, ltb-true r.arrive 2880 e, long)) ∙ long
      go true e false = long
      go false e b = long

  module _ (m : ℕ) where
    abbrev Turn : Type 0
    Turn =
        kept_at (kept_on best kept r) m
        ≡ cond (of_cost (cost_at best m) r) (better (kept_at kept m) (found_of r)) (kept_at kept m)

    elsewhere : (r.arrive ≡ m → ⊥) → Turn
    unfolding kept_on
    elsewhere e =
        rw (ne_eqb r.arrive m e) (go (ltb r.arrive 2880) refl (eqb r.points (get_or best r.arrive 0)))
      where
        go : (a : Bool) → ltb r.arrive 2880 ≡ a → (b : Bool)
            → kept_at (cond (a && b) (kept_with kept r.arrive (found_of r)) kept) m ≡ kept_at kept m
        go true t true =
            let room : 4 * r.arrive + 4 ≤ length kept = omega (arith, ltb-true r.arrive 2880 t, long) in
            with_elsewhere kept r.arrive (found_of r) room m (λ q. e (sym q))
        go true t false = refl
        go false t b = refl

  at_own : r.arrive < 2880 → Turn r.arrive
  unfolding kept_on
  at_own h =
      rw
      (lt-ltb r.arrive 2880 h, eq-eqb r.arrive r.arrive refl)
      (go (eqb r.points (get_or best r.arrive 0)))
    where
      go : (b : Bool)
          → kept_at (cond b (kept_with kept r.arrive (found_of r)) kept) r.arrive
          ≡ cond b (better (kept_at kept r.arrive) (found_of r)) (kept_at kept r.arrive)
      go true = with_here kept r.arrive (found_of r) (omega (arith, long))
      go false = refl

  on_minute : (m : ℕ) → m < 2880 → Turn m
  on_minute m h =
      elim (ℕ_discrete r.arrive m) [
        | yes e ↦ subst Turn e (at_own (omega (arith, e)))
        | no e ↦ elsewhere m e
      ]

-- ---- all rides
module _ (best : List ℕ) (m : ℕ) (h : m < 2880) where
  kept_from : (l : List Ride) (kept : List ℕ) → length kept ≡ 11520
      → kept_at (keep_all best kept l) m ≡ pick_from (kept_at kept m) (filter (of_cost (cost_at best m)) l)
  unfolding keep_all pick_from
  kept_from [] kept long = refl
  kept_from (r ∷ l) kept long =
      kept_from l (kept_on best kept r) (on_long best kept r long)
      ∙ ap (λ f. pick_from f those) (on_minute best kept r long m h)
      ∙ go (of_cost (cost_at best m) r)
    where
      those : List Ride
      those = filter (of_cost (cost_at best m)) l

      go : (b : Bool)
          → pick_from (cond b (better (kept_at kept m) (found_of r)) (kept_at kept m)) those
          ≡ pick_from (kept_at kept m) (keep b r those)
      go true = refl
      go false = refl

-- where none was kept before
pub keeps_all : (best old none after : List ℕ) (l : List Ride) → length old ≡ 11520 → length none ≡ length old
    → Unkept none 2880 → after ≡ keep_all best none l → Keeps best after l
keeps_all best old none after l long same unkept e =
    record {
      shown = λ m h.
          ap (λ k. kept_at k m) e
          ∙ kept_from best m h l none (same ∙ long)
          ∙ ap (λ f. pick_from f (filter (of_cost (cost_at best m)) l)) (unkept.none m h);
    }

-- ---- so their rows are those of the rides shown
pub rows_kept_lem : (u : ℕ) (best kept : List ℕ) (l : List Ride) → length best ≡ 2880 → Keeps best kept l
    → rows_kept u kept (leads no_points 0 best) ≡ rows_from u l (leads no_points 0 best)
unfolding rows_kept rows_from
rows_kept_lem u best kept l long keeps =
    each (leads no_points 0 best) (λ c i. led c ((led_exactly no_points best no_points 0 c).0 i))
  where
    led : (c : Cost) → Led no_points no_points 0 best c → kept_at kept c.minutes ≡ pick_for l c
    led c k =
        let inside : c.minutes < 2880 = omega (arith, k.at, k.there, long) in
        keeps.shown c.minutes inside ∙ ap (pick_for l) same
      where
        place : c.minutes ≡ k.place
        place = omega (arith, k.at)

        same : cost_at best c.minutes ≡ c
        same =
            let points =
            ap (λ m. get_or best m 0) place ∙ get_d_any best k.place 0 no_points k.there ∙ k.is in
            λ i. record { minutes = c.minutes; points = points i }

    each : (cs : List Cost) → ((c : Cost) → c ∈ cs → kept_at kept c.minutes ≡ pick_for l c)
        → rows_kept u kept cs ≡ rows_from u l cs
    each [] h = refl
    each (c ∷ cs) h = cc (ap (row_for u c) (h c (here refl)), each cs (λ e i. h e (there i)))
