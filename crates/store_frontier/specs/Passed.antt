-- A pass over the departures, the last first. Whatever one who leaves a stop rides to or changes to leaves later, so
-- it was passed already and its bound is known. Of the departures of one station those passed are the ones at or behind
-- the last passed, which are those for which one who can change to it can wait as well; of these only the ones count
-- that are open to boarding.
use Rattle.std.specs.Prelude.{◌≡◌, refl, Bool, true, false, cond, ◌↔◌, ◌≢◌, List, [], ◌∷◌, ◌++◌, ℕ, suc, ◌+◌, ◌-◌, ◌≤◌}
use Rattle.std.specs.Prelude.{◌<◌, max, T, length, get_or, set}
use Rattle.std.proofs.Common.{sym, ap, subst, ◌∙◌, inl, inr, append_assoc, arith, get_or-set_same, get_or-set_other}
use mathlib.Core.List.Memᴰ.{head as here}
use mathlib.Core.List.Memᴰ.{tail as there}
use mathlib.Core.List.Memᴰ
use Rattle.std.proofs.Math.Decide.{ℕ_discrete, dec_lt}
use Rattle.lists.specs.Lists.{◌∈◌, Distinct}
use Rattle.lists.specs.Members.{none, cons_cases, append_cases}
use Rattle.timetable.specs.Words.{station_count, stop_at}
use Rattle.connections.specs.Rides.{may_board}
use Rattle.connections.specs.Connections.{Change}
use Rattle.store_stops.specs.Stopwise.{station, depart, points, nowhere, Goes, Boards}
use Rattle.store_stops.specs.OpenWays.{Open}
use Rattle.store_stops.specs.Prospects.{Onto, Onward, OntoWell, Bounded}
use Rattle.store_stops.specs.Settled.{Timely}
use Rattle.store_departures.specs.Order.{order, catch_by, Waits, waits_for, boards_at_lem, InOrder}
use Rattle.store_frontier.specs.Bounding.{Bounding}
use Rattle.store_frontier.specs.Parts.{standing, first_same, rest_same, distinct_rest}
use Rattle.store_frontier.specs.Ways.{Ways, onward_ways}

-- what one who leaves stop i can have paid, less than that, to end well: the most that changing at the next stop,
-- ending and staying aboard there allow, less the points of the ride
pub record LeaveBound (w e q leaving : List ℕ) (i b : ℕ) : Type 0 where
  pub onto : ℕ
  pub changing : Bounding w q (suc i) (Open w (suc i)) onto
  pub is : b ≡ max onto (max (get_or e (suc i) 0) (get_or leaving (suc i) 0)) - points w i

module _ (w e : List ℕ) (d : ℕ) where
  -- one who leaves stop i from minute d on ends well if they have paid less than word i
  abbrev pub Limits : (leaving : List ℕ) → Type 0
  Limits leaving = (i x : ℕ) → Goes w i → d ≤ depart w i → (x < get_or leaving i 0) ↔ Onward w e i x

  -- one of the list leaves station c from minute d on, and one who boards there, which it is open to, having paid x,
  -- ends well
  pub record Later (l : List ℕ) (c x : ℕ) : Type 0 where
    pub g : ℕ
    pub listed : g ∈ l
    pub boards : Boards w g
    pub here : station w g ≡ c
    pub timely : d ≤ depart w g
    pub onward : Onward w e g x

  -- what the arrays say once the departures of the list were passed
  pub record Passed (l q leaving high : List ℕ) : Type 0 where
    pub well : (i x : ℕ) → i ∈ l → d ≤ depart w i → (x < get_or leaving i 0) ↔ Onward w e i x
    pub only : (i x : ℕ) → x < get_or leaving i 0 → Goes w i
    pub highest : (c x : ℕ) → (x < get_or high c 0) ↔ Later l c x
    pub behind : (i x : ℕ) (xs ys : List ℕ) → l ≡ xs ++ (i ∷ ys) → d ≤ depart w i
        → (x < get_or q i 0) ↔ Later (i ∷ ys) (station w i) x

later_more : (w e : List ℕ) (d i : ℕ) (l : List ℕ) (c x : ℕ) → Later w e d l c x → Later w e d (i ∷ l) c x
later_more w e d i l c x h =
    record {
      g = h.g;
      listed = there h.listed;
      boards = h.boards;
      here = h.here;
      timely = h.timely;
      onward = h.onward;
    }

later_of : (w e : List ℕ) (d : ℕ) {k : List ℕ} (l : List ℕ) (c x : ℕ) (h : Later w e d k c x) → h.g ∈ l
    → Later w e d l c x
later_of w e d l c x h m =
    record { g = h.g; listed = m; boards = h.boards; here = h.here; timely = h.timely; onward = h.onward }

no_parts : {G : Type 0} (xs ys : List ℕ) (i : ℕ) → [] ≡ xs ++ (i ∷ ys) → G
no_parts xs ys i e = none {x = i} (subst (λ l. i ∈ l) (sym e) (Memᴰ.append_right xs (here refl)))

pub passed_none : (w e : List ℕ) (d : ℕ) (q leaving high : List ℕ)
    → ((i : ℕ) → get_or leaving i 0 ≡ 0) → ((c : ℕ) → get_or high c 0 ≡ 0) → Passed w e d [] q leaving high
passed_none w e d q leaving high zeros nulls =
    record {
      well = (λ i x m h. none m);
      only = (λ i x h. absurd (omega (arith, zeros i)));
      highest = (λ c x. (λ h. absurd (omega (arith, nulls c)), λ h. none h.listed));
      behind = (λ i x xs ys s h. no_parts xs ys i s);
    }

-- ---- one departure more, which leaves too early
module _ (w e : List ℕ) (d : ℕ) (l q leaving high : List ℕ) (i : ℕ) (early : depart w i < d) where
  passed_early : Passed w e d l q leaving high → Passed w e d (i ∷ l) q leaving high
  passed_early p =
      record {
        well =
            (λ k x m h. cons_cases m (λ z. absurd (omega (arith, ap (depart w) z))) (λ j. p.well k x j h));
        only = p.only;
        highest = (λ c x. (λ h. later_more w e d i l c x ((p.highest c x).0 h), λ h. (p.highest c x).1 (late c x h)));
        behind = (λ k x xs ys s h. parts k x xs ys s h);
      }
    where
      late : (c x : ℕ) → Later w e d (i ∷ l) c x → Later w e d l c x
      late c x h =
          cons_cases
          h.listed
          (λ z. absurd (omega (arith, ap (depart w) z, h.timely)))
          (λ j. later_of w e d l c x h j)

      parts : (k x : ℕ) (xs ys : List ℕ) → i ∷ l ≡ xs ++ (k ∷ ys) → d ≤ depart w k
          → (x < get_or q k 0) ↔ Later w e d (k ∷ ys) (station w k) x
      parts k x [] ys s h = absurd (omega (arith, ap (depart w) (first_same s)))
      parts k x (z ∷ xs) ys s h = p.behind k x xs ys (rest_same s) h

-- many, before those passed
pub passed_front : (w e : List ℕ) (d : ℕ) (front l q leaving high : List ℕ)
    → ((i : ℕ) → i ∈ front → depart w i < d) → Passed w e d l q leaving high → Passed w e d (front ++ l) q leaving high
passed_front w e d [] l q leaving high early p = p
passed_front w e d (i ∷ front) l q leaving high early p =
    passed_early w e d (front ++ l) q leaving high i (early i (here refl))
    (passed_front w e d front l q leaving high (λ k m. early k (there m)) p)

-- ---- changes
module _ (w e : List ℕ) (d : ℕ) (t : Timely w) (o : InOrder w) where
  module _ (i : ℕ) (goes : Goes w i) (timely : d ≤ depart w i) (way : Change) where
    reached : (g : ℕ) → Waits w way (suc i) g → depart w i < depart w g
    reached g h = omega (arith, t.before i goes, h.timely)

    -- what is caught this way and what is known of it
    module _ (opened : Open w (suc i) way) (q us ys : List ℕ) (some : catch_by w way (suc i) < nowhere)
        (parts : order w ≡ us ++ (catch_by w way (suc i) ∷ ys))
        (bound : (x : ℕ) → (x < get_or q (catch_by w way (suc i)) 0)
        ↔ Later w e d (catch_by w way (suc i) ∷ ys) (station w (catch_by w way (suc i))) x) where
      abbrev f : ℕ
      f = catch_by w way (suc i)

      there_too : (g : ℕ) → g ∈ f ∷ ys → station w g ≡ station w f → Waits w way (suc i) g
      there_too g m h =
          cons_cases
          m
          (λ z. subst (Waits w way (suc i)) (sym z) (o.caught way i goes some))
          (λ j. o.caught_behind way i g us ys goes parts j (h ∙ (o.caught way i goes some).there))

      pub caught_well : (x : ℕ) → (x + way.points < get_or q f 0) ↔ OntoWell w e way (suc i) x
      caught_well x = (to, from)
        where
          to : x + way.points < get_or q f 0 → OntoWell w e way (suc i) x
          to h =
              let r = (bound (x + way.points)).0 h in
              record {
                g = r.g;
                catches =
                    boards_at_lem w opened.listed opened.from (there_too r.g r.listed r.here) r.boards;
                leaves = r.onward;
              }

          from : OntoWell w e way (suc i) x → x + way.points < get_or q f 0
          from h =
              (bound (x + way.points)).1
              (record {
                g = h.g;
                listed = o.caught_first way i h.g us ys goes parts (waits_for w h.catches);
                boards = h.catches.boards;
                here = h.catches.to ∙ sym (o.caught way i goes some).there;
                timely = omega (arith, reached h.g (waits_for w h.catches));
                onward = h.leaves;
              })

  -- all were passed
  module _ (q leaving high : List ℕ) (p : Passed w e d (order w) q leaving high) where
    pub passed_all : Limits w e d leaving
    passed_all i x g h = p.well i x (o.all i g) h

    passed_there : (way : Change) (i x : ℕ) → Open w (suc i) way → Goes w i → d ≤ depart w i
        → catch_by w way (suc i) < nowhere
        → (x + way.points < get_or q (catch_by w way (suc i)) 0) ↔ OntoWell w e way (suc i) x
    passed_there way i x opened g h some =
        let f = catch_by w way (suc i) in
        let c = o.caught way i g some in
        let s = standing (o.all f c.goes) in
        caught_well i g h way opened q s.front s.back some s.whole
        (λ y. p.behind f y s.front s.back s.whole (omega (arith, reached i g h way f c)))
        x

    pub passed_bounded : Bounded w e d (catch_by w) q
    passed_bounded =
        record {
          there =
              (λ way i x listed from g h some.
              passed_there way i x (record { listed = listed; from = from }) g h some);
          none =
              (λ way i x listed from g h some o'.
              o.caught_none way i o'.g g some (waits_for w o'.catches));
        }

  -- ---- one departure more
  module _ (pre l q leaving high : List ℕ) (i : ℕ) (parts : order w ≡ pre ++ (i ∷ l))
      (p : Passed w e d l q leaving high) (timely : d ≤ depart w i) where
    goes : Goes w i
    goes = o.goes i (subst (λ m. i ∈ m) (sym parts) (Memᴰ.append_right pre (here refl)))

    -- what leaves later was passed
    passed : (g : ℕ) → Goes w g → depart w i < depart w g → g ∈ l
    passed g h late =
        append_cases
        pre
        (subst (λ m. g ∈ m) parts (o.all g h))
        (λ m. absurd (omega (arith, o.before pre l i g parts m)))
        (λ m. cons_cases m (λ z. absurd (omega (arith, ap (depart w) z))) (λ j. j))

    once : ¬ (i ∈ l)
    once = (distinct_rest pre (i ∷ l) (subst Distinct parts o.once)).0

    stays : (x : ℕ) → (x < get_or leaving (suc i) 0) ↔ (Goes w (suc i) × Onward w e (suc i) x)
    stays x = (λ h. let g = p.only (suc i) x h in (g, (known g).0 h), λ h. (known h.0).1 h.1)
      where
        known : Goes w (suc i) → (x < get_or leaving (suc i) 0) ↔ Onward w e (suc i) x
        known g =
            let late : depart w i < depart w (suc i) = omega (arith, t.before i goes, t.waits i goes g) in
            p.well (suc i) x (passed (suc i) g late) (omega arith)

    changes_some : (way : Change) → Open w (suc i) way → catch_by w way (suc i) < nowhere
        → (x : ℕ) → (x + way.points < get_or q (catch_by w way (suc i)) 0) ↔ OntoWell w e way (suc i) x
    changes_some way opened some x =
        let f = catch_by w way (suc i) in
        let c = o.caught way i goes some in
        let late = reached i goes timely way f c in
        let s = standing (passed f c.goes late) in
        let whole : order w ≡ (pre ++ (i ∷ s.front)) ++ (f ∷ s.back) =
        parts ∙ ap (λ m. pre ++ (i ∷ m)) s.whole ∙ sym (append_assoc pre (i ∷ s.front) (f ∷ s.back)) in
        caught_well i goes timely way opened q (pre ++ (i ∷ s.front)) s.back some whole
        (λ y. p.behind f y s.front s.back s.whole (omega arith))
        x

    module _ (b : ℕ) (is_b : LeaveBound w e q leaving i b) where
      changes : (x : ℕ) → (x < is_b.onto) ↔ Onto w e (Onward w e) (suc i) x
      changes x = (to, from)
        where
          to : x < is_b.onto → Onto w e (Onward w e) (suc i) x
          to h =
              let c = (is_b.changing.exactly x).0 h in
              record { way = c.way; onto = (changes_some c.way c.opened c.some x).0 c.below }

          from : Onto w e (Onward w e) (suc i) x → x < is_b.onto
          from h =
              let c = h.onto.catches in
              let opened : Open w (suc i) h.way = record { listed = c.listed; from = c.from } in
              elim (dec_lt (catch_by w h.way (suc i)) nowhere) [
                | yes some ↦
                    (is_b.changing.exactly x).1
                    (record {
                      way = h.way;
                      opened = opened;
                      some = some;
                      below = (changes_some h.way opened some x).1 h.onto;
                    })
                | no none ↦
                    absurd (o.caught_none h.way i h.onto.g goes (omega arith) (waits_for w c))
              ]

      leaves : (x : ℕ) → (x < b) ↔ Onward w e i x
      leaves x = (λ h. ways.1 (to (omega (arith, is_b.is))), λ h. from (ways.0 h))
        where
          ways : Onward w e i x ↔ Ways w e i x
          ways = onward_ways w e i x

          to : x + points w i < max is_b.onto (max (get_or e (suc i) 0) (get_or leaving (suc i) 0)) → Ways w e i x
          to h =
              elim (dec_lt (x + points w i) (get_or e (suc i) 0)) [
                | yes a ↦ inl a
                | no a ↦
                    elim (dec_lt (x + points w i) (get_or leaving (suc i) 0)) [
                      | yes b ↦ inr (inl ((stays (x + points w i)).0 b))
                      | no b ↦ inr (inr ((changes (x + points w i)).0 (omega arith)))
                    ]
              ]

          from : Ways w e i x → x < b
          from (inl h) = omega (arith, is_b.is)
          from (inr (inl h)) = omega (arith, is_b.is, (stays (x + points w i)).1 h)
          from (inr (inr h)) = omega (arith, is_b.is, (changes (x + points w i)).1 h)

    module _ (b y h : ℕ) (is_b : LeaveBound w e q leaving i b)
        (is_y : y ≡ cond (may_board (stop_at w i)) b 0)
        (is-h : h ≡ max (get_or high (station w i) 0) y)
        (long-q : length q ≡ 2048) (long-leaving : length leaving ≡ 2048) (long-high : length high ≡ 65)
        (few : station_count w ≤ 64) where
      inside : i < 2048
      inside = omega (arith, t.few i goes, t.stops)

      listed : station w i < 65
      listed = omega (arith, t.listed i goes)

      other : (k : ℕ) → k ∈ l → k ≢ i
      other k m z = once (Memᴰ.cast (sym z) m)

      known : (x : ℕ) → (x < b) ↔ Onward w e i x
      known = leaves b is_b

      now_well : (k x : ℕ) → k ∈ i ∷ l → d ≤ depart w k → (x < get_or (set leaving i b) k 0) ↔ Onward w e k x
      now_well k x m g =
          cons_cases
          m
          (λ z. rw (z, get_or-set_same leaving i b 0 (omega (arith, inside))) (known x))
          (λ j. rw (get_or-set_other leaving i k b 0 (other k j)) (p.well k x j g))

      now_only : (k x : ℕ) → x < get_or (set leaving i b) k 0 → Goes w k
      now_only k x g =
          elim (ℕ_discrete k i) [
            | yes z ↦ subst (Goes w) (sym z) goes
            | no z ↦ p.only k x (rw (get_or-set_other leaving i k b 0 z) at g)
          ]

      -- one who boards there ends well below y
      boarded : (x : ℕ) → (x < y) ↔ (Boards w i × Onward w e i x)
      boarded x = go (may_board (stop_at w i)) refl
        where
          go : (o : Bool) → may_board (stop_at w i) ≡ o → (x < y) ↔ (Boards w i × Onward w e i x)
          go true o =
              let same : y ≡ b = is_y ∙ rw o in (
                λ g. (record { goes = goes; opens = subst T (sym o) tt }, (known x).0 (omega arith)),
                λ g. omega (arith, same, (known x).1 g.1),
              )
          go false o =
              let none_there : y ≡ 0 = is_y ∙ rw o in
              (λ g. absurd (omega arith), λ g. absurd (subst T o g.0.opens))

      -- the highest of the station
      higher : (x : ℕ) → (x < h) ↔ Later w e d (i ∷ l) (station w i) x
      higher x = (to, from)
        where
          to : x < h → Later w e d (i ∷ l) (station w i) x
          to g =
              elim (dec_lt x y) [
                | yes a ↦
                    (let k = (boarded x).0 a in
                    record {
                      g = i;
                      listed = here refl;
                      boards = k.0;
                      here = refl;
                      timely = timely;
                      onward = k.1;
                    })
                | no a ↦ later_more w e d i l (station w i) x ((p.highest (station w i) x).0 (omega arith))
              ]

          from : Later w e d (i ∷ l) (station w i) x → x < h
          from g =
              cons_cases
              g.listed
              (λ z.
              omega (
                arith,
                (boarded x).1 (subst (Boards w) z g.boards, subst (λ k. Onward w e k x) z g.onward),
              ))
              (λ j. omega (arith, (p.highest (station w i) x).1 (later_of w e d l (station w i) x g j)))

      now_highest : (c x : ℕ) → (x < get_or (set high (station w i) h) c 0) ↔ Later w e d (i ∷ l) c x
      now_highest c x =
          elim (ℕ_discrete c (station w i)) [
            | yes z ↦ rw (z, get_or-set_same high (station w i) h 0 (omega (arith, listed))) (higher x)
            | no z ↦
                rw (get_or-set_other high (station w i) c h 0 z) (
                  λ g. later_more w e d i l c x ((p.highest c x).0 g),
                  λ g.
                      (p.highest c x).1
                      (cons_cases
                      g.listed
                      (λ y. absurd (z (sym g.here ∙ ap (station w) y)))
                      (λ j. later_of w e d l c x g j)),
                )
          ]

      now_behind : (k x : ℕ) (xs ys : List ℕ) → i ∷ l ≡ xs ++ (k ∷ ys) → d ≤ depart w k
          → (x < get_or (set q i h) k 0) ↔ Later w e d (k ∷ ys) (station w k) x
      now_behind k x [] ys s g =
          subst
          (λ m. (x < get_or (set q i h) m 0) ↔ Later w e d (m ∷ ys) (station w m) x)
          (first_same s)
          (subst
          (λ m. (x < get_or (set q i h) i 0) ↔ Later w e d (i ∷ m) (station w i) x)
          (rest_same s)
          (rw (get_or-set_same q i h 0 (omega (arith, inside))) (higher x)))
      now_behind k x (z ∷ xs) ys s g =
          let m : k ∈ l = subst (λ m. k ∈ m) (sym (rest_same s)) (Memᴰ.append_right xs (here refl)) in
          rw (get_or-set_other q i k h 0 (other k m)) (p.behind k x xs ys (rest_same s) g)

      pub passed_more : Passed w e d (i ∷ l) (set q i h) (set leaving i b) (set high (station w i) h)
      passed_more =
          record { well = now_well; only = now_only; highest = now_highest; behind = now_behind }
