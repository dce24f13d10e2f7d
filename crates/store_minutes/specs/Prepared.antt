-- The arrays that the store call prepares: departures and arrivals in their order, and what each arrival catches, as
-- the later passes rely on them.
use Rattle.std.specs.Prelude.{◌≡◌, true, List, ℕ, zero, suc, ◌+◌, ◌-◌, ◌≤◌, ◌<◌, length, get_or, take, drop, set}
use Rattle.std.proofs.Common.{sym, ap, subst, ◌∙◌, add-zero, arith, length-set, length-take, take-take, get_or-set_same}
use Rattle.std.proofs.Common.{get_or-set_other}
use Rattle.std.proofs.Math.Seq.{slice}
use Rattle.words.specs.Put.{put, take_put}
use Rattle.lists.specs.Lists.{◌∈◌, Distinct}
use Rattle.timetable.specs.Words.{station_count, walk_count, is_timetable}
use Rattle.timetable.specs.Access.{stations_few}
use Rattle.store_stops.specs.Stopwise.{station}
use Rattle.store_stops.specs.TimelyLaws.{timely}
use Rattle.store_departures.specs.Order.{begin_of, order, chain, arrivals, station_keys, by_key}
use Rattle.store_departures.specs.Keys.{Begins}
use Rattle.store_departures.specs.Legs.{by_arrival}
use Rattle.store_departures.specs.Catches.{Caught}
use Rattle.store_departures.specs.Held.{Priced, Front, Standing, KeptAll, Departures}
use Rattle.store_departures.specs.InOrderLaws.{in_order}
use Rattle.store_departures.specs.Parts.{
  begin_next,
  begin_is,
  arrived,
  arriving,
  arrivals_part,
  arriving_out,
  arriving_in,
}
use Rattle.store_departures.specs.Parts.{arriving_distinct, arriving_behind, leaving_few, order_length}
use Rattle.store_penalties.specs.Arranged.{Arranged}
use Rattle.store_frontier.specs.Arrivals.{Tells, Arrivals, part}
use Rattle.store_frontier.specs.Routes.{Routes}
use Rattle.store_marks.specs.Held.{Changes}

-- ---- the departures by minute
pub record Ordered (w listed : List ℕ) (n : ℕ) : Type 0 where
  pub departing : take n listed ≡ order w
  pub counted : n ≡ length (order w)
  pub long : length listed ≡ 2048

module _ (w listed : List ℕ) (n : ℕ) (counted : n ≡ length (order w)) (old : List ℕ) (is : listed ≡ put 0 (order w) old)
  where
    pub order_first : take n listed ≡ order w
    order_first = ap (λ k. take k listed) counted ∙ ap (take (length (order w))) is ∙ take_put (order w) old

    pub ordered : length listed ≡ 2048 → Ordered w listed n
    ordered long = record { departing = order_first; counted = counted; long = long }

pub routes : (w : List ℕ) → 16384 ≤ length w → is_timetable w ≡ true → (listed : List ℕ) (n : ℕ) → Ordered w listed n
    → (caught : List ℕ) → Caught w caught → length caught ≡ 2048 → Routes w listed n caught
routes w long ok listed n o caught c room =
    record {
      long = long;
      accepted = ok;
      timely = timely w ok;
      ordered = in_order w ok;
      departing = o.departing;
      within =
          omega (
            arith,
            o.counted,
            o.long,
            order_length w ok,
            leaving_few w ok,
            (timely w ok).stops,
          );
      caught = c.is;
      long_first = room;
    }

module _ (w listed : List ℕ) (n : ℕ) (caught : List ℕ) (r : Routes w listed n caught) where
  pub long_enough_lem : 16384 ≤ length w
  long_enough_lem = r.long

  pub accepted : is_timetable w ≡ true
  accepted = r.accepted

  pub counted_order : n ≡ length (order w)
  counted_order = omega (arith, r.within, ap length r.departing, length-take n listed)

  pub arranged : Arranged w listed caught
  arranged =
      record {
        timetable = r.accepted;
        timely = r.timely;
        ordered = r.ordered;
        departs = ap (λ k. take k listed) (sym counted_order) ∙ r.departing;
        catches = r.caught;
      }

  pub changes : Changes w caught
  changes = record { caught_long = r.long_first; caught_is = r.caught }

-- ---- the departures by station
pub standing_of : (w chained first old : List ℕ) → chained ≡ put 0 (chain w) old → length chained ≡ 20480
    → Begins (station w) 65 (order w) first → 65 < length first → Standing w chained first
standing_of w chained first old is long begins listed =
    record {
      chain_long = long;
      chain_is = ap (take (length (chain w))) is ∙ take_put (chain w) old;
      first_listed = listed;
      begins = begins;
    }

-- what changes cost, and how many walks there are, is written behind where departures begin
pub record PricedBehind (w begun all : List ℕ) : Type 0 where
  pub front : Front 66 begun all
  pub priced : Priced w all
  pub walks_counted : get_or all 131 0 ≡ walk_count w
  pub long : length all ≡ 132

pub priced_behind : (w : List ℕ) → is_timetable w ≡ true → (begun first all : List ℕ) → Front 66 begun first
    → Priced w first → length first ≡ 132 → all ≡ set first 131 (walk_count w) → length all ≡ 132
    → PricedBehind w begun all
priced_behind w ok begun first all front priced room is long =
    record {
      front = record { same = λ m h. as_was m (omega arith) ∙ front.same m h };
      priced =
          record {
            price = λ c h g. as_was (66 + c) (omega (arith, stations_few w ok)) ∙ priced.price c h g;
          };
      walks_counted = rw is (get_or-set_same first 131 (walk_count w) 0 (omega arith));
      long = long;
    }
  where
    as_was : (m : ℕ) → m < 131 → get_or all m 0 ≡ get_or first m 0
    as_was m h = rw is (get_or-set_other first 131 m (walk_count w) 0 (λ e. omega arith))

pub departures_of : (w chained begun all : List ℕ) → Standing w chained begun → KeptAll w chained
    → PricedBehind w begun all → Departures w chained all
departures_of w chained begun all stands kept behind =
    record {
      standing =
          record {
            chain_long = stands.chain_long;
            chain_is = stands.chain_is;
            first_listed = omega (arith, behind.long);
            begins =
                record {
                  begin = λ m h. behind.front.same m (omega arith) ∙ stands.begins.begin m h;
                };
          };
      all_kept = kept;
      first_long = behind.long;
      priced = behind.priced;
      walks_counted = behind.walks_counted;
    }

-- ---- where the parts of a list by key begin and end
module _ (key : ℕ → ℕ) (l : List ℕ) where
  begins_rise : (m k : ℕ) → begin_of key m l ≤ begin_of key (m + k) l
  begins_rise m zero = rw (add-zero m) (omega arith)
  begins_rise m (suc k) =
      let next : m + suc k ≡ m + k + 1 = omega arith in
      rw next (omega (arith, begins_rise m k, begin_next key l (m + k)))

  begins_inside : (m bound : ℕ) → m ≤ bound → begin_of key m l ≤ length (by_key key bound l)
  begins_inside m bound h =
      let last : m + (bound - m) ≡ bound = omega arith in
      omega (arith, begins_rise m (bound - m), ap (λ k. begin_of key k l) last, begin_is key l bound)

-- ---- the arrivals by station
module _ (w : List ℕ) (yes : is_timetable w ≡ true) (listed first old : List ℕ)
    (is : listed ≡ put 0 (arrivals w) old) (begins : Begins (station w) 65 (by_arrival w) first) where
  begin_at : (m : ℕ) → m ≤ 65 → get_or first m 0 ≡ begin_of (station w) m (arrived w)
  unfolding by_arrival
  begin_at m h = begins.begin m h

  front : take (length (arrivals w)) listed ≡ arrivals w
  front = ap (take (length (arrivals w))) is ∙ take_put (arrivals w) old

  begin_most : (m : ℕ) → m ≤ 65 → begin_of (station w) m (arrived w) ≤ length (arrivals w)
  unfolding arrivals
  begin_most m h = begins_inside (station w) (arrived w) m station_keys h

  module _ (c : ℕ) (few : c ≤ 64) where
    part_is : part listed first c ≡ arriving w c
    part_is =
        let b = begin_at c (omega arith) in
        let e = begin_at (c + 1) (omega arith) in
        let inside = begin_most (c + 1) (omega arith) in
        ap (drop (get_or first c 0))
        (sym (take-take (get_or first (c + 1) 0) (length (arrivals w)) listed (omega arith))
        ∙ ap (take (get_or first (c + 1) 0)) front)
        ∙ ap (λ k. slice k (get_or first (c + 1) 0) (arrivals w)) b
        ∙ ap (λ k. slice (begin_of (station w) c (arrived w)) k (arrivals w)) e
        ∙ arrivals_part w c few

    part_rises : get_or first c 0 ≤ get_or first (c + 1) 0
    part_rises =
        omega (
          arith,
          begin_at c (omega arith),
          begin_at (c + 1) (omega arith),
          begin_next (station w) (arrived w) c,
        )

    part_inside : get_or first (c + 1) 0 ≤ length listed
    part_inside =
        omega (
          arith,
          begin_at (c + 1) (omega arith),
          begin_most (c + 1) (omega arith),
          ap length front,
          length-take (length (arrivals w)) listed,
        )

  listed_of : length first ≡ 67 → Tells w (get_or first 66 0) → Arrivals w listed first
  listed_of long tells =
      record {
        long_first = long;
        tells = tells;
        rises = (λ c s h. part_rises c (few c h));
        inside = (λ c s h. part_inside c (few c h));
        within =
            (λ c k s h m.
            let r = arriving_out w c k (subst (λ l. k ∈ l) (part_is c (few c h)) m) in
            record { i = r.i; goes = r.goes; next = r.is; here = r.here });
        all =
            (λ i g.
            subst
            (λ l. suc i ∈ l)
            (sym (part_is (station w (suc i)) (few (station w (suc i)) ((timely w yes).next_listed i g))))
            (arriving_in w yes i g));
        once = (λ c s h. subst Distinct (sym (part_is c (few c h))) (arriving_distinct w yes c));
        rising =
            (λ c j k xs ys s h e m.
            arriving_behind w c xs ys j k (sym (part_is c (few c h)) ∙ e) m);
      }
    where
      few : (c : ℕ) → c ≤ station_count w → c ≤ 64
      few c h = omega (arith, stations_few w yes)

-- and whether riders may alight at all stops, behind where the arrivals of stations begin
pub arrivals_of : (w : List ℕ) → is_timetable w ≡ true → (listed begun all old : List ℕ) (x : ℕ)
    → listed ≡ put 0 (arrivals w) old → Begins (station w) 65 (by_arrival w) begun → length begun ≡ 67 → Tells w x
    → all ≡ set begun 66 x → Arrivals w listed all
arrivals_of w ok listed begun all old x is begins long tells e =
    listed_of w ok listed all old is
    (record {
      begin = λ m h.
          ap (λ l. get_or l m 0) e ∙ get_or-set_other begun 66 m x 0 (λ q. omega arith) ∙ begins.begin m h;
    })
    (ap length e ∙ length-set begun 66 x ∙ long)
    (subst (Tells w) (sym (ap (λ l. get_or l 66 0) e ∙ get_or-set_same begun 66 x 0 (omega arith))) tells)
