-- The marks of some nodes over the departures of the source, one after the other: a minute at which several depart is
-- looked at once.
use Rattle.std.specs.Prelude.{◌≡◌, refl, true, ◌⊎◌, ◌↔◌, List, ℕ, suc, ◌+◌, ◌-◌, ◌*◌, ◌^◌, ◌≤◌, ◌<◌, T, ltb, length}
use Rattle.std.specs.Prelude.{get_or}
use Rattle.std.proofs.Common.{sym, ap, subst, ◌∙◌, inl, inr, arith, ltb→lt, nltb→le}
use Rattle.lists.specs.Lists.{◌∈◌}
use Rattle.lists.specs.Tests.{either}
use Rattle.timetable.specs.Words.{station_count, is_timetable}
use Rattle.timetable.specs.Access.{stations_few}
use Rattle.store_stops.specs.Stopwise.{station, depart, Goes}
use Rattle.store_stops.specs.TimelyLaws.{timely}
use Rattle.store_departures.specs.Order.{waiting}
use Rattle.store_departures.specs.Parts.{waiting_in, waiting_out}
use Rattle.store_departures.specs.Held.{Departures, goes_few, part_ordered, part_most, part_is, part_in}
use Rattle.store_frontier.specs.Routes.{Routes}
use Rattle.store_frontier.specs.Arrivals.{placed}
use Rattle.store_slots.specs.Slots.{transfer_at}
use Rattle.store_marks.specs.Marking.{Slotted}
use Rattle.store_tree.specs.Tree.{has_arc, has_kid, node_at}
use Rattle.stores.specs.Stored.{sequences}
use Rattle.store_nodes.specs.Minutes.{Once, KidAt, node_even, arc_stored, kid_stored}
use Rattle.store_nodes.specs.Standing.{ArcsAt, KidsAt}
use Rattle.store_nodes.specs.Chunk.{Down, Raised, Shown, shown_more, shown_same}

-- at the minute of one of the departures at places from up to p
pub record Seen (w chained : List ℕ) (from p : ℕ) (At : ℕ → Type 0) : Type 0 where
  pub r : ℕ
  pub begun : from ≤ r
  pub inside : r < p
  pub at : At (depart w (get_or chained r 0))

-- of n flags for each node those are up that the departures at these places tell, for arcs as for kids
abbrev pub Up : (n : ℕ) (w chained : List ℕ) (from p : ℕ) (At : (d v k : ℕ) → Type 0) (lo hi : ℕ) (flags : List ℕ)
    → Type 0
Up n w chained from p At lo hi flags = Shown n (λ v k. Seen w chained from p (λ d. At d v k)) lo hi flags

-- the flags say this of the departures up to place p, of which the last was at that minute
pub record Sought (w : List ℕ) (a : ℕ) (chained : List ℕ) (from p last lo hi : ℕ) (arcs kids : List ℕ) : Type 0 where
  pub arcs_up : Up 64 w chained from p (ArcsAt w a) lo hi arcs
  pub kids_up : Up 320 w chained from p (KidsAt w a) lo hi kids
  pub seen_last : (last ≡ 2880) ⊎ Seen w chained from p (λ d. d ≡ last)

-- node v has an arc to the station whose flag is at index k, and a kid by the change whose flag is at slot s
abbrev pub ArcFlag : (w : List ℕ) (a v k : ℕ) → Type 0
ArcFlag w a v k = T (has_arc (sequences w a) (node_at (sequences w a) v) (suc k))

abbrev pub KidFlag : (w : List ℕ) (a v s : ℕ) → Type 0
KidFlag w a v s = Slotted w (λ b. T (has_kid (sequences w a) (node_at (sequences w a) v) b)) s

-- the flags of the nodes from lo up to hi are those of their arcs and kids
pub record Chunked (w : List ℕ) (a lo hi : ℕ) (arcs kids : List ℕ) : Type 0 where
  pub arcs_up : Shown 64 (ArcFlag w a) lo hi arcs
  pub kids_up : Shown 320 (KidFlag w a) lo hi kids

module _ (w chained : List ℕ) (from p : ℕ) where
  seen_weaken : (At : ℕ → Type 0) → Seen w chained from p At → Seen w chained from (p + 1) At
  seen_weaken At s = record { r = s.r; begun = s.begun; inside = omega (arith, s.inside); at = s.at }

  pub seen_cases : (At : ℕ → Type 0) → Seen w chained from (p + 1) At
      → Seen w chained from p At ⊎ At (depart w (get_or chained p 0))
  seen_cases At s =
      either
      (ltb s.r p)
      (λ t. inl (record { r = s.r; begun = s.begun; inside = ltb→lt s.r p t; at = s.at }))
      (λ t.
      let h = nltb→le s.r p t in
      let e : s.r ≡ p = omega (arith, s.inside) in
      inr (subst (λ r. At (depart w (get_or chained r 0))) e s.at))

  module _ (begun : from ≤ p) (At : ℕ → Type 0) where
    seen_here : At (depart w (get_or chained p 0)) → Seen w chained from (p + 1) At
    seen_here h = record { r = p; begun = begun; inside = omega arith; at = h }

    seen_next : Seen w chained from (p + 1) At ↔ (Seen w chained from p At ⊎ At (depart w (get_or chained p 0)))
    seen_next = (seen_cases At, λ e. (elim e [ inl s ↦ seen_weaken At s | inr h ↦ seen_here h ]))

    -- the same minute once more
    seen_again : (last : ℕ) → (last ≡ 2880) ⊎ Seen w chained from p (λ d. d ≡ last) → last ≤ 2879
        → depart w (get_or chained p 0) ≡ last → Seen w chained from (p + 1) At ↔ Seen w chained from p At
    seen_again last l few e = (to, seen_weaken At)
      where
        earlier : At last → Seen w chained from p At
        earlier h =
            elim l [
              | inl z ↦ absurd (omega arith)
              | inr s ↦ record { r = s.r; begun = s.begun; inside = s.inside; at = subst At (sym s.at) h }
            ]

        to : Seen w chained from (p + 1) At → Seen w chained from p At
        to s = elim (seen_cases At s) [ inl z ↦ z | inr h ↦ earlier (subst At e h) ]

  -- ---- the flags of one more departure
  module _ (begun : from ≤ p) (n lo hi : ℕ) (At : (d v k : ℕ) → Type 0) (flags : List ℕ)
      (up : Up n w chained from p At lo hi flags) where
    up_again : (last : ℕ) → (last ≡ 2880) ⊎ Seen w chained from p (λ d. d ≡ last) → last ≤ 2879
        → depart w (get_or chained p 0) ≡ last → Up n w chained from (p + 1) At lo hi flags
    up_again last l few e =
        shown_same n lo hi
        (λ v b. Seen w chained from p (λ d. At d v b))
        (λ v b. Seen w chained from (p + 1) (λ d. At d v b))
        flags
        up
        (λ v b. seen_again begun (λ d. At d v b) last l few e)

    up_next : (d : ℕ) (flags' : List ℕ) → d ≡ depart w (get_or chained p 0) → Raised n (At d) lo hi flags flags'
        → Up n w chained from (p + 1) At lo hi flags'
    up_next d flags' is raised =
        shown_more n lo hi
        (λ v b. Seen w chained from p (λ d. At d v b))
        (At (depart w (get_or chained p 0)))
        (λ v b. Seen w chained from (p + 1) (λ d. At d v b))
        flags
        flags'
        up
        (subst (λ d. Raised n (At d) lo hi flags flags') is raised)
        (λ v b. seen_next begun (λ d. At d v b))

up_none : (n : ℕ) (w chained : List ℕ) (from : ℕ) (At : (d v k : ℕ) → Type 0) (lo hi : ℕ) (flags : List ℕ)
    → Down flags → Up n w chained from from At lo hi flags
up_none n w chained from At lo hi flags down =
    record {
      here =
          λ v k h g f. (
            λ e. absurd (omega (arith, down.none (n * (v - lo) + k))),
            λ s. absurd (omega (arith, s.begun, s.inside)),
          );
    }

pub sought_none : (w : List ℕ) (a : ℕ) (chained : List ℕ) (from lo hi : ℕ) (arcs kids : List ℕ) → Down arcs
    → Down kids → Sought w a chained from from 2880 lo hi arcs kids
sought_none w a chained from lo hi arcs kids d e =
    record {
      arcs_up = up_none 64 w chained from (ArcsAt w a) lo hi arcs d;
      kids_up = up_none 320 w chained from (KidsAt w a) lo hi kids e;
      seen_last = inl refl;
    }

pub sought_first : (w : List ℕ) (a : ℕ) (chained : List ℕ) (from p last lo hi : ℕ) (arcs kids : List ℕ) → p ≡ from
    → Sought w a chained from from last lo hi arcs kids → Sought w a chained from p last lo hi arcs kids
sought_first w a chained from p last lo hi arcs kids e s =
    subst (λ p. Sought w a chained from p last lo hi arcs kids) (sym e) s

module _ (w order : List ℕ) (n : ℕ) (caught : List ℕ) (routes : Routes w order n caught) (chained first : List ℕ)
    (held : Departures w chained first) (a : ℕ) (listed : a ≤ station_count w) where
  yes : is_timetable w ≡ true
  yes = routes.accepted

  few : a ≤ 64
  few = omega (arith, stations_few w yes)

  module _ (p : ℕ) (begun : get_or first a 0 ≤ p) (inside : p < get_or first (a + 1) 0) where
    pub departs : Goes w (get_or chained p 0) × (station w (get_or chained p 0) ≡ a)
    departs = waiting_out w a (get_or chained p 0) (part_in w yes chained first held a few p begun inside)

    pub place_inside : p < length chained
    place_inside = omega (arith, part_most w yes chained first held a few, held.standing.chain_long)

    pub stop_few : get_or chained p 0 < 2048
    stop_few = omega (arith, goes_few w yes (get_or chained p 0) departs.0)

    module _ (last lo hi : ℕ) (arcs kids : List ℕ) (s : Sought w a chained (get_or first a 0) p last lo hi arcs kids)
      where
        pub sought_same : (d : ℕ) → d ≡ depart w (get_or chained p 0) → d ≡ last
            → Sought w a chained (get_or first a 0) (p + 1) d lo hi arcs kids
        sought_same d is same =
            let from = get_or first a 0 in
            let in_time_lem : last ≤ 2879 = omega (arith, (timely w yes).leaves (get_or chained p 0) departs.0) in
            let e : depart w (get_or chained p 0) ≡ last = sym is ∙ same in
            record {
              arcs_up =
                  up_again w chained from p begun 64 lo hi (ArcsAt w a) arcs s.arcs_up last s.seen_last
                  in_time_lem e;
              kids_up =
                  up_again w chained from p begun 320 lo hi (KidsAt w a) kids s.kids_up last s.seen_last
                  in_time_lem e;
              seen_last = inr (seen_here w chained from p begun (λ z. z ≡ d) (sym is));
            }

        pub sought_more : (d : ℕ) (arcs' kids' : List ℕ) → d ≡ depart w (get_or chained p 0)
            → Raised 64 (ArcsAt w a d) lo hi arcs arcs' → Raised 320 (KidsAt w a d) lo hi kids kids'
            → Sought w a chained (get_or first a 0) (p + 1) d lo hi arcs' kids'
        sought_more d arcs' kids' is arcs_raised kids_raised =
            let from = get_or first a 0 in
            record {
              arcs_up = up_next w chained from p begun 64 lo hi (ArcsAt w a) arcs s.arcs_up d arcs' is arcs_raised;
              kids_up = up_next w chained from p begun 320 lo hi (KidsAt w a) kids s.kids_up d kids' is kids_raised;
              seen_last = inr (seen_here w chained from p begun (λ z. z ≡ d) (sym is));
            }

  -- ---- all departures of the source
  abbrev from : ℕ
  from = get_or first a 0

  abbrev end : ℕ
  end = get_or first (a + 1) 0

  pub places_ordered : get_or first a 0 ≤ get_or first (a + 1) 0
  places_ordered = part_ordered w yes chained first held a few

  pub places_few : get_or first (a + 1) 0 ≤ 2048
  places_few = part_most w yes chained first held a few

  -- where they begin
  pub place_known : a < length first
  place_known = omega (arith, few, held.first_long)

  pub next_known : a + 1 < length first
  next_known = omega (arith, few, held.first_long)

  pub next_fits : a + 1 < 2 ^ 64
  next_fits = omega (arith, few)

  pub begins_before : (p : ℕ) → p ≡ get_or first a 0 → p ≤ get_or first (a + 1) 0
  begins_before p e = omega (arith, places_ordered)

  seen_once : (At : ℕ → Type 0) → Seen w chained from end At → Once w a At
  seen_once At s =
      let k = departs s.r s.begun s.inside in
      record {
        minute = depart w (get_or chained s.r 0);
        source = record { g = get_or chained s.r 0; goes = k.0; here = k.1; leaves = refl };
        at = s.at;
      }

  pub once_seen : (At : ℕ → Type 0) → Once w a At → Seen w chained from end At
  once_seen At o =
      let g = o.source.g in
      let there : g ∈ waiting w a =
      subst (λ c. g ∈ waiting w c) o.source.here (waiting_in w yes g o.source.goes) in
      let k =
      placed chained from end g places_ordered (omega (arith, places_few, held.standing.chain_long))
      (subst (λ l. g ∈ l) (sym (part_is w yes chained first held a few)) there) in
      let e : o.minute ≡ depart w (get_or chained k.r 0) = sym o.source.leaves ∙ ap (depart w) k.is in
      record { r = k.r; begun = k.from; inside = k.to; at = subst At e o.at }

  up_all : (n : ℕ) (At : (d v k : ℕ) → Type 0) (Has : (v k : ℕ) → Type 0) (lo hi : ℕ) (flags : List ℕ)
      → ((v k : ℕ) → Has v k ↔ Once w a (λ d. At d v k)) → Up n w chained from end At lo hi flags
      → Shown n Has lo hi flags
  up_all n At Has lo hi flags stored up =
      shown_same n lo hi (λ v b. Seen w chained from end (λ d. At d v b)) Has flags up
      (λ v b. (
        λ t. once_seen (λ d. At d v b) ((stored v b).0 t),
        λ t. (stored v b).1 (seen_once (λ d. At d v b) t),
      ))

  -- what the tree has, node by node
  arc_known : (v k : ℕ) → ArcFlag w a v k ↔ Once w a (λ d. ArcsAt w a d v k)
  arc_known v k =
      arc_stored w yes (timely w yes) a (node_at (sequences w a) v) (node_even (sequences w a) v) (suc k)

  kid_known : (v s : ℕ) → KidFlag w a v s ↔ Once w a (λ d. KidsAt w a d v s)
  kid_known v s = (to, from)
    where
      stored : T (has_kid (sequences w a) (node_at (sequences w a) v) (transfer_at w s))
          ↔ Once w a (λ d. KidAt w a d (node_at (sequences w a) v) (transfer_at w s))
      stored =
          kid_stored w yes (timely w yes) a (node_at (sequences w a) v) (node_even (sequences w a) v) (transfer_at w s)

      to : KidFlag w a v s → Once w a (λ d. KidsAt w a d v s)
      to h =
          let o = stored.0 h.holds in
          record {
            minute = o.minute;
            source = o.source;
            at = record { listed = h.listed; holds = o.at };
          }

      from : Once w a (λ d. KidsAt w a d v s) → KidFlag w a v s
      from o =
          record {
            listed = o.at.listed;
            holds =
                stored.1 (record { minute = o.minute; source = o.source; at = o.at.holds });
          }

  module _ (p last lo hi : ℕ) (arcs kids : List ℕ) (most : p ≤ get_or first (a + 1) 0) (stop : ℕ)
      (is : stop ≡ get_or first (a + 1) 0) (least : stop ≤ p)
      (s : Sought w a chained (get_or first a 0) p last lo hi arcs kids) where
    all_places : Sought w a chained from end last lo hi arcs kids
    all_places =
        let e : p ≡ end = omega arith in
        subst (λ p. Sought w a chained from p last lo hi arcs kids) e s

    pub chunked : Chunked w a lo hi arcs kids
    chunked =
        record {
          arcs_up = up_all 64 (ArcsAt w a) (ArcFlag w a) lo hi arcs arc_known all_places.arcs_up;
          kids_up = up_all 320 (KidsAt w a) (KidFlag w a) lo hi kids kid_known all_places.kids_up;
        }
