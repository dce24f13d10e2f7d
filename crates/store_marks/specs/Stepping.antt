-- From the labels at one station to those at the next: a label is the least that some arrival offers, by some way of
-- changing, to the departure it catches or to one before.
use Rattle.std.specs.Prelude.{◌≡◌, Bool, true, false, ◌≢◌, ◌⊎◌, ℕ, ◌+◌, ◌≤◌, ◌<◌, min, T, ltb}
use Rattle.std.proofs.Math.Path.{refl, sym, ap, subst}
use Rattle.std.proofs.Common.{◌∙◌, lt-ltb, le-ltb, eq-eqb, ne_eqb, ltb→lt, nltb→le, le→leb}
use Rattle.std.proofs.Math.Logic.{inl, inr}
use mathlib.Core.List.Memᴰ.{head as here}
use mathlib.Core.List.Memᴰ.{tail as there}
use mathlib.Core.List.{List, [], ◌∷◌, ◌++◌}
use Rattle.std.proofs.Math.Decide.{ℕ_discrete}
use native.Mathlib.Omega.{arith}
use Rattle.std.proofs.Math.Dec.{leb}
use Rattle.std.proofs.Math.ListN.{length, get_or}
use Rattle.lists.specs.Lists.{◌∈◌, end_with, first_of}
use Rattle.lists.specs.Tests.{either, T_true}
use Rattle.lists.specs.Members.{none, cons_cases}
use Rattle.timetable.specs.Words.{station_count, stop_at, is_timetable}
use Rattle.connections.specs.Rides.{may_alight}
use Rattle.connections.specs.Connections.{Change, Transfer, transfer}
use Rattle.store_stops.specs.Stopwise.{station, depart, unreached, nowhere, ready, ways_of, Goes, Boards, CatchesBy}
use Rattle.store_stops.specs.Paid.{Paid, Labelled}
use Rattle.store_slots.specs.Slots.{transfer_at, slots}
use Rattle.store_departures.specs.Order.{first_or, waiting, catch_by, Waits}
use Rattle.store_departures.specs.InOrderLaws.{caught_there}
use Rattle.store_departures.specs.Parts.{waiting_in, waiting_out, waiting_behind, waiting_distinct}
use Rattle.store_departures.specs.Held.{goes_few}
use Rattle.store_points.specs.Lowered.{lowered, lowered_length, lowered_else, lowered_here}
use Rattle.store_marks.specs.Arrays.{
  fill,
  fill_length,
  fill_in,
  fill_out,
  Within,
  fall,
  fall_out,
  fall_top,
  fall_below,
}
use Rattle.store_marks.specs.Arrays.{Behind}
use Rattle.store_marks.specs.Arrays.{behind_later, behind_in, From, fall_from}
use Rattle.store_marks.specs.Riding.{Visit, visit, label_at, boarding, boardings, run, root_label, offer}
use Rattle.store_marks.specs.Riding.{rides, rides_by, stepped}
use Rattle.store_marks.specs.Reaching.{boards_at, boardings_arrived, boardings_least}

-- the stations of a change
abbrev pub pair : (y x : ℕ) → Transfer
pair y x = record { alighted = y; boarded = x }

-- stations of a change, for one who boarded at station c and does not board there again
pub record Leads (w : List ℕ) (c y e : ℕ) : Type 0 where
  pub first : 1 ≤ y
  pub last : y ≤ station_count w
  pub listed : e ≤ station_count w
  pub apart : c ≢ e

-- a change of the timetable to board at another station than c
pub record Onward (w : List ℕ) (c slot : ℕ) : Type 0 where
  pub listed : slot ∈ slots w
  pub apart : c ≢ (transfer_at w slot).boarded

-- y has the labels that x has, but for those at station e
pub record Keeps (w : List ℕ) (e : ℕ) (x y : List ℕ) : Type 0 where
  pub kept : (b : ℕ) → b ≢ e → (a d : ℕ) (rev : List Transfer) → Labelled w a d rev b x → Labelled w a d rev b y

-- from labels at station c to labels behind a change: whatever the changes before were, if x has the labels at c behind
-- them, y has those behind them and this one, where it boards, and elsewhere those of x
pub record Steps (w : List ℕ) (c : ℕ) (t : Transfer) (x y : List ℕ) : Type 0 where
  pub next : (a d : ℕ) (rev : List Transfer) → boards_at a rev ≡ c → Labelled w a d rev c x
      → Labelled w a d (t ∷ rev) t.boarded y
  pub keeps : Keeps w t.boarded x y

-- where the change is that of a slot, and one boards at station e then
pub record Stepped (w : List ℕ) (c slot e : ℕ) (x y : List ℕ) : Type 0 where
  pub steps : Steps w c (transfer_at w slot) x y
  pub boards : e ≡ (transfer_at w slot).boarded

-- these are the ways of making a change
pub record Between (w : List ℕ) (t : Transfer) (ways : List Change) : Type 0 where
  pub only : (way : Change) → way ∈ ways → (way ∈ ways_of w) × (transfer way ≡ t)
  pub all : (way : Change) → way ∈ ways_of w → transfer way ≡ t → way ∈ ways

pub run_append : (act : Visit → List ℕ → List ℕ) (l m : List Visit) (s : List ℕ)
    → run act (l ++ m) s ≡ run act m (run act l s)
unfolding run
run_append act [] m s = refl
run_append act (v ∷ l) m s = run_append act l m (act v s)

-- ---- what offers leave
module _ (w : List ℕ) (way : Change) where
  abbrev act : Visit → List ℕ → List ℕ
  act = offer w way

  abbrev to : Visit → ℕ
  to v = catch_by w way v.stop

  abbrev cost : Visit → ℕ
  cost v = v.paid + way.points

  offer_there : (v : Visit) (x : List ℕ) → station w v.stop ≡ way.from → act v x ≡ lowered (to v) (cost v) x
  unfolding offer
  offer_there v x h = rw (eq-eqb (station w v.stop) way.from h)

  offer_elsewhere : (v : Visit) (x : List ℕ) → station w v.stop ≢ way.from → act v x ≡ x
  unfolding offer
  offer_elsewhere v x h = rw (ne_eqb (station w v.stop) way.from h)

  offer_length : (v : Visit) (x : List ℕ) → length (act v x) ≡ length x
  offer_length v x =
      elim (ℕ_discrete (station w v.stop) way.from) [
        | yes h ↦ ap length (offer_there v x h) ∙ lowered_length x (to v) (cost v)
        | no h ↦ ap length (offer_elsewhere v x h)
      ]

  -- an offer to departure g
  record Offers (v : Visit) (g : ℕ) : Type 0 where
    begins : station w v.stop ≡ way.from
    is : to v ≡ g

  offer_other : (v : Visit) (x : List ℕ) (g : ℕ) → ¬ Offers v g → get_or (act v x) g 0 ≡ get_or x g 0
  offer_other v x g none =
      elim (ℕ_discrete (station w v.stop) way.from) [
        | yes h ↦
            ap (λ l. get_or l g 0) (offer_there v x h)
            ∙ lowered_else x (to v) (cost v) g (λ q. none (record { begins = h; is = sym q }))
        | no h ↦ ap (λ l. get_or l g 0) (offer_elsewhere v x h)
      ]

  offer_here : (v : Visit) (x : List ℕ) (g : ℕ) → Offers v g → g < length x
      → get_or (act v x) g 0 ≡ min (get_or x g 0) (cost v)
  offer_here v x g o h =
      subst (λ k. k < length x → get_or (act v x) k 0 ≡ min (get_or x k 0) (cost v)) o.is
      (λ k. ap (λ l. get_or l (to v) 0) (offer_there v x o.begins) ∙ lowered_here x (to v) (cost v))
      h

  offers_or : (v : Visit) (g : ℕ) → Offers v g ⊎ (¬ Offers v g)
  offers_or v g =
      elim (ℕ_discrete (station w v.stop) way.from) [
        | yes h ↦
            elim (ℕ_discrete (to v) g) [
              | yes k ↦ inl (record { begins = h; is = k })
              | no k ↦ inr (λ o. k o.is)
            ]
        | no h ↦ inr (λ o. h o.begins)
      ]

  offer_falls : (v : Visit) (x : List ℕ) (g : ℕ) → g < length x → get_or (act v x) g 0 ≤ get_or x g 0
  offer_falls v x g h =
      elim (offers_or v g) [
        | inl o ↦ omega (arith, offer_here v x g o h)
        | inr o ↦ omega (arith, offer_other v x g o)
      ]

  run_length : (l : List Visit) (x : List ℕ) → length (run act l x) ≡ length x
  unfolding run
  run_length [] x = refl
  run_length (v ∷ l) x = run_length l (act v x) ∙ offer_length v x

  run_falls : (l : List Visit) (x : List ℕ) (g : ℕ) → g < length x → get_or (run act l x) g 0 ≤ get_or x g 0
  unfolding run
  run_falls [] x g h = omega arith
  run_falls (v ∷ l) x g h =
      omega (arith, run_falls l (act v x) g (omega (arith, offer_length v x)), offer_falls v x g h)

  run_least : (l : List Visit) (x : List ℕ) (v : Visit) (g : ℕ) → g < length x → v ∈ l → Offers v g
      → get_or (run act l x) g 0 ≤ cost v
  unfolding run
  run_least [] x v g h m o = none m
  run_least (u ∷ l) x v g h m o = go (run_least l (act u x) v g inside)
    where
      inside : g < length (act u x)
      inside = omega (arith, offer_length u x)

      go : (v ∈ l → Offers v g → get_or (run act l (act u x)) g 0 ≤ cost v)
          → get_or (run act l (act u x)) g 0 ≤ cost v
      go ih =
          cons_cases m
          (λ q.
          let first = offer_here v x g o h in
          let same = ap (λ z. get_or (act z x) g 0) q in
          omega (arith, run_falls l (act u x) g inside))
          (λ k. ih k o)

  -- each word stands, or is what some arrival offers
  record Offered (l : List Visit) (g p : ℕ) : Type 0 where
    v : Visit
    listed : v ∈ l
    offers : Offers v g
    is : p ≡ cost v

  offered_later : (u : Visit) (l : List Visit) (g p : ℕ) → Offered l g p → Offered (u ∷ l) g p
  offered_later u l g p o = record { v = o.v; listed = there o.listed; offers = o.offers; is = o.is }

  offer_from : (v : Visit) (x : List ℕ) (g : ℕ) → g < length x
      → (get_or (act v x) g 0 ≡ get_or x g 0) ⊎ (Offers v g × (get_or (act v x) g 0 ≡ cost v))
  offer_from v x g h =
      elim (offers_or v g) [
        | inl o ↦
            either
            (ltb (cost v) (get_or x g 0))
            (λ t. inr (o, omega (arith, offer_here v x g o h, ltb→lt (cost v) (get_or x g 0) t)))
            (λ t. inl (omega (arith, offer_here v x g o h, nltb→le (cost v) (get_or x g 0) t)))
        | inr o ↦ inl (offer_other v x g o)
      ]

  run_from : (l : List Visit) (x : List ℕ) (g : ℕ) → g < length x
      → (get_or (run act l x) g 0 ≡ get_or x g 0) ⊎ Offered l g (get_or (run act l x) g 0)
  unfolding run
  run_from [] x g h = inl refl
  run_from (v ∷ l) x g h =
      elim (run_from l (act v x) g (omega (arith, offer_length v x))) [
        | inl q ↦
            elim (offer_from v x g h) [
              | inl r ↦ inl (q ∙ r)
              | inr r ↦ inr (record { v = v; listed = here refl; offers = r.0; is = q ∙ r.1 })
            ]
        | inr o ↦ inr (offered_later v l g (get_or (run act l (act v x)) g 0) o)
      ]

  run_other : (l : List Visit) (x : List ℕ) (g : ℕ) → ((v : Visit) → v ∈ l → ¬ Offers v g)
      → get_or (run act l x) g 0 ≡ get_or x g 0
  unfolding run
  run_other [] x g h = refl
  run_other (v ∷ l) x g h =
      run_other l (act v x) g (λ u m. h u (there m)) ∙ offer_other v x g (h v (here refl))

-- ---- and what those by several ways leave, one way after the other
module _ (w : List ℕ) (all : List Visit) where
  unfoldable offers_by : List Change → List ℕ → List ℕ
  offers_by [] x = x
  offers_by (way ∷ ways) x = offers_by ways (run (offer w way) all x)

  by_length : (ways : List Change) (x : List ℕ) → length (offers_by ways x) ≡ length x
  unfolding offers_by
  by_length [] x = refl
  by_length (way ∷ ways) x = by_length ways (run (offer w way) all x) ∙ run_length w way all x

  by_falls : (ways : List Change) (x : List ℕ) (g : ℕ) → g < length x → get_or (offers_by ways x) g 0 ≤ get_or x g 0
  unfolding offers_by
  by_falls [] x g h = omega arith
  by_falls (way ∷ ways) x g h =
      omega (
        arith,
        by_falls ways (run (offer w way) all x) g (omega (arith, run_length w way all x)),
        run_falls w way all x g h,
      )

  by_least : (ways : List Change) (x : List ℕ) (way : Change) (v : Visit) (g : ℕ) → g < length x → way ∈ ways
      → v ∈ all → Offers w way v g → get_or (offers_by ways x) g 0 ≤ cost w way v
  unfolding offers_by
  by_least [] x way v g h i m o = none i
  by_least (u ∷ ways) x way v g h i m o = go (by_least ways (run (offer w u) all x) way v g inside)
    where
      inside : g < length (run (offer w u) all x)
      inside = omega (arith, run_length w u all x)

      go : (way ∈ ways → v ∈ all → Offers w way v g
          → get_or (offers_by ways (run (offer w u) all x)) g 0 ≤ cost w way v)
          → get_or (offers_by ways (run (offer w u) all x)) g 0 ≤ cost w way v
      go ih =
          cons_cases i
          (λ q.
          let first = run_least w way all x v g h m o in
          let same = ap (λ z. get_or (run (offer w z) all x) g 0) q in
          omega (arith, by_falls ways (run (offer w u) all x) g inside))
          (λ k. ih k m o)

  record OfferedBy (ways : List Change) (g p : ℕ) : Type 0 where
    way : Change
    listed : way ∈ ways
    offered : Offered w way all g p

  by_from : (ways : List Change) (x : List ℕ) (g : ℕ) → g < length x
      → (get_or (offers_by ways x) g 0 ≡ get_or x g 0) ⊎ OfferedBy ways g (get_or (offers_by ways x) g 0)
  unfolding offers_by
  by_from [] x g h = inl refl
  by_from (way ∷ ways) x g h =
      elim (by_from ways (run (offer w way) all x) g (omega (arith, run_length w way all x))) [
        | inl q ↦
            elim (run_from w way all x g h) [
              | inl r ↦ inl (q ∙ r)
              | inr r ↦
                  inr
                  (record {
                    way = way;
                    listed = here refl;
                    offered = subst (Offered w way all g) (sym q) r;
                  })
            ]
        | inr o ↦ inr (record { way = o.way; listed = there o.listed; offered = o.offered })
      ]

-- ---- the first that passes a test stands before all others that do
first_behind : (dflt : ℕ) (p : ℕ → Bool) (l : List ℕ) (g : ℕ) → g ∈ l → T (p g)
    → Behind l (first_or dflt (first_of p l)) g
first_behind dflt p [] g m t = none m
first_behind dflt p (k ∷ l) g m t = go (p k) refl (first_behind dflt p l g)
  where
    go : (b : Bool) → p k ≡ b → (g ∈ l → T (p g) → Behind l (first_or dflt (first_of p l)) g)
        → Behind (k ∷ l) (first_or dflt (end_with b k (first_of p l))) g
    go true q ih = record { front = []; back = l; whole = refl; behind = m }
    go false q ih =
        cons_cases m
        (λ r. absurd (rw q at (rw r at t)))
        (λ i. behind_later k l (first_or dflt (first_of p l)) g (ih i t))

module _ (w : List ℕ) (ok : is_timetable w ≡ true) where
  -- whoever can be boarded after an arrival stands behind the departure caught
  catch_behind : (way : Change) (j g : ℕ) → CatchesBy w way j g → Behind (waiting w way.to) (catch_by w way j) g
  unfolding catch_by
  catch_behind way j g h =
      rw (T_true (may_alight (stop_at w j)) h.alights)
      (first_behind nowhere (λ k. leb (ready w j way) (depart w k)) (waiting w way.to) g
      (subst (λ s. g ∈ waiting w s) h.to (waiting_in w ok g h.boards.goes))
      (le→leb (ready w j way) (depart w g) h.timely))

  behind_departs : (s f g : ℕ) → Behind (waiting w s) f g → depart w f ≤ depart w g
  behind_departs s f g b =
      cons_cases b.behind
      (λ e. omega (arith, ap (depart w) e))
      (waiting_behind w s b.front b.back f g b.whole)

-- labels at a station are those of its departures
labelled_same : (w : List ℕ) (a d : ℕ) (rev : List Transfer) (c : ℕ) (x y : List ℕ)
    → ((g : ℕ) → Goes w g → station w g ≡ c → get_or y g 0 ≡ get_or x g 0) → Labelled w a d rev c x → Labelled w a d rev
    c y
labelled_same w a d rev c x y same labels =
    record {
      attained = λ g boards at h.
          let e = same g boards.goes at in
          subst (Paid w a d rev g) (sym e) (labels.attained g boards at (omega arith));
      below = λ g p boards at b. omega (arith, same g boards.goes at, labels.below g p boards at b);
      capped = λ g boards at. omega (arith, same g boards.goes at, labels.capped g boards at);
    }

-- ---- the labels of the source
module _ (w : List ℕ) (ok : is_timetable w ≡ true) (x : List ℕ) (long : length x ≡ 2048) where
  waiting_within : (s : ℕ) → Within (waiting w s) x
  waiting_within s g m = omega (arith, goes_few w ok g (waiting_out w s g m).0)

  root_word : (a d g : ℕ) → Goes w g → station w g ≡ a
      → get_or (fill (root_label w d) (waiting w a) x) g 0 ≡ root_label w d g
  root_word a d g goes at =
      let m = subst (λ s. g ∈ waiting w s) at (waiting_in w ok g goes) in
      fill_in (root_label w d) (waiting w a) x g (waiting_within a g m) m

  root_early : (d g : ℕ) → depart w g < d → root_label w d g ≡ unreached
  unfolding root_label
  root_early d g h = rw (lt-ltb (depart w g) d h)

  root_late : (d g : ℕ) → d ≤ depart w g → root_label w d g ≡ 0
  unfolding root_label
  root_late d g h = rw (le-ltb (depart w g) d h)

  pub root_labelled : (a d : ℕ) → Labelled w a d [] a (fill (root_label w d) (waiting w a) x)
  root_labelled a d =
      record {
        attained = λ g boards at h.
            let is = root_word a d g boards.goes at in
            either
            (ltb (depart w g) d)
            (λ t. absurd (omega (arith, is, root_early d g (ltb→lt (depart w g) d t))))
            (λ t.
            let late = nltb→le (depart w g) d t in
            (boards, at, late, is ∙ root_late d g late));
        below = λ g p boards at b. omega (arith, root_word a d g boards.goes at, root_late d g b.2);
        capped = λ g boards at.
            let is = root_word a d g boards.goes at in
            either
            (ltb (depart w g) d)
            (λ t. omega (arith, is, root_early d g (ltb→lt (depart w g) d t)))
            (λ t. omega (arith, is, root_late d g (nltb→le (depart w g) d t)));
      }

  pub root_keeps : (a d : ℕ) → Keeps w a x (fill (root_label w d) (waiting w a) x)
  root_keeps a d =
      record {
        kept = λ b apart f m rev labels.
            labelled_same w f m rev b x (fill (root_label w d) (waiting w a) x)
            (λ g goes at.
            fill_out (root_label w d) (waiting w a) x g (λ i. apart (sym at ∙ (waiting_out w a g i).1)))
            labels;
      }

-- ---- the labels of the next station
boardings_same : (w : List ℕ) (c : ℕ) (x y l : List ℕ) → ((i : ℕ) → i ∈ l → get_or y i 0 ≡ get_or x i 0)
    → boardings w c y l ≡ boardings w c x l
unfolding label_at boarding boardings
boardings_same w c x y [] h = refl
boardings_same w c x y (i ∷ l) h =
    rw (h i (here refl)) (ap (λ r. boarding w c x i ++ r) (boardings_same w c x y l (λ k m. h k (there m))))

pub pair_same : {y z x u : ℕ} → y ≡ z → x ≡ u → pair y x ≡ pair z u
pair_same e f = cc (e, f)

module _ (w : List ℕ) (ok : is_timetable w ≡ true) where
  -- after an arrival that offers departure g one can wait for it
  offers_wait : (way : Change) (v : Visit) (g : ℕ) → Goes w g → Offers w way v g → Waits w way v.stop g
  offers_wait way v g goes o =
      let few = goes_few w ok g goes in
      let is = o.is in
      subst (Waits w way v.stop) is (caught_there w ok way v.stop (omega arith))

  -- the labels at station b stand while offers are made elsewhere
  module _ (b : ℕ) where
    abbrev Elsewhere : List Change → Type 0
    Elsewhere ways = (way : Change) → way ∈ ways → b ≢ way.to

    run_kept : (way : Change) → b ≢ way.to → (l : List Visit) (x : List ℕ) (g : ℕ) → Goes w g → station w g ≡ b
        → get_or (run (offer w way) l x) g 0 ≡ get_or x g 0
    run_kept way apart l x g goes at =
        run_other w way l x g (λ v m o. apart (sym at ∙ (offers_wait way v g goes o).there))

    by_kept : (ways : List Change) → Elsewhere ways → (l : List Visit) (x : List ℕ) (g : ℕ) → Goes w g
        → station w g ≡ b → get_or (offers_by w l ways x) g 0 ≡ get_or x g 0
    unfolding offers_by
    by_kept [] h l x g goes at = refl
    by_kept (way ∷ ways) h l x g goes at =
        by_kept ways (λ u m. h u (there m)) l (run (offer w way) l x) g goes at
        ∙ run_kept way (h way (here refl)) l x g goes at

module _ (w : List ℕ) (ok : is_timetable w ≡ true) (c : ℕ) where
  -- so all who board at c ride at once
  module _ (way : Change) (apart : c ≢ way.to) where
    rides_run : (l x : List ℕ) → ((i : ℕ) → i ∈ l → Goes w i × (station w i ≡ c))
        → rides w c way l x ≡ run (offer w way) (boardings w c x l) x
    unfolding rides run boardings
    rides_run [] x h = refl
    rides_run (i ∷ l) x h =
        let act = offer w way in
        let x' = run act (boarding w c x i) x in
        let kept : (k : ℕ) → k ∈ l → get_or x' k 0 ≡ get_or x k 0 =
        (λ k m. run_kept w ok c way apart (boarding w c x i) x k (h k (there m)).0 (h k (there m)).1) in
        rides_run l x' (λ k m. h k (there m))
        ∙ ap (λ r. run act r x') (boardings_same w c x x' l kept)
        ∙ sym (run_append act (boarding w c x i) (boardings w c x l) x)

  by_run : (ways : List Change) → Elsewhere w ok c ways → (x : List ℕ)
      → rides_by w c ways x ≡ offers_by w (boardings w c x (waiting w c)) ways x
  unfolding rides_by offers_by
  by_run [] h x = refl
  by_run (way ∷ ways) h x =
      let all = boardings w c x (waiting w c) in
      let x' = run (offer w way) all x in
      let out : (i : ℕ) → i ∈ waiting w c → Goes w i × (station w i ≡ c) = (λ i m. waiting_out w c i m) in
      ap (rides_by w c ways) (rides_run way (h way (here refl)) (waiting w c) x out)
      ∙ by_run ways (λ u m. h u (there m)) x'
      ∙ ap (λ l. offers_by w l ways x')
      (boardings_same w c x x' (waiting w c)
      (λ k m. run_kept w ok c way (h way (here refl)) all x k (out k m).0 (out k m).1))

  module _
      (t : Transfer)
      (apart : c ≢ t.boarded)
      (ways : List Change)
      (between : Between w t ways)
      (x₀ : List ℕ)
      (long₀ : length x₀ ≡ 2048)
    where
      abbrev e : ℕ
      e = t.boarded

      begins_at : (way : Change) → way ∈ ways → way.from ≡ t.alighted
      begins_at way m = ap (λ (z : Transfer). z.alighted) (between.only way m).1

      leads_to : (way : Change) → way ∈ ways → way.to ≡ e
      leads_to way m = ap (λ (z : Transfer). z.boarded) (between.only way m).1

      elsewhere : (b : ℕ) → b ≢ e → Elsewhere w ok b ways
      elsewhere b other way m q = other (q ∙ leads_to way m)

      abbrev start : List ℕ
      start = fill (λ g. unreached) (waiting w e) x₀

      abbrev all : List Visit
      all = boardings w c start (waiting w c)

      abbrev offered : List ℕ
      offered = offers_by w all ways start

      stepped_is : stepped w c ways e x₀ ≡ fall unreached (waiting w e) offered
      unfolding stepped
      stepped_is = ap (fall unreached (waiting w e)) (by_run ways (elsewhere c apart) start)

      start_long : length start ≡ 2048
      start_long = fill_length (λ g. unreached) (waiting w e) x₀ ∙ long₀

      offered_long : length offered ≡ 2048
      offered_long = by_length w all ways start ∙ start_long

      start_word : (f : ℕ) → f ∈ waiting w e → get_or start f 0 ≡ unreached
      start_word f m = fill_in (λ g. unreached) (waiting w e) x₀ f (waiting_within w ok x₀ long₀ e f m) m

      -- only departures of e get other labels
      module _ (b : ℕ) (other : b ≢ e) where
        start_kept : (g : ℕ) → Goes w g → station w g ≡ b → get_or start g 0 ≡ get_or x₀ g 0
        start_kept g goes at =
            fill_out (λ g. unreached) (waiting w e) x₀ g (λ m. other (sym at ∙ (waiting_out w e g m).1))

        stepped_kept : (g : ℕ) → Goes w g → station w g ≡ b → get_or (stepped w c ways e x₀) g 0 ≡ get_or x₀ g 0
        stepped_kept g goes at =
            ap (λ l. get_or l g 0) stepped_is
            ∙ fall_out (waiting w e) unreached offered g (λ m. other (sym at ∙ (waiting_out w e g m).1))
            ∙ by_kept w ok b ways (elsewhere b other) all start g goes at
            ∙ start_kept g goes at

      pub step_keeps : Keeps w e x₀ (stepped w c ways e x₀)
      step_keeps =
          record {
            kept = λ b other a d rev labels.
                labelled_same w a d rev b x₀ (stepped w c ways e x₀) (stepped_kept b other) labels;
          }

      within : Within (waiting w e) offered
      within = waiting_within w ok offered offered_long e

      module _ (a d : ℕ) (rev : List Transfer) (there-c : boards_at a rev ≡ c) (labels₀ : Labelled w a d rev c x₀) where
        labels : Labelled w a d rev c start
        labels = labelled_same w a d rev c x₀ start (start_kept c apart) labels₀

        abbrev last : ℕ → ℕ
        last g = get_or (fall unreached (waiting w e) offered) g 0

        e_waits : (g : ℕ) → Goes w g → station w g ≡ e → g ∈ waiting w e
        e_waits g goes at = subst (λ s. g ∈ waiting w s) at (waiting_in w ok g goes)

        -- an offer to a departure is one to those behind it
        offer_paid : (f g p : ℕ) → Behind (waiting w e) f g → Boards w g → station w g ≡ e
            → OfferedBy w all ways f p → Paid w a d (t ∷ rev) g p
        offer_paid f g p b boards at r =
            let way = r.way in
            let o = r.offered in
            let v = o.v in
            let rode = boardings_arrived w ok c start a d rev labels v o.listed in
            let f-goes = (waiting_out w e f (behind_in (waiting w e) f g b)).0 in
            let k = offers_wait w ok way v f f-goes o.offers in
            let late = behind_departs w ok e f g b in
            record {
              at = v.stop;
              before = v.paid;
              price = way.points;
              rode = rode;
              here = o.offers.begins ∙ begins_at way r.listed;
              there = at;
              catches =
                  record {
                    way = way;
                    catches =
                        record {
                          listed = (between.only way r.listed).0;
                          alights = k.alights;
                          boards = boards;
                          from = o.offers.begins;
                          to = at ∙ sym (leads_to way r.listed);
                          timely = omega (arith, k.timely);
                        };
                    price = refl;
                  };
              total = o.is;
            }

        attained : (g : ℕ) → Boards w g → station w g ≡ e → last g < unreached → Paid w a d (t ∷ rev) g (last g)
        attained g boards at h =
            elim
            (fall_from (waiting w e) unreached offered g (waiting_distinct w ok e) within
            (e_waits g boards.goes at)) [
              | inl q ↦ absurd (omega arith)
              | inr r ↦ subst (Paid w a d (t ∷ rev) g) (sym r.is) (from r)
            ]
          where
            from : (r : From (waiting w e) offered g (last g)) → Paid w a d (t ∷ rev) g (get_or offered r.f 0)
            from r =
                let m = behind_in (waiting w e) r.f g r.behind in
                let few = waiting_within w ok start start_long e r.f m in
                let is = r.is in
                elim (by_from w all ways start r.f few) [
                  | inl q ↦ absurd (omega (arith, start_word r.f m))
                  | inr o ↦ offer_paid r.f g (get_or offered r.f 0) r.behind boards at o
                ]

        below : (g p : ℕ) → Boards w g → station w g ≡ e → Paid w a d (t ∷ rev) g p → last g ≤ p
        below g p boards at h =
            let j = h.at in
            let l = boardings_least w ok c start a d rev labels there-c j h.before h.rode in
            let way = h.catches.way in
            let by = h.catches.catches in
            let f = catch_by w way j in
            let leads : way.to ≡ e = sym by.to ∙ h.there in
            let is : transfer way ≡ t = pair_same (sym by.from ∙ h.here) leads in
            let m = between.all way by.listed is in
            let b = subst (λ s. Behind (waiting w s) f g) leads (catch_behind w ok way j g by) in
            let few = waiting_within w ok start start_long e f (behind_in (waiting w e) f g b) in
            omega (
              arith,
              fall_below (waiting w e) unreached offered f g (waiting_distinct w ok e) within b,
              by_least w all ways start way (visit j l.paid) f few m l.listed
                  (record { begins = by.from; is = refl }),
              l.least,
              h.total,
              h.catches.price,
            )

        pub step_labelled : Labelled w a d (t ∷ rev) e (stepped w c ways e x₀)
        step_labelled =
            rw stepped_is
            (record {
              attained = attained;
              below = below;
              capped = λ g boards at.
                  fall_top (waiting w e) unreached offered g (waiting_distinct w ok e) within
                  (e_waits g boards.goes at);
            })
