-- The arcs and kids of a node, minute by minute: a node of the store's tree has an arc to a station exactly if at some
-- minute at which something departs from the source an optimal connection has that sequence, and a kid by a change
-- exactly if one begins so and goes on.
use Rattle.std.specs.Prelude.{◌≡◌, refl, true, ◌≢◌, ◌↔◌, List, [], ◌∷◌, ◌++◌, ℕ, T, length}
use Rattle.std.proofs.Common.{sym, subst, ◌∙◌, append_assoc, arith}
use Rattle.std.proofs.Math.Decide.{dec_lt}
use Rattle.std.proofs.Math.ListN.{get_or-eq_default}
use Rattle.lists.specs.Members.{cons_cases, concat_map_in, concat_map_out}
use Rattle.lists.specs.Places.{get_d_in}
use Rattle.timetable.specs.Words.{is_timetable}
use Rattle.connections.specs.Connections.{Transfer}
use Rattle.stores.specs.Words.{beginnings}
use Rattle.stores.specs.Sequences.{Even}
use Rattle.stores.specs.Nodes.{nodes_made_lem}
use Rattle.stores.specs.Stored.{sequences}
use Rattle.stores.proofs.StoredLaws.{stored_odd}
use Rattle.optimality.specs.Along.{read_back}
use Rattle.optimality.specs.Ways.{Way}
use Rattle.optimality.specs.Continuing.{closing_exactly}
use Rattle.optimality.specs.AlongLaws.{sequence_end}
use Rattle.store_stops.specs.Paid.{LeastArrivals}
use Rattle.store_stops.specs.Prospects.{Allows, Ends, GoesOn}
use Rattle.store_stops.specs.Settled.{Timely}
use Rattle.store_stops.specs.RideStops.{net_of, spelled_sound}
use Rattle.store_stops.specs.Marks.{ends_closing, goes_on_way}
use Rattle.store_stops.specs.StoredMarks.{Source, way_stored, stored_way}
use Rattle.store_tree.specs.Tree.{has_arc, changing, has_kid, rooted, node_at}
use Rattle.store_tree.specs.Numbering.{arc_out, arc_in, kid_out, kid_in}
use Rattle.store_nodes.specs.Beginnings.{begin_out, begin_in}

-- at minute d an optimal connection from a, elsewhere than to a, has the sequence s and then b,
pub record ArcAt (w : List ℕ) (a d : ℕ) (s : List ℕ) (b : ℕ) : Type 0 where
  pub other : b ≢ a
  pub way : Way (net_of w) a d b (s ++ (b ∷ []))

-- or begins so, makes change b and goes on
pub record KidAt (w : List ℕ) (a d : ℕ) (s : List ℕ) (b : Transfer) : Type 0 where
  pub rest : List ℕ
  pub target : ℕ
  pub some : rest ≢ []
  pub other : target ≢ a
  pub way : Way (net_of w) a d target (s ++ (b.alighted ∷ b.boarded ∷ rest))

-- that is so at some minute at which something departs from a
pub record Once (w : List ℕ) (a : ℕ) (At : ℕ → Type 0) : Type 0 where
  pub minute : ℕ
  pub source : Source w a minute
  pub at : At minute

-- the changes of a sequence, the last one first, and behind them others
unfoldable pub turned : List ℕ → List Transfer → List Transfer
turned [] rev = rev
turned (x ∷ []) rev = rev
turned (x ∷ y ∷ s) rev = turned s (record { alighted = x; boarded = y } ∷ rev)

unfoldable pub backwards : List ℕ → List Transfer
backwards s = turned s []

turned_read : (s : List ℕ) (rev : List Transfer) (r : List ℕ) → Even s
    → read_back (turned s rev) r ≡ read_back rev (s ++ r)
unfolding turned
turned_read [] rev r e = refl
turned_read (x ∷ []) rev r e = absurd e
turned_read (x ∷ y ∷ s) rev r e = turned_read s (record { alighted = x; boarded = y } ∷ rev) r e

pub forwards : (s r : List ℕ) → Even s → read_back (backwards s) r ≡ s ++ r
unfolding backwards
forwards s r e = turned_read s [] r e

turned_more : (s : List ℕ) (rev : List Transfer) (b : Transfer) → Even s
    → turned (changing s b) rev ≡ b ∷ turned s rev
unfolding turned
turned_more [] rev b e = refl
turned_more (x ∷ []) rev b e = absurd e
turned_more (x ∷ y ∷ s) rev b e = turned_more s (record { alighted = x; boarded = y } ∷ rev) b e

pub backwards_more : (s : List ℕ) (b : Transfer) → Even s → backwards (changing s b) ≡ b ∷ backwards s
unfolding backwards
backwards_more s b e = turned_more s [] b e

-- a node names changes alone
pub node_even : (ps : List (List ℕ)) (v : ℕ) → Even (node_at ps v)
unfolding rooted
node_even ps v =
    elim (dec_lt v (length (rooted ps))) [
      | yes h ↦
          cons_cases
          (get_d_in (rooted ps) v [] h)
          (λ e. subst Even (sym e) tt)
          (λ m. (nodes_made_lem ps).even (node_at ps v) m)
      | no h ↦ subst Even (sym (get_or-eq_default (rooted ps) [] {n = v} (omega arith))) tt
    ]

module _ (w : List ℕ) (yes : is_timetable w ≡ true) (timely : Timely w) (a : ℕ) (s : List ℕ) (even : Even s) where
  -- ---- one minute: what the marks of the node say
  module _ (d : ℕ) (v e : List ℕ) (least : LeastArrivals w a d v) (allows : Allows w a v e) where
    pub arc_ends : (b : ℕ) → Ends w a d e (backwards s) b ↔ ArcAt w a d s b
    arc_ends b = (to, from)
      where
        to : Ends w a d e (backwards s) b → ArcAt w a d s b
        to h =
            let k = (ends_closing w yes timely a d v e least allows (backwards s) b).0 h in
            record {
              other = k.1;
              way =
                  subst (Way (net_of w) a d b) (forwards s (b ∷ []) even)
                  ((closing_exactly (net_of w) (spelled_sound w yes) a d (backwards s) b).0 k.0);
            }

        from : ArcAt w a d s b → Ends w a d e (backwards s) b
        from h =
            (ends_closing w yes timely a d v e least allows (backwards s) b).1 (
              (closing_exactly (net_of w) (spelled_sound w yes) a d (backwards s) b).1
                  (subst (Way (net_of w) a d b) (sym (forwards s (b ∷ []) even)) h.way),
              h.other,
            )

    pub kid_goes_on : (b : Transfer) → GoesOn w a d e (backwards s) b ↔ KidAt w a d s b
    kid_goes_on b = (to, from)
      where
        through : (rest : List ℕ) → read_back (b ∷ backwards s) rest ≡ s ++ (b.alighted ∷ b.boarded ∷ rest)
        through rest = forwards s (b.alighted ∷ b.boarded ∷ rest) even

        to : GoesOn w a d e (backwards s) b → KidAt w a d s b
        to h =
            let k = (goes_on_way w yes timely a d v e least allows (backwards s) b).0 h in
            record {
              rest = k.rest;
              target = k.target;
              some = k.some;
              other = k.other;
              way = subst (Way (net_of w) a d k.target) (through k.rest) k.way;
            }

        from : KidAt w a d s b → GoesOn w a d e (backwards s) b
        from k =
            (goes_on_way w yes timely a d v e least allows (backwards s) b).1
            (record {
              rest = k.rest;
              target = k.target;
              some = k.some;
              other = k.other;
              way = subst (Way (net_of w) a d k.target) (sym (through k.rest)) k.way;
            })

  -- ---- all minutes: what the tree has
  pub arc_stored : (b : ℕ) → T (has_arc (sequences w a) s b) ↔ Once w a (λ d. ArcAt w a d s b)
  arc_stored b = (to, from)
    where
      to : T (has_arc (sequences w a) s b) → Once w a (λ d. ArcAt w a d s b)
      to t =
          let k = stored_way w yes timely a (s ++ (b ∷ [])) (arc_out (sequences w a) s b t) in
          let c = k.way.connection in
          let there : k.target ≡ b =
          sequence_end (net_of w) a k.minute k.target c (backwards s) b k.way.optimal.feasible
          (k.way.is ∙ sym (forwards s (b ∷ []) even)) in
          record {
            minute = k.minute;
            source = k.source;
            at =
                record {
                  other = (λ q. k.other (there ∙ q));
                  way = subst (λ z. Way (net_of w) a k.minute z (s ++ (b ∷ []))) there k.way;
                };
          }

      from : Once w a (λ d. ArcAt w a d s b) → T (has_arc (sequences w a) s b)
      from h =
          arc_in (sequences w a) s b
          (way_stored w yes timely a h.minute b (s ++ (b ∷ [])) h.source h.at.other h.at.way)

  pub kid_stored : (b : Transfer) → T (has_kid (sequences w a) s b) ↔ Once w a (λ d. KidAt w a d s b)
  kid_stored b = (to, from)
    where
      to : T (has_kid (sequences w a) s b) → Once w a (λ d. KidAt w a d s b)
      to t =
          let r = concat_map_out beginnings (sequences w a) (kid_out (sequences w a) s b t) in
          let odd = stored_odd (net_of w) (spelled_sound w yes) a r.0 r.1 in
          let g = begin_out r.0 (changing s b) odd r.2 in
          let k = stored_way w yes timely a r.0 r.1 in
          record {
            minute = k.minute;
            source = k.source;
            at =
                record {
                  rest = g.rest;
                  target = k.target;
                  some = g.some;
                  other = k.other;
                  way =
                      subst (Way (net_of w) a k.minute k.target)
                      (sym g.is ∙ append_assoc s (b.alighted ∷ b.boarded ∷ []) g.rest) k.way;
                };
          }

      from : Once w a (λ d. KidAt w a d s b) → T (has_kid (sequences w a) s b)
      from h =
          let k = h.at in
          let q = s ++ (b.alighted ∷ b.boarded ∷ k.rest) in
          kid_in (sequences w a) s b
          (concat_map_in beginnings
          (way_stored w yes timely a h.minute k.target q h.source k.other k.way)
          (begin_in s b k.rest even))
