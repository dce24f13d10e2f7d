-- The nodes of the store's tree: the source and the stations boarded at are all different.
use Rattle.std.specs.Prelude.{◌≡◌, refl, true, ◌≢◌, List, [], ◌∷◌, ◌++◌, ℕ, ◌<◌, length}
use Rattle.std.proofs.Common.{sym, ap, subst, ◌∙◌}
use mathlib.Core.List.Memᴰ
use mathlib.Core.List.Memᴰ.{head as here}
use Rattle.lists.specs.Lists.{◌∈◌, Distinct}
use Rattle.lists.specs.Members.{none, cons_cases, concat_map_out}
use Rattle.lists.specs.Places.{get_d_in}
use Rattle.timetable.specs.Words.{is_timetable}
use Rattle.connections.specs.Connections.{Transfer, Connection, direct, onward, stations}
use Rattle.connections.proofs.OptimalLaws.{boarded_at, boarded_distinct}
use Rattle.stores.specs.Words.{beginnings, final, nodes}
use Rattle.stores.specs.Sequences.{Even, begin_even}
use Rattle.stores.specs.Nodes.{node_out}
use Rattle.stores.specs.Stored.{sequences}
use Rattle.stores.proofs.StoredLaws.{stored_out, stored_odd, sequence_is}
use Rattle.store_stops.specs.RideStops.{net_of, spelled_sound}
use Rattle.store_marks.specs.Reaching.{boards_at}
use Rattle.store_tree.specs.Tree.{changing, rooted, node_at}
use Rattle.store_tree.specs.Numbering.{root_first}
use Rattle.store_nodes.specs.Beginnings.{begin_out}
use Rattle.store_nodes.specs.Minutes.{turned, backwards}

-- the stations boarded at in a sequence of changes
abbrev pub boarded_in : List ℕ → List ℕ
boarded_in [] = []
boarded_in (x ∷ []) = []
boarded_in (x ∷ y ∷ q) = y ∷ boarded_in q

boarded_stations : (c : Connection) → boarded_at c ≡ boarded_in (stations c)
boarded_stations (direct r) = refl
boarded_stations (onward r w c) = ap (λ l. w.to ∷ l) (boarded_stations c)

boarded_append : (q r : List ℕ) → Even q → boarded_in (q ++ r) ≡ boarded_in q ++ boarded_in r
boarded_append [] r e = refl
boarded_append (x ∷ []) r e = absurd e
boarded_append (x ∷ y ∷ q) r e = ap (λ l. y ∷ l) (boarded_append q r e)

-- ---- where one boards after a sequence of changes
boards_turned : (a : ℕ) (q : List ℕ) (rev : List Transfer) → Even q
    → boards_at a (turned q rev) ≡ final (boards_at a rev ∷ q)
unfolding turned
boards_turned a [] rev e = refl
boards_turned a (x ∷ []) rev e = absurd e
boards_turned a (x ∷ y ∷ q) rev e = boards_turned a q (record { alighted = x; boarded = y } ∷ rev) e

boards_final : (a : ℕ) (q : List ℕ) → Even q → boards_at a (backwards q) ≡ final (a ∷ q)
unfolding backwards
boards_final a q e = boards_turned a q [] e

final_boarded : (a : ℕ) (q : List ℕ) → Even q → final (a ∷ q) ≡ final (a ∷ boarded_in q)
final_boarded a [] e = refl
final_boarded a (x ∷ []) e = absurd e
final_boarded a (x ∷ y ∷ q) e = final_boarded y q e

-- ---- all different
-- a beginning of a list without repetition has none
front_distinct : (l m : List ℕ) → Distinct (l ++ m) → Distinct l
front_distinct [] m d = tt
front_distinct (x ∷ l) m d = (λ k. d.0 (Memᴰ.append_left m k), front_distinct l m d.1)

final_apart : (a : ℕ) (l : List ℕ) (x : ℕ) → Distinct (a ∷ (l ++ (x ∷ []))) → final (a ∷ l) ≢ x
final_apart a [] x d e = d.0 (here e)
final_apart a (b ∷ l) x d e = final_apart b l x d.1 e

-- so one boards elsewhere than before
pub boards_apart : (a : ℕ) (q : List ℕ) (t : Transfer) → Even q → Distinct (a ∷ boarded_in (changing q t))
    → boards_at a (backwards q) ≢ t.boarded
boards_apart a q t e d same =
    final_apart a (boarded_in q) t.boarded
    (subst (λ l. Distinct (a ∷ l)) (boarded_append q (t.alighted ∷ t.boarded ∷ []) e) d)
    (sym (final_boarded a q e) ∙ sym (boards_final a q e) ∙ same)

-- the sequence of a node, for source a
pub record Sequenced (a : ℕ) (q : List ℕ) : Type 0 where
  pub apart : Distinct (a ∷ boarded_in q)

module _ (w : List ℕ) (yes : is_timetable w ≡ true) (a : ℕ) where
  whole_distinct : (p : List ℕ) → p ∈ sequences w a → Distinct (a ∷ boarded_in p)
  whole_distinct p m =
      let ok = spelled_sound w yes in
      let s = stored_out (net_of w) ok a p m in
      subst (λ l. Distinct (a ∷ l))
      (boarded_stations s.connection ∙ ap boarded_in (sequence_is (net_of w) ok a p s))
      (boarded_distinct (net_of w) ok a s.minute s.target s.connection s.optimal)

  begun : (q rest : List ℕ) → Even q → q ++ rest ∈ sequences w a → Sequenced a q
  begun q rest e m =
      record {
        apart =
            front_distinct (a ∷ boarded_in q) (boarded_in rest)
            (subst (λ l. Distinct (a ∷ l)) (boarded_append q rest e) (whole_distinct (q ++ rest) m));
      }

  node : (q : List ℕ) → q ∈ nodes (sequences w a) → Sequenced a q
  node q m =
      let r = concat_map_out beginnings (sequences w a) (node_out (sequences w a) q m) in
      let b = begin_out r.0 q (stored_odd (net_of w) (spelled_sound w yes) a r.0 r.1) r.2 in
      begun q b.rest (begin_even q r.0 r.2)
      (subst (λ p. p ∈ sequences w a) (sym b.is) r.1)

  pub sequenced : (v : ℕ) → v < length (rooted (sequences w a)) → Sequenced a (node_at (sequences w a) v)
  sequenced v h =
      cons_cases
      (subst (λ l. node_at (sequences w a) v ∈ l) (root_first (sequences w a))
      (get_d_in (rooted (sequences w a)) v [] h))
      (λ e. subst (Sequenced a) (sym e) (record { apart = (none, tt) }))
      (λ m. node (node_at (sequences w a) v) m)
