-- The tree grows chunk by chunk: the flags of the nodes of a chunk are found in one go, and then the nodes are taken
-- one after the other.
use Rattle.std.specs.Prelude.{◌≡◌, true, false, not, List, ◌++◌, ℕ, suc, ◌+◌, ◌-◌, ◌*◌, ◌≤◌, ◌<◌, length, take, drop}
use Rattle.std.proofs.Common.{sym, ap, subst, ◌∙◌, true≢false, arith, length-append, take-add}
use Rattle.std.proofs.Math.Nat.{sub-zero}
use Rattle.std.proofs.lemmas.Bool.{not-true, not-false}
use Rattle.lists.specs.Lists.{concat_map}
use Rattle.timetable.specs.Words.{station_count, is_timetable}
use Rattle.stores.specs.Words.{entries_most}
use Rattle.stores.specs.Stored.{sequences}
use Rattle.store_slots.specs.Slots.{slots}
use Rattle.store_frontier.specs.Routes.{Routes}
use Rattle.store_tree.specs.declared.Counts.{Counts}
use Rattle.store_tree.specs.Tree.{has_arc, has_kid, children, rooted, node_at, Made, Grown, TooMany, Flags, KidFlags}
use Rattle.store_tree.specs.Held.{concat_map_append}
use Rattle.store_tree.specs.Taking.{Next, Takes, Taken, grown_end}
use Rattle.store_tree.specs.StoredTree.{stored_made}
use Rattle.store_nodes.specs.Standing.{StandingTo}
use Rattle.store_nodes.specs.Chunk.{part_of, shown_arcs, shown_kids}
use Rattle.store_minutes.specs.Seeking.{Chunked}

-- the slots that are lent, of all that there is room for
pub slots_lent : (w all : List ℕ) (count : ℕ) → take count all ≡ slots w → take (count - 0) (drop 0 all) ≡ slots w
slots_lent w all count e = ap (λ k. take k all) (sub-zero count) ∙ e

-- nodes lo up to hi of the tree of ps are to be taken, and flags tell their arcs and kids
pub record Chunk
    (w : List ℕ) (ps : List (List ℕ)) (source : ℕ) (work targets : List ℕ) (n m lo hi : ℕ) (arcs kids : List ℕ)
    : Type 0 where
  pub made : Made w ps
  pub grown : Grown w ps source work targets n m lo
  pub ordered : lo ≤ hi
  pub on : hi ≤ suc n
  pub few : hi ≤ lo + 96
  pub long_arcs : length arcs ≡ 6144
  pub long_kids : length kids ≡ 30720
  pub arc_flags : (v : ℕ) → lo ≤ v → v < hi → Flags (has_arc ps (node_at ps v)) (part_of 64 (64 * (v - lo)) arcs)
  pub kid_flags : (v : ℕ) → lo ≤ v → v < hi
      → KidFlags w (has_kid ps (node_at ps v)) (part_of 320 (320 * (v - lo)) kids)

-- the same of some tree, the slots of which are listed
pub record SomeChunk (list work targets : List ℕ) (n m lo hi : ℕ) (arcs kids : List ℕ) : Type 0 where
  pub timetable : List ℕ
  pub sequences : List (List ℕ)
  pub source : ℕ
  pub all : list ≡ slots timetable
  pub chunk : Chunk timetable sequences source work targets n m lo hi arcs kids

-- the nodes below hi were taken, or the store does not fit
pub record Reached
    (w : List ℕ) (ps : List (List ℕ)) (source : ℕ) (work targets : List ℕ) (hi : ℕ) (r : Counts) : Type 0 where
  pub taken : r.fits ≡ true → Grown w ps source work targets r.n r.m hi
  pub refused : r.fits ≡ false → TooMany ps

-- all nodes were taken, or the store does not fit
pub record Whole (w : List ℕ) (ps : List (List ℕ)) (source : ℕ) (work targets : List ℕ) (r : Counts) : Type 0 where
  pub taken : r.fits ≡ true → Grown w ps source work targets r.n r.m (suc r.n)
  pub refused : r.fits ≡ false → TooMany ps

-- this holds of whatever tree the chunk is of
pub record AllReached
    (list work₀ targets₀ : List ℕ) (n₀ m₀ lo hi : ℕ) (arcs kids work targets : List ℕ) (r : Counts) : Type 0 where
  pub reached : (w : List ℕ) (ps : List (List ℕ)) (source : ℕ) → list ≡ slots w
      → Chunk w ps source work₀ targets₀ n₀ m₀ lo hi arcs kids → Reached w ps source work targets hi r

-- while the nodes of the chunk are taken
pub record Underway
    (list work₀ targets₀ : List ℕ) (n₀ m₀ lo hi : ℕ) (arcs kids work targets : List ℕ) (n m v : ℕ) : Type 0 where
  pub grown : (w : List ℕ) (ps : List (List ℕ)) (source : ℕ) → list ≡ slots w
      → Chunk w ps source work₀ targets₀ n₀ m₀ lo hi arcs kids → Grown w ps source work targets n m v

-- the root alone is a tree of any sequences, so of those of the source
pub planted : (w : List ℕ) (a : ℕ) (work targets : List ℕ)
    → ((words : List ℕ) (ps : List (List ℕ)) (targets : List ℕ) → is_timetable words ≡ true → a ≤ station_count words
    → length targets ≡ 16384 → Grown words ps a work targets 0 0 0)
    → is_timetable w ≡ true → a ≤ station_count w → length targets ≡ 16384
    → Grown w (sequences w a) a work targets 0 0 0
planted w a work targets grown spelled near long = grown w (sequences w a) targets spelled near long

-- there are no fewer nodes than before
grown_rises : (w : List ℕ) (ps : List (List ℕ)) (source : ℕ) (work₀ targets₀ work targets : List ℕ)
    (n₀ m₀ lo n m v : ℕ) → Grown w ps source work₀ targets₀ n₀ m₀ lo → Grown w ps source work targets n m v → lo ≤ v
    → n₀ ≤ n
grown_rises w ps source work₀ targets₀ work targets n₀ m₀ lo n m v g h low =
    let first = take lo (rooted ps) in
    let next = take (v - lo) (drop lo (rooted ps)) in
    let e : lo + (v - lo) ≡ v = omega arith in
    let both : take v (rooted ps) ≡ first ++ next =
    ap (λ k. take k (rooted ps)) (sym e) ∙ take-add lo (v - lo) (rooted ps) in
    omega (
      arith,
      g.node_count_lem,
      h.node_count_lem,
      ap (λ l. length (concat_map (children w ps) l)) both,
      ap length (concat_map_append (children w ps) first next),
      length-append (concat_map (children w ps) first) (concat_map (children w ps) next),
    )

-- ---- taking the nodes of a chunk
module _ (list work₀ targets₀ : List ℕ) (n₀ m₀ lo hi : ℕ) (arcs kids : List ℕ) where
  pub underway_none : Underway list work₀ targets₀ n₀ m₀ lo hi arcs kids work₀ targets₀ n₀ m₀ lo
  underway_none = record { grown = (λ w ps source all c. c.grown) }

  module _ (some : SomeChunk list work₀ targets₀ n₀ m₀ lo hi arcs kids) where
    pub chunk_arcs : length arcs ≡ 6144
    chunk_arcs = some.chunk.long_arcs

    pub chunk_kids : length kids ≡ 30720
    chunk_kids = some.chunk.long_kids

    pub chunk_few : hi ≤ lo + 96
    chunk_few = some.chunk.few

    pub chunk_ordered : lo ≤ hi
    chunk_ordered = some.chunk.ordered

  module _ (work targets : List ℕ) (n m v : ℕ)
      (u : Underway list work₀ targets₀ n₀ m₀ lo hi arcs kids work targets n m v) (low : lo ≤ v) where
    module _ (inside : v < hi) where
      abbrev arcs_here : List ℕ
      arcs_here = part_of 64 (64 * (v - lo)) arcs

      abbrev kids_here : List ℕ
      kids_here = part_of 320 (320 * (v - lo)) kids

      next : (w : List ℕ) (ps : List (List ℕ)) (source : ℕ) → list ≡ slots w
          → Chunk w ps source work₀ targets₀ n₀ m₀ lo hi arcs kids
          → Next w ps source work targets n m v arcs_here kids_here
      next w ps source all c =
          record {
            made = c.made;
            grown = u.grown w ps source all c;
            listed =
                omega (
                  arith,
                  c.on,
                  grown_rises w ps source work₀ targets₀ work targets n₀ m₀ lo n m v c.grown
                      (u.grown w ps source all c) low,
                );
            arc_flags = c.arc_flags v low inside;
            kid_flags = c.kid_flags v low inside;
          }

      pub takes_next : SomeChunk list work₀ targets₀ n₀ m₀ lo hi arcs kids
          → Takes list work targets n m v (part_of 64 (64 * (v - lo)) arcs) (part_of 320 (320 * (v - lo)) kids)
      takes_next s =
          record {
            timetable = s.timetable;
            sequences = s.sequences;
            source = s.source;
            all = s.all;
            next = next s.timetable s.sequences s.source s.all s.chunk;
          }

      module _ (work' targets' : List ℕ) (r : Counts)
          (took : (w : List ℕ) (ps : List (List ℕ)) (source : ℕ) → list ≡ slots w
          → Next w ps source work targets n m v (part_of 64 (64 * (v - lo)) arcs) (part_of 320 (320 * (v - lo)) kids)
          → Taken w ps source work' targets' v r) where
        pub underway_more : not r.fits ≡ false
            → Underway list work₀ targets₀ n₀ m₀ lo hi arcs kids work' targets' r.n r.m (v + 1)
        underway_more e =
            record {
              grown =
                  (λ w ps source all c.
                  (took w ps source all (next w ps source all c)).taken (not-false r.fits e));
            }

        pub all_refused : not r.fits ≡ true
            → AllReached list work₀ targets₀ n₀ m₀ lo hi arcs kids work' targets' r
        all_refused t =
            let e = not-true r.fits t in
            record {
              reached =
                  (λ w ps source all c.
                  record {
                    taken = (λ f. absurd (true≢false (sym f ∙ e)));
                    refused = (λ f. (took w ps source all (next w ps source all c)).refused e);
                  });
            }

    pub all_taken : v ≤ hi → hi ≤ v
        → AllReached list work₀ targets₀ n₀ m₀ lo hi arcs kids work targets (record { n = n; m = m; fits = true })
    all_taken h g =
        let e : v ≡ hi = omega arith in
        record {
          reached =
              (λ w ps source all c.
              record {
                taken = (λ f. subst (Grown w ps source work targets n m) e (u.grown w ps source all c));
                refused = (λ f. absurd (true≢false f));
              });
        }

-- ---- the chunk of the stored sequences
module _ (w order : List ℕ) (k : ℕ) (caught : List ℕ) (routes : Routes w order k caught) (a : ℕ)
    (work targets : List ℕ) (n m lo hi : ℕ) (grown : Grown w (sequences w a) a work targets n m lo) (ordered : lo ≤ hi)
    (on : hi ≤ n + 1) (few : hi ≤ lo + 96) where
  pub standing_to : StandingTo w a work hi
  standing_to =
      record { targets = targets; n = n; m = m; lo = lo; grown = grown; on = omega arith }

  module _ (list : List ℕ) (all : list ≡ slots w) (arcs kids : List ℕ) (chunked : Chunked w a lo hi arcs kids)
      (long_arcs : length arcs ≡ 6144) (long_kids : length kids ≡ 30720) where
    chunk : Chunk w (sequences w a) a work targets n m lo hi arcs kids
    chunk =
        record {
          made = stored_made w routes.accepted a;
          grown = grown;
          ordered = ordered;
          on = omega arith;
          few = few;
          long_arcs = long_arcs;
          long_kids = long_kids;
          arc_flags =
              (λ v h g.
              shown_arcs lo hi (λ v b. has_arc (sequences w a) (node_at (sequences w a) v) b) arcs chunked.arcs_up v h
              g (omega arith));
          kid_flags =
              (λ v h g.
              shown_kids lo hi w routes.accepted (λ v b. has_kid (sequences w a) (node_at (sequences w a) v) b) kids
              chunked.kids_up v h g (omega arith));
        }

    pub some_chunk : SomeChunk list work targets n m lo hi arcs kids
    some_chunk = record { timetable = w; sequences = sequences w a; source = a; all = all; chunk = chunk }

    pub chunk_reached : (work' targets' : List ℕ) (r : Counts)
        → AllReached list work targets n m lo hi arcs kids work' targets' r
        → Reached w (sequences w a) a work' targets' hi r
    chunk_reached work' targets' r every = every.reached w (sequences w a) a all chunk

-- ---- chunk after chunk
module _ (w : List ℕ) (ps : List (List ℕ)) (source : ℕ) (work targets : List ℕ) where
  pub few_nodes : (n m lo : ℕ) → Grown w ps source work targets n m lo → n ≤ entries_most
  few_nodes n m lo g = g.few_nodes

  pub less_left : (n m lo hi : ℕ) → Grown w ps source work targets n m lo → lo ≤ n → lo < hi → 16384 - hi < 16384 - lo
  less_left n m lo hi g h l = omega (arith, g.few_nodes)

  module _ (hi : ℕ) (r : Counts) (reached : Reached w ps source work targets hi r) where
    pub chunk_grown : not r.fits ≡ false → Grown w ps source work targets r.n r.m hi
    chunk_grown e = reached.taken (not-false r.fits e)

    pub whole_refused : not r.fits ≡ true → Whole w ps source work targets r
    whole_refused t =
        let e = not-true r.fits t in
        record { taken = (λ f. absurd (true≢false (sym f ∙ e))); refused = (λ f. reached.refused e) }

  pub whole_taken : (n m lo : ℕ) → Grown w ps source work targets n m lo → n < lo
      → Whole w ps source work targets (record { n = n; m = m; fits = true })
  whole_taken n m lo g h =
      record {
        taken = (λ f. grown_end w ps source work targets n m lo g h);
        refused = (λ f. absurd (true≢false f));
      }
