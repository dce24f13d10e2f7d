-- The parts of a store fit where all of it does, and one behind the other they are its words.
use mathlib.Core.Path.{◌≡◌, refl, sym, ap, ◌∙◌}
use mathlib.Core.Bool.{true}
use mathlib.Core.List.{List, [], ◌∷◌}
use Prim.Native.Nat.{ℕ, suc, ◌+◌, ◌*◌, ◌≤◌}
use native.Mathlib.Nat.{zero-add}
use native.Mathlib.Omega.{arith}
use lib.ListN.{length, get_or, length-append}
use Rattle.words.specs.Put.{put, put_append}
use Rattle.lists.specs.Lists.{◌∈◌}
use Rattle.timetable.specs.Words.{station_count, is_timetable}
use Rattle.timetable.specs.Access.{stations_few}
use Rattle.stores.specs.Words.{encode}
use Rattle.store_slots.specs.Slots.{slots}
use Rattle.store_tree.specs.Tree.{slot_in, Made, Grown}
use Rattle.store_tree.specs.Says.{says_listed}
use Rattle.store_tree.specs.Finished.{grown_length}
use Rattle.store_tree.specs.Laid.{entries_to, total, hits_of, laid, laid_total, laid_is}
use Rattle.store_tree.specs.LaidSteps.{length_entries}
use Rattle.store_tree.specs.Taking.{Whole}

module _ (t w ts : List ℕ) (n m : ℕ) (whole : Whole t w ts n m) where
  pub whole_spelled : is_timetable t ≡ true
  whole_spelled = whole.made.timetable

  pub whole_listed : (v : ℕ) → v ≤ n → slot_in (get_or w v 0) ∈ slots t
  whole_listed v h =
      says_listed t whole.sequences whole.made whole.source w ts n m (suc n) whole.grown v h

  pub whole_total : total w 0 (suc n) ≤ 16384
  whole_total =
      omega (
        arith,
        laid_total t whole.sequences whole.made whole.source w ts n m whole.grown,
        whole.grown.few_arcs,
      )

  arcs_long : length (hits_of w ts n 1 (suc (station_count t))) ≡ 2 * m
  unfolding laid
  arcs_long =
      omega (
        arith,
        ap length (laid_is t whole.sequences whole.made whole.source w ts n m whole.grown),
        length-append (entries_to t w 1 (suc n)) (hits_of w ts n 1 (suc (station_count t))),
        length_entries t w n,
        grown_length t whole.sequences whole.made whole.source w ts n m whole.grown,
      )

  module _ (k : ℕ) (is-k : k ≡ station_count t) where
    pub whole_stations : k ≤ 64
    whole_stations = omega (arith, stations_few t whole_spelled)

    pub arcs_room : (old mid out : List ℕ) → 2 + 3 * n + 2 * m ≤ length old → length mid ≡ length old
        → length out ≡ length mid → 2 + 3 * n + length (hits_of w ts n 1 (suc k)) ≤ length out
    arcs_room old mid out h e f = omega (arith, arcs_long, ap (λ k. length (hits_of w ts n 1 (suc k))) is-k)

module _ (t w ts : List ℕ) (n m k : ℕ) (is-k : k ≡ station_count t) (old a b c : List ℕ)
    (room : 2 + 3 * n + 2 * m ≤ length old) (counts : a ≡ put 0 (n ∷ m ∷ []) old)
    (nodes-put : b ≡ put 2 (entries_to t w 1 (suc n)) a)
    (arcs-put : c ≡ put (2 + 3 * n) (hits_of w ts n 1 (suc k)) b) where
  with_nodes : b ≡ put 0 (n ∷ m ∷ entries_to t w 1 (suc n)) old
  with_nodes =
      nodes-put
      ∙ ap (put 2 (entries_to t w 1 (suc n))) counts
      ∙ put_append 0 2 (n ∷ m ∷ []) (entries_to t w 1 (suc n)) old refl (omega arith)

  with_arcs : c ≡ put 0 (laid t w ts n m) old
  unfolding laid
  with_arcs =
      let front = n ∷ m ∷ entries_to t w 1 (suc n) in
      let hits = hits_of w ts n 1 (suc (station_count t)) in
      let long : length front ≡ 2 + 3 * n = omega (arith, length_entries t w n) in
      arcs-put
      ∙ (λ i. put (sym (zero-add (2 + 3 * n)) i) (hits_of w ts n 1 (suc (is-k i))) (with_nodes i))
      ∙ put_append 0 (2 + 3 * n) front hits old long (omega arith)

  pub store_written : (ps : List (List ℕ)) (source : ℕ) → Made t ps → Grown t ps source w ts n m (suc n)
      → c ≡ put 0 (encode ps) old
  store_written ps source made g = with_arcs ∙ ap (λ l. put 0 l old) (laid_is t ps made source w ts n m g)
