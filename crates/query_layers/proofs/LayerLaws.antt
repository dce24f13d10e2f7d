-- What is left, kept in working space and looked up there.
use mathlib.Core.Path.{◌≡◌, refl, sym, ap, subst, ◌∙◌}
use mathlib.Core.List.{List}
use Prim.Native.Nat.{ℕ, ◌+◌, ◌-◌, ◌*◌, ◌≤◌, ◌<◌}
use native.Mathlib.Omega.{arith}
use native.Mathlib.Decide.{ℕ_discrete}
use lib.ListN.{length, get_or}
use Rattle.query_minutes.specs.Minutes.{no_points}
use Rattle.query_layers.specs.declared.Kept.{Kept}
use Rattle.query_rests.specs.Given.{Given}
use Rattle.query_rests.specs.Rests.{RestsAt}
use Rattle.query_rests.specs.Spans.{Spans, Arrived, Stored, stored_spans, stored_is}
use Rattle.query_layers.specs.Layers.{width_of, place_of, KeptRide, KeptRest, Layers, Keeps}
use Rattle.query_layers.specs.Layers.{place_next, place_rise}
use Rattle.query_rests.proofs.PatternLaws.{Back, rest_begins, rest_done}

-- ---- where the words of a ride stand
module _ (t v low i : ℕ) where
  pub place_is : place_of t v low i ≡ width_of t v * (i - low)
  unfolding place_of
  place_is = refl

-- there is room for one ride
pub room_one : (t v low room : ℕ) → t ≤ v → v ≤ 2879 → 2880 ≤ room → place_of t v low (low + 1) ≤ room
unfolding place_of
room_one t v low room h g k =
    let one : low + 1 - low ≡ 1 = omega arith in
    let e : width_of t v * (low + 1 - low) ≡ width_of t v * 1 = ap (λ k. width_of t v * k) one in
    omega (arith, e)

-- ---- one ride kept

-- there is room for it
pub ride_room : (t v low high j at : ℕ) (work : List ℕ) → low ≤ j → j < high → at ≡ place_of t v low j
    → place_of t v low high ≤ length work
    → at + width_of t v ≤ length work
ride_room t v low high j at work begun h is room =
    omega (arith, is, place_next t v low j begun, place_rise t v low (j + 1) high (omega arith))

module _ (t v low high j : ℕ) (z old : List ℕ) where
  pub ride_none : high ≤ j → KeptRide t v low high j z old old
  ride_none h = record { this = λ g. absurd (omega arith); behind = λ i g. refl }

  pub ride_kept : (new : List ℕ) (at : ℕ) → low ≤ j → at ≡ place_of t v low j
      → Stored (λ i. get_or z (i - at + t) no_points) at (at + width_of t v) old new
      → KeptRide t v low high j z old new
  ride_kept new at begun is stored =
      record {
        this =
            λ g.
            record {
              at =
                  λ m h k.
                  ap (λ p. get_or new (p + (m - t)) no_points) (sym is)
                  ∙ stored.inside (at + (m - t)) (omega arith) (omega arith)
                  ∙ ap (λ k. get_or z k no_points) (omega arith);
            };
        behind = λ i g. stored.behind i (omega (arith, g, is, place_next t v low j begun));
      }

-- ---- all rides kept
module _ (w path : List ℕ) (r v t low high : ℕ) where
  pub layers_none : (from : ℕ) (work : List ℕ) → high ≤ from → Layers w path r v t low from high work
  layers_none from work h = record { ride = λ i g k. absurd (omega arith) }

  pub layers_more : (j : ℕ) (z old new : List ℕ) → low ≤ j → Layers w path r v t low (j + 1) high old
      → KeptRide t v low high j z old new
      → RestsAt w path r v t j z
      → Spans t v z
      → Layers w path r v t low j high new
  layers_more j z old new begun so_far kept rests spans = record { ride = ride }
    where
      ride : (i : ℕ) → j ≤ i → i < high → KeptRest w path r v t low i new
      ride i h g = elim (ℕ_discrete i j) [ yes e ↦ this e | no e ↦ other (omega (arith, e)) ]
        where
          this : i ≡ j → KeptRest w path r v t low i new
          this e =
              subst (λ k. KeptRest w path r v t low k new) (sym e)
              (record { z = z; spans = spans; rests = rests; held = kept.this (omega arith) })

          other : j < i → KeptRest w path r v t low i new
          other l =
              let was = so_far.ride i (omega arith) g in
              record {
                z = was.z;
                spans = was.spans;
                rests = was.rests;
                held =
                    record {
                      at =
                          λ m a b.
                          kept.behind (place_of t v low i + (m - t))
                          (omega (arith, place_rise t v low (j + 1) i (omega arith)))
                          ∙ was.held.at m a b;
                    };
              }

  -- from the last ride back: none yet, one more, all
  pub layers_begin : (work : List ℕ) → high ≤ r → Layers w path r v t low r high work
  layers_begin work few = layers_none r work few

  module _
      (m : ℕ)
      (begun : low < m)
      (z old new : List ℕ)
      (back : Back w path r v t low (m - 1) z)
      (so_far : Layers w path r v t low m high old)
      (spans : Spans t v z)
    where
      here : KeptRide t v low high (m - 1) z old new → Layers w path r v t low (m - 1) high new
      here kept =
          let same : m ≡ m - 1 + 1 = omega arith in
          let was = subst (λ k. Layers w path r v t low k high old) same so_far in
          layers_more (m - 1) z old new back.past was kept back.rests spans

      pub layers_again : KeptRide t v low high (m - 1) z old new → Layers w path r v t low (m - 1) high new
      layers_again kept = here kept

      pub layers_done : m ≤ low + 1 → KeptRide t v low high low z old new → Layers w path r v t low low high new
      layers_done h kept =
          let same : m - 1 ≡ low = omega arith in
          subst
          (λ k. Layers w path r v t low k high new)
          same
          (here (subst (λ k. KeptRide t v low high k z old new) (sym same) kept))

-- the first is one of the path
pub kept_begins : (w lines path : List ℕ) (r v : ℕ) → Given w lines path r v → (minute low high : ℕ) (z : List ℕ)
    → low < high
    → high ≤ r
    → Arrived minute v z
    → Back w path r v minute low (r - 1) z
kept_begins w lines path r v given minute low high z some few arrived =
    rest_begins w lines path r v given minute low z (omega arith) arrived

-- ---- after the last ride
pub last_rest : (w lines path : List ℕ) (r v : ℕ) → Given w lines path r v → (minute i : ℕ) (z : List ℕ) → i < r
    → r ≤ i + 1
    → Arrived minute v z
    → RestsAt w path r v minute i z
last_rest w lines path r v given minute i z inside last arrived =
    rest_done w lines path r v given minute i (r - 1) z (rest_begins w lines path r v given minute i z inside arrived)
    (omega arith)

pub last_spans : (t v : ℕ) (z : List ℕ) → Arrived t v z → Spans t v z
last_spans t v z arrived = arrived.spans

-- ---- what is kept for a ride
module _ (w path : List ℕ) (r v t i : ℕ) (kept : Kept) (work : List ℕ) (keeps : Keeps w path r v t i kept work) where
  -- its words are there
  pub rest_room : i < kept.high → (at : ℕ) → at ≡ place_of t v kept.low i → at + width_of t v ≤ length work
  rest_room h at is = ride_room t v kept.low kept.high i at work keeps.begun h is keeps.room

  module _ (h : i < kept.high) (at : ℕ) (first z : List ℕ) (is : at ≡ place_of t v kept.low i)
      (spans : Spans t v first) (stored : Stored (λ m. get_or work (at + (m - t)) no_points) t (v + 1) first z)
      (same : length z ≡ length first)
    where
      pub rest_spans : Spans t v z
      rest_spans = stored_spans (λ m. get_or work (at + (m - t)) no_points) t v first z stored spans same

      pub rest_is : RestsAt w path r v t i z
      rest_is =
          let was = keeps.layers.ride i keeps.begun h in
          let e : z ≡ was.z =
          stored_is (λ m. get_or work (at + (m - t)) no_points) t v first z stored spans was.z same was.spans
          (λ m a b. ap (λ p. get_or work (p + (m - t)) no_points) is ∙ was.held.at m a b) in
          subst (RestsAt w path r v t i) (sym e) was.rests

  pub keeps_on : Keeps w path r v t (i + 1) kept work
  keeps_on =
      record {
        begun = omega (arith, keeps.begun);
        few = keeps.few;
        room = keeps.room;
        layers = keeps.layers;
      }

-- nothing is kept yet
pub keeps_none : (w path : List ℕ) (r v t i : ℕ) (work : List ℕ)
    → Keeps w path r v t i (record { low = 0; high = 0 }) work
unfolding place_of
keeps_none w path r v t i work =
    record {
      begun = omega arith;
      few = omega arith;
      room = omega arith;
      layers = layers_none w path r v t 0 0 0 work (omega arith);
    }

-- from ride i on as far as there is room
pub keeps_more : (w path : List ℕ) (r v t i high : ℕ) (was work : List ℕ) → high ≤ r
    → place_of t v i high ≤ length was
    → length work ≡ length was
    → Layers w path r v t i i high work
    → Keeps w path r v t (i + 1) (record { low = i; high = high }) work
keeps_more w path r v t i high was work few room same layers =
    record { begun = omega arith; few = few; room = omega arith; layers = layers }
