-- The arc that goes with a minute, arc by arc: of those who go by one of the first k sequences and arrive at the minute
-- every one who does not go by that arc's own sequence pays more than the least penalty, or no less than one who
-- arrives earlier. At a minute that leads no one arrives earlier for so little.
use Rattle.std.specs.Prelude.{◌≡◌, refl, ◌≢◌, ◌⊎◌, List, [], ◌∷◌, ◌++◌, length, take}
use Rattle.std.proofs.Common.{sym, ap, subst, ◌∙◌, arith, take_all}
use Rattle.std.proofs.Math.Logic.{inl, inr, ⊎_map}
use Prim.Native.Nat.{ℕ, suc, ◌≤◌, ◌<◌}
use Rattle.std.proofs.Math.Decide.{dec_lt}
use Rattle.std.proofs.Math.ListN.{get_or}
use Rattle.lists.specs.Lists.{◌∈◌}
use Rattle.results.proofs.Best.{ByThen}
use Rattle.connections.specs.Connections.{Transfer, Net, Connection, Feasible, arrival, penalty, stations}
use Rattle.connections.proofs.Sound.{Sound}
use Rattle.optimality.specs.Along.{read_back}
use Rattle.optimality.specs.AlongLaws.{sequence_ends}
use Rattle.stores.specs.Words.{readable, kept_list}
use Rattle.stores.proofs.KeptLaws.{kept_exactly}
use Rattle.query_store.specs.Entries.{arc_target}
use Rattle.query_store.specs.Paths.{arc_path}
use Rattle.query_minutes.specs.Minutes.{blank}
use Rattle.query_minutes.specs.Noted.{get_d_blank}
use Rattle.query_costs.specs.Lowered.{kept, Lowered}
use Rattle.query_arcs.specs.Collected.{Collected, sequence_cases, ends_at}
use Rattle.query_arcs.specs.Merged.{unnamed, Merged, under_best, under_mine}

-- one arrives by minute m for at most p points, and earlier or for less
pub record Beaten (best : ℕ → ℕ) (m p : ℕ) : Type 0 where
  pub minute : ℕ
  pub until : minute ≤ m
  pub low : best minute ≤ p
  pub better : (minute < m) ⊎ (best minute < p)

module _ (old new : ℕ → ℕ) (lower : (k : ℕ) → new k ≤ old k) (m p : ℕ) where
  -- where no value is more than it was, this stays so
  beaten_lower : Beaten old m p → Beaten new m p
  beaten_lower z =
      record {
        minute = z.minute;
        until = z.until;
        low = omega (arith, lower z.minute, z.low);
        better = ⊎_map (λ h. h) (λ h. omega (arith, lower z.minute)) z.better;
      }

  -- who was no better than what was kept is beaten once the minute has less
  beaten_now : ByThen old m p → new m < old m → Beaten new m p
  beaten_now z less =
      record {
        minute = z.minute;
        until = z.until;
        low = omega (arith, lower z.minute, z.low);
        better =
            elim (dec_lt z.minute m) [
              | yes h ↦ inl h
              | no h ↦ (let same : z.minute ≡ m = omega (arith, z.until, h) in
                  inr (omega (arith, z.low, less, ap new same, ap old same)))
            ];
      }

-- for a query from a at minute u to b
module _ (n : Net) (ok : Sound n) (s : List ℕ) (a u b : ℕ) where
  -- who arrives at minute m goes by sequence q, or is beaten
  abbrev pub Alone : (q best : List ℕ) (m : ℕ) → Connection → Type 0
  Alone q best m e = (stations e ≡ q) ⊎ Beaten (kept best) m (penalty e)

  pub record Sole (k : ℕ) (best who : List ℕ) : Type 0 where
    pub inside : (m j : ℕ) → get_or who m 0 ≡ suc j → j < k
    pub ends : (m j : ℕ) → get_or who m 0 ≡ suc j → arc_target s j ≡ b
    pub alone : (m j : ℕ) → get_or who m 0 ≡ suc j → (e : Connection) → Feasible n a u b e
        → stations e ∈ take k (readable s) → arrival e ≡ m → Alone (arc_path s j) best m e

  pub sole_first : (best : List ℕ) → Sole 0 best unnamed
  sole_first best =
      record {
        inside = λ m j e. absurd (nobody m j e);
        ends = λ m j e. absurd (nobody m j e);
        alone = λ m j e. absurd (nobody m j e);
      }
    where
      nobody : (m j : ℕ) → get_or unnamed m 0 ≡ suc j → ⊥
      nobody m j e = omega (arith, e, get_d_blank 2880 0 m)

  module _ (k : ℕ) (best who : List ℕ) (inside : k < length (readable s)) (so_far : Sole k best who) where
    abbrev this : List ℕ
    this = get_or (readable s) k []

    -- a sequence that ends elsewhere has no connection to b
    pub sole_skip : (q : List ℕ) (y : ℕ) → this ≡ q ++ (y ∷ []) → y ≢ b → Sole (suc k) best who
    sole_skip q y e other =
        record {
          inside = λ m j f. omega (arith, so_far.inside m j f);
          ends = so_far.ends;
          alone =
              λ m j f c g i h.
              sequence_cases s k inside (stations c) i (λ z. so_far.alone m j f c g z h)
              (λ z. absurd (other (ends_at n a u b c q y g (z ∙ e))));
        }

    -- neither has one that was followed already
    pub sole_again : this ∈ take k (readable s) → Sole (suc k) best who
    sole_again again =
        record {
          inside = λ m j f. omega (arith, so_far.inside m j f);
          ends = so_far.ends;
          alone =
              λ m j f c g i h.
              sequence_cases s k inside (stations c) i (λ z. so_far.alone m j f c g z h)
              (λ z. so_far.alone m j f c g (subst (λ q. q ∈ take k (readable s)) (sym z) again) h);
        }

    -- arc k merged
    module _ (mine best' who' : List ℕ) (rev : List Transfer) (e : this ≡ read_back rev (b ∷ []))
        (ends_here : arc_target s k ≡ b) (low : Collected n ok s a u b k best) (l : Lowered n a u rev b blank mine)
        (merged : Merged k mine best who best' who')
      where
        -- the arcs before are no better than what was kept, and arc k no better than what it has
        earlier : (c : Connection) (m : ℕ) → Feasible n a u b c → stations c ∈ take k (readable s) → arrival c ≡ m
            → ByThen (kept best) m (penalty c)
        earlier c m f i h = subst (λ m. ByThen (kept best) m (penalty c)) h (low.low c f i)

        own : (c : Connection) (m : ℕ) → Feasible n a u b c → stations c ≡ this → arrival c ≡ m
            → ByThen (kept mine) m (penalty c)
        own c m f z h =
            l.below m (penalty c)
            ((sequence_ends n a u rev b m (penalty c)).1
            (record { connection = c; feasible = f; sequence = z ∙ e; arrives = h; pays = refl }))

        pub sole_more : Sole (suc k) best' who'
        unfolding arc_path
        sole_more = record { inside = in_first; ends = ends; alone = alone }
          where
            in_first : (m j : ℕ) → get_or who' m 0 ≡ suc j → j < suc k
            in_first m j f =
                elim ((merged.at m).sole j f) [
                  | inl z ↦ omega (arith, z.0)
                  | inr z ↦ omega (arith, so_far.inside m j z.0)
                ]

            ends : (m j : ℕ) → get_or who' m 0 ≡ suc j → arc_target s j ≡ b
            ends m j f =
                elim ((merged.at m).sole j f) [
                  | inl z ↦ ap (arc_target s) z.0 ∙ ends_here
                  | inr z ↦ so_far.ends m j z.0
                ]

            alone : (m j : ℕ) → get_or who' m 0 ≡ suc j → (c : Connection) → Feasible n a u b c
                → stations c ∈ take (suc k) (readable s) → arrival c ≡ m → Alone (arc_path s j) best' m c
            alone m j f c g i h =
                let lower-best = under_best k mine best who best' who' merged in
                let lower-mine = under_mine k mine best who best' who' merged in
                elim ((merged.at m).sole j f) [
                  | inl z ↦
                      sequence_cases s k inside (stations c) i
                      (λ q.
                      inr
                      (beaten_now (kept best) (kept best') lower-best m (penalty c) (earlier c m g q h)
                      (omega (arith, z.1, (merged.at m).least))))
                      (λ q. inl (q ∙ ap (arc_path s) (sym z.0)))
                  | inr z ↦
                      sequence_cases s k inside (stations c) i
                      (λ q.
                      ⊎_map (λ p. p) (beaten_lower (kept best) (kept best') lower-best m (penalty c))
                      (so_far.alone m j z.0 c g q h))
                      (λ q.
                      inr
                      (beaten_now (kept mine) (kept best') lower-mine m (penalty c) (own c m g q h)
                      (omega (arith, z.1, (merged.at m).least))))
                ]

  -- all arcs: of the list kept, at a minute that leads
  module _ (k : ℕ) (best who : List ℕ) (all : length (readable s) ≤ k) (sole : Sole k best who) where
    pub sole_all : (m j : ℕ) → get_or who m 0 ≡ suc j → (e : Connection) → e ∈ kept_list n s a u b → arrival e ≡ m
        → penalty e ≡ kept best m → ((k : ℕ) → k < m → kept best m < kept best k) → stations e ≡ arc_path s j
    sole_all m j f e i h p leads =
        let z = (kept_exactly n ok s a u b e).0 i in
        let held = subst (λ l. stations e ∈ l) (sym (take_all k (readable s) all)) z.held in
        elim (sole.alone m j f e z.feasible held h) [ inl q ↦ q | inr q ↦ absurd (unbeaten q) ]
      where
        unbeaten : Beaten (kept best) m (penalty e) → ⊥
        unbeaten q =
            elim (dec_lt q.minute m) [
              | yes g ↦ omega (arith, q.low, p, leads q.minute g)
              | no g ↦ (let same : q.minute ≡ m = omega (arith, q.until, g) in
                  elim q.better [ inl x ↦ g x | inr x ↦ omega (arith, x, p, ap (kept best) same) ])
            ]
