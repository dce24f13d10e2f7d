-- The least penalties of a store's sequences, collected arc by arc: after k arcs the array has, for minutes, that of
-- one who arrives then by one of the first k sequences, and for everyone who goes by these that of one who arrives no
-- later and pays no more; after all arcs it has those of the list kept.
use Rattle.std.specs.Prelude.{◌≡◌, refl, ◌≢◌, List, [], ◌∷◌, ◌++◌, ℕ, zero, suc, ◌≤◌, ◌<◌, length, get_or, take}
use Rattle.std.specs.Prelude.{replicate}
use Rattle.std.proofs.Common.{sym, ap, subst, ◌∙◌, inl, inr, length-append, take-suc, take_all}
use mathlib.Core.List.Memᴰ
use mathlib.Core.List.Memᴰ.{head as here}
use native.Mathlib.Omega.{arith, by_contra}
use Rattle.std.proofs.lemmas.List.{length-replicate}
use Rattle.std.proofs.Math.ListN.{get_or-eq_default}
use Rattle.lists.specs.Lists.{◌∈◌, tail}
use Rattle.lists.specs.Places.{no_length}
use Rattle.lists.specs.Members.{none, append_cases, cons_cases}
use Rattle.results.proofs.Best.{ByThen, by_lower}
use Rattle.results.proofs.Picks.{lead}
use Rattle.connections.specs.Connections.{Transfer, Net, Connection, direct, onward, Feasible, ready, arrival}
use Rattle.connections.specs.Connections.{penalty, stations}
use Rattle.connections.proofs.Sound.{Sound}
use Rattle.connections.proofs.Feasibility.{takes_time, has_stations}
use Rattle.optimality.specs.Along.{read_back, Ends}
use Rattle.optimality.specs.AlongLaws.{Sequenced, sequence_ends}
use Rattle.stores.specs.Words.{readable, kept_list}
use Rattle.stores.proofs.KeptLaws.{kept_exactly}
use Rattle.query_minutes.specs.Minutes.{no_points, blank}
use Rattle.query_minutes.specs.Noted.{get_d_any}
use Rattle.query_costs.specs.Lowered.{kept, Lowered}
use Rattle.query_arcs.specs.Kept.{At, LeastKept, Bounds}

-- it ends at the last of its stations
pub ends_at : (n : Net) (x u b : ℕ) (c : Connection) (q : List ℕ) (y : ℕ) → Feasible n x u b c
    → stations c ≡ q ++ (y ∷ []) → y ≡ b
ends_at n x u b (direct r) [] y f e = sym (ap lead e) ∙ f.1
ends_at n x u b (direct r) (z ∷ q) y f e = absurd (omega (arith, ap length e, length-append q (y ∷ [])))
ends_at n x u b (onward r w c) [] y f e = absurd (omega (arith, ap length e))
ends_at n x u b (onward r w c) (z ∷ []) y f e =
    absurd (has_stations c (no_length (stations c) (omega (arith, ap length e))))
ends_at n x u b (onward r w c) (z ∷ v ∷ q) y f e =
    ends_at n w.to (ready r w) b c q y f.2 (ap (λ l. tail (tail l)) e)

-- the first k + 1 sequences are the first k and the one at place k
module _ (s : List ℕ) (k : ℕ) (inside : k < length (readable s)) where
  pub next_sequence : take (suc k) (readable s) ≡ take k (readable s) ++ (get_or (readable s) k [] ∷ [])
  next_sequence = take-suc (readable s) k [] inside

  pub sequence_cases : {G : Type 0} (q : List ℕ) → q ∈ take (suc k) (readable s) → (q ∈ take k (readable s) → G)
      → (q ≡ get_or (readable s) k [] → G) → G
  sequence_cases q i f g =
      append_cases (take k (readable s)) (subst (λ l. q ∈ l) next_sequence i) f
      (λ j. cons_cases j g (λ z. none z))

-- for a query from a at minute u to b
module _ (n : Net) (ok : Sound n) (s : List ℕ) (a u b : ℕ) where
  -- one who goes by one of the first k sequences arrives at minute m for p points
  pub record Held (k m p : ℕ) : Type 0 where
    pub one : Connection
    pub feasible : Feasible n a u b one
    pub held : stations one ∈ take k (readable s)
    pub arrives : arrival one ≡ m
    pub pays : penalty one ≡ p

  pub record Collected (k : ℕ) (w : List ℕ) : Type 0 where
    pub long : length w ≡ 2880
    pub attained : (m : ℕ) → m < 2880 → get_or w m 0 < no_points → Held k m (get_or w m 0)
    pub low : (c : Connection) → Feasible n a u b c → stations c ∈ take k (readable s)
        → ByThen (kept w) (arrival c) (penalty c)

  get_d_blank : (k m : ℕ) → m < k → get_or (replicate k no_points) m 0 ≡ no_points
  get_d_blank zero m h = absurd (omega arith)
  get_d_blank (suc k) zero h = refl
  get_d_blank (suc k) (suc m) h = get_d_blank k m (omega arith)

  pub collected_first : Collected 0 blank
  collected_first =
      record {
        long = length-replicate {A = ℕ} 2880 no_points;
        attained = λ m h g. absurd (omega (arith, get_d_blank 2880 m h));
        low = λ c f i. none i;
      }

  module _ (k : ℕ) (w : List ℕ) (inside : k < length (readable s)) (so_far : Collected k w) where
    abbrev this : List ℕ
    this = get_or (readable s) k []

    next : take (suc k) (readable s) ≡ take k (readable s) ++ (this ∷ [])
    next = next_sequence s k inside

    earlier : (q : List ℕ) → q ∈ take k (readable s) → q ∈ take (suc k) (readable s)
    earlier q i = subst (λ l. q ∈ l) (sym next) (Memᴰ.append_left (this ∷ []) i)

    keep : (m p : ℕ) → Held k m p → Held (suc k) m p
    keep m p h =
        record {
          one = h.one;
          feasible = h.feasible;
          held = earlier (stations h.one) h.held;
          arrives = h.arrives;
          pays = h.pays;
        }

    -- a sequence that ends elsewhere has no connection to b
    pub collected_skip : (q : List ℕ) (y : ℕ) → this ≡ q ++ (y ∷ []) → y ≢ b → Collected (suc k) w
    collected_skip q y e other =
        record {
          long = so_far.long;
          attained = λ m h g. keep m (get_or w m 0) (so_far.attained m h g);
          low =
              λ c f i.
              sequence_cases s k inside (stations c) i (so_far.low c f)
              (λ z. absurd (other (ends_at n a u b c q y f (z ∙ e))));
        }

    -- neither has one that was followed already
    pub collected_again : this ∈ take k (readable s) → Collected (suc k) w
    collected_again again =
        record {
          long = so_far.long;
          attained = λ m h g. keep m (get_or w m 0) (so_far.attained m h g);
          low =
              λ c f i.
              sequence_cases s k inside (stations c) i (so_far.low c f)
              (λ z. so_far.low c f (subst (λ q. q ∈ take k (readable s)) (sym z) again));
        }

    module _ (rev : List Transfer) (e : this ≡ read_back rev (b ∷ [])) (new : List ℕ) (l : Lowered n a u rev b w new)
      where
        -- within the array what is read past its end does not matter
        before_is : (m : ℕ) → m < 2880 → get_or w m no_points ≡ get_or w m 0
        before_is m h = get_d_any w m no_points 0 (omega (arith, so_far.long))

        after_is : (m : ℕ) → m < 2880 → get_or new m no_points ≡ get_or new m 0
        after_is m h = get_d_any new m no_points 0 (omega (arith, l.long, so_far.long))

        attained : (m : ℕ) → m < 2880 → get_or new m 0 < no_points → Held (suc k) m (get_or new m 0)
        attained m h g = elim (l.stems m) [
          | inl z ↦ old (sym (after_is m h) ∙ z ∙ before_is m h)
          | inr z ↦
              fresh ((sequence_ends n a u rev b m (get_or new m 0)).0 (subst (Ends n a u rev b m) (after_is m h) z))
        ]
          where
            old : get_or new m 0 ≡ get_or w m 0 → Held (suc k) m (get_or new m 0)
            old z =
                subst (Held (suc k) m) (sym z)
                (keep m (get_or w m 0) (so_far.attained m h (omega (arith, g, z))))

            fresh : Sequenced n a u rev b m (get_or new m 0) → Held (suc k) m (get_or new m 0)
            fresh z =
                record {
                  one = z.connection;
                  feasible = z.feasible;
                  held =
                      subst (λ r. stations z.connection ∈ r) (sym next)
                      (Memᴰ.append_right (take k (readable s)) (here (z.sequence ∙ sym e)));
                  arrives = z.arrives;
                  pays = z.pays;
                }

        pub collected_more : Collected (suc k) new
        collected_more = record { long = l.long ∙ so_far.long; attained = attained; low = low }
          where
            low : (c : Connection) → Feasible n a u b c → stations c ∈ take (suc k) (readable s)
                → ByThen (kept new) (arrival c) (penalty c)
            low c f i =
                sequence_cases s k inside (stations c) i
                (λ z. by_lower (kept w) (kept new) l.lower (arrival c) (penalty c) (so_far.low c f z))
                (λ z.
                l.below (arrival c) (penalty c)
                ((sequence_ends n a u rev b (arrival c) (penalty c)).1
                (record { connection = c; feasible = f; sequence = z ∙ e; arrives = refl; pays = refl })))

  -- all sequences: the list kept
  pub collected_all : (k : ℕ) (w : List ℕ) → length (readable s) ≤ k → Collected k w
      → LeastKept u (kept_list n s a u b) w
  collected_all k w all c = record { attained = attained; low = low }
    where
      whole : take k (readable s) ≡ readable s
      whole = take_all k (readable s) all

      inside : (m : ℕ) → get_or w m no_points < no_points → m < length w
      inside m h = by_contra (suc m) (length w) past
        where
          past : length w < suc m → ⊥
          past g = omega (arith, get_or-eq_default w no_points {n = m} (omega arith))

      attained : (m : ℕ) → get_or w m no_points < no_points → At u (kept_list n s a u b) m (get_or w m no_points)
      attained m h =
          let i = inside m h in
          let same = get_d_any w m no_points 0 i in
          let z = c.attained m (omega (arith, i, c.long)) (omega (arith, h, same)) in
          record {
            one = z.one;
            listed =
                (kept_exactly n ok s a u b z.one).1
                (record { feasible = z.feasible; held = subst (λ l. stations z.one ∈ l) whole z.held });
            arrives = z.arrives;
            pays = z.pays ∙ sym same;
          }

      low : (e : Connection) → e ∈ kept_list n s a u b → ByThen (kept w) (arrival e) (penalty e)
      low e i =
          let z = (kept_exactly n ok s a u b e).0 i in
          c.low e z.feasible (subst (λ l. stations e ∈ l) (sym whole) z.held)

  -- the bounds of those on the list
  pub kept_bounds : ((c : Connection) → Feasible n a u b c → penalty c < no_points)
      → (c : Connection) → c ∈ kept_list n s a u b → Bounds u (kept_list n s a u b) c
  kept_bounds small c i =
      let f = ((kept_exactly n ok s a u b c).0 i).feasible in
      record { from = omega (arith, takes_time n ok a u b c f); small = small c f }
