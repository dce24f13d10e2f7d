-- The connection that a row shows, arc by arc: of those of its cost that go by one of the first k sequences the one
-- that the rule for equal cost picks, or none; after all arcs it is the one picked from the list kept.
use Rattle.std.specs.Prelude.{◌≡◌, ◌≢◌, List, [], ◌∷◌, ◌++◌, ℕ, suc, ◌≤◌, ◌<◌, T, length, get_or, take}
use Rattle.std.proofs.Common.{sym, ap, subst, ◌∙◌, take-suc, take_all}
use mathlib.Core.List.Memᴰ
use mathlib.Core.List.Memᴰ.{head as here}
use native.Mathlib.Omega.{arith, by_contra}
use Rattle.lists.specs.Lists.{◌∈◌, before}
use Rattle.lists.specs.Order.{before_trans, not_before_trans}
use Rattle.lists.specs.Members.{none, append_cases, cons_cases}
use Rattle.results.specs.Results.{Cost}
use Rattle.results.proofs.Best.{ByThen}
use Rattle.connections.specs.Connections.{Net, Connection, Feasible, arrival, penalty, stations}
use Rattle.connections.specs.Planner.{tie_key}
use Rattle.connections.proofs.Sound.{Sound}
use Rattle.optimality.specs.Greedy.{Fits}
use Rattle.stores.specs.Words.{readable, kept_list}
use Rattle.stores.proofs.KeptLaws.{kept_exactly}
use Rattle.query_minutes.specs.Minutes.{no_points, leads}
use Rattle.query_minutes.specs.Noted.{Led, led_exactly}
use Rattle.query_costs.specs.Lowered.{kept}
use Rattle.query_arcs.specs.Kept.{LeastKept}
use Rattle.query_arcs.specs.Collected.{ends_at}
use Rattle.query_winner.specs.Winning.{Shows}

-- for a query from a at minute u to b, and an arrival minute and penalty
module _ (n : Net) (ok : Sound n) (s : List ℕ) (a u b : ℕ) (c : Cost) where
  -- of this cost, by sequence q
  pub record By (q : List ℕ) (e : Connection) : Type 0 where
    pub feasible : Feasible n a u b e
    pub is : stations e ≡ q
    pub arrives : arrival e ≡ c.minutes
    pub pays : penalty e ≡ c.points

  -- of this cost, by one of the first k sequences
  pub record Of (k : ℕ) (e : Connection) : Type 0 where
    pub feasible : Feasible n a u b e
    pub held : stations e ∈ take k (readable s)
    pub arrives : arrival e ≡ c.minutes
    pub pays : penalty e ≡ c.points

  -- none of them goes before it
  pub record Own (q : List ℕ) (one : Connection) : Type 0 where
    pub by : By q one
    pub first : (e : Connection) → By q e → ¬ T (before (tie_key e) (tie_key one))

  pub record Won (k : ℕ) (one : Connection) : Type 0 where
    pub of : Of k one
    pub first : (e : Connection) → Of k e → ¬ T (before (tie_key e) (tie_key one))

  abbrev pub None : (k : ℕ) → Type 0
  None k = (e : Connection) → Of k e → ⊥

  pub none_first : None 0
  none_first e o = none o.held

  -- one arc more
  module _ (k : ℕ) (inside : k < length (readable s)) where
    abbrev pub this : List ℕ
    this = get_or (readable s) k []

    next : take (suc k) (readable s) ≡ take k (readable s) ++ (this ∷ [])
    next = take-suc (readable s) k [] inside

    cases : {G : Type 0} (e : Connection) → Of (suc k) e → (Of k e → G) → (By this e → G) → G
    cases e o f g =
        append_cases (take k (readable s)) (subst (λ l. stations e ∈ l) next o.held)
        (λ i. f (record { feasible = o.feasible; held = i; arrives = o.arrives; pays = o.pays }))
        (λ i.
        cons_cases i (λ z. g (record { feasible = o.feasible; is = z; arrives = o.arrives; pays = o.pays }))
        (λ z. none z))

    earlier : (e : Connection) → Of k e → Of (suc k) e
    earlier e o =
        record {
          feasible = o.feasible;
          held = subst (λ l. stations e ∈ l) (sym next) (Memᴰ.append_left (this ∷ []) o.held);
          arrives = o.arrives;
          pays = o.pays;
        }

    later : (e : Connection) → By this e → Of (suc k) e
    later e o =
        record {
          feasible = o.feasible;
          held = subst (λ l. stations e ∈ l) (sym next) (Memᴰ.append_right (take k (readable s)) (here o.is));
          arrives = o.arrives;
          pays = o.pays;
        }

    -- no one of the cost goes by this sequence
    pub none_more : None k → ((e : Connection) → By this e → ⊥) → None (suc k)
    none_more gone empty e o = cases e o (gone e) (empty e)

    pub won_skip : (one : Connection) → Won k one → ((e : Connection) → By this e → ⊥) → Won (suc k) one
    won_skip one w empty =
        record {
          of = earlier one w.of;
          first = λ e o. cases e o (w.first e) (λ z. absurd (empty e z));
        }

    -- or those that do were found already
    module _ (again : this ∈ take k (readable s)) where
      back : (e : Connection) → Of (suc k) e → Of k e
      back e o =
          cases e o (λ z. z)
          (λ z.
          record {
            feasible = z.feasible;
            held = subst (λ q. q ∈ take k (readable s)) (sym z.is) again;
            arrives = z.arrives;
            pays = z.pays;
          })

      pub none_again : None k → None (suc k)
      none_again gone e o = gone e (back e o)

      pub won_again : (one : Connection) → Won k one → Won (suc k) one
      won_again one w = record { of = earlier one w.of; first = λ e o. w.first e (back e o) }

    -- the first that is found, one that goes before, and one that does not
    pub won_new : (one : Connection) → None k → Own this one → Won (suc k) one
    won_new one gone w =
        record { of = later one w.by; first = λ e o. cases e o (λ z. absurd (gone e z)) (w.first e) }

    pub won_better : (old one : Connection) → Won k old → Own this one → T (before (tie_key one) (tie_key old))
        → Won (suc k) one
    won_better old one w o t =
        record {
          of = later one o.by;
          first =
              λ e z.
              cases e z (λ i r. w.first e i (before_trans (tie_key e) (tie_key one) (tie_key old) r t)) (o.first e);
        }

    pub won_keep : (old one : Connection) → Won k old → Own this one → ¬ T (before (tie_key one) (tie_key old))
        → Won (suc k) old
    won_keep old one w o t =
        record {
          of = earlier old w.of;
          first =
              λ e z.
              cases e z (w.first e) (λ i. not_before_trans (tie_key e) (tie_key one) (tie_key old) (o.first e i) t);
        }

    -- a sequence that ends elsewhere has no connection to b
    pub none_elsewhere : (q : List ℕ) (y : ℕ) → this ≡ q ++ (y ∷ []) → y ≢ b → (e : Connection) → By this e → ⊥
    none_elsewhere q y e other x o = other (ends_at n a u b x q y o.feasible (o.is ∙ e))

  -- ---- all arcs
  module _ (k : ℕ) (all : length (readable s) ≤ k) where
    whole : take k (readable s) ≡ readable s
    whole = take_all k (readable s) all

    kept_of : (e : Connection) → e ∈ kept_list n s a u b → arrival e ≡ c.minutes → penalty e ≡ c.points → Of k e
    kept_of e i h g =
        let z = (kept_exactly n ok s a u b e).0 i in
        record {
          feasible = z.feasible;
          held = subst (λ l. stations e ∈ l) (sym whole) z.held;
          arrives = h;
          pays = g;
        }

    pub won_all : (one : Connection) → Won k one → Shows u (kept_list n s a u b) c one
    won_all one w =
        record {
          listed =
              (kept_exactly n ok s a u b one).1
              (record {
                feasible = w.of.feasible;
                held = subst (λ l. stations one ∈ l) whole w.of.held;
              });
          arrives = w.of.arrives;
          pays = w.of.pays;
          first = λ e i h g. w.first e (kept_of e i h g);
        }

    -- a cost that leads is that of some connection
    pub none_never : (w : List ℕ) → LeastKept u (kept_list n s a u b) w → c ∈ leads no_points 0 w → None k → ⊥
    none_never w least i gone =
        let l = (led_exactly no_points w no_points 0 c).0 i in
        let x = least.attained l.place (omega (arith, l.is, l.less)) in
        let at : arrival x.one ≡ c.minutes = omega (arith, x.arrives, l.at) in
        gone x.one (kept_of x.one x.listed at (x.pays ∙ l.is))

  -- ---- who fits a cost that leads has that cost
  module _ (w : List ℕ) (least : LeastKept u (kept_list n s a u b) w) (i : c ∈ leads no_points 0 w)
    where
      pub fits_by : (q : List ℕ) (e : Connection) → q ∈ readable s
          → Fits n b c.minutes q a u c.points e → By q e
      fits_by q e m f =
          record {
            feasible = f.feasible;
            is = f.is;
            arrives = at;
            pays = omega (arith, low.low, f.cheap, place, ap (kept w) same);
          }
        where
          l : Led no_points no_points 0 w c
          l = (led_exactly no_points w no_points 0 c).0 i

          place : kept w c.minutes ≡ c.points
          place = ap (kept w) (omega (arith, l.at)) ∙ l.is

          listed : e ∈ kept_list n s a u b
          listed =
              (kept_exactly n ok s a u b e).1
              (record { feasible = f.feasible; held = subst (λ z. z ∈ readable s) (sym f.is) m })

          low : ByThen (kept w) (arrival e) (penalty e)
          low = least.low e listed

          -- nothing as cheap is kept for an earlier minute
          same : low.minute ≡ c.minutes
          same =
              let late = by_contra c.minutes low.minute early in
              omega (arith, f.timely, low.until, late)
            where
              early : low.minute < c.minutes → ⊥
              early h = omega (arith, l.first low.minute (omega (arith, l.at)), low.low, f.cheap)

          at : arrival e ≡ c.minutes
          at = omega (arith, f.timely, low.until, same)

      by_fits : (q : List ℕ) (e : Connection) → By q e → Fits n b c.minutes q a u c.points e
      by_fits q e o =
          record {
            feasible = o.feasible;
            is = o.is;
            timely = omega (arith, o.arrives);
            cheap = omega (arith, o.pays);
          }

      -- what is found along one sequence, by the cost
      pub found_own : (q : List ℕ) (one : Connection) → q ∈ readable s
          → Fits n b c.minutes q a u c.points one
          → ((e : Connection) → Fits n b c.minutes q a u c.points e → ¬ T (before (tie_key e) (tie_key one)))
          → Own q one
      found_own q one m f first = record { by = fits_by q one m f; first = λ e o. first e (by_fits q e o) }

      pub found_none : (q : List ℕ) → ((e : Connection) → Fits n b c.minutes q a u c.points e → ⊥)
          → (e : Connection) → By q e → ⊥
      found_none q gone e o = gone e (by_fits q e o)
