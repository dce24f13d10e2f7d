-- A departure and its place in the order: what stands before it leaves no later, what stands behind it no earlier. So
-- whoever can change to it has left before, and has caught it or one that stands before it.
use Rattle.std.specs.Prelude.{◌≡◌, refl, ◌⊎◌, List, [], ◌∷◌, ◌++◌, ℕ, suc, ◌≤◌, ◌<◌}
use Rattle.std.proofs.Common.{sym, ap, subst, ◌∙◌, inl, inr, append_assoc, arith}
use mathlib.Core.List.Memᴰ.{head as here}
use mathlib.Core.List.Memᴰ.{tail as there}
use mathlib.Core.List.Memᴰ
use Rattle.std.proofs.Math.Decide.{dec_lt}
use Rattle.lists.specs.Lists.{◌∈◌, Distinct}
use Rattle.lists.specs.Members.{cons_cases, append_cases, none}
use Rattle.timetable.specs.Words.{station_count}
use Rattle.connections.specs.Connections.{Change}
use Rattle.store_stops.specs.Stopwise.{station, depart, nowhere, Goes, CatchesBy}
use Rattle.store_stops.specs.Settled.{Timely}
use Rattle.store_departures.specs.Order.{order, catch_by, InOrder, Waits, waits_for}

-- a list in which x stands, before x and behind it
pub record Around (x : ℕ) (l : List ℕ) : Type 0 where
  pub before : List ℕ
  pub behind : List ℕ
  pub whole : l ≡ before ++ (x ∷ behind)

pub around : {x : ℕ} {l : List ℕ} → x ∈ l → Around x l
around (here {x = y} {xs = l} e) = record { before = []; behind = l; whole = ap (λ z. z ∷ l) (sym e) }
around (there {x = y} {xs = l} m) =
    let r = around m in
    record { before = y ∷ r.before; behind = r.behind; whole = ap (λ k. y ∷ k) r.whole }

pub not_before : (xs ys : List ℕ) (x : ℕ) → Distinct (xs ++ (x ∷ ys)) → ¬ (x ∈ xs)
not_before [] ys x d m = none m
not_before (y ∷ xs) ys x d m =
    cons_cases m (λ e. d.0 (Memᴰ.append_right xs (here (sym e)))) (not_before xs ys x d.1)

pub not_behind : (xs ys : List ℕ) (x : ℕ) → Distinct (xs ++ (x ∷ ys)) → ¬ (x ∈ ys)
not_behind [] ys x d m = d.0 m
not_behind (y ∷ xs) ys x d m = not_behind xs ys x d.1 m

-- the departures stand in their order, i behind those that are done
pub record Place (w done left : List ℕ) (i : ℕ) : Type 0 where
  pub timely : Timely w
  pub few : station_count w ≤ 64
  pub ordered : InOrder w
  pub split : order w ≡ done ++ (i ∷ left)

module _ {w done left : List ℕ} {i : ℕ} (p : Place w done left i) where
  in_order : (k : ℕ) → k ∈ done ++ (i ∷ left) → Goes w k
  in_order k m = p.ordered.goes k (subst (λ l. k ∈ l) (sym p.split) m)

  pub goes_now : Goes w i
  goes_now = in_order i (Memᴰ.append_right done (here refl))

  pub goes_done : (k : ℕ) → k ∈ done → Goes w k
  goes_done k m = in_order k (Memᴰ.append_left (i ∷ left) m)

  pub fresh : ¬ (i ∈ done)
  fresh = not_before done left i (subst Distinct p.split p.ordered.once)

  single : ¬ (i ∈ left)
  single = not_behind done left i (subst Distinct p.split p.ordered.once)

  pub earlier : (k : ℕ) → k ∈ done → depart w k ≤ depart w i
  earlier k m = p.ordered.before done left i k p.split m

  later : (k : ℕ) → k ∈ left → depart w i ≤ depart w k
  later k m = p.ordered.behind done left i k p.split m

  place_cases : {G : Type 0} (k : ℕ) → Goes w k → (k ∈ done → G) → (k ≡ i → G) → (k ∈ left → G) → G
  place_cases k g f h l =
      append_cases done (subst (λ z. k ∈ z) p.split (p.ordered.all k g)) f (λ m. cons_cases m h l)

  -- the places of arrays
  pub stop_most : (k : ℕ) → Goes w k → suc k < 2048
  stop_most k g = omega (arith, p.timely.few k g, p.timely.stops)

  pub stop_few : i < 2048
  stop_few = omega (arith, stop_most i goes_now)

  pub station_few : station w i < 65
  station_few = omega (arith, p.timely.listed i goes_now, p.few)

  -- the next stop of the trip is left later
  pub next_later : ¬ (suc i ∈ done)
  next_later m =
      let g = goes_done (suc i) m in
      omega (arith, p.timely.before i goes_now, p.timely.waits i goes_now g, earlier (suc i) m)

  small : (k : ℕ) → Goes w k → k < nowhere
  small k g = omega (arith, stop_most k g)

  module _ (way : Change) where
    -- and so is what is caught there
    pub not_caught : (k g : ℕ) → k ≡ i → g ∈ done → ¬ Waits w way (suc k) g
    not_caught k g e m c =
        let now : Goes w k = subst (Goes w) (sym e) goes_now in
        omega (arith, p.timely.before k now, c.timely, earlier g m, ap (depart w) e)

    not_itself : ¬ Waits w way (suc i) i
    not_itself c = omega (arith, p.timely.before i goes_now, c.timely)

    pub left_before : (k : ℕ) → Goes w k → CatchesBy w way (suc k) i → k ∈ done
    left_before k g c =
        place_cases
        k
        g
        (λ m. m)
        (λ e. absurd (not_itself (subst (λ z. Waits w way (suc z) i) e (waits_for w c))))
        (λ m. absurd (omega (arith, p.timely.before k g, c.timely, later k m)))

    -- whoever can change to i so has caught it or one before it
    pub caught_before : (k : ℕ) → Goes w k → CatchesBy w way (suc k) i
        → (catch_by w way (suc k) ∈ done) ⊎ (catch_by w way (suc k) ≡ i)
    caught_before k g c =
        elim (dec_lt (catch_by w way (suc k)) nowhere) [
          | yes h ↦ caught h
          | no h ↦ absurd (p.ordered.caught_none way k i g (omega arith) (waits_for w c))
        ]
      where
        behind : catch_by w way (suc k) ∈ left → ⊥
        behind m =
            let r = around m in
            let f = catch_by w way (suc k) in
            let whole : order w ≡ (done ++ (i ∷ r.before)) ++ (f ∷ r.behind) =
            p.split ∙ ap (λ l. done ++ (i ∷ l)) r.whole
            ∙ sym (append_assoc done (i ∷ r.before) (f ∷ r.behind)) in
            let n = p.ordered.caught_first way k i (done ++ (i ∷ r.before)) r.behind g whole (waits_for w c) in
            single (subst (λ l. i ∈ l) (sym r.whole) (Memᴰ.append_right r.before n))

        caught : catch_by w way (suc k) < nowhere → (catch_by w way (suc k) ∈ done) ⊎ (catch_by w way (suc k) ≡ i)
        caught h =
            place_cases
            (catch_by w way (suc k))
            (p.ordered.caught way k g h).goes
            inl
            inr
            (λ m. absurd (behind m))

    -- whoever has caught one before i can wait for i
    pub can_wait : (k : ℕ) → k ∈ done → catch_by w way (suc k) ∈ done → station w i ≡ way.to → Waits w way (suc k) i
    can_wait k m n e =
        let r = around n in
        let f = catch_by w way (suc k) in
        let whole : order w ≡ r.before ++ (f ∷ (r.behind ++ (i ∷ left))) =
        p.split ∙ ap (λ l. l ++ (i ∷ left)) r.whole ∙ append_assoc r.before (f ∷ r.behind) (i ∷ left) in
        p.ordered.caught_behind way k i r.before (r.behind ++ (i ∷ left)) (goes_done k m) whole
        (Memᴰ.append_right r.behind (here refl)) e

    pub can_wait_now : (k : ℕ) → Goes w k → catch_by w way (suc k) ≡ i → Waits w way (suc k) i
    can_wait_now k g e = subst (Waits w way (suc k)) e (p.ordered.caught way k g (rw e (small i goes_now)))

    pub caught_later : ¬ (catch_by w way (suc i) ∈ done ++ (i ∷ []))
    caught_later m =
        append_cases
        done
        m
        (λ n. not_caught i (catch_by w way (suc i)) refl n (p.ordered.caught way i goes_now (small _ (goes_done _ n))))
        (λ n. cons_cases n (λ e. not_itself (can_wait_now i goes_now e)) none)
