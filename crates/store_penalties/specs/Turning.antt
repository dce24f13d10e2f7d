-- One departure more, and v has the least penalties on arrival again, up to that departure. Whatever boards there has
-- left before, so the penalties that it is reckoned from are settled and do not change any more.
use Rattle.std.specs.Prelude.{◌≡◌, refl, ◌⊎◌, ◌≢◌, List, [], ◌∷◌, ◌++◌, ℕ, suc, ◌+◌, ◌≤◌, ◌<◌, get_or}
use Rattle.std.proofs.Common.{sym, ap, subst, ◌∙◌, inl, inr, arith}
use Rattle.std.proofs.Math.Nat.{suc_inj}
use Rattle.std.proofs.Math.Decide.{ℕ_discrete}
use Rattle.lists.specs.Lists.{◌∈◌}
use Rattle.store_stops.specs.Stopwise.{station, depart, points, unreached, Goes, Boards, Catches}
use Rattle.store_stops.specs.Settled.{FromStart, FromStop, FromChange}
use Rattle.store_departures.specs.Order.{waits_for, boards_at_lem}
use Rattle.store_penalties.specs.Swept.{Behind, Swept, Turned}
use Rattle.store_penalties.specs.Underway.{on_the_way}
use Rattle.store_penalties.specs.Split.{
  Place,
  stop_few,
  stop_most,
  goes_done,
  next_later,
  not_caught,
  left_before,
}
use Rattle.store_penalties.specs.Changing.{
  kept,
  now,
  more_cases,
  v_done,
  low_falls,
  change_least,
  change_from,
  offers,
  offered,
  waits,
  waited,
}

module _
    {w : List ℕ}
    {a d : ℕ}
    {done left : List ℕ}
    {i : ℕ}
    (p : Place w done left i)
    {v q low : List ℕ}
    (s : Swept w a d done v q low)
    {v' q' low' : List ℕ}
    (t : Turned w a d i v q low v' q' low')
  where
    abbrev more : List ℕ
    more = done ++ (i ∷ [])

    v_most : (j : ℕ) → get_or v' j 0 ≤ unreached
    v_most j =
        elim (ℕ_discrete j (suc i)) [
          | yes e ↦ subst (λ z. get_or v' z 0 ≤ unreached) (sym e) (omega (arith, t.v_here))
          | no e ↦ omega (arith, t.v_else j e, s.v_most j)
        ]

    -- ---- who has boarded at i
    module _ (h : get_or v' (suc i) 0 < unreached) where
      paid : t.b < unreached
      paid = omega (arith, t.v_here)

      arrived : get_or v' (suc i) 0 ≡ t.b + points w i
      arrived = omega (arith, t.v_here)

      changed_timely : t.b ≡ get_or low' (station w i) 0 → d ≤ depart w i
      changed_timely e =
          let r = change_from p s t (omega (arith, paid)) in
          let there = stop_most p r.k (goes_done p r.k r.gone) in
          on_the_way p s (suc r.k) there (omega (arith, r.is, e, paid))

      boarded_timely : d ≤ depart w i
      boarded_timely =
          elim (t.aboard.attained paid) [
            | inl r ↦ r.2
            | inr o ↦
                elim o [ inl e ↦ on_the_way p s i (stop_few p) (omega (arith, paid)) | inr e ↦ changed_timely e.1 ]
          ]

    -- who stays aboard has paid what they had
    stayed : get_or v' i 0 ≡ get_or v i 0
    stayed = t.v_else i (λ e. omega arith)

    reached : (j : ℕ) → j < 2048 → get_or v' j 0 < unreached → Behind w d more j
    reached j h g =
        elim (ℕ_discrete j (suc i)) [
          | yes e ↦ next e
          | no e ↦ before (s.reached j h (omega (arith, t.v_else j e)))
        ]
      where
        before : Behind w d done j → Behind w d more j
        before r = record { k = r.k; gone = kept done i r.gone; next = r.next; timely = r.timely }

        next : j ≡ suc i → Behind w d more j
        next e =
            record {
              k = i;
              gone = now done i;
              next = sym e;
              timely = boarded_timely (omega (arith, ap (λ z. get_or v' z 0) e));
            }

    -- ---- no one has paid less
    starts : (k : ℕ) → k ∈ more → Boards w k → station w k ≡ a → d ≤ depart w k → get_or v' (suc k) 0 ≤ points w k
    starts k m =
        more_cases
        done
        i
        m
        (λ n b e h. omega (arith, v_done p s t k n, s.starts k n b e h))
        (λ z. subst Starts (sym z) (λ b e h. omega (arith, t.v_here, t.aboard.at_start b e h)))
      where
        Starts : ℕ → Type 0
        Starts z = Boards w z → station w z ≡ a → d ≤ depart w z → get_or v' (suc z) 0 ≤ points w z

    stays : (k : ℕ) → Goes w k → suc k ∈ more → get_or v' (suc (suc k)) 0 ≤ get_or v' (suc k) 0 + points w (suc k)
    stays k g m = more_cases done i m before here_too
      where
        Stays : ℕ → Type 0
        Stays z = get_or v' (suc z) 0 ≤ get_or v' z 0 + points w z

        before : suc k ∈ done → Stays (suc k)
        before n =
            let other : suc k ≢ suc i = (λ e. next_later p (subst (λ z. z ∈ done) e n)) in
            omega (arith, v_done p s t (suc k) n, t.v_else (suc k) other, s.stays k g n)

        here_too : suc k ≡ i → Stays (suc k)
        here_too e = subst Stays (sym e) (omega (arith, t.v_here, t.aboard.by_staying, stayed))

    changes : (k g x : ℕ) → Goes w k → g ∈ more → Catches w (suc k) g x
        → get_or v' (suc g) 0 ≤ get_or v' (suc k) 0 + x + points w g
    changes k g x h m = more_cases done i m before (λ e. subst Changes (sym e) here_too)
      where
        Changes : ℕ → Type 0
        Changes z = Catches w (suc k) z x → get_or v' (suc z) 0 ≤ get_or v' (suc k) 0 + x + points w z

        before : g ∈ done → Changes g
        before n c =
            let other : suc k ≢ suc i = (λ e. not_caught p c.way k g (suc_inj e) n (waits_for w c.catches)) in
            omega (arith, v_done p s t g n, t.v_else (suc k) other, s.changes k g x h n c)

        here_too : Changes i
        here_too c =
            let n = left_before p c.way k h c.catches in
            omega (
              arith,
              t.v_here,
              t.aboard.by_changing c.catches.boards,
              change_least p s t k c.way n c.catches,
              c.price,
              v_done p s t k n,
            )

    -- ---- someone has paid that much
    abbrev From : ℕ → Type 0
    From z = FromStart w a d v' z ⊎ (FromStop w a d v' z ⊎ FromChange w a d v' z)

    module _ (k : ℕ) (n : k ∈ done) where
      start_kept : FromStart w a d v k → FromStart w a d v' k
      start_kept r =
          record { boards = r.boards; here = r.here; timely = r.timely; is = v_done p s t k n ∙ r.is }

      stop_kept : FromStop w a d v k → FromStop w a d v' k
      stop_kept r =
          let other : k ≢ suc i = (λ e. next_later p (subst (λ z. z ∈ done) e n)) in
          record {
            k = r.k;
            goes = r.goes;
            next = r.next;
            is = omega (arith, v_done p s t k n, t.v_else k other, r.is);
          }

      change_kept : FromChange w a d v k → FromChange w a d v' k
      change_kept r =
          let c = r.catches in
          let other : suc r.k ≢ suc i =
          (λ e. not_caught p c.way r.k k (suc_inj e) n (waits_for w c.catches)) in
          record {
            k = r.k;
            price = r.price;
            goes = r.goes;
            catches = c;
            is = omega (arith, v_done p s t k n, t.v_else (suc r.k) other, r.is);
          }

      before : get_or v' (suc k) 0 < unreached → From k
      before h =
          elim (s.attained k n (omega (arith, v_done p s t k n))) [
            | inl r ↦ inl (start_kept r)
            | inr o ↦ elim o [ inl r ↦ inr (inl (stop_kept r)) | inr r ↦ inr (inr (change_kept r)) ]
          ]

    module _ (h : get_or v' (suc i) 0 < unreached) where
      by_staying : t.b ≡ get_or v i 0 → FromStop w a d v' i
      by_staying e =
          let r = s.reached i (stop_few p) (omega (arith, paid h)) in
          record {
            k = r.k;
            goes = goes_done p r.k r.gone;
            next = r.next;
            is = omega (arith, arrived h, e, stayed);
          }

      by_changing : Boards w i → t.b ≡ get_or low' (station w i) 0 → FromChange w a d v' i
      by_changing b e =
          let r = change_from p s t (omega (arith, paid h)) in
          record {
            k = r.k;
            price = r.way.points;
            goes = goes_done p r.k r.gone;
            catches =
                record {
                  way = r.way;
                  catches = boards_at_lem w r.opened.listed r.opened.from r.waits b;
                  price = refl;
                };
            is = omega (arith, arrived h, e, r.is, v_done p s t r.k r.gone);
          }

      here_too : From i
      here_too =
          elim (t.aboard.attained (paid h)) [
            | inl r ↦
                inl (record { boards = r.0; here = r.1; timely = r.2; is = omega (arith, arrived h, r.3) })
            | inr o ↦ elim o [ inl e ↦ inr (inl (by_staying e)) | inr e ↦ inr (inr (by_changing e.0 e.1)) ]
          ]

    attained : (k : ℕ) → k ∈ more → get_or v' (suc k) 0 < unreached → From k
    attained k m =
        more_cases done i m (before k) (λ e. subst (λ z. get_or v' (suc z) 0 < unreached → From z) (sym e) here_too)

    -- ---- all together
    pub turned : Swept w a d more v' q' low'
    turned =
        record {
          q_most = λ f. omega (arith, t.offering.falls f, s.q_most f);
          low_most = λ c. omega (arith, low_falls p s t c, s.low_most c);
          offers = offers p s t;
          offered = offered p s t;
          waits = waits p s t;
          waited = waited p s t;
          v_most = v_most;
          reached = reached;
          starts = starts;
          stays = stays;
          changes = changes;
          attained = attained;
        }
