-- One departure more, and q and low have the least penalties of changes again. Whoever changes to i has caught i, which
-- q knew, or a departure of its station before it, which low knew.
use Rattle.std.specs.Prelude.{◌≡◌, refl, ◌⊎◌, ◌≢◌, List, [], ◌∷◌, ◌++◌, ℕ, suc, ◌+◌, ◌≤◌, ◌<◌, get_or}
use Rattle.std.proofs.Common.{sym, ap, subst, ◌∙◌, inl, inr, arith}
use mathlib.Core.List.Memᴰ.{head as here}
use mathlib.Core.List.Memᴰ
use Rattle.std.proofs.Math.Nat.{suc_inj}
use Rattle.std.proofs.Math.Decide.{dec_le, ℕ_discrete}
use Rattle.lists.specs.Lists.{◌∈◌}
use Rattle.lists.specs.Members.{cons_cases, append_cases, none}
use Rattle.connections.specs.Connections.{Change}
use Rattle.store_stops.specs.Stopwise.{station, unreached, CatchesBy}
use Rattle.store_stops.specs.OpenWays.{Open}
use Rattle.store_departures.specs.Order.{catch_by, Waits}
use Rattle.store_penalties.specs.Swept.{changed, Offered, Waited, Swept, Turned}
use Rattle.store_penalties.specs.Split.{
  Place,
  stop_few,
  station_few,
  goes_done,
  fresh,
  caught_before,
  can_wait,
  can_wait_now,
  caught_later,
}

-- ---- the departures done, and one more
module _ (done : List ℕ) (i : ℕ) where
  pub kept : {k : ℕ} → k ∈ done → k ∈ done ++ (i ∷ [])
  kept m = Memᴰ.append_left (i ∷ []) m

  pub now : i ∈ done ++ (i ∷ [])
  now = Memᴰ.append_right done (here refl)

  pub more_cases : {G : Type 0} {k : ℕ} → k ∈ done ++ (i ∷ []) → (k ∈ done → G) → (k ≡ i → G) → G
  more_cases m f g = append_cases done m f (λ n. cons_cases n g none)

-- an arrival after which one can wait for i, for penalty p
pub record Changing (w done v : List ℕ) (i p : ℕ) : Type 0 where
  pub k : ℕ
  pub way : Change
  pub gone : k ∈ done
  pub opened : Open w (suc k) way
  pub waits : Waits w way (suc k) i
  pub is : p ≡ changed v k way

module _
    {w : List ℕ}
    {a d : ℕ}
    {done left : List ℕ}
    {i : ℕ}
    (p : Place w done left i)
    {v q low : List ℕ}
    (s : Swept w a d done v q low)
    {v' q' low' : List ℕ}
    (t : Turned w a d i v q low v' q' low')
  where
    abbrev more : List ℕ
    more = done ++ (i ∷ [])

    -- ---- what stays as it is
    pub v_done : (k : ℕ) → k ∈ done → get_or v' (suc k) 0 ≡ get_or v (suc k) 0
    v_done k m = t.v_else (suc k) (λ e. fresh p (subst (λ z. z ∈ done) (suc_inj e) m))

    changed_done : (k : ℕ) (way : Change) → k ∈ done → changed v' k way ≡ changed v k way
    changed_done k way m = ap (λ z. z + way.points) (v_done k m)

    offered_kept : (f x : ℕ) → Offered w done v f x → Offered w more v' f x
    offered_kept f x r =
        record {
          k = r.k;
          way = r.way;
          gone = kept done i r.gone;
          opened = r.opened;
          catches = r.catches;
          is = r.is ∙ sym (changed_done r.k r.way r.gone);
        }

    waited_kept : (c x : ℕ) → Waited w done v c x → Waited w more v' c x
    waited_kept c x r =
        record {
          k = r.k;
          way = r.way;
          gone = kept done i r.gone;
          opened = r.opened;
          caught = kept done i r.caught;
          there = r.there;
          is = r.is ∙ sym (changed_done r.k r.way r.gone);
        }

    -- ---- low only falls
    pub low_falls : (c : ℕ) → get_or low' c 0 ≤ get_or low c 0
    low_falls c =
        elim (ℕ_discrete c (station w i)) [
          | yes e ↦ subst (λ z. get_or low' z 0 ≤ get_or low z 0) (sym e) (omega (arith, t.low_here))
          | no e ↦ omega (arith, t.low_else c e)
        ]

    -- ---- changes to i
    offer_here : (k : ℕ) (way : Change) → k ∈ done → Open w (suc k) way → catch_by w way (suc k) ≡ i
        → get_or low' (station w i) 0 ≤ changed v k way
    offer_here k way m o e = omega (arith, t.low_here, s.offers k way m o, ap (λ f. get_or q f 0) e)

    pub change_least : (k : ℕ) (way : Change) → k ∈ done → CatchesBy w way (suc k) i
        → get_or low' (station w i) 0 ≤ changed v k way
    change_least k way m c =
        elim (caught_before p way k (goes_done p k m) c) [ inl n ↦ waited n | inr e ↦ offer_here k way m opened e ]
      where
        opened : Open w (suc k) way
        opened = record { listed = c.listed; from = c.from }

        waited : catch_by w way (suc k) ∈ done → get_or low' (station w i) 0 ≤ changed v k way
        waited n = omega (arith, low_falls (station w i), s.waits k way m opened n, ap (λ z. get_or low z 0) c.to)

    low_from : get_or low' (station w i) 0 < unreached
        → Waited w done v (station w i) (get_or low' (station w i) 0) ⊎ Offered w done v i (get_or low' (station w i) 0)
    low_from h =
        elim (dec_le (get_or low (station w i) 0) (get_or q i 0)) [
          | yes g ↦
              (let e : get_or low' (station w i) 0 ≡ get_or low (station w i) 0 = omega (arith, t.low_here) in
              inl (rw e (s.waited (station w i) (station_few p) (omega arith))))
          | no g ↦
              (let e : get_or low' (station w i) 0 ≡ get_or q i 0 = omega (arith, t.low_here) in
              inr (rw e (s.offered i (stop_few p) (omega arith))))
        ]

    pub change_from : get_or low' (station w i) 0 < unreached → Changing w done v i (get_or low' (station w i) 0)
    change_from h =
        elim (low_from h) [
          | inl r ↦
              record {
                k = r.k;
                way = r.way;
                gone = r.gone;
                opened = r.opened;
                waits = can_wait p r.way r.k r.gone r.caught (sym r.there);
                is = r.is;
              }
          | inr r ↦
              record {
                k = r.k;
                way = r.way;
                gone = r.gone;
                opened = r.opened;
                waits = can_wait_now p r.way r.k (goes_done p r.k r.gone) r.catches;
                is = r.is;
              }
        ]

    -- ---- q
    pub offers : (k : ℕ) (way : Change) → k ∈ more → Open w (suc k) way
        → get_or q' (catch_by w way (suc k)) 0 ≤ changed v' k way
    offers k way m =
        more_cases
        done
        i
        m
        (λ n o. omega (arith, t.offering.falls (catch_by w way (suc k)), s.offers k way n o, v_done k n))
        (λ e. subst Offers (sym e) (t.offering.low way))
      where
        Offers : ℕ → Type 0
        Offers z = Open w (suc z) way → get_or q' (catch_by w way (suc z)) 0 ≤ changed v' z way

    pub offered : (f : ℕ) → f < 2048 → get_or q' f 0 < unreached → Offered w more v' f (get_or q' f 0)
    offered f h g =
        elim (dec_le (get_or q f 0) (get_or q' f 0)) [
          | yes l ↦
              (let e : get_or q' f 0 ≡ get_or q f 0 = omega (arith, t.offering.falls f) in
              rw e (offered_kept f (get_or q f 0) (s.offered f h (omega arith))))
          | no l ↦
              (let o = t.offering.offered f (omega arith) in
              record {
                k = i;
                way = o.way;
                gone = now done i;
                opened = o.opened;
                catches = o.catches;
                is = o.is;
              })
        ]

    -- ---- low
    pub waits : (k : ℕ) (way : Change) → k ∈ more → Open w (suc k) way → catch_by w way (suc k) ∈ more
        → get_or low' way.to 0 ≤ changed v' k way
    waits k way m opened n =
        more_cases done i m before (λ e. absurd (caught_later p way (subst (λ z. catch_by w way (suc z) ∈ more) e n)))
      where
        caught_now : k ∈ done → catch_by w way (suc k) ≡ i → get_or low' way.to 0 ≤ changed v' k way
        caught_now l e =
            let c = can_wait_now p way k (goes_done p k l) e in
            omega (arith, offer_here k way l opened e, ap (λ z. get_or low' z 0) c.there, v_done k l)

        before : k ∈ done → get_or low' way.to 0 ≤ changed v' k way
        before l =
            more_cases
            done
            i
            n
            (λ o. omega (arith, low_falls way.to, s.waits k way l opened o, v_done k l))
            (caught_now l)

    pub waited : (c : ℕ) → c < 65 → get_or low' c 0 < unreached → Waited w more v' c (get_or low' c 0)
    waited c h g = elim (ℕ_discrete c (station w i)) [ yes e ↦ here_too e | no e ↦ elsewhere e ]
      where
        at_once : Offered w done v i (get_or low' (station w i) 0)
            → Waited w more v' (station w i) (get_or low' (station w i) 0)
        at_once r =
            let c = can_wait_now p r.way r.k (goes_done p r.k r.gone) r.catches in
            record {
              k = r.k;
              way = r.way;
              gone = kept done i r.gone;
              opened = r.opened;
              caught = subst (λ z. z ∈ more) (sym r.catches) (now done i);
              there = sym c.there;
              is = r.is ∙ sym (changed_done r.k r.way r.gone);
            }

        here_too : c ≡ station w i → Waited w more v' c (get_or low' c 0)
        here_too e =
            subst (λ z. Waited w more v' z (get_or low' z 0)) (sym e)
            (elim (low_from (omega (arith, ap (λ z. get_or low' z 0) e))) [
              | inl r ↦ waited_kept (station w i) (get_or low' (station w i) 0) r
              | inr r ↦ at_once r
            ])

        elsewhere : c ≢ station w i → Waited w more v' c (get_or low' c 0)
        elsewhere e =
            let same = t.low_else c e in
            rw same (waited_kept c (get_or low c 0) (s.waited c h (omega arith)))
