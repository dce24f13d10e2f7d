-- One ride, from stop i to the next: who leaves stop i has come from the start, stayed aboard or changed, and
-- arrives at the next stop, where each way of changing catches another departure.
use Rattle.std.specs.Prelude.{◌≡◌, refl, Bool, true, false, ◌⊎◌, ◌≢◌, List, ℕ, suc, ◌+◌, ◌≤◌, ◌<◌, min, T, length}
use Rattle.std.specs.Prelude.{get_or, set}
use Rattle.std.proofs.Common.{sym, subst, ◌∙◌, inl, inr, arith, get_or-set_same, get_or-set_other}
use Rattle.std.proofs.Math.Decide.{dec_le, ℕ_discrete}
use Rattle.timetable.specs.Words.{station_count, stop_at, is_timetable}
use Rattle.connections.specs.Rides.{may_board}
use Rattle.store_stops.specs.Stopwise.{station, depart, points, unreached, Goes, Boards}
use Rattle.store_stops.specs.OpenWays.{Open}
use Rattle.store_stops.specs.Settled.{Timely}
use Rattle.store_departures.specs.Order.{catch, catch_by}
use Rattle.store_points.specs.Lowered.{lowered, lowered_here, lowered_else}
use Rattle.store_penalties.specs.Boarding.{boarding, boards_closed, boards_free, boards_least}
use Rattle.store_penalties.specs.Offering.{Offering}
use Rattle.store_penalties.specs.Swept.{Aboard, Turned}

-- where the ride begins: no one has arrived by it
pub record Departing (w caught : List ℕ) (i : ℕ) (v q : List ℕ) : Type 0 where
  pub goes : Goes w i
  pub accepted : is_timetable w ≡ true
  pub timely : Timely w
  pub few : station_count w ≤ 64
  pub catches : get_or caught (suc i) 0 ≡ catch w (suc i)
  pub fresh : get_or v (suc i) 0 ≡ unreached
  pub most : (f : ℕ) → get_or q f 0 ≤ unreached

min_cases : {b : ℕ} (x y : ℕ) → b ≡ min x y → (b ≡ x) ⊎ (b ≡ y)
min_cases x y e = elim (dec_le x y) [ yes h ↦ inl (omega arith) | no h ↦ inr (omega arith) ]

module _
    (w caught : List ℕ)
    (a i : ℕ)
    (v q low : List ℕ)
    (r : Departing w caught i v q)
    (low' : List ℕ)
    (taken : low' ≡ lowered (station w i) (get_or q i 0) low)
    (b : ℕ)
    (is : b ≡ boarding (may_board (stop_at w i)) a (station w i) (get_or v i 0) (get_or low' (station w i) 0))
  where
    abbrev stay : ℕ
    stay = get_or v i 0

    abbrev change : ℕ
    change = get_or low' (station w i) 0

    -- the stop is closed: only who stays aboard leaves it
    closed : may_board (stop_at w i) ≡ false → Aboard w a (depart w i) i v low' b
    closed o =
        let z = is ∙ boards_closed (may_board (stop_at w i)) a (station w i) stay change o in
        let never : ¬ Boards w i = (λ k. subst T o k.opens) in
        record {
          at_start = λ k. absurd (never k);
          by_staying = omega (arith, z);
          by_changing = λ k. absurd (never k);
          attained = λ g. inr (inl z);
        }

    -- it is open
    module _ (o : may_board (stop_at w i) ≡ true) where
      here_boards : Boards w i
      here_boards = record { goes = r.goes; opens = subst T (sym o) tt }

      free : station w i ≡ a → Aboard w a (depart w i) i v low' b
      free e =
          let z = is ∙ boards_free (may_board (stop_at w i)) a (station w i) stay change o e in
          record {
            at_start = λ k h g. z;
            by_staying = omega (arith, z);
            by_changing = λ k. omega (arith, z);
            attained = λ g. inl (here_boards, e, omega arith, z);
          }

      least : station w i ≢ a → Aboard w a (depart w i) i v low' b
      least e =
          let m = is ∙ boards_least (may_board (stop_at w i)) a (station w i) stay change o e in
          record {
            at_start = λ k h g. absurd (e h);
            by_staying = omega (arith, m);
            by_changing = λ k. omega (arith, m);
            attained = λ g.
                inr (elim (min_cases stay change m) [ inl q ↦ inl q | inr q ↦ inr (here_boards, q) ]);
          }

    aboard : Aboard w a (depart w i) i v low' b
    aboard = go (may_board (stop_at w i)) refl
      where
        go : (o : Bool) → may_board (stop_at w i) ≡ o → Aboard w a (depart w i) i v low' b
        go false o = closed o
        go true o = elim (ℕ_discrete (station w i) a) [ yes e ↦ free o e | no e ↦ least o e ]

    low_here : get_or low' (station w i) 0 ≡ min (get_or low (station w i) 0) (get_or q i 0)
    low_here = rw taken (lowered_here low (station w i) (get_or q i 0))

    low_else : (c : ℕ) → c ≢ station w i → get_or low' c 0 ≡ get_or low c 0
    low_else c e = rw taken (lowered_else low (station w i) (get_or q i 0) c e)

    -- no one boards: v and q do not change
    pub unboarded : unreached ≤ b → Turned w a (depart w i) i v q low v q low'
    unboarded h =
        record {
          b = b;
          aboard = aboard;
          low_here = low_here;
          low_else = low_else;
          v_here = omega (arith, r.fresh);
          v_else = λ j e. refl;
          offering =
              record {
                falls = λ f. omega arith;
                low = λ way o. omega (arith, r.fresh, r.most (catch_by w way (suc i)));
                offered = λ f g. absurd (omega arith);
              };
        }

    -- the ride to the next stop, and the changes there
    abbrev paid : ℕ
    paid = min unreached (b + points w i)

    module _
        (v' q' : List ℕ)
        (long : 2048 ≤ length v)
        (rode : v' ≡ set v (suc i) paid)
        (offers : Offering w (suc i) paid (Open w (suc i)) q q')
      where
        inside : suc i < length v
        inside = omega (arith, r.timely.few i r.goes, r.timely.stops)

        v_here : get_or v' (suc i) 0 ≡ paid
        v_here = rw rode (get_or-set_same v (suc i) paid 0 inside)

        pub boarded : Turned w a (depart w i) i v q low v' q' low'
        boarded =
            record {
              b = b;
              aboard = aboard;
              low_here = low_here;
              low_else = low_else;
              v_here = v_here;
              v_else = λ j e. rw rode (get_or-set_other v (suc i) j paid 0 e);
              offering = rw v_here offers;
            }

-- the same for an earlier minute to start from
pub from_earlier : {w : List ℕ} {a d i : ℕ} {v q low v' q' low' : List ℕ} → d ≤ depart w i
    → Turned w a (depart w i) i v q low v' q' low' → Turned w a d i v q low v' q' low'
from_earlier on t =
    record {
      b = t.b;
      aboard =
          record {
            at_start = λ b e g. t.aboard.at_start b e (omega arith);
            by_staying = t.aboard.by_staying;
            by_changing = t.aboard.by_changing;
            attained = λ g. elim (t.aboard.attained g) [ inl o ↦ inl (o.0, o.1, on, o.3) | inr o ↦ inr o ];
          };
      low_here = t.low_here;
      low_else = t.low_else;
      v_here = t.v_here;
      v_else = t.v_else;
      offering = t.offering;
    }
