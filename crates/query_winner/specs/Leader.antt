-- The arc that has the connection shown for an arrival minute and a penalty: what is found first along this arc alone
-- is that connection.
use Rattle.std.specs.Prelude.{◌≡◌, refl, Bool, true, false, List, ℕ, suc, ◌+◌, ◌-◌, ◌≤◌, ◌<◌, length}
use Rattle.std.proofs.Common.{sym, subst, ◌∙◌, arith}
use Rattle.lists.specs.Order.{not_before_trans}
use Rattle.timetable.specs.Words.{timetable_of}
use Rattle.lists.specs.Lists.{◌∈◌}
use Rattle.connections.specs.Connections.{net, Connection, stations}
use Rattle.connections.specs.Planner.{tie_key}
use Rattle.connections.proofs.Sound.{Sound}
use Rattle.stores.specs.Words.{readable}
use Rattle.stores.proofs.KeptLaws.{kept_exactly}
use Rattle.query_store.specs.Entries.{arc_count, arc_target}
use Rattle.query_store.specs.Paths.{arc_path, length_readable}
use Rattle.query_store.specs.Granted.{readable_in}
use Rattle.promises.specs.Query.{kept}
use Rattle.query_arcs.specs.Granted.{Granted, is_sound}
use Rattle.query_arcs.specs.Arcs.{arc_few}
use Rattle.query_winner.specs.Winning.{Shows, cost_of, Leading, Winning}
use Rattle.query_winner.specs.Won.{By, won_all, none_never}
use Rattle.query_winner.specs.Trying.{Sized, ArcWon, ArcTried, Tried}
use Rattle.query_winner.specs.declared.Winner.{Winner}

-- arc k has the connection that is shown for minute m and penalty p
pub record Leader (w s : List ℕ) (a b u m p k : ℕ) : Type 0 where
  pub inside : k < arc_count s
  pub target : arc_target s k ≡ b
  pub one : Connection
  pub shows : Shows u (kept w s a b u) (cost_of m p) one
  pub by : stations one ≡ arc_path s k

-- the word of a minute: the number of the arc and one more, or 0
pub record Named (w s : List ℕ) (a b u m p named : ℕ) : Type 0 where
  pub leader : (k : ℕ) → named ≡ suc k → Leader w s a b u m p k

pub named_leader : (w s : List ℕ) (a b u m p named : ℕ) → Named w s a b u m p named → (named ≡ 0 → ⊥)
    → Leader w s a b u m p (named - 1)
named_leader w s a b u m p named z some = z.leader (named - 1) (omega (arith, some))

-- as it was read
pub named_read : (w s : List ℕ) (a b u m p x y : ℕ) → x ≡ y → Named w s a b u m p y → Named w s a b u m p x
named_read w s a b u m p x y e z = subst (Named w s a b u m p) (sym e) z

pub leader_read : (w s : List ℕ) (a b u m p x y : ℕ) → x ≡ y → Leader w s a b u m p (y - 1)
    → Leader w s a b u m p (x - 1)
leader_read w s a b u m p x y e z = subst (λ j. Leader w s a b u m p (j - 1)) (sym e) z

module _ (w v s : List ℕ) (a b u m p k : ℕ) (g : Granted w v s a b u) (l : Leader w s a b u m p k) where
  pub leader_few : k + 1 < 65536
  leader_few = arc_few w v s a b u g k l.inside

  ok : Sound (net (timetable_of w))
  ok = is_sound w v s a b u g

  by_arc : By (net (timetable_of w)) ok s a u b (cost_of m p) (arc_path s k) l.one
  by_arc =
      record {
        feasible = ((kept_exactly (net (timetable_of w)) ok s a u b l.one).0 l.shows.listed).feasible;
        is = l.by;
        arrives = l.shows.arrives;
        pays = l.shows.pays;
      }

  -- what is found along it is shown
  pub leader_winning : (x : Winner) (was tried : List ℕ) → ArcTried w s a b u m p k x tried → Sized x
      → length tried ≡ length was → length was ≡ 192 → Winning w s a b u m p x tried
  leader_winning x was tried z sized same long = go x.found refl
    where
      shown : (y : ArcWon w s a b u m p k x tried) → Shows u (kept w s a b u) (cost_of m p) y.one
      shown y =
          let o = y.own ok in
          record {
            listed =
                (kept_exactly (net (timetable_of w)) ok s a u b y.one).1
                (record {
                  feasible = o.by.feasible;
                  held = subst (λ q. q ∈ readable s) (sym o.by.is) (readable_in s k l.inside);
                });
            arrives = o.by.arrives;
            pays = o.by.pays;
            first =
                λ e i h q.
                not_before_trans (tie_key e) (tie_key l.one) (tie_key y.one) (l.shows.first e i h q)
                (o.first l.one by_arc);
          }

      go : (h : Bool) → x.found ≡ h → Winning w s a b u m p x tried
      go false e = absurd (z.none e ok l.one by_arc)
      go true e =
          let y = z.won e in
          record { one = y.one; shows = shown y; holds = y.holds; few = sized.few; long = same ∙ long }

-- all arcs are tried: the winner's arc
pub tried_leader : (w v s : List ℕ) (a b u m p k : ℕ) (x : Winner) (shown : List ℕ) (arcs : ℕ)
    → Tried w s a b u m p k x shown → arcs ≡ arc_count s → arcs ≤ k → Granted w v s a b u → Leading w s a b u m p
    → Leader w s a b u m p x.arc
tried_leader w v s a b u m p k x shown arcs tried all past g l = go x.found refl
  where
    ok : Sound (net (timetable_of w))
    ok = is_sound w v s a b u g

    every : length (readable s) ≤ k
    every = omega (arith, length_readable s)

    go : (h : Bool) → x.found ≡ h → Leader w s a b u m p x.arc
    go false e =
        absurd
        (none_never (net (timetable_of w)) ok s a u b (cost_of m p) k every l.best l.least l.leads
        (tried.none e ok))
    go true e =
        let o = tried.won e in
        record {
          inside = o.inside;
          target = o.target;
          one = o.one;
          shows = won_all (net (timetable_of w)) ok s a u b (cost_of m p) k every o.one (o.won ok);
          by = o.by ok;
        }
