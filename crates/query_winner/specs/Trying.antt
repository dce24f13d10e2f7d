-- Arc after arc is tried for the connection that a row shows; the winner so far stands in an array, and what is found
-- along the next arc in another.
use Rattle.std.specs.Prelude.{◌≡◌, refl, Bool, not, cond, List, ℕ, suc, ◌+◌, ◌*◌, ◌≤◌, ◌<◌, length, take}
use Rattle.std.proofs.Math.Path.{sym, ap, subst}
use Rattle.std.proofs.Common.{◌∙◌, add-one, arith, length-take-le}
use Rattle.std.proofs.Math.Bool.{true, false}
use Rattle.std.proofs.Math.Logic.{inl, inr}
use borrow.Author.Tests.{not-true, not-false}
use Rattle.std.proofs.Math.Dec.{T}
use Rattle.words.specs.Put.{put, take_put}
use Rattle.lists.specs.Lists.{◌∈◌, before}
use Rattle.timetable.specs.Words.{timetable_of}
use Rattle.results.specs.Results.{Cost}
use Rattle.connections.specs.Connections.{Net, net, Connection, stations}
use Rattle.connections.specs.Planner.{tie_key}
use Rattle.connections.proofs.Sound.{Sound}
use Rattle.stores.specs.Words.{readable}
use Rattle.query_store.specs.Entries.{arc_count, arc_target, arc_before}
use Rattle.query_store.specs.Paths.{node_path, arc_path, arc_path_lem, length_readable}
use Rattle.query_store.specs.Repeats.{Idle, repeated_in}
use Rattle.query_winner.specs.Keys.{key_words, key_is}
use Rattle.query_winner.specs.Won.{By, Own, Won, None, none_first}
use Rattle.query_winner.specs.Won.{none_more, none_again, won_skip, won_again, won_new, won_better, won_keep}
use Rattle.query_winner.specs.Won.{none_elsewhere}
use Rattle.query_winner.specs.Winning.{cost_of, Holds}
use Rattle.query_winner.specs.declared.Winner.{Winner}

-- its numbers fit the arrays, and its departure is a minute
pub record Sized (x : Winner) : Type 0 where
  pub few : x.rides ≤ 64
  pub timely : x.found ≡ true → x.depart ≤ 2879

pub in_time_lem : (x : Winner) → Sized x → not x.found ≡ false → x.depart ≤ 2879
in_time_lem x s e = s.timely (not-false x.found e)

pub first_sized : Sized (record { found = false; arc = 0; depart = 0; rides = 0 })
first_sized = record { few = omega arith; timely = λ e. omega arith }

-- f goes before the winner so far, or is the first
unfoldable pub wins_test : (f : Winner) (tried : List ℕ) (x : Winner) (shown : List ℕ) → Bool
wins_test f tried x shown =
    cond
    f.found
    (cond
    x.found
    (before
    (key_words f.depart f.rides (take (3 * f.rides) tried))
    (key_words x.depart x.rides (take (3 * x.rides) shown)))
    true)
    false

module _ (f : Winner) (tried : List ℕ) (x : Winner) (shown : List ℕ) where
  pub wins_none : not f.found ≡ true → false ≡ wins_test f tried x shown
  unfolding wins_test
  wins_none h = rw (not-true f.found h)

  module _ (some : not f.found ≡ false) where
    pub wins_first : not x.found ≡ true → true ≡ wins_test f tried x shown
    unfolding wins_test
    wins_first h = rw (not-false f.found some, not-true x.found h)

    pub wins_key : (r : Bool) → not x.found ≡ false
        → r
        ≡ before
        (key_words f.depart f.rides (take (3 * f.rides) tried))
        (key_words x.depart x.rides (take (3 * x.rides) shown))
        → r ≡ wins_test f tried x shown
    unfolding wins_test
    wins_key r h e = e ∙ rw (not-false f.found some, not-false x.found h)

-- for a query and a cost
module _ (w s : List ℕ) (a b u m p : ℕ) where
  abbrev n : Net
  n = net (timetable_of w)

  abbrev c : Cost
  c = cost_of m p

  -- what was found along arc k
  pub record ArcWon (k : ℕ) (x : Winner) (tried : List ℕ) : Type 0 where
    pub one : Connection
    pub holds : Holds x tried one
    pub own : (ok : Sound (net (timetable_of w))) → Own (net (timetable_of w)) ok s a u b (cost_of m p) (arc_path s k)
        one

  pub record ArcTried (k : ℕ) (x : Winner) (tried : List ℕ) : Type 0 where
    pub arc : x.arc ≡ k
    pub none : x.found ≡ false → (ok : Sound (net (timetable_of w))) (e : Connection)
        → ¬ By (net (timetable_of w)) ok s a u b (cost_of m p) (arc_path s k) e
    pub won : x.found ≡ true → ArcWon k x tried

  -- the winner of the first k arcs goes by its own arc
  pub record WonSo (k : ℕ) (x : Winner) (shown : List ℕ) : Type 0 where
    pub inside : x.arc < arc_count s
    pub target : arc_target s x.arc ≡ b
    pub one : Connection
    pub by : (ok : Sound (net (timetable_of w))) → stations one ≡ arc_path s x.arc
    pub holds : Holds x shown one
    pub won : (ok : Sound (net (timetable_of w))) → Won (net (timetable_of w)) ok s a u b (cost_of m p) k one

  pub record Tried (k : ℕ) (x : Winner) (shown : List ℕ) : Type 0 where
    pub none : x.found ≡ false → (ok : Sound (net (timetable_of w)))
        → None (net (timetable_of w)) ok s a u b (cost_of m p) k
    pub won : x.found ≡ true → WonSo k x shown

  unknown : (x : Winner) → x.found ≡ false → {G : Type 0} → x.found ≡ true → G
  unknown x e f = let z : false ≡ true = sym e ∙ f in absurd (subst (λ t. T (not t)) z tt)

  pub tried_first : (shown : List ℕ) → Tried 0 (record { found = false; arc = 0; depart = 0; rides = 0 }) shown
  tried_first shown =
      record {
        none = λ e ok. none_first (net (timetable_of w)) ok s a u b (cost_of m p);
        won = λ e. absurd (subst (λ t. T (not t)) e tt);
      }

  module _ (k : ℕ) (x : Winner) (shown : List ℕ) (so_far : Tried k x shown) where
    module _ (more : k < arc_count s) where
      inside : k < length (readable s)
      inside = omega (arith, length_readable s)

      next : (y : Winner) (new : List ℕ) → Tried (suc k) y new → Tried (k + 1) y new
      next y new z = subst (λ j. Tried j y new) (sym (add-one k)) z

      -- no one of the cost goes by this arc
      empty : ((ok : Sound n) (e : Connection) → ¬ By n ok s a u b c (arc_path s k) e) → Tried (k + 1) x shown
      unfolding arc_path
      empty gone =
          next x shown
          (record {
            none = λ f ok. none_more n ok s a u b c k inside (so_far.none f ok) (gone ok);
            won =
                λ f.
                let z = so_far.won f in
                record {
                  inside = z.inside;
                  target = z.target;
                  one = z.one;
                  by = z.by;
                  holds = z.holds;
                  won = λ ok. won_skip n ok s a u b c k inside z.one (z.won ok) (gone ok);
                };
          })

      repeated : arc_path s k ∈ take k (readable s) → Tried (k + 1) x shown
      unfolding arc_path
      repeated again =
          next x shown
          (record {
            none = λ f ok. none_again n ok s a u b c k inside again (so_far.none f ok);
            won =
                λ f.
                let z = so_far.won f in
                record {
                  inside = z.inside;
                  target = z.target;
                  one = z.one;
                  by = z.by;
                  holds = z.holds;
                  won = λ ok. won_again n ok s a u b c k inside again z.one (z.won ok);
                };
          })

      elsewhere : (arc_target s k ≡ b → ⊥) → Tried (k + 1) x shown
      unfolding arc_path
      elsewhere other =
          empty
          (λ ok e.
          none_elsewhere n ok s a u b c k inside
          (node_path s (arc_before s k))
          (arc_target s k)
          (arc_path_lem s k more)
          other
          e)

      module _ (f : Winner) (tried : List ℕ) (z : ArcTried k f tried) (r : Bool) (is : r ≡ wins_test f tried x shown)
        where
          -- the keys are those of the connections
          tried_key : (y : ArcWon k f tried)
              → key_words f.depart f.rides (take (3 * f.rides) tried) ≡ tie_key y.one
          tried_key y =
              (λ i. key_words (y.holds.depart i) (y.holds.rides i) (y.holds.told i)) ∙ sym (key_is y.one)

          shown_key : (y : WonSo k x shown)
              → key_words x.depart x.rides (take (3 * x.rides) shown) ≡ tie_key y.one
          shown_key y =
              (λ i. key_words (y.holds.depart i) (y.holds.rides i) (y.holds.told i)) ∙ sym (key_is y.one)

          key_test : (y : ArcWon k f tried) (o : WonSo k x shown) → f.found ≡ true → x.found ≡ true
              → r ≡ before (tie_key y.one) (tie_key o.one)
          unfolding wins_test
          key_test y o e g = is ∙ rw (e, g) (λ i. before (tried_key y i) (shown_key o i))

          -- it does not win
          module _ (lost : not r ≡ true) where
            keep : (q h : Bool) → f.found ≡ q → x.found ≡ h → Tried (k + 1) x shown
            unfolding wins_test arc_path
            keep false h e g = empty (z.none e)
            keep true false e g =
                let won : r ≡ true = is ∙ rw (e, g) in
                absurd (subst T (sym won ∙ not-true r lost) tt)
            keep true true e g =
                let y = z.won e in
                let o = so_far.won g in
                let no : before (tie_key y.one) (tie_key o.one) ≡ false =
                sym (key_test y o e g) ∙ not-true r lost in
                next x shown
                (record {
                  none = λ i. unknown x i g;
                  won =
                      λ i.
                      record {
                        inside = o.inside;
                        target = o.target;
                        one = o.one;
                        by = o.by;
                        holds = o.holds;
                        won =
                            λ ok.
                            won_keep n ok s a u b c k inside o.one y.one (o.won ok) (y.own ok)
                            (λ t. subst T no t);
                      };
                })

            pub tried_keep : Tried (k + 1) x shown
            tried_keep = keep f.found x.found refl refl

          -- it wins, and its words are copied
          module _ (best : not r ≡ false) (sized : Sized f) (was new : List ℕ) (long : length was ≡ 192)
              (same : length tried ≡ length was) (copied : new ≡ put 0 (take (3 * f.rides) tried) shown)
              (target : arc_target s k ≡ b)
            where
              by : (y : ArcWon k f tried) (ok : Sound n) → stations y.one ≡ arc_path s f.arc
              by y ok = (y.own ok).by.is ∙ ap (arc_path s) (sym z.arc)

              same_words : take (3 * f.rides) new ≡ take (3 * f.rides) tried
              same_words =
                  let ws : List ℕ = take (3 * f.rides) tried in
                  let size : length ws ≡ 3 * f.rides =
                  length-take-le (3 * f.rides) tried (omega (arith, sized.few, long, same)) in
                  ap (take (3 * f.rides)) copied
                  ∙ ap (λ i. take i (put 0 ws shown)) (sym size)
                  ∙ take_put ws shown

              held : (y : ArcWon k f tried) → Holds f new y.one
              held y =
                  record { told = same_words ∙ y.holds.told; rides = y.holds.rides; depart = y.holds.depart }

              turn : (q h : Bool) → f.found ≡ q → x.found ≡ h → Tried (k + 1) f new
              unfolding wins_test arc_path
              turn false h e g =
                  let lost : r ≡ false = is ∙ rw e in
                  absurd (subst (λ t. T (not t)) (sym lost ∙ not-false r best) tt)
              turn true false e g =
                  let y = z.won e in
                  next f new
                  (record {
                    none = λ i. unknown f i e;
                    won =
                        λ i.
                        record {
                          inside = omega (arith, more, z.arc);
                          target = ap (arc_target s) z.arc ∙ target;
                          one = y.one;
                          by = by y;
                          holds = held y;
                          won = λ ok. won_new n ok s a u b c k inside y.one (so_far.none g ok) (y.own ok);
                        };
                  })
              turn true true e g =
                  let y = z.won e in
                  let o = so_far.won g in
                  let better : before (tie_key y.one) (tie_key o.one) ≡ true =
                  sym (key_test y o e g) ∙ not-false r best in
                  next f new
                  (record {
                    none = λ i. unknown f i e;
                    won =
                        λ i.
                        record {
                          inside = omega (arith, more, z.arc);
                          target = ap (arc_target s) z.arc ∙ target;
                          one = y.one;
                          by = by y;
                          holds = held y;
                          won =
                              λ ok.
                              won_better n ok s a u b c k inside o.one y.one (o.won ok) (y.own ok)
                              (subst T (sym better) tt);
                        };
                  })

              pub tried_turn : Tried (k + 1) f new
              tried_turn = turn f.found x.found refl refl

    -- an arc that adds nothing
    pub tried_idle : (arcs : ℕ) → arcs ≡ arc_count s → (r : Bool) → (r ≡ false → Idle s b k) → not r ≡ true → k < arcs
        → Tried (k + 1) x shown
    unfolding Idle arc_path
    tried_idle arcs all r idle e more =
        elim (idle (not-true r e)) [
          | inl other ↦ elsewhere (omega arith) other
          | inr again ↦ repeated (omega arith) (repeated_in s k again (omega arith))
        ]
