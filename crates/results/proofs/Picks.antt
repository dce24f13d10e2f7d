-- Who is shown: below each candidate lies an undominated one, and of the undominated ones of a cost one is picked. The
-- entries of a result are those of the picked ones, and two picked ones of one cost have one entry.
use Rattle.std.specs.Prelude.{◌≡◌, refl, Bool, not, ◌&&◌, ◌⊎◌, List, [], ◌∷◌, map, ℕ, zero, suc, ◌+◌, ◌<◌, T}
use Rattle.std.proofs.Common.{sym, ◌∙◌, inl, inr, arith, T_not}
use mathlib.Core.List.Memᴰ
use mathlib.Core.List.Memᴰ.{head as here}
use mathlib.Core.List.Memᴰ.{tail as there}
use Rattle.std.proofs.Math.Dec.{not_T}
use Rattle.lists.specs.Lists.{◌∈◌, filter, any, before, Rising}
use Rattle.lists.specs.Tests.{either, T_both, T_left, T_right, T_or_left, T_or_right, T_or_cases}
use Rattle.lists.specs.Members.{none, cons_cases, filter_in, filter_out, any_in, any_out}
use Rattle.lists.specs.Order.{before_irrefl, before_trans, before_total}
use Rattle.lists.specs.Sorting.{sort_in, sort_out, sort_rising}
use Rattle.results.specs.Results.{equal, Measure, pair, entry, over, undominated, ahead, shown, entries, costs}
use Rattle.results.specs.Results.{Undominated, Picked}
use Rattle.results.proofs.Domination.{NoWorse, dominates_out, equal_in, equal_out}

-- the first of some words
abbrev pub lead : List ℕ → ℕ
lead [] = 0
lead (d ∷ l) = d

module _ {X : Type 0} (m : Measure X) where
  module _ (l : List X) (c : X) where
    pub undominated_out : c ∈ l → T (undominated m l c) → Undominated m l c
    undominated_out i t = record { listed = i; free = λ e k d. T_not (any (over m c) l) t (any_in (over m c) k d) }

    pub undominated_in : Undominated m l c → T (undominated m l c)
    undominated_in u =
        not_T (any (over m c) l) (λ s. let r = any_out (over m c) l s in u.free r.0 r.1 r.2)

    shown_out : c ∈ l → T (shown m l c) → Picked m l c
    shown_out i t = record { best = record { listed = i; free = free }; first = first }
      where
        free : (e : X) → e ∈ l → ¬ T (over m c e)
        free e k d = T_not (any (ahead m c) l) t (any_in (ahead m c) k (search T_or_left))

        first : (e : X) → e ∈ l → m.cost e ≡ m.cost c → ¬ T (before (m.key e) (m.key c))
        first e k q b = T_not (any (ahead m c) l) t (any_in (ahead m c) k (search (T_or_right, T_both, equal_in)))

    shown_in : Picked m l c → T (shown m l c)
    shown_in p = not_T (any (ahead m c) l) clash
      where
        clash : T (any (ahead m c) l) → ⊥
        clash s =
            let r = any_out (ahead m c) l s in
            let e = r.0 in
            let tied = equal (m.cost e) (m.cost c) && before (m.key e) (m.key c) in
            elim (T_or_cases (over m c e) tied r.2) [
              | inl d ↦ p.best.free e r.1 d
              | inr d ↦ p.first e r.1 (search (equal_out, T_left)) (search T_right)
            ]

  -- membership among the entries and the costs
  pub entries_out : (l : List X) (z : List ℕ) → z ∈ entries m l → (c : X) × Picked m l c × (entry m c ≡ z)
  unfolding entries
  entries_out l z i =
      let picked = filter (shown m l) l in
      let r = Memᴰ.of_map (entry m) picked (sort_out (map (entry m) picked) i) in
      let k = filter_out (shown m l) l r.1 in
      (r.0, shown_out l r.0 k.0 k.1, r.2)

  pub entries_in : (l : List X) (c : X) → Picked m l c → entry m c ∈ entries m l
  unfolding entries
  entries_in l c p = sort_in (Memᴰ.map (entry m) (filter_in (shown m l) p.best.listed (shown_in l c p)))

  pub entries_rising : (l : List X) → Rising (entries m l)
  unfolding entries
  entries_rising l = sort_rising (map (entry m) (filter (shown m l) l))

  pub costs_out : (l : List X) (z : List ℕ) → z ∈ costs m l → (c : X) × Undominated m l c × (pair m c ≡ z)
  unfolding costs
  costs_out l z i =
      let best = filter (undominated m l) l in
      let r = Memᴰ.of_map (pair m) best (sort_out (map (pair m) best) i) in
      let k = filter_out (undominated m l) l r.1 in
      (r.0, undominated_out l r.0 k.0 k.1, r.2)

  pub costs_in : (l : List X) (c : X) → Undominated m l c → pair m c ∈ costs m l
  unfolding costs
  costs_in l c u = sort_in (Memᴰ.map (pair m) (filter_in (undominated m l) u.listed (undominated_in l c u)))

  pub costs_rising : (l : List X) → Rising (costs m l)
  unfolding costs
  costs_rising l = sort_rising (map (pair m) (filter (undominated m l) l))

  -- who has the cost of an undominated one is undominated
  pub undominated_cost : (l : List X) (c e : X) → Undominated m l c → e ∈ l → m.cost e ≡ m.cost c → Undominated m l e
  undominated_cost l c e u i q = record { listed = i; free = λ x k d. u.free x k (rw q at d) }

  pub record Optimum (l : List X) (e : X) : Type 0 where
    pub one : X
    pub best : Undominated m l one
    pub no_worse : NoWorse (m.cost one) (m.cost e)

  optimum_upto : (k : ℕ) (l : List X) (e : X) → e ∈ l → (m.cost e).minutes + (m.cost e).points < k → Optimum l e
  optimum_upto zero l e i h = absurd (omega arith)
  optimum_upto (suc k) l e i h =
      either
      (any (over m e) l)
      (λ t. go (any_out (over m e) l t) (optimum_upto k l))
      (λ t. record { one = e; best = undominated_out l e i t; no_worse = omega arith })
    where
      go : (c : X) × (c ∈ l) × T (over m e c)
          → ((c : X) → c ∈ l → (m.cost c).minutes + (m.cost c).points < k → Optimum l c)
          → Optimum l e
      go r ih =
          let b = dominates_out (m.cost r.0) (m.cost e) r.2 in
          let o = ih r.0 r.1 (omega arith) in
          record { one = o.one; best = o.best; no_worse = omega (arith, b, o.no_worse) }

  -- from each candidate one comes to an undominated one that is no worse
  pub optimum : (l : List X) (e : X) → e ∈ l → Optimum l e
  optimum l e i = optimum_upto (suc ((m.cost e).minutes + (m.cost e).points)) l e i (omega arith)

  -- of those that pass a test, e and some on the list, one that none goes before
  record First (p : X → Bool) (l : List X) (e : X) : Type 0 where
    one : X
    passes : T (p one)
    member : (one ≡ e) ⊎ one ∈ l
    unbeaten : ¬ T (before (m.key e) (m.key one))
    first : (x : X) → x ∈ l → T (p x) → ¬ T (before (m.key x) (m.key one))

  first_of : (p : X → Bool) (l : List X) (e : X) → T (p e) → First p l e
  first_of p [] e h =
      record {
        one = e;
        passes = h;
        member = inl refl;
        unbeaten = before_irrefl (m.key e);
        first = λ x i. none i;
      }
  first_of p (y ∷ l) e h =
      either
      (p y && before (m.key y) (m.key e))
      (λ t. take_y t (first_of p l y (search T_left)))
      (λ t. keep_e t (first_of p l e h))
    where
      take_y : T (p y && before (m.key y) (m.key e)) → First p l y → First p (y ∷ l) e
      take_y t s =
          let b : T (before (m.key y) (m.key e)) = search T_right in
          record {
            one = s.one;
            passes = s.passes;
            member = elim s.member [ inl u ↦ inr (here u) | inr u ↦ inr (there u) ];
            unbeaten = λ u. s.unbeaten (before_trans (m.key y) (m.key e) (m.key s.one) b u);
            first = λ x i g. cons_cases i (λ u. rw u s.unbeaten) (λ u. s.first x u g);
          }

      keep_e : T (not (p y && before (m.key y) (m.key e))) → First p l e → First p (y ∷ l) e
      keep_e t s =
          record {
            one = s.one;
            passes = s.passes;
            member = elim s.member [ inl u ↦ inl u | inr u ↦ inr (there u) ];
            unbeaten = s.unbeaten;
            first = λ x i g. cons_cases i (λ u. rw u (later (rw u at g))) (λ u. s.first x u g);
          }
        where
          -- one's key is e's or comes before it: what goes before one goes before e
          before_e : T (before (m.key y) (m.key s.one)) → T (before (m.key y) (m.key e))
          before_e v =
              either
              (before (m.key s.one) (m.key e))
              (λ w. before_trans (m.key y) (m.key s.one) (m.key e) v w)
              (λ w. rw (before_total (m.key s.one) (m.key e) w (search not_T)) at v)

          later : T (p y) → ¬ T (before (m.key y) (m.key s.one))
          later g v =
              let b = before_e v in
              T_not (p y && before (m.key y) (m.key e)) t (search T_both)

  -- an undominated cost is shown
  pub pick : (l : List X) (c : X) → Undominated m l c → (e : X) × Picked m l e × (m.cost e ≡ m.cost c)
  pick l c u = (s.one, record { best = undominated_cost l c s.one u listed q; first = first }, q)
    where
      alike : X → Bool
      alike x = equal (m.cost x) (m.cost c)

      s : First alike l c
      s = first_of alike l c (equal_in (m.cost c) (m.cost c) refl)

      q : m.cost s.one ≡ m.cost c
      q = equal_out (m.cost s.one) (m.cost c) s.passes

      listed : s.one ∈ l
      listed = elim s.member [ inl z ↦ Memᴰ.cast z u.listed | inr z ↦ z ]

      first : (e : X) → e ∈ l → m.cost e ≡ m.cost s.one → ¬ T (before (m.key e) (m.key s.one))
      first e i h = s.first e i (equal_in (m.cost e) (m.cost c) (h ∙ q))

  -- and has one entry
  pub picked_once : (l : List X) (x y : X) → Picked m l x → Picked m l y → m.cost x ≡ m.cost y
      → entry m x ≡ entry m y
  picked_once l x y p q e =
      let k = before_total (m.key x) (m.key y)
      (not_T (before (m.key x) (m.key y)) (q.first x p.best.listed e))
      (not_T (before (m.key y) (m.key x)) (p.first y q.best.listed (sym e)))
      in λ i. (e i).minutes ∷ (e i).points ∷ k i
