-- The result in the customer's words: its rows have the parts of `Answers`, and no other rows have them. So a reader
-- may take `Answers` for the definition and need not trust how `result` is computed.
use Rattle.std.specs.Prelude.{◌≡◌, ◌⊎◌, ◌↔◌, ℕ, ◌<◌, T, length}
use Rattle.std.proofs.Math.Path.{refl, ap}
use Rattle.std.proofs.Common.{sym, subst, ◌∙◌, inl, inr, arith}
use mathlib.Core.List.Memᴰ
use mathlib.Core.List.Memᴰ.{head as here}
use mathlib.Core.List.Memᴰ.{tail as there}
use mathlib.Core.List.{List, [], ◌∷◌, map}
use Rattle.std.proofs.lemmas.List.{length-map}
use Rattle.lists.specs.Lists.{◌∈◌, before, Rising}
use Rattle.lists.specs.Members.{none, cons_cases}
use Rattle.lists.specs.Order.{before_head, before_cases, before_irrefl, before_same}
use Rattle.lists.specs.Sorting.{Inside, rising_unique}
use Rattle.results.specs.Results.{Cost, Measure, pair, row, entry, told, entries, result, costs, Undominated}
use Rattle.results.specs.Results.{Picked, Climbs, Answers}
use Rattle.results.proofs.Domination.{dominates_in}
use Rattle.results.proofs.Picks.{entries_in, entries_out, entries_rising, costs_in, costs_out, costs_rising}
use Rattle.results.proofs.Picks.{optimum, pick, picked_once}

module _ {X : Type 0} (m : Measure X) where
  -- a row is told from the entry
  rows_told : (l : List X) → map (row m) l ≡ map (told m) (map (entry m) l)
  rows_told [] = refl
  rows_told (c ∷ l) = ap (λ z. row m c ∷ z) (rows_told l)

  -- whatever words tell the duration first rise with it
  climbs_rising : (f : X → List ℕ) (rest : X → List ℕ) → ((c : X) → f c ≡ (m.cost c).minutes ∷ rest c)
      → (l : List X) → Climbs m l → Rising (map f l)
  climbs_rising f rest e [] h = tt
  climbs_rising f rest e (c ∷ l) h = (above, climbs_rising f rest e l h.1)
    where
      above : (z : List ℕ) → z ∈ map f l → T (before (f c) z)
      above z i =
          let y = Memᴰ.of_map f l i in
          let d = y.0 in
          let less = before_head (m.cost c).minutes (m.cost d).minutes (rest c) (rest d) (h.0 d y.1) in
          before_same (sym (e c)) (sym (e d) ∙ y.2) less

  entries_climb : (l : List X) → Climbs m l → Rising (map (entry m) l)
  entries_climb = climbs_rising (entry m) (λ c. (m.cost c).points ∷ m.key c) (λ c. refl)

  pairs_climb : (l : List X) → Climbs m l → Rising (map (pair m) l)
  pairs_climb = climbs_rising (pair m) (λ c. (m.cost c).points ∷ []) (λ c. refl)

module _ {X : Type 0} (m : Measure X) (l : List X) where
  -- of two entries the first has the smaller duration: else one would dominate the other, or they would be one entry
  apart : (c e : X) → Picked m l c → Picked m l e → T (before (entry m c) (entry m e))
      → (m.cost c).minutes < (m.cost e).minutes
  apart c e p q t = split (before_cases x.minutes y.minutes (x.points ∷ u) (y.points ∷ v) t)
    where
      x : Cost
      x = m.cost c

      y : Cost
      y = m.cost e

      u : List ℕ
      u = m.key c

      v : List ℕ
      v = m.key e

      one_entry : x.minutes ≡ y.minutes → x.points ≡ y.points → ⊥
      one_entry h g =
          let k : m.cost c ≡ m.cost e = (λ i. record { minutes = h i; points = g i }) in
          before_irrefl (entry m e) (subst (λ z. T (before z (entry m e))) (picked_once m l c e p q k) t)

      tied : x.minutes ≡ y.minutes → (x.points < y.points) ⊎ ((x.points ≡ y.points) × T (before u v)) → ⊥
      tied h (inl g) = q.best.free c p.best.listed (dominates_in x y (omega arith))
      tied h (inr g) = one_entry h g.0

      split : (x.minutes < y.minutes) ⊎ ((x.minutes ≡ y.minutes) × T (before (x.points ∷ u) (y.points ∷ v)))
          → x.minutes < y.minutes
      split (inl h) = h
      split (inr h) = absurd (tied h.0 (before_cases x.points y.points u v h.1))

  -- the candidates of entries, entry by entry
  record Shown (es : List (List ℕ)) : Type 0 where
    those : List X
    are : map (entry m) those ≡ es
    picked : (c : X) → c ∈ those → Picked m l c

  shown_of : (es : List (List ℕ)) → ((z : List ℕ) → z ∈ es → (c : X) × Picked m l c × (entry m c ≡ z)) → Shown es
  shown_of [] f = record { those = []; are = refl; picked = λ c i. none i }
  shown_of (z ∷ es) f =
      let r = f z (here refl) in
      let s = shown_of es (λ y i. f y (there i)) in
      record {
        those = r.0 ∷ s.those;
        are = λ i. r.2 i ∷ s.are i;
        picked = λ c i. cons_cases i (λ e. rw e r.1) (s.picked c);
      }

  -- picked ones whose entries rise rise in duration
  climb : (s : List X) → ((c : X) → c ∈ s → Picked m l c) → Rising (map (entry m) s) → Climbs m s
  climb [] p r = tt
  climb (c ∷ s) p r = (above, climb s (λ e i. p e (there i)) r.1)
    where
      above : (e : X) → e ∈ s → (m.cost c).minutes < (m.cost e).minutes
      above e i = apart c e (p c (here refl)) (p e (there i)) (r.0 (entry m e) (Memᴰ.map (entry m) i))

  shown : Shown (entries m l)
  shown = shown_of (entries m l) (entries_out m l)

  abbrev those : List X
  those = shown.those

  those_climb : Climbs m those
  those_climb = climb those shown.picked (subst Rising (sym shown.are) (entries_rising m l))

  -- each undominated cost is shown
  those_in : (c : X) → Undominated m l c → (e : X) × (e ∈ those) × (m.cost e ≡ m.cost c)
  those_in c u =
      let p = pick m l c u in
      let listed = subst (λ es. entry m p.0 ∈ es) (sym shown.are) (entries_in m l p.0 p.1) in
      let i = Memᴰ.of_map (entry m) those listed in
      let minutes : (m.cost i.0).minutes ≡ (m.cost p.0).minutes = cc i.2 in
      let points : (m.cost i.0).points ≡ (m.cost p.0).points = cc i.2 in
      (i.0, i.1, (λ k. record { minutes = minutes k; points = points k }) ∙ p.2)

  result_rows : map (row m) those ≡ result m l
  unfolding result
  result_rows = rows_told m those ∙ ap (map (told m)) shown.are

  -- the costs of those shown are the undominated ones, in this order
  those_costs : map (pair m) those ≡ costs m l
  those_costs =
      rising_unique (map (pair m) those) (costs m l) (pairs_climb m those those_climb) (costs_rising m l) to from
    where
      to : Inside (map (pair m) those) (costs m l)
      to z i =
          let y = Memᴰ.of_map (pair m) those i in
          Memᴰ.cast (sym y.2) (costs_in m l y.0 (shown.picked y.0 y.1).best)

      from : Inside (costs m l) (map (pair m) those)
      from z i =
          let r = costs_out m l z i in
          let e = those_in r.0 r.1 in
          let same : pair m e.0 ≡ z = (λ k. (e.2 k).minutes ∷ (e.2 k).points ∷ []) ∙ r.2 in
          Memᴰ.cast (sym same) (Memᴰ.map (pair m) e.1)

  pub result_none : (result m l ≡ []) ↔ (l ≡ [])
  unfolding result entries
  result_none = (go l refl, λ e. ap (result m) e)
    where
      go : (k : List X) → l ≡ k → result m l ≡ [] → l ≡ []
      go [] h e = h
      go (c ∷ k) h e =
          let o = optimum m l c (rw h (here refl)) in
          let s = those_in o.one o.best in
          none (rw (result_rows ∙ e) at (Memᴰ.map (row m) s.1))

  -- theorem 6
  pub result_answers : Answers m l (result m l)
  result_answers =
      record {
        shows = those;
        rows_are = result_rows;
        pairs = λ x. (to x, from x);
        rising = those_climb;
        picked = shown.picked;
        count = sym (ap length result_rows) ∙ row_count ∙ ap length those_costs;
        none = result_none;
      }
    where
      row_count : length (map (row m) those) ≡ length (map (pair m) those)
      row_count = length-map those (row m) ∙ sym (length-map those (pair m))

      to : (x : Cost) → (c : X) × (c ∈ those) × (m.cost c ≡ x) → (c : X) × Undominated m l c × (m.cost c ≡ x)
      to x c = (c.0, (shown.picked c.0 c.1).best, c.2)

      from : (x : Cost) → (c : X) × Undominated m l c × (m.cost c ≡ x) → (c : X) × (c ∈ those) × (m.cost c ≡ x)
      from x c = let e = those_in c.0 c.1 in (e.0, e.1, e.2 ∙ c.2)

  -- How a program shows that it found the result: its rows are those of candidates that rise in duration, each is
  -- picked, and each picked cost is among them.
  pub result_is : (s : List X) → Climbs m s → ((c : X) → c ∈ s → Picked m l c)
      → ((c : X) → Picked m l c → (e : X) × (e ∈ s) × (m.cost e ≡ m.cost c)) → map (row m) s ≡ result m l
  unfolding result
  result_is s rising picked all = rows_told m s ∙ ap (map (told m)) same
    where
      to : Inside (map (entry m) s) (entries m l)
      to z i =
          let y = Memᴰ.of_map (entry m) s i in
          Memᴰ.cast (sym y.2) (entries_in m l y.0 (picked y.0 y.1))

      from : Inside (entries m l) (map (entry m) s)
      from z i =
          let r = entries_out m l z i in
          let e = all r.0 r.1 in
          let one = picked_once m l r.0 e.0 r.1 (picked e.0 e.1) (sym e.2) in
          Memᴰ.cast (sym r.2 ∙ one) (Memᴰ.map (entry m) e.1)

      same : map (entry m) s ≡ entries m l
      same = rising_unique (map (entry m) s) (entries m l) (entries_climb m s rising) (entries_rising m l) to from

  -- for a reader: no other rows answer so
  pub answers_unique : (rows : List (List ℕ)) → Answers m l rows → rows ≡ result m l
  answers_unique rows a =
      sym a.rows_are
      ∙ result_is a.shows a.rising a.picked (λ c p. (a.pairs (m.cost c)).1 (c, p.best, refl))
