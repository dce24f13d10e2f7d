-- The least penalty so far runs over the arrival minutes; where the next is less, its minute leads.
use mathlib.Core.Path.{◌≡◌, sym, ap, ◌∙◌}
use mathlib.Core.Bool.{Bool, true, false, not}
use mathlib.Core.List.{List, ◌∷◌}
use Prim.Native.Nat.{ℕ, ◌+◌, ◌≤◌, ◌<◌, min}
use native.Mathlib.Numerals.{add-one}
use native.Mathlib.Omega.{arith}
use lib.Dec.{leb, ltb}
use lib.ListN.{length, get_or, drop, drop_of_length-le}
use lib.Seq.{drop-cons}
use borrow.Author.Tests.{lt-ltb, le-ltb, ltb-true, ltb-false, leb-true, not-true, not-false}
use Rattle.query_minutes.specs.Minutes.{no_points, leads}
use Rattle.query_minutes.specs.Ending.{Floor}
use Rattle.query_minutes.proofs.EndLaws.{leads_over}

module _ (best : List ℕ) (least a : ℕ) (more : a < length best) where
  pub leads_here : get_or best a 0 < least
      → leads least a (drop a best)
      ≡ record { minutes = a; points = get_or best a 0 } ∷ leads (min least (get_or best a 0)) (a + 1)
      (drop (a + 1) best)
  unfolding leads
  leads_here h =
      let low : min least (get_or best a 0) ≡ get_or best a 0 = omega arith in
      rw (drop-cons best a 0 more, lt-ltb (get_or best a 0) least h, low, add-one a)

  pub leads_not : least ≤ get_or best a 0
      → leads least a (drop a best) ≡ leads (min least (get_or best a 0)) (a + 1) (drop (a + 1) best)
  unfolding leads
  leads_not h =
      let low : min least (get_or best a 0) ≡ least = omega arith in
      rw (drop-cons best a 0 more, le-ltb (get_or best a 0) least h, low, add-one a)

-- counting them
module _
    (best : List ℕ)
    (least a rows : ℕ)
    (so_far : length (leads no_points 0 best) ≡ rows + length (leads least a (drop a best)))
    (long : length best ≡ 2880)
  where
    pub count_done : 2880 ≤ a → rows ≡ length (leads no_points 0 best)
    unfolding leads
    count_done h =
        omega (arith, so_far, ap (λ l. length (leads least a l)) (drop_of_length-le best {i = a} (omega (arith, long))))

    module _ (more : a < 2880) (x : ℕ) (is : x ≡ get_or best a 0) (less : Bool) (is-less : less ≡ ltb x least) where
      pub count_skip : not less ≡ true
          → length (leads no_points 0 best) ≡ rows + length (leads least (a + 1) (drop (a + 1) best))
      count_skip h =
          let over = ltb-false x least (sym is-less ∙ not-true less h) in
          let same : min least (get_or best a 0) ≡ least = omega (arith, over, is) in
          let next = leads_not best least a (omega (arith, long)) (omega (arith, over, is)) in
          let on = next ∙ ap (λ l. leads l (a + 1) (drop (a + 1) best)) same in
          omega (arith, so_far, ap length on)

      module _ (h : not less ≡ false) where
        one_more : length (leads no_points 0 best) ≡ rows + 1 + length (leads x (a + 1) (drop (a + 1) best))
        one_more =
            let under = ltb-true x least (sym is-less ∙ not-false less h) in
            let same : min least (get_or best a 0) ≡ x = omega (arith, under, is) in
            let next = leads_here best least a (omega (arith, long)) (omega (arith, under, is)) in
            let on = ap (λ l. length (leads l (a + 1) (drop (a + 1) best))) same in
            omega (arith, so_far, ap length next, on)

        pub count_row : length (leads no_points 0 best) ≡ rows + 1 + length (leads x (a + 1) (drop (a + 1) best))
        count_row = one_more

        pub count_last : (low : ℕ) → Floor low 2880 best → (end : Bool) → end ≡ leb x low → end ≡ true
            → rows + 1 ≡ length (leads no_points 0 best)
        count_last low floor end is-end g =
            let under = leb-true x low (sym is-end ∙ g) in
            let over : Floor x 2880 best = record { under = λ j k. omega (arith, under, floor.under j k) } in
            omega (arith, one_more, ap length (leads_over best x (a + 1) long over))
