-- What a comparison of points told, said of the numbers: the function that compares answers by a test.
use Rattle.std.specs.Prelude.{◌≡◌, Bool, true, false, not, ℕ, ◌≤◌, ◌<◌, leb, ltb, eqb}
use Rattle.std.proofs.Common.{sym, ◌∙◌, ltb-true, ltb-false, leb-true, leb-false, eqb-true}
use Rattle.std.proofs.lemmas.Bool.{eqb-false, not-true, not-false}

module _ (r : Bool) (a b : ℕ) where
  pub less_yes : r ≡ ltb a b → r ≡ true → a < b
  less_yes is e = ltb-true a b (sym is ∙ e)

  pub less_no : r ≡ ltb a b → r ≡ false → b ≤ a
  less_no is e = ltb-false a b (sym is ∙ e)

  pub at_least_yes : r ≡ leb b a → r ≡ true → b ≤ a
  at_least_yes is e = leb-true b a (sym is ∙ e)

  pub at_least_no : r ≡ leb b a → r ≡ false → a < b
  at_least_no is e = leb-false b a (sym is ∙ e)

  pub same_yes : r ≡ eqb a b → r ≡ true → a ≡ b
  same_yes is e = eqb-true a b (sym is ∙ e)

  pub same_no : r ≡ eqb a b → r ≡ false → a ≡ b → ⊥
  same_no is e = eqb-false a b (sym is ∙ e)

  pub other_yes : r ≡ eqb a b → not r ≡ true → a ≡ b → ⊥
  other_yes is e = eqb-false a b (sym is ∙ not-true r e)

  pub other_no : r ≡ eqb a b → not r ≡ false → a ≡ b
  other_no is e = eqb-true a b (sym is ∙ not-false r e)
