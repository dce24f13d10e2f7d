-- Domination on a few costs: a cost that is equal in one part and smaller in the other dominates; one that is larger in
-- a part does not, nor does an equal one. For a reader.
use Rattle.std.specs.Prelude.{◌≡◌, refl, true, false, ℕ}
use Rattle.results.specs.Results.{Cost, dominates}

abbrev of : (minutes points : ℕ) → Cost
of d p = record { minutes = d; points = p }

pub record Dominations : Type 0 where
  pub cheaper : dominates (of 50 10) (of 50 20) ≡ true
  pub quicker : dominates (of 50 10) (of 60 10) ≡ true
  pub both : dominates (of 50 10) (of 60 20) ≡ true
  pub equal : dominates (of 50 10) (of 50 10) ≡ false
  pub dearer : dominates (of 50 10) (of 90 0) ≡ false
  pub slower : dominates (of 90 0) (of 50 10) ≡ false

pub dominations : Dominations
unfolding dominates
dominations = record { cheaper = refl; quicker = refl; both = refl; equal = refl; dearer = refl; slower = refl }
