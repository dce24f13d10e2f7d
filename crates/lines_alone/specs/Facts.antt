-- What the tests of question 10 for tables lent without a timetable say, as facts.
use Rattle.std.specs.Prelude.{◌≡◌, true, List, ℕ, ◌≤◌, get_or}
use Rattle.std.proofs.Common.{leb-true}
use Rattle.lists.specs.Tests.{and_left, and_right}
use Rattle.timetable.specs.Timetable.{valid}
use Rattle.lines_lookup.specs.Lookup.{line_count}
use Rattle.lines_check.specs.Question10.{begins}
use Rattle.lines_alone.specs.Drawn.{drawn, trips_from, counts_fit, are_some}

pub record Fit (v : List ℕ) : Type 0 where
  pub stations : get_or v 0 0 ≤ 64
  pub lines : line_count v ≤ 256
  pub trips_on : trips_from v 0 (line_count v) ≤ 256

pub they_fit : (v : List ℕ) → counts_fit v ≡ true → Fit v
unfolding counts_fit
they_fit v e = search (and_left, and_right, leb-true)

pub record Some (v : List ℕ) : Type 0 where
  pub fit : counts_fit v ≡ true
  pub sound : valid (drawn v) ≡ true
  pub own : begins v (drawn v) ≡ true

pub they_are : (v : List ℕ) → are_some v ≡ true → Some v
unfolding are_some
they_are v e = search (and_left, and_right)
