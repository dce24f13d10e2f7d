-- Where the minutes that lead end: behind the first that has the least penalty of all.
use Rattle.std.specs.Prelude.{List, ℕ, ◌≤◌, ◌<◌, get_or}

-- the first so many minutes have no penalty below low
pub record Floor (low to : ℕ) (best : List ℕ) : Type 0 where
  pub under : (m : ℕ) → m < to → low ≤ get_or best m 0

-- what is above no penalty before minute `end` is above none at all
pub record LeadsEnd (best : List ℕ) (end : ℕ) : Type 0 where
  pub few : end ≤ 2880
  pub over : (least : ℕ) → Floor least end best → Floor least 2880 best
