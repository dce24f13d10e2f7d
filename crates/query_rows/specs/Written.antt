-- The row for an arrival minute and a penalty, as it is counted and written.
use Rattle.std.specs.Prelude.{◌≡◌, List, ℕ, ◌+◌, ◌≤◌, length}
use Rattle.words.specs.Put.{put}
use Rattle.promises.specs.Query.{kept}
use Rattle.query_winner.specs.Winning.{cost_of}
use Rattle.query_rows.specs.Rowed.{RowFor}

-- the words of the row for minute m and penalty p are counted, or written from index at on
pub record Counted (w s : List ℕ) (a b u m p count : ℕ) : Type 0 where
  pub row : List ℕ
  pub is : RowFor u (kept w s a b u) (cost_of m p) row
  pub long : length row ≡ count

pub record Written (w s : List ℕ) (a b u m p at end : ℕ) (old new : List ℕ) : Type 0 where
  pub row : List ℕ
  pub is : RowFor u (kept w s a b u) (cost_of m p) row
  pub put_row : new ≡ put at row old
  pub ends : end ≡ at + length row

-- there is room for the row
pub record Room (w s : List ℕ) (a b u m p at : ℕ) (old : List ℕ) : Type 0 where
  pub room : (row : List ℕ) → RowFor u (kept w s a b u) (cost_of m p) row → at + length row ≤ length old
