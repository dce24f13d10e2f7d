-- What the questions about line tables leave to who goes on: the trips in order. No reader of the promise needs this
-- file.
use Rattle.std.specs.Prelude.{◌≡◌, List, ℕ}
use Rattle.timetable.specs.Words.{timetable_of}
use Rattle.lines_order.specs.Order.{OrderOf}

-- if the number is 0, an array begins with the trips of the timetable in order
pub record Ordered (number : ℕ) (w order : List ℕ) : Type 0 where
  pub is : number ≡ 0 → OrderOf (timetable_of w).trips order

pub some_order : (number : ℕ) (w order : List ℕ) → OrderOf (timetable_of w).trips order → Ordered number w order
some_order number w order is = record { is = λ e. is }

pub no_order : (number : ℕ) (w order : List ℕ) → (number ≡ 0 → ⊥) → Ordered number w order
no_order number w order none = record { is = λ e. absurd (none e) }
