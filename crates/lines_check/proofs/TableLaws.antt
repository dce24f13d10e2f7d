-- Tables written to working space and compared with those lent, and the ways out of the call that asks about them.
use mathlib.Core.Path.{◌≡◌, ◌∙◌}
use mathlib.Core.Bool.{Bool, true, false, not}
use mathlib.Core.List.{List}
use Prim.Native.Nat.{ℕ, ◌≤◌, ◌<◌}
use borrow.Author.Tests.{le-leb, lt-leb, not-true, not-false}
use lib.ListN.{length, take}
use Rattle.lists.specs.Lists.{same}
use Rattle.words.specs.Put.{put}
use Rattle.timetable.specs.Words.{is_timetable}
use Rattle.lines_tables.specs.Model.{table_at}
use Rattle.lines_tables.proofs.Same.{same_tables}
use Rattle.lines_tables.specs.Copied.{tables_taken}
use Rattle.lines_check.specs.Question10.{begins, are_tables, tables_number}

pub compared : (w v work out : List ℕ) (count : ℕ) (r : Bool) → is_timetable w ≡ true → length work ≡ 16384
    → out ≡ put 0 (table_at w) work → count ≡ length (table_at w) → r ≡ same (take count out) (take count v)
    → r ≡ are_tables w v
unfolding begins
compared w v work out count r accepted room written counted e =
    let are = same_tables w accepted in
    e
    ∙ (λ i. same (tables_taken w work out count accepted room written counted i) (take (counted i) v))
    ∙ (λ i. same (are i) (take (length (are i)) v))

module _ (w v : List ℕ) (n : ℕ) where
  pub words_short : length w < 16384 → 8 ≡ tables_number w v n
  unfolding tables_number
  words_short short = simp (lt-leb 16384 (length w) short)

  module _ (long : 16384 ≤ length w) where
    pub lines_short : length v < 16384 → 8 ≡ tables_number w v n
    unfolding tables_number
    lines_short short = simp (le-leb 16384 (length w) long, lt-leb 16384 (length v) short)

    module _ (room : 16384 ≤ length v) where
      pub work_short : n < 16384 → 8 ≡ tables_number w v n
      unfolding tables_number
      work_short short = simp (le-leb 16384 (length w) long, le-leb 16384 (length v) room, lt-leb 16384 n short)

      module _ (space : 16384 ≤ n) (r : Bool) (asked : r ≡ is_timetable w) where
        pub no_timetable : not r ≡ true → 9 ≡ tables_number w v n
        unfolding tables_number
        no_timetable denied =
            simp (
              le-leb 16384 (length w) long,
              le-leb 16384 (length v) room,
              le-leb 16384 n space,
              ← asked,
              not-true r denied,
            )

        module _ (accepted : not r ≡ false) (are : Bool) (answer : are ≡ are_tables w v) where
          pub other_tables : are ≡ false → 10 ≡ tables_number w v n
          unfolding tables_number
          other_tables denied =
              simp (
                le-leb 16384 (length w) long,
                le-leb 16384 (length v) room,
                le-leb 16384 n space,
                ← asked,
                not-false r accepted,
                ← answer,
                denied,
              )

          pub own_tables : are ≡ true → 0 ≡ tables_number w v n
          unfolding tables_number
          own_tables y =
              simp (
                le-leb 16384 (length w) long,
                le-leb 16384 (length v) room,
                le-leb 16384 n space,
                ← asked,
                not-false r accepted,
                ← answer,
                y,
              )
