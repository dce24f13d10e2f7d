use borrow.Author.Rules.{rules}
use Rattle.store_minutes.specs.Seeking.{sought_first, place_known, next_known, next_fits, begins_before, chunked}
use Rattle.store_minutes.specs.Looking.{sounded_none, sounded_first, looked_all}
use Rattle.store_minutes.proofs.mark_departures.Goals as goal

pub overflow_add-chunk : goal.overflow_add-chunk
overflow_add-chunk c = record { fits = search next_fits }

pub index_at-end-requires : goal.index_at-end-requires
index_at-end-requires c = search next_known

pub index_at-begin-requires : goal.index_at-begin-requires
index_at-begin-requires c = search place_known

pub loop-p-init : goal.loop-p-init
loop-p-init c = (
  search rules,
  search rules,
  search rules,
  search rules,
  search rules,
  search rules,
  search rules,
  search rules,
  search rules,
  search rules,
  search begins_before,
  search rules,
  search rules,
  search rules,
  search rules,
  search rules,
  search rules,
  search sought_first,
  search (sounded_first, sounded_none),
)

pub returns : goal.returns
returns c = let b = c.loop-p in
    let i = b.invariant in (
      chunked _ _ _ _ i.0 _ _ i.2 _ i.3 b.p b.last _ _ _ _ i.10 _ i.8 c.loop-p-test.false
          i.17,
      looked_all _ _ _ _ i.0 _ _ i.2 _ i.3 b.p _ _ _ i.10 _ i.8 c.loop-p-test.false i.18,
      search rules,
      search rules,
      search rules,
      search rules,
      search rules,
      search rules,
    )
