use native.Mathlib.Omega.{arith}
use lib.ListN.{length, length-set}
use Prim.Native.Nat.{◌<◌}
use Rattle.listing_printing.proofs.NumberLaws.{one_room, one_end, one_words}
use Rattle.listing_printing.proofs.NumberLaws.{more_room, more_within, more_end, more_words, more_kept}
use Rattle.listing_printing.proofs.+put_number.Goals as goal

pub bounds-out-at : goal.bounds-out-at
bounds-out-at t c = search one_room

pub returns-then-n-lt10 : goal.returns-then-n-lt10
returns-then-n-lt10 t c = (search one_end, search one_words, rw length-set)

pub put_number-end-requires : goal.put_number-end-requires
put_number-end-requires t c = (omega arith, search more_room)

pub bounds-out-end : goal.bounds-out-end
bounds-out-end t c = search more_within

pub overflow_add-result-2 : goal.overflow_add-result-2
overflow_add-result-2 t c =
    let room : c.put_number-end.result < length c.put_number-end.new.out = search more_within in
    record { fits = omega (arith, room, c.put_number-end.type_inv) }

pub returns : goal.returns
returns t c = (search more_end, search more_words, search more_kept)
