-- One store.
use lib.ListN.{length-set}
use Rattle.words.specs.Put.{put_one}
use Rattle.listing_printing.proofs.put_byte.Goals as goal

pub returns : goal.returns
returns c = (search put_one, rw length-set)
