-- By the number, which falls when its last digit is taken away: the other digits are written, and it stands behind.
use Rattle.listing_printing.proofs.+put_number.Given as goal

abbrev pub decreases-put_number : goal.decreases-put_number
decreases-put_number l = l.n
