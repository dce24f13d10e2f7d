-- What the code asks of one stop at a time.
use Rattle.std.specs.Prelude.{Bool, ◌&&◌, ℕ, leb, eqb}
use Rattle.timetable.specs.Timetable.{Stop, listed, leaves, follows}

-- a trip's first stop
unfoldable pub begins : ℕ → Stop → Bool
begins n s = listed n s && eqb s.arrive 0 && leaves s

-- a stop between a trip's first and its last
unfoldable pub passes : ℕ → Stop → Stop → Bool
passes n b s = follows n b s && leb s.arrive s.depart && leaves s
