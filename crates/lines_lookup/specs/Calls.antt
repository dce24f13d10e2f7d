-- The list of a station, call by call: each is a line and a place on it. Where calls rise, those of one line that stand
-- after a call are found in front of what is left of a list.
use Rattle.std.specs.Prelude.{◌≡◌, Bool, true, false, cond, List, [], ◌∷◌, ℕ, ◌+◌, ◌-◌, ◌≤◌, ◌<◌, ltb, length, get_or}
use Rattle.std.proofs.Math.Seq.{slice}
use Rattle.lines_lookup.specs.declared.Call.{Call as CallStruct}
use Rattle.lines_lookup.specs.declared.Piece.{Piece as PieceStruct}
use Rattle.lines_lookup.specs.declared.Boarding.{Boarding as BoardingStruct}
use Rattle.lines_lookup.specs.Lookup.{line_at, total_at, list_of}

-- the structs of src/: a call is the place of its line, and the place on it
abbrev pub Call : Type 0
Call = CallStruct

abbrev pub Piece : Type 0
Piece = PieceStruct

abbrev pub Boarding : Type 0
Boarding = BoardingStruct

-- the call of the words at indices k and k + 1, which are numbers from 1
abbrev pub call_at : List ℕ → (k : ℕ) → Call
call_at v k = record { line = get_or v k 0 - 1; place = get_or v (k + 1) 0 - 1 }

unfoldable pub pairs_of : List ℕ → List Call
pairs_of [] = []
pairs_of (a ∷ []) = []
pairs_of (a ∷ b ∷ l) = record { line = a - 1; place = b - 1 } ∷ pairs_of l

-- the calls of station s
unfoldable pub calls_of : List ℕ → (s : ℕ) → List Call
calls_of v s = pairs_of (list_of v s)

-- those in a piece of the tables
abbrev pub calls_in : List ℕ → Piece → List Call
calls_in v k = pairs_of (slice k.from k.end v)

-- a piece within the tables
pub record Inside (v : List ℕ) (k : Piece) : Type 0 where
  pub from_few : k.from ≤ 65536
  pub end_few : k.end < 65536
  pub end_inside : k.end ≤ length v

-- call d stands after call c: on a later line, or at a later place of the same
unfoldable pub later : (c d : Call) → Bool
later c d =
    cond (ltb c.line d.line) true (cond (ltb d.line c.line) false (ltb c.place d.place))

-- what is left of a list after call c
unfoldable pub after : Call → List Call → List Call
after c [] = []
after c (d ∷ l) = cond (later c d) (d ∷ l) (after c l)

-- who boards at the call at index k, where the calls in a piece are left to alight at: the call, its line, and the
-- calls after it
pub record BoardsAt (v : List ℕ) (k : ℕ) (rest : Piece) (g : Boarding) : Type 0 where
  pub call : g.call ≡ call_at v k
  pub line : g.line ≡ line_at v g.call.line
  pub left : calls_in v g.rest ≡ after g.call (calls_in v rest)

-- how large its numbers get, and that its total is the one where it boards
pub record Within (v : List ℕ) (g : Boarding) : Type 0 where
  pub total : g.total.0 ≡ total_at v g.line g.call.place
  pub at_few : g.line.at < 65536
  pub positions_few : g.line.positions < 65536
  pub trips_few : g.line.trips < 65536
  pub place_few : g.call.place < 65536
  pub rest_inside : Inside v g.rest
