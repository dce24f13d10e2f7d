use Rattle.std.proofs.Common.{◌≡◌, ◌≤◌, length, arith, rules}
use Rattle.text.specs.Piece.{piece_ends, piece_found, piece_goes_on}
use Rattle.text.proofs.piece_end.Goals as goal

pub loop-i-preserved : goal.loop-i-preserved
loop-i-preserved c =
    let inside : c.loop-i.i ≤ length c.args.s.now = omega arith in
    let more : c.loop-i.i ≡ length c.args.s.now → ⊥ = omega arith in
    piece_goes_on _ _ _ _ c.loop-i.invariant inside more c.if-s-i.false

pub returns-then-s-i : goal.returns-then-s-i
returns-then-s-i c =
    let inside : c.loop-i.i ≤ length c.args.s.now = omega arith in
    let more : c.loop-i.i ≡ length c.args.s.now → ⊥ = omega arith in
    (piece_found _ _ _ _ c.loop-i.invariant inside more c.if-s-i.true, search rules, search rules)

pub returns : goal.returns
returns c =
    let end : c.loop-i.i ≡ length c.args.s.now = omega arith in
    (omega (arith, piece_ends _ _ _ _ c.loop-i.invariant end), search rules, search rules)
