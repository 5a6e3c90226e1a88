use Rattle.std.proofs.Common.{arith, inr}
use Rattle.sx_names.proofs.Places.{KeepsPlaces-trans}
use Rattle.sx_parse.proofs.Formed.{all_formed}
use Rattle.sx_parse.proofs.Turning.{all_read, turning_begins, turning_goes_on}
use Rattle.sx_parse.proofs.value_templates.read_pieces.Goals as goal

pub pieces-init : goal.pieces-init
pieces-init c = turning_begins c.args.scope.now c.args.s.now c.args.names.now c.args.at.now c.new-parts.result c.utf8.s c.new-parts.ensures

pub returns-in-Whole-clause-exactly : goal.returns-in-Whole-clause-exactly
returns-in-Whole-clause-exactly c =
    all_read c.args.scope.now c.args.s.now c.args.names.now c.pieces.names c.read_piece.new.names c.args.at.now c.pieces.at c.read_piece.new.at c.pieces.offset c.pieces.parts c.read_piece.new.parts
    c.requires.short c.pieces.invariant c.in_ok-read_piece.ensures.line
    ((rw c.in-Whole.is at c.in_ok-read_piece.ensures.turns) c.args.names.now c.args.at.now.next c.pieces.invariant.read)

pub returns-in-Whole-clause-formed : goal.returns-in-Whole-clause-formed
returns-in-Whole-clause-formed c =
    let turned = (rw c.in-Whole.is at c.in_ok-read_piece.ensures.turns) c.args.names.now c.args.at.now.next c.pieces.invariant.read in
    all_formed _ _ _ _ _ _ _ _ _ turned.1

pub returns-in-Whole-clause-grows : goal.returns-in-Whole-clause-grows
returns-in-Whole-clause-grows c =
    let turned = (rw c.in-Whole.is at c.in_ok-read_piece.ensures.turns) c.args.names.now c.args.at.now.next c.pieces.invariant.read in
    omega (arith, turned.1.few, turned.1.cut.boundary.0)

pub returns-in-Whole-clause-kept : goal.returns-in-Whole-clause-kept
returns-in-Whole-clause-kept c = KeepsPlaces-trans c.args.names.now c.pieces.names c.read_piece.new.names c.pieces.invariant.kept c.in_ok-read_piece.ensures.kept

pub returns-in-Refused-clause-exactly : goal.returns-in-Refused-clause-exactly
returns-in-Refused-clause-exactly c =
    let turned = (rw c.in-Refused.is at c.in_ok-read_piece.ensures.turns) c.args.names.now c.args.at.now.next c.pieces.invariant.read in
    inr (c.requires.short, turned.0)

pub returns-in-Refused-clause-grows : goal.returns-in-Refused-clause-grows
returns-in-Refused-clause-grows c =
    let turned = (rw c.in-Refused.is at c.in_ok-read_piece.ensures.turns) c.args.names.now c.args.at.now.next c.pieces.invariant.read in
    omega (arith, turned.1.few, turned.1.cut.boundary.0)

pub returns-in-Refused-clause-kept : goal.returns-in-Refused-clause-kept
returns-in-Refused-clause-kept c = KeepsPlaces-trans c.args.names.now c.pieces.names c.read_piece.new.names c.pieces.invariant.kept c.in_ok-read_piece.ensures.kept

pub pieces-smaller : goal.pieces-smaller
pieces-smaller c =
    let turned = (rw c.in-Behind.is at c.in_ok-read_piece.ensures.turns) c.args.names.now c.args.at.now.next c.pieces.invariant.read in
    omega (arith, turned.0, turned.1.cut.boundary.0)

pub pieces-preserved : goal.pieces-preserved
pieces-preserved c =
    turning_goes_on c.args.scope.now c.args.s.now c.args.names.now c.pieces.names c.read_piece.new.names c.args.at.now c.pieces.at c.read_piece.new.at c.pieces.offset c.in-Behind.end c.pieces.parts c.read_piece.new.parts
    c.pieces.invariant c.in_ok-read_piece.ensures.line c.in_ok-read_piece.ensures.kept
    ((rw c.in-Behind.is at c.in_ok-read_piece.ensures.turns) c.args.names.now c.args.at.now.next c.pieces.invariant.read)
