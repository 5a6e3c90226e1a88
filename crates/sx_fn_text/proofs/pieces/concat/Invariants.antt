use Rattle.std.proofs.Common.{◌≡◌, drop, string_bytes}
use Rattle.sx_fn_text.specs.Calls.{concatenated}
use Rattle.sx_fn_text.specs.Pieces.{bytes_concatenated}
use Rattle.sx_fn_text.proofs.Prints.{bytes_onto}
use Rattle.sx_fn_text.proofs.pieces.concat.Given as goal

abbrev pub invariant-loop-atoms : goal.invariant-loop-atoms
invariant-loop-atoms l = bytes_onto (string_bytes l.out) (concatenated (drop l.atoms-index l.args)) ≡ bytes_concatenated l.args
