use Rattle.sx_lines.specs.Print.{escape}
use Rattle.sx_lines.specs.Lines.{word_cdata}
use Rattle.std.proofs.Common.{◌++◌, sym}
use Rattle.sx_lines.proofs.Lacking.{not_split}
use Rattle.sx_lines.proofs.LineBytes.{pair_line}
use Rattle.sx_lines.proofs.lines.read_pair.Goals as goal

pub returns-in-None-clause-none : goal.returns-in-None-clause-none
returns-in-None-clause-none c = λ l is e.
    let p = pair_line l c.args.bytes.now is e in
    not_split 32 c.args.bytes.now p.0.name (word_cdata ++ escape p.0.value) c.in-None.ensures (sym p.2)
