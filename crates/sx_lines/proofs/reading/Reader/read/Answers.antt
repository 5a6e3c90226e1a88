use Rattle.sx_lines.proofs.ReadBack.{refused_bytes}
use Rattle.sx_lines.proofs.reading.Reader.read.Goals as goal

pub returns-in-Some-clause-refused : goal.returns-in-Some-clause-refused
returns-in-Some-clause-refused c =
    let found = rw c.in-Some.is at c.in_ok-line.ensures.found in
    refused_bytes c.take.result c.args.self.now.after_text c.args.self.now.pairs c.in-Some.line c.args.bytes.now found.0 found.1 c.take.ensures.refused
