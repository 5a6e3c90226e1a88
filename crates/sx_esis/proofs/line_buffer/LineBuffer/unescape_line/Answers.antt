use Rattle.std.proofs.Common.{◌∙◌, ap}
use Rattle.sx_esis.specs.Escapes.{unescape}
use Rattle.sx_esis.proofs.PartLemmas.{place_within, line_from, has_unescaped}
use Rattle.sx_esis.proofs.line_buffer.LineBuffer.unescape_line.Goals as goal

pub returns-in-Ok-clause-ok : goal.returns-in-Ok-clause-ok
returns-in-Ok-clause-ok c =
    let b = c.args.self.now in
    let done = c.in-Ok.ensures.ok in
    has_unescaped b.bytes.items c.unescape_part.new.bytes.items b.line_start b.line_end c.args.start c.in-Ok.end done.0 done.1 c.in-Ok.ensures.front done.2

pub returns-in-Err-clause-err : goal.returns-in-Err-clause-err
returns-in-Err-clause-err c =
    let b = c.args.self.now in
    ap unescape (line_from b.bytes.items b.line_start b.line_end c.args.start (place_within b.bytes.items b.line_start b.line_end c.args.start b.line_in_order c.requires)) ∙ c.in-Err.ensures.err
