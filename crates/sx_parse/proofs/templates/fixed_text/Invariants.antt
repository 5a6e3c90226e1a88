use Rattle.std.proofs.Common.{length, ◌-◌}
use Rattle.sx_parse.proofs.FixedText.{IsCopied}
use Rattle.sx_parse.proofs.templates.fixed_text.Given as goal

abbrev pub invariant-loop-bytes : goal.invariant-loop-bytes
invariant-loop-bytes l = IsCopied l.text l.offset l.fixed l.end l.brace

abbrev pub decreases-loop-bytes : goal.decreases-loop-bytes
decreases-loop-bytes l = length l.text - l.brace
