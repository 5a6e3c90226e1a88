use Rattle.std.proofs.Common.{◌≡◌, drop, length}
use Rattle.sx_parse.specs.Checks.{first_fault}
use Rattle.sx_parse.proofs.checks.first_fault.Given as goal

abbrev pub invariant-loop-role : goal.invariant-loop-role
invariant-loop-role l =
    first_fault l.pattern l.scope l.text l.tokens (drop (length l.yielded) l.roles) (drop (length l.yielded) l.tokens)
    ≡ first_fault l.pattern l.scope l.text l.tokens l.roles l.tokens
