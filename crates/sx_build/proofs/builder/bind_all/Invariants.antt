use Rattle.std.proofs.Common.{◌≡◌, ◌++◌, vec_len, reverse}
use Rattle.sx_build.proofs.builder.bind_all.Given as goal

abbrev pub invariant-loop-binding : goal.invariant-loop-binding
invariant-loop-binding l = l.bindings.items ++ reverse l.declared.items ≡ l.initial.bindings.items ++ reverse l.fn.declared.items

abbrev pub decreases-loop-binding : goal.decreases-loop-binding
decreases-loop-binding l = vec_len l.declared
