use Rattle.std.proofs.Common.{List, [], ap, sym, ◌∙◌}
use Rattle.sx_kinds.specs.Types.{parts_of_typings}
use Rattle.sx_kinds.specs.declared.types.Typing.{Typing}
use Rattle.sx_types.proofs.Firsts.{front_is}
use Rattle.sx_types.proofs.typing.begun.Goals as goal

pub returns-in-Some-len1-up-clause-known : goal.returns-in-Some-len1-up-clause-known
returns-in-Some-len1-up-clause-known c =
    c.and_one.ensures [] c.none.ensures ∙
    ap (λ (ts : List Typing). parts_of_typings ts)
    (sym (front_is c.args.first c.in-Some-len1-up.t c.args.parts.now c.in-Some-len1-up.is-0 c.in-Some-len1-up.len_at_least))
