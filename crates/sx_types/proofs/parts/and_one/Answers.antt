use Rattle.std.proofs.Common.{◌∙◌, ◌||◌, ap, sym}
use Rattle.sx_kinds.specs.declared.types.Parts.{Parts}
use Rattle.sx_types.specs.Added.{added}
use Rattle.sx_types.proofs.More.{made, parts_more}
use Rattle.sx_types.proofs.parts.and_one.Goals as goal

pub returns : goal.returns
returns c = λ ts e.
    made c.args.before.now c.args.part.now c.first_with.ensures c.behind_with.ensures c.behind_with-2.ensures c.joined.ensures
    c.origin_with.ensures c.joined_start.ensures c.either.ensures
    (c.either-2.ensures ∙ ap (λ b. c.args.before.now.positional || b) c.is_positional.ensures) ∙
    ap (λ (p : Parts). added p c.args.part.now) e ∙
    sym (parts_more ts c.args.part.now)
