use Rattle.std.proofs.Common.{true, false, List, ◌∷◌, ap, sym, ◌∙◌, arith}
use Rattle.std.proofs.lemmas.List.{take_all}
use Rattle.sx_named.specs.Named.{Name}
use Rattle.sx_build.specs.FixUp.{is_text_among}
use Rattle.sx_build.specs.Kept.{name_prefixes}
use Rattle.sx_build.proofs.Taken.{taken_by}
use Rattle.sx_build.proofs.withheld.Withheld.is_taken.Goals as goal

pub returns-then-has_binding : goal.returns-then-has_binding
returns-then-has_binding c =
    let me = c.args.self.now in
    c.if-has_binding.true
    ∙ sym (taken_by me.declared.items c.deref.result.now c.args.outer.now (me.prefix ∷ name_prefixes me.names.items) c.args.prefix.now true
    c.deref.ensures.value c.if-has_binding.ensures)

pub returns-else-has_binding : goal.returns-else-has_binding
returns-else-has_binding c =
    let me = c.args.self.now in
    c.uses.ensures
    ∙ ap (λ (ns : List Name). is_text_among (me.prefix ∷ name_prefixes ns) c.args.prefix.now)
    (take_all c.len.result me.names.items (omega (arith, c.len.ensures, me.names.ok.0)))
    ∙ sym (taken_by me.declared.items c.deref.result.now c.args.outer.now (me.prefix ∷ name_prefixes me.names.items) c.args.prefix.now false
    c.deref.ensures.value c.if-has_binding.ensures)
