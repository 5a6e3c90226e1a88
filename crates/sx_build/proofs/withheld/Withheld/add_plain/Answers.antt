use Rattle.std.proofs.Common.{sym, subst, ◌∙◌}
use Rattle.std.proofs.lemmas.Result.{on_ok_weaker}
use Rattle.sx_build.specs.declared.withheld.Withheld.{Withheld}
use Rattle.sx_build.specs.Kept.{plain_name, with_one, HoldsAs}
use Rattle.sx_build.proofs.Plain.{plain_set_holds, plain_more_holds}
use Rattle.sx_build.proofs.withheld.Withheld.add_plain.Goals as goal

pub returns-in-Some : goal.returns-in-Some
returns-in-Some c = λ bound h s none.
    let me = c.args.self.now in
    let u = c.set_value.new.self in
    subst (λ (x : Withheld). HoldsAs bound (with_one h (record { name = plain_name c.args.local.now; value = c.args.value })) x.name x.prefix x.own x.declared.items u.pairs.items x.names.items)
    (sym c.set_value.ensures.kept)
    (plain_set_holds bound h me.name me.prefix me.own me.declared.items me.pairs.items me.names.items s none
    c.len.result c.in-Some.at c.args.local.now c.args.value c.deref.result.now u.pairs.items
    (c.len.ensures ∙ me.declared.ok.0) c.deref.ensures.value c.in-Some.ensures c.set_value.ensures.pairs)

pub returns-in_ok-copy-in-None : goal.returns-in_ok-copy-in-None
returns-in_ok-copy-in-None c =
    on_ok_weaker c.put.result
    (λ pushed bound h s none.
    let me = c.args.self.now in
    let u = c.put.new.self in
    subst (λ (x : Withheld). HoldsAs bound (with_one h (record { name = plain_name c.args.local.now; value = c.args.value })) x.name x.prefix x.own x.declared.items u.pairs.items x.names.items)
    (sym c.put.ensures.kept)
    (plain_more_holds bound h me.name me.prefix me.own me.declared.items me.pairs.items me.names.items s none
    c.len.result c.args.local.now c.args.value c.in_ok-copy-in-None.field-0 c.deref.result.now u.pairs.items
    (c.len.ensures ∙ me.declared.ok.0) c.deref.ensures.value c.in-None.ensures c.in_ok-copy-in-None.ensures pushed))
    c.put.ensures.pairs
