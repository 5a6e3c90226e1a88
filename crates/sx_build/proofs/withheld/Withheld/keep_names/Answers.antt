use Rattle.std.proofs.Common.{◌∙◌}
use Rattle.sx_build.proofs.Plain.{names_kept, kept_holds, no_names}
use Rattle.sx_build.proofs.withheld.Withheld.keep_names.Goals as goal

pub returns-in_ok-self-clause-holds : goal.returns-in_ok-self-clause-holds
returns-in_ok-self-clause-holds c = λ bound h s.
    let me = c.args.self.now in
    let none = no_names me.names.items me.names.len me.names.ok.0 c.if-is_empty.ensures in
    kept_holds bound h me.name me.prefix me.own me.declared.items me.pairs.items me.names.items s none c.in_ok-self.field-0.items
    (names_kept bound h me.name me.prefix me.own me.declared.items me.pairs.items me.names.items s none
    c.len.result c.deref.result.now c.in_ok-self.field-0.items (c.len.ensures ∙ me.declared.ok.0) c.deref.ensures.value c.in_ok-self.ensures)

pub returns-in_ok-self-clause-names : goal.returns-in_ok-self-clause-names
returns-in_ok-self-clause-names c = λ bound h s.
    let me = c.args.self.now in
    names_kept bound h me.name me.prefix me.own me.declared.items me.pairs.items me.names.items s
    (no_names me.names.items me.names.len me.names.ok.0 c.if-is_empty.ensures)
    c.len.result c.deref.result.now c.in_ok-self.field-0.items (c.len.ensures ∙ me.declared.ok.0) c.deref.ensures.value c.in_ok-self.ensures
