use Rattle.std.proofs.Common.{◌≡◌, ◌++◌, ◌∷◌, [], List, reverse, ap, ◌∙◌, false, subst, sym, append_assoc, append-nil}
use Rattle.std.proofs.lemmas.List.{reverse-append, reverse-reverse}
use Rattle.sx_build.specs.Asked as ask
use Rattle.sx_build.specs.Asked.{Asked}
use Rattle.sx_tree.specs.declared.events.Attr.{Attr}
use Rattle.sx_named.specs.Named.{attribute_at, attributes_at}
use Rattle.sx_machine.specs.Writer.{WriterStands, asked_attributes}
use Rattle.sx_machine.proofs.writer.Writer.push_attributes.Goals as goal

pub loop-attr-preserved : goal.loop-attr-preserved
loop-attr-preserved c = λ asked given s.
    let names = c.args.names.now in
    let before = c.loop-attr.invariant asked given s in
    let attr : Attr = c.in-Some.attr in
    let rest : List Attr = c.pop.new.self in
    let next : Asked = ask.has (attribute_at names attr) in
    let last : reverse c.loop-attr.turned ≡ attr ∷ reverse rest = ap reverse c.in-Some.ensures ∙ reverse-append rest (attr ∷ []) in (
      before.0 ++ next ∷ [],
      c.in_ok-push.ensures before.0 given before.1,
      append_assoc before.0 (next ∷ []) (asked_attributes (attributes_at names (reverse rest)))
          ∙ ap (λ (attrs : List Attr). before.0 ++ asked_attributes (attributes_at names attrs)) (sym last) ∙ before.2,
    )

pub returns : goal.returns
returns c = λ asked given s.
    let names = c.args.names.now in
    let none = c.replace-turned.ensures.after ∙ c.new.ensures in
    let begun : WriterStands (record c.args.self.now { turned = c.replace-turned.new.dest }) asked false given =
    record { builds = s.builds; error_is = s.error_is; none_turned = none } in
    let all = c.loop-attr.invariant asked given begun in
    let asks = λ (attrs : List Attr). asked_attributes (attributes_at names attrs) in
    let turned : c.turn.new.turned ≡ reverse c.args.attrs =
    c.in_ok-turn.ensures ∙ ap (λ (attrs : List Attr). attrs ++ reverse c.args.attrs) (c.replace-turned.ensures.value ∙ s.none_turned) in
    let ended : WriterStands c.loop-attr.self (asked ++ asks c.args.attrs) false given =
    subst (λ (list : List Asked). WriterStands c.loop-attr.self list false given)
    (sym (append-nil all.0) ∙ ap (λ (attrs : List Attr). all.0 ++ asks (reverse attrs)) (sym c.in_default.ensures.0) ∙ all.2
    ∙ ap (λ (attrs : List Attr). asked ++ asks attrs) (ap reverse turned ∙ reverse-reverse c.args.attrs))
    all.1 in
    record { builds = ended.builds; error_is = ended.error_is; none_turned = c.in_default.ensures.1 }
