use Rattle.std.proofs.Common.{◌≡◌, min, length, take, List, ap, sym, ◌∙◌, arith}
use Rattle.std.proofs.lemmas.List.{take_min}
use Rattle.sx_tree.specs.SpineView.{item_content}
use Rattle.sx_tree.specs.TreeView.{attributes_of}
use Rattle.sx_tree.specs.declared.ancestors.SpineItem.{SpineItem}
use Rattle.sx_tree.specs.declared.events.Attr.{Attr}
use Rattle.sx_tree.proofs.ancestors.SpineItem.attrs.Goals as goal

pub returns-in-Element-clause-value : goal.returns-in-Element-clause-value
returns-in-Element-clause-value c =
    let attrs = c.as_slice-attrs.result.now in
    let least : c.min.result ≡ min 4294967295 (length attrs) = omega (arith, c.min.ensures) in
    ap (λ n. take n attrs) least
    ∙ take_min 4294967295 attrs
    ∙ ap (λ (seen : List Attr). take 4294967295 seen) c.as_slice-attrs.ensures
    ∙ sym (ap (λ (item : SpineItem). attributes_of (item_content item)) c.in-Element.is)
