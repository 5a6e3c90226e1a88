use Rattle.std.proofs.Common.{List, [], ◌∷◌, ◌++◌, reverse, append_assoc, ap, sym, ◌∙◌}
use Rattle.sx_build.specs.FixUp.{Binding}
use Rattle.sx_build.proofs.Lists.{reverse-snoc}
use Rattle.sx_build.proofs.builder.bind_all.Goals as goal

pub loop-binding-preserved : goal.loop-binding-preserved
loop-binding-preserved c =
    let before = c.loop-binding.bindings.items in
    let left = c.pop.new.self.items in
    ap (λ (bs : List Binding). bs ++ reverse left) c.in_ok-push.ensures.items
    ∙ append_assoc before (c.in-Some.binding ∷ []) (reverse left)
    ∙ ap (λ (bs : List Binding). before ++ bs) (sym (ap reverse c.in-Some.ensures.items ∙ reverse-snoc left c.in-Some.binding))
    ∙ c.loop-binding.invariant
