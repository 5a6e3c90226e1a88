use Rattle.std.proofs.Common.{◌≡◌, ℕ, List, [], ◌∷◌, length, ap, ap₂, sym, ◌∙◌, arith, refl}
use Rattle.sx_names.specs.Scope.{Declarations, ScopeBindings, declared_in}
use Rattle.sx_events.proofs.Opens.{declared_more}
use Rattle.sx_events.proofs.elements.declare.Goals as goal

kept_length : (prefix uri : List ℕ) (scope : ScopeBindings) → length (declared_in prefix uri scope) ≡ length scope
kept_length prefix uri [] = refl
kept_length prefix uri (declarations ∷ around) = refl

pub loop-space-preserved : goal.loop-space-preserved
loop-space-preserved c =
    let scope = c.loop-space.scope in
    let is = c.in_ok-declare.ensures.ok in
    let same : length c.declare.new.self ≡ length scope = ap (λ (s : ScopeBindings). length s) is ∙ kept_length _ _ scope in
    record {
      entered = let some = c.loop-space.invariant.entered in omega (arith, same, some);
      count = same ∙ c.loop-space.invariant.count;
      declared = λ around begun.
          is ∙ ap₂ (λ (p u : List ℕ). declared_in p u scope) c.as_str.ensures c.as_str-in-loop-space.ensures
          ∙ ap (declared_in c.space-item.result.prefix c.space-item.result.uri) (c.loop-space.invariant.declared around begun)
          ∙ ap (λ (d : Declarations). d ∷ around) (sym (declared_more c.args.spaces.now c.loop-space.space-index c.space-item.result (omega arith) c.space-item.is));
    }
