-- Settling takes no part away and puts none in.
use Rattle.std.proofs.Common.{◌≡◌, ℕ, Bool, List, [], ◌∷◌, length, map, ◌&&◌, refl, ap, sym, ◌∙◌}
use Rattle.sx_kinds.specs.Formed.{all_so, formed, has_parts}
use Rattle.sx_kinds.specs.Settled.{TypingPlace, bare, bare_deep, bare_form, settled_expression}
use Rattle.sx_kinds.specs.declared.expressions.Expr.{Expr}
use Rattle.sx_kinds.specs.declared.expressions.Expr.TheOpen.{Expr-F}
use Rattle.sx_kinds.specs.declared.expressions.Expr.TheViews.{roll-Expr}
use Rattle.sx_kinds.specs.declared.expressions.Expr.TheFolds.{ind-Expr}
use Rattle.sx_kinds.specs.declared.expressions.ExprForm.{ExprForm}
use Rattle.sx_kinds.specs.declared.expressions.ExprForm.TheVariants as forms
use Rattle.sx_kinds.specs.declared.expressions.Function.{Function}
use Rattle.sx_kinds.proofs.Formed.{as_many, formed_roll}
use Rattle.sx_types.proofs.Bare.{bare_roll, settled_bare}

bare_parts : (takes : Function → ℕ → Bool) (form : ExprForm) (n : ℕ) → has_parts takes (bare_form form) n ≡ has_parts takes form n
bare_parts takes (forms.Path per_item) n = refl
bare_parts takes (forms.Var x ty) n = refl
bare_parts takes (forms.Call f ty accumulator) n = refl
bare_parts takes _ n = refl

abbrev SameFormed : (Function → ℕ → Bool) → Expr → Type 0
SameFormed takes e = formed takes (bare e) ≡ formed takes e

parts_same : (takes : Function → ℕ → Bool) (ps : List ((e : Expr) × SameFormed takes e)) →
    map (formed takes) (map bare (map (λ p. p.0) ps)) ≡ map (formed takes) (map (λ p. p.0) ps)
parts_same takes [] = refl
parts_same takes (p ∷ ps) =
    ap (λ (b : Bool). b ∷ map (formed takes) (map bare (map (λ p. p.0) ps))) p.1 ∙
    ap (λ (bs : List Bool). formed takes p.0 ∷ bs) (parts_same takes ps)

roll_same : (takes : Function → ℕ → Bool) (x : Expr-F Expr) (ps : List ((e : Expr) × SameFormed takes e)) → map (λ p. p.0) ps ≡ x.parts →
    SameFormed takes (roll-Expr x)
roll_same takes x ps is =
    let all = ap (λ (es : List Expr). map (formed takes) (map bare es)) (sym is) ∙ parts_same takes ps ∙ ap (map (formed takes)) is in
    ap (formed takes) (bare_roll x) ∙
    formed_roll takes (record { construct = x.construct; deep = bare_deep x.deep; form = bare_form x.form; parts = map bare x.parts }) ∙
    ap (λ (b : Bool). b && all_so (map (formed takes) (map bare x.parts)))
    (bare_parts takes x.form (length (map bare x.parts)) ∙ ap (has_parts takes x.form) (as_many bare x.parts)) ∙
    ap (λ (bs : List Bool). has_parts takes x.form (length x.parts) && all_so bs) all ∙
    sym (formed_roll takes x)

bare_formed : (takes : Function → ℕ → Bool) (e : Expr) → SameFormed takes e
bare_formed takes = ind-Expr (SameFormed takes) (λ x y is. roll_same takes x y.parts (ap (λ (z : Expr-F Expr). z.parts) is))

pub settled_same_formed : (takes : Function → ℕ → Bool) (e : Expr) (here : TypingPlace) → formed takes (settled_expression e here) ≡ formed takes e
settled_same_formed takes e here =
    sym (bare_formed takes (settled_expression e here)) ∙ ap (formed takes) (settled_bare e here) ∙ bare_formed takes e
