-- Expressions with the parts that their forms ask for.
use Rattle.std.proofs.Common.{◌≡◌, ℕ, suc, Bool, true, false, ◌&&◌, ◌==◌, List, [], ◌∷◌, length, map, refl, ap, sym, ◌∙◌, arith}
use Rattle.std.proofs.lemmas.Bool.{eqb-true}
use Rattle.sx_kinds.specs.Formed.{AreFormed, IsFormed, all_so, formed, has_parts}
use Rattle.sx_kinds.specs.declared.expressions.Expr.{Expr}
use Rattle.sx_kinds.specs.declared.expressions.Expr.TheOpen.{Expr-F}
use Rattle.sx_kinds.specs.declared.expressions.Expr.TheFolds.{fold_out-Expr, fold-roll-Expr}
use Rattle.sx_kinds.specs.declared.expressions.Expr.TheViews.{out-Expr, roll-Expr}
use Rattle.sx_kinds.specs.declared.expressions.Function.{Function}

pub as_many : {A B : Type 0} (f : A → B) (xs : List A) → length (map f xs) ≡ length xs
as_many f [] = refl
as_many f (x ∷ xs) = ap suc (as_many f xs)

pub both_left : (a b : Bool) → (a && b) ≡ true → a ≡ true
both_left true b e = refl
both_left false b e = cc

pub both_right : (a b : Bool) → (a && b) ≡ true → b ≡ true
both_right true b e = e
both_right false b e = cc

-- whether an expression of this layer is formed
abbrev pub layer_formed : (Function → ℕ → Bool) → Expr-F Expr → Bool
layer_formed takes e = has_parts takes e.form (length e.parts) && all_so (map (formed takes) e.parts)

module _ (takes : Function → ℕ → Bool) where
  counted : (e : Expr-F Expr) → (has_parts takes e.form (length (map (formed takes) e.parts)) && all_so (map (formed takes) e.parts)) ≡ layer_formed takes e
  counted e = ap (λ (n : ℕ). has_parts takes e.form n && all_so (map (formed takes) e.parts)) (as_many (formed takes) e.parts)

  pub formed_out : (e : Expr) → formed takes e ≡ layer_formed takes (out-Expr e)
  unfolding formed
  formed_out e = fold_out-Expr Bool (λ (x : Expr-F Bool). has_parts takes x.form (length x.parts) && all_so x.parts) e ∙ counted (out-Expr e)

  pub formed_roll : (e : Expr-F Expr) → formed takes (roll-Expr e) ≡ layer_formed takes e
  unfolding formed
  formed_roll e = fold-roll-Expr Bool (λ (x : Expr-F Bool). has_parts takes x.form (length x.parts) && all_so x.parts) e ∙ counted e

  -- a formed expression has as many parts as its form asks for
  pub formed_count : (e : Expr) → IsFormed takes e → has_parts takes (out-Expr e).form (length (out-Expr e).parts) ≡ true
  formed_count e is =
      both_left (has_parts takes (out-Expr e).form (length (out-Expr e).parts)) (all_so (map (formed takes) (out-Expr e).parts)) (sym (formed_out e) ∙ is)

  -- and these are formed
  pub formed_parts : (e : Expr) → IsFormed takes e → AreFormed takes (out-Expr e).parts
  formed_parts e is =
      both_right (has_parts takes (out-Expr e).form (length (out-Expr e).parts)) (all_so (map (formed takes) (out-Expr e).parts)) (sym (formed_out e) ∙ is)

  -- the first of formed expressions
  pub formed_first : (e : Expr) (es : List Expr) → AreFormed takes (e ∷ es) → IsFormed takes e
  formed_first e es are = both_left (formed takes e) (all_so (map (formed takes) es)) are

  -- and the others
  pub formed_others : (e : Expr) (es : List Expr) → AreFormed takes (e ∷ es) → AreFormed takes es
  formed_others e es are = both_right (formed takes e) (all_so (map (formed takes) es)) are

-- no parts
pub no_parts : (es : List Expr) → (length es == 0) ≡ true → es ≡ []
no_parts [] e = refl
no_parts (a ∷ es) e =
    let is = eqb-true (length {A = Expr} (a ∷ es)) 0 e in
    absurd (omega (arith, is))

-- one part
pub one_part : (es : List Expr) → (length es == 1) ≡ true → (a : Expr) × (es ≡ a ∷ [])
one_part [] e =
    let is = eqb-true (length {A = Expr} []) 1 e in
    absurd (omega (arith, is))
one_part (a ∷ []) e = (a, refl)
one_part (a ∷ b ∷ es) e =
    let is = eqb-true (length {A = Expr} (a ∷ b ∷ es)) 1 e in
    absurd (omega (arith, is))

-- two parts
pub two_parts : (es : List Expr) → (length es == 2) ≡ true → (a b : Expr) × (es ≡ a ∷ b ∷ [])
two_parts [] e =
    let is = eqb-true (length {A = Expr} []) 2 e in
    absurd (omega (arith, is))
two_parts (a ∷ []) e =
    let is = eqb-true (length {A = Expr} (a ∷ [])) 2 e in
    absurd (omega (arith, is))
two_parts (a ∷ b ∷ []) e = (a, b, refl)
two_parts (a ∷ b ∷ c ∷ es) e =
    let is = eqb-true (length {A = Expr} (a ∷ b ∷ c ∷ es)) 2 e in
    absurd (omega (arith, is))

-- three parts
pub three_parts : (es : List Expr) → (length es == 3) ≡ true → (a b c : Expr) × (es ≡ a ∷ b ∷ c ∷ [])
three_parts [] e =
    let is = eqb-true (length {A = Expr} []) 3 e in
    absurd (omega (arith, is))
three_parts (a ∷ []) e =
    let is = eqb-true (length {A = Expr} (a ∷ [])) 3 e in
    absurd (omega (arith, is))
three_parts (a ∷ b ∷ []) e =
    let is = eqb-true (length {A = Expr} (a ∷ b ∷ [])) 3 e in
    absurd (omega (arith, is))
three_parts (a ∷ b ∷ c ∷ []) e = (a, b, c, refl)
three_parts (a ∷ b ∷ c ∷ d ∷ es) e =
    let is = eqb-true (length {A = Expr} (a ∷ b ∷ c ∷ d ∷ es)) 3 e in
    absurd (omega (arith, is))
