-- Each token of a derivation has one role.
use Rattle.std.proofs.Common.{◌≡◌, ℕ, suc, Bool, true, false, List, ◌∷◌, ◌++◌, length, refl, ap, sym, ◌∙◌, arith}
use Rattle.std.proofs.lemmas.List.{length-append}
use Rattle.sx_parse.specs.declared.lexemes.Lexeme.{Lexeme}
use Rattle.sx_parse.specs.declared.lexemes.StepPrefix.{StepPrefix}
use Rattle.sx_parse.specs.declared.lexemes.StepPrefix.TheVariants as prefix
use Rattle.sx_parse.specs.declared.lexemes.Test.{Test}
use Rattle.sx_parse.specs.declared.lexemes.Test.TheVariants as test
use Rattle.sx_parse.specs.declared.roles.Role.{Role}
use Rattle.sx_parse.specs.Grammar.{Tree, literal, dot, parent, root, variable, step, empty, parens, call, called, filter, comma, prefixed, binary, cast, choice, bind, Bindings, first, also, tokens, binding_tokens, prefix_tokens, test_tokens, question_tokens}
use Rattle.sx_parse.specs.Roles.{roles, binding_roles, bound_depth, prefix_roles, test_roles, question_roles}

joined : (rs ss : List Role) (ls ms : List Lexeme) → length rs ≡ length ls → length ss ≡ length ms → length (rs ++ ss) ≡ length (ls ++ ms)
joined rs ss ls ms e f = length-append rs ss ∙ omega (arith, e, f) ∙ sym (length-append ls ms)

of_prefix : (p : StepPrefix) → length (prefix_roles p) ≡ length (prefix_tokens p)
of_prefix prefix.Plain = refl
of_prefix prefix.At = refl
of_prefix (prefix.Axis w p) = refl

of_test : (n : ℕ) (t : Test) → length (test_roles n t) ≡ length (test_tokens t)
of_test n (test.Named w p) = refl
of_test n test.Any = refl
of_test n (test.Wild p) = refl
of_test n (test.Kind k p) = refl
of_test n (test.KindOf k p w q) = refl

of_question : (b : Bool) → length (question_roles b) ≡ length (question_tokens b)
of_question true = refl
of_question false = refl

more : (r : Role) (l : Lexeme) (rs : List Role) (ls : List Lexeme) → length rs ≡ length ls → length (r ∷ rs) ≡ length (l ∷ ls)
more r l rs ls e = ap suc e

mutual
  pub parallel : (t : Tree) (n : ℕ) → length (roles n t) ≡ length (tokens t)
  parallel (literal p) n = refl
  parallel dot n = refl
  parallel parent n = refl
  parallel root n = refl
  parallel (variable w p) n = refl
  parallel (step pre t) n = joined _ _ _ _ (of_prefix pre) (of_test n t)
  parallel empty n = refl
  parallel (parens e) n = ap suc (joined _ _ _ _ (parallel e (suc n)) refl)
  parallel (call w p) n = refl
  parallel (called w p e) n = ap (λ (k : ℕ). suc (suc k)) (joined _ _ _ _ (parallel e (suc n)) refl)
  parallel (filter b e) n = joined _ _ _ _ (joined _ _ _ _ (parallel b n) (ap suc (parallel e (suc n)))) refl
  parallel (comma a b) n = joined _ _ _ _ (parallel a n) (ap suc (parallel b n))
  parallel (prefixed o e) n = ap suc (parallel e n)
  parallel (binary a l o b) n = joined _ _ _ _ (parallel a n) (ap suc (parallel b n))
  parallel (cast e k p q w r optional) n = joined _ _ _ _ (parallel e n) (ap (λ (k : ℕ). suc (suc (suc k))) (of_question optional))
  parallel (choice p c q t r e) n =
      ap (λ (k : ℕ). suc (suc k))
      (joined _ _ _ _ (joined _ _ _ _ (parallel c (suc (suc n))) (ap (λ (k : ℕ). suc (suc k)) (parallel t (suc n)))) (ap suc (parallel e (suc n))))
  parallel (bind bs l e) n = joined _ _ _ _ (parallel_bindings bs n) (ap suc (parallel e (bound_depth n bs)))

  parallel_bindings : (bs : Bindings) (n : ℕ) → length (binding_roles n bs) ≡ length (binding_tokens bs)
  parallel_bindings (first k p w r l a) n = ap (λ (k : ℕ). suc (suc (suc (suc k)))) (parallel a (suc n))
  parallel_bindings (also bs w r l a) n =
      joined _ _ _ _ (parallel_bindings bs n) (ap (λ (k : ℕ). suc (suc (suc (suc k)))) (parallel a (suc (bound_depth n bs))))
