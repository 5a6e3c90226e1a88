use Rattle.std.proofs.Common.{◌≡◌, List, [], ◌∷◌, ◌++◌, Result, Ok, reverse, refl, ap, sym, ◌∙◌}
use Rattle.std.proofs.lemmas.List.{reverse-reverse}
use Rattle.sx_atoms.specs.declared.atoms.Atom.{Atom}
use Rattle.sx_atoms.specs.declared.error_codes.Code.{Code}
use Rattle.sx_fn_seq.specs.Parts.{head_of, tail_of}
use Rattle.sx_fn_seq.proofs.laws.parts.Goals as goal

one_answer : (x y : List Atom) → ◌≡◌ {A = Result (List Atom) Code} (Ok x) (Ok y) → x ≡ y
one_answer x y h = cc

head_and_tail : (x : List Atom) → head_of x ++ tail_of x ≡ x
head_and_tail [] = refl
head_and_tail (a ∷ rest) = refl

pub returns-clause-turned : goal.returns-clause-turned
returns-clause-turned c = λ x y h. ap Ok (ap reverse (sym (one_answer (reverse x) y h)) ∙ reverse-reverse x)

pub returns-clause-together : goal.returns-clause-together
returns-clause-together c = λ x head tail h g.
    ap (λ (ys : List Atom). ys ++ tail) (sym (one_answer (head_of x) head h))
    ∙ ap (λ (ys : List Atom). head_of x ++ ys) (sym (one_answer (tail_of x) tail g))
    ∙ head_and_tail x
