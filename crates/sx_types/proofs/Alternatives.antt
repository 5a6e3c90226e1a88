-- What settling makes of the alternatives of a pattern, one behind another.
use Rattle.std.proofs.Common.{◌≡◌, ℕ, ◌+◌, ◌<◌, ◌≤◌, List, [], ◌∷◌, ◌++◌, length, get_or, drop, Result, Ok, Err, refl, ap, sym, ◌∙◌, append_assoc}
use Rattle.std.proofs.lemmas.List.{drop_all}
use Rattle.sx_atoms.specs.declared.error_codes.Code.{Code}
use Rattle.sx_kinds.specs.Patterns.{IsSettledPattern, has_type, have_types, settled_each, settled_pattern}
use Rattle.sx_kinds.specs.Settled.{TypingPlace, typing_place, settled_expression}
use Rattle.sx_kinds.specs.Types.{typing}
use Rattle.sx_kinds.specs.declared.expressions.Expr.{Expr}
use Rattle.sx_kinds.specs.declared.expressions.Pattern.{Pattern}
use Rattle.sx_kinds.specs.declared.types.Ty.{Ty}
use Rattle.sx_kinds.specs.declared.types.VarType.{VarType}
use Rattle.sx_types.specs.Settling.{next_alternative}
use Rattle.sx_types.proofs.Again.{stays_settled}
use Rattle.sx_types.proofs.Known.{front}

-- ---- again

each_again : (here : TypingPlace) (known : Result (Unit {0}) Code) (es : List Expr) → settled_each here known (settled_each here known es) ≡ settled_each here known es
each_again here (Err code) es = refl
each_again here (Ok all) [] = refl
each_again here (Ok all) (e ∷ es) =
    let made = settled_expression e here in
    let rest = settled_each here (has_type (typing made here.context)) es in
    ap (λ (x : Expr). x ∷ settled_each here (has_type (typing x here.context)) rest) (stays_settled e here) ∙
    ap (λ (xs : List Expr). made ∷ xs) (each_again here (has_type (typing made here.context)) es)

pub pattern_stays : (p : Pattern) (here : TypingPlace) → IsSettledPattern (settled_pattern p here) here
pattern_stays p here = ap (λ (es : List Expr). record p { alternatives = es }) (each_again here (Ok tt) p.alternatives)

pub pattern_stays_at : (old new : Pattern) (context group : Ty) (vars scope : List VarType) → scope ≡ vars → new ≡ settled_pattern old (typing_place context group scope) →
    IsSettledPattern new (typing_place context group vars)
pattern_stays_at old new context group vars scope same is =
    let here = typing_place context group vars in
    let made = is ∙ ap (λ (vs : List VarType). settled_pattern old (typing_place context group vs)) same in
    ap (λ (p : Pattern). settled_pattern p here) made ∙ pattern_stays old here ∙ sym made

-- ---- one more

pub types_more : (context : Ty) (known : Result (Unit {0}) Code) (es : List Expr) (e : Expr) →
    have_types context known (es ++ e ∷ []) ≡ have_types context (have_types context known es) (e ∷ [])
types_more context (Err code) es e = refl
types_more context (Ok all) [] e = refl
types_more context (Ok all) (x ∷ xs) e = types_more context (has_type (typing x context)) xs e

ends : (context : Ty) (r : Result (Unit {0}) Code) → r ≡ have_types context r []
ends context (Ok all) = refl
ends context (Err code) = refl

each_one : (here : TypingPlace) (known : Result (Unit {0}) Code) (e : Expr) (es : List Expr) →
    settled_each here known (e ∷ es) ≡ next_alternative here known e ∷ settled_each here (have_types here.context known (next_alternative here known e ∷ [])) es
each_one here (Err code) e es = refl
each_one here (Ok all) e es =
    ap (λ (r : Result (Unit {0}) Code). settled_expression e here ∷ settled_each here r es) (ends here.context (has_type (typing (settled_expression e here) here.context)))

pub each_more : (here : TypingPlace) (known : Result (Unit {0}) Code) (done items : List Expr) (i : ℕ) (e : Expr) → i < length items → e ≡ get_or items i e →
    (done ++ next_alternative here known e ∷ []) ++ settled_each here (have_types here.context known (next_alternative here known e ∷ [])) (drop (i + 1) items) ≡
    done ++ settled_each here known (drop i items)
each_more here known done items i e h is =
    let made = next_alternative here known e in
    append_assoc done (made ∷ []) (settled_each here (have_types here.context known (made ∷ [])) (drop (i + 1) items)) ∙
    ap (λ (xs : List Expr). done ++ xs) (sym (each_one here known e (drop (i + 1) items))) ∙
    ap (λ (xs : List Expr). done ++ settled_each here known xs) (sym (front items i e h is))

each_none : (here : TypingPlace) (known : Result (Unit {0}) Code) → settled_each here known [] ≡ []
each_none here (Err code) = refl
each_none here (Ok all) = refl

none_more : (xs : List Expr) → xs ++ [] ≡ xs
none_more [] = refl
none_more (x ∷ xs) = ap (λ (ys : List Expr). x ∷ ys) (none_more xs)

pub each_end : (here : TypingPlace) (known : Result (Unit {0}) Code) (done items : List Expr) (i : ℕ) → length items ≤ i → done ≡ done ++ settled_each here known (drop i items)
each_end here known done items i h =
    sym (none_more done) ∙
    ap (λ (xs : List Expr). done ++ xs) (sym (each_none here known)) ∙
    ap (λ (xs : List Expr). done ++ settled_each here known xs) (sym (drop_all i items h))
