-- What lies type_below an expression along its first parts, in one focus.
use Rattle.std.proofs.Common.{◌≡◌, ℕ, zero, suc, ◌+◌, ◌-◌, ◌<◌, ◌≤◌, true, List, [], ◌∷◌, ◌++◌, length, get_or, drop, map, max, Option, None, Some, Result, Ok, Err, ap, refl, sym, ◌∙◌, subst, arith}
use Rattle.std.proofs.lemmas.List.{get_or-drop, length-drop}
use Rattle.sx_atoms.specs.Numbers.{◌>>=◌}
use Rattle.sx_atoms.specs.declared.error_codes.Code.{Code}
use Rattle.sx_kinds.specs.Types.{type_below, each, focus, known_by, parts_of_typings, typing}
use Rattle.sx_kinds.specs.Ways.{front, in_focus, levels, next_below}
use Rattle.sx_kinds.specs.declared.expressions.Deep.{Deep}
use Rattle.sx_kinds.specs.declared.expressions.Deep.TheVariants as deeps
use Rattle.sx_kinds.specs.declared.expressions.Expr.{Expr}
use Rattle.sx_kinds.specs.declared.expressions.Expr.TheViews.{out-Expr, size-Expr, size_is-Expr}
use Rattle.sx_kinds.specs.declared.expressions.ExprForm.{ExprForm}
use Rattle.sx_kinds.specs.declared.expressions.ExprForm.TheVariants as forms
use Rattle.sx_kinds.specs.declared.types.Ty.{Ty}
use Rattle.sx_kinds.specs.declared.types.Typing.{Typing}
use Rattle.sx_kinds.specs.declared.walks.Way.TheVariants.{OneFocus}
use Rattle.sx_kinds.proofs.Ways.{down_one, front_on, goes_down, levels_front}
use Rattle.sx_types.specs.Firsts.{IsKnownTyping, known_front}
use Rattle.sx_types.proofs.Known.{typing_out}
use denote.Param.Weighed.{at_most, most}

-- ---- contexts

-- the first part stands in the context of the whole
focus_same : (form : ExprForm) (deep : Deep) (outer : Ty) → in_focus form deep ≡ true → focus form (type_below deep outer) None ≡ outer
focus_same (forms.Step axis _) deep outer e = cc
focus_same _ deeps.No outer e = refl
focus_same _ deeps.Written outer e = cc
focus_same _ deeps.Descendant outer e = cc
focus_same _ deeps.Parents outer e = cc

pub context_same : (e : Expr) (outer : Ty) → 0 < levels OneFocus e → focus (out-Expr e).form (type_below (out-Expr e).deep outer) None ≡ outer
context_same e outer h = focus_same (out-Expr e).form (out-Expr e).deep outer (goes_down OneFocus e h)

-- ---- sizes

all_smaller : (e : Expr) → most size-Expr (out-Expr e).parts < size-Expr e
all_smaller e =
    let h : size-Expr e ≡ max 0 (max 0 (max 0 (max (most size-Expr (out-Expr e).parts) 0))) + 1 = size_is-Expr e in
    omega (arith, h)

-- a part that is not among the first k
pub part_smaller : (e : Expr) (behind items : List Expr) (k i : ℕ) (part : Expr) → behind ≡ drop k items → items ≡ (out-Expr e).parts →
    i < length behind → part ≡ get_or behind i part → size-Expr part < size-Expr e
part_smaller e behind items k i part cut all h is =
    let there : part ≡ get_or (out-Expr e).parts (k + i) part =
    is ∙ ap (λ (xs : List Expr). get_or xs i part) (cut ∙ ap (drop k) all) ∙ get_or-drop k (out-Expr e).parts i part in
    let long : length behind ≡ length (out-Expr e).parts - k = ap length (cut ∙ ap (drop k) all) ∙ length-drop k (out-Expr e).parts in
    let size = ap size-Expr there in
    let within = at_most size-Expr (out-Expr e).parts (k + i) part (omega (arith, long)) in
    omega (arith, size, within, all_smaller e)

-- ---- levels

-- what is type_below has the levels that are left
pub levels_below : (n : ℕ) (e middle : Expr) → n ≤ levels OneFocus e → middle ≡ front OneFocus n e → levels OneFocus middle + n ≡ levels OneFocus e
levels_below n e middle h is = ap (λ (x : Expr). levels OneFocus x + n) is ∙ levels_front OneFocus n e h

-- what lies further type_below lies type_below that
pub front_rest : (n m : ℕ) (e middle : Expr) → n ≤ m → middle ≡ front OneFocus n e → front OneFocus (m - n) middle ≡ front OneFocus m e
front_rest n m e middle h is = ap (front OneFocus (m - n)) is ∙ front_on OneFocus n (m - n) m e (omega arith)

-- ---- what is known

code_one : (e : Expr) (outer : Ty) (code : Code) → 0 < levels OneFocus e → typing (next_below OneFocus e) outer ≡ Err code → typing e outer ≡ Err code
code_one e outer code h k =
    let form = (out-Expr e).form in
    let context = type_below (out-Expr e).deep outer in
    let one = (down_one OneFocus e h).0 in
    let first = next_below OneFocus e in
    let rest = λ (t : Typing). each form context ([] ++ t ∷ []) (map typing one.0) in
    let whole = λ (us : List Typing). known_by form (out-Expr e).deep context (parts_of_typings us) in
    typing_out e outer ∙
    ap (λ (ps : List Expr). each form context [] (map typing ps) >>= whole) one.1 ∙
    ap (λ (w : Ty). (typing first w >>= rest) >>= whole) (context_same e outer h) ∙
    ap (λ (r : Result Typing Code). (r >>= rest) >>= whole) k

code_all : (n : ℕ) (e : Expr) (outer : Ty) (code : Code) → n ≤ levels OneFocus e → typing (front OneFocus n e) outer ≡ Err code → typing e outer ≡ Err code
code_all zero e outer code h k = k
code_all (suc n) e outer code h k =
    let one = (down_one OneFocus e (omega (arith, h))).1 in
    code_one e outer code (omega (arith, h)) (code_all n (next_below OneFocus e) outer code (omega (arith, h, one)) k)

-- a code type_below is the code of the whole
pub code_up : (n : ℕ) (e middle : Expr) (outer : Ty) (code : Code) → n ≤ levels OneFocus e → middle ≡ front OneFocus n e →
    typing middle outer ≡ Err code → typing e outer ≡ Err code
code_up n e middle outer code h is k = code_all n e outer code h (ap (λ (x : Expr). typing x outer) (sym is) ∙ k)

-- what is known of one is known of the other, which is the same
pub known_at : (e middle : Expr) (outer : Ty) (answer : Result Typing Code) → middle ≡ e → typing middle outer ≡ answer → typing e outer ≡ answer
known_at e middle outer answer is k = ap (λ (x : Expr). typing x outer) (sym is) ∙ k

-- ---- the first part alone

pub front_is : (first : Option Typing) (t : Typing) (parts : List Expr) → first ≡ Some t → 1 ≤ length parts → known_front first parts ≡ t ∷ []
front_is None t parts e h = cc
front_is (Some s) t [] e h = absurd (omega arith)
front_is (Some s) t (p ∷ ps) e h = cc

begun_by : (form : ExprForm) (context : Ty) (t : Typing) (p : Expr) (ps : List Expr) → typing p (focus form context None) ≡ Ok t →
    each form context (t ∷ []) (map typing ps) ≡ each form context [] (map typing (p ∷ ps))
begun_by form context t p ps h =
    sym (ap (λ (r : Result Typing Code). r >>= (λ (u : Typing). each form context ([] ++ u ∷ []) (map typing ps))) h)

-- the parts behind those of which the first may be known
pub begun : (e : Expr) (outer : Ty) (first : Option Typing) → IsKnownTyping e outer first →
    each (out-Expr e).form (type_below (out-Expr e).deep outer) (known_front first (out-Expr e).parts)
    (map typing (drop (length (known_front first (out-Expr e).parts)) (out-Expr e).parts)) ≡
    each (out-Expr e).form (type_below (out-Expr e).deep outer) [] (map typing (out-Expr e).parts)
begun e outer None h = refl
begun e outer (Some t) h =
    let form = (out-Expr e).form in
    let context = type_below (out-Expr e).deep outer in
    let one = (down_one OneFocus e h.0).0 in
    let here = ap (typing (next_below OneFocus e)) (context_same e outer h.0) ∙ h.1 in
    subst (λ (qs : List Expr). each form context (known_front (Some t) qs) (map typing (drop (length (known_front (Some t) qs)) qs)) ≡
    each form context [] (map typing qs)) (sym one.1) (begun_by form context t (next_below OneFocus e) one.0 here)
