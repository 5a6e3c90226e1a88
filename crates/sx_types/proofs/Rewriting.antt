-- What settling leaves as it was, and what it makes of one part more.
use Rattle.std.proofs.Common.{◌≡◌, ℕ, ◌+◌, ◌<◌, ◌≤◌, Bool, true, false, List, [], ◌∷◌, ◌++◌, length, get_or, drop, map, Option, Result, Ok, Err, refl, ap, sym, ◌∙◌, subst, append_assoc}
use Rattle.std.specs.Prelude.{if◌then◌else◌}
use Rattle.std.proofs.lemmas.List.{drop_all}
use Rattle.sx_atoms.specs.Numbers.{◌>>=◌}
use Rattle.sx_atoms.specs.declared.error_codes.Code.{Code}
use Rattle.sx_kinds.specs.Settled.{TypingPlace, Settling, and_one, deep_after, finished, form_after, form_in, settled_expression, settled_parts, settling, settling_of, with_parts}
use Rattle.sx_kinds.specs.Types.{type_below, each, first_typing, focus, is_child_step, known_by, parts_of_typings, typing}
use Rattle.sx_kinds.specs.declared.expressions.Deep.{Deep}
use Rattle.sx_kinds.specs.declared.expressions.Deep.TheVariants as deeps
use Rattle.sx_kinds.specs.declared.expressions.Expr.{Expr}
use Rattle.sx_kinds.specs.declared.expressions.Expr.TheOpen.{Expr-F}
use Rattle.sx_kinds.specs.declared.expressions.Expr.TheViews.{out-Expr, roll-Expr}
use Rattle.sx_kinds.specs.declared.expressions.Expr.TheFolds.{fold-roll-Expr, fold_out-Expr, ind-Expr}
use Rattle.sx_kinds.specs.declared.expressions.ExprForm.{ExprForm}
use Rattle.sx_kinds.specs.declared.expressions.ExprForm.TheVariants as forms
use Rattle.sx_kinds.specs.declared.types.Parts.{Parts}
use Rattle.sx_kinds.specs.declared.types.Ty.{Ty}
use Rattle.sx_kinds.specs.declared.types.Typing.{Typing}
use Rattle.sx_types.specs.Settling.{known_after, known_from, next_part, together}
use Rattle.sx_types.proofs.Known.{front, typing_roll}

-- ---- focuses

focus_in : (form : ExprForm) (here : TypingPlace) (t : Typing) (context : Ty) (before : Option Typing) → focus (form_in form here t) context before ≡ focus form context before
focus_in (forms.Path per_item) here t context before = refl
focus_in (forms.Var x ty) here t context before = refl
focus_in (forms.Call f ty accumulator) here t context before = refl
focus_in _ here t context before = refl

pub focus_after : (form : ExprForm) (here : TypingPlace) (answer : Result Typing Code) (context : Ty) (before : Option Typing) →
    focus (form_after form here answer) context before ≡ focus form context before
focus_after form here (Err code) context before = refl
focus_after form here (Ok t) context before = focus_in form here t context before

below_read : (child : Bool) (outer : Ty) → type_below (if child then deeps.Descendant else deeps.Parents) outer ≡ type_below deeps.Written outer
below_read true outer = refl
below_read false outer = refl

pub below_in : (deep : Deep) (answer : Result Typing Code) (outer : Ty) → type_below (deep_after deep answer) outer ≡ type_below deep outer
below_in deep (Err code) outer = refl
below_in deeps.No (Ok t) outer = refl
below_in deeps.Written (Ok t) outer = below_read (is_child_step t.shape) outer
below_in deeps.Descendant (Ok t) outer = below_read (is_child_step t.shape) outer
below_in deeps.Parents (Ok t) outer = below_read (is_child_step t.shape) outer

-- two ways of going on that are one
goes_on : {A B : Type 0} (f g : A → Result B Code) → ((x : A) → f x ≡ g x) → (r : Result A Code) → (r >>= f) ≡ (r >>= g)
goes_on f g same (Ok x) = same x
goes_on f g same (Err code) = refl

pub each_after : (form : ExprForm) (here : TypingPlace) (answer : Result Typing Code) (context : Ty) (ts : List Typing) (parts : List Expr) →
    each (form_after form here answer) context ts (map typing parts) ≡ each form context ts (map typing parts)
each_after form here answer context ts [] = refl
each_after form here answer context ts (p ∷ ps) =
    ap (λ (c : Ty). typing p c >>= (λ (t : Typing). each (form_after form here answer) context (ts ++ t ∷ []) (map typing ps))) (focus_after form here answer context (first_typing ts)) ∙
    goes_on (λ (t : Typing). each (form_after form here answer) context (ts ++ t ∷ []) (map typing ps)) (λ (t : Typing). each form context (ts ++ t ∷ []) (map typing ps))
    (λ t. each_after form here answer context (ts ++ t ∷ []) ps) (typing p (focus form context (first_typing ts)))

-- ---- an expression whose parts are settled_expression

together_on : {B : Type 0} (f : Parts → Result B Code) (before : Result (List Typing) Code) → (together before >>= f) ≡ (before >>= (λ (ts : List Typing). f (parts_of_typings ts)))
together_on f (Ok ts) = refl
together_on f (Err code) = refl

-- what is known of an expression with these parts
pub known_with : (form : ExprForm) (x : Expr-F Expr) (context outer : Ty) (known : Result Parts Code) (before : Result (List Typing) Code) →
    known ≡ together before → each form context [] (map typing x.parts) ≡ before → context ≡ type_below x.deep outer → form ≡ x.form →
    known_from form x.deep context known ≡ typing (roll-Expr x) outer
known_with form x context outer known before k e c f =
    ap (λ (r : Result Parts Code). r >>= known_by form x.deep context) k ∙
    together_on (known_by form x.deep context) before ∙
    ap (λ (r : Result (List Typing) Code). r >>= (λ (ts : List Typing). known_by form x.deep context (parts_of_typings ts))) (sym e) ∙
    ap (λ (d : Ty). each form d [] (map typing x.parts) >>= (λ (ts : List Typing). known_by form x.deep d (parts_of_typings ts))) c ∙
    ap (λ (g : ExprForm). each g (type_below x.deep outer) [] (map typing x.parts) >>= (λ (ts : List Typing). known_by g x.deep (type_below x.deep outer) (parts_of_typings ts))) f ∙
    sym (typing_roll x outer)

module _ (x : Expr-F Expr) (here : TypingPlace) (context outer : Ty) (parts : List Expr) (known : Result Parts Code) (before : Result (List Typing) Code)
    (k : known ≡ together before) (e : each x.form context [] (map typing parts) ≡ before) (c : context ≡ type_below x.deep outer) where
  -- what is known before its own fields are settled_expression
  pub answer_is : known_from x.form x.deep context known ≡ typing (with_parts x parts) outer
  answer_is = known_with x.form (record { construct = x.construct; deep = x.deep; form = x.form; parts = parts }) context outer known before k e c refl

  -- and after that
  pub settled_is : (answer : Result Typing Code) →
      known_from (form_after x.form here answer) (deep_after x.deep answer) context known ≡ typing (finished x here parts answer) outer
  settled_is answer =
      known_with (form_after x.form here answer)
      (record { construct = x.construct; deep = deep_after x.deep answer; form = form_after x.form here answer; parts = parts })
      context outer known before k (each_after x.form here answer context [] parts ∙ e) (c ∙ sym (below_in x.deep answer outer)) refl

  -- both, for an expression made of these fields
  pub finished_is : (answer settled_expression : Result Typing Code) (deep : Deep) (form : ExprForm) →
      answer ≡ known_from x.form x.deep context known → deep ≡ deep_after x.deep answer → form ≡ form_after x.form here answer → settled_expression ≡ known_from form deep context known →
      (roll-Expr (record { construct = x.construct; deep = deep; form = form; parts = parts }) ≡ finished x here parts (typing (with_parts x parts) outer)) ×
      (settled_expression ≡ typing (roll-Expr (record { construct = x.construct; deep = deep; form = form; parts = parts })) outer)
  finished_is answer settled_expression deep form a d f s =
      let made : roll-Expr (record { construct = x.construct; deep = deep; form = form; parts = parts }) ≡ finished x here parts answer =
      ap (λ (n : Deep). roll-Expr (record { construct = x.construct; deep = n; form = form; parts = parts })) d ∙
      ap (λ (n : ExprForm). roll-Expr (record { construct = x.construct; deep = deep_after x.deep answer; form = n; parts = parts })) f in (
        made ∙ ap (finished x here parts) (a ∙ answer_is),
        s ∙ ap (λ (n : ExprForm). known_from n deep context known) f ∙
            ap (λ (n : Deep). known_from (form_after x.form here answer) n context known) d ∙
            settled_is answer ∙ ap (λ (n : Expr). typing n outer) (sym made),
      )

-- ---- one part more

-- going on twice
twice : {A B D : Type 0} (r : Result A Code) (f : A → Result B Code) (g : B → Result D Code) (h : A → Result D Code) → ((x : A) → h x ≡ (f x >>= g)) →
    (r >>= h) ≡ ((r >>= f) >>= g)
twice (Ok x) f g h same = same x
twice (Err code) f g h same = refl

each_more : (form : ExprForm) (context : Ty) (ts : List Typing) (parts : List Expr) (part : Expr) →
    each form context ts (map typing (parts ++ part ∷ [])) ≡ (each form context ts (map typing parts) >>= (λ (us : List Typing). and_one us (typing part (focus form context (first_typing us)))))
each_more form context ts [] part = refl
each_more form context ts (p ∷ ps) part =
    twice (typing p (focus form context (first_typing ts))) (λ (t : Typing). each form context (ts ++ t ∷ []) (map typing ps))
    (λ (us : List Typing). and_one us (typing part (focus form context (first_typing us)))) (λ (t : Typing). each form context (ts ++ t ∷ []) (map typing (ps ++ part ∷ [])))
    (λ t. each_more form context (ts ++ t ∷ []) ps part)

known_one_more : (form : ExprForm) (here : TypingPlace) (before : Result (List Typing) Code) (part next : Expr) → next ≡ next_part form here before part →
    (before >>= (λ (us : List Typing). and_one us (typing next (focus form here.context (first_typing us))))) ≡ known_after form here before part
known_one_more form here (Ok ts) part next e = ap (λ (p : Expr). and_one ts (typing p (focus form here.context (first_typing ts)))) e
known_one_more form here (Err code) part next e = refl

-- what is known of the parts and one more
pub known_more : (form : ExprForm) (here : TypingPlace) (before : Result (List Typing) Code) (parts : List Expr) (part next : Expr) →
    each form here.context [] (map typing parts) ≡ before → next ≡ next_part form here before part →
    each form here.context [] (map typing (parts ++ next ∷ [])) ≡ known_after form here before part
known_more form here before parts part next e is =
    each_more form here.context [] parts next ∙
    ap (λ (r : Result (List Typing) Code). r >>= (λ (us : List Typing). and_one us (typing next (focus form here.context (first_typing us))))) e ∙
    known_one_more form here before part next is

-- ---- an expression as it is

abbrev IsAsItIs : Expr → Type 0
IsAsItIs e = (settling_of e).as_it_is ≡ e

all_as_they_are : (ps : List ((e : Expr) × IsAsItIs e)) → map (λ (s : Settling). s.as_it_is) (map settling_of (map (λ p. p.0) ps)) ≡ map (λ p. p.0) ps
all_as_they_are [] = refl
all_as_they_are (p ∷ ps) =
    ap (λ (e : Expr). e ∷ map (λ (s : Settling). s.as_it_is) (map settling_of (map (λ p. p.0) ps))) p.1 ∙
    ap (λ (es : List Expr). p.0 ∷ es) (all_as_they_are ps)

rolled : (x : Expr-F Expr) → (settling_of (roll-Expr x)).as_it_is ≡ with_parts x (map (λ (s : Settling). s.as_it_is) (map settling_of x.parts))
unfolding settling_of
rolled x = ap (λ (s : Settling). s.as_it_is) (fold-roll-Expr Settling settling x)

pub as_it_is : (e : Expr) → IsAsItIs e
as_it_is = ind-Expr IsAsItIs (λ x y is.
    let same = subst (λ (z : Expr-F Expr). map (λ (s : Settling). s.as_it_is) (map settling_of z.parts) ≡ z.parts) is (all_as_they_are y.parts) in
    rolled x ∙ ap (with_parts x) same)

-- the parts from this one on
one_part : (form : ExprForm) (here : TypingPlace) (before : Result (List Typing) Code) (part : Expr) (rest : List Settling) →
    settled_parts form here before (settling_of part ∷ rest) ≡ next_part form here before part ∷ settled_parts form here (known_after form here before part) rest
one_part form here (Ok ts) part rest = refl
one_part form here (Err code) part rest = ap (λ (e : Expr). e ∷ settled_parts form here (Err code) rest) (as_it_is part)

pub parts_more : (form : ExprForm) (here : TypingPlace) (before : Result (List Typing) Code) (parts items : List Expr) (i : ℕ) (part next : Expr) →
    i < length items → part ≡ get_or items i part → next ≡ next_part form here before part →
    (parts ++ next ∷ []) ++ settled_parts form here (known_after form here before part) (map settling_of (drop (i + 1) items)) ≡
    parts ++ settled_parts form here before (map settling_of (drop i items))
parts_more form here before parts items i part next h is e =
    append_assoc parts (next ∷ []) (settled_parts form here (known_after form here before part) (map settling_of (drop (i + 1) items))) ∙
    ap (λ (n : Expr). parts ++ (n ∷ settled_parts form here (known_after form here before part) (map settling_of (drop (i + 1) items)))) e ∙
    ap (λ (all : List Expr). parts ++ all) (sym (one_part form here before part (map settling_of (drop (i + 1) items)))) ∙
    ap (λ (all : List Expr). parts ++ settled_parts form here before (map settling_of all)) (sym (front items i part h is))

none_more : (xs : List Expr) → xs ++ [] ≡ xs
none_more [] = refl
none_more (x ∷ xs) = ap (λ (ys : List Expr). x ∷ ys) (none_more xs)

pub parts_end : (form : ExprForm) (here : TypingPlace) (before : Result (List Typing) Code) (parts items : List Expr) (i : ℕ) → length items ≤ i →
    parts ≡ parts ++ settled_parts form here before (map settling_of (drop i items))
parts_end form here before parts items i h =
    sym (none_more parts) ∙ ap (λ (all : List Expr). parts ++ settled_parts form here before (map settling_of all)) (sym (drop_all i items h))

-- ---- the whole

settled_out : (e : Expr) (outer : TypingPlace) →
    settled_expression e outer ≡ (let here : TypingPlace = record outer { context = type_below (out-Expr e).deep outer.context } in
    let parts = settled_parts (out-Expr e).form here (Ok []) (map settling_of (out-Expr e).parts) in
    finished (out-Expr e) here parts (typing (with_parts (out-Expr e) parts) outer.context))
unfolding settling_of
settled_out e outer = ap (λ (s : Settling). s.in_place outer) (fold_out-Expr Settling settling e)

pub settled_by : (e : Expr) (outer here : TypingPlace) (parts : List Expr) → here ≡ record outer { context = type_below (out-Expr e).deep outer.context } →
    parts ≡ settled_parts (out-Expr e).form here (Ok []) (map settling_of (out-Expr e).parts) →
    settled_expression e outer ≡ finished (out-Expr e) here parts (typing (with_parts (out-Expr e) parts) outer.context)
settled_by e outer here parts h p =
    settled_out e outer ∙
    ap (λ (w : TypingPlace). let all = settled_parts (out-Expr e).form w (Ok []) (map settling_of (out-Expr e).parts) in
    finished (out-Expr e) w all (typing (with_parts (out-Expr e) all) outer.context)) (sym h) ∙
    ap (λ (all : List Expr). finished (out-Expr e) here all (typing (with_parts (out-Expr e) all) outer.context)) (sym p)
