use Rattle.std.proofs.Common.{◌≡◌, ℕ, ◌<◌, true, false, List, [], ◌∷◌, ◌++◌, append_assoc, reverse, length, length-append, ap, sym, ◌∙◌, arith}
use Rattle.std.proofs.lemmas.List.{reverse-append}
use Rattle.std.proofs.lemmas.Result.{IfOk-weaker}
use Rattle.sx_kinds.specs.declared.expressions.Expr.{Expr}
use Rattle.sx_kinds.specs.declared.expressions.Expr.TheViews.{out-Expr}
use Rattle.sx_parse.specs.Grammar.{Fits, Tree}
use Rattle.sx_parse.specs.Says as spec
use Rattle.sx_parse.specs.Says.{Meaning}
use Rattle.sx_parse.specs.Unions.{is_union, form_of}
use Rattle.sx_parse.proofs.Unions.{no_union, union_front, union_parts}
use Rattle.sx_parse.proofs.patterns.alternatives.Goals as goal

-- what the invariant says of a front
abbrev AreBehind : Expr → List Expr → List Expr → Meaning → Type 0
AreBehind front behind all m = (es : List Expr) → ((k : ℕ) (u : Tree) → Fits true k u → front ≡ spec.says m u → es ≡ spec.alternatives m u) → es ++ reverse behind ≡ all

-- a front that is a union has two parts
fewer : {X : Type 0} (m : Meaning) (front : Expr) (behind all : List Expr) → AreBehind front behind all m →
    is_union (form_of front) ≡ true → length (out-Expr front).parts < 2 → X
fewer m front behind all are union few =
    let any : (es : List Expr) → es ++ reverse behind ≡ all =
    λ es. are es (λ k u f q. absurd (omega (arith, union_parts m k u front f q union, few))) in
    absurd (omega (arith, ap length (any [] ∙ sym (any (front ∷ [])))))

pub returns-in_default : goal.returns-in_default
returns-in_default c = λ m n t f q.
    let u : is_union (form_of c.loop-front.front) ≡ true = cc (c.is_a_union.ensures, c.loop-front-test.true) in
    fewer m c.loop-front.front c.loop-front.behind (spec.alternatives m t) (c.loop-front.invariant m n t f q) u
    (omega (arith, ap length (sym c.parts_of-parts.ensures ∙ c.in_default.ensures.0)))

pub returns-in_default-pop : goal.returns-in_default-pop
returns-in_default-pop c = λ m n t f q.
    let u : is_union (form_of c.loop-front.front) ≡ true = cc (c.is_a_union.ensures, c.loop-front-test.true) in
    fewer m c.loop-front.front c.loop-front.behind (spec.alternatives m t) (c.loop-front.invariant m n t f q) u
    (
    omega (
      arith,
      ap length (sym c.parts_of-parts.ensures ∙ c.in-Some.ensures),
      ap length c.in_default-pop.ensures.0,
      length-append c.pop.new.self (c.in-Some.last ∷ []),
    )
    )

pub loop-front-preserved : goal.loop-front-preserved
loop-front-preserved c = λ m n t f q es known.
    let u : is_union (form_of c.loop-front.front) ≡ true = cc (c.is_a_union.ensures, c.loop-front-test.true) in
    let parts = sym c.parts_of-parts.ensures ∙ c.in-Some.ensures ∙ ap (λ (xs : List Expr). xs ++ c.in-Some.last ∷ []) c.in-Some-pop.ensures in
    ap (λ (xs : List Expr). es ++ reverse xs) c.in_ok-push.ensures.ok
    ∙ ap (λ (xs : List Expr). es ++ xs) (reverse-append c.loop-front.behind (c.in-Some.last ∷ []))
    ∙ sym (append_assoc es (c.in-Some.last ∷ []) (reverse c.loop-front.behind))
    ∙ c.loop-front.invariant m n t f q (es ++ c.in-Some.last ∷ []) (λ k v g p. union_front m k v c.loop-front.front c.in-Some-pop.first c.in-Some.last c.pop-in-loop-front.new.self es g p u parts known)

pub returns : goal.returns
returns c =
    let u : is_union (form_of c.loop-front.front) ≡ false = cc (c.is_a_union.ensures, c.loop-front-test.false) in
    IfOk-weaker c.reversed.result (λ es. es ≡ reverse c.push-2.new.self)
    (λ es. (m : Meaning) (n : ℕ) (t : Tree) → Fits true n t → c.args.expr ≡ spec.says m t → es ≡ spec.alternatives m t)
    (
    λ es e m n t f q.
    e
    ∙ ap (λ (xs : List Expr). reverse xs) c.in_ok-push-2.ensures.ok
    ∙ reverse-append c.loop-front.behind (c.loop-front.front ∷ [])
    ∙ c.loop-front.invariant m n t f q (c.loop-front.front ∷ []) (λ k v g p. no_union m v c.loop-front.front p u)
    )
    c.reversed.ensures
