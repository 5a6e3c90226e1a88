-- A text has fewer constructs than twice its bytes.
use Rattle.std.proofs.Common.{◌≡◌, ℕ, suc, ◌*◌, ◌≤◌, Bool, true, List, length, map, Result, Ok, Err, OnOk, ap, ◌∙◌, arith}
use Rattle.sx_kinds.specs.declared.expressions.Expr.{Expr}
use Rattle.sx_lex.specs.declared.kinds.Token.{Token}
use Rattle.sx_names.specs.Scope.{ScopeBindings}
use Rattle.sx_parse.specs.declared.lexemes.Lexeme.{Lexeme}
use Rattle.sx_parse.specs.declared.nodes.Node.{Node}
use Rattle.sx_parse.specs.declared.roles.Role.{Role}
use Rattle.sx_parse.specs.Grammar.{Tree, Fits, tokens}
use Rattle.sx_parse.specs.Numbered.{construct_count, counts, numbers_in}
use Rattle.sx_parse.specs.Says.{Meaning, says, alternatives}
use Rattle.sx_parse.specs.Understanding.{IsUnderstood}
use Rattle.sx_parse.proofs.Counted.{count_by_tokens, pattern_count}
use Rattle.sx_parse.proofs.Refusals.{as_many}

few_tokens : (p : Bool) (scope : ScopeBindings) (text : List ℕ) (ts : List Token) (ns : List Node) (rs : List Role) (u : IsUnderstood p scope text ts ns rs) →
    length (tokens u.tree) ≤ length text
few_tokens p scope text ts ns rs u =
    let same : length (tokens u.tree) ≡ length ts = ap (λ (ls : List Lexeme). length ls) u.is.derives.tokens_are ∙ as_many text ts 0 in
    let few = u.few in
    omega (arith, same, few)

pub few_constructs : (p : Bool) (scope : ScopeBindings) (text : List ℕ) (ts : List Token) (ns : List Node) (rs : List Role) (u : IsUnderstood p scope text ts ns rs)
    (m : Meaning) (e : Expr) → e ≡ says m u.tree → suc (construct_count e) ≤ 2 * length text
few_constructs p scope text ts ns rs u m e is =
    let few = few_tokens p scope text ts ns rs u in
    let counted = count_by_tokens m u.tree in
    let same : construct_count e ≡ construct_count (says m u.tree) = ap construct_count is in
    omega (arith, few, counted, same)

pub few_in_pattern : (p : Bool) (scope : ScopeBindings) (text : List ℕ) (ts : List Token) (ns : List Node) (rs : List Role) (u : IsUnderstood p scope text ts ns rs)
    (m : Meaning) (es : List Expr) → es ≡ alternatives m u.tree → suc (counts true (map numbers_in es)) ≤ 2 * length text
few_in_pattern p scope text ts ns rs u m es is =
    let few = few_tokens p scope text ts ns rs u in
    let counted = pattern_count m u.tree in
    let same : counts true (map numbers_in es) ≡ counts true (map numbers_in (alternatives m u.tree)) = ap (λ (xs : List Expr). counts true (map numbers_in xs)) is in
    omega (arith, few, counted, same)

-- what follows from what holds on success
pub on_ok : {A B P Q : Type 0} (r : Result A B) → (P → Q) → OnOk r P → OnOk r Q
on_ok (Ok a) f h = f h
on_ok (Err e) f h = tt

pub few_alternatives : (scope : ScopeBindings) (text : List ℕ) (ts : List Token) (ns : List Node) (rs : List Role) (u : IsUnderstood true scope text ts ns rs)
    (m : Meaning) (e : Expr) (es : List Expr) → e ≡ says m u.tree →
    ((m : Meaning) (n : ℕ) (t : Tree) → Fits true n t → e ≡ says m t → es ≡ alternatives m t) → suc (counts true (map numbers_in es)) ≤ 2 * length text
few_alternatives scope text ts ns rs u m e es is are = few_in_pattern true scope text ts ns rs u m es (are m 0 u.tree u.is.derives.fits is)
