use Rattle.std.proofs.Common.{ℕ, List, subst, arith}
use Rattle.sx_lex.specs.Fronts.{IsLongestFront}
use Rattle.sx_lex.specs.Tokens.{is_literal}
use Rattle.sx_lex.proofs.Quotes.{literal_none, literal_some}
use Rattle.sx_lex.proofs.literals.literal.Goals as goal

pub returns-in-0 : goal.returns-in-0
returns-in-0 c =
    let s = c.args.text.now in
    let front : IsLongestFront is_literal s c.literal_size.result = subst (λ (x : List ℕ). IsLongestFront is_literal x c.literal_size.result) c.as_bytes.ensures.value c.literal_size.ensures in
    literal_none s c.requires (subst (λ (n : ℕ). IsLongestFront is_literal s n) (let e = c.in-0.is in omega arith) front)

pub returns-in_default : goal.returns-in_default
returns-in_default c =
    let s = c.args.text.now in
    let front : IsLongestFront is_literal s c.literal_size.result = subst (λ (x : List ℕ). IsLongestFront is_literal x c.literal_size.result) c.as_bytes.ensures.value c.literal_size.ensures in
    literal_some s c.literal_size.result c.utf8.text c.requires (let other = c.in_default in omega arith) front
