use Rattle.std.proofs.Common.{◌∙◌, ℕ, ◌∷◌, [], ap, sym, arith}
use Rattle.std.proofs.lemmas.Bool.{ne_eqb}
use Rattle.sx_lex.specs.Tokens.{is_mark}
use Rattle.sx_lex.proofs.Table.{equals_table, doubled_table, apart}
use Rattle.sx_lex.proofs.marks.is_double.Goals as goal

pub returns-then-second-eq61 : goal.returns-then-second-eq61
returns-then-second-eq61 c =
    c.contains.ensures.value ∙ equals_table c.args.first (omega arith) ∙ ap (λ (b : ℕ). is_mark (c.args.first ∷ b ∷ [])) (let e = c.if-second-eq61.true in omega arith)

pub returns-then-second-first : goal.returns-then-second-first
returns-then-second-first c =
    c.contains-then-second-first.ensures.value ∙ doubled_table c.args.first (omega arith) ∙ ap (λ (b : ℕ). is_mark (c.args.first ∷ b ∷ [])) (let e = c.if-second-first.true in omega arith)

pub returns-else-second-first : goal.returns-else-second-first
returns-else-second-first c =
    let equals = ne_eqb c.args.second 61 (λ e. omega arith) in
    let same = ne_eqb c.args.second c.args.first (λ e. omega arith) in
    same ∙ sym (apart c.args.first c.args.second equals same)
