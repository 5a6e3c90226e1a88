use Rattle.std.proofs.Common.{◌≡◌, ◌∙◌, List, length, ap, sym, subst, arith}
use Rattle.sx_lex.specs.declared.kinds.Token.{Token}
use Rattle.sx_parse.specs.Lexemes.{lexemes_of}
use Rattle.sx_parse.specs.Lexing.{AreParts}
use Rattle.sx_parse.proofs.Parts.{parts_of_read, few_of_read}
use Rattle.sx_parse.proofs.lexing.lex.Goals as goal

pub lexemes-requires-clause-few : goal.lexemes-requires-clause-few
lexemes-requires-clause-few c =
    let few = few_of_read c.args.text.now c.in_ok-tokens.tokens c.in_ok-tokens.stop c.utf8.text c.in_ok-tokens.ensures in
    let same : length c.as_slice.result.now ≡ length c.in_ok-tokens.tokens = ap (λ (ts : List Token). length ts) c.as_slice.ensures in
    omega arith

pub lexemes-requires-clause-parts : goal.lexemes-requires-clause-parts
lexemes-requires-clause-parts c =
    subst (λ (ts : List Token). AreParts c.args.text.now ts) (sym c.as_slice.ensures)
    (parts_of_read c.args.text.now c.in_ok-tokens.tokens c.in_ok-tokens.stop c.utf8.text c.in_ok-tokens.ensures)

pub returns : goal.returns
returns c = record {
  read = c.in_ok-tokens.ensures;
  parts = parts_of_read c.args.text.now c.in_ok-tokens.tokens c.in_ok-tokens.stop c.utf8.text c.in_ok-tokens.ensures;
  few = few_of_read c.args.text.now c.in_ok-tokens.tokens c.in_ok-tokens.stop c.utf8.text c.in_ok-tokens.ensures;
  lexemes = c.in_ok-lexemes.ensures ∙ ap (λ (ts : List Token). lexemes_of c.args.text.now ts) c.as_slice.ensures;
}
