use Rattle.sx_parse.proofs.Parts.{part_at, lexemes_more}
use Rattle.sx_parse.proofs.lexing.lexemes.Goals as goal

pub token_text-spelled-requires : goal.token_text-spelled-requires
token_text-spelled-requires c = part_at c.args.text.now c.args.tokens.now c.loop-place.place _ c.requires.parts c.loop-place-test.true

pub loop-place-preserved : goal.loop-place-preserved
loop-place-preserved c =
    lexemes_more c.loop-place.lexemes c.push.new.self _ c.args.text.now c.token_text-spelled.result.now c.args.tokens.now c.loop-place.place _ c.lexeme.result
    c.loop-place-test.true c.loop-place.invariant c.token_text-spelled.ensures c.lexeme.ensures c.in_ok-push.ensures.ok
