use Rattle.std.proofs.Common.{◌∙◌, eqb, ap, sym}
use Rattle.std.specs.List.{list_any}
use Rattle.std.specs.Option.{unwrap_or}
use Rattle.sx_parse.specs.Lexemes.{words_by_text, found}
use Rattle.sx_parse.specs.declared.lexemes.Word.TheVariants as word
use Rattle.sx_parse.proofs.Tables.{found_or, word_prefixed, word_plain}
use Rattle.sx_parse.proofs.words.word_of.Goals as goal

pub returns-then-contains : goal.returns-then-contains
returns-then-contains c =
    word_prefixed c.args.text.now (sym (c.contains.ensures.value ∙ ap (list_any (λ y. eqb y 58)) c.as_bytes-bytes.ensures.value) ∙ c.if-contains.true)

pub returns-else-contains : goal.returns-else-contains
returns-else-contains c =
    word_plain c.args.text.now c.unwrap_or.result
    (sym (c.contains.ensures.value ∙ ap (list_any (λ y. eqb y 58)) c.as_bytes-bytes.ensures.value) ∙ c.if-contains.false)
    (c.unwrap_or.ensures ∙ ap (λ o. unwrap_or o word.Other) c.found.ensures ∙ found_or words_by_text c.as_bytes-bytes.result.now word.Other ∙ ap (λ text. found words_by_text text word.Other) c.as_bytes-bytes.ensures.value)
