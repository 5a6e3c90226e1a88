use Rattle.std.proofs.Common.{◌∙◌, ap}
use Rattle.std.specs.Option.{unwrap_or}
use Rattle.sx_parse.specs.Lexemes.{marks_by_text, found}
use Rattle.sx_parse.specs.declared.lexemes.Mark.TheVariants as mark
use Rattle.sx_parse.proofs.Tables.{found_or}
use Rattle.sx_parse.proofs.words.mark_of.Goals as goal

pub returns : goal.returns
returns c =
    c.unwrap_or.ensures
    ∙ ap (λ o. unwrap_or o mark.Question) c.found.ensures
    ∙ found_or marks_by_text c.as_bytes.result.now mark.Question
    ∙ ap (λ text. found marks_by_text text mark.Question) c.as_bytes.ensures.value
