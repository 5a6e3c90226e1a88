use Rattle.std.proofs.Common.{◌∙◌, [], refl, ap, sym, subst}
use Rattle.std.proofs.lemmas.Option.{slice_get_past, slice_get_read}
use Rattle.std.specs.Option.{option_map_or}
use Rattle.sx_lex.specs.declared.kinds.Token.{Token}
use Rattle.sx_parse.specs.Lexemes.{text_of_token}
use Rattle.sx_parse.specs.Lexing.{IsPart}
use Rattle.sx_parse.proofs.Parts.{part_at}
use Rattle.sx_parse.proofs.checks.text_at.Goals as goal

pub token_text-requires : goal.token_text-requires
token_text-requires c =
    let look = c.in-Some.ensures.lookup in
    subst (λ (t : Token). IsPart c.args.text.now t) (sym look.1) (part_at c.args.text.now c.args.tokens.now c.args.place c.in-Some.token.now c.requires look.3.0)

pub returns-in-None : goal.returns-in-None
returns-in-None c = ap (λ o. option_map_or (text_of_token c.args.text.now) o []) (sym (slice_get_past c.args.tokens.now c.args.place c.in-None.ensures.lookup.3))

pub returns-in-Some : goal.returns-in-Some
returns-in-Some c =
    let look = c.in-Some.ensures.lookup in
    c.token_text.ensures ∙ ap (λ o. option_map_or (text_of_token c.args.text.now) o []) (sym (slice_get_read c.args.tokens.now _ c.args.place c.in-Some.token.now refl look.3.0 look.1))
