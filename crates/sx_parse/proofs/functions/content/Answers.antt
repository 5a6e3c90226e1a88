use Rattle.std.proofs.Common.{◌≡◌, ◌∙◌, ◌<◌, ℕ, List, get_or, ap, subst, sym, string_bytes, IfOk}
use Rattle.std.proofs.lemmas.Str.{IsCharBoundary-after_ascii}
use Rattle.sx_lex.specs.Tokens.{closes}
use Rattle.sx_parse.specs.Checks.{unquoted, literal_content}
use Rattle.sx_parse.proofs.Quotes.{has_quotes}
use Rattle.sx_parse.proofs.functions.content.Goals as goal

pub range_from-requires : goal.range_from-requires
range_from-requires c = λ some. let quotes = has_quotes c.args.text.now c.requires in IsCharBoundary-after_ascii c.args.text.now 0 c.utf8.text quotes.some quotes.ascii

pub unquoted-requires-clause-ascii : goal.unquoted-requires-clause-ascii
unquoted-requires-clause-ascii c =
    let quotes = has_quotes c.args.text.now c.requires in
    let first : c.from-quote.result ≡ get_or c.args.text.now 0 0 = c.from-quote.ensures ∙ ap (λ (s : List ℕ). get_or s 0 0) c.as_bytes.ensures.value in
    subst (λ (b : ℕ). b < 128) (sym first) quotes.ascii

pub unquoted-requires-clause-closes : goal.unquoted-requires-clause-closes
unquoted-requires-clause-closes c =
    let quotes = has_quotes c.args.text.now c.requires in
    let first : c.from-quote.result ≡ get_or c.args.text.now 0 0 = c.from-quote.ensures ∙ ap (λ (s : List ℕ). get_or s 0 0) c.as_bytes.ensures.value in
    ap (λ (b : ℕ). closes b c.range_from.result.now) first ∙ ap (closes (get_or c.args.text.now 0 0)) c.range_from.ensures.value ∙ quotes.closed

pub returns : goal.returns
returns c =
    let quotes = has_quotes c.args.text.now c.requires in
    let first : c.from-quote.result ≡ get_or c.args.text.now 0 0 = c.from-quote.ensures ∙ ap (λ (s : List ℕ). get_or s 0 0) c.as_bytes.ensures.value in
    let same : unquoted c.from-quote.result c.range_from.result.now ≡ literal_content c.args.text.now =
    ap (λ (b : ℕ). unquoted b c.range_from.result.now) first ∙ ap (unquoted (get_or c.args.text.now 0 0)) c.range_from.ensures.value ∙ sym quotes.is in
    subst (λ (t : List ℕ). IfOk c.unquoted.result (λ s. string_bytes s ≡ t)) same c.unquoted.ensures
