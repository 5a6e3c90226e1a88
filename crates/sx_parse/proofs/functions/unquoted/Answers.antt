use Rattle.std.proofs.Common.{◌∙◌, ◌++◌, List, [], ℕ, ap, subst, sym, string_bytes}
use Rattle.std.proofs.lemmas.Bool.{false≢true}
use Rattle.std.proofs.lemmas.Str.Pattern.{split_parts, strip_prefix_char}
use Rattle.std.specs.Str.{IsUtf8}
use Rattle.sx_parse.proofs.Quotes.{closes_none, quotes_end, quotes_go_on, utf8_behind}
use Rattle.sx_parse.proofs.functions.unquoted.Goals as goal

pub returns-in-None : goal.returns-in-None
returns-in-None c =
    let parts = rw c.in-Some.is at (split_parts c.args.quote c.loop-front.rest.now c.split_once.result c.split_once.ensures.cases c.requires.ascii) in
    let last = rw c.in-None.is at (strip_prefix_char c.args.quote c.in-Some.back.now c.strip_prefix.result c.strip_prefix.ensures.cases c.requires.ascii) in
    quotes_end c.args.quote c.args.text.now c.loop-front.rest.now c.in-Some.front.now c.in-Some.back.now (string_bytes c.loop-front.unquoted) (string_bytes c.push_str.new.self)
    parts.0 parts.1 c.loop-front.invariant.1 c.loop-front.invariant.2 c.in_ok-push_str.ensures.bytes last

pub loop-front-preserved : goal.loop-front-preserved
loop-front-preserved c =
    let quote = c.args.quote in
    let rest = c.loop-front.rest.now in
    let front = c.in-Some.front.now in
    let back = c.in-Some.back.now in
    let after = c.in-Some-strip_prefix.after.now in
    let parts = rw c.in-Some.is at (split_parts quote rest c.split_once.result c.split_once.ensures.cases c.requires.ascii) in
    let doubled = rw c.in-Some-strip_prefix.is at (strip_prefix_char quote back c.strip_prefix.result c.strip_prefix.ensures.cases c.requires.ascii) in
    let one = c.in_ok-push-in-Some-strip_prefix.ensures.ascii in
    let behind = utf8_behind quote front back c.requires.ascii (subst (λ (s : List ℕ). IsUtf8 s) parts.0 c.loop-front.invariant.0) in
    let on = quotes_go_on quote c.args.text.now rest front back (string_bytes c.loop-front.unquoted) (string_bytes c.push_str.new.self)
    parts.0 parts.1 c.loop-front.invariant.1 c.loop-front.invariant.2 c.in_ok-push_str.ensures.bytes after (string_bytes c.push.new.self) doubled
    (c.in_ok-push-in-Some-strip_prefix.ensures.bytes ∙ ap (λ (s : List ℕ). string_bytes c.push_str.new.self ++ s) (one c.requires.ascii)) in
    (utf8_behind quote [] after c.requires.ascii (subst (λ (s : List ℕ). IsUtf8 s) doubled behind), on.0, on.1)

pub returns : goal.returns
returns c =
    let parts = rw c.in_default.is at (split_parts c.args.quote c.loop-front.rest.now c.split_once.result c.split_once.ensures.cases c.requires.ascii) in
    absurd (false≢true (sym (closes_none c.args.quote c.loop-front.rest.now parts) ∙ c.loop-front.invariant.1))
