use Rattle.std.proofs.Common.{◌≡◌, ◌∙◌, ◌+◌, ℕ, List, ap, sym, subst, drop, arith, length-drop}
use Rattle.std.proofs.lemmas.List.{take_rest}
use Rattle.std.proofs.lemmas.List.Sums.{prefix_len-le-length}
use Rattle.std.proofs.lemmas.Str.{IsCharBoundary-from_rest, IsUtf8-drop}
use Rattle.std.specs.Str.{IsCharBoundary}
use Rattle.sx_chars.specs.Names.{is_white_space}
use Rattle.sx_lex.specs.Fronts.{IsToken}
use Rattle.sx_lex.specs.Tokens.{white_len, NoToken}
use Rattle.sx_lex.specs.declared.kinds.Token.{Token}
use Rattle.sx_lex.proofs.Readings.{IsReadTo, read_begins, read_goes_on, read_ends, read_breaks, token_size}
use Rattle.sx_lex.proofs.lexing.tokens.Goals as goal

pub loop-start-init : goal.loop-start-init
loop-start-init c =
    let s = c.args.s.now in
    subst (λ (found : List Token). IsReadTo s found c.white_count-start.result) (sym c.new-found.ensures)
    (read_begins s c.white_count-start.result c.utf8.s (c.white_count-start.ensures ∙ ap white_len c.as_bytes.ensures.value))

pub returns-in-None-clause-fault : goal.returns-in-None-clause-fault
returns-in-None-clause-fault c =
    let s = c.args.s.now in
    read_breaks s c.loop-start.found c.loop-start.start c.loop-start.invariant c.loop-start-test.true (subst NoToken c.range_from.ensures.value c.in-None.ensures)

pub overflow_add-start : goal.overflow_add-start
overflow_add-start c =
    let s = c.args.s.now in
    let start = c.loop-start.start in
    let size = c.in-Some.front.size in
    let token = subst (λ (t : List ℕ). IsToken t c.in-Some.front.kind size) c.range_from.ensures.value c.in-Some.ensures in
    let bytes = c.as_bytes-in-loop-start.result.now in
    let white = c.white_count.ensures ∙ ap white_len (take_rest bytes (start + size) ∙ ap (drop (start + size)) c.as_bytes-in-loop-start.ensures.value) in
    omega (arith, c.requires, white, prefix_len-le-length is_white_space (drop (start + size) s), length-drop (start + size) s, length-drop start s, token.longest.boundary.0, c.loop-start.invariant.boundary.0)

pub loop-start-smaller : goal.loop-start-smaller
loop-start-smaller c =
    let s = c.args.s.now in
    let start = c.loop-start.start in
    let size = c.in-Some.front.size in
    let token = subst (λ (t : List ℕ). IsToken t c.in-Some.front.kind size) c.range_from.ensures.value c.in-Some.ensures in
    omega (arith, token_size (drop start s) c.in-Some.front.kind size token, c.loop-start-test.true)

pub loop-start-preserved : goal.loop-start-preserved
loop-start-preserved c =
    let s = c.args.s.now in
    let start = c.loop-start.start in
    let size = c.in-Some.front.size in
    let kind = c.in-Some.front.kind in
    let token : IsToken (drop start s) kind size = subst (λ (t : List ℕ). IsToken t kind size) c.range_from.ensures.value c.in-Some.ensures in
    let cut : IsCharBoundary s (start + size) = IsCharBoundary-from_rest s start size c.loop-start.invariant.boundary.0 token.longest.boundary in
    let bytes = c.as_bytes-in-loop-start.result.now in
    let white : c.white_count.result ≡ white_len (drop (start + size) s) =
    c.white_count.ensures ∙ ap white_len (take_rest bytes (start + size) ∙ ap (drop (start + size)) c.as_bytes-in-loop-start.ensures.value) in
    subst (λ (found : List Token). IsReadTo s found (start + size + c.white_count.result)) (sym c.in_ok-push.ensures.ok)
    (read_goes_on s c.loop-start.found start size c.white_count.result kind (IsUtf8-drop s (start + size) c.utf8.s cut) cut c.loop-start.invariant token white)

pub returns-clause-tokens : goal.returns-clause-tokens
returns-clause-tokens c = read_ends c.args.s.now c.loop-start.found c.loop-start.start c.loop-start.invariant c.loop-start-test.false
