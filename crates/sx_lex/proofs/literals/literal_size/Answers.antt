use Rattle.std.proofs.Common.{◌≢◌, ◌+◌, ◌<◌, ℕ, List, subst, length, get_or, arith}
use Rattle.std.proofs.lemmas.List.{take_rest}
use Rattle.sx_lex.specs.Fronts.{IsQuoteFree}
use Rattle.sx_lex.proofs.Quotes.{inside_begins, inside_ends, inside_goes_on}
use Rattle.sx_lex.proofs.literals.literal_size.Goals as goal
use Rattle.sx_lex.proofs.literals.literal_size.Goals.{then-size-bytes-via-then-size-bytes, then-size-bytes-via-else-size-bytes+then-bytes-size}

pub loop-place-init : goal.loop-place-init
loop-place-init c =
    let s = c.args.bytes.now in
    let run = subst (λ (t : List ℕ). IsQuoteFree (get_or s 0 0) t c.quote_free-place.result) (take_rest s 1) c.quote_free-place.ensures in
    record { quote = c.requires; inside = inside_begins s c.quote_free-place.result c.requires run }

pub returns-then-size-bytes : goal.returns-then-size-bytes
returns-then-size-bytes c =
    let s = c.args.bytes.now in
    let place = c.loop-place.place in
    let apart : place + 1 < length s → get_or s (place + 1) 0 ≢ get_or s 0 0 = elim c.then-size-bytes.branch [
      | then-size-bytes-via-then-size-bytes w ↦ λ within same. let all = w.if-size-bytes.true in omega arith
      | then-size-bytes-via-else-size-bytes+then-bytes-size w ↦ λ within same. w.if-bytes-size.true same
    ] in
    inside_ends s (get_or s 0 0) c.loop-place.size place c.loop-place.invariant.quote c.loop-place.invariant.inside c.loop-place-test.true apart

pub loop-place-preserved : goal.loop-place-preserved
loop-place-preserved c =
    let s = c.args.bytes.now in
    let place = c.loop-place.place in
    let within : place + 1 < length s = let test = c.loop-place-test.true in let all = c.if-size-bytes.false in omega arith in
    let run = subst (λ (t : List ℕ). IsQuoteFree (get_or s 0 0) t c.quote_free.result) (take_rest s (place + 1 + 1)) c.quote_free.ensures in record {
      quote = c.loop-place.invariant.quote;
      inside = inside_goes_on s (get_or s 0 0) c.loop-place.size place c.quote_free.result c.loop-place.invariant.quote c.loop-place.invariant.inside within (omega (arith, c.if-bytes-size.false)) run;
    }
