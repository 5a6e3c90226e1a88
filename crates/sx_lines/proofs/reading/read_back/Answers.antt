use Rattle.std.proofs.Common.{◌≡◌, ◌<◌, [], ◌∷◌, ◌++◌, length, refl, sym, ap, ◌∙◌, true≢false, length-append, arith}
use Rattle.std.proofs.lemmas.Slice.Eq.{bytes_eq-Decides}
use Rattle.sx_lines.proofs.ReadBack.{at_last, none_last, none_without_newline, none_where_refused, one_line_more}
use Rattle.sx_lines.proofs.reading.read_back.Goals as goal

pub loop-line-init : goal.loop-line-init
loop-line-init c = ([], tt, refl, c.new-reader.ensures)

pub returns-then-eq-clause-found : goal.returns-then-eq-clause-found
returns-then-eq-clause-found c =
    let reader = c.loop-line.reader in
    let read = c.loop-line.invariant in
    let last : c.in-Some.line.now ≡ 67 ∷ [] = (bytes_eq-Decides c.in-Some.line.now c.as_slice.result.now).0 (sym c.if-eq.ensures) ∙ c.as_slice.ensures in
    at_last reader.after_text reader.pairs reader.events read.0 c.loop-line.rest.now c.args.bytes.now read.1 read.2 read.3 c.finish.result c.in-Some.line.now c.in-Some.behind.now c.in-Some.ensures.1 last c.finish.ensures.found

pub returns-then-eq-clause-none : goal.returns-then-eq-clause-none
returns-then-eq-clause-none c =
    let reader = c.loop-line.reader in
    let read = c.loop-line.invariant in
    let last : c.in-Some.line.now ≡ 67 ∷ [] = (bytes_eq-Decides c.in-Some.line.now c.as_slice.result.now).0 (sym c.if-eq.ensures) ∙ c.as_slice.ensures in
    none_last reader.after_text reader.pairs reader.events read.0 c.loop-line.rest.now c.args.bytes.now read.1 read.2 read.3 c.finish.result c.in-Some.line.now c.in-Some.behind.now c.in-Some.ensures.1 last c.finish.ensures.none

pub returns-then-not-branch-clause-none : goal.returns-then-not-branch-clause-none
returns-then-not-branch-clause-none c =
    let reader = c.loop-line.reader in
    let read = c.loop-line.invariant in
    none_where_refused reader.after_text reader.pairs reader.events read.0 c.loop-line.rest.now c.args.bytes.now read.1 read.2 read.3 c.in-Some.line.now c.in-Some.behind.now c.in-Some.ensures.1 c.in-Some.ensures.0
    (λ last. true≢false (sym ((bytes_eq-Decides c.in-Some.line.now c.as_slice.result.now).1 (last ∙ sym c.as_slice.ensures)) ∙ sym c.if-eq.ensures))
    (c.in_ok-read.ensures.refused c.if-not-branch.true)

pub loop-line-smaller : goal.loop-line-smaller
loop-line-smaller c =
    let shorter : length c.in-Some.behind.now < length c.loop-line.rest.now = omega (arith, ap length c.in-Some.ensures.1, length-append c.in-Some.line.now (10 ∷ c.in-Some.behind.now)) in
    shorter

pub loop-line-preserved : goal.loop-line-preserved
loop-line-preserved c =
    let read = c.loop-line.invariant in
    let line = c.in_ok-read.ensures.taken c.if-not-branch.false in
    let more = one_line_more read.0 line.0 c.in-Some.line.now c.in-Some.behind.now c.loop-line.rest.now c.args.bytes.now read.1 line.1 line.2 c.in-Some.ensures.1 read.2 in
    (read.0 ++ line.0 ∷ [], more.0, more.1, line.3 read.0 read.3)

pub returns-clause-none : goal.returns-clause-none
returns-clause-none c =
    let reader = c.loop-line.reader in
    let read = c.loop-line.invariant in
    none_without_newline reader.after_text reader.pairs reader.events read.0 c.loop-line.rest.now c.args.bytes.now read.1 read.2 read.3 c.in_default.ensures
