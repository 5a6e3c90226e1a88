use Rattle.std.proofs.Common.{◌+◌, ℕ, true, false, List, ◌++◌, ap, subst, sym, ◌∙◌, length, arith}
use Rattle.sx_parse.specs.Templates.{IsFixedNext}
use Rattle.sx_parse.proofs.FixedText.{IsCopied, between, brace_boundary, brace_within, copied_begins, copied_ends, copied_goes_on, free_within, run_of, twice_of, twice_within}
use Rattle.sx_parse.proofs.templates.fixed_text.Goals as goal

pub overflow_add-brace : goal.overflow_add-brace
overflow_add-brace c =
    let text = c.args.text.now in
    let run = run_of c.as_bytes-bytes.result.now text c.args.offset c.brace_free.result c.as_bytes-bytes.ensures.value c.brace_free.ensures in
    let most = free_within text c.args.offset in
    omega (arith, c.requires.short, c.requires.boundary.0)

pub loop-bytes-init : goal.loop-bytes-init
loop-bytes-init c =
    let text = c.args.text.now in
    let run = run_of c.as_bytes-bytes.result.now text c.args.offset c.brace_free.result c.as_bytes-bytes.ensures.value c.brace_free.ensures in
    subst (λ (fixed : List ℕ). IsCopied text c.args.offset fixed c.args.offset (c.args.offset + c.brace_free.result)) (sym c.new-fixed.ensures)
    (copied_begins text c.args.offset (c.args.offset + c.brace_free.result) c.requires.boundary (ap (λ (n : ℕ). c.args.offset + n) run))

pub is_doubled-requires-clause-within : goal.is_doubled-requires-clause-within
is_doubled-requires-clause-within c =
    let most = brace_within c.args.text.now c.args.offset c.loop-bytes.fixed c.loop-bytes.end c.loop-bytes.brace c.loop-bytes.invariant in
    omega (arith, ap length c.as_bytes-bytes.ensures.value)

pub range-requires-clause-end_boundary : goal.range-requires-clause-end_boundary
range-requires-clause-end_boundary c =
    let text = c.args.text.now in
    let twice = twice_of c.as_bytes-bytes.result.now text c.loop-bytes.brace c.is_doubled.result true c.as_bytes-bytes.ensures.value c.is_doubled.ensures c.loop-bytes-test.true in
    between text c.args.offset c.loop-bytes.fixed c.loop-bytes.end c.loop-bytes.brace c.utf8.text c.loop-bytes.invariant twice

pub overflow_add-brace-in-loop-bytes-2 : goal.overflow_add-brace-in-loop-bytes-2
overflow_add-brace-in-loop-bytes-2 c =
    let text = c.args.text.now in
    let twice = twice_of c.as_bytes-bytes.result.now text c.loop-bytes.brace c.is_doubled.result true c.as_bytes-bytes.ensures.value c.is_doubled.ensures c.loop-bytes-test.true in
    let run = run_of c.as_bytes-bytes.result.now text (c.loop-bytes.brace + 2) c.brace_free-in-loop-bytes.result c.as_bytes-bytes.ensures.value c.brace_free-in-loop-bytes.ensures in
    let within = twice_within text c.loop-bytes.brace twice in
    let most = free_within text (c.loop-bytes.brace + 2) in
    omega (arith, c.requires.short, within.0)

pub loop-bytes-preserved : goal.loop-bytes-preserved
loop-bytes-preserved c =
    let text = c.args.text.now in
    let twice = twice_of c.as_bytes-bytes.result.now text c.loop-bytes.brace c.is_doubled.result true c.as_bytes-bytes.ensures.value c.is_doubled.ensures c.loop-bytes-test.true in
    let run = run_of c.as_bytes-bytes.result.now text (c.loop-bytes.brace + 2) c.brace_free-in-loop-bytes.result c.as_bytes-bytes.ensures.value c.brace_free-in-loop-bytes.ensures in
    let next = c.loop-bytes.brace + 2 + c.brace_free-in-loop-bytes.result in
    subst (λ (fixed : List ℕ). IsCopied text c.args.offset fixed (c.loop-bytes.brace + 2) next)
    (sym (c.in_ok-push_str.ensures.ok ∙ ap (λ (more : List ℕ). c.loop-bytes.fixed ++ more) c.range.ensures.value))
    (copied_goes_on text c.args.offset c.loop-bytes.fixed c.loop-bytes.end c.loop-bytes.brace next c.utf8.text c.loop-bytes.invariant twice (ap (λ (n : ℕ). c.loop-bytes.brace + 2 + n) run))

pub range-requires-2-clause-end_boundary : goal.range-requires-2-clause-end_boundary
range-requires-2-clause-end_boundary c = brace_boundary c.args.text.now c.args.offset c.loop-bytes.fixed c.loop-bytes.end c.loop-bytes.brace c.loop-bytes.invariant

pub returns : goal.returns
returns c =
    let text = c.args.text.now in
    let once = twice_of c.as_bytes-bytes.result.now text c.loop-bytes.brace c.is_doubled.result false c.as_bytes-bytes.ensures.value c.is_doubled.ensures c.loop-bytes-test.false in
    subst (λ (fixed : List ℕ). IsFixedNext text c.args.offset fixed c.loop-bytes.brace)
    (sym (c.in_ok-push_str-2.ensures.ok ∙ ap (λ (more : List ℕ). c.loop-bytes.fixed ++ more) c.range-2.ensures.value))
    (copied_ends text c.args.offset c.loop-bytes.fixed c.loop-bytes.end c.loop-bytes.brace c.loop-bytes.invariant c.requires.begins once)
