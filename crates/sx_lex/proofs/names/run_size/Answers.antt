use Rattle.std.proofs.Common.{◌∙◌, ap, sym, length, arith, rules, length-append}
use Rattle.std.specs.Char.{encode_utf8}
use Rattle.std.specs.Str.Iter.{char_indices_rest, char_indices_offset}
use Rattle.sx_lex.proofs.Runs.{run_begins, run_goes_on}
use Rattle.sx_lex.proofs.names.run_size.Goals as goal

pub loop-place-init : goal.loop-place-init
loop-place-init c =
    let same = c.into_iter-place-iterator.ensures.into_iter_gives in
    let rest = ap char_indices_rest same ∙ c.char_indices-place-items.ensures.rest in
    let start = ap char_indices_offset same ∙ c.char_indices-place-items.ensures.offset in (
      search rules,
      tt,
      run_begins c.args.text.now (char_indices_rest c.into_iter-place-iterator.result) (char_indices_offset c.into_iter-place-iterator.result) c.utf8.text rest start,
    )

pub loop-place-preserved : goal.loop-place-preserved
loop-place-preserved c =
    let step = c.in-Some.ensures.steps in
    let old = c.loop-place.place-iterator in
    let new = c.next.new.self in (
      omega (arith, c.loop-place.invariant.0, step.2, ap length step.1, length-append (encode_utf8 c.in-Some.character) (char_indices_rest new)),
      tt,
      run_goes_on c.args.text.now (char_indices_rest old) (char_indices_rest new) (char_indices_offset old) (char_indices_offset new) c.in-Some.character c.utf8.text c.loop-place.invariant.2 step.1 step.2 (sym c.is_further.ensures ∙ c.if-not-is_further.false),
    )
