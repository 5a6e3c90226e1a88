use Rattle.std.proofs.Common.{◌∙◌, ◌-◌, ℕ, List, Ok, ap, sym, drop, arith, length-take, length-drop}
use Rattle.std.specs.List.{slice_range}
use Rattle.sx_esis.specs.Escapes.{unescape}
use Rattle.sx_esis.proofs.PartLemmas.{part_rest, part_is}
use Rattle.sx_esis.proofs.line_buffer.unescape_part.Goals as goal

pub returns-in-Ok-clause-ok : goal.returns-in-Ok-clause-ok
returns-in-Ok-clause-ok c =
    let v = c.args.bytes.now in
    let xs = c.deref_mut.result.now in
    let ys = c.unescape.new.bytes in
    let start = c.args.start in
    let end = c.args.end in
    let order = c.requires.order in
    let within = c.requires.within in
    let same = c.deref_mut.ensures.value in
    let most = c.in-Ok.ensures.ok.0 in
    let count = c.unescape.auto.bytes in (
      omega arith,
      omega (arith, length-take (end - start) (drop start xs), length-drop start xs),
      ap (λ (s : List ℕ). unescape (slice_range s start end)) (sym same)
          ∙ c.in-Ok.ensures.ok.1
          ∙ ap (λ (t : List ℕ). Ok t) (sym (part_is v xs ys start end same order within count c.in-Ok.count (omega arith))),
    )

pub returns-in-Ok-clause-rest : goal.returns-in-Ok-clause-rest
returns-in-Ok-clause-rest c =
    part_rest c.args.bytes.now c.deref_mut.result.now c.unescape.new.bytes c.args.start c.args.end c.deref_mut.ensures.value c.requires.order c.requires.within c.unescape.auto.bytes

pub returns-in-Err-clause-rest : goal.returns-in-Err-clause-rest
returns-in-Err-clause-rest c =
    part_rest c.args.bytes.now c.deref_mut.result.now c.unescape.new.bytes c.args.start c.args.end c.deref_mut.ensures.value c.requires.order c.requires.within c.unescape.auto.bytes
