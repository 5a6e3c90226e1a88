use Rattle.std.proofs.Common.{◌++◌, ◌∷◌, [], List, ap, ◌∙◌, false, subst, take, arith}
use Rattle.std.proofs.lemmas.List.{take_all}
use Rattle.sx_build.specs.Asked.{Asked, asked_at, all_asked_at}
use Rattle.sx_build.specs.declared.raw.Raw.{Raw}
use Rattle.sx_machine.specs.Writer.{WriterStands}
use Rattle.sx_machine.proofs.Readings.{asked_more}
use Rattle.sx_machine.proofs.writer.Writer.push_all.Goals as goal

pub loop-raw-preserved : goal.loop-raw-preserved
loop-raw-preserved c = λ asked given s.
    let names = c.args.names.now in
    let raws = c.args.raws.now in
    let i = c.loop-raw.raw-index in
    let so_far = asked ++ all_asked_at names (take i raws) in
    subst (λ (list : List Asked). WriterStands c.push.new.self list false given)
    (ap (λ (r : Raw). so_far ++ asked_at names r ∷ []) c.in_ok-copy.ensures ∙ asked_more names asked raws i c.raw-item.result c.loop-raw-test.true c.raw-item.is)
    (c.in_ok-push.ensures so_far given (c.loop-raw.invariant asked given s))

pub returns : goal.returns
returns c = λ asked given s.
    subst (λ (raws : List Raw). WriterStands c.loop-raw.self (asked ++ all_asked_at c.args.names.now raws) false given)
    (take_all c.loop-raw.raw-index c.args.raws.now (omega (arith, c.loop-raw-test.false)))
    (c.loop-raw.invariant asked given s)
