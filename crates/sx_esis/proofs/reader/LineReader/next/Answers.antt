use Rattle.std.proofs.Common.{refl, ap, ◌∙◌, Some, Result}
use Rattle.sx_esis.specs.declared.faults.LineFault.{LineFault}
use Rattle.sx_esis.proofs.NextLemmas.{follows_line, follows_fault, follows_none}
use Rattle.sx_esis.proofs.reader.LineReader.next.Goals as goal

pub returns-in-Some-Ok : goal.returns-in-Some-Ok
returns-in-Some-Ok c =
    let advanced = c.advance.ensures in (
      (
        refl,
        (λ _. tt),
        follows_line c.args.self.now c.advance.new.self c.advance.result c.view.result
            (c.in-Some-Ok.is ∙ ap (λ (r : Result Unit LineFault). Some r) c.in-Some-Ok.field-0-is) (record { gives = advanced.gives; progress = advanced.progress }) c.view.ensures,
      ),
      tt,
    )

pub returns-in-Some-Err : goal.returns-in-Some-Err
returns-in-Some-Err c =
    let advanced = c.advance.ensures in (
      (
        refl,
        (λ _. tt),
        follows_fault c.args.self.now c.advance.new.self c.advance.result c.in-Some-Err.fault
            (c.in-Some-Err.is ∙ ap (λ (r : Result Unit LineFault). Some r) c.in-Some-Err.field-0-is) (record { gives = advanced.gives; progress = advanced.progress }),
      ),
      tt,
    )

pub returns-in-None : goal.returns-in-None
returns-in-None c =
    let advanced = c.advance.ensures in
    ((refl, (λ _. tt), follows_none c.args.self.now c.advance.new.self c.advance.result c.in-None.is (record { gives = advanced.gives; progress = advanced.progress })), tt)
