use Rattle.std.proofs.Common.{refl}
use Rattle.sx_machine.specs.Meaning.{meaning_on}
use Rattle.sx_machine.proofs.Machine.{asked_here, stands_closed}
use Rattle.sx_machine.proofs.session.Session.close.Goals as goal

pub returns-clause-stands : goal.returns-clause-stands
returns-clause-stands c = λ sheet known invocations d given o whole s.
    stands_closed sheet known invocations c.args.self.now d given s _ c.requires o whole refl refl refl
    (c.finish.ensures (meaning_on sheet known invocations d).raw given (asked_here sheet known invocations c.args.self.now d given s c.requires)) refl
