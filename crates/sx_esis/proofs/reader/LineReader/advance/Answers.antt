use Rattle.std.proofs.Common.{◌∙◌, ap, sym, Some}
use Rattle.sx_esis.specs.declared.faults.LineWhich.{LineWhich}
use Rattle.sx_esis.proofs.ReaderLemmas.{fault_again}
use Rattle.sx_esis.proofs.reader.LineReader.advance.Goals as goal

pub returns-in-Some-clause-gives : goal.returns-in-Some-clause-gives
returns-in-Some-clause-gives c = λ limit bytes ended given stands.
    fault_again limit bytes ended given c.args.self.now stands _ _ (c.in-Some.is ∙ ap (λ (w : LineWhich). Some w) (sym c.fail.ensures.which)) c.fail.ensures.fails
