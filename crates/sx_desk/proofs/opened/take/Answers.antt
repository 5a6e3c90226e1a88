use Rattle.std.proofs.Common.{◌+◌, refl, ap, sym, arith}
use Rattle.sx_desk.proofs.Fields.{field_kept, field_set, field_read}
use Rattle.sx_desk.proofs.opened.take.Goals as goal

pub returns-clause-names : goal.returns-clause-names
returns-clause-names c = field_kept _ _ _ _ _ c.index_mut-file.ensures.value refl

pub returns-clause-marks : goal.returns-clause-marks
returns-clause-marks c = field_kept _ _ _ _ _ c.index_mut-file.ensures.value refl

pub returns-clause-taken : goal.returns-clause-taken
returns-clause-taken c =
    let s = c.args.files.now in
    field_set _ _ _ _ _ (ap (λ t. t + c.args.count) (sym (field_read (λ f. f.taken) s.items c.args.at c.index_mut-file.result.now 0 (omega (arith, s.ok.0)) c.index_mut-file.ensures.value)))

pub returns-clause-places : goal.returns-clause-places
returns-clause-places c = field_kept _ _ _ _ _ c.index_mut-file.ensures.value refl
