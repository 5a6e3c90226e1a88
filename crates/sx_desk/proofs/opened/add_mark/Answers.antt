use Rattle.std.proofs.Common.{◌≡◌, ◌++◌, ◌∷◌, [], refl, ap₂, sym, ◌∙◌, arith}
use Rattle.std.proofs.lemmas.Result.{on_ok_weaker}
use Rattle.sx_desk.proofs.Fields.{field_kept, field_set, field_read}
use Rattle.sx_desk.proofs.opened.add_mark.Goals as goal

pub returns-clause-names : goal.returns-clause-names
returns-clause-names c = field_kept _ _ _ _ _ c.index_mut-file.ensures.value refl

pub returns-clause-taken : goal.returns-clause-taken
returns-clause-taken c = field_kept _ _ _ _ _ c.index_mut-file.ensures.value refl

pub returns-clause-marks : goal.returns-clause-marks
returns-clause-marks c =
    let s = c.args.files.now in
    let r = c.index_mut-file.result.now in
    on_ok_weaker c.push.result
    (λ (pushed : c.push.new.self ≡ r.marks ++ (r.taken, c.args.written) ∷ []).
    field_set _ _ _ _ _ (pushed ∙ ap₂ (λ (ms : _) (t : _). ms ++ (t, c.args.written) ∷ [])
    (sym (field_read (λ f. f.marks) s.items c.args.at r [] (omega (arith, s.ok.0)) c.index_mut-file.ensures.value))
    (sym (field_read (λ f. f.taken) s.items c.args.at r 0 (omega (arith, s.ok.0)) c.index_mut-file.ensures.value))))
    c.push.ensures.ok

pub returns-clause-places : goal.returns-clause-places
returns-clause-places c = field_kept _ _ _ _ _ c.index_mut-file.ensures.value refl
