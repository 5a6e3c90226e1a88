use Rattle.std.proofs.Common.{◌∙◌, Bool, true, not, length, refl, sym, subst}
use Rattle.sx_esis.specs.LineReader as reader
use Rattle.sx_events.specs.Course.{looked_at}
use Rattle.sx_events.proofs.Feedings.{along_told, told_at}
use Rattle.sx_events.proofs.event_reader.EventReader.finish.Goals as goal

pub returns-then-is_beyond-clause-told : goal.returns-then-is_beyond-clause-told
returns-then-is_beyond-clause-told c = λ limits names b given stands.
    let s = c.args.self.now in
    told_at s.ending s _ limits names b given refl refl
    (λ going.
    let a = going.along in
    let over = sym (c.is_beyond.ensures limits b true a.small.bytes (record { same = going.counted.same; total = going.counted.total; told = refl })) ∙ c.if-is_beyond.true in
    record {
      counted = record { same = going.counted.same; total = going.counted.total; told = refl };
      along = along_told s.lines s.lines s.standing s.pending limits names b given s.line a
          (subst (λ (v : Bool). reader.LinesStand s.lines limits.line (looked_at limits b) (not v) (length a.front)) (sym over) a.reads);
    }) stands

pub returns-clause-told : goal.returns-clause-told
returns-clause-told c = λ limits names b given stands.
    let s = c.args.self.now in
    told_at s.ending s _ limits names b given refl refl
    (λ going.
    let a = going.along in
    let within = sym (c.is_beyond.ensures limits b true a.small.bytes (record { same = going.counted.same; total = going.counted.total; told = refl })) ∙ c.if-is_beyond.false in
    record {
      counted = record { same = going.counted.same; total = going.counted.total; told = refl };
      along = along_told s.lines c.finish.new.self s.standing s.pending limits names b given s.line a
          (subst (λ (v : Bool). reader.LinesStand c.finish.new.self limits.line (looked_at limits b) (not v) (length a.front)) (sym within) (c.finish.ensures limits.line _ _ _ a.reads));
    }) stands
