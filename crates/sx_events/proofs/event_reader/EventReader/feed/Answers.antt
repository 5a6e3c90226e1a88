use Rattle.std.proofs.Common.{◌≡◌, ◌++◌, ◌-◌, ◌^◌, ◌≤◌, ℕ, List, min, false, length, length-append, refl, ap, sym, ◌∙◌, subst, arith}
use Rattle.sx_esis.specs.LineReader as reader
use Rattle.sx_events.specs.Course.{looked_at}
use Rattle.sx_limits.specs.declared.limits.Limits.{Limits}
use Rattle.sx_events.proofs.Feedings.{along_more, stands_fed, same_at}
use Rattle.sx_events.proofs.Readings.{no_ending, going_of, stands_going}
use Rattle.sx_events.proofs.event_reader.EventReader.feed.Goals as goal

pub returns-then-is_some-clause-fed : goal.returns-then-is_some-clause-fed
returns-then-is_some-clause-fed c = λ limits names b given stands. stands_fed c.args.self.now limits names b c.args.piece.now given (sym c.is_some.ensures ∙ c.if-is_some.true) stands

pub returns-in-Err-clause-err : goal.returns-in-Err-clause-err
returns-in-Err-clause-err c = λ limits names b ended given stands.
    let failed = rw c.in-Err.is at c.feed.ensures.err in
    same_at c.args.self.now.ending c.args.self.now _ limits names b ended given refl refl
    (λ going.
    let a = going.along in
    record {
      counted = record { same = going.counted.same; total = going.counted.total; told = going.counted.told };
      along = record {
        small = a.small;
        front = a.front;
        more = a.more;
        lines = a.lines;
        reads = failed limits.line _ _ _ a.reads;
        sound = a.sound;
        knows = a.knows;
        pends = a.pends;
      };
    }) stands

pub returns-clause-fed : goal.returns-clause-fed
returns-clause-fed c = λ limits names b given stands.
    let s = c.args.self.now in
    let piece = c.args.piece.now in
    let none = no_ending s.ending (sym c.is_some.ensures ∙ c.if-is_some.false) in
    let going = going_of s limits names b false given none stands in
    let a = going.along in
    let total = going.counted.total in
    let same : limits.bytes ≡ s.limits.bytes = ap (λ (l : Limits). l.bytes) (sym going.counted.same) in
    let small : s.limits.bytes ≤ 2 ^ 61 = subst (λ (n : ℕ). n ≤ 2 ^ 61) same a.small.bytes in
    let looks : looked_at limits (b ++ piece) ≡ looked_at limits b ++ c.split_at.result.0.now =
    c.count_looked_at-count.ensures.is limits b same small total ∙ ap (λ (x : List ℕ). looked_at limits b ++ x) (sym c.split_at.ensures.front) in
    let now : c.saturating_add-self.result ≡ min (length (b ++ piece)) (2 ^ 64 - 1) = omega (arith, total, length-append b piece) in
    stands_going _ limits names (b ++ piece) false given none (record {
      counted = record { same = going.counted.same; total = now; told = going.counted.told };
      along = along_more s.lines c.feed.new.self s.standing s.pending limits names b piece false given s.line a
          (subst (λ (x : List ℕ). reader.LinesStand c.feed.new.self limits.line x false (length a.front)) (sym looks) ((rw c.in-Ok.is at c.feed.ensures.ok) limits.line _ _ a.reads));
    })
