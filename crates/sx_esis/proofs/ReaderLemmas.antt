-- What a reader stands for as it takes one line.
use Rattle.std.proofs.Common.{◌≡◌, ℕ, ◌+◌, ◌<◌, ◌≤◌, Bool, true, false, List, [], ◌∷◌, ◌++◌, length, take, drop, Option, Some, None, Result, Ok, Err, refl, ap, sym, ◌∙◌, cond, ltb, append-nil, append_assoc, arith, length-append, inl, inr, ◌⊎◌}
use Rattle.std.specs.Option.{option_map}
use Rattle.std.specs.List.{list_all, slice_get}
use Rattle.std.proofs.lemmas.Bool.{false_from_ne_true, ltb-true, lt-ltb}
use Rattle.std.proofs.lemmas.List.{take_at, drop_at}
use Rattle.sx_esis.specs.declared.reader.LineReader.{LineReader}
use Rattle.sx_esis.specs.declared.faults.LineFault.{LineFault}
use Rattle.sx_esis.specs.declared.faults.LineWhich.{LineWhich}
use Rattle.sx_esis.specs.declared.faults.LineWhich.TheVariants as which
use Rattle.sx_esis.specs.declared.line_buffer.LineBuffer.{LineBuffer}
use Rattle.sx_esis.specs.Lines.{Cut, cut, Line, Fault, Reading, nothing_more, fault_here, one_later, in_front, line_within, reading_of, last_line, rest_reading, lines_of}
use Rattle.sx_esis.specs.Inside.{IsFirstLine, is_inside}
use Rattle.sx_esis.specs.Buffered.{taken_line, waiting}
use Rattle.sx_esis.specs.LineReader.{LinesStand, MayComeBehind, behind_lines, fault_or, line_shown, to_come}
use Rattle.sx_esis.specs.Gives.{AdvancesLine, Counts, Fails, Judges}
use Rattle.sx_esis.proofs.Cuts.{cut-line, cut-begun, cut-inside}
use Rattle.sx_esis.proofs.Grow.{long_behind}

-- lines in front of a reading
behind-lines : (lines : List Line) (r : Reading) → (behind_lines lines r).lines ≡ lines ++ r.lines
behind-lines [] r = refl
behind-lines (line ∷ lines) r = ap (λ (ls : List Line). line ∷ ls) (behind-lines lines r)

-- the fault behind_lines so many lines
abbrev fault_behind : LineWhich → ℕ → Fault
fault_behind w n = record { which = w; line = n + 1 }

behind-fault : (w : LineWhich) (lines : List Line) → (behind_lines lines (fault_here w)).fault ≡ Some (fault_behind w (length lines))
behind-fault w [] = refl
behind-fault w (line ∷ lines) =
    ap (option_map one_later) (behind-fault w lines) ∙ ap (λ (n : ℕ). Some (record { which = w; line = n })) (omega arith)

behind-sound : (lines : List Line) → (behind_lines lines nothing_more).fault ≡ None
behind-sound [] = refl
behind-sound (line ∷ lines) = ap (option_map one_later) (behind-sound lines)

behind-snoc : (lines : List Line) (line : Line) (r : Reading) → behind_lines lines (in_front (Ok line) r) ≡ behind_lines (lines ++ line ∷ []) r
behind-snoc [] line r = refl
behind-snoc (l ∷ lines) line r = ap (in_front (Ok l)) (behind-snoc lines line r)

line_at : (lines : List Line) (line : Line) (more : List Line) → slice_get (lines ++ line ∷ more) (length lines) ≡ Some line
line_at [] line more = refl
line_at (l ∷ lines) line more = line_at lines line more

-- nothing may follow at once
may_now : (ended : Bool) → MayComeBehind ended [] ended
may_now false = tt
may_now true = (refl, refl)

-- a line and its newline, whatever comes behind_lines them
read_line : (limit : ℕ) (w line rest more : List ℕ) (at_end : Bool) → list_all is_inside line ≡ true → w ≡ line ++ 10 ∷ rest →
    lines_of limit (w ++ more) at_end ≡ in_front (line_within limit line) (lines_of limit (rest ++ more) at_end)
read_line limit w line rest more at_end inside split =
    ap (λ (s : List ℕ). lines_of limit (s ++ more) at_end) split
    ∙ ap (λ (s : List ℕ). lines_of limit s at_end) (append_assoc line (10 ∷ rest) more)
    ∙ ap (λ (c : Cut). reading_of limit c.lines (rest_reading limit c.rest at_end)) (cut-line line (rest ++ more) inside)

-- a line that is too long before it ends
read_long : (limit : ℕ) (w more : List ℕ) (at_end : Bool) → list_all is_inside w ≡ true → limit < length w → lines_of limit (w ++ more) at_end ≡ fault_here which.Line
read_long limit w more at_end inside long =
    ap (λ (c : Cut). reading_of limit c.lines (rest_reading limit c.rest at_end)) (cut-begun w more inside)
    ∙ long_behind limit w (cut more).lines (cut more).rest at_end (lt-ltb limit (length w) long)

-- bytes with no newline
read_rest : (limit : ℕ) (w : List ℕ) (at_end : Bool) → list_all is_inside w ≡ true → length w ≤ limit → lines_of limit w at_end ≡ cond at_end (last_line limit w) nothing_more
read_rest limit w at_end inside short =
    ap (λ (c : Cut). reading_of limit c.lines (rest_reading limit c.rest at_end)) (cut-inside w inside)
    ∙ ap (λ (v : Bool). cond v (fault_here which.Line) (cond at_end (last_line limit w) nothing_more)) (false_from_ne_true (ltb limit (length w)) (λ long. let over : limit < length w = ltb-true limit (length w) long in omega arith))

last_is_line : (limit : ℕ) (w : List ℕ) → 0 < length w → last_line limit w ≡ in_front (line_within limit w) nothing_more
last_is_line limit [] some = absurd (omega arith)
last_is_line limit (x ∷ w) some = refl

nothing_read : (limit : ℕ) (w : List ℕ) (ended : Bool) → (length w ≡ 0) ⊎ (ended ≡ false) → cond ended (last_line limit w) nothing_more ≡ nothing_more
nothing_read limit [] true why = refl
nothing_read limit (x ∷ w) true (inl none) = absurd (omega arith)
nothing_read limit (x ∷ w) true (inr going) = cc
nothing_read limit w false why = refl

module _ (limit : ℕ) (bytes : List ℕ) (ended : Bool) (given : ℕ) (old : LineReader) (s : LinesStand old limit bytes ended given) where
  -- what is read now
  now_read : lines_of limit bytes ended ≡ behind_lines s.passed (to_come old [] ended)
  now_read = ap (λ (b : List ℕ). lines_of limit b ended) (sym (append-nil bytes)) ∙ s.reading [] ended (may_now ended)

  -- what comes where no fault was met
  sound_reading : old.fault ≡ None → (more : List ℕ) (at_end : Bool) → MayComeBehind ended more at_end → lines_of limit (bytes ++ more) at_end ≡ behind_lines s.passed (lines_of old.limit (waiting old.buffer ++ more) at_end)
  sound_reading sound more at_end may = s.reading more at_end may ∙ ap (λ (o : Option LineWhich). behind_lines s.passed (fault_or o (lines_of old.limit (waiting old.buffer ++ more) at_end))) sound

  -- a fault that every going on has
  fails : (b : LineBuffer) (new : LineReader) (f : LineFault) → length (waiting b) ≤ length (waiting old.buffer) → Fails (record old { buffer = b }) new f →
      ((more : List ℕ) (at_end : Bool) → MayComeBehind ended more at_end → lines_of limit (bytes ++ more) at_end ≡ behind_lines s.passed (fault_here f.which)) →
      AdvancesLine limit bytes ended given new (Some (Err f))
  fails b new f shorter failed met =
      let w = f.which in
      let here : lines_of limit bytes ended ≡ behind_lines s.passed (fault_here w) = ap (λ (b : List ℕ). lines_of limit b ended) (sym (append-nil bytes)) ∙ met [] ended (may_now ended) in
      let room : given + length (waiting new.buffer) ≤ length bytes = let r : given + length (waiting old.buffer) ≤ length bytes = s.room in omega (arith, ap length failed.keeps.rest) in (
        record {
          all = sym (ap (λ (r : Reading). length r.lines) here ∙ ap length (behind-lines s.passed (fault_here w)) ∙ ap length (append-nil s.passed) ∙ s.count);
          fault = fault_behind w given;
          met = ap (λ (r : Reading). r.fault) here ∙ behind-fault w s.passed ∙ ap (λ (n : ℕ). Some (fault_behind w n)) s.count;
          next = refl;
          which = refl;
          line = λ small. let l = failed.line in let n = s.number in omega arith;
        },
        record {
          most = failed.keeps.limit ∙ s.most;
          told = failed.keeps.ended ∙ s.told;
          number = failed.number ∙ s.number;
          room = room;
          passed = s.passed;
          count = s.count;
          reading = λ more at_end may. met more at_end may ∙ sym (ap (λ (o : Option LineWhich). behind_lines s.passed (fault_or o (lines_of new.limit (waiting new.buffer ++ more) at_end))) failed.fault);
        },
      )

  -- the line that was taken counts: it comes next in what is read
  counts : (b : LineBuffer) (new : LineReader) → Counts (record old { buffer = b }) new → old.fault ≡ None → length (waiting b) < length (waiting old.buffer) →
      ((more : List ℕ) (at_end : Bool) → MayComeBehind ended more at_end →
      lines_of old.limit (waiting old.buffer ++ more) at_end ≡ in_front (line_within old.limit (taken_line b)) (lines_of old.limit (waiting b ++ more) at_end)) →
      AdvancesLine limit bytes ended given new (Some (Ok tt))
  counts b new counted sound shorter step =
      let l = line_shown new in
      let next : (more : List ℕ) (at_end : Bool) → MayComeBehind ended more at_end → lines_of limit (bytes ++ more) at_end ≡ behind_lines s.passed (in_front (Ok l) (lines_of old.limit (waiting b ++ more) at_end)) =
      λ more at_end may.
      sound_reading sound more at_end may
      ∙ ap (behind_lines s.passed) (step more at_end may ∙ ap (λ (o : Result Line LineWhich). in_front o (lines_of old.limit (waiting b ++ more) at_end)) counted.line) in
      let last : Reading = lines_of old.limit (waiting b ++ []) ended in
      let here : lines_of limit bytes ended ≡ behind_lines s.passed (in_front (Ok l) last) = ap (λ (b : List ℕ). lines_of limit b ended) (sym (append-nil bytes)) ∙ next [] ended (may_now ended) in
      let room : given + 1 + length (waiting new.buffer) ≤ length bytes = let r : given + length (waiting old.buffer) ≤ length bytes = s.room in omega (arith, ap length counted.keeps.rest) in (
        ap (λ (r : Reading). slice_get r.lines given) here
            ∙ ap (λ (ls : List Line). slice_get ls given) (behind-lines s.passed (in_front (Ok l) last))
            ∙ ap (λ (n : ℕ). slice_get (s.passed ++ l ∷ last.lines) n) (sym s.count)
            ∙ line_at s.passed l last.lines,
        record {
          most = counted.keeps.limit ∙ s.most;
          told = counted.keeps.ended ∙ s.told;
          number = let n = s.number in let m = counted.number in omega arith;
          room = room;
          passed = s.passed ++ l ∷ [];
          count = length-append s.passed (l ∷ []) ∙ ap (λ (n : ℕ). n + 1) s.count;
          reading = λ more at_end may.
              next more at_end may
              ∙ behind-snoc s.passed l (lines_of old.limit (waiting b ++ more) at_end)
              ∙ sym (ap (λ (o : Option LineWhich). behind_lines (s.passed ++ l ∷ []) (fault_or o (lines_of new.limit (waiting new.buffer ++ more) at_end))) (counted.fault ∙ sound)
              ∙ ap (λ (n : ℕ). behind_lines (s.passed ++ l ∷ []) (lines_of n (waiting new.buffer ++ more) at_end)) counted.keeps.limit
              ∙ ap (λ (r : List ℕ). behind_lines (s.passed ++ l ∷ []) (lines_of old.limit (r ++ more) at_end)) counted.keeps.rest);
        },
      )

  -- the line that was taken counts or is at fault
  pub judged : (b : LineBuffer) (new : LineReader) (result : Result Unit LineFault) → Judges (record old { buffer = b }) new result → old.fault ≡ None →
      length (waiting b) < length (waiting old.buffer) →
      ((more : List ℕ) (at_end : Bool) → MayComeBehind ended more at_end →
      lines_of old.limit (waiting old.buffer ++ more) at_end ≡ in_front (line_within old.limit (taken_line b)) (lines_of old.limit (waiting b ++ more) at_end)) →
      AdvancesLine limit bytes ended given new (Some result)
  judged b new (Ok done) counted sound shorter step = counts b new counted sound shorter step
  judged b new (Err f) failed sound shorter step =
      fails b new f (omega arith) failed.0
      (λ more at_end may. sound_reading sound more at_end may ∙ ap (behind_lines s.passed) (step more at_end may ∙ ap (λ (o : Result Line LineWhich). in_front o (lines_of old.limit (waiting b ++ more) at_end)) failed.1))

  -- the fault that was met is met again
  pub fault_again : (new : LineReader) (f : LineFault) → old.fault ≡ Some f.which → Fails old new f → AdvancesLine limit bytes ended given new (Some (Err f))
  fault_again new f faulty failed =
      fails old.buffer new f (omega arith) failed
      (λ more at_end may. s.reading more at_end may ∙ ap (λ (o : Option LineWhich). behind_lines s.passed (fault_or o (lines_of old.limit (waiting old.buffer ++ more) at_end))) faulty)

  -- a line whose newline has come
  pub line_judged : (b c : LineBuffer) (n : ℕ) (new : LineReader) (result : Result Unit LineFault) → old.fault ≡ None → waiting b ≡ waiting old.buffer → IsFirstLine (waiting old.buffer) n →
      taken_line c ≡ take n (waiting b) → waiting c ≡ drop (n + 1) (waiting b) → Judges (record old { buffer = c }) new result → AdvancesLine limit bytes ended given new (Some result)
  line_judged b c n new result sound same first taken left judges =
      let w = waiting old.buffer in
      let line_is : taken_line c ≡ first.line = taken ∙ ap (take n) (same ∙ first.split) ∙ take_at first.line (10 ∷ first.rest) n first.count in
      let rest_is : waiting c ≡ first.rest =
      left ∙ ap (drop (n + 1)) (same ∙ first.split ∙ sym (append_assoc first.line (10 ∷ []) first.rest))
      ∙ drop_at (first.line ++ 10 ∷ []) first.rest (n + 1) (length-append first.line (10 ∷ []) ∙ ap (λ (m : ℕ). m + 1) first.count) in
      judged c new result judges sound
      (omega (arith, ap length first.split, length-append first.line (10 ∷ first.rest), ap length rest_is))
      (λ more at_end may.
      read_line old.limit w first.line first.rest more at_end first.inside first.split
      ∙ ap (λ (l : List ℕ). in_front (line_within old.limit l) (lines_of old.limit (first.rest ++ more) at_end)) (sym line_is)
      ∙ ap (λ (r : List ℕ). in_front (line_within old.limit (taken_line c)) (lines_of old.limit (r ++ more) at_end)) (sym rest_is))

  -- a line that is too long before its newline has come
  pub long_fails : (b : LineBuffer) (new : LineReader) (f : LineFault) → old.fault ≡ None → waiting b ≡ waiting old.buffer → list_all is_inside (waiting old.buffer) ≡ true →
      old.limit < length (waiting b) → Fails (record old { buffer = b }) new f → f.which ≡ which.Line → AdvancesLine limit bytes ended given new (Some (Err f))
  long_fails b new f sound same inside long failed kind =
      fails b new f (omega (arith, ap length same)) failed
      (λ more at_end may. sound_reading sound more at_end may ∙ ap (behind_lines s.passed) (read_long old.limit (waiting old.buffer) more at_end inside (omega (arith, ap length same)) ∙ ap fault_here (sym kind)))

  -- nothing more has come
  pub gave_all : (b : LineBuffer) → old.fault ≡ None → waiting b ≡ waiting old.buffer → list_all is_inside (waiting old.buffer) ≡ true →
      length (waiting b) ≤ old.limit → (length (waiting b) ≡ 0) ⊎ (old.ended ≡ false) → AdvancesLine limit bytes ended given (record old { buffer = b }) None
  gave_all b sound same inside short why =
      let w = waiting old.buffer in
      let nothing : lines_of old.limit (w ++ []) ended ≡ nothing_more =
      ap (λ (r : List ℕ). lines_of old.limit r ended) (append-nil w)
      ∙ read_rest old.limit w ended inside (omega (arith, ap length same))
      ∙ nothing_read old.limit w ended (reason why) in
      let here : lines_of limit bytes ended ≡ behind_lines s.passed nothing_more =
      ap (λ (r : List ℕ). lines_of limit r ended) (sym (append-nil bytes)) ∙ sound_reading sound [] ended (may_now ended) ∙ ap (behind_lines s.passed) nothing in (
        record {
          all = sym (ap (λ (r : Reading). length r.lines) here ∙ ap length (behind-lines s.passed nothing_more) ∙ ap length (append-nil s.passed) ∙ s.count);
          sound = ap (λ (r : Reading). r.fault) here ∙ behind-sound s.passed;
        },
        record {
          most = s.most;
          told = s.told;
          number = s.number;
          room = let r : given + length (waiting old.buffer) ≤ length bytes = s.room in omega (arith, ap length same);
          passed = s.passed;
          count = s.count;
          reading = λ more at_end may. s.reading more at_end may ∙ ap (λ (r : List ℕ). behind_lines s.passed (fault_or old.fault (lines_of old.limit (r ++ more) at_end))) (sym same);
        },
      )
    where
      reason : (length (waiting b) ≡ 0) ⊎ (old.ended ≡ false) → (length (waiting old.buffer) ≡ 0) ⊎ (ended ≡ false)
      reason (inl none) = inl (ap length (sym same) ∙ none)
      reason (inr going) = inr (sym s.told ∙ going)

  -- the last line, which no newline ends
  pub rest_judged : (b c : LineBuffer) (new : LineReader) (result : Result Unit LineFault) → old.fault ≡ None → waiting b ≡ waiting old.buffer → list_all is_inside (waiting old.buffer) ≡ true →
      length (waiting b) ≤ old.limit → 0 < length (waiting b) → old.ended ≡ true → taken_line c ≡ waiting b → waiting c ≡ [] → Judges (record old { buffer = c }) new result →
      AdvancesLine limit bytes ended given new (Some result)
  rest_judged b c new result sound same inside short some over taken none judges =
      judged c new result judges sound (omega (arith, ap length same, ap length none)) (at_the_end ended (sym s.told ∙ over))
    where
      at_the_end : (told : Bool) → told ≡ true → (more : List ℕ) (at_end : Bool) → MayComeBehind told more at_end →
          lines_of old.limit (waiting old.buffer ++ more) at_end ≡ in_front (line_within old.limit (taken_line c)) (lines_of old.limit (waiting c ++ more) at_end)
      at_the_end false e more at_end may = cc
      at_the_end true e more at_end may =
          ap (λ (d : List ℕ). lines_of old.limit (waiting old.buffer ++ d) at_end) may.0
          ∙ ap (λ (d : List ℕ). lines_of old.limit d at_end) (append-nil (waiting old.buffer))
          ∙ read_rest old.limit (waiting old.buffer) at_end inside (omega (arith, ap length same))
          ∙ ap (λ (v : Bool). cond v (last_line old.limit (waiting old.buffer)) nothing_more) may.1
          ∙ last_is_line old.limit (waiting old.buffer) (omega (arith, ap length same))
          ∙ ap (λ (l : List ℕ). in_front (line_within old.limit l) nothing_more) (sym (taken ∙ same))
          ∙ sym (ap (λ (r : List ℕ). in_front (line_within old.limit (taken_line c)) (lines_of old.limit (r ++ more) at_end)) none
          ∙ ap (λ (d : List ℕ). in_front (line_within old.limit (taken_line c)) (lines_of old.limit d at_end)) may.0
          ∙ ap (λ (v : Bool). in_front (line_within old.limit (taken_line c)) (lines_of old.limit [] v)) may.1
          ∙ ap (in_front (line_within old.limit (taken_line c))) (read_rest old.limit [] true refl (omega arith)))
