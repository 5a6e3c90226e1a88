-- Frames, one call after another.
use Rattle.std.proofs.Common.{◌≡◌, ℕ, ◌+◌, ◌≤◌, List, ◌++◌, length, take, drop, refl, ap, ◌∙◌, le_trans, arith, Result, Ok, Err, append_assoc, length-append, length-take, take-append-drop}
use Rattle.sx_desk.specs.Desk.{Seen, Rose, Reads, Writes}
use Rattle.sx_desk.specs.declared.desk.Failed.{Failed}
use Rattle.sx_desk.specs.declared.desk.Out.{Out}
use Rattle.sx_reading.specs.Frame.{Frame, Sending, Sends}

pub same : (file : ℕ) (out : Out) (s : Seen) → Frame file out s s
same file out s = record {
  known = record { told = λ t. t; shown = λ t. t };
  count = refl;
  open_faults = refl;
  other_faults = λ o n. refl;
  read_later = omega arith;
  write_later = omega arith;
  told = λ t. record { content = λ n. refl; opened = refl; asked = refl; others = λ f n. refl; other_length = λ o n. refl };
  shown = λ t h. record { others = λ f n. refl; other_written = λ o n. refl };
}

pub then : {file : ℕ} {out : Out} {a b c : Seen} → Frame file out a b → Frame file out b c → Frame file out a c
then f g = record {
  known = record { told = λ t. f.known.told (g.known.told t); shown = λ h. f.known.shown (g.known.shown h) };
  count = g.count ∙ f.count;
  open_faults = g.open_faults ∙ f.open_faults;
  other_faults = λ o n. g.other_faults o n ∙ f.other_faults o n;
  read_later = le_trans f.read_later g.read_later;
  write_later = le_trans f.write_later g.write_later;
  told = λ t.
      let y = g.told t in
      let x = f.told (g.known.told t) in
      record {
        content = λ n. y.content n ∙ x.content n;
        opened = y.opened ∙ x.opened;
        asked = y.asked ∙ x.asked;
        others = λ n d. y.others n d ∙ x.others n d;
        other_length = λ o d. y.other_length o d ∙ x.other_length o d;
      };
  shown = λ t h.
      let y = g.shown t h in
      let x = f.shown (g.known.told t) (g.known.shown h) in
      record {
        others = λ n d. y.others n d ∙ x.others n d;
        other_written = λ o d. y.other_written o d ∙ x.other_written o d;
      };
}

pub of_read : (file : ℕ) (out : Out) (old new : Seen) (buf : List ℕ) (result : Result ℕ Failed) → Reads file old new buf result → Frame file out old new
of_read file out old new buf result r =
    let same_faults : new.write_faults out ≡ old.write_faults out = r.write_faults out in
    record {
      known = r.known;
      count = r.count;
      open_faults = r.open_faults;
      other_faults = λ o n. r.write_faults o;
      read_later = r.cause.later;
      write_later = omega arith;
      told = λ t.
          let x = r.told t in
          record { content = x.content; opened = x.opened; asked = x.asked; others = x.others; other_length = λ o n. x.written_length o };
      shown = λ t h.
          let x = r.shown t h in
          record { others = x.others; other_written = λ o n. x.written o };
    }

pub of_write : (file : ℕ) (out : Out) (piece : List ℕ) (old new : Seen) (result : Result ℕ Failed) → Writes out piece old new result → Frame file out old new
of_write file out piece old new result w = record {
  known = w.known;
  count = w.count;
  open_faults = w.open_faults;
  other_faults = w.other_faults;
  read_later = omega (arith, w.read_faults);
  write_later = w.cause.later;
  told = λ t.
      let x = w.told t in
      record { content = x.content; opened = x.opened; asked = x.asked; others = λ f n. x.taken f; other_length = x.others };
  shown = λ t h.
      let x = w.shown t h in
      record { others = λ f n. x.marks f; other_written = x.others };
}

-- what a write took is sent too
pub sent_more : (out : Out) (piece rest : List ℕ) (start old new : Seen) (n : ℕ) → Sending out piece rest start old → Writes out rest old new (Ok n) → Sending out piece (drop n rest) start new
sent_more out piece rest start old new n so w = record {
  frame = λ file. then (so.frame file) (of_write file out rest old new (Ok n) w);
  read_faults = w.read_faults ∙ so.read_faults;
  told = λ t.
      let x = so.told (w.known.told t) in
      let s = x.1 in
      let y = w.told t in
      let within : n ≤ length rest = w.at_most in
      let counted : start.written_length out + length x.0 + n ≡ start.written_length out + length (x.0 ++ take n rest) =
      omega (arith, length-append x.0 (take n rest), length-take n rest) in (
        x.0 ++ take n rest,
        record {
          parts = append_assoc x.0 (take n rest) (drop n rest) ∙ ap (λ (r : List ℕ). x.0 ++ r) (take-append-drop n rest) ∙ s.parts;
          written_length = y.written_length ∙ ap (λ (k : ℕ). k + n) s.written_length ∙ counted;
          taken = λ f. y.taken f ∙ s.taken f;
          written = λ h.
              let z = w.shown t h in
              z.appended ∙ ap (λ (r : List ℕ). r ++ take n rest) (s.written (w.known.shown h)) ∙ append_assoc (start.written out) x.0 (take n rest);
          marks = λ h f. (w.shown t h).marks f ∙ s.marks (w.known.shown h) f;
        },
      );
}

-- a write that failed took nothing
pub send_failed : (out : Out) (piece rest : List ℕ) (start old new : Seen) (e e' : Failed) → Sending out piece rest start old → Writes out rest old new (Err e) → Sends out piece start new (Err e')
send_failed out piece rest start old new e e' so w = record {
  some = (
    rest,
    record {
      frame = λ file. then (so.frame file) (of_write file out rest old new (Err e) w);
      read_faults = w.read_faults ∙ so.read_faults;
      told = λ t.
          let x = so.told (w.known.told t) in
          let s = x.1 in
          let y = w.told t in (
            x.0,
            record {
              parts = s.parts;
              written_length = y.nothing ∙ s.written_length;
              taken = λ f. y.taken f ∙ s.taken f;
              written = λ h. (w.shown t h).nothing ∙ s.written (w.known.shown h);
              marks = λ h f. (w.shown t h).marks f ∙ s.marks (w.known.shown h) f;
            },
          );
    },
    tt,
  );
  failed =
      let rose : Rose (old.write_faults out) (new.write_faults out) = w.cause.failed in
      let later = (so.frame 0).write_later in
      let goal : Rose (start.write_faults out) (new.write_faults out) = omega arith in
      goal;
}
