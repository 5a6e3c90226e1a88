-- What is sent to the diagnostic output.
use Rattle.std.proofs.Common.{◌≡◌, ◌⊎◌, inl, inr, ℕ, ◌+◌, List, [], ◌++◌, length, Result, Ok, Err, OnOk, OnErr, refl, ap, sym, ◌∙◌, subst, append-nil}
use Rattle.sx_desk.specs.Desk.{Seen, Rose}
use Rattle.sx_desk.specs.declared.desk.Failed.{Failed}
use Rattle.sx_desk.specs.declared.desk.Out.TheVariants as out
use Rattle.sx_reading.specs.Frame.{Sends}
use Rattle.sx_reading.specs.Program.{Says, IsSilent, Untouched}

-- the diagnostic output is as before
pub quiet_same : (s : Seen) → IsSilent s s
quiet_same s = record { known = record { told = λ t. t; shown = λ h. h }; write_faults = refl; written_length = λ t. refl; written = λ t h. refl }

-- a line that is sent where the diagnostic output is as before
pub says_after : (line : List ℕ) (old mid new : Seen) (r : Result (Unit {0}) Failed) → IsSilent old mid → Sends out.Diagnostic line mid new r → Says line old new
says_after line old mid new r q sends =
    let sending = sends.some.1 in
    let known = (sending.frame 0).known in
    record {
      told = λ t.
          let front = (sending.told t).0 in
          let x = (sending.told t).1 in
          let tm = known.told t in (
            front,
            (sends.some.0, x.parts),
            x.written_length ∙ ap (λ (k : ℕ). k + length front) (q.written_length tm),
            whole r front x.parts sends.some.2 sends.failed,
            λ h. x.written h ∙ ap (λ (w : List ℕ). w ++ front) (q.written tm (known.shown h)),
          );
    }
  where
    whole : (r : Result (Unit {0}) Failed) (front : List ℕ) → front ++ sends.some.0 ≡ line → OnOk r (sends.some.0 ≡ []) → OnErr r (Rose (mid.write_faults out.Diagnostic) (new.write_faults out.Diagnostic))
        → (front ≡ line) ⊎ Rose (old.write_faults out.Diagnostic) (new.write_faults out.Diagnostic)
    whole (Ok u) front parts all rose = inl (sym (append-nil front) ∙ ap (λ (x : List ℕ). front ++ x) (sym all) ∙ parts)
    whole (Err e) front parts all rose = inr (subst (λ (k : ℕ). Rose k (new.write_faults out.Diagnostic)) q.write_faults rose)

-- a line that is sent touches no file and not the result
pub untouched_after : (line : List ℕ) (old new : Seen) (r : Result (Unit {0}) Failed) → Sends out.Diagnostic line old new r → Untouched old new
untouched_after line old new r sends =
    let sending = sends.some.1 in
    let f = sending.frame 0 in
    record {
      known = f.known;
      count = f.count;
      open_faults = f.open_faults;
      read_faults = sending.read_faults;
      write_faults = f.other_faults out.Result (λ e. cc);
      told = λ t.
          let x = f.told t in
          let s = (sending.told t).1 in
          record { content = x.content; opened = x.opened; asked = x.asked; taken = s.taken; written_length = x.other_length out.Result (λ e. cc) };
      shown = λ t h.
          let s = (sending.told t).1 in
          record { marks = s.marks h; written = (f.shown t h).other_written out.Result (λ e. cc) };
    }

-- this line was sent where the diagnostic output was as before
pub says_line : (line line' : List ℕ) (old done mid new : Seen) (r : Result (Unit {0}) Failed) → line ≡ line' → mid ≡ done → IsSilent old done → Sends out.Diagnostic line mid new r → Says line' old new
says_line line line' old done mid new r same_line same_desk q sends =
    subst (λ (x : List ℕ). Says x old new) same_line (says_after line old done new r q (subst (λ (x : Seen). Sends out.Diagnostic line x new r) same_desk sends))
