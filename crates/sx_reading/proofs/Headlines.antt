-- From the loop to what a call does that opens a file.
use Rattle.std.proofs.Common.{◌≡◌, ◌≢◌, ℕ, suc, ◌+◌, ◌<◌, ◌≤◌, Bool, IsTrue, List, [], ◌∷◌, ◌++◌, length, take, slice_get, Option, Some, option_and_then, unwrap_or, Ok, ◌↔◌, refl, ap, sym, ◌∙◌, subst, arith}
use Rattle.sx_desk.specs.Desk.{Seen, Rose, Opens, bytes_of}
use Rattle.sx_desk.specs.declared.desk.Out.TheVariants as out
use Rattle.sx_reading.specs.Transforming.{WrittenFor, OutcomeFor, RiseTo, StepTo, HasMark, MarksStand, Answers, Transforms, ToldEnd}
use Rattle.sx_reading.specs.Headline.{Ran, Opened, OpensOrNot, Headline}
use Rattle.sx_reading.specs.Program.{Untouched}
use Rattle.sx_reading.specs.declared.status.Status.{Status}
use Rattle.sx_reading.specs.declared.status.Status.TheVariants as status

get_last : (names : List (List ℕ)) (name : List ℕ) → slice_get (names ++ name ∷ []) (length names) ≡ Some name
get_last [] name = refl
get_last (n ∷ ns) name = get_last ns name

-- a file that was opened has the bytes of its name
pub opened_bytes : (name : List ℕ) (old mid : Seen) (file : ℕ) → Opens name old mid (Ok file) → IsTrue mid.told → bytes_of mid file ≡ unwrap_or (old.content name) []
opened_bytes name old mid file opens t =
    let x = opens.told t in
    let number : file ≡ length old.opened = opens.number in
    let names : mid.opened ≡ old.opened ++ name ∷ [] = x.opened in
    let found : slice_get mid.opened file ≡ Some name =
    ap (λ (ns : List (List ℕ)). slice_get ns file) names ∙ ap (λ (k : ℕ). slice_get (old.opened ++ name ∷ []) k) number ∙ get_last old.opened name in
    ap (λ (o : Option (List ℕ)). unwrap_or (option_and_then mid.content o) []) found ∙ ap (λ (o : Option (List ℕ)). unwrap_or o []) (x.content name)

earlier : (f file count : ℕ) → f < count → file ≡ count → f ≢ file
earlier f file count lt at e = omega arith

module _ (written : WrittenFor) (outcome : OutcomeFor) where
  opened_so : (name : List ℕ) (old new : Seen) (s : Status) → s ≢ status.OpenFault → Opened written outcome name old new s → OpensOrNot written outcome name old new s
  opened_so name old new status.Ok n x = x
  opened_so name old new status.Usage n x = x
  opened_so name old new (status.Static c l) n x = x
  opened_so name old new (status.Dynamic c) n x = x
  opened_so name old new (status.Malformed i f) n x = x
  opened_so name old new status.OpenFault n x = absurd (n refl)
  opened_so name old new status.ReadFault n x = x
  opened_so name old new status.WriteFault n x = x
  opened_so name old new (status.Limit i f) n x = x
  opened_so name old new status.OutOfMemory n x = x

  -- what was known from the opening on is known from before it
  ran_of : (name : List ℕ) (old mid new : Seen) (file : ℕ) (s : Status) (ended : Bool) (w : List ℕ) → Opens name old mid (Ok file) → IsTrue mid.told → (IsTrue new.shown → IsTrue mid.shown) → ToldEnd written outcome file mid new s ended w
      → Ran written outcome (bytes_of mid file) file old new s ended w
  ran_of name old mid new file s ended w opens t known end =
      let length_kept : mid.written_length out.Result ≡ old.written_length out.Result = (opens.told t).written_length out.Result in
      record {
        within = end.within;
        end = end.end;
        written_length = end.written_length ∙ ap (λ (k : ℕ). k + length w) length_kept;
        answer = end.answer;
        shown = λ h.
            let x = end.shown h in
            let o = opens.shown t (known h) in
            let added = x.marks.0 in
            let m = x.marks.1 in
            let fresh : mid.marks file ≡ [] = o.fresh in
            let same : added ≡ new.marks file = sym (m.all ∙ ap (λ (ms : List (ℕ × ℕ)). ms ++ added) fresh) in
            record {
              bytes = x.bytes ∙ ap (λ (r : List ℕ). r ++ w) (o.written out.Result);
              stand = subst (λ (ms : List (ℕ × ℕ)). MarksStand written outcome (bytes_of mid file) (old.written_length out.Result) w ms) same
                  (subst (λ (k : ℕ). MarksStand written outcome (bytes_of mid file) k w added) length_kept m.stand);
              rise = subst (λ (ms : List (ℕ × ℕ)). RiseTo ms (suc (new.taken file))) same m.rise;
              steps = subst (λ (ms : List (ℕ × ℕ)). StepTo ms (new.taken file)) same m.steps;
              last_read = subst (λ (ms : List (ℕ × ℕ)). IsTrue ended ↔ ((s ≢ status.ReadFault) × HasMark (length (bytes_of mid file)) ms)) same x.marks.2;
            };
      }

  -- a file that was opened was run
  pub run_of : (name : List ℕ) (old mid new : Seen) (file : ℕ) (s : Status) → Opens name old mid (Ok file) → Transforms written outcome file mid new s → Headline written outcome name old new s
  run_of name old mid new file s opens run =
      let f = run.frame in
      let number : file ≡ length old.opened = opens.number in
      record {
        known = record { told = λ t. opens.known.told (f.known.told t); shown = λ h. opens.known.shown (f.known.shown h) };
        not_usage = run.kind.0;
        not_static = run.kind.2;
        open_fault = λ q. absurd (run.kind.1 q);
        read_fault = λ q. subst (λ (k : ℕ). Rose k new.read_faults) opens.read_faults (run.read_fault q);
        write_fault = λ q. subst (λ (k : ℕ). Rose k (new.write_faults out.Result)) (opens.write_faults out.Result) (run.write_fault q);
        count = (λ n. f.count ∙ opens.count, λ q. absurd (run.kind.1 q));
        told = λ t.
            let tm = f.known.told t in
            let o = opens.told tm in
            let x = f.told t in
            let end = run.told t in
            let ran = ran_of name old mid new file s end.0 end.1 opens tm f.known.shown end.2 in
            record {
              content = λ n. x.content n ∙ o.content n;
              asked = x.asked ∙ o.asked;
              others = λ k lt. x.others k (earlier k file (length old.opened) lt number) ∙ o.taken k lt;
              other_marks = λ h k lt. (f.shown t h).others k (earlier k file (length old.opened) lt number) ∙ (opens.shown tm (f.known.shown h)).marks k lt;
              run = opened_so name old new s run.kind.1 (record {
                opened = x.opened ∙ o.opened;
                found = o.found;
                ran = (
                  end.0,
                  end.1,
                  subst (λ (k : ℕ). Ran written outcome (unwrap_or (old.content name) []) k old new s end.0 end.1) number
                      (subst (λ (c : List ℕ). Ran written outcome c file old new s end.0 end.1) (opened_bytes name old mid file opens tm) ran),
                );
              });
            };
      }

  -- what was not touched any more stands
  ran_after : (c : List ℕ) (file : ℕ) (old mid new : Seen) (s : Status) (ended : Bool) (w : List ℕ) → Untouched mid new → IsTrue new.told → Ran written outcome c file old mid s ended w → Ran written outcome c file old new s ended w
  ran_after c file old mid new s ended w u t ran =
      let x = u.told t in
      let taken : mid.taken file ≡ new.taken file = sym (x.taken file) in
      record {
        within = subst (λ (k : ℕ). k ≤ length c) taken ran.within;
        end = λ e. x.taken file ∙ ran.end e;
        written_length = x.written_length ∙ ran.written_length;
        answer = subst (λ (k : ℕ). Answers written outcome s (take k c) ended w) taken ran.answer;
        shown = λ h.
            let y = u.shown t h in
            let before = ran.shown (u.known.shown h) in
            let marks : mid.marks file ≡ new.marks file = sym (y.marks file) in
            record {
              bytes = y.written ∙ before.bytes;
              stand = subst (λ (ms : List (ℕ × ℕ)). MarksStand written outcome c (old.written_length out.Result) w ms) marks before.stand;
              rise = subst (λ (ms : List (ℕ × ℕ)). RiseTo ms (suc (new.taken file))) marks (subst (λ (k : ℕ). RiseTo (mid.marks file) (suc k)) taken before.rise);
              steps = subst (λ (ms : List (ℕ × ℕ)). StepTo ms (new.taken file)) marks (subst (λ (k : ℕ). StepTo (mid.marks file) k) taken before.steps);
              last_read = subst (λ (ms : List (ℕ × ℕ)). IsTrue ended ↔ ((s ≢ status.ReadFault) × HasMark (length c) ms)) marks before.last_read;
            };
      }

  opened_after : (name : List ℕ) (old mid new : Seen) (s : Status) → Untouched mid new → IsTrue new.told → Opened written outcome name old mid s → Opened written outcome name old new s
  opened_after name old mid new s u t o = record {
    opened = (u.told t).opened ∙ o.opened;
    found = o.found;
    ran = (o.ran.0, o.ran.1, ran_after (unwrap_or (old.content name) []) (length old.opened) old mid new s o.ran.0 o.ran.1 u t o.ran.2);
  }

  run_after : (name : List ℕ) (old mid new : Seen) (s : Status) → Untouched mid new → IsTrue new.told → OpensOrNot written outcome name old mid s → OpensOrNot written outcome name old new s
  run_after name old mid new status.Ok u t x = opened_after name old mid new status.Ok u t x
  run_after name old mid new status.Usage u t x = opened_after name old mid new status.Usage u t x
  run_after name old mid new (status.Static c l) u t x = opened_after name old mid new (status.Static c l) u t x
  run_after name old mid new (status.Dynamic c) u t x = opened_after name old mid new (status.Dynamic c) u t x
  run_after name old mid new (status.Malformed i f) u t x = opened_after name old mid new (status.Malformed i f) u t x
  run_after name old mid new status.OpenFault u t x =
      let y = u.told t in
      record {
        opened = y.opened ∙ x.opened;
        written_length = y.written_length ∙ x.written_length;
        bytes = λ h. (u.shown t h).written ∙ x.bytes (u.known.shown h);
      }
  run_after name old mid new status.ReadFault u t x = opened_after name old mid new status.ReadFault u t x
  run_after name old mid new status.WriteFault u t x = opened_after name old mid new status.WriteFault u t x
  run_after name old mid new (status.Limit i f) u t x = opened_after name old mid new (status.Limit i f) u t x
  run_after name old mid new status.OutOfMemory u t x = opened_after name old mid new status.OutOfMemory u t x

  -- what does not touch a file or the result leaves the headline as it is
  pub untouched_then : (name : List ℕ) (old mid new : Seen) (s : Status) → Headline written outcome name old mid s → Untouched mid new → Headline written outcome name old new s
  untouched_then name old mid new s run u = record {
    known = record { told = λ t. run.known.told (u.known.told t); shown = λ h. run.known.shown (u.known.shown h) };
    not_usage = run.not_usage;
    not_static = run.not_static;
    open_fault = λ q. subst (λ (k : ℕ). Rose old.open_faults k) (sym u.open_faults) (run.open_fault q);
    read_fault = λ q. subst (λ (k : ℕ). Rose old.read_faults k) (sym u.read_faults) (run.read_fault q);
    write_fault = λ q. subst (λ (k : ℕ). Rose (old.write_faults out.Result) k) (sym u.write_faults) (run.write_fault q);
    count = (λ n. u.count ∙ run.count.0 n, λ q. u.count ∙ run.count.1 q);
    told = λ t.
        let before = run.told (u.known.told t) in
        let x = u.told t in
        record {
          content = λ n. x.content n ∙ before.content n;
          asked = x.asked ∙ before.asked;
          others = λ k lt. x.taken k ∙ before.others k lt;
          other_marks = λ h k lt. (u.shown t h).marks k ∙ before.other_marks (u.known.shown h) k lt;
          run = run_after name old mid new s u t before.run;
        };
  }

  one_more : (name : List ℕ) (old new : Seen) (s : Status) → s ≢ status.OpenFault → Headline written outcome name old new s → length new.opened ≤ length old.opened + 1
  one_more name old new s opened run = let e = run.count.0 opened in omega (arith, e)

  -- a call opens one file at most
  pub opens_one : (name : List ℕ) (old new : Seen) (s : Status) → Headline written outcome name old new s → length new.opened ≤ length old.opened + 1
  opens_one name old new status.Ok run = one_more name old new status.Ok (λ e. cc) run
  opens_one name old new status.Usage run = one_more name old new status.Usage (λ e. cc) run
  opens_one name old new (status.Static c l) run = one_more name old new (status.Static c l) (λ e. cc) run
  opens_one name old new (status.Dynamic c) run = one_more name old new (status.Dynamic c) (λ e. cc) run
  opens_one name old new (status.Malformed i f) run = one_more name old new (status.Malformed i f) (λ e. cc) run
  opens_one name old new status.OpenFault run = let e = run.count.1 refl in omega (arith, e)
  opens_one name old new status.ReadFault run = one_more name old new status.ReadFault (λ e. cc) run
  opens_one name old new status.WriteFault run = one_more name old new status.WriteFault (λ e. cc) run
  opens_one name old new (status.Limit i f) run = one_more name old new (status.Limit i f) (λ e. cc) run
  opens_one name old new status.OutOfMemory run = one_more name old new status.OutOfMemory (λ e. cc) run

  -- a call that succeeds opens a file
  pub opens_some : (name : List ℕ) (old new : Seen) → Headline written outcome name old new status.Ok → 0 < length new.opened
  opens_some name old new run = let e = run.count.0 (λ q. cc) in omega (arith, e)
