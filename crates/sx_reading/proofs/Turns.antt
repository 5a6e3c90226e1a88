-- A transformation, from call to call.
use Rattle.std.proofs.Common.{◌≡◌, ◌≢◌, ◌⊎◌, inl, inr, ℕ, suc, ◌+◌, ◌^◌, ◌<◌, ◌≤◌, Bool, true, false, cond, IsTrue, List, [], ◌∷◌, ◌++◌, length, take, drop, slice_get, Option, Some, None, option_and_then, unwrap_or, Ok, Err, refl, ap, ap₂, sym, ◌∙◌, subst, arith, append_assoc, append-nil, length-append, length-drop}
use Rattle.std.proofs.Math.Seq.{take-add}
use Rattle.std.proofs.lemmas.Bool.{false≢true}
use Rattle.std.proofs.lemmas.List.{take_all}
use Rattle.sx_atoms.specs.declared.error_codes.Code.{Code}
use Rattle.sx_desk.specs.Desk.{Seen, Rose, Reads, TookNext, bytes_of}
use Rattle.sx_desk.specs.declared.desk.Failed.{Failed}
use Rattle.sx_desk.specs.declared.desk.Out.TheVariants as out
use Rattle.sx_limits.specs.Faults.{is_limit}
use Rattle.sx_limits.specs.declared.faults.DocFault.{DocFault}
use Rattle.sx_reading.specs.Frame.{Sent, Sends}
use Rattle.sx_reading.specs.Transforming.{WrittenFor, OutcomeFor, IsMeaning, Grows, RiseTo, most_read, StepTo, HasMark, Comes, IsCaused, Answers, Transforms, ToldEnd, ToldLeft, status_of}
use Rattle.sx_reading.specs.Turn.{is_end, ToldMid, Fed, Running, Stops, AfterFlush, AfterTurn}
use Rattle.sx_reading.specs.declared.consumer.Outcome.{Outcome}
use Rattle.sx_reading.specs.declared.consumer.Outcome.TheVariants as outcomes
use Rattle.sx_reading.specs.declared.status.Input.{Input}
use Rattle.sx_reading.specs.declared.status.Status.{Status}
use Rattle.sx_reading.specs.declared.status.Status.TheVariants as status
use Rattle.sx_reading.proofs.Frames.{same, then, of_read}
use Rattle.sx_reading.proofs.Marks.{stand_longer, stand_snoc, rise_snoc, rise_weaker, step_snoc, none_above, has_snoc, split_snoc, EndIs, end_is}

same_bytes : (f g : List ℕ → Option (List ℕ)) (o : Option (List ℕ)) → ((n : List ℕ) → f n ≡ g n) → unwrap_or (option_and_then f o) [] ≡ unwrap_or (option_and_then g o) []
same_bytes f g None e = refl
same_bytes f g (Some n) e = ap (λ (o : Option (List ℕ)). unwrap_or o []) (e n)

-- a file keeps its bytes
pub bytes_kept : (file : ℕ) (old new : Seen) → ((n : List ℕ) → new.content n ≡ old.content n) → new.opened ≡ old.opened → bytes_of new file ≡ bytes_of old file
bytes_kept file old new content opened =
    ap (λ (names : List (List ℕ)). unwrap_or (option_and_then new.content (slice_get names file)) []) opened
    ∙ same_bytes new.content old.content (slice_get old.opened file) content

none_came : (e : Bool) (n : ℕ) → EndIs e n → IsTrue e → n ≡ 0
none_came true n is h = is
none_came false n is h = absurd (false≢true h)

has_ended : (e : Bool) (n : ℕ) → EndIs e n → n ≡ 0 → IsTrue e
has_ended true n is z = refl
has_ended false n is z = absurd (omega arith)

pub some_came : (e : Bool) (n : ℕ) → EndIs e n → e ≡ false → 1 ≤ n
some_came true n is h = absurd (false≢true (sym h))
some_came false n is h = is

below_limit : (e : Bool) (n t t1 : ℕ) → EndIs e n → t1 ≡ t + n → t < cond e (suc t1) t1
below_limit true n t t1 is at = omega arith
below_limit false n t t1 is at = omega arith

limit_le : (e : Bool) (t : ℕ) → cond e (suc t) t ≤ suc t
limit_le true t = omega arith
limit_le false t = omega arith

take_none : (xs : List ℕ) → take 0 xs ≡ []
take_none [] = refl
take_none (x ∷ xs) = refl

by_place : {A C P : Type 0} → A ⊎ C → (A → P) → (C → P) → P
by_place (inl a) f g = f a
by_place (inr b) f g = g b

-- a status that is none of a fault of words or files, and none of an error in the stylesheet
abbrev IsOfBytes : Status → Type 0
IsOfBytes s = (s ≢ status.Usage) × (s ≢ status.OpenFault) × ((c : Code) (l : ℕ) → s ≢ status.Static c l) × (s ≢ status.ReadFault) × (s ≢ status.WriteFault)

broken_no_fault : (i : Input) (f : DocFault) (limit : Bool) → IsOfBytes (cond limit (status.Limit i f) (status.Malformed i f))
broken_no_fault i f true = (λ q. cc, λ q. cc, λ c l q. cc, λ q. cc, λ q. cc)
broken_no_fault i f false = (λ q. cc, λ q. cc, λ c l q. cc, λ q. cc, λ q. cc)

no_fault : (o : Outcome) → IsOfBytes (status_of o)
no_fault outcomes.Done = (λ q. cc, λ q. cc, λ c l q. cc, λ q. cc, λ q. cc)
no_fault (outcomes.Dynamic c) = (λ q. cc, λ q. cc, λ c l q. cc, λ q. cc, λ q. cc)
no_fault (outcomes.Broken i f) = broken_no_fault i f (is_limit f.which)

-- a consumer that was told of the end was fed the whole file
pub whole_input : (file : ℕ) (old new : Seen) (input : List ℕ) (ended : Bool) (taken : List ℕ) → ToldLeft file old new input ended taken → IsTrue ended → input ≡ bytes_of old file
whole_input file old new input ended taken left h =
    let all : new.taken file ≡ length (bytes_of old file) = left.end h in
    left.input_is ∙ take_all (new.taken file) (bytes_of old file) (omega arith)

module _ (written : WrittenFor) (outcome : OutcomeFor) where
  -- a read leaves what was written, and adds a mark
  mid_more : (e : Bool) (file n : ℕ) (start s0 s1 : Seen) (b buf : List ℕ) → EndIs e n → n ≤ most_read → Running written outcome file start s0 b → Reads file s0 s1 buf (Ok n) → IsTrue s1.told →
      ToldMid written outcome file start s1 e (written b false)
  mid_more e file n start s0 s1 b buf is few run read t1 =
      let t0 = read.known.told t1 in
      let told = read.told t1 in
      let next : TookNext file s0 s1 buf n = told.next in
      let mid = run.fed.told t0 in
      let c = bytes_of start file in
      let t = s0.taken file in
      let w = written b false in
      let these : b ≡ take t c = run.fed.taken t0 in
      let kept = run.fed.frame.told t0 in
      let same = bytes_kept file start s0 kept.content kept.opened in
      let at : s1.taken file ≡ t + n = next.taken in
      let within : n ≤ length (drop t c) = subst (λ (r : List ℕ). n ≤ length (drop t r)) same next.within in
      let last : n ≡ 0 → length c ≤ t = λ z. subst (λ (r : List ℕ). length r ≤ t) same (next.end z) in
      let so_far = mid.within in
      record {
        within = omega (arith, length-drop t c);
        end = λ h.
            let z = none_came e n is h in
            let l = last z in
            omega arith;
        written_length = told.written_length out.Result ∙ mid.written_length;
        shown = λ h1.
            let h0 = read.known.shown h1 in
            let shown = read.shown t1 h1 in
            let before = mid.shown h0 in
            let added = before.marks.0 in
            let m = before.marks.1 in
            let point : ℕ × ℕ = (t, s0.written_length out.Result) in
            record {
              bytes = shown.written out.Result ∙ before.bytes;
              marks = (
                added ++ point ∷ [],
                record {
                  all = shown.marked ∙ ap (λ (ms : List (ℕ × ℕ)). ms ++ point ∷ []) m.all ∙ append_assoc (start.marks file) added (point ∷ []);
                  stand = stand_snoc written outcome c (start.written_length out.Result) w added point m.stand (record {
                    count = mid.written_length ∙ ap (λ (r : List ℕ). start.written_length out.Result + length (written r false)) these;
                    front = ([], append-nil (written (take t c) false) ∙ ap (λ (r : List ℕ). written r false) (sym these));
                    going = ap (λ (r : List ℕ). outcome r false) (sym these) ∙ run.going;
                  });
                  rise = rise_snoc added point (cond e (suc (s1.taken file)) (s1.taken file)) m.rise (below_limit e n t (s1.taken file) is at);
                  steps = step_snoc added point (s1.taken file) m.steps (omega (arith, few, at));
                },
                (
                  λ h.
                      let z = none_came e n is h in
                      let l = last z in
                      let full : t ≡ length c = omega arith in
                      subst (λ (k : ℕ). HasMark k (added ++ point ∷ [])) full (has_snoc added point),
                  λ has.
                      by_place (split_snoc added point (length c) has)
                      (λ old. absurd (none_above added t (length c) m.rise so_far old))
                      (λ full.
                      let z : n ≡ 0 = omega (arith, length-drop t c) in
                      has_ended e n is z),
                ),
              );
            };
      }

  -- bytes that were read are fed
  pub read_feeds : (file n : ℕ) (start s0 s1 : Seen) (b buf : List ℕ) → Running written outcome file start s0 b → Reads file s0 s1 buf (Ok n) → n ≤ length buf → n ≤ most_read →
      Fed written outcome file start s1 (b ++ take n buf) (is_end (take n buf)) (written b false)
  read_feeds file n start s0 s1 b buf run read le few = record {
    frame = then run.fed.frame (of_read file out.Result s0 s1 buf (Ok n) read);
    taken = λ t1.
        let t0 = read.known.told t1 in
        let next : TookNext file s0 s1 buf n = (read.told t1).next in
        let c = bytes_of start file in
        let t = s0.taken file in
        let kept = run.fed.frame.told t0 in
        let same = bytes_kept file start s0 kept.content kept.opened in
        ap₂ (λ (x y : List ℕ). x ++ y) (run.fed.taken t0) (next.bytes ∙ ap (λ (r : List ℕ). take n (drop t r)) same) ∙ sym (take-add t n c) ∙ ap (λ (k : ℕ). take k c) (sym next.taken);
    told = λ t1. mid_more (is_end (take n buf)) file n start s0 s1 b buf (end_is n buf le) few run read t1;
  }

  -- what is sent comes behind
  sent_mid : (file : ℕ) (start s1 s2 : Seen) (e : Bool) (w piece front rest : List ℕ) → ToldMid written outcome file start s1 e w → Sent out.Result piece front rest s1 s2 → (IsTrue s2.shown → IsTrue s1.shown) → ToldMid written outcome file start s2 e (w ++ front)
  sent_mid file start s1 s2 e w piece front rest mid x known =
      let same = x.taken file in
      let so_far = mid.within in
      let sent1 = mid.written_length in
      let sent2 = x.written_length in
      record {
        within = omega arith;
        end = λ h. same ∙ mid.end h;
        written_length = omega (arith, length-append w front);
        shown = λ h.
            let before = mid.shown (known h) in
            let m = before.marks.1 in
            record {
              bytes = x.written h ∙ ap (λ (r : List ℕ). r ++ front) before.bytes ∙ append_assoc (start.written out.Result) w front;
              marks = (
                before.marks.0,
                record {
                  all = x.marks h file ∙ m.all;
                  stand = stand_longer written outcome (bytes_of start file) (start.written_length out.Result) w front before.marks.0 m.stand;
                  rise = subst (λ (t : ℕ). RiseTo before.marks.0 (cond e (suc t) t)) (sym same) m.rise;
                  steps = subst (λ (t : ℕ). StepTo before.marks.0 t) (sym same) m.steps;
                },
                before.marks.2,
              );
            };
      }

  finished : (file : ℕ) (start now : Seen) (s : Status) (e : Bool) (w : List ℕ) → s ≢ status.ReadFault → ToldMid written outcome file start now e w → Answers written outcome s (take (now.taken file) (bytes_of start file)) e w → ToldEnd written outcome file start now s e w
  finished file start now s e w no_read_fault mid answer = record {
    within = mid.within;
    end = mid.end;
    written_length = mid.written_length;
    answer = answer;
    shown = λ h.
        let before = mid.shown h in
        let m = before.marks.1 in
        record {
          bytes = before.bytes;
          marks = (
            before.marks.0,
            record {
              all = m.all;
              stand = m.stand;
              rise = rise_weaker before.marks.0 (cond e (suc (now.taken file)) (now.taken file)) (suc (now.taken file)) (limit_le e (now.taken file)) m.rise;
              steps = m.steps;
            },
            (λ ended. (no_read_fault, before.marks.2.0 ended), λ both. before.marks.2.1 both.1),
          );
        };
  }

  -- memory was wanting while the bytes were fed
  pub memory_wanting : (file : ℕ) (start now : Seen) (b d : List ℕ) (e : Bool) → Grows written → Fed written outcome file start now (b ++ d) e (written b false) → Transforms written outcome file start now status.OutOfMemory
  memory_wanting file start now b d e grows fed = record {
    frame = fed.frame;
    kind = (λ q. cc, λ q. cc, λ c l q. cc);
    cause = tt;
    read_fault = λ q. cc;
    write_fault = λ q. cc;
    told = λ t.
        let more = grows b d e in (
          e,
          written b false,
          finished file start now status.OutOfMemory e (written b false) (λ q. cc) (fed.told t)
              (more.0, sym more.1 ∙ ap (λ (r : List ℕ). written r e) (fed.taken t)),
        );
  }

  -- the output was sent whole
  module _ (file : ℕ) (start s1 s2 : Seen) (b w output : List ℕ) (e : Bool) (fed : Fed written outcome file start s1 b e w) (whole : w ++ output ≡ written b e) where
    pub flush_fails : (f : Failed) → Sends out.Result output s1 s2 (Err f) → Transforms written outcome file start s2 status.WriteFault
    flush_fails f sends =
        let sending = sends.some.1 in
        let known = (sending.frame file).known in
        record {
          frame = then fed.frame (sending.frame file);
          kind = (λ q. cc, λ q. cc, λ c l q. cc);
          cause = tt;
          read_fault = λ q. cc;
          write_fault = λ q.
              let later = fed.frame.write_later in
              let rose : Rose (s1.write_faults out.Result) (s2.write_faults out.Result) = sends.failed in
              let goal : Rose (start.write_faults out.Result) (s2.write_faults out.Result) = omega arith in
              goal;
          told = λ t2.
              let t1 = known.told t2 in
              let front = (sending.told t2).0 in
              let x = (sending.told t2).1 in
              let mid = sent_mid file start s1 s2 e w output front sends.some.0 (fed.told t1) x known.shown in
              let parts : (w ++ front) ++ sends.some.0 ≡ written (take (s2.taken file) (bytes_of start file)) e =
              append_assoc w front sends.some.0 ∙ ap (λ (r : List ℕ). w ++ r) x.parts ∙ whole
              ∙ ap (λ (r : List ℕ). written r e) (fed.taken t1) ∙ ap (λ (k : ℕ). written (take k (bytes_of start file)) e) (sym (x.taken file)) in
              (e, w ++ front, finished file start s2 status.WriteFault e (w ++ front) (λ q. cc) mid (sends.some.0, parts));
        }

    -- all that can be written was written
    pub flushed : Sends out.Result output s1 s2 (Ok tt) → Fed written outcome file start s2 b e (written b e)
    flushed sends =
        let sending = sends.some.1 in
        let known = (sending.frame file).known in
        record {
          frame = then fed.frame (sending.frame file);
          taken = λ t2.
              let t1 = known.told t2 in
              fed.taken t1 ∙ ap (λ (k : ℕ). take k (bytes_of start file)) (sym ((sending.told t2).1.taken file));
          told = λ t2.
              let t1 = known.told t2 in
              let front = (sending.told t2).0 in
              let x = (sending.told t2).1 in
              let rest : sends.some.0 ≡ [] = sends.some.2 in
              let all : front ≡ output = sym (append-nil front) ∙ ap (λ (r : List ℕ). front ++ r) (sym rest) ∙ x.parts in
              subst (λ (r : List ℕ). ToldMid written outcome file start s2 e r)
              (ap (λ (r : List ℕ). w ++ r) all ∙ whole)
              (sent_mid file start s1 s2 e w output front sends.some.0 (fed.told t1) x known.shown);
        }

  answered_broken : (i : Input) (f : DocFault) (b : List ℕ) (e limit : Bool) → is_limit f.which ≡ limit → outcome b e ≡ Some (outcomes.Broken i f) →
      Answers written outcome (cond limit (status.Limit i f) (status.Malformed i f)) b e (written b e)
  answered_broken i f b e true limit is = (limit, (is, refl))
  answered_broken i f b e false limit is = (limit, (is, refl))

  answered : (o : Outcome) (b : List ℕ) (e : Bool) → (outcome b e ≡ Some outcomes.Done → e ≡ true) → outcome b e ≡ Some o → Answers written outcome (status_of o) b e (written b e)
  answered outcomes.Done b e last is = (last is, (is, refl))
  answered (outcomes.Dynamic c) b e last is = (is, refl)
  answered (outcomes.Broken i f) b e last is = answered_broken i f b e (is_limit f.which) refl is

  caused_broken : (i : Input) (f : DocFault) (limit : Bool) → Comes outcome (outcomes.Broken i f) → IsCaused outcome (cond limit (status.Limit i f) (status.Malformed i f))
  caused_broken i f true comes = comes
  caused_broken i f false comes = comes

  caused : (o : Outcome) → Comes outcome o → IsCaused outcome (status_of o)
  caused outcomes.Done comes = comes
  caused (outcomes.Dynamic c) comes = comes
  caused (outcomes.Broken i f) comes = caused_broken i f (is_limit f.which) comes

  -- the bytes have an outcome
  pub settled : (file : ℕ) (start now : Seen) (b : List ℕ) (e : Bool) (o : Outcome) → (outcome b e ≡ Some outcomes.Done → e ≡ true) → Fed written outcome file start now b e (written b e) → outcome b e ≡ Some o → Transforms written outcome file start now (status_of o)
  settled file start now b e o last fed is =
      let none = no_fault o in
      record {
        frame = fed.frame;
        kind = (none.0, none.1, none.2);
        cause = caused o (b, e, is);
        read_fault = λ q. absurd (none.3 q);
        write_fault = λ q. absurd (none.4 q);
        told = λ t.
            let answer = answered o b e last is in (
              e,
              written b e,
              finished file start now (status_of o) e (written b e) none.3 (fed.told t)
                  (subst (λ (r : List ℕ). Answers written outcome (status_of o) r e (written b e)) (fed.taken t) answer),
            );
      }

  -- a read that failed
  pub read_fails : (file : ℕ) (start s0 s1 : Seen) (b buf : List ℕ) (f : Failed) → Running written outcome file start s0 b → Reads file s0 s1 buf (Err f) → Transforms written outcome file start s1 status.ReadFault
  read_fails file start s0 s1 b buf f run read = record {
    frame = then run.fed.frame (of_read file out.Result s0 s1 buf (Err f) read);
    kind = (λ q. cc, λ q. cc, λ c l q. cc);
    cause = tt;
    read_fault = λ _.
        let first = run.fed.frame.read_later in
        let rose : Rose s0.read_faults s1.read_faults = read.cause.failed in
        let goal : Rose start.read_faults s1.read_faults = omega arith in
        goal;
    write_fault = λ q. cc;
    told = λ t1.
        let t0 = read.known.told t1 in
        let told = read.told t1 in
        let same : s1.taken file ≡ s0.taken file = told.nothing in
        let before = run.fed.told t0 in
        let these = run.fed.taken t0 in
        let c = bytes_of start file in
        let t = s0.taken file in
        let w = written b false in
        let so_far = before.within in
        let point : ℕ × ℕ = (t, s0.written_length out.Result) in (
          false,
          w,
          record {
            within = omega arith;
            end = λ h. absurd (false≢true h);
            written_length = told.written_length out.Result ∙ before.written_length;
            answer = ap (λ (r : List ℕ). written r false) these ∙ ap (λ (k : ℕ). written (take k c) false) (sym same);
            shown = λ h1.
                let shown = read.shown t1 h1 in
                let old = before.shown (read.known.shown h1) in
                let added = old.marks.0 in
                let m = old.marks.1 in
                record {
                  bytes = shown.written out.Result ∙ old.bytes;
                  marks = (
                    added ++ point ∷ [],
                    record {
                      all = shown.marked ∙ ap (λ (ms : List (ℕ × ℕ)). ms ++ point ∷ []) m.all ∙ append_assoc (start.marks file) added (point ∷ []);
                      stand = stand_snoc written outcome c (start.written_length out.Result) w added point m.stand (record {
                        count = before.written_length ∙ ap (λ (r : List ℕ). start.written_length out.Result + length (written r false)) these;
                        front = ([], append-nil (written (take t c) false) ∙ ap (λ (r : List ℕ). written r false) (sym these));
                        going = ap (λ (r : List ℕ). outcome r false) (sym these) ∙ run.going;
                      });
                      rise = rise_snoc added point (suc (s1.taken file)) m.rise (omega arith);
                      steps = step_snoc added point (s1.taken file) m.steps (omega (arith, same));
                    },
                    (λ h. absurd (false≢true h), λ both. absurd (both.0 refl)),
                  );
                };
          },
        );
  }

  -- a transformation that begins
  pub begins : (file : ℕ) (s : Seen) → (IsTrue s.told → s.taken file ≡ 0) → Fed written outcome file s s [] false []
  begins file s untouched = record {
    frame = same file out.Result s;
    taken = λ t. sym (ap (λ (k : ℕ). take k (bytes_of s file)) (untouched t) ∙ take_none (bytes_of s file));
    told = λ t.
        let z = untouched t in
        record {
          within = omega arith;
          end = λ h. absurd (false≢true h);
          written_length = omega arith;
          shown = λ h. record {
            bytes = sym (append-nil (s.written out.Result));
            marks = ([], record { all = sym (append-nil (s.marks file)); stand = tt; rise = tt; steps = z }, (λ e. absurd (false≢true e), λ has. absurd has));
          };
        };
  }

  -- no memory at the beginning
  pub no_memory : (file : ℕ) (s : Seen) → (IsTrue s.told → s.taken file ≡ 0) → Transforms written outcome file s s status.OutOfMemory
  no_memory file s untouched =
      let fed = begins file s untouched in
      record {
        frame = fed.frame;
        kind = (λ q. cc, λ q. cc, λ c l q. cc);
        cause = tt;
        read_fault = λ q. cc;
        write_fault = λ q. cc;
        told = λ t.
            (false, [], finished file s s status.OutOfMemory false [] (λ q. cc) (fed.told t) (written (take (s.taken file) (bytes_of s file)) false, refl));
      }

  module _ (Stands : List ℕ → Bool → List ℕ → Type 0) (file : ℕ) (start now : Seen) where
    -- memory was wanting
    pub stops_bare : Transforms written outcome file start now status.OutOfMemory → Stops written outcome Stands file start now status.OutOfMemory
    stops_bare run = record { transforms = run; left = λ some. absurd (some refl) }

    -- what was taken is all that was written
    told_left : (b w : List ℕ) (e : Bool) → Fed written outcome file start now b e w → IsTrue now.told → ToldLeft file start now b e w
    told_left b w e fed t =
        let mid = fed.told t in
        record {
          input_is = fed.taken t;
          end = mid.end;
          wrote = w;
          front = ([], append-nil w);
          written_length = mid.written_length;
          written = λ h. (mid.shown h).bytes;
        }

    -- the bytes have an outcome, and all that can be written was written
    pub settles : (b : List ℕ) (e : Bool) (o : Outcome) → IsMeaning written outcome → Fed written outcome file start now b e (written b e) → outcome b e ≡ Some o → Stands b e (written b e) →
        Stops written outcome Stands file start now (status_of o)
    settles b e o meaning fed is stands = record {
      transforms = settled file start now b e o (meaning.done b e) fed is;
      left = λ some. record {
        input = b;
        ended = e;
        taken = written b e;
        stands = stands;
        answer = answered o b e (meaning.done b e) is;
        not_ended = λ q. absurd ((no_fault o).3 q);
        told = told_left b (written b e) e fed;
      };
    }

    -- a write failed, and what was due was not counted as taken
    pub stops_writing : (s1 : Seen) (b w output : List ℕ) (e : Bool) (f : Failed) → Fed written outcome file start s1 b e w → w ++ output ≡ written b e → Sends out.Result output s1 now (Err f) → Stands b e w →
        Stops written outcome Stands file start now status.WriteFault
    stops_writing s1 b w output e f fed whole sends stands = record {
      transforms = flush_fails file start s1 now b w output e fed whole f sends;
      left = λ some. record {
        input = b;
        ended = e;
        taken = w;
        stands = stands;
        answer = (output, whole);
        not_ended = λ q. absurd (cc);
        told = λ t2.
            let sending = sends.some.1 in
            let known = (sending.frame file).known in
            let t1 = known.told t2 in
            let front = (sending.told t2).0 in
            let x = (sending.told t2).1 in
            let mid = sent_mid file start s1 now e w output front sends.some.0 (fed.told t1) x known.shown in
            record {
              input_is = fed.taken t1 ∙ ap (λ (k : ℕ). take k (bytes_of start file)) (sym (x.taken file));
              end = mid.end;
              wrote = w ++ front;
              front = (front, refl);
              written_length = mid.written_length;
              written = λ h. (mid.shown h).bytes;
            };
      };
    }

    -- a read failed
    pub stops_reading : (s0 : Seen) (b buf : List ℕ) (f : Failed) → Running written outcome file start s0 b → Reads file s0 now buf (Err f) → Stands b false (written b false) →
        Stops written outcome Stands file start now status.ReadFault
    stops_reading s0 b buf f run read stands = record {
      transforms = read_fails file start s0 now b buf f run read;
      left = λ some. record {
        input = b;
        ended = false;
        taken = written b false;
        stands = stands;
        answer = refl;
        not_ended = λ q. refl;
        told = λ t1.
            let t0 = read.known.told t1 in
            let told = read.told t1 in
            let same : now.taken file ≡ s0.taken file = told.nothing in
            let before = run.fed.told t0 in
            record {
              input_is = run.fed.taken t0 ∙ ap (λ (k : ℕ). take k (bytes_of start file)) (sym same);
              end = λ h. absurd (false≢true h);
              wrote = written b false;
              front = ([], append-nil (written b false));
              written_length = told.written_length out.Result ∙ before.written_length;
              written = λ h1. (read.shown t1 h1).written out.Result ∙ (before.shown (read.known.shown h1)).bytes;
            };
      };
    }

    -- bytes that have no outcome have not ended, and are within the limit
    pub goes_on : (b : List ℕ) (e : Bool) → IsMeaning written outcome → outcome b e ≡ None → Fed written outcome file start now b e (written b e) → Stands b e (written b e) →
        AfterFlush written outcome Stands file start now b e None
    goes_on b true meaning is fed stands = absurd (meaning.ends b is)
    goes_on b false meaning is fed stands =
        let not_more = λ (lt : 2 ^ 40 < length b). meaning.bounded b false lt is in
        (refl, record { meaning = meaning; fed = fed; going = is; within = omega (arith, not_more) }, stands)

    -- a turn that wrote all that can be written
    pub turned : (b piece : List ℕ) (e : Bool) (r : Option Status) → (e ≡ false → 1 ≤ length piece) → AfterFlush written outcome Stands file start now (b ++ piece) e r → AfterTurn written outcome Stands file start now b r
    turned b piece e None some after = (piece, some after.0, after.1, after.2)
    turned b piece e (Some s) some after = after
