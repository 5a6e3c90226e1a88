-- What a call does to a desk that runs on the document of a name.
use Rattle.std.specs.Prelude.{◌≡◌, ◌≢◌, ◌↔◌, ℕ, suc, ◌+◌, ◌<◌, ◌≤◌, Bool, IsTrue, List, [], ◌∷◌, ◌++◌, length, take, unwrap_or, IsSome}
use Rattle.sx_atoms.specs.declared.error_codes.Code.{Code}
use Rattle.sx_desk.specs.Desk.{Seen, Rose, StaysKnown}
use Rattle.sx_desk.specs.declared.desk.Out.TheVariants as out
use Rattle.sx_reading.specs.Transforming.{WrittenFor, OutcomeFor, RiseTo, StepTo, HasMark, MarksStand, Answers}
use Rattle.sx_reading.specs.declared.status.Status.{Status}
use Rattle.sx_reading.specs.declared.status.Status.TheVariants as status

module _ (written : WrittenFor) (outcome : OutcomeFor) where
  -- What the marks of this file and the bytes of the result say, where c is its content and w was written. The input
  -- has ended where a read began when all was taken, and that read did not fail.
  pub record ShownRun (c : List ℕ) (file : ℕ) (old new : Seen) (s : Status) (ended : Bool) (w : List ℕ) : Type 0 where
    pub bytes : new.written out.Result ≡ old.written out.Result ++ w
    pub stand : MarksStand written outcome c (old.written_length out.Result) w (new.marks file)
    pub rise : RiseTo (new.marks file) (suc (new.taken file))
    pub steps : StepTo (new.marks file) (new.taken file)
    pub last_read : IsTrue ended ↔ ((s ≢ status.ReadFault) × HasMark (length c) (new.marks file))

  -- The file was read from its beginning, c being its content, and w was written to the result.
  pub record Ran (c : List ℕ) (file : ℕ) (old new : Seen) (s : Status) (ended : Bool) (w : List ℕ) : Type 0 where
    pub within : new.taken file ≤ length c
    pub end : IsTrue ended → new.taken file ≡ length c
    pub written_length : new.written_length out.Result ≡ old.written_length out.Result + length w
    pub answer : Answers written outcome s (take (new.taken file) c) ended w
    pub shown : IsTrue new.shown → ShownRun c file old new s ended w

  -- the document was opened and run
  pub record Opened (name : List ℕ) (old new : Seen) (s : Status) : Type 0 where
    pub opened : new.opened ≡ old.opened ++ name ∷ []
    pub found : IsSome (old.content name)
    pub ran : (ended : Bool) × (w : List ℕ) × Ran (unwrap_or (old.content name) []) (length old.opened) old new s ended w

  -- the document was not opened, and nothing was written
  pub record NotOpened (old new : Seen) : Type 0 where
    pub opened : new.opened ≡ old.opened
    pub written_length : new.written_length out.Result ≡ old.written_length out.Result
    pub bytes : IsTrue new.shown → new.written out.Result ≡ old.written out.Result

  -- after OpenFault the document was not opened, after every other status it was
  abbrev pub OpensOrNot : List ℕ → Seen → Seen → Status → Type 0
  OpensOrNot name old new status.OpenFault = NotOpened old new
  OpensOrNot name old new s = Opened name old new s

  -- no other name was asked for, and no other file was touched
  pub record ToldRun (name : List ℕ) (old new : Seen) (s : Status) : Type 0 where
    pub content : (n : List ℕ) → new.content n ≡ old.content n
    pub asked : new.asked ≡ old.asked ++ name ∷ []
    pub others : (f : ℕ) → f < length old.opened → new.taken f ≡ old.taken f
    pub other_marks : IsTrue new.shown → (f : ℕ) → f < length old.opened → new.marks f ≡ old.marks f
    pub run : OpensOrNot name old new s

  -- What a call does that runs on the document of a name: at each read of it, what has been written is exactly what the
  -- bytes taken determine, and so at the end; the desk's faults have their statuses, and no other file is touched.
  pub record Headline (name : List ℕ) (old new : Seen) (s : Status) : Type 0 where
    pub known : StaysKnown old new
    pub not_usage : s ≢ status.Usage
    pub not_static : (c : Code) (l : ℕ) → s ≢ status.Static c l
    pub open_fault : s ≡ status.OpenFault → Rose old.open_faults new.open_faults
    pub read_fault : s ≡ status.ReadFault → Rose old.read_faults new.read_faults
    pub write_fault : s ≡ status.WriteFault → Rose (old.write_faults out.Result) (new.write_faults out.Result)
    pub count : (s ≢ status.OpenFault → length new.opened ≡ length old.opened + 1) × (s ≡ status.OpenFault → length new.opened ≡ length old.opened)
    pub told : IsTrue new.told → ToldRun name old new s
