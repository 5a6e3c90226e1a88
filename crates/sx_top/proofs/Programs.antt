-- A call of the program, from what its command does to the diagnostic line.
use Rattle.std.proofs.Common.{◌≡◌, inl, inr, List, [], ℕ, Option, Some, None, Result, refl, sym, ◌∙◌, subst}
use Rattle.sx_desk.specs.Desk.{Seen}
use Rattle.sx_desk.specs.declared.desk.Failed.{Failed}
use Rattle.sx_desk.specs.declared.desk.Out.TheVariants as out
use Rattle.sx_reading.specs.Frame.{Sends}
use Rattle.sx_reading.specs.Program.{Untouched, IsSilent}
use Rattle.sx_reading.specs.declared.status.Status.{Status}
use Rattle.sx_reading.specs.declared.status.Status.TheVariants as status
use Rattle.sx_reading.proofs.Diagnostics.{untouched_after}
use Rattle.sx_reading.proofs.Headlines.{untouched_then}
use Rattle.sx_limits.specs.Limits.{stated}
use Rattle.sx_limits.specs.declared.limits.Limits.{Limits}
use Rattle.sx_kinds.specs.declared.sheets.Sheet.{Sheet}
use Rattle.sx_machine.specs.Meaning.{IsReady}
use Rattle.sx_reading.specs.Transforming.{nothing_written, Transforms}
use Rattle.sx_reading.specs.Headline.{Headline}
use Rattle.sx_top.specs.Loading.{Loaded}
use Rattle.sx_top.specs.Run.{run_written, run_outcome}
use Rattle.sx_top.specs.Stylesheet.{sheet_outcome}
use Rattle.sx_top.proofs.Accepting.{accepted_ready}
use Rattle.sx_top.specs.Copy.{copy_sheet, copy_written, copy_outcome}
use Rattle.sx_top.specs.Commands.{Does, Runs, RunsSheet}
use Rattle.sx_top.specs.Words.{Requested, copies, runs}
use Rattle.sx_names.specs.Numbering.{NameTable, IsDistinct}

-- what touches no file and not the result leaves what a command does
does_then : (a : Requested) (old mid new : Seen) (s : Status) → Does a old mid s → Untouched mid new → Does a old new s
does_then (copies document) old mid new s done u = untouched_then copy_written copy_outcome document old mid new s done u
does_then (runs sheet document) old mid new s (inl (inl x)) u = inl (inl (record { not_ok = x.not_ok; run = untouched_then nothing_written sheet_outcome sheet old mid new s x.run u }))
does_then (runs sheet document) old mid new s (inl (inr x)) u = inl (inr (record {
  bytes = x.bytes;
  read = record {
    run = untouched_then nothing_written sheet_outcome sheet old mid new status.Ok x.read.run u;
    sound = x.read.sound;
    content = λ t. x.read.content (u.known.told t);
  };
  rejects = x.rejects;
}))
does_then (runs sheet document) old mid new s (inr x) u = inr (record {
  mid = x.mid;
  names = x.names;
  sheet = x.sheet;
  loaded = x.loaded;
  ran = untouched_then (run_written x.sheet x.names stated) (run_outcome x.sheet x.names stated) document x.mid mid new s x.ran u;
})

-- what the words ask for was done, and the line was sent
pub runs_command : (o : Option Requested) (a : Requested) (line : List ℕ) (old done mid new : Seen) (s s' : Status) (r : Result (Unit {0}) Failed) → Some a ≡ o → mid ≡ done → s' ≡ s →
    Does a old done s → Sends out.Diagnostic line mid new r → Runs o old new s'
runs_command o a line old done mid new s s' r is same_desk same_status does sends =
    subst (λ (o : Option Requested). Runs o old new s') is
    (subst (λ (x : Status). Does a old new x) (sym same_status)
    (does_then a old done new s does (untouched_after line done new r (subst (λ (x : Seen). Sends out.Diagnostic line x new r) same_desk sends))))

-- the words ask for nothing, and the line was sent
pub runs_nothing : (o : Option Requested) (line : List ℕ) (old mid new : Seen) (s : Status) (r : Result (Unit {0}) Failed) → None ≡ o → mid ≡ old → s ≡ status.Usage →
    Sends out.Diagnostic line mid new r → Runs o old new s
runs_nothing o line old mid new s r is same_desk usage sends =
    subst (λ (o : Option Requested). Runs o old new s) is (usage, untouched_after line old new r (subst (λ (x : Seen). Sends out.Diagnostic line x new r) same_desk sends))

-- a stylesheet that was loaded was run
pub runs_loaded : (sheet_name document_name : List ℕ) (names : NameTable) (sheet : Sheet) (old mid new : Seen) (s : Status) → Loaded sheet_name old mid names sheet →
    (IsReady sheet names → Headline (run_written sheet names stated) (run_outcome sheet names stated) document_name mid new s) → RunsSheet sheet_name document_name old new s
runs_loaded sheet_name document_name names sheet old mid new s loaded ran = inr (record {
  mid = mid;
  names = names;
  sheet = sheet;
  loaded = loaded;
  ran = ran (accepted_ready loaded.bytes names sheet loaded.accepted);
})

-- ---- copies

copy_ready : IsReady copy_sheet []
copy_ready = record { mode = inr refl; streamable = refl; known = tt }

-- a run of the stylesheet of a copy
pub copies_by : (sheet : Sheet) (names : NameTable) (limits : Limits) (file : ℕ) (old new : Seen) (s : Status) → sheet ≡ copy_sheet → names ≡ [] → limits ≡ stated
    → (IsReady sheet names → Transforms (run_written sheet names limits) (run_outcome sheet names limits) file old new s) → Transforms copy_written copy_outcome file old new s
copies_by sheet names limits file old new s sheet_is names_are limits_are ran =
    let ready : IsReady sheet names =
    subst (λ (x : Sheet). IsReady x names) (sym sheet_is) (subst (λ (n : NameTable). IsReady copy_sheet n) (sym names_are) copy_ready) in
    subst (λ (l : Limits). Transforms (run_written copy_sheet [] l) (run_outcome copy_sheet [] l) file old new s) limits_are
    (subst (λ (n : NameTable). Transforms (run_written copy_sheet n limits) (run_outcome copy_sheet n limits) file old new s) names_are
    (subst (λ (x : Sheet). Transforms (run_written x names limits) (run_outcome x names limits) file old new s) sheet_is (ran ready)))

-- what two calls leave as it is
pub quiet_then : (old mid new : Seen) → IsSilent old mid → IsSilent mid new → IsSilent old new
quiet_then old mid new a b = record {
  known = record { told = λ t. a.known.told (b.known.told t); shown = λ h. a.known.shown (b.known.shown h) };
  write_faults = b.write_faults ∙ a.write_faults;
  written_length = λ t. b.written_length t ∙ a.written_length (b.known.told t);
  written = λ t h. b.written t h ∙ a.written (b.known.told t) (b.known.shown h);
}

-- no name is twice in a table without names
pub none_twice : {names : NameTable} → names ≡ [] → IsDistinct names
none_twice e = subst (λ (n : NameTable). IsDistinct n) (sym e) (λ i j x at other. absurd (cc))
