-- From the name of a stylesheet to the stylesheet.
use Rattle.std.proofs.Common.{◌≡◌, inl, inr, ℕ, List, [], Option, Some, None, unwrap_or, IsSome, Result, Ok, Err, refl, ap, sym, ◌∙◌, subst}
use Rattle.sx_atoms.specs.declared.error_codes.Code.{Code}
use Rattle.sx_atoms.specs.declared.error_codes.Code.TheVariants.{Xtse0010, Xtse3430}
use Rattle.sx_desk.specs.Desk.{Seen, Opens}
use Rattle.sx_kinds.specs.declared.sheets.Sheet.{Sheet}
use Rattle.sx_machine.specs.Body.{culprit}
use Rattle.sx_sheet.specs.declared.reading.LinedEvent.{LinedEvent}
use Rattle.sx_sheet.specs.Numbers.{IsSheetOf}
use Rattle.sx_sheet.specs.Syntax.{BreaksOn}
use Rattle.sx_sheet.specs.Tokens.{LinedToken, tokens_of}
use Rattle.sx_desk.specs.declared.desk.Out.TheVariants as out
use Rattle.sx_reading.specs.Frame.{Frame}
use Rattle.sx_reading.specs.Transforming.{nothing_written}
use Rattle.sx_reading.specs.Program.{IsSilent}
use Rattle.sx_reading.specs.declared.status.Status.{Status}
use Rattle.sx_reading.specs.declared.status.Status.TheVariants as status
use Rattle.sx_reading.proofs.Headlines.{opened_bytes, run_of}
use Rattle.sx_top.specs.Loading.{IsAccepted, IsStaticFault, Judged, Loads, NotLoaded, ReadWhole}
use Rattle.sx_top.specs.Stylesheet.{sheet_outcome, AreEvents, ReadsSheet}
use Rattle.sx_top.proofs.Accepting.{said_of}
use Rattle.sx_names.specs.Numbering.{NameTable}

-- what is there is what stands for it
there : (o : Option (List ℕ)) → IsSome o → o ≡ Some (unwrap_or o [])
there (Some bytes) some = refl
there None some = cc

-- an opened file was read to its end
pub read_of : (name : List ℕ) (old mid new : Seen) (file : ℕ) (names : NameTable) (events : List LinedEvent) → Opens name old mid (Ok file) → (r : ReadsSheet file mid new names (Ok events)) → ReadWhole name old new r.content.0
read_of name old mid new file names events opens reads = record {
  run = run_of nothing_written sheet_outcome name old mid new file status.Ok opens reads.transforms;
  sound = reads.content.1.sound;
  content = λ t.
      let tm = reads.transforms.frame.known.told t in
      there (old.content name) (opens.told tm).found ∙ ap (λ (b : List ℕ). Some b) (sym (reads.content.2 t ∙ opened_bytes name old mid file opens tm));
}

-- an opened file was not read to its end, or its bytes are broken off
pub unread_of : (name : List ℕ) (old mid new : Seen) (file : ℕ) (names : NameTable) (s : Status) → Opens name old mid (Ok file) → ReadsSheet file mid new names (Err s) → NotLoaded name old new s
unread_of name old mid new file names s opens reads = inl (record { not_ok = reads.failed; run = run_of nothing_written sheet_outcome name old mid new file s opens reads.transforms })

-- opening and reading a file leave the diagnostic output as it is
pub quiet_of : (name : List ℕ) (old mid new : Seen) (file : ℕ) → Opens name old mid (Ok file) → Frame file out.Result mid new → IsSilent old new
quiet_of name old mid new file opens f = record {
  known = record { told = λ t. opens.known.told (f.known.told t); shown = λ h. opens.known.shown (f.known.shown h) };
  write_faults = f.other_faults out.Diagnostic (λ e. cc) ∙ opens.write_faults out.Diagnostic;
  written_length = λ t. (f.told t).other_length out.Diagnostic (λ e. cc) ∙ (opens.told (f.known.told t)).written_length out.Diagnostic;
  written = λ t h. (f.shown t h).other_written out.Diagnostic (λ e. cc) ∙ (opens.shown (f.known.told t) (f.known.shown h)).written out.Diagnostic;
}

-- bytes that were read were judged
pub loads_of : (name bytes : List ℕ) (names : NameTable) (old new : Seen) (r : Result Sheet Status) → ReadWhole name old new bytes → Judged bytes names r → Loads name names old new r
loads_of name bytes names old new (Ok sheet) read judged = record { bytes = bytes; read = read; accepted = judged }
loads_of name bytes names old new (Err s) read judged = inr (record { bytes = bytes; read = read; rejects = judged })

-- events that are a stylesheet which can be streamed
pub accepted_of : (names : NameTable) (events : List LinedEvent) (bytes : List ℕ) (new : NameTable) (sheet : Sheet) → AreEvents names events bytes
    → IsSheetOf (tokens_of names events) new sheet → culprit sheet.templates ≡ None → IsAccepted bytes new sheet
accepted_of names events bytes new sheet are reads streamable = record {
  sound = are.sound;
  reads = subst (λ (ts : List LinedToken). IsSheetOf ts new sheet) (said_of names events bytes are) reads;
  streamable = streamable;
}

-- events that break off
pub broken_of : (names : NameTable) (events : List LinedEvent) (bytes : List ℕ) (code : Code) (line : ℕ) → AreEvents names events bytes → code ≡ Xtse0010 → BreaksOn (tokens_of names events) line
    → IsStaticFault bytes code line
broken_of names events bytes code line are is breaks = inl (is, subst (λ (ts : List LinedToken). BreaksOn ts line) (said_of names events bytes are) breaks)

-- events that are a stylesheet which cannot be streamed
pub roaming_of : (names : NameTable) (events : List LinedEvent) (bytes : List ℕ) (new : NameTable) (sheet : Sheet) (line : ℕ) → AreEvents names events bytes
    → IsSheetOf (tokens_of names events) new sheet → culprit sheet.templates ≡ Some line → IsStaticFault bytes Xtse3430 line
roaming_of names events bytes new sheet line are reads found = inr (
  refl,
  record {
    names = new;
    sheet = sheet;
    reads = subst (λ (ts : List LinedToken). IsSheetOf ts new sheet) (said_of names events bytes are) reads;
    culprit_is = found;
  },
)
