-- More bytes, and the end of them.
use Rattle.std.proofs.Common.{◌≡◌, ℕ, Bool, true, false, List, [], ◌++◌, length, Option, Some, None, is_some, refl, ap, sym, ◌∙◌, subst, arith, append_assoc, append-nil}
use Rattle.std.proofs.lemmas.Bool.{false≢true, le-ltb}
use Rattle.sx_esis.specs.Lines.{Line}
use Rattle.sx_esis.specs.LineReader as reader
use Rattle.sx_esis.specs.declared.reader.LineReader.{LineReader}
use Rattle.sx_events.specs.Course.{Lined, reading, events_of}
use Rattle.sx_events.specs.Pending.{IsIdle, IsKnownIn, Pends}
use Rattle.sx_events.specs.Place.{beginning}
use Rattle.sx_events.specs.Reader.{TakesLines, Along, Going, BrokenOff, StandsAt, EventsStand}
use Rattle.sx_events.specs.Standing.{IsSmall, Knows}
use Rattle.sx_events.specs.declared.event_reader.Ending.{Ending}
use Rattle.sx_events.specs.declared.event_reader.Ending.TheVariants as ending
use Rattle.sx_events.specs.declared.event_reader.EventReader.{EventReader}
use Rattle.sx_limits.specs.declared.faults.DocFault.{DocFault}
use Rattle.sx_limits.specs.declared.limits.Limits.{Limits}
use Rattle.sx_events.specs.declared.pending.Pending.{Pending}
use Rattle.sx_events.specs.declared.standing.Standing.{Standing}
use Rattle.sx_events.proofs.Growths.{broken_stays, lines_grow}
use Rattle.sx_events.proofs.Lines.{held_none}
use Rattle.sx_events.proofs.Looks.{looks_within}
use Rattle.sx_names.specs.Numbering.{NameTable}

-- the lines that were taken of fewer bytes are the first of more
pub along_more : (r r' : LineReader) (s : Standing) (p : Pending) (limits : Limits) (names : NameTable) (b d : List ℕ) (ended : Bool) (given line : ℕ) (a : Along r s p limits names b false given line) →
    TakesLines r' limits (b ++ d) ended (length a.front) → Along r' s p limits names (b ++ d) ended given line
along_more r r' s p limits names b d ended given line a reads =
    let m = lines_grow limits b d ended in
    record {
      small = a.small;
      front = a.front;
      more = a.more ++ m.0;
      lines = m.1 ∙ ap (λ (ls : List Line). ls ++ m.0) a.lines ∙ append_assoc a.front a.more m.0;
      reads = reads;
      sound = a.sound;
      knows = a.knows;
      pends = a.pends;
    }

-- the input has ended behind them
pub along_told : (r r' : LineReader) (s : Standing) (p : Pending) (limits : Limits) (names : NameTable) (b : List ℕ) (given line : ℕ) (a : Along r s p limits names b false given line) →
    TakesLines r' limits b true (length a.front) → Along r' s p limits names b true given line
along_told r r' s p limits names b given line a reads =
    subst (λ (x : List ℕ). Along r' s p limits names x true given line) (append-nil b)
    (along_more r r' s p limits names b [] true given line a (subst (λ (x : List ℕ). TakesLines r' limits x true (length a.front)) (sym (append-nil b)) reads))

-- bytes that are broken off stay so
broken_more : (r r' : EventReader) (limits : Limits) (names : NameTable) (b d : List ℕ) (ended : Bool) (given : ℕ) (fault : DocFault) → r'.pending ≡ r.pending → r'.line ≡ r.line →
    BrokenOff r limits names b false given fault → BrokenOff r' limits names (b ++ d) ended given fault
broken_more r r' limits names b d ended given fault pending line off =
    let stays = broken_stays limits b d ended fault off.broken in
    record {
      broken = stays.stays;
      pends =
          subst (λ (p : Pending). Pends p names (events_of limits (b ++ d) ended) given r'.line) (sym pending)
          (subst (λ (n : ℕ). Pends r.pending names (events_of limits (b ++ d) ended) given n) (sym line)
          (subst (λ (es : List Lined). Pends r.pending names es given r.line) (sym stays.events) off.pends));
    }

fed_at : (o : Option Ending) (r : EventReader) (limits : Limits) (names : NameTable) (b d : List ℕ) (given : ℕ) → is_some o ≡ true → StandsAt o r limits names b false given → StandsAt o r limits names (b ++ d) false given
fed_at None r limits names b d given known s = absurd (false≢true known)
fed_at (Some (ending.Broken fault)) r limits names b d given known s = broken_more r r limits names b d false given fault refl refl s
fed_at (Some ending.Whole) r limits names b d given known s = absurd (false≢true s.told)

-- where it is known how the bytes end, more are dropped
pub stands_fed : (r : EventReader) (limits : Limits) (names : NameTable) (b d : List ℕ) (given : ℕ) → is_some r.ending ≡ true → EventsStand r limits names b false given → EventsStand r limits names (b ++ d) false given
stands_fed r limits names b d given known s = fed_at r.ending r limits names b d given known s

-- the same, where the reader was told of the end
pub told_at : (o : Option Ending) (r r' : EventReader) (limits : Limits) (names : NameTable) (b : List ℕ) (given : ℕ) → r'.pending ≡ r.pending → r'.line ≡ r.line →
    (Going r limits names b false given → Going r' limits names b true given) → StandsAt o r limits names b false given → StandsAt o r' limits names b true given
told_at None r r' limits names b given pending line going s = going s
told_at (Some (ending.Broken fault)) r r' limits names b given pending line going s =
    subst (λ (x : List ℕ). BrokenOff r' limits names x true given fault) (append-nil b) (broken_more r r' limits names b [] true given fault pending line s)
told_at (Some ending.Whole) r r' limits names b given pending line going s = absurd (false≢true s.told)

-- where nothing but the reader of lines has changed
pub same_at : (o : Option Ending) (r r' : EventReader) (limits : Limits) (names : NameTable) (b : List ℕ) (ended : Bool) (given : ℕ) → r'.pending ≡ r.pending → r'.line ≡ r.line →
    (Going r limits names b ended given → Going r' limits names b ended given) → StandsAt o r limits names b ended given → StandsAt o r' limits names b ended given
same_at None r r' limits names b ended given pending line going s = going s
same_at (Some (ending.Broken fault)) r r' limits names b ended given pending line going s = record { broken = s.broken; pends = rw (pending, line) s.pends }
same_at (Some ending.Whole) r r' limits names b ended given pending line going s = record { told = s.told; whole = s.whole; pends = rw (pending, line) s.pends }

-- nothing was fed
pub along_first : (r : LineReader) (s : Standing) (p : Pending) (limits : Limits) (names : NameTable) → IsSmall limits → reader.LinesStand r limits.line [] false 0 → Knows s beginning → IsIdle p →
    Along r s p limits names [] false 0 0
along_first r s p limits names small reads knows idle = record {
  small = small;
  front = [];
  more = (reading limits [] false).lines;
  lines = refl;
  reads = subst (λ (x : List ℕ). reader.LinesStand r limits.line x false 0) (sym (looks_within limits [] (le-ltb limits.bytes 0 (omega arith)))) reads;
  sound = refl;
  knows = knows;
  pends = record {
    front = [];
    number = refl;
    splits = sym (held_none names p idle);
    known = record { text = subst (IsKnownIn names) (sym idle.text) tt; event = subst (IsKnownIn names) (sym idle.event) tt };
    last = refl;
  };
}
