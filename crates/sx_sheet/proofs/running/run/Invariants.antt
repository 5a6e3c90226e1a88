use Rattle.std.proofs.Common.{◌≤◌, ◌*◌, drop}
use Rattle.sx_names.specs.Numbering.{KeepsPlaces}
use Rattle.sx_sheet.specs.Looking.{ComesTo}
use Rattle.sx_sheet.specs.Tokens.{AreKnownEvents}
use Rattle.sx_sheet.proofs.running.run.Given as goal

abbrev pub invariant-loop-lined : goal.invariant-loop-lined
invariant-loop-lined l = record {
  kept : KeepsPlaces l.fn.names l.names;
  constructs : l.reader.constructs ≤ 2 * l.lined-index;
  known : AreKnownEvents l.fn.names l.events → AreKnownEvents l.fn.names (drop l.lined-index l.events);
  comes : AreKnownEvents l.fn.names l.events → ComesTo l.fn.names l.names l.events (drop l.lined-index l.events) l.in_text l.reader;
}
