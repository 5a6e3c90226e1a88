use Rattle.sx_sheet.proofs.Whole.{ok_reads, err_breaks}
use Rattle.sx_sheet.proofs.reading.read.Goals as goal

pub returns-in_ok-sheet-in-Ok-clause-sheet : goal.returns-in_ok-sheet-in-Ok-clause-sheet
returns-in_ok-sheet-in-Ok-clause-sheet c k =
    rw c.in_ok-sheet-in-Ok.ensures (ok_reads c.args.names.now c.run-read.new.names c.args.events.now c.in-Ok.reader c.each_once.ensures (rw c.in-Ok.is at (c.in_ok-reader.ensures.results k)))

pub returns-in-Err-clause-line : goal.returns-in-Err-clause-line
returns-in-Err-clause-line c k =
    err_breaks c.args.names.now c.run-read.new.names c.args.events.now c.in-Err.line c.each_once.ensures (rw c.in-Err.is at (c.in_ok-reader.ensures.results k))
