use Rattle.std.proofs.Common.{List, refl, get_or, subst}
use Rattle.sx_desk.specs.Desk.{by_output}
use Rattle.sx_desk.specs.Files.{content_in}
use Rattle.sx_desk.specs.Opened.{taken_of}
use Rattle.sx_desk.specs.History.{source_of}
use Rattle.sx_desk.specs.Pieces.{IsPiece}
use Rattle.sx_desk.specs.declared.files.MemFile.{MemFile}
use Rattle.sx_desk.proofs.Reading.{Marked, Taken, read_done}
use Rattle.sx_desk.proofs.mem.MemDeskDesk.read.Goals as goal

pub returns-clause-desk : goal.returns-clause-desk
returns-clause-desk c =
    let desk = c.args.self.now in
    let file = c.args.file in
    let h₀ = desk.history in
    let h₁ = c.mark.new.self in
    let h₂ = c.take_next.new.self in
    let buf = c.take_next.new.buf in
    let n = c.take_next.result in
    let marked : Marked file h₀ h₁ = record {
      given = c.requires.given;
      known = c.mark.ensures.known;
      opened = c.mark.ensures.opened;
      names = c.mark.ensures.names;
      taken = c.mark.ensures.taken;
      marks = c.mark.ensures.marks;
      asked = c.mark.ensures.asked;
      outputs = c.mark.ensures.outputs;
    } in
    let taken : Taken desk.files file buf n h₁ h₂ = record {
      piece = subst (λ (files : List MemFile). IsPiece (source_of files h₁ file) (get_or (taken_of h₁.files.items) file 0) buf n) c.as_slice-files.ensures c.take_next.ensures.piece;
      opened = c.take_next.ensures.opened;
      known = c.take_next.ensures.known;
      names = c.take_next.ensures.names;
      taken = c.take_next.ensures.taken;
      marks = c.take_next.ensures.marks;
      asked = c.take_next.ensures.asked;
      outputs = c.take_next.ensures.outputs;
    } in
    read_done desk.files (content_in desk.files) (λ _. refl) file n buf h₀ h₁ h₂ marked taken desk.open_faults desk.read_faults (by_output desk.result_faults desk.diagnostic_faults) c.take_next.ensures.at_most
