use Rattle.std.proofs.Common.{◌≡◌, List, ℕ, Option, refl, get_or, subst, [], option_and_then, unwrap_or, Some, None}
use Rattle.sx_desk.specs.Files.{content_in}
use Rattle.sx_desk.specs.Steady.{content_or_none}
use Rattle.sx_desk.specs.Opened.{taken_of}
use Rattle.sx_desk.specs.History.{source_of}
use Rattle.sx_desk.specs.Pieces.{IsPiece}
use Rattle.sx_desk.specs.declared.files.MemFile.{MemFile}
use Rattle.sx_desk.proofs.Reading.{Marked, Taken, read_done}
use Rattle.sx_desk.proofs.steady.SteadyDeskDesk.read.Goals as goal

same_bytes : (files : List MemFile) (name : Option (List ℕ)) → unwrap_or (option_and_then (content_or_none files) name) [] ≡ unwrap_or (option_and_then (content_in files) name) []
same_bytes files (Some name) = refl
same_bytes files None = refl

pub returns-clause-desk : goal.returns-clause-desk
returns-clause-desk c =
    let desk = c.args.self.now in
    let file = c.args.file in
    let h₀ = desk.history in
    let h₁ = c.mark.new.self in
    let h₂ = c.take_next.new.self in
    let buf = c.take_next.new.buf in
    let n = c.take_next.result in
    let marked : Marked file h₀ h₁ = record {
      given = c.requires.given;
      known = c.mark.ensures.known;
      opened = c.mark.ensures.opened;
      names = c.mark.ensures.names;
      taken = c.mark.ensures.taken;
      marks = c.mark.ensures.marks;
      asked = c.mark.ensures.asked;
      outputs = c.mark.ensures.outputs;
    } in
    let taken : Taken desk.files file buf n h₁ h₂ = record {
      piece = subst (λ (files : List MemFile). IsPiece (source_of files h₁ file) (get_or (taken_of h₁.files.items) file 0) buf n) c.as_slice-files.ensures c.take_next.ensures.piece;
      opened = c.take_next.ensures.opened;
      known = c.take_next.ensures.known;
      names = c.take_next.ensures.names;
      taken = c.take_next.ensures.taken;
      marks = c.take_next.ensures.marks;
      asked = c.take_next.ensures.asked;
      outputs = c.take_next.ensures.outputs;
    } in
    read_done desk.files (content_or_none desk.files) (same_bytes desk.files) file n buf h₀ h₁ h₂ marked taken 0 0 (λ _. 0) c.take_next.ensures.at_most
