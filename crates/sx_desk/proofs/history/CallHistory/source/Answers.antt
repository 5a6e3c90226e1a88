use Rattle.std.proofs.Common.{◌≡◌, List, Some, sym, ap, ◌∙◌, unwrap_or, option_and_then, [], slice_get}
use Rattle.sx_desk.specs.Files.{bytes_in}
use Rattle.sx_desk.specs.Opened.{names_of_opened}
use Rattle.sx_desk.specs.declared.opened.OpenedFile.{OpenedFile}
use Rattle.sx_desk.proofs.Recorded.{source_told}
use Rattle.sx_desk.proofs.history.CallHistory.source.Goals as goal

pub returns : goal.returns
returns c =
    let h = c.args.self.now in
    let name : slice_get (names_of_opened h.files.items) c.args.at ≡ Some c.name_at.result.now =
    ap (λ (files : List OpenedFile). slice_get (names_of_opened files) c.args.at) (sym c.deref-2.ensures.value) ∙ c.name_at.ensures in
    c.bytes_at-2.ensures
    ∙ ap (λ place. unwrap_or (option_and_then (bytes_in c.args.files.now) place) []) c.place_of.ensures
    ∙ source_told c.args.files.now h c.args.at c.name_at.result.now (sym c.tells.ensures ∙ c.if-not-tells.false) name
