use Rattle.std.proofs.Common.{◌-◌, List, length, slice_get, ap, sym, ◌∙◌}
use Rattle.sx_sheet.specs.declared.reading.LinedEvent.{LinedEvent}
use Rattle.sx_top.proofs.Stylesheets.{ends_with}
use Rattle.sx_top.proofs.stylesheet.CollectorEventTaker.ended.Goals as goal

pub returns-in-Some : goal.returns-in-Some
returns-in-Some c = λ m names events w s.
    c.end_of.ensures
    ∙ ends_with c.args.self.now m names events w s c.in-Some.last.now
    (sym (c.in-Some.ensures.value ∙ ap (λ (es : List LinedEvent). slice_get es (length es - 1)) c.as_slice.ensures))
