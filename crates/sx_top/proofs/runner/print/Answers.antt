use Rattle.std.proofs.Common.{◌++◌, ℕ, List, take, ap, sym, ◌∙◌, append_assoc}
use Rattle.sx_lines.specs.Print.{print_all, printed}
use Rattle.sx_top.proofs.Runners.{print_next, text_next}
use Rattle.sx_top.proofs.runner.print.Goals as goal

pub loop-event-preserved : goal.loop-event-preserved
loop-event-preserved c =
    let events = c.args.events.now in
    let i = c.loop-event.event-index in
    let e = c.event-item.result in
    let text = c.args.after_text in
    let before = c.args.due.now.items in (
      c.in_ok-append.ensures.ok
          ∙ ap (λ (x : List ℕ). x ++ printed c.loop-event.text e) c.loop-event.invariant.0
          ∙ append_assoc before (print_all text (take i events)) (printed c.loop-event.text e)
          ∙ ap (λ (t : _). before ++ (print_all text (take i events) ++ printed t e)) c.loop-event.invariant.1
          ∙ ap (λ (x : List ℕ). before ++ x) (sym (print_next text events i e c.loop-event-test.true c.event-item.is)),
      c.is_text-text.ensures ∙ sym (text_next text events i e c.loop-event-test.true c.event-item.is),
    )
