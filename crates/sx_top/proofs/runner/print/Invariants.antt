use Rattle.std.proofs.Common.{◌≡◌, ◌++◌, take}
use Rattle.sx_lines.specs.Print.{print_all, ends_in_text}
use Rattle.sx_top.proofs.runner.print.Given as goal

abbrev pub invariant-loop-event : goal.invariant-loop-event
invariant-loop-event l =
    (l.due.items ≡ l.fn.due.items ++ print_all l.fn.after_text (take l.event-index l.events)) × (l.text ≡ ends_in_text l.fn.after_text (take l.event-index l.events))
