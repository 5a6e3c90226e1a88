use Rattle.std.proofs.Common.{◌≡◌, take}
use Rattle.sx_kinds.proofs.sheets.copy_templates.Given as goal

abbrev pub invariant-loop-template : goal.invariant-loop-template
invariant-loop-template l = l.copy ≡ take l.template-index l.templates
