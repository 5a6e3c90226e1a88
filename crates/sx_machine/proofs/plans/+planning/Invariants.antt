use Rattle.std.proofs.Common.{◌≡◌, ℕ, drop}
use Rattle.sx_machine.specs.Body.{body_of, written_out}
use Rattle.sx_machine.specs.Plan.{then_plan, plan_of, read_plan}
use Rattle.sx_machine.proofs.plans.+planning.Given as goal
use Rattle.sx_names.specs.Numbering.{NameTable}

abbrev pub invariant-plan_instrs-loop-instr : goal.invariant-plan_instrs-loop-instr
invariant-plan_instrs-loop-instr l = (names : NameTable) (left : ℕ)
    → then_plan (read_plan names l.plan) (plan_of left (written_out names (body_of (drop l.instr-index l.instrs))))
    ≡ then_plan (read_plan names l.initial.plan) (plan_of left (written_out names (body_of l.instrs)))
