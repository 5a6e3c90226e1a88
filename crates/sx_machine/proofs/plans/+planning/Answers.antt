use Rattle.std.proofs.Common.{◌≡◌, ℕ, List, [], ◌∷◌, map, ap, ap₂, sym, ◌∙◌}
use Rattle.std.proofs.lemmas.Result.{on_ok_weaker}
use Rattle.sx_tree.specs.declared.events.Label.{Label}
use Rattle.sx_named.specs.Named.{Name, name_at}
use Rattle.sx_kinds.specs.declared.constructs.Instr.{Instr}
use Rattle.sx_kinds.specs.declared.constructs.Instr.TheViews.{out-Instr}
use Rattle.sx_kinds.specs.declared.constructs.InstrForm.{InstrForm}
use Rattle.sx_build.specs.Asked as ask
use Rattle.sx_machine.specs.Body.{Body, literal, body_of, form_in_front, instr_in_front, written_out}
use Rattle.sx_machine.specs.Plan.{Plan, still, then_plan, plan_of, read_plan}
use Rattle.sx_machine.specs.Run.{gives}
use Rattle.sx_machine.proofs.Rules.{in_front_is, joined_is}
use Rattle.sx_machine.proofs.Splits.{literal_in_front, text_in_front}
use Rattle.sx_machine.proofs.plans.+planning.Goals as goal

-- an instruction of this form in front of others
front_of : (i : Instr) (f : InstrForm) → (out-Instr i).form ≡ f → (rest : Body Label) → instr_in_front i rest ≡ form_in_front (out-Instr i).construct.line f (map instr_in_front (out-Instr i).body) rest
front_of i f e rest = in_front_is i rest ∙ ap (λ (g : InstrForm). form_in_front (out-Instr i).construct.line g (map instr_in_front (out-Instr i).body) rest) e

pub plan_instr-returns-in_ok-plan_instrs-in-Literal : goal.plan_instr-returns-in_ok-plan_instrs-in-Literal
plan_instr-returns-in_ok-plan_instrs-in-Literal t c = on_ok_weaker c.push-in-Literal.result (λ ended names left rest.
    let p : Plan = read_plan names c.args.plan.now in
    let content : List Instr = (out-Instr c.args.instr.now).body in
    let line : ℕ = (out-Instr c.args.instr.now).construct.line in
    let label : Label = c.in-Literal.label in
    let start : Plan = still (gives (ask.starts (name_at names label) ∷ [])) in
    let written : Body Name = written_out names (body_of content) in
    let started : read_plan names c.push.new.self ≡ then_plan p start =
    c.in_ok-push-in-Literal.ensures names ∙ ap (λ (l : Label). then_plan p (still (gives (ask.starts (name_at names l) ∷ [])))) c.in_ok-copy-in-Literal.ensures in
    let filled : read_plan names c.plan_instrs.new.plan ≡ then_plan (then_plan p start) (plan_of left written) =
    c.in_ok-plan_instrs-in-Literal.ensures names left ∙ ap₂ (λ (q : Plan) (is : List Instr). then_plan q (plan_of left (written_out names (body_of is)))) started c.as_slice.ensures in
    ap (λ (q : Plan). then_plan q (plan_of left (written_out names rest))) (ended names ∙ ap (λ (q : Plan). then_plan q (still (gives (ask.ends ∷ [])))) filled)
    ∙ literal_in_front left p line (name_at names label) written (written_out names rest)
    ∙ ap (λ (b : Body Label). then_plan p (plan_of left (written_out names b)))
    (sym (front_of c.args.instr.now _ c.in-Literal.is rest ∙ ap (λ (b : Body Label). literal line label b rest) (joined_is content)))) c.push-in-Literal.ensures

pub plan_instr-returns-in_ok-copy-in-Text : goal.plan_instr-returns-in_ok-copy-in-Text
plan_instr-returns-in_ok-copy-in-Text t c = on_ok_weaker c.push-in-Text.result (λ pushed names left rest.
    let p : Plan = read_plan names c.args.plan.now in
    ap (λ (q : Plan). then_plan q (plan_of left (written_out names rest)))
    (pushed names ∙ ap (λ (s : List ℕ). then_plan p (still (gives (ask.says s ∷ [])))) (c.in_ok-copy-in-Text.ensures ∙ c.as_str.ensures))
    ∙ text_in_front left p c.in-Text.text (written_out names rest)
    ∙ ap (λ (b : Body Label). then_plan p (plan_of left (written_out names b))) (sym (front_of c.args.instr.now _ c.in-Text.is rest))) c.push-in-Text.ensures
