use Rattle.std.proofs.Common.{◌∙◌, ◌+◌, ℕ, length, drop, ap, sym, subst}
use Rattle.std.proofs.lemmas.Slice.Zip.{zip_turn, zip_end}
use Rattle.std.proofs.lemmas.List.{length_push}
use Rattle.sx_lex.specs.declared.kinds.Token.{Token}
use Rattle.sx_parse.specs.Checks.{first_fault, fault_at}
use Rattle.sx_parse.specs.Lexing.{IsPart}
use Rattle.sx_parse.proofs.Failing.{fault_step, fault_end}
use Rattle.sx_parse.proofs.Parts.{part_at}
use Rattle.sx_parse.proofs.checks.first_fault.Goals as goal

pub role_fault-requires-clause-part : goal.role_fault-requires-clause-part
role_fault-requires-clause-part c =
    let turn =
    zip_turn c.args.roles.now c.args.tokens.now c.loop-role.yielded c.into_iter-role-iterator.result _ c.next.new.self _ (cc) (cc) c.loop-role.yielded_by (c.in-Some.role, c.in-Some.token) c.in-Some.is c.next.ensures.steps in
    subst (λ (t : Token). IsPart c.args.text.now t) (sym (turn.3 c.in-Some.token.now)) (part_at c.args.text.now c.args.tokens.now _ c.in-Some.token.now c.requires turn.1)

pub loop-role-preserved : goal.loop-role-preserved
loop-role-preserved c =
    let turn =
    zip_turn c.args.roles.now c.args.tokens.now c.loop-role.yielded c.into_iter-role-iterator.result _ c.next.new.self _ (cc) (cc) c.loop-role.yielded_by (c.in-Some.role, c.in-Some.token) c.in-Some.is c.next.ensures.steps in
    let faults = first_fault c.args.pattern c.args.scope.now c.args.text.now c.args.tokens.now in
    let step = fault_step c.args.pattern c.args.scope.now c.args.text.now c.args.tokens.now c.args.roles.now c.args.tokens.now (length c.loop-role.yielded) c.in-Some.role.now c.in-Some.token.now turn.0 turn.1 turn.2 turn.3 in
    ap (λ (n : ℕ). faults (drop n c.args.roles.now) (drop n c.args.tokens.now)) (length_push c.loop-role.yielded (c.in-Some.role, c.in-Some.token))
    ∙ sym (step ∙ ap (λ o. fault_at c.in-Some.token.now.start o (faults (drop (length c.loop-role.yielded + 1) c.args.roles.now) (drop (length c.loop-role.yielded + 1) c.args.tokens.now))) (sym c.in_ok-code.ensures ∙ c.in_default.is))
    ∙ c.loop-role.invariant

pub returns : goal.returns
returns c =
    let end = zip_end c.args.roles.now c.args.tokens.now c.loop-role.yielded c.into_iter-role-iterator.result _ c.next.new.self _ (cc) (cc) c.loop-role.yielded_by c.in-None.is c.next.ensures.steps in
    sym (fault_end c.args.pattern c.args.scope.now c.args.text.now c.args.tokens.now c.args.roles.now c.args.tokens.now _ end) ∙ c.loop-role.invariant
