use Rattle.std.proofs.Common.{◌∙◌, ◌+◌, ℕ, List, length, ap, sym, subst}
use Rattle.std.proofs.lemmas.List.{length_push}
use Rattle.std.proofs.lemmas.Slice.Zip.{zip_turn, zip_end}
use Rattle.sx_lex.specs.declared.kinds.Token.{Token}
use Rattle.sx_names.proofs.Places.{KeepsPlaces-trans}
use Rattle.sx_parse.specs.Lexing.{IsPart}
use Rattle.sx_parse.specs.Numbers.{expanded}
use Rattle.sx_parse.specs.Naming.{names_with_role, number_with}
use Rattle.sx_parse.proofs.Naming.{IsNumberedTo, numbering_goes_on, numbering_ends}
use Rattle.sx_parse.proofs.Parts.{part_at}
use Rattle.sx_parse.proofs.numbers.number_names.Goals as goal

pub token_text-requires : goal.token_text-requires
token_text-requires c =
    let turn =
    zip_turn c.args.roles.now c.args.tokens.now c.loop-role.yielded c.into_iter-role-iterator.result _ c.next.new.self _ (cc) (cc) c.loop-role.yielded_by (c.in-Some.role, c.in-Some.token) c.in-Some.is c.next.ensures.steps in
    subst (λ (t : Token). IsPart c.args.text.now t) (sym (turn.3 c.in-Some.token.now)) (part_at c.args.text.now c.args.tokens.now _ c.in-Some.token.now c.requires turn.1)

pub returns-in_err-number-clause-kept : goal.returns-in_err-number-clause-kept
returns-in_err-number-clause-kept c = KeepsPlaces-trans c.args.names.now c.loop-role.names c.number_of.new.names c.loop-role.invariant.1 c.number_of.ensures.kept

pub returns-in_err-push-clause-kept : goal.returns-in_err-push-clause-kept
returns-in_err-push-clause-kept c = KeepsPlaces-trans c.args.names.now c.loop-role.names c.number_of.new.names c.loop-role.invariant.1 c.number_of.ensures.kept

pub loop-role-preserved : goal.loop-role-preserved
loop-role-preserved c =
    let turn =
    zip_turn c.args.roles.now c.args.tokens.now c.loop-role.yielded c.into_iter-role-iterator.result _ c.next.new.self _ (cc) (cc) c.loop-role.yielded_by (c.in-Some.role, c.in-Some.token) c.in-Some.is c.next.ensures.steps in
    let scope = c.args.scope.now in
    let text = c.args.text.now in
    let role = c.in-Some.role.now in
    let token = c.in-Some.token.now in
    let old = c.loop-role.names in
    let new = c.number_of.new.names in
    let so_far = IsNumberedTo scope text c.args.roles.now c.args.tokens.now c.args.names.now new in
    let next =
    numbering_goes_on scope text c.args.roles.now c.args.tokens.now c.args.names.now old c.loop-role.numbers (length c.loop-role.yielded) role token new c.in_ok-number.number
    turn.0 turn.1 turn.2 turn.3 c.loop-role.invariant.0
    (c.in_ok-number.ensures.names ∙ ap (λ (s : List ℕ). names_with_role role old (expanded scope s)) c.token_text.ensures)
    (c.in_ok-number.ensures.number ∙ ap (λ (s : List ℕ). number_with role new (expanded scope s)) c.token_text.ensures) in (
      subst (λ (k : ℕ). so_far c.push.new.self k) (sym (length_push c.loop-role.yielded (c.in-Some.role, c.in-Some.token)))
          (subst (λ (ns : List ℕ). so_far ns (length c.loop-role.yielded + 1)) (sym c.in_ok-push.ensures.ok) next),
      KeepsPlaces-trans c.args.names.now old new c.loop-role.invariant.1 c.number_of.ensures.kept,
    )

pub returns-clause-names : goal.returns-clause-names
returns-clause-names c =
    let end = zip_end c.args.roles.now c.args.tokens.now c.loop-role.yielded c.into_iter-role-iterator.result _ c.next.new.self _ (cc) (cc) c.loop-role.yielded_by c.in-None.is c.next.ensures.steps in
    (numbering_ends c.args.scope.now c.args.text.now c.args.roles.now c.args.tokens.now c.args.names.now c.loop-role.names c.loop-role.numbers _ end c.loop-role.invariant.0).0

pub returns-clause-numbers : goal.returns-clause-numbers
returns-clause-numbers c =
    let end = zip_end c.args.roles.now c.args.tokens.now c.loop-role.yielded c.into_iter-role-iterator.result _ c.next.new.self _ (cc) (cc) c.loop-role.yielded_by c.in-None.is c.next.ensures.steps in
    (numbering_ends c.args.scope.now c.args.text.now c.args.roles.now c.args.tokens.now c.args.names.now c.loop-role.names c.loop-role.numbers _ end c.loop-role.invariant.0).1
