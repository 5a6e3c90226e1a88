use Rattle.std.proofs.Common.{ℕ, List, subst, arith}
use Rattle.sx_lex.specs.Fronts.{IsLongestFront}
use Rattle.sx_lex.specs.Tokens.{is_mark}
use Rattle.sx_lex.proofs.Table.{IsBare, mark_none, mark_some}
use Rattle.sx_lex.proofs.marks.mark.Goals as goal

pub returns-in-0 : goal.returns-in-0
returns-in-0 c =
    let s = c.args.text.now in
    let front : IsLongestFront is_mark s c.mark_size.result = subst (λ (x : List ℕ). IsLongestFront is_mark x c.mark_size.result) c.as_bytes.ensures.value c.mark_size.ensures in
    let bare : IsBare s = record { name = c.requires.no_name; number = c.requires.no_number; literal = c.requires.no_literal; wild = c.requires.no_wild } in
    mark_none s bare (subst (λ (n : ℕ). IsLongestFront is_mark s n) (let e = c.in-0.is in omega arith) front)

pub returns-in_default : goal.returns-in_default
returns-in_default c =
    let s = c.args.text.now in
    let front : IsLongestFront is_mark s c.mark_size.result = subst (λ (x : List ℕ). IsLongestFront is_mark x c.mark_size.result) c.as_bytes.ensures.value c.mark_size.ensures in
    let bare : IsBare s = record { name = c.requires.no_name; number = c.requires.no_number; literal = c.requires.no_literal; wild = c.requires.no_wild } in
    mark_some s c.mark_size.result c.utf8.text bare (let other = c.in_default in omega arith) front
