-- What is found of the content of an element, from one instruction to the next.
use Rattle.std.proofs.Common.{◌≡◌, ℕ, ◌+◌, ◌≤◌, ◌<◌, nat_lt, Bool, true, false, ◌||◌, cond, List, length, drop, map, Option, Some, None, get_or, refl, ap, sym, ◌∙◌, arith}
use Rattle.std.proofs.lemmas.Bool.Decides.{nat_tests}
use Rattle.std.proofs.lemmas.List.{drop_all}
use Rattle.sx_tree.specs.declared.events.Label.{Label}
use Rattle.sx_kinds.specs.declared.constructs.Instr.{Instr}
use Rattle.sx_kinds.specs.declared.constructs.Instr.TheViews.{out-Instr}
use Rattle.sx_kinds.specs.declared.constructs.InstrForm.{InstrForm}
use Rattle.sx_kinds.specs.declared.constructs.InstrForm.TheVariants as form
use Rattle.sx_machine.specs.Body.{Body, nil, literal, copies, words, apply, body_of, form_in_front, instr_in_front, or_else, consumes, consuming_parts, culprit_inside, culprit_of}
use Rattle.sx_machine.proofs.Rules.{body-drop, in_front_is, joined_is}

-- So many instructions were looked at: the first culprit in them, and how many of them consume.
pub record JudgedSoFar (instrs : List Instr) (n : ℕ) (inside : Option ℕ) (consuming : ℕ) : Type 0 where
  pub first : or_else inside (culprit_inside (body_of (drop n instrs))) ≡ culprit_inside (body_of instrs)
  pub parts : consuming + consuming_parts (body_of (drop n instrs)) ≡ consuming_parts (body_of instrs)
  pub few : consuming ≤ n

or_else_assoc : (a b c : Option ℕ) → or_else (or_else a b) c ≡ or_else a (or_else b c)
or_else_assoc None b c = refl
or_else_assoc (Some x) b c = refl

pub or_else_none : (a : Option ℕ) → or_else a None ≡ a
or_else_none None = refl
or_else_none (Some x) = refl

at_most_one : (v : Bool) → cond v 1 0 ≤ 1
at_most_one true = omega arith
at_most_one false = omega arith

-- one instruction more
pub judged_more : (instrs : List Instr) (n : ℕ) (i : Instr) (inside found : Option ℕ) (consuming : ℕ) (held : Bool) → JudgedSoFar instrs n inside consuming
    → n < length instrs → i ≡ get_or instrs n i
    → ((rest : Body Label) → culprit_inside (instr_in_front i rest) ≡ or_else found (culprit_inside rest))
    → ((rest : Body Label) → consuming_parts (instr_in_front i rest) ≡ cond held 1 0 + consuming_parts rest)
    → JudgedSoFar instrs (n + 1) (or_else inside found) (consuming + cond held 1 0)
judged_more instrs n i inside found consuming held so h e first parts =
    let rest : Body Label = body_of (drop (n + 1) instrs) in
    let front : body_of (drop n instrs) ≡ instr_in_front i rest = body-drop instrs n i h e in
    let counted : consuming_parts (body_of (drop n instrs)) ≡ cond held 1 0 + consuming_parts rest = ap consuming_parts front ∙ parts rest in
    let one : cond held 1 0 ≤ 1 = at_most_one held in
    let before : consuming + consuming_parts (body_of (drop n instrs)) ≡ consuming_parts (body_of instrs) = so.parts in
    let small : consuming ≤ n = so.few in
    record {
      first = or_else_assoc inside found (culprit_inside rest) ∙ ap (or_else inside) (sym (ap culprit_inside front ∙ first rest)) ∙ so.first;
      parts = omega arith;
      few = omega arith;
    }

any_beside : (v w : Bool) (n : ℕ) → w ≡ nat_lt 0 n → (v || w) ≡ nat_lt 0 (cond v 1 0 + n)
any_beside true w n e = grind (arith, nat_tests)
any_beside false w n e = e ∙ ap (nat_lt 0) (omega arith)

-- a body consumes where a part of it does
pub consumes_is : {N : Type 0} (b : Body N) → consumes b ≡ nat_lt 0 (consuming_parts b)
consumes_is nil = refl
consumes_is (literal line label content rest) = any_beside (consumes content) (consumes rest) (consuming_parts rest) (consumes_is rest)
consumes_is (copies attributes rest) = consumes_is rest
consumes_is (words s rest) = consumes_is rest
consumes_is (apply rest) = grind (arith, nat_tests)

-- where all parts were looked at
pub judged_consumes : (instrs : List Instr) (n : ℕ) (inside : Option ℕ) (consuming : ℕ) → JudgedSoFar instrs n inside consuming → length instrs ≤ n → nat_lt 0 consuming ≡ consumes (body_of instrs)
judged_consumes instrs n inside consuming so h =
    let none_left : consuming_parts (body_of (drop n instrs)) ≡ 0 = ap (λ (is : List Instr). consuming_parts (body_of is)) (drop_all n instrs h) in
    let counted : consuming + consuming_parts (body_of (drop n instrs)) ≡ consuming_parts (body_of instrs) = so.parts in
    let all : consuming ≡ consuming_parts (body_of instrs) = omega arith in
    ap (nat_lt 0) all ∙ sym (consumes_is (body_of instrs))

-- a literal result element in front of others
literal_is : (i : Instr) (label : Label) → (out-Instr i).form ≡ form.Literal label → (rest : Body Label)
    → instr_in_front i rest ≡ literal (out-Instr i).construct.line label (body_of (out-Instr i).body) rest
literal_is i label e rest =
    in_front_is i rest
    ∙ ap (λ (g : InstrForm). form_in_front (out-Instr i).construct.line g (map instr_in_front (out-Instr i).body) rest) e
    ∙ ap (λ (b : Body Label). literal (out-Instr i).construct.line label b rest) (joined_is (out-Instr i).body)

-- the first culprit from it on, where this is the first in its element
pub literal_culprit : (i : Instr) (label : Label) → (out-Instr i).form ≡ form.Literal label → (content : List Instr) → content ≡ (out-Instr i).body
    → (found : Option ℕ) → found ≡ culprit_of (out-Instr i).construct.line (body_of content) → (rest : Body Label)
    → culprit_inside (instr_in_front i rest) ≡ or_else found (culprit_inside rest)
literal_culprit i label e content same found is rest =
    ap culprit_inside (literal_is i label e rest)
    ∙ ap (λ (o : Option ℕ). or_else o (culprit_inside rest)) (sym (is ∙ ap (λ (b : List Instr). culprit_of (out-Instr i).construct.line (body_of b)) same))

-- how many parts consume from it on, where it is known whether it does
pub literal_parts : (i : Instr) (label : Label) → (out-Instr i).form ≡ form.Literal label → (content : List Instr) → content ≡ (out-Instr i).body
    → (held : Bool) → held ≡ consumes (body_of content) → (rest : Body Label)
    → consuming_parts (instr_in_front i rest) ≡ cond held 1 0 + consuming_parts rest
literal_parts i label e content same held is rest =
    ap consuming_parts (literal_is i label e rest)
    ∙ ap (λ (v : Bool). cond v 1 0 + consuming_parts rest) (sym (is ∙ ap (λ (b : List Instr). consumes (body_of b)) same))
