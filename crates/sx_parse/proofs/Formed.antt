-- What is read is formed: each expression has as many parts as its form asks for, and numbers change nothing of that.
use Rattle.std.proofs.Common.{◌≡◌, ℕ, suc, ◌+◌, ◌≤◌, Bool, true, false, ◌&&◌, List, [], ◌∷◌, ◌++◌, length, map, not, Option, None, Some, refl, ap, sym, subst, ◌∙◌, arith, length-append}
use Rattle.std.proofs.lemmas.Bool.{false≢true}
use Rattle.std.proofs.lemmas.Bool.Decides.{nat_tests}
use Rattle.std.proofs.lemmas.Option.{none-some}
use Rattle.sx_atoms.specs.declared.atoms.AtomType.{AtomType}
use Rattle.sx_atoms.specs.declared.error_codes.Code.{Code}
use Rattle.sx_atoms.specs.declared.error_codes.Code.TheVariants as code
use Rattle.sx_kinds.proofs.Formed.{formed_count, formed_first, formed_others, formed_out, formed_parts, formed_roll}
use Rattle.sx_kinds.specs.Formed.{AreFormed, IsFormed, all_so, formed, has_parts}
use Rattle.sx_kinds.specs.declared.constructs.ConstructKind.{ConstructKind}
use Rattle.sx_kinds.specs.declared.constructs.ConstructKind.TheVariants as kind
use Rattle.sx_atoms.specs.declared.arithmetic.ArithOp.TheVariants as arith_op
use Rattle.sx_kinds.specs.declared.expressions.Deep.TheVariants as deep
use Rattle.sx_kinds.specs.declared.expressions.AvtPart.{AvtPart}
use Rattle.sx_kinds.specs.declared.expressions.Expr.{Expr}
use Rattle.sx_kinds.specs.declared.expressions.Expr.TheFolds.{fold-roll-Expr, ind-Expr}
use Rattle.sx_kinds.specs.declared.expressions.Expr.TheOpen.{Expr-F}
use Rattle.sx_kinds.specs.declared.expressions.Expr.TheViews.{out-Expr, roll-Expr, out-roll-Expr}
use Rattle.sx_kinds.specs.declared.expressions.ExprForm.{ExprForm}
use Rattle.sx_kinds.specs.declared.expressions.ExprForm.TheVariants as form
use Rattle.sx_kinds.specs.declared.expressions.Function.{Function}
use Rattle.sx_lex.specs.declared.kinds.Token.{Token}
use Rattle.sx_tree.specs.declared.steps.Axis.TheVariants as axis
use Rattle.sx_tree.specs.declared.steps.NodeTest.TheVariants as node_test
use Rattle.sx_names.specs.Scope.{ScopeBindings}
use Rattle.sx_parse.specs.declared.lexemes.Operator.{Operator}
use Rattle.sx_parse.specs.declared.lexemes.Operator.TheVariants as operator
use Rattle.sx_parse.specs.declared.lexemes.Binder.{Binder}
use Rattle.sx_parse.specs.declared.lexemes.Binder.TheVariants as binder
use Rattle.sx_parse.specs.declared.lexemes.Casting.{Casting}
use Rattle.sx_parse.specs.declared.lexemes.Casting.TheVariants as casting
use Rattle.sx_parse.specs.declared.faults.SyntaxFault.{SyntaxFault}
use Rattle.sx_parse.specs.declared.lexemes.Lexeme.{Lexeme}
use Rattle.sx_parse.specs.declared.nodes.Node.{Node}
use Rattle.sx_parse.specs.declared.roles.Role.{Role}
use Rattle.sx_parse.specs.declared.roles.Role.TheVariants as role
use Rattle.sx_parse.specs.Answers.{IsRead, meaning_in}
use Rattle.sx_parse.specs.Checks.{fails, fault_at, first_fault, function_of, role_fault, accepts_count, takes_arguments, token_text}
use Rattle.sx_parse.specs.Grammar.{Fits, Tree, literal, dot, parent, root, variable, step, empty, parens, call, called, filter, comma, prefixed, binary, cast, choice, bind, Bindings, first, also, binder_of}
use Rattle.sx_parse.specs.Nodes.{takes_more}
use Rattle.sx_parse.specs.Numbered.{Numbers, in_order, is_path, numbered, numbers_in, numbers_with, construct_with_number}
use Rattle.sx_parse.specs.Numbers.{NameEntry, numbers_among}
use Rattle.sx_parse.specs.Parsed.{AreFormedParts, AreTemplateParts, IsSaid}
use Rattle.sx_parse.specs.Turning.{IsReadTo}
use Rattle.sx_parse.specs.Understanding.{IsUnderstood}
use Rattle.sx_parse.specs.Templates.{Piece, fixed, inner}
use Rattle.sx_parse.specs.Roles.{binding_roles, bound_depth, operand_count, question_roles, roles}
use Rattle.sx_parse.specs.Says.{or_true, Meaning, made, deepened, with_part, joined_by, begun_by, cast_by, bound_by, filtered, whole_expression, operands, bound_in, says, number_at, type_named_at, root_of, call_of, called_function, any_type, literal_atom, step_axis, node_test_of, alternatives}
use Rattle.sx_parse.proofs.Parallel.{parallel}
use Rattle.sx_parse.proofs.Refusals.{as_many as as_many_lexemes}

-- ---- one expression

both : (a b : Bool) → a ≡ true → b ≡ true → (a && b) ≡ true
both a b p q = rw (p, q) refl

-- whether one more predicate makes no other form
abbrev has_predicates : ExprForm → Bool
has_predicates (form.Step a t) = true
has_predicates form.Filter = true
has_predicates f = false

form_made : (m : Meaning) (k : ConstructKind) (f : ExprForm) (es : List Expr) → has_predicates f ≡ true → has_predicates (out-Expr (made m k f es)).form ≡ true
form_made m k f es h =
    ap (λ (x : Expr-F Expr). has_predicates x.form) (out-roll-Expr (record { construct = record { number = 0; line = m.line; kind = k }; deep = deep.No; form = f; parts = es })) ∙ h

form_filtered : (m : Meaning) (more : Bool) (b e : Expr) → (more ≡ true → has_predicates (out-Expr b).form ≡ true) → has_predicates (out-Expr (filtered m more b e)).form ≡ true
form_filtered m true b e h =
    ap (λ (x : Expr-F Expr). has_predicates x.form)
    (out-roll-Expr (record { construct = (out-Expr b).construct; deep = (out-Expr b).deep; form = (out-Expr b).form; parts = (out-Expr b).parts ++ e ∷ [] }))
    ∙ h refl
form_filtered m false b e h = form_made m kind.Filter form.Filter (b ∷ e ∷ []) refl

-- what accepts_count one more predicate is a step or a filter
form_more : (m : Meaning) (t : Tree) → takes_more t ≡ true → has_predicates (out-Expr (says m t)).form ≡ true
form_more m parent h = form_made m kind.Step (form.Step axis.Parent node_test.Node) [] refl
form_more m (step pre t) h = form_made m kind.Step (form.Step (step_axis pre t) (node_test_of m t)) [] refl
form_more m (filter b e) h = form_filtered m (takes_more b) (says m b) (says m e) (λ more. form_more m b more)
form_more m t h = absurd (false≢true h)

-- there are as many operands as commas count
operands_counted : (m : Meaning) (t : Tree) → length (operands m t) ≡ operand_count t
operands_counted m (literal p) = refl
operands_counted m dot = refl
operands_counted m parent = refl
operands_counted m root = refl
operands_counted m (variable w p) = refl
operands_counted m (step pre t) = refl
operands_counted m empty = refl
operands_counted m (parens e) = refl
operands_counted m (call w p) = refl
operands_counted m (called w p e) = refl
operands_counted m (filter b e) = refl
operands_counted m (comma a b) = omega (arith, length-append (operands m a) (says m b ∷ []), operands_counted m a)
operands_counted m (prefixed o e) = refl
operands_counted m (binary a l o b) = refl
operands_counted m (cast e k p q w r optional) = refl
operands_counted m (choice p c q t r e) = refl
operands_counted m (bind bs l e) = refl

module _ (accepts_count : Function → ℕ → Bool) where
  abbrev is_formed : Expr → Bool
  is_formed e = formed accepts_count e

  made_formed : (m : Meaning) (k : ConstructKind) (f : ExprForm) (es : List Expr) → has_parts accepts_count f (length es) ≡ true → AreFormed accepts_count es → IsFormed accepts_count (made m k f es)
  made_formed m k f es n h =
      formed_roll accepts_count (record { construct = record { number = 0; line = m.line; kind = k }; deep = deep.No; form = f; parts = es })
      ∙ both (has_parts accepts_count f (length es)) (all_so (map is_formed es)) n h

  one_formed : (e : Expr) → IsFormed accepts_count e → AreFormed accepts_count (e ∷ [])
  one_formed e h = both (is_formed e) true h refl

  two_formed : (a b : Expr) → IsFormed accepts_count a → IsFormed accepts_count b → AreFormed accepts_count (a ∷ b ∷ [])
  two_formed a b h k = both (is_formed a) (is_formed b && true) h (one_formed b k)

  push_formed : (es : List Expr) (e : Expr) → AreFormed accepts_count es → IsFormed accepts_count e → AreFormed accepts_count (es ++ e ∷ [])
  push_formed [] e h k = one_formed e k
  push_formed (x ∷ es) e h k =
      both (is_formed x) (all_so (map is_formed (es ++ e ∷ []))) (formed_first accepts_count x es h) (push_formed es e (formed_others accepts_count x es h) k)

  deepened_formed : (e : Expr) → IsFormed accepts_count e → IsFormed accepts_count (deepened e)
  deepened_formed e h =
      formed_roll accepts_count (record { construct = (out-Expr e).construct; deep = deep.Written; form = (out-Expr e).form; parts = (out-Expr e).parts })
      ∙ sym (formed_out accepts_count e)
      ∙ h

  joined_formed : (m : Meaning) (o : Operator) (a b : Expr) → IsFormed accepts_count a → IsFormed accepts_count b → IsFormed accepts_count (joined_by m o a b)
  joined_formed m operator.Or a b h k = made_formed m kind.Or form.Or (a ∷ b ∷ []) refl (two_formed a b h k)
  joined_formed m operator.And a b h k = made_formed m kind.And form.And (a ∷ b ∷ []) refl (two_formed a b h k)
  joined_formed m (operator.Compare op general) a b h k = made_formed m kind.Compare (form.Compare op general) (a ∷ b ∷ []) refl (two_formed a b h k)
  joined_formed m operator.Concat a b h k = made_formed m kind.Concat form.Concat (a ∷ b ∷ []) refl (two_formed a b h k)
  joined_formed m operator.Range a b h k = made_formed m kind.Range form.Range (a ∷ b ∷ []) refl (two_formed a b h k)
  joined_formed m (operator.Arith op) a b h k = made_formed m kind.Arith (form.Arith op) (a ∷ b ∷ []) refl (two_formed a b h k)
  joined_formed m operator.Union a b h k = made_formed m kind.Union form.Union (a ∷ b ∷ []) refl (two_formed a b h k)
  joined_formed m operator.Map a b h k = made_formed m kind.Map form.Map (a ∷ b ∷ []) refl (two_formed a b h k)
  joined_formed m operator.Slash a b h k = made_formed m kind.Path (form.Path false) (a ∷ b ∷ []) refl (two_formed a b h k)
  joined_formed m operator.DoubleSlash a b h k =
      made_formed m kind.Path (form.Path false) (a ∷ deepened b ∷ []) refl (two_formed a (deepened b) h (deepened_formed b k))

  root_formed : (m : Meaning) → IsFormed accepts_count (root_of m)
  root_formed m = made_formed m kind.Root form.Root [] refl refl

  begun_formed : (m : Meaning) (o : Operator) (e : Expr) → IsFormed accepts_count e → IsFormed accepts_count (begun_by m o e)
  begun_formed m operator.Slash e h = joined_formed m operator.Slash (root_of m) e (root_formed m) h
  begun_formed m operator.DoubleSlash e h = joined_formed m operator.DoubleSlash (root_of m) e (root_formed m) h
  begun_formed m (operator.Arith arith_op.Sub) e h = made_formed m kind.Unary (form.Unary true) (e ∷ []) refl (one_formed e h)
  begun_formed m o e h = made_formed m kind.Unary (form.Unary false) (e ∷ []) refl (one_formed e h)

  cast_formed : (m : Meaning) (k : Casting) (t : AtomType) (optional : Bool) (e : Expr) → IsFormed accepts_count e → IsFormed accepts_count (cast_by m k t optional e)
  cast_formed m casting.Castable t optional e h = made_formed m kind.Castable (form.Castable t optional) (e ∷ []) refl (one_formed e h)
  cast_formed m casting.Cast t optional e h = made_formed m kind.Cast (form.Cast t optional) (e ∷ []) refl (one_formed e h)

  bound_formed : (m : Meaning) (k : Binder) (n : ℕ) (a e : Expr) → IsFormed accepts_count a → IsFormed accepts_count e → IsFormed accepts_count (bound_by m k n a e)
  bound_formed m binder.For n a e h k = made_formed m kind.For (form.For n) (a ∷ e ∷ []) refl (two_formed a e h k)
  bound_formed m binder.Let n a e h k = made_formed m kind.Let (form.Let n) (a ∷ e ∷ []) refl (two_formed a e h k)
  bound_formed m binder.Some n a e h k = made_formed m kind.Some (form.Some n) (a ∷ e ∷ []) refl (two_formed a e h k)
  bound_formed m binder.Every n a e h k = made_formed m kind.Every (form.Every n) (a ∷ e ∷ []) refl (two_formed a e h k)

  -- operands that commas join
  whole_formed : (m : Meaning) (es : List Expr) → 1 ≤ length es → AreFormed accepts_count es → IsFormed accepts_count (whole_expression m es)
  whole_formed m [] n h = absurd (omega (arith, n))
  whole_formed m (e ∷ []) n h = formed_first accepts_count e [] h
  whole_formed m (e ∷ f ∷ es) n h = made_formed m kind.Comma form.Comma (e ∷ f ∷ es) (grind (arith, nat_tests)) h

  takes_another : (f : ExprForm) (n : ℕ) → has_predicates f ≡ true → has_parts accepts_count f n ≡ true → has_parts accepts_count f (n + 1) ≡ true
  takes_another (form.Step a t) n p h = refl
  takes_another form.Filter n p h = grind (arith, nat_tests)
  takes_another f n p h = absurd (false≢true p)

  part_formed : (e p : Expr) → has_predicates (out-Expr e).form ≡ true → IsFormed accepts_count e → IsFormed accepts_count p → IsFormed accepts_count (with_part e p)
  part_formed e p more h k =
      let f = (out-Expr e).form in
      let es = (out-Expr e).parts in
      let many = takes_another f (length es) more (formed_count accepts_count e h) in
      formed_roll accepts_count (record { construct = (out-Expr e).construct; deep = (out-Expr e).deep; form = f; parts = es ++ p ∷ [] })
      ∙ both (has_parts accepts_count f (length (es ++ p ∷ []))) (all_so (map is_formed (es ++ p ∷ [])))
      (ap (has_parts accepts_count f) (length-append es (p ∷ [])) ∙ many)
      (push_formed es p (formed_parts accepts_count e h) k)

  filtered_formed : (m : Meaning) (more : Bool) (b e : Expr) → (more ≡ true → has_predicates (out-Expr b).form ≡ true) → IsFormed accepts_count b → IsFormed accepts_count e →
      IsFormed accepts_count (filtered m more b e)
  filtered_formed m true b e h p q = part_formed b e (h refl) p q
  filtered_formed m false b e h p q = made_formed m kind.Filter form.Filter (b ∷ e ∷ []) refl (two_formed b e p q)

  -- ---- derivations

  module _ (m : Meaning) where
    -- a token with this role ends a call with no other number of arguments than the function accepts_count
    abbrev pub RolePasses : Role → Type 0
    RolePasses (role.Closes place n) = accepts_count (called_function m place) n ≡ true
    RolePasses r = Unit {0}

    abbrev pub RolesPass : List Role → Type 0
    RolesPass [] = Unit {0}
    RolesPass (r ∷ rs) = RolePasses r × RolesPass rs

    front : (rs ss : List Role) → RolesPass (rs ++ ss) → RolesPass rs
    front [] ss h = tt
    front (r ∷ rs) ss h = (h.0, front rs ss h.1)

    back : (rs ss : List Role) → RolesPass (rs ++ ss) → RolesPass ss
    back [] ss h = h
    back (r ∷ rs) ss h = back rs ss h.1

    -- there is one operand, or more, and each is formed, and so are they as a whole_expression
    record AreOperands (es : List Expr) : Type 0 where
      pub each : AreFormed accepts_count es
      pub said : IsFormed accepts_count (whole_expression m es)

    one : (e : Expr) → IsFormed accepts_count e → AreOperands (e ∷ [])
    one e h = record { each = one_formed e h; said = h }

    leaf : (k : ConstructKind) (f : ExprForm) → has_parts accepts_count f 0 ≡ true → AreOperands (made m k f [] ∷ [])
    leaf k f h = one (made m k f []) (made_formed m k f [] h refl)

    one_more : (es : List Expr) (e : Expr) → AreOperands es → IsFormed accepts_count e → AreOperands (es ++ e ∷ [])
    one_more es e all h =
        let each : AreFormed accepts_count (es ++ e ∷ []) = push_formed es e all.each h in
        record { each = each; said = whole_formed m (es ++ e ∷ []) (omega (arith, length-append es (e ∷ []))) each }

    called_formed : (p n : ℕ) (es : List Expr) → length es ≡ n → accepts_count (called_function m p) n ≡ true → AreFormed accepts_count es → IsFormed accepts_count (call_of m p es)
    called_formed p n es h k all = made_formed m kind.Call (form.Call (called_function m p) any_type None) es (ap (accepts_count (called_function m p)) h ∙ k) all

    mutual
      operands_formed : (t : Tree) (n : ℕ) → RolesPass (roles n t) → AreOperands (operands m t)
      operands_formed (literal p) n h = leaf kind.LiteralValue (form.Literal (literal_atom m p)) refl
      operands_formed dot n h = leaf kind.Dot form.Dot refl
      operands_formed parent n h = leaf kind.Step (form.Step axis.Parent node_test.Node) refl
      operands_formed root n h = leaf kind.Root form.Root refl
      operands_formed (variable w p) n h = leaf kind.Var (form.Var (number_at m p) any_type) refl
      operands_formed (step pre t) n h = leaf kind.Step (form.Step (step_axis pre t) (node_test_of m t)) refl
      operands_formed empty n h = leaf kind.Empty form.Empty refl
      operands_formed (parens e) n h = one (says m e) (operands_formed e (suc n) (front (roles (suc n) e) (role.Plain ∷ []) h.1)).said
      operands_formed (call w p) n h = one (call_of m p []) (called_formed p 0 [] refl h.1.1.0 refl)
      operands_formed (called w p e) n h =
          let inner = roles (suc n) e in
          let last = back inner (role.Closes p (operand_count e) ∷ []) h.1.1 in
          one (call_of m p (operands m e))
          (called_formed p (operand_count e) (operands m e) (operands_counted m e) last.0 (operands_formed e (suc n) (front inner (role.Closes p (operand_count e) ∷ []) h.1.1)).each)
      operands_formed (filter b e) n h =
          let inner = roles (suc n) e in
          let both_parts = front (roles n b ++ role.Opens (suc n) ∷ inner) (role.Plain ∷ []) h in
          let base = operands_formed b n (front (roles n b) (role.Opens (suc n) ∷ inner) both_parts) in
          let rest = back (roles n b) (role.Opens (suc n) ∷ inner) both_parts in
          let tested = operands_formed e (suc n) rest.1 in
          one (filtered m (takes_more b) (says m b) (says m e))
          (filtered_formed m (takes_more b) (says m b) (says m e) (λ more. form_more m b more) base.said tested.said)
      operands_formed (comma a b) n h =
          let last = back (roles n a) (role.Plain ∷ roles n b) h in
          one_more (operands m a) (says m b) (operands_formed a n (front (roles n a) (role.Plain ∷ roles n b) h)) (operands_formed b n last.1).said
      operands_formed (prefixed o e) n h = one (begun_by m o (says m e)) (begun_formed m o (says m e) (operands_formed e n h.1).said)
      operands_formed (binary a l o b) n h =
          let last = back (roles n a) (role.Plain ∷ roles n b) h in
          one (joined_by m o (says m a) (says m b))
          (joined_formed m o (says m a) (says m b) (operands_formed a n (front (roles n a) (role.Plain ∷ roles n b) h)).said (operands_formed b n last.1).said)
      operands_formed (cast e k p q w r optional) n h =
          let rest = role.Plain ∷ role.Plain ∷ role.Type ∷ question_roles optional in
          one (cast_by m k (type_named_at m r) optional (says m e)) (cast_formed m k (type_named_at m r) optional (says m e) (operands_formed e n (front (roles n e) rest h)).said)
      operands_formed (choice p c q t r e) n h =
          let last = role.Plain ∷ roles (suc n) e in
          let mid = role.Plain ∷ role.Plain ∷ roles (suc n) t in
          let before_else = front (roles (suc (suc n)) c ++ mid) last h.1.1 in
          let behind_test = back (roles (suc (suc n)) c) mid before_else in
          let behind_then = back (roles (suc (suc n)) c ++ mid) last h.1.1 in
          let test = (operands_formed c (suc (suc n)) (front (roles (suc (suc n)) c) mid before_else)).said in
          let then_part = (operands_formed t (suc n) behind_test.1.1).said in
          let else_part = (operands_formed e (suc n) behind_then.1).said in
          one (made m kind.If form.If (says m c ∷ says m t ∷ says m e ∷ []))
          (made_formed m kind.If form.If (says m c ∷ says m t ∷ says m e ∷ []) refl
          (both (is_formed (says m c)) (all_so (map is_formed (says m t ∷ says m e ∷ []))) test (two_formed (says m t) (says m e) then_part else_part)))
      operands_formed (bind bs l e) n h =
          let last = role.Plain ∷ roles (bound_depth n bs) e in
          let inner = back (binding_roles n bs) last h in
          one (bound_in m bs (says m e)) (bound_in_formed bs n (says m e) (front (binding_roles n bs) last h) (operands_formed e (bound_depth n bs) inner.1).said)

      bound_in_formed : (bs : Bindings) (n : ℕ) (e : Expr) → RolesPass (binding_roles n bs) → IsFormed accepts_count e → IsFormed accepts_count (bound_in m bs e)
      bound_in_formed (first k p w r l a) n e h f = bound_formed m k (number_at m r) (says m a) e (operands_formed a (suc n) h.1.1.1.1).said f
      bound_in_formed (also bs w r l a) n e h f =
          let last = role.Plain ∷ role.Opens (suc (bound_depth n bs)) ∷ role.Name ∷ role.Plain ∷ roles (suc (bound_depth n bs)) a in
          let value = back (binding_roles n bs) last h in
          bound_in_formed bs n (bound_by m (binder_of bs) (number_at m r) (says m a) e) (front (binding_roles n bs) last h)
          (bound_formed m (binder_of bs) (number_at m r) (says m a) e (operands_formed a (suc (bound_depth n bs)) value.1.1.1.1).said f)

    -- what a derivation says is formed
    pub says_formed : (t : Tree) → RolesPass (roles 0 t) → IsFormed accepts_count (says m t)
    says_formed t h = (operands_formed t 0 h).said

    -- so are the alternatives of a pattern
    pub alternatives_formed : (t : Tree) → RolesPass (roles 0 t) → AreFormed accepts_count (alternatives m t)
    alternatives_formed (binary a l operator.Union b) h =
        let last = back (roles 0 a) (role.Plain ∷ roles 0 b) h in
        push_formed (alternatives m a) (says m b) (alternatives_formed a (front (roles 0 a) (role.Plain ∷ roles 0 b) h)) (says_formed b last.1)
    alternatives_formed t h = one_formed (says m t) (says_formed t h)

  -- ---- numbers

  -- with numbers an expression is formed where it is without
  abbrev KeepsForm : Expr → Type 0
  KeepsForm e = (outside : Bool) (n : ℕ) → is_formed ((numbers_in e outside).from n) ≡ is_formed e

  as_many : (outside : Bool) (n : ℕ) (es : List Expr) → length (in_order outside n (map numbers_in es)) ≡ length es
  as_many outside n [] = refl
  as_many outside n (e ∷ es) = ap suc (as_many outside (n + (numbers_in e outside).count) es)

  all_kept : (outside : Bool) (n : ℕ) (es : List ((e : Expr) × KeepsForm e)) →
      all_so (map is_formed (in_order outside n (map numbers_in (map (λ e. e.0) es)))) ≡ all_so (map is_formed (map (λ e. e.0) es))
  all_kept outside n [] = refl
  all_kept outside n (e ∷ es) =
      let next : ℕ = n + (numbers_in e.0 outside).count in
      ap (λ (b : Bool). b && all_so (map is_formed (in_order outside next (map numbers_in (map (λ e. e.0) es))))) (e.1 outside n)
      ∙ ap (λ (b : Bool). is_formed e.0 && b) (all_kept outside next es)

  -- one expression by its parts
  one_kept : (x : Expr-F Expr) → ((outside : Bool) (n : ℕ) → all_so (map is_formed (in_order outside n (map numbers_in x.parts))) ≡ all_so (map is_formed x.parts)) →
      KeepsForm (roll-Expr x)
  one_kept x all false n =
      let es = in_order false (suc n) (map numbers_in x.parts) in
      ap (λ (k : Bool → Numbers). is_formed ((k false).from n)) (fold-roll-Expr (Bool → Numbers) numbers_with x)
      ∙ formed_roll accepts_count (record { construct = construct_with_number n x.construct; deep = x.deep; form = x.form; parts = es })
      ∙ ap (λ (k : ℕ). has_parts accepts_count x.form k && all_so (map is_formed es)) (as_many false (suc n) x.parts)
      ∙ ap (λ (b : Bool). has_parts accepts_count x.form (length x.parts) && b) (all false (suc n))
      ∙ sym (formed_roll accepts_count x)
  one_kept x all true n =
      let es = in_order (is_path x.form) n (map numbers_in x.parts) in
      ap (λ (k : Bool → Numbers). is_formed ((k true).from n)) (fold-roll-Expr (Bool → Numbers) numbers_with x)
      ∙ formed_roll accepts_count (record { construct = x.construct; deep = x.deep; form = x.form; parts = es })
      ∙ ap (λ (k : ℕ). has_parts accepts_count x.form k && all_so (map is_formed es)) (as_many (is_path x.form) n x.parts)
      ∙ ap (λ (b : Bool). has_parts accepts_count x.form (length x.parts) && b) (all (is_path x.form) n)
      ∙ sym (formed_roll accepts_count x)

  pub numbers_keep : (e : Expr) (outside : Bool) (n : ℕ) → is_formed ((numbers_in e outside).from n) ≡ is_formed e
  numbers_keep = ind-Expr KeepsForm (λ x y is.
      one_kept x (λ outside n.
      subst (λ z. all_so (map is_formed (in_order outside n (map numbers_in z.parts))) ≡ all_so (map is_formed z.parts)) is (all_kept outside n y.parts)))

  pub in_order_formed : (outside : Bool) (n : ℕ) (es : List Expr) → AreFormed accepts_count es → AreFormed accepts_count (in_order outside n (map numbers_in es))
  in_order_formed outside n [] h = refl
  in_order_formed outside n (e ∷ es) h =
      let next : ℕ = n + (numbers_in e outside).count in
      both (is_formed ((numbers_in e outside).from n)) (all_so (map is_formed (in_order outside next (map numbers_in es))))
      (numbers_keep e outside n ∙ formed_first accepts_count e es h)
      (in_order_formed outside next es (formed_others accepts_count e es h))

-- ---- what is read

abbrev words : ScopeBindings → List ℕ → List Token → List ℕ → ℕ → Meaning
words scope text ts numbers line = record { text = text; tokens = ts; scope = scope; numbers = numbers; line = line }

module _ (p : Bool) (scope : ScopeBindings) (text : List ℕ) (ts : List Token) (numbers : List ℕ) (line : ℕ) where
  abbrev here : Meaning
  here = words scope text ts numbers line

  fits_by : (b : Bool) → fails code.Xpst0017 (not b) ≡ None → b ≡ true
  fits_by true h = refl
  fits_by false h = absurd (none-some code.Xpst0017 (sym h))

  fits_if : (o : Option Function) (n : ℕ) → fails code.Xpst0017 (not (accepts_count o n)) ≡ None → takes_arguments (or_true o) n ≡ true
  fits_if None n h = absurd (none-some code.Xpst0017 (sym h))
  fits_if (Some f) n h = fits_by (accepts_count (Some f) n) h

  role_passes : (r : Role) (token : Token) → role_fault p scope text ts r token ≡ None → RolePasses takes_arguments here r
  role_passes (role.Closes place n) token h = fits_if (function_of scope (token_text text ts place)) n h
  role_passes r token h = tt

  no_fault : (o : Option Code) (others : Option SyntaxFault) (start : ℕ) → fault_at start o others ≡ None → (o ≡ None) × (others ≡ None)
  no_fault None others start h = (refl, h)
  no_fault (Some c) others start h = absurd (none-some _ (sym h))

  roles_pass : (rs : List Role) (tokens : List Token) → length rs ≡ length tokens → first_fault p scope text ts rs tokens ≡ None → RolesPass takes_arguments here rs
  roles_pass [] tokens e h = tt
  roles_pass (r ∷ rs) [] e h = absurd (omega (arith, e))
  roles_pass (r ∷ rs) (token ∷ tokens) e h =
      let none = no_fault (role_fault p scope text ts r token) (first_fault p scope text ts rs tokens) token.start h in
      (role_passes r token none.0, roles_pass rs tokens (omega (arith, e)) none.1)

  all_pass : (t : Tree) → IsRead p scope text ts t → RolesPass takes_arguments here (roles 0 t)
  all_pass t h =
      let many : length (roles 0 t) ≡ length ts = parallel t 0 ∙ ap (λ (ls : List Lexeme). length ls) h.derives.tokens_are ∙ as_many_lexemes text ts 0 in
      roles_pass (roles 0 t) ts many h.sound

  pub read_formed : (t : Tree) → IsRead p scope text ts t → IsFormed takes_arguments (says here t)
  read_formed t h = says_formed takes_arguments here t (all_pass t h)

  pub read_alternatives_formed : (t : Tree) → IsRead p scope text ts t → AreFormed takes_arguments (alternatives here t)
  read_alternatives_formed t h = alternatives_formed takes_arguments here t (all_pass t h)

-- ---- what is answered

module _ (scope : ScopeBindings) (text : List ℕ) (old new : List NameEntry) where
  pub said_formed : (line n m : ℕ) (e : Expr) → IsSaid scope text line old n new m e → IsFormed takes_arguments e
  said_formed line n m e x =
      let ws = numbers_among new scope text (roles 0 x.tree) x.tokens in
      ap (formed takes_arguments) x.expression
      ∙ numbers_keep takes_arguments (says (words scope text x.tokens ws line) x.tree) false n
      ∙ read_formed false scope text x.tokens ws line x.tree x.is

module _ (scope : ScopeBindings) (text : List ℕ) (ts : List Token) (given : List Node) (said : List Role) where
  pub understood_formed : (u : IsUnderstood false scope text ts given said) (names : List NameEntry) (line n : ℕ) (said_so e : Expr) →
      said_so ≡ says (meaning_in scope text ts u.tree names line) u.tree → e ≡ numbered n said_so → IsFormed takes_arguments e
  understood_formed u names line n said_so e is numbers =
      ap (formed takes_arguments) numbers
      ∙ numbers_keep takes_arguments said_so false n
      ∙ ap (formed takes_arguments) is
      ∙ read_formed false scope text ts (numbers_among names scope text (roles 0 u.tree) ts) line u.tree u.is

  pub understood_pattern_formed : (u : IsUnderstood true scope text ts given said) (names : List NameEntry) (line n : ℕ) (said_so : Expr) (es numbered_ones : List Expr) →
      said_so ≡ says (meaning_in scope text ts u.tree names line) u.tree →
      ((m : Meaning) (k : ℕ) (t : Tree) → Fits true k t → said_so ≡ says m t → es ≡ alternatives m t) →
      numbered_ones ≡ in_order true n (map numbers_in es) → AreFormed takes_arguments numbered_ones
  understood_pattern_formed u names line n said_so es numbered_ones is are numbers =
      let m = meaning_in scope text ts u.tree names line in
      let these : es ≡ alternatives m u.tree = are m 0 u.tree u.is.derives.fits is in
      ap (λ (xs : List Expr). all_so (map (formed takes_arguments) xs)) numbers
      ∙ in_order_formed takes_arguments true n es
      (ap (λ (xs : List Expr). all_so (map (formed takes_arguments) xs)) these
      ∙ read_alternatives_formed true scope text ts (numbers_among names scope text (roles 0 u.tree) ts) line u.tree u.is)

parts_formed : (scope : ScopeBindings) (line : ℕ) (pieces : List Piece) (old : List NameEntry) (n : ℕ) (parts : List AvtPart) (new : List NameEntry) (m : ℕ) →
    AreTemplateParts scope line pieces old n parts new m → AreFormedParts parts
parts_formed scope line [] old n parts new m h = rw h.0 tt
parts_formed scope line (fixed text ∷ pieces) old n [] new m h = tt
parts_formed scope line (fixed text ∷ pieces) old n (part ∷ parts) new m h =
    subst (λ (x : AvtPart). AreFormedParts (x ∷ parts)) (sym h.0) (parts_formed scope line pieces old n parts new m h.1)
parts_formed scope line (inner text ∷ pieces) old n [] new m h = tt
parts_formed scope line (inner text ∷ pieces) old n (part ∷ parts) new m h =
    subst (λ (x : AvtPart). AreFormedParts (x ∷ parts)) (sym h.3)
    (said_formed scope text old h.1 line n h.2 h.0 h.4, parts_formed scope line pieces h.1 h.2 parts new m h.5)

-- so are those of a template that is read up to an offset
pub all_formed : (scope : ScopeBindings) (text : List ℕ) (line : ℕ) (old : List NameEntry) (n offset : ℕ) (parts : List AvtPart) (new : List NameEntry) (m : ℕ) →
    IsReadTo scope text line old n offset parts new m → AreFormedParts parts
all_formed scope text line old n offset parts new m h = parts_formed scope line h.pieces old n parts new m h.parts_are
