-- Every state of the machine can be ended.
use Rattle.std.proofs.Common.{◌≡◌, ℕ, Bool, true, false, nat_le, List, [], ◌∷◌, Option, Some, refl, ap, ◌∙◌, arith}
use Rattle.std.proofs.lemmas.Bool.Decides.{nat_tests}
use Rattle.sx_parse.specs.declared.lexemes.Operator.TheVariants as operator
use Rattle.sx_parse.specs.declared.lexemes.Binder.{Binder}
use Rattle.sx_parse.specs.declared.lexemes.Binder.TheVariants as binder
use Rattle.sx_parse.specs.declared.lexemes.Word.{Word}
use Rattle.sx_parse.specs.declared.lexemes.Word.TheVariants as word
use Rattle.sx_parse.specs.declared.lexemes.Mark.TheVariants as mark
use Rattle.sx_parse.specs.declared.lexemes.Lexeme.{Lexeme}
use Rattle.sx_parse.specs.declared.lexemes.Lexeme.TheVariants as lexeme
use Rattle.sx_parse.specs.declared.lexemes.StepPrefix.{StepPrefix}
use Rattle.sx_parse.specs.declared.lexemes.StepPrefix.TheVariants as prefix
use Rattle.sx_parse.specs.declared.lexemes.Test.TheVariants as test
use Rattle.sx_parse.specs.Grammar.{level, prefix_level, introduces, returns, Tree, step, parens, called, filter, comma, prefixed, binary, cast, choice, bind, variable}
use Rattle.sx_parse.specs.Machine.{Given, behind, Stack, bottom, pending, more, signed, paren, arguments, predicate, condition, branch, otherwise, binding, body, State, want, fresh, slash, named, dollar, axis, kind, kind_name, have, comma_bound, binder_dollar, binder_name, casting, casting_as, conditioned, bound, given_binder, reach, when, read}
use Rattle.sx_parse.proofs.Running.{accept}
use Rattle.sx_parse.proofs.Running as running
use Rattle.sx_parse.proofs.Complete.{stays}

-- ---- tokens that end

-- a name of no other use
abbrev pub some_name : Lexeme
some_name = lexeme.Name word.Other 0

-- the step of that name
abbrev pub some_step : Tree
some_step = step prefix.Plain (test.Named word.Other 0)

-- what stands behind a variable
abbrev pub introducer : Binder → Lexeme
introducer binder.For = lexeme.Name word.In 0
introducer binder.Let = lexeme.Mark mark.Assign
introducer binder.Some = lexeme.Name word.In 0
introducer binder.Every = lexeme.Name word.In 0

-- the word behind the last value
abbrev pub ender : Binder → Lexeme
ender binder.For = lexeme.Name word.Return 0
ender binder.Let = lexeme.Name word.Return 0
ender binder.Some = lexeme.Name word.Satisfies 0
ender binder.Every = lexeme.Name word.Satisfies 0

introduces_it : (k : Binder) → introduces k (introducer k) ≡ true
introduces_it binder.For = refl
introduces_it binder.Let = refl
introduces_it binder.Some = refl
introduces_it binder.Every = refl

returns_it : (k : Binder) → returns k (ender k) ≡ true
returns_it binder.For = refl
returns_it binder.Let = refl
returns_it binder.Some = refl
returns_it binder.Every = refl

-- what closes all that is open behind an operand
abbrev pub closers : Stack → List Lexeme
closers (bottom p) = []
closers (pending a l o s) = closers s
closers (more a s) = closers s
closers (signed o s) = closers s
closers (paren s) = lexeme.Mark mark.Close ∷ closers s
closers (arguments w p s) = lexeme.Mark mark.Close ∷ closers s
closers (predicate b s) = lexeme.Mark mark.CloseBracket ∷ closers s
closers (condition p s) = lexeme.Mark mark.Close ∷ lexeme.Name word.Then 0 ∷ some_name ∷ lexeme.Name word.Else 0 ∷ some_name ∷ closers s
closers (branch p c q s) = lexeme.Name word.Else 0 ∷ some_name ∷ closers s
closers (otherwise p c q t r s) = closers s
closers (binding g w r l s) = ender (given_binder g) ∷ some_name ∷ closers s
closers (body bs l s) = closers s

-- ---- how they are read

ender_joined : (k : Binder) (t c : Tree) (s u : Stack) (ls : List Lexeme) → reach 0 t s ≡ reach 0 c u →
    accept (have t s) (ender k ∷ ls) ≡ accept (have c u) (ender k ∷ ls)
ender_joined binder.For t c s u ls e = rw e refl
ender_joined binder.Let t c s u ls e = rw e refl
ender_joined binder.Some t c s u ls e = rw e refl
ender_joined binder.Every t c s u ls e = rw e refl

-- what closes is read alike behind two operands that come to the same once what is pending is joined
joined_same : (x : Stack) (t c : Tree) (s u : Stack) → reach 0 t s ≡ reach 0 c u → accept (have t s) (closers x) ≡ accept (have c u) (closers x)
joined_same (bottom p) t c s u e = rw e refl
joined_same (pending a l o x) t c s u e = joined_same x t c s u e
joined_same (more a x) t c s u e = joined_same x t c s u e
joined_same (signed o x) t c s u e = joined_same x t c s u e
joined_same (paren x) t c s u e = rw e refl
joined_same (arguments w p x) t c s u e = rw e refl
joined_same (predicate b x) t c s u e = rw e refl
joined_same (condition p x) t c s u e = rw e refl
joined_same (branch p b q x) t c s u e = rw e refl
joined_same (otherwise p b q d r x) t c s u e = joined_same x t c s u e
joined_same (binding g w r l x) t c s u e = ender_joined (given_binder g) t c s u (some_name ∷ closers x) e
joined_same (body bs l x) t c s u e = joined_same x t c s u e

ender_named : (k : Binder) (pre : StepPrefix) (w : Word) (p : ℕ) (s : Stack) (ls : List Lexeme) →
    accept (named pre w p s) (ender k ∷ ls) ≡ accept (have (step pre (test.Named w p)) s) (ender k ∷ ls)
ender_named binder.For pre w p s ls = refl
ender_named binder.Let pre w p s ls = refl
ender_named binder.Some pre w p s ls = refl
ender_named binder.Every pre w p s ls = refl

-- behind a name, what closes is read as behind its step
named_same : (x : Stack) (pre : StepPrefix) (w : Word) (p : ℕ) (s : Stack) →
    accept (named pre w p s) (closers x) ≡ accept (have (step pre (test.Named w p)) s) (closers x)
named_same (bottom b) pre w p s = refl
named_same (pending a l o x) pre w p s = named_same x pre w p s
named_same (more a x) pre w p s = named_same x pre w p s
named_same (signed o x) pre w p s = named_same x pre w p s
named_same (paren x) pre w p s = refl
named_same (arguments v q x) pre w p s = refl
named_same (predicate b x) pre w p s = refl
named_same (condition q x) pre w p s = refl
named_same (branch i c q x) pre w p s = refl
named_same (otherwise i c q t r x) pre w p s = named_same x pre w p s
named_same (binding g v r l x) pre w p s = ender_named (given_binder g) pre w p s (some_name ∷ closers x)
named_same (body bs l x) pre w p s = named_same x pre w p s

zero_least : (n : ℕ) → nat_le 0 n ≡ true
zero_least n = grind (arith, nat_tests)

-- these tokens end a state
abbrev pub Ending : State → List Lexeme → Type 0
Ending s ls = (c : Tree) × (accept s ls ≡ Some c)

-- a name as the last operand ends what it is joined to
name_ends : (x u : Stack) (c : Tree) → reach 0 some_step u ≡ reach 0 c x → Ending (have c x) (closers x) →
    Ending (named prefix.Plain word.Other 0 u) (closers x)
name_ends x u c e f = (f.0, named_same x prefix.Plain word.Other 0 u ∙ joined_same x some_step c u x e ∙ f.1)

ender_read : (k : Binder) (g : Given) (w : Word) (r : ℕ) (i : Lexeme) (s : Stack) (t : Tree) →
    read (have t (binding g w r i s)) (ender k) ≡ when (returns (given_binder g) (ender k)) (want (body (bound g w r i t) (ender k) s))
ender_read binder.For g w r i s t = refl
ender_read binder.Let g w r i s t = refl
ender_read binder.Some g w r i s t = refl
ender_read binder.Every g w r i s t = refl

binding_read : (g : Given) (w : Word) (r : ℕ) (i : Lexeme) (s : Stack) (t : Tree) →
    read (have t (binding g w r i s)) (ender (given_binder g)) ≡ Some (want (body (bound g w r i t) (ender (given_binder g)) s))
binding_read g w r i s t = ender_read (given_binder g) g w r i s t ∙ rw (returns_it (given_binder g)) refl

-- an operand and all that is open and pending can be ended
have_ends : (s : Stack) (t : Tree) → Ending (have t s) (closers s)
have_ends (bottom p) t = (t, refl)
have_ends (pending a l o s) t =
    let f = have_ends s (binary a l o t) in
    (f.0, joined_same s t (binary a l o t) (pending a l o s) s (rw (zero_least (level o)) refl) ∙ f.1)
have_ends (more a s) t = let f = have_ends s (comma a t) in (f.0, joined_same s t (comma a t) (more a s) s refl ∙ f.1)
have_ends (signed o s) t =
    let f = have_ends s (prefixed o t) in
    (f.0, joined_same s t (prefixed o t) (signed o s) s (rw (zero_least (prefix_level o)) refl) ∙ f.1)
have_ends (paren s) t = have_ends s (parens t)
have_ends (arguments w p s) t = have_ends s (called w p t)
have_ends (predicate b s) t = have_ends s (filter b t)
have_ends (condition p s) t =
    name_ends s (otherwise p t 0 some_step 0 s) (choice p t 0 some_step 0 some_step) refl (have_ends s (choice p t 0 some_step 0 some_step))
have_ends (branch p c q s) t = name_ends s (otherwise p c q t 0 s) (choice p c q t 0 some_step) refl (have_ends s (choice p c q t 0 some_step))
have_ends (otherwise p c q u r s) t =
    let f = have_ends s (choice p c q u r t) in (f.0, joined_same s t (choice p c q u r t) (otherwise p c q u r s) s refl ∙ f.1)
have_ends (binding g w r i s) t =
    let l = ender (given_binder g) in
    let f = name_ends s (body (bound g w r i t) l s) (bind (bound g w r i t) l some_step) refl (have_ends s (bind (bound g w r i t) l some_step)) in
    (f.0, ap (λ (o : Option State). running.bind o (λ next. accept next (some_name ∷ closers s))) (binding_read g w r i s t) ∙ f.1)
have_ends (body bs l s) t = let f = have_ends s (bind bs l t) in (f.0, joined_same s t (bind bs l t) (body bs l s) s refl ∙ f.1)

named_ends : (s : Stack) (pre : StepPrefix) (w : Word) (p : ℕ) → Ending (named pre w p s) (closers s)
named_ends s pre w p = let f = have_ends s (step pre (test.Named w p)) in (f.0, named_same s pre w p s ∙ f.1)

-- behind `/`
slash_ends : (s : Stack) → Ending (slash s) (some_name ∷ closers s)
slash_ends s = named_ends (signed operator.Slash s) prefix.Plain word.Other 0

introducer_read : (g : Given) (w : Word) (r : ℕ) (s : Stack) →
    read (binder_name g w r s) (introducer (given_binder g)) ≡ Some (want (binding g w r (introducer (given_binder g)) s))
introducer_read g w r s = rw (introduces_it (given_binder g)) refl

-- what ends bindings behind the name of a variable
abbrev pub value_enders : Given → Stack → List Lexeme
value_enders g s = introducer (given_binder g) ∷ some_name ∷ ender (given_binder g) ∷ some_name ∷ closers s

binder_name_ends : (s : Stack) (g : Given) (w : Word) (r : ℕ) → Ending (binder_name g w r s) (value_enders g s)
binder_name_ends s g w r =
    let f = named_ends (binding g w r (introducer (given_binder g)) s) prefix.Plain word.Other 0 in
    (f.0, ap (λ (o : Option State). running.bind o (λ next. accept next (some_name ∷ ender (given_binder g) ∷ some_name ∷ closers s))) (introducer_read g w r s) ∙ f.1)

-- ---- every state

-- tokens that begin with one that leaves a name a step, so neither `(` nor `::` nor `$`, or none
abbrev pub begins_quiet : List Lexeme → Bool
begins_quiet [] = true
begins_quiet (l ∷ ls) = stays l

ender_quiet : (k : Binder) → stays (ender k) ≡ true
ender_quiet binder.For = refl
ender_quiet binder.Let = refl
ender_quiet binder.Some = refl
ender_quiet binder.Every = refl

introducer_quiet : (k : Binder) → stays (introducer k) ≡ true
introducer_quiet binder.For = refl
introducer_quiet binder.Let = refl
introducer_quiet binder.Some = refl
introducer_quiet binder.Every = refl

closers_quiet : (s : Stack) → begins_quiet (closers s) ≡ true
closers_quiet (bottom p) = refl
closers_quiet (pending a l o s) = closers_quiet s
closers_quiet (more a s) = closers_quiet s
closers_quiet (signed o s) = closers_quiet s
closers_quiet (paren s) = refl
closers_quiet (arguments w p s) = refl
closers_quiet (predicate b s) = refl
closers_quiet (condition p s) = refl
closers_quiet (branch p c q s) = refl
closers_quiet (otherwise p c q t r s) = closers_quiet s
closers_quiet (binding g w r l s) = ender_quiet (given_binder g)
closers_quiet (body bs l s) = closers_quiet s

-- tokens begin with none of the three, except behind a comma of bindings, where `$` has to come
abbrev pub Quiet : State → List Lexeme → Type 0
Quiet (comma_bound bs s) ls = Unit {0}
Quiet s ls = begins_quiet ls ≡ true

-- tokens with which all that was begun is whole
pub record Ends (s : State) : Type 0 where
  pub rest : List Lexeme
  pub tree : Tree
  pub accepts : accept s rest ≡ Some tree
  pub quiet : Quiet s rest

ends : (s : State) (ls : List Lexeme) → Ending s ls → Quiet s ls → Ends s
ends s ls f q = record { rest = ls; tree = f.0; accepts = f.1; quiet = q }

pub state_can_end : (s : State) → Ends s
state_can_end (want s) = ends (want s) (some_name ∷ closers s) (named_ends s prefix.Plain word.Other 0) refl
state_can_end (fresh s) = ends (fresh s) (some_name ∷ closers s) (named_ends s prefix.Plain word.Other 0) refl
state_can_end (slash s) = ends (slash s) (some_name ∷ closers s) (slash_ends s) refl
state_can_end (named pre w p s) = ends (named pre w p s) (closers s) (named_ends s pre w p) (closers_quiet s)
state_can_end (dollar s) = ends (dollar s) (some_name ∷ closers s) (have_ends s (variable word.Other 0)) refl
state_can_end (axis pre s) = ends (axis pre s) (some_name ∷ closers s) (named_ends s pre word.Other 0) refl
state_can_end (kind pre k p s) = ends (kind pre k p s) (lexeme.Mark mark.Close ∷ closers s) (have_ends s (step pre (test.Kind k p))) refl
state_can_end (kind_name pre k p w q s) =
    ends (kind_name pre k p w q s) (lexeme.Mark mark.Close ∷ closers s) (have_ends s (step pre (test.KindOf k p w q))) refl
state_can_end (have t s) = ends (have t s) (closers s) (have_ends s t) (closers_quiet s)
state_can_end (comma_bound bs s) =
    ends (comma_bound bs s) (lexeme.Mark mark.Dollar ∷ some_name ∷ value_enders (behind bs) s) (binder_name_ends s (behind bs) word.Other 0) tt
state_can_end (binder_dollar g s) = ends (binder_dollar g s) (some_name ∷ value_enders g s) (binder_name_ends s g word.Other 0) refl
state_can_end (binder_name g w r s) = ends (binder_name g w r s) (value_enders g s) (binder_name_ends s g w r) (introducer_quiet (given_binder g))
state_can_end (casting t k p s) =
    ends (casting t k p s) (lexeme.Name word.As 0 ∷ some_name ∷ closers s) (have_ends s (cast t k p 0 word.Other 0 false)) refl
state_can_end (casting_as t k p q s) = ends (casting_as t k p q s) (some_name ∷ closers s) (have_ends s (cast t k p q word.Other 0 false)) refl
state_can_end (conditioned p c s) =
    ends (conditioned p c s) (lexeme.Name word.Then 0 ∷ some_name ∷ lexeme.Name word.Else 0 ∷ some_name ∷ closers s)
    (name_ends s (otherwise p c 0 some_step 0 s) (choice p c 0 some_step 0 some_step) refl (have_ends s (choice p c 0 some_step 0 some_step))) refl
