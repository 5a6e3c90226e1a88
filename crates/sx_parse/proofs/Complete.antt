-- Every derivation is read.
use Rattle.std.proofs.Common.{◌≡◌, ℕ, suc, ◌≤◌, Bool, true, false, ◌&&◌, List, [], ◌∷◌, ◌++◌, Some, refl, ap, sym, ◌∙◌, append_assoc, append-nil, arith}
use Rattle.sx_atoms.specs.declared.arithmetic.ArithOp.TheVariants as arith_op
use Rattle.sx_parse.specs.declared.lexemes.Operator.{Operator}
use Rattle.sx_parse.specs.declared.lexemes.Operator.TheVariants as operator
use Rattle.sx_parse.specs.declared.lexemes.Casting.{Casting}
use Rattle.sx_parse.specs.declared.lexemes.Binder.{Binder}
use Rattle.sx_parse.specs.declared.lexemes.Binder.TheVariants as binder
use Rattle.sx_parse.specs.declared.lexemes.KindWord.{KindWord}
use Rattle.sx_parse.specs.declared.lexemes.Word.{Word}
use Rattle.sx_parse.specs.declared.lexemes.Word.TheVariants as word
use Rattle.sx_parse.specs.declared.lexemes.Mark.TheVariants as mark
use Rattle.sx_parse.specs.declared.lexemes.Lexeme.{Lexeme}
use Rattle.sx_parse.specs.declared.lexemes.Lexeme.TheVariants as lexeme
use Rattle.sx_parse.specs.declared.lexemes.StepPrefix.{StepPrefix}
use Rattle.sx_parse.specs.declared.lexemes.StepPrefix.TheVariants as prefix
use Rattle.sx_parse.specs.declared.lexemes.Test.{Test}
use Rattle.sx_parse.specs.declared.lexemes.Test.TheVariants as test
use Rattle.sx_parse.specs.Grammar.{operator_of, level, left_level, casting_level, prefix_level, prefix_floor, prefix_allowed, is_function, returns, begins_step, allows_lexeme, Tree, literal, dot, parent, root, variable, step, empty, parens, call, called, filter, comma, prefixed, binary, cast, choice, bind, Bindings, first, also, binder_of, sign, tokens, test_tokens, question_tokens, binding_tokens, ends_in_root, value_ends_in_root, PrefixFits, TestFits, Fits, BindingsFit}
use Rattle.sx_parse.specs.Machine.{begun, behind, Stack, bottom, pending, more, signed, paren, arguments, predicate, condition, branch, otherwise, binding, body, State, want, fresh, slash, named, axis, kind, kind_name, have, comma_bound, binder_dollar, binder_name, casting, conditioned, start, in_pattern, floor, reaches, Reached, reached, reach, close, close_bracket, else_under, comma_under, return_under, follow_operator, follow, open_plain, open_name, read, whole}
use Rattle.sx_parse.proofs.Running.{accept}
use Rattle.sx_parse.proofs.Pending.{le_true, level_least, level_most, level_no_sign, below_left, casting_least, casting_most, prefix_least, prefix_level_most, floor_most, fits_less, last, on, rewind, stands, stands_anywhere, keeps, last_reaches, last_alone}

-- ---- what may follow

-- whether a token behind a name leaves it a step by that name
abbrev pub stays : Lexeme → Bool
stays (lexeme.Mark mark.Open) = false
stays (lexeme.Mark mark.Colons) = false
stays (lexeme.Mark mark.Dollar) = false
stays l = true

-- what may stand behind an operand that ends in a lone `/`, where the flag is set, or in another token
abbrev pub Behind : Bool → List Lexeme → Type 0
Behind alone [] = Unit {0}
Behind alone (l ∷ ls) = (stays l ≡ true) × (alone && begins_step l ≡ false)

and_false : (b : Bool) → b && false ≡ false
and_false true = refl
and_false false = refl

behind_closing : (b : Bool) (l : Lexeme) (ls : List Lexeme) → stays l ≡ true → begins_step l ≡ false → Behind b (l ∷ ls)
behind_closing b l ls e f = (e, rw f (and_false b))

goes : (s next : State) (l : Lexeme) (ls : List Lexeme) → read s l ≡ Some next → accept s (l ∷ ls) ≡ accept next ls
goes s next l ls e = rw e refl

-- a name that nothing makes another thing is a step
named_goes : (pre : StepPrefix) (w : Word) (p : ℕ) (s : Stack) (rest : List Lexeme) → Behind false rest →
    accept (named pre w p s) rest ≡ accept (have (step pre (test.Named w p)) s) rest
named_goes pre w p s [] h = refl
named_goes pre w p s (lexeme.Mark mark.Open ∷ ls) h = absurd cc
named_goes pre w p s (lexeme.Mark mark.Colons ∷ ls) h = absurd cc
named_goes pre w p s (lexeme.Mark mark.Dollar ∷ ls) h = absurd cc
named_goes pre w p s (l ∷ ls) h = refl

-- a `/` that no step follows is the root
slash_goes : (s : Stack) (rest : List Lexeme) → reaches (in_pattern s) (floor s) root ≡ true → Behind true rest → accept (slash s) rest ≡ accept (have root s) rest
slash_goes s [] e h = rw e refl
slash_goes s (l ∷ ls) e h = rw (h.1, e) refl

-- two states that read alike what begins with these tokens
abbrev Alike : State → State → List Lexeme → Type 0
Alike s n ls = (rest : List Lexeme) → accept s (ls ++ rest) ≡ accept n (ls ++ rest)

alike_longer : (s n : State) (ls us : List Lexeme) → Alike s n ls → Alike s n (ls ++ us)
alike_longer s n ls us h rest = ap (accept s) (append_assoc ls us rest) ∙ h (us ++ rest) ∙ ap (accept n) (sym (append_assoc ls us rest))

-- a `/` that a step follows begins a path
slash_begins : (t : Tree) (p : Bool) (s : Stack) → Fits p 16 t → Alike (slash s) (want (signed operator.Slash s)) (tokens t)
slash_begins root p s f = absurd (omega (arith, f.0))
slash_begins (step prefix.Plain (test.Named w k)) p s f = λ rest. refl
slash_begins (step prefix.Plain test.Any) p s f = λ rest. refl
slash_begins (step prefix.Plain (test.Wild k)) p s f = λ rest. refl
slash_begins (step prefix.Plain (test.Kind k i)) p s f = λ rest. refl
slash_begins (step prefix.Plain (test.KindOf k i w j)) p s f = λ rest. refl
slash_begins (filter b e) p s f =
    alike_longer (slash s) (want (signed operator.Slash s)) (tokens b ++ lexeme.Mark mark.OpenBracket ∷ tokens e) (lexeme.Mark mark.CloseBracket ∷ [])
    (alike_longer (slash s) (want (signed operator.Slash s)) (tokens b) (lexeme.Mark mark.OpenBracket ∷ tokens e) (slash_begins b p s f.0))
slash_begins (comma a b) p s f = absurd (omega (arith, f.1))
slash_begins (prefixed o e) p s f = let g = prefix_level_most o in absurd (omega (arith, f.1))
slash_begins (binary a l o b) p s f = let g = level_most o in absurd (omega (arith, f.2))
slash_begins (cast e k i j w r optional) p s f = let g = casting_most k in absurd (omega (arith, f.1))
slash_begins (choice i c j t k e) p s f = absurd (omega (arith, f.1))
slash_begins (bind bs l e) p s f = absurd (omega (arith, f.1))
slash_begins t p s f = λ rest. refl

-- nothing begins with a closing parenthesis
fresh_binds : (bs : Bindings) (s : Stack) → Alike (fresh s) (want s) (binding_tokens bs)
fresh_binds (first k p w r l a) s = λ rest. refl
fresh_binds (also bs w r l a) s =
    alike_longer (fresh s) (want s) (binding_tokens bs) (lexeme.Mark mark.Comma ∷ lexeme.Mark mark.Dollar ∷ lexeme.Name w r ∷ l ∷ tokens a) (fresh_binds bs s)

fresh_wants : (t : Tree) (s : Stack) → Alike (fresh s) (want s) (tokens t)
fresh_wants (step prefix.Plain (test.Named w k)) s = λ rest. refl
fresh_wants (step prefix.Plain test.Any) s = λ rest. refl
fresh_wants (step prefix.Plain (test.Wild k)) s = λ rest. refl
fresh_wants (step prefix.Plain (test.Kind k i)) s = λ rest. refl
fresh_wants (step prefix.Plain (test.KindOf k i w j)) s = λ rest. refl
fresh_wants (filter b e) s =
    alike_longer (fresh s) (want s) (tokens b ++ lexeme.Mark mark.OpenBracket ∷ tokens e) (lexeme.Mark mark.CloseBracket ∷ [])
    (alike_longer (fresh s) (want s) (tokens b) (lexeme.Mark mark.OpenBracket ∷ tokens e) (fresh_wants b s))
fresh_wants (comma a b) s = alike_longer (fresh s) (want s) (tokens a) (lexeme.Mark mark.Comma ∷ tokens b) (fresh_wants a s)
fresh_wants (binary a l o b) s = alike_longer (fresh s) (want s) (tokens a) (l ∷ tokens b) (fresh_wants a s)
fresh_wants (cast e k i j w r optional) s =
    alike_longer (fresh s) (want s) (tokens e) (lexeme.Name (word.Casting k) i ∷ lexeme.Name word.As j ∷ lexeme.Name w r ∷ question_tokens optional) (fresh_wants e s)
fresh_wants (bind bs l e) s = alike_longer (fresh s) (want s) (binding_tokens bs) (l ∷ tokens e) (fresh_binds bs s)
fresh_wants t s = λ rest. refl

-- ---- the turns

kind_opens : (pre : StepPrefix) (k : KindWord) (p : ℕ) (s : Stack) → open_name pre (word.Kind k) p s ≡ Some (kind pre k p s)
kind_opens prefix.Plain k p s = refl
kind_opens prefix.At k p s = refl
kind_opens (prefix.Axis w q) k p s = refl

call_opens : (w : Word) (p : ℕ) (s : Stack) → is_function w ≡ true → in_pattern s ≡ false → open_plain w p s ≡ Some (fresh (arguments w p s))
call_opens (word.Kind k) p s f e = absurd cc
call_opens word.If p s f e = absurd cc
call_opens w p s f e = rw e refl

test_reads : (pre : StepPrefix) (t : Test) (s : Stack) (rest : List Lexeme) → TestFits t → Behind false rest →
    accept (axis pre s) (test_tokens t ++ rest) ≡ accept (have (step pre t) s) rest
test_reads pre (test.Named w p) s rest f b = named_goes pre w p s rest b
test_reads pre test.Any s rest f b = refl
test_reads pre (test.Wild p) s rest f b = refl
test_reads pre (test.Kind k p) s rest f b =
    goes (named pre (word.Kind k) p s) (kind pre k p s) (lexeme.Mark mark.Open) (lexeme.Mark mark.Close ∷ rest) (kind_opens pre k p s)
test_reads pre (test.KindOf k p w q) s rest f b =
    goes (named pre (word.Kind k) p s) (kind pre k p s) (lexeme.Mark mark.Open) (lexeme.Name w q ∷ lexeme.Mark mark.Close ∷ rest) (kind_opens pre k p s)
    ∙ goes (kind pre k p s) (kind_name pre k p w q s) (lexeme.Name w q) (lexeme.Mark mark.Close ∷ rest) (rw f refl)

step_reads : (pre : StepPrefix) (t : Test) (s : Stack) (rest : List Lexeme) → PrefixFits (in_pattern s) pre → TestFits t → Behind false rest →
    accept (want s) (tokens (step pre t) ++ rest) ≡ accept (have (step pre t) s) rest
step_reads prefix.Plain (test.Named w p) s rest g f b = named_goes prefix.Plain w p s rest b
step_reads prefix.Plain test.Any s rest g f b = refl
step_reads prefix.Plain (test.Wild p) s rest g f b = refl
step_reads prefix.Plain (test.Kind k p) s rest g f b = refl
step_reads prefix.Plain (test.KindOf k p w q) s rest g f b =
    goes (kind prefix.Plain k p s) (kind_name prefix.Plain k p w q s) (lexeme.Name w q) (lexeme.Mark mark.Close ∷ rest) (rw f refl)
step_reads prefix.At t s rest g f b = test_reads prefix.At t s rest f b
step_reads (prefix.Axis w p) t s rest g f b =
    goes (named prefix.Plain w p s) (axis (prefix.Axis w p) s) (lexeme.Mark mark.Colons) (test_tokens t ++ rest) (rw g refl)
    ∙ test_reads (prefix.Axis w p) t s rest f b

prefix_reads : (p : Bool) (o : Operator) (t : Tree) (s : Stack) (rest : List Lexeme) → in_pattern s ≡ p → prefix_allowed p o ≡ true → floor s ≤ prefix_level o →
    Fits p (prefix_floor o) t → accept (want s) (tokens (prefixed o t) ++ rest) ≡ accept (want (signed o s)) (tokens t ++ rest)
prefix_reads p operator.Slash t s rest q e h f =
    let l = le_true (floor s) 15 h in
    goes (want s) (slash s) (sign operator.Slash) (tokens t ++ rest) (rw l refl) ∙ slash_begins t p s f rest
prefix_reads p operator.DoubleSlash t s rest q e h f =
    let l = le_true (floor s) 15 h in
    goes (want s) (want (signed operator.DoubleSlash s)) (sign operator.DoubleSlash) (tokens t ++ rest) (rw l refl)
prefix_reads false (operator.Arith arith_op.Add) t s rest q e h f =
    let l = le_true (floor s) 12 h in
    goes (want s) (want (signed (operator.Arith arith_op.Add) s)) (sign (operator.Arith arith_op.Add)) (tokens t ++ rest) (rw (q, l) refl)
prefix_reads false (operator.Arith arith_op.Sub) t s rest q e h f =
    let l = le_true (floor s) 12 h in
    goes (want s) (want (signed (operator.Arith arith_op.Sub) s)) (sign (operator.Arith arith_op.Sub)) (tokens t ++ rest) (rw (q, l) refl)
prefix_reads false o t s rest q e h f = absurd cc
prefix_reads true o t s rest q e h f = absurd cc

filter_follows : (t : Tree) (s : Stack) → Fits (in_pattern s) 16 t → follow (last t s) (on t s) (lexeme.Mark mark.OpenBracket) ≡ Some (want (predicate t s))
filter_follows t s f =
    let x = last_alone t (in_pattern s) s f in
    let k = keeps t 16 s f in
    let r = last_reaches t (in_pattern s) 16 s f in
    rw (k, r, x.0, x.1) refl

comma_joins : (t : Tree) (s : Stack) → floor s ≤ 0 → comma_under t s ≡ Some (want (more t s))
comma_joins t (pending a l o s) h = absurd (omega arith)
comma_joins t (more a s) h = absurd (omega arith)
comma_joins t (signed o s) h = let g = prefix_least o in absurd (omega arith)
comma_joins t (branch i c j s) h = absurd (omega arith)
comma_joins t (otherwise i c j u k s) h = absurd (omega arith)
comma_joins t (binding g w r l s) h = absurd (omega arith)
comma_joins t (body bs l s) h = absurd (omega arith)
comma_joins t s h = refl

comma_follows : (t : Tree) (s : Stack) → Fits (in_pattern s) 0 t → in_pattern s ≡ false → floor s ≤ 0 → follow (last t s) (on t s) (lexeme.Mark mark.Comma) ≡ Some (want (more t s))
comma_follows t s f e h =
    let k = keeps t 0 s f ∙ e in
    let r = rewind t (in_pattern s) 0 s f ∙ stands_anywhere t s h in
    rw (k, r) (comma_joins t s h)

operator_stays : (l : Lexeme) (o : Operator) → operator_of l ≡ Some o → stays l ≡ true
operator_stays (lexeme.Mark mark.Open) o e = absurd cc
operator_stays (lexeme.Mark mark.Colons) o e = absurd cc
operator_stays (lexeme.Mark mark.Dollar) o e = absurd cc
operator_stays l o e = refl

operator_goes : (l : Lexeme) (o : Operator) (t : Tree) (s : Stack) → operator_of l ≡ Some o → follow t s l ≡ follow_operator t s l o
operator_goes (lexeme.Mark (mark.Operator p)) o t s e = let g : p ≡ o = cc in ap (follow_operator t s (lexeme.Mark (mark.Operator p))) g
operator_goes (lexeme.Name (word.Operator p) k) o t s e = let g : p ≡ o = cc in ap (follow_operator t s (lexeme.Name (word.Operator p) k)) g
operator_goes l o t s e = absurd cc

operator_follows : (t : Tree) (l : Lexeme) (o : Operator) (s : Stack) → operator_of l ≡ Some o → allows_lexeme (in_pattern s) l ≡ true → Fits (in_pattern s) (left_level o) t →
    floor s ≤ level o → follow (last t s) (on t s) l ≡ Some (want (pending t l o s))
operator_follows t l o s e a f h =
    let two = level_least o in
    let below = below_left o in
    let k = keeps t (left_level o) s f in
    let r = last_reaches t (in_pattern s) (left_level o) s f in
    let w = rewind t (in_pattern s) (left_level o) s f ∙ stands (left_level o) (level o) t s (omega arith) below (level_no_sign o) h in
    let m = le_true (floor s) (level o) h in
    operator_goes l o (last t s) (on t s) e ∙ rw (k, a, r, w, m) refl

cast_follows : (t : Tree) (k : Casting) (p : ℕ) (s : Stack) → in_pattern s ≡ false → Fits (in_pattern s) (suc (casting_level k)) t → Fits false (suc (casting_level k)) t →
    floor s ≤ casting_level k → follow (last t s) (on t s) (lexeme.Name (word.Casting k) p) ≡ Some (casting t k p s)
cast_follows t k p s e f g h =
    let ten = casting_least k in
    let eleven = casting_most k in
    let q = keeps t (suc (casting_level k)) s f ∙ e in
    let r = last_reaches t false (suc (casting_level k)) s g in
    let w = rewind t false (suc (casting_level k)) s g ∙ stands (suc (casting_level k)) (casting_level k) t s (omega arith) (omega arith) (λ x. omega arith) h in
    let m = le_true (floor s) (casting_level k) h in
    rw (q, r, w, m) refl

question_goes : (e : Tree) (k : Casting) (i j : ℕ) (w : Word) (r : ℕ) (optional : Bool) (s : Stack) (rest : List Lexeme) →
    accept (have (cast e k i j w r false) s) (question_tokens optional ++ rest) ≡ accept (have (cast e k i j w r optional) s) rest
question_goes e k i j w r true s rest = refl
question_goes e k i j w r false s rest = refl

-- the last value of bindings, and what stands before it
abbrev value_of : Bindings → Tree
value_of (first k p w r l a) = a
value_of (also bs w r l a) = a

abbrev value_on : Bindings → Stack → Stack
value_on (first k p w r l a) s = binding (begun k p) w r l s
value_on (also bs w r l a) s = binding (behind bs) w r l s

value_fits : (bs : Bindings) → BindingsFit bs → Fits false 1 (value_of bs)
value_fits (first k p w r l a) f = f.1
value_fits (also bs w r l a) f = f.2

value_stands : (bs : Bindings) (s : Stack) → reach 0 (value_of bs) (value_on bs s) ≡ reached (value_of bs) (value_on bs s)
value_stands (first k p w r l a) s = refl
value_stands (also bs w r l a) s = refl

value_rewinds : (bs : Bindings) (s : Stack) → BindingsFit bs → reach 0 (last (value_of bs) (value_on bs s)) (on (value_of bs) (value_on bs s)) ≡ reached (value_of bs) (value_on bs s)
value_rewinds bs s f = rewind (value_of bs) false 0 (value_on bs s) (fits_less (value_of bs) false 1 0 (omega arith) (value_fits bs f)) ∙ value_stands bs s

value_plain : (bs : Bindings) (s : Stack) → in_pattern (value_on bs s) ≡ false
value_plain (first k p w r l a) s = refl
value_plain (also bs w r l a) s = refl

also_joins : (bs : Bindings) (s : Stack) → comma_under (value_of bs) (value_on bs s) ≡ Some (comma_bound bs s)
also_joins (first k p w r l a) s = refl
also_joins (also bs w r l a) s = refl

also_follows : (bs : Bindings) (s : Stack) → BindingsFit bs → follow (last (value_of bs) (value_on bs s)) (on (value_of bs) (value_on bs s)) (lexeme.Mark mark.Comma) ≡ Some (comma_bound bs s)
also_follows bs s f =
    let g : Fits (in_pattern (value_on bs s)) 1 (value_of bs) = rw (value_plain bs s) (value_fits bs f) in
    let k = keeps (value_of bs) 1 (value_on bs s) g ∙ value_plain bs s in
    let r = value_rewinds bs s f in
    rw (k, r) (also_joins bs s)

returns_stays : (k : Binder) (l : Lexeme) → returns k l ≡ true → stays l ≡ true
returns_stays k (lexeme.Name w p) e = refl
returns_stays binder.For l e = absurd cc
returns_stays binder.Let l e = absurd cc
returns_stays binder.Some l e = absurd cc
returns_stays binder.Every l e = absurd cc

returns_goes : (k : Binder) (l : Lexeme) (t : Tree) (s : Stack) → returns k l ≡ true → follow t s l ≡ return_under (reach 0 t s).operand l (reach 0 t s).under
returns_goes k (lexeme.Name word.Return p) t s e = refl
returns_goes k (lexeme.Name word.Satisfies p) t s e = refl
returns_goes binder.For l t s e = absurd cc
returns_goes binder.Let l t s e = absurd cc
returns_goes binder.Some l t s e = absurd cc
returns_goes binder.Every l t s e = absurd cc

return_joins : (bs : Bindings) (l : Lexeme) (s : Stack) → returns (binder_of bs) l ≡ true → return_under (value_of bs) l (value_on bs s) ≡ Some (want (body bs l s))
return_joins (first k p w r i a) l s e = rw e refl
return_joins (also bs w r i a) l s e = rw e refl

return_follows : (bs : Bindings) (l : Lexeme) (s : Stack) → BindingsFit bs → returns (binder_of bs) l ≡ true →
    follow (last (value_of bs) (value_on bs s)) (on (value_of bs) (value_on bs s)) l ≡ Some (want (body bs l s))
return_follows bs l s f e =
    returns_goes (binder_of bs) l (last (value_of bs) (value_on bs s)) (on (value_of bs) (value_on bs s)) e
    ∙ ap (λ (r : Reached). return_under r.operand l r.under) (value_rewinds bs s f) ∙ return_joins bs l s e

-- ---- every derivation is read

mutual
  reads : (t : Tree) (n : ℕ) (s : Stack) (rest : List Lexeme) → Fits (in_pattern s) n t → floor s ≤ n → Behind (ends_in_root t) rest →
      accept (want s) (tokens t ++ rest) ≡ accept (have (last t s) (on t s)) rest
  reads (literal k) n s rest f h z = rw f refl
  reads dot n s rest f h z = rw f refl
  reads parent n s rest f h z = rw f refl
  reads root n s rest f h z =
      let e = le_true (floor s) 15 (omega (arith, f.0)) in
      goes (want s) (slash s) (sign operator.Slash) rest (rw e refl)
      ∙ slash_goes s rest (last_reaches root (in_pattern s) (floor s) s (fits_less root (in_pattern s) n (floor s) h f)) z
  reads (variable w k) n s rest f h z = rw f refl
  reads (step pre t) n s rest f h z = step_reads pre t s rest f.0 f.1 z
  reads empty n s rest f h z = rw f refl
  reads (parens e) n s rest f h z =
      goes (want s) (fresh (paren s)) (lexeme.Mark mark.Open) (tokens e ++ lexeme.Mark mark.Close ∷ [] ++ rest) (rw f.0 refl)
      ∙ ap (accept (fresh (paren s))) (append_assoc (tokens e) (lexeme.Mark mark.Close ∷ []) rest)
      ∙ fresh_wants e (paren s) (lexeme.Mark mark.Close ∷ rest)
      ∙ reads e 0 (paren s) (lexeme.Mark mark.Close ∷ rest) f.1 (omega arith) (behind_closing (ends_in_root e) (lexeme.Mark mark.Close) rest refl refl)
      ∙ goes (have (last e (paren s)) (on e (paren s))) (have (parens e) s) (lexeme.Mark mark.Close) rest (ap close (rewind e false 0 (paren s) f.1))
  reads (call w p) n s rest f h z =
      goes (named prefix.Plain w p s) (fresh (arguments w p s)) (lexeme.Mark mark.Open) (lexeme.Mark mark.Close ∷ rest) (call_opens w p s f.1 f.0)
  reads (called w p e) n s rest f h z =
      goes (named prefix.Plain w p s) (fresh (arguments w p s)) (lexeme.Mark mark.Open) (tokens e ++ lexeme.Mark mark.Close ∷ [] ++ rest) (call_opens w p s f.1 f.0)
      ∙ ap (accept (fresh (arguments w p s))) (append_assoc (tokens e) (lexeme.Mark mark.Close ∷ []) rest)
      ∙ fresh_wants e (arguments w p s) (lexeme.Mark mark.Close ∷ rest)
      ∙ reads e 0 (arguments w p s) (lexeme.Mark mark.Close ∷ rest) f.2 (omega arith) (behind_closing (ends_in_root e) (lexeme.Mark mark.Close) rest refl refl)
      ∙ goes (have (last e (arguments w p s)) (on e (arguments w p s))) (have (called w p e) s) (lexeme.Mark mark.Close) rest
      (ap close (rewind e false 0 (arguments w p s) f.2))
  reads (filter b e) n s rest f h z =
      ap (accept (want s)) (append_assoc (tokens b ++ lexeme.Mark mark.OpenBracket ∷ tokens e) (lexeme.Mark mark.CloseBracket ∷ []) rest
      ∙ append_assoc (tokens b) (lexeme.Mark mark.OpenBracket ∷ tokens e) (lexeme.Mark mark.CloseBracket ∷ rest))
      ∙ reads b 16 s (lexeme.Mark mark.OpenBracket ∷ tokens e ++ lexeme.Mark mark.CloseBracket ∷ rest) f.0 (floor_most s)
      (behind_closing (ends_in_root b) (lexeme.Mark mark.OpenBracket) (tokens e ++ lexeme.Mark mark.CloseBracket ∷ rest) refl refl)
      ∙ goes (have (last b s) (on b s)) (want (predicate b s)) (lexeme.Mark mark.OpenBracket) (tokens e ++ lexeme.Mark mark.CloseBracket ∷ rest) (filter_follows b s f.0)
      ∙ reads e 0 (predicate b s) (lexeme.Mark mark.CloseBracket ∷ rest) f.1 (omega arith)
      (behind_closing (ends_in_root e) (lexeme.Mark mark.CloseBracket) rest refl refl)
      ∙ goes (have (last e (predicate b s)) (on e (predicate b s))) (have (filter b e) s) (lexeme.Mark mark.CloseBracket) rest
      (ap (λ (r : Reached). close_bracket r.operand r.under) (rewind e false 0 (predicate b s) f.1))
  reads (comma a b) n s rest f h z =
      let fa : Fits (in_pattern s) 0 a = rw f.0 f.2 in
      let fb : Fits (in_pattern s) 1 b = rw f.0 f.3 in
      ap (accept (want s)) (append_assoc (tokens a) (lexeme.Mark mark.Comma ∷ tokens b) rest)
      ∙ reads a 0 s (lexeme.Mark mark.Comma ∷ tokens b ++ rest) fa (omega (arith, f.1))
      (behind_closing (ends_in_root a) (lexeme.Mark mark.Comma) (tokens b ++ rest) refl refl)
      ∙ goes (have (last a s) (on a s)) (want (more a s)) (lexeme.Mark mark.Comma) (tokens b ++ rest) (comma_follows a s fa f.0 (omega (arith, f.1)))
      ∙ reads b 1 (more a s) rest fb (omega arith) z
  reads (prefixed o e) n s rest f h z =
      prefix_reads (in_pattern s) o e s rest refl f.0 (omega (arith, f.1)) f.2
      ∙ reads e (prefix_floor o) (signed o s) rest f.2 (omega arith) z
  reads (binary a l o b) n s rest f h z =
      let below = below_left o in
      ap (accept (want s)) (append_assoc (tokens a) (l ∷ tokens b) rest)
      ∙ reads a (left_level o) s (l ∷ tokens b ++ rest) f.3 (omega (arith, f.2)) (operator_stays l o f.0, f.4)
      ∙ goes (have (last a s) (on a s)) (want (pending a l o s)) l (tokens b ++ rest) (operator_follows a l o s f.0 f.1 f.3 (omega (arith, f.2)))
      ∙ reads b (suc (level o)) (pending a l o s) rest f.5 (omega arith) z
  reads (cast e k i j w r optional) n s rest f h z =
      let fe : Fits (in_pattern s) (suc (casting_level k)) e = rw f.0 f.2 in
      let us = lexeme.Name (word.Casting k) i ∷ lexeme.Name word.As j ∷ lexeme.Name w r ∷ question_tokens optional in
      ap (accept (want s)) (append_assoc (tokens e) us rest)
      ∙ reads e (suc (casting_level k)) s (us ++ rest) fe (omega (arith, f.1)) (refl, rw f.3 refl)
      ∙ goes (have (last e s) (on e s)) (casting e k i s) (lexeme.Name (word.Casting k) i) (lexeme.Name word.As j ∷ lexeme.Name w r ∷ question_tokens optional ++ rest)
      (cast_follows e k i s f.0 fe f.2 (omega (arith, f.1)))
      ∙ question_goes e k i j w r optional s rest
  reads (choice i c j t k e) n s rest f h z =
      let one = le_true (floor s) 1 (omega (arith, f.1)) in
      let us = lexeme.Mark mark.Close ∷ lexeme.Name word.Then j ∷ tokens t in
      let vs = lexeme.Name word.Else k ∷ tokens e in
      goes (named prefix.Plain word.If i s) (want (condition i s)) (lexeme.Mark mark.Open) (tokens c ++ us ++ vs ++ rest) (rw (f.0, one) refl)
      ∙ ap (accept (want (condition i s))) (append_assoc (tokens c ++ us) vs rest ∙ append_assoc (tokens c) us (vs ++ rest))
      ∙ reads c 0 (condition i s) (us ++ (vs ++ rest)) f.2 (omega arith)
      (behind_closing (ends_in_root c) (lexeme.Mark mark.Close) (lexeme.Name word.Then j ∷ tokens t ++ (vs ++ rest)) refl refl)
      ∙ goes (have (last c (condition i s)) (on c (condition i s))) (conditioned i c s) (lexeme.Mark mark.Close) (lexeme.Name word.Then j ∷ tokens t ++ (vs ++ rest))
      (ap close (rewind c false 0 (condition i s) f.2))
      ∙ reads t 1 (branch i c j s) (vs ++ rest) f.3 (omega arith) (refl, rw f.4 refl)
      ∙ goes (have (last t (branch i c j s)) (on t (branch i c j s))) (want (otherwise i c j t k s)) (lexeme.Name word.Else k) (tokens e ++ rest)
      (ap (λ (r : Reached). else_under r.operand k r.under) (rewind t false 0 (branch i c j s) (fits_less t false 1 0 (omega arith) f.3)))
      ∙ reads e 1 (otherwise i c j t k s) rest f.5 (omega arith) z
  reads (bind bs l e) n s rest f h z =
      ap (accept (want s)) (append_assoc (binding_tokens bs) (l ∷ tokens e) rest)
      ∙ reads_bindings bs s (l ∷ tokens e ++ rest) f.2 f.0 (omega (arith, f.1)) (returns_stays (binder_of bs) l f.4, f.3)
      ∙ goes (have (last (value_of bs) (value_on bs s)) (on (value_of bs) (value_on bs s))) (want (body bs l s)) l (tokens e ++ rest) (return_follows bs l s f.2 f.4)
      ∙ reads e 1 (body bs l s) rest f.5 (omega arith) z

  reads_bindings : (bs : Bindings) (s : Stack) (rest : List Lexeme) → BindingsFit bs → in_pattern s ≡ false → floor s ≤ 1 → Behind (value_ends_in_root bs) rest →
      accept (want s) (binding_tokens bs ++ rest) ≡ accept (have (last (value_of bs) (value_on bs s)) (on (value_of bs) (value_on bs s))) rest
  reads_bindings (first k p w r l a) s rest f e h z =
      let one = le_true (floor s) 1 h in
      goes (named prefix.Plain (word.Binder k) p s) (binder_dollar (begun k p) s) (lexeme.Mark mark.Dollar) (lexeme.Name w r ∷ l ∷ tokens a ++ rest) (rw (e, one) refl)
      ∙ goes (binder_name (begun k p) w r s) (want (binding (begun k p) w r l s)) l (tokens a ++ rest) (rw f.0 refl)
      ∙ reads a 1 (binding (begun k p) w r l s) rest f.1 (omega arith) z
  reads_bindings (also bs w r l a) s rest f e h z =
      let us = lexeme.Mark mark.Dollar ∷ lexeme.Name w r ∷ l ∷ tokens a in
      ap (accept (want s)) (append_assoc (binding_tokens bs) (lexeme.Mark mark.Comma ∷ us) rest)
      ∙ reads_bindings bs s (lexeme.Mark mark.Comma ∷ us ++ rest) f.0 e h (behind_closing (value_ends_in_root bs) (lexeme.Mark mark.Comma) (us ++ rest) refl refl)
      ∙ goes (have (last (value_of bs) (value_on bs s)) (on (value_of bs) (value_on bs s))) (comma_bound bs s) (lexeme.Mark mark.Comma) (us ++ rest) (also_follows bs s f.0)
      ∙ goes (binder_name (behind bs) w r s) (want (binding (behind bs) w r l s)) l (tokens a ++ rest) (rw f.1 refl)
      ∙ reads a 1 (binding (behind bs) w r l s) rest f.2 (omega arith) z

pub complete : (p : Bool) (t : Tree) → Fits p 0 t → accept (start p) (tokens t) ≡ Some t
complete p t f =
    ap (accept (start p)) (sym (append-nil (tokens t)))
    ∙ reads t 0 (bottom p) [] f (omega arith) tt
    ∙ ap whole (rewind t p 0 (bottom p) f)
