-- What the machine reads is a derivation.
use Rattle.std.proofs.Common.{◌≡◌, ℕ, suc, ◌≤◌, Bool, true, false, ◌&&◌, not, if◌then◌else◌, nat_le, nat_eq, List, [], ◌∷◌, ◌++◌, Option, Some, None, refl, ap, sym, ◌∙◌, append_assoc, append-nil, arith}
use Rattle.std.proofs.lemmas.Bool.Decides.{nat_tests}
use Rattle.sx_atoms.specs.declared.arithmetic.ArithOp.TheVariants as arith_op
use Rattle.sx_parse.specs.declared.lexemes.Operator.{Operator}
use Rattle.sx_parse.specs.declared.lexemes.Operator.TheVariants as operator
use Rattle.sx_parse.specs.declared.lexemes.Casting.{Casting}
use Rattle.sx_parse.specs.declared.lexemes.KindWord.{KindWord}
use Rattle.sx_parse.specs.declared.lexemes.Word.{Word}
use Rattle.sx_parse.specs.declared.lexemes.Word.TheVariants as word
use Rattle.sx_parse.specs.declared.lexemes.Mark.{Mark}
use Rattle.sx_parse.specs.declared.lexemes.Mark.TheVariants as mark
use Rattle.sx_parse.specs.declared.lexemes.Lexeme.{Lexeme}
use Rattle.sx_parse.specs.declared.lexemes.Lexeme.TheVariants as lexeme
use Rattle.sx_parse.specs.declared.lexemes.StepPrefix.{StepPrefix}
use Rattle.sx_parse.specs.declared.lexemes.StepPrefix.TheVariants as prefix
use Rattle.sx_parse.specs.declared.lexemes.Test.TheVariants as test
use Rattle.sx_parse.specs.Grammar.{operator_of, level, left_level, casting_level, prefix_level, prefix_allowed, is_prefix, names_axis, is_function, takes_name, introduces, returns, begins_step, allows_lexeme, Tree, literal, dot, parent, root, variable, step, empty, parens, call, called, comma, prefixed, binary, cast, choice, bind, Bindings, binder_of, sign, prefix_tokens, tokens, binding_tokens, ends_in_root, value_ends_in_root, PrefixFits, Fits, BindingsFit}
use Rattle.sx_parse.specs.Machine.{Given, begun, behind, Stack, bottom, pending, more, signed, paren, arguments, predicate, condition, branch, otherwise, binding, body, State, want, fresh, slash, named, dollar, axis, kind, kind_name, have, comma_bound, binder_dollar, binder_name, casting, casting_as, conditioned, in_pattern, floor, bound, given_binder, reaches, Reached, reached, reach, when, begin_mark, begin, close_empty, begin_fresh, close_under, close_bracket, else_under, comma_under, return_under, operate_on, cast_on, question, follow_operator, follow_mark, follow_name, follow, open_kind, open_plain, open_name, name_axis, name_binder, follow_named, axis_test, in_kind, end_kind, variable_name, bound_dollar, bound_name, cast_as, cast_type, then_word, follow_slash, read, whole_under, whole, ended}
use Rattle.sx_parse.proofs.Running.{accept}
use Rattle.sx_parse.proofs.Running as running
use Rattle.sx_parse.proofs.Pending.{fits_less}

-- ---- what was read

-- the tokens before the value of the next variable
abbrev pub given_tokens : Given → List Lexeme
given_tokens (begun k p) = lexeme.Name (word.Binder k) p ∷ []
given_tokens (behind bs) = binding_tokens bs ++ lexeme.Mark mark.Comma ∷ []

-- the tokens of what is open and pending
abbrev pub stack_tokens : Stack → List Lexeme
stack_tokens (bottom p) = []
stack_tokens (pending a l o s) = stack_tokens s ++ (tokens a ++ l ∷ [])
stack_tokens (more a s) = stack_tokens s ++ (tokens a ++ lexeme.Mark mark.Comma ∷ [])
stack_tokens (signed o s) = stack_tokens s ++ sign o ∷ []
stack_tokens (paren s) = stack_tokens s ++ lexeme.Mark mark.Open ∷ []
stack_tokens (arguments w p s) = stack_tokens s ++ (lexeme.Name w p ∷ lexeme.Mark mark.Open ∷ [])
stack_tokens (predicate b s) = stack_tokens s ++ (tokens b ++ lexeme.Mark mark.OpenBracket ∷ [])
stack_tokens (condition p s) = stack_tokens s ++ (lexeme.Name word.If p ∷ lexeme.Mark mark.Open ∷ [])
stack_tokens (branch p c q s) =
    stack_tokens s ++ (lexeme.Name word.If p ∷ lexeme.Mark mark.Open ∷ tokens c ++ lexeme.Mark mark.Close ∷ lexeme.Name word.Then q ∷ [])
stack_tokens (otherwise p c q t r s) =
    stack_tokens s ++ (lexeme.Name word.If p ∷ lexeme.Mark mark.Open ∷ tokens c ++ lexeme.Mark mark.Close ∷ lexeme.Name word.Then q ∷ tokens t ++ lexeme.Name word.Else r ∷ [])
stack_tokens (binding g w r l s) = stack_tokens s ++ (given_tokens g ++ lexeme.Mark mark.Dollar ∷ lexeme.Name w r ∷ l ∷ [])
stack_tokens (body bs l s) = stack_tokens s ++ (binding_tokens bs ++ l ∷ [])

-- the tokens that were read
abbrev pub tokens_of : State → List Lexeme
tokens_of (want s) = stack_tokens s
tokens_of (fresh s) = stack_tokens s
tokens_of (slash s) = stack_tokens s ++ sign operator.Slash ∷ []
tokens_of (named pre w p s) = stack_tokens s ++ (prefix_tokens pre ++ lexeme.Name w p ∷ [])
tokens_of (dollar s) = stack_tokens s ++ lexeme.Mark mark.Dollar ∷ []
tokens_of (axis pre s) = stack_tokens s ++ prefix_tokens pre
tokens_of (kind pre k p s) = stack_tokens s ++ (prefix_tokens pre ++ lexeme.Name (word.Kind k) p ∷ lexeme.Mark mark.Open ∷ [])
tokens_of (kind_name pre k p w q s) =
    stack_tokens s ++ (prefix_tokens pre ++ lexeme.Name (word.Kind k) p ∷ lexeme.Mark mark.Open ∷ lexeme.Name w q ∷ [])
tokens_of (have t s) = stack_tokens s ++ tokens t
tokens_of (comma_bound bs s) = stack_tokens s ++ (binding_tokens bs ++ lexeme.Mark mark.Comma ∷ [])
tokens_of (binder_dollar g s) = stack_tokens s ++ (given_tokens g ++ lexeme.Mark mark.Dollar ∷ [])
tokens_of (binder_name g w r s) = stack_tokens s ++ (given_tokens g ++ lexeme.Mark mark.Dollar ∷ lexeme.Name w r ∷ [])
tokens_of (casting t k p s) = stack_tokens s ++ (tokens t ++ lexeme.Name (word.Casting k) p ∷ [])
tokens_of (casting_as t k p q s) = stack_tokens s ++ (tokens t ++ lexeme.Name (word.Casting k) p ∷ lexeme.Name word.As q ∷ [])
tokens_of (conditioned p c s) = stack_tokens s ++ (lexeme.Name word.If p ∷ lexeme.Mark mark.Open ∷ tokens c ++ lexeme.Mark mark.Close ∷ [])

-- whether a pattern is read
abbrev pub flag : Stack → Bool
flag (bottom p) = p
flag (pending a l o s) = flag s
flag (more a s) = flag s
flag (signed o s) = flag s
flag (paren s) = flag s
flag (arguments w p s) = flag s
flag (predicate b s) = flag s
flag (condition p s) = flag s
flag (branch p c q s) = flag s
flag (otherwise p c q t r s) = flag s
flag (binding g w r l s) = flag s
flag (body bs l s) = flag s

-- the same of a state
abbrev pub flag_of : State → Bool
flag_of (want s) = flag s
flag_of (fresh s) = flag s
flag_of (slash s) = flag s
flag_of (named pre w p s) = flag s
flag_of (dollar s) = flag s
flag_of (axis pre s) = flag s
flag_of (kind pre k p s) = flag s
flag_of (kind_name pre k p w q s) = flag s
flag_of (have t s) = flag s
flag_of (comma_bound bs s) = flag s
flag_of (binder_dollar g s) = flag s
flag_of (binder_name g w r s) = flag s
flag_of (casting t k p s) = flag s
flag_of (casting_as t k p q s) = flag s
flag_of (conditioned p c s) = flag s

-- ---- what is sound

-- bindings that have begun are derivations
abbrev pub GivenFits : Given → Type 0
GivenFits (begun k p) = Unit {0}
GivenFits (behind bs) = BindingsFit bs

-- what is open and pending is the front of a derivation
abbrev pub Sound : Stack → Type 0
Sound (bottom p) = Unit {0}
Sound (pending a l o s) =
    (operator_of l ≡ Some o) × (allows_lexeme (in_pattern s) l ≡ true) × (floor s ≤ level o) × Fits (in_pattern s) (left_level o) a
    × (ends_in_root a && begins_step l ≡ false) × Sound s
Sound (more a s) = (in_pattern s ≡ false) × (floor s ≤ 0) × Fits false 0 a × Sound s
Sound (signed o s) = (prefix_allowed (in_pattern s) o ≡ true) × (floor s ≤ prefix_level o) × Sound s
Sound (paren s) = (in_pattern s ≡ false) × Sound s
Sound (arguments w p s) = (in_pattern s ≡ false) × (is_function w ≡ true) × Sound s
Sound (predicate b s) = Fits (in_pattern s) 16 b × Sound s
Sound (condition p s) = (in_pattern s ≡ false) × (floor s ≤ 1) × Sound s
Sound (branch p c q s) = (in_pattern s ≡ false) × (floor s ≤ 1) × Fits false 0 c × Sound s
Sound (otherwise p c q t r s) = (in_pattern s ≡ false) × (floor s ≤ 1) × Fits false 0 c × Fits false 1 t × (ends_in_root t ≡ false) × Sound s
Sound (binding g w r l s) = (in_pattern s ≡ false) × (floor s ≤ 1) × GivenFits g × (introduces (given_binder g) l ≡ true) × Sound s
Sound (body bs l s) =
    (in_pattern s ≡ false) × (floor s ≤ 1) × BindingsFit bs × (value_ends_in_root bs && begins_step l ≡ false) × (returns (binder_of bs) l ≡ true) × Sound s

-- an operand fits wherever it reaches
abbrev pub StandsAt : Bool → Tree → Type 0
StandsAt p t = (n : ℕ) → reaches p n t ≡ true → Fits p n t

-- what was read is the front of a derivation
abbrev pub IsSound : State → Type 0
IsSound (want s) = Sound s
IsSound (fresh s) = Sound s
IsSound (slash s) = (floor s ≤ 15) × Sound s
IsSound (named pre w p s) = PrefixFits (in_pattern s) pre × Sound s
IsSound (dollar s) = (in_pattern s ≡ false) × Sound s
IsSound (axis pre s) = PrefixFits (in_pattern s) pre × Sound s
IsSound (kind pre k p s) = PrefixFits (in_pattern s) pre × Sound s
IsSound (kind_name pre k p w q s) = PrefixFits (in_pattern s) pre × (takes_name k w ≡ true) × Sound s
IsSound (have t s) = StandsAt (in_pattern s) t × Fits (in_pattern s) (floor s) t × (ends_in_root t ≡ false) × Sound s
IsSound (comma_bound bs s) = (in_pattern s ≡ false) × (floor s ≤ 1) × BindingsFit bs × Sound s
IsSound (binder_dollar g s) = (in_pattern s ≡ false) × (floor s ≤ 1) × GivenFits g × Sound s
IsSound (binder_name g w r s) = (in_pattern s ≡ false) × (floor s ≤ 1) × GivenFits g × Sound s
IsSound (casting t k p s) =
    (in_pattern s ≡ false) × (floor s ≤ casting_level k) × Fits false (suc (casting_level k)) t × (ends_in_root t ≡ false) × Sound s
IsSound (casting_as t k p q s) =
    (in_pattern s ≡ false) × (floor s ≤ casting_level k) × Fits false (suc (casting_level k)) t × (ends_in_root t ≡ false) × Sound s
IsSound (conditioned p c s) = (in_pattern s ≡ false) × (floor s ≤ 1) × Fits false 0 c × Sound s

-- a token makes the next state sound, with one token more
abbrev pub Goes : Bool → List Lexeme → Lexeme → Option State → Type 0
Goes p ts l None = Unit {0}
Goes p ts l (Some s) = IsSound s × (flag_of s ≡ p) × (tokens_of s ≡ ts ++ l ∷ [])

-- ---- tests

and_left : (a b : Bool) → a && b ≡ true → a ≡ true
and_left true b e = refl
and_left false b e = absurd cc

and_right : (a b : Bool) → a && b ≡ true → b ≡ true
and_right true b e = e
and_right false b e = absurd cc

zero_of : (n : ℕ) → nat_eq n 0 ≡ true → n ≡ 0
zero_of n e = grind (arith, nat_tests)

not_true : (a : Bool) → not a ≡ true → a ≡ false
not_true true e = absurd cc
not_true false e = refl

le_of : (a b : ℕ) → nat_le a b ≡ true → a ≤ b
le_of a b e = grind (arith, nat_tests)

when_goes : (b : Bool) (p : Bool) (ts : List Lexeme) (l : Lexeme) (n : State) → (b ≡ true → Goes p ts l (Some n)) → Goes p ts l (when b n)
when_goes true p ts l n f = f refl
when_goes false p ts l n f = tt

only_goes : (b : Bool) (p : Bool) (ts : List Lexeme) (l : Lexeme) (o : Option State) → (b ≡ true → Goes p ts l o) →
    Goes p ts l (if b then o else None)
only_goes true p ts l o f = f refl
only_goes false p ts l o f = tt

unless_goes : (b : Bool) (p : Bool) (ts : List Lexeme) (l : Lexeme) (o : Option State) → (b ≡ false → Goes p ts l o) →
    Goes p ts l (if b then None else o)
unless_goes true p ts l o f = tt
unless_goes false p ts l o f = f refl

fits_same : (p q : Bool) (n : ℕ) (t : Tree) → p ≡ q → Fits p n t → Fits q n t
fits_same p q n t e f = rw (sym e) f

-- ---- joining what is pending

-- an operand and what stands before it are the same derivation, of the level
pub record Joined (s : Stack) (t : Tree) (n : ℕ) (r : Reached) : Type 0 where
  pub fits : Fits (in_pattern s) n r.operand
  pub fits_under : Fits (in_pattern s) (floor r.under) r.operand
  pub is_sound : Sound r.under
  pub place : in_pattern r.under ≡ in_pattern s
  pub same_flag : flag r.under ≡ flag s
  pub same_tokens : stack_tokens r.under ++ tokens r.operand ≡ stack_tokens s ++ tokens t
  pub same_end : ends_in_root r.operand ≡ ends_in_root t

stops : (s : Stack) (t : Tree) (n : ℕ) → Fits (in_pattern s) n t → Fits (in_pattern s) (floor s) t → Sound s → Joined s t n (reached t s)
stops s t n f g w = record { fits = f; fits_under = g; is_sound = w; place = refl; same_flag = refl; same_tokens = refl; same_end = refl }

goes_on : (s u : Stack) (t c : Tree) (n : ℕ) (r : Reached) → in_pattern u ≡ in_pattern s → flag u ≡ flag s →
    stack_tokens u ++ tokens c ≡ stack_tokens s ++ tokens t →
    ends_in_root c ≡ ends_in_root t → Joined u c n r → Joined s t n r
goes_on s u t c n r e f g h j = record {
  fits = fits_same (in_pattern u) (in_pattern s) n r.operand e j.fits;
  fits_under = fits_same (in_pattern u) (in_pattern s) (floor r.under) r.operand e j.fits_under;
  is_sound = j.is_sound;
  place = j.place ∙ e;
  same_flag = j.same_flag ∙ f;
  same_tokens = j.same_tokens ∙ g;
  same_end = j.same_end ∙ h;
}

joined_if : (b : Bool) (s : Stack) (t : Tree) (n : ℕ) (r : Reached) → (b ≡ true → Joined s t n r) → Joined s t n (reached t s) →
    Joined s t n (if b then r else reached t s)
joined_if true s t n r f g = f refl
joined_if false s t n r f g = g

pub joins : (s : Stack) (n : ℕ) (t : Tree) → Fits (in_pattern s) n t → Fits (in_pattern s) (floor s) t → Sound s → Joined s t n (reach n t s)
joins (pending a l o s) n t f g w =
    joined_if (nat_le n (level o)) (pending a l o s) t n (reach n (binary a l o t) s)
    (λ e. goes_on (pending a l o s) s t (binary a l o t) n (reach n (binary a l o t) s) refl refl (simp append_assoc) refl
    (joins s n (binary a l o t) (w.0, w.1, le_of n (level o) e, w.3, w.4, g) (w.0, w.1, w.2, w.3, w.4, g) w.5))
    (stops (pending a l o s) t n f g w)
joins (more a s) n t f g w =
    joined_if (nat_le n 0) (more a s) t n (reach n (comma a t) s)
    (λ e. goes_on (more a s) s t (comma a t) n (reach n (comma a t) s) refl refl (simp append_assoc) refl
    (joins s n (comma a t)
    (w.0, le_of n 0 e, w.2, fits_same (in_pattern s) false 1 t w.0 g) (w.0, w.1, w.2, fits_same (in_pattern s) false 1 t w.0 g) w.3))
    (stops (more a s) t n f g w)
joins (signed o s) n t f g w =
    joined_if (nat_le n (prefix_level o)) (signed o s) t n (reach n (prefixed o t) s)
    (λ e. goes_on (signed o s) s t (prefixed o t) n (reach n (prefixed o t) s) refl refl (simp append_assoc) refl
    (joins s n (prefixed o t) (w.0, le_of n (prefix_level o) e, g) (w.0, w.1, g) w.2))
    (stops (signed o s) t n f g w)
joins (otherwise i c j u k s) n t f g w =
    joined_if (nat_le n 1) (otherwise i c j u k s) t n (reach n (choice i c j u k t) s)
    (λ e. goes_on (otherwise i c j u k s) s t (choice i c j u k t) n (reach n (choice i c j u k t) s) w.0 refl (simp append_assoc) refl
    (joins s n (choice i c j u k t) (w.0, le_of n 1 e, w.2, w.3, w.4, g) (w.0, w.1, w.2, w.3, w.4, g) w.5))
    (stops (otherwise i c j u k s) t n f g w)
joins (body bs l s) n t f g w =
    joined_if (nat_le n 1) (body bs l s) t n (reach n (bind bs l t) s)
    (λ e. goes_on (body bs l s) s t (bind bs l t) n (reach n (bind bs l t) s) w.0 refl (simp append_assoc) refl
    (joins s n (bind bs l t) (w.0, le_of n 1 e, w.2, w.3, w.4, g) (w.0, w.1, w.2, w.3, w.4, g) w.5))
    (stops (body bs l s) t n f g w)
joins (bottom p) n t f g w = stops (bottom p) t n f g w
joins (paren s) n t f g w = stops (paren s) t n f g w
joins (arguments v p s) n t f g w = stops (arguments v p s) t n f g w
joins (predicate b s) n t f g w = stops (predicate b s) t n f g w
joins (condition p s) n t f g w = stops (condition p s) t n f g w
joins (branch p c q s) n t f g w = stops (branch p c q s) t n f g w
joins (binding v x r l s) n t f g w = stops (binding v x r l s) t n f g w

-- where it goes on from what is joined, it goes on from what it was joined from
goes_joined : (s : Stack) (t : Tree) (n : ℕ) (r : Reached) (l : Lexeme) (o : Option State) → Joined s t n r →
    Goes (flag r.under) (stack_tokens r.under ++ tokens r.operand) l o → Goes (flag s) (stack_tokens s ++ tokens t) l o
goes_joined s t n r l o j g = rw (sym j.same_flag, sym j.same_tokens) g

-- ---- where an operand has to come

-- one token behind what was read
one_more : (a b : List Lexeme) (c : List Lexeme) (l : Lexeme) → a ++ b ≡ c → a ++ (b ++ l ∷ []) ≡ c ++ l ∷ []
one_more a b c l e = sym (append_assoc a b (l ∷ [])) ∙ ap (λ (x : List Lexeme). x ++ l ∷ []) e

slash_allowed : (p : Bool) → prefix_allowed p operator.Slash ≡ true
slash_allowed true = refl
slash_allowed false = refl

double_slash_allowed : (p : Bool) → prefix_allowed p operator.DoubleSlash ≡ true
double_slash_allowed true = refl
double_slash_allowed false = refl

sign_allowed : (p : Bool) (o : Operator) → p ≡ false → is_prefix o ≡ true → prefix_allowed p o ≡ true
sign_allowed true o e f = absurd cc
sign_allowed false o e f = f

-- an operand that no pattern has, which fits at each level
plain_goes : (s : Stack) (t : Tree) (ts : List Lexeme) (l : Lexeme) → Sound s → ((p : Bool) (n : ℕ) → p ≡ false → Fits p n t) →
    ends_in_root t ≡ false →
    stack_tokens s ++ tokens t ≡ ts ++ l ∷ [] → in_pattern s ≡ false → Goes (flag s) ts l (Some (have t s))
plain_goes s t ts l w f e g h = ((λ n _. f (in_pattern s) n h, f (in_pattern s) (floor s) h, e, w), refl, g)

sign_goes : (s : Stack) (o : Operator) → Sound s → is_prefix o ≡ true → prefix_level o ≡ 12 →
    Goes (flag s) (stack_tokens s) (sign o) (when (not (in_pattern s) && nat_le (floor s) 12) (want (signed o s)))
sign_goes s o w e f =
    when_goes (not (in_pattern s) && nat_le (floor s) 12) (flag s) (stack_tokens s) (sign o) (want (signed o s))
    (λ g. (
      (
        sign_allowed (in_pattern s) o (not_true (in_pattern s) (and_left (not (in_pattern s)) (nat_le (floor s) 12) g)) e,
        (let h : floor s ≤ 12 = le_of (floor s) 12 (and_right (not (in_pattern s)) (nat_le (floor s) 12) g) in omega (arith, f)),
        w,
      ),
      refl,
      refl,
    ))

begin_mark_goes : (s : Stack) (m : Mark) → Sound s → Goes (flag s) (stack_tokens s) (lexeme.Mark m) (begin_mark s m)
begin_mark_goes s (mark.Operator (operator.Arith arith_op.Mul)) w = ((λ n _. (tt, tt), (tt, tt), refl, w), refl, refl)
begin_mark_goes s (mark.Operator (operator.Arith arith_op.Add)) w = sign_goes s (operator.Arith arith_op.Add) w refl refl
begin_mark_goes s (mark.Operator (operator.Arith arith_op.Sub)) w = sign_goes s (operator.Arith arith_op.Sub) w refl refl
begin_mark_goes s (mark.Operator operator.Slash) w =
    when_goes (nat_le (floor s) 15) (flag s) (stack_tokens s) (sign operator.Slash) (slash s) (λ e. ((le_of (floor s) 15 e, w), refl, refl))
begin_mark_goes s (mark.Operator operator.DoubleSlash) w =
    when_goes (nat_le (floor s) 15) (flag s) (stack_tokens s) (sign operator.DoubleSlash) (want (signed operator.DoubleSlash s))
    (λ e. ((double_slash_allowed (in_pattern s), le_of (floor s) 15 e, w), refl, refl))
begin_mark_goes s mark.Open w =
    when_goes (not (in_pattern s)) (flag s) (stack_tokens s) (lexeme.Mark mark.Open) (fresh (paren s))
    (λ e. ((not_true (in_pattern s) e, w), refl, refl))
begin_mark_goes s mark.Dollar w =
    when_goes (not (in_pattern s)) (flag s) (stack_tokens s) (lexeme.Mark mark.Dollar) (dollar s) (λ e. ((not_true (in_pattern s) e, w), refl, refl))
begin_mark_goes s mark.At w = ((tt, w), refl, refl)
begin_mark_goes s mark.Dot w =
    when_goes (not (in_pattern s)) (flag s) (stack_tokens s) (lexeme.Mark mark.Dot) (have dot s)
    (λ e. plain_goes s dot (stack_tokens s) (lexeme.Mark mark.Dot) w (λ p n h. h) refl refl (not_true (in_pattern s) e))
begin_mark_goes s mark.DotDot w =
    when_goes (not (in_pattern s)) (flag s) (stack_tokens s) (lexeme.Mark mark.DotDot) (have parent s)
    (λ e. plain_goes s parent (stack_tokens s) (lexeme.Mark mark.DotDot) w (λ p n h. h) refl refl (not_true (in_pattern s) e))
begin_mark_goes s m w = tt

begin_goes : (s : Stack) (l : Lexeme) → Sound s → Goes (flag s) (stack_tokens s) l (begin s l)
begin_goes s (lexeme.Literal p) w =
    when_goes (not (in_pattern s)) (flag s) (stack_tokens s) (lexeme.Literal p) (have (literal p) s)
    (λ e. plain_goes s (literal p) (stack_tokens s) (lexeme.Literal p) w (λ q n h. h) refl refl (not_true (in_pattern s) e))
begin_goes s (lexeme.Wild p) w = ((λ n _. (tt, tt), (tt, tt), refl, w), refl, refl)
begin_goes s (lexeme.Name v p) w = ((tt, w), refl, refl)
begin_goes s (lexeme.Mark m) w = begin_mark_goes s m w

close_empty_goes : (s : Stack) → Sound s → Goes (flag s) (stack_tokens s) (lexeme.Mark mark.Close) (close_empty s)
close_empty_goes (paren s) w = plain_goes s empty (stack_tokens (paren s)) (lexeme.Mark mark.Close) w.1 (λ p n h. h) refl (simp append_assoc) w.0
close_empty_goes (arguments v p s) w =
    plain_goes s (call v p) (stack_tokens (arguments v p s)) (lexeme.Mark mark.Close) w.2 (λ q n h. (h, w.1)) refl (simp append_assoc) w.0
close_empty_goes s w = tt

begin_fresh_goes : (s : Stack) (l : Lexeme) → Sound s → Goes (flag s) (stack_tokens s) l (begin_fresh s l)
begin_fresh_goes s (lexeme.Mark mark.Close) w = close_empty_goes s w
begin_fresh_goes s l w = begin_goes s l w

-- ---- behind an operand

close_goes : (s : Stack) (t : Tree) → Fits (in_pattern s) (floor s) t → Sound s →
    Goes (flag s) (stack_tokens s ++ tokens t) (lexeme.Mark mark.Close) (close_under t s)
close_goes (paren s) t f w =
    plain_goes s (parens t) (stack_tokens (paren s) ++ tokens t) (lexeme.Mark mark.Close) w.1 (λ p n h. (h, f)) refl (simp append_assoc) w.0
close_goes (arguments v p s) t f w =
    plain_goes s (called v p t) (stack_tokens (arguments v p s) ++ tokens t) (lexeme.Mark mark.Close) w.2
    (λ q n h. (h, w.1, f)) refl (simp append_assoc) w.0
close_goes (condition p s) t f w = ((w.0, w.1, f, w.2), refl, simp append_assoc)
close_goes s t f w = tt

bracket_goes : (s : Stack) (t : Tree) → Fits (in_pattern s) (floor s) t → Sound s →
    Goes (flag s) (stack_tokens s ++ tokens t) (lexeme.Mark mark.CloseBracket) (close_bracket t s)
bracket_goes (predicate b s) t f w = ((λ n _. (w.0, f), (w.0, f), refl, w.1), refl, simp append_assoc)
bracket_goes s t f w = tt

else_goes : (s : Stack) (t : Tree) (k : ℕ) → Fits (in_pattern s) (floor s) t → ends_in_root t ≡ false → Sound s →
    Goes (flag s) (stack_tokens s ++ tokens t) (lexeme.Name word.Else k) (else_under t k s)
else_goes (branch p c q s) t k f e w = ((w.0, w.1, w.2, f, e, w.3), refl, simp append_assoc)
else_goes s t k f e w = tt

bound_fits : (g : Given) (v : Word) (r : ℕ) (l : Lexeme) (t : Tree) → GivenFits g → introduces (given_binder g) l ≡ true → Fits false 1 t →
    BindingsFit (bound g v r l t)
bound_fits (begun k p) v r l t f e h = (e, h)
bound_fits (behind bs) v r l t f e h = (f, e, h)

bound_tokens : (g : Given) (v : Word) (r : ℕ) (l : Lexeme) (t : Tree) →
    binding_tokens (bound g v r l t) ≡ given_tokens g ++ lexeme.Mark mark.Dollar ∷ lexeme.Name v r ∷ l ∷ tokens t
bound_tokens (begun k p) v r l t = refl
bound_tokens (behind bs) v r l t = simp append_assoc

bound_binder : (g : Given) (v : Word) (r : ℕ) (l : Lexeme) (t : Tree) → binder_of (bound g v r l t) ≡ given_binder g
bound_binder (begun k p) v r l t = refl
bound_binder (behind bs) v r l t = refl

bound_end : (g : Given) (v : Word) (r : ℕ) (l : Lexeme) (t : Tree) → value_ends_in_root (bound g v r l t) ≡ ends_in_root t
bound_end (begun k p) v r l t = refl
bound_end (behind bs) v r l t = refl

more_goes : (s : Stack) (t : Tree) → Fits (in_pattern s) (floor s) t → in_pattern s ≡ false → Sound s →
    Goes (flag s) (stack_tokens s ++ tokens t) (lexeme.Mark mark.Comma) (when (nat_le (floor s) 0) (want (more t s)))
more_goes s t f e w =
    when_goes (nat_le (floor s) 0) (flag s) (stack_tokens s ++ tokens t) (lexeme.Mark mark.Comma) (want (more t s))
    (λ h. ((e, le_of (floor s) 0 h, fits_same (in_pattern s) false 0 t e (fits_less t (in_pattern s) (floor s) 0 (omega arith) f), w), refl, simp append_assoc))

comma_goes : (s : Stack) (t : Tree) → Fits (in_pattern s) (floor s) t → in_pattern s ≡ false → Sound s →
    Goes (flag s) (stack_tokens s ++ tokens t) (lexeme.Mark mark.Comma) (comma_under t s)
comma_goes (binding g v r l s) t f e w =
    ((w.0, w.1, bound_fits g v r l t w.2 w.3 f, w.4), refl, rw (bound_tokens g v r l t) (simp append_assoc))
comma_goes s t f e w = more_goes s t f e w

return_goes : (s : Stack) (t : Tree) (l : Lexeme) → Fits (in_pattern s) (floor s) t → ends_in_root t && begins_step l ≡ false → Sound s →
    Goes (flag s) (stack_tokens s ++ tokens t) l (return_under t l s)
return_goes (binding g v r i s) t l f e w =
    when_goes (returns (given_binder g) l) (flag s) (stack_tokens (binding g v r i s) ++ tokens t) l (want (body (bound g v r i t) l s))
    (λ h. (
      (w.0, w.1, bound_fits g v r i t w.2 w.3 f, rw (bound_end g v r i t) e, rw (bound_binder g v r i t) h, w.4),
      refl,
      rw (bound_tokens g v r i t) (simp append_assoc),
    ))
return_goes s t l f e w = tt

both_false : (a : Bool) → a && true ≡ false → a ≡ false
both_false true e = e
both_false false e = refl

operate_goes : (s : Stack) (t : Tree) (l : Lexeme) (o : Operator) (r : Reached) → operator_of l ≡ Some o → allows_lexeme (in_pattern s) l ≡ true →
    ends_in_root t && begins_step l ≡ false → Joined s t (left_level o) r → Goes (flag s) (stack_tokens s ++ tokens t) l (operate_on l o r)
operate_goes s t l o r e a h j =
    goes_joined s t (left_level o) r l (operate_on l o r) j
    (when_goes (nat_le (floor r.under) (level o)) (flag r.under) (stack_tokens r.under ++ tokens r.operand) l (want (pending r.operand l o r.under))
    (λ g. (
      (
        e,
        rw j.place a,
        le_of (floor r.under) (level o) g,
        fits_same (in_pattern s) (in_pattern r.under) (left_level o) r.operand (sym j.place) j.fits,
        rw j.same_end h,
        j.is_sound,
      ),
      refl,
      simp append_assoc,
    )))

follow_operator_goes : (s : Stack) (t : Tree) (l : Lexeme) (o : Operator) → operator_of l ≡ Some o → StandsAt (in_pattern s) t →
    Fits (in_pattern s) (floor s) t →
    ends_in_root t && begins_step l ≡ false → Sound s → Goes (flag s) (stack_tokens s ++ tokens t) l (follow_operator t s l o)
follow_operator_goes s t l o e f g h w =
    only_goes (allows_lexeme (in_pattern s) l && reaches (in_pattern s) (left_level o) t) (flag s) (stack_tokens s ++ tokens t) l (operate_on l o (reach (left_level o) t s))
    (λ b. operate_goes s t l o (reach (left_level o) t s) e (and_left (allows_lexeme (in_pattern s) l) (reaches (in_pattern s) (left_level o) t) b) h
    (joins s (left_level o) t (f (left_level o) (and_right (allows_lexeme (in_pattern s) l) (reaches (in_pattern s) (left_level o) t) b)) g w))

cast_goes : (s : Stack) (t : Tree) (k : Casting) (p : ℕ) (r : Reached) → in_pattern s ≡ false → ends_in_root t ≡ false →
    Joined s t (suc (casting_level k)) r →
    Goes (flag s) (stack_tokens s ++ tokens t) (lexeme.Name (word.Casting k) p) (cast_on k p r)
cast_goes s t k p r e h j =
    goes_joined s t (suc (casting_level k)) r (lexeme.Name (word.Casting k) p) (cast_on k p r) j
    (when_goes (nat_le (floor r.under) (casting_level k)) (flag r.under) (stack_tokens r.under ++ tokens r.operand) (lexeme.Name (word.Casting k) p)
    (casting r.operand k p r.under)
    (λ g. (
      (
        j.place ∙ e,
        le_of (floor r.under) (casting_level k) g,
        fits_same (in_pattern s) false (suc (casting_level k)) r.operand e j.fits,
        j.same_end ∙ h,
        j.is_sound,
      ),
      refl,
      simp append_assoc,
    )))

reaches_same : (p q : Bool) (n : ℕ) (t : Tree) → p ≡ q → reaches q n t ≡ true → reaches p n t ≡ true
reaches_same p q n t e f = rw e f

follow_casting_goes : (s : Stack) (t : Tree) (k : Casting) (p : ℕ) → StandsAt (in_pattern s) t → Fits (in_pattern s) (floor s) t →
    ends_in_root t ≡ false → Sound s →
    Goes (flag s) (stack_tokens s ++ tokens t) (lexeme.Name (word.Casting k) p) (follow_name t s (word.Casting k) p)
follow_casting_goes s t k p f g h w =
    only_goes (not (in_pattern s) && reaches false (suc (casting_level k)) t) (flag s) (stack_tokens s ++ tokens t) (lexeme.Name (word.Casting k) p)
    (cast_on k p (reach (suc (casting_level k)) t s))
    (λ b. let e : in_pattern s ≡ false = not_true (in_pattern s) (and_left (not (in_pattern s)) (reaches false (suc (casting_level k)) t) b) in
    cast_goes s t k p (reach (suc (casting_level k)) t s) e h
    (joins s (suc (casting_level k)) t
    (f (suc (casting_level k)) (reaches_same (in_pattern s) false (suc (casting_level k)) t e (and_right (not (in_pattern s)) (reaches false (suc (casting_level k)) t) b))) g w))

joins_all : (s : Stack) (t : Tree) → Fits (in_pattern s) (floor s) t → Sound s → Joined s t 0 (reach 0 t s)
joins_all s t f w = joins s 0 t (fits_less t (in_pattern s) (floor s) 0 (omega arith) f) f w

-- what is joined fits where it stands
fits_joined : (s : Stack) (t : Tree) (n : ℕ) (r : Reached) → Joined s t n r → Fits (in_pattern r.under) (floor r.under) r.operand
fits_joined s t n r j = fits_same (in_pattern s) (in_pattern r.under) (floor r.under) r.operand (sym j.place) j.fits_under

follow_return_goes : (s : Stack) (t : Tree) (l : Lexeme) → Fits (in_pattern s) (floor s) t → ends_in_root t && begins_step l ≡ false → Sound s →
    Goes (flag s) (stack_tokens s ++ tokens t) l (return_under (reach 0 t s).operand l (reach 0 t s).under)
follow_return_goes s t l f h w =
    let j = joins_all s t f w in
    goes_joined s t 0 (reach 0 t s) l (return_under (reach 0 t s).operand l (reach 0 t s).under) j
    (return_goes (reach 0 t s).under (reach 0 t s).operand l (fits_joined s t 0 (reach 0 t s) j) (rw j.same_end h) j.is_sound)

follow_else_goes : (s : Stack) (t : Tree) (p : ℕ) → Fits (in_pattern s) (floor s) t → ends_in_root t ≡ false → Sound s →
    Goes (flag s) (stack_tokens s ++ tokens t) (lexeme.Name word.Else p) (follow_name t s word.Else p)
follow_else_goes s t p f h w =
    let j = joins_all s t f w in
    goes_joined s t 0 (reach 0 t s) (lexeme.Name word.Else p) (follow_name t s word.Else p) j
    (else_goes (reach 0 t s).under (reach 0 t s).operand p (fits_joined s t 0 (reach 0 t s) j) (j.same_end ∙ h) j.is_sound)

follow_close_goes : (s : Stack) (t : Tree) → Fits (in_pattern s) (floor s) t → Sound s →
    Goes (flag s) (stack_tokens s ++ tokens t) (lexeme.Mark mark.Close) (follow_mark t s mark.Close)
follow_close_goes s t f w =
    let j = joins_all s t f w in
    goes_joined s t 0 (reach 0 t s) (lexeme.Mark mark.Close) (follow_mark t s mark.Close) j
    (close_goes (reach 0 t s).under (reach 0 t s).operand (fits_joined s t 0 (reach 0 t s) j) j.is_sound)

follow_bracket_goes : (s : Stack) (t : Tree) → Fits (in_pattern s) (floor s) t → Sound s →
    Goes (flag s) (stack_tokens s ++ tokens t) (lexeme.Mark mark.CloseBracket) (follow_mark t s mark.CloseBracket)
follow_bracket_goes s t f w =
    let j = joins_all s t f w in
    goes_joined s t 0 (reach 0 t s) (lexeme.Mark mark.CloseBracket) (follow_mark t s mark.CloseBracket) j
    (bracket_goes (reach 0 t s).under (reach 0 t s).operand (fits_joined s t 0 (reach 0 t s) j) j.is_sound)

follow_comma_goes : (s : Stack) (t : Tree) → Fits (in_pattern s) (floor s) t → Sound s →
    Goes (flag s) (stack_tokens s ++ tokens t) (lexeme.Mark mark.Comma) (follow_mark t s mark.Comma)
follow_comma_goes s t f w =
    let j = joins_all s t f w in
    let r = reach 0 t s in
    unless_goes (in_pattern s) (flag s) (stack_tokens s ++ tokens t) (lexeme.Mark mark.Comma) (comma_under r.operand r.under)
    (λ e. goes_joined s t 0 r (lexeme.Mark mark.Comma) (comma_under r.operand r.under) j
    (comma_goes r.under r.operand (fits_joined s t 0 r j) (j.place ∙ e) j.is_sound))

question_goes : (s : Stack) (t : Tree) → StandsAt (in_pattern s) t → Fits (in_pattern s) (floor s) t → Sound s →
    Goes (flag s) (stack_tokens s ++ tokens t) (lexeme.Mark mark.Question) (question t s)
question_goes s (cast e k i j v m false) f g w = ((λ n h. f n h, g, refl, w), refl, simp append_assoc)
question_goes s t f g w = tt

follow_mark_goes : (s : Stack) (t : Tree) (m : Mark) → StandsAt (in_pattern s) t → Fits (in_pattern s) (floor s) t →
    ends_in_root t && begins_step (lexeme.Mark m) ≡ false → Sound s → Goes (flag s) (stack_tokens s ++ tokens t) (lexeme.Mark m) (follow_mark t s m)
follow_mark_goes s t (mark.Operator o) f g h w = follow_operator_goes s t (lexeme.Mark (mark.Operator o)) o refl f g h w
follow_mark_goes s t mark.Comma f g h w = follow_comma_goes s t g w
follow_mark_goes s t mark.Close f g h w = follow_close_goes s t g w
follow_mark_goes s t mark.CloseBracket f g h w = follow_bracket_goes s t g w
follow_mark_goes s t mark.OpenBracket f g h w =
    when_goes (reaches (in_pattern s) 16 t) (flag s) (stack_tokens s ++ tokens t) (lexeme.Mark mark.OpenBracket) (want (predicate t s))
    (λ e. ((f 16 e, w), refl, simp append_assoc))
follow_mark_goes s t mark.Question f g h w = question_goes s t f g w
follow_mark_goes s t m f g h w = tt

follow_name_goes : (s : Stack) (t : Tree) (v : Word) (p : ℕ) → StandsAt (in_pattern s) t → Fits (in_pattern s) (floor s) t →
    ends_in_root t ≡ false → Sound s →
    Goes (flag s) (stack_tokens s ++ tokens t) (lexeme.Name v p) (follow_name t s v p)
follow_name_goes s t (word.Operator o) p f g h w = follow_operator_goes s t (lexeme.Name (word.Operator o) p) o refl f g (rw h refl) w
follow_name_goes s t (word.Casting k) p f g h w = follow_casting_goes s t k p f g h w
follow_name_goes s t word.Else p f g h w = follow_else_goes s t p g h w
follow_name_goes s t word.Return p f g h w = follow_return_goes s t (lexeme.Name word.Return p) g (rw h refl) w
follow_name_goes s t word.Satisfies p f g h w = follow_return_goes s t (lexeme.Name word.Satisfies p) g (rw h refl) w
follow_name_goes s t v p f g h w = tt

follow_goes : (s : Stack) (t : Tree) (l : Lexeme) → StandsAt (in_pattern s) t → Fits (in_pattern s) (floor s) t →
    ends_in_root t && begins_step l ≡ false → Sound s →
    Goes (flag s) (stack_tokens s ++ tokens t) l (follow t s l)
follow_goes s t (lexeme.Mark m) f g h w = follow_mark_goes s t m f g h w
follow_goes s t (lexeme.Name v p) f g h w = follow_name_goes s t v p f g (both_false (ends_in_root t) h) w
follow_goes s t (lexeme.Wild p) f g h w = tt
follow_goes s t (lexeme.Literal p) f g h w = tt

-- ---- behind a name

open_plain_goes : (s : Stack) (v : Word) (p : ℕ) → Sound s →
    Goes (flag s) (stack_tokens s ++ lexeme.Name v p ∷ []) (lexeme.Mark mark.Open) (open_plain v p s)
open_plain_goes s (word.Kind k) p w = ((tt, w), refl, simp append_assoc)
open_plain_goes s word.If p w =
    when_goes (not (in_pattern s) && nat_le (floor s) 1) (flag s) (stack_tokens s ++ lexeme.Name word.If p ∷ []) (lexeme.Mark mark.Open) (want (condition p s))
    (λ e. (
      (
        not_true (in_pattern s) (and_left (not (in_pattern s)) (nat_le (floor s) 1) e),
        le_of (floor s) 1 (and_right (not (in_pattern s)) (nat_le (floor s) 1) e),
        w,
      ),
      refl,
      simp append_assoc,
    ))
open_plain_goes s v p w =
    when_goes (not (in_pattern s)) (flag s) (stack_tokens s ++ lexeme.Name v p ∷ []) (lexeme.Mark mark.Open) (fresh (arguments v p s))
    (λ e. ((not_true (in_pattern s) e, refl, w), refl, simp append_assoc))

open_kind_goes : (s : Stack) (pre : StepPrefix) (v : Word) (p : ℕ) → PrefixFits (in_pattern s) pre → Sound s →
    Goes (flag s) (stack_tokens s ++ (prefix_tokens pre ++ lexeme.Name v p ∷ [])) (lexeme.Mark mark.Open) (open_kind pre v p s)
open_kind_goes s pre (word.Kind k) p f w = ((f, w), refl, simp append_assoc)
open_kind_goes s pre v p f w = tt

open_name_goes : (s : Stack) (pre : StepPrefix) (v : Word) (p : ℕ) → PrefixFits (in_pattern s) pre → Sound s →
    Goes (flag s) (stack_tokens s ++ (prefix_tokens pre ++ lexeme.Name v p ∷ [])) (lexeme.Mark mark.Open) (open_name pre v p s)
open_name_goes s prefix.Plain v p f w = open_plain_goes s v p w
open_name_goes s prefix.At v p f w = open_kind_goes s prefix.At v p f w
open_name_goes s (prefix.Axis a q) v p f w = open_kind_goes s (prefix.Axis a q) v p f w

name_axis_goes : (s : Stack) (pre : StepPrefix) (v : Word) (p : ℕ) → Sound s →
    Goes (flag s) (stack_tokens s ++ (prefix_tokens pre ++ lexeme.Name v p ∷ [])) (lexeme.Mark mark.Colons) (name_axis pre v p s)
name_axis_goes s prefix.Plain v p w =
    when_goes (names_axis (in_pattern s) v) (flag s) (stack_tokens s ++ lexeme.Name v p ∷ []) (lexeme.Mark mark.Colons) (axis (prefix.Axis v p) s)
    (λ e. ((e, w), refl, simp append_assoc))
name_axis_goes s pre v p w = tt

name_binder_goes : (s : Stack) (pre : StepPrefix) (v : Word) (p : ℕ) → Sound s →
    Goes (flag s) (stack_tokens s ++ (prefix_tokens pre ++ lexeme.Name v p ∷ [])) (lexeme.Mark mark.Dollar) (name_binder pre v p s)
name_binder_goes s prefix.Plain (word.Binder k) p w =
    when_goes (not (in_pattern s) && nat_le (floor s) 1) (flag s) (stack_tokens s ++ lexeme.Name (word.Binder k) p ∷ []) (lexeme.Mark mark.Dollar)
    (binder_dollar (begun k p) s)
    (λ e. (
      (
        not_true (in_pattern s) (and_left (not (in_pattern s)) (nat_le (floor s) 1) e),
        le_of (floor s) 1 (and_right (not (in_pattern s)) (nat_le (floor s) 1) e),
        tt,
        w,
      ),
      refl,
      simp append_assoc,
    ))
name_binder_goes s pre v p w = tt

follow_named_goes : (s : Stack) (pre : StepPrefix) (v : Word) (p : ℕ) (l : Lexeme) → PrefixFits (in_pattern s) pre → Sound s →
    Goes (flag s) (stack_tokens s ++ (prefix_tokens pre ++ lexeme.Name v p ∷ [])) l (follow_named pre v p s l)
follow_named_goes s pre v p (lexeme.Mark mark.Open) f w = open_name_goes s pre v p f w
follow_named_goes s pre v p (lexeme.Mark mark.Colons) f w = name_axis_goes s pre v p w
follow_named_goes s pre v p (lexeme.Mark mark.Dollar) f w = name_binder_goes s pre v p w
follow_named_goes s pre v p l f w = follow_goes s (step pre (test.Named v p)) l (λ n _. (f, tt)) (f, tt) refl w

-- ---- inside steps, bindings and casts

axis_goes : (s : Stack) (pre : StepPrefix) (l : Lexeme) → PrefixFits (in_pattern s) pre → Sound s →
    Goes (flag s) (stack_tokens s ++ prefix_tokens pre) l (axis_test pre s l)
axis_goes s pre (lexeme.Name v p) f w = ((f, w), refl, simp append_assoc)
axis_goes s pre (lexeme.Wild p) f w = ((λ n _. (f, tt), (f, tt), refl, w), refl, simp append_assoc)
axis_goes s pre (lexeme.Mark (mark.Operator (operator.Arith arith_op.Mul))) f w = ((λ n _. (f, tt), (f, tt), refl, w), refl, simp append_assoc)
axis_goes s pre l f w = tt

kind_goes : (s : Stack) (pre : StepPrefix) (k : KindWord) (p : ℕ) (l : Lexeme) → PrefixFits (in_pattern s) pre → Sound s →
    Goes (flag s) (tokens_of (kind pre k p s)) l (in_kind pre k p s l)
kind_goes s pre k p (lexeme.Mark mark.Close) f w = ((λ n _. (f, tt), (f, tt), refl, w), refl, simp append_assoc)
kind_goes s pre k p (lexeme.Name v q) f w =
    when_goes (takes_name k v) (flag s) (tokens_of (kind pre k p s)) (lexeme.Name v q) (kind_name pre k p v q s)
    (λ e. ((f, e, w), refl, simp append_assoc))
kind_goes s pre k p l f w = tt

kind_name_goes : (s : Stack) (pre : StepPrefix) (k : KindWord) (p : ℕ) (v : Word) (q : ℕ) (l : Lexeme) → PrefixFits (in_pattern s) pre →
    takes_name k v ≡ true → Sound s →
    Goes (flag s) (tokens_of (kind_name pre k p v q s)) l (end_kind pre k p v q s l)
kind_name_goes s pre k p v q (lexeme.Mark mark.Close) f e w = ((λ n _. (f, e), (f, e), refl, w), refl, simp append_assoc)
kind_name_goes s pre k p v q l f e w = tt

variable_goes : (s : Stack) (l : Lexeme) → in_pattern s ≡ false → Sound s → Goes (flag s) (tokens_of (dollar s)) l (variable_name s l)
variable_goes s (lexeme.Name v p) e w = plain_goes s (variable v p) (tokens_of (dollar s)) (lexeme.Name v p) w (λ q n h. h) refl (simp append_assoc) e
variable_goes s l e w = tt

bound_dollar_goes : (s : Stack) (bs : Bindings) (l : Lexeme) → IsSound (comma_bound bs s) →
    Goes (flag s) (tokens_of (comma_bound bs s)) l (bound_dollar bs s l)
bound_dollar_goes s bs (lexeme.Mark mark.Dollar) h = (h, refl, simp append_assoc)
bound_dollar_goes s bs l h = tt

bound_name_goes : (s : Stack) (g : Given) (l : Lexeme) → IsSound (binder_dollar g s) →
    Goes (flag s) (tokens_of (binder_dollar g s)) l (bound_name g s l)
bound_name_goes s g (lexeme.Name v p) h = (h, refl, simp append_assoc)
bound_name_goes s g l h = tt

cast_as_goes : (s : Stack) (t : Tree) (k : Casting) (p : ℕ) (l : Lexeme) → IsSound (casting t k p s) →
    Goes (flag s) (tokens_of (casting t k p s)) l (cast_as t k p s l)
cast_as_goes s t k p (lexeme.Name word.As q) h = (h, refl, simp append_assoc)
cast_as_goes s t k p l h = tt

cast_type_goes : (s : Stack) (t : Tree) (k : Casting) (p q : ℕ) (l : Lexeme) → IsSound (casting_as t k p q s) →
    Goes (flag s) (tokens_of (casting_as t k p q s)) l (cast_type t k p q s l)
cast_type_goes s t k p q (lexeme.Name v r) h =
    ((λ n e. (h.0, le_of n (casting_level k) e, h.2, h.3), (h.0, h.1, h.2, h.3), refl, h.4), refl, simp append_assoc)
cast_type_goes s t k p q l h = tt

then_goes : (s : Stack) (p : ℕ) (c : Tree) (l : Lexeme) → IsSound (conditioned p c s) →
    Goes (flag s) (tokens_of (conditioned p c s)) l (then_word p c s l)
then_goes s p c (lexeme.Name word.Then q) h = (h, refl, simp append_assoc)
then_goes s p c l h = tt

if_goes : (b : Bool) (p : Bool) (ts : List Lexeme) (l : Lexeme) (o u : Option State) → (b ≡ true → Goes p ts l o) → (b ≡ false → Goes p ts l u) →
    Goes p ts l (if b then o else u)
if_goes true p ts l o u f g = f refl
if_goes false p ts l o u f g = g refl

-- `/` alone fits wherever it reaches
root_stands : (p : Bool) → StandsAt p root
root_stands true n e = (le_of n 14 (and_left (nat_le n 14) (nat_eq n 0) e), λ _. zero_of n (and_right (nat_le n 14) (nat_eq n 0) e))
root_stands false n e = (le_of n 14 (and_left (nat_le n 14) true e), λ x. absurd cc)

slash_goes : (s : Stack) (l : Lexeme) → floor s ≤ 15 → Sound s → Goes (flag s) (tokens_of (slash s)) l (follow_slash s l)
slash_goes s l h w =
    if_goes (begins_step l) (flag s) (tokens_of (slash s)) l (begin (signed operator.Slash s) l)
    (if reaches (in_pattern s) (floor s) root then follow root s l else None)
    (λ e. begin_goes (signed operator.Slash s) l (slash_allowed (in_pattern s), h, w))
    (λ e. only_goes (reaches (in_pattern s) (floor s) root) (flag s) (tokens_of (slash s)) l (follow root s l)
    (λ b. follow_goes s root l (root_stands (in_pattern s)) (root_stands (in_pattern s) (floor s) b) e w))

-- the next state is sound, and has one token more
pub step_goes : (s : State) (l : Lexeme) → IsSound s → Goes (flag_of s) (tokens_of s) l (read s l)
step_goes (want s) l h = begin_goes s l h
step_goes (fresh s) l h = begin_fresh_goes s l h
step_goes (slash s) l h = slash_goes s l h.0 h.1
step_goes (named pre v p s) l h = follow_named_goes s pre v p l h.0 h.1
step_goes (dollar s) l h = variable_goes s l h.0 h.1
step_goes (axis pre s) l h = axis_goes s pre l h.0 h.1
step_goes (kind pre k p s) l h = kind_goes s pre k p l h.0 h.1
step_goes (kind_name pre k p v q s) l h = kind_name_goes s pre k p v q l h.0 h.1 h.2
step_goes (have t s) l h = follow_goes s t l h.0 h.1 (rw h.2 refl) h.3
step_goes (comma_bound bs s) l h = bound_dollar_goes s bs l h
step_goes (binder_dollar g s) l h = bound_name_goes s g l h
step_goes (binder_name g v r s) l h =
    when_goes (introduces (given_binder g) l) (flag s) (tokens_of (binder_name g v r s)) l (want (binding g v r l s))
    (λ e. ((h.0, h.1, h.2, e, h.3), refl, simp append_assoc))
step_goes (casting t k p s) l h = cast_as_goes s t k p l h
step_goes (casting_as t k p q s) l h = cast_type_goes s t k p q l h
step_goes (conditioned p c s) l h = then_goes s p c l h

-- ---- at the end

-- these tokens are derived so
pub record Ended (p : Bool) (ts : List Lexeme) (t : Tree) : Type 0 where
  pub fits : Fits p 0 t
  pub tokens_are : tokens t ≡ ts

whole_ends : (s : Stack) (t c : Tree) → Fits (in_pattern s) (floor s) t → whole_under t s ≡ Some c → Ended (flag s) (stack_tokens s ++ tokens t) c
whole_ends (bottom p) t c f e = let g : t ≡ c = cc in rw (sym g) (record { fits = f; tokens_are = refl })
whole_ends s t c f e = absurd cc

operand_ends : (s : Stack) (t c : Tree) → Fits (in_pattern s) (floor s) t → Sound s → whole (reach 0 t s) ≡ Some c →
    Ended (flag s) (stack_tokens s ++ tokens t) c
operand_ends s t c f w e =
    let j = joins_all s t f w in
    rw (sym j.same_flag, sym j.same_tokens) (whole_ends (reach 0 t s).under (reach 0 t s).operand c (fits_joined s t 0 (reach 0 t s) j) e)

root_ends_by : (b : Bool) (p : Bool) (ts : List Lexeme) (o : Option Tree) (c : Tree) → (b ≡ true → o ≡ Some c → Ended p ts c) →
    (if b then o else None) ≡ Some c → Ended p ts c
root_ends_by true p ts o c f e = f refl e
root_ends_by false p ts o c f e = absurd cc

state_ends : (s : State) (c : Tree) → IsSound s → ended s ≡ Some c → Ended (flag_of s) (tokens_of s) c
state_ends (have t s) c h e = operand_ends s t c h.1 h.3 e
state_ends (named pre v p s) c h e = operand_ends s (step pre (test.Named v p)) c (h.0, tt) h.1 e
state_ends (slash s) c h e =
    root_ends_by (reaches (in_pattern s) (floor s) root) (flag s) (tokens_of (slash s)) (whole (reach 0 root s)) c
    (λ b g. operand_ends s root c (root_stands (in_pattern s) (floor s) b) h.1 g) e
state_ends s c h e = absurd cc

sound_step : (o : Option State) (p : Bool) (before : List Lexeme) (l : Lexeme) (ls : List Lexeme) (c : Tree) → Goes p before l o →
    ((s : State) → flag_of s ≡ p → IsSound s → accept s ls ≡ Some c → Ended p (tokens_of s ++ ls) c) →
    running.bind o (λ next. accept next ls) ≡ Some c →
    Ended p (before ++ l ∷ ls) c
sound_step None p before l ls c g f e = absurd cc
sound_step (Some s) p before l ls c g f e =
    let x = f s g.1 g.0 e in
    record { fits = x.fits; tokens_are = x.tokens_are ∙ ap (λ (ts : List Lexeme). ts ++ ls) g.2 ∙ append_assoc before (l ∷ []) ls }

ended_same : (p q : Bool) (ts : List Lexeme) (t : Tree) → p ≡ q → Ended p ts t → Ended q ts t
ended_same p q ts t e x = record { fits = fits_same p q 0 t e x.fits; tokens_are = x.tokens_are }

-- what is accepted is derived
pub sound : (p : Bool) (ls : List Lexeme) (s : State) (c : Tree) → flag_of s ≡ p → IsSound s → accept s ls ≡ Some c → Ended p (tokens_of s ++ ls) c
sound p [] s c f h e =
    let x = state_ends s c h e in
    record { fits = fits_same (flag_of s) p 0 c f x.fits; tokens_are = x.tokens_are ∙ sym (append-nil (tokens_of s)) }
sound p (l ∷ ls) s c f h e =
    ended_same (flag_of s) p (tokens_of s ++ l ∷ ls) c f
    (sound_step (read s l) (flag_of s) (tokens_of s) l ls c (step_goes s l h) (λ n i k g. sound (flag_of s) ls n c i k g) e)
