-- What each token is in a derivation, and how many things are open with it. Open are the parentheses, the predicates and the
-- expressions that begin with a word (`for`, `let`, `some`, `every`, `if`), each of which has one more open with each further
-- binding.
use Rattle.std.specs.Prelude.{ℕ, suc, Bool, true, false, List, [], ◌∷◌, ◌++◌}
use Rattle.sx_parse.specs.declared.lexemes.KindWord.{KindWord}
use Rattle.sx_parse.specs.declared.lexemes.KindWord.TheVariants as kind_word
use Rattle.sx_parse.specs.declared.lexemes.StepPrefix.{StepPrefix}
use Rattle.sx_parse.specs.declared.lexemes.StepPrefix.TheVariants as prefix
use Rattle.sx_parse.specs.declared.lexemes.Test.{Test}
use Rattle.sx_parse.specs.declared.lexemes.Test.TheVariants as test
use Rattle.sx_parse.specs.declared.roles.Role.{Role}
use Rattle.sx_parse.specs.declared.roles.Role.TheVariants as role
use Rattle.sx_parse.specs.Grammar.{Tree, literal, dot, parent, root, variable, step, empty, parens, call, called, filter, comma, prefixed, binary, cast, choice, bind, Bindings, first, also}

-- how many operands commas join
abbrev pub operand_count : Tree → ℕ
operand_count (comma a b) = suc (operand_count a)
operand_count t = 1

abbrev pub prefix_roles : StepPrefix → List Role
prefix_roles prefix.Plain = []
prefix_roles prefix.At = role.Plain ∷ []
prefix_roles (prefix.Axis w p) = role.Plain ∷ role.Plain ∷ []

-- the name in the parentheses of a kind test: a processing instruction's target is no name of a namespace
abbrev pub inner_role : KindWord → Role
inner_role kind_word.ProcessingInstruction = role.Plain
inner_role k = role.Name

abbrev pub test_roles : ℕ → Test → List Role
test_roles n (test.Named w p) = role.Name ∷ []
test_roles n test.Any = role.Plain ∷ []
test_roles n (test.Wild p) = role.Wild ∷ []
test_roles n (test.Kind k p) = role.Plain ∷ role.Opens (suc n) ∷ role.Plain ∷ []
test_roles n (test.KindOf k p w q) = role.Plain ∷ role.Opens (suc n) ∷ inner_role k ∷ role.Plain ∷ []

abbrev pub question_roles : Bool → List Role
question_roles true = role.Plain ∷ []
question_roles false = []

-- how many things are open behind bindings, where so many are before them: one more for each
abbrev pub bound_depth : ℕ → Bindings → ℕ
bound_depth n (first k p w r l a) = suc n
bound_depth n (also bs w r l a) = suc (bound_depth n bs)

-- the roles of the tokens of a derivation in which so many things are open, in their order
abbrev mutual
  pub roles : ℕ → Tree → List Role
  roles n (literal p) = role.Literal ∷ []
  roles n dot = role.Plain ∷ []
  roles n parent = role.Plain ∷ []
  roles n root = role.Plain ∷ []
  roles n (variable w p) = role.Plain ∷ role.Name ∷ []
  roles n (step pre t) = prefix_roles pre ++ test_roles n t
  roles n empty = role.Opens (suc n) ∷ role.Plain ∷ []
  roles n (parens e) = role.Opens (suc n) ∷ roles (suc n) e ++ role.Plain ∷ []
  roles n (call w p) = role.Function ∷ role.Opens (suc n) ∷ role.Closes p 0 ∷ []
  roles n (called w p e) = role.Function ∷ role.Opens (suc n) ∷ roles (suc n) e ++ role.Closes p (operand_count e) ∷ []
  roles n (filter b e) = roles n b ++ role.Opens (suc n) ∷ roles (suc n) e ++ role.Plain ∷ []
  roles n (comma a b) = roles n a ++ role.Plain ∷ roles n b
  roles n (prefixed o e) = role.Plain ∷ roles n e
  roles n (binary a l o b) = roles n a ++ role.Plain ∷ roles n b
  roles n (cast e k p q w r optional) = roles n e ++ role.Plain ∷ role.Plain ∷ role.Type ∷ question_roles optional
  roles n (choice p c q t r e) =
      role.Opens (suc n) ∷ role.Opens (suc (suc n)) ∷ roles (suc (suc n)) c ++ role.Plain ∷ role.Plain ∷ roles (suc n) t ++ role.Plain ∷ roles (suc n) e
  roles n (bind bs l e) = binding_roles n bs ++ role.Plain ∷ roles (bound_depth n bs) e

  pub binding_roles : ℕ → Bindings → List Role
  binding_roles n (first k p w r l a) = role.Opens (suc n) ∷ role.Plain ∷ role.Name ∷ role.Plain ∷ roles (suc n) a
  binding_roles n (also bs w r l a) =
      binding_roles n bs ++ role.Plain ∷ role.Opens (suc (bound_depth n bs)) ∷ role.Name ∷ role.Plain ∷ roles (suc (bound_depth n bs)) a
