-- What a stylesheet gives on an open tree.
use Rattle.std.specs.Prelude.{ℕ, zero, suc, Bool, true, false, List, [], ◌∷◌, ◌++◌, Option, Some, None, if◌then◌else◌}
use Rattle.sx_atoms.specs.declared.error_codes.Code.{Code}
use Rattle.sx_atoms.specs.declared.error_codes.Code.TheVariants as error
use Rattle.sx_named.specs.Named.{Name, Attribute}
use Rattle.sx_tree.specs.Tree.{Forest, none, text, instruction, element, Document}
use Rattle.sx_build.specs.Asked as ask
use Rattle.sx_build.specs.Asked.{Asked}
use Rattle.sx_build.specs.Build.{Build, error_of}
use Rattle.sx_lines.specs.declared.events.Built.{Built}
use Rattle.sx_machine.specs.Body.{Body, nil, literal, copies, words, apply}

-- Where what is given ends: it is whole; it goes on with what has not come; or there is an error.
pub data Ending : Type 0 where
  done : Ending
  waits : Ending
  stops : Code → Ending

-- what is asked for in turn, and where it ends
pub record Output : Type 0 where
  pub raw : List Asked
  pub ending : Ending

-- nothing, and it ends so
abbrev pub nothing : Ending → Output
nothing e = record { raw = []; ending = e }

-- all of these
abbrev pub gives : List Asked → Output
gives raws = record { raw = raws; ending = done }

abbrev pub output_behind : List Asked → Ending → Output → Output
output_behind raws done o = record { raw = raws ++ o.raw; ending = o.ending }
output_behind raws waits o = record { raw = raws; ending = waits }
output_behind raws (stops c) o = record { raw = raws; ending = stops c }

-- one output_behind the other, up to the first end that is not done
abbrev pub next : Output → Output → Output
next a b = output_behind a.raw a.ending b

-- an element round what is given
abbrev pub wrap : Name → Output → Output
wrap name o = next (gives (ask.starts name ∷ [])) (next o (gives (ask.ends ∷ [])))

-- a template is invoked beyond the limit
abbrev pub too_deep : Output
too_deep = nothing (stops error.Sxli0001)

-- ---- nodes and selections (XDM 3.1; XPath 3.1, 3.3)

-- a node: a text, a processing instruction, or an element, whether it is open, and its children
pub data Node (E : Type 0) : Type 0 where
  text_node : List ℕ → Node E
  instruction_node : List ℕ → List ℕ → Node E
  element_node : E → Bool → Forest E → Node E

-- items in order, and where they end
pub record Selection (E : Type 0) : Type 0 where
  pub items : List (Node E)
  pub ending : Ending

module _ {E : Type 0} where
  -- The children of a node, where it is or is not open. What follows an open child is not there, and in a closed node
  -- everything is closed.
  abbrev pub children : Bool → Forest E → List (Node E)
  children is_open none = []
  children is_open (text s rest) = text_node s ∷ children is_open rest
  children is_open (instruction target content rest) = instruction_node target content ∷ children is_open rest
  children true (element e true kids rest) = element_node e true kids ∷ []
  children true (element e false kids rest) = element_node e false kids ∷ children true rest
  children false (element e was_open kids rest) = element_node e false kids ∷ children false rest

  -- the child axis: it waits where the node is open
  abbrev pub child : Bool → Forest E → Selection E
  child is_open kids = record { items = children is_open kids; ending = if is_open then waits else done }

  -- what is run for each of these items in order, up to the first end that is not done; then the end of the items
  abbrev pub for_each : (Node E → Output) → List (Node E) → Ending → Output
  for_each run [] ending = nothing ending
  for_each run (n ∷ ns) ending = next (run n) (for_each run ns ending)

  -- a loop over a selection (XSLT 3.0, 6.3 and 7)
  abbrev pub loop : (Node E → Output) → Selection E → Output
  loop run s = for_each run s.items s.ending

-- ---- bodies (XSLT 3.0, 5.7 and 11)

-- a body, where this is what templates give that are applied to attributes, and to the children
abbrev pub run_body : (List Attribute → Output) → Output → Body Name → Output
run_body copied applied nil = gives []
run_body copied applied (literal line name content rest) = next (wrap name (run_body copied applied content)) (run_body copied applied rest)
run_body copied applied (copies attributes rest) = next (copied attributes) (run_body copied applied rest)
run_body copied applied (words s rest) = next (gives (ask.says s ∷ [])) (run_body copied applied rest)
run_body copied applied (apply rest) = next applied (run_body copied applied rest)

-- ---- templates (XSLT 3.0, 6.3 to 6.7)

-- the built-in template of shallow copy at an attribute, where so many invocations are left, this one among them
abbrev pub copied_attribute : ℕ → Attribute → Output
copied_attribute zero a = too_deep
copied_attribute (suc left) a = gives (ask.has a ∷ [])

-- the same at each of these attributes
abbrev pub copied_attributes : ℕ → List Attribute → Output
copied_attributes left [] = gives []
copied_attributes left (a ∷ rest) = next (copied_attribute left a) (copied_attributes left rest)

-- a processing instruction is copied by shallow copy, and left out by text-only copy
abbrev pub copied_instruction : Bool → List ℕ → List ℕ → List Asked
copied_instruction false target content = []
copied_instruction true target content = ask.instructs target content ∷ []

-- where nodes that no template matches are or are not copied, and `chosen` is the body for an element
module _ {E : Type 0} (is_copying : Bool) (chosen : E → Body Name) where
  -- A template at a node, where so many invocations are left, this one among them. The built-in templates give a text (6.7.1,
  -- 6.7.2).
  abbrev pub invoked : ℕ → Node E → Output
  invoked zero n = too_deep
  invoked (suc left) (text_node s) = gives (ask.says s ∷ [])
  invoked (suc left) (instruction_node target content) = gives (copied_instruction is_copying target content)
  invoked (suc left) (element_node e is_open kids) = run_body (copied_attributes left) (loop (invoked left) (child is_open kids)) (chosen e)

  -- templates are applied to the children of a node
  abbrev pub applied : ℕ → Bool → Forest E → Output
  applied left is_open kids = loop (invoked left) (child is_open kids)

  -- the built-in template at the document node, where there may be so many invocations: it applies templates to the children
  abbrev pub meaning : ℕ → Document E → Output
  meaning zero d = too_deep
  meaning (suc left) d = applied left d.is_open d.content

-- it is whole
abbrev pub is_done : Ending → Bool
is_done done = true
is_done waits = false
is_done (stops c) = false

-- where a result ends: at an error of what was asked for, or else where that ends
abbrev pub ending_with : Option Code → Ending → Ending
ending_with (Some c) e = stops c
ending_with None e = e

-- the built events of a result, and where it ends
pub record Result : Type 0 where
  pub built : List Built
  pub ending : Ending

-- what is built of what is asked for
abbrev pub result_of : Output → Result
result_of o = record { built = Build o.raw (is_done o.ending); ending = ending_with (error_of o.raw) o.ending }
