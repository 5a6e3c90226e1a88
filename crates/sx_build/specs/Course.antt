-- Building one by one: what a result has come to, and what the next that is asked for adds to it.
use Rattle.std.specs.Prelude.{ℕ, Bool, true, false, List, [], ◌∷◌, ◌++◌, length, Option, Some, None}
use Rattle.sx_atoms.specs.declared.error_codes.Code.{Code}
use Rattle.sx_lines.specs.declared.events.Built.{Built}
use Rattle.sx_lines.specs.declared.events.Built.TheVariants as event
use Rattle.sx_named.specs.Named.{Attribute}
use Rattle.sx_build.specs.Asked.{Asked, starts, ends, has, says, prints, instructs}
use Rattle.sx_build.specs.Content.{Held, spaced, with_attribute, misplaced}
use Rattle.sx_build.specs.FixUp.{fix_up}
use Rattle.sx_build.specs.Build.{Open, bindings_in, element_opened, printed_start}

-- What a result has come to: the open elements but the one whose start is held, the innermost first; the start that may
-- still get attributes; whether an atom came last; the error that nothing follows.
pub record Construction : Type 0 where
  pub elements : List Open
  pub held : Option Held
  pub behind_atom : Bool
  pub error : Option Code

-- nothing was asked for
abbrev pub nothing_constructed : Construction
nothing_constructed = record { elements = []; held = None; behind_atom = false; error = None }

-- the start that is held, as it is built
abbrev pub held_start : List Open → Option Held → List Built
held_start os None = []
held_start os (Some h) = printed_start h.name (fix_up (bindings_in os) h.name h.attributes) ∷ []

-- the open elements with the one whose start is held
abbrev pub with_held : List Open → Option Held → List Open
with_held os None = os
with_held os (Some h) = element_opened os h.name (fix_up (bindings_in os) h.name h.attributes) ∷ os

-- the end of the innermost element
abbrev pub end_event : List Open → List Built
end_event [] = []
end_event (o ∷ os) = event.End o.name ∷ []

-- all but the innermost element
abbrev pub outer_of : List Open → List Open
outer_of [] = []
outer_of (o ∷ os) = os

-- ---- what is added

-- a text, where it is not empty, and before it the start that is held
abbrev pub text_gives : List Open → Option Held → List ℕ → List Built
text_gives os held [] = []
text_gives os held (b ∷ bs) = held_start os held ++ event.Text (b ∷ bs) ∷ []

abbrev pub gives_in : List Open → Option Held → Bool → Asked → List Built
gives_in os held behind_atom (starts name) = held_start os held
gives_in os held behind_atom ends = held_start os held ++ end_event (with_held os held)
gives_in os held behind_atom (has a) = []
gives_in os held behind_atom (says s) = text_gives os held s
gives_in os held behind_atom (prints s) = text_gives os held (spaced behind_atom s)
gives_in os held behind_atom (instructs target content) = held_start os held ++ event.Pi target content ∷ []

abbrev pub gives_unless : Option Code → List Open → Option Held → Bool → Asked → List Built
gives_unless (Some c) os held behind_atom a = []
gives_unless None os held behind_atom a = gives_in os held behind_atom a

-- the built events that are fixed by what comes next
abbrev pub built_by : Construction → Asked → List Built
built_by c a = gives_unless c.error c.elements c.held c.behind_atom a

-- ---- what it has come to then

-- these elements are open, a start is held or not, an atom came last or not, and there is no error
abbrev pub at_work : List Open → Option Held → Bool → Construction
at_work os held behind_atom = record { elements = os; held = held; behind_atom = behind_atom; error = None }

-- these elements are open, and no start is held
abbrev pub without_start : List Open → Bool → Construction
without_start os behind_atom = at_work os None behind_atom

-- a start is held where these elements are open
abbrev pub holding : List Open → Held → Construction
holding os h = at_work os (Some h) false

abbrev pub after_text : List Open → Option Held → Bool → List ℕ → Construction
after_text os held is_atom [] = at_work os held is_atom
after_text os held is_atom (b ∷ bs) = without_start (with_held os held) is_atom

abbrev pub after_attribute : List Open → Option Held → Attribute → Construction
after_attribute os None a = record { elements = os; held = None; behind_atom = false; error = Some (misplaced (length os)) }
after_attribute os (Some h) a = holding os (record { name = h.name; attributes = with_attribute h.attributes a })

abbrev pub after_in : List Open → Option Held → Bool → Asked → Construction
after_in os held behind_atom (starts name) = holding (with_held os held) (record { name = name; attributes = [] })
after_in os held behind_atom ends = without_start (outer_of (with_held os held)) false
after_in os held behind_atom (has a) = after_attribute os held a
after_in os held behind_atom (says s) = after_text os held false s
after_in os held behind_atom (prints s) = after_text os held true (spaced behind_atom s)
after_in os held behind_atom (instructs target content) = without_start (with_held os held) false

abbrev pub after_unless : Option Code → List Open → Option Held → Bool → Asked → Construction
after_unless (Some c) os held behind_atom a = record { elements = os; held = held; behind_atom = behind_atom; error = Some c }
after_unless None os held behind_atom a = after_in os held behind_atom a

-- what it has come to after what comes next
abbrev pub after : Construction → Asked → Construction
after c a = after_unless c.error c.elements c.held c.behind_atom a

-- ---- all that was asked for

abbrev pub given_from : Construction → List Asked → List Built
given_from c [] = []
given_from c (a ∷ asked) = built_by c a ++ given_from (after c a) asked

abbrev pub reached_from : Construction → List Asked → Construction
reached_from c [] = c
reached_from c (a ∷ asked) = reached_from (after c a) asked

-- the built events that are fixed by all that was asked for
abbrev pub given_by : List Asked → List Built
given_by asked = given_from nothing_constructed asked

-- what it has come to after all that was asked for
abbrev pub constructed : List Asked → Construction
constructed asked = reached_from nothing_constructed asked
