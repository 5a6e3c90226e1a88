-- Which template is chosen for an element, or else what the built-in one does (XSLT 3.0, 6.4, 6.5 and 6.7).
use Rattle.std.specs.Prelude.{ℕ, Bool, true, false, ◌&&◌, bytes_eq, List, [], ◌∷◌, Option, Some, None, slice_get, if◌then◌else◌}
use Rattle.sx_named.specs.Named.{Name, NamedElement}
use Rattle.sx_kinds.specs.declared.constructs.NamePattern.{NamePattern}
use Rattle.sx_kinds.specs.declared.sheets.Template.{Template}
use Rattle.sx_machine.specs.Body.{Body, nil, literal, copies, apply, body_of, written_out}
use Rattle.sx_names.specs.Numbering.{NameTable}

module _ {X : Type 0} where
  -- this, or another where it is none
  abbrev pub otherwise : Option X → Option X → Option X
  otherwise (Some x) o = Some x
  otherwise None o = o

  -- the last that passes a test
  abbrev pub last_that : (X → Bool) → List X → Option X
  last_that test [] = None
  last_that test (x ∷ xs) = otherwise (last_that test xs) (if test x then Some x else None)

-- an entry of a table of names has the namespace and the local name of this name
abbrev pub is_entry_named : Name → Option (List ℕ × List ℕ) → Bool
is_entry_named name None = false
is_entry_named name (Some entry) = bytes_eq entry.0 name.uri && bytes_eq entry.1 name.local

-- the name of a pattern passes a test; no pattern matches nothing
abbrev pub pattern_passes : (ℕ → Bool) → Option NamePattern → Bool
pattern_passes test None = false
pattern_passes test (Some p) = test p.name

-- the templates that match an element of this name: those whose pattern has its namespace and local name, by this table of names
abbrev pub matches : NameTable → Name → Template → Bool
matches names name t = pattern_passes (λ n. is_entry_named name (slice_get names n)) t.pattern

-- the content of the built-in template: it applies templates to the children; shallow copy does that in a copy of the
-- element, behind its attributes
abbrev pub built_in_template : Bool → NamedElement → Body Name
built_in_template false e = apply nil
built_in_template true e = literal 0 e.name (copies e.attributes (apply nil)) nil

-- the body of the chosen template, or of the built-in one
abbrev pub body_or : NameTable → Body Name → Option Template → Body Name
body_or names built_in_template None = built_in_template
body_or names built_in_template (Some t) = written_out names (body_of t.body)

-- The body for an element, where nodes that no template matches are or are not copied: all priorities are equal, so the last
-- template that matches is chosen.
abbrev pub chosen_for : NameTable → Bool → List Template → NamedElement → Body Name
chosen_for names is_copying templates e = body_or names (built_in_template is_copying e) (last_that (matches names e.name) templates)
