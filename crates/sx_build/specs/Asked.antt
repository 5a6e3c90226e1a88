-- What is asked for in turn, with names written out.
use Rattle.std.specs.Prelude.{ℕ, List, [], ◌∷◌}
use Rattle.sx_named.specs.Named.{Name, Attribute, name_at, attribute_at}
use Rattle.sx_build.specs.declared.raw.Raw.{Raw}
use Rattle.sx_build.specs.declared.raw.Raw.TheVariants as raw
use Rattle.sx_names.specs.Numbering.{NameTable}

-- what comes next in a result: an element starts; the innermost open one ends; an attribute of the element that has just
-- started; a text, which may be empty; an atom, by its print; a processing instruction
pub data Asked : Type 0 where
  starts : Name → Asked
  ends : Asked
  has : Attribute → Asked
  says : List ℕ → Asked
  prints : List ℕ → Asked
  instructs : List ℕ → List ℕ → Asked

module _ (names : NameTable) where
  -- what a raw event asks for, by this table of names
  abbrev pub asked_at : Raw → Asked
  asked_at (raw.Start label) = starts (name_at names label)
  asked_at raw.End = ends
  asked_at (raw.Attr attr) = has (attribute_at names attr)
  asked_at (raw.Text s) = says s
  asked_at (raw.Atom s) = prints s
  asked_at (raw.Pi target content) = instructs target content

  abbrev pub all_asked_at : List Raw → List Asked
  all_asked_at [] = []
  all_asked_at (r ∷ raws) = asked_at r ∷ all_asked_at raws
