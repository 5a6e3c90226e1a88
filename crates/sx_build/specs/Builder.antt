-- What a builder stands for.
use Rattle.std.specs.Prelude.{◌≡◌, ◌<◌, ℕ, Bool, true, false, vec_len, vec_capacity, List, [], ◌∷◌, ◌++◌, length, take, reverse, Option, Some, None, Result, Ok, Err}
use Rattle.std.specs.Global.{Vec}
use Rattle.sx_atoms.specs.declared.error_codes.Code.{Code}
use Rattle.sx_lines.specs.declared.events.Built.{Built}
use Rattle.sx_build.specs.declared.builder.Builder.{Builder}
use Rattle.sx_build.specs.declared.builder.Element.{Element}
use Rattle.sx_build.specs.declared.withheld.Withheld.{Withheld}
use Rattle.sx_build.specs.Asked.{Asked}
use Rattle.sx_build.specs.Content.{Held}
use Rattle.sx_build.specs.FixUp.{Binding}
use Rattle.sx_build.specs.Build.{Open, printed_name, Build}
use Rattle.sx_build.specs.Course.{Construction, constructed, at_work, after_in, gives_in, held_start, with_held}
use Rattle.sx_build.specs.InForce.{in_force}
use Rattle.sx_build.specs.Withheld.{HoldsStart}

-- memory was wanting in a push: the builder takes nothing more
abbrev pub is_spent : Builder → Bool
is_spent b = b.spent

-- the answer that goes with an error, or with none
abbrev pub answer_of : Option Code → Result (Unit {0}) Code
answer_of None = Ok tt
answer_of (Some c) = Err c

-- Elements are open, the innermost first, where the bindings that they have declared are these, the innermost last: each has
-- its printed name, and so many of the bindings are of the elements around it.
abbrev pub AreOpen : List Open → List Element → List Binding → Type 0
AreOpen [] [] bindings = bindings ≡ []
AreOpen [] (e ∷ es) bindings = ⊥
AreOpen (o ∷ os) [] bindings = ⊥
AreOpen (o ∷ os) (e ∷ es) bindings = (e.name ≡ o.name) × (o.bound ≡ in_force bindings) × AreOpen os es (take e.begins bindings)

-- no start is withheld: what is pending is fixed
pub record HoldsNone (os : List Open) (elements : List Element) (bindings : List Binding) (pending : Vec Built) (fixed : List Built) : Type 0 where
  pub are_open : AreOpen os (reverse elements) bindings
  pub pending_is : pending.items ≡ fixed

-- a start is withheld: its element is the last, and behind what is fixed there is room for it
pub record HoldsOne (os : List Open) (h : Held) (w : Withheld) (elements : List Element) (bindings : List Binding) (pending : Vec Built) (fixed : List Built) : Type 0 where
  pub rest : List Element
  pub last : Element
  pub elements_are : elements ≡ rest ++ last ∷ []
  pub last_name : last.name ≡ printed_name h.name
  pub last_begins : last.begins ≡ length bindings
  pub are_open : AreOpen os (reverse rest) bindings
  pub holds : HoldsStart (in_force bindings) h w
  pub pending_is : pending.items ≡ fixed
  pub room : vec_len pending < vec_capacity pending

abbrev pub HoldsBack : List Open → Option Held → Option Withheld → List Element → List Binding → Vec Built → List Built → Type 0
HoldsBack os None None elements bindings pending fixed = HoldsNone os elements bindings pending fixed
HoldsBack os None (Some w) elements bindings pending fixed = ⊥
HoldsBack os (Some h) None elements bindings pending fixed = ⊥
HoldsBack os (Some h) (Some w) elements bindings pending fixed = HoldsOne os h w elements bindings pending fixed

-- where these elements are open and this start is held, this is fixed and was not given
abbrev pub Withholds : List Open → Option Held → Builder → List Built → Type 0
Withholds os held b fixed = HoldsBack os held b.withheld b.elements b.bindings.items b.pending fixed

-- what building has come to, and what is fixed and was not given
pub record KeepsTo (c : Construction) (b : Builder) (fixed : List Built) : Type 0 where
  pub withholds : Withholds c.elements c.held b fixed
  pub behind_is : b.behind_atom ≡ c.behind_atom
  pub error_is : b.error ≡ c.error

-- it was told that the content is at its end: nothing is withheld
pub record IsEnded (b : Builder) (fixed : List Built) : Type 0 where
  pub none_withheld : b.withheld ≡ None
  pub pending_is : b.pending.items ≡ fixed

abbrev pub KeepsAt : Bool → List Asked → Builder → List Built → Type 0
KeepsAt false asked b fixed = KeepsTo (constructed asked) b fixed
KeepsAt true asked b fixed = IsEnded b fixed

-- of the built events of what was asked for, front was given, and fixed can be given
pub record StandsFor (b : Builder) (asked : List Asked) (at_end : Bool) (given : ℕ) : Type 0 where
  pub front : List Built
  pub fixed : List Built
  pub count : length front ≡ given
  pub due : front ++ fixed ≡ Build asked at_end
  pub keeps : KeepsAt at_end asked b fixed

-- After this was asked for, and after it was or was not told that the content is at its end, the builder has given so many.
abbrev pub BuilderStands : Builder → List Asked → Bool → ℕ → Type 0
BuilderStands b asked at_end given = StandsFor b asked at_end given

-- What building had come to, with what was fixed, it came to with what is behind it; and so much more is fixed.
abbrev pub KeepsOn : (List Open → Option Held → Bool → Construction) → (List Open → Option Held → Bool → List Built) → Builder → Builder → Type 0
KeepsOn onward added old new =
    (os : List Open) (held : Option Held) (behind_atom : Bool) (fixed : List Built) →
    KeepsTo (at_work os held behind_atom) old fixed →
    KeepsTo (onward os held behind_atom) new (fixed ++ added os held behind_atom)

-- the same, where this was asked for
abbrev pub KeepsAsked : Asked → Builder → Builder → Type 0
KeepsAsked a old new =
    (os : List Open) (held : Option Held) (behind_atom : Bool) (fixed : List Built) →
    KeepsTo (at_work os held behind_atom) old fixed →
    KeepsTo (after_in os held behind_atom a) new (fixed ++ gives_in os held behind_atom a)

-- the start that was withheld, if there was one, is fixed
abbrev pub Settles : Builder → Builder → Type 0
Settles old new =
    (os : List Open) (held : Option Held) (fixed : List Built) →
    Withholds os held old fixed → Withholds (with_held os held) None new (fixed ++ held_start os held)
