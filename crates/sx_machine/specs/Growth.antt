-- More of a document only adds to what was given.
use Rattle.std.specs.Prelude.{◌≡◌, true, false, List, [], ◌∷◌, ◌++◌}
use Rattle.sx_tree.specs.Tree.{Document, TreeEvent, starts, ends, says, instructs, closes, has_open, tree_of}
use Rattle.sx_lines.specs.declared.events.Built.{Built}
use Rattle.sx_machine.specs.Run.{Result, Ending, done, waits, stops}

module _ {E : Type 0} where
  -- it is not the close, or no element is open
  abbrev pub ClosesWhole : Document E → TreeEvent E → Type 0
  ClosesWhole d (starts e) = Unit {0}
  ClosesWhole d ends = Unit {0}
  ClosesWhole d (says s) = Unit {0}
  ClosesWhole d (instructs target content) = Unit {0}
  ClosesWhole d closes = has_open d.content ≡ false

  -- this may come behind these: nothing does behind the close, and no element is open at it
  pub record MayCome (p : List (TreeEvent E)) (h : TreeEvent E) : Type 0 where
    pub not_closed : (tree_of p).is_open ≡ true
    pub whole : ClosesWhole (tree_of p) h

  -- these may come behind others, one by one
  abbrev pub MayAllCome : List (TreeEvent E) → List (TreeEvent E) → Type 0
  MayAllCome p [] = Unit {0}
  MayAllCome p (h ∷ hs) = MayCome p h × MayAllCome (p ++ h ∷ []) hs

-- what may become of a result, by where it ends
abbrev pub GrownFrom : Ending → Result → Result → Type 0
GrownFrom done old new = new ≡ old
GrownFrom waits old new = (more : List Built) × (new.built ≡ old.built ++ more)
GrownFrom (stops c) old new = new ≡ old

-- what was built stays, and an end other than a wait is final
abbrev pub IsGrown : Result → Result → Type 0
IsGrown old new = GrownFrom old.ending old new
