-- Items in turn (XPath 3.1, 3.2, 3.3 and 3.14).
use Rattle.std.specs.Prelude.{ℕ, suc, Bool, true, false, List, [], ◌∷◌, length, Option, Some, None, Result, Ok, Err, ℤ}
use Rattle.sx_axes.specs.declared.ends.SelEnd.{SelEnd}
use Rattle.sx_eval.specs.declared.values.Stop.{Stop}
use Rattle.sx_eval.specs.Env.{Focus, focus_at, last_by, last_of}
use Rattle.sx_eval.specs.Items.{Item, Selected, selected, all_of, then_also, end_at, stop_at}

-- what an expression selects at a focus, by the number of the item there
abbrev pub Selecting : Type 0
Selecting = ℕ → Focus → Selected

-- whether a predicate holds at a focus, by the number of the item there
abbrev pub Testing : Type 0
Testing = ℕ → Focus → Result Bool Stop

-- one selection behind another, up to the first that is not done
abbrev pub in_turn : List Selected → Selected
in_turn [] = all_of []
in_turn (s ∷ ss) = then_also s (in_turn ss)

-- at each item from this number on, up to the first end that is not Done, and else to this end
abbrev pub at_each_from : Selecting → Result ℤ Stop → SelEnd → ℕ → List Item → Selected
at_each_from run last end k [] = selected [] end
at_each_from run last end k (x ∷ xs) = then_also (run k (focus_at last k x)) (at_each_from run last end (suc k) xs)

-- What an expression selects at each item of a selection, and then the end of that.
abbrev pub at_each : Selecting → Selected → Selected
at_each run s = at_each_from run (last_of s) s.end 0 s.items

-- ---- predicates

-- the item at which predicates stopped, and why
pub record Halt : Type 0 where
  pub item : Item
  pub stop : Stop

-- the items that passed, where predicates stopped, and the end of what they are taken from
pub record Passed : Type 0 where
  pub items : List Item
  pub halt : Option Halt
  pub end : SelEnd

-- a selection no item of which was tested
abbrev pub untested : Selected → Passed
untested s = record { items = s.items; halt = None; end = s.end }

-- where they end
abbrev pub end_by : Option Halt → SelEnd → SelEnd
end_by None end = end
end_by (Some h) end = end_at h.stop

abbrev pub end_of : Passed → SelEnd
end_of p = end_by p.halt p.end

-- one more item in front, if it passed; or the halt at it
abbrev pub put_tested : Item → Result Bool Stop → Passed → Passed
put_tested x (Ok true) p = record p { items = x ∷ p.items }
put_tested x (Ok false) p = p
put_tested x (Err s) p = record p { items = []; halt = Some (record { item = x; stop = s }) }

-- the items from this number on that pass a test, up to the first at which it stops
abbrev pub tested_from : Testing → Result ℤ Stop → Passed → ℕ → List Item → Passed
tested_from test last p k [] = record p { items = [] }
tested_from test last p k (x ∷ xs) = put_tested x (test k (focus_at last k x)) (tested_from test last p (suc k) xs)

-- those that pass one more predicate
abbrev pub tested : Passed → Testing → Passed
tested p test = tested_from test (last_by (length p.items) (stop_at (end_of p))) p 0 p.items

-- those that pass predicates one after the other
abbrev pub tested_all : Passed → List Testing → Passed
tested_all p [] = p
tested_all p (test ∷ tests) = tested_all (tested p test) tests

-- a selection of those that passed
abbrev pub passed : Passed → Selected
passed p = selected p.items (end_of p)
