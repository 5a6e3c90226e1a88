-- The node that begins with an event.
use Rattle.std.specs.Prelude.{ℕ, suc, Bool, true, false, length, Option, Some, None}
use Rattle.std.specs.Option.{option_map_or}
use Rattle.sx_tree.specs.Events.{Element}
use Rattle.sx_tree.specs.Places.{Content, element, text, instruction}
use Rattle.sx_tree.specs.Tree.{TreeEvent, starts, ends, says, instructs, closes}
use Rattle.sx_tree.specs.TreeView.{attributes_of}

-- the node, if one begins
abbrev pub begun : TreeEvent Element → Option Content
begun (starts e) = Some (element e)
begun ends = None
begun (says s) = Some (text s)
begun (instructs target content) = Some (instruction target content)
begun closes = None

-- whether more may come in it
abbrev pub begins_open : TreeEvent Element → Bool
begins_open (starts e) = true
begins_open ends = false
begins_open (says s) = false
begins_open (instructs target content) = false
begins_open closes = false

-- how many nodes begin, an element's attributes among them
abbrev pub begun_count : TreeEvent Element → ℕ
begun_count h = option_map_or (λ c. suc (length (attributes_of c))) (begun h) 0
