-- Names that are lent.
use Rattle.sx_tree.specs.declared.events.Label.{Label}
use Rattle.sx_tree.specs.declared.trees.LabelView.{LabelView}

-- the name
abbrev pub label_of_view : LabelView → Label
label_of_view v = record { number = v.number; prefix = v.prefix.now }
