-- What a tree keeps whose nodes are counted.
use Rattle.std.specs.Prelude.{◌≡◌, ◌<◌, ◌^◌}
use Rattle.sx_tree.specs.Copies.{node_count}
use Rattle.sx_tree.specs.OpenTree.{Table}
use Rattle.sx_tree.specs.declared.counted_rows.CountedRows.TheInside.{Inside}

-- what contracts see of it
abbrev pub table_of : Inside → Table
table_of t = record { limit = t.limit; places = t.rows }

-- its number of nodes is that of its rows
pub record IsCounted (t : Inside) : Type 0 where
  pub small : t.limit < 2 ^ 32
  pub count : t.nodes ≡ node_count t.rows.entries
