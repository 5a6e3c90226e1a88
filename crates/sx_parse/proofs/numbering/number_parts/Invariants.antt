use Rattle.std.proofs.Common.{◌≡◌, ◌+◌, ◌++◌, map, reverse, length}
use Rattle.sx_parse.specs.Numbered.{counts, in_order, numbers_in}
use Rattle.sx_parse.proofs.numbering.number_parts.Given as goal

-- what is left is numbered from the next number on
abbrev pub invariant-loop-part : goal.invariant-loop-part
invariant-loop-part l = record {
  exprs : l.done ++ in_order l.outside l.at.next (map numbers_in (reverse l.left)) ≡ in_order l.outside l.fn.at.next (map numbers_in l.fn.parts);
  next : l.at.next + counts l.outside (map numbers_in (reverse l.left)) ≡ l.fn.at.next + counts l.outside (map numbers_in l.fn.parts);
  line : l.at.line ≡ l.fn.at.line;
}

abbrev pub decreases-loop-part : goal.decreases-loop-part
decreases-loop-part l = length l.left
