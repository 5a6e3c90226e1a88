use Rattle.std.proofs.Common.{◌-◌, leb, length, List, ap, ap₂, sym, ◌∙◌, ℕ}
use Rattle.std.proofs.lemmas.List.{length-take-le}
use Rattle.sx_tree.specs.declared.events.Space.{Space}
use Rattle.sx_events.specs.Place.{Written, ordinary, spaces_of}
use Rattle.sx_events.proofs.Waits.{count-waiting, waits_full}
use Rattle.sx_events.proofs.attributes.Attributes.is_full.Goals as goal

pub returns : goal.returns
returns c = λ attributes wait.
    ap₂ leb (c.saturating_sub-room.ensures ∙ ap (λ (n : ℕ). c.args.most - n) (sym (length-take-le c.args.self.now.count c.args.self.now.lines.items c.args.self.now.within) ∙ ap (λ (ws : List Written). length ws) wait.ordinary)) (c.len.ensures ∙ ap (λ (ss : List Space). length ss) wait.spaces)
    ∙ waits_full c.args.most (length (ordinary attributes)) (length (spaces_of attributes)) (length attributes) (count-waiting attributes)
