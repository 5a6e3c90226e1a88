use Rattle.std.proofs.Common.{rules, ◌==◌, Ok, ℕ, ◌∙◌}
use Rattle.std.specs.List.{position}
use Rattle.std.specs.Str.{chars}
use Rattle.std.proofs.lemmas.Iterator.{YieldsList-from_chars, text_from_collect}
use Rattle.std.proofs.lemmas.Iterator.Consumers.{YieldsList-at, YieldsList-from_filter_map}
use Rattle.sx_fn_text.specs.Characters.{partner}
use Rattle.sx_fn_text.proofs.characters.translated.Goals as goal

pub returns : goal.returns
returns c =
    let become = λ (d : ℕ). partner d (chars c.args.t.now) (position (λ e. e == d) (chars c.args.m.now)) in
    let source = YieldsList-at c.filter_map.ensures.source (YieldsList-from_chars c.args.s.now c.utf8.s c.chars.ensures.rest) in
    c.from_string.ensures
    ∙ text_from_collect {E = ℕ} (Ok c.in_ok-text.text) c.in_ok-text.ensures.ran
    (YieldsList-from_filter_map _ become source c.filter_map.ensures.closure (λ x r q k. search rules))
