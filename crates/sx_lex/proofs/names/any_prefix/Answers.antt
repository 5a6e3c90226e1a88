use Rattle.std.proofs.Common.{ℕ, List, subst, drop, arith}
use Rattle.std.proofs.lemmas.Str.{IsCharBoundary-after_ascii}
use Rattle.sx_chars.specs.Names.{is_ncname}
use Rattle.sx_lex.specs.Fronts.{IsTextFront}
use Rattle.sx_lex.proofs.Colons.{two_within, asterisk_token, any_prefix_token}
use Rattle.sx_lex.proofs.names.any_prefix.Goals as goal

pub range_from-requires : goal.range_from-requires
range_from-requires c = λ _. IsCharBoundary-after_ascii c.args.text.now 1 c.utf8.text (let two = two_within c.args.text.now c.requires.colon in omega arith) (let e = c.requires.colon in omega arith)

pub returns-in-0 : goal.returns-in-0
returns-in-0 c =
    let s = c.args.text.now in
    let local = subst (λ (t : List ℕ). IsTextFront is_ncname t c.ncname_size.result) c.range_from.ensures.value c.ncname_size.ensures in
    let none : IsTextFront is_ncname (drop 2 s) 0 = subst (λ (k : ℕ). IsTextFront is_ncname (drop 2 s) k) (let e = c.in-0.is in omega arith) local in
    asterisk_token s c.utf8.text c.requires.star c.requires.colon none

pub returns-in_default : goal.returns-in_default
returns-in_default c =
    let s = c.args.text.now in
    let local = subst (λ (t : List ℕ). IsTextFront is_ncname t c.ncname_size.result) c.range_from.ensures.value c.ncname_size.ensures in
    any_prefix_token s c.ncname_size.result c.utf8.text c.requires.star c.requires.colon local (let other = c.in_default in omega arith)
