use Rattle.std.proofs.Common.{◌+◌, ℕ, List, subst, drop, arith}
use Rattle.std.proofs.lemmas.Str.{IsCharBoundary-after_ascii}
use Rattle.sx_chars.specs.Names.{is_ncname}
use Rattle.sx_lex.specs.Fronts.{IsTextFront}
use Rattle.sx_lex.proofs.Colons.{single_token, joined_token}
use Rattle.sx_lex.proofs.names.qname_size.Goals as goal

pub range_from-requires : goal.range_from-requires
range_from-requires c =
    λ _. IsCharBoundary-after_ascii c.args.text.now c.args.prefix c.utf8.text c.requires.within (let e = c.requires.colon in omega arith)

pub returns-in-0 : goal.returns-in-0
returns-in-0 c =
    let s = c.args.text.now in
    let n = c.args.prefix in
    let local = subst (λ (t : List ℕ). IsTextFront is_ncname t c.ncname_size.result) c.range_from.ensures.value c.ncname_size.ensures in
    let none : IsTextFront is_ncname (drop (n + 1) s) 0 = subst (λ (k : ℕ). IsTextFront is_ncname (drop (n + 1) s) k) (let e = c.in-0.is in omega arith) local in
    single_token s n c.utf8.text c.requires.begins c.requires.front c.requires.some (λ _. none) (λ more _. c.requires.star more)

pub returns-in_default : goal.returns-in_default
returns-in_default c =
    let s = c.args.text.now in
    let n = c.args.prefix in
    let local = subst (λ (t : List ℕ). IsTextFront is_ncname t c.ncname_size.result) c.range_from.ensures.value c.ncname_size.ensures in
    joined_token s n c.ncname_size.result c.utf8.text c.requires.begins c.requires.front c.requires.some c.requires.within c.requires.colon local (let other = c.in_default in omega arith)
