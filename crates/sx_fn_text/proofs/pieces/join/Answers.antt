use Rattle.std.proofs.Common.{◌≡◌, ◌+◌, [], ◌∷◌, ◌++◌, map, drop, sym, ap, ◌∙◌, string_bytes}
use Rattle.std.proofs.Math.ListN.{drop_of_length-le}
use Rattle.std.proofs.lemmas.List.{append-nil}
use Rattle.std.proofs.lemmas.Str.{encodes-append}
use Rattle.std.specs.Str.{chars, encode_utf8_all}
use Rattle.sx_fn_text.specs.Calls.{prints_joined}
use Rattle.sx_fn_text.specs.Characters.{separated_behind}
use Rattle.sx_fn_text.proofs.Prints.{print, join_step}
use Rattle.sx_fn_text.proofs.pieces.join.Goals as goal

pub loop-atom-preserved : goal.loop-atom-preserved
loop-atom-preserved c =
    let atom = c.atom-item.result in
    let more = c.in-Some.more.now in
    let separator = c.args.separator.now in
    let rest = encode_utf8_all (separated_behind (chars separator) (map print (drop (c.loop-atom.atom-index + 1) more))) in
    ap (λ l. l ++ rest) (c.in_ok-append_print-2.ensures ∙ ap (λ l. l ++ encode_utf8_all (print atom)) c.in_ok-push_str.ensures.bytes)
    ∙ join_step (string_bytes c.loop-atom.joined) separator more c.loop-atom.atom-index atom c.utf8.separator c.loop-atom-test.true c.atom-item.is
    ∙ c.loop-atom.invariant

pub returns : goal.returns
returns c =
    let first = c.in-Some.first.now in
    let more = c.in-Some.more.now in
    let separator = chars c.args.separator.now in
    let out = string_bytes c.loop-atom.joined in
    let rest = separated_behind separator (map print more) in
    let whole : c.args.atoms.now ≡ first ∷ more = c.in-Some.ensures.cases.0 in
    let none : drop c.loop-atom.atom-index more ≡ [] = drop_of_length-le more c.loop-atom-test.false in
    let begun : string_bytes c.append_print.new.out ≡ encode_utf8_all (print first) =
    c.in_ok-append_print.ensures ∙ ap (λ l. l ++ encode_utf8_all (print first)) c.new-joined.ensures.bytes in
    c.from_string.ensures ∙ sym (append-nil out) ∙ ap (λ l. out ++ encode_utf8_all (separated_behind separator (map print l))) (sym none) ∙ c.loop-atom.invariant
    ∙ ap (λ l. l ++ encode_utf8_all rest) begun ∙ sym (encodes-append (print first) rest) ∙ ap (λ l. encode_utf8_all (prints_joined separator l)) (sym whole)
