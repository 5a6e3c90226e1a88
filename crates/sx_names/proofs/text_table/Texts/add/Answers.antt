use Rattle.std.proofs.lemmas.Result.{err_from_is_err_and}
use Rattle.std.proofs.Common.{◌≡◌, ◌+◌, [], ◌∷◌, ◌++◌, length, string_bytes, ap, inr, sym, ◌∙◌, subst, arith}
use Rattle.sx_names.specs.Numbering.{IsDistinct, IsAbsent}
use Rattle.std.proofs.lemmas.List.{length-map}
use Rattle.sx_names.specs.Inside.{texts_of}
use Rattle.sx_names.proofs.Places.{IsDistinct-push}
use Rattle.sx_names.proofs.Search.{added_text}
use Rattle.sx_names.proofs.text_table.Texts.add.Goals as goal

-- the text goes last
grown : (c : goal.In_ok-insert) → texts_of c.insert.new.self.keys ≡ c.args.self.now ++ c.args.text.now ∷ []
grown c =
    let absent = subst (λ texts. IsAbsent texts c.args.text.now) (sym c.self.view_is) c.requires in
    added_text c.args.text.now c.self.inside.others.keys c.insert.new.self.keys c.in_ok-owned.owned c.in_ok-owned.ensures.ok absent c.in_ok-insert.ensures.keys
    ∙ ap (λ texts. texts ++ c.args.text.now ∷ []) c.self.view_is

pub invariant_of-self-2 : goal.invariant_of-self-2
invariant_of-self-2 c = subst IsDistinct (sym (grown c)) (IsDistinct-push c.args.self.now c.args.text.now (subst IsDistinct c.self.view_is c.self.invariant) c.requires)

pub returns : goal.returns
returns c =
    let next : c.len-number.result + 1 ≡ length c.args.self.now = omega (arith, length-map c.self.inside.others.keys (λ s. string_bytes s), ap length c.self.view_is) in
    inr (c.requires, next, grown c)

pub returns-in_err-insert : goal.returns-in_err-insert
returns-in_err-insert c =
    let p = err_from_is_err_and c.from_residual-in_err-insert.result c.from_residual-in_err-insert.ensures.1 in
    rw p.1 (ap texts_of c.in_err-insert.ensures.err ∙ c.self.view_is)
