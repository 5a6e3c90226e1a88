use Rattle.std.proofs.Common.{◌≡◌, ◌≤◌, ◌∙◌, ℕ, List, ap, sym, subst, length, arith}
use Rattle.sx_esis.specs.Buffered.{taken_line}
use Rattle.sx_esis.specs.Forms.{Fits, says_with, text_start}
use Rattle.sx_esis.specs.Lines.{line_of}
use Rattle.sx_esis.proofs.FormLemmas.{line_read}
use Rattle.sx_esis.proofs.reader.read_line.Goals as goal

pub returns-in_ok-unescape_line-clause-ok : goal.returns-in_ok-unescape_line-clause-ok
returns-in_ok-unescape_line-clause-ok c =
    let form = c.in_ok-form.form in
    let old = taken_line c.args.buffer.now in
    let same = c.line-2.ensures in
    let short : length old ≤ c.args.limit = let most = c.if-line-limit.false in omega (arith, ap length c.line.ensures) in
    let says : line_of old ≡ says_with form old (text_start form) = subst (λ (s : List ℕ). line_of s ≡ says_with form s (text_start form)) same c.in_ok-form.ensures.ok.0 in
    line_read form old (taken_line c.unescape_line.new.self) c.args.limit c.in-Some.start short says (subst (Fits form) same c.in_ok-form.ensures.ok.1) (sym c.text_start.ensures ∙ c.in-Some.is)
    c.in_ok-unescape_line.ensures.ok
