use Rattle.std.proofs.Common.{sym, subst}
use Rattle.std.specs.Prelude.{OnOk}
use Rattle.std.proofs.lemmas.Result.{on_ok_weaker}
use Rattle.sx_build.specs.declared.raw.Raw.{Raw}
use Rattle.sx_build.specs.Asked.{asked_at}
use Rattle.sx_build.proofs.Requests.{IsTaken, atom_taken}
use Rattle.sx_build.proofs.builder.Builder.take_next.Goals as goal

pub returns-in-Start-clause-keeps : goal.returns-in-Start-clause-keeps
returns-in-Start-clause-keeps c =
    subst (λ (r : Raw). OnOk c.take_start.result (IsTaken c.args.self.now c.take_start.new.self (asked_at c.args.names.now r))) (sym c.in-Start.is)
    c.take_start.ensures.keeps

pub returns-in-End-clause-keeps : goal.returns-in-End-clause-keeps
returns-in-End-clause-keeps c =
    subst (λ (r : Raw). OnOk c.take_end.result (IsTaken c.args.self.now c.take_end.new.self (asked_at c.args.names.now r))) (sym c.in-End.is)
    c.take_end.ensures.keeps

pub returns-in-Attr-clause-keeps : goal.returns-in-Attr-clause-keeps
returns-in-Attr-clause-keeps c =
    subst (λ (r : Raw). OnOk c.take_attribute.result (IsTaken c.args.self.now c.take_attribute.new.self (asked_at c.args.names.now r))) (sym c.in-Attr.is)
    c.take_attribute.ensures.keeps

pub returns-in-Text-clause-keeps : goal.returns-in-Text-clause-keeps
returns-in-Text-clause-keeps c =
    subst (λ (r : Raw). OnOk c.take_text.result (IsTaken c.args.self.now c.take_text.new.self (asked_at c.args.names.now r))) (sym c.in-Text.is)
    c.take_text.ensures.keeps

pub returns-in-Pi-clause-keeps : goal.returns-in-Pi-clause-keeps
returns-in-Pi-clause-keeps c =
    subst (λ (r : Raw). OnOk c.take_event.result (IsTaken c.args.self.now c.take_event.new.self (asked_at c.args.names.now r))) (sym c.in-Pi.is)
    c.take_event.ensures.keeps

pub returns-in_ok-text-in-Atom-clause-keeps : goal.returns-in_ok-text-in-Atom-clause-keeps
returns-in_ok-text-in-Atom-clause-keeps c =
    subst (λ (r : Raw). OnOk c.take_text-in-Atom.result (IsTaken c.args.self.now c.take_text-in-Atom.new.self (asked_at c.args.names.now r))) (sym c.in-Atom.is)
    (on_ok_weaker c.take_text-in-Atom.result
    (atom_taken c.args.self.now c.take_text-in-Atom.new.self c.in-Atom.text c.in_ok-text-in-Atom.text c.as_str.result.now c.in_ok-text-in-Atom.ensures c.as_str.ensures)
    c.take_text-in-Atom.ensures.keeps)
