use Rattle.std.proofs.lemmas.Result.{on_ok_weaker}
use Rattle.sx_build.proofs.Requests.{text_taken}
use Rattle.sx_build.proofs.builder.Builder.take_text.Goals as goal

pub returns-clause-keeps : goal.returns-clause-keeps
returns-clause-keeps c =
    on_ok_weaker c.take_event.result
    (λ step os held behind_atom fixed s.
    text_taken os held c.args.is_atom fixed c.args.text c.as_str.result.now c.take_event.new.self c.as_str.ensures c.if-is_empty.ensures (step os held behind_atom fixed s))
    c.take_event.ensures.keeps
