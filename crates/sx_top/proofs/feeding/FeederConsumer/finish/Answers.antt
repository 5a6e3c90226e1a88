use Rattle.std.proofs.lemmas.Result.{on_ok_weaker}
use Rattle.sx_top.proofs.feeding.FeederConsumer.finish.Goals as goal

pub returns-clause-ended : goal.returns-clause-ended
returns-clause-ended g c =
    on_ok_weaker c.end_input.result
    (λ next written outcome b w f. record { meaning = f.meaning; writes = f.writes; ends_at = f.ends_at; stands = next f.meaning b w f.stands }) c.end_input.ensures.stands
