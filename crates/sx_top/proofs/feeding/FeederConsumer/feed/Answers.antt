use Rattle.std.proofs.lemmas.Result.{on_ok_weaker}
use Rattle.sx_top.proofs.feeding.FeederConsumer.feed.Goals as goal

pub returns-clause-fed : goal.returns-clause-fed
returns-clause-fed g c =
    on_ok_weaker c.take_bytes.result
    (λ next written outcome b w f. record { meaning = f.meaning; writes = f.writes; ends_at = f.ends_at; stands = next f.meaning b w f.stands }) c.take_bytes.ensures.stands
