use Rattle.std.proofs.Common.{string_bytes}
use Rattle.sx_fn_text.proofs.Prints.{one_more, space_and_one}
use Rattle.sx_fn_text.proofs.pieces.append.Goals as goal

pub returns-in_ok-push : goal.returns-in_ok-push
returns-in_ok-push c =
    rw c.if-apart.true (space_and_one c.push-then-apart.result (string_bytes c.push-then-apart.new.self) (string_bytes c.push.new.self) (string_bytes c.args.out.now) c.args.c
    c.in_ok-push.ensures.bytes c.push-then-apart.ensures.bytes)

pub returns-else-apart : goal.returns-else-apart
returns-else-apart c =
    rw c.if-apart.false (one_more c.push-else-apart.result (string_bytes c.push-else-apart.new.self) (string_bytes c.args.out.now) c.args.c c.push-else-apart.ensures.bytes)
