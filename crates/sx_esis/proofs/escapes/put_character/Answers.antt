use Rattle.std.proofs.Common.{◌+◌, ◌-◌, length, drop, arith, length-take, length-drop}
use Rattle.std.proofs.lemmas.Slice.{drop-put_mid}
use Rattle.sx_esis.proofs.escapes.put_character.Goals as goal

pub returns-clause-rest : goal.returns-clause-rest
returns-clause-rest c =
    let bytes = c.args.bytes.now in
    let place = c.args.written in
    let count = length c.encode_utf8-text.result.now in
    let room = c.requires in
    let encoded = c.encode_utf8-text.ensures.len in
    let written = c.copy_from_slice.ensures.len in
    drop-put_mid place (place + count - place) bytes c.copy_from_slice.new.self (place + count) (omega arith) (omega arith)
    (omega (arith, length-take (place + count - place) (drop place bytes), length-drop place bytes))
