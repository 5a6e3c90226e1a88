use Rattle.sx_top.proofs.laws.copy_is_never_static.Goals as goal

pub returns : goal.returns
returns c = λ document old new s does. does.not_static
