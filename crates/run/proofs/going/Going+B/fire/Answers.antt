use Rattle.std.proofs.Common.{Some, None, Err, ap, ◌∙◌, arith}
use Rattle.std.proofs.lemmas.Result.{err_from_is_err_and}
use Rattle.run.proofs.Firings.{fire_unlit, fire_occupied, fire_by_channel, fire_lays}
use Rattle.run.proofs.going.Going+B.fire.Goals as goal

pub returns-in-Some-clause-answer : goal.returns-in-Some-clause-answer
returns-in-Some-clause-answer g c =
    fire_unlit _ _ c.net-net.ensures.held _ _ c.args.transition (omega (arith, c.transitions.ensures)) _ _ c.takes-taken.ensures c.gives-given.ensures c.in-Some.place c.in-Some.ensures

pub returns-in-Some-lowest_with-clause-answer : goal.returns-in-Some-lowest_with-clause-answer
returns-in-Some-lowest_with-clause-answer g c =
    fire_occupied _ _ c.net-net.ensures.held _ _ c.args.transition (omega (arith, c.transitions.ensures)) _ _ c.takes-taken.ensures c.gives-given.ensures c.in-Some-lowest_with.place c.in_default.ensures c.in-Some-lowest_with.ensures

pub returns-in_err-exchange-clause-answer : goal.returns-in_err-exchange-clause-answer
returns-in_err-exchange-clause-answer g c =
    let told = err_from_is_err_and c.from_residual.result c.from_residual.ensures.1 in
    told.1 ∙ ap Err told.2
    ∙ fire_by_channel _ _ c.net-net.ensures.held _ _ c.args.transition (omega (arith, c.transitions.ensures)) _ _ c.takes-taken.ensures c.gives-given.ensures
    (Some c.in_err-exchange.field-0.0.channel) c.in_default.ensures c.in_default-lowest_with.ensures c.in_err-exchange.ensures.0

pub returns-clause-answer : goal.returns-clause-answer
returns-clause-answer g c =
    fire_by_channel _ _ c.net-net.ensures.held _ _ c.args.transition (omega (arith, c.transitions.ensures)) _ _ c.takes-taken.ensures c.gives-given.ensures None c.in_default.ensures c.in_default-lowest_with.ensures c.in_ok-exchange.ensures.0

pub returns-clause-after : goal.returns-clause-after
returns-clause-after g c =
    fire_lays _ _ c.net-net.ensures.held c.args.transition _ _ c.takes-taken.ensures c.gives-given.ensures _ _ _ _ c.in_ok-exchange.ensures.1
