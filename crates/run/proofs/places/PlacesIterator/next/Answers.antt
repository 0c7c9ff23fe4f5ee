use Rattle.std.proofs.Common.{◌<◌, sym, subst}
use lib.Bits.{bit_and, bit_xor}
use Rattle.run.proofs.Walks.{walk_falls, one_line}
use Rattle.run.proofs.places.PlacesIterator.next.Goals as goal

pub returns-clause-goes : goal.returns-clause-goes
returns-clause-goes c =
    let rest = c.args.self.now.rest in
    let p = c.in_ok-place.place in
    let low = c.in_ok-place.ensures in
    let falls = subst (λ k. bit_xor rest (bit_and rest k) < rest) (sym (one_line p low.0)) (walk_falls rest p low) in
    record { on = λ _. (tt, tt, falls); keeps = tt; rests = λ _. tt }
