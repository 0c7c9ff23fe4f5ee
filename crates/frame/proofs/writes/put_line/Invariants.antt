use Rattle.std.proofs.Common.{◌≡◌, ◌+◌, ◌*◌, ◌%◌, ◌<◌, ◌∷◌, ◌++◌, take, drop, sum}
use Rattle.frame.specs.Digits.{hex_of}
use Rattle.frame.proofs.writes.put_line.Given as goal

abbrev pub invariant-loop-i : goal.invariant-loop-i
invariant-loop-i l =
    (l.memory ≡ hex_of (l.kind ∷ take l.i l.payload) ++ drop (2 * l.i + 2) l.initial.memory)
    × (l.sum < 256)
    × (l.sum ≡ sum (l.kind ∷ take l.i l.payload) % 256)
