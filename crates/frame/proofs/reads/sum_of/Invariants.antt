use Rattle.std.proofs.Common.{◌≡◌, ◌+◌, ◌%◌, ◌<◌, length, sum}
use Rattle.frame.specs.Digits.{all_digits, bytes_of}
use Rattle.frame.proofs.reads.sum_of.Given as goal

abbrev pub invariant-loop-rest : goal.invariant-loop-rest
invariant-loop-rest l =
    (all_digits l.rest ≡ all_digits l.digits)
    × (length l.rest % 2 ≡ length l.digits % 2)
    × (l.sum < 256)
    × ((l.sum + sum (bytes_of l.rest)) % 256 ≡ sum (bytes_of l.digits) % 256)

abbrev pub decreases-loop-rest : goal.decreases-loop-rest
decreases-loop-rest l = length l.rest
