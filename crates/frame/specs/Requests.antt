-- What a line says, by its kind and its payload.
--   number_from  the number that so many bytes make, from a place on, the highest first
--   set_at       a set: 8 bytes
--   request_of   the fields of a line, in their order: each one byte but for the sets
use Rattle.std.specs.Prelude.{ℕ, zero, suc, ◌+◌, ◌-◌, ◌*◌, cond, List, ◌==◌, slice_index}
use Rattle.frame.specs.Kinds.{kind_from}
use Rattle.frame.specs.declared.requests.Request.{Request}
use Rattle.frame.specs.declared.requests.Request.TheVariants.{Draw, Arcs, Propose, Search, Certify, Fire, Signal, Halt, Resume, Home, Answer}

unfoldable pub number_from : ℕ → List ℕ → ℕ → ℕ
number_from zero bytes at = 0
number_from (suc n) bytes at = number_from n bytes at * 256 + slice_index bytes (at + n)

abbrev pub set_at : List ℕ → ℕ → ℕ
set_at bytes at = number_from 8 bytes at

abbrev pub request_of : ℕ → List ℕ → Request
request_of kind bytes =
    cond (kind == 1) (Draw (slice_index bytes 0) (slice_index bytes 1) (set_at bytes 2))
    (cond (kind == 2) (Arcs (slice_index bytes 0) (set_at bytes 1) (set_at bytes 9))
    (cond (kind == 3) (Propose (set_at bytes 0))
    (cond (kind == 4) Search
    (cond (kind == 5) Certify
    (cond (kind == 6) (Fire (slice_index bytes 0))
    (cond (kind == 7) (Signal (slice_index bytes 0) (slice_index bytes 1))
    (cond (kind == 8) Halt
    (cond (kind == 9) Resume
    (cond (kind == 10) Home
    (Answer (kind_from (kind - 128)) (slice_index bytes 0) (slice_index bytes 1) (set_at bytes 2)))))))))))
