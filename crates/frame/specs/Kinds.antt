-- The kinds of lines.
--   byte_of         the byte of a kind
--   kind_from       the kind of a byte, if it has one
--   name_of         a kind in a few words, in ASCII
--   payload_length  how many bytes the payload of a line has by the byte of its kind, if there is such a kind of line
use Rattle.std.specs.Prelude.{ℕ, cond, ◌&&◌, Some, None, Option, ◌==◌, nat_le, List, codes}
use Rattle.frame.specs.declared.kinds.Kind.{Kind}
use Rattle.frame.specs.declared.kinds.Kind.TheVariants.{Draw, Arcs, Propose, Search, Certify, Fire, Signal, Halt, Resume, Home}

abbrev pub byte_of : Kind → ℕ
byte_of Draw = 1
byte_of Arcs = 2
byte_of Propose = 3
byte_of Search = 4
byte_of Certify = 5
byte_of Fire = 6
byte_of Signal = 7
byte_of Halt = 8
byte_of Resume = 9
byte_of Home = 10

abbrev pub kind_from : ℕ → Option Kind
kind_from b =
    cond (b == 1) (Some Draw)
    (cond (b == 2) (Some Arcs)
    (cond (b == 3) (Some Propose)
    (cond (b == 4) (Some Search)
    (cond (b == 5) (Some Certify)
    (cond (b == 6) (Some Fire)
    (cond (b == 7) (Some Signal)
    (cond (b == 8) (Some Halt)
    (cond (b == 9) (Some Resume)
    (cond (b == 10) (Some Home)
    None)))))))))

abbrev pub name_of : Kind → List ℕ
name_of Draw = codes "draw"
name_of Arcs = codes "arcs"
name_of Propose = codes "propose"
name_of Search = codes "search"
name_of Certify = codes "certify and start"
name_of Fire = codes "fire"
name_of Signal = codes "signal"
name_of Halt = codes "halt"
name_of Resume = codes "resume"
name_of Home = codes "home"

-- a set is 8 bytes, and any other field is one
abbrev pub payload_length : ℕ → Option ℕ
payload_length k =
    cond (k == 1) (Some 10)  -- draw: places, transitions, the set of marks
    (cond (k == 2) (Some 17)  -- arcs: transition, the set taken, the set given
    (cond (k == 3) (Some 8)  -- propose: a set
    (cond (k == 4) (Some 0)  -- search
    (cond (k == 5) (Some 0)  -- certify and start
    (cond (k == 6) (Some 1)  -- fire: transition
    (cond (k == 7) (Some 2)  -- signal: channel, event
    (cond (k == 8) (Some 0)  -- halt
    (cond (k == 9) (Some 0)  -- resume
    (cond (k == 10) (Some 0)  -- home
    (cond (nat_le 128 k && nat_le k 138) (Some 10)  -- an answer: result, detail, the lit set
    None))))))))))
