-- What a frame holds of the line that it was read from.
--   numbered     the byte of a kind, and 0 for none
--   kind_of      its kind byte
--   digits_of    the digits of its payload, a part of the line
--   place_of     the place of the line in the input
--   DigitsRead   what digits at a place are read as: refused by the first fault in them, or else a frame of their kind, with the digits
--                between those of the kind and of the check byte
--   Reads        what a line is read as
--   payload_of   the bytes of a frame's payload
--   ReadsAs      every reading of the line gives the frame of a kind and a payload, whatever the place
use Rattle.std.specs.Prelude.{◌≡◌, ℕ, ◌+◌, ◌-◌, List, length, take, drop, Some, None, Option, Result, MatchResult}
use Rattle.refusal.specs.declared.Refusal.{Refusal}
use Rattle.refusal.specs.Outcomes.{Tells}
use Rattle.frame.specs.Digits.{bytes_of}
use Rattle.frame.specs.Lines.{digits_in, kind_in, check_digits}
use Rattle.frame.specs.declared.kinds.Kind.{Kind}
use Rattle.frame.specs.Kinds.{byte_of}
use Rattle.frame.specs.declared.frames.Frame.{Frame}
use Rattle.frame.specs.declared.frames.Frame.TheVariants.{Draw, Arcs, Propose, Search, Certify, Fire, Signal, Halt, Resume, Home, Answer}

-- the byte of a kind, and 0 for none
abbrev pub numbered : Option Kind → ℕ
numbered None = 0
numbered (Some kind) = byte_of kind

abbrev pub kind_of : Frame → ℕ
kind_of (Draw p) = 1
kind_of (Arcs p) = 2
kind_of (Propose p) = 3
kind_of (Search p) = 4
kind_of (Certify p) = 5
kind_of (Fire p) = 6
kind_of (Signal p) = 7
kind_of (Halt p) = 8
kind_of (Resume p) = 9
kind_of (Home p) = 10
kind_of (Answer to p) = 128 + numbered to

abbrev pub digits_of : Frame → List ℕ
digits_of (Draw p) = p.digits.now
digits_of (Arcs p) = p.digits.now
digits_of (Propose p) = p.digits.now
digits_of (Search p) = p.digits.now
digits_of (Certify p) = p.digits.now
digits_of (Fire p) = p.digits.now
digits_of (Signal p) = p.digits.now
digits_of (Halt p) = p.digits.now
digits_of (Resume p) = p.digits.now
digits_of (Home p) = p.digits.now
digits_of (Answer to p) = p.digits.now

abbrev pub place_of : Frame → ℕ
place_of (Draw p) = p.place
place_of (Arcs p) = p.place
place_of (Propose p) = p.place
place_of (Search p) = p.place
place_of (Certify p) = p.place
place_of (Fire p) = p.place
place_of (Signal p) = p.place
place_of (Halt p) = p.place
place_of (Resume p) = p.place
place_of (Home p) = p.place
place_of (Answer to p) = p.place

abbrev pub DigitsRead : List ℕ → ℕ → Result Frame Refusal → Type 0
DigitsRead ds place r = Tells (check_digits ds) r (λ f. (kind_of f ≡ kind_in ds) × (digits_of f ≡ take (length ds - 4) (drop 2 ds)) × (place_of f ≡ place)) (Unit {0})

abbrev pub Reads : List ℕ → ℕ → Result Frame Refusal → Type 0
Reads line place r = DigitsRead (digits_in line) place r

abbrev pub payload_of : Frame → List ℕ
payload_of f = bytes_of (digits_of f)

abbrev pub ReadsAs : List ℕ → ℕ → List ℕ → Type 0
ReadsAs line kind payload = (place : ℕ) (r : Result Frame Refusal) → Reads line place r → MatchResult r (λ f. (kind_of f ≡ kind) × (payload_of f ≡ payload) × (place_of f ≡ place)) (λ _. ⊥)
