-- The answer to a line.
--   asked_by      the kind of line that asks for something; no kind asks for an answer
--   set_bytes     a set as 8 bytes, the highest first
--   answer_line   the answer to a line of a kind, or of none: its result, its detail and the lit set, as a line
--   ReadsAnswer   every reading of the line gives that answer
use Rattle.std.specs.Prelude.{◌≡◌, ℕ, ◌+◌, ◌/◌, ◌%◌, List, [], ◌∷◌, Some, None, Option, Result, MatchResult}
use Rattle.refusal.specs.declared.Refusal.{Refusal}
use Rattle.frame.specs.Frames.{numbered, kind_of, payload_of, Reads}
use Rattle.frame.specs.Lines.{line_of}
use Rattle.frame.specs.Requests.{request_of}
use Rattle.frame.specs.declared.frames.Frame.{Frame}
use Rattle.frame.specs.declared.kinds.Kind.{Kind}
use Rattle.frame.specs.declared.kinds.Kind.TheVariants as kind
use Rattle.frame.specs.declared.requests.Request.{Request}
use Rattle.frame.specs.declared.requests.Request.TheVariants.{Draw, Arcs, Propose, Search, Certify, Fire, Signal, Halt, Resume, Home, Answer}

abbrev pub asked_by : Request → Option Kind
asked_by (Draw places transitions marks) = Some kind.Draw
asked_by (Arcs transition taken given) = Some kind.Arcs
asked_by (Propose set) = Some kind.Propose
asked_by Search = Some kind.Search
asked_by Certify = Some kind.Certify
asked_by (Fire transition) = Some kind.Fire
asked_by (Signal channel event) = Some kind.Signal
asked_by Halt = Some kind.Halt
asked_by Resume = Some kind.Resume
asked_by Home = Some kind.Home
asked_by (Answer to result detail lit) = None

unfoldable pub set_bytes : ℕ → List ℕ
set_bytes s =
    (s / 72057594037927936 % 256) ∷ (s / 281474976710656 % 256) ∷ (s / 1099511627776 % 256) ∷ (s / 4294967296 % 256)
    ∷ (s / 16777216 % 256) ∷ (s / 65536 % 256) ∷ (s / 256 % 256) ∷ (s % 256) ∷ []

unfoldable pub answer_line : Option Kind → ℕ → ℕ → ℕ → List ℕ
answer_line to result detail lit = line_of (128 + numbered to) (result ∷ (detail ∷ set_bytes lit))

abbrev pub ReadsAnswer : List ℕ → Option Kind → ℕ → ℕ → ℕ → Type 0
ReadsAnswer line to result detail lit = (place : ℕ) (r : Result Frame Refusal) → Reads line place r → MatchResult r (λ f. request_of (kind_of f) (payload_of f) ≡ Answer to result detail lit) (λ _. ⊥)
