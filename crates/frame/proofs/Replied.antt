-- The answer to a line, written and read again.
use Rattle.std.proofs.Common.{◌≡◌, ℕ, ◌+◌, ◌*◌, ◌^◌, ◌<◌, List, [], ◌∷◌, ◌++◌, length, get_or, drop, Some, None, Ok, Err, Option, Result, refl, ap, ◌∙◌, ap₂, append-nil, arith, MatchResult}
use Rattle.std.proofs.lemmas.List.{drop_all}
use Rattle.refusal.specs.declared.Refusal.{Refusal}
use Rattle.frame.specs.Frames.{numbered, kind_of, payload_of, place_of}
use Rattle.frame.specs.Lines.{line_of, check_kind}
use Rattle.frame.specs.Replies.{set_bytes, answer_line, ReadsAnswer}
use Rattle.frame.specs.Requests.{number_from, set_at, request_of}
use Rattle.frame.specs.declared.frames.Frame.{Frame}
use Rattle.frame.specs.declared.kinds.Kind.{Kind}
use Rattle.frame.specs.declared.kinds.Kind.TheVariants as kind
use Rattle.frame.specs.declared.requests.Request.TheVariants.{Answer}
use Rattle.frame.proofs.Again.{written_reads}
use Rattle.frame.proofs.Rounds.{Bytes}

-- the payload of an answer
abbrev pub payload : ℕ → ℕ → ℕ → List ℕ
payload result detail lit = result ∷ (detail ∷ set_bytes lit)

pub answer_is : (to : Option Kind) (result detail lit : ℕ) → line_of (128 + numbered to) (payload result detail lit) ≡ answer_line to result detail lit
unfolding answer_line
answer_is to result detail lit = refl

pub payload_long : (result detail lit : ℕ) → length (payload result detail lit) ≡ 10
unfolding set_bytes
payload_long result detail lit = refl

-- a set written and read is the same again
set_again : (result detail s : ℕ) → s < 2 ^ 64 → set_at (payload result detail s) 2 ≡ s
unfolding set_bytes number_from
set_again result detail s small = omega arith

payload_bytes : (result detail lit : ℕ) → result < 256 → detail < 256 → Bytes (payload result detail lit)
unfolding set_bytes
payload_bytes result detail lit r d = (r, (d, (omega arith, (omega arith, (omega arith, (omega arith, (omega arith, (omega arith, (omega arith, (omega arith, tt))))))))))

answer_byte_small : (to : Option Kind) → 128 + numbered to < 256
answer_byte_small to = grind arith

-- an answer has a kind, and ten bytes
answer_fits : (to : Option Kind) → check_kind (128 + numbered to) 10 (Ok tt) ≡ Ok tt
answer_fits None = refl
answer_fits (Some kind.Draw) = refl
answer_fits (Some kind.Arcs) = refl
answer_fits (Some kind.Propose) = refl
answer_fits (Some kind.Search) = refl
answer_fits (Some kind.Certify) = refl
answer_fits (Some kind.Fire) = refl
answer_fits (Some kind.Signal) = refl
answer_fits (Some kind.Halt) = refl
answer_fits (Some kind.Resume) = refl
answer_fits (Some kind.Home) = refl

answer_says : (to : Option Kind) (bytes : List ℕ) → request_of (128 + numbered to) bytes ≡ Answer to (get_or bytes 0 0) (get_or bytes 1 0) (set_at bytes 2)
answer_says None bytes = refl
answer_says (Some kind.Draw) bytes = refl
answer_says (Some kind.Arcs) bytes = refl
answer_says (Some kind.Propose) bytes = refl
answer_says (Some kind.Search) bytes = refl
answer_says (Some kind.Certify) bytes = refl
answer_says (Some kind.Fire) bytes = refl
answer_says (Some kind.Signal) bytes = refl
answer_says (Some kind.Halt) bytes = refl
answer_says (Some kind.Resume) bytes = refl
answer_says (Some kind.Home) bytes = refl

pub answer_reads : (to : Option Kind) (result detail lit : ℕ) → result < 256 → detail < 256 → lit < 2 ^ 64 → ReadsAnswer (line_of (128 + numbered to) (payload result detail lit)) to result detail lit
answer_reads to result detail lit r d l place read reading =
    says read (written_reads (128 + numbered to) (payload result detail lit) (answer_byte_small to) (payload_bytes result detail lit r d)
    (ap (λ n. check_kind (128 + numbered to) n (Ok tt)) (payload_long result detail lit) ∙ answer_fits to) place read reading)
  where
    says : (read : Result Frame Refusal) → MatchResult read (λ f. (kind_of f ≡ 128 + numbered to) × (payload_of f ≡ payload result detail lit) × (place_of f ≡ place)) (λ _. ⊥)
        → MatchResult read (λ f. request_of (kind_of f) (payload_of f) ≡ Answer to result detail lit) (λ _. ⊥)
    says (Ok f) (k, p, at) = ap₂ request_of k p ∙ answer_says to (payload result detail lit) ∙ ap (Answer to result detail) (set_again result detail lit l)
    says (Err why) never = never

-- what memory holds once the line is written into just as much as it takes
pub answer_held : (to : Option Kind) (result detail lit kind : ℕ) (bytes before memory : List ℕ) → kind ≡ 128 + numbered to → bytes ≡ payload result detail lit → length before ≡ 25
    → memory ≡ line_of kind bytes ++ drop (2 * length bytes + 5) before → memory ≡ line_of (128 + numbered to) (payload result detail lit)
answer_held to result detail lit kind bytes before memory k b long is =
    let p = payload result detail lit in
    let past : drop (2 * length p + 5) before ≡ [] = drop_all (2 * length p + 5) before (let l = payload_long result detail lit in omega arith) in
    is ∙ ap₂ (λ x l. line_of x l ++ drop (2 * length l + 5) before) k b ∙ ap (λ l. line_of (128 + numbered to) p ++ l) past ∙ append-nil (line_of (128 + numbered to) p)

-- the payload from the eight bytes of its set
abbrev pub payload_from : ℕ → ℕ → List ℕ → List ℕ
payload_from result detail l =
    result ∷ (detail ∷ (get_or l 0 0 ∷ (get_or l 1 0 ∷ (get_or l 2 0 ∷ (get_or l 3 0 ∷ (get_or l 4 0 ∷ (get_or l 5 0 ∷ (get_or l 6 0 ∷ (get_or l 7 0 ∷ [])))))))))

pub payload_from_set : (result detail lit : ℕ) → payload_from result detail (set_bytes lit) ≡ payload result detail lit
unfolding set_bytes
payload_from_set result detail lit = refl
