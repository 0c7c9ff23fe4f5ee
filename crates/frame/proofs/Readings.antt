-- The faults of a line, one after another.
use Rattle.std.proofs.Common.{◌≡◌, ℕ, ◌-◌, ◌/◌, ◌%◌, ◌<◌, ◌≤◌, Bool, true, not, ◌||◌, eqb, ltb, List, [], ◌∷◌, length, take, drop, is_some, None, Ok, Err, sum, Result, sym, refl, ap, ◌∙◌, ap₂, arith}
use Rattle.std.proofs.lemmas.List.{take_rest, length-drop, length-take-le}
use Rattle.std.proofs.lemmas.Bool.{ne_eqb, eq-eqb, eqb-false, le-ltb, lt-ltb, not-false}
use Rattle.std.proofs.Math.Bool.{or-true}
use Rattle.refusal.specs.declared.Refusal.{Refusal}
use Rattle.refusal.specs.declared.Refusal.TheVariants.{Foreign, OddOrShort, WrongCheck, UnknownKind}
use Rattle.refusal.specs.Outcomes.{Outcome, refuse_if, Tells}
use Rattle.refusal.proofs.Outcomes.{refuse_applies, refuse_passed, accepted_past_if, tells_same}
use Rattle.frame.specs.Digits.{all_digits, bytes_of}
use Rattle.frame.specs.Kinds.{payload_length}
use Rattle.frame.specs.Lines.{kind_in, check_kind, check_digits}
use Rattle.frame.specs.declared.frames.Frame.{Frame}
use Rattle.frame.specs.Frames.{kind_of, digits_of, place_of, DigitsRead}

-- digits, an even number of them and at least four
abbrev pub Paired : List ℕ → Type 0
Paired ds = (all_digits ds ≡ true) × (length ds % 2 ≡ 0) × (4 ≤ length ds)

module _ (ds : List ℕ) (paired : Paired ds) where
  abbrev kind_checked : Outcome
  kind_checked = check_kind (kind_in ds) (length (bytes_of ds) - 2) (Ok tt)

  abbrev wrong : Bool
  wrong = not (eqb (sum (bytes_of ds) % 256) 0)

  abbrev odd_or_short : Bool
  odd_or_short = eqb (length ds % 2) 1 || ltb (length ds) 4

  comes_to_check : check_digits ds ≡ refuse_if wrong WrongCheck kind_checked
  comes_to_check =
      refuse_passed (not (all_digits ds)) Foreign (refuse_if odd_or_short OddOrShort (refuse_if wrong WrongCheck kind_checked)) (ap not paired.0)
      ∙ refuse_passed odd_or_short OddOrShort (refuse_if wrong WrongCheck kind_checked) (ap₂ ◌||◌ (ne_eqb _ 1 (λ e. omega arith)) (le-ltb _ _ paired.2))

  pub wrong_check : (sum (bytes_of ds) % 256 ≡ 0 → ⊥) → check_digits ds ≡ Err WrongCheck
  wrong_check ne = comes_to_check ∙ refuse_applies wrong WrongCheck kind_checked (ap not (ne_eqb _ 0 ne))

  pub right_check : sum (bytes_of ds) % 256 ≡ 0 → check_digits ds ≡ kind_checked
  right_check e = comes_to_check ∙ refuse_passed wrong WrongCheck kind_checked (ap not (eq-eqb _ 0 e))

pub too_few : (ds : List ℕ) → all_digits ds ≡ true → length ds < 4 → check_digits ds ≡ Err OddOrShort
too_few ds digits few =
    refuse_passed (not (all_digits ds)) Foreign _ (ap not digits)
    ∙ refuse_applies _ OddOrShort _ (ap (λ b. eqb (length ds % 2) 1 || b) (lt-ltb (length ds) 4 few) ∙ or-true (eqb (length ds % 2) 1))

pub unknown_kind : (ds : List ℕ) → Paired ds → sum (bytes_of ds) % 256 ≡ 0 → payload_length (kind_in ds) ≡ None → check_digits ds ≡ Err UnknownKind
unknown_kind ds paired right none = right_check ds paired right ∙ refuse_applies (not (is_some (payload_length (kind_in ds)))) UnknownKind _ (ap (λ o. not (is_some o)) none)

pub length_bytes : (ds : List ℕ) → length (bytes_of ds) ≡ length ds / 2
length_bytes [] = refl
length_bytes (a ∷ []) = refl
length_bytes (a ∷ (b ∷ cs)) = let h = length_bytes cs in omega arith

-- what a sum over digits says of them
pub sum_passes : (ds : List ℕ) → refuse_if (not (all_digits ds)) Foreign (refuse_if (eqb (length ds % 2) 1) OddOrShort (Ok tt)) ≡ Ok tt → (all_digits ds ≡ true) × (length ds % 2 ≡ 0)
sum_passes ds none =
    let (digits, later) = accepted_past_if (not (all_digits ds)) Foreign (refuse_if (eqb (length ds % 2) 1) OddOrShort (Ok tt)) none in
    let (even, last) = accepted_past_if (eqb (length ds % 2) 1) OddOrShort (Ok tt) later in
    let ne : length ds % 2 ≡ 1 → ⊥ = eqb-false _ 1 even in
    (not-false (all_digits ds) digits, omega arith)

-- the payload lies between two digits and two digits
pub middle : (ds : List ℕ) → take (length (take (length ds - 2) (drop 2 ds)) - 2) (take (length ds - 2) (drop 2 ds)) ≡ take (length ds - 4) (drop 2 ds)
middle ds =
    let shorter : length (drop 2 ds) - 2 ≡ length ds - 4 = omega (arith, length-drop 2 ds) in
    ap (λ l. take (length l - 2) l) (take_rest ds 2) ∙ ap (λ n. take n (drop 2 ds)) shorter

-- what a kind and a payload are taken for is what the digits are read as
pub reads_digits : (ds payload : List ℕ) (place kind : ℕ) (r : Result Frame Refusal) → Paired ds → sum (bytes_of ds) % 256 ≡ 0 → kind ≡ kind_in ds → payload ≡ take (length ds - 4) (drop 2 ds)
    → Tells (check_kind kind (length payload / 2) (Ok tt)) r (λ f. (kind_of f ≡ kind) × (digits_of f ≡ payload) × (place_of f ≡ place)) (Unit {0})
    → DigitsRead ds place r
reads_digits ds payload place kind r paired right first is told =
    let long : length (take (length ds - 4) (drop 2 ds)) ≡ length ds - 4 = length-take-le (length ds - 4) (drop 2 ds) (omega (arith, length-drop 2 ds)) in
    let bytes : length payload / 2 ≡ length (bytes_of ds) - 2 = omega (arith, ap length is, length_bytes ds) in
    tells_same (check_kind kind (length payload / 2) (Ok tt)) (check_digits ds) r
    (λ f. (kind_of f ≡ kind) × (digits_of f ≡ payload) × (place_of f ≡ place))
    (λ f. (kind_of f ≡ kind_in ds) × (digits_of f ≡ take (length ds - 4) (drop 2 ds)) × (place_of f ≡ place)) (Unit {0})
    (ap₂ (λ k n. check_kind k n (Ok tt)) first bytes ∙ sym (right_check ds paired right)) (λ f (k, d, p). (k ∙ first, d ∙ is, p)) told
