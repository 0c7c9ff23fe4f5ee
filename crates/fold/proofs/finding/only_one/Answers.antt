use Rattle.std.proofs.Common.{◌≡◌, ℕ, ◌+◌, ◌-◌, ◌<◌, Bool, true, false, List, [], ◌∷◌, Some, None, Option, sym, ap, ◌∙◌, arith, rules}
use Rattle.std.specs.Iterator.{YieldsThen}
use Rattle.std.specs.declared.ops.Range.{Range}
use Rattle.std.specs.Option.{MatchOption}
use Rattle.std.proofs.lemmas.Iterator.{first_from_Range}
use Rattle.net.specs.Nets.{drawn}
use Rattle.net.specs.Sets.{has}
use Rattle.fold.specs.Fusions.{arcs_on}
use Rattle.fold.proofs.Soles.{only_sole, sole_behind, two_not_sole}
use Rattle.fold.proofs.finding.only_one.Goals as goal

-- how a range of numbers goes on
abbrev steps : Range ℕ → Option ℕ → Range ℕ → Type 0
steps s r t = (t.end ≡ s.end) × MatchOption r ((s.end - s.start ≡ 0) × (t.start ≡ s.start)) (λ x. (0 < s.end - s.start) × (x ≡ s.start) × (t.start ≡ s.start + 1))

-- behind a number that it gave, a range goes on with the next
goes_on : (xs : List ℕ) (s u : Range ℕ) (x : ℕ) → YieldsThen steps s xs (Some x) u → (u.start ≡ x + 1) × (u.end ≡ s.end)
goes_on [] s u x (t, same, (ends, (more, is, next))) = (next ∙ ap (λ k. k + 1) (sym is), ends ∙ sym (ap (λ (k : Range ℕ). k.end) same))
goes_on (y ∷ ys) s u x (t, (m, (ends, step), more), last) = let (next, end) = goes_on ys m u x (t, more, last) in (next, end ∙ ends)

pub returns-in_err-first : goal.returns-in_err-first
returns-in_err-first c =
    let n = drawn c.args.net.now in
    let test : ℕ → Bool = λ t. has (arcs_on n c.args.side t) c.args.place in
    let none = first_from_Range _ _ _ None (λ t. test t ≡ true) (λ t. test t ≡ false) c.in_err-first.ensures.ran (λ t q is. search rules) (λ t q is. search rules) in
    c.from_residual.ensures ∙ only_sole n.transitions test None (λ t lt. none t (omega arith) (omega arith))

pub returns-in-None : goal.returns-in-None
returns-in-None c =
    let n = drawn c.args.net.now in
    let test : ℕ → Bool = λ t. has (arcs_on n c.args.side t) c.args.place in
    let first = first_from_Range _ _ _ (Some c.in_ok-first.first) (λ t. test t ≡ true) (λ t. test t ≡ false) c.in_ok-first.ensures.ran (λ t q is. search rules) (λ t q is. search rules) in
    let on = goes_on _ _ _ _ c.in_ok-first.ensures.ran.2 in
    let none = first_from_Range _ _ _ None (λ t. test t ≡ true) (λ t. test t ≡ false) c.in-None.ensures.ran (λ t q is. search rules) (λ t q is. search rules) in
    sole_behind n.transitions test c.in_ok-first.first (omega arith) first.2 (λ t lt. first.3 t (omega arith) lt) (λ t past lt. none t (omega arith) (omega arith))

pub returns-in-Some : goal.returns-in-Some
returns-in-Some c =
    let n = drawn c.args.net.now in
    let test : ℕ → Bool = λ t. has (arcs_on n c.args.side t) c.args.place in
    let first = first_from_Range _ _ _ (Some c.in_ok-first.first) (λ t. test t ≡ true) (λ t. test t ≡ false) c.in_ok-first.ensures.ran (λ t q is. search rules) (λ t q is. search rules) in
    let on = goes_on _ _ _ _ c.in_ok-first.ensures.ran.2 in
    let second = first_from_Range _ _ _ (Some c.in-Some.field-0) (λ t. test t ≡ true) (λ t. test t ≡ false) c.in-Some.ensures.ran (λ t q is. search rules) (λ t q is. search rules) in
    sym (two_not_sole n.transitions test c.in_ok-first.first c.in-Some.field-0 (omega arith) (omega arith) (λ e. omega arith) first.2 second.2)
