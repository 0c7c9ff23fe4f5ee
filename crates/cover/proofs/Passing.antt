-- A set passes the check exactly where it is a strand.
use Rattle.std.proofs.Common.{◌≡◌, ℕ, ◌^◌, ◌<◌, ◌≤◌, true, not, eqb, ltb, leb, List, get_or, is_ok, None, Ok, Err, sym, ap, ◌∙◌, arith}
use Rattle.std.specs.List.{AllByRecursion}
use Rattle.std.proofs.ByRecursion.{All-from_get_or}
use Rattle.std.proofs.lemmas.Bool.{eqb-true, eqb-false, leb-true, leb-false, ltb-false, eq-eqb, ne_eqb, le-leb, lt-leb, le-ltb, and_parts, and_from, not-false, not_from_true, false≢true}
use Rattle.refusal.specs.declared.Refusal.TheVariants.{EmptySet, PlaceOutside, TwoMarks, NotEvenOrNotThin}
use Rattle.net.specs.Lowest.{lowest}
use Rattle.net.specs.Nets.{PetriNet}
use Rattle.refusal.specs.Outcomes.{Outcome, refuse_if, refuse_at, Accepts}
use Rattle.net.specs.Sets.{size, intersection}
use Rattle.net.specs.Strands.{Strand}
use Rattle.net.proofs.Lows.{lowest_none, lowest_when_none}
use Rattle.refusal.proofs.Outcomes.{ok_past_if, ok_past_at}
use Rattle.cover.specs.Checks.{even_at, thin_at, even_and_thin_at, check_outcome, Checked}

module _ (n : PetriNet) (s : ℕ) where
  -- the chain of tests, from the second, the third and the fourth on
  abbrev pub at_transitions : Outcome
  at_transitions = refuse_at (lowest n.transitions (λ t. not (even_and_thin_at n s t))) NotEvenOrNotThin (Ok tt)

  abbrev at_marks : Outcome
  at_marks = refuse_if (ltb 1 (size (intersection n.marks s))) TwoMarks at_transitions

  abbrev at_places : Outcome
  at_places = refuse_if (leb (2 ^ n.places) s) PlaceOutside at_marks

  pub passes_strand : is_ok (check_outcome n s) ≡ true → Strand n s
  passes_strand e =
      let (some, e1) = ok_past_if (eqb s 0) EmptySet at_places e in
      let (within, e2) = ok_past_if (leb (2 ^ n.places) s) PlaceOutside at_marks e1 in
      let (marks, e3) = ok_past_if (ltb 1 (size (intersection n.marks s))) TwoMarks at_transitions e2 in
      let (none, e4) = ok_past_at (lowest n.transitions (λ t. not (even_and_thin_at n s t))) NotEvenOrNotThin (Ok tt) e3 in
      let each : (t : ℕ) → t < n.transitions → (even_at n s t ≡ true) × (thin_at n s t ≡ true) =
      λ t lt. and_parts (even_at n s t) (thin_at n s t) (not-false (even_and_thin_at n s t) (lowest_none n.transitions (λ u. not (even_and_thin_at n s u)) none t lt)) in
      let ne = eqb-false s 0 some in
      record {
        some = omega arith;
        within = leb-false (2 ^ n.places) s within;
        thin = record {
          one_mark = ltb-false 1 (size (intersection n.marks s)) marks;
          at_each = λ t lt.
              let parts = and_parts (leb (size (intersection (n.takes t) s)) 1) (leb (size (intersection (n.gives t) s)) 1) (each t lt).1 in
              record { takes_one = leb-true _ 1 parts.0; gives_one = leb-true _ 1 parts.1 };
        };
        even = λ t lt. eqb-true _ _ (each t lt).0;
      }

  -- the first three tests passed
  pub past_the_marks : (s ≡ 0 → ⊥) → s < 2 ^ n.places → size (intersection n.marks s) ≤ 1 → check_outcome n s ≡ at_transitions
  past_the_marks some within marks =
      ap (λ b. refuse_if b EmptySet at_places) (ne_eqb s 0 some)
      ∙ ap (λ b. refuse_if b PlaceOutside at_marks) (lt-leb (2 ^ n.places) s within)
      ∙ ap (λ b. refuse_if b TwoMarks at_transitions) (le-ltb 1 (size (intersection n.marks s)) marks)

  pub strand_passes : Strand n s → check_outcome n s ≡ Ok tt
  strand_passes strand =
      let some = strand.some in
      let none : lowest n.transitions (λ t. not (even_and_thin_at n s t)) ≡ None =
      lowest_when_none n.transitions (λ t. not (even_and_thin_at n s t)) (λ t lt.
      let thin = strand.thin.at_each t lt in
      not_from_true (even_and_thin_at n s t) (and_from _ _ (eq-eqb _ _ (strand.even t lt)) (and_from _ _ (le-leb _ 1 thin.takes_one) (le-leb _ 1 thin.gives_one)))) in
      past_the_marks (λ e. omega arith) strand.within strand.thin.one_mark ∙ ap (λ o. refuse_at o NotEvenOrNotThin (Ok tt)) none

  -- an answer of the check, as a fact
  pub strand_cases : (r : Outcome) → r ≡ check_outcome n s → Accepts r (Strand n s)
  strand_cases (Ok x) e = passes_strand (sym (ap is_ok e))
  strand_cases (Err why) e = λ strand. false≢true (ap is_ok (e ∙ strand_passes strand))

-- sets that pass are strands
pub checked_strands : (n : PetriNet) (ss : List ℕ) → Checked n ss → AllByRecursion (Strand n) ss
checked_strands n ss checked = All-from_get_or (Strand n) ss 0 (λ k lt. passes_strand n (get_or ss k 0) (checked k lt))
