-- Bare places by their members, one strand more, and room for the next strand.
use Rattle.std.proofs.Common.{◌≡◌, ℕ, zero, suc, ◌+◌, ◌-◌, ◌/◌, ◌%◌, ◌^◌, ◌<◌, ◌≤◌, true, T, eqb, ◌↔◌, List, [], ◌∷◌, ◌++◌, is_ok, Ok, Err, sym, refl, ap, ◌∙◌, subst, inl, inr, ⊎_elim, pow-suc, arith, pow_pos}
use Rattle.std.proofs.lemmas.Nat.{ones-le}
use Rattle.std.proofs.ByRecursion.{All-get_or, All-from_get_or, All-push}
use Rattle.std.proofs.lemmas.Bool.{eqb-false, ne_eqb, false≢true}
use Rattle.refusal.specs.declared.Refusal.TheVariants.{NoBarePlace}
use Rattle.net.specs.Nets.{PetriNet}
use Rattle.refusal.specs.Outcomes.{Outcome, refuse_if, and_then, Accepts}
use Rattle.net.specs.Sets.{has, In, size, intersection, difference}
use Rattle.net.specs.Strands.{Strand, Occurs, Cover}
use Rattle.net.proofs.Bits.{has_first, has_next}
use Rattle.net.proofs.Known.{Known}
use Rattle.net.proofs.Listed.{occurs_here, occurs_later, occurs_cases, occurs_in_none}
use Rattle.net.proofs.Members.{in_cases, in_intersection, in_difference, in_below, none_in, some_in}
use Rattle.refusal.proofs.Outcomes.{ok_past_if, ok_past_first}
use Rattle.net.proofs.Sizes.{size_parts, size_some}
use Rattle.cover.specs.Checks.{check_outcome, Checked}
use Rattle.cover.specs.Bare.{without_each, bare_places, NewStrand, propose_outcome}
use Rattle.cover.proofs.Passing.{passes_strand, strand_passes, checked_strands}

-- ---- members

-- 2 ^ k - 1 is the set of the numbers below k
all_below : (k p : ℕ) → p < k → In p (2 ^ k - 1)
all_below zero p lt = absurd (omega arith)
all_below (suc k) zero lt =
    let e = pow-suc 2 k in
    let pos = pow_pos k in
    let odd : (2 ^ suc k - 1) % 2 ≡ 1 = omega arith in
    subst T (sym (has_first (2 ^ suc k - 1) ∙ ap (λ x. eqb x 1) odd)) tt
all_below (suc k) (suc p) lt =
    let e = pow-suc 2 k in
    let pos = pow_pos k in
    let half : (2 ^ suc k - 1) / 2 ≡ 2 ^ k - 1 = omega arith in
    subst T (sym (has_next (2 ^ suc k - 1) p ∙ ap (λ x. has x p) half)) (all_below k p (omega arith))

pub in_all : (k p : ℕ) → In p (2 ^ k - 1) ↔ (p < k)
in_all k p = (λ i. let pos = pow_pos k in in_below k (2 ^ k - 1) p (omega arith) i, all_below k p)

pub in_without_each : (rs : List ℕ) (s p : ℕ) → In p (without_each s rs) ↔ (In p s × (Occurs p rs → ⊥))
in_without_each [] s p = (λ i. (i, occurs_in_none p), λ h. h.0)
in_without_each (r ∷ rs) s p = (
  λ i. let (j, later) = (in_without_each rs (difference s r) p).0 i in
      let (k, here) = (in_difference s r p).0 j in
      (k, λ at. ⊎_elim here later (occurs_cases p r rs at)),
  λ h. (in_without_each rs (difference s r) p).1 ((in_difference s r p).1 (h.0, λ here. h.1 (occurs_here p r rs here)), λ later. h.1 (occurs_later p r rs later)),
)

pub in_bare : (n : PetriNet) (ss : List ℕ) (p : ℕ) → In p (bare_places n ss) ↔ ((p < n.places) × (Occurs p ss → ⊥))
in_bare n ss p = (
  λ i. let (j, out) = (in_without_each ss (2 ^ n.places - 1) p).0 i in ((in_all n.places p).0 j, out),
  λ h. (in_without_each ss (2 ^ n.places - 1) p).1 ((in_all n.places p).1 h.0, h.1),
)

pub occurs_known : (p : ℕ) (ss : List ℕ) → Known (Occurs p ss)
occurs_known p [] = inr (occurs_in_none p)
occurs_known p (s ∷ ss) =
    ⊎_elim (λ i. inl (occurs_here p s ss i))
    (λ out. ⊎_elim (λ at. inl (occurs_later p s ss at)) (λ none. inr (λ at. ⊎_elim out none (occurs_cases p s ss at))) (occurs_known p ss))
    (in_cases p s)

-- sets that pass the check and leave no place bare are a cover
pub bare_none_covers : (n : PetriNet) (ss : List ℕ) → Checked n ss → bare_places n ss ≡ 0 → Cover n ss
bare_none_covers n ss checked none = record {
  strands = checked_strands n ss checked;
  all_places = λ p lt. ⊎_elim (λ at. at) (λ out. absurd ((none_in (bare_places n ss)).0 none p ((in_bare n ss p).1 (lt, out)))) (occurs_known p ss);
}

-- ---- one strand more

pub without_each_more : (rs : List ℕ) (s r : ℕ) → without_each s (rs ++ r ∷ []) ≡ difference (without_each s rs) r
without_each_more [] s r = refl
without_each_more (x ∷ rs) s r = without_each_more rs (difference s x) r

pub bare_more : (n : PetriNet) (ss : List ℕ) (bare s : ℕ) → bare ≡ bare_places n ss → difference bare s ≡ bare_places n (ss ++ s ∷ [])
bare_more n ss bare s is = ap (λ b. difference b s) is ∙ sym (without_each_more ss (2 ^ n.places - 1) s)

pub checked_more : (n : PetriNet) (ss : List ℕ) (s : ℕ) → Checked n ss → is_ok (check_outcome n s) ≡ true → Checked n (ss ++ s ∷ [])
checked_more n ss s old passes =
    let P : ℕ → Type 0 = λ x. is_ok (check_outcome n x) ≡ true in
    let all = All-push P ss s (All-from_get_or P ss 0 old) passes in
    λ k l. All-get_or P (ss ++ s ∷ []) k 0 l all

-- ---- room: as many strands fit as there are places

pub room_at_first : (k : ℕ) → size (2 ^ k - 1) ≤ k
room_at_first k = let pos = pow_pos k in ones-le k (2 ^ k - 1) (omega arith)

pub room_after : (count places bare s : ℕ) → (intersection bare s ≡ 0 → ⊥) → count + size bare ≤ places → (count + 1) + size (difference bare s) ≤ places
room_after count places bare s some room =
    let parts = size_parts bare s in
    let used = (size_some (intersection bare s)).0 (omega arith) in
    omega arith

pub room_for_one : (count places bare s : ℕ) → (intersection bare s ≡ 0 → ⊥) → count + size bare ≤ places → count < places
room_for_one count places bare s some room = let after = room_after count places bare s some room in omega arith

-- ---- a set goes onto the sheet exactly where it is a strand with a bare place in it

module _ (n : PetriNet) (ss : List ℕ) (s : ℕ) where
  pub bare_in_new : Strand n s → (p : ℕ) → In p s → (Occurs p ss → ⊥) → intersection (bare_places n ss) s ≡ 0 → ⊥
  bare_in_new strand p i out none =
      (none_in (intersection (bare_places n ss) s)).0 none p
      ((in_intersection (bare_places n ss) s p).1 ((in_bare n ss p).1 (in_below n.places s p strand.within i, out), i))

  pub accepted_new : is_ok (propose_outcome n ss s) ≡ true → NewStrand n ss s
  accepted_new e =
      let (passes, e1) = ok_past_first (check_outcome n s) (refuse_if (eqb (intersection (bare_places n ss) s) 0) NoBarePlace (Ok tt)) e in
      let (some, e2) = ok_past_if (eqb (intersection (bare_places n ss) s) 0) NoBarePlace (Ok tt) e1 in
      let ne = eqb-false (intersection (bare_places n ss) s) 0 some in
      let (p, i) = (some_in (intersection (bare_places n ss) s)).0 (omega arith) in
      let (b, j) = (in_intersection (bare_places n ss) s p).0 i in
      (passes_strand n s passes, (p, j, ((in_bare n ss p).0 b).1))

  pub new_accepted : NewStrand n ss s → propose_outcome n ss s ≡ Ok tt
  new_accepted (strand, (p, i, out)) =
      ap (λ o. and_then o (refuse_if (eqb (intersection (bare_places n ss) s) 0) NoBarePlace (Ok tt))) (strand_passes n s strand)
      ∙ ap (λ b. refuse_if b NoBarePlace (Ok tt)) (ne_eqb (intersection (bare_places n ss) s) 0 (bare_in_new strand p i out))

  -- an answer to a proposal, as a fact
  pub new_cases : (r : Outcome) → r ≡ propose_outcome n ss s → Accepts r (NewStrand n ss s)
  new_cases (Ok x) e = accepted_new (sym (ap is_ok e))
  new_cases (Err why) e = λ new. false≢true (ap is_ok (e ∙ new_accepted new))
