-- The tokens of a strand stay as many, so a covered net is safe and contact-free.
use Rattle.std.proofs.Common.{◌≡◌, ℕ, ◌+◌, ◌-◌, ◌<◌, ◌≤◌, Bool, true, false, cond, not, ◌&&◌, ◌||◌, T, ◌↔◌, List, [], ◌∷◌, sym, refl, ap, ◌∙◌, subst, arith}
use Rattle.net.specs.Sets.{has, In, one_in, size, intersection, exchange, Subset}
use Rattle.net.specs.Nets.{PetriNet, Kept}
use Rattle.net.specs.Counting.{Marking, initial, Enabled, fired, Firable, after, Safe, ContactFree}
use Rattle.net.specs.Strands.{Strand, HasCover}
use Rattle.net.specs.Sums.{total}
use Rattle.net.proofs.Bits.{has_intersection, has_exchange}
use Rattle.net.proofs.Members.{has_in, in_below}
use Rattle.net.proofs.Subsets.{intersection_first, subset_below}
use Rattle.net.proofs.Sizes.{counts_once, counts_in, counts_out}
use Rattle.net.proofs.Meets.{apart_intersection}
use Rattle.net.proofs.Listed.{occurs_in}
use Rattle.net.proofs.Totals.{total_same, total_plus, term_at_most, size_total}

-- how many tokens the places of the set s hold together
abbrev pub tokens : PetriNet → Marking → ℕ → ℕ
tokens n m s = total n.places (λ p. cond (has s p) (m p) 0)

-- each strand holds one token at most
abbrev pub OneToken : PetriNet → Marking → Type 0
OneToken n m = (s : ℕ) → Strand n s → tokens n m s ≤ 1

-- ---- the tokens of a set

-- one place at a firing: x says whether it is taken, y whether it is given, z whether it is in the set
moved_at : (x y z : Bool) (k : ℕ) → (T x → 1 ≤ k) → cond z (k - cond x 1 0 + cond y 1 0) 0 + cond (x && z) 1 0 ≡ cond z k 0 + cond (y && z) 1 0
moved_at true true true k h = let l = h tt in omega arith
moved_at true false true k h = let l = h tt in omega arith
moved_at false true true k h = omega arith
moved_at false false true k h = omega arith
moved_at true true false k h = refl
moved_at true false false k h = refl
moved_at false true false k h = refl
moved_at false false false k h = refl

-- a firing takes from the set what it takes of its places, and gives what it gives
pub tokens_balance : (n : PetriNet) → Kept n → (s t : ℕ) (m : Marking) → Enabled n m t
    → tokens n (fired n t m) s + size (intersection (n.takes t) s) ≡ tokens n m s + size (intersection (n.gives t) s)
tokens_balance n kept s t m on =
    ap (λ x. tokens n (fired n t m) s + x) (size_total n.places (intersection (n.takes t) s) (subset_below n.places (intersection (n.takes t) s) (n.takes t) (intersection_first (n.takes t) s) (kept.taken t)))
    ∙ sym (total_plus n.places (λ p. cond (has s p) (fired n t m p) 0) (one_in (intersection (n.takes t) s)))
    ∙ total_same n.places (λ p. cond (has s p) (fired n t m p) 0 + one_in (intersection (n.takes t) s) p) (λ p. cond (has s p) (m p) 0 + one_in (intersection (n.gives t) s) p)
    (λ p lt. ap (λ b. cond (has s p) (fired n t m p) 0 + cond b 1 0) (has_intersection (n.takes t) s p)
    ∙ moved_at (has (n.takes t) p) (has (n.gives t) p) (has s p) (m p) (on.1 p)
    ∙ ap (λ b. cond (has s p) (m p) 0 + cond b 1 0) (sym (has_intersection (n.gives t) s p)))
    ∙ total_plus n.places (λ p. cond (has s p) (m p) 0) (one_in (intersection (n.gives t) s))
    ∙ ap (λ x. tokens n m s + x) (sym (size_total n.places (intersection (n.gives t) s) (subset_below n.places (intersection (n.gives t) s) (n.gives t) (intersection_first (n.gives t) s) (kept.given t))))

pub tokens_start : (n : PetriNet) → Kept n → (s : ℕ) → tokens n (initial n) s ≡ size (intersection n.marks s)
tokens_start n kept s =
    total_same n.places (λ p. cond (has s p) (initial n p) 0) (one_in (intersection n.marks s))
    (λ p lt. marked_at (has n.marks p) (has s p) ∙ ap (λ b. cond b 1 0) (sym (has_intersection n.marks s p)))
    ∙ sym (size_total n.places (intersection n.marks s) (subset_below n.places (intersection n.marks s) n.marks (intersection_first n.marks s) kept.marked))
  where
    marked_at : (x z : Bool) → ◌≡◌ {A = ℕ} (cond z (cond x 1 0) 0) (cond (x && z) 1 0)
    marked_at true true = refl
    marked_at true false = refl
    marked_at false true = refl
    marked_at false false = refl

-- a place of a set holds no more than the set
pub place_holds_less : (n : PetriNet) (m : Marking) (s p : ℕ) → p < n.places → In p s → m p ≤ tokens n m s
place_holds_less n m s p lt i =
    subst (λ b. cond b (m p) 0 ≤ tokens n m s) (has_in p s i) (term_at_most n.places (λ q. cond (has s q) (m q) 0) p lt)

-- ---- each strand holds one token at most: at the start, after a firing, after any firing sequence

pub one_token_at_start : (n : PetriNet) → Kept n → OneToken n (initial n)
one_token_at_start n kept s strand = let e = tokens_start n kept s in let h = strand.thin.one_mark in omega arith

-- what fires leaves the tokens of a strand as many
pub tokens_stay : (n : PetriNet) → Kept n → (s t : ℕ) (m : Marking) → Strand n s → Enabled n m t → tokens n (fired n t m) s ≡ tokens n m s
tokens_stay n kept s t m strand on =
    let e = tokens_balance n kept s t m on in
    let even = strand.even t on.0 in
    omega arith

pub one_token_fired : (n : PetriNet) → Kept n → (t : ℕ) (m : Marking) → Enabled n m t → OneToken n m → OneToken n (fired n t m)
one_token_fired n kept t m on one s strand = let e = tokens_stay n kept s t m strand on in let h = one s strand in omega arith

pub one_token_after : (n : PetriNet) → Kept n → (ts : List ℕ) (m : Marking) → Firable n m ts → OneToken n m → OneToken n (after n m ts)
one_token_after n kept [] m run one = one
one_token_after n kept (t ∷ ts) m run one = one_token_after n kept ts (fired n t m) run.1 (one_token_fired n kept t m run.0 one)

-- ---- covered nets

pub covered_holds_one : (n : PetriNet) → HasCover n → (m : Marking) → OneToken n m → (p : ℕ) → p < n.places → m p ≤ 1
covered_holds_one n (ss, cover) m one p lt =
    let (s, strand, i) = occurs_in (Strand n) p ss cover.strands (cover.all_places p lt) in
    let all = one s strand in
    let less = place_holds_less n m s p lt i in
    omega arith

-- what an enabled transition gives is empty
pub given_are_empty : (n : PetriNet) → Kept n → HasCover n → (m : Marking) → OneToken n m → (t : ℕ) → Enabled n m t → (p : ℕ) → In p (n.gives t) → m p ≡ 0
given_are_empty n kept cover m one t on p given =
    let lt = in_below n.places (n.gives t) p (kept.given t) given in
    let full : fired n t m p ≤ 1 = covered_holds_one n cover (fired n t m) (one_token_fired n kept t m on one) p lt in
    let left = (counts_out (n.takes t) p).0 (λ taken. (apart_intersection (n.takes t) (n.gives t)).1 (kept.apart t) p taken given) in
    let got = (counts_in (n.gives t) p).0 given in
    omega arith

pub covered_safe : (n : PetriNet) → Kept n → HasCover n → Safe n
covered_safe n kept cover ts run = covered_holds_one n cover (after n (initial n) ts) (one_token_after n kept ts (initial n) run (one_token_at_start n kept))

pub covered_contact_free : (n : PetriNet) → Kept n → HasCover n → ContactFree n
covered_contact_free n kept cover ts run =
    given_are_empty n kept cover (after n (initial n) ts) (one_token_after n kept ts (initial n) run (one_token_at_start n kept))

-- ---- where lit is the set of the places that hold a token

-- a place counts where it is lit
counts_lit : (lit p : ℕ) → (1 ≤ one_in lit p) ↔ In p lit
counts_lit lit p = (λ h. (counts_in lit p).1 (let l = counts_once lit p in omega arith), λ i. let e = (counts_in lit p).0 i in omega arith)

-- a transition is enabled where all that it takes is lit
pub enabled_lit : (n : PetriNet) (m : Marking) (lit : ℕ) → ((p : ℕ) → m p ≡ one_in lit p) → (t : ℕ)
    → Enabled n m t ↔ ((t < n.transitions) × Subset (n.takes t) lit)
enabled_lit n m lit same t = (
  λ on. (on.0, λ p is. (counts_lit lit p).0 (subst (λ k. 1 ≤ k) (same p) (on.1 p is))),
  λ on. (on.0, λ p is. subst (λ k. 1 ≤ k) (sym (same p)) ((counts_lit lit p).1 (on.1 p is))),
)

-- firing exchanges what is taken for what is given
pub lines_follow : (n : PetriNet) → Kept n → HasCover n → (m : Marking) → OneToken n m → (lit : ℕ) → ((p : ℕ) → m p ≡ one_in lit p)
    → (t : ℕ) → Enabled n m t → (p : ℕ) → fired n t m p ≡ one_in (exchange lit (n.takes t) (n.gives t)) p
lines_follow n kept cover m one lit same t on p =
    ap (λ k. k - one_in (n.takes t) p + one_in (n.gives t) p) (same p)
    ∙ line (has lit p) (has (n.takes t) p) (has (n.gives t) p) (λ is. sym (same p) ∙ given_are_empty n kept cover m one t on p is)
    ((apart_intersection (n.takes t) (n.gives t)).1 (kept.apart t) p)
    ∙ ap (λ b. cond b 1 0) (sym (has_exchange lit (n.takes t) (n.gives t) p))
  where
    line : (l x y : Bool) → (T y → ◌≡◌ {A = ℕ} (cond l 1 0) 0) → (T x → T y → ⊥) → cond l 1 0 - cond x 1 0 + cond y 1 0 ≡ cond ((l && not x) || y) 1 0
    line true true true empty apart = absurd (apart tt tt)
    line true true false empty apart = refl
    line true false true empty apart = absurd (let e : ◌≡◌ {A = ℕ} 1 0 = empty tt in omega arith)
    line true false false empty apart = refl
    line false true true empty apart = absurd (apart tt tt)
    line false true false empty apart = refl
    line false false true empty apart = refl
    line false false false empty apart = refl
