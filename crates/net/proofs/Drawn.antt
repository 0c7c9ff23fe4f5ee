-- The arcs of a net as it is drawn, and after a transition was given its own.
use Rattle.std.proofs.Common.{◌≡◌, ℕ, ◌<◌, cond, eqb, List, length, get_or, set, replicate, sym, refl, ap, ◌∙◌, ⊎_elim, arith, pow_pos}
use Rattle.std.proofs.lemmas.List.{get_or-set_same, get_or-set_other, get_or-replicate, get_or_past, length-replicate}
use Rattle.std.proofs.lemmas.Bool.{cases_eq, cases_lt, cond-true, cond-false, eq-eqb, ne_eqb}
use Rattle.net.specs.Arcs.{no_arcs, arcs_at, Arcs, Ended}
use Rattle.net.specs.Nets.{PetriNet}
use Rattle.net.specs.Drawings.{without_arcs}

-- nets with the same numbers are one net
pub same_drawn : (n n' : PetriNet) → n.places ≡ n'.places → n.transitions ≡ n'.transitions → n.marks ≡ n'.marks
    → ((t : ℕ) → n.takes t ≡ n'.takes t) → ((t : ℕ) → n.gives t ≡ n'.gives t) → n ≡ n'
same_drawn n n' p t m takes gives = λ i. record { places = p i; transitions = t i; marks = m i; takes = λ u. takes u i; gives = λ u. gives u i }

-- ---- no arcs

pub none_at : (n t : ℕ) → arcs_at (replicate n no_arcs) t ≡ no_arcs
none_at n t = ⊎_elim (λ h. get_or-replicate n t no_arcs no_arcs h) (λ h. get_or_past (replicate n no_arcs) t no_arcs (omega (arith, length-replicate n no_arcs))) (cases_lt t n)

pub arcs_none : (p n : ℕ) → Arcs p (replicate n no_arcs)
arcs_none p n t = rw (none_at n t) (pow_pos p, pow_pos p, refl)

pub ended_none : (p n : ℕ) → Ended p (replicate n no_arcs)
ended_none p n t le = rw (none_at n t) (refl, refl)

-- what a table without arcs is drawn as
abbrev bare_net : ℕ → ℕ → ℕ → PetriNet
bare_net places transitions marks = record {
  places = places;
  transitions = transitions;
  marks = marks;
  takes = λ t. (arcs_at (replicate 64 no_arcs) t).taken;
  gives = λ t. (arcs_at (replicate 64 no_arcs) t).given;
}

-- a table without arcs is that of a net without arcs
pub drawn_bare : (places transitions marks : ℕ)
    → bare_net places transitions marks ≡ without_arcs places transitions marks
drawn_bare places transitions marks = same_drawn (bare_net places transitions marks) (without_arcs places transitions marks) refl refl refl
    (λ t. ap (λ a. a.taken) (none_at 64 t)) (λ t. ap (λ a. a.given) (none_at 64 t))

-- ---- an entry of a table that is replaced

pub set_at : {A : Type 0} (xs : List A) (d : A) (i : ℕ) (a : A) (t : ℕ) → i < length xs → get_or (set xs i a) t d ≡ cond (eqb t i) a (get_or xs t d)
set_at xs d i a t lt =
    ⊎_elim
    (λ e. ap (λ k. get_or (set xs i a) k d) e ∙ get_or-set_same xs i a d lt ∙ sym (cond-true (eqb t i) a (get_or xs t d) (eq-eqb t i e)))
    (λ ne. get_or-set_other xs i t a d ne ∙ sym (cond-false (eqb t i) a (get_or xs t d) (ne_eqb t i ne)))
    (cases_eq t i)
