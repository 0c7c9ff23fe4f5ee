-- Strands that leave no place bare are a cover, so the net is safe and contact-free.
use Rattle.std.proofs.Common.{◌≡◌, ℕ, ◌≤◌, T, List, Some, None, Ok, Option, sym, ap, ◌∙◌, subst, arith}
use Rattle.std.proofs.lemmas.Bool.{false≢true}
use Rattle.refusal.specs.declared.Refusal.TheVariants.{Bare}
use Rattle.net.specs.Counting.{Safe, ContactFree}
use Rattle.net.specs.Lowest.{Lowest, lowest_in}
use Rattle.net.specs.Nets.{PetriNet}
use Rattle.refusal.specs.Outcomes.{refuse_at}
use Rattle.net.specs.Sets.{has}
use Rattle.net.specs.Strands.{Cover}
use Rattle.net.proofs.Kept.{net_kept}
use Rattle.net.proofs.Lows.{lowest_is}
use Rattle.net.proofs.Members.{has_in, none_in}
use Rattle.net.proofs.Tokens.{covered_safe, covered_contact_free}
use Rattle.cover.specs.Bare.{bare_places}
use Rattle.cover.specs.Certificates.{certified_net, certified_strands, certify_outcome}
use Rattle.cover.specs.declared.certified.Certified.{Certified}
use Rattle.cover.proofs.Bares.{in_bare, bare_none_covers}

-- ---- the lowest bare place

module _ (n : PetriNet) (ss : List ℕ) (bare : ℕ) (is : bare ≡ bare_places n ss) where
  pub certify_by_lowest : (o : Option ℕ) → Lowest 64 (has bare) o → refuse_at o Bare (Ok tt) ≡ certify_outcome n ss
  certify_by_lowest o low = ap (λ x. refuse_at x Bare (Ok tt)) (lowest_is 64 (has bare) o low ∙ ap lowest_in is)

  pub none_lowest : n.places ≤ 64 → Lowest 64 (has bare) None → bare_places n ss ≡ 0
  none_lowest most fails =
      sym is ∙ (none_in bare).1 (λ p i.
      let at = (in_bare n ss p).0 (rw is at i) in
      let lt = at.0 in
      false≢true (sym (fails p (omega arith)) ∙ has_in p bare i))

  pub some_not_covered : (p : ℕ) → Lowest 64 (has bare) (Some p) → Cover n ss → ⊥
  some_not_covered p (lt, there, below) cover =
      let at = (in_bare n ss p).0 (rw is at (subst T (sym there) tt)) in
      at.1 (cover.all_places p at.0)

-- ---- what a certified net holds

pub certified_cover : (c : Certified) → Cover (certified_net c) (certified_strands c)
certified_cover c = bare_none_covers (certified_net c) (certified_strands c) c.sheet.checked c.covered

pub certified_safe : (c : Certified) → Safe (certified_net c)
certified_safe c = covered_safe (certified_net c) (net_kept c.sheet.net) (certified_strands c, certified_cover c)

pub certified_contact_free : (c : Certified) → ContactFree (certified_net c)
certified_contact_free c = covered_contact_free (certified_net c) (net_kept c.sheet.net) (certified_strands c, certified_cover c)
