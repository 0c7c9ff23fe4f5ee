-- What a fire that is accepted says of the lines.
use Rattle.std.proofs.Common.{◌≡◌, ℕ, ◌^◌, ◌<◌, ◌≤◌, Bool, true, false, ◌&&◌, T, leb, None, Ok, Option, sym, refl, ap, ◌∙◌, arith, pow_mono}
use Rattle.std.proofs.lemmas.Bool.{leb-false, both_ways}
use Rattle.refusal.specs.declared.Refusal.TheVariants.{NoSuchTransition, Unlit, Occupied, Shut}
use Rattle.refusal.specs.Outcomes.{refuse_at}
use Rattle.refusal.proofs.Outcomes.{accepted_past_if, accepted_past_at}
use Rattle.net.specs.Lowest.{lowest_of}
use Rattle.net.specs.Nets.{PetriNet, Kept}
use Rattle.net.specs.Sets.{has, In, Subset, Disjoint}
use Rattle.net.proofs.Lows.{lowest_none}
use Rattle.net.proofs.Members.{has_in, in_below}
use Rattle.run.specs.Firing.{agrees, fire_outcome}

-- where no member of a set of lines is found to be otherwise than wanted, each is as wanted
none_otherwise : (s lit : ℕ) (wanted : Bool) → s < 2 ^ 64 → lowest_of s (λ p. agrees wanted (has lit p)) ≡ None → (p : ℕ) → In p s → agrees wanted (has lit p) ≡ false
none_otherwise s lit wanted small none p is =
    let fails = lowest_none 64 (λ q. has s q && agrees wanted (has lit q)) none p (in_below 64 s p small is) in
    sym (ap (λ b. b && agrees wanted (has lit p)) (has_in p s is)) ∙ fails

-- a line that is not dark is lit
not_dark : (b : Bool) → agrees false b ≡ false → T b
not_dark true e = tt
not_dark false e = absurd (both_ways true e refl)

not_lit : (b : Bool) → agrees true b ≡ false → T b → ⊥
not_lit true e h = both_ways true e refl
not_lit false e h = h

module _ (n : PetriNet) (kept : Kept n) (narrow : n.places ≤ 64) where
  wide : (s : ℕ) → s < 2 ^ n.places → s < 2 ^ 64
  wide s lt = let m : 2 ^ n.places ≤ 2 ^ 64 = pow_mono narrow in omega arith

  -- where no place that is taken is found dark, all are lit
  pub taken_lit : (lit t : ℕ) → lowest_of (n.takes t) (λ p. agrees false (has lit p)) ≡ None → Subset (n.takes t) lit
  taken_lit lit t none p is = not_dark (has lit p) (none_otherwise (n.takes t) lit false (wide (n.takes t) (kept.taken t)) none p is)

  pub given_dark : (lit t : ℕ) → lowest_of (n.gives t) (λ p. agrees true (has lit p)) ≡ None → Disjoint (n.gives t) lit
  given_dark lit t none p is = not_lit (has lit p) (none_otherwise (n.gives t) lit true (wide (n.gives t) (kept.given t)) none p is)

  pub record Accepted (lit t : ℕ) : Type 0 where
    pub there : t < n.transitions
    pub taken : Subset (n.takes t) lit
    pub given : Disjoint (n.gives t) lit

  pub fire_accepted : (lit : ℕ) (shut : Option ℕ) (t : ℕ) → fire_outcome n lit shut t ≡ Ok tt → Accepted lit t
  fire_accepted lit shut t e =
      let dark = lowest_of (n.takes t) (λ p. agrees false (has lit p)) in
      let full = lowest_of (n.gives t) (λ p. agrees true (has lit p)) in
      let last = refuse_at shut Shut (Ok tt) in
      let (there, one) = accepted_past_if (leb n.transitions t) NoSuchTransition (refuse_at dark Unlit (refuse_at full Occupied last)) e in
      let (no-dark, two) = accepted_past_at dark Unlit (refuse_at full Occupied last) one in
      let (no-full, three) = accepted_past_at full Occupied last two in
      record { there = leb-false n.transitions t there; taken = taken_lit lit t no-dark; given = given_dark lit t no-full }
