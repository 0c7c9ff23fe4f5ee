use Rattle.std.proofs.Common.{◌≡◌, ℕ, ◌-◌, ◌≤◌, ◌^◌, min, ap, ◌∙◌, subst, sym, arith}
use Rattle.net.specs.Sets.{size}
use Rattle.cover.proofs.Bares.{room_at_first}
use Rattle.cover.proofs.sheet.Sheet.new.Goals as goal

-- the places below a number of at most 64 are all places of a net with so many
all_bare : (count places bare : ℕ) → bare ≡ 2 ^ min count 64 - 1 → count ≡ places → places ≤ 64 → bare ≡ 2 ^ places - 1
all_bare count places bare is e most = let m : min count 64 ≡ places = omega arith in is ∙ ap (λ k. 2 ^ k - 1) m

pub invariant_of-result : goal.invariant_of-result
invariant_of-result c =
    let most = c.args.net.placed in
    let all : c.below-bare.result ≡ 2 ^ c.args.net.places - 1 = all_bare _ _ _ c.below-bare.ensures (omega arith) most in
    let room : size c.below-bare.result ≤ c.args.net.places = subst (λ s. size s ≤ c.args.net.places) (sym all) (room_at_first c.args.net.places) in
    rw c.new.ensures (record { checked = λ k none. absurd (omega arith); bared = all; room = omega arith })
