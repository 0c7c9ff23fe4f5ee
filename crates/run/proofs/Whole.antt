-- A whole run of a certified net: what its chain of calls says of the counted net and of the weights.
use Rattle.std.proofs.Common.{◌≡◌, ℕ, ◌≤◌, List, Option, sym, refl, ap}
use Rattle.net.specs.Nets.{Kept}
use Rattle.net.specs.Sets.{one_in}
use Rattle.net.specs.Strands.{HasCover}
use Rattle.net.proofs.Kept.{net_kept}
use Rattle.cover.specs.Certificates.{certified_net, certified_strands}
use Rattle.cover.specs.declared.certified.Certified.{Certified}
use Rattle.cover.proofs.Covers.{certified_cover}
use Rattle.board.specs.Rules.{Laid}
use Rattle.weight.specs.Additions.{Addition, CommutativeMonoid, Inverts}
use Rattle.run.specs.Counted.{started}
use Rattle.run.specs.Follows.{LinesFollowTheNet, WeightsFollowTheFires}
use Rattle.run.specs.States.{State, going_on, Chain}
use Rattle.run.specs.declared.calls.Entry.{Entry}
use Rattle.run.proofs.Sound.{counts_at_start, Sound, chain_follows, shown, none_occupied}
use Rattle.run.proofs.Weights.{weights_follow}

module _ {B W : Type 0} (lit : B → ℕ) (closed : B → Option ℕ) (signalled : B → ℕ → ℕ → B → Type 0) (add : Addition W)
    (quiet : (b : B) (channel event : ℕ) (after : B) → signalled b channel event after → lit after ≡ lit b)
    (c : Certified) (weights : List W) (passed first : B) (laid : Laid lit closed (certified_net c).marks passed first)
    (log : List (Entry W)) (ended : State B)
    (chain : Chain lit closed signalled add (certified_net c) (certified_strands c) weights (going_on first) log ended) where
  pub run_follows : LinesFollowTheNet lit closed signalled add (certified_net c) (certified_strands c) weights passed log ended
  run_follows =
      let n = certified_net c in
      let ss = certified_strands c in
      let kept : Kept n = net_kept c.sheet.net in
      let narrow : n.places ≤ 64 = c.sheet.net.placed in
      let cover : HasCover n = (ss, certified_cover c) in
      let begins : Sound n kept narrow cover lit closed signalled add ss weights quiet (started n (closed first)) (going_on first) =
      record { counts = counts_at_start n kept; same = λ p. ap (λ k. one_in k p) (sym laid.lines); shut_same = refl; going_same = refl } in
      let all = chain_follows n kept narrow cover lit closed signalled add ss weights quiet (started n (closed first)) (going_on first) log ended begins chain in
      record {
        first = first;
        starts = laid;
        last = all.0;
        follows = all.1;
        goes_alike = all.2.going_same;
        shut_alike = all.2.shut_same;
        shows = shown n kept narrow cover lit closed signalled add ss weights quiet all.0 ended all.2;
        none_occupied = none_occupied lit closed signalled add n ss weights (started n (closed first)) first log all.0 ended.board all.1;
      }

  pub run_weighs : (minus : W → W) → CommutativeMonoid add → Inverts add minus → WeightsFollowTheFires add minus (certified_net c) log (lit ended.board)
  run_weighs minus laws inverts ws =
      weights_follow add minus laws inverts lit closed signalled quiet (certified_net c) (net_kept c.sheet.net) c.sheet.net.placed (certified_strands c) weights ws (going_on first) log ended laid.lines chain
