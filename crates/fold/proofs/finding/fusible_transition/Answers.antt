use Rattle.std.proofs.Common.{◌≡◌, ℕ, ◌+◌, ◌<◌, Bool, false, None, sym, subst, add-one, arith}
use Rattle.std.proofs.lemmas.Bool.{and_from, and_left, and_right}
use Rattle.net.specs.Lowest.{lowest}
use Rattle.net.specs.Nets.{drawn}
use Rattle.net.proofs.Lows.{lowest_zero, lowest_more, lowest_found}
use Rattle.fold.specs.Fusions.{touches, contains, alone, exchanges_one, place_fusible}
use Rattle.fold.proofs.Soles.{other, other_same, other_fails, alone_when, not_alone}
use Rattle.fold.proofs.finding.fusible_transition.Goals as goal
use Rattle.fold.proofs.finding.fusible_transition.Goals.{else-u-t-via-then-u-t+else-touches_both, else-u-t-via-else-u-t}

-- one more transition that does not allow it
passed_over : (test : ℕ → Bool) (t : ℕ) → lowest t test ≡ None → test t ≡ false → lowest (t + 1) test ≡ None
passed_over test t none e = subst (λ k. lowest k test ≡ None) (sym (add-one t)) (lowest_more t test none e)

pub next-init : goal.next-init
next-init c = lowest_zero _

pub next-preserved-then-not-one_for_one : goal.next-preserved-then-not-one_for_one
next-preserved-then-not-one_for_one c =
    let n = drawn c.args.net.now in
    passed_over (place_fusible n) c.next.t c.next.invariant (and_left (exchanges_one n c.next.t) _ (sym c.if-not-one_for_one.ensures))

pub loop-u-init : goal.loop-u-init
loop-u-init c = lowest_zero _

pub next-preserved : goal.next-preserved
next-preserved c =
    let n = drawn c.args.net.now in
    let t = c.next.t in
    let u = c.loop-u.u in
    let there : u < n.transitions = omega arith in
    let both : ℕ → Bool = λ j. contains (touches n j) (touches n t) in
    passed_over (place_fusible n) t c.next.invariant
    (and_right (exchanges_one n t) (alone n.transitions both t) (not_alone n.transitions both t u there c.if-u-t.true (sym {b = both u} c.if-touches_both.ensures)))

pub loop-u-preserved : goal.loop-u-preserved
loop-u-preserved c =
    let n = drawn c.args.net.now in
    let t = c.next.t in
    let u = c.loop-u.u in
    let both : ℕ → Bool = λ j. contains (touches n j) (touches n t) in
    passed_over (other both t) u c.loop-u.invariant (elim c.else-u-t.branch [
      | else-u-t-via-then-u-t+else-touches_both w ↦ other_fails both t u (sym {b = both u} w.if-touches_both.ensures)
      | else-u-t-via-else-u-t w ↦ other_same both t u w.if-u-t.false
    ])

pub returns-after-loop-u : goal.returns-after-loop-u
returns-after-loop-u c =
    let n = drawn c.args.net.now in
    let t = c.next.t in
    let both : ℕ → Bool = λ j. contains (touches n j) (touches n t) in
    let there : t < n.transitions = omega arith in
    let all : c.loop-u.u ≡ n.transitions = omega arith in
    let none : lowest n.transitions (other both t) ≡ None = subst (λ k. lowest k (other both t) ≡ None) all c.loop-u.invariant in
    sym (lowest_found n.transitions (place_fusible n) t there (and_from (exchanges_one n t) (alone n.transitions both t) (sym c.if-not-one_for_one.ensures) (alone_when n.transitions both t none)) c.next.invariant)
