use Rattle.std.proofs.Common.{[], ◌∷◌, ◌++◌, sym, refl, ap, ◌∙◌, length-append, arith}
use Rattle.net.specs.Nets.{drawn}
use Rattle.fold.specs.Foldings.{folded_net, folded_steps}
use Rattle.fold.proofs.Facts.{folded_keeps_covers, plan_net, plan_net_kept, room_for_step, next_net, next_covers, next_noted}
use Rattle.fold.proofs.Fused.{fusion_applies}
use Rattle.fold.proofs.folded.Folded.fuse.Goals as goal

pub returns-in_err-fusion-clause-covers : goal.returns-in_err-fusion-clause-covers
returns-in_err-fusion-clause-covers c = folded_keeps_covers c.args.self.now

pub plan-transition-requires : goal.plan-transition-requires
plan-transition-requires c = fusion_applies (folded_net c.args.self.now) c.in_ok-fusion.fusion (sym c.in_ok-fusion.ensures)

pub replace-self-requires : goal.replace-self-requires
replace-self-requires c = plan_net_kept c.args.self.now c.in_ok-fusion.fusion (sym c.in_ok-fusion.ensures) _ _ c.plan-transition.ensures.transition c.plan-transition.ensures.step

pub push-requires : goal.push-requires
push-requires c = let room = room_for_step c.args.self.now c.in_ok-fusion.fusion (sym c.in_ok-fusion.ensures) in omega arith

pub invariant_of-self : goal.invariant_of-self
invariant_of-self c =
    let f = c.args.self.now in
    let fusion = c.in_ok-fusion.fusion in
    let next = sym c.in_ok-fusion.ensures in
    let step = c.plan-transition.result.1 in
    let new = drawn c.replace-self.result in
    let is = plan_net f fusion next _ _ c.plan-transition.ensures.transition c.plan-transition.ensures.step new c.replace-self.ensures in
    rw (c.push.ensures.items, length-append (folded_steps f) (step ∷ [])) (record {
      fused = next_net f fusion next new is;
      noted = next_noted f fusion next step c.plan-transition.ensures.step;
    })

pub returns-clause-after : goal.returns-clause-after
returns-clause-after c =
    let f = c.args.self.now in (
      refl,
      plan_net f c.in_ok-fusion.fusion (sym c.in_ok-fusion.ensures) _ _ c.plan-transition.ensures.transition c.plan-transition.ensures.step _ c.replace-self.ensures,
      c.push.ensures.items ∙ ap (λ s. folded_steps f ++ s ∷ []) c.plan-transition.ensures.step,
    )

pub returns-clause-covers : goal.returns-clause-covers
returns-clause-covers c =
    let f = c.args.self.now in
    let next = sym c.in_ok-fusion.ensures in
    next_covers f c.in_ok-fusion.fusion next _ (plan_net f c.in_ok-fusion.fusion next _ _ c.plan-transition.ensures.transition c.plan-transition.ensures.step _ c.replace-self.ensures)
