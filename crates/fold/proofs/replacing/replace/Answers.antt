use Rattle.std.proofs.Common.{◌+◌, eqb, sym, ap, ◌∙◌, subst, ap₂, arith}
use Rattle.std.proofs.lemmas.Bool.{cond-true, cond-false, eq-eqb, ne_eqb}
use Rattle.net.specs.Drawings.{with_arcs}
use Rattle.net.specs.Nets.{drawn}
use Rattle.fold.specs.Fusions.{swapped, replaced}
use Rattle.fold.proofs.Parts.{Replaced-below, part_none, part_more, part_idle, part_all}
use Rattle.fold.proofs.replacing.replace.Goals as goal
use Rattle.fold.proofs.replacing.replace.Goals.{then-t-transition, else-t-transition}

pub loop-t-init : goal.loop-t-init
loop-t-init c =
    let net = c.args.net.now in
    let step = c.args.note in
    let n = replaced (drawn net) c.args.transition step.place step.set in
    part_none n c.new-after.result c.draw.new.self c.places.result c.transitions.result c.moved_marks.result c.draw.result c.requires net.placed net.counted
    c.places.ensures c.transitions.ensures c.moved_marks.ensures c.draw.ensures.answer c.draw.ensures.after

pub loop-t-preserved : goal.loop-t-preserved
loop-t-preserved c =
    let net = c.args.net.now in
    let step = c.args.note in
    let x = c.args.transition in
    let t = c.loop-t.t in
    let n = replaced (drawn net) x step.place step.set in
    let old = drawn c.loop-t.after in
    elim c.if-t-transition.branch [
      | then-t-transition w ↦
          let other = ne_eqb t x w.if-t-transition.true in
          let taken = w.swap.ensures ∙ ap (swapped step.place step.set) w.takes.ensures ∙ sym (cond-false (eqb t x) 0 (swapped step.place step.set ((drawn net).takes t)) other) in
          let given = w.swap-then-t-transition.ensures ∙ ap (swapped step.place step.set) w.gives.ensures ∙ sym (cond-false (eqb t x) 0 (swapped step.place step.set ((drawn net).gives t)) other) in
          subst (λ m. Replaced-below n (t + 1) (drawn m)) (sym w.after-is) (part_more n t old (drawn w.give.new.net) c.loop-t.invariant (w.give.ensures ∙ ap₂ (with_arcs old t) taken given))
      | else-t-transition w ↦
          let same = eq-eqb t x w.if-t-transition.false in
          subst (λ m. Replaced-below n (t + 1) (drawn m)) (sym w.after-is) (part_idle n t old c.loop-t.invariant
          (cond-true (eqb t x) 0 (swapped step.place step.set ((drawn net).takes t)) same) (cond-true (eqb t x) 0 (swapped step.place step.set ((drawn net).gives t)) same))
    ]

pub returns : goal.returns
returns c =
    let n = replaced (drawn c.args.net.now) c.args.transition c.args.note.place c.args.note.set in
    part_all n c.loop-t.t (drawn c.loop-t.after) c.requires (omega arith) c.loop-t.invariant
