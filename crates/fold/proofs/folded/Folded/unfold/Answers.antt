use Rattle.std.proofs.Common.{◌≡◌, ◌^◌, ◌<◌, cond, ◌⊎◌, Ok, Err, reverse, sym, refl, ap, ◌∙◌, subst, rules}
use Rattle.std.specs.List.{fold}
use borrow.Author.Tests.{tests}
use Rattle.std.proofs.lemmas.Bool.{lt-leb}
use Rattle.refusal.specs.declared.Refusal.TheVariants.{PlaceOutside}
use Rattle.net.specs.Strands.{Strand}
use Rattle.fold.specs.Foldings.{folded_original, folded_net, folded_steps}
use Rattle.fold.specs.Steps.{put_back, unfolded}
use Rattle.fold.specs.declared.step.Step.{Step}
use Rattle.fold.proofs.Facts.{folded_strands_unfold}
use Rattle.fold.proofs.Foldings.{unfolded_reverse}
use Rattle.fold.proofs.folded.Folded.unfold.Goals as goal

pub returns : goal.returns
returns c =
    let f = c.args.self.now in
    let folds : c.fold.result ≡ fold (λ t (step : Step). put_back step.place step.set t) c.args.set (reverse (folded_steps f)) = search (rules, tests) in
    let all : c.fold.result ≡ unfolded (folded_steps f) c.args.set = folds ∙ unfolded_reverse (folded_steps f) c.args.set in
    let below : c.args.set < 2 ^ (folded_net f).places = c.if-not-has_places.ensures.0 refl in
    record {
      answer = ap Ok all ∙ sym (ap (λ b. cond b (Err PlaceOutside) (Ok (unfolded (folded_steps f) c.args.set))) (lt-leb (2 ^ (folded_net f).places) c.args.set below));
      strand = λ strand. subst (λ r. Strand (folded_original f) r ⊎ (r ≡ 0)) (sym all) (folded_strands_unfold f c.args.set strand);
    }
