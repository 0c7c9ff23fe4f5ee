-- The reply of a call that was accepted or refused.
use Rattle.std.proofs.Common.{◌≡◌, ℕ, Ok, Err, refl, ap, subst}
use Rattle.refusal.specs.Outcomes.{Outcome}
use Rattle.refusal.specs.declared.Refusal.{Refusal}
use Rattle.job.specs.Replies.{comes_to, Gives}
use Rattle.job.specs.Standings.{Standing, standing_of}
use Rattle.job.specs.declared.state.State.{State}

pub gives_accepted : (o : Outcome) (detail told : ℕ) (accepted refused : Standing) (state : State) → Ok tt ≡ o → standing_of state ≡ accepted → told ≡ detail
    → Gives (comes_to o detail accepted refused) state (Ok told)
gives_accepted o detail told accepted refused state is stands tells =
    subst (λ (x : Outcome). Gives (comes_to x detail accepted refused) state (Ok told)) is (stands, ap Ok tells)

pub gives_refused : (o : Outcome) (why : Refusal) (detail : ℕ) (accepted refused : Standing) (state : State) → Err why ≡ o → standing_of state ≡ refused
    → Gives (comes_to o detail accepted refused) state (Err why)
gives_refused o why detail accepted refused state is stands =
    subst (λ (x : Outcome). Gives (comes_to x detail accepted refused) state (Err why)) is (stands, refl)
