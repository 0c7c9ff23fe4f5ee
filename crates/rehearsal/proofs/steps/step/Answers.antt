use Rattle.rehearsal.proofs.steps.step.Goals as goal

pub returns-in-Halted-clause-step : goal.returns-in-Halted-clause-step
returns-in-Halted-clause-step g c = rw c.in-Halted.is c.step_halted.ensures.step
