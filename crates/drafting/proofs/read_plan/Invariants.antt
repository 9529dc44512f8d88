use Rattle.drafting.proofs.Laws.{Fed}
use Rattle.drafting.proofs.read_plan.Given as goal

abbrev pub invariant-loop : goal.invariant-loop
invariant-loop g l = Fed l.initial.plan l.plan
