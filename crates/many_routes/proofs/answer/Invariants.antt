-- After k turns the first k pairs are answered: `one_more`.
use Rattle.pairs.specs.Answered.{Answered}
use Rattle.many_routes.proofs.answer.Given as goal

abbrev pub invariant-loop-k : goal.invariant-loop-k
invariant-loop-k l = Answered l.book.book l.choice l.pairs l.k l.initial.answers l.answers
