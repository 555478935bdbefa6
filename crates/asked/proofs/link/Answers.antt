-- A size that is none is 16, and so is any other damage, which is judged before 4 and 12 are given; past them one pass has the entry's promise.
use Rattle.table.specs.declared.Refusal.{Refusal}
use Rattle.table.proofs.Checks.{refusing}
use Rattle.asked.proofs.Testing.{refused_by_size, refused_after}
use Rattle.asked.proofs.link.Goals as goal

pub returns-then-outside_sizes : goal.returns-then-outside_sizes
returns-then-outside_sizes c = search (refused_by_size, refusing)

pub returns-then-no_such_switch : goal.returns-then-no_such_switch
returns-then-no_such_switch c =
    let a = c.args in
    refused_after a.book a.stage a.switch a.code Refusal.Place c.judged_first.result c.judged_first.ensures (λ sound. search refusing depth 12)

pub returns-then-code-gt2 : goal.returns-then-code-gt2
returns-then-code-gt2 c =
    let a = c.args in
    refused_after a.book a.stage a.switch a.code Refusal.Tag c.judged_first-then-code-gt2.result c.judged_first-then-code-gt2.ensures (λ sound. search refusing depth 12)
