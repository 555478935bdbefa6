use mathlib.Core.List.{[], ◌∷◌, ◌++◌}
use mathlib.Core.Path.{◌≡◌, refl, sym, ap, ◌∙◌}
use Prim.Native.Nat.{◌+◌, ◌-◌}
use native.Mathlib.Omega.{arith}
use borrow.Author.Rules.{rules}
use lib.ListN.{length, take, length-append}
use Rattle.std.specs.Prelude.{Some}
use Rattle.std.proofs.lemmas.Iterator.Adapters.{YieldsList-from_rev_slice}
use Rattle.std.proofs.lemmas.Iterator.Consumers.{YieldsList-turn, YieldsList-end}
use Rattle.table.proofs.Checks.{neither}
use Rattle.notices.specs.Notices.{names, unfit}
use Rattle.standing.specs.Rising.{littered}
use Rattle.standing.proofs.Reading.{length_mapped}
use Rattle.asked.specs.Lower.{out_of_order}
use Rattle.asked.proofs.Judging.{last, last_more, last_none, none_before, judged_none, here_misfiled, pass_more, judged_all, none_yet, all_found}
use Rattle.asked.proofs.Testing.{rest_unused, refused_by_order, refused_by_litter, passed_tests}
use Rattle.asked.proofs.pass.in_one_pass.Goals as goal

pub loop-x-init : goal.loop-x-init
loop-x-init c =
    let a = c.args in
    let b = a.book.now in
    let l = take b.count b.notices in
    (judged_none (unfit b.n) (last 0 l) (last_none l), (none_yet b.n (length l - 0) l (omega arith) a.stage a.switch a.code).0)

pub returns-then-misplaced : goal.returns-then-misplaced
returns-then-misplaced c =
    let a = c.args in
    let b = a.book.now in
    let v = c.loop-x in
    let l = take b.count b.notices in
    let k = length v.yielded in
    let x = c.in-Some.x.now in
    let turn = YieldsList-turn (YieldsList-from_rev_slice {s = c.into_iter-x-iterator.result} l (search rules)) v.yielded _ v.yielded_by _ c.next.new.self c.in-Some.x c.in-Some.is c.next.ensures.steps in
    refused_by_order b a.stage a.switch a.code
    (here_misfiled (unfit b.n) l (length l - (k + 1)) x (last k l) (last_more l k (k + 1) x turn refl) v.next v.invariant.0 (sym c.misplaced.ensures ∙ c.if-misplaced.true))

pub loop-x-preserved-then-names : goal.loop-x-preserved-then-names
loop-x-preserved-then-names c =
    let a = c.args in
    let b = a.book.now in
    let v = c.loop-x in
    let l = take b.count b.notices in
    let k = length v.yielded in
    let x = c.in-Some.x.now in
    let turn = YieldsList-turn (YieldsList-from_rev_slice {s = c.into_iter-x-iterator.result} l (search rules)) v.yielded _ v.yielded_by _ c.next.new.self c.in-Some.x c.in-Some.is c.next.ensures.steps in
    let m = length (v.yielded ++ c.in-Some.x ∷ []) in
    let from_it = last_more l k m x turn (length-append v.yielded (c.in-Some.x ∷ [])) in
    let fine = neither (out_of_order x.number v.next) (unfit b.n x) (sym c.misplaced.ensures ∙ c.if-misplaced.false) in
    let named = sym c.if-names.true ∙ c.names.ensures b.n c.landing-end.ensures.0 in
    let more =
    pass_more (unfit b.n) l (length l - m) x (last k l) from_it v.next v.invariant.0 fine.0 fine.1 (λ y. names b.n y a.stage a.switch a.code) _ v.lowest named v.invariant.1 in
    (more.0, ap Some c.lower.ensures ∙ more.1)

pub loop-x-preserved : goal.loop-x-preserved
loop-x-preserved c =
    let a = c.args in
    let b = a.book.now in
    let v = c.loop-x in
    let l = take b.count b.notices in
    let k = length v.yielded in
    let x = c.in-Some.x.now in
    let turn = YieldsList-turn (YieldsList-from_rev_slice {s = c.into_iter-x-iterator.result} l (search rules)) v.yielded _ v.yielded_by _ c.next.new.self c.in-Some.x c.in-Some.is c.next.ensures.steps in
    let m = length (v.yielded ++ c.in-Some.x ∷ []) in
    let from_it = last_more l k m x turn (length-append v.yielded (c.in-Some.x ∷ [])) in
    let fine = neither (out_of_order x.number v.next) (unfit b.n x) (sym c.misplaced.ensures ∙ c.if-misplaced.false) in
    let named = sym c.if-names.false ∙ c.names.ensures b.n c.landing-end.ensures.0 in
    pass_more (unfit b.n) l (length l - m) x (last k l) from_it v.next v.invariant.0 fine.0 fine.1 (λ y. names b.n y a.stage a.switch a.code) _ v.lowest named v.invariant.1

pub returns-then-out_of_order : goal.returns-then-out_of_order
returns-then-out_of_order c =
    let a = c.args in
    let b = a.book.now in
    let v = c.loop-x in
    let l = take b.count b.notices in
    let end = YieldsList-end (YieldsList-from_rev_slice {s = c.into_iter-x-iterator.result} l (search rules)) v.yielded _ v.yielded_by _ _ c.in-None.is c.next.ensures.steps in
    let judged = judged_all (unfit b.n) v.next (length l - length v.yielded) l (none_before l (length v.yielded) end.1) v.invariant.0 in
    refused_by_order b a.stage a.switch a.code (judged ∙ sym c.out_of_order.ensures ∙ c.if-out_of_order.true)

pub returns-then-littered : goal.returns-then-littered
returns-then-littered c =
    let a = c.args in
    let b = a.book.now in
    let full : length b.notices ≡ 48 = search (rules, length_mapped) in
    refused_by_litter b a.stage a.switch a.code (sym (ap littered (rest_unused b full)) ∙ sym c.littered.ensures ∙ c.if-littered.true)

-- Past all of it the answer is due:
-- no place that is not in use has been left out.
pub returns : goal.returns
returns c =
    let a = c.args in
    let b = a.book.now in
    let v = c.loop-x in
    let l = take b.count b.notices in
    let end = YieldsList-end (YieldsList-from_rev_slice {s = c.into_iter-x-iterator.result} l (search rules)) v.yielded _ v.yielded_by _ _ c.in-None.is c.next.ensures.steps in
    let first = none_before l (length v.yielded) end.1 in
    let judged = judged_all (unfit b.n) v.next (length l - length v.yielded) l first v.invariant.0 in
    let full : length b.notices ≡ 48 = search (rules, length_mapped) in
    passed_tests b a.stage a.switch a.code v.lowest c.requires.0 c.requires.1 c.if-count-gt48.false (judged ∙ sym c.out_of_order.ensures ∙ c.if-out_of_order.false)
    (sym (ap littered (rest_unused b full)) ∙ sym c.littered.ensures ∙ c.if-littered.false)
    c.requires.2 c.requires.3 c.requires.4 (v.invariant.1 ∙ (all_found b.n l (length l - length v.yielded) first a.stage a.switch a.code).0)
