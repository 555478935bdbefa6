use mathlib.Core.List.{[], ◌∷◌, ◌++◌}
use mathlib.Core.Path.{◌≡◌, refl, ap, ◌∙◌}
use Prim.Native.Nat.{ℕ, ◌-◌}
use borrow.Author.Rules.{rules}
use lib.ListN.{length, length-append}
use Rattle.std.specs.Prelude.{Option}
use Rattle.std.proofs.lemmas.Iterator.Adapters.{YieldsList-from_rev_slice}
use Rattle.std.proofs.lemmas.Iterator.Consumers.{YieldsList-turn, YieldsList-end}
use Rattle.notices.specs.Notices.{names, unfit}
use Rattle.book.specs.Standing.{standing, stops_of}
use Rattle.questions.specs.Entries.{number_or_none}
use Rattle.asked.specs.Lower.{first_number}
use Rattle.asked.proofs.Lower.{first_is_lowest}
use Rattle.asked.proofs.Testing.{filed_in}
use Rattle.asked.proofs.Judging.{last, last_more, last_all, filed_after, held_more}
use Rattle.asked.proofs.three.stoppers.Goals as goal

pub loop-x-preserved : goal.loop-x-preserved
loop-x-preserved c =
    let a = c.args in
    let b = a.book.now.book in
    let v = c.loop-x in
    let l = standing b in
    let k = length v.yielded in
    let x = c.in-Some.x.now in
    let turn = YieldsList-turn (YieldsList-from_rev_slice {s = c.into_iter-x-iterator.result} l (search rules)) v.yielded _ v.yielded_by _ c.next.new.self c.in-Some.x c.in-Some.is c.next.ensures.steps in
    let m = length (v.yielded ++ c.in-Some.x ∷ []) in
    let from_it = last_more l k m x turn (length-append v.yielded (c.in-Some.x ∷ [])) in
    let filed = filed_after (unfit b.n) l (length l - m) x (last k l) from_it 0 (filed_in b a.stage a.switch 0 a.book.now.sound) in
    let more = held_more (unfit b.n) l (length l - m) x (last k l) from_it filed in (
      c.held.ensures ∙ more (λ y. names b.n y a.stage a.switch 0) _ _ (c.names-straight.ensures b.n refl) v.invariant.0,
      c.held-in-loop-x.ensures ∙ more (λ y. names b.n y a.stage a.switch 1) _ _ (c.names-plus.ensures b.n c.landing-up.ensures.0) v.invariant.1,
      c.held-in-loop-x-2.ensures ∙ more (λ y. names b.n y a.stage a.switch 2) _ _ (c.names-minus.ensures b.n c.landing-down.ensures.0) v.invariant.2,
    )

pub returns : goal.returns
returns c =
    let a = c.args in
    let b = a.book.now.book in
    let v = c.loop-x in
    let l = standing b in
    let end = YieldsList-end (YieldsList-from_rev_slice {s = c.into_iter-x-iterator.result} l (search rules)) v.yielded _ v.yielded_by _ _ c.in-None.is c.next.ensures.steps in
    let all = last_all l (length v.yielded) end.1 in
    let filed = filed_in b a.stage a.switch 0 a.book.now.sound in
    let lowest : (code : ℕ) (found : Option ℕ) → found ≡ first_number (λ x. names b.n x a.stage a.switch code) (last (length v.yielded) l)
    → found ≡ number_or_none (stops_of b a.stage a.switch code) =
    λ code found e. e ∙ ap (first_number (λ x. names b.n x a.stage a.switch code)) all ∙ first_is_lowest (λ x. names b.n x a.stage a.switch code) (unfit b.n) 0 l filed in
    record { straight = lowest 0 _ v.invariant.0; plus = lowest 1 _ v.invariant.1; minus = lowest 2 _ v.invariant.2 }
