-- Whoever knows which check was given, or that all are passed, has an entry's whole promise.
use Rattle.std.specs.Prelude.{Ok, Err}
use mathlib.Core.Path.{◌≡◌, sym, ap, ◌∙◌}
use mathlib.Core.Bool.{Bool, true, false, not}
use mathlib.Core.List.{List}
use Prim.Native.Nat.{◌≤◌, ◌<◌}
use native.Mathlib.Omega.{arith}
use borrow.Author.Tests.{le-leb, lt-leb, not-false}
use lib.ListN.{length}
use Rattle.table.specs.declared.Refusal.{Refusal}
use Rattle.table.specs.Numbers.{number_of}
use Rattle.table.specs.Reply.{refused, answer_says}
use Rattle.table.specs.Checks.{Check, Given, Passed, ◌not_below◌}
use Rattle.table.proofs.Checks.{given_refuses, passed_accepts}
use Rattle.book.specs.declared.Book.{Book}
use Rattle.book.specs.declared.Kept.{Kept}
use Rattle.book.specs.Standing.{standing, Sound}
use Rattle.book.specs.Entries.{HandsBack}
use Rattle.book.proofs.Filings.{length_standing}

module _ (checks : List Check) (given made : Book) (r : Kept) where
  pub hands_back_refused : (why : Refusal) → r.book ≡ given → r.answer ≡ Err why → Given (number_of why) checks → HandsBack checks given made r
  hands_back_refused why kept told g =
      record {
        says = ap answer_says told ∙ sym (given_refuses refused _ (number_of why) checks g);
        leaves = kept ∙ sym (given_refuses (λ k. given) made (number_of why) checks g);
      }

  pub hands_back_done : r.book ≡ made → r.answer ≡ Ok tt → Passed checks → HandsBack checks given made r
  hands_back_done kept told p =
      record {
        says = ap answer_says told ∙ sym (passed_accepts refused _ checks p);
        leaves = kept ∙ sym (passed_accepts (λ k. given) made checks p);
      }

  -- the same where the book handed back is known by another name
  pub hands_back_refused_as : {x : Book} → (why : Refusal) → r.book ≡ x → x ≡ given → r.answer ≡ Err why → Given (number_of why) checks → HandsBack checks given made r
  hands_back_refused_as why e f = hands_back_refused why (e ∙ f)

-- what a test says that is turned round
pub turned : {made meant b : Bool} → made ≡ meant → not made ≡ b → not meant ≡ b
turned e f = ap not (sym e) ∙ f

pub found : {made meant : Bool} → made ≡ meant → not made ≡ false → meant ≡ true
found {made = made} e f = sym e ∙ not-false made f

-- "48 notices stand": as many stand as the book counts
module _ (b : Book) (sound : Sound b) (places : length b.notices ≡ 48) where
  pub full : 48 ≤ b.count → (length (standing b) not_below 48) ≡ true
  full h = le-leb 48 (length (standing b)) (let l = length_standing b sound places in omega arith)

  pub not_full : b.count < 48 → (length (standing b) not_below 48) ≡ false
  not_full h = lt-leb 48 (length (standing b)) (let l = length_standing b sound places in omega arith)
