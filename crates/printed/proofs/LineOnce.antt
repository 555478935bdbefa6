-- No action has a second line.
use Rattle.std.specs.Prelude.{Ok, Err}
use Rattle.actions.specs.Format.{ActionRead}
use mathlib.Core.Path.{◌≡◌, sym, ◌∙◌}
use mathlib.Core.List.{List}
use Prim.Native.Nat.{ℕ}
use Rattle.book.specs.declared.Book.{Book}
use Rattle.actions.specs.declared.Action.{Action}
use Rattle.printed.specs.Lines.{LineOf, LineAt}
use Rattle.printed.proofs.Answered.{filing_line, withdrawing_line, routing_line, line_by_action}

-- an action has one line: that of what its entry answers
pub line_once : (n : ℕ) (b : Book) (a : ActionRead) (x y : List ℕ) → LineOf n b a x → LineOf n b a y → x ≡ y
line_once n b (Ok (Action.File z)) x y p q = filing_line n b x z q.0 q.1 p ∙ sym (filing_line n b y z q.0 q.1 q)
line_once n b (Ok (Action.Withdraw k)) x y p q = withdrawing_line n b x k q.0 q.1 p ∙ sym (withdrawing_line n b y k q.0 q.1 q)
line_once n b (Ok (Action.Route s t choice)) x y p q = routing_line n b x s t choice q.0 q.1 p ∙ sym (routing_line n b y s t choice q.0 q.1 q)
line_once n b (Err why) x y p q = p ∙ sym q

pub line_at_once : (n : ℕ) (b : Book) (part x y : List ℕ) → LineAt n b part x → LineAt n b part y → x ≡ y
line_at_once n b part x y p q = line_once n b q.action x y (line_by_action n b x part q.action q.reads p) q.tells
