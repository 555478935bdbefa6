-- The line of an action is that of its entry's answer, and a layout fault comes before anything that the entry would answer.
use Rattle.actions.specs.Format.{ActionRead, InSheets}
use Rattle.std.specs.Prelude.{Err, Ok}
use Rattle.routes.specs.declared.NoRoute.{NoRoute}
use mathlib.Core.Path.{◌≡◌, refl, sym, ap, subst, ◌∙◌}
use mathlib.Core.Bool.{true≢false}
use mathlib.Core.Logic.{◌⊎◌, inl, inr}
use mathlib.Core.List.{List, [], ◌∷◌, ◌++◌}
use Prim.Native.Nat.{ℕ, ◌≤◌, ◌<◌}
use native.Mathlib.Omega.{arith}
use lib.ListN.{length, get_or}
use Rattle.table.specs.declared.Refusal.{Refusal}
use Rattle.table.specs.Reply.{refused}
use Rattle.table.specs.Checks.{Given, Given.here, Given.later, Passed}
use Rattle.table.proofs.Checks.{zero_one, given_or_passed}
use Rattle.printed.specs.Words.{ascii, decimal_in, decimal, ending, refusal, FILE, WITHDRAW, ROUTE, ACTION}
use Rattle.printed.proofs.WordsSpelled.{OneLine, line_feed_last, ten_are_words, decimal_is_a_word}
use Rattle.printed.specs.Told.{told, found_told}
use Rattle.printed.proofs.AnswersSpelled.{refusal_in_words, told_in_words, found_in_words}
use Rattle.book.specs.declared.Book.{Book}
use Rattle.book.specs.declared.Kept.{Kept}
use Rattle.book.specs.Entries.{Files, Withdraws}
use Rattle.book.proofs.Once.{files_once, withdraws_once}
use Rattle.notices.specs.declared.Notice.{Notice}
use Rattle.notices.proofs.Classes.{class_within}
use Rattle.routes.specs.Routed.{route_says, Routed, route_checks, Routes, Found}
use Rattle.book.specs.Standing.{counted_stops}
use Rattle.routes.proofs.Entries.{route_once}
use Rattle.actions.specs.declared.Action.{Action}
use Rattle.actions.specs.Entries.{ReadsAction}
use Rattle.actions.proofs.Promises.{action_refuses}
use Rattle.actions.proofs.Actions.{action_once}
use Rattle.actions.proofs.Exactly.{Spells, action_in_sheets, two_exactly}
use Rattle.printed.specs.Text.{file_line, withdraw_line, route_line}
use Rattle.printed.specs.Lines.{LineOf, LineAt}

-- what an action prints is what its entry answers
module _ (n : ℕ) (b : Book) (text : List ℕ) where
  pub filing_line : (x : Notice) (r : Kept) → Files b x r → LineOf n b (Ok (Action.File x)) text → text ≡ ascii "FILE " ++ decimal x.number ++ ending (told r.answer)
  filing_line x r f l = l.2 ∙ ap (λ (k : Kept). file_line x.number k.answer) (files_once b x l.0 r l.1 f)

  pub withdrawing_line : (k : ℕ) (r : Kept) → Withdraws b k r → LineOf n b (Ok (Action.Withdraw k)) text → text ≡ ascii "WITHDRAW " ++ decimal k ++ ending (told r.answer)
  withdrawing_line k r f l = l.2 ∙ ap (λ (m : Kept). withdraw_line k m.answer) (withdraws_once b k l.0 r l.1 f)

  pub routing_line : (s d choice : ℕ) (r : Found) → Routes b s d choice r → LineOf n b (Ok (Action.Route s d choice)) text
      → text ≡ ascii "ROUTE " ++ (decimal s ++ (ascii " " ++ (decimal d ++ ending (found_told n r))))
  routing_line s d choice r f l = l.2 ∙ ap (route_line n s d) (route_once b s d choice l.0 r l.1 f)

  -- the line of a part is that of the action that it holds
  pub line_by_action : (part : List ℕ) (a : ActionRead) → ReadsAction part a → LineAt n b part text → LineOf n b a text
  line_by_action part a reads l = rw (action_once part l.action a l.reads reads) at l.tells

  refused_line : (part : List ℕ) → ReadsAction part (Err Refusal.Layout) → LineAt n b part text → text ≡ ascii "ACTION REFUSED 2\n"
  unfolding decimal_in
  refused_line part r l = line_by_action part (Err Refusal.Layout) r l

  -- "2 is judged before anything that the entry itself checks.": over any book, bytes that no action has print this
  pub fault_first : (part : List ℕ) → (length part ≡ 10) ⊎ (length part ≡ 11) → ((i : ℕ) → get_or part i 0 < 256) → ((a : ActionRead) → InSheets a → Spells part a → ⊥)
      → LineAt n b part text → text ≡ ascii "ACTION REFUSED 2\n"
  fault_first part ten bytes missing l = refused_line part ((two_exactly part ten bytes).1 missing) l

  -- so a filing of number 0 with a spare field set: 2, and not 3
  pub fault_before_number_0 : LineAt n b (1 ∷ 0 ∷ 0 ∷ 1 ∷ 0 ∷ 0 ∷ 1 ∷ 0 ∷ 3 ∷ 4 ∷ []) text → text ≡ ascii "ACTION REFUSED 2\n"
  fault_before_number_0 l = refused_line (1 ∷ 0 ∷ 0 ∷ 1 ∷ 0 ∷ 0 ∷ 1 ∷ 0 ∷ 3 ∷ 4 ∷ []) (action_refuses (later refl (here refl refl))) l

  -- a filing of class 2, a route of choice 2 and a withdrawal with a class: 2, and neither 5 nor an answer
  pub class_faults_printed :
      (LineAt n b (1 ∷ 0 ∷ 7 ∷ 1 ∷ 0 ∷ 0 ∷ 1 ∷ 0 ∷ 0 ∷ 4 ∷ 2 ∷ []) text → text ≡ ascii "ACTION REFUSED 2\n")
      × (LineAt n b (3 ∷ 0 ∷ 0 ∷ 0 ∷ 0 ∷ 0 ∷ 1 ∷ 0 ∷ 0 ∷ 0 ∷ 2 ∷ []) text → text ≡ ascii "ACTION REFUSED 2\n")
      × (LineAt n b (2 ∷ 0 ∷ 7 ∷ 0 ∷ 0 ∷ 0 ∷ 0 ∷ 0 ∷ 0 ∷ 0 ∷ 1 ∷ []) text → text ≡ ascii "ACTION REFUSED 2\n")
  class_faults_printed = (
    (λ l. refused_line (1 ∷ 0 ∷ 7 ∷ 1 ∷ 0 ∷ 0 ∷ 1 ∷ 0 ∷ 0 ∷ 4 ∷ 2 ∷ []) (action_refuses (later refl (here refl refl))) l),
    (λ l. refused_line (3 ∷ 0 ∷ 0 ∷ 0 ∷ 0 ∷ 0 ∷ 1 ∷ 0 ∷ 0 ∷ 0 ∷ 2 ∷ []) (action_refuses (later refl (here refl refl))) l),
    (λ l. refused_line (2 ∷ 0 ∷ 7 ∷ 0 ∷ 0 ∷ 0 ∷ 0 ∷ 0 ∷ 0 ∷ 0 ∷ 1 ∷ []) (action_refuses (later refl (here refl refl))) l),
  )

  -- of what is read from bytes the choice is 0 or 1,
  no_five_given : (part : List ℕ) → length part ≤ 11 → ((i : ℕ) → get_or part i 0 < 256) → (s d choice : ℕ) → ReadsAction part (Ok (Action.Route s d choice))
      → Given 5 (route_checks b s d choice) → ⊥
  no_five_given part short bytes s d choice reads (here h e) = zero_one (omega arith)
  no_five_given part short bytes s d choice reads (later g (here h e)) = zero_one (omega arith)
  no_five_given part short bytes s d choice reads (later g (later f (here h e))) =
      true≢false (sym h ∙ (class_within choice).1 (action_in_sheets part (Ok (Action.Route s d choice)) short bytes tt reads))
  no_five_given part short bytes s d choice reads (later g (later f (later _ x12))) = elim x12 [ ]

  -- so the answer of a route whose line is printed is never 5
  pub no_five_printed : (part : List ℕ) → length part ≤ 11 → ((i : ℕ) → get_or part i 0 < 256) → (s d choice : ℕ) → ReadsAction part (Ok (Action.Route s d choice))
      → (r : Found) → Routes b s d choice r → r ≡ Err (NoRoute.Refused Refusal.Field) → ⊥
  no_five_printed part short bytes s d choice reads r routes e = go (given_or_passed (route_checks b s d choice))
    where
      go : ((k : ℕ) × Given k (route_checks b s d choice)) ⊎ Passed (route_checks b s d choice) → ⊥
      go (inl g) =
          let f : refused 5 ≡ refused g.0 = ap route_says (sym e) ∙ routes.refuses g.0 g.1 in
          let five : ◌≡◌ {A = ℕ} g.0 5 = cc in
          no_five_given part short bytes s d choice reads (subst (λ (k : ℕ). Given k (route_checks b s d choice)) five g.1)
      go (inr p) = subst (Routed b.n (counted_stops choice b) s d) e (routes.routes p)

  -- "a line feed ends each of them", and nowhere else in a line
  pub line_is_one : (a : ActionRead) → LineOf n b a text → OneLine text
  line_is_one (Ok (Action.File x)) l =
      rw l.2 (line_feed_last FILE (decimal x.number ∷ told l.0.answer) ten_are_words.1.0 (decimal_is_a_word x.number, told_in_words l.0.answer))
  line_is_one (Ok (Action.Withdraw k)) l =
      rw l.2 (line_feed_last WITHDRAW (decimal k ∷ told l.0.answer) ten_are_words.1.1.0 (decimal_is_a_word k, told_in_words l.0.answer))
  line_is_one (Ok (Action.Route s d choice)) l =
      rw l.2
      (line_feed_last ROUTE (decimal s ∷ decimal d ∷ found_told n l.0) ten_are_words.1.1.1.0 (decimal_is_a_word s, (decimal_is_a_word d, found_in_words n l.0)))
  line_is_one (Err why) l = rw l (line_feed_last ACTION (refusal why) ten_are_words.1.1.1.1.0 (refusal_in_words why))
