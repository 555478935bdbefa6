-- What a run's answer says, when 13 is given, how much room is asked for, and what stands where in a text.
use Rattle.sheet.specs.Format.{HeaderRead, headed}
use Rattle.std.specs.Prelude.{Ok, Err}
use mathlib.Core.Path.{◌≡◌, refl, sym, ap, subst, ◌∙◌}
use mathlib.Core.Logic.{◌↔◌}
use mathlib.Core.List.{List, [], ◌∷◌, ◌++◌, append_assoc, append-nil}
use Prim.Native.Nat.{ℕ, suc, ◌+◌, ◌<◌}
use native.Mathlib.Decide.{dec_lt}
use native.Mathlib.Omega.{arith}
use borrow.Author.Tests.{lt-ltb, le-ltb}
use lib.ListN.{length, take, drop}
use lib.Seq.{take-append_seam, drop-append_seam}
use Rattle.table.specs.declared.Refusal.{Refusal}
use Rattle.table.specs.Numbers.{number_of}
use Rattle.table.specs.Reply.{Reply.accepted, Numbered}
use Rattle.table.specs.Checks.{numbers, Given, Given.here, Passed.none, Passed.passes}
use Rattle.table.proofs.Checks.{not_given_and_passed, zero_one}
use Rattle.table.proofs.Numbers.{above_zero}
use Rattle.book.specs.declared.Book.{Book}
use Rattle.changes.specs.After.{After}
use Rattle.sheet.specs.Entries.{part_of}
use Rattle.printed.specs.Words.{ascii, decimal}
use Rattle.printed.specs.Text.{sheet_line}
use Rattle.printed.specs.Lines.{LineAt}
use Rattle.printed.specs.Runs.{Lines, Lines.start, Lines.more, Prints, room, run_checks, ran_says, Printed, Ran}

-- a run has one check, 13,
pub run_order : (header : HeaderRead) (memory : List ℕ) → numbers (run_checks header memory) ≡ 13 ∷ []
run_order header memory = refl

-- "the lent memory is not long enough": shorter than the room that the run asks for
pub thirteen_exactly : (header : HeaderRead) (memory : List ℕ) → Given 13 (run_checks header memory) ↔ (length memory < room header)
thirteen_exactly header memory = (short, λ h. here (lt-ltb (length memory) (room header) h) refl)
  where
    short : Given 13 (run_checks header memory) → length memory < room header
    short g = go (dec_lt (length memory) (room header))
      where
        go : Dec (length memory < room header) → length memory < room header
        go (yes h) = h
        go (no h) = absurd (not_given_and_passed 13 (run_checks header memory) g (passes (le-ltb (length memory) (room header) (omega arith)) none))

-- 24 bytes, and 48 more for each action
pub room_grows : (n count version : ℕ) (why : Refusal) → (room (Err why) ≡ 24) × (room (headed n 0 version) ≡ 24) × (room (headed n (suc count) version) ≡ room (headed n count version) + 48)
room_grows n count version why = (refl, refl, omega arith)

-- no refusal has number 0, and what is accepted is a length
pub ran_numbered : (a : Ran) → Numbered (ran_says a)
ran_numbered (Ok bytes) = tt
ran_numbered (Err why) = above_zero why

pub printed_exactly : (a : Ran) (bytes : ℕ) → (ran_says a ≡ accepted (bytes ∷ [])) ↔ (a ≡ Ok bytes)
printed_exactly (Ok k) bytes = ((λ e. let same : k ≡ bytes = cc in ap Ok same), (λ e. ap ran_says e))
printed_exactly (Err why) bytes = ((λ e. absurd (zero_one cc)), (λ e. absurd (zero_one cc)))

-- the text lies at the front of the memory, so many bytes as the answer says, and the rest is as before
pub front_and_rest : (sheet : List ℕ) (h : HeaderRead) (before : List ℕ) (bytes : ℕ) (after : List ℕ) → Printed sheet h before (Ok bytes) after
    → (text : List ℕ) × Prints sheet h text × (take bytes after ≡ text) × (drop bytes after ≡ drop bytes before)
front_and_rest sheet h before bytes after w =
    let text = w.0 in
    let e : accepted (bytes ∷ []) ≡ accepted (length text ∷ []) = w.2 in
    let same : bytes ≡ length text = cc in
    (text, w.1, rw (same, w.3) (take-append_seam text (drop (length text) before)), rw (same, w.3) (drop-append_seam text (drop (length text) before)))

-- "SHEET REFUSED k"
pub refused_text : (sheet : List ℕ) (why : Refusal) (text : List ℕ) → Prints sheet (Err why) text
    → text ≡ ascii "SHEET REFUSED " ++ decimal (number_of why) ++ ascii "\n"
refused_text sheet why text p = p

-- "SHEET n count", and the lines of as many actions
pub first_line : (sheet : List ℕ) (n count version : ℕ) (text : List ℕ) → Prints sheet (headed n count version) text
    → (lines : List ℕ) × Lines sheet n count lines × (text ≡ ascii "SHEET " ++ (decimal n ++ (ascii " " ++ (decimal count ++ ascii "\n"))) ++ lines)
first_line sheet n count version text p = p

-- the line of action j stands in a text, over the book that the actions before it leave, after the lines of those
pub record LineIn (sheet : List ℕ) (n : ℕ) (text : List ℕ) (j : ℕ) : Type 0 where
  pub first : List ℕ
  pub line : List ℕ
  pub rest : List ℕ
  pub before : Book
  pub earlier : Lines sheet n j first
  pub made : After sheet n j before
  pub tells : LineAt n before (part_of sheet j) line
  pub stands : text ≡ first ++ (line ++ rest)

-- "For every action comes one line more"
pub action_line_at : {sheet : List ℕ} {n : ℕ} {text : List ℕ} {k : ℕ} (j : ℕ) → j < k → Lines sheet n k text → LineIn sheet n text j
action_line_at j h start = absurd (omega arith)
action_line_at {sheet = sheet} {n = n} j h (more {k = i} {text = text} {next = next} {b = b} v made p) = go (dec_lt j i) (λ less. action_line_at j less v)
  where
    go : Dec (j < i) → (j < i → LineIn sheet n text j) → LineIn sheet n (text ++ next) j
    go (yes less) on =
        let w = on less in
        let e : text ++ next ≡ w.first ++ (w.line ++ (w.rest ++ next)) =
        ap (λ (l : List ℕ). l ++ next) w.stands
        ∙ append_assoc w.first (w.line ++ w.rest) next
        ∙ ap (λ (l : List ℕ). w.first ++ l) (append_assoc w.line w.rest next) in
        record { first = w.first; line = w.line; rest = w.rest ++ next; before = w.before; earlier = w.earlier; made = w.made; tells = w.tells; stands = e }
    go (no last) on =
        let same : i ≡ j = omega arith in
        record {
          first = text;
          line = next;
          rest = [];
          before = b;
          earlier = rw same at v;
          made = subst (λ (x : ℕ). After sheet n x b) same made;
          tells = subst (λ (x : ℕ). LineAt n b (part_of sheet x) next) same p;
          stands = ap (λ (l : List ℕ). text ++ l) (sym (append-nil next));
        }

-- and so in all that is printed, after the first line
pub every_action_printed : (sheet : List ℕ) (n count version : ℕ) (text : List ℕ) (j : ℕ) → j < count → Prints sheet (headed n count version) text
    → (lines : List ℕ) × LineIn sheet n lines j × (text ≡ sheet_line n count ++ lines)
every_action_printed sheet n count version text j h p = (p.0, action_line_at j h p.1, p.2)
