-- A text has as many lines as its header says, each with LF at its end, so a text that is cut short is seen by counting.
use Rattle.std.specs.Prelude.{Ok, Err}
use Rattle.sheet.specs.Format.{HeaderRead}
use mathlib.Core.Path.{◌≡◌, refl, sym, ap, ◌∙◌}
use mathlib.Core.Logic.{◌⊎◌, inl, inr}
use mathlib.Core.List.{List, [], ◌∷◌, ◌++◌, append_assoc, append-nil}
use Prim.Native.Nat.{ℕ, ◌≤◌, ◌<◌, ◌+◌}
use native.Mathlib.Omega.{arith}
use borrow.Author.Tests.{ne_eqb}
use Rattle.table.specs.declared.Refusal.{Refusal}
use Rattle.printed.specs.Words.{decimal, refusal, SHEET}
use Rattle.printed.specs.Text.{sheet_line, refused_sheet}
use Rattle.printed.specs.Runs.{Lines, Lines.start, Lines.more, Prints}
use Rattle.printed.specs.LineEnds.{line_ends, lines_of}
use Rattle.printed.proofs.WordsSpelled.{Within, OneLine, line_feed_last, ten_are_words, decimal_is_a_word}
use Rattle.printed.proofs.AnswersSpelled.{refusal_in_words}
use Rattle.printed.proofs.Answered.{line_is_one}
use Rattle.printed.proofs.Texts.{first_line, refused_text}

ends_append : (a b : List ℕ) → line_ends (a ++ b) ≡ line_ends a + line_ends b
ends_append [] b = omega arith
ends_append (x ∷ a) b = let e = ends_append a b in omega arith

-- what has no LF in it ends no line, and one line ends one
plain_ends : (text : List ℕ) → Within 32 126 text → line_ends text ≡ 0
plain_ends [] v = refl
plain_ends (c ∷ text) v = let low = v.0 in let rest = plain_ends text v.2 in rw (ne_eqb c 10 (λ (h : c ≡ 10). omega arith)) (omega arith)

one_end : {text : List ℕ} → OneLine text → line_ends text ≡ 1
one_end one =
    let e = ap line_ends one.closed ∙ ends_append one.before (10 ∷ []) in
    let p = plain_ends one.before one.plain in
    omega arith

-- "For every action comes one line more"
pub line_for_each : {sheet : List ℕ} {n : ℕ} {text : List ℕ} {k : ℕ} → Lines sheet n k text → line_ends text ≡ k
line_for_each start = refl
line_for_each {n = n} (more {k = k} {text = text} {next = next} {b = b} v made p) =
    let one = one_end (line_is_one n b next p.action p.tells) in
    let e = ends_append text next in
    let rest = line_for_each v in
    omega arith

-- "The first line is `SHEET n count`, or, where the header is refused, `SHEET REFUSED k` and nothing after it."
first_ends : (n count : ℕ) → OneLine (sheet_line n count)
first_ends n count = line_feed_last SHEET (decimal n ∷ decimal count ∷ []) ten_are_words.0 (decimal_is_a_word n, (decimal_is_a_word count, tt))

refused_ends : (why : Refusal) → OneLine (refused_sheet why)
refused_ends why = line_feed_last SHEET (refusal why) ten_are_words.0 (refusal_in_words why)

pub text_lines : (sheet : List ℕ) (h : HeaderRead) (text : List ℕ) → Prints sheet h text → line_ends text ≡ lines_of h
text_lines sheet (Ok head) text p =
    let w = first_line sheet head.n head.count head.version text p in
    let e = ap line_ends w.2 ∙ ends_append (sheet_line head.n head.count) w.0 in
    let first = one_end (first_ends head.n head.count) in
    let rest = line_for_each w.1 in
    omega arith
text_lines sheet (Err why) text p = ap line_ends (refused_text sheet why text p) ∙ one_end (refused_ends why)

-- and LF is its last byte
lines_closed : {sheet text : List ℕ} {n k : ℕ} → Lines sheet n k text → (text ≡ []) ⊎ ((front : List ℕ) × (text ≡ front ++ 10 ∷ []))
lines_closed start = inl refl
lines_closed {n = n} (more {text = text} {next = next} {b = b} v made p) =
    let one = line_is_one n b next p.action p.tells in
    inr (text ++ one.before, ap (λ (l : List ℕ). text ++ l) one.closed ∙ sym (append_assoc text one.before (10 ∷ [])))

pub text_closed : (sheet : List ℕ) (h : HeaderRead) (text : List ℕ) → Prints sheet h text → (front : List ℕ) × (text ≡ front ++ 10 ∷ [])
text_closed sheet (Ok head) text p = go (first_line sheet head.n head.count head.version text p)
  where
    first : List ℕ
    first = sheet_line head.n head.count

    end : (lines : List ℕ) → (lines ≡ []) ⊎ ((front : List ℕ) × (lines ≡ front ++ 10 ∷ [])) → (front : List ℕ) × (first ++ lines ≡ front ++ 10 ∷ [])
    end lines (inl e) = let one = first_ends head.n head.count in (one.before, ap (λ (l : List ℕ). first ++ l) e ∙ append-nil first ∙ one.closed)
    end lines (inr w) = (first ++ w.0, ap (λ (l : List ℕ). first ++ l) w.1 ∙ sym (append_assoc first w.0 (10 ∷ [])))

    go : (lines : List ℕ) × Lines sheet head.n head.count lines × (text ≡ first ++ lines) → (front : List ℕ) × (text ≡ front ++ 10 ∷ [])
    go w = let e = end w.0 (lines_closed w.1) in (e.0, w.2 ∙ e.1)
text_closed sheet (Err why) text p = ((refused_ends why).before, refused_text sheet why text p ∙ (refused_ends why).closed)

-- what is cut off the end of such a text takes a line's end with it
cut_has_end : (part : List ℕ) (x : ℕ) (rest front : List ℕ) → part ++ x ∷ rest ≡ front ++ 10 ∷ [] → 1 ≤ line_ends (x ∷ rest)
cut_has_end [] x rest front e =
    let f = ap line_ends e ∙ ends_append front (10 ∷ []) in
    omega arith
cut_has_end (y ∷ part) x rest [] e =
    let f : part ++ x ∷ rest ≡ [] = cc in
    absurd (not_empty part f)
  where
    not_empty : (l : List ℕ) → l ++ x ∷ rest ≡ [] → ⊥
    not_empty [] f = let z : ◌≡◌ {A = ℕ} 0 1 = cc in omega arith
    not_empty (w ∷ l) f = let z : ◌≡◌ {A = ℕ} 0 1 = cc in omega arith
cut_has_end (y ∷ part) x rest (z ∷ front) e =
    let f : part ++ x ∷ rest ≡ front ++ 10 ∷ [] = cc in
    cut_has_end part x rest front f

-- so a text that is cut short has fewer lines than its header says: this is what a script can test, since a program has no status
pub cut_is_seen : (sheet : List ℕ) (h : HeaderRead) (text : List ℕ) (part : List ℕ) (x : ℕ) (rest : List ℕ) → Prints sheet h text → text ≡ part ++ x ∷ rest → line_ends part < lines_of h
cut_is_seen sheet h text part x rest p e =
    let w = text_closed sheet h text p in
    let cut = cut_has_end part x rest w.0 (sym e ∙ w.1) in
    let all = text_lines sheet h text p in
    let both = ap line_ends e ∙ ends_append part (x ∷ rest) in
    omega arith
