-- Words, numbers and lines as docs/RULES.md spells them: one blank between words, and LF at the end and nowhere else.
use mathlib.Core.Path.{◌≡◌, refl, sym, ap, ◌∙◌}
use mathlib.Core.Bool.{Bool, true, ◌&&◌}
use mathlib.Core.List.{List, [], ◌∷◌, ◌++◌, append_assoc}
use Prim.Native.Nat.{ℕ, zero, suc, ◌+◌, ◌*◌, ◌/◌, ◌%◌, ◌≤◌, ◌<◌}
use native.Mathlib.Decide.{dec_lt}
use native.Mathlib.Omega.{arith}
use borrow.Author.Tests.{leb-true}
use lib.Dec.{leb}
use Rattle.table.specs.declared.Refusal.{Refusal}
use Rattle.table.specs.Numbers.{number_of}
use Rattle.table.proofs.Checks.{both_hold}
use Rattle.printed.specs.Words.{ascii, decimal, bits_from, tag_bits, SHEET, FILE, WITHDRAW, ROUTE, ACTION, OK, REFUSED, TAG, NONE, BY, ending, line, refusal}
use Rattle.printed.proofs.Decimals.{decimal_one, decimal_more}

pub words_spelled :
    SHEET ∷ FILE ∷ WITHDRAW ∷ ROUTE ∷ ACTION ∷ OK ∷ REFUSED ∷ TAG ∷ NONE ∷ BY ∷ []
    ≡ ascii "SHEET" ∷ ascii "FILE" ∷ ascii "WITHDRAW" ∷ ascii "ROUTE" ∷ ascii "ACTION" ∷ ascii "OK" ∷ ascii "REFUSED" ∷ ascii "TAG" ∷ ascii "NONE" ∷ ascii "BY" ∷ []
words_spelled = refl

-- every byte of a text lies in these bounds
abbrev pub Within : ℕ → ℕ → List ℕ → Type 0
Within low high [] = Unit
Within low high (c ∷ cs) = (low ≤ c) × (c ≤ high) × Within low high cs

within_both : (low high : ℕ) (a b : List ℕ) → Within low high a → Within low high b → Within low high (a ++ b)
within_both low high [] b v w = w
within_both low high (c ∷ cs) b v w = (v.0, v.1, within_both low high cs b v.2 w)

wider : (a b low high : ℕ) → low ≤ a → b ≤ high → (w : List ℕ) → Within a b w → Within low high w
wider a b low high g h [] v = tt
wider a b low high g h (c ∷ cs) v = let l = v.0 in let m = v.1 in (omega arith, omega arith, wider a b low high g h cs v.2)

-- a number is digits alone
pub decimal_digits : (x : ℕ) → Within 48 57 (decimal x)
decimal_digits x = below (suc x) x (omega arith)
  where
    below : (most x : ℕ) → x < most → Within 48 57 (decimal x)
    below zero x h = absurd (omega arith)
    below (suc most) x h = go (dec_lt x 10) (λ d. below most (x / 10) (omega arith))
      where
        go : Dec (x < 10) → (10 ≤ x → Within 48 57 (decimal (x / 10))) → Within 48 57 (decimal x)
        go (yes d) on = rw (decimal_one x d) (omega arith, omega arith, tt)
        go (no d) on = rw (decimal_more x (omega arith)) (within_both 48 57 (decimal (x / 10)) ((48 + x % 10) ∷ []) (on (omega arith)) (omega arith, omega arith, tt))

-- and so are bits, 0 and 1 alone
pub bits_digits : (i left x : ℕ) → Within 48 49 (bits_from i left x)
unfolding bits_from
bits_digits i zero x = tt
bits_digits i (suc left) x = (omega arith, omega arith, bits_digits (suc i) left x)

-- a line is its one word and LF,
pub line_of_one : (word : List ℕ) → line word [] ≡ word ++ ascii "\n"
line_of_one word = refl

-- or a word, one blank and the line of the words after it
pub line_of_more : (word next : List ℕ) (words : List (List ℕ)) → line word (next ∷ words) ≡ word ++ (ascii " " ++ line next words)
line_of_more word next words = refl

-- a word has no blank and no LF in it
abbrev pub Word : List ℕ → Type 0
Word w = Within 33 126 w

abbrev pub Words : List (List ℕ) → Type 0
Words [] = Unit
Words (w ∷ ws) = Word w × Words ws

pub decimal_is_a_word : (x : ℕ) → Word (decimal x)
decimal_is_a_word x = wider 48 57 33 126 (omega arith) (omega arith) (decimal x) (decimal_digits x)

pub bits_are_a_word : (n tag : ℕ) → Word (tag_bits n tag)
bits_are_a_word n tag = wider 48 49 33 126 (omega arith) (omega arith) (tag_bits n tag) (bits_digits 0 (2 * n) tag)

-- and so are the ten, by a test of each letter
abbrev letters : List ℕ → Bool
letters [] = true
letters (c ∷ cs) = leb 33 c && leb c 126 && letters cs

letters_of_a_word : (w : List ℕ) → letters w ≡ true → Word w
letters_of_a_word [] e = tt
letters_of_a_word (c ∷ cs) e =
    let h = (both_hold (leb 33 c && leb c 126) (letters cs)).0 e in
    let k = (both_hold (leb 33 c) (leb c 126)).0 h.0 in
    (leb-true 33 c k.0, leb-true c 126 k.1, letters_of_a_word cs h.1)

abbrev letters_alone : List (List ℕ) → Bool
letters_alone [] = true
letters_alone (w ∷ ws) = letters w && letters_alone ws

letters_of_words : (ws : List (List ℕ)) → letters_alone ws ≡ true → Words ws
letters_of_words [] e = tt
letters_of_words (w ∷ ws) e =
    let h = (both_hold (letters w) (letters_alone ws)).0 e in
    (letters_of_a_word w h.0, letters_of_words ws h.1)

pub ten_are_words : Words (SHEET ∷ FILE ∷ WITHDRAW ∷ ROUTE ∷ ACTION ∷ OK ∷ REFUSED ∷ TAG ∷ NONE ∷ BY ∷ [])
ten_are_words = letters_of_words (SHEET ∷ FILE ∷ WITHDRAW ∷ ROUTE ∷ ACTION ∷ OK ∷ REFUSED ∷ TAG ∷ NONE ∷ BY ∷ []) refl

-- one line: "a line feed ends each of them", and nowhere else
pub record OneLine (text : List ℕ) : Type 0 where
  pub before : List ℕ
  pub plain : Within 32 126 before
  pub closed : text ≡ before ++ ascii "\n"

pub line_feed_last : (w : List ℕ) (ws : List (List ℕ)) → Word w → Words ws → OneLine (line w ws)
line_feed_last w [] v vs = record { before = w; plain = wider 33 126 32 126 (omega arith) (omega arith) w v; closed = refl }
line_feed_last w (x ∷ xs) v vs =
    let on = line_feed_last x xs vs.0 vs.1 in
    record {
      before = w ++ 32 ∷ on.before;
      plain = within_both 32 126 w (32 ∷ on.before) (wider 33 126 32 126 (omega arith) (omega arith) w v) (omega arith, omega arith, on.plain);
      closed = ap (λ (l : List ℕ). w ++ 32 ∷ l) on.closed ∙ sym (append_assoc w (32 ∷ on.before) (ascii "\n"));
    }

pub refusal_spelled : (why : Refusal) → ending (refusal why) ≡ ascii " REFUSED " ++ decimal (number_of why) ++ ascii "\n"
refusal_spelled why = refl
