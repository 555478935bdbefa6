-- The end of each answer's line, as docs/RULES.md spells it.
use Rattle.std.specs.Prelude.{Ok, Err}
use Rattle.routes.specs.declared.NoRoute.{NoRoute}
use mathlib.Core.Path.{◌≡◌, refl}
use mathlib.Core.List.{◌++◌}
use Prim.Native.Nat.{ℕ}
use Rattle.table.specs.declared.Refusal.{Refusal}
use Rattle.table.specs.Numbers.{number_of}
use Rattle.printed.specs.Words.{ascii, decimal, tag_bits, ending, refusal}
use Rattle.printed.proofs.WordsSpelled.{Words, ten_are_words, decimal_is_a_word, bits_are_a_word}
use Rattle.table.specs.Reply.{Answer}
use Rattle.routes.specs.Routed.{Found}
use Rattle.printed.specs.Told.{told, found_told}

-- "`OK`, or `REFUSED` and the number of the refusal"
pub told_spelled :
    (ending (told (Ok tt)) ≡ ascii " OK\n")
    × ((why : Refusal) → ending (told (Err why)) ≡ ascii " REFUSED " ++ decimal (number_of why) ++ ascii "\n")
told_spelled = (refl, λ why. refl)

-- "`TAG` and the 2n bits of the tag, bit 0 first; `NONE`, the stage, `BY` and the number of the notice named; or `REFUSED` and the number of the refusal"
pub found_spelled : (n : ℕ)
    → ((tag : ℕ) → ending (found_told n (Ok tag)) ≡ ascii " TAG " ++ tag_bits n tag ++ ascii "\n")
    × ((stage number : ℕ) → ending (found_told n (Err (NoRoute.NoClearPath stage number))) ≡ ascii " NONE " ++ (decimal stage ++ (ascii " BY " ++ (decimal number ++ ascii "\n"))))
    × ((why : Refusal) → ending (found_told n (Err (NoRoute.Refused why))) ≡ ascii " REFUSED " ++ decimal (number_of why) ++ ascii "\n")
found_spelled n = ((λ tag. refl), (λ stage number. refl), (λ why. refl))

-- what an answer prints is words: no blank or LF is in any of them
pub refusal_in_words : (why : Refusal) → Words (refusal why)
refusal_in_words why = (ten_are_words.1.1.1.1.1.1.0, (decimal_is_a_word (number_of why), tt))

pub told_in_words : (answer : Answer) → Words (told answer)
told_in_words (Ok _) = (ten_are_words.1.1.1.1.1.0, tt)
told_in_words (Err why) = refusal_in_words why

pub found_in_words : (n : ℕ) (answer : Found) → Words (found_told n answer)
found_in_words n (Ok tag) = (ten_are_words.1.1.1.1.1.1.1.0, (bits_are_a_word n tag, tt))
found_in_words n (Err (NoRoute.NoClearPath stage number)) =
    let last = ten_are_words.1.1.1.1.1.1.1.1 in
    (last.0, (decimal_is_a_word stage, (last.1.0, (decimal_is_a_word number, tt))))
found_in_words n (Err (NoRoute.Refused why)) = refusal_in_words why
