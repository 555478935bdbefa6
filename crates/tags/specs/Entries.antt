-- docs/RULES.md, 'Entries': what tag to steps, steps to tag and the normal form of a tag answer, and what they leave in the lent
-- memory. The theorems named here stand in proofs/Exactly.antt, where no other file is named.
use Rattle.std.specs.Prelude.{◌≡◌, Bool, List, [], ◌∷◌, ◌++◌, ℕ, Result, length, take, drop}
use Rattle.std.specs.List.{list_any}
use Rattle.table.specs.declared.Refusal.{Refusal}
use Rattle.table.specs.Reply.{Answer, Reply, refused, says, alone, answer_says}
use Rattle.table.specs.Checks.{Check, checked, ◌when◌, ◌below◌, ◌not_below◌}
use Rattle.fabric.specs.Labels.{size, outside_sizes}
use Rattle.scheme.specs.Tags.{tags, steps_of, normal_tag}

-- the number and values of a tag that is answered: `tag_numbered` says that no refusal has number 0; `written_exactly`,
-- `normal_tag_exactly` and `normal_form_exactly` say when an entry accepts, and with what
abbrev pub Tag : Type 0
Tag = Result ℕ Refusal

abbrev pub tag_says : Tag → Reply
tag_says = says alone

-- "a code that is not 0, 1 or 2": `some_above_exactly`
abbrev pub some_above_two : List ℕ → Bool
some_above_two steps = list_any (λ c. 2 below c) steps

-- "Tag to steps (n, source, tag, memory): 1, 10, 12, 13. The first n bytes of the memory are written."
-- `tag_to_steps_order` and `tag_to_steps_lines` say the checks; `refused_untouched`, `front_written` and `rest_stays`
-- what is left in the memory.
abbrev pub tag_to_steps_checks : ℕ → ℕ → ℕ → List ℕ → List Check
tag_to_steps_checks n s tag m =
    (1 when outside_sizes n) ∷ (10 when s not_below size n) ∷ (12 when tag not_below tags n) ∷ (13 when length m below n) ∷ []

pub record TagToSteps (n s tag : ℕ) (lent : List ℕ) (answer : Answer) (left : List ℕ) : Type 0 where
  pub says : answer_says answer ≡ checked (tag_to_steps_checks n s tag lent) refused (Reply.accepted [])
  pub leaves : left ≡ checked (tag_to_steps_checks n s tag lent) (λ k. lent) (steps_of n s tag ++ drop n lent)

-- "Steps to tag (n, source, memory): 1, 10, 13, 12. It reads n bytes and none after them." `steps_to_tag_order` and
-- `steps_to_tag_lines` say the checks, `later_bytes_unread` (proofs/Entries.antt) the last sentence.
abbrev pub steps_to_tag_checks : ℕ → ℕ → List ℕ → List Check
steps_to_tag_checks n s m =
    (1 when outside_sizes n) ∷ (10 when s not_below size n) ∷ (13 when length m below n) ∷ (12 when some_above_two (take n m)) ∷ []

pub record StepsToTag (n s : ℕ) (lent : List ℕ) (answer : Tag) : Type 0 where
  pub says : tag_says answer ≡ checked (steps_to_tag_checks n s lent) refused (Reply.accepted (normal_tag n s (take n lent) ∷ []))

-- "Normal form (n, source, tag): 1, 10, 12." `normal_form_order` and `normal_form_lines` say the checks;
-- `form_clears_straight`, `form_keeps_turns` and `form_keeps_destination` (proofs/Entries.antt) what the normal form changes.
abbrev pub normal_form_checks : ℕ → ℕ → ℕ → List Check
normal_form_checks n s tag = (1 when outside_sizes n) ∷ (10 when s not_below size n) ∷ (12 when tag not_below tags n) ∷ []

pub record NormalForm (n s tag : ℕ) (answer : Tag) : Type 0 where
  pub says : tag_says answer ≡ checked (normal_form_checks n s tag) refused (Reply.accepted (normal_tag n s (steps_of n s tag) ∷ []))
