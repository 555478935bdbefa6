-- docs/RULES.md, 'What is printed': how much memory the program needs for its input and for what it prints.
use Rattle.sheet.specs.Format.{headed}
use Rattle.std.specs.Prelude.{ℕ, ◌+◌}
use Rattle.actions.specs.Layout.{action_length, bytes_before}
use Rattle.printed.specs.Runs.{room}

-- 15: "a count of more than 4,096 actions, or another length than the count asks for", and "In version 2 it has eleven". `longest_is_accepted` and
-- `none_is_longer` say that this is the longest sheet.
abbrev pub longest_sheet : ℕ
longest_sheet = bytes_before (action_length 2) 4096

-- the longest sheet and one byte more: `front_answers` says that the front of a longer input then answers as all of it does, `a_byte_less_misleads` that no byte is too many
abbrev pub input_room : ℕ
input_room = longest_sheet + 1

-- what running the longest sheet asks for (`text_is_asked`): `text_fits` says that no run asks for more
abbrev pub text_room : ℕ
text_room = room (headed 12 4096 2)
