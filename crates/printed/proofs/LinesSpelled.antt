-- The lines as docs/RULES.md spells them, and what the worked example prints line by line.
use Rattle.std.specs.Prelude.{Ok, Err}
use Rattle.routes.specs.declared.NoRoute.{NoRoute}
use mathlib.Core.Path.{◌≡◌, refl}
use mathlib.Core.List.{[], ◌∷◌, ◌++◌}
use Prim.Native.Nat.{ℕ}
use Rattle.table.specs.declared.Refusal.{Refusal}
use Rattle.table.specs.Numbers.{number_of}
use Rattle.printed.specs.Words.{ascii, decimal_in, decimal, bits_from, ending}
use Rattle.printed.specs.Told.{told, found_told}
use Rattle.table.specs.Reply.{Answer}
use Rattle.routes.specs.Routed.{Found}
use Rattle.printed.specs.Text.{sheet_line, refused_sheet, file_line, withdraw_line, route_line, fault_line}

-- What the worked example prints; then "`SHEET REFUSED k` and nothing after it", a layout fault, and numbers as large as they come
pub example_lines :
    sheet_line 3 11
    ∷ route_line 3 1 0 (Ok 0)
    ∷ file_line 7 (Ok tt)
    ∷ file_line 8 (Ok tt)
    ∷ file_line 7 (Err Refusal.Stands)
    ∷ withdraw_line 7 (Ok tt)
    ∷ route_line 3 1 0 (Ok 8)
    ∷ file_line 9 (Err Refusal.Wide)
    ∷ file_line 10 (Ok tt)
    ∷ route_line 3 1 0 (Err (NoRoute.NoClearPath 0 8))
    ∷ withdraw_line 9 (Err Refusal.Absent)
    ∷ route_line 3 8 0 (Err (NoRoute.Refused Refusal.Label))
    ∷ refused_sheet Refusal.Mark
    ∷ fault_line Refusal.Layout
    ∷ sheet_line 12 4096
    ∷ route_line 12 0 4095 (Ok 4095)
    ∷ route_line 12 4095 4094 (Err (NoRoute.NoClearPath 11 65535))
    ∷ []
    ≡ ascii "SHEET 3 11\n"
    ∷ ascii "ROUTE 1 0 TAG 000000\n"
    ∷ ascii "FILE 7 OK\n"
    ∷ ascii "FILE 8 OK\n"
    ∷ ascii "FILE 7 REFUSED 7\n"
    ∷ ascii "WITHDRAW 7 OK\n"
    ∷ ascii "ROUTE 1 0 TAG 000100\n"
    ∷ ascii "FILE 9 REFUSED 6\n"
    ∷ ascii "FILE 10 OK\n"
    ∷ ascii "ROUTE 1 0 NONE 0 BY 8\n"
    ∷ ascii "WITHDRAW 9 REFUSED 9\n"
    ∷ ascii "ROUTE 8 0 REFUSED 10\n"
    ∷ ascii "SHEET REFUSED 14\n"
    ∷ ascii "ACTION REFUSED 2\n"
    ∷ ascii "SHEET 12 4096\n"
    ∷ ascii "ROUTE 0 4095 TAG 111111111111000000000000\n"
    ∷ ascii "ROUTE 4095 4094 NONE 11 BY 65535\n"
    ∷ []
unfolding decimal_in bits_from
example_lines = refl

-- "The first line is `SHEET n count`, or, where the header is refused, `SHEET REFUSED k` and nothing after it."
pub sheet_spelled : (n count : ℕ) → sheet_line n count ≡ ascii "SHEET " ++ (decimal n ++ (ascii " " ++ (decimal count ++ ascii "\n")))
sheet_spelled n count = refl

pub refused_sheet_spelled : (why : Refusal) → refused_sheet why ≡ ascii "SHEET REFUSED " ++ decimal (number_of why) ++ ascii "\n"
refused_sheet_spelled why = refl

-- "After `FILE` or `WITHDRAW` come the number of the notice": `told_spelled` says what follows
pub file_spelled : (number : ℕ) (answer : Answer) → file_line number answer ≡ ascii "FILE " ++ decimal number ++ ending (told answer)
file_spelled number answer = refl

pub withdraw_spelled : (number : ℕ) (answer : Answer) → withdraw_line number answer ≡ ascii "WITHDRAW " ++ decimal number ++ ending (told answer)
withdraw_spelled number answer = refl

-- "After `ROUTE` come source and destination": `found_spelled` says what follows
pub route_spelled : (n source destination : ℕ) (answer : Found)
    → route_line n source destination answer ≡ ascii "ROUTE " ++ (decimal source ++ (ascii " " ++ (decimal destination ++ ending (found_told n answer))))
route_spelled n source destination answer = refl

-- "An action with a fault of layout prints `ACTION REFUSED 2`."
pub fault_spelled : (why : Refusal) → fault_line why ≡ ascii "ACTION REFUSED " ++ decimal (number_of why) ++ ascii "\n"
fault_spelled why = refl
