-- docs/RULES.md, 'What is printed': the lines. `example_lines` has the output of the worked example, quoted; what each line is for
-- any values say the theorems that are named beside it.
use Rattle.std.specs.Prelude.{List, [], ◌∷◌, ℕ}
use Rattle.table.specs.declared.Refusal.{Refusal}
use Rattle.printed.specs.Told.{told, found_told}
use Rattle.printed.specs.Words.{decimal, line, refusal, SHEET, FILE, WITHDRAW, ROUTE, ACTION}
use Rattle.table.specs.Reply.{Answer}
use Rattle.routes.specs.Routed.{Found}

-- "The first line is `SHEET n count`, or, where the header is refused, `SHEET REFUSED k` and nothing after it.": `sheet_spelled`, `refused_sheet_spelled`
abbrev pub sheet_line : ℕ → ℕ → List ℕ
sheet_line n count = line SHEET (decimal n ∷ decimal count ∷ [])

abbrev pub refused_sheet : Refusal → List ℕ
refused_sheet why = line SHEET (refusal why)

-- "After `FILE` or `WITHDRAW` come the number of the notice and `OK`, or `REFUSED` and the number of the refusal.": `file_spelled`, `withdraw_spelled`
abbrev pub file_line : ℕ → Answer → List ℕ
file_line number answer = line FILE (decimal number ∷ told answer)

abbrev pub withdraw_line : ℕ → Answer → List ℕ
withdraw_line number answer = line WITHDRAW (decimal number ∷ told answer)

-- "After `ROUTE` come source and destination": `route_spelled`
abbrev pub route_line : ℕ → ℕ → ℕ → Found → List ℕ
route_line n source destination answer = line ROUTE (decimal source ∷ decimal destination ∷ found_told n answer)

-- "An action with a fault of layout prints `ACTION REFUSED 2`.": `fault_spelled`
abbrev pub fault_line : Refusal → List ℕ
fault_line why = line ACTION (refusal why)
