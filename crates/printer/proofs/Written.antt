-- A text that is printed of a sheet, written at the front of the memory, makes a run.
use Rattle.sheet.specs.Format.{HeaderRead}
use Rattle.std.specs.Prelude.{Ok}
use mathlib.Core.Path.{◌∙◌}
use mathlib.Core.List.{List}
use Prim.Native.Nat.{ℕ, ◌≤◌}
use native.Mathlib.Nat.{zero-add}
use lib.ListN.{length}
use Rattle.words.specs.Wrote.{Wrote}
use Rattle.words.proofs.Writing.{wrote_front}
use Rattle.printed.specs.Runs.{Prints, room, RunsBy, Ran}
use Rattle.printed.proofs.Promises.{runs_whole}

pub runs_written : (sheet : List ℕ) (header : HeaderRead) (before : List ℕ) {text after : List ℕ} {next : ℕ}
    → room header ≤ length before → Prints sheet header text → Wrote before 0 text after next → next ≤ room header → RunsBy sheet header before (Ok next) after
runs_written sheet header before {text} fits p w short = runs_whole sheet header before text fits p (w.ends ∙ zero-add (length text)) (wrote_front w) short
