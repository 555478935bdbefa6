-- How the functions that write speak to each other. No rule of docs/RULES.md: `Runs` of printed is what they lead to.
use Rattle.std.specs.Prelude.{◌≡◌, List, ◌++◌, ℕ, ◌+◌, length, take, drop}

-- a text was written at a place of lent memory and all else is as before; the place after it
pub record Wrote (before : List ℕ) (at : ℕ) (text after : List ℕ) (next : ℕ) : Type 0 where
  pub leaves : after ≡ take at before ++ text ++ drop (at + length text) before
  pub ends : next ≡ at + length text
