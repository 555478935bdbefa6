-- How the functions that write a number speak to each other. No rule of docs/RULES.md: `decimal` of printed is what they lead to.
use Rattle.std.specs.Prelude.{◌≡◌, List, [], ◌∷◌, ◌++◌, ℕ, zero, suc, ◌+◌, ◌/◌, ◌%◌, ◌≤◌, ◌<◌}

-- so many of a number's last digits
unfoldable pub last_digits : ℕ → ℕ → List ℕ
last_digits zero x = []
last_digits (suc more) x = last_digits more (x / 10) ++ (48 + x % 10) ∷ []

-- 1 where a number is not below another one, and 0 where it is
pub record Reaches (least x r : ℕ) : Type 0 where
  pub below : x < least → r ≡ 0
  pub reached : least ≤ x → r ≡ 1
  pub small : r ≤ 1
