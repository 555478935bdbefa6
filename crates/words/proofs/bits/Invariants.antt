-- After i turns the first i bits lie in their places: `paste` of length i.
use mathlib.Core.Path.{◌≡◌}
use Prim.Native.Nat.{◌≤◌}
use lib.ListN.{length}
use lib.Seq.{paste}
use Rattle.printed.specs.Words.{bits_from}
use Rattle.words.proofs.bits.Given as goal

abbrev pub invariant-loop-i : goal.invariant-loop-i
invariant-loop-i l = (l.i ≤ l.count) × (l.out ≡ paste l.initial.out l.at (bits_from 0 l.count l.x) l.i) × (length l.out ≡ length l.initial.out)
