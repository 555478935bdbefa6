-- The set is moved to its stage's four bits, and each stage's links are told apart there: `set_more`.
use Rattle.std.proofs.Common.{ℕ, ◌*◌, ◌/◌, ◌%◌, ◌^◌, ap, ◌∙◌, arith, shl_exact}
use lib.Bits.{bit_or}
use Rattle.frontier.specs.Stops.{has}
use Rattle.frontier.proofs.Sets.{set_more}
use Rattle.frontier.proofs.links.Stops.with.Goals as goal

pub returns : goal.returns
returns c = λ i code h.
    let a = c.args in
    let small = c.requires.1 in
    let few = c.requires.0 in
    ap (λ (x : ℕ). has (bit_or a.self.sets (x * 2 ^ (4 * a.i) % 18446744073709551616) / 2 ^ (4 * i) % 16) code) c.from.ensures
    ∙ ap (λ (x : ℕ). has (bit_or a.self.sets x / 2 ^ (4 * i) % 16) code) (shl_exact 3 (4 * a.i) 64 small (omega arith))
    ∙ set_more a.set a.i small a.self.sets i code h
