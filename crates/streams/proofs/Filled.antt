-- What came by several reads lies at the front of the memory.
use Rattle.std.proofs.Common.{◌≡◌, ℕ, ◌+◌, ◌-◌, ◌≤◌, List, ◌++◌, arith, length, take, slice_range, sym, ap, ◌∙◌, le_refl, drop_at, length-take-le}
use Rattle.std.proofs.lemmas.Slice.{take-put_mid_below}
use borrow.Rule.Slice.PartMut.{put_mid, post_of}
use lib.Seq.{take-add, take-append-le}

front_grows : (a b : ℕ) (old new : List ℕ) → a ≤ b → take a new ≡ take a old → take a old ++ slice_range new a b ≡ take b new
front_grows a b old new h front =
    let same : a + (b - a) ≡ b = omega arith in
    ap (λ l. l ++ slice_range new a b) (sym front) ∙ sym (take-add a (b - a) new) ∙ ap (λ n. take n new) same

part_put : (a k n : ℕ) (memory part : List ℕ) → a ≤ length memory → n ≤ length part → slice_range (put_mid a k memory part) a (a + n) ≡ take n part
part_put a k n memory part within fits =
    let same : (a + n) - a ≡ n = omega arith in
    let after = post_of a k memory in
    ap (take ((a + n) - a)) (drop_at (take a memory) (part ++ after) a (length-take-le a memory within)) ∙ ap (λ m. take m (part ++ after)) same ∙ take-append-le n part after fits

-- what the front was, and what came into a part after it, is the longer front
pub joined : (a k n : ℕ) (memory part : List ℕ) → a ≤ length memory → n ≤ length part → take a memory ++ take n part ≡ take (a + n) (put_mid a k memory part)
joined a k n memory part within fits =
    let came = part_put a k n memory part within fits in
    let long = front_grows a (a + n) memory (put_mid a k memory part) (omega arith) (take-put_mid_below _ _ _ _ _ (le_refl _) within) in
    ap (λ l. take a memory ++ l) (sym came) ∙ long
