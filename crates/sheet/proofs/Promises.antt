-- An entry meets its promise where it refuses by a number that its checks give, and where it passes them and does its work.
use Rattle.std.specs.Prelude.{Ok, Err}
use mathlib.Core.Path.{◌≡◌, refl, sym, ap₂, ◌∙◌}
use mathlib.Core.Logic.{◌⊎◌, inl, inr}
use mathlib.Core.List.{List, [], ◌∷◌}
use Prim.Native.Nat.{ℕ, ◌+◌, ◌*◌, ◌≤◌, ◌<◌}
use native.Mathlib.Omega.{arith}
use borrow.Author.Tests.{le-leb, lt-leb, leb-false, ltb-false}
use lib.ListN.{length, take, drop}
use Rattle.table.specs.declared.Refusal.{Refusal}
use Rattle.table.specs.Numbers.{number_of}
use Rattle.table.specs.Reply.{Reply.accepted, refused, Answer}
use Rattle.table.specs.Checks.{◌when◌, ◌below◌, ◌not_below◌, Given, Given.here, Passed, Passed.none, Passed.passes}
use Rattle.table.proofs.Checks.{given_refuses, passed_accepts, accepted_passed, refused_given, accepted_says, given_before, given_after, passed_both, passed_nth, neither}
use Rattle.actions.specs.Layout.{bytes_before}
use Rattle.actions.proofs.Laid.{two_lengths}
use Rattle.sheet.specs.Format.{version_in, size_in, count_in, each_in, HeaderRead, headed}
use Rattle.sheet.specs.Entries.{header_checks, ReadsHeader, there_checks, HasAction, start_of, part_of}
use Rattle.sheet.proofs.Meanings.{length_exactly}

module _ {sheet : List ℕ} where
  pub header_refuses : {why : Refusal} → Given (number_of why) (header_checks sheet) → ReadsHeader sheet (Err why)
  header_refuses {why} g =
      record { says = sym (given_refuses refused (accepted (size_in sheet ∷ count_in sheet ∷ version_in sheet ∷ [])) (number_of why) (header_checks sheet) g) }

  pub header_accepts : {count version : ℕ} → Passed (header_checks sheet) → count ≡ count_in sheet → version ≡ version_in sheet
      → ReadsHeader sheet (headed (size_in sheet) count version)
  header_accepts {count} {version} p e v =
      record {
        says =
            ap₂ (λ (x y : ℕ). accepted (size_in sheet ∷ x ∷ y ∷ [])) e v
            ∙ sym (passed_accepts refused (accepted (size_in sheet ∷ count_in sheet ∷ version_in sheet ∷ [])) (header_checks sheet) p);
      }

  -- what the header's answer says of the checks
  pub header_given : {why : Refusal} → ReadsHeader sheet (Err why) → Given (number_of why) (header_checks sheet)
  header_given {why} r = refused_given (header_checks sheet) (size_in sheet ∷ count_in sheet ∷ version_in sheet ∷ []) (number_of why) r.says

  pub header_passed : {n count version : ℕ} → ReadsHeader sheet (headed n count version) → Passed (header_checks sheet)
  header_passed {n} {count} {version} r = accepted_passed (header_checks sheet) (size_in sheet ∷ count_in sheet ∷ version_in sheet ∷ []) (n ∷ count ∷ version ∷ []) r.says

  pub header_fields : {n count version : ℕ} → ReadsHeader sheet (headed n count version) → (n ≡ size_in sheet) × (count ≡ count_in sheet) × (version ≡ version_in sheet)
  header_fields {n} {count} {version} r =
      let e : n ∷ count ∷ version ∷ [] ≡ size_in sheet ∷ count_in sheet ∷ version_in sheet ∷ [] = accepted_says (header_checks sheet) (size_in sheet ∷ count_in sheet ∷ version_in sheet ∷ []) (n ∷ count ∷ version ∷ []) r.says in
      ((cc), (cc), (cc))

-- 1: the sizes that the header hands out
pub header_sizes : {sheet : List ℕ} {h : HeaderRead} {n count version : ℕ} → ReadsHeader sheet h → h ≡ headed n count version → (1 ≤ n) × (n ≤ 12)
header_sizes {sheet} {h} {n} {count} {version} r e =
    let q : ReadsHeader sheet (headed n count version) = rw e at r in
    let w = neither (size_in sheet below 1) (12 below size_in sheet) (passed_nth (header_checks sheet) 1 (header_passed q)) in
    let some = ltb-false (size_in sheet) 1 w.0 in
    let few = ltb-false 12 (size_in sheet) w.1 in
    let same = (header_fields q).0 in
    (omega arith, omega arith)

module _ {sheet : List ℕ} {k : ℕ} where
  pub there_refuses : {why : Refusal} → Given (number_of why) (there_checks sheet k) → HasAction sheet k (Err why)
  there_refuses {why} g = record { says = sym (given_refuses refused (accepted []) (number_of why) (there_checks sheet k) g) }

  pub there_accepts : Passed (there_checks sheet k) → HasAction sheet k (Ok tt)
  there_accepts p = record { says = sym (passed_accepts refused (accepted []) (there_checks sheet k) p) }

  -- "the header's number where that is refused"
  pub there_by_header : {h : HeaderRead} {why : Refusal} → ReadsHeader sheet h → h ≡ Err why → HasAction sheet k (Err why)
  there_by_header {h} {why} r e =
      there_refuses (given_before (header_checks sheet) ((13 when k not_below count_in sheet) ∷ []) (header_given (rw e at r)))

  -- "13 where the count is k or less"
  pub there_beyond : {h : HeaderRead} {n count version : ℕ} → ReadsHeader sheet h → h ≡ headed n count version → count ≤ k → HasAction sheet k (Err Refusal.Room)
  there_beyond {h} {n} {count} {version} r e b =
      let q : ReadsHeader sheet (headed n count version) = rw e at r in
      let f = (header_fields q).1 in
      there_refuses (given_after (header_checks sheet) ((13 when k not_below count_in sheet) ∷ []) (header_passed q) (here (le-leb (count_in sheet) k (omega arith)) refl))

  pub there_yes : {h : HeaderRead} {n count version : ℕ} → ReadsHeader sheet h → h ≡ headed n count version → k < count → HasAction sheet k (Ok tt)
  there_yes {h} {n} {count} {version} r e b =
      let q : ReadsHeader sheet (headed n count version) = rw e at r in
      let f = (header_fields q).1 in
      there_accepts (passed_both (header_checks sheet) ((13 when k not_below count_in sheet) ∷ []) (header_passed q) (passes (lt-leb (count_in sheet) k (omega arith)) none))

  pub there_passed : HasAction sheet k (Ok tt) → Passed (there_checks sheet k)
  there_passed r = accepted_passed (there_checks sheet k) [] [] r.says

  pub there_given : {why : Refusal} → HasAction sheet k (Err why) → Given (number_of why) (there_checks sheet k)
  there_given {why} r = refused_given (there_checks sheet k) [] (number_of why) r.says

  -- an action that is there lies within the sheet
  pub there_fits : {t : Answer} → HasAction sheet k t → t ≡ Ok tt → (k < 4096) × (bytes_before (each_in sheet) k + each_in sheet ≤ length sheet) × (length sheet ≤ 8 + 11 * 4096)
  there_fits r e =
      let p = there_passed (rw e at r) in
      let early : k < count_in sheet = leb-false (count_in sheet) k (passed_nth (there_checks sheet k) 3 p) in
      let len = (length_exactly sheet).0 (passed_nth (there_checks sheet k) 2 p) in
      go (two_lengths (version_in sheet)) early len.0 len.1
    where
      go : (each_in sheet ≡ 10) ⊎ (each_in sheet ≡ 11) → k < count_in sheet → count_in sheet ≤ 4096 → length sheet ≡ 8 + each_in sheet * count_in sheet
          → (k < 4096) × (bytes_before (each_in sheet) k + each_in sheet ≤ length sheet) × (length sheet ≤ 8 + 11 * 4096)
      go (inl e) early few same = let all : length sheet ≡ 8 + 10 * count_in sheet = rw e at same in rw e (omega arith, omega arith, omega arith)
      go (inr e) early few same = let all : length sheet ≡ 8 + 11 * count_in sheet = rw e at same in rw e (omega arith, omega arith, omega arith)

  pub part_there : {t : Answer} → HasAction sheet k t → t ≡ Ok tt → take (each_in sheet) (drop (bytes_before (each_in sheet) k) sheet) ≡ part_of sheet k
  part_there r e = sym (passed_accepts (λ j. []) (take (each_in sheet) (drop (bytes_before (each_in sheet) k) sheet)) (there_checks sheet k) (there_passed (rw e at r)))

  pub part_nowhere : {t : Answer} {why : Refusal} → HasAction sheet k t → t ≡ Err why → [] ≡ part_of sheet k
  part_nowhere {t} {why} r e =
      sym (given_refuses (λ j. []) (take (each_in sheet) (drop (bytes_before (each_in sheet) k) sheet)) (number_of why) (there_checks sheet k) (there_given {why = why} (rw e at r)))

  -- and where the part starts
  pub start_nowhere : {t : Answer} {why : Refusal} → HasAction sheet k t → t ≡ Err why → 0 ≡ start_of sheet k
  start_nowhere {t} {why} r e = sym (given_refuses (λ j. 0) (bytes_before (each_in sheet) k) (number_of why) (there_checks sheet k) (there_given {why = why} (rw e at r)))

  pub start_there : {t : Answer} → HasAction sheet k t → t ≡ Ok tt → bytes_before (each_in sheet) k ≡ start_of sheet k
  start_there r e = sym (passed_accepts (λ j. 0) (bytes_before (each_in sheet) k) (there_checks sheet k) (there_passed (rw e at r)))
