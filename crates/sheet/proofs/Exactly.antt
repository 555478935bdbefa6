-- What the entries over a sheet answer, said of the sheet's bytes alone.
use Rattle.std.specs.Prelude.{Ok, Err}
use mathlib.Core.Path.{◌≡◌, refl, sym, ap, ap₂, subst, ◌∙◌}
use mathlib.Core.Bool.{Bool, true, false, cond, true≢false}
use mathlib.Core.Logic.{◌⊎◌, ◌↔◌}
use mathlib.Core.List.{List, [], ◌∷◌, ◌++◌}
use Prim.Native.Nat.{ℕ, ◌+◌, ◌*◌, ◌≤◌, ◌<◌}
use native.Mathlib.Omega.{arith}
use borrow.Author.Tests.{le-ltb, ltb-false, leb-false}
use lib.ListN.{length, drop, get_or, take-append-drop}
use lib.Seq.{get_or-take, get_or-drop}
use Rattle.table.specs.declared.Refusal.{Refusal}
use Rattle.table.specs.Reply.{Reply, Numbered, refused, answer_says, Answer}
use Rattle.table.specs.Checks.{checked, ◌below◌, Given, Given.here, Given.later, Passed, Passed.none, Passed.passes}
use Rattle.table.proofs.Numbers.{above_zero}
use Rattle.table.proofs.Checks.{passed_accepts, accepted_passed, refused_given, passed_nth, neither, neither_of, zero_one}
use Rattle.fabric.specs.Labels.{outside_sizes}
use Rattle.actions.specs.Layout.{action_length, bytes_before}
use Rattle.sheet.specs.Format.{header_bytes, version_in, size_in, count_in, each_in, HeaderRead, headed}
use Rattle.sheet.specs.Entries.{header_says, wrong_mark, wrong_length, header_checks, there_checks, ReadsHeader, HasAction, start_of, part_of}
use Rattle.sheet.proofs.Meanings.{length_exactly}
use Rattle.sheet.proofs.Promises.{header_accepts, there_yes, start_there, part_there, part_nowhere, start_nowhere}
use Rattle.sheet.proofs.Sheets.{header_read, header_written, there_once}

pub header_numbered : (h : HeaderRead) → Numbered (header_says h)
header_numbered (Ok head) = let n = head.n in let count = head.count in let version = head.version in tt
header_numbered (Err why) = above_zero why

-- 14: "a sheet of fewer than eight bytes, or with another mark or version": where no header stands at the sheet's front, neither of version 1 nor of version 2
pub fourteen_exactly : (sheet : List ℕ) → ((i : ℕ) → get_or sheet i 0 < 256) → (h : HeaderRead) → ReadsHeader sheet h
    → (header_says h ≡ refused 14) ↔ ((version n count : ℕ) (rest : List ℕ) → (version ≡ 1) ⊎ (version ≡ 2) → sheet ≡ header_bytes version n count ++ rest → ⊥)
fourteen_exactly sheet bytes h r = (
  (λ e version n count rest v s. there version n count rest v s (refused_given (header_checks sheet) (size_in sheet ∷ count_in sheet ∷ version_in sheet ∷ []) 14 (sym e ∙ r.says))),
  (λ missing. r.says ∙ go missing (wrong_mark sheet) refl),
)
  where
    there : (version n count : ℕ) (rest : List ℕ) → (version ≡ 1) ⊎ (version ≡ 2) → sheet ≡ header_bytes version n count ++ rest → Given 14 (header_checks sheet) → ⊥
    there version n count rest v s (here g e) = true≢false (sym g ∙ ap wrong_mark s ∙ (header_read version n count rest v).3)
    there version n count rest v s (later g (here f e)) = zero_one (omega arith)
    there version n count rest v s (later g (later f (here d e))) = zero_one (omega arith)
    there version n count rest v s (later g (later f (later _ x12))) = elim x12 [ ]

    go : ((version n count : ℕ) (rest : List ℕ) → (version ≡ 1) ⊎ (version ≡ 2) → sheet ≡ header_bytes version n count ++ rest → ⊥) → (b : Bool) → wrong_mark sheet ≡ b
        → checked (header_checks sheet) refused (Reply.accepted (size_in sheet ∷ count_in sheet ∷ version_in sheet ∷ [])) ≡ refused 14
    go missing true e = rw e
    go missing false e =
        let w = header_written sheet bytes e in
        absurd (missing (version_in sheet) (size_in sheet) (count_in sheet) (drop 8 sheet) w.0 (sym (take-append-drop 8 sheet) ∙ ap (λ (l : List ℕ). l ++ drop 8 sheet) w.1))

-- a header with what follows it
module _ (version n count : ℕ) (rest : List ℕ) (right_version : (version ≡ 1) ⊎ (version ≡ 2)) (h : HeaderRead) (r : ReadsHeader (header_bytes version n count ++ rest) h) where
  abbrev sheet : List ℕ
  sheet = header_bytes version n count ++ rest

  read : (version_in sheet ≡ version) × (size_in sheet ≡ n) × (count_in sheet ≡ count) × (wrong_mark sheet ≡ false)
  read = header_read version n count rest right_version

  size_right : (outside_sizes n ≡ false) ↔ ((1 ≤ n) × (n ≤ 12))
  size_right = (
    (λ e. let w = neither (n below 1) (12 below n) e in (ltb-false n 1 w.0, ltb-false 12 n w.1)),
    (λ w. neither_of (n below 1) (12 below n) (le-ltb n 1 w.0) (le-ltb 12 n w.1)),
  )

  -- "8 + 10 x count", or 8 + 11 x count, as the version says
  length_right : (wrong_length sheet ≡ false) ↔ ((count ≤ 4096) × (length rest ≡ action_length version * count))
  length_right = (
    (λ e. let w = (length_exactly sheet).0 e in (subst (λ (k : ℕ). k ≤ 4096) read.2 w.0, after (sym front ∙ w.1 ∙ same))),
    (λ w. (length_exactly sheet).1 (subst (λ (k : ℕ). k ≤ 4096) (sym read.2) w.0, front ∙ ap (λ (k : ℕ). 8 + k) w.1 ∙ sym same)),
  )
    where
      same : 8 + each_in sheet * count_in sheet ≡ 8 + action_length version * count
      same = ap₂ (λ (v k : ℕ). 8 + action_length v * k) read.0 read.2

      front : length sheet ≡ 8 + length rest
      front = omega arith

      after : 8 + length rest ≡ 8 + action_length version * count → length rest ≡ action_length version * count
      after e = omega arith

  judged : header_says h ≡ cond (outside_sizes n) (refused 1) (cond (wrong_length sheet) (refused 15) (Reply.accepted (n ∷ count_in sheet ∷ version_in sheet ∷ [])))
  judged = r.says ∙ rw read.3

  -- 1: "n is 0 or above 12"
  pub one_exactly : (header_says h ≡ refused 1) ↔ ((1 ≤ n) × (n ≤ 12) → ⊥)
  one_exactly = ((λ e w. other (wrong_length sheet) (sym e ∙ judged ∙ rw (size_right.1 w))), (λ w. go w (outside_sizes n) refl))
    where
      other : (b : Bool) → refused 1 ≡ cond b (refused 15) (Reply.accepted (n ∷ count_in sheet ∷ version_in sheet ∷ [])) → ⊥
      other true e = let f : ◌≡◌ {A = ℕ} 1 15 = cc in omega arith
      other false e = zero_one cc

      go : ((1 ≤ n) × (n ≤ 12) → ⊥) → (b : Bool) → outside_sizes n ≡ b → header_says h ≡ refused 1
      go w true e = judged ∙ rw e
      go w false e = absurd (w (size_right.0 e))

  -- 15: "a count of more than 4,096 actions, or another length than the count asks for"
  pub fifteen_exactly : (1 ≤ n) × (n ≤ 12) → (header_says h ≡ refused 15) ↔ ((count ≤ 4096) × (length rest ≡ action_length version * count) → ⊥)
  fifteen_exactly right = (
    (λ e w. let f : refused 15 ≡ Reply.accepted (n ∷ count_in sheet ∷ version_in sheet ∷ []) = sym e ∙ judged ∙ rw (size_right.1 right, length_right.1 w) in zero_one cc),
    (λ w. go w (wrong_length sheet) refl),
  )
    where
      go : ((count ≤ 4096) × (length rest ≡ action_length version * count) → ⊥) → (b : Bool) → wrong_length sheet ≡ b → header_says h ≡ refused 15
      go w true e = judged ∙ rw (size_right.1 right, e)
      go w false e = absurd (w (length_right.0 e))

  -- "Past these it answers n, the count and the version": for n from 1 to 12, a count up to 4,096, 0 with it, and exactly 10 x count bytes more, or 11 x
  -- count, as the version says
  pub header_exactly : (header_says h ≡ Reply.accepted (n ∷ count ∷ version ∷ [])) ↔ ((1 ≤ n) × (n ≤ 12) × (count ≤ 4096) × (length rest ≡ action_length version * count))
  header_exactly = (
    (λ e.
        let p = accepted_passed (header_checks sheet) (size_in sheet ∷ count_in sheet ∷ version_in sheet ∷ []) (n ∷ count ∷ version ∷ []) (sym e ∙ r.says) in
        let s = size_right.0 (passed_nth (header_checks sheet) 1 p) in
        let l = length_right.0 (passed_nth (header_checks sheet) 2 p) in
        (s.0, s.1, l.0, l.1)),
    (λ w.
        let p : Passed (header_checks sheet) = passes read.3 (passes (size_right.1 (w.0, w.1)) (passes (length_right.1 (w.2, w.3)) none)) in
        r.says
        ∙ passed_accepts refused (Reply.accepted (size_in sheet ∷ count_in sheet ∷ version_in sheet ∷ [])) (header_checks sheet) p
        ∙ ap₂ (λ (c v : ℕ). Reply.accepted (n ∷ c ∷ v ∷ [])) read.2 read.0),
  )

-- "Is action k there": where the header is accepted and k is below its count
pub there_exactly : (sheet : List ℕ) (k : ℕ) (t : Answer) → HasAction sheet k t
    → (answer_says t ≡ Reply.accepted []) ↔ ((n count version : ℕ) × ReadsHeader sheet (headed n count version) × (k < count))
there_exactly sheet k t r = (
  (λ e. header (accepted_passed (there_checks sheet k) [] [] (sym e ∙ r.says))),
  (λ w. ap answer_says (there_once sheet k t (Ok tt) r (there_yes w.3 refl w.4))),
)
  where
    header : Passed (there_checks sheet k) → (n count version : ℕ) × ReadsHeader sheet (headed n count version) × (k < count)
    header (passes a (passes b (passes c (passes d none)))) =
        (size_in sheet, count_in sheet, version_in sheet, header_accepts (passes a (passes b (passes c none))) refl refl, leb-false (count_in sheet) k d)

-- "where the entry before accepts, a part of the caller's own sheet, the ten or eleven bytes of the action": `part_is_each` says that there are no more
pub part_bytes : (sheet : List ℕ) (k : ℕ) → HasAction sheet k (Ok tt)
    → (start_of sheet k ≡ 8 + each_in sheet * k) × ((i : ℕ) → i < each_in sheet → get_or (part_of sheet k) i 0 ≡ get_or sheet (8 + each_in sheet * k + i) 0)
part_bytes sheet k r =
    let start : ℕ = bytes_before (each_in sheet) k in (
      sym (start_there r refl),
      (λ i h. ap (λ (l : List ℕ). get_or l i 0) (sym (part_there r refl)) ∙ get_or-take (each_in sheet) (drop start sheet) i 0 h ∙ get_or-drop start sheet i 0),
    )

-- "where it refuses, the empty part at the front of the sheet"
pub part_empty : (sheet : List ℕ) (k : ℕ) (why : Refusal) → HasAction sheet k (Err why) → (start_of sheet k ≡ 0) × (part_of sheet k ≡ [])
part_empty sheet k why r = (sym (start_nowhere r refl), sym (part_nowhere r refl))
