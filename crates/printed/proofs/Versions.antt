-- docs/RULES.md, 'Classes': "Sheets of version 1 are still run. Each notice of theirs is broken, and each route counts all". A sheet of version 1, and the
-- sheet of version 2 with class 0 everywhere, print the same lines and leave the same book.
use Rattle.std.specs.Prelude.{Ok}
use Rattle.actions.specs.Format.{ActionRead}
use mathlib.Core.Path.{◌≡◌, refl, sym, ap, ap₂, subst, ◌∙◌}
use mathlib.Core.Bool.{false}
use mathlib.Core.Logic.{inr}
use mathlib.Core.List.{List, [], ◌∷◌, ◌++◌, append_assoc}
use Prim.Native.Nat.{ℕ, zero, suc, ◌+◌, ◌*◌, ◌≤◌, ◌<◌}
use native.Mathlib.Omega.{arith}
use lib.ListN.{length, take, drop, length-append, length-drop}
use lib.Seq.{take_at, drop-append-add, drop-drop, length-take-le}
use Rattle.table.specs.Checks.{Passed, Passed.none as nothing, Passed.passes}
use Rattle.table.proofs.Checks.{passed_nth}
use Rattle.notices.specs.declared.Notice.{Notice}
use Rattle.actions.specs.declared.Action.{Action}
use Rattle.actions.specs.Entries.{ReadsAction}
use Rattle.actions.proofs.Actions.{class_zero_alike}
use Rattle.actions.proofs.Exactly.{ten_bytes_broken, ten_bytes_over_all}
use Rattle.sheet.specs.Format.{header_bytes, version_in, size_in, count_in, each_in, headed}
use Rattle.sheet.specs.Entries.{wrong_mark, header_checks, ReadsHeader, part_of}
use Rattle.sheet.proofs.Promises.{header_accepts, header_fields, header_passed, there_yes, part_there}
use Rattle.sheet.proofs.Meanings.{length_exactly}
use Rattle.sheet.proofs.Sheets.{header_read, part_is_each}
use Rattle.actions.specs.Layout.{action_length, bytes_before}
use Rattle.book.specs.declared.Book.{Book}
use Rattle.changes.specs.Runs.{Change}
use Rattle.changes.specs.After.{Changes, Changes.none, Changes.more, After}
use Rattle.printed.specs.Lines.{LineAt}
use Rattle.printed.specs.Runs.{Lines, Lines.start, Lines.more as next, Prints}
use Rattle.printed.proofs.RunOnce.{prints_once}

-- an action of a sheet of version 1 has ten bytes,
ten_bytes : {sheet : List ℕ} {n count : ℕ} → ReadsHeader sheet (headed n count 1) → (k : ℕ) → k < count → length (part_of sheet k) ≡ 10
ten_bytes {sheet} reads k h = part_is_each sheet k (there_yes reads refl h) ∙ ap action_length (sym (header_fields reads).2)

-- so every notice in it is broken, and every route over all
module _ {sheet : List ℕ} {n count : ℕ} (reads : ReadsHeader sheet (headed n count 1)) (k : ℕ) (there : k < count) where
  pub version_1_broken : (x : Notice) → ReadsAction (part_of sheet k) (Ok (Action.File x)) → x.class ≡ 0
  version_1_broken x r = ten_bytes_broken (part_of sheet k) (ten_bytes reads k there) x r

  pub version_1_over_all : (s d choice : ℕ) → ReadsAction (part_of sheet k) (Ok (Action.Route s d choice)) → choice ≡ 0
  version_1_over_all s d choice r = ten_bytes_over_all (part_of sheet k) (ten_bytes reads k there) s d choice r

-- the same actions in both versions: "class 0 everywhere"
pub record ClassZero (one two : List ℕ) (n count : ℕ) : Type 0 where
  pub ten : ReadsHeader one (headed n count 1)
  pub eleven : ReadsHeader two (headed n count 2)
  pub parts : (k : ℕ) → k < count → part_of two k ≡ part_of one k ++ 0 ∷ []

module _ (one two : List ℕ) (n count : ℕ) (same : ClassZero one two n count) where
  -- each action reads as the same
  action_alike : (k : ℕ) (a : ActionRead) → k < count → ReadsAction (part_of one k) a → ReadsAction (part_of two k) a
  action_alike k a h r =
      subst (λ (part : List ℕ). ReadsAction part a) (sym (same.parts k h)) (class_zero_alike (part_of one k) a (ten_bytes same.ten k h) r)

  changes_alike : {k : ℕ} {changes : List Change} → k ≤ count → Changes one k changes → Changes two k changes
  changes_alike h none = none
  changes_alike h (more {k = j} {a = a} held r) = more (changes_alike (omega arith) held) (action_alike j a (omega arith) r)

  -- the book after each is the same
  pub after_alike : {k : ℕ} {b : Book} → k ≤ count → After one n k b → After two n k b
  after_alike h w = record { changes = w.changes; held = changes_alike h w.held; makes = w.makes }

  line_alike : (k : ℕ) (b : Book) (text : List ℕ) → k < count → LineAt n b (part_of one k) text → LineAt n b (part_of two k) text
  line_alike k b text h l = record { action = l.action; reads = action_alike k l.action h l.reads; tells = l.tells }

  lines_alike : {k : ℕ} {text : List ℕ} → k ≤ count → Lines one n k text → Lines two n k text
  lines_alike h start = start
  lines_alike h (next {k = j} {next = line} {b = b} before made l) = next (lines_alike (omega arith) before) (after_alike (omega arith) made) (line_alike j b line (omega arith) l)

  -- and so is all that is printed, which neither version nor class shows in
  pub versions_print_alike : (text : List ℕ) → Prints one (headed n count 1) text → Prints two (headed n count 2) text
  versions_print_alike text p = (p.0, lines_alike (omega arith) p.1, p.2)

  pub no_other_text : (x y : List ℕ) → Prints one (headed n count 1) x → Prints two (headed n count 2) y → x ≡ y
  no_other_text x y p q = prints_once two (headed n count 2) x y (versions_print_alike x p) q

-- the sheet of version 2 that a sheet of version 1 becomes: a byte 0 after each action
unfoldable pub classed : ℕ → List ℕ → List ℕ
classed zero rest = []
classed (suc k) rest = take 10 rest ++ 0 ∷ classed k (drop 10 rest)

abbrev pub in_version2 : List ℕ → List ℕ
in_version2 sheet = header_bytes 2 (size_in sheet) (count_in sheet) ++ classed (count_in sheet) (drop 8 sheet)

length_classed : (k : ℕ) (rest : List ℕ) → length rest ≡ 10 * k → length (classed k rest) ≡ 11 * k
unfolding classed
length_classed zero rest e = refl
length_classed (suc k) rest e =
    let front = length-take-le 10 rest (omega arith) in
    let shorter = length-drop 10 rest in
    let ih = length_classed k (drop 10 rest) (omega arith) in
    length-append (take 10 rest) (0 ∷ classed k (drop 10 rest)) ∙ omega arith

part_classed : (m : ℕ) (rest : List ℕ) (j : ℕ) → length rest ≡ 10 * m → j < m → take 11 (drop (11 * j) (classed m rest)) ≡ take 10 (drop (10 * j) rest) ++ 0 ∷ []
unfolding classed
part_classed zero rest j e h = absurd (omega arith)
part_classed (suc m) rest j e h = go j h (λ i. part_classed m (drop 10 rest) i)
  where
    joined : take 10 rest ++ 0 ∷ classed m (drop 10 rest) ≡ (take 10 rest ++ 0 ∷ []) ++ classed m (drop 10 rest)
    joined = sym (append_assoc (take 10 rest) (0 ∷ []) (classed m (drop 10 rest)))

    eleven : length (take 10 rest ++ 0 ∷ []) ≡ 11
    eleven = let front = length-take-le 10 rest (omega arith) in length-append (take 10 rest) (0 ∷ []) ∙ omega arith

    go : (j : ℕ) → j < suc m
        → ((i : ℕ) → length (drop 10 rest) ≡ 10 * m → i < m → take 11 (drop (11 * i) (classed m (drop 10 rest))) ≡ take 10 (drop (10 * i) (drop 10 rest)) ++ 0 ∷ [])
        → take 11 (drop (11 * j) (take 10 rest ++ 0 ∷ classed m (drop 10 rest))) ≡ take 10 (drop (10 * j) rest) ++ 0 ∷ []
    go zero l ih = ap (take 11) joined ∙ take_at (take 10 rest ++ 0 ∷ []) (classed m (drop 10 rest)) 11 eleven
    go (suc i) l ih =
        let shorter = length-drop 10 rest in
        let at : 11 * suc i ≡ length (take 10 rest ++ 0 ∷ []) + 11 * i = omega (arith, eleven) in
        ap (λ (s : List ℕ). take 11 (drop (11 * suc i) s)) joined
        ∙ ap (λ (p : ℕ). take 11 (drop p ((take 10 rest ++ 0 ∷ []) ++ classed m (drop 10 rest)))) at
        ∙ ap (take 11) (drop-append-add (take 10 rest ++ 0 ∷ []) (classed m (drop 10 rest)) (11 * i))
        ∙ ih i (omega arith) (omega arith)
        ∙ ap (λ (s : List ℕ). take 10 s ++ 0 ∷ []) (drop-drop (10 * i) 10 rest ∙ ap (λ (p : ℕ). drop p rest) {x = 10 + 10 * i} {y = 10 * suc i} (omega arith))

-- every sheet of version 1 has one, so it prints and leaves what that one does
module _ (one : List ℕ) (n count : ℕ) (reads : ReadsHeader one (headed n count 1)) where
  fields : (n ≡ size_in one) × (count ≡ count_in one) × (1 ≡ version_in one)
  fields = header_fields reads

  in_ten : length one ≡ 8 + 10 * count_in one
  in_ten = ((length_exactly one).0 (passed_nth (header_checks one) 2 (header_passed reads))).1 ∙ ap (λ (v : ℕ). 8 + action_length v * count_in one) (sym fields.2)

  rest_long : length (drop 8 one) ≡ 10 * count_in one
  rest_long = let e = in_ten in length-drop 8 one ∙ omega arith

  header : let two : List ℕ = in_version2 one in (version_in two ≡ 2) × (size_in two ≡ size_in one) × (count_in two ≡ count_in one) × (wrong_mark two ≡ false)
  header = header_read 2 (size_in one) (count_in one) (classed (count_in one) (drop 8 one)) (inr refl)

  two_long : length (in_version2 one) ≡ 8 + each_in (in_version2 one) * count_in (in_version2 one)
  two_long =
      let c = length_classed (count_in one) (drop 8 one) rest_long in
      let here : length (in_version2 one) ≡ 8 + 11 * count_in one = omega arith in
      here ∙ ap₂ (λ (v k : ℕ). 8 + action_length v * k) (sym header.0) (sym header.2)

  accepted : ReadsHeader (in_version2 one) (headed n count 2)
  accepted =
      let few = ((length_exactly one).0 (passed_nth (header_checks one) 2 (header_passed reads))).0 in
      let p : Passed (header_checks (in_version2 one)) =
      passes header.3
      (passes (passed_nth (header_checks one) 1 (header_passed reads))
      (passes ((length_exactly (in_version2 one)).1 (subst (λ (k : ℕ). k ≤ 4096) (sym header.2) few, two_long)) nothing)) in
      subst (λ (m : ℕ). ReadsHeader (in_version2 one) (headed m count 2)) (sym fields.0) (header_accepts p (fields.1 ∙ sym header.2) (sym header.0))

  part : (k : ℕ) → k < count → part_of (in_version2 one) k ≡ part_of one k ++ 0 ∷ []
  part k h =
      let less : k < count_in one = subst (λ (m : ℕ). k < m) fields.1 h in
      sym (part_there (there_yes accepted refl h) refl)
      ∙ ap (λ (v : ℕ). take (action_length v) (drop (bytes_before (action_length v) k) (in_version2 one))) header.0
      ∙ ap (take 11) (drop-append-add (header_bytes 2 (size_in one) (count_in one)) (classed (count_in one) (drop 8 one)) (11 * k))
      ∙ part_classed (count_in one) (drop 8 one) k rest_long less
      ∙ ap (λ (s : List ℕ). take 10 s ++ 0 ∷ []) (drop-drop (10 * k) 8 one)
      ∙ ap (λ (v : ℕ). take (action_length v) (drop (bytes_before (action_length v) k) one) ++ 0 ∷ []) fields.2
      ∙ ap (λ (s : List ℕ). s ++ 0 ∷ []) (part_there (there_yes reads refl h) refl)

  pub in_version_2 : ClassZero one (in_version2 one) n count
  in_version_2 = record { ten = reads; eleven = accepted; parts = part }
