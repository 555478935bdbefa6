-- "Run from an empty book, the sheet leads to a book that answers everything alike; and that book, written again, gives the same bytes." The sheet
-- of a book is accepted, its actions are the filings of the notices that stand, each of these is accepted, and the book that they make is the book
-- itself.
use Rattle.actions.specs.Format.{ActionRead, word}
use Rattle.std.specs.Prelude.{Ok}
use mathlib.Core.Path.{◌≡◌, refl, sym, ap, ap₂, subst, ◌∙◌}
use mathlib.Core.Bool.{true, false}
use mathlib.Core.Logic.{◌⊎◌, inl, inr}
use mathlib.Core.List.{List, [], ◌∷◌, ◌++◌, map, Memᴰ}
use Prim.Native.Nat.{ℕ, zero, suc, ◌+◌, ◌*◌, ◌≤◌, ◌<◌}
use native.Mathlib.Decide.{ℕ_discrete}
use native.Mathlib.Omega.{arith}
use lib.ListN.{length, take, drop, get_or}
use lib.Seq.{drop-append-add, take-suc, take-length}
use Rattle.table.specs.Reply.{Answer}
use Rattle.table.specs.Checks.{Check, Passed, Passed.none, Passed.passes}
use Rattle.fabric.specs.Labels.{outside_sizes}
use Rattle.notices.specs.declared.Notice.{Notice}
use Rattle.notices.specs.Notices.{unfit}
use Rattle.notices.specs.Classes.{busy}
use Rattle.standing.specs.Picked.{some}
use Rattle.standing.specs.Rising.{filler}
use Rattle.standing.proofs.Members.{filed_exactly, filed_distinct}
use Rattle.standing.proofs.Distinct.{at_place}
use Rattle.actions.specs.declared.Action.{Action}
use Rattle.actions.specs.Layout.{action_length, bytes_before, filing}
use Rattle.actions.specs.Rows.{rows}
use Rattle.actions.specs.Entries.{ReadsAction}
use Rattle.actions.proofs.Laid.{two_lengths, class_last, number_in}
use Rattle.actions.proofs.Listings.{whole_row, row_at}
use Rattle.actions.proofs.Actions.{action_once}
use Rattle.actions.proofs.Exactly.{Spells, action_exactly}
use Rattle.sheet.specs.Format.{header_bytes, version_in, size_in, count_in, each_in, HeaderRead, headed}
use Rattle.sheet.specs.Entries.{wrong_mark, header_checks, ReadsHeader, HasAction, part_of}
use Rattle.sheet.proofs.Meanings.{length_exactly}
use Rattle.sheet.proofs.Promises.{header_accepts, there_yes, part_there}
use Rattle.sheet.proofs.Sheets.{header_read, header_once}
use Rattle.book.specs.declared.Book.{Book}
use Rattle.book.specs.Standing.{standing, unsound, Sound}
use Rattle.book.specs.Entries.{opened}
use Rattle.book.proofs.Counted.{class_held}
use Rattle.changes.specs.Runs.{Change, run, AllAccepted}
use Rattle.changes.specs.After.{Changes, Changes.none, Changes.more, After}
use Rattle.book.proofs.Filings.{size_passes, sound_if}
use Rattle.changes.proofs.Sounds.{whole}
use Rattle.changes.proofs.Reach.{opened_is, any_order}
use Rattle.changes.proofs.After.{after_once}
use Rattle.written.specs.Sheets.{version_for, each_for, sheet_of, WritesSheet, Writes, Written}
use Rattle.written.proofs.Definitions.{by_version, version_1_exactly, each_within}
use Rattle.written.proofs.Handing.{length_sheet, at_most_48}
use Rattle.written.proofs.Entries.{sheet_answered}

filings_snoc : (l : List Notice) (x : Notice) → map Change.file (l ++ x ∷ []) ≡ map Change.file l ++ Change.file x ∷ []
filings_snoc [] x = refl
filings_snoc (y ∷ l) x = ap (λ (cs : List Change). Change.file y ∷ cs) (filings_snoc l x)

-- a class that is 0 or 1, and not 1, is 0
broken_then : (class : ℕ) → class ≤ 1 → (class ≡ 1 → ⊥) → class ≡ 0
broken_then class h other = go (ℕ_discrete class 0)
  where
    go : Dec (class ≡ 0) → class ≡ 0
    go (yes e) = e
    go (no e) = absurd (other (omega arith))

module _ (b : Book) (places : length b.notices ≡ 48) (ok : unsound b ≡ false) where
  abbrev many : ℕ
  many = length (standing b)

  sound : Sound b
  sound = sound_if b places ok

  right_size : outside_sizes b.n ≡ false
  right_size = size_passes b.n sound.some sound.few

  one_or_two : (version_for (standing b) ≡ 1) ⊎ (version_for (standing b) ≡ 2)
  one_or_two = go (by_version (standing b))
    where
      go : ((version_for (standing b) ≡ 1) × (some busy (standing b) ≡ false)) ⊎ ((version_for (standing b) ≡ 2) × (some busy (standing b) ≡ true)) → (version_for (standing b) ≡ 1) ⊎ (version_for (standing b) ≡ 2)
      go (inl w) = inl w.0
      go (inr w) = inr w.0

  in_header : (version_in (sheet_of b) ≡ version_for (standing b)) × (size_in (sheet_of b) ≡ b.n) × (count_in (sheet_of b) ≡ many) × (wrong_mark (sheet_of b) ≡ false)
  in_header = header_read (version_for (standing b)) b.n many (rows (each_for (standing b)) (standing b)) one_or_two

  same_each : each_in (sheet_of b) ≡ each_for (standing b)
  same_each = ap action_length in_header.0

  -- "A book is written as a sheet": it is accepted as one, of the book's size and with an action for each notice that stands,
  pub header_of_sheet : ReadsHeader (sheet_of b) (headed b.n many (version_for (standing b)))
  header_of_sheet =
      let c : count_in (sheet_of b) ≡ many = in_header.2 in
      let h = at_most_48 b sound in
      let few : count_in (sheet_of b) ≤ 4096 = omega arith in
      let long : length (sheet_of b) ≡ 8 + each_in (sheet_of b) * count_in (sheet_of b) =
      length_sheet b ∙ ap₂ (λ (m k : ℕ). 8 + m * k) (sym same_each) (sym c) in
      let p : Passed (header_checks (sheet_of b)) = passes in_header.3 (passes right_size (passes ((length_exactly (sheet_of b)).1 (few, long)) none)) in
      header_accepts p (sym c) (sym in_header.0)

  pub header_no_other : (h : HeaderRead) → ReadsHeader (sheet_of b) h → h ≡ headed b.n many (version_for (standing b))
  header_no_other h r = header_once (sheet_of b) h (headed b.n many (version_for (standing b))) r header_of_sheet

  -- "a filing of every notice that stands": each action is there and is the filing of the notice in its place,
  pub filing_there : (k : ℕ) → k < many → HasAction (sheet_of b) k (Ok tt)
  filing_there k h = there_yes header_of_sheet refl h

  pub part_of_sheet : (k : ℕ) → k < many → part_of (sheet_of b) k ≡ take (each_for (standing b)) (filing (get_or (standing b) k filler))
  part_of_sheet k h =
      sym (part_there (filing_there k h) refl)
      ∙ ap (λ (m : ℕ). take m (drop (bytes_before m k) (sheet_of b))) same_each
      ∙ ap (take (each_for (standing b))) (drop-append-add (header_bytes (version_for (standing b)) b.n many) (rows (each_for (standing b)) (standing b)) (each_for (standing b) * k))
      ∙ row_at (each_for (standing b)) (each_within (standing b)) (standing b) filler k h

  -- the notice in a place stands, and is broken or busy
  in_place : (k : ℕ) → k < many → Memᴰ (get_or (standing b) k filler) (standing b)
  in_place k h = at_place filler (standing b) k h

  class_in_place : (k : ℕ) → k < many → (get_or (standing b) k filler).class ≤ 1
  class_in_place k h = class_held b sound (get_or (standing b) k filler) (in_place k h)

  -- the part is the filing's eleven bytes, or its ten with class zero
  spelled_in_sheet : (k : ℕ) → k < many → Spells (part_of (sheet_of b) k) (Ok (Action.File (get_or (standing b) k filler)))
  spelled_in_sheet k h = go (by_version (standing b))
    where
      go : ((version_for (standing b) ≡ 1) × (some busy (standing b) ≡ false)) ⊎ ((version_for (standing b) ≡ 2) × (some busy (standing b) ≡ true))
          → Spells (part_of (sheet_of b) k) (Ok (Action.File (get_or (standing b) k filler)))
      go (inl w) =
          let part : part_of (sheet_of b) k ≡ take 10 (filing (get_or (standing b) k filler)) = part_of_sheet k h ∙ ap (λ (v : ℕ). take (action_length v) (filing (get_or (standing b) k filler))) w.0 in
          let low = class_in_place k h in
          let other = (version_1_exactly (standing b)).0 w.0 (get_or (standing b) k filler) (in_place k h) in
          let zero_class : (get_or (standing b) k filler).class ≡ 0 = broken_then (get_or (standing b) k filler).class low other in
          inr (class_last (get_or (standing b) k filler).number (get_or (standing b) k filler).target (get_or (standing b) k filler).class ∙ ap₂ (λ (p : List ℕ) (c : ℕ). p ++ c ∷ []) (sym part) zero_class)
      go (inr w) =
          let part : part_of (sheet_of b) k ≡ take 11 (filing (get_or (standing b) k filler)) = part_of_sheet k h ∙ ap (λ (v : ℕ). take (action_length v) (filing (get_or (standing b) k filler))) w.0 in
          inl (sym (part ∙ whole_row (get_or (standing b) k filler)))

  pub filing_of_sheet : (k : ℕ) → k < many → ReadsAction (part_of (sheet_of b) k) (Ok (Action.File (get_or (standing b) k filler)))
  filing_of_sheet k h = (action_exactly (part_of (sheet_of b) k) (Ok (Action.File (get_or (standing b) k filler))) (class_in_place k h)).1 (spelled_in_sheet k h)

  pub filing_no_other : (k : ℕ) → k < many → (a : ActionRead) → ReadsAction (part_of (sheet_of b) k) a → a ≡ Ok (Action.File (get_or (standing b) k filler))
  filing_no_other k h a r = action_once (part_of (sheet_of b) k) a (Ok (Action.File (get_or (standing b) k filler))) r (filing_of_sheet k h)

  -- "the lowest number first": as the bytes have the numbers
  number_of_part : (k : ℕ) → k < many → word (part_of (sheet_of b) k) 1 ≡ (get_or (standing b) k filler).number
  number_of_part k h =
      let x : Notice = get_or (standing b) k filler in
      ap (λ (part : List ℕ). word part 1) (part_of_sheet k h) ∙ (number_in x.number x.target x.class (each_for (standing b)) (two_lengths (version_for (standing b)))).adds_up

  pub numbers_rise : (i j : ℕ) → i < j → j < many → word (part_of (sheet_of b) i) 1 < word (part_of (sheet_of b) j) 1
  numbers_rise i j h k =
      let p = number_of_part i (omega arith) in
      let q = number_of_part j k in
      let r = ((filed_exactly (unfit b.n) filler 0 (standing b)).0 sound.filed).1 i j h k in
      omega arith

  -- all its changes: these filings,
  first_changes : (k : ℕ) → k ≤ many → Changes (sheet_of b) k (map Change.file (take k (standing b)))
  first_changes zero h = none
  first_changes (suc k) h =
      let x : Notice = get_or (standing b) k filler in
      let e : map Change.file (take (suc k) (standing b)) ≡ map Change.file (take k (standing b)) ++ Change.file x ∷ [] =
      ap (map Change.file) (take-suc (standing b) k filler (omega arith)) ∙ filings_snoc (take k (standing b)) x in
      subst (Changes (sheet_of b) (suc k)) (sym e) (more (first_changes k (omega arith)) (filing_of_sheet k (omega arith)))

  pub changes_of_sheet : Changes (sheet_of b) many (map Change.file (standing b))
  changes_of_sheet = subst (λ (l : List Notice). Changes (sheet_of b) many (map Change.file l)) (take-length (standing b)) (first_changes many (omega arith))

  -- each accepted from an empty book of that size,
  filings_make : (run (map Change.file (standing b)) (opened b.n) ≡ b) × AllAccepted (map Change.file (standing b)) (opened b.n)
  filings_make =
      let s : List Notice = standing b in
      let w = any_order b.n right_size s sound.filed (at_most_48 b sound) s (filed_distinct (unfit b.n) 0 s sound.filed) (λ x h. h) (λ x h. h) in
      let o = opened_is b.n right_size in
      (ap (run (map Change.file s)) o ∙ w.0 ∙ whole b sound places, rw o w.1)

  pub all_filings_accepted : AllAccepted (map Change.file (standing b)) (opened b.n)
  all_filings_accepted = filings_make.1

  -- and the book that they make is the book itself: no entry tells the two apart,
  pub runs_to_itself : After (sheet_of b) b.n many b
  runs_to_itself = record { changes = map Change.file (standing b); held = changes_of_sheet; makes = sym filings_make.0 }

  pub runs_to_no_other : (c : Book) → After (sheet_of b) b.n many c → c ≡ b
  runs_to_no_other c w = after_once (sheet_of b) b.n many c b w runs_to_itself

  -- "that book, written again, gives the same bytes"
  pub written_again : (c : Book) → After (sheet_of b) b.n many c → sheet_of c ≡ sheet_of b
  written_again c w = ap sheet_of (runs_to_no_other c w)

  -- The same of what an entry wrote. The bytes that it answers are a sheet; whatever is read of them, whatever book running them makes, and
  -- whatever memory that book is then written into, the bytes are the same.
  module _ (checks : List Check) (before after : List ℕ) (bytes : ℕ) (writes : WritesSheet checks b before after (Ok bytes)) where
    answered : take bytes after ≡ sheet_of b
    answered = (sheet_answered checks b before after (Ok bytes) writes bytes refl).2

    pub written_is_accepted : ReadsHeader (take bytes after) (headed b.n many (version_for (standing b)))
    written_is_accepted = subst (λ (sheet : List ℕ). ReadsHeader sheet (headed b.n many (version_for (standing b)))) (sym answered) header_of_sheet

    pub written_runs : After (take bytes after) b.n many b
    written_runs = subst (λ (sheet : List ℕ). After sheet b.n many b) (sym answered) runs_to_itself

    pub round_trip : (n count v : ℕ) (c : Book) → ReadsHeader (take bytes after) (headed n count v) → After (take bytes after) n count c
        → (c ≡ b) × ((other left : List ℕ) (long : ℕ) → Writes c other left (Ok long) → (long ≡ bytes) × (take long left ≡ take bytes after))
    round_trip n count v c h w = (same, again)
      where
        read : headed n count v ≡ headed b.n many (version_for (standing b))
        read = header_once (take bytes after) (headed n count v) (headed b.n many (version_for (standing b))) h written_is_accepted

        same : c ≡ b
        same =
            let r = read in
            let e : n ≡ b.n = cc in
            let f : count ≡ many = cc in
            after_once (take bytes after) b.n many c b (rw (← e, ← f) w) written_runs

        again : (other left : List ℕ) (long : ℕ) → Writes c other left (Ok long) → (long ≡ bytes) × (take long left ≡ take bytes after)
        again other left long u =
            let o = sheet_answered checks b before after (Ok bytes) writes bytes refl in
            let a = sheet_answered _ c other left (Ok long) u long refl in
            (a.1 ∙ ap (λ (d : Book). 8 + each_for (standing d) * length (standing d)) same ∙ sym o.1, a.2 ∙ ap sheet_of same ∙ sym o.2)

-- no two books have one sheet
pub sheet_tells : (b c : Book) → length b.notices ≡ 48 → unsound b ≡ false → length c.notices ≡ 48 → unsound c ≡ false → sheet_of b ≡ sheet_of c → b ≡ c
sheet_tells b c p u q v e =
    let n : b.n ≡ c.n = ap size_in e in
    let k : length (standing b) ≡ length (standing c) = sym (in_header b p u).2 ∙ ap count_in e ∙ (in_header c q v).2 in
    runs_to_no_other c q v b (rw (← e, ← n, ← k) (runs_to_itself b p u))
