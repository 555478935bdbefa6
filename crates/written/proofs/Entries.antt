-- What writing a sheet checks, in which order, and what passes; what it says, and which memory is left; and how much memory every sheet has room in.
use Rattle.std.specs.Prelude.{Ok, Err}
use mathlib.Core.Path.{◌≡◌, refl, sym, ap, ◌∙◌}
use mathlib.Core.Bool.{Bool, true, false}
use mathlib.Core.List.{List, [], ◌∷◌, ◌++◌}
use mathlib.Core.Logic.{◌⊎◌, inl, inr, ⊎_elim, ◌↔◌}
use Prim.Native.Nat.{ℕ, zero, suc, ◌+◌, ◌-◌, ◌*◌, ◌≤◌, ◌<◌}
use native.Mathlib.Nat.{mul-le-mul}
use native.Mathlib.Omega.{arith}
use borrow.Author.Tests.{ltb-false, ltb-true, le-ltb, lt-ltb}
use lib.ListN.{length, take, drop, length-take, length-drop, length-append, take-append-drop}
use lib.Seq.{take_at, drop_at}
use Rattle.table.specs.declared.Refusal.{Refusal}
use Rattle.table.specs.Numbers.{number_of}
use Rattle.table.specs.Reply.{Reply, refused, Numbered}
use Rattle.table.specs.Checks.{Check, Given, Given.here, Given.later, Passed, Passed.none, Passed.passes}
use Rattle.table.proofs.Numbers.{above_zero}
use Rattle.table.proofs.Checks.{given_refuses, passed_accepts, accepted_passed, refused_given, given_before, given_after, passed_both, zero_one}
use Rattle.fabric.specs.Labels.{outside_sizes}
use Rattle.notices.specs.declared.Notice.{Notice}
use Rattle.notices.specs.declared.Target.TheVariants.{Links}
use Rattle.notices.specs.Notices.{unfit}
use Rattle.notices.specs.Classes.{busy}
use Rattle.standing.specs.Picked.{some}
use Rattle.standing.specs.Rising.{Filed}
use Rattle.standing.proofs.Filings.{places_in_all}
use Rattle.actions.specs.Rows.{rows}
use Rattle.actions.proofs.Listings.{length_rows}
use Rattle.sheet.specs.Format.{header_bytes}
use Rattle.book.specs.declared.Book.{Book}
use Rattle.book.specs.Standing.{standing, book_of, unsound, Sound}
use Rattle.book.specs.Entries.{opened, book_checks}
use Rattle.book.proofs.Filings.{standing_of, sound_of}
use Rattle.book.proofs.Entries.{book_lets_pass}
use Rattle.written.proofs.Definitions.{each_within}
use Rattle.written.specs.Sheets.{version_for, each_for, sheet_of, most_written, written_says, room_checks, WritesSheet, Writes, Written}

-- "A sheet of version 1 is 8 + 10 x count bytes long", or 8 + 11 x count where a busy notice stands
pub length_sheet : (b : Book) → length (sheet_of b) ≡ 8 + each_for (standing b) * length (standing b)
length_sheet b = let e = length_rows (each_for (standing b)) (each_within (standing b)) (standing b) in omega arith

-- one check more, after others
last_given : {k : ℕ} (cs : List Check) (c : Check) → Given k (cs ++ c ∷ []) → Given k cs ⊎ (Passed cs × (c.number ≡ k) × (c.holds ≡ true))
last_given [] c (here h e) = inr (none, e, h)
last_given (d ∷ cs) c (here h e) = inl (here h e)
last_given {k = k} (d ∷ cs) c (later h g) = further (last_given cs c g)
  where
    further : Given k cs ⊎ (Passed cs × (c.number ≡ k) × (c.holds ≡ true)) → Given k (d ∷ cs) ⊎ (Passed (d ∷ cs) × (c.number ≡ k) × (c.holds ≡ true))
    further (inl v) = inl (later h v)
    further (inr v) = inr (passes h v.0, v.1, v.2)
last_given {k = k} [] c (later h g) = elim g [ ]

last_passed : (cs : List Check) (c : Check) → Passed (cs ++ c ∷ []) → Passed cs × (c.holds ≡ false)
last_passed [] c (passes h none) = (none, h)
last_passed (d ∷ cs) c (passes h p) = let w = last_passed cs c p in (passes h w.0, w.1)

-- the room is judged after all that is judged before it: 13 is given where all that passes and the memory is shorter than the sheet, 8
-- bytes and ten or eleven for each notice that stands, and no other number is given that was not given before
module _ (checks : List Check) (b : Book) (memory : List ℕ) where
  -- one of the checks before refuses, or the room
  abbrev Refuses : ℕ → Type 0
  Refuses k = Given k checks ⊎ (Passed checks × (13 ≡ k) × (length memory < 8 + each_for (standing b) * length (standing b)))

  pub room_gives : (k : ℕ) → Given k (room_checks checks b memory) ↔ (Given k checks ⊎ (Passed checks × (13 ≡ k) × (length memory < 8 + each_for (standing b) * length (standing b))))
  room_gives k = (
    (λ g.
        ⊎_elim
        (λ v. inl v)
        (λ w. let l = length_sheet b in let h = ltb-true (length memory) _ w.2 in inr (w.0, w.1, omega arith))
        (last_given checks _ g)),
    ⊎_elim
        (λ g. given_before checks _ g)
        (λ w. let l = length_sheet b in let h = w.2 in given_after checks _ w.0 (here (lt-ltb (length memory) _ (omega arith)) w.1)),
  )

  -- the room for exactly that many bytes is enough
  pub room_lets_pass : Passed (room_checks checks b memory) ↔ (Passed checks × (8 + each_for (standing b) * length (standing b) ≤ length memory))
  room_lets_pass = (
    (λ p. let w = last_passed checks _ p in let l = length_sheet b in let h = ltb-false (length memory) _ w.1 in (w.0, omega arith)),
    (λ w. let l = length_sheet b in let h = w.1 in passed_both checks _ w.0 (passes (le-ltb (length memory) _ (omega arith)) none)),
  )

-- "The numbers are 16, then 13."
pub write_lets_pass : (b : Book) (memory : List ℕ) → Passed (room_checks (book_checks b) b memory) ↔ ((unsound b ≡ false) × (8 + each_for (standing b) * length (standing b) ≤ length memory))
write_lets_pass b memory =
    let w = room_lets_pass (book_checks b) b memory in
    ((λ p. ((book_lets_pass b).0 (w.0 p).0, (w.0 p).1)), (λ v. w.1 ((book_lets_pass b).1 v.0, v.1)))

-- of the book that a refused opening hands back: "to which every entry over a book says 16"
pub refused_opening_written : (n : ℕ) (memory : List ℕ) → outside_sizes n ≡ true → Given 16 (room_checks (book_checks (opened n)) (opened n) memory)
refused_opening_written n memory size =
    let u : unsound (opened n) ≡ true = rw size in
    (room_gives (book_checks (opened n)) (opened n) memory 16).1 (inl (here u refl))

-- every refusal comes with a number of the table
pub written_numbered : (a : Written) → Numbered (written_says a)
written_numbered (Ok bytes) = tt
written_numbered (Err why) = above_zero why

-- "The answer is the length of the sheet, and the bytes after it are left."
module _ (checks : List Check) (b : Book) (before after : List ℕ) (r : Written) (writes : WritesSheet checks b before after r) where
  -- refused exactly where the checks refuse, and then nothing is written
  pub refused_where : (k : ℕ) → (written_says r ≡ refused k) ↔ (Given k checks ⊎ (Passed checks × (13 ≡ k) × (length before < 8 + each_for (standing b) * length (standing b))))
  refused_where k =
      let w = room_gives checks b before k in (
        (λ e. w.0 (refused_given (room_checks checks b before) _ k (sym e ∙ writes.says))),
        (λ g. writes.says ∙ given_refuses _ _ k (room_checks checks b before) (w.1 g)),
      )

  pub refused_writes_nothing : (why : Refusal) → r ≡ Err why → after ≡ before
  refused_writes_nothing why e =
      let g = refused_given (room_checks checks b before) _ (number_of why) (sym (ap written_says e) ∙ writes.says) in
      writes.leaves ∙ given_refuses _ _ (number_of why) (room_checks checks b before) g

  -- the first bytes of the memory are the header and one filing per standing notice
  pub written_exactly : Passed (room_checks checks b before)
      → (written_says r ≡ Reply.accepted ((8 + each_for (standing b) * length (standing b)) ∷ []))
      × (take (8 + each_for (standing b) * length (standing b)) after ≡ header_bytes (version_for (standing b)) b.n (length (standing b)) ++ rows (each_for (standing b)) (standing b))
      × (drop (8 + each_for (standing b) * length (standing b)) after ≡ drop (8 + each_for (standing b) * length (standing b)) before)
  written_exactly passed =
      let l = length_sheet b in
      let many : ℕ = 8 + each_for (standing b) * length (standing b) in
      let left = writes.leaves ∙ passed_accepts _ _ (room_checks checks b before) passed in (
        writes.says ∙ passed_accepts _ _ (room_checks checks b before) passed ∙ ap (λ (k : ℕ). Reply.accepted (k ∷ [])) l,
        ap (take many) left ∙ take_at (sheet_of b) _ many l,
        ap (drop many) left ∙ drop_at (sheet_of b) _ many l ∙ ap (λ (k : ℕ). drop k before) l,
      )

  -- an answer that is a length is that length, and all this holds
  pub sheet_answered : (bytes : ℕ) → r ≡ Ok bytes
      → Passed (room_checks checks b before) × (bytes ≡ 8 + each_for (standing b) * length (standing b)) × (take bytes after ≡ sheet_of b) × (drop bytes after ≡ drop bytes before)
  sheet_answered bytes e =
      let p : Passed (room_checks checks b before) = accepted_passed (room_checks checks b before) _ (bytes ∷ []) (sym (ap written_says e) ∙ writes.says) in
      let w = written_exactly p in
      let f : Reply.accepted (bytes ∷ []) ≡ Reply.accepted ((8 + each_for (standing b) * length (standing b)) ∷ []) = sym (ap written_says e) ∙ w.0 in
      let long : bytes ≡ 8 + each_for (standing b) * length (standing b) = cc in
      (p, long, ap (λ (k : ℕ). take k after) long ∙ w.1, ap (λ (k : ℕ). drop k after) long ∙ w.2 ∙ ap (λ (k : ℕ). drop k before) (sym long))

  -- and the memory is as long as it was
  pub no_longer : Passed (room_checks checks b before) → length after ≡ length before
  no_longer passed =
      let w = written_exactly passed in
      let many : ℕ = 8 + each_for (standing b) * length (standing b) in
      let h = ((room_lets_pass checks b before).0 passed).1 in
      let l = length_sheet b in
      let e : length after ≡ length (take many after) + length (drop many after) = ap length (sym (take-append-drop many after)) ∙ length-append (take many after) (drop many after) in
      let t : length (take many after) ≡ length (sheet_of b) = ap length w.1 in
      let d : length (drop many after) ≡ length before - many = ap length w.2 ∙ length-drop many before in
      omega arith

-- each answer exactly where it is due: 16 for an unsound book whatever the memory, 13 for a sound one whose sheet is longer than the memory, and
-- otherwise the length
module _ (b : Book) (before after : List ℕ) (r : Written) (writes : Writes b before after r) where
  pub write_gives_sixteen : (written_says r ≡ refused 16) ↔ (unsound b ≡ true)
  write_gives_sixteen = ((λ e. go ((refused_where (book_checks b) b before after r writes 16).0 e)), (λ u. (refused_where (book_checks b) b before after r writes 16).1 (inl (here u refl))))
    where
      go : Refuses (book_checks b) b before 16 → unsound b ≡ true
      go (inl (here h e)) = h
      go (inr w) = let e = w.1 in absurd (zero_one (omega arith))
      go (inl (later _ x7)) = elim x7 [ ]

  pub write_gives_thirteen : (written_says r ≡ refused 13) ↔ ((unsound b ≡ false) × (length before < 8 + each_for (standing b) * length (standing b)))
  write_gives_thirteen = ((λ e. go ((refused_where (book_checks b) b before after r writes 13).0 e)), (λ w. (refused_where (book_checks b) b before after r writes 13).1 (inr ((book_lets_pass b).1 w.0, refl, w.1))))
    where
      go : Refuses (book_checks b) b before 13 → (unsound b ≡ false) × (length before < 8 + each_for (standing b) * length (standing b))
      go (inl (here h e)) = absurd (zero_one (omega arith))
      go (inr w) = ((book_lets_pass b).0 w.0, w.2)
      go (inl (later _ x7)) = elim x7 [ ]

  pub write_gives_length : (written_says r ≡ Reply.accepted ((8 + each_for (standing b) * length (standing b)) ∷ [])) ↔ ((unsound b ≡ false) × (8 + each_for (standing b) * length (standing b) ≤ length before))
  write_gives_length = (
    (λ e. (write_lets_pass b before).0 (accepted_passed (room_checks (book_checks b) b before) _ ((8 + each_for (standing b) * length (standing b)) ∷ []) (sym e ∙ writes.says))),
    (λ w. (written_exactly (book_checks b) b before after r writes ((write_lets_pass b before).1 w)).0),
  )

-- the memory in which every sheet has room: "A book has room for 48 notices standing together.",
pub at_most_48 : (b : Book) → Sound b → length (standing b) ≤ 48
at_most_48 b sound =
    let h = sound.fits in
    let l = length-take b.count b.notices in
    omega arith

pub at_most_written : (b : Book) → Sound b → length (sheet_of b) ≤ most_written
at_most_written b sound =
    let e = length_sheet b in
    let h : each_for (standing b) * length (standing b) ≤ 11 * 48 = mul-le-mul (each_within (standing b)) (at_most_48 b sound) in
    omega arith

-- a sheet is that long exactly where 48 stand, and a busy one among them,
pub most_exactly : (b : Book) → (length (sheet_of b) ≡ most_written) ↔ ((length (standing b) ≡ 48) × (some busy (standing b) ≡ true))
most_exactly b = ((λ e. go (some busy (standing b)) refl (sym (length_sheet b) ∙ e)), (λ w. let l = length_sheet b in let k = w.0 in l ∙ rw w.1 (omega arith)))
  where
    go : (any : Bool) → some busy (standing b) ≡ any → 8 + each_for (standing b) * length (standing b) ≡ most_written → (length (standing b) ≡ 48) × (some busy (standing b) ≡ true)
    go true h e = let f : 8 + 11 * length (standing b) ≡ 536 = rw h at e in (omega arith, h)
    go false h e = let f : 8 + 10 * length (standing b) ≡ 536 = rw h at e in absurd (omega arith)

-- and such stand in some book
unfoldable upward : ℕ → ℕ → List Notice
upward k zero = []
upward k (suc m) = record { number = suc k; target = Links 0 0 1; class = 1 } ∷ upward (suc k) m

upward_filed : (k m : ℕ) → Filed (unfit 1) k (upward k m)
unfolding upward Filed
upward_filed k zero = tt
upward_filed k (suc m) = (omega arith, refl, upward_filed (suc k) m)

upward_length : (k m : ℕ) → length (upward k m) ≡ m
unfolding upward
upward_length k zero = refl
upward_length k (suc m) = ap suc (upward_length (suc k) m)

upward_busy : some busy (upward 0 48) ≡ true
unfolding upward
upward_busy = refl

pub most_attained : (b : Book) × (length b.notices ≡ 48) × (unsound b ≡ false) × (length (sheet_of b) ≡ most_written)
most_attained =
    let l : List Notice = upward 0 48 in
    let many : length l ≡ 48 = upward_length 0 48 in (
      book_of 1 l,
      places_in_all l (omega arith),
      sound_of 1 l refl (upward_filed 0 48) (omega arith),
      (most_exactly (book_of 1 l)).1 (ap length (standing_of 1 l) ∙ many, ap (some busy) (standing_of 1 l) ∙ upward_busy),
    )
