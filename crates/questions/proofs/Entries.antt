-- What the link test and the listing check, in which order, and what passes; what they say, and which memory is left.
use Rattle.std.specs.Prelude.{Ok, Err, Some, None}
use mathlib.Core.Path.{◌≡◌, refl, sym, ap, ◌∙◌}
use mathlib.Core.Bool.{true, false}
use mathlib.Core.List.{List, [], ◌∷◌, ◌++◌}
use mathlib.Core.Logic.{◌⊎◌, inl, inr, ◌↔◌}
use Prim.Native.Nat.{ℕ, zero, suc, ◌*◌, ◌≤◌, ◌<◌}
use native.Mathlib.Omega.{arith}
use borrow.Author.Tests.{ltb-false, leb-false, le-ltb, lt-leb}
use lib.ListN.{length, take, drop}
use lib.Seq.{take_at, drop_at}
use Rattle.table.specs.declared.Refusal.{Refusal}
use Rattle.table.specs.Numbers.{number_of}
use Rattle.table.specs.Reply.{Reply, refused, Numbered}
use Rattle.table.specs.Checks.{Given, Given.here, Passed, Passed.none, Passed.passes, ◌not_below◌, numbers}
use Rattle.table.proofs.Numbers.{above_zero}
use Rattle.table.proofs.Checks.{given_refuses, passed_accepts, refused_given, passed_nth, neither, neither_of}
use Rattle.fabric.specs.Labels.{size, outside_sizes}
use Rattle.fabric.specs.Links.{Code}
use Rattle.notices.specs.Notices.{unfit}
use Rattle.standing.specs.Rising.{Filed}
use Rattle.actions.specs.Rows.{rows}
use Rattle.actions.proofs.Listings.{length_rows}
use Rattle.book.specs.declared.Book.{Book}
use Rattle.standing.specs.Picked.{LowestNumber}
use Rattle.book.specs.Standing.{standing, unsound, StopsLink, Stopped, stops_of}
use Rattle.book.specs.Entries.{opened}
use Rattle.book.proofs.Filings.{sound_if}
use Rattle.book.proofs.Stoppers.{stopper_exactly}
use Rattle.book.proofs.Entries.{stops_exactly}
use Rattle.questions.specs.Entries.{Link, Listing, link_says, listing_says, link_checks, Tests, listing_checks, Lists}

module _ (b : Book) (i j c : ℕ) where
  -- "Link test (book, stage, switch, code): 16, 4, 12."
  pub link_order : numbers (link_checks b i j c) ≡ 16 ∷ 4 ∷ 12 ∷ []
  link_order = refl

  -- 4: "a stage, column or switch that the fabric does not have"; 12: "a code that is not 0, 1 or 2"
  pub link_lets_pass : Passed (link_checks b i j c) ↔ ((unsound b ≡ false) × (i < b.n) × (j < size b.n) × Code c)
  link_lets_pass = (
    (λ p.
        let w = neither (i not_below b.n) (j not_below size b.n) (passed_nth (link_checks b i j c) 1 p) in
        let low = ltb-false 2 c (passed_nth (link_checks b i j c) 2 p) in
        (passed_nth (link_checks b i j c) 0 p, leb-false b.n i w.0, leb-false (size b.n) j w.1, omega arith)),
    (λ w.
        let low = w.3 in
        passes w.0 (passes (neither_of _ _ (lt-leb b.n i w.1) (lt-leb (size b.n) j w.2)) (passes (le-ltb 2 c (omega arith)) none))),
  )

  -- "The link test answers clear, or the lowest number of a notice that stops the link.": 0 where no standing notice names the link, and
  -- otherwise the lowest number of one that does, which is not 0
  pub link_says_exactly : length b.notices ≡ 48 → (r : Link) → Passed (link_checks b i j c) → Tests b i j c r
      → ((link_says r ≡ Reply.accepted (0 ∷ [])) × (Stopped b.n (standing b) i j c → ⊥))
      ⊎ ((k : ℕ) × (link_says r ≡ Reply.accepted (k ∷ [])) × (1 ≤ k) × LowestNumber (StopsLink b.n (standing b) i j c) k)
  link_says_exactly places r passed t = go (stops_of b i j c) refl
    where
      sound : unsound b ≡ false
      sound = (link_lets_pass.0 passed).0

      filed : Filed (unfit b.n) 0 (standing b)
      filed = (sound_if b places sound).filed

      go : (k : ℕ) → stops_of b i j c ≡ k
          → ((link_says r ≡ Reply.accepted (0 ∷ [])) × (Stopped b.n (standing b) i j c → ⊥))
          ⊎ ((k : ℕ) × (link_says r ≡ Reply.accepted (k ∷ [])) × (1 ≤ k) × LowestNumber (StopsLink b.n (standing b) i j c) k)
      go zero e = let none = (stops_exactly b places i j c sound).0 e in inl (ap link_says (t.clear passed none), none)
      go (suc k) e =
          let low = (stopper_exactly b.n i j c (suc k) (standing b) filed).1 (e, omega arith) in
          inr (suc k, ap link_says (t.stopped passed (suc k) low), omega arith, low)

module _ (b : Book) (memory : List ℕ) where
  -- "Listing (book, memory): 16, 13."
  pub listing_order : numbers (listing_checks b memory) ≡ 16 ∷ 13 ∷ []
  listing_order = refl

  -- 13: "the lent memory is not long enough", shorter than eleven bytes for each notice that stands
  pub listing_lets_pass : Passed (listing_checks b memory) ↔ ((unsound b ≡ false) × (11 * length (standing b) ≤ length memory))
  listing_lets_pass = (
    (λ p. (passed_nth (listing_checks b memory) 0 p, ltb-false (length memory) (11 * length (standing b)) (passed_nth (listing_checks b memory) 1 p))),
    (λ w. passes w.0 (passes (le-ltb (length memory) (11 * length (standing b)) w.1) none)),
  )

-- every refusal comes with a number of the table
pub link_numbered : (a : Link) → Numbered (link_says a)
link_numbered (Ok None) = tt
link_numbered (Ok (Some k)) = tt
link_numbered (Err why) = above_zero why

pub listing_numbered : (a : Listing) → Numbered (listing_says a)
listing_numbered (Ok count) = tt
listing_numbered (Err why) = above_zero why

-- the listing: "the eleven bytes of its filing", "They lie at the front of the memory, and what follows them is left. The answer is their count."
module _ (b : Book) (before after : List ℕ) (r : Listing) (lists : Lists b before after r) where
  pub listed_exactly : Passed (listing_checks b before)
      → (listing_says r ≡ Reply.accepted (length (standing b) ∷ []))
      × (take (11 * length (standing b)) after ≡ rows 11 (standing b))
      × (drop (11 * length (standing b)) after ≡ drop (11 * length (standing b)) before)
  listed_exactly passed =
      let l = length_rows 11 (omega arith) (standing b) in
      let left : after ≡ rows 11 (standing b) ++ drop (11 * length (standing b)) before =
      lists.leaves ∙ passed_accepts (λ k. before) (rows 11 (standing b) ++ drop (11 * length (standing b)) before) (listing_checks b before) passed in (
        lists.says ∙ passed_accepts refused (Reply.accepted (length (standing b) ∷ [])) (listing_checks b before) passed,
        ap (take (11 * length (standing b))) left ∙ take_at (rows 11 (standing b)) (drop (11 * length (standing b)) before) (11 * length (standing b)) l,
        ap (drop (11 * length (standing b))) left ∙ drop_at (rows 11 (standing b)) (drop (11 * length (standing b)) before) (11 * length (standing b)) l,
      )

  pub refused_listing_writes_nothing : (why : Refusal) → r ≡ Err why → after ≡ before
  refused_listing_writes_nothing why e =
      let g = refused_given (listing_checks b before) (length (standing b) ∷ []) (number_of why) (sym (ap listing_says e) ∙ lists.says) in
      lists.leaves ∙ given_refuses (λ k. before) (rows 11 (standing b) ++ drop (11 * length (standing b)) before) (number_of why) (listing_checks b before) g

-- of the book that a refused opening hands back: "to which every entry over a book says 16"
pub refused_opening_asked : (n i j c : ℕ) (memory : List ℕ) → outside_sizes n ≡ true → Given 16 (link_checks (opened n) i j c) × Given 16 (listing_checks (opened n) memory)
refused_opening_asked n i j c memory size =
    let u : unsound (opened n) ≡ true = rw size in
    (here u refl, here u refl)
