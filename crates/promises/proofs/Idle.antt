-- Each kind of controller that Worthless.antt excludes has one of that kind: what is excluded is not nothing. The idle controller says
-- done to every change, keeps none, finds every link clear and answers 11 with stage 0 and number 1 to every route.
use Rattle.std.specs.Prelude.{Ok, Err, None}
use Rattle.routes.specs.declared.NoRoute.{NoRoute}
use mathlib.Core.Path.{◌≡◌, refl, subst}
use mathlib.Core.Bool.{true, false}
use mathlib.Core.List.{List, [], ◌∷◌, ◌++◌}
use Prim.Native.Nat.{ℕ}
use native.Mathlib.Omega.{arith}
use Rattle.table.specs.declared.Refusal.{Refusal}
use Rattle.table.proofs.Checks.{zero_one}
use Rattle.fabric.specs.Walks.{walked}
use Rattle.notices.specs.declared.Notice.{Notice}
use Rattle.notices.specs.declared.Target.TheVariants.{Links}
use Rattle.notices.specs.Notices.{names}
use Rattle.book.specs.declared.Book.{Book}
use Rattle.table.specs.Reply.{Answer}
use Rattle.questions.specs.Entries.{Link}
use Rattle.standing.specs.Picked.{lowest, those}
use Rattle.book.specs.Entries.{opened}
use Rattle.changes.specs.Runs.{Change, run}
use Rattle.routes.specs.Routed.{Found}
use Rattle.promises.specs.Controllers.{Controller, SaysElevenAlways, GivesTagZeroAlways, InventsAStage, RefusesEveryFiling, LooksOnlyWhereItStands, GivesUp, NeverWithdrawn, Holds, Named, FilesNothing, StoresTheFirstOnly, OpensForBoth, PlusAndMinusOneLink}
use Rattle.promises.proofs.Examples.{row_holds}
use Rattle.promises.proofs.Worthless.{empty, tag_passed}

abbrev answering : Answer → Controller Book
answering answer =
    record {
      opens = opened;
      answers = λ a b. answer;
      leaves = λ a b. b;
      link = λ b i j c. (Ok None);
      route = λ b s d choice. Err (NoRoute.NoClearPath 0 1);
    }

abbrev idle : Controller Book
idle = answering (Ok tt)

pub some_says_eleven_always : (choice : ℕ) → SaysElevenAlways idle choice
some_says_eleven_always choice b s d p = (0, 1, refl)

pub some_gives_tag_zero_always : (choice : ℕ) → GivesTagZeroAlways idle choice
some_gives_tag_zero_always choice b s d t e = absurd (zero_one cc)

pub some_invents_a_stage : InventsAStage idle
unfolding run walked
some_invents_a_stage =
    record {
      book = empty;
      source = 1;
      destination = 0;
      choice = 0;
      stage = 0;
      number = 1;
      answers = refl;
      invented = λ w. w.none (2 ∷ []) (record { links = refl; codes = (omega arith, tt); clear = λ k h. refl; agrees = refl });
    }

pub some_refuses_every_filing : RefusesEveryFiling (answering (Err Refusal.Full))
some_refuses_every_filing b x = (Refusal.Full, refl)

pub some_looks_only_where_it_stands : (choice : ℕ) → LooksOnlyWhereItStands idle choice
some_looks_only_where_it_stands choice = record { choose = λ n s d stage switch straight plus minus. 0; chosen = λ b s d t i e h. absurd (zero_one cc) }

pub some_gives_up : GivesUp idle
some_gives_up =
    let right = (row_holds 0).1 in
    let first = right.routes (tag_passed empty 1 0 0 0 right) in
    record { book = empty; source = 1; destination = 0; choice = 0; stage = 0; number = 1; answers = refl; steps = first.0; clear = first.1.clear_path }

-- two notices of one switch of a fabric of one stage, the first of its plus link and the second of both its nonstraight links
abbrev plus : Notice
plus = record { number = 1; target = Links 0 0 2; class = 0 }

abbrev both : Notice
both = record { number = 2; target = Links 0 0 6; class = 0 }

not_in_none : (l : List Change) (a : Change) (m : List Change) → [] ≡ l ++ a ∷ m → ⊥
not_in_none [] a m e = zero_one cc
not_in_none (c ∷ l) a m e = zero_one cc

-- nothing is named before a filing, and after one filing what it names
unnamed_at_first : (i j c : ℕ) → Named idle 1 [] i j c → ⊥
unnamed_at_first i j c w = not_in_none w.1.0.before (Change.file w.0) w.1.0.later w.1.0.order

only_plus : (x : Notice) (before later : List Change) → Change.file plus ∷ [] ≡ before ++ Change.file x ∷ later → x ≡ plus
only_plus x [] later e = cc
only_plus x (c ∷ before) later e = absurd (not_in_none before (Change.file x) later cc)

minus_unnamed : Named idle 1 (Change.file plus ∷ []) 0 0 2 → ⊥
minus_unnamed w =
    let e = only_plus w.0 w.1.0.before w.1.0.later w.1.0.order in
    let f : false ≡ true = subst (λ (x : Notice). names 1 x 0 0 2 ≡ true) e w.1.1 in
    zero_one cc

plus_holds : Holds idle 1 (Change.file plus ∷ []) plus
unfolding NeverWithdrawn
plus_holds = record { before = []; later = []; order = refl; accepted = refl; kept = tt }

pub some_files_nothing : FilesNothing idle
some_files_nothing =
    record {
      n = 1;
      legal = refl;
      notice = plus;
      acknowledges =
          record {
            accepts = refl;
            stage = 0;
            switch = 0;
            code = 1;
            link = (omega arith, omega arith, omega arith);
            names = refl;
            unnamed = unnamed_at_first 0 0 1;
          };
      nothing = λ b x i j c. ((λ e. e), λ e. e);
    }

pub some_stores_the_first_only : StoresTheFirstOnly idle
some_stores_the_first_only =
    record {
      n = 1;
      legal = refl;
      changes = Change.file plus ∷ [];
      first = plus;
      stands = plus_holds;
      later = both;
      acknowledges =
          record {
            accepts = refl;
            stage = 0;
            switch = 0;
            code = 2;
            link = (omega arith, omega arith, omega arith);
            names = refl;
            unnamed = minus_unnamed;
          };
      nothing = λ x e i j c. ((λ f. f), λ f. f);
    }

pub some_opens_for_both : OpensForBoth idle
unfolding NeverWithdrawn
some_opens_for_both =
    record {
      n = 1;
      legal = refl;
      changes = Change.file plus ∷ Change.file both ∷ [];
      number = 1;
      other = both;
      stands = record { before = Change.file plus ∷ []; later = []; order = refl; accepted = refl; kept = tt };
      another = λ e. omega (arith, e);
      stage = 0;
      switch = 0;
      code = 1;
      link = (omega arith, omega arith, omega arith);
      still = refl;
      opens = refl;
    }

pub some_plus_and_minus_one_link : PlusAndMinusOneLink idle
some_plus_and_minus_one_link =
    record {
      last = 0;
      legal = refl;
      changes = Change.file plus ∷ [];
      switch = 0;
      label = omega arith;
      plus = (plus, (plus_holds, refl));
      minus = minus_unnamed;
      one = λ b j. ((λ e. e), λ e. e);
    }
