-- Some controller meets every demand by which Worthless.antt excludes one, so that what is proved of every such controller is proved of
-- one at least. It is computed: the checks decide, and past them the book, the lowest notice or the frontier.
use Rattle.std.specs.Prelude.{Ok, Err, Some, None}
use Rattle.routes.specs.declared.NoRoute.{NoRoute}
use mathlib.Core.Path.{◌≡◌, refl, sym, ap, subst, ◌∙◌}
use mathlib.Core.Bool.{Bool, true, false, cond}
use mathlib.Core.List.{List, [], ◌∷◌}
use mathlib.Core.Logic.{◌⊎◌, inl, inr, ⊎_elim, ◌↔◌}
use Prim.Native.Nat.{ℕ}
use borrow.Author.Tests.{leb-false}
use Rattle.table.specs.declared.Refusal.{Refusal}
use Rattle.table.specs.Numbers.{number_of}
use Rattle.table.specs.Reply.{Reply, refused, answer_says, Answer}
use Rattle.table.specs.Checks.{Check, checked, Given, Given.here, Given.later, ◌not_below◌}
use Rattle.table.proofs.Numbers.{by_number}
use Rattle.table.proofs.Checks.{given_refuses, given_or_passed, passed_accepts, passed_nth, neither}
use Rattle.fabric.specs.Labels.{size}
use Rattle.notices.specs.declared.Notice.{Notice}
use Rattle.standing.specs.Picked.{LowestNumber}
use Rattle.standing.proofs.Lowest.{lowest_number_as}
use Rattle.book.specs.declared.Book.{Book}
use Rattle.book.specs.Standing.{standing, stopper, counted_stops}
use Rattle.questions.proofs.Testing.{answered as by_stopper, answers_tests}
use Rattle.questions.proofs.Answers.{link_refused}
use Rattle.book.specs.Entries.{opened, file_checks, withdraw_checks}
use Rattle.questions.specs.Entries.{link_checks, Tests, Link}
use Rattle.changes.specs.Runs.{Change, change_checks, answer, after, Accepted, run, NotWithdrawn, StandsSince, NamesSince}
use Rattle.table.proofs.Answers.{answer_tells}
use Rattle.changes.proofs.Since.{link_exactly}
use Rattle.routes.specs.Routed.{route_says, Routed, route_checks, Routes, Found}
use Rattle.promises.specs.Controllers.{Controller, FilesAsPromised, RoutesAsPromised, Accepts, own_run, NeverWithdrawn, Holds, NamesLink, Named, StopsWhatIsNamed}
use Rattle.promises.proofs.Found.{route_of, route_of_routed}

-- every number of the checks is that of a refusal
abbrev Known : List Check → Type 0
Known [] = Unit
Known (c ∷ cs) = (number_of (by_number c.number) ≡ c.number) × Known cs

known_given : {k : ℕ} (cs : List Check) → Known cs → Given k cs → number_of (by_number k) ≡ k
known_given (c ∷ cs) known (here h e) = subst (λ (m : ℕ). number_of (by_number m) ≡ m) e known.0
known_given (c ∷ cs) known (later h g) = known_given cs known.1 g
known_given {k = k} [] known x'' = elim x'' [ ]

-- an answer by checks says what they give
module _ {A : Type 0} (says : A → Reply) (no : Refusal → A) (numbered : (r : Refusal) → says (no r) ≡ refused (number_of r)) (accept : A) where
  says_checked : (cs : List Check) → Known cs → says (checked cs (λ k. no (by_number k)) accept) ≡ checked cs refused (says accept)
  says_checked [] known = refl
  says_checked (c ∷ cs) known = go c.holds (says_checked cs known.1)
    where
      go : (b : Bool) → says (checked cs (λ k. no (by_number k)) accept) ≡ checked cs refused (says accept)
          → says (cond b (no (by_number c.number)) (checked cs (λ k. no (by_number k)) accept)) ≡ cond b (refused c.number) (checked cs refused (says accept))
      go true rest = numbered (by_number c.number) ∙ ap refused known.0
      go false rest = rest

abbrev answered : List Check → Answer
answered cs = checked cs (λ k. Err (by_number k)) (Ok tt)

-- what the link test says past its checks
abbrev told : Book → ℕ → ℕ → ℕ → Link
told b i j c = by_stopper (stopper b.n (standing b) i j c)

abbrev ours : Controller Book
ours =
    record {
      opens = opened;
      answers = λ a b. answered (change_checks a b);
      leaves = after;
      link = λ b i j c. checked (link_checks b i j c) (λ k. Err (by_number k)) (told b i j c);
      route = λ b s d choice. checked (route_checks b s d choice) (λ k. Err (NoRoute.Refused (by_number k))) (route_of b.n (counted_stops choice b) s d);
    }

routes_so : (b : Book) (s d choice : ℕ) → Routes b s d choice (ours.route b s d choice)
routes_so b s d choice =
    let cs : List Check = route_checks b s d choice in
    let answer : Found = route_of b.n (counted_stops choice b) s d in
    let no : ℕ → Found = λ k. Err (NoRoute.Refused (by_number k)) in
    record {
      refuses = λ k g. ap route_says (given_refuses no answer k cs g) ∙ ap refused (known_given cs (refl, (refl, (refl, tt))) g);
      routes = λ p.
          let o = neither (s not_below size b.n) (d not_below size b.n) (passed_nth cs 1 p) in
          subst (Routed b.n (counted_stops choice b) s d) (sym (passed_accepts no answer cs p))
          (route_of_routed b.n (counted_stops choice b) s d (leb-false (size b.n) s o.0) (leb-false (size b.n) d o.1));
    }

change_says : (a : Change) (b : Book) → answer_says (answered (change_checks a b)) ≡ answer a b
change_says (Change.file x) b =
    says_checked answer_says Err (λ r. refl) (Ok tt) (file_checks b x) (refl, (refl, (refl, (refl, (refl, (refl, (refl, tt)))))))
change_says (Change.withdraw k) b = says_checked answer_says Err (λ r. refl) (Ok tt) (withdraw_checks b k) (refl, (refl, (refl, tt)))

tests_so : (b : Book) (i j c : ℕ) → Tests b i j c (ours.link b i j c)
tests_so b i j c =
    let cs : List Check = link_checks b i j c in
    let no : ℕ → Link = λ k. Err (by_number k) in
    ⊎_elim
    (λ g.
    let why : Refusal = by_number g.0 in
    let e = known_given cs (refl, (refl, (refl, tt))) g.1 in
    subst (Tests b i j c) (sym (given_refuses no (told b i j c) g.0 cs g.1)) (link_refused b i j c why (subst (λ (k : ℕ). Given k cs) (sym e) g.1)))
    (λ p. answers_tests b i j c (ours.link b i j c) p (passed_accepts no (told b i j c) cs p))
    (given_or_passed cs)

-- its own runs are those of demand 3: what it accepts is what the entries accept
accepts_so : (a : Change) (b : Book) → Accepts ours a b ↔ Accepted a b
accepts_so a b = ((λ e. sym (change_says a b) ∙ ap answer_says e), (λ e. answer_tells (ours.answers a b) (Ok tt) (change_says a b ∙ e)))

runs_so : (changes : List Change) (b : Book) → own_run ours changes b ≡ run changes b
unfolding own_run run
runs_so [] b = refl
runs_so (a ∷ rest) b = runs_so rest (after a b)

never_so : (k : ℕ) (changes : List Change) (b : Book) → NeverWithdrawn ours k changes b ↔ NotWithdrawn k changes b
unfolding NeverWithdrawn NotWithdrawn
never_so k [] b = ((λ w. tt), (λ w. tt))
never_so k (a ∷ rest) b =
    let more = never_so k rest (after a b) in (
      (λ w. ((λ e q. w.0 e ((accepts_so a b).1 q)), more.0 w.1)),
      (λ w. ((λ e q. w.0 e ((accepts_so a b).0 q)), more.1 w.1)),
    )

-- a notice that was accepted in one of two equal books, and not withdrawn since
holds_so : (n : ℕ) (changes : List Change) (x : Notice) → Holds ours n changes x ↔ StandsSince (opened n) changes x
holds_so n changes x = (
  (λ w.
      let own : Book = own_run ours w.before (opened n) in
      let same = runs_so w.before (opened n) in
      record {
        before = w.before;
        later = w.later;
        order = w.order;
        accepted = subst (Accepted (Change.file x)) same ((accepts_so (Change.file x) own).0 w.accepted);
        kept = subst (λ (b : Book). NotWithdrawn x.number w.later (after (Change.file x) b)) same ((never_so x.number w.later (after (Change.file x) own)).0 w.kept);
      }),
  (λ w.
      let theirs : Book = run w.before (opened n) in
      let same = sym (runs_so w.before (opened n)) in
      record {
        before = w.before;
        later = w.later;
        order = w.order;
        accepted = subst (Accepts ours (Change.file x)) same ((accepts_so (Change.file x) theirs).1 w.accepted);
        kept = subst (λ (b : Book). NeverWithdrawn ours x.number w.later (after (Change.file x) b)) same ((never_so x.number w.later (after (Change.file x) theirs)).1 w.kept);
      }),
)

names_so : (n : ℕ) (changes : List Change) (i j c : ℕ) (x : Notice) → NamesLink ours n changes i j c x ↔ NamesSince n changes i j c x
names_so n changes i j c x = ((λ w. ((holds_so n changes x).0 w.0, w.1)), (λ w. ((holds_so n changes x).1 w.0, w.1)))

stops_so : StopsWhatIsNamed ours
stops_so n legal changes i j c link =
    subst
    (λ (b : Book).
    ((ours.link b i j c ≡ Ok None) × (Named ours n changes i j c → ⊥))
    ⊎ ((k : ℕ) × (ours.link b i j c ≡ Ok (Some k)) × LowestNumber (NamesLink ours n changes i j c) k))
    (sym (runs_so changes (opened n)))
    (⊎_elim
    (λ w. inl (w.0, λ v. w.1 (v.0, (names_so n changes i j c v.0).0 v.1)))
    (λ w. inr (w.0, w.1, lowest_number_as (λ x. (names_so n changes i j c x).1) (λ x. (names_so n changes i j c x).0) w.2))
    (link_exactly n legal changes i j c link.0 link.1 link.2 (ours.link (run changes (opened n)) i j c) (tests_so (run changes (opened n)) i j c)))

pub some_controller_meets_all : (c : Controller Book) × FilesAsPromised c × RoutesAsPromised c × StopsWhatIsNamed c
some_controller_meets_all = (ours, (λ b x. record { says = change_says (Change.file x) b; leaves = refl }), routes_so, stops_so)
