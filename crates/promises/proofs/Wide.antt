-- How wide two of the excluded kinds are, whatever a controller's link test says: filings that leave the book as it was change no link, and plus and minus
-- that test alike are one link.
use Rattle.std.specs.Prelude.{Ok, None}
use mathlib.Core.Path.{◌≡◌, sym, ◌∙◌}
use mathlib.Core.Bool.{false}
use mathlib.Core.List.{List}
use mathlib.Core.Logic.{◌↔◌}
use Prim.Native.Nat.{ℕ, suc, ◌<◌}
use Rattle.fabric.specs.Labels.{size, outside_sizes}
use Rattle.questions.specs.Entries.{Link}
use Rattle.changes.specs.Runs.{Change}
use Rattle.promises.specs.Controllers.{Controller, Named, SameLinks, PlusAndMinusOneLink}

module _ {B : Type 0} (c : Controller B) where
  -- a book has the same links as itself, and two books have the same links whichever comes first
  pub same_links_itself : (b : B) → SameLinks c b b
  same_links_itself b i j code = ((λ e. e), λ e. e)

  pub same_links_back : (a b : B) → SameLinks c a b → SameLinks c b a
  same_links_back a b same i j code = ((same i j code).1, (same i j code).0)

  -- plus and minus of the last stage that test alike are one link, although plus alone is named
  pub alike_is_one_link : (last : ℕ) → outside_sizes (suc last) ≡ false → (changes : List Change) (switch : ℕ) → switch < size (suc last)
      → Named c (suc last) changes last switch 1 → (Named c (suc last) changes last switch 2 → ⊥)
      → ((b : B) (j : ℕ) → c.link b last j 1 ≡ c.link b last j 2) → PlusAndMinusOneLink c
  alike_is_one_link last legal changes switch label plus minus alike =
      record {
        last = last;
        legal = legal;
        changes = changes;
        switch = switch;
        label = label;
        plus = plus;
        minus = minus;
        one = λ b j. ((λ e. sym (alike b j) ∙ e), λ e. alike b j ∙ e);
      }

  -- and of one link, each is clear where the other is
  pub one_link_alike : (w : PlusAndMinusOneLink c) (b : B) (j : ℕ) → (c.link b w.last j 2 ≡ Ok None) ↔ (c.link b w.last j 1 ≡ Ok None)
  one_link_alike w b j = ((w.one b j).1, (w.one b j).0)
