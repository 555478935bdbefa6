-- An entry meets its promise where it refuses by a number that its checks give, and where it passes them and does its work.
use Rattle.std.specs.Prelude.{Ok, Err}
use mathlib.Core.Path.{◌≡◌, sym, ap, ◌∙◌}
use mathlib.Core.List.{List, [], ◌∷◌, ◌++◌}
use Prim.Native.Nat.{ℕ}
use lib.ListN.{take, drop}
use Rattle.table.specs.declared.Refusal.{Refusal}
use Rattle.table.specs.Numbers.{number_of}
use Rattle.table.specs.Reply.{Reply.accepted, refused, Answer}
use Rattle.table.specs.Checks.{Given, Passed}
use Rattle.table.proofs.Checks.{given_refuses, passed_accepts}
use Rattle.scheme.specs.Tags.{steps_of, normal_tag}
use Rattle.tags.specs.Entries.{tag_to_steps_checks, TagToSteps, steps_to_tag_checks, StepsToTag, normal_form_checks, NormalForm, Tag}

pub to_steps_refuses : {n s tag : ℕ} {m : List ℕ} {r : Refusal}
    → Given (number_of r) (tag_to_steps_checks n s tag m) → TagToSteps n s tag m (Err r) m
to_steps_refuses {n} {s} {tag} {m} {r} g =
    record {
      says = sym (given_refuses refused (accepted []) (number_of r) (tag_to_steps_checks n s tag m) g);
      leaves = sym (given_refuses (λ k. m) (steps_of n s tag ++ drop n m) (number_of r) (tag_to_steps_checks n s tag m) g);
    }

pub to_steps_accepts : {n s tag : ℕ} {m left : List ℕ}
    → Passed (tag_to_steps_checks n s tag m) → left ≡ steps_of n s tag ++ drop n m → TagToSteps n s tag m (Ok tt) left
to_steps_accepts {n} {s} {tag} {m} p e =
    record {
      says = sym (passed_accepts refused (accepted []) (tag_to_steps_checks n s tag m) p);
      leaves = e ∙ sym (passed_accepts (λ k. m) (steps_of n s tag ++ drop n m) (tag_to_steps_checks n s tag m) p);
    }

pub to_tag_refuses : {n s : ℕ} {m : List ℕ} {r : Refusal} → Given (number_of r) (steps_to_tag_checks n s m) → StepsToTag n s m (Err r)
to_tag_refuses {n} {s} {m} {r} g =
    record { says = sym (given_refuses refused (accepted (normal_tag n s (take n m) ∷ [])) (number_of r) (steps_to_tag_checks n s m) g) }

pub to_tag_accepts : {n s : ℕ} {m : List ℕ} {t : ℕ} → Passed (steps_to_tag_checks n s m) → t ≡ normal_tag n s (take n m) → StepsToTag n s m (Ok t)
to_tag_accepts {n} {s} {m} p e =
    record {
      says =
          ap (λ (x : ℕ). accepted (x ∷ [])) e
          ∙ sym (passed_accepts refused (accepted (normal_tag n s (take n m) ∷ [])) (steps_to_tag_checks n s m) p);
    }

pub form_refuses : {n s tag : ℕ} {r : Refusal} → Given (number_of r) (normal_form_checks n s tag) → NormalForm n s tag (Err r)
form_refuses {n} {s} {tag} {r} g =
    record { says = sym (given_refuses refused (accepted (normal_tag n s (steps_of n s tag) ∷ [])) (number_of r) (normal_form_checks n s tag) g) }

pub form_accepts : {n s tag t : ℕ} → Passed (normal_form_checks n s tag) → t ≡ normal_tag n s (steps_of n s tag) → NormalForm n s tag (Ok t)
form_accepts {n} {s} {tag} p e =
    record {
      says =
          ap (λ (x : ℕ). accepted (x ∷ [])) e
          ∙ sym (passed_accepts refused (accepted (normal_tag n s (steps_of n s tag) ∷ [])) (normal_form_checks n s tag) p);
    }
