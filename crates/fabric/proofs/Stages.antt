-- Walks through the stages, for every n: the low bits settle, and a walk ends at d exactly when it agrees with d in one bit
-- more after each stage.
use Rattle.std.proofs.Common.{◌≡◌, ℕ, zero, suc, ◌+◌, ◌%◌, ◌^◌, ◌<◌, ◌≤◌, ◌↔◌, List, [], ◌∷◌, ◌++◌, length, get_or, take, drop, replicate, sym, refl, ap, ◌∙◌, subst, ap₂, add-zero, arith, length-drop, take-append-drop, length-take-le, take-suc}
use lib.ListN.{length-replicate}
use lib.Seq.{take-length}
use Rattle.fabric.specs.Labels.{size, Agree}
use Rattle.fabric.specs.Links.{Code, lands}
use Rattle.fabric.specs.Walks.{Codes, Steps, Path, walked, switch_at}
use Rattle.fabric.proofs.Bits.{agree_less, agree_below}
use Rattle.fabric.proofs.Links.{lands_lt, low_bits_stay, toward_straight}

-- codes are codes in every place
pub codes_each : (cs : List ℕ) → Codes cs ↔ ((k : ℕ) → k < length cs → Code (get_or cs k 0))
codes_each cs = (each cs, all cs)
  where
    each : (xs : List ℕ) → Codes xs → (k : ℕ) → k < length xs → Code (get_or xs k 0)
    each [] h k l = absurd (omega arith)
    each (x ∷ xs) h zero l = h.0
    each (x ∷ xs) h (suc k) l = each xs h.1 k (omega arith)

    all : (xs : List ℕ) → ((k : ℕ) → k < length xs → Code (get_or xs k 0)) → Codes xs
    all [] f = tt
    all (x ∷ xs) f = (f 0 (omega arith), all xs (λ k l. f (suc k) (omega arith)))

module _ (n : ℕ) where
  pub walked_lt : (i j : ℕ) (cs : List ℕ) → j < size n → walked n i j cs < size n
  unfolding walked
  walked_lt i j [] h = h
  walked_lt i j (c ∷ cs) h = walked_lt (suc i) (lands n i c j) cs (lands_lt n i c j h)

  -- a walk by one run of codes and then another
  pub walked_on : (i j : ℕ) (xs ys : List ℕ) → walked n i j (xs ++ ys) ≡ walked n (i + length xs) (walked n i j xs) ys
  unfolding walked
  walked_on i j [] ys = ap (λ (k : ℕ). walked n k j ys) (sym (add-zero i))
  walked_on i j (x ∷ xs) ys =
      walked_on (suc i) (lands n i x j) xs ys
      ∙ ap (λ (k : ℕ). walked n k (walked n (suc i) (lands n i x j) xs) ys) {x = suc i + length xs} {y = i + suc (length xs)} (omega arith)

  -- the switch in the next column
  pub switch_next : (s : ℕ) (cs : List ℕ) (k : ℕ) → k < length cs → switch_at n s cs (suc k) ≡ lands n k (get_or cs k 0) (switch_at n s cs k)
  unfolding walked
  switch_next s cs k h =
      let l : length (take k cs) ≡ k = length-take-le k cs (omega arith) in
      ap (walked n 0 s) (take-suc cs k 0 h)
      ∙ walked_on 0 s (take k cs) (get_or cs k 0 ∷ [])
      ∙ ap (λ (m : ℕ). lands n m (get_or cs k 0) (switch_at n s cs k)) {x = 0 + length (take k cs)} {y = k} (omega arith)

  -- from stage i on the bits below bit i never change again
  pub low_bits_settle : (i j : ℕ) (cs : List ℕ) → i + length cs ≤ n → Agree i (walked n i j cs) j
  unfolding walked
  low_bits_settle i j [] h = refl
  low_bits_settle i j (c ∷ cs) h =
      agree_less i (suc i) (walked n (suc i) (lands n i c j) cs) (lands n i c j) (omega arith) (low_bits_settle (suc i) (lands n i c j) cs (omega arith))
      ∙ low_bits_stay n i (omega arith) c j

  -- so the switch in column k has the low k bits of the walk's end
  pub on_the_way : (s : ℕ) (cs : List ℕ) (k : ℕ) → length cs ≤ n → k ≤ length cs → Agree k (switch_at n s cs k) (walked n 0 s cs)
  on_the_way s cs k h l =
      let t : length (take k cs) ≡ k = length-take-le k cs l in
      let e : walked n 0 s cs ≡ walked n k (switch_at n s cs k) (drop k cs) =
      ap (walked n 0 s) (sym (take-append-drop k cs))
      ∙ walked_on 0 s (take k cs) (drop k cs)
      ∙ ap (λ (m : ℕ). walked n m (switch_at n s cs k) (drop k cs)) {x = 0 + length (take k cs)} {y = k} (omega arith) in
      let b : k + length (drop k cs) ≤ n = simp length-drop (omega arith) in
      sym (ap (λ (x : ℕ). x % 2 ^ k) e ∙ low_bits_settle k (switch_at n s cs k) (drop k cs) b)

  -- a walk of n links ends at d exactly when in each column k it agrees with d in its low k bits
  pub arrives_agrees : (s d : ℕ) (cs : List ℕ) → length cs ≡ n → walked n 0 s cs ≡ d → (k : ℕ) → k ≤ n → Agree k (switch_at n s cs k) d
  arrives_agrees s d cs l e k h = on_the_way s cs k (omega arith) (omega arith) ∙ ap (λ (x : ℕ). x % 2 ^ k) e

  pub agrees_arrives : (s d : ℕ) (cs : List ℕ) → length cs ≡ n → s < size n → d < size n → ((k : ℕ) → k ≤ n → Agree k (switch_at n s cs k) d) → walked n 0 s cs ≡ d
  agrees_arrives s d cs l hs hd a =
      let e : take n cs ≡ cs = ap (λ (m : ℕ). take m cs) (sym l) ∙ take-length cs in
      agree_below n (walked n 0 s cs) d (walked_lt 0 s cs hs) hd (subst (λ (x : List ℕ). Agree n (walked n 0 s x) d) e (a n (omega arith)))

  -- a path is steps that lie at s in column 0 and at d in column n
  pub path_exactly : (s d : ℕ) (cs : List ℕ) → Path n s d cs ↔ (Steps n cs × (switch_at n s cs 0 ≡ s) × (switch_at n s cs n ≡ d))
  unfolding walked
  path_exactly s d cs = (
    λ p. (p.steps, refl, ap (walked n 0 s) (whole p.steps) ∙ p.arrives),
    λ w. record { steps = w.0; arrives = sym (ap (walked n 0 s) (whole w.0)) ∙ w.2 },
  )
    where
      whole : Steps n cs → take n cs ≡ cs
      whole steps = ap (λ (m : ℕ). take m cs) (sym steps.stages) ∙ take-length cs

  -- "From a label to itself only the straight path leads."
  straight_step : (s : ℕ) (cs : List ℕ) → Path n s s cs → (k : ℕ) → k < n → switch_at n s cs k ≡ s → get_or cs k 0 ≡ 0
  straight_step s cs p k h here =
      let l = p.steps.stages in
      let onward : Agree (suc k) (lands n k (get_or cs k 0) s) s =
      ap (λ (x : ℕ). x % 2 ^ suc k) (sym (switch_next s cs k (omega arith) ∙ ap (lands n k (get_or cs k 0)) here))
      ∙ arrives_agrees s s cs p.steps.stages p.arrives (suc k) h in
      toward_straight n k h (get_or cs k 0) s s onward refl

  straight_so_far : (s : ℕ) (cs : List ℕ) → Path n s s cs → (k : ℕ) → k ≤ n → switch_at n s cs k ≡ s
  unfolding walked
  straight_so_far s cs p zero h = refl
  straight_so_far s cs p (suc k) h =
      let l = p.steps.stages in
      let here = straight_so_far s cs p k (omega arith) in
      switch_next s cs k (omega arith) ∙ ap₂ (λ (c j : ℕ). lands n k c j) (straight_step s cs p k h here) here

  pub straight_only : (s : ℕ) (cs : List ℕ) → Path n s s cs → (k : ℕ) → k < n → get_or cs k 0 ≡ 0
  straight_only s cs p k h = straight_step s cs p k h (straight_so_far s cs p k (omega arith))

  -- and it is one: n straight codes, whatever n and s
  straight_stays : (i s k : ℕ) → walked n i s (replicate k 0) ≡ s
  unfolding walked
  straight_stays i s zero = refl
  straight_stays i s (suc k) = straight_stays (suc i) s k

  straight_codes : (k : ℕ) → Codes (replicate k 0)
  straight_codes zero = tt
  straight_codes (suc k) = (omega arith, straight_codes k)

  all_straight : (cs : List ℕ) → ((k : ℕ) → k < length cs → get_or cs k 0 ≡ 0) → cs ≡ replicate (length cs) 0
  all_straight [] f = refl
  all_straight (c ∷ cs) f = ap₂ (λ (x : ℕ) (xs : List ℕ). x ∷ xs) (f 0 (omega arith)) (all_straight cs (λ k l. f (suc k) (omega arith)))

  pub straight_exactly : (s : ℕ) (cs : List ℕ) → Path n s s cs ↔ (cs ≡ replicate n 0)
  straight_exactly s cs = (
    λ p. let l = p.steps.stages in all_straight cs (λ k h. straight_only s cs p k (omega arith)) ∙ ap (λ (m : ℕ). replicate m 0) l,
    λ e. subst (Path n s s) (sym e)
        (record { steps = record { stages = length-replicate n 0; codes = straight_codes n }; arrives = straight_stays 0 s n }),
  )
