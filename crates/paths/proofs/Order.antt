-- The order of paths: it is that of their tags' states, stage 0 first, and so the order of keys; of clear paths no two are first.
use mathlib.Core.Path.{◌≡◌, refl, sym, ap, ap₂, subst, ◌∙◌}
use mathlib.Core.List.{List, [], ◌∷◌, ◌++◌}
use mathlib.Core.Logic.{◌⊎◌, inl, inr, ◌↔◌}
use Prim.Native.Nat.{ℕ, zero, suc, ◌+◌, ◌-◌, ◌*◌, ◌^◌, ◌≤◌, ◌<◌}
use native.Mathlib.Decide.{ℕ_discrete, dec_lt}
use native.Mathlib.Omega.{arith}
use lib.ListN.{length, take, drop, get_or, length-drop, take-append-drop, get_or-eq_default}
use lib.Seq.{length-take-le, drop-cons, take-take, take-suc, get_or-take}
use Rattle.fabric.specs.Labels.{size, bit}
use Rattle.fabric.specs.Links.{lands}
use Rattle.fabric.specs.Walks.{Path, walked, switch_at}
use Rattle.scheme.specs.Scheme.{link, state_for}
use Rattle.scheme.specs.Tags.{state, normal_tag}
use Rattle.scheme.proofs.Table.{state_for_lt}
use Rattle.scheme.proofs.NormalTags.{path_follows, normal_state}
use Rattle.paths.specs.Clear.{Rule, ClearPath, ComesBefore, First}
use Rattle.paths.proofs.Keys.{key_of, key_on, key_lt}

-- the key of steps, cut at stage k
key_cut : (n s : ℕ) (cs : List ℕ) (k : ℕ) → k < length cs →
    key_of n 0 s cs
    ≡ key_of n 0 s (take k cs) * 2 ^ (length cs - k)
    + (state_for (bit k (switch_at n s cs k)) (get_or cs k 0) * 2 ^ (length cs - suc k) + key_of n (suc k) (lands n k (get_or cs k 0) (switch_at n s cs k)) (drop (suc k) cs))
unfolding key_of
key_cut n s cs k h =
    let j : ℕ = switch_at n s cs k in
    let l : length (take k cs) ≡ k = length-take-le k cs (omega arith) in
    let m : 0 + length (take k cs) ≡ k = omega arith in
    ap (key_of n 0 s) (sym (take-append-drop k cs))
    ∙ key_on n 0 s (take k cs) (drop k cs)
    ∙ ap₂ (λ (a b : ℕ). key_of n 0 s (take k cs) * 2 ^ a + key_of n b j (drop k cs)) (length-drop k cs) m
    ∙ ap (λ (x : List ℕ). key_of n 0 s (take k cs) * 2 ^ (length cs - k) + key_of n k j x) (drop-cons cs k 0 h)
    ∙ ap (λ (a : ℕ). key_of n 0 s (take k cs) * 2 ^ (length cs - k) + (state_for (bit k j) (get_or cs k 0) * 2 ^ a + key_of n (suc k) (lands n k (get_or cs k 0) j) (drop (suc k) cs))) (length-drop (suc k) cs)

-- two codes of one switch on ways to d, with one state, are one code
module _ (n s d : ℕ) (cs ds : List ℕ) (p : Path n s d cs) (q : Path n s d ds) (k : ℕ) (inside : k < n) (together : take k cs ≡ take k ds) where
  same_switch : switch_at n s cs k ≡ switch_at n s ds k
  same_switch = ap (walked n 0 s) together

  pub same_state_same_code : state_for (bit k (switch_at n s cs k)) (get_or cs k 0) ≡ state_for (bit k (switch_at n s ds k)) (get_or ds k 0) → get_or cs k 0 ≡ get_or ds k 0
  same_state_same_code e =
      path_follows n s d cs p k inside
      ∙ ap₂ (λ (j st : ℕ). link (bit k j) (bit k d) st) same_switch e
      ∙ sym (path_follows n s d ds q k inside)

-- a path that comes before another has the lesser key
pub earlier_key : (n s d : ℕ) (cs ds : List ℕ) → Path n s d cs → Path n s d ds → ComesBefore n s cs ds → key_of n 0 s cs < key_of n 0 s ds
earlier_key n s d cs ds p q b =
    let k : ℕ = b.stage in
    let lc = p.steps.stages in
    let ld = q.steps.stages in
    let i = b.inside in
    let h : k < n = omega arith in
    let x : ℕ = state_for (bit k (switch_at n s ds k)) (get_or ds k 0) in
    let one : (x ≡ 0 → ⊥) = λ z. b.parted (same_state_same_code n s d cs ds p q k h b.together (b.zero_there ∙ sym z)) in
    let hx = state_for_lt (bit k (switch_at n s ds k)) (get_or ds k 0) in
    let m : ℕ = n - suc k in
    let ec : length cs - suc k ≡ m = omega arith in
    let ed : length ds - suc k ≡ m = omega arith in
    let fc : length cs - k ≡ length ds - k = omega arith in
    let restc = key_lt n (suc k) (lands n k (get_or cs k 0) (switch_at n s cs k)) (drop (suc k) cs) in
    let low : key_of n (suc k) (lands n k (get_or cs k 0) (switch_at n s cs k)) (drop (suc k) cs) < 2 ^ m =
    subst (λ (y : ℕ). key_of n (suc k) (lands n k (get_or cs k 0) (switch_at n s cs k)) (drop (suc k) cs) < 2 ^ y) (length-drop (suc k) cs ∙ ec) restc in
    let kc = key_cut n s cs k (omega arith) in
    let kd = key_cut n s ds k (omega arith) in
    let a : key_of n 0 s (take k cs) * 2 ^ (length cs - k) ≡ key_of n 0 s (take k ds) * 2 ^ (length ds - k) =
    ap₂ (λ (y : List ℕ) (z : ℕ). key_of n 0 s y * 2 ^ z) b.together fc in
    let tc : state_for (bit k (switch_at n s cs k)) (get_or cs k 0) * 2 ^ (length cs - suc k) ≡ 0 = ap (λ (y : ℕ). y * 2 ^ (length cs - suc k)) b.zero_there ∙ omega arith in
    let ones : x ≡ 1 = omega arith in
    let td : x * 2 ^ (length ds - suc k) ≡ 2 ^ m = ap₂ (λ (y z : ℕ). y * 2 ^ z) ones ed ∙ omega arith in
    omega arith

-- the two tags have the same states up to a stage, and there the first has 0 and the second 1
pub record StatesBefore (n a b : ℕ) : Type 0 where
  pub stage : ℕ
  pub inside : stage < n
  pub together : (i : ℕ) → i < stage → state n a i ≡ state n b i
  pub zero_there : state n a stage ≡ 0
  pub one_there : state n b stage ≡ 1

-- "two paths are compared at the first stage where they differ, and the one with state 0 there goes before the other": by the state bits of the paths' normal
-- tags
pub before_exactly : (n s d : ℕ) → s < size n → (cs ds : List ℕ) → Path n s d cs → Path n s d ds
    → ComesBefore n s cs ds ↔ StatesBefore n (normal_tag n s cs) (normal_tag n s ds)
before_exactly n s d source cs ds p q = (told, back)
  where
    lc : length cs ≡ n
    lc = p.steps.stages

    ld : length ds ≡ n
    ld = q.steps.stages

    of_first : (i : ℕ) → i < n → state n (normal_tag n s cs) i ≡ state_for (bit i (switch_at n s cs i)) (get_or cs i 0)
    of_first i h = normal_state n s source cs i (omega arith)

    of_second : (i : ℕ) → i < n → state n (normal_tag n s ds) i ≡ state_for (bit i (switch_at n s ds i)) (get_or ds i 0)
    of_second i h = normal_state n s source ds i (omega arith)

    less : (k i : ℕ) → i ≤ k → take k cs ≡ take k ds → take i cs ≡ take i ds
    less k i l e = sym (take-take i k cs l) ∙ ap (take i) e ∙ take-take i k ds l

    told : ComesBefore n s cs ds → StatesBefore n (normal_tag n s cs) (normal_tag n s ds)
    told b =
        let k : ℕ = b.stage in
        let i = b.inside in
        let h : k < n = omega arith in
        let x : ℕ = state_for (bit k (switch_at n s ds k)) (get_or ds k 0) in
        let one : (x ≡ 0 → ⊥) = λ z. b.parted (same_state_same_code n s d cs ds p q k h b.together (b.zero_there ∙ sym z)) in
        let hx = state_for_lt (bit k (switch_at n s ds k)) (get_or ds k 0) in
        record {
          stage = k;
          inside = h;
          together = λ i l.
              let code : get_or cs i 0 ≡ get_or ds i 0 = sym (get_or-take k cs i 0 l) ∙ ap (λ (xs : List ℕ). get_or xs i 0) b.together ∙ get_or-take k ds i 0 l in
              of_first i (omega arith)
              ∙ ap₂ (λ (j c : ℕ). state_for (bit i j) c) (ap (walked n 0 s) (less k i (omega arith) b.together)) code
              ∙ sym (of_second i (omega arith));
          zero_there = of_first k h ∙ b.zero_there;
          one_there = of_second k h ∙ omega arith;
        }

    code_at_stage : (i : ℕ) → i < n → take i cs ≡ take i ds → state n (normal_tag n s cs) i ≡ state n (normal_tag n s ds) i → get_or cs i 0 ≡ get_or ds i 0
    code_at_stage i h e same = same_state_same_code n s d cs ds p q i h e (sym (of_first i h) ∙ same ∙ of_second i h)

    back : StatesBefore n (normal_tag n s cs) (normal_tag n s ds) → ComesBefore n s cs ds
    back b =
        let k : ℕ = b.stage in
        let e : take k cs ≡ take k ds = all_together k (omega arith) in
        record {
          stage = k;
          inside = b.inside;
          together = e;
          parted = λ same.
              let f : state n (normal_tag n s cs) k ≡ state n (normal_tag n s ds) k =
              of_first k b.inside ∙ ap₂ (λ (j c : ℕ). state_for (bit k j) c) (ap (walked n 0 s) e) same ∙ sym (of_second k b.inside) in
              let z = b.zero_there in
              let o = b.one_there in
              absurd (omega arith);
          zero_there = sym (of_first k b.inside) ∙ b.zero_there;
        }
      where
        all_together : (i : ℕ) → i ≤ b.stage → take i cs ≡ take i ds
        all_together zero l = refl
        all_together (suc i) l =
            let inside = b.inside in
            let e = all_together i (omega arith) in
            let c = code_at_stage i (omega arith) e (b.together i (omega arith)) in
            take-suc cs i 0 (omega arith) ∙ ap₂ (λ (xs : List ℕ) (x : ℕ). xs ++ (x ∷ [])) e c ∙ sym (take-suc ds i 0 (omega arith))

-- two lists of one length are the same, or part somewhere
pub record Parted (cs ds : List ℕ) : Type 0 where
  pub stage : ℕ
  pub together : take stage cs ≡ take stage ds
  pub parted : get_or cs stage 0 ≡ get_or ds stage 0 → ⊥

same_or_parted : (cs ds : List ℕ) → length cs ≡ length ds → (cs ≡ ds) ⊎ Parted cs ds
same_or_parted [] [] l = inl refl
same_or_parted [] (e ∷ ds) l = absurd (omega arith)
same_or_parted (c ∷ cs) [] l = absurd (omega arith)
same_or_parted (c ∷ cs) (e ∷ ds) l = go (ℕ_discrete c e) (same_or_parted cs ds (omega arith))
  where
    go : Dec (c ≡ e) → (cs ≡ ds) ⊎ Parted cs ds → ((c ∷ cs) ≡ (e ∷ ds)) ⊎ Parted (c ∷ cs) (e ∷ ds)
    go (yes x) (inl y) = inl (ap₂ (λ (u : ℕ) (v : List ℕ). u ∷ v) x y)
    go (yes x) (inr y) =
        inr (record { stage = suc y.stage; together = ap₂ (λ (u : ℕ) (v : List ℕ). u ∷ v) x y.together; parted = y.parted })
    go (no x) y = inr (record { stage = 0; together = refl; parted = x })

-- where paths part they are still inside
inside_stage : (n : ℕ) (cs ds : List ℕ) (k : ℕ) → length cs ≡ n → length ds ≡ n → (get_or cs k 0 ≡ get_or ds k 0 → ⊥) → k < n
inside_stage n cs ds k lc ld parted = go (dec_lt k n)
  where
    go : Dec (k < n) → k < n
    go (yes h) = h
    go (no h) = absurd (parted (get_or-eq_default cs 0 (omega arith) ∙ sym (get_or-eq_default ds 0 (omega arith))))

module _ (n : ℕ) (stops : Rule) (s d : ℕ) where
  -- the first clear path is the one that comes before every other
  pub first_exactly : (cs : List ℕ)
      → First n stops s d cs ↔ (ClearPath n stops s d cs × ((ds : List ℕ) → ClearPath n stops s d ds → (cs ≡ ds) ⊎ ComesBefore n s cs ds))
  first_exactly cs = (λ w. (w.clear_path, λ ds q. before w ds q), λ w. record { clear_path = w.0; first = λ ds q b. never w.0 ds q b (w.1 ds q) })
    where
      never : ClearPath n stops s d cs → (ds : List ℕ) → ClearPath n stops s d ds → ComesBefore n s ds cs → (cs ≡ ds) ⊎ ComesBefore n s cs ds → ⊥
      never p ds q b (inl e) = b.parted (ap (λ (xs : List ℕ). get_or xs b.stage 0) (sym e))
      never p ds q b (inr c) =
          let k = earlier_key n s d ds cs q.path p.path b in
          let l = earlier_key n s d cs ds p.path q.path c in
          absurd (omega arith)

      before : First n stops s d cs → (ds : List ℕ) → ClearPath n stops s d ds → (cs ≡ ds) ⊎ ComesBefore n s cs ds
      before w ds q = go (same_or_parted cs ds (pc.steps.stages ∙ sym pd.steps.stages))
        where
          pc : Path n s d cs
          pc = w.clear_path.path

          pd : Path n s d ds
          pd = q.path

          at : (v : Parted cs ds) → v.stage < n → (x y : ℕ)
              → state_for (bit v.stage (switch_at n s cs v.stage)) (get_or cs v.stage 0) ≡ x
              → state_for (bit v.stage (switch_at n s ds v.stage)) (get_or ds v.stage 0) ≡ y → x < 2 → y < 2 → ComesBefore n s cs ds
          at v h zero y ex ey hx hy = record { stage = v.stage; inside = h; together = v.together; parted = v.parted; zero_there = ex }
          at v h (suc x) zero ex ey hx hy =
              absurd
              (w.first ds q (record { stage = v.stage; inside = h; together = sym v.together; parted = λ e. v.parted (sym e); zero_there = ey }))
          at v h (suc x) (suc y) ex ey hx hy =
              let e : suc x ≡ suc y = omega arith in
              absurd (v.parted (same_state_same_code n s d cs ds pc pd v.stage h v.together (ex ∙ e ∙ sym ey)))

          go : (cs ≡ ds) ⊎ Parted cs ds → (cs ≡ ds) ⊎ ComesBefore n s cs ds
          go (inl e) = inl e
          go (inr v) =
              inr
              (at v (inside_stage n cs ds v.stage pc.steps.stages pd.steps.stages v.parted) _ _ refl refl
              (state_for_lt (bit v.stage (switch_at n s cs v.stage)) (get_or cs v.stage 0))
              (state_for_lt (bit v.stage (switch_at n s ds v.stage)) (get_or ds v.stage 0)))

  -- no two clear paths are first
  pub first_once : (cs ds : List ℕ) → First n stops s d cs → First n stops s d ds → cs ≡ ds
  first_once cs ds p q = go (((first_exactly cs).0 p).1 ds q.clear_path)
    where
      go : (cs ≡ ds) ⊎ ComesBefore n s cs ds → cs ≡ ds
      go (inl e) = e
      go (inr b) = absurd (q.first cs p.clear_path b)
