-- Clear walks toward a destination, shortened and lengthened by a link at their end.
use mathlib.Core.Path.{◌≡◌, sym, ap, subst, ◌∙◌}
use mathlib.Core.List.{List, [], ◌∷◌, ◌++◌}
use Prim.Native.Nat.{ℕ, zero, suc, ◌+◌, ◌%◌, ◌^◌, ◌≤◌, ◌<◌}
use native.Mathlib.Decide.{ℕ_discrete}
use native.Mathlib.Omega.{arith}
use lib.ListN.{length, take, get_or, length-append, get_or-append}
use lib.Seq.{length-take-le, take-take, take_all, take-suc, take-append-le, get_or-take, get_or_at}
use Rattle.fabric.specs.Labels.{size, Agree}
use Rattle.fabric.specs.Links.{Code, lands}
use Rattle.fabric.specs.Walks.{Codes, walked, switch_at}
use Rattle.fabric.proofs.Bits.{agree_below, agree_less}
use Rattle.fabric.proofs.Stages.{walked_lt, walked_on, switch_next, on_the_way}
use Rattle.scheme.proofs.NormalTags.{code_at}
use Rattle.paths.specs.Clear.{Rule, ClearPath, Onward}

codes_take : (k : ℕ) (cs : List ℕ) → Codes cs → Codes (take k cs)
codes_take zero cs h = tt
codes_take (suc k) [] h = tt
codes_take (suc k) (c ∷ cs) h = (h.0, codes_take k cs h.1)

codes_snoc : (cs : List ℕ) (c : ℕ) → Codes cs → Code c → Codes (cs ++ (c ∷ []))
codes_snoc [] c h k = (k, tt)
codes_snoc (x ∷ cs) c h k = (h.0, codes_snoc cs c h.1 k)

-- the switch in a column of a longer walk
pub switch_of_longer : (n s : ℕ) (cs ds : List ℕ) (k : ℕ) → k ≤ length cs → switch_at n s (cs ++ ds) k ≡ switch_at n s cs k
switch_of_longer n s cs ds k h = ap (walked n 0 s) (take-append-le k cs ds h)

pub walked_snoc : (n s : ℕ) (cs : List ℕ) (c : ℕ) → walked n 0 s (cs ++ (c ∷ [])) ≡ lands n (length cs) c (walked n 0 s cs)
unfolding walked
walked_snoc n s cs c = walked_on n 0 s cs (c ∷ []) ∙ ap (λ (m : ℕ). lands n m c (walked n 0 s cs)) {x = 0 + length cs} {y = length cs} (omega arith)

module _ (n : ℕ) (stops : Rule) (s d : ℕ) where
  -- the first k links
  pub shorter : (m k : ℕ) (cs : List ℕ) → m ≤ n → k ≤ m → Onward n stops s d m cs → Onward n stops s d k (take k cs)
  shorter m k cs hm hk w =
      let l = w.links in
      let lt : length (take k cs) ≡ k = length-take-le k cs (omega arith) in
      record {
        links = lt;
        codes = codes_take k cs w.codes;
        clear = λ i h.
            let hk' : i < k = omega arith in
            rw (take-take i k cs (omega arith), get_or-take k cs i 0 hk') (w.clear i (omega arith));
        agrees = on_the_way n s cs k (omega arith) (omega arith) ∙ agree_less k m (walked n 0 s cs) d hk w.agrees;
      }

  -- one link more
  pub lengthened : (k : ℕ) (cs : List ℕ) (c : ℕ) → Onward n stops s d k cs → Code c → stops k (walked n 0 s cs) c ≡ 0
      → Agree (suc k) (lands n k c (walked n 0 s cs)) d → Onward n stops s d (suc k) (cs ++ (c ∷ []))
  lengthened k cs c w code free agrees =
      let l = w.links in
      let e : walked n 0 s (cs ++ (c ∷ [])) ≡ lands n k c (walked n 0 s cs) = walked_snoc n s cs c ∙ ap (λ (m : ℕ). lands n m c (walked n 0 s cs)) l in
      record {
        links = length-append cs (c ∷ []) ∙ omega arith;
        codes = codes_snoc cs c w.codes code;
        clear = λ i h. at i (subst (λ (m : ℕ). i < m) (length-append cs (c ∷ []) ∙ omega arith) h) (ℕ_discrete i k);
        agrees = rw e agrees;
      }
    where
      at : (i : ℕ) → i < suc k → Dec (i ≡ k) → stops i (switch_at n s (cs ++ (c ∷ [])) i) (get_or (cs ++ (c ∷ [])) i 0) ≡ 0
      at i h (yes e) =
          let l = w.links in
          rw (e, switch_of_longer n s cs (c ∷ []) k (omega arith), get_or_at cs c [] 0 k l, take_all k cs (omega arith)) free
      at i h (no e) =
          let l = w.links in
          let b : i < length cs = omega arith in
          rw (switch_of_longer n s cs (c ∷ []) i (omega arith), get_or-append cs (c ∷ []) 0 i b) (w.clear i b)

  -- the last link of a walk, and what led to it
  pub record Last (k : ℕ) (cs : List ℕ) : Type 0 where
    pub before : List ℕ
    pub code : ℕ
    pub ends : cs ≡ before ++ (code ∷ [])
    pub onward : Onward n stops s d k before
    pub is_code : Code code
    pub free : stops k (walked n 0 s before) code ≡ 0
    pub agrees : Agree (suc k) (lands n k code (walked n 0 s before)) d

  pub last : (k : ℕ) (cs : List ℕ) → suc k ≤ n → Onward n stops s d (suc k) cs → Last k cs
  last k cs h w =
      let l = w.links in
      let e : cs ≡ take k cs ++ (get_or cs k 0 ∷ []) = sym (take_all (suc k) cs (omega arith)) ∙ take-suc cs k 0 (omega arith) in
      record {
        before = take k cs;
        code = get_or cs k 0;
        ends = e;
        onward = shorter (suc k) k cs h (omega arith) w;
        is_code = code_at cs k w.codes;
        free = w.clear k (omega arith);
        agrees =
            ap (λ (x : ℕ). x % 2 ^ suc k) (sym (switch_next n s cs k (omega arith)) ∙ ap (walked n 0 s) (take_all (suc k) cs (omega arith)))
            ∙ w.agrees;
      }

  -- a clear walk of n links toward d is a clear path to d
  pub onward_path : s < size n → d < size n → (cs : List ℕ) → Onward n stops s d n cs → ClearPath n stops s d cs
  onward_path hs hd cs w =
      record {
        path = record {
          steps = record { stages = w.links; codes = w.codes };
          arrives = agree_below n (walked n 0 s cs) d (walked_lt n 0 s cs hs) hd w.agrees;
        };
        clear = w.clear;
      }

  pub path_onward : (cs : List ℕ) → ClearPath n stops s d cs → Onward n stops s d n cs
  path_onward cs p =
      record {
        links = p.path.steps.stages;
        codes = p.path.steps.codes;
        clear = p.clear;
        agrees = ap (λ (x : ℕ). x % 2 ^ n) p.path.arrives;
      }
