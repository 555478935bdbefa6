-- The frontier, carried forward stage by stage, holds the first clear walk to each of its two switches; so the end of it is
-- the first clear path.
use Rattle.std.proofs.Common.{◌≡◌, ℕ, suc, ◌+◌, ◌-◌, ◌*◌, ◌<◌, ◌≤◌, Bool, true, false, cond, List, [], sym, refl, ap, ◌∙◌, subst, ap₂, ⊎_elim, zero-le, arith, pow_pos}
use Rattle.fabric.specs.Labels.{size, bit}
use Rattle.fabric.proofs.Bits.{bit_lt}
use Rattle.scheme.specs.Scheme.{state_for}
use Rattle.scheme.specs.Tags.{normal_tag}
use Rattle.scheme.proofs.Table.{state_for_plus, state_for_minus}
use Rattle.frontier.specs.declared.Front.{Front}
use Rattle.paths.specs.Clear.{Rule, Onward, First}
use Rattle.frontier.specs.Columns.{high, low, high_right}
use Rattle.frontier.specs.Stops.{StopsAt, stopping, stops_from}
use Rattle.frontier.specs.Frontier.{start, through, lesser, advanced, mirrored}
use Rattle.paths.proofs.Keys.{key_of}
use Rattle.frontier.proofs.Mirrored.{key_mirrored}
use Rattle.paths.proofs.Walks.{onward_path, path_onward}
use Rattle.frontier.proofs.Pivots.{low_bit_wrong, high_bit_wrong}
use Rattle.frontier.proofs.Best.{Best, Via, none_best, best_as, through_best, lesser_best}
use Rattle.frontier.proofs.Sides.{Arrives, sides, sides_complete, up_onward, down_onward, up_arrives, down_arrives, next}
use Rattle.paths.proofs.Order.{earlier_key}

-- whether the links out of column i that lead toward d are stopped
pub record Looks (n : ℕ) (stops : Rule) (s d i : ℕ) (right : Bool) (x : StopsAt) : Type 0 where
  pub straight : x.straight ≡ stopping (stops i (cond right (high n s d i) (low n s d i)) 0)
  pub plus : x.plus ≡ stopping (stops i (cond right (low n s d i) (high n s d i)) 1)
  pub minus : x.minus ≡ stopping (stops i (cond right (low n s d i) (high n s d i)) 2)

-- what the frontier holds in column i
pub record Holds (n : ℕ) (stops : Rule) (s d i : ℕ) (f : Front) : Type 0 where
  pub high : Best n s (sides n stops s d i).up f.high
  pub low : Best n s (sides n stops s d i).down f.low

-- the tag of the first clear path
pub record Found (n : ℕ) (stops : Rule) (s d tag : ℕ) : Type 0 where
  pub steps : List ℕ
  pub first : First n stops s d steps
  pub normal : tag ≡ normal_tag n s steps

pub looks_from : (n : ℕ) (stops : Rule) (s d i : ℕ) (right : Bool) (x : StopsAt)
    → x ≡ stops_from stops i (cond right (high n s d i) (low n s d i)) (cond right (low n s d i) (high n s d i)) → Looks n stops s d i right x
looks_from n stops s d i right x e = rw e (record { straight = refl; plus = refl; minus = refl })

module _ (n : ℕ) (stops : Rule) (s d : ℕ) (source : s < size n) where
  pub start_holds : Holds n stops s d 0 (start n)
  unfolding sides key_of
  start_holds =
      record {
        high = record {
          reached = λ l. record { walk = []; among = refl; keyed = refl; least = λ cs w. zero-le };
          unreached = λ l. let p = pow_pos n in absurd (omega arith);
        };
        low = none_best n s (λ cs. ⊥) (λ cs e. e) (size n) (omega arith);
      }

  -- the first walks with one link more
  onward_by : (i j c state : ℕ) (stop : Bool) (P : List ℕ → Type 0) (p : ℕ) → i < n → ((cs : List ℕ) → P cs → Arrives n stops s d i j cs)
      → state ≡ state_for (bit i j) c → stop ≡ stopping (stops i j c) → Best n s P p → Best n s (Via stops i j c P) (through n p stop state)
  onward_by i j c state stop P p h arrives es e b =
      subst (λ (x : Bool). Best n s (Via stops i j c P) (through n p x state)) (sym e)
      (through_best n s stops i j c state P p h (λ cs w. let a = arrives cs w in (a.onward.links, a.at)) es b)

  -- the states of plus and minus at a switch whose bit is wrong
  plus_state : (i j : ℕ) → bit i j ≡ 1 - bit i d → 1 - bit i d ≡ state_for (bit i j) 1
  plus_state i j e = sym e ∙ sym (state_for_plus (bit i j) (bit_lt i j))

  minus_state : (i j : ℕ) → bit i j ≡ 1 - bit i d → bit i d ≡ state_for (bit i j) 2
  minus_state i j e = let t = bit_lt i d in sym (state_for_minus (bit i j) 2 (bit_lt i j) (omega arith) ∙ ap (λ (x : ℕ). 1 - x) e ∙ omega arith)

  record Stepped (i : ℕ) (b right : Bool) (x : StopsAt) (f : Front) : Type 0 where
    high : Best n s (next n stops s d i b (sides n stops s d i)).up (advanced n right (bit i d) x f).high
    low : Best n s (next n stops s d i b (sides n stops s d i)).down (advanced n right (bit i d) x f).low

  stepped : (i : ℕ) → i < n → (right : Bool) → high_right n s d i ≡ right → (x : StopsAt) → Looks n stops s d i right x → (f : Front)
      → Holds n stops s d i f → Stepped i right right x f
  unfolding advanced
  stepped i h true e x look f held =
      let hi : ℕ = high n s d i in
      let lo : ℕ = low n s d i in
      let up = up_arrives n stops s d source i (omega arith) in
      let down = down_arrives n stops s d source i (omega arith) in
      let wrong = low_bit_wrong n s d source i h e in
      let w = sides n stops s d i in
      record {
        high =
            lesser_best n s (Via stops i hi 0 w.up) (Via stops i lo 1 w.down) _ _
            (onward_by i hi 0 0 x.straight w.up f.high h up refl look.straight held.high)
            (onward_by i lo 1 (1 - bit i d) x.plus w.down f.low h down (plus_state i lo wrong) look.plus held.low);
        low = onward_by i lo 2 (bit i d) x.minus w.down f.low h down (minus_state i lo wrong) look.minus held.low;
      }
  stepped i h false e x look f held =
      let hi : ℕ = high n s d i in
      let lo : ℕ = low n s d i in
      let up = up_arrives n stops s d source i (omega arith) in
      let down = down_arrives n stops s d source i (omega arith) in
      let wrong = high_bit_wrong n s d source i h e in
      let w = sides n stops s d i in
      record {
        high = onward_by i hi 1 (1 - bit i d) x.plus w.up f.high h up (plus_state i hi wrong) look.plus held.high;
        low =
            lesser_best n s (Via stops i lo 0 w.down) (Via stops i hi 2 w.up) _ _
            (onward_by i lo 0 0 x.straight w.down f.low h down refl look.straight held.low)
            (onward_by i hi 2 (bit i d) x.minus w.up f.high h up (minus_state i hi wrong) look.minus held.high);
      }

  -- the frontier one stage on
  pub advanced_holds : (i : ℕ) → i < n → (right : Bool) → high_right n s d i ≡ right → (x : StopsAt) → Looks n stops s d i right x → (f : Front)
      → Holds n stops s d i f → Holds n stops s d (suc i) (advanced n right (bit i d) x f)
  unfolding sides
  advanced_holds i h right e x look f held =
      let w = subst (λ (b : Bool). Stepped i b right x f) (sym e) (stepped i h right e x look f held) in
      record { high = w.high; low = w.low }

  -- the lesser of the two is the first of all clear walks onward
  pub onward_best : (i : ℕ) → i ≤ n → (f : Front) → Holds n stops s d i f → Best n s (Onward n stops s d i) (lesser f.high f.low)
  onward_best i h f held =
      best_as n s
      (λ cs v. ⊎_elim (up_onward n stops s d source i h cs) (down_onward n stops s d source i h cs) v)
      (λ cs u. sides_complete n stops s d source i h cs u)
      (lesser_best n s _ _ f.high f.low held.high held.low)

  -- at the end it is the first clear path
  pub found_first : d < size n → (f : Front) → Holds n stops s d n f → lesser f.high f.low < size n
      → Found n stops s d (d + size n * mirrored n (lesser f.high f.low))
  found_first hd f held e =
      let w = (onward_best n (omega arith) f held).reached e in
      let path = onward_path n stops s d source hd w.walk w.among in
      record {
        steps = w.walk;
        first = record {
          clear_path = path;
          first = λ ds q b.
              let l = w.least ds (path_onward n stops s d ds q) in
              let k = w.keyed in
              let m = earlier_key n s d ds w.walk q.path path.path b in
              absurd (omega arith);
        };
        normal =
            ap₂ (λ (x y : ℕ). x + size n * y) (sym path.path.arrives)
            (ap₂ mirrored (sym w.among.links) w.keyed ∙ key_mirrored n 0 s w.walk);
      }
