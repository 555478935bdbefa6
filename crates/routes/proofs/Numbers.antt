-- Over notices, the number named is the lowest of one that stops a way onward.
use mathlib.Core.List.{List}
use mathlib.Core.Logic.{◌↔◌}
use mathlib.Core.Path.{◌∙◌}
use Prim.Native.Nat.{ℕ}
use native.Mathlib.Omega.{arith}
use Rattle.notices.specs.declared.Notice.{Notice}
use Rattle.notices.specs.Notices.{unfit}
use Rattle.paths.specs.Ways.{NumberNamed}
use Rattle.standing.specs.Picked.{LowestNumber}
use Rattle.standing.specs.Rising.{Filed}
use Rattle.book.specs.Standing.{stopper}
use Rattle.book.proofs.Stoppers.{stopper_names, stopper_lowest}
use Rattle.routes.specs.Routed.{StopsAWay}

module _ (n : ℕ) (l : List Notice) (filed : Filed (unfit n) 0 l) (s d i : ℕ) where
  -- "the lowest of a notice that counts and stops a way onward": over all ways and over all notices that stop one of them
  pub number_by_notices : (k : ℕ) → NumberNamed n (stopper n l) s d i k ↔ LowestNumber (StopsAWay n l s d i) k
  number_by_notices k = (told, back)
    where
      told : NumberNamed n (stopper n l) s d i k → LowestNumber (StopsAWay n l s d i) k
      told w =
          let some = w.some in
          let e = w.stopped in
          let y = stopper_names n i w.switch w.code l (λ z. omega arith) in
          record {
            notice = y.0;
            among = (y.1, (w.switch, w.code, w.way, y.2));
            numbered = y.3 ∙ e;
            least = λ x h.
                let v = h.1 in
                let r = stopper_lowest n i v.0 v.1 0 l x filed h.0 v.3 in
                let m = w.least v.0 v.1 v.2 (omega arith) in
                omega arith;
          }

      back : LowestNumber (StopsAWay n l s d i) k → NumberNamed n (stopper n l) s d i k
      back w =
          let v = w.among.1 in
          let e = w.numbered in
          let r = stopper_lowest n i v.0 v.1 0 l w.notice filed w.among.0 v.3 in
          let y = stopper_names n i v.0 v.1 l (λ z. omega arith) in
          let f = y.3 in
          let m = w.least y.0 (y.1, (v.0, v.1, v.2, y.2)) in
          record {
            switch = v.0;
            code = v.1;
            way = v.2;
            stopped = omega arith;
            some = omega arith;
            least = λ j c way some.
                let u = stopper_names n i j c l (λ z. omega arith) in
                let g = u.3 in
                let o = w.least u.0 (u.1, (j, c, way, u.2)) in
                omega arith;
          }
