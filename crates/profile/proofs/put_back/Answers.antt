use Prim.Native.Nat.{ℕ, ◌+◌, ◌≤◌}
use mathlib.Core.List.{List}
use mathlib.Core.Path.{◌≡◌}
use borrow.Rule.Slice.PartMut.{put_mid}
use lib.ListN.{length, get_or}
use Rattle.std.proofs.Common.{rules, arith}
use Rattle.std.proofs.lemmas.List.{places}
use Rattle.instance.specs.Steps.{Filled}
use Rattle.sets.specs.Sets.{width}
use Rattle.profile.specs.Work.{ready_from}
use Rattle.profile.proofs.put_back.Goals as goal

filled : (from k : ℕ) (xs ys : List ℕ) → length ys ≡ k → from + k ≤ length xs
    → Filled xs from k (λ i x. x ≡ get_or ys i 0) (put_mid from k xs ys)
filled from k xs ys h fits =
    record {
      long = search (rules, places);
      new = λ i b. search (rules, places);
      before = λ at b. search (rules, places);
      behind = λ at b. grind (arith, places);
    }

pub returns : goal.returns
returns c =
    let a = c.args in
    let e = c.copy_from_slice.ensures.after in
    rw e (filled ready_from width a.work.now a.column.now (omega arith) (omega arith))
