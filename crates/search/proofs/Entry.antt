-- The position at which the search starts: nothing is placed.
use Prim.Native.Nat.{ℕ, ◌+◌}
use native.Mathlib.Omega.{arith}
use mathlib.Core.Bool.{Bool, false, not, cond, ◌&&◌, and-true, and-false}
use mathlib.Core.List.{List}
use mathlib.Core.Logic.{inl}
use mathlib.Core.Path.{◌≡◌, refl, sym, ap, ◌∙◌}
use lib.ListN.{get_or, replicate, length-replicate}
use Rattle.base.proofs.Bools.{true_not_false, cond_false}
use Rattle.base.proofs.Below.{max_least}
use Rattle.base.proofs.Lists.{zeros}
use Rattle.sets.specs.Sets.{most, has}
use Rattle.sets.proofs.Laws.{has_none, has_and, has_minus}
use Rattle.branching.proofs.Rows.{root_rows}
use Rattle.timetable.specs.Mark.{mark}
use Rattle.scan.specs.Scan.{Diagram}
use Rattle.scan.specs.Scan.{begun}
use Rattle.scan_exact.specs.Comes.{begins}
use Rattle.scan_exact.proofs.Standing.{begun_standing}
use Rattle.instance.specs.Instance.{own_of, Instance}
use Rattle.instance.specs.Table.{present_of, own_at, project_in}
use Rattle.profile.specs.Work.{end_at, latest_of, free_from, work_cells}
use Rattle.tally.specs.Seen.{Kept, kept_of}
use Rattle.steps.specs.Steps.{frozen_in, loose_in}
use Rattle.steps.specs.declared.Line.{Line}
use Rattle.steps.proofs.Sets.{running_is}
use Rattle.steps.proofs.Given.{scannable, begun_none}
use Rattle.unbranched.specs.Position.{Position, Explored}
use Rattle.search.specs.Branch.{Found}

-- The line at the start.
abbrev pub first_line : ℕ → Line
first_line present = record { tick = 0; placed = 0; left = present; term = present; due = 0; passed = 0; live = 0 }

abbrev pub first_work : List ℕ
first_work = replicate work_cells 0

module _ (t : List ℕ) (given : Instance t) where
  abbrev l : Line
  l = first_line (present_of t)

  abbrev d : Diagram
  d = begun (project_in t) (own_of t)

  frozen_none : (i : ℕ) → has (frozen_in l) i ≡ false
  frozen_none i =
      has_minus 0 (present_of t) i ∙ ap (λ (b : Bool). b && not (has (present_of t) i)) (has_none i)

  loose_none : (i : ℕ) → has (loose_in l) i ≡ false
  loose_none i = has_and 0 (present_of t) i ∙ ap (λ (b : Bool). b && has (present_of t) i) (has_none i)

  cell : (i : ℕ) → get_or first_work i 0 ≡ 0
  cell i = zeros work_cells i

  pub first_latest : 0 ≡ latest_of first_work (frozen_in (first_line (present_of t)))
  first_latest =
      omega (
        arith,
        max_least most (λ i. cond (has (frozen_in l) i) (end_at first_work i) 0) 0
            (λ i b. omega (arith, cond_false (end_at first_work i) 0 (frozen_none i))),
      )

  pub first_position : Position t (first_line (present_of t)) first_work (begun (project_in t) (own_of t))
  unfolding begun project_in
  first_position =
      record {
        shows =
            record {
              tick = refl;
              placed = λ i. and-false (has (present_of t) i) ∙ sym (has_none i);
              frozen = λ i. and-false (has (present_of t) i) ∙ sym (frozen_none i);
              term = λ i. refl;
              left =
                  λ i.
                  sym
                  (ap (λ (b : Bool). has (present_of t) i && not b) (and-false (has (present_of t) i))
                  ∙ and-true (has (present_of t) i));
              loose = λ i y. true_not_false y (loose_none i);
              ended = λ i y. true_not_false y (frozen_none i);
              passed = λ i y. true_not_false y (loose_none i);
              passed_placed = λ i y. y;
              tight = λ i y tight. true_not_false y (frozen_none i);
              freed = λ i tight. inl (cell (free_from + own_at t i));
              readied = λ i y tight. true_not_false y (loose_none i);
              roomy = λ i b z. cell (free_from + own_at t i);
              live = λ k y z. true_not_false y (frozen_none k);
              live_frozen = λ k y. true_not_false y (has_none k);
            };
        stands = begun_standing (project_in t) (own_of t) (scannable t given) (begun_none t given);
        sets =
            record {
              laid = given.laid;
              timed =
                  record {
                    times = λ k. omega (arith, cell k);
                    size = length-replicate {A = ℕ} work_cells 0;
                  };
              placed_low = omega arith;
              left_low = given.present_low;
              term_low = given.present_low;
              due_low = omega arith;
              passed_low = omega arith;
              live_low = omega arith;
              placed = λ i y. true_not_false y (has_none i);
              left = given.present;
              term = λ i y. let (there, off) = running_is l i y in true_not_false there off;
              ran = λ i y. true_not_false y (frozen_none i);
            };
        bounded =
            record {
              ends = λ i y. true_not_false y (frozen_none i);
              starts = λ i y. true_not_false y (loose_none i);
              frees = λ c b. omega (arith, cell (free_from + c));
              tick = omega arith;
              passed = λ e. omega arith;
            };
        timely =
            record {
              early = λ i y tight due. true_not_false y (loose_none i);
              late = λ i y tight off. true_not_false y (loose_none i);
            };
        contested = λ c y. true_not_false y (has_none c);
        comes = begins has_none;
        idle = λ i b z. cell i;
      }

  -- What is explored from there is all.
  pub found_all : {b : List ℕ} {k : Kept} {w cells area : List ℕ} → Explored t b l k first_work w cells area
      → Found t b k (kept_of cells area)
  unfolding begun
  found_all done =
      let seen = done.seen d first_position in
      record {
        rows = seen.rows;
        all =
            root_rows (project_in t) (own_of t) mark (project_in t).begun seen.rows (scannable t given).sound
            (begun_none t given).fits seen.all;
        kept = seen.kept;
      }
