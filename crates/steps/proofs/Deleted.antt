-- Step 4 of the code is that of the scan.
use Prim.Native.Nat.{ℕ}
use native.Mathlib.Decide.{dec_lt}
use native.Mathlib.Omega.{arith}
use mathlib.Core.Bool.{Bool, true, false, not, ◌&&◌, false≢true}
use mathlib.Core.List.{List}
use mathlib.Core.Logic.{by_cases}
use mathlib.Core.Path.{◌≡◌, sym, ap, ◌∙◌}
use lib.Dec.{leb}
use Rattle.base.proofs.Bools.{by_bool}
use Rattle.sets.specs.Sets.{most, has}
use Rattle.sets.proofs.Laws.{has_above}
use Rattle.scan.specs.Scan.{Diagram}
use Rattle.scan.specs.Scan.{right_end, delete}
use Rattle.scan_exact.proofs.Standing.{Standing}
use Rattle.instance.specs.Instance.{own_of, Instance}
use Rattle.instance.specs.Table.{project_in}
use Rattle.profile.specs.Work.{end_at}
use Rattle.steps.specs.Steps.{Sets, Deletes, running_in, deleted_line}
use Rattle.steps.specs.Shown.{Shows}
use Rattle.steps.specs.declared.Line.{Line}
use Rattle.steps.proofs.Sets.{running_frozen, running_there}

module _ (t : List ℕ) (given : Instance t) (l : Line) (w : List ℕ) (d : Diagram) (shows : Shows t l w d) (line : ℕ)
    (standing : Standing (project_in t) d line) (sets : Sets t w l) (r : ℕ) (deletes : Deletes w l r) where
  abbrev gone : ℕ → Bool
  gone i = d.frozen i && leb (right_end (project_in t) (own_of t) d i) d.tick

  gone_is : (i : ℕ) → d.term i ≡ true → gone i ≡ (has (running_in l) i && leb (end_at w i) l.tick)
  unfolding project_in
  gone_is i y =
      by_bool (d.frozen i)
      (λ f.
      let end : right_end (project_in t) (own_of t) d i ≡ end_at w i = shows.ended i (sym (shows.frozen i) ∙ f) in
      rw (f, end, shows.tick, running_there t given l w d shows line standing i f y))
      (λ z.
      by_bool (has (running_in l) i)
      (λ run. absurd (true_is_false (sym (running_frozen t given l w d shows line standing i run) ∙ z)))
      (λ off. rw (z, off)))
    where
      true_is_false : true ≡ false → ⊥
      true_is_false e = false≢true (sym e)

  term_is : (i : ℕ) → (delete (project_in t) (own_of t) d).term i ≡ has r i
  unfolding delete
  term_is i =
      by_cases (dec_lt i most)
      (λ b.
      by_bool (d.term i)
      (λ y.
      sym
      (deletes.kept i b
      ∙ ap (λ (x : Bool). x && not (has (running_in l) i && leb (end_at w i) l.tick)) (sym (shows.term i))
      ∙ ap (λ (x : Bool). d.term i && not x) (sym (gone_is i y))))
      (λ z.
      ap (λ (x : Bool). x && not (gone i)) z
      ∙ sym
      (deletes.kept i b
      ∙ ap (λ (x : Bool). x && not (has (running_in l) i && leb (end_at w i) l.tick)) (sym (shows.term i) ∙ z))))
      (λ b.
      ap (λ (x : Bool). x && not (gone i))
      (shows.term i ∙ has_above most l.term i sets.term_low (omega (arith, b)))
      ∙ sym (has_above most r i deletes.low (omega (arith, b))))

  pub shows_delete : Shows t (deleted_line l r) w (delete (project_in t) (own_of t) d)
  unfolding delete
  shows_delete =
      record {
        tick = shows.tick;
        placed = shows.placed;
        frozen = shows.frozen;
        term = term_is;
        left = shows.left;
        loose = shows.loose;
        ended = shows.ended;
        passed = shows.passed;
        passed_placed = shows.passed_placed;
        tight = shows.tight;
        freed = shows.freed;
        readied = shows.readied;
        roomy = shows.roomy;
        live = shows.live;
        live_frozen = shows.live_frozen;
      }
