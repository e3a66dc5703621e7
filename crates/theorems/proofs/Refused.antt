-- What the contracts of the calls say of refusals.
use Prim.Native.Nat.{ℕ}
use mathlib.Core.Bool.{Bool, true, false}
use mathlib.Core.List.{List, [], ◌∷◌, ◌++◌}
use mathlib.Core.Path.{◌≡◌, refl, ap, ◌∙◌, subst}
use lib.Dec.{leb, ltb}
use lib.ListN.{length}
use Rattle.plan.specs.Outcome.{Outcome}
use Rattle.plan.specs.Plan.{Plan}
use Rattle.plan.specs.declared.Refusal.{Refusal}
use Rattle.format.specs.Text.{text}
use Rattle.term.specs.Term.{Term}
use Rattle.term.specs.Valid.{Valid}
use Rattle.term.specs.Variants.{variant_count}
use Rattle.variant.specs.Pairs.{pair_count}
use Rattle.variant.specs.Project.{variant_at}
use Rattle.variant.specs.Written.{written}
use Rattle.judge.specs.Judge.{Verdict, accepts, refuses, judge}
use Rattle.judge.proofs.Accepts.{accepted_valid}
use Rattle.read.specs.Answer.{answer_to, read_of}
use Rattle.write.specs.Answer.{placed_by, write_variant, write_by, write_of}
use Rattle.inspect.specs.Answer.{check_by, check_of}
use Rattle.answers.specs.Listed.{cells_needed, list_within, list_by, list_of}
use Rattle.answers.specs.Shortest.{best_within, best_by, best_of}
use Rattle.answers.specs.declared.Best.{Best}
use Rattle.std.specs.Prelude.{Result}
use Rattle.vialbluff.specs.Cells.{refusal_cells, read_cells, write_cells, check_cells, list_cells, best_cells, starts_kept}
use Rattle.vialbluff.specs.Cells.{WriteLeaves, ListLeaves, BestLeaves}
use Rattle.theorems.specs.TurnedBack.{IsRefusal, LeavesArea, TurnedBack, Untouched}

module _ (s : List ℕ) (r : Refusal) (e : judge s ≡ refuses r) where
  wrote : (v : ℕ) (before after out : List ℕ) → WriteLeaves s v before after out
      → LeavesArea (refusal_cells r) before after out
  unfolding write_of
  wrote v before after out w =
      record {
        cells = w.cells ∙ ap (λ (o : Verdict). write_cells (write_by o v before).answer) e;
        area = w.area ∙ ap (λ (o : Verdict). (write_by o v before).area) e;
      }

  listed : (cap : ℕ) (before after out : List ℕ) → ListLeaves s cap before after out
      → LeavesArea (refusal_cells r) before after out
  unfolding list_of
  listed cap before after out w =
      record {
        cells = w.cells ∙ ap (λ (o : Verdict). list_cells (list_by o cap before).answer) e;
        area = w.area ∙ ap (λ (o : Verdict). (list_by o cap before).area) e;
      }

  found : (cap : ℕ) (before after out : List ℕ) → BestLeaves s cap before after out
      → LeavesArea (refusal_cells r ++ 0 ∷ []) before after out
  unfolding best_of
  found cap before after out w =
      record {
        cells = w.cells ∙ ap (λ (o : Verdict). best_cells (best_by o cap)) e;
        area = w.starts ∙ ap (λ (o : Verdict). starts_kept (best_by o cap) before) e;
      }

  pub turned_back : TurnedBack s r
  unfolding read_of check_of
  turned_back =
      record {
        read = ap (λ (o : Verdict). read_cells (answer_to o)) e;
        write = wrote;
        check = λ v row. ap (λ (o : Verdict). check_cells (check_by o v row)) e;
        list = listed;
        best = found;
      }

-- A file that is the text of no valid plan.
module _ (s : List ℕ) (unfit : (p : Plan) (t : Term) → Valid p t → s ≡ text p → ⊥) where
  by_verdict : (o : Verdict) → judge s ≡ o → (r : Refusal) × TurnedBack s r
  by_verdict (accepts p t) e = let (valid, same) = accepted_valid s p t e in absurd (unfit p t valid same)
  by_verdict (refuses r) e = (r, turned_back s r e)

  pub unfit_turned_back : (r : Refusal) × TurnedBack s r
  unfit_turned_back = by_verdict (judge s) refl

-- An area is changed only where the answer's first cell is 0.
module _ (v : ℕ) (before : List ℕ) where
  abbrev Stays : Outcome (Result ℕ Refusal) → Type 0
  Stays o = IsRefusal (write_cells o.answer) → o.area ≡ before

  stays_placed : (fits : Bool) (bytes : List ℕ) → Stays (placed_by fits bytes before)
  stays_placed true bytes h = absurd (h refl)
  stays_placed false bytes h = refl

  stays_variant : (p : Plan) (t : Term) (b : Bool) → Stays (write_variant b p t v before)
  stays_variant p t true h =
      stays_placed (leb (length (written p (variant_at t v))) (length before)) (written p (variant_at t v)) h
  stays_variant p t false h = refl

  stays_write : (o : Verdict) → Stays (write_by o v before)
  stays_write (accepts p t) h = stays_variant p t (ltb v (variant_count t)) h
  stays_write (refuses r) h = refl

module _ (cap : ℕ) (before : List ℕ) where
  abbrev StaysListed : Outcome (Result ℕ Refusal) → Type 0
  StaysListed o = IsRefusal (list_cells o.answer) → o.area ≡ before

  stays_pairs : (p : Plan) (t : Term) (capped fits : Bool) → StaysListed (list_within capped fits p t before)
  stays_pairs p t false fits h = refl
  stays_pairs p t true false h = refl
  stays_pairs p t true true h = absurd (h refl)

  stays_list : (o : Verdict) → StaysListed (list_by o cap before)
  stays_list (accepts p t) h =
      stays_pairs p t (leb (pair_count p t) cap) (leb (cells_needed p t) (length before)) h
  stays_list (refuses r) h = refl

  abbrev StaysKept : Result Best Refusal → Type 0
  StaysKept best = IsRefusal (best_cells best) → starts_kept best before ≡ before

  stays_found : (p : Plan) (t : Term) (capped : Bool) → StaysKept (best_within capped p t)
  stays_found p t true h = absurd (h refl)
  stays_found p t false h = refl

  stays_best : (o : Verdict) → StaysKept (best_by o cap)
  stays_best (accepts p t) h = stays_found p t (leb (pair_count p t) cap) h
  stays_best (refuses r) h = refl

pub untouched : (s : List ℕ) → Untouched s
unfolding write_of list_of best_of
untouched s =
    record {
      write =
          λ v before after out w h.
          w.area ∙ stays_write v before (judge s) (subst IsRefusal w.cells h);
      list =
          λ cap before after out w h.
          w.area ∙ stays_list cap before (judge s) (subst IsRefusal w.cells h);
      best =
          λ cap before after out w h.
          w.starts ∙ stays_best cap before (judge s) (subst IsRefusal w.cells h);
    }
