-- The rows of the branches of a node, seen one branch after another.
use Prim.Native.Nat.{ℕ, zero, suc, ◌^◌, ◌≤◌, ◌<◌}
use native.Mathlib.Nat.{not-suc-le-zero}
use native.Mathlib.Decide.{ℕ_discrete, dec_le}
use native.Mathlib.Omega.{arith}
use mathlib.Core.Bool.{true, false, cond}
use mathlib.Core.List.{List, [], ◌++◌, foldl, foldl-append, append-nil}
use mathlib.Core.Logic.{◌≢◌, by_cases}
use mathlib.Core.Path.{◌≡◌, refl, sym, ap, ap₂, ◌∙◌, subst}
use lib.Dec.{eqb}
use borrow.Author.Tests.{eq-eqb, ne_eqb}
use Rattle.base.specs.Lists.{gather}
use Rattle.base.proofs.Bools.{true_not_false, cond_true, cond_false}
use Rattle.base.proofs.Lists.{gather_same, gather_none}
use Rattle.sets.specs.Sets.{most, has}
use Rattle.sets.specs.Lowest.{lowest_of}
use Rattle.sets.proofs.Members.{lowest_is}
use Rattle.sets.proofs.Laws.{has_none}
use Rattle.sets.proofs.Turns.{Turn, turn_has}
use Rattle.schedule.specs.Project.{Project}
use Rattle.schedule.specs.Schedule.{Starts}
use Rattle.branching.proofs.Rows.{Rows}
use Rattle.tally.specs.Seen.{Kept}

-- ---- a list more

gather_next {ℓ} : {A : Type ℓ} (n i : ℕ) (f : ℕ → List A) (x : List A) → i < n → ((j : ℕ) → i ≤ j → f j ≡ [])
    → gather n (λ j. cond (eqb j i) x (f j)) ≡ gather n f ++ x
unfolding gather
gather_next zero i f x l none = absurd (not-suc-le-zero l)
gather_next (suc n) i f x l none =
    let bare : gather n f ++ f n ≡ gather n f = ap (gather n f ++◌) (none n (omega arith)) ∙ append-nil (gather n f) in
    by_cases (ℕ_discrete n i)
    (λ e.
    ap₂ ◌++◌
    (gather_same n (λ j. cond (eqb j i) x (f j)) f
    (λ j b. cond_false x (f j) (ne_eqb j i (λ q. omega (arith, q, e, b)))))
    (cond_true x (f n) (eq-eqb n i e))
    ∙ sym (ap (◌++ x) bare))
    (λ ne.
    ap₂ ◌++◌ (gather_next n i f x (omega (arith, l, ne)) none)
    (cond_false x (f n) (ne_eqb n i ne) ∙ none n (omega arith))
    ∙ append-nil (gather n f ++ x)
    ∙ sym (ap (◌++ x) bare))

-- The lowest member.
pub lowest_least : (m i : ℕ) → m < 2 ^ most → m ≢ 0 → i ≡ lowest_of m → (j : ℕ) → has m j ≡ true → i ≤ j
lowest_least m i low ne at j y =
    by_cases (dec_le i j) (λ h. h)
    (λ g. true_not_false y ((lowest_is m low ne).none j (omega (arith, at, g))))

-- ---- the branches of `all` that are no longer in `rest` have been seen, each with the rows of its kind

pub record SeenPart (p : Project) (mark : ℕ) (kind : ℕ → Starts → Type 0) (all rest : ℕ) (look : Kept → List ℕ → Kept)
    (k k' : Kept) : Type 0 where
  pub below : ℕ → List (List ℕ)
  pub each : (j : ℕ) → has all j ≡ true → has rest j ≡ false → Rows p mark (kind j) (below j)
  pub other : (j : ℕ) → has all j ≡ false → below j ≡ []
  pub later : (i j : ℕ) → has rest i ≡ true → i ≤ j → below j ≡ []
  pub kept : k' ≡ foldl look k (gather most below)

module _ (p : Project) (mark : ℕ) (kind : ℕ → Starts → Type 0) (all : ℕ) (look : Kept → List ℕ → Kept) (k : Kept) where
  pub seen_none : SeenPart p mark kind all all look k k
  seen_none =
      record {
        below = λ j. [];
        each = λ j y n. true_not_false y n;
        other = λ j n. refl;
        later = λ i j y l. refl;
        kept = sym (ap (foldl look k) (gather_none most (λ j. []) (λ j l. refl)));
      }

  pub seen_more : {rest rest' i : ℕ} {k' k'' : Kept} → Turn rest rest' i
      → ((j : ℕ) → has rest j ≡ true → i ≤ j)
      → has all i ≡ true
      → (rows : List (List ℕ)) → Rows p mark (kind i) rows
      → k'' ≡ foldl look k' rows
      → SeenPart p mark kind all rest look k k'
      → SeenPart p mark kind all rest' look k k''
  seen_more {rest} {rest'} {i} {k'} turn least member rows found went so_far =
      let below : ℕ → List (List ℕ) = λ j. cond (eqb j i) rows (so_far.below j) in
      let old : (j : ℕ) → j ≢ i → below j ≡ so_far.below j =
      λ j ne. cond_false rows (so_far.below j) (ne_eqb j i ne) in
      record {
        below = below;
        each =
            λ j y n.
            by_cases (ℕ_discrete j i)
            (λ e.
            subst (λ (x : ℕ). Rows p mark (kind x) (below j)) (sym e)
            (subst (Rows p mark (kind i)) (sym (cond_true rows (so_far.below j) (eq-eqb j i e))) found))
            (λ ne.
            subst (Rows p mark (kind j)) (sym (old j ne)) (so_far.each j y (sym (turn.others j ne) ∙ n)));
        other =
            λ j n. old j (λ e. true_not_false member (ap (has all) (sym e) ∙ n)) ∙ so_far.other j n;
        later =
            λ m j y l.
            let there : has rest m ≡ true = turn_has turn m y in
            let apart : m ≢ i = λ e. true_not_false y (ap (has rest') e ∙ turn.gone) in
            old j (λ e. omega (arith, e, l, apart, least m there)) ∙ so_far.later m j there l;
        kept =
            went
            ∙ ap (λ (x : Kept). foldl look x rows) so_far.kept
            ∙ sym (foldl-append look k (gather most so_far.below) rows)
            ∙ ap (foldl look k)
            (sym (gather_next most i so_far.below rows turn.below (λ j l. so_far.later i j turn.there l)));
      }

  pub seen_each : {rest : ℕ} {k' : Kept} → rest ≡ 0 → (so_far : SeenPart p mark kind all rest look k k') → (j : ℕ)
      → has all j ≡ true
      → Rows p mark (kind j) (so_far.below j)
  seen_each none so_far j y = so_far.each j y (ap (λ (x : ℕ). has x j) none ∙ has_none j)
