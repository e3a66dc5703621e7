-- What the line of an activity of a later edition says.
use Rattle.std.specs.Prelude.{ℕ, List, ◌∷◌, ◌≡◌, true, false, Option as Answer, MatchOption, length, take}
use Rattle.std.proofs.Math.Option.{none, some}
use Rattle.base.specs.Lists.{every}
use Rattle.plan.specs.Limits.{most_resources, is_unit_count, act_form}
use Rattle.format.specs.Lines.{matched}
use Rattle.parser.specs.declared.CountedLine.{CountedLine}

-- The line of an activity with so many counts is the front of the text s.
pub record Counted (n : ℕ) (s : List ℕ) (l : CountedLine) : Type 0 where
  pub size : length l.counts ≡ most_resources
  pub matches : matched (act_form 2 n) s ≡ some (record { values = l.duration ∷ take n l.counts; rest = l.rest.now })

abbrev pub Follows : ℕ → List ℕ → Answer CountedLine → Type 0
Follows n s r = MatchOption r (matched (act_form 2 n) s ≡ none) (Counted n s)

-- Counts are kept where each is in its range.
abbrev pub Kept : List ℕ → Answer (List ℕ) → Type 0
Kept counts r =
    MatchOption r
    (every (is_unit_count 2) counts ≡ false)
    (λ units. (every (is_unit_count 2) counts ≡ true) × (take (length counts) units ≡ counts))
