-- A plan of each edition whose text is as long as a text of it can be: every number has the most digits that it can
-- have.
use Prim.Native.Nat.{ℕ, ◌-◌}
use native.Mathlib.Decide.{ℕ_discrete}
use native.Mathlib.Omega.{arith}
use mathlib.Core.Bool.{true, cond}
use mathlib.Core.List.{◌∷◌}
use mathlib.Core.Logic.{by_cases}
use mathlib.Core.Path.{◌≡◌, refl, sym, subst}
use lib.ListN.{length, replicate}
use Rattle.plan.specs.Limits.{longest_of, last_edition, says_units, most_units, most_resources, most_acts, longest_duration}
use Rattle.plan.specs.Limits.{most_children, is_edition, counts_form}
use Rattle.plan.specs.Plan.{Plan, one_unit, is_plan}
use Rattle.plan.specs.declared.Node.TheVariants.{Act, Xor}
use Rattle.format.specs.Lines.{numeral, filled}
use Rattle.format.specs.Text.{capacity_lines, act_lines, node_lines, text}
use Rattle.format.proofs.Tests.{between_facts}

abbrev pub longest_plan : ℕ → Plan
longest_plan edition =
    record {
      edition = edition;
      capacities = replicate most_resources (most_units edition);
      activities =
          replicate most_acts
          (record {
            duration = longest_duration;
            units =
                cond (says_units edition) (replicate most_resources (most_units edition))
                (one_unit most_resources (most_resources - 1));
          });
      nodes = Xor most_children ∷ replicate most_children (Act (most_acts - 1));
    }

-- What holds of both editions holds of each.
by_edition : (P : ℕ → Type 0) → P 1 → P 2 → (edition : ℕ) → is_edition edition ≡ true → P edition
by_edition P one two edition e =
    by_cases (ℕ_discrete edition 1)
    (λ is. subst P (sym is) one)
    (λ other.
    let is : 2 ≡ edition = omega (arith, between_facts 1 last_edition edition e) in
    subst P is two)

pub longest_is_plan : (edition : ℕ) → is_edition edition ≡ true → is_plan (longest_plan edition) ≡ true
longest_is_plan = by_edition (λ e. is_plan (longest_plan e) ≡ true) refl refl

pub longest_length : (edition : ℕ) → is_edition edition ≡ true
    → length (text (longest_plan edition)) ≡ longest_of edition
unfolding numeral filled counts_form capacity_lines act_lines node_lines text
longest_length = by_edition (λ e. length (text (longest_plan e)) ≡ longest_of e) refl refl
