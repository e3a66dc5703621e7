-- What the steps of WRITE make of the facts that their calls return.
use Prim.Native.Nat.{ℕ, ◌≤◌, ◌<◌}
use native.Mathlib.Omega.{arith}
use mathlib.Core.Bool.{false}
use mathlib.Core.List.{List}
use mathlib.Core.Path.{◌≡◌, ap}
use borrow.Author.Tests.{lt-ltb, le-ltb, le-leb, lt-leb}
use lib.Dec.{leb}
use lib.ListN.{take, length}
use Rattle.plan.specs.Outcome.{Outcome}
use Rattle.plan.specs.Plan.{Plan, plan_of}
use Rattle.plan.specs.declared.Refusal.{Refusal}
use Rattle.plan.specs.declared.Refusal.TheVariants.{NoSuchVariant, AreaTooShort}
use Rattle.plan.specs.declared.Tables.{Tables}
use Rattle.format.specs.Text.{text}
use Rattle.term.specs.Term.{Term}
use Rattle.term.specs.Variants.{variant_count}
use Rattle.variant.specs.Project.{variant_at}
use Rattle.variant.specs.Written.{variant_plan, written}
use Rattle.pick.specs.Picked.{Picks}
use Rattle.pick.specs.declared.Picked.{Picked}
use Rattle.judge.specs.Judge.{judge, accepts, refuses}
use Rattle.judge.specs.Campaign.{HoldsPlan}
use Rattle.judge.specs.declared.Campaign.{Campaign}
use Rattle.writer.specs.Wrote.{HoldsText}
use Rattle.write.specs.Answer.{write_of}
use Rattle.write.specs.Steps.{HoldsVariantPlan, placed_in}
use Rattle.std.specs.Prelude.{Result, Ok, Err}

abbrev outcome : Result ℕ Refusal → List ℕ → Outcome (Result ℕ Refusal)
outcome answer area = record { answer = answer; area = area }

-- The plan with the nodes of variant v.
pub nodes_picked :
    (c : Campaign) (t : Term) (v : ℕ) (r : Picked) → Picks t v r
    → ◌≡◌ {A = Plan}
    (record {
      edition = c.tables.edition;
      capacities = (plan_of c.tables).capacities;
      activities = (plan_of c.tables).activities;
      nodes = take r.nodes r.node;
    })
    (variant_plan (plan_of c.tables) (variant_at t v))
unfolding variant_plan
nodes_picked c t v r e =
    λ k.
    record {
      edition = c.tables.edition;
      capacities = (plan_of c.tables).capacities;
      activities = (plan_of c.tables).activities;
      nodes = e.writes k;
    }

-- Bytes that fit are placed, and bytes that do not are refused.
module _ (bytes area : List ℕ) (n : ℕ) where
  pub bytes_fit : (after : List ℕ) → length bytes ≤ length area → HoldsText bytes area after n
      → outcome (Ok n) after ≡ placed_in area bytes
  bytes_fit after l e = rw (le-leb (length bytes) (length area) l, e.area, e.size_is)

  pub bytes_too_many : n ≡ length bytes → length area < n
      → outcome (Err (AreaTooShort n)) area ≡ placed_in area bytes
  bytes_too_many e l =
      let short : leb (length bytes) (length area) ≡ false = lt-leb (length bytes) (length area) (omega arith) in
      rw short (ap (λ (m : ℕ). outcome (Err (AreaTooShort m)) area) e)

-- The outcome, by the judgement of the file.
module _ (s : List ℕ) (v : ℕ) where
  pub writes_refusal : (r : Refusal) (area : List ℕ) → judge s ≡ refuses r
      → outcome (Err r) area ≡ write_of s v area
  unfolding write_of
  writes_refusal r area e = rw e

  module _ (c : Campaign) (t : Term) (is : judge s ≡ accepts (plan_of c.tables) t) (h : HoldsPlan c t) where
    pub writes_no_variant : (area : List ℕ) → c.variants ≤ v
        → outcome (Err NoSuchVariant) area ≡ write_of s v area
    unfolding write_of
    writes_no_variant area l = rw (is, le-ltb v (variant_count t) (omega (arith, h.counted)))

    -- The tables that `variant_of` makes of it.
    pub writes_variant :
        (r : Tables) → v < c.variants → HoldsVariantPlan c.tables t v r → (area : List ℕ) (o : Outcome (Result ℕ Refusal))
        → o ≡ placed_in area (text (plan_of r)) → o ≡ write_of s v area
    unfolding write_of written
    writes_variant r l made area o e = rw (is, lt-ltb v (variant_count t) (omega (arith, h.counted)), ← made) e
