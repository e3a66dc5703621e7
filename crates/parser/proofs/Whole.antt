-- The lines in their order are the plan's lines.
use Prim.Native.Nat.{ℕ, ◌≤◌}
use mathlib.Core.Bool.{Bool, true, false, ◌||◌}
use mathlib.Core.List.{List}
use mathlib.Core.Path.{◌≡◌, refl, sym, ap, ap₂, ◌∙◌}
use native.Mathlib.Omega.{arith}
use lib.Dec.{eqb, ltb}
use lib.ListN.{length}
use borrow.Author.Tests.{ne_eqb, le-ltb, eqb-false, ltb-false}
use Rattle.std.specs.Prelude.{Result, Ok, Err}
use Rattle.std.specs.Result.{IsErrAnd}
use Rattle.plan.specs.Limits.{between, longest, is_edition, is_resource_count, is_act_count, is_node_count, edition_form}
use Rattle.plan.specs.Limits.{resources_form, acts_form, nodes_form}
use Rattle.plan.specs.Plan.{Activity, Plan, plan_of, Sized}
use Rattle.plan.specs.declared.Node.{Node}
use Rattle.plan.specs.declared.Tables.{Tables}
use Rattle.plan.specs.declared.Refusal.{Refusal}
use Rattle.plan.specs.declared.Refusal.TheVariants.{Length}
use Rattle.format.specs.Parse.{LinesRead, read, stop, Reader, ◌>>=◌, return, the_lines, the_end, a_count, the_capacities}
use Rattle.format.specs.Parse.{an_activity, a_node, plan_lines, holds, refuses, parse, Result as Parsed}
use Rattle.base.proofs.Bools.{by_bool, true_not_false, elim_true, elim_false}
use Rattle.format.proofs.Tests.{facts_between}
use Rattle.parser.specs.Answer.{Answers}

abbrev bound : {A B : Type 0} → LinesRead A → (A → Reader B) → LinesRead B
bound o then = elim o [ read a line s ↦ then a line s | stop r ↦ stop r ]

-- What follows each part of a plan.
module _ (e : ℕ) (bs : List ℕ) (n : ℕ) (acts : List Activity) where
  abbrev after_nodes : List Node → Reader Plan
  after_nodes nodes =
      ◌>>=◌ the_end (λ u. return (record { edition = e; capacities = bs; activities = acts; nodes = nodes }))

  abbrev after_node_count : ℕ → Reader Plan
  after_node_count m = ◌>>=◌ (the_lines m (a_node n)) after_nodes

abbrev after_activities : ℕ → List ℕ → ℕ → List Activity → Reader Plan
after_activities e bs n acts = ◌>>=◌ (a_count nodes_form is_node_count) (after_node_count e bs n acts)

abbrev after_act_count : ℕ → List ℕ → ℕ → Reader Plan
after_act_count e bs n = ◌>>=◌ (the_lines n (an_activity e bs)) (after_activities e bs n)

abbrev after_capacities : ℕ → List ℕ → Reader Plan
after_capacities e bs = ◌>>=◌ (a_count acts_form is_act_count) (after_act_count e bs)

abbrev after_resources : ℕ → ℕ → Reader Plan
after_resources e r = ◌>>=◌ (the_capacities e r) (after_capacities e)

abbrev after_edition : ℕ → Reader Plan
after_edition e = ◌>>=◌ (a_count resources_form is_resource_count) (after_resources e)

-- What the text comes to, where a part is read and the next is to come.
module _ (s : List ℕ) where
  pub record Comes {A : Type 0} (o : LinesRead A) (next : A → Reader Plan) : Type 0 where
    pub so : plan_lines 1 s ≡ bound o next

  pub begins : Comes (a_count edition_form is_edition 1 s) after_edition
  unfolding plan_lines
  begins = record { so = refl }

  module _ {A : Type 0} {o : LinesRead A} {next : A → Reader Plan} (c : Comes o next) where
    goes_on : {a : A} {line : ℕ} {t : List ℕ} → o ≡ read a line t → plan_lines 1 s ≡ next a line t
    goes_on e = c.so ∙ ap (λ x. bound x next) e

    stops : {r : Refusal} → o ≡ stop r → plan_lines 1 s ≡ stop r
    stops e = c.so ∙ ap (λ x. bound x next) e

  module _ {e l₁ : ℕ} {s₁ : List ℕ} (edition : a_count edition_form is_edition 1 s ≡ read e l₁ s₁) where
    pub to_resources : Comes (a_count resources_form is_resource_count l₁ s₁) (after_resources e)
    to_resources = record { so = goes_on begins edition }

    module _ {r l₂ : ℕ} {s₂ : List ℕ} (resources : a_count resources_form is_resource_count l₁ s₁ ≡ read r l₂ s₂) where
      pub to_capacities : Comes (the_capacities e r l₂ s₂) (after_capacities e)
      to_capacities = record { so = goes_on to_resources resources }

      module _ {bs : List ℕ} {l₃ : ℕ} {s₃ : List ℕ} (capacities : the_capacities e r l₂ s₂ ≡ read bs l₃ s₃) where
        pub to_act_count : Comes (a_count acts_form is_act_count l₃ s₃) (after_act_count e bs)
        to_act_count = record { so = goes_on to_capacities capacities }

        module _ {n l₄ : ℕ} {s₄ : List ℕ} (act_count : a_count acts_form is_act_count l₃ s₃ ≡ read n l₄ s₄) where
          pub to_activities : Comes (the_lines n (an_activity e bs) l₄ s₄) (after_activities e bs n)
          to_activities = record { so = goes_on to_act_count act_count }

          module _ {acts : List Activity} {l₅ : ℕ} {s₅ : List ℕ}
              (activities : the_lines n (an_activity e bs) l₄ s₄ ≡ read acts l₅ s₅) where
            pub to_node_count : Comes (a_count nodes_form is_node_count l₅ s₅) (after_node_count e bs n acts)
            to_node_count = record { so = goes_on to_activities activities }

            module _ {m l₆ : ℕ} {s₆ : List ℕ} (node_count : a_count nodes_form is_node_count l₅ s₅ ≡ read m l₆ s₆)
              where
                pub to_nodes : Comes (the_lines m (a_node n) l₆ s₆) (after_nodes e bs n acts)
                to_nodes = record { so = goes_on to_node_count node_count }

                module _ {nodes : List Node} {l₇ : ℕ} {s₇ : List ℕ}
                    (tree : the_lines m (a_node n) l₆ s₆ ≡ read nodes l₇ s₇) where
                  abbrev whole : Plan
                  whole = record { edition = e; capacities = bs; activities = acts; nodes = nodes }

                  pub to_end : Comes (the_end l₇ s₇) (λ u. return whole)
                  to_end = record { so = goes_on to_nodes tree }

                  pub all_lines : {l₈ : ℕ} {s₈ : List ℕ} → the_end l₇ s₇ ≡ read (tt {0}) l₈ s₈
                      → plan_lines 1 s ≡ read whole l₈ s₈
                  all_lines end = goes_on to_end end

abbrev concluded : LinesRead Plan → Parsed
concluded o = elim o [ read p line rest ↦ holds p | stop r ↦ refuses r ]

-- The answer to a text of a right length.
module _ (s : List ℕ) (size : (1 ≤ length s) × (length s ≤ longest)) where
  parse_lines : parse s ≡ concluded (plan_lines 1 s)
  unfolding parse
  parse_lines =
      elim_false (eqb (length s) 0 || ltb longest (length s)) _ _
      (ap (λ (b : Bool). b || ltb longest (length s)) (ne_eqb (length s) 0 (λ e. omega (arith, size.0)))
      ∙ le-ltb longest (length s) size.1)

  pub exit : (a : Result Tables Refusal) {d : Refusal} {A : Type 0} {o : LinesRead A} {next : A → Reader Plan}
      → IsErrAnd a (λ e. e ≡ d) → Comes s o next → o ≡ stop d → Answers s a
  exit (Ok t) k c e = absurd k
  exit (Err y) k c e =
      record { result = ap refuses k ∙ sym (parse_lines ∙ ap concluded (stops s c e)); sized = tt }

  pub accepted : {t : Tables} {p : Plan} {line : ℕ} {rest : List ℕ} → plan_lines 1 s ≡ read p line rest → p ≡ plan_of t
      → Sized t → Answers s (Ok t)
  accepted e same sized =
      record { result = ap holds (sym same) ∙ sym (parse_lines ∙ ap concluded e); sized = sized }

-- A text of a wrong length.
pub refused_length : (s : List ℕ) → between 1 longest (length s) ≡ false → Answers s (Err Length)
unfolding parse
refused_length s e = record { result = sym (elim_true _ _ _ (wrong (length s) e)); sized = tt }
  where
    wrong : (n : ℕ) → between 1 longest n ≡ false → (eqb n 0 || ltb longest n) ≡ true
    wrong n e =
        by_bool (eqb n 0)
        (λ z. ap (λ t. t || ltb longest n) z)
        (λ z.
        by_bool (ltb longest n)
        (λ l. ap₂ ◌||◌ z l)
        (λ l.
        true_not_false
        (facts_between 1 longest n (omega (arith, eqb-false n 0 z)) (omega (arith, ltb-false longest n l))) e))
