-- The definition is the format: the text of a plan holds that plan, and what holds a plan is that plan's text.
use Prim.Native.Nat.{ℕ, ◌≤◌}
use mathlib.Core.Bool.{Bool, true, false, ◌||◌}
use mathlib.Core.List.{List, [], ◌∷◌, append-nil}
use mathlib.Core.Path.{◌≡◌, refl, sym, ap, ◌∙◌}
use native.Mathlib.Omega.{arith}
use borrow.Author.Tests.{le-ltb, ne_eqb}
use lib.Dec.{ltb, eqb}
use lib.ListN.{length}
use Rattle.base.specs.Lists.{every}
use Rattle.plan.specs.Limits.{longest, most_resources, most_acts, is_edition, is_resource_count, is_act_count, is_node_count}
use Rattle.plan.specs.Limits.{edition_form, resources_form, acts_form, nodes_form}
use Rattle.plan.specs.Plan.{Activity, Plan, is_activity, is_within, is_plan}
use Rattle.plan.specs.declared.Refusal.TheVariants.{Length}
use Rattle.format.specs.Text.{text}
use Rattle.format.specs.Parse.{LinesRead, read, stop, the_lines, the_end, a_count, the_capacities, an_activity, a_node}
use Rattle.format.specs.Parse.{plan_lines, Result, holds, refuses, parse}
use Rattle.base.proofs.Bools.{by_bool, and_left, and_right, elim_true, elim_false}
use Rattle.base.proofs.Every.{every_then, every_both}
use Rattle.format.proofs.Tests.{between_facts}
use Rattle.format.proofs.Readers.{stopped, then_read, both_read}
use Rattle.format.proofs.Plans.{Sound, plan_sound, sound_plan}
use Rattle.format.proofs.PlanLines.{edition_line, resources_line, capacity_lines_lem, acts_line, is_held, act_lines_lem}
use Rattle.format.proofs.PlanLines.{nodes_line, node_lines_lem}
use Rattle.format.proofs.Short.{longest_any, text_short, text_some}

-- The lines of a plan's text are read as that plan.
lines_of_text : (p : Plan) → Sound p → (line : ℕ) × (plan_lines 1 (text p) ≡ read p line [])
unfolding plan_lines text the_end
lines_of_text p ok =
    let r : length p.capacities ≤ most_resources =
    (between_facts 1 most_resources (length p.capacities) ok.resources).1 in
    let n : length p.activities ≤ most_acts = (between_facts 1 most_acts (length p.activities) ok.acts).1 in
    let held : every (is_held p.edition p.capacities) p.activities ≡ true =
    every_both (is_activity p.edition (length p.capacities)) (λ a. is_within p.capacities a.units)
    p.activities ok.activities ok.within in
    let (l₁, e₁) = edition_line.reads p.edition 1 _ ok.edition in
    let (l₂, e₂) = resources_line.reads (length p.capacities) l₁ _ ok.resources in
    let (l₃, e₃) =
    (capacity_lines_lem p.edition (length p.capacities)).reads p.capacities l₂ _ (refl, ok.capacities) in
    let (l₄, e₄) = acts_line.reads (length p.activities) l₃ _ ok.acts in
    let (l₅, e₅) =
    (act_lines_lem p.edition p.capacities (length p.activities) r).reads p.activities l₄ _ (refl, held) in
    let (l₆, e₆) = nodes_line.reads (length p.nodes) l₅ _ ok.node_count in
    let (l₇, e₇) =
    (node_lines_lem (length p.activities) (length p.nodes) n).reads p.nodes l₆ [] (refl, ok.nodes) in (
      l₇,
      then_read _ e₁ ∙ then_read _ e₂ ∙ then_read _ e₃ ∙ then_read _ e₄ ∙ then_read _ e₅ ∙ then_read _ e₆
          ∙ then_read _ (rw append-nil at e₇),
    )

end_read : (line : ℕ) (s : List ℕ) (u : Unit {0}) (line' : ℕ) (s' : List ℕ) → the_end line s ≡ read u line' s' → s ≡ []
unfolding the_end
end_read line [] u line' s' e = refl
end_read line (b ∷ s) u line' s' e = absurd (stopped e)

-- Lines that are read as a plan are its text.
text_of_lines : (s : List ℕ) (p : Plan) (line : ℕ) (rest : List ℕ) → plan_lines 1 s ≡ read p line rest
    → Sound p × (s ≡ text p)
unfolding plan_lines text
text_of_lines s p line rest e =
    both_read _ (a_count edition_form is_edition 1 s) e λ e₀ l₁ s₁ h₁ k₁.
    both_read _ (a_count resources_form is_resource_count l₁ s₁) k₁ λ r l₂ s₂ h₂ k₂.
    both_read _ (the_capacities e₀ r l₂ s₂) k₂ λ bs l₃ s₃ h₃ k₃.
    both_read _ (a_count acts_form is_act_count l₃ s₃) k₃ λ n l₄ s₄ h₄ k₄.
    both_read _ (the_lines n (an_activity e₀ bs) l₄ s₄) k₄ λ acts l₅ s₅ h₅ k₅.
    both_read _ (a_count nodes_form is_node_count l₅ s₅) k₅ λ m l₆ s₆ h₆ k₆.
    both_read _ (the_lines m (a_node n) l₆ s₆) k₆ λ nodes l₇ s₇ h₇ k₇.
    both_read _ (the_end l₇ s₇) k₇ λ u l₈ s₈ h₈ k₈.
    let w₁ = edition_line.wrote 1 s e₀ l₁ s₁ h₁ in
    let w₂ = resources_line.wrote l₁ s₁ r l₂ s₂ h₂ in
    let w₃ = (capacity_lines_lem e₀ r).wrote l₂ s₂ bs l₃ s₃ h₃ in
    let w₄ = acts_line.wrote l₃ s₃ n l₄ s₄ h₄ in
    let size : length bs ≤ most_resources = omega (arith, w₃.0.0, between_facts 1 most_resources r w₂.0) in
    let w₅ = (act_lines_lem e₀ bs n size).wrote l₄ s₄ acts l₅ s₅ h₅ in
    let w₆ = nodes_line.wrote l₅ s₅ m l₆ s₆ h₆ in
    let w₇ = (node_lines_lem n m (between_facts 1 most_acts n w₄.0).1).wrote l₆ s₆ nodes l₇ s₇ h₇ in
    let same : record { edition = e₀; capacities = bs; activities = acts; nodes = nodes } ≡ p = cc in
    let ranged : Activity → Bool = is_activity e₀ (length bs) in
    let within : Activity → Bool = λ a. is_within bs a.units in
    rw (← same) (
      record {
        edition = w₁.0;
        resources = rw w₃.0.0 w₂.0;
        capacities = w₃.0.1;
        acts = rw w₅.0.0 w₄.0;
        activities = every_then (is_held e₀ bs) ranged (λ a. and_left (ranged a) (within a)) acts w₅.0.1;
        within = every_then (is_held e₀ bs) within (λ a. and_right (ranged a) (within a)) acts w₅.0.1;
        node_count = rw w₇.0.0 w₆.0;
        nodes = rw w₅.0.0 w₇.0.1;
      },
      rw (
        w₅.0.0,
        w₇.0.0,
        w₁.1,
        w₂.1,
        w₃.1,
        w₄.1,
        w₅.1,
        w₆.1,
        w₇.1,
        end_read l₇ s₇ u l₈ s₈ h₈,
        append-nil,
        w₃.0.0,
      ),
    )

abbrev verdict : LinesRead Plan → Result
verdict o = elim o [ read p line rest ↦ holds p | stop r ↦ refuses r ]

abbrev is_too_long : List ℕ → Bool
is_too_long s = eqb (length s) 0 || ltb longest (length s)

-- The text of a plan holds the plan.
pub text_parses : (p : Plan) → is_plan p ≡ true → parse (text p) ≡ holds p
unfolding parse
text_parses p ok =
    let fits : is_too_long (text p) ≡ false =
    rw (
      ne_eqb (length (text p)) 0 (λ e. omega (arith, text_some p ok)),
      le-ltb longest (length (text p)) (omega (arith, text_short p ok, longest_any p.edition)),
    ) in
    elim_false _ _ _ fits ∙ ap verdict (lines_of_text p (plan_sound p ok)).1

-- What holds a plan is the text of that plan, and no longer than a text can be.
held : (o : LinesRead Plan) (p : Plan) → verdict o ≡ holds p → (line : ℕ) × (rest : List ℕ) × (o ≡ read p line rest)
held (read q line rest) p e = let same : q ≡ p = cc in (line, rest, rw same)
held (stop r) p e = let z : ◌≡◌ {A = ℕ} 0 1 = cc in absurd (omega arith)

parsed_lines : (s : List ℕ) (p : Plan) → parse s ≡ holds p
    → (line : ℕ) × (rest : List ℕ) × (plan_lines 1 s ≡ read p line rest)
unfolding parse
parsed_lines s p e =
    by_bool (is_too_long s)
    (λ t.
    let refused : refuses Length ≡ holds p = sym (elim_true _ _ _ t) ∙ e in
    let z : ◌≡◌ {A = ℕ} 0 1 = cc in
    absurd (omega arith))
    (λ t. held (plan_lines 1 s) p (sym (elim_false _ _ _ t) ∙ e))

pub parse_text : (s : List ℕ) (p : Plan) → parse s ≡ holds p → (is_plan p ≡ true) × (s ≡ text p)
parse_text s p e =
    let (line, rest, lines) = parsed_lines s p e in
    let (ok, same) = text_of_lines s p line rest lines in
    (sound_plan p ok, same)
