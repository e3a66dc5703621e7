-- Laws of the links between entries.
use Prim.Native.Nat.{ℕ, ◌+◌, ◌-◌, ◌*◌, ◌≤◌, ◌<◌}
use native.Mathlib.Decide.{ℕ_discrete, dec_lt}
use native.Mathlib.Omega.{arith}
use mathlib.Core.List.{List}
use mathlib.Core.Logic.{◌≢◌, by_cases}
use mathlib.Core.Path.{◌≡◌, refl, sym, ap, subst, ◌∙◌}
use Rattle.orders.specs.Book.{Nearest, Chain, entry_cells, cell_at, present_at, same_at, itself}
use lib.ListN.{length, get_or, take, drop, length-drop}
use lib.Seq.{take_all, get_or-drop}

pub cell : (b : List ℕ) (e c : ℕ) → get_or b (e * entry_cells + c) 0 ≡ cell_at b e c
cell b e c = let q : e * entry_cells + c ≡ entry_cells * e + c = omega arith in ap (λ (i : ℕ). get_or b i 0) q

-- A part of the book that goes on to its end.
abbrev pub part_from : List ℕ → ℕ → List ℕ
part_from b at = take (length b - at) (drop at b)

pub rest_of : (b : List ℕ) (at : ℕ) → part_from b at ≡ drop at b
rest_of b at = take_all (length b - at) (drop at b) (omega (arith, length-drop at b))

pub rest_cell : (b : List ℕ) (at i : ℕ) → get_or (part_from b at) i 0 ≡ get_or b (at + i) 0
rest_cell b at i = ap (λ (l : List ℕ). get_or l i 0) (rest_of b at) ∙ get_or-drop at b i 0

pub rest_length : (b : List ℕ) (at : ℕ) → length (part_from b at) ≡ length b - at
rest_length b at = ap length (rest_of b at) ∙ length-drop at b

-- The entry that a link leads to has not the activities: the search goes on at the link from there.
pub further : (like : ℕ → ℕ) (b : List ℕ) (n s k k' : ℕ) → 0 < k → Nearest like b n s k → present_at b (k - 1) ≢ s
    → Nearest like b (k - 1) s k' → Nearest like b n s k'
further like b n s k k' some h other rest =
    record {
      upto = omega (arith, h.upto, rest.upto);
      alike = rest.alike;
      none = λ e l below.
          by_cases
          (dec_lt e (k - 1))
          (λ inside. rest.none e l inside)
          (λ above.
          by_cases
          (ℕ_discrete e (k - 1))
          (λ q r. other (ap (present_at b) (sym q) ∙ r))
          (λ ne. h.none e (omega arith) below));
    }

-- The same of a book whose first n entries have the same activities.
pub nearest_same : (like : ℕ → ℕ) (b b' : List ℕ) (n s s' k k' : ℕ)
    → ((e : ℕ) → e < n → present_at b' e ≡ present_at b e) → s' ≡ s → k' ≡ k
    → Nearest like b n s k → Nearest like b' n s' k'
nearest_same like b b' n s s' k k' same es ek h =
    record {
      upto = omega (arith, h.upto);
      alike = λ some.
          ap like (same (k' - 1) (omega (arith, h.upto)) ∙ ap (λ (i : ℕ). present_at b (i - 1)) ek)
          ∙ h.alike (omega arith)
          ∙ ap like (sym es);
      none = λ e l below q. h.none e (omega arith) below (sym (same e below) ∙ q ∙ es);
    }

-- Of the entries up to the link k with the same activities as the last, those from the link `to` on have been passed,
-- and P holds of each.
pub record Passed (k : ℕ) (b : List ℕ) (P : ℕ → Type 0) (to : ℕ) : Type 0 where
  pub upto : to ≤ k
  pub alike : 0 < to → present_at b (to - 1) ≡ present_at b (k - 1)
  pub each : (e : ℕ) → to ≤ e → e < k → present_at b e ≡ present_at b (k - 1) → P e

module _ (k : ℕ) (b : List ℕ) (P : ℕ → Type 0) where
  pub passed_none : Passed k b P k
  passed_none =
      record { upto = omega arith; alike = λ some. refl; each = λ e l m. absurd (omega arith) }

  module _ (to : ℕ) (h : Passed k b P to) where
    pub passed_map : (Q : ℕ → Type 0) → ((e : ℕ) → to ≤ e → P e → Q e) → Passed k b Q to
    passed_map Q f = record { upto = h.upto; alike = h.alike; each = λ e l m q. f e l (h.each e l m q) }

    pub passed_link : Chain k b → 0 < to → Nearest itself b (to - 1) (present_at b (to - 1)) (same_at b (to - 1))
    passed_link chain some = chain.same (to - 1) (omega (arith, h.upto)) (h.alike some)

    pub passed_more : Chain k b → 0 < to → P (to - 1) → Passed k b P (same_at b (to - 1))
    passed_more chain some here =
        let link = passed_link chain some in
        record {
          upto = omega (arith, h.upto, link.upto);
          alike = λ more. link.alike more ∙ h.alike some;
          each = λ e l m q.
              by_cases
              (ℕ_discrete e (to - 1))
              (λ at. subst P (sym at) here)
              (λ ne.
              by_cases
              (dec_lt e (to - 1))
              (λ below. absurd (link.none e l below (q ∙ sym (h.alike some))))
              (λ above. h.each e (omega arith) m q));
        }
