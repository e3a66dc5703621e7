-- A variant written out: rules (3) and (5) of document 000 dissolve an s directly in an s, and a p directly in a p.
use Rattle.std.specs.Prelude.{List, ℕ}
use Rattle.plan.specs.Plan.{Plan}
use Rattle.format.specs.Text.{text}
use Rattle.term.specs.Term.{Term, Forest, act, seq, pll, xor, nil, cons, nodes}

unfoldable pub joined : Forest → Forest → Forest
joined nil g = g
joined (cons t f) g = cons t (joined f g)

-- A dissolved child as it stands in an s or in a p.
abbrev pub in_seq : Term → Forest → Forest
in_seq (act i) g = cons (act i) g
in_seq (seq f) g = joined f g
in_seq (pll f) g = cons (pll f) g
in_seq (xor f) g = cons (xor f) g

abbrev pub in_pll : Term → Forest → Forest
in_pll (act i) g = cons (act i) g
in_pll (seq f) g = cons (seq f) g
in_pll (pll f) g = joined f g
in_pll (xor f) g = cons (xor f) g

unfoldable mutual
  pub dissolved : Term → Term
  dissolved (act i) = act i
  dissolved (seq f) = seq (dissolved_in in_seq f)
  dissolved (pll f) = pll (dissolved_in in_pll f)
  dissolved (xor f) = xor (dissolved_in cons f)

  pub dissolved_in : (Term → Forest → Forest) → Forest → Forest
  dissolved_in put nil = nil
  dissolved_in put (cons t f) = put (dissolved t) (dissolved_in put f)

-- The same edition, resources and activities, and the chosen term.
unfoldable pub variant_plan : Plan → Term → Plan
variant_plan p v =
    record {
      edition = p.edition;
      capacities = p.capacities;
      activities = p.activities;
      nodes = nodes (dissolved v);
    }

unfoldable pub written : Plan → Term → List ℕ
written p v = text (variant_plan p v)
