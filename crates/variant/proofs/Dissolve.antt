-- Rules (3) and (5) keep what matters: the activities in their order, the precedence, no x, two children or more in
-- every group, and the nodes become no more. What they leave has no s in an s and no p in a p, and they leave that as
-- it is.
use Prim.Native.Nat.{ℕ, ◌+◌, ◌≤◌, ◌<◌}
use mathlib.Core.Bool.{Bool, true, false, not, ◌&&◌, ◌||◌, false≢true, and-eq-true_iff, and_assoc, or_assoc}
use mathlib.Core.List.{List, [], ◌∷◌, ◌++◌, map, append_assoc}
use mathlib.Core.Path.{◌≡◌, refl, sym, ap, ap₂, ◌∙◌}
use native.Mathlib.Omega.{arith}
use borrow.Author.Tests.{leb-true, le-leb}
use lib.ListN.{length, get_or, length-append}
use Rattle.plan.specs.Limits.{fewest_children}
use Rattle.plan.specs.declared.Node.{Node}
use Rattle.base.proofs.Bools.{both}
use Rattle.term.specs.Term.{Term, Forest, act, seq, pll, xor, nil, cons, size, nodes, nodes_of_all, full, full_all}
use Rattle.term.specs.Term.{plural}
use Rattle.term.specs.Variants.{activities, activities_of_all, member, variants, combinations, paired, variant_count}
use Rattle.term.specs.Reduced.{xor_free, xor_free_all}
use Rattle.term.proofs.Twice.{member_append}
use Rattle.variant.specs.Precedence.{precedes, within_one}
use Rattle.variant.specs.Project.{variant_at}
use Rattle.variant.specs.Written.{joined, in_seq, in_pll, dissolved, dissolved_in}
use Rattle.variant.proofs.Order.{before, behind, before_cons}

-- How a dissolved child is put before the others: as it is, or its children in its place.
data Put : Term → Forest → Forest → Type 0 where
  stays : {t : Term} {g : Forest} → Put t g (cons t g)
  opens_seq : {f g : Forest} → Put (seq f) g (joined f g)
  opens_pll : {f g : Forest} → Put (pll f) g (joined f g)

abbrev Puts : (Term → Forest → Forest) → Type 0
Puts put = (t : Term) (g : Forest) → Put t g (put t g)

in_seq_lem : Puts in_seq
in_seq_lem (act i) g = stays
in_seq_lem (seq f) g = opens_seq
in_seq_lem (pll f) g = stays
in_seq_lem (xor f) g = stays

in_pll_lem : Puts in_pll
in_pll_lem (act i) g = stays
in_pll_lem (seq f) g = stays
in_pll_lem (pll f) g = opens_pll
in_pll_lem (xor f) g = stays

in_xor_lem : Puts cons
in_xor_lem t g = stays

-- The activities are the same list.
activities_joined : (f g : Forest) → activities_of_all (joined f g) ≡ activities_of_all f ++ activities_of_all g
unfolding joined activities
activities_joined nil g = refl
activities_joined (cons t f) g =
    ap (λ (l : List ℕ). activities t ++ l) (activities_joined f g)
    ∙ sym (append_assoc (activities t) (activities_of_all f) (activities_of_all g))

activities_put : {t : Term} {g h : Forest} → Put t g h → activities_of_all h ≡ activities t ++ activities_of_all g
unfolding activities
activities_put stays = refl
activities_put (opens_seq {f} {g}) = activities_joined f g
activities_put (opens_pll {f} {g}) = activities_joined f g

mutual
  unfolding dissolved activities

  pub dissolved_activities : (t : Term) → activities (dissolved t) ≡ activities t
  dissolved_activities (act i) = refl
  dissolved_activities (seq f) = dissolved_in_activities f in_seq in_seq_lem
  dissolved_activities (pll f) = dissolved_in_activities f in_pll in_pll_lem
  dissolved_activities (xor f) = dissolved_in_activities f cons in_xor_lem

  dissolved_in_activities : (f : Forest) (put : Term → Forest → Forest) → Puts put
      → activities_of_all (dissolved_in put f) ≡ activities_of_all f
  dissolved_in_activities nil put p = refl
  dissolved_in_activities (cons t f) put p =
      activities_put (p (dissolved t) (dissolved_in put f)) ∙ ap₂ ◌++◌ (dissolved_activities t)
      (dissolved_in_activities f put p)

-- The precedence is the same.
before_joined : (f g : Forest) (i j : ℕ)
    → before (joined f g) i j ≡ before f i j || member i (activities_of_all f) && member j
    (activities_of_all g) || before g i j
unfolding joined precedes activities member
before_joined nil g i j = refl
before_joined (cons t f) g i j =
    before_cons t (joined f g) i j
    ∙ rw (
      activities_joined f g,
      before_joined f g i j,
      before_cons t f i j,
      member_append j
          (activities_of_all f),
      member_append i (activities t),
    )
    (regroup (precedes t i j) (member i (activities t)) (member j (activities_of_all f)) (member j (activities_of_all g))
    (before f i j) (member i (activities_of_all f)) (before g i j))
  where
    regroup : (p a b c x d y : Bool)
        → p || a && (b || c) || (x || d && c || y) ≡ p || a && b || x || (a || d) && c || y
    regroup true a b c x d y = refl
    regroup false false b c x d y = refl
    regroup false true true c x d y = refl
    regroup false true false true true d y = refl
    regroup false true false true false d y = refl
    regroup false true false false true d y = refl
    regroup false true false false false true y = refl
    regroup false true false false false false y = refl

before_put : (t : Term) (g : Forest) (i j : ℕ) → before (in_seq t g) i j ≡ behind t g i j || before g i j
unfolding precedes activities
before_put (act k) g i j = before_cons (act k) g i j
before_put (seq f) g i j = before_joined f g i j
before_put (pll f) g i j = before_cons (pll f) g i j
before_put (xor f) g i j = before_cons (xor f) g i j

within_joined : (f g : Forest) (i j : ℕ) → within_one (joined f g) i j ≡ within_one f i j || within_one g i j
unfolding joined precedes
within_joined nil g i j = refl
within_joined (cons t f) g i j =
    ap (λ (b : Bool). precedes t i j || b) (within_joined f g i j)
    ∙ sym (or_assoc (precedes t i j) (within_one f i j) (within_one g i j))

abbrev Within : (Term → Forest → Forest) → Type 0
Within put = (t : Term) (g : Forest) (i j : ℕ) → within_one (put t g) i j ≡ precedes t i j || within_one g i j

within_pll : Within in_pll
unfolding precedes
within_pll (act k) g i j = refl
within_pll (seq f) g i j = refl
within_pll (pll f) g i j = within_joined f g i j
within_pll (xor f) g i j = refl

within_xor : Within cons
unfolding precedes
within_xor t g i j = refl

mutual
  unfolding dissolved precedes

  pub dissolved_precedes : (t : Term) (i j : ℕ) → precedes (dissolved t) i j ≡ precedes t i j
  dissolved_precedes (act k) i j = refl
  dissolved_precedes (seq f) i j = dissolved_before f i j
  dissolved_precedes (pll f) i j = dissolved_within f in_pll within_pll i j
  dissolved_precedes (xor f) i j = dissolved_within f cons within_xor i j

  dissolved_before : (f : Forest) (i j : ℕ) → before (dissolved_in in_seq f) i j ≡ before f i j
  dissolved_before nil i j = refl
  dissolved_before (cons t f) i j =
      before_put (dissolved t) (dissolved_in in_seq f) i j
      ∙ rw (
        dissolved_before f i j,
        dissolved_precedes t i j,
        dissolved_activities t,
        dissolved_in_activities f in_seq in_seq_lem,
      )
      (sym (before_cons t f i j))

  dissolved_within : (f : Forest) (put : Term → Forest → Forest) → Within put → (i j : ℕ)
      → within_one (dissolved_in put f) i j ≡ within_one f i j
  dissolved_within nil put w i j = refl
  dissolved_within (cons t f) put w i j =
      w (dissolved t) (dissolved_in put f) i j ∙ ap₂ ◌||◌ (dissolved_precedes t i j) (dissolved_within f put w i j)

-- The nodes are no more.
nodes_joined : (f g : Forest) → nodes_of_all (joined f g) ≡ nodes_of_all f ++ nodes_of_all g
unfolding joined nodes
nodes_joined nil g = refl
nodes_joined (cons t f) g =
    ap (λ (l : List Node). nodes t ++ l) (nodes_joined f g)
    ∙ sym (append_assoc (nodes t) (nodes_of_all f) (nodes_of_all g))

nodes_put : {t : Term} {g h : Forest} → Put t g h → length (nodes_of_all h) ≤ length (nodes t) + length (nodes_of_all g)
unfolding nodes
nodes_put (stays {t} {g}) = omega (arith, length-append (nodes t) (nodes_of_all g))
nodes_put (opens_seq {f} {g}) =
    omega (arith, ap length (nodes_joined f g), length-append (nodes_of_all f) (nodes_of_all g))
nodes_put (opens_pll {f} {g}) =
    omega (arith, ap length (nodes_joined f g), length-append (nodes_of_all f) (nodes_of_all g))

mutual
  unfolding dissolved nodes

  pub dissolved_nodes : (t : Term) → length (nodes (dissolved t)) ≤ length (nodes t)
  dissolved_nodes (act i) = omega arith
  dissolved_nodes (seq f) = omega (arith, dissolved_in_nodes f in_seq in_seq_lem)
  dissolved_nodes (pll f) = omega (arith, dissolved_in_nodes f in_pll in_pll_lem)
  dissolved_nodes (xor f) = omega (arith, dissolved_in_nodes f cons in_xor_lem)

  dissolved_in_nodes : (f : Forest) (put : Term → Forest → Forest) → Puts put
      → length (nodes_of_all (dissolved_in put f)) ≤ length (nodes_of_all f)
  dissolved_in_nodes nil put p = omega arith
  dissolved_in_nodes (cons t f) put p =
      omega (
        arith,
        nodes_put (p (dissolved t)
            (dissolved_in put f)),
        dissolved_nodes t,
        dissolved_in_nodes f put p,
        length-append (nodes t) (nodes_of_all f),
      )

-- No x is made or lost.
xor_free_joined : (f g : Forest) → xor_free_all (joined f g) ≡ xor_free_all f && xor_free_all g
unfolding joined xor_free
xor_free_joined nil g = refl
xor_free_joined (cons t f) g =
    ap (λ (b : Bool). xor_free t && b) (xor_free_joined f g) ∙ sym (and_assoc (xor_free t) (xor_free_all f) (xor_free_all g))

xor_free_put : {t : Term} {g h : Forest} → Put t g h → xor_free_all h ≡ xor_free t && xor_free_all g
unfolding xor_free
xor_free_put stays = refl
xor_free_put (opens_seq {f} {g}) = xor_free_joined f g
xor_free_put (opens_pll {f} {g}) = xor_free_joined f g

mutual
  unfolding dissolved xor_free

  pub dissolved_xor_free : (t : Term) → xor_free (dissolved t) ≡ xor_free t
  dissolved_xor_free (act i) = refl
  dissolved_xor_free (seq f) = dissolved_in_xor_free f in_seq in_seq_lem
  dissolved_xor_free (pll f) = dissolved_in_xor_free f in_pll in_pll_lem
  dissolved_xor_free (xor f) = refl

  dissolved_in_xor_free : (f : Forest) (put : Term → Forest → Forest) → Puts put
      → xor_free_all (dissolved_in put f) ≡ xor_free_all f
  dissolved_in_xor_free nil put p = refl
  dissolved_in_xor_free (cons t f) put p =
      xor_free_put (p (dissolved t) (dissolved_in put f)) ∙ ap₂ ◌&&◌ (dissolved_xor_free t) (dissolved_in_xor_free f put p)

-- No group of one is made: a group keeps as many children or gets more.
full_joined : (f g : Forest) → full_all (joined f g) ≡ full_all f && full_all g
unfolding joined full
full_joined nil g = refl
full_joined (cons t f) g =
    ap (λ (b : Bool). full t && b) (full_joined f g) ∙ sym (and_assoc (full t) (full_all f) (full_all g))

size_joined : (f g : Forest) → size (joined f g) ≡ size f + size g
unfolding joined size
size_joined nil g = omega arith
size_joined (cons t f) g = omega (arith, size_joined f g)

opened_full : (f g : Forest) → plural f && full_all f ≡ true → full_all g ≡ true
    → (size g < size (joined f g)) × (full_all (joined f g) ≡ true)
opened_full f g e h =
    let (s, a) = (and-eq-true_iff (plural f) (full_all f)).0 e in
    (omega (arith, leb-true fewest_children (size f) s, size_joined f g), full_joined f g ∙ both a h)

full_put : {t : Term} {g h : Forest} → Put t g h → full t ≡ true → full_all g ≡ true
    → (size g < size h) × (full_all h ≡ true)
unfolding full size
full_put (stays {t} {g}) e h = (omega arith, both e h)
full_put (opens_seq {f} {g}) e h = opened_full f g e h
full_put (opens_pll {f} {g}) e h = opened_full f g e h

group_full : (f h : Forest) → (full_all f ≡ true → (size f ≤ size h) × (full_all h ≡ true))
    → plural f && full_all f ≡ true
    → plural h && full_all h ≡ true
group_full f h below e =
    let (s, a) = (and-eq-true_iff (plural f) (full_all f)).0 e in
    let (more, all) = below a in
    both (le-leb fewest_children (size h) (omega (arith, leb-true fewest_children (size f) s))) all

mutual
  unfolding dissolved full size

  pub dissolved_full : (t : Term) → full t ≡ true → full (dissolved t) ≡ true
  dissolved_full (act i) e = refl
  dissolved_full (seq f) e = group_full f (dissolved_in in_seq f) (λ h. dissolved_in_full f in_seq in_seq_lem h) e
  dissolved_full (pll f) e = group_full f (dissolved_in in_pll f) (λ h. dissolved_in_full f in_pll in_pll_lem h) e
  dissolved_full (xor f) e = group_full f (dissolved_in cons f) (λ h. dissolved_in_full f cons in_xor_lem h) e

  dissolved_in_full : (f : Forest) (put : Term → Forest → Forest) → Puts put → full_all f ≡ true
      → (size f ≤ size (dissolved_in put f)) × (full_all (dissolved_in put f) ≡ true)
  dissolved_in_full nil put p e = (omega arith, e)
  dissolved_in_full (cons t f) put p e =
      let (a, b) = (and-eq-true_iff (full t) (full_all f)).0 e in
      let (kept, below) = dissolved_in_full f put p b in
      let (more, all) = full_put (p (dissolved t) (dissolved_in put f)) (dissolved_full t a) below in
      (omega arith, all)

-- No s stands in an s and no p in a p.
abbrev pub is_seq : Term → Bool
is_seq (act i) = false
is_seq (seq f) = true
is_seq (pll f) = false
is_seq (xor f) = false

abbrev pub is_pll : Term → Bool
is_pll (act i) = false
is_pll (seq f) = false
is_pll (pll f) = true
is_pll (xor f) = false

unfoldable mutual
  pub flat : Term → Bool
  flat (act i) = true
  flat (seq f) = flat_in is_seq f
  flat (pll f) = flat_in is_pll f
  flat (xor f) = flat_in (λ t. false) f

  -- no child is of that kind
  pub flat_in : (Term → Bool) → Forest → Bool
  flat_in kind nil = true
  flat_in kind (cons t f) = not (kind t) && flat t && flat_in kind f

flat_joined : (kind : Term → Bool) (f g : Forest) → flat_in kind (joined f g) ≡ flat_in kind f && flat_in kind g
unfolding joined flat
flat_joined kind nil g = refl
flat_joined kind (cons t f) g =
    ap (λ (b : Bool). not (kind t) && flat t && b) (flat_joined kind f g)
    ∙ sym (and_assoc (not (kind t) && flat t) (flat_in kind f) (flat_in kind g))

abbrev Flattens : (Term → Bool) → (Term → Forest → Forest) → Type 0
Flattens kind put = (t : Term) (g : Forest) → flat_in kind (put t g) ≡ flat t && flat_in kind g

flat_seq : Flattens is_seq in_seq
unfolding flat
flat_seq (act i) g = refl
flat_seq (seq f) g = flat_joined is_seq f g
flat_seq (pll f) g = refl
flat_seq (xor f) g = refl

flat_pll : Flattens is_pll in_pll
unfolding flat
flat_pll (act i) g = refl
flat_pll (seq f) g = refl
flat_pll (pll f) g = flat_joined is_pll f g
flat_pll (xor f) g = refl

flat_xor : Flattens (λ t. false) cons
unfolding flat
flat_xor t g = refl

mutual
  unfolding dissolved flat

  pub dissolved_flat : (t : Term) → flat (dissolved t) ≡ true
  dissolved_flat (act i) = refl
  dissolved_flat (seq f) = dissolved_in_flat f is_seq in_seq flat_seq
  dissolved_flat (pll f) = dissolved_in_flat f is_pll in_pll flat_pll
  dissolved_flat (xor f) = dissolved_in_flat f (λ t. false) cons flat_xor

  dissolved_in_flat : (f : Forest) (kind : Term → Bool) (put : Term → Forest → Forest) → Flattens kind put
      → flat_in kind (dissolved_in put f) ≡ true
  dissolved_in_flat nil kind put p = refl
  dissolved_in_flat (cons t f) kind put p =
      p (dissolved t) (dissolved_in put f) ∙ ap₂ ◌&&◌ (dissolved_flat t) (dissolved_in_flat f kind put p)

-- What is flat stays as it is.
abbrev Stays : (Term → Bool) → (Term → Forest → Forest) → Type 0
Stays kind put = (t : Term) (g : Forest) → not (kind t) ≡ true → put t g ≡ cons t g

stays_seq : Stays is_seq in_seq
stays_seq (act i) g e = refl
stays_seq (seq f) g e = absurd (false≢true e)
stays_seq (pll f) g e = refl
stays_seq (xor f) g e = refl

stays_pll : Stays is_pll in_pll
stays_pll (act i) g e = refl
stays_pll (seq f) g e = refl
stays_pll (pll f) g e = absurd (false≢true e)
stays_pll (xor f) g e = refl

mutual
  unfolding dissolved flat

  pub flat_dissolved : (t : Term) → flat t ≡ true → dissolved t ≡ t
  flat_dissolved (act i) e = refl
  flat_dissolved (seq f) e = ap seq (flat_in_dissolved f is_seq in_seq stays_seq e)
  flat_dissolved (pll f) e = ap pll (flat_in_dissolved f is_pll in_pll stays_pll e)
  flat_dissolved (xor f) e = ap xor (flat_in_dissolved f (λ t. false) cons (λ t g e. refl) e)

  flat_in_dissolved : (f : Forest) (kind : Term → Bool) (put : Term → Forest → Forest) → Stays kind put
      → flat_in kind f ≡ true → dissolved_in put f ≡ f
  flat_in_dissolved nil kind put s e = refl
  flat_in_dissolved (cons t f) kind put s e =
      let (a, c) = (and-eq-true_iff (not (kind t) && flat t) (flat_in kind f)).0 e in
      let (a, b) = (and-eq-true_iff (not (kind t)) (flat t)).0 a in
      ap₂ put (flat_dissolved t b) (flat_in_dissolved f kind put s c) ∙ s t f a

pub dissolved_again : (t : Term) → dissolved (dissolved t) ≡ dissolved t
dissolved_again t = flat_dissolved (dissolved t) (dissolved_flat t)

-- A term without x is its only variant.
mutual
  unfolding xor_free variants paired

  pub xor_free_variants : (t : Term) → xor_free t ≡ true → variants t ≡ t ∷ []
  xor_free_variants (act i) e = refl
  xor_free_variants (seq f) e = ap (map seq) (xor_free_combinations f e)
  xor_free_variants (pll f) e = ap (map pll) (xor_free_combinations f e)
  xor_free_variants (xor f) e = absurd (false≢true e)

  xor_free_combinations : (f : Forest) → xor_free_all f ≡ true → combinations f ≡ f ∷ []
  xor_free_combinations nil e = refl
  xor_free_combinations (cons t f) e =
      let (a, b) = (and-eq-true_iff (xor_free t) (xor_free_all f)).0 e in
      ap₂ paired (xor_free_variants t a) (xor_free_combinations f b)

pub xor_free_count : (t : Term) → xor_free t ≡ true → variant_count t ≡ 1
unfolding variant_count
xor_free_count t e = ap length (xor_free_variants t e)

pub xor_free_only : (t : Term) → xor_free t ≡ true → variant_at t 0 ≡ t
xor_free_only t e = ap (λ (l : List Term). get_or l 0 (act 0)) (xor_free_variants t e)
