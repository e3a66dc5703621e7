-- What each way through the readers makes of the sets, where the nodes are known.
use Prim.Native.Nat.{ℕ, ◌^◌, ◌<◌}
use mathlib.Core.Path.{◌≡◌, refl, sym, ap, ap₂, ◌∙◌}
use mathlib.Core.Bool.{Bool, true, false, ◌&&◌, ◌||◌, or-false, and-false, and_comm, and_assoc, and-or_distrib_left}
use mathlib.Core.Bool.{and-or_distrib_right}
use mathlib.Core.List.{List}
use mathlib.Core.Logic.{by_cases}
use native.Mathlib.Decide.{ℕ_discrete}
use native.Mathlib.Omega.{arith}
use lib.Bits.{bit_or, or_lt}
use lib.Dec.{lit<, eqb}
use lib.ListN.{length, get_or, set, length-set}
use lib.Pow.{pow-lt}
use lib.Seq.{get_or-set_same, get_or-set_other}
use borrow.Author.Tests.{eq-eqb, ne_eqb}
use Rattle.sets.specs.Sets.{most, has}
use Rattle.sets.proofs.Laws.{has_none, has_or, has_single}
use Rattle.term.specs.Term.{Term, Forest, act, nil, cons}
use Rattle.term.specs.Variants.{activities, activities_of_all, member}
use Rattle.term.proofs.Twice.{member_append}
use Rattle.variant.specs.Precedence.{precedes, within_one, earlier}
use Rattle.precedence.specs.declared.Walk.{Walk}
use Rattle.precedence.specs.Walk.{after_of, Low, OrderJoined, among}

-- The same activities and order in other words.
pub joins_as : {acts acts' : List ℕ} {order order' : ℕ → ℕ → Bool} {next next' before : ℕ}
    {preds found : List ℕ} {w : Walk} → acts' ≡ acts
    → ((i j : ℕ) → order' i j ≡ order i j) → next ≡ next' → OrderJoined acts order next before preds found w
    → OrderJoined acts' order' next' before preds found w
joins_as {before = before} {preds = preds} {w = w} a o n h =
    record {
      goes = h.goes ∙ n;
      small = h.small;
      members = λ i. h.members i ∙ ap (λ (l : List ℕ). member i l) (sym a);
      long = h.long;
      low = h.low;
      preceded =
          λ i j. h.preceded i j
          ∙ ap₂ (λ (k : List ℕ) (b : Bool). has (get_or preds j 0) i || member j k && has before i || b) (sym a)
          (sym (o i j));
    }

-- ---- an activity

-- What stands before the activity goes into its set alone.
module _ (i before new : ℕ) (preds : List ℕ) (l : i < length preds) (e : new ≡ bit_or (get_or preds i 0) before) where
  marked : (j k : ℕ)
      → has (get_or (set preds i new) j 0) k ≡ has (get_or preds j 0) k || (eqb j i || false) && has before k || false
  marked j k =
      by_cases (ℕ_discrete j i)
      (λ d.
      let here : get_or (set preds i new) j 0 ≡ bit_or (get_or preds j 0) before =
      ap (λ (n : ℕ). get_or (set preds i new) n 0) d ∙ get_or-set_same preds i new 0 l ∙ e
      ∙ ap (λ (n : ℕ). bit_or (get_or preds n 0) before) (sym d) in
      rw (here, eq-eqb j i d, or-false) (has_or (get_or preds j 0) before k))
      (λ d. simp (get_or-set_other preds i j new 0 d, ne_eqb j i d, or-false))

  marked_low : Low before preds → (j : ℕ) → get_or (set preds i new) j 0 < 2 ^ most
  marked_low h j =
      by_cases (ℕ_discrete j i)
      (λ d. rw (d, get_or-set_same preds i new 0 l, e) (or_lt most (get_or preds i 0) before (h.each i) h.outer))
      (λ d. rw (get_or-set_other preds i j new 0 d) (h.each j))

pub one : (i next before single new : ℕ) (preds : List ℕ) → i < most → Low before preds
    → single ≡ 2 ^ i → new ≡ bit_or (get_or preds i 0) before
    → OrderJoined (activities (act i)) (precedes (act i)) next before preds (set preds i new)
    (record { next = next; set = single })
unfolding activities member precedes
one i next before single new preds l h s e =
    let inside : i < length preds = omega (arith, h.long) in
    record {
      goes = refl;
      small = rw s (pow-lt l);
      members = λ j. rw s (has_single i j ∙ sym (or-false (eqb j i)));
      long = length-set preds i new;
      low = marked_low i before new preds inside e h;
      preceded = λ m j. marked i before new preds inside e j m;
    }

-- ---- no child

pub none : (in_sequence : Bool) (next before : ℕ) (preds : List ℕ) → Low before preds
    → OrderJoined (activities_of_all nil) (among in_sequence nil) next before preds preds
    (record { next = next; set = 0 })
unfolding activities member precedes
none in_sequence next before preds h =
    record {
      goes = refl;
      small = lit< tt;
      members = λ i. has_none i;
      long = refl;
      low = h.each;
      preceded = λ i j.
          sym
          (ap (λ (x : Bool). has (get_or preds j 0) i || false || (x || false)) (and-false in_sequence)
          ∙ or-false (has (get_or preds j 0) i || false)
          ∙ or-false (has (get_or preds j 0) i));
    }

-- ---- a child and those after it

-- In an s the child's activities join those before.
has_after : (in_sequence : Bool) (before child i : ℕ)
    → has (after_of in_sequence before child) i ≡ has before i || in_sequence && has child i
has_after true before child i = has_or before child i
has_after false before child i = sym (or-false (has before i))

after_low : (in_sequence : Bool) (before child : ℕ) → before < 2 ^ most → child < 2 ^ most
    → after_of in_sequence before child < 2 ^ most
after_low true before child p q = or_lt most before child p q
after_low false before child p q = p

pub low_after : (in_sequence : Bool) {acts : List ℕ} {order : ℕ → ℕ → Bool} {next before : ℕ}
    {preds found : List ℕ} (w : Walk) → Low before preds
    → OrderJoined acts order next before preds found w → Low (after_of in_sequence before w.set) found
low_after in_sequence {before = before} w l h =
    record {
      outer = after_low in_sequence before w.set l.outer h.small;
      long = h.long ∙ l.long;
      each = h.low;
    }

reorder : (p a b x y o w : Bool) → p || a || o || (b || x) || (y || w) ≡ p || (a || b) || (x || y || (o || w))
reorder true a b x y o w = refl
reorder false true b x y o w = refl
reorder false false true x y true w = refl
reorder false false true x y false w = refl
reorder false false false true y true w = refl
reorder false false false true y false w = refl
reorder false false false false true true w = refl
reorder false false false false false true w = refl
reorder false false false false y false w = refl

-- p: i was in the set of j; b: i is in `before`; t, f: j is in the child, in the others; c: in an s; s: i is in the
-- child; o: ordered in the child; e, w: one of the others before another, ordered in one of them.
regroup : (p b t f c s o e w : Bool)
    → p || t && b || o || f && (b || c && s) || (c && e || w) ≡ p || (t || f) && b || (c && (s && f || e) || (o || w))
regroup p b t f c s o e w =
    rw (
      and-or_distrib_left f b (c && s),
      and_comm f (c && s),
      and_assoc c s f,
      and-or_distrib_right t f b,
      and-or_distrib_left c (s && f) e,
    )
    (reorder p (t && b) (f && b) (c && (s && f)) (c && e) o w)

module _ (in_sequence : Bool) (t : Term) (f : Forest) (middle next before : ℕ) (preds between found : List ℕ)
    (first rest : Walk) (child : OrderJoined (activities t) (precedes t) middle before preds between first)
    (others : OrderJoined (activities_of_all f) (among in_sequence f) next (after_of in_sequence before first.set)
    between found rest) where
  has_both : (i : ℕ) → has (bit_or first.set rest.set) i ≡ member i (activities_of_all (cons t f))
  unfolding activities
  has_both i =
      has_or first.set rest.set i ∙ ap₂ ◌||◌ (child.members i) (others.members i)
      ∙ sym (member_append i (activities t) (activities_of_all f))

  ordered : (i j : ℕ)
      → has (get_or found j 0) i
      ≡ has (get_or preds j 0) i || member j (activities_of_all (cons t f)) && has before i
      || among in_sequence (cons t f) i j
  unfolding activities precedes
  ordered i j =
      others.preceded i j
      ∙ ap₂ (λ (x y : Bool). x || member j (activities_of_all f) && y || among in_sequence f i j) (child.preceded i j)
      (has_after in_sequence before first.set i
      ∙ ap (λ (x : Bool). has before i || in_sequence && x) (child.members i))
      ∙ regroup (has (get_or preds j 0) i) (has before i) (member j (activities t))
      (member j (activities_of_all f)) in_sequence (member i (activities t))
      (precedes t i j) (earlier f i j) (within_one f i j)
      ∙ ap (λ (x : Bool). has (get_or preds j 0) i || x && has before i || among in_sequence (cons t f) i j)
      (sym (member_append j (activities t) (activities_of_all f)))

  pub both : OrderJoined (activities_of_all (cons t f)) (among in_sequence (cons t f)) next before preds found
      (record { next = rest.next; set = bit_or first.set rest.set })
  both =
      record {
        goes = others.goes;
        small = or_lt most first.set rest.set child.small others.small;
        members = has_both;
        long = others.long ∙ child.long;
        low = others.low;
        preceded = ordered;
      }
