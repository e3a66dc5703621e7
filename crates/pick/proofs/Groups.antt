-- A group of which all children are done: its node, its variants, and what it is as a child of another group.
use Prim.Native.Nat.{ℕ}
use mathlib.Core.Bool.{true, false, true≢false}
use mathlib.Core.List.{◌∷◌}
use mathlib.Core.Path.{◌≡◌, refl, sym, ap, ◌∙◌}
use Rattle.std.specs.Prelude.{Option, Some, None}
use Rattle.term.specs.Term.{Term, Forest, act, nil, cons, size, nodes, nodes_of_all, firsts, others}
use Rattle.term.specs.Model.{count, product, children_of}
use Rattle.variant.specs.Written.{dissolved}
use Rattle.variant.specs.Pick.{pick}
use Rattle.pick.specs.Model.{onto, node_by, term_by, joins, put_in, parts_of, parts_of_each}
use Rattle.pick.specs.declared.Group.{Group}
use Rattle.pick.specs.declared.Group.TheVariants.{Sequence, Parallel}
use Rattle.pick.proofs.Writing.{joined_nil}

pub children_by : (g : Group) (k : ℕ) → children_of (node_by g k) ≡ k
children_by Sequence k = refl
children_by Parallel k = refl

pub onto_by : (g : Group) (k : ℕ) (f : Forest) → onto (node_by g k) f ≡ cons (term_by g (firsts k f)) (others k f)
unfolding onto
onto_by Sequence k f = refl
onto_by Parallel k f = refl

pub count_by : (g : Group) (f : Forest) → count (term_by g f) ≡ product f
unfolding count
count_by Sequence f = refl
count_by Parallel f = refl

pub nodes_by : (g : Group) (f : Forest) → nodes (term_by g f) ≡ node_by g (size f) ∷ nodes_of_all f
unfolding nodes
nodes_by Sequence f = refl
nodes_by Parallel f = refl

written_by : (g : Group) (f : Forest) (v : ℕ) → dissolved (pick (term_by g f) v) ≡ term_by g (parts_of_each g f v)
unfolding pick dissolved parts_of_each
written_by Sequence f v = refl
written_by Parallel f v = refl

put_joined : (g : Group) (outer : Option Group) → joins g outer ≡ true → (f : Forest)
    → put_in outer (term_by g f) nil ≡ f
put_joined g None e f = absurd (true≢false (sym e))
put_joined Sequence (Some Sequence) e f = joined_nil f
put_joined Sequence (Some Parallel) e f = absurd (true≢false (sym e))
put_joined Parallel (Some Sequence) e f = absurd (true≢false (sym e))
put_joined Parallel (Some Parallel) e f = joined_nil f

put_whole : (g : Group) (outer : Option Group) → joins g outer ≡ false → (f : Forest)
    → put_in outer (term_by g f) nil ≡ cons (term_by g f) nil
put_whole Sequence None e f = refl
put_whole Parallel None e f = refl
put_whole Sequence (Some Sequence) e f = absurd (true≢false e)
put_whole Sequence (Some Parallel) e f = refl
put_whole Parallel (Some Sequence) e f = refl
put_whole Parallel (Some Parallel) e f = absurd (true≢false e)

-- A variant of a group, in the group around it; and that of an activity.
pub parts_joined : (g : Group) (outer : Option Group) → joins g outer ≡ true → (f : Forest) (v : ℕ)
    → parts_of_each g f v ≡ parts_of outer (term_by g f) v
unfolding parts_of
parts_joined g outer e f v =
    sym (put_joined g outer e (parts_of_each g f v)) ∙ ap (λ (t : Term). put_in outer t nil) (sym (written_by g f v))

pub parts_whole : (g : Group) (outer : Option Group) → joins g outer ≡ false → (f : Forest) (v : ℕ)
    → cons (term_by g (parts_of_each g f v)) nil ≡ parts_of outer (term_by g f) v
unfolding parts_of
parts_whole g outer e f v =
    sym (put_whole g outer e (parts_of_each g f v)) ∙ ap (λ (t : Term). put_in outer t nil) (sym (written_by g f v))

pub parts_act : (outer : Option Group) (i v : ℕ) → parts_of outer (act i) v ≡ cons (act i) nil
unfolding parts_of pick dissolved
parts_act None i v = refl
parts_act (Some Sequence) i v = refl
parts_act (Some Parallel) i v = refl
