-- One step of the writing of a variant: what the functions that call each other need, and what they add.
use Prim.Native.Nat.{ℕ, zero, suc, ◌+◌, ◌-◌, ◌*◌, ◌/◌, ◌%◌, ◌≤◌, ◌<◌}
use mathlib.Core.Bool.{Bool, true, false}
use mathlib.Core.List.{List, [], ◌∷◌, ◌++◌, append-nil}
use mathlib.Core.Option.{some, some-injective}
use mathlib.Core.Path.{◌≡◌, refl, sym, ap, ap₂, subst, ◌∙◌}
use native.Mathlib.Nat.{mod-lt, div-lt_iff_lt-mul, mul-div_cancel_left, mul_comm}
use native.Mathlib.Omega.{arith}
use lib.Dec.{ltb}
use borrow.Author.Tests.{ltb-false}
use lib.ListN.{length, take, set, length-append}
use Rattle.std.specs.Prelude.{Option, Some, None}
use Rattle.plan.specs.Limits.{most_nodes}
use Rattle.plan.specs.declared.Node.{Node}
use Rattle.plan.specs.declared.Node.TheVariants.{Act, Seq, Pll, Xor}
use Rattle.term.specs.Term.{Term, Forest, act, xor, nil, cons, size, nodes, nodes_of_all, firsts, others, term_of}
use Rattle.term.specs.Variants.{variant_count}
use Rattle.term.specs.Model.{count, product, total, children_of}
use Rattle.term.proofs.Counting.{variant_count_count}
use Rattle.variant.specs.Project.{variant_at}
use Rattle.variant.specs.Written.{joined, dissolved, dissolved_in}
use Rattle.variant.proofs.Dissolve.{dissolved_nodes}
use Rattle.variant.specs.Pick.{pick, pick_each, pick_one}
use Rattle.variant.proofs.Pick.{choice, pos_right, pick_is}
use Rattle.variant.proofs.Picked.{pick_nodes}
use Rattle.pick.specs.Picked.{Picks}
use Rattle.pick.specs.Model.{onto, terms, Enough, first, terms_at, term_at, node_at, span_at, Spanned}
use Rattle.pick.specs.Model.{AmongAlternatives, AlternativeFound, node_by, term_by, joins, put_in, parts_of}
use Rattle.pick.specs.Model.{parts_of_each, Grown, Going, OfTerm, OfGroup, OfEach}
use Rattle.pick.specs.declared.Digits.{Digits}
use Rattle.pick.specs.declared.Group.{Group}
use Rattle.pick.specs.declared.Place.{Place}
use Rattle.pick.specs.declared.Span.{Span}
use Rattle.pick.specs.declared.output.Picked.{Picked}
use Rattle.pick.proofs.Places.{whole, terms_at_lem, enough_at, inside, split_nodes, total_firsts}
use Rattle.pick.proofs.Walking.{one_less, stepped}
use Rattle.pick.proofs.Groups.{children_by, onto_by, count_by, nodes_by, parts_joined, parts_whole, parts_act}
use Rattle.pick.proofs.Writing.{put_before, put_nodes, grown_none, grown_more, grown_node}

-- The parts of a variant: no more nodes than its term has; those of several terms, one after another.
pub parts_nodes : (outer : Option Group) (t : Term) (v : ℕ) → v < count t
    → length (nodes_of_all (parts_of outer t v)) ≤ length (nodes t)
unfolding parts_of
parts_nodes outer t v h =
    omega (arith, put_nodes outer (dissolved (pick t v)), dissolved_nodes (pick t v), pick_nodes t v h)

pub parts_cons : (kind : Group) (t : Term) (f : Forest) (v : ℕ)
    → joined (parts_of (Some kind) t (v / product f)) (parts_of_each kind f (v % product f))
    ≡ parts_of_each kind (cons t f) v
unfolding parts_of parts_of_each pick dissolved
parts_cons kind t f v =
    sym (put_before (Some kind) (dissolved (pick t (v / product f)))
    (dissolved_in (put_in (Some kind)) (pick_each f (v % product f))))

-- A node and all that follows it.
onto_nodes : (n : Node) (f : Forest) → length (nodes_of_all (onto n f)) ≡ suc (length (nodes_of_all f))
unfolding onto nodes
onto_nodes (Act i) f = refl
onto_nodes (Seq k) f =
    omega (arith, split_nodes k f, length-append (nodes_of_all (firsts k f)) (nodes_of_all (others k f)))
onto_nodes (Pll k) f =
    omega (arith, split_nodes k f, length-append (nodes_of_all (firsts k f)) (nodes_of_all (others k f)))
onto_nodes (Xor k) f =
    omega (arith, split_nodes k f, length-append (nodes_of_all (firsts k f)) (nodes_of_all (others k f)))

spanned_later : {ns : List Node} {spans : List Span} (from : ℕ) → Spanned ns spans 0 → Spanned ns spans from
spanned_later from s =
    record {
      ends =
          record {
            later = λ i h l. s.ends.later i (omega arith) l;
            rests = λ i h l. s.ends.rests i (omega arith) l;
          };
      counts = λ i h l. s.counts i (omega arith) l;
    }

-- Children behind those of a group are not reached.
pick_one_firsts : (k : ℕ) (f : Forest) (v : ℕ) → v < total (firsts k f) → pick_one (firsts k f) v ≡ pick_one f v
unfolding firsts count pick
pick_one_firsts zero f v h = absurd (omega arith)
pick_one_firsts (suc k) nil v h = refl
pick_one_firsts (suc k) (cons t f) v h = go (ltb v (count t)) refl (λ l. pick_one_firsts k f (v - count t) l)
  where
    go : (b : Bool) → ltb v (count t) ≡ b
        → (v - count t < total (firsts k f) → pick_one (firsts k f) (v - count t) ≡ pick_one f (v - count t))
        → choice b (pick t v) (pick_one (firsts k f) (v - count t)) ≡ choice b (pick t v) (pick_one f (v - count t))
    go true e below = refl
    go false e below = let l : count t ≤ v = ltb-false v (count t) e in below (omega arith)

-- A term.
module _ {ns : List Node} {spans : List Span} {p : Place} {d : Picked} (now : OfTerm ns spans p d) where
  abbrev behind : Forest
  behind = terms_at ns (p.at + 1)

  term_is : {n : Node} → node_at ns p.at ≡ n → terms_at ns p.at ≡ onto n behind
  term_is e = terms_at_lem ns p.at now.inside ∙ ap (λ (m : Node). onto m behind) e

  more : d.nodes + suc (length (nodes_of_all behind)) ≤ most_nodes
  more =
      omega (
        arith,
        now.going.room,
        ap (λ (f : Forest). length (nodes_of_all f)) (term_is refl),
        onto_nodes (node_at ns p.at) behind,
      )

  pub room : d.nodes < most_nodes
  room = omega (arith, more)

  -- The same nodes, further on, with what has room there.
  going_on : {e : Picked} (at : ℕ) → length e.node ≡ most_nodes
      → e.nodes + length (nodes_of_all (terms_at ns at)) ≤ most_nodes
      → Going ns spans at e
  going_on at h r =
      record {
        short = now.going.short;
        enough = now.going.enough;
        spanned = now.going.spanned;
        sized = h;
        room = r;
      }

  -- An activity.
  pub act_grown : (e : Picked) {r : Picked} {i at : ℕ} (outer : Option Group) → node_at ns p.at ≡ Act i → at ≡ d.nodes
      → e.nodes ≡ d.nodes + 1 → e.node ≡ d.node
      → r.nodes ≡ e.nodes → r.node ≡ set e.node at (node_at ns p.at)
      → Grown d r (parts_of outer (term_at ns p.at) p.v) 1
  unfolding onto nodes
  act_grown e {r} {i} {at} outer is place after same stays put =
      subst (λ (f : Forest). Grown d r f 1)
      (sym (parts_act outer i p.v) ∙ ap (λ (f : Forest). parts_of outer (first f) p.v) (sym (term_is is)))
      (grown_node (Act i) (act i) now.going.sized room place after same
      (grown_none {d = e} (ap length same ∙ now.going.sized)) refl stays (put ∙ ap (set e.node at) is))

  -- A group of which one is done.
  module _ {k : ℕ} (x : node_at ns p.at ≡ Xor k) where
    xor_is : terms_at ns p.at ≡ cons (xor (firsts k behind)) (others k behind)
    unfolding onto
    xor_is = term_is x

    below_total : p.v < total (firsts k behind)
    unfolding count
    below_total = omega (arith, now.below, ap (λ (f : Forest). count (first f)) xor_is)

    pub alternatives_ready : AmongAlternatives ns spans (p.at + 1) p.v
    alternatives_ready =
        record {
          short = now.going.short;
          spanned = spanned_later (p.at + 1) now.going.spanned;
          below = omega (arith, below_total, total_firsts k behind);
        }

    pub one_ready : {r : Place} → AlternativeFound ns (p.at + 1) p.v r → OfTerm ns spans r d
    one_ready {r} f =
        record {
          going = going_on r.at now.going.sized (omega (arith, more, f.smaller));
          inside = f.inside;
          below = f.below;
        }

    pub one_grown : {e : Picked} {r : Place} {c : ℕ} (outer : Option Group) → AlternativeFound ns (p.at + 1) p.v r
        → Grown d e (parts_of outer (term_at ns r.at) r.v) c
        → Grown d e (parts_of outer (term_at ns p.at) p.v) c
    unfolding parts_of pick
    one_grown {e} {r} {c} outer f h =
        let same : pick (term_at ns r.at) r.v ≡ pick (term_at ns p.at) p.v =
        f.same ∙ sym (pick_one_firsts k behind p.v below_total)
        ∙ ap (λ (x : Forest). pick (first x) p.v) (sym xor_is) in
        subst (λ (f : Forest). Grown d e f c) (ap (λ (t : Term). put_in outer (dissolved t) nil) same) h

-- A group of which all are done: its children are those of the group around it, or they get its node.
module _ {ns : List Node} {spans : List Span} {kind : Group} {k : ℕ} {p : Place} {d : Picked}
    (now : OfGroup ns spans kind k p d) where
  abbrev children : Forest
  children = firsts k (terms_at ns (p.at + 1))

  group_is : terms_at ns p.at ≡ cons (term_by kind children) (others k (terms_at ns (p.at + 1)))
  group_is = term_is now.of_term now.is ∙ onto_by kind k (terms_at ns (p.at + 1))

  pub group_room : d.nodes < most_nodes
  group_room = room now.of_term

  pub children_ready : {e : Picked} → length e.node ≡ most_nodes → e.nodes ≤ d.nodes + 1
      → OfEach ns spans k (record { at = p.at + 1; v = p.v }) (span_at spans p.at).count e
  children_ready h r =
      let counted : (span_at spans p.at).count ≡ count (term_at ns p.at) =
      now.of_term.going.spanned.counts p.at (omega arith) now.of_term.inside in
      record {
        going = going_on now.of_term (p.at + 1) h (omega (arith, more now.of_term));
        enough =
            omega (
              arith,
              enough_at ns p.at now.of_term.going.enough now.of_term.inside,
              ap children_of now.is,
              children_by kind k,
            );
        counts = counted ∙ ap (λ (f : Forest). count (first f)) group_is ∙ count_by kind children;
        below = omega (arith, now.of_term.below, counted);
      }

  pub joined_grown : {r : Picked} {c : ℕ} (outer : Option Group) → joins kind outer ≡ true
      → Grown d r (parts_of_each kind children p.v) c
      → Grown d r (parts_of outer (term_at ns p.at) p.v) c
  joined_grown {r} {c} outer e =
      subst (λ (f : Forest). Grown d r f c)
      (parts_joined kind outer e children p.v
      ∙ ap (λ (f : Forest). parts_of outer (first f) p.v) (sym group_is))

  pub whole_grown : {e i r : Picked} {at c : ℕ} {n : Node} (outer : Option Group) → joins kind outer ≡ false
      → at ≡ d.nodes → e.nodes ≡ d.nodes + 1 → e.node ≡ d.node
      → Grown e i (parts_of_each kind children p.v) c
      → n ≡ node_by kind c → r.nodes ≡ i.nodes → r.node ≡ set i.node at n
      → Grown d r (parts_of outer (term_at ns p.at) p.v) 1
  whole_grown {e} {i} {r} {at} {c} {n} outer apart place after same g is stays put =
      let f : Forest = parts_of_each kind children p.v in
      subst (λ (f : Forest). Grown d r f 1)
      (parts_whole kind outer apart children p.v
      ∙ ap (λ (f : Forest). parts_of outer (first f) p.v) (sym group_is))
      (grown_node n (term_by kind f) now.of_term.going.sized group_room place after same g
      (nodes_by kind f ∙ ap (λ (m : Node). m ∷ nodes_of_all f) (ap (node_by kind) (sym g.children_are) ∙ sym is))
      stays put)

-- Several terms: the number of what follows a term tells its own variant from that of the others.
module _ {ns : List Node} {spans : List Span} {k i : ℕ} {p : Place} {all : ℕ} {d : Picked}
    (now : OfEach ns spans (k - i) p all d) (some : i < k) where
  abbrev span : Span
  span = span_at spans p.at

  abbrev those : Forest
  those = firsts (k - (i + 1)) (terms_at ns span.next)

  each_inside : p.at < length ns
  each_inside = inside ns p.at (omega (arith, now.enough, some))

  pub each_within : p.at < most_nodes
  each_within = omega (arith, each_inside, now.going.short)

  pub each_later : p.at < span.next
  each_later = now.going.spanned.ends.later p.at (omega arith) each_inside

  one_more : terms_at ns p.at ≡ cons (term_at ns p.at) (terms_at ns span.next)
  one_more = stepped now.going.spanned.ends p.at (omega arith) each_inside

  counted : span.count ≡ count (term_at ns p.at)
  counted = now.going.spanned.counts p.at (omega arith) each_inside

  firsts_is : firsts (k - i) (terms_at ns p.at) ≡ cons (term_at ns p.at) those
  unfolding firsts
  firsts_is = ap₂ firsts (one_less k i some) one_more

  all_is : all ≡ span.count * product those
  unfolding count
  all_is = now.counts ∙ ap product firsts_is ∙ ap (λ (n : ℕ). n * product those) (sym counted)

  below_all : p.v < span.count * product those
  below_all = omega (arith, now.below, all_is)

  some_here : 0 < span.count
  some_here = pos_right (product those) span.count p.v (omega (arith, below_all, mul_comm span.count (product those)))

  some_there : 0 < product those
  some_there = pos_right span.count (product those) p.v below_all

  others_is : all / span.count ≡ product those
  others_is = ap (λ (n : ℕ). n / span.count) all_is ∙ mul-div_cancel_left (product those) some_here

  pub split_ready : (0 < span.count) × (0 < all / span.count)
  split_ready = (some_here, omega (arith, others_is, some_there))

  module _ {digits : Digits}
      (split :
      digits
      ≡ record {
        first = p.v / (all / span.count);
        rest = p.v % (all / span.count);
        others = all / span.count;
      }) where
    digits_are : digits ≡ record { first = p.v / product those; rest = p.v % product those; others = product those }
    digits_are = split ∙ ap (λ (n : ℕ). record { first = p.v / n; rest = p.v % n; others = n }) others_is

    first_below : digits.first < count (term_at ns p.at)
    first_below = rw (ap (λ (x : Digits). x.first) digits_are, ← counted) ((div-lt_iff_lt-mul some_there).1 below_all)

    pub first_ready : OfTerm ns spans (record { at = p.at; v = digits.first }) d
    first_ready = record { going = now.going; inside = each_inside; below = first_below }

    module _ (kind : Group) {e : Picked} {c : ℕ}
        (g : Grown d e (parts_of (Some kind) (term_at ns p.at) digits.first) c) where
      pub others_ready : OfEach ns spans (k - (i + 1)) (record { at = span.next; v = digits.rest }) digits.others e
      unfolding size nodes
      others_ready =
          record {
            going =
                record {
                  short = now.going.short;
                  enough = now.going.enough;
                  spanned = now.going.spanned;
                  sized = g.sized;
                  room =
                      omega (
                        arith,
                        now.going.room,
                        g.at,
                        parts_nodes (Some kind) (term_at ns p.at) digits.first first_below,
                        ap (λ (f : Forest). length (nodes_of_all f)) one_more,
                        length-append (nodes (term_at ns p.at)) (nodes_of_all (terms_at ns span.next)),
                      );
                };
            enough = omega (arith, now.enough, some, ap size one_more);
            counts = ap (λ (x : Digits). x.others) digits_are;
            below = rw digits_are (mod-lt p.v some_there);
          }

      pub each_grown : {r : Picked} {n : ℕ} → Grown e r (parts_of_each kind those digits.rest) n
          → Grown d r (parts_of_each kind (firsts (k - i) (terms_at ns p.at)) p.v) (c + n)
      each_grown {r} {n} h =
          subst (λ (f : Forest). Grown d r f (c + n))
          (rw digits_are (parts_cons kind (term_at ns p.at) those p.v)
          ∙ ap (λ (f : Forest). parts_of_each kind f p.v) (sym firsts_is))
          (grown_more g h)

-- No terms: nothing is written.
pub no_terms : (kind : Group) (k : ℕ) (f : Forest) (v : ℕ) {d : Picked} → k ≡ 0 → length d.node ≡ most_nodes
    → Grown d d (parts_of_each kind (firsts k f) v) 0
unfolding parts_of_each firsts pick dissolved
no_terms kind k f v {d} e h = subst (λ (n : ℕ). Grown d d (parts_of_each kind (firsts n f) v) 0) (sym e) (grown_none h)

-- The first step, on a blank draft, and what stands there at the end.
terms_nodes : (ns : List Node) → length (nodes_of_all (terms ns)) ≡ length ns
unfolding terms nodes
terms_nodes [] = refl
terms_nodes (n ∷ ns) = onto_nodes n (terms ns) ∙ ap suc (terms_nodes ns)

module _ (ns : List Node) {spans : List Span} {v : ℕ} (short : length ns ≤ most_nodes)
    (spanned : Spanned ns spans 0) (u : Term) (reads : term_of ns ≡ some u) (below : v < variant_count u) where
  known : (terms ns ≡ cons u nil) × Enough ns
  known = whole ns u reads

  term_below : v < count u
  term_below = omega (arith, below, variant_count_count u)

  whole_below : v < count (term_at ns 0)
  whole_below = omega (arith, term_below, ap (λ (f : Forest). count (first f)) known.0)

  pub start_ready : {d : Picked} → length d.node ≡ most_nodes → d.nodes ≡ 0
      → OfTerm ns spans (record { at = 0; v = v }) d
  unfolding size
  start_ready h blank =
      record {
        going =
            record {
              short = short;
              enough = known.1;
              spanned = spanned;
              sized = h;
              room = omega (arith, short, blank, terms_nodes ns);
            };
        inside = inside ns 0 (omega (arith, ap size known.0));
        below = whole_below;
      }

  pub picks : {d r : Picked} {c : ℕ} → d.nodes ≡ 0 → Grown d r (parts_of None (term_at ns 0) v) c → (t : Term)
      → term_of ns ≡ some t
      → Picks t v r
  unfolding parts_of nodes
  picks {d} {r} blank g t e =
      let same : u ≡ t = some-injective u t (sym reads ∙ e) in
      let parts : parts_of None (term_at ns 0) v ≡ cons (dissolved (variant_at t v)) nil =
      ap (λ (f : Forest). parts_of None (first f) v) known.0
      ∙ ap (λ (w : Term). cons (dissolved w) nil) (pick_is u v term_below ∙ ap (λ (w : Term). variant_at w v) same) in
      record {
        fits = r.held;
        writes =
            g.adds
            ∙ ap₂ ◌++◌ (ap (λ (i : ℕ). take i d.node) blank) (ap nodes_of_all parts)
            ∙ append-nil (nodes (dissolved (variant_at t v)));
      }
