-- The schedules under a node: they agree with it, and in each component what is not frozen starts after what is, by
-- start and then number, save what has begun. And the choices at a node: no schedule is under the branches of two.
use Prim.Native.Nat.{ℕ, ◌+◌, ◌≤◌, ◌<◌}
use native.Mathlib.Decide.{ℕ_discrete}
use native.Mathlib.Omega.{arith}
use mathlib.Core.Bool.{Bool, true, false, ◌&&◌, ◌||◌, or-true}
use mathlib.Core.Path.{◌≡◌, sym, ap, ◌∙◌}
use mathlib.Core.Logic.{◌≢◌, by_cases}
use lib.Dec.{ltb, eqb}
use borrow.Author.Tests.{eqb-true, eq-eqb, ltb-true, lt-ltb}
use Rattle.schedule.specs.Project.{Project}
use Rattle.schedule.specs.Schedule.{Starts, moved}
use Rattle.base.proofs.Bools.{by_bool, true_not_false, both, and_left, and_right}
use Rattle.schedule.proofs.Load.{among, moved_same, moved_other}
use Rattle.schedule.proofs.Reflect.{Feasible}
use Rattle.schedule.proofs.Agree.{Agree}
use Rattle.branching.proofs.Room.{Frozen, Open, frozen_other, adding, adding_new, adding_other, adding_old}
use Rattle.branching.proofs.Room.{by_added}
use Rattle.branching.proofs.Node.{Node, begun_of, begun_fixed, begun_has, open_free}
pub use Rattle.branching.specs.Under.{Components, Ahead, Under}

pub ahead_is : (a i b j : ℕ) → (ltb a b || (eqb a b && ltb i j)) ≡ true → Ahead a i b j
ahead_is a i b j y =
    by_bool (ltb a b)
    (λ l. let less = ltb-true a b l in record { low = omega (arith, less); tie = λ e. absurd (omega (arith, less, e)) })
    (λ z.
    let two : (eqb a b && ltb i j) ≡ true = sym (ap (λ (x : Bool). x || (eqb a b && ltb i j)) z) ∙ y in
    record {
      low = omega (arith, eqb-true a b (and_left (eqb a b) (ltb i j) two));
      tie = λ e. ltb-true i j (and_right (eqb a b) (ltb i j) two);
    })

pub ahead_of : (a i b j : ℕ) → Ahead a i b j → (ltb a b || (eqb a b && ltb i j)) ≡ true
ahead_of a i b j h =
    by_cases (ℕ_discrete a b)
    (λ e.
    ap (λ (x : Bool). ltb a b || x) (both (eq-eqb a b e) (lt-ltb i j (h.tie e))) ∙ or-true (ltb a b))
    (λ ne. ap (λ (x : Bool). x || (eqb a b && ltb i j)) (lt-ltb a b (omega (arith, h.low, ne))))

-- Every feasible schedule is under the root.
pub root_under : (p : Project) (comp : ℕ → ℕ) (S T : Starts) → Feasible (among p (begun_of p)) S → Feasible p T
    → Under p comp (begun_of p) S T
root_under p comp S T s f =
    record {
      agrees =
          λ i g.
          let z : p.free i ≡ false = begun_fixed p i g in
          s.as_begun i g z ∙ sym (f.as_begun i (begun_has p i g) z);
      after = λ k i g y h z e. true_not_false y (begun_fixed p k g);
    }

-- The least end that an open activity could have, by their earliest starts e, and a component in which one has it.
pub record LeastEnd (p : Project) (comp : ℕ → ℕ) (F : ℕ → Bool) (e : ℕ → ℕ) (t c : ℕ) : Type 0 where
  pub least : (i : ℕ) → Open p F i → t ≤ e i + p.duration i
  pub who : ℕ
  pub is_open : Open p F who
  pub on : comp who ≡ c
  pub ends : e who + p.duration who ≡ t

-- The open activities of the component that branch.
pub record Choice (p : Project) (comp : ℕ → ℕ) (F : ℕ → Bool) (S : Starts) (e : ℕ → ℕ) (t c j : ℕ) : Type 0 where
  pub is_open : Open p F j
  pub on : comp j ≡ c
  pub before : e j < t
  pub after : (k : ℕ) → Frozen p F k → p.free k ≡ true → comp k ≡ c → Ahead (S k) k (e j) j

-- Under a branch.
module _ (p : Project) (F : ℕ → Bool) (S : Starts) (j x : ℕ) (o : Open p F j) (T : Starts) where
  pub agree_child : Agree (among p F) S T → T j ≡ x → Agree (among p (adding F j)) (moved S j x) T
  agree_child a at i f =
      by_added p F j i f (λ q. rw q (moved_same S j x ∙ sym at)) (λ ne g. moved_other S j x i ne ∙ a i g)

  pub child_agree : Agree (among p (adding F j)) (moved S j x) T → Agree (among p F) S T × (T j ≡ x)
  child_agree a = (
    λ i f.
        sym (moved_other S j x i (frozen_other p F i j f o.waits))
        ∙ a i (record { below = f.below; there = adding_old F j i f.there }),
    sym (a j (record { below = o.has.below; there = adding_new F j })) ∙ moved_same S j x,
  )

module _ (p : Project) (comp : ℕ → ℕ) (F : ℕ → Bool) (S : Starts) (e : ℕ → ℕ) (t c : ℕ) (T : Starts) where
  -- A schedule under a branch is under its node.
  pub child_under : (j : ℕ) → Choice p comp F S e t c j → Under p comp (adding F j) (moved S j (e j)) T
      → Under p comp F S T
  child_under j b u =
      let (a, at) = child_agree p F S j (e j) b.is_open T u.agrees in
      record {
        agrees = a;
        after =
            λ k i f y h z same.
            by_cases
            (ℕ_discrete i j)
            (λ q.
            let m : Ahead (S k) k (e j) j = b.after k f y (sym same ∙ ap comp q ∙ b.on) in
            let ti : T i ≡ e j = ap T q ∙ at in
            let sk : S k ≡ T k = a k f in
            record { low = omega arith; tie = λ w. omega (arith, m.tie (omega arith)) })
            (λ ne.
            u.after k i (record { below = f.below; there = adding_old F j k f.there }) y h
            (adding_other F j i ne ∙ z) same);
      }

  -- And under no other.
  pub once : Node p F S → (j k : ℕ) → Choice p comp F S e t c j → Choice p comp F S e t c k
      → Under p comp (adding F j) (moved S j (e j)) T → Under p comp (adding F k) (moved S k (e k)) T → j ≡ k
  once node j k b d u v =
      by_cases
      (ℕ_discrete j k)
      (λ q. q)
      (λ ne.
      let m : Ahead (T j) j (T k) k = first j k b d ne u in
      let n : Ahead (T k) k (T j) j = first k j d b (λ q. ne (sym q)) v in
      absurd (omega (arith, m.tie (omega arith), n.tie (omega arith))))
    where
      first : (j k : ℕ) → Choice p comp F S e t c j → Choice p comp F S e t c k → j ≢ k
          → Under p comp (adding F j) (moved S j (e j)) T → Ahead (T j) j (T k) k
      first j k b d ne u =
          u.after j k (record { below = b.is_open.has.below; there = adding_new F j })
          (open_free p F S node j b.is_open) d.is_open.has
          (adding_other F j k (λ q. ne (sym q)) ∙ d.is_open.waits) (d.on ∙ sym b.on)
