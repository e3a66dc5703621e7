-- Two projects that agree below their size and their number of resources have the same schedules: the same latest
-- ends, the same active ones and the same list of them.
use Prim.Native.Nat.{ℕ, zero, suc, ◌+◌, ◌≤◌, ◌<◌}
use native.Mathlib.Omega.{arith}
use mathlib.Core.Bool.{Bool, not, cond, ◌&&◌}
use mathlib.Core.List.{◌∷◌, map}
use mathlib.Core.Path.{◌≡◌, refl, ap, ap₂, ◌∙◌}
use lib.Dec.{leb, ltb, eqb}
use Rattle.base.specs.Below.{every_below, sum_below, max_below, ◌implies◌}
use Rattle.base.specs.Lists.{keep, gather}
use Rattle.base.proofs.Below.{every_same, sum_eq, max_eq}
use Rattle.base.proofs.Lists.{keep_same}
use Rattle.schedule.specs.Project.{Project}
use Rattle.schedule.specs.Schedule.{Starts, end_of, load, latest_end, placed, in_order, within_capacity}
use Rattle.schedule.specs.Schedule.{feasible, moved, active}
use Rattle.schedule.specs.Sessions.{wait, horizon, rows, starts_of, sessions}
use Rattle.schedule.proofs.Load.{holds}

pub record Alike (p q : Project) : Type 0 where
  pub size : p.size ≡ q.size
  pub resources : p.resources ≡ q.resources
  pub floor : p.floor ≡ q.floor
  pub present : (i : ℕ) → i < p.size → p.present i ≡ q.present i
  pub duration : (i : ℕ) → i < p.size → p.duration i ≡ q.duration i
  pub free : (i : ℕ) → i < p.size → p.free i ≡ q.free i
  pub begun : (i : ℕ) → i < p.size → p.begun i ≡ q.begun i
  pub precedes : (i j : ℕ) → i < p.size → j < p.size → p.precedes i j ≡ q.precedes i j
  pub gap : (i j : ℕ) → i < p.size → j < p.size → p.gap i j ≡ q.gap i j
  pub units : (i r : ℕ) → i < p.size → r < p.resources → p.units i r ≡ q.units i r
  pub capacity : (r : ℕ) → r < p.resources → p.capacity r ≡ q.capacity r

module _ (p q : Project) (a : Alike p q) where
  -- Tests, sums and maxima over the activities, term by term.
  every_alike : (f g : ℕ → Bool) → ((i : ℕ) → i < p.size → f i ≡ g i) → every_below p.size f ≡ every_below q.size g
  every_alike f g e = every_same p.size f g e ∙ ap (λ (n : ℕ). every_below n g) a.size

  sum_alike : (f g : ℕ → ℕ) → ((i : ℕ) → i < p.size → f i ≡ g i) → sum_below p.size f ≡ sum_below q.size g
  sum_alike f g e = sum_eq p.size f g e ∙ ap (λ (n : ℕ). sum_below n g) a.size

  max_alike : (f g : ℕ → ℕ) → ((i : ℕ) → i < p.size → f i ≡ g i) → max_below p.size f ≡ max_below q.size g
  max_alike f g e = max_eq p.size f g e ∙ ap (λ (n : ℕ). max_below n g) a.size

  module _ (S : Starts) where
    pub latest_alike : latest_end p S ≡ latest_end q S
    unfolding latest_end
    latest_alike =
        max_alike (λ i. cond (p.present i) (end_of p S i) 0) (λ i. cond (q.present i) (end_of q S i) 0)
        (λ i b x. cond (a.present i b x) (S i + a.duration i b x) 0)

    load_alike : (t r : ℕ) → r < p.resources → load p S t r ≡ load q S t r
    unfolding load
    load_alike t r l =
        sum_alike (holds p S t r) (holds q S t r)
        (λ i b x. cond (a.present i b x && leb (S i) t && ltb t (S i + a.duration i b x)) (a.units i r b l x) 0)

    placed_alike : placed p S ≡ placed q S
    unfolding placed
    placed_alike =
        every_alike
        (λ i. p.present i implies cond (p.free i) (leb p.floor (S i)) (eqb (S i) (p.begun i)))
        (λ i. q.present i implies cond (q.free i) (leb q.floor (S i)) (eqb (S i) (q.begun i)))
        (λ i b x.
        a.present i b x implies cond (a.free i b x) (leb (a.floor x) (S i)) (eqb (S i) (a.begun i b x)))

    abbrev order : Project → ℕ → ℕ → Bool
    order o j i = (o.present i && o.present j && o.precedes i j) implies leb (end_of o S i + o.gap i j) (S j)

    order_alike : in_order p S ≡ in_order q S
    unfolding in_order
    order_alike =
        every_alike (λ j. every_below p.size (order p j)) (λ j. every_below q.size (order q j))
        (λ j c.
        every_alike (order p j) (order q j)
        (λ i b x.
        (a.present i b x && a.present j c x && a.precedes i j b c x) implies
        leb (S i + a.duration i b x + a.gap i j b c x) (S j)))

    abbrev fits : Project → ℕ → ℕ → Bool
    fits o t r = leb (load o S t r) (o.capacity r)

    within_alike : within_capacity p S ≡ within_capacity q S
    unfolding within_capacity
    within_alike =
        every_same (latest_end p S) (λ t. every_below p.resources (fits p t))
        (λ t. every_below q.resources (fits q t))
        (λ t b.
        every_same p.resources (fits p t) (fits q t) (λ r l. ap₂ leb (load_alike t r l) (a.capacity r l))
        ∙ ap (λ (n : ℕ). every_below n (fits q t)) a.resources)
        ∙ ap (λ (n : ℕ). every_below n (λ t. every_below q.resources (fits q t))) latest_alike

    pub feasible_alike : feasible p S ≡ feasible q S
    unfolding feasible
    feasible_alike = λ x. placed_alike x && order_alike x && within_alike x

  abbrev least : Project → Starts → ℕ → Bool
  least o S j = (o.present j && o.free j) implies every_below (S j) λ t. not (feasible o (moved S j t))

  pub active_alike : (S : Starts) → active p S ≡ active q S
  unfolding active
  active_alike S =
      ap₂ ◌&&◌ (feasible_alike S)
      (every_alike (least p S) (least q S)
      (λ j b.
      let same : every_below (S j) (λ t. not (feasible p (moved S j t)))
      ≡ every_below (S j) (λ t. not (feasible q (moved S j t))) =
      every_same (S j) (λ t. not (feasible p (moved S j t))) (λ t. not (feasible q (moved S j t)))
      (λ t l. ap not (feasible_alike (moved S j t))) in
      λ x. (a.present j b x && a.free j b x) implies same x))

  wait_alike : (j : ℕ) → j < p.size → wait p j ≡ wait q j
  unfolding wait
  wait_alike j c =
      max_alike (λ i. cond (p.present i && p.precedes i j) (p.gap i j) 0)
      (λ i. cond (q.present i && q.precedes i j) (q.gap i j) 0)
      (λ i b x. cond (a.present i b x && a.precedes i j b c x) (a.gap i j b c x) 0)

  horizon_alike : horizon p ≡ horizon q
  unfolding horizon
  horizon_alike =
      ap₂ ◌+◌ a.floor
      (sum_alike
      (λ i. cond (p.present i) (p.duration i + wait p i + cond (p.free i) 0 (p.begun i)) 0)
      (λ i. cond (q.present i) (q.duration i + wait q i + cond (q.free i) 0 (q.begun i)) 0)
      (λ i b x.
      cond (a.present i b x)
      (a.duration i b x + wait_alike i b x + cond (a.free i b x) 0 (a.begun i b x)) 0))

  rows_alike : (mark k n : ℕ) → k + n ≤ p.size → rows p mark k n ≡ rows q mark k n
  unfolding rows
  rows_alike mark k zero l = refl
  rows_alike mark k (suc n) l =
      let rest : rows p mark (suc k) n ≡ rows q mark (suc k) n = rows_alike mark (suc k) n (omega arith) in
      λ x.
      cond (a.present k (omega arith) x) (gather (horizon_alike x) λ t. map (t ∷◌) (rest x))
      (map (mark ∷◌) (rest x))

  pub sessions_alike : (mark : ℕ) → sessions p mark ≡ sessions q mark
  unfolding sessions
  sessions_alike mark =
      keep_same (λ row. active p (starts_of row)) (λ row. active q (starts_of row)) (rows p mark 0 p.size)
      (λ row m. active_alike (starts_of row))
      ∙ ap (keep (λ row. active q (starts_of row)))
      (rows_alike mark 0 p.size (omega arith) ∙ ap (rows q mark 0) a.size)
