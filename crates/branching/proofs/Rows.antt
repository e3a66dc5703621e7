-- The rows of the active schedules of some kind, each once. Under a node, they are one row where all is frozen, and
-- the rows of its branches joined elsewhere; under the root, they are the sessions of the project in some order.
use Prim.Native.Nat.{ℕ, ◌<◌}
use native.Mathlib.Decide.{ℕ_discrete}
use native.Mathlib.Omega.{arith}
use mathlib.Core.Bool.{Bool, true, false, not, ◌&&◌, ◌||◌}
use mathlib.Core.Path.{◌≡◌, refl, sym, ap, ◌∙◌}
use mathlib.Core.Logic.{∥∥₁_map, by_cases}
use mathlib.Core.List.Memᴰ
use mathlib.Core.List.{List, [], ◌∷◌, Memᴰ, Nodup-nil}
use mathlib.Core.List.{Perm, perm_ext_iff_of_Nodup}
use mathlib.Mathlib.Data.List.Nodup as nodup
use lib.Dec.{ltb, eqb}
use borrow.Author.Tests.{eqb-true, eq-eqb, not-true}
use Rattle.schedule.specs.Project.{Project}
use Rattle.schedule.specs.Schedule.{Starts, moved}
use Rattle.schedule.specs.Sessions.{starts_of, sessions}
use Rattle.base.specs.Below.{every_below, ◌implies◌}
use Rattle.base.specs.Lists.{keep, gather}
use Rattle.base.proofs.Bools.{true_not_false, both, and_left, and_right}
use Rattle.base.proofs.Below.{every_at, every_of, implies_elim, implies_intro}
use Rattle.base.proofs.Lists.{keep_is, keep_mem, keep_pairwise, gather_is, gather_mem, gather_nodup}
use Rattle.base.proofs.Order.{ordered_nodup}
use Rattle.schedule.proofs.Load.{Has, Sound, among}
use Rattle.schedule.proofs.Reflect.{Feasible, Active}
use Rattle.schedule.proofs.Box.{SessionRow, session_is, session_mem, session_ext, sessions_ordered, sessions_nodup}
use Rattle.schedule.proofs.Box.{row_of, row_of_agrees, row_of_session}
use Rattle.branching.proofs.Room.{Frozen, Open, Soonest, adding, adding_old, adding_other, not_added, by_added}
use Rattle.branching.proofs.Node.{Node, begun_of, leaf_active}
use Rattle.branching.proofs.Under.{Components, Ahead, Under, LeastEnd, Choice, root_under, child_under, once}
use Rattle.branching.proofs.Under.{agree_child, child_agree, ahead_is, ahead_of}
use Rattle.branching.proofs.Chosen.{chosen, alone_starts}
pub use Rattle.branching.specs.Rows.{Rows}

-- Two kinds that are one for active schedules.
pub rows_same : (p : Project) (mark : ℕ) (kind kind' : Starts → Type 0) (rows : List (List ℕ))
    → ((T : Starts) → Active p T → kind T → kind' T) → ((T : Starts) → Active p T → kind' T → kind T)
    → Rows p mark kind rows → Rows p mark kind' rows
rows_same p mark kind kind' rows to from l =
    record {
      session = l.session;
      is_kind = λ row m. to (starts_of row) (l.session row m).is_active (l.is_kind row m);
      reached = λ row s k. l.reached row s (from (starts_of row) s.is_active k);
      apart = l.apart;
    }

-- The lists of the numbers below n joined, where only a number that branches has rows and has those of its kind.
pub record Joined (p : Project) (mark : ℕ) (branches : ℕ → Type 0) (kind : ℕ → Starts → Type 0) (n : ℕ)
    (below : ℕ → List (List ℕ)) : Type 0 where
  pub inside : (j : ℕ) → branches j → j < n
  pub each : (j : ℕ) → branches j → Rows p mark (kind j) (below j)
  pub other : (j : ℕ) (row : List ℕ) → Memᴰ row (below j) → branches j

by_list {ℓ κ} : {A : Type ℓ} {C : Type κ} (l : List A) → (l ≡ [] → C) → ((x : A) → Memᴰ x l → C) → C
by_list [] none some = none refl
by_list (x ∷ xs) none some = some x (Memᴰ.head refl)

-- All active schedules are of the kind.
pub rows_perm : (p : Project) (mark : ℕ) (kind : Starts → Type 0) (rows : List (List ℕ)) → Sound p
    → ((T : Starts) → Active p T → kind T) → Rows p mark kind rows → Perm rows (sessions p mark)
rows_perm p mark kind rows sound every l =
    (perm_ext_iff_of_Nodup l.apart (sessions_nodup p mark)).1
    (λ row. (
      λ m. ∥∥₁_map m (λ k. session_mem p mark row sound (l.session row k)),
      λ m.
          ∥∥₁_map m
          (λ k.
          let s : SessionRow p mark row = session_is p mark row k in
          l.reached row s (every (starts_of row) s.is_active)),
    ))

-- Under a node that has all frozen.
pub leaf_rows : (p : Project) (comp : ℕ → ℕ) (mark : ℕ) (F : ℕ → Bool) (S : Starts) → Node p F S
    → ((i : ℕ) → Has p i → F i ≡ true) → Rows p mark (Under p comp F S) (row_of p mark S ∷ [])
leaf_rows p comp mark F S node all =
    let this : List ℕ = row_of p mark S in
    let s : SessionRow p mark this = row_of_session p mark S (leaf_active p F S node all) in
    let u : Under p comp F S (starts_of this) =
    record {
      agrees =
          λ i f.
          row_of_agrees p mark S i (record { below = f.below; there = node.inside i f.below f.there });
      after = λ k i f y h z e. true_not_false (all i h) z;
    }
    in
    record {
      session = λ row m. rw (Memᴰ.eq_of_singleton m) s;
      is_kind = λ row m. rw (Memᴰ.eq_of_singleton m) u;
      reached =
          λ row s' u'.
          Memᴰ.head (
          session_ext p mark row this s' s
          (λ i h.
          sym (u'.agrees i (record { below = h.below; there = all i h })) ∙ row_of_agrees p mark S i h)
          );
      apart = nodup.Nodup-singleton this;
    }

-- Under any other.
module _ (p : Project) (comp : ℕ → ℕ) (mark : ℕ) (F : ℕ → Bool) (S : Starts) (sound : Sound p)
    (joint : Components p comp) (node : Node p F S)
    (e : ℕ → ℕ) (soon : (i : ℕ) → Open p F i → Soonest p F S i (e i)) (t c : ℕ) (tick : LeastEnd p comp F e t c)
    (n : ℕ) (below : ℕ → List (List ℕ))
    (all : Joined p mark (Choice p comp F S e t c) (λ j. Under p comp (adding F j) (moved S j (e j))) n below) where
  below_under : (j : ℕ) (row : List ℕ) → Memᴰ row (below j)
      → Under p comp (adding F j) (moved S j (e j)) (starts_of row)
  below_under j row m = (all.each j (all.other j row m)).is_kind row m

  pub branch_rows : Rows p mark (Under p comp F S) (gather n below)
  branch_rows =
      record {
        session = λ row m. let (j, l, k) = gather_is n below m in (all.each j (all.other j row k)).session row k;
        is_kind =
            λ row m.
            let (j, l, k) = gather_is n below m in
            child_under p comp F S e t c (starts_of row) j (all.other j row k) (below_under j row k);
        reached =
            λ row s u.
            let (j, b, v) =
            chosen p comp sound joint F S node (starts_of row) s.is_active u e soon t c tick in
            gather_mem n below j (all.inside j b) ((all.each j b).reached row s v);
        apart =
            gather_nodup n below
            (λ j l. by_list (below j) (λ x. rw x Nodup-nil) (λ row m. (all.each j (all.other j row m)).apart))
            (λ j k row mj mk.
            once p comp F S e t c (starts_of row) node j k (all.other j row mj) (all.other k row mk)
            (below_under j row mj) (below_under k row mk));
      }

-- Under any node there are some: those of the sessions that pass its tests.
module _ (p : Project) (comp : ℕ → ℕ) (F : ℕ → Bool) (S : Starts) where
  abbrev is_other : ℕ → ℕ → Bool
  is_other k i = F k && p.free k && (p.present i && not (F i)) && eqb (comp i) (comp k)

  abbrev is_after : Starts → ℕ → ℕ → Bool
  is_after T k i = ltb (T k) (T i) || (eqb (T k) (T i) && ltb k i)

  abbrev agrees_at : Starts → ℕ → Bool
  agrees_at T i = F i implies eqb (S i) (T i)

  abbrev behind_all : Starts → ℕ → Bool
  behind_all T k = every_below p.size (λ i. is_other k i implies is_after T k i)

  abbrev is_under : Starts → Bool
  is_under T = every_below p.size (agrees_at T) && every_below p.size (behind_all T)

  under_is : (T : Starts) → is_under T ≡ true → Under p comp F S T
  under_is T y =
      let first = and_left (every_below p.size (agrees_at T)) (every_below p.size (behind_all T)) y in
      let then = and_right (every_below p.size (agrees_at T)) (every_below p.size (behind_all T)) y in
      record {
        agrees =
            λ i f.
            eqb-true (S i) (T i)
            (implies_elim (F i) (eqb (S i) (T i)) (every_at p.size (agrees_at T) first i f.below) f.there);
        after =
            λ k i f free h z same.
            ahead_is (T k) k (T i) i
            (implies_elim (is_other k i) (is_after T k i)
            (every_at p.size (λ m. is_other k m implies is_after T k m)
            (every_at p.size (behind_all T) then k f.below) i h.below)
            (both (both (both f.there free) (both h.there (ap not z))) (eq-eqb (comp i) (comp k) same)));
      }

  under_of : (T : Starts) → Under p comp F S T → is_under T ≡ true
  under_of T u =
      both
      (every_of p.size (agrees_at T)
      (λ i l.
      implies_intro (F i) (eqb (S i) (T i))
      (λ y. eq-eqb (S i) (T i) (u.agrees i (record { below = l; there = y })))))
      (every_of p.size (behind_all T)
      (λ k lk.
      every_of p.size (λ i. is_other k i implies is_after T k i)
      (λ i li.
      implies_intro (is_other k i) (is_after T k i)
      (λ y.
      let three = and_left (F k && p.free k && (p.present i && not (F i))) (eqb (comp i) (comp k)) y in
      let two = and_left (F k && p.free k) (p.present i && not (F i)) three in
      let left = and_right (F k && p.free k) (p.present i && not (F i)) three in
      ahead_of (T k) k (T i) i
      (u.after k i (record { below = lk; there = and_left (F k) (p.free k) two }) (and_right (F k) (p.free k) two)
      (record { below = li; there = and_left (p.present i) (not (F i)) left })
      (not-true (F i) (and_right (p.present i) (not (F i)) left))
      (eqb-true (comp i) (comp k)
      (and_right (F k && p.free k && (p.present i && not (F i))) (eqb (comp i) (comp k)) y)))))))

  pub some_rows : (mark : ℕ) → Sound p → (rows : List (List ℕ)) × Rows p mark (Under p comp F S) rows
  some_rows mark sound =
      let test : List ℕ → Bool = λ row. is_under (starts_of row) in (
        keep test (sessions p mark),
        record {
          session = λ row m. session_is p mark row (keep_is test (sessions p mark) m).0;
          is_kind = λ row m. under_is (starts_of row) (keep_is test (sessions p mark) m).1;
          reached =
              λ row s u.
              keep_mem test (sessions p mark) (session_mem p mark row sound s) (under_of (starts_of row) u);
          apart =
              ordered_nodup (keep test (sessions p mark))
              (keep_pairwise test (sessions p mark) (sessions_ordered p mark));
        },
      )

-- One that is alone in its component, and comes after all of it that is frozen, may be frozen at its earliest at any
-- time.
module _ (p : Project) (comp : ℕ → ℕ) (mark : ℕ) (F : ℕ → Bool) (S : Starts) (sound : Sound p)
    (joint : Components p comp) (node : Node p F S) (i e : ℕ) (is_open : Open p F i) (soon : Soonest p F S i e)
    (alone : (k : ℕ) → Has p k → F k ≡ false → comp k ≡ comp i → k ≡ i)
    (last : (k : ℕ) → Frozen p F k → p.free k ≡ true → comp k ≡ comp i → Ahead (S k) k e i) where
  alone_up : (T : Starts) → Under p comp (adding F i) (moved S i e) T → Under p comp F S T
  alone_up T u =
      let (a, at) = child_agree p F S i e is_open T u.agrees in
      record {
        agrees = a;
        after =
            λ k m f y h z same.
            by_cases (ℕ_discrete m i)
            (λ q.
            let x : Ahead (S k) k e i = last k f y (sym same ∙ ap comp q) in
            let tm : T m ≡ e = ap T q ∙ at in
            record {
              low = omega (arith, x.low, tm, a k f);
              tie = λ w. omega (arith, q, x.tie (omega (arith, w, tm, a k f)));
            })
            (λ ne.
            u.after k m (record { below = f.below; there = adding_old F i k f.there }) y h
            (adding_other F i m ne ∙ z) same);
      }

  alone_down : (T : Starts) → Active p T → Under p comp F S T → Under p comp (adding F i) (moved S i e) T
  alone_down T act u =
      record {
        agrees =
            agree_child p F S i e is_open T u.agrees
            (alone_starts p comp sound joint F S node T act u i e is_open soon alone);
        after =
            λ k m f y h z same.
            let (ne, old) = not_added F i m z in
            by_added p F i k f (λ q. absurd (ne (alone m h old (same ∙ ap comp q))))
            (λ nk g. u.after k m g y h old same);
      }

  pub alone_rows : (rows : List (List ℕ)) → Rows p mark (Under p comp (adding F i) (moved S i e)) rows
      → Rows p mark (Under p comp F S) rows
  alone_rows rows =
      rows_same p mark (Under p comp (adding F i) (moved S i e)) (Under p comp F S) rows (λ T _ u. alone_up T u)
      alone_down

pub root_rows : (p : Project) (comp : ℕ → ℕ) (mark : ℕ) (S : Starts) (rows : List (List ℕ)) → Sound p
    → Feasible (among p (begun_of p)) S → Rows p mark (Under p comp (begun_of p) S) rows → Perm rows (sessions p mark)
root_rows p comp mark S rows sound f =
    rows_perm p mark (Under p comp (begun_of p) S) rows sound
    (λ T act. root_under p comp S T f act.is_feasible)
