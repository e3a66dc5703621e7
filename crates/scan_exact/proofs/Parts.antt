-- Conflict combinations of some of the components: how two of them join, and that selecting in one component leaves the
-- conflicts of the others as they are.
use Prim.Native.Nat.{ℕ, zero, suc, ◌+◌, ◌-◌, ◌≤◌, ◌<◌}
use native.Mathlib.Decide.{ℕ_discrete}
use native.Mathlib.Omega.{arith}
use mathlib.Core.Bool.{Bool, true, false, not, ◌&&◌, and-false}
use mathlib.Core.List.Memᴰ
use mathlib.Core.List.{List, [], ◌∷◌, ◌++◌, append-nil, map, foldl, Memᴰ}
use mathlib.Core.Logic.{◌≢◌, by_cases}
use mathlib.Core.Path.{◌≡◌, refl, sym, ap, ◌∙◌, subst}
use lib.Dec.{eqb, ltb}
use borrow.Author.Tests.{eqb-true, ne_eqb}
use Rattle.base.specs.Below.{◌implies◌}
use Rattle.base.specs.Lists.{gather}
use Rattle.base.proofs.Bools.{by_bool, and_left, and_right, cond_false, elim_true, elim_false}
use Rattle.base.proofs.Below.{every_same}
use Rattle.base.proofs.Lists.{gather_is, gather_mem}
use Rattle.schedule.specs.Project.{Project}
use Rattle.branching.proofs.Room.{adding_other}
use Rattle.scan.specs.Scan.{Diagram}
use Rattle.scan.specs.Scan.{is_loose, next_fit, is_contested, is_ahead, is_next, in_conflict, combinations_from}
use Rattle.scan.specs.Scan.{freeze, shift, select}

module _ (p : Project) (comp : ℕ → ℕ) where
  -- Selecting j, and what is of another component.
  module _ (d : Diagram) (j : ℕ) where
    abbrev e : Diagram
    e = select p comp d j

    frozen_apart : (i : ℕ) → comp i ≢ comp j → e.frozen i ≡ d.frozen i
    unfolding freeze shift
    frozen_apart i off = adding_other d.frozen j i (λ z. off (ap comp z))

    starts_apart : (i : ℕ) → comp i ≢ comp j → e.starts i ≡ d.starts i
    unfolding freeze shift
    starts_apart i off =
        cond_false (next_fit p comp (freeze p comp d j) i (d.starts i)) (d.starts i)
        (ap (λ (x : Bool). is_loose p comp (freeze p comp d j) i && x) (ne_eqb (comp i) (comp j) off)
        ∙ and-false (is_loose p comp (freeze p comp d j) i))

    abbrev follows : Diagram → ℕ → ℕ → Bool
    follows x i k =
        (x.frozen k && p.free k && eqb (comp k) (comp i)) implies is_ahead p comp (x.starts k) k (x.starts i) i

    unrelated : (x : Diagram) (i k : ℕ) → comp k ≢ comp i → follows x i k ≡ true
    unrelated x i k ne = rw (ne_eqb (comp k) (comp i) ne, and-false (x.frozen k && p.free k))

    next_apart : (i : ℕ) → comp i ≢ comp j → is_next p comp e i ≡ is_next p comp d i
    next_apart i off =
        every_same p.size (follows e i) (follows d i)
        (λ k l.
        by_cases (ℕ_discrete (comp k) (comp i))
        (λ same.
        let off_k : comp k ≢ comp j = λ z. off (sym same ∙ z) in
        λ y.
        (frozen_apart k off_k y && p.free k && eqb (comp k) (comp i))
        implies is_ahead p comp (starts_apart k off_k y) k (starts_apart i off y) i)
        (λ ne. unrelated e i k ne ∙ sym (unrelated d i k ne)))

    elsewhere : (x : Diagram) (c i : ℕ) → comp i ≢ c → in_conflict p comp x c i ≡ false
    elsewhere x c i ne = rw (ne_eqb (comp i) c ne, and-false (is_loose p comp x i))

    conflict_apart : (c i : ℕ) → comp j ≢ c → in_conflict p comp e c i ≡ in_conflict p comp d c i
    unfolding freeze shift
    conflict_apart c i off =
        by_cases (ℕ_discrete (comp i) c)
        (λ on.
        let off_i : comp i ≢ comp j = λ z. off (sym z ∙ on) in
        λ y.
        d.placed i && not (frozen_apart i off_i y) && eqb (comp i) c && ltb (starts_apart i off_i y) d.tick
        && next_apart i off_i y)
        (λ ne. elsewhere e c i ne ∙ sym (elsewhere d c i ne))

  -- The combinations of n components from c on.
  module _ (d : Diagram) where
    abbrev pub Part : List ℕ → ℕ → ℕ → Type 0
    Part l c n = Memᴰ l (combinations_from p comp d c n)

    abbrev rest : ℕ → ℕ → ℕ → List (List ℕ)
    rest c n i = elim (in_conflict p comp d c i) [ true ↦ map (i ∷◌) (combinations_from p comp d (suc c) n) | false ↦ [] ]

    at_contested : (c n : ℕ) → is_contested p comp d c ≡ true
        → combinations_from p comp d c (suc n) ≡ gather p.size (rest c n)
    unfolding combinations_from
    at_contested c n y =
        elim_true (is_contested p comp d c) (gather p.size (rest c n)) (combinations_from p comp d (suc c) n) y

    at_other : (c n : ℕ) → is_contested p comp d c ≡ false
        → combinations_from p comp d c (suc n) ≡ combinations_from p comp d (suc c) n
    unfolding combinations_from
    at_other c n z =
        elim_false (is_contested p comp d c) (gather p.size (rest c n)) (combinations_from p comp d (suc c) n) z

    part_cons : (c n i : ℕ) (l : List ℕ) → is_contested p comp d c ≡ true → i < p.size → in_conflict p comp d c i ≡ true
        → Part l (suc c) n
        → Part (i ∷ l) c (suc n)
    part_cons c n i l y b x m =
        subst (Memᴰ (i ∷ l)) (sym (at_contested c n y))
        (gather_mem p.size (rest c n) i b
        (subst (Memᴰ (i ∷ l))
        (sym (elim_true (in_conflict p comp d c i) (map (i ∷◌) (combinations_from p comp d (suc c) n)) [] x))
        (Memᴰ.map (i ∷◌) m)))

    -- It begins with a conflict activity of the first component, if that is contested.
    record Begins (c n : ℕ) (l : List ℕ) : Type 0 where
      first : ℕ
      below : first < p.size
      conflict : in_conflict p comp d c first ≡ true
      others : List ℕ
      part : Part others (suc c) n
      all : first ∷ others ≡ l

    pub conflict_is : (c i : ℕ) → in_conflict p comp d c i ≡ true → (is_loose p comp d i ≡ true) × (comp i ≡ c)
    conflict_is c i y =
        let early : Bool = ltb (d.starts i) d.tick in
        let two : (is_loose p comp d i && eqb (comp i) c) ≡ true =
        and_left (is_loose p comp d i && eqb (comp i) c) early
        (and_left (is_loose p comp d i && eqb (comp i) c && early) (is_next p comp d i) y) in (
          and_left (is_loose p comp d i) (eqb (comp i) c) two,
          eqb-true (comp i) c (and_right (is_loose p comp d i) (eqb (comp i) c) two),
        )

    part_begins : (c n : ℕ) (l : List ℕ) → is_contested p comp d c ≡ true → Part l c (suc n) → Begins c n l
    part_begins c n l y m =
        let more : List (List ℕ) = combinations_from p comp d (suc c) n in
        let (i, b, k) = gather_is p.size (rest c n) (subst (Memᴰ l) (at_contested c n y) m) in
        by_bool (in_conflict p comp d c i)
        (λ x.
        let (l', m', e) = Memᴰ.of_map (i ∷◌) more
        (subst (Memᴰ l) (elim_true (in_conflict p comp d c i) (map (i ∷◌) more) [] x) k) in
        record { first = i; below = b; conflict = x; others = l'; part = m'; all = e })
        (λ z.
        absurd
        (Memᴰ.not-nil
        (subst (Memᴰ l) (elim_false (in_conflict p comp d c i) (map (i ∷◌) more) [] z) k)))

    pub part_empty : (n c : ℕ) → ((b : ℕ) → c ≤ b → b < c + n → is_contested p comp d b ≡ false) → Part [] c n
    unfolding combinations_from
    part_empty zero c none = Memᴰ.head refl
    part_empty (suc n) c none =
        subst (Memᴰ []) (sym (at_other c n (none c (omega arith) (omega arith))))
        (part_empty n (suc c) (λ b from to. none b (omega (arith, from)) (omega (arith, to))))

    -- One of the components from c on, and one of those after them.
    part_join : (n c k e t : ℕ) (l m : List ℕ) → c + n ≡ e → n + k ≡ t → Part l c n → Part m e k → Part (l ++ m) c t
    unfolding combinations_from
    part_join zero c k e t l m at all a b =
        let none : l ≡ [] = Memᴰ.eq_of_singleton a in
        let here : e ≡ c = omega (arith, at) in
        let long : t ≡ k = omega (arith, all) in
        rw (none, long) (rw here at b)
    part_join (suc n) c k e t l m at all a b =
        let long : t ≡ suc (n + k) = omega (arith, all) in
        let more : (l' : List ℕ) → Part l' (suc c) n → Part (l' ++ m) (suc c) (n + k) =
        λ l' a'. part_join n (suc c) k e (n + k) l' m (omega (arith, at)) refl a' b in
        rw long
        (by_bool (is_contested p comp d c)
        (λ y.
        let s = part_begins c n l y a in
        rw (sym s.all)
        (part_cons c (n + k) s.first (s.others ++ m) y s.below s.conflict (more s.others s.part)))
        (λ z.
        subst (Memᴰ (l ++ m)) (sym (at_other c (n + k) z)) (more l (subst (Memᴰ l) (at_other c n z) a))))

    -- It is one of more components, where those are not contested, and with a conflict activity of the next.
    pub part_extend : (c n : ℕ) (l : List ℕ) → c ≤ n
        → ((b : ℕ) → c ≤ b → b < n → is_contested p comp d b ≡ false)
        → Part l 0 c
        → Part l 0 n
    part_extend c n l low none a =
        subst (λ (k : List ℕ). Part k 0 n) (append-nil l)
        (part_join c 0 (n - c) c n l [] (omega arith) (omega (arith, low)) a
        (part_empty (n - c) c (λ b from to. none b from (omega (arith, to)))))

    pub part_snoc : (c j : ℕ) (l : List ℕ) → is_contested p comp d c ≡ true → j < p.size
        → in_conflict p comp d c j ≡ true
        → Part l 0 c
        → Part (l ++ (j ∷ [])) 0 (suc c)
    unfolding combinations_from
    part_snoc c j l y b x a =
        part_join c 0 1 c (suc c) l (j ∷ []) (omega arith) (omega arith) a
        (part_cons c 0 j [] y b x (Memᴰ.head refl))

    -- Resolving by it leaves the conflicts of later components as they are.
    pub part_apart : (n c b i : ℕ) (l : List ℕ) (x : Diagram) → c + n ≤ b → Part l c n
        → in_conflict p comp (foldl (select p comp) x l) b i ≡ in_conflict p comp x b i
    unfolding combinations_from
    part_apart zero c b i l x after a =
        let none : l ≡ [] = Memᴰ.eq_of_singleton a in
        ap (λ (k : List ℕ). in_conflict p comp (foldl (select p comp) x k) b i) none
    part_apart (suc n) c b i l x after a =
        by_bool (is_contested p comp d c)
        (λ y.
        let s = part_begins c n l y a in
        let (_, on) = conflict_is c s.first s.conflict in
        ap (λ (k : List ℕ). in_conflict p comp (foldl (select p comp) x k) b i) (sym s.all)
        ∙ part_apart n (suc c) b i s.others (select p comp x s.first) (omega (arith, after)) s.part
        ∙ conflict_apart x s.first b i (λ z. omega (arith, after, on, z)))
        (λ z.
        part_apart n (suc c) b i l x (omega (arith, after)) (subst (Memᴰ l) (at_other c n z) a))
