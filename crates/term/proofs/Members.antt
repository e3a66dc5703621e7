-- Membership in pairings, joins and maps of lists.
use mathlib.Core.List.Memᴰ
use mathlib.Core.List.{List, [], ◌∷◌, ◌++◌, map, Memᴰ}
use mathlib.Core.Logic.{◌⊎◌, inl, inr, ⊎_elim}
use mathlib.Core.Path.{◌≡◌, refl, sym, ap}
use Rattle.term.specs.Term.{Term, Forest, cons}
use Rattle.term.specs.Variants.{paired}

pub paired_mem : {t : Term} {f : Forest} {ts : List Term} {fs : List Forest} → Memᴰ t ts → Memᴰ f fs
    → Memᴰ (cons t f) (paired ts fs)
unfolding paired
paired_mem {ts = []} m n = elim m [ ]
paired_mem {t} {f} {ts = x ∷ xs} {fs} (Memᴰ.head e) n =
    Memᴰ.append_left (paired xs fs) (Memᴰ.cast (ap (λ (u : Term). cons u f) e) (Memᴰ.map (cons x) n))
paired_mem {t} {f} {ts = x ∷ xs} {fs} (Memᴰ.tail m) n = Memᴰ.append_right (map (cons x) fs) (paired_mem m n)

pub paired_cases : {g : Forest} (ts : List Term) (fs : List Forest) → Memᴰ g (paired ts fs)
    → (t : Term) × (f : Forest) × Memᴰ t ts × Memᴰ f fs × (cons t f ≡ g)
unfolding paired
paired_cases [] fs m = absurd (Memᴰ.not-nil m)
paired_cases {g} (x ∷ xs) fs m = go (λ n. paired_cases xs fs n) (Memᴰ.append_cases (map (cons x) fs) m)
  where
    go : (Memᴰ g (paired xs fs) → (t : Term) × (f : Forest) × Memᴰ t xs × Memᴰ f fs × (cons t f ≡ g))
        → Memᴰ g (map (cons x) fs) ⊎ Memᴰ g (paired xs fs)
        → (t : Term) × (f : Forest) × Memᴰ t (x ∷ xs) × Memᴰ f fs × (cons t f ≡ g)
    go below (inl n) = let (f, k, e) = Memᴰ.of_map (cons x) fs n in (x, f, Memᴰ.head refl, k, e)
    go below (inr n) = let (t, f, k, l, e) = below n in (t, f, Memᴰ.tail k, l, e)

-- Where each list has what another has, so have their pairings and their joins.
pub paired_mono : {h : Forest} (ts us : List Term) (fs gs : List Forest)
    → ((t : Term) → Memᴰ t ts → Memᴰ t us)
    → ((f : Forest) → Memᴰ f fs → Memᴰ f gs) → Memᴰ h (paired ts fs) → Memᴰ h (paired us gs)
paired_mono ts us fs gs p q m =
    let (t, f, k, l, e) = paired_cases ts fs m in Memᴰ.cast (sym e) (paired_mem (p t k) (q f l))

pub append_mono {ℓ} : {A : Type ℓ} {x : A} (xs ys us vs : List A) → (Memᴰ x xs → Memᴰ x us)
    → (Memᴰ x ys → Memᴰ x vs)
    → Memᴰ x (xs ++ ys) → Memᴰ x (us ++ vs)
append_mono xs ys us vs p q m =
    ⊎_elim (λ n. Memᴰ.append_left vs (p n)) (λ n. Memᴰ.append_right us (q n)) (Memᴰ.append_cases xs m)

pub map_mono {ℓ κ} : {A : Type ℓ} {B : Type κ} (f : A → B) {y : B} (xs us : List A)
    → ((x : A) → Memᴰ x xs → Memᴰ x us)
    → Memᴰ y (map f xs) → Memᴰ y (map f us)
map_mono f xs us p m = let (x, n, e) = Memᴰ.of_map f xs m in Memᴰ.cast (sym e) (Memᴰ.map f (p x n))
