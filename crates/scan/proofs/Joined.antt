-- What is given for each of some combinations, joined.
use Prim.Native.Nat.{ℕ, zero, suc}
use mathlib.Core.Bool.{Bool, true, false}
use mathlib.Core.List.{List, [], ◌∷◌, ◌++◌, map, map-append, append_assoc}
use mathlib.Core.Path.{◌≡◌, refl, sym, ap, ◌∙◌}
use Rattle.base.specs.Lists.{gather}
use Rattle.scan.specs.Scan.{Diagram, for_each}

abbrev pub joined : (List ℕ → List (List ℕ)) → List (List ℕ) → List (List ℕ)
joined below [] = []
joined below (c ∷ cs) = below c ++ joined below cs

joined_append : (below : List ℕ → List (List ℕ)) (cs ds : List (List ℕ))
    → joined below (cs ++ ds) ≡ joined below cs ++ joined below ds
joined_append below [] ds = refl
joined_append below (c ∷ cs) ds =
    ap (below c ++◌) (joined_append below cs ds) ∙ sym (append_assoc (below c) (joined below cs) (joined below ds))

pub joined_gather : (below : List ℕ → List (List ℕ)) (n : ℕ) (f : ℕ → List (List ℕ))
    → joined below (gather n f) ≡ gather n (λ i. joined below (f i))
unfolding gather
joined_gather below zero f = refl
joined_gather below (suc n) f =
    joined_append below (gather n f) (f n) ∙ ap (◌++ joined below (f n)) (joined_gather below n f)

joined_map : (below : List ℕ → List (List ℕ)) (i : ℕ) (cs : List (List ℕ))
    → joined below (map (i ∷◌) cs) ≡ joined (λ c. below (i ∷ c)) cs
joined_map below i [] = refl
joined_map below i (c ∷ cs) = ap (below (i ∷ c) ++◌) (joined_map below i cs)

pub joined_if : (below : List ℕ → List (List ℕ)) (b : Bool) (i : ℕ) (cs : List (List ℕ))
    → joined below (elim b [ true ↦ map (i ∷◌) cs | false ↦ [] ])
    ≡ elim b [ true ↦ joined (λ c. below (i ∷ c)) cs | false ↦ [] ]
joined_if below true i cs = joined_map below i cs
joined_if below false i cs = refl

pub map_joined : (f : Diagram → List ℕ) (below : List ℕ → List Diagram) (cs : List (List ℕ))
    → map f (for_each below cs) ≡ joined (λ c. map f (below c)) cs
map_joined f below [] = refl
map_joined f below (c ∷ cs) =
    map-append f (below c) (for_each below cs) ∙ ap (map f (below c) ++◌) (map_joined f below cs)
