-- What a machine's ghost fields say is a proposition.
use Rattle.std.proofs.Common.{ℤ, List, [], ◌∷◌}
use Rattle.std.proofs.Math.Bridge.{le_prop}
use Rattle.std.proofs.Math.Dec.{T_prop}
use Rattle.std.specs.List.{AllByRecursion}
use Rattle.tree.specs.Plain.{Declaration, Extent, Given, Later}
use Rattle.machine.specs.Storage.{AreArrays, AreBounds, HasBounds, IsBounded}

AllByRecursion-prop : {X : Type 0} (P : X → Type 0) → ((x : X) → IsProp (P x)) → (xs : List X)
    → IsProp (AllByRecursion P xs)
AllByRecursion-prop P h [] = hlevel []
AllByRecursion-prop P h (x ∷ xs) = let a = h x in let b = AllByRecursion-prop P h xs in hlevel (a, b)

IsBounded-prop : (b : ℤ × ℤ) → IsProp (IsBounded b)
IsBounded-prop b = hlevel T_prop

AreBounds-prop : (bs : List (ℤ × ℤ)) → IsProp (AreBounds bs)
AreBounds-prop bs = let each = AllByRecursion-prop IsBounded IsBounded-prop bs in hlevel (each, le_prop)

HasBounds-prop : (e : Extent) → IsProp (HasBounds e)
HasBounds-prop (Given bs) = AreBounds-prop bs
HasBounds-prop (Later n) = hlevel []

pub AreArrays-prop : (ds : List Declaration) → IsProp (AreArrays ds)
AreArrays-prop ds = AllByRecursion-prop (λ (d : Declaration). HasBounds d.extent) (λ d. HasBounds-prop d.extent) ds
