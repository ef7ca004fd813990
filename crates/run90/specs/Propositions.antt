-- What a machine's ghost field says is a proposition.
use Rattle.std.proofs.Common.{◌≡◌, ℕ, false, List, [], ◌∷◌}
use Rattle.std.specs.Coded.{Coded-set, coded_bool}
use Rattle.std.specs.List.{AllByRecursion}
use Rattle.std.specs.Str.{bytes_eq}
use Rattle.tree.specs.Plain.{Declaration}
use Rattle.machine.specs.Storage.{AreDistinct}

apart-prop : (x : List ℕ) (ds : List Declaration)
    → IsProp (AllByRecursion (λ (e : Declaration). bytes_eq x e.name ≡ false) ds)
apart-prop x [] = hlevel []
apart-prop x (d ∷ ds) = let set = Coded-set coded_bool in let more = apart-prop x ds in hlevel (set, more)

pub AreDistinct-prop : (ds : List Declaration) → IsProp (AreDistinct ds)
AreDistinct-prop [] = hlevel []
AreDistinct-prop (d ∷ ds) = let first = apart-prop d.name ds in let more = AreDistinct-prop ds in hlevel (first, more)
