-- Pairings of the same two references, tested together.
use Rattle.std.specs.Prelude.{◌≡◌, ◌<◌, ℕ, ℤ, pos, List, All, length}
use Rattle.subscripts.specs.Forms.{IsInRegion, difference}
use Rattle.subscripts.specs.Groups.{IsPairOfAll}
use Rattle.subscripts.specs.Shapes.{IsPairing, AreDirsOf, IsBeside}
use Rattle.subscripts.specs.declared.affine.Dirs.{Dirs}
use Rattle.subscripts.specs.declared.pairing.Pairing.{Pairing}
use Rattle.dependence_tests.specs.delta_test.Kept.{AreKept}
use Rattle.dependence_tests.specs.declared.delta_test.constraints.Constraints.{Constraints}

-- pairings of the same two references, and directions of theirs
pub record AreMembers (ps : List Pairing) (d : Dirs) : Type 0 where
  pub some : 0 < length ps
  pub pairings : All IsPairing ps
  pub beside : All (λ p. All (IsBeside p) ps) ps
  pub dirs : All (λ p. AreDirsOf p d) ps

-- no pair of iterations of all
abbrev pub HasNoPairOfAll : List Pairing → Dirs → Type 0
HasNoPairOfAll ps d = (x y : List ℤ) → IsPairOfAll ps d x y → ⊥

-- both sides are equal, for some values of the symbols
abbrev pub AreEqualSides : Pairing → List ℤ → List ℤ → Type 0
AreEqualSides p x y = (v : ℕ → ℤ) × (difference p v x y ≡ pos 0)

abbrev pub HaveEqualSides : List Pairing → List ℤ → List ℤ → Type 0
HaveEqualSides ps x y = All (λ p. AreEqualSides p x y) ps

-- where the constraints are kept, there are no iterations in the region
abbrev pub LeavesNoRegion : Constraints → Pairing → Dirs → Type 0
LeavesNoRegion c p d = (x y : List ℤ) → AreKept c x y → IsInRegion p d x y → ⊥

-- where the constraints are kept, there is no pair of iterations
abbrev pub LeavesNoPair : Constraints → Pairing → Dirs → Type 0
LeavesNoPair c p d = (x y : List ℤ) → AreKept c x y → IsInRegion p d x y → AreEqualSides p x y → ⊥
