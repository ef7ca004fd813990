-- What subscript pairs say of their loops' iterations.
use Rattle.std.specs.Prelude.{◌≡◌, ℤ, List, ◌*ℤ◌, ◌≤◌, ◌^◌, unsigned_abs}
use Rattle.dependence_tests.specs.loop_lines.line_points.Lines.{OnLine}
use Rattle.dependence_tests.specs.declared.loop_lines.line_points.points.Line.{Line}
use Rattle.dependence_tests.specs.loop_lines.OneLoop.{first_at, second_at}
use Rattle.subscripts.specs.Classes.{Loop}
use Rattle.subscripts.specs.declared.pairing.Pairing.{Pairing}
use Rattle.dependence_tests.specs.delta_test.Constraints.{Allows}
use Rattle.dependence_tests.specs.declared.delta_test.constraint.Constraint.{Constraint}
use Rattle.dependence_tests.specs.delta_test.Kept.{AreConstraints, AreKept}
use Rattle.dependence_tests.specs.delta_test.Members.{AreEqualSides, HaveEqualSides}
use Rattle.dependence_tests.specs.declared.delta_test.constraints.Constraints.{Constraints}

-- a coefficient makes a constant with no whole number, and with this one alone
abbrev pub HasNoValue : ℤ → ℤ → Type 0
HasNoValue a c = (i : ℤ) → a *ℤ i ≡ c → ⊥

pub record IsValue (a c value : ℤ) : Type 0 where
  pub alone : (i : ℤ) → a *ℤ i ≡ c → i ≡ value
  pub size : unsigned_abs value ≤ 2 ^ 41

-- iterations of the loop on the line keep the constraint
abbrev pub IsSaidBy : Loop → Line → Constraint → Type 0
IsSaidBy l line c =
    (x y : List ℤ) → OnLine line (first_at l x) (second_at l y) → Allows c (first_at l x) (second_at l y)

-- where the constraints are kept, the sides aren't equal
abbrev pub IsNeverEqual : Constraints → Pairing → Type 0
IsNeverEqual c p = (x y : List ℤ) → AreKept c x y → AreEqualSides p x y → ⊥

-- where the constraints are kept and the sides are equal, so are these
pub record IsLearned (c : Constraints) (p : Pairing) (more : Constraints) : Type 0 where
  pub constraints : AreConstraints more
  pub kept : (x y : List ℤ) → AreKept c x y → AreEqualSides p x y → AreKept more x y

-- the same of several
abbrev pub AreNeverEqual : Constraints → List Pairing → Type 0
AreNeverEqual c ps = (x y : List ℤ) → AreKept c x y → HaveEqualSides ps x y → ⊥

pub record IsLearnedOfAll (c : Constraints) (ps : List Pairing) (more : Constraints) : Type 0 where
  pub constraints : AreConstraints more
  pub kept : (x y : List ℤ) → AreKept c x y → HaveEqualSides ps x y → AreKept more x y

-- no iterations make the sides of all equal
abbrev pub HaveNoSolution : List Pairing → Type 0
HaveNoSolution ps = (x y : List ℤ) → HaveEqualSides ps x y → ⊥

-- iterations that make the sides of all equal keep the constraints
abbrev pub IsKeptBySolutions : List Pairing → Constraints → Type 0
IsKeptBySolutions ps c = (x y : List ℤ) → HaveEqualSides ps x y → AreKept c x y

pub record IsLearnedBySolutions (ps : List Pairing) (c : Constraints) : Type 0 where
  pub constraints : AreConstraints c
  pub kept : IsKeptBySolutions ps c
