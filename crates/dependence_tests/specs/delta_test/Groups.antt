-- Pairings of the same two references, tested together.
use Rattle.std.specs.Prelude.{◌≡◌, ℤ, pos, ◌-ℤ◌, List, All, Some, IsTrue, map}
use Rattle.subscripts.specs.Classes.{Loop, HasOneLoop, first_of, second_of, span_of}
use Rattle.subscripts.specs.Cuts.{cut}
use Rattle.subscripts.specs.Groups.{IsPairOfAll, IsLeastPairOfAll, group_dirs}
use Rattle.subscripts.specs.Refutations.{IsRefutedByGcd, IsOneSided}
use Rattle.subscripts.specs.declared.affine.Dirs.{Dirs}
use Rattle.subscripts.specs.declared.pairing.Pairing.{Pairing}
use Rattle.subscripts.specs.declared.verdict.Test.{Test}
use Rattle.subscripts.specs.declared.verdict.Test.TheVariants.{Delta}
use Rattle.dependence_tests.specs.loop_lines.line_points.Lines.{OnLine}
use Rattle.dependence_tests.specs.declared.loop_lines.line_points.points.Line.{Line}
use Rattle.dependence_tests.specs.delta_test.Members.{HasNoPairOfAll}

-- all have this one loop
abbrev pub HasOneLoopOfAll : List Pairing → Loop → Type 0
HasOneLoopOfAll ps l = All (λ p. HasOneLoop p l) ps

-- no one loop is that of all
abbrev pub HasNoLoopOfAll : List Pairing → Type 0
HasNoLoopOfAll ps = (l : Loop) → HasOneLoopOfAll ps l → ⊥

-- the line of a pairing of this one loop
abbrev pub line_at : Loop → Pairing → Line
line_at l p =
    record { first = first_of p l; second = pos 0 -ℤ second_of p l; constant = p.to.constant -ℤ p.from.constant }

-- on the lines of all
abbrev pub OnAllLines : Loop → List Pairing → ℤ → ℤ → Type 0
OnAllLines l ps i j = All (λ p. OnLine (line_at l p) i j) ps

-- no pair of iterations of all, cut to the loop that matters
abbrev pub HasNoCutPairOfAll : List Pairing → Dirs → Type 0
HasNoCutPairOfAll ps d = HasNoPairOfAll (map cut ps) (group_dirs ps d)

-- neither the GCD test nor Banerjee's refutes one of them
abbrev pub AreNotRefuted : List Pairing → Dirs → Type 0
AreNotRefuted ps d = All (λ p. (IsRefutedByGcd p → ⊥) × (IsOneSided p d → ⊥)) ps

-- all have this one loop, whose trip is this constant
pub record IsExactWith (ps : List Pairing) (l : Loop) (trip : ℤ) : Type 0 where
  pub one : HasOneLoopOfAll ps l
  pub ends : All (λ p. (span_of p l).last ≡ Some trip) ps
  pub fixed : All (λ p. IsTrue (span_of p l).fixed) ps

abbrev pub delta_word : Test
delta_word = Delta

-- no pair of iterations of all, neither of all loops nor of the one that matters
pub record HasNoneOfAll (ps : List Pairing) (d : Dirs) : Type 0 where
  pub whole : (x y : List ℤ) → IsPairOfAll ps d x y → ⊥
  pub cut_too : (x y : List ℤ) → IsPairOfAll (map cut ps) (group_dirs ps d) x y → ⊥

-- the least pair of iterations of the loop that matters
abbrev pub IsLeastOfAll : List Pairing → Dirs → List ℤ → List ℤ → Type 0
IsLeastOfAll ps d x y = IsLeastPairOfAll (map cut ps) (group_dirs ps d) x y
