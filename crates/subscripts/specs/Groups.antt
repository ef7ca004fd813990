-- Pairs of iterations of a group, which are pairs of each of its members.
use Rattle.std.specs.Prelude.{ℤ, List, [], ◌∷◌, ◌++◌, IsTrue, All}
use Rattle.subscripts.specs.Classes.{Loop, HasOneLoop, span_of}
use Rattle.subscripts.specs.Cuts.{cut_dirs, IsNoLater}
use Rattle.subscripts.specs.Forms.{IsPairOf}
use Rattle.subscripts.specs.declared.affine.Dirs.{Dirs}
use Rattle.subscripts.specs.declared.pairing.Pairing.{Pairing}

-- all have one and the same loop, whose trip is a constant
pub record IsExactGroup (ps : List Pairing) : Type 0 where
  pub loop : Loop
  pub each : All (λ p. HasOneLoop p loop × IsTrue (span_of p loop).fixed) ps

abbrev pub IsPairOfAll : List Pairing → Dirs → List ℤ → List ℤ → Type 0
IsPairOfAll ps d x y = All (λ p. IsPairOf p d x y) ps

pub record IsLeastPairOfAll (cuts : List Pairing) (d : Dirs) (x y : List ℤ) : Type 0 where
  pub pair : IsPairOfAll cuts d x y
  pub least : (x' y' : List ℤ) → IsPairOfAll cuts d x' y' → IsNoLater (x ++ y) (x' ++ y')

-- the directions cut to the one loop of all
abbrev pub group_dirs : List Pairing → Dirs → Dirs
group_dirs [] d = d
group_dirs (p ∷ ps) d = cut_dirs p d
