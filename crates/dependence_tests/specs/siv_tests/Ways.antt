-- The ways in which a pairing of one loop is refuted.
use Rattle.std.specs.Prelude.{◌⊎◌}
use Rattle.subscripts.specs.Cuts.{cut, cut_dirs}
use Rattle.subscripts.specs.Forms.{HasNoPair}
use Rattle.subscripts.specs.Refutations.{IsRefutedByGcd, IsOneSided, IsRefutedByLoop}
use Rattle.subscripts.specs.declared.affine.Dirs.{Dirs}
use Rattle.subscripts.specs.declared.pairing.Pairing.{Pairing}

-- by the GCD test, by Banerjee's test, or by its loop
abbrev pub IsRefuted : Pairing → Dirs → Type 0
IsRefuted p d = IsRefutedByGcd p ⊎ (IsOneSided p d ⊎ IsRefutedByLoop p d)

-- no pair of iterations of all loops, nor of those that matter
pub record HasNone (p : Pairing) (d : Dirs) : Type 0 where
  pub whole : HasNoPair p d
  pub cut_too : HasNoPair (cut p) (cut_dirs p d)
