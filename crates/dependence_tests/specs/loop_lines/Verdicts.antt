-- What a verdict says.
use Rattle.subscripts.specs.declared.verdict.Point.{Point}
use Rattle.subscripts.specs.declared.verdict.Test.{Test}
use Rattle.subscripts.specs.declared.verdict.Verdict.{Verdict}
use Rattle.subscripts.specs.declared.verdict.Verdict.TheVariants.{Never, Pair, Assumed}

abbrev pub OnNever : Verdict → Type 0 → Type 0
OnNever (Never t) P = P
OnNever (Pair x y t) P = Unit {0}
OnNever (Assumed t) P = Unit {0}

abbrev pub IfPair : Verdict → (Point → Point → Type 0) → Type 0
IfPair (Never t) P = Unit {0}
IfPair (Pair x y t) P = P x y
IfPair (Assumed t) P = Unit {0}

abbrev pub OnAssumed : Verdict → Type 0 → Type 0
OnAssumed (Never t) P = Unit {0}
OnAssumed (Pair x y t) P = Unit {0}
OnAssumed (Assumed t) P = P

-- the test that settled it
abbrev pub test_of : Verdict → Test
test_of (Never t) = t
test_of (Pair x y t) = t
test_of (Assumed t) = t
