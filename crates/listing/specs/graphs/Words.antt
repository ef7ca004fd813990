-- The words of a listing.
use Rattle.std.specs.Prelude.{ℕ, List, codes}
use Rattle.subscripts.specs.declared.affine.Dir.{Dir}
use Rattle.subscripts.specs.declared.affine.Dir.TheVariants.{Lt, Eq, Gt, Any}
use Rattle.subscripts.specs.declared.verdict.Test.{Test}
use Rattle.subscripts.specs.declared.verdict.Test.TheVariants.{Trip, Scalar, Ziv, Strong, WeakZero, Crossing}
use Rattle.subscripts.specs.declared.verdict.Test.TheVariants.{Siv, Delta, Gcd, Range, Miv, Unknown}
use Rattle.dependence_graph.specs.declared.graphs.Dep.{Dep}
use Rattle.dependence_graph.specs.declared.graphs.Dep.TheVariants.{Flow, Anti, Output}
use Rattle.dependence_graph.specs.declared.graphs.HoldReason.{HoldReason}
use Rattle.dependence_graph.specs.declared.graphs.HoldReason.TheVariants.{Form, Triangle, Bounds}

abbrev pub kind_word : Dep → List ℕ
kind_word Flow = codes "FLOW"
kind_word Anti = codes "ANTI"
kind_word Output = codes "OUTPUT"

abbrev pub test_word : Test → List ℕ
test_word Trip = codes "TRIP"
test_word Scalar = codes "SCALAR"
test_word Ziv = codes "ZIV"
test_word Strong = codes "STRONG"
test_word WeakZero = codes "WEAKZERO"
test_word Crossing = codes "CROSSING"
test_word Siv = codes "SIV"
test_word Delta = codes "DELTA"
test_word Gcd = codes "GCD"
test_word Range = codes "RANGE"
test_word Miv = codes "MIV"
test_word Unknown = codes "UNKNOWN"

abbrev pub hold_word : HoldReason → List ℕ
hold_word Form = codes "FORM"
hold_word Triangle = codes "TRIANGLE"
hold_word Bounds = codes "BOUNDS"

abbrev pub direction_sign : Dir → List ℕ
direction_sign Lt = codes "<"
direction_sign Eq = codes "="
direction_sign Gt = codes ">"
direction_sign Any = codes "*"
