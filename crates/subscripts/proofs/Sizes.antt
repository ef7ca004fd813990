-- Small numbers fit.
use Rattle.std.proofs.Common.{◌≡◌, ℕ, ◌<◌, ◌≤◌, List, [], ◌∷◌, zero, suc, arith, get_or}
use Rattle.std.specs.Prelude.{ℤ, pos, All, FitsSigned}
use Rattle.std.proofs.lemmas.Int.{fits_signed_from_abs}
use Rattle.std.proofs.lemmas.List.Elements.{All-head, All-tail}
use mir.Syntax.{w64}
use Rattle.subscripts.specs.Classes.{Loop, Shared, First, Second, first_of, second_of}
use Rattle.subscripts.specs.Shapes.{IsPairing, IsSmall}
use Rattle.subscripts.specs.declared.pairing.Pairing.{Pairing}

pub small_place : (xs : List ℤ) (k : ℕ) → All IsSmall xs → IsSmall (get_or xs k (pos 0))
small_place [] k h = omega arith
small_place (x ∷ xs) zero h = All-head IsSmall x xs h
small_place (x ∷ xs) (suc k) h = small_place xs k (All-tail IsSmall x xs h)

pub small_fits : (z : ℤ) → IsSmall z → FitsSigned w64 z
small_fits z h = fits_signed_from_abs w64 z (omega arith)

pub place_fits : (xs : List ℤ) (k : ℕ) → All IsSmall xs → FitsSigned w64 (get_or xs k (pos 0))
place_fits xs k h = small_fits (get_or xs k (pos 0)) (small_place xs k h)

pub small_first : (p : Pairing) (l : Loop) → IsPairing p → IsSmall (first_of p l)
small_first p (Shared k) h = small_place p.from.loops k h.from.small_loops
small_first p (First k) h = small_place p.from.loops k h.from.small_loops
small_first p (Second k) h = omega arith

pub small_second : (p : Pairing) (l : Loop) → IsPairing p → IsSmall (second_of p l)
small_second p (Shared k) h = small_place p.to.loops k h.to.small_loops
small_second p (First k) h = omega arith
small_second p (Second k) h = small_place p.to.loops k h.to.small_loops
