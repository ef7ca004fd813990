-- The value at a place.
use Rattle.std.proofs.Common.{◌≡◌, refl, sym, ap, ◌∙◌, zero, suc, ℕ, ◌-◌, ◌^◌, ◌<◌, ◌≤◌, List, [], ◌∷◌, length, get_or, Ok, Err, arith}
use Rattle.std.specs.Prelude.{min}
use Rattle.tree.specs.declared.ops.Value.{Value}
use Rattle.tree.specs.declared.ops.Fault.TheVariants.{Shape}
use Rattle.meaning.specs.ArrayValues.{value_at_index}

pub at_inside : (vs : List Value) (k : ℕ) (d : Value) → k < length vs → value_at_index vs k ≡ Ok (get_or vs k d)
at_inside [] k d h = absurd (omega arith)
at_inside (v ∷ vs) zero d h = refl
at_inside (v ∷ vs) (suc k) d h = at_inside vs k d (omega arith)

pub at_outside : (vs : List Value) (k : ℕ) → length vs ≤ k → value_at_index vs k ≡ Err Shape
at_outside [] k h = refl
at_outside (v ∷ vs) zero h = absurd (omega arith)
at_outside (v ∷ vs) (suc k) h = at_outside vs k (omega arith)

pub value_inside : (vs : List Value) (place k : ℕ) (d : Value) → place ≡ min k (2 ^ 128 - 1) → place < length vs → length vs < 2 ^ 64 → Ok (get_or vs place d) ≡ value_at_index vs k
value_inside vs place k d e l m =
    let same : k ≡ place = omega arith in
    sym (ap (value_at_index vs) same ∙ at_inside vs place d l)

pub value_outside : (vs : List Value) (place k : ℕ) → place ≡ min k (2 ^ 128 - 1) → length vs ≤ place → Err Shape ≡ value_at_index vs k
value_outside vs place k e l = sym (at_outside vs k (omega arith))
