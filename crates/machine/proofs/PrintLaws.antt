-- What is printed.
use Rattle.std.proofs.Common.{◌≡◌, ap, ◌∙◌, ℕ, List, take, drop, length, map, Result, Ok, Err, None, arith}
use Rattle.tree.specs.Steps.{◌>>=◌}
use Rattle.tree.specs.Plain.{Declaration}
use Rattle.tree.specs.declared.ops.Value.{Value}
use Rattle.tree.specs.declared.ops.Fault.{Fault}
use Rattle.tree.specs.declared.ops.Fault.TheVariants.{Allocated}
use Rattle.meaning.specs.Store.{opening_bounds, bounds_in, cells_of}
use Rattle.meaning.specs.Extents.{elements_of}
use Rattle.machine.specs.declared.variables.Variable.{Variable}
use Rattle.machine.specs.Storage.{store_of, total}
use Rattle.machine.specs.Stored.{IsOf, bounds_here, all_values}
use Rattle.machine.proofs.StoreLaws.{store-bounds}
use Rattle.machine.proofs.ColumnMajor.{all_held}

pub all_unknown : (ds : List Declaration) (vs : List Value) (x : List ℕ) → opening_bounds ds x ≡ None → all_values x (store_of ds vs) ≡ Err Allocated
all_unknown ds vs x e = ap (λ b. do bs ← bounds_in b; Ok (map (store_of ds vs).held (cells_of x bs))) (store-bounds ds vs x ∙ e)

pub all_found : (ds : List Declaration) (vs : List Value) (x : List ℕ) (v : Variable) → IsOf ds x v → length vs ≡ total ds
    → all_values x (store_of ds vs) ≡ Ok (take (elements_of (bounds_here v)) (drop v.start vs))
all_found ds vs x v h l =
    ap (λ b. do bs ← bounds_in b; Ok (map (store_of ds vs).held (cells_of x bs))) (store-bounds ds vs x ∙ h.bounds)
    ∙ ap (λ (ws : List Value). let r : Result (List Value) Fault = Ok ws in r) (all_held ds vs x v h (omega (arith, h.fits)))

pub ruleset all_laws = (all_unknown, all_found)
