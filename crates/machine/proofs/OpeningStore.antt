-- The values that a run begins with stand for the opening store.
use Rattle.std.proofs.Common.{◌≡◌, refl, ap, ◌∙◌, zero, suc, ℕ, ℤ, ◌+◌, ◌<◌, Bool, true, false, cond, List, [], ◌∷◌, ◌++◌}
use Rattle.std.proofs.Common.{get_or, Option, Some, None, arith, replicate}
use Rattle.std.specs.Option.{option_map}
use Rattle.std.specs.Str.{bytes_eq}
use Rattle.std.proofs.Math.Path.{fun_ext}
use Rattle.tree.specs.Plain.{Declaration}
use Rattle.tree.specs.declared.ops.Value.{Value}
use Rattle.meaning.specs.Store.{Store, Cell, opening_bounds, opening_value, nought}
use Rattle.meaning.specs.Typed.{dimensions}
use Rattle.machine.specs.Storage.{store_of, opening_of, place, offset, values_of, value_at, noughts_of}
use Rattle.machine.proofs.StoreLaws.{offset_below}

copy_at : (n k : ℕ) (v d : Value) (more : List Value) → k < n → get_or (replicate n v ++ more) k d ≡ v
copy_at zero k v d more l = absurd (omega arith)
copy_at (suc n) zero v d more l = refl
copy_at (suc n) (suc k) v d more l = copy_at n k v d more (omega arith)

behind_copies : (n k j : ℕ) (v d : Value) (more : List Value) → j ≡ n + k → get_or (replicate n v ++ more) j d ≡ get_or more k d
behind_copies zero k j v d more e = ap (λ j. get_or more j d) (let same : j ≡ k = omega arith in same)
behind_copies (suc n) k zero v d more e = absurd (omega arith)
behind_copies (suc n) k (suc j) v d more e = behind_copies n k j v d more (omega arith)

at_own : (d : Declaration) (more : List Value) (o : Option ℕ) → ((k : ℕ) → o ≡ Some k → k < values_of d) → value_at (replicate (values_of d) (nought d.kind) ++ more) (nought d.kind) o ≡ nought d.kind
at_own d more None h = refl
at_own d more (Some k) h = copy_at (values_of d) k (nought d.kind) (nought d.kind) more (h k refl)

at_later : (d : Declaration) (more : List Value) (v : Value) (o : Option ℕ) → value_at (replicate (values_of d) (nought d.kind) ++ more) v (option_map (λ k. values_of d + k) o) ≡ value_at more v o
at_later d more v None = refl
at_later d more v (Some k) = behind_copies (values_of d) k (values_of d + k) (nought d.kind) v more refl

-- each cell holds what its name has when a run begins
pub opening_held : (ds : List Declaration) (x : List ℕ) (is : List ℤ) → value_at (noughts_of ds) (opening_value ds x) (place ds x is) ≡ opening_value ds x
opening_held [] x is = refl
opening_held (d ∷ ds) x is = by (opening_held ds x is) (bytes_eq d.name x)
  where
    by : value_at (noughts_of ds) (opening_value ds x) (place ds x is) ≡ opening_value ds x → (b : Bool) → value_at (noughts_of (d ∷ ds)) (cond b (nought d.kind) (opening_value ds x)) (cond b (offset (dimensions d.extent) is) (option_map (λ k. values_of d + k) (place ds x is)))
        ≡ cond b (nought d.kind) (opening_value ds x)
    by h true = at_own d (noughts_of ds) (offset (dimensions d.extent) is) (λ k e. offset_below (dimensions d.extent) is k e)
    by h false = at_later d (noughts_of ds) (opening_value ds x) (place ds x is) ∙ h

-- so they stand for the opening store
pub opening_store_is : (ds : List Declaration) → store_of ds (noughts_of ds) ≡ opening_of ds
unfolding store_of
opening_store_is ds = ap (λ (f : Cell → Value). let s : Store = record { bounds = opening_bounds ds; held = f } in s) (fun_ext λ c. opening_held ds c.name c.subscripts)

pub opens_with : (ds : List Declaration) (vs : List Value) → vs ≡ noughts_of ds → store_of ds vs ≡ opening_of ds
opens_with ds vs e = ap (store_of ds) e ∙ opening_store_is ds
