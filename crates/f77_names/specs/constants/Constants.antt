-- A table of symbolic constants, and the store of their values.
use Rattle.std.specs.Prelude.{◌≡◌, ℕ, pos, Option, None, Some, is_some, if◌then◌else◌, List, []}
use Rattle.std.specs.Str.{bytes_eq}
use Rattle.indexmap.specs.IndexMap.{get}
use Rattle.tree.specs.declared.ops.Value.{Value}
use Rattle.tree.specs.declared.ops.Value.TheVariants.{Int}
use Rattle.meaning.specs.Store.{Store}
use Rattle.f77_names.specs.declared.constants.constants.Constants.{Constants}

-- the value that the table gives a name
abbrev pub value_in : Constants → List ℕ → Option Value
value_in c x = get bytes_eq c.table x

abbrev pub value_or_nought : Option Value → Value
value_or_nought None = Int (pos 0)
value_or_nought (Some v) = v

-- each constant as a scalar that holds its value
abbrev pub store_of : Constants → Store
store_of c =
    record {
      bounds = λ x. if is_some (value_in c x) then Some [] else None;
      held = λ cell. value_or_nought (value_in c cell.name);
    }

-- the value that a store holds for a scalar
abbrev pub held_in : Store → List ℕ → Option Value
held_in s x = if is_some (s.bounds x) then Some (s.held (record { name = x; subscripts = [] })) else None

-- the store has the values of the table, and nothing else
pub record AreValues (c : Constants) (s : Store) : Type 0 where
  pub values : (x : List ℕ) → value_in c x ≡ held_in s x
  pub same : s ≡ store_of c
