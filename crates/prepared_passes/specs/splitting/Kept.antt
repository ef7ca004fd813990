-- What splitting leaves of a nest, and the names that it makes.
use Rattle.std.specs.Prelude.{◌≡◌, ◌⊎◌, ◌+◌, ◌<◌, ◌≤◌, ◌^◌, Some, ℕ, Bool, List, [], ◌++◌, length, map}
use Rattle.std.specs.Option.{option_map}
use Rattle.components.specs.Lists.{Distinct}
use Rattle.tree.specs.Names.{IsSourceName}
use Rattle.tree.specs.Plain.{Block, Declaration}
use Rattle.nest.specs.Bodies.{Standing, nest_loops, nest_statements}
use Rattle.nest.specs.Plain.{Made, Nest}
use Rattle.nest_order.specs.orders.Lists.{In}
use Rattle.nest_order.specs.shapes.Shapes.{IsPlain}
use Rattle.dependence_graph.specs.declared.graphs.Place.{Place}
use Rattle.if_convert.specs.Masks.{mask_name}
use Rattle.statement_passes.specs.Standings.{IsLoop}
use Rattle.scalar_expand.specs.Privates.{expanded_name}
use Rattle.scalar_rename.specs.Ranges.{range_name}
use Rattle.pass_laws.specs.prepared_nests.After.{CountsNone}
use Rattle.pass_laws.specs.prepared_nests.Loops.{EachLoop, IsPreparedLoop}
use Rattle.pass_laws.specs.prepared_nests.Nests.{IsPrepared}
use Rattle.prepared_passes.specs.expansion.Left.{NoPrivateScalarIsLeft}
use Rattle.node_splitting.specs.Arrays.{copy_name}
use Rattle.node_splitting.specs.Split.{made_arrays, with_nodes_split}
use Rattle.prepared_passes.specs.splitting.Splits.{IsCopyName, nodes_split}

-- ---- the nest

-- k is m but for its statements, the arrays of copies, which stand behind what was made for m, and the number of
-- copies. Its loops stay as they are, and its statements give values to what those of m give values to, and to these
-- arrays
pub record IsSplitFrom (may : Place → Bool) (m k : Nest) : Type 0 where
  pub rest : k ≡ record m { body = k.body; made = k.made; copies = k.copies }
  pub made : k.made ≡ m.made ++ made_arrays may m
  pub copies : k.copies ≡ m.copies + length (made_arrays may m)
  pub loop : IsLoop k.body
  pub plain : IsPlain k.body
  pub loops : nest_loops k ≡ nest_loops m
  pub targets : (x : Standing) → In x (nest_statements k) → IsCopyName may m x.statement.left.name
      ⊎ ((y : Standing) × In y (nest_statements m) × (y.statement.left.name ≡ x.statement.left.name))

-- where something is copied
abbrev pub SplitNestKeepsRest : Type 0
SplitNestKeepsRest = (may : Place → Bool) (m k : Nest) → IsLoop m.body → IsPlain m.body
    → with_nodes_split may m ≡ Some k → IsSplitFrom may m k

-- the loops of a prepared nest stay in their places
abbrev pub SplitNestKeepsLoops : Type 0
SplitNestKeepsLoops = (es : List Declaration) (around : List (List ℕ)) (deepest : ℕ) (may : Place → Bool) (m k : Nest)
    → IsPrepared es around deepest m → IsLoop m.body → with_nodes_split may m ≡ Some k
    → EachLoop (IsPreparedLoop es k.symbols) [] k.body

-- Splitting asks nothing of what stands behind the nest
abbrev pub SplitsWithAnythingBehind : Type 0
SplitsWithAnythingBehind = (may : Place → Bool) (m : Nest) (after : Block)
    → with_nodes_split may (record m { after = after })
    ≡ option_map (λ (k : Nest). record k { after = after }) (with_nodes_split may m)

-- ---- names

-- The arrays are numbered from the copies before; their names are those of the copies from there on, one for each
pub record AreCopies (may : Place → Bool) (m : Nest) : Type 0 where
  pub numbered : (a : Made) → In a (made_arrays may m)
      → (i : ℕ) × (m.copies ≤ i) × (i < m.copies + length (made_arrays may m)) × (a.name ≡ copy_name i)
  pub once : Distinct (map (λ (a : Made). a.name) (made_arrays may m))

abbrev pub SplitNestHasCopies : Type 0
SplitNestHasCopies =
    (may : Place → Bool) (m : Nest) → m.copies + length (made_arrays may m) ≤ 2 ^ 32 → AreCopies may m

-- copies with numbers of their own have names of their own
abbrev pub CopyNamesAreApart : Type 0
CopyNamesAreApart = (i j : ℕ) → i < 2 ^ 32 → j < 2 ^ 32 → copy_name i ≡ copy_name j → i ≡ j

-- a copy has no name of the source, counts no loop, and is no mask, no array for a scalar of the source and no range of
-- a scalar's values
pub record IsOfItsOwn (i : ℕ) : Type 0 where
  pub long : ¬ IsSourceName (copy_name i)
  pub counter : CountsNone (copy_name i)
  pub mask : (j : ℕ) → ¬ (copy_name i ≡ mask_name j)
  pub array : (n : ℕ) (x : List ℕ) → IsSourceName x → ¬ (copy_name i ≡ expanded_name n x)
  pub range : (n j : ℕ) (x : List ℕ) → ¬ (copy_name i ≡ range_name n x j)

abbrev pub CopyNamesAreTheirOwn : Type 0
CopyNamesAreTheirOwn = (i : ℕ) → IsOfItsOwn i

-- ---- private scalars

-- where a private scalar of m stands as a scalar in k only where its element is copied to it, so it is in k split
abbrev pub SplitNestHasNoPrivateScalars : Type 0
SplitNestHasNoPrivateScalars =
    (es fs : List Declaration) (around outside : List (List ℕ)) (deepest deeper : ℕ) (may : Place → Bool) (m k : Nest)
    → IsPrepared es around deepest m → IsPrepared fs outside deeper k → IsLoop k.body → NoPrivateScalarIsLeft m k
    → NoPrivateScalarIsLeft m (nodes_split may k)
