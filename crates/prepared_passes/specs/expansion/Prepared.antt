-- A prepared nest in which private scalars become arrays is prepared, by declarations that have the arrays.
use Rattle.std.specs.Prelude.{◌≡◌, Some, None, ℕ, ◌+◌, ◌≤◌, Contains, List}
use Rattle.std.specs.Option.{IsSomeAnd}
use Rattle.tree.specs.Plain.{Declaration}
use Rattle.meaning.specs.Typed.{declared}
use Rattle.nest.specs.Plain.{Loop, Nest, Parts, Turns}
use Rattle.nest_order.specs.orders.Lists.{In}
use Rattle.pass_laws.specs.prepared_nests.Made.{extent_for}
use Rattle.pass_laws.specs.prepared_nests.Nests.{IsPrepared}
use Rattle.scalar_expand.specs.Expanded.{array_of, expanded}
use Rattle.scalar_expand.specs.Privates.{private_scalars}
use Rattle.scalar_expand.specs.Stores.{arrays}
use Rattle.scalar_expand.specs.declared.privates.Private.{Private}
use Rattle.prepared_passes.specs.expansion.Laws.{MayBeExpanded}
use Rattle.prepared_passes.specs.expansion.Runs.{IsFreeBehind}

-- fs has the arrays of the nest m, and for the rest what es has; a name that es hasn't, and that hasn't an underscore,
-- it hasn't either
pub record AreDeclaredFor (es fs : List Declaration) (m : Nest) : Type 0 where
  pub kept : (x : List ℕ) (d : Declaration) → ¬ In x (arrays (private_scalars m)) → declared es x ≡ Some d
      → declared fs x ≡ Some d
  pub free : (x : List ℕ) → ¬ Contains x 95 → declared es x ≡ None → declared fs x ≡ None
  pub arrays : (p : Private) → In p (private_scalars m) → IsSomeAnd (declared fs p.array)
      (λ (d : Declaration). (d.kind ≡ p.kind) × (d.extent ≡ extent_for (array_of m.symbols p).extents))

-- A text of an extent has up to 15 terms and a constant, and a divisor; up to seven such texts stand in each other
abbrev pub extent_depth : ℕ
extent_depth = 252

-- An element is no deeper than a list of subscripts: expressions rise by at most one
abbrev pub ExpandedNestIsPrepared : Type 0
ExpandedNestIsPrepared =
    (es fs : List Declaration) (around : List (List ℕ)) (deepest : ℕ) (m : Nest) (loop : Loop) (body : Parts)
    → IsPrepared es around deepest m → m.body ≡ Turns loop body → MayBeExpanded es m → IsFreeBehind m
    → AreDeclaredFor es fs m → extent_depth ≤ deepest → IsPrepared fs around (deepest + 1) (expanded m)
