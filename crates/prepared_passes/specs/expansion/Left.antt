-- No private scalar is left as a scalar in the expanded nest.
use Rattle.std.specs.Prelude.{◌≡◌, ℕ, false, List, ◌∷◌, map}
use Rattle.tree.specs.Plain.{Declaration, Reference}
use Rattle.last_values.specs.Scalars.{scalar}
use Rattle.nest.specs.Bodies.{Standing, nest_statements}
use Rattle.nest.specs.Plain.{Guarded, Loop, Nest, Parts, Turns}
use Rattle.nest_order.specs.orders.Lists.{In}
use Rattle.nest_order.specs.runs.Touched.{references_read}
use Rattle.pass_laws.specs.prepared_nests.Nests.{IsPrepared}
use Rattle.pass_laws.specs.prepared_nests.Statements.{assignment}
use Rattle.scalar_expand.specs.Expanded.{copied, expanded, has_known_end}
use Rattle.scalar_expand.specs.Privates.{private_scalars, round_loop}
use Rattle.scalar_expand.specs.declared.privates.Private.{Private}
use Rattle.prepared_passes.specs.expansion.Laws.{MayBeExpanded}

-- guard, left side and right side
abbrev pub references_touched : Guarded → List Reference
references_touched g = g.left ∷ references_read (assignment g)

-- the value of the scalar's element is copied to it, in the loops round it; its last iteration isn't known
pub record IsCopyOf (m : Nest) (p : Private) (s : Standing) : Type 0 where
  pub statement : s.statement ≡ copied m.line p
  pub loops : map round_loop s.loops ≡ p.loops
  pub unknown : has_known_end p ≡ false

-- Where a private scalar of m stands without subscripts in a statement of k, that statement copies its element to it. A
-- mask, whose array bears its name, stands in no copy
abbrev pub NoPrivateScalarIsLeft : Nest → Nest → Type 0
NoPrivateScalarIsLeft m k = (p : Private) → In p (private_scalars m) → (s : Standing) → In s (nest_statements k)
    → In (scalar p.name) (references_touched s.statement) → IsCopyOf m p s

abbrev pub ExpandedNestHasNoPrivateScalars : Type 0
ExpandedNestHasNoPrivateScalars =
    (es : List Declaration) (around : List (List ℕ)) (deepest : ℕ) (m : Nest) (loop : Loop) (body : Parts)
    → IsPrepared es around deepest m → m.body ≡ Turns loop body → MayBeExpanded es m
    → NoPrivateScalarIsLeft m (expanded m)
