-- The names that stand in a prepared statement are declared.
use Rattle.std.proofs.Common.{◌≡◌, refl, subst, ℕ, List, ◌∷◌, ◌++◌, Option, Some, None, IfSome}
use Rattle.tree.specs.Plain.{Declaration, Expression}
use Rattle.tree.specs.declared.ops.Kind.TheVariants.{Logical}
use Rattle.meaning.specs.Reads.{names_in, names_in_subscripts}
use Rattle.meaning.specs.Typed90.{IsScalar}
use Rattle.meaning.specs.Value.{named}
use Rattle.nest.specs.Bodies.{Standing}
use Rattle.nest.specs.Plain.{Nest}
use Rattle.nest_order.specs.orders.Lists.{In}
use Rattle.nest_order.specs.runs.Guarded.{names_of, names_of_guard}
use Rattle.pass_laws.specs.prepared_nests.Statements.{IsPreparedStatement, assignment}
use Rattle.prepared_passes.proofs.RenamedNests.Declared.{IsDeclared, in_kind, over_both}

module _ (es : List Declaration) (m : Nest) (deepest : ℕ) (y : Standing) (h : IsPreparedStatement es m deepest y) where
  abbrev left : List (List ℕ)
  left = y.statement.left.name ∷ names_in_subscripts y.statement.left.subscripts

  guard_declared : (o : Option Expression) → y.statement.guard ≡ o → (x : List ℕ) → In x (names_of_guard o) → IsDeclared es x
  guard_declared None e x i = absurd i
  guard_declared (Some g) e x i =
      in_kind es g Logical
      (subst (λ (o : Option Expression). IfSome o (λ (z : Expression). IsScalar es z Logical)) e h.guard).0
      x i

  pub names_declared : (x : List ℕ) → In x (names_of (assignment y.statement)) → IsDeclared es x
  names_declared x i =
      over_both es (names_of_guard y.statement.guard) (names_in y.statement.right ++ left)
      (guard_declared y.statement.guard refl)
      (over_both es (names_in y.statement.right) left
      (in_kind es y.statement.right h.kind h.right.0)
      (in_kind es (named y.statement.left) h.kind h.left.0)) x i
