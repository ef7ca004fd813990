use Rattle.std.proofs.Common.{ℕ, List, Option}
use Rattle.std.proofs.lemmas.Bool.Decides.{Decides-at}
use Rattle.tree.specs.View.{expression_of}
use Rattle.tree.specs.declared.ops.Kind.TheVariants.{Logical}
use Rattle.f90_names.specs.declared.kinds.declarations.names.Declared.{Declared}
use Rattle.f90_names.specs.kinds.declarations.Names.{found}
use Rattle.f90_names.specs.kinds.Found.{kind_in, is_scalar}
use Rattle.f90_names.proofs.kinds.StatementLaws.{scalar-is}
use Rattle.f90_names.proofs.kinds.statements.is_condition.Goals as goal

pub returns : goal.returns
returns c ds t =
    let known : List ℕ → Option Declared = found c.args.names.now in
    Decides-at c.is_scalar.result (is_scalar (kind_in known (expression_of c.args.expr.now)) Logical) (cc)
    (scalar-is ds known t (expression_of c.args.expr.now) Logical)
