use Rattle.std.proofs.Common.{subst, ◌∙◌}
use Rattle.f90_statement.specs.Views.{IsStatementOf}
use Rattle.f90_statement.specs.declared.nodes.Statement.{Statement}
use Rattle.f90_statement.specs.declared.nodes.Statement.TheVariants.{Declare}
use Rattle.f90_names.proofs.kinds.OfDeclarations.SizeLaws.{declared_names}
use Rattle.f90_names.proofs.kinds.declarations.limits.names_here.Goals as goal

pub returns-in-Declare : goal.returns-in-Declare
returns-in-Declare c f h =
    let d : IsStatementOf (Declare c.in-Declare.field-0 c.in-Declare.field-1 c.in-Declare.entities) f =
    subst (λ (s : Statement). IsStatementOf s f) c.in-Declare.is h in
    c.len.ensures ∙ declared_names c.in-Declare.field-0 c.in-Declare.field-1 c.in-Declare.entities f d
