use Rattle.f90_statement.proofs.DeclarationLaws.{declared, longer}
use Rattle.f90_statement.proofs.TokenLaws.{denied, told}
use Rattle.f90_statement.proofs.statements.declaration.Goals as goal

pub returns-then-not-is_nothing : goal.returns-then-not-is_nothing
returns-then-not-is_nothing c f w t =
    longer _ _ _ _ c.in-Some.kind c.in-Some-after_attribute.is_allocatable _ c.in-Some.ensures c.in-Some-after_attribute.ensures c.in-Ok.ensures.only
    (λ e. denied c.is_nothing.result c.is_nothing.ensures c.if-not-is_nothing.true e) f w t

pub returns-else-not-is_nothing : goal.returns-else-not-is_nothing
returns-else-not-is_nothing c =
    declared _ _ _ _ c.in-Some.kind c.in-Some-after_attribute.is_allocatable _ c.in-Some.ensures c.in-Some-after_attribute.ensures c.in-Ok.ensures.found
    (told c.is_nothing.result c.is_nothing.ensures c.if-not-is_nothing.false)
