use Rattle.std.proofs.Common.{List, subst, sym}
use Rattle.f90_expressions.specs.Reading.{IsMadeOf}
use Rattle.f90_expressions.specs.declared.nodes.Expression.{Expression}
use Rattle.f90_statement.specs.Views.{AreOf, IsStatementOf}
use Rattle.f90_statement.specs.declared.nodes.Statement.{Statement}
use Rattle.f90_trees.specs.Hiding.{function_in}
use Rattle.f90_names.proofs.calls.CallLaws.{masked, tested, opened, other, looped, allocated, told}
use Rattle.f90_names.proofs.calls.walk.statement_suits.Goals as goal

pub returns-in-Act : goal.returns-in-Act
returns-in-Act c f a = c.action_suits.ensures f (subst (λ (x : Statement). IsStatementOf x f) c.in-Act.is a)

pub returns-in-Where : goal.returns-in-Where
returns-in-Where c f a =
    masked (function_in c.args.functions.now) c.masked_suits.result c.in-Where.mask c.in-Where.left c.in-Where.right f
    c.masked_suits.ensures
    (subst (λ (x : Statement). IsStatementOf x f) c.in-Where.is a)

pub returns-in-Test : goal.returns-in-Test
returns-in-Test c f a =
    tested (function_in c.args.functions.now) c.test_suits.result c.in-Test.condition c.in-Test.action f
    c.test_suits.ensures
    (subst (λ (x : Statement). IsStatementOf x f) c.in-Test.is a)

pub returns-in-If : goal.returns-in-If
returns-in-If c f a =
    opened (function_in c.args.functions.now) c.suits_calls.result c.in-If.condition f
    (λ p m. told c.suits_calls.result c.args.functions.now p (c.suits_calls.ensures p m))
    (subst (λ (x : Statement). IsStatementOf x f) c.in-If.is a)

pub returns-in-ElseIf : goal.returns-in-ElseIf
returns-in-ElseIf c f a =
    other (function_in c.args.functions.now) c.suits_calls-in-ElseIf.result c.in-ElseIf.condition f
    (λ p m. told c.suits_calls-in-ElseIf.result c.args.functions.now p (c.suits_calls-in-ElseIf.ensures p m))
    (subst (λ (x : Statement). IsStatementOf x f) c.in-ElseIf.is a)

pub returns-in-Do : goal.returns-in-Do
returns-in-Do c f a =
    looped (function_in c.args.functions.now) c.bounds_suit.result c.in-Do.field-0 c.in-Do.bounds f
    c.bounds_suit.ensures
    (subst (λ (x : Statement). IsStatementOf x f) c.in-Do.is a)

pub returns-in-Allocate : goal.returns-in-Allocate
returns-in-Allocate c f a =
    allocated (function_in c.args.functions.now) c.all_suit.result c.in-Allocate.field-0 c.in-Allocate.extents f
    (λ ps h. c.all_suit.ensures ps (subst (λ (es : List Expression). AreOf IsMadeOf es ps) (sym c.as_slice.ensures) h))
    (subst (λ (x : Statement). IsStatementOf x f) c.in-Allocate.is a)
