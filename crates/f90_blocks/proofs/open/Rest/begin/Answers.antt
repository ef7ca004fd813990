use Rattle.std.specs.BTreeSet.{contains}
use Rattle.std.specs.Ordering.{nat_cmp}
use Rattle.f90_blocks.specs.declared.statement_trees.nodes.StatementTree.TheVariants as trees
use Rattle.f90_blocks.proofs.Steps.{simple_step, test_step, label_step, if_step, arm_step, else_step, end_if_step}
use Rattle.f90_blocks.proofs.Steps.{do_step, end_do_step, next_as}
use Rattle.f90_blocks.proofs.open.Rest.begin.Goals as goal

pub returns-in-Simple : goal.returns-in-Simple
returns-in-Simple c function is_target os p ps known zero next stands =
    simple_step function is_target os p ps c.args.self c.precede.result c.args.line c.in-Simple.stmt
    (next_as function os c.args.line c.args.tree (trees.Simple c.in-Simple.stmt) p c.in-Simple.is next) stands
    c.precede.ensures

pub returns-in-Test : goal.returns-in-Test
returns-in-Test c function is_target os p ps known zero next stands =
    test_step function is_target os p ps c.args.self c.begin_test.result c.args.line c.in-Test.test c.in-Test.done zero
    (next_as function os c.args.line c.args.tree (trees.Test c.in-Test.test c.in-Test.done) p c.in-Test.is next) stands
    c.begin_test.ensures

pub returns-in-If : goal.returns-in-If
returns-in-If c function is_target os p ps known zero next stands =
    if_step function is_target os p ps c.args.self c.begin_if.result c.args.line c.in-If.test
    (next_as function os c.args.line c.args.tree (trees.If c.in-If.test) p c.in-If.is next) stands c.begin_if.ensures

pub returns-in-ElseIf : goal.returns-in-ElseIf
returns-in-ElseIf c function is_target os p ps known zero next stands =
    arm_step function is_target os p ps c.args.self c.begin_arm.result c.args.line c.in-ElseIf.test
    (next_as function os c.args.line c.args.tree (trees.ElseIf c.in-ElseIf.test) p c.in-ElseIf.is next) stands
    c.begin_arm.ensures

pub returns-in-Else : goal.returns-in-Else
returns-in-Else c function is_target os p ps known zero next stands =
    else_step function is_target os p ps c.args.self c.begin_else.result c.args.line
    (next_as function os c.args.line c.args.tree (trees.Else) p c.in-Else.is next) stands c.begin_else.ensures

pub returns-in-EndIf : goal.returns-in-EndIf
returns-in-EndIf c function is_target os p ps known zero next stands =
    end_if_step function is_target os p ps c.args.self c.end_if.result c.args.line
    (next_as function os c.args.line c.args.tree (trees.EndIf) p c.in-EndIf.is next) stands c.end_if.ensures

pub returns-in-Do : goal.returns-in-Do
returns-in-Do c function is_target os p ps known zero next stands =
    do_step function is_target os p ps c.args.self c.begin_do.result c.args.line c.in-Do.var c.in-Do.first c.in-Do.last
    c.in-Do.step
    (next_as function os c.args.line c.args.tree (trees.Do c.in-Do.var c.in-Do.first c.in-Do.last c.in-Do.step) p
    c.in-Do.is next) stands c.begin_do.ensures

pub returns-in-EndDo : goal.returns-in-EndDo
returns-in-EndDo c function is_target os p ps known zero next stands =
    end_do_step function is_target os p ps c.args.self c.end_do.result c.args.line
    (next_as function os c.args.line c.args.tree (trees.EndDo) p c.in-EndDo.is next) stands c.end_do.ensures

pub returns-in-Continue : goal.returns-in-Continue
returns-in-Continue c function is_target os p ps known zero next stands =
    label_step function is_target os p ps c.args.self c.begin_label.result c.args.line c.in-Continue.label
    (λ n. contains nat_cmp c.args.targets.now n) known zero
    (next_as function os c.args.line c.args.tree (trees.Continue c.in-Continue.label) p c.in-Continue.is next) stands
    c.begin_label.ensures
