use Rattle.std.proofs.Common.{◌≡◌, ◌∙◌, IfOk, map, rules, subst}
use Rattle.std.specs.Prelude.{is_some}
use Rattle.nest.specs.Plain.{Guarded}
use Rattle.nest.specs.View.{guarded_of, loop_of}
use Rattle.node_splitting.specs.Arrays.{extents_over}
use Rattle.node_splitting.specs.Counts.{first_in_left, first_in_right, is_item, variables_from_outside}
use Rattle.node_splitting.specs.Split.{may_in}
use Rattle.node_splitting.specs.View.{may_of}
use Rattle.node_splitting.specs.declared.reads.Reader.{Reader}
use Rattle.node_splitting.proofs.LeftSides.{may_is, statement_is}
use Rattle.node_splitting.proofs.plans.split_statement.Goals as goal

pub returns-clause-stmt : goal.returns-clause-stmt
returns-clause-stmt c =
    let ls = map loop_of c.args.loops.now in
    let g = guarded_of c.args.stmt.now in
    let reader : Reader = record { loops = c.as_slice-4.result; choice = c.args.choice; stmt = c.args.number; fits = c.is_some.result; whole = c.is_item.result; right = c.in_ok-right.right } in
    let names : c.as_slice-4.result.now ≡ variables_from_outside ls = c.as_slice-4.ensures ∙ c.in_ok-names.ensures in
    let left : c.in_ok-left.left ≡ first_in_left (variables_from_outside ls) g = search rules in
    let right : c.in_ok-right.right ≡ first_in_right (variables_from_outside ls) g = search rules in
    let fits : c.is_some.result ≡ is_some (extents_over c.args.symbols ls) = search rules in
    let whole : c.is_item.result ≡ is_item g.right = search rules in
    let may = may_is reader c.args.choice.now c.args.symbols c.args.number ls g (λ i. c.args.choice.now) (λ i. c.args.number) fits whole right in
    subst (λ (h : Guarded). IfOk c.split_by.result (λ s. guarded_of s.stmt ≡ h))
    (statement_is reader c.in_ok-left.left g (variables_from_outside ls) (may_in (may_of c.args.choice.now) c.args.symbols ls c.args.number) names may left c.args.copies)
    c.split_by.ensures.stmt
