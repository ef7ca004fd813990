use Rattle.std.proofs.Common.{◌≤◌, ◌++◌, length, sym, subst, ℕ, List, ◌^◌}
use Rattle.linear_forms.specs.Parts.{IsPartOf}
use Rattle.tree.specs.View.{expression_of}
use Rattle.form_rules.proofs.Writing.{settled_some}
use Rattle.form_rules.proofs.nodes.settled.Goals as goal

pub returns-in_ok-expr-in-Some : goal.returns-in_ok-expr-in-Some
returns-in_ok-expr-in-Some c =
    let loops = c.args.loops.now in
    let symbols = c.args.symbols.now in
    λ e ready. settled_some loops symbols e c.args.node c.in_ok-expr-in-Some.expr c.args.had_loop c.args.part c.part_of-part.result c.in-Some.form ready c.in-Some.ensures c.in_ok-expr-in-Some.ensures
    (λ few. subst (λ (xs : List (List ℕ)). IsPartOf (length loops) (loops ++ xs) (expression_of c.in_ok-expr-in-Some.expr) c.part_of-part.result) c.as_slice.ensures
    (c.part_of-part.ensures few (subst (λ (xs : List (List ℕ)). length xs ≤ 2 ^ 16) (sym c.as_slice.ensures) c.requires)))
