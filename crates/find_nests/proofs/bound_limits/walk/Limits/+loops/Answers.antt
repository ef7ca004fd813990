use Rattle.std.proofs.Common.{◌≡◌, ◌∙◌, ◌+◌, ◌*◌, ◌≤◌, ◌<◌, ◌^◌, ap, sym, subst, rules, arith, ℤ, pos, nat_abs, Bool, true, false, not, Some, List, [], ◌∷◌, ◌++◌, map, filter, length, SFits, to_z, of_z, option_map, IfSome}
use Rattle.tree.specs.View.{expression_of, statement_of, block_of}
use Rattle.tree.specs.declared.stmts.Stmt.TheVariants as stmts
use Rattle.find_nests.specs.bound_limits.Loops.{leaves_limits, as_outer}
use Rattle.find_nests.specs.bound_limits.Walks.{any_leaves, any_leaves_block}
use Rattle.find_nests.specs.bound_limits.View.{outer_of, IsInner}
use Rattle.find_nests.proofs.BoundLimits.WalkLaws.{one_outer, do-in}
use Rattle.find_nests.proofs.bound_limits.walk.Limits.+loops.Goals as goal

pub any_in_stmt-push_outer-requires-clause-sized : goal.any_in_stmt-push_outer-requires-clause-sized
any_in_stmt-push_outer-requires-clause-sized t c =
    let symbols = c.args.self.now.symbols in
    let first = expression_of c.in-Do.first in
    let last = expression_of c.in-Do.last in
    let step = expression_of c.in-Do.step in
    let outer = c.in-Some.outer in
    let known : IsInner (leaves_limits symbols (map outer_of c.as_slice.result.now) first last step) (as_outer symbols (map outer_of c.as_slice.result.now) c.in-Do.var first step) (Some outer) =
    subst (λ o. IsInner (leaves_limits symbols (map outer_of c.as_slice.result.now) first last step) (as_outer symbols (map outer_of c.as_slice.result.now) c.in-Do.var first step) o) c.in-Some.is c.in_ok-inner-in-Do.ensures in
    known.2

pub any_in_stmt-returns-in_ok-found-in-Do-clause-found : goal.any_in_stmt-returns-in_ok-found-in-Do-clause-found
any_in_stmt-returns-in_ok-found-in-Do-clause-found t c =
    let symbols = c.args.self.now.symbols in
    let items = c.args.around.now.items in
    let first = expression_of c.in-Do.first in
    let last = expression_of c.in-Do.last in
    let step = expression_of c.in-Do.step in
    let outer = c.in-Some.outer in
    let known : IsInner (leaves_limits symbols (map outer_of c.as_slice.result.now) first last step) (as_outer symbols (map outer_of c.as_slice.result.now) c.in-Do.var first step) (Some outer) =
    subst (λ o. IsInner (leaves_limits symbols (map outer_of c.as_slice.result.now) first last step) (as_outer symbols (map outer_of c.as_slice.result.now) c.in-Do.var first step) o) c.in-Some.is c.in_ok-inner-in-Do.ensures in
    let here : IsInner (leaves_limits symbols (map outer_of items) first last step) (as_outer symbols (map outer_of items) c.in-Do.var first step) (Some outer) =
    subst (λ l. IsInner (leaves_limits symbols (map outer_of l) first last step) (as_outer symbols (map outer_of l) c.in-Do.var first step) (Some outer)) c.as_slice.ensures.value known in
    let pushed : c.push_outer.new.around.items ≡ items ++ outer ∷ [] = search rules in
    let more : map outer_of c.push_outer.new.around.items ≡ map outer_of items ++ as_outer symbols (map outer_of items) c.in-Do.var first step ∷ [] =
    ap (map outer_of) pushed ∙ one_outer items outer (as_outer symbols (map outer_of items) c.in-Do.var first step) here.1 in
    let inside : c.in_ok-found-in-Do.found ≡ any_leaves_block symbols (map outer_of c.push_outer.new.around.items) (block_of c.in-Do.body) = search rules in
    let whole : c.in_ok-found-in-Do.found ≡ any_leaves symbols (map outer_of items) (statement_of (stmts.Do c.in-Do.line c.in-Do.var c.in-Do.first c.in-Do.last c.in-Do.step c.in-Do.body)) =
    do-in symbols (map outer_of items) c.in-Do.line c.in-Do.var c.in-Do.first c.in-Do.last c.in-Do.step c.in-Do.body c.in_ok-found-in-Do.found (map outer_of c.push_outer.new.around.items) here.0 more inside in
    cc (whole, c.in-Do.is)
