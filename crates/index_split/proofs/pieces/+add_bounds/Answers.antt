use Rattle.std.proofs.Common.{◌≡◌, sym, subst, ◌∙◌, ℤ}
use Rattle.std.specs.Prelude.{IfOk}
use Rattle.std.proofs.lemmas.Int.{to_z-of_z}
use mir.Syntax.{w64}
use Rattle.index_split.specs.Pieces.{all_bounds, grown, where_true}
use Rattle.index_split.proofs.PieceLaws.{bounds_more}
use Rattle.index_split.proofs.pieces.+add_bounds.Goals as goal

pub returns : goal.returns
returns t c =
    subst (λ (z : ℤ). IfOk c.add_bounds.result (λ all. where_true all c.add_bounds.new.list
    ≡ grown c.args.list.now (all_bounds c.args.first.now z c.args.before c.args.ends.now))) (to_z-of_z w64 c.args.step c.ranges.step)
    (bounds_more c.add_bounds.result c.args.list.now c.push.new.self c.add_bounds.new.list c.args.first.now _ c.args.before c.in-Some.end.now
    c.in-Some.ends.now c.args.ends.now c.in-Some-bounds_of.bounds c.in_ok-push.ensures.ok
    (sym c.bounds_of.ensures ∙ c.in-Some-bounds_of.is) c.in-Some.ensures.cases.0 c.add_bounds.ensures)
