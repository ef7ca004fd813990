use Rattle.std.proofs.Common.{◌≡◌, None, map, reverse, ◌∙◌}
use Rattle.tree.specs.View.{expression_of, statement_of}
use Rattle.f77_laws.specs.trees.Steps as steps
use Rattle.f77_tree.specs.declared.rests.Rest.{Rest}
use Rattle.f77_tree.specs.Rests.{pieces_in, rest_with, rest_of}
use Rattle.f77_tree.proofs.RestLaws.{if_is, ok_follows}
use Rattle.f77_tree.proofs.rests.Rest.begin_if.Goals as goal

pub returns : goal.returns
returns c =
    ok_follows (λ (r : Rest). rest_of r ≡ steps.preceded (record { ends = None; made = map statement_of c.push.new.self.items }) (rest_with (pieces_in c.in_ok-grown.grown.after.items) (reverse c.pop.new.self.items)))
    (λ (r : Rest). rest_of r ≡ steps.if_begun c.args.line (map statement_of c.args.mark.items) (expression_of c.args.test) (rest_of c.args.self)) c.precede.result
    (λ r h. h ∙ if_is c.args.self.pieces.items c.args.self.ifs.items c.pop.new.self.items c.in-Some.inner c.in_ok-grown.grown c.args.line c.args.mark.items c.push.new.self.items
    c.reverse.new.self.items c.from_vec.result c.args.test
    c.in-Some.ensures.items c.in_ok-grown.ensures.arms c.in_ok-grown.ensures.other c.in_ok-grown.ensures.after
    c.reverse.ensures.items c.from_vec.ensures c.in_ok-push.ensures.items)
    c.precede.ensures
