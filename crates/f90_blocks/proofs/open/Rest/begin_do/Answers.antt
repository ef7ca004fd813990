use Rattle.std.proofs.Common.{ap, ◌∙◌, refl, [], ◌∷◌, ◌++◌}
use Rattle.f90_blocks.specs.declared.open.Open.{Open}
use Rattle.f90_blocks.specs.Rests.{block_seen}
use Rattle.f90_blocks.proofs.RestLaws.{do_shows}
use Rattle.f90_blocks.proofs.open.Rest.begin_do.Goals as goal

pub returns : goal.returns
returns c behind es h =
    do_shows c.args.self.opened.items c.pop.new.self.items c.in-Do.behind behind es _ c.turned-body.result
    (block_seen c.args.self.stmts.items)
    c.args.line c.args.var c.args.first c.args.last c.args.step
    (c.in-Some.ensures.items ∙ ap (λ (x : Open). c.pop.new.self.items ++ x ∷ []) c.in-Do.is) h c.turned-body.ensures
    c.in_ok-push.ensures.items refl
