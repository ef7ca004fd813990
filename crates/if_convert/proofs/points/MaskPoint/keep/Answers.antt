use Rattle.std.proofs.Common.{ap, map, ◌∙◌}
use Rattle.nest.specs.Plain as P
use Rattle.nest.specs.View.{guarded_of, part_of}
use Rattle.nest.specs.declared.parts.Part.TheVariants as variants
use Rattle.nest.proofs.Equations.{part_of-run}
use Rattle.if_convert.specs.Masks.{under_mask}
use Rattle.if_convert.proofs.BodyLaws.{keep-added, on_ok, pushed}
use Rattle.if_convert.proofs.points.MaskPoint.keep.Goals as goal

pub returns : goal.returns
returns c =
    on_ok c.push.result (λ now.
    keep-added c.args.line (guarded_of c.args.stmt.now) c.args.self.now (map part_of c.args.made.now) (map part_of c.push.new.self) c.if-self.false
    (pushed c.args.made.now c.push.new.self (variants.Run c.in_ok-under.field-0) (P.Run (under_mask c.args.self.now.guard (guarded_of c.args.stmt.now)))
    (part_of-run c.in_ok-under.field-0 ∙ ap P.Run c.in_ok-under.ensures) now)) c.push.ensures.ok
