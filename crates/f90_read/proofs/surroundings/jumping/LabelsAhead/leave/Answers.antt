use Rattle.std.proofs.Common.{nat_eq, ◌∙◌, ap, ℕ, List, take, sym, subst}
use Rattle.std.specs.Prelude.{reverse}
use Rattle.indexmap.specs.IndexMap.{get}
use Rattle.f90_read.specs.surroundings.Jumps.{AreHeld, left}
use Rattle.f90_read.proofs.OfSurroundings.LabelLaws.{block_left}
use Rattle.f90_read.proofs.surroundings.jumping.LabelsAhead.leave.Goals as goal

pub returns : goal.returns
returns c at l =
    subst (λ m. AreHeld c.truncate.new.self.items (reverse c.take_start-start.new.self.starts.items) (get nat_eq m) (left at)) (sym c.take_start-start.ensures.firsts)
    (block_left c.args.self.now.labels.items (reverse c.args.self.now.starts.items) (get nat_eq c.args.self.now.firsts) at l c.take_start-start.result
    c.truncate.new.self.items (reverse c.take_start-start.new.self.starts.items) c.take_start-start.ensures.start
    (c.truncate.ensures.items ∙ ap (λ (ls : List ℕ). take c.take_start-start.result ls) c.take_start-start.ensures.labels) c.take_start-start.ensures.others)
