use Rattle.std.proofs.Common.{◌≡◌, Some, None, nat_eq, sym, ◌∙◌, rules}
use Rattle.std.specs.Prelude.{reverse}
use Rattle.indexmap.specs.IndexMap.{get}
use Rattle.f90_read.proofs.OfSurroundings.LabelLaws.{held_at, not_held}
use Rattle.f90_read.proofs.surroundings.jumping.LabelsAhead.is_ahead.Goals as goal

pub returns-in-Some : goal.returns-in-Some
returns-in-Some c at l =
    let e : get nat_eq c.args.self.now.firsts c.args.label ≡ Some c.in-Some.at = first_of (cc, search rules) in
    c.stands_at.ensures
    ∙ held_at c.args.self.now.labels.items (reverse c.args.self.now.starts.items) (get nat_eq c.args.self.now.firsts) at l c.args.label c.in-Some.at e

pub returns-in-None : goal.returns-in-None
returns-in-None c at l =
    let e : get nat_eq c.args.self.now.firsts c.args.label ≡ None = first_of (cc, search rules) in
    sym (not_held c.args.self.now.labels.items (reverse c.args.self.now.starts.items) (get nat_eq c.args.self.now.firsts) at l c.args.label e)
