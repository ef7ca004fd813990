use Rattle.std.proofs.Common.{◌<◌, ℕ, length, get_or, take, sym, subst, arith}
use Rattle.std.proofs.lemmas.List.{take_more}
use Rattle.components.specs.Rest.{AreFilled, Releases}
use Rattle.components.proofs.Releasing.{at_inside, released_more, released_none, still_some}
use Rattle.components.proofs.rest.Rest.release.Goals as goal

pub loop-target-init : goal.loop-target-init
loop-target-init c = released_none c.args.tables.now c.args.self.now

pub lower-requires-clause-tables : goal.lower-requires-clause-tables
lower-requires-clause-tables c = subst (λ z. AreFilled z c.args.tables.now) (sym c.loop-target.invariant.size) c.requires.tables

pub lower-requires-clause-some : goal.lower-requires-clause-some
lower-requires-clause-some c =
    let inside : c.loop-target.target-index < length c.args.targets.now = omega arith in
    still_some c.args.tables.now c.args.targets.now c.loop-target.target-index c.args.self.now c.loop-target.self c.loop-target.invariant c.requires.few inside

pub lower-requires-clause-class : goal.lower-requires-clause-class
lower-requires-clause-class c =
    let inside : c.loop-target.target-index < length c.args.targets.now = omega arith in
    at_inside c.loop-target.self.counts.items (get_or c.args.targets.now c.loop-target.target-index 0)
    (still_some c.args.tables.now c.args.targets.now c.loop-target.target-index c.args.self.now c.loop-target.self c.loop-target.invariant c.requires.few inside)

pub loop-target-preserved : goal.loop-target-preserved
loop-target-preserved c =
    let inside : c.loop-target.target-index < length c.args.targets.now = omega arith in
    let target : ℕ = get_or c.args.targets.now c.loop-target.target-index 0 in
    subst (λ xs. Releases c.args.tables.now xs c.args.self.now c.lower.new.self) (sym (take_more c.args.targets.now c.loop-target.target-index 0 inside))
    (released_more c.args.tables.now (take c.loop-target.target-index c.args.targets.now) target c.args.self.now c.loop-target.self c.lower.new.self c.loop-target.invariant
    (still_some c.args.tables.now c.args.targets.now c.loop-target.target-index c.args.self.now c.loop-target.self c.loop-target.invariant c.requires.few inside) c.in_ok-lower.ensures)
