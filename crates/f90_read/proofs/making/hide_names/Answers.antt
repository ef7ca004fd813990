use Rattle.std.proofs.Common.{arith, ◌≡◌, ◌<◌, ◌≤◌, ◌++◌, length, get_or, refl, rules}
use Rattle.f90_names.specs.calls.Hiding.{names_of}
use Rattle.f90_names.proofs.calls.HidingLaws.{left_at, left_ended}
use Rattle.f90_read.proofs.making.hide_names.Goals as goal

pub hiding-init : goal.hiding-init
hiding-init c xs k = (xs, refl, k)

pub hiding-preserved : goal.hiding-preserved
hiding-preserved c xs k =
    let l : c.hiding.entity-index < length c.args.entities.now = first_of (omega arith, search rules) in
    let g : get_or c.args.entities.now c.hiding.entity-index c.entity-item.result ≡ c.entity-item.result =
    first_of (cc, search rules) in
    left_at (xs ++ names_of c.args.entities.now) c.args.entities.now c.hiding.entity-index c.entity-item.result
    c.hiding.functions c.hide.new.self l g
    (c.hiding.invariant xs k) c.in_ok-hide.ensures.ok

pub returns : goal.returns
returns c xs k =
    let l : length c.args.entities.now ≤ c.hiding.entity-index = first_of (omega arith, search rules) in
    left_ended (xs ++ names_of c.args.entities.now) c.args.entities.now c.hiding.entity-index c.hiding.functions l
    (c.hiding.invariant xs k)
