use Rattle.std.proofs.Common.{arith, ◌≡◌, ◌<◌, ◌≤◌, [], length, get_or, refl, rules}
use Rattle.f90_read.proofs.HiddenLaws.{all_declared, declared_at, hidden_all}
use Rattle.f90_read.proofs.making.functions_of.Goals as goal

pub hiding-init : goal.hiding-init
hiding-init c = ([], refl, c.new-functions.ensures)

pub hiding-preserved : goal.hiding-preserved
hiding-preserved c =
    let l : c.hiding.placed-index < length c.args.text.now = first_of (omega arith, search rules) in
    let g : get_or c.args.text.now c.hiding.placed-index c.placed-item.result ≡ c.placed-item.result =
    first_of (cc, search rules) in
    declared_at (all_declared c.args.text.now) c.args.text.now c.hiding.placed-index c.placed-item.result
    c.hiding.functions c.hide_declared.new.functions l g
    c.hiding.invariant c.in_ok-hide_declared.ensures

pub returns : goal.returns
returns c ps a =
    let l : length c.args.text.now ≤ c.hiding.placed-index = first_of (omega arith, search rules) in
    hidden_all c.args.text.now ps c.hiding.placed-index c.hiding.functions l c.hiding.invariant a
