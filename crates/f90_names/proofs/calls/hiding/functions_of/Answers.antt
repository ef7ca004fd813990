use Rattle.std.proofs.Common.{arith, ◌≡◌, ◌<◌, ◌≤◌, [], length, get_or, refl, rules}
use Rattle.f90_names.proofs.calls.HidingLaws.{declared_at, declared_names, hidden_all}
use Rattle.f90_names.proofs.calls.hiding.functions_of.Goals as goal

pub hiding-init : goal.hiding-init
hiding-init c = ([], refl, c.new-functions.ensures)

pub hiding-preserved : goal.hiding-preserved
hiding-preserved c =
    let l : c.hiding.form-index < length c.args.forms.now = first_of (omega arith, search rules) in
    let g : get_or c.args.forms.now c.hiding.form-index c.form-item.result ≡ c.form-item.result
    = first_of (cc, search rules) in
    declared_at (declared_names c.args.forms.now) c.args.forms.now c.hiding.form-index c.form-item.result
    c.hiding.functions c.hide_declared.new.functions l g
    c.hiding.invariant c.in_ok-hide_declared.ensures

pub returns : goal.returns
returns c ss a =
    let l : length c.args.forms.now ≤ c.hiding.form-index = first_of (omega arith, search rules) in
    hidden_all c.args.forms.now c.hiding.form-index c.hiding.functions ss l c.hiding.invariant a
