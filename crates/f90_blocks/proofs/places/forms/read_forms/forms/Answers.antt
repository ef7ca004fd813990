use Rattle.std.proofs.Common.{arith, ◌≤◌, length, rules}
use Rattle.f90_blocks.proofs.places.OfForms.FormLaws.{all_read, none_left}
use Rattle.f90_blocks.proofs.places.forms.read_forms.forms.Goals as goal

pub returns : goal.returns
returns c =
    let l : length c.args.statements.now ≤ c.reading.written-index = first_of (omega arith, search rules) in
    all_read _ _ c.reading.forms (none_left c.args.statements.now c.reading.written-index l) c.reading.invariant
