use Rattle.std.proofs.Common.{arith, ◌≡◌, ◌<◌, ◌≤◌, ◌++◌, ◌∷◌, [], length, get_or, Some, None, rules}
use Rattle.f90_lines.specs.Views.{statements_seen}
use Rattle.f90_blocks.proofs.places.OfForms.FormLaws.{none_left}
use Rattle.f90_blocks.proofs.places.OfForms.MarkLaws.{ended, forms_next, next_place, never_empty, lost_at}
use Rattle.f90_blocks.proofs.places.forms.placing.places.Goals as goal

pub returns-in-Some-None : goal.returns-in-Some-None
returns-in-Some-None c ps h =
    let l : c.placing.written-index < length c.args.statements.now = first_of (omega arith, search rules) in
    let g : get_or c.args.statements.now c.placing.written-index c.written-item.result ≡ c.written-item.result = first_of (cc, search rules) in
    let e : c.pop.result ≡ Some None = first_of (cc, search rules) in
    let f = forms_next _ _ c.pop.result None c.args.statements.now c.placing.written-index c.written-item.result c.pop.ensures.items e l g c.placing.invariant.forms_left in
    lost_at c.args.statements.now c.placing.written-index c.written-item.result ps l g f.0 h

pub returns-in-None : goal.returns-in-None
returns-in-None c ps h =
    let l : c.placing.written-index < length c.args.statements.now = first_of (omega arith, search rules) in
    let g : get_or c.args.statements.now c.placing.written-index c.written-item.result ≡ c.written-item.result = first_of (cc, search rules) in
    let n : length c.placing.left.items ≡ 0 = first_of (omega arith, grind arith, search rules) in
    absurd (never_empty c.placing.left.items c.args.statements.now c.placing.written-index c.written-item.result n l g c.placing.invariant.forms_left)

pub placing-preserved : goal.placing-preserved
placing-preserved c =
    let l : c.placing.written-index < length c.args.statements.now = first_of (omega arith, search rules) in
    let g : get_or c.args.statements.now c.placing.written-index c.written-item.result ≡ c.written-item.result = first_of (cc, search rules) in
    let e : c.pop.result ≡ Some (Some c.in-Some-Some.statement) = first_of (cc, search rules) in
    let f = forms_next _ _ c.pop.result (Some c.in-Some-Some.statement) c.args.statements.now c.placing.written-index c.written-item.result c.pop.ensures.items e l g c.placing.invariant.forms_left in
    let p : c.push.new.self ≡ c.placing.placed ++ c.place-next.result.0 ∷ [] = search rules in
    record {
      forms_left = f.1;
      so_far = rw p (
          next_place (statements_seen c.args.statements.now) c.args.statements.now c.placing.written-index c.written-item.result c.placing.placed c.placing.pending
          c.place-next.result.1 c.in-Some-Some.statement c.place-next.result.0 l g c.placing.invariant.so_far f.0 (c.place-next.ensures f.0.form f.0.is_of));
    }

pub returns : goal.returns
returns c =
    let l : length c.args.statements.now ≤ c.placing.written-index = first_of (omega arith, search rules) in
    ended _ _ c.placing.placed c.placing.pending (none_left c.args.statements.now c.placing.written-index l) c.placing.invariant.so_far
