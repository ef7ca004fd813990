use Rattle.std.proofs.Common.{◌≡◌, length, nat_abs, arith, rules}
use Rattle.std.proofs.lemmas.Grind.{common_steps}
use Rattle.array_form.specs.holds.View.{loop_names}
use Rattle.array_form.proofs.TextLaws.{divided_ok}
use Rattle.array_form.proofs.trips.trip_text.Goals as goal

pub returns : goal.returns
returns c =
    let a = c.args.a.now in
    let t = c.args.trip in
    let seven : length t.top.loops ≡ 7 = search rules in
    let eight : length t.top.syms ≡ 8 = search rules in
    let names : c.as_slice-2.result.now ≡ loop_names a.loops = first_of (cc, search rules, grind (arith, common_steps)) in
    let by : c.unsigned_abs.result ≡ nat_abs t.by = first_of (search rules, grind (arith, common_steps)) in
    divided_ok a t c.as_slice-2.result.now c.unsigned_abs.result c.in_ok-whole.whole c.divided_text.result c.requires.loops seven eight c.requires.trip names by c.in_ok-whole.ensures c.divided_text.ensures
