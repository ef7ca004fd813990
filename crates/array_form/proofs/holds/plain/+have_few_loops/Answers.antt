use Rattle.std.proofs.Common.{◌≡◌, ◌<◌, ◌≤◌, ◌∷◌, length, rules}
use Rattle.array_form.proofs.holds.Asked.{few_more, many_loops}
use Rattle.array_form.proofs.holds.plain.+have_few_loops.Goals as goal

pub returns-then-len-gt7 : goal.returns-then-len-gt7
returns-then-len-gt7 t c =
    let whole : c.args.all.now ≡ c.in-Some.first.now ∷ c.in-Some.rest.now = search rules in
    let many : 7 < length c.in-Some.first.now.loops = search rules in
    many_loops c.args.all.now c.in-Some.rest.now c.in-Some.first.now whole many

pub returns : goal.returns
returns t c =
    let whole : c.args.all.now ≡ c.in-Some.first.now ∷ c.in-Some.rest.now = search rules in
    let few : length c.in-Some.first.now.loops ≤ 7 = search rules in
    few_more c.args.all.now c.in-Some.rest.now c.in-Some.first.now c.have_few_loops.result whole few c.have_few_loops.ensures
