use Rattle.std.proofs.Common.{◌≡◌, length, nat_abs, arith, rules}
use Rattle.std.proofs.lemmas.Grind.{common_steps}
use Rattle.array_form.proofs.SectionLaws.{whole_trip, divided_trip}
use Rattle.array_form.proofs.section_bounds.trip_form.Goals as goal

pub returns-then-unsigned_abs-eq1 : goal.returns-then-unsigned_abs-eq1
returns-then-unsigned_abs-eq1 c =
    let t = c.args.trip in
    let seven : length t.top.loops ≡ 7 = search rules in
    let eight : length t.top.syms ≡ 8 = search rules in
    let by : c.unsigned_abs.result ≡ nat_abs t.by = first_of (search rules, grind (arith, common_steps)) in
    let one : nat_abs t.by ≡ 1 = cc in
    whole_trip c.args.a.now t c.requires.places.loops seven eight c.requires.trip one

pub returns : goal.returns
returns c =
    let t = c.args.trip in
    let by : c.unsigned_abs.result ≡ nat_abs t.by = first_of (search rules, grind (arith, common_steps)) in
    let other : nat_abs t.by ≡ 1 → ⊥ = λ (e : nat_abs t.by ≡ 1). c.if-unsigned_abs-eq1.false (cc) in
    divided_trip c.args.a.now t c.len.result other c.len.ensures
