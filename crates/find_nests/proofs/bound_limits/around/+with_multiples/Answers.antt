use Rattle.std.proofs.Common.{◌≡◌, ◌∙◌, ◌+◌, ◌-◌, ◌*◌, ◌≤◌, ◌<◌, ◌^◌, ap, sym, subst, rules, arith, ℤ, pos, nat_abs, Bool, true, false, not, Some, List, [], ◌∷◌, ◌++◌, map, filter, length, SFits, to_z, of_z, option_map, IfSome}
use Rattle.linear_forms.specs.Linear.{sum, multiple}
use Rattle.find_nests.specs.bound_limits.Composed.{is_loop_among}
use Rattle.find_nests.specs.bound_limits.View.{wide_form_of, outer_of, IsSized}
use Rattle.find_nests.proofs.BoundLimits.AroundLaws.{with_one}
use Rattle.find_nests.proofs.BoundLimits.SizeLaws.{sized_one_more, small_first, small_rest}
use Rattle.find_nests.proofs.bound_limits.around.+with_multiples.Goals as goal

pub with_multiples-requires-2 : goal.with_multiples-requires-2
with_multiples-requires-2 t c =
    let first = c.in-Some-split_first.first.now in
    let rest = c.in-Some-split_first.rest.now in
    let outer = c.in-Some.outer.now in
    let inner = c.in-Some.inner.now in
    let times : c.args.times.now ≡ first ∷ rest = search rules in
    let around : c.args.around.now ≡ outer ∷ inner = search rules in
    let outers : map outer_of c.args.around.now ≡ outer_of outer ∷ map outer_of inner = ap (map outer_of) around in
    let more : wide_form_of c.in_ok-more.more ≡ sum (wide_form_of c.args.sum) (multiple c.widened.result (wide_form_of outer.form)) = search rules in
    let sized : IsSized (2 ^ 107 - length rest * 2 ^ 104) (wide_form_of c.in_ok-more.more) =
    sized_one_more (wide_form_of c.args.sum) (wide_form_of outer.form) (wide_form_of c.in_ok-more.more) c.widened.result c.args.times.now rest first times
    c.requires.few c.requires.sized c.widened.ensures.size (small_first (map outer_of c.args.around.now) (map outer_of inner) (outer_of outer) outers c.requires.small) more in
    (search rules, (search rules, (sized, small_rest (map outer_of c.args.around.now) (map outer_of inner) (outer_of outer) outers c.requires.small)))

pub returns-clause-value : goal.returns-clause-value
returns-clause-value t c =
    let first = c.in-Some-split_first.first.now in
    let rest = c.in-Some-split_first.rest.now in
    let outer = c.in-Some.outer.now in
    let inner = c.in-Some.inner.now in
    let times : c.args.times.now ≡ first ∷ rest = search rules in
    let around : c.args.around.now ≡ outer ∷ inner = search rules in
    let outers : map outer_of c.args.around.now ≡ outer_of outer ∷ map outer_of inner = ap (map outer_of) around in
    let number : c.widened.result ≡ first = search rules in
    let more : wide_form_of c.in_ok-more.more ≡ sum (wide_form_of c.args.sum) (multiple c.widened.result (wide_form_of outer.form)) = search rules in
    let added : wide_form_of c.in_ok-more.more ≡ sum (wide_form_of c.args.sum) (multiple first (wide_form_of outer.form)) =
    more ∙ ap (λ k. sum (wide_form_of c.args.sum) (multiple k (wide_form_of outer.form))) number in
    let stands : is_loop_among c.args.names.now (outer_of outer) ≡ true = search rules in
    with_one c.args.names.now (wide_form_of c.args.sum) (wide_form_of c.in_ok-more.more) (wide_form_of c.in_ok-whole.whole) c.args.times.now rest first
    (outer_of outer) (map outer_of inner) (map outer_of c.args.around.now) outers stands times added c.in_ok-whole.ensures.value
