use Rattle.std.proofs.Common.{◌≡◌, ◌∙◌, ◌+◌, ◌*◌, ◌≤◌, ◌<◌, ◌^◌, ap, sym, subst, rules, arith, ℤ, pos, nat_abs, Bool, true, false, not, Some, List, [], ◌∷◌, ◌++◌, map, filter, length, SFits, to_z, of_z, option_map, IfSome}
use Rattle.tree.specs.View.{expression_of}
use Rattle.meaning.specs.Reads.{names_in}
use Rattle.linear_forms.specs.Linear.{form_of}
use Rattle.linear_forms.specs.Affines.{IsFound}
use Rattle.find_nests.specs.bound_limits.Composed.{with_multiples, symbol_terms, is_loop_among, outer_variables_of}
use Rattle.find_nests.specs.bound_limits.View.{wide_form_of, outer_of}
use Rattle.find_nests.proofs.BoundLimits.AroundLaws.{bound-some}
use Rattle.find_nests.proofs.bound_limits.around.bound_form.Goals as goal

pub returns-clause-value : goal.returns-clause-value
returns-clause-value c =
    let e = expression_of c.args.bound.now in
    let around = map outer_of c.args.around.now in
    let symbols = c.args.symbols.now in
    let form = c.in-Some.form in
    let base = wide_form_of c.in_ok-terms.terms in
    let whole = wide_form_of c.in_ok-whole.whole in
    let names : c.as_slice.result.now ≡ names_in e = c.as_slice.ensures ∙ c.in_ok-names.ensures in
    let names_too : c.as_slice-3.result.now ≡ names_in e = c.as_slice-3.ensures ∙ c.in_ok-names.ensures in
    let variables : c.as_slice-2.result.now ≡ outer_variables_of (filter (is_loop_among (names_in e)) around) =
    c.as_slice-2.ensures ∙ c.in_ok-variables.ensures ∙ ap (λ ns. outer_variables_of (filter (is_loop_among ns) around)) names in
    let found : IsFound (length (outer_variables_of (filter (is_loop_among (names_in e)) around))) (form_of (outer_variables_of (filter (is_loop_among (names_in e)) around)) symbols e) (Some form) =
    subst (λ l. IsFound (length l) (form_of l symbols e) (Some form)) variables c.in-Some.ensures in
    let count : c.len.result ≡ length symbols = search rules in
    let seven : length form.loops ≡ 7 = search rules in
    bound-some symbols around e form whole base seven found
    (λ k f i. c.in_ok-terms.ensures.value k f i ∙ ap (λ n. symbol_terms n k f) count)
    (subst (λ ns. length (filter (is_loop_among ns) around) ≤ length form.loops → whole ≡ with_multiples base form.loops (filter (is_loop_among ns) around)) names_too c.in_ok-whole.ensures.value)
