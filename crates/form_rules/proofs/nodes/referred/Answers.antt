use Rattle.std.proofs.Common.{◌≤◌, ◌++◌, ◌∙◌, ap, length, sym, subst, ℕ, List, ◌^◌}
use Rattle.tree.specs.View.{reference_of}
use Rattle.linear_forms.specs.Linear.{limited, form_of_name}
use Rattle.linear_forms.specs.Affines.{IsFound}
use Rattle.tree.specs.Plain.{Named}
use Rattle.std.specs.Prelude.{◌||◌}
use Rattle.form_rules.proofs.Writing.{item_ready}
use Rattle.form_rules.proofs.nodes.referred.Goals as goal

pub returns : goal.returns
returns c =
    let loops = c.args.loops.now in
    let symbols = c.args.symbols.now in
    λ r made stands. c.settled.ensures (Named r.name r.subscripts)
    (item_ready loops symbols r c.args.item c.either-had_loop.result c.args.had_loop c.name_form-form.result made stands
    (c.either-had_loop.ensures ∙ ap (λ b. b || c.args.had_loop) c.is_among.ensures) (λ few. subst (λ (xs : List (List ℕ)). IsFound (length loops) (limited (length loops) (form_of_name (loops ++ xs) (reference_of c.args.item).name (reference_of c.args.item).subscripts)) c.name_form-form.result) c.as_slice.ensures
    (c.name_form-form.ensures few (subst (λ (xs : List (List ℕ)). length xs ≤ 2 ^ 16) (sym c.as_slice.ensures) c.requires))))
