use Rattle.std.proofs.Common.{◌≡◌, ◌<◌, ℕ, ℤ, pos, get_or, length, slice_set, refl, ap, ◌∙◌, rules, arith}
use Rattle.std.proofs.lemmas.Grind.{common_steps}
use Rattle.statement_passes.specs.Symbols.{shifted_term}
use Rattle.statement_passes.proofs.Placing.{one_more_done}
use Rattle.statement_passes.proofs.symbols.shifted.Goals as goal

pub loop-place-init : goal.loop-place-init
loop-place-init c = record { eight = first_of (omega arith, search rules, grind (arith, common_steps)); terms = refl }

pub loop-place-preserved : goal.loop-place-preserved
loop-place-preserved c =
    let f : ℕ × ℤ → ℕ × ℤ = shifted_term c.args.at in
    let s = c.args.form.syms in
    let i = c.loop-place.place in
    let within : i < length s = first_of (omega arith, grind (arith, common_steps)) in
    let is : c.in_ok-syms.field-0 ≡ f (get_or c.loop-place.syms i (0, pos 0)) = first_of (cc, search rules, grind (arith, common_steps)) in
    record {
      eight = first_of (omega arith, search rules, grind (arith, common_steps));
      terms =
          ap (λ ts. slice_set c.loop-place.syms i ts) is
          ∙ ap (λ ts. slice_set ts i (f (get_or ts i (0, pos 0)))) c.loop-place.invariant.terms
          ∙ one_more_done f s i (0, pos 0) within;
    }
