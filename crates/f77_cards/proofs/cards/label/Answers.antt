use Rattle.std.proofs.Common.{arith, ◌≡◌, ◌+◌, ◌-◌, ◌*◌, get_or, Some, sym, unwrap_or, ◌∙◌, refl}
use Rattle.f77_cards.proofs.Labels.{label_in_field-none, label_step-digit, label_step-other}
use Rattle.f77_cards.proofs.cards.label.Goals as goal
use Rattle.f77_cards.proofs.cards.label.Goals.{then-is_ascii_digit, else-is_ascii_digit}

pub loop-column-init : goal.loop-column-init
loop-column-init c = (sym label_in_field-none, omega arith)

pub loop-column-preserved : goal.loop-column-preserved
loop-column-preserved c =
    let at = c.loop-column.column-index in
    let column = get_or c.args.field.now at 0 in
    elim c.if-is_ascii_digit.branch [
      | then-is_ascii_digit w ↦
          (let h = label_step-digit c.args.field.now at c.loop-column.label column c.loop-column-test.true c.loop-column.invariant.0 c.loop-column.invariant.1 refl (cc) in
          let e : c.if-is_ascii_digit.label ≡ Some (unwrap_or c.loop-column.label 0 * 10 + (column - 48)) = cc in
          (e ∙ h.0, rw e h.1))
      | else-is_ascii_digit w ↦
          (let h = label_step-other c.args.field.now at c.loop-column.label column c.loop-column-test.true c.loop-column.invariant.0 c.loop-column.invariant.1 refl (cc) in
          (w.label-is ∙ h.0, rw w.label-is h.1))
    ]
