use Rattle.std.proofs.Common.{◌≡◌, sym, ap, ap₂, ◌∙◌, ℕ, pos, int_div, ◌*ℤ◌}
use Rattle.std.proofs.Common.{rules, of_z}
use Rattle.std.specs.Prelude.{FitsSigned}
use Rattle.std.proofs.lemmas.Int.{to_z-of_z}
use mir.Syntax.{w128}
use Rattle.index_split.specs.Points.{front}
use Rattle.index_split.proofs.Multiples.{same_number, whole_quotient}
use Rattle.index_split.proofs.points.meeting.Goals as goal

pub returns-in-None : goal.returns-in-None
returns-in-None c n h e =
    let above : FitsSigned w128 c.gap-above.result = search rules in
    let by : FitsSigned w128 c.front.result = search rules in
    let all : FitsSigned w128 c.divided.result = search rules in
    c.in-None.ensures n h
    (to_z-of_z w128 c.divided.result all ∙ c.divided.ensures ∙ ap₂ int_div (to_z-of_z w128 _ above ∙ c.gap-above.ensures.value) (to_z-of_z w128 _ by ∙ c.front.ensures) ∙ whole_quotient n _ (front c.args.with.now) c.requires e)

pub returns-then-added-above : goal.returns-then-added-above
returns-then-added-above c n h e =
    let above : FitsSigned w128 c.gap-above.result = search rules in
    let by : FitsSigned w128 c.front.result = search rules in
    let all : FitsSigned w128 c.divided.result = search rules in
    let is : c.divided.result ≡ pos n
    = c.divided.ensures ∙ ap₂ int_div (to_z-of_z w128 _ above ∙ c.gap-above.ensures.value) (to_z-of_z w128 _ by ∙ c.front.ensures) ∙ whole_quotient n _ (front c.args.with.now) c.requires e in
    let same : c.in-Some.times ≡ n = same_number c.in-Some.times n (sym c.in-Some.ensures.1 ∙ to_z-of_z w128 c.divided.result all ∙ is) in
    c.if-added-above.true (ap (of_z w128) (c.added.ensures ∙ ap (λ (k : ℕ). pos k *ℤ front c.args.with.now) same ∙ e ∙ sym c.gap-above.ensures.value))
