use Rattle.std.proofs.Common.{◌≡◌, ◌<◌, ℕ, true, false, length, get_or, take, sym, ◌∙◌, subst, arith}
use Rattle.std.proofs.lemmas.Bool.{both_ways}
use Rattle.std.proofs.lemmas.List.{take_more}
use Rattle.components.proofs.ListLaws.{Each-get}
use Rattle.closed_walks.specs.Distances.{IsSweep}
use Rattle.closed_walks.proofs.Loops.{marked_more}
use Rattle.closed_walks.proofs.distances.sweep.Goals as goal
use Rattle.closed_walks.proofs.distances.sweep.Goals.{then-any, else-any}

pub loop-from-preserved : goal.loop-from-preserved
loop-from-preserved c =
    let inside : c.loop-from.from-index < length c.args.pairs.now = omega arith in
    let pair : ℕ × ℕ = get_or c.args.pairs.now c.loop-from.from-index (0, 0) in
    let below : (pair.0 < length c.args.steps.now.items) × (pair.1 < length c.args.steps.now.items) = Each-get (λ p. (p.0 < length c.args.steps.now.items) × (p.1 < length c.args.steps.now.items)) c.args.pairs.now c.requires.below c.loop-from.from-index (0, 0) inside in
    let first : c.loop-from.any ≡ true → c.if-any.any ≡ true = λ e. elim c.if-any.branch [ then-any w ↦ w.any-is ∙ e | else-any w ↦ absurd (both_ways c.loop-from.any w.if-any.false e) ] in
    let second : c.mark-marked.result ≡ true → c.if-any.any ≡ true = λ e. elim c.if-any.branch [ then-any w ↦ w.any-is ∙ w.if-any.true | else-any w ↦ w.any-is ∙ e ] in
    let third : c.mark-marked.result ≡ false → c.if-any.any ≡ true → c.loop-from.any ≡ true = λ n e. elim c.if-any.branch [ then-any w ↦ w.if-any.true | else-any w ↦ absurd (both_ways c.mark-marked.result n (sym w.any-is ∙ e)) ] in
    subst (λ ps. IsSweep ps c.args.count c.args.steps.now.items c.mark-marked.new.steps.items c.if-any.any) (sym (take_more c.args.pairs.now c.loop-from.from-index (0, 0) inside))
    (marked_more (take c.loop-from.from-index c.args.pairs.now) c.args.count c.args.steps.now.items c.loop-from.steps.items c.mark-marked.new.steps.items c.loop-from.any c.mark-marked.result c.if-any.any c.loop-from.invariant pair.0 pair.1 below.0 c.mark-marked.ensures first second third)
