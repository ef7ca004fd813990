use Rattle.std.proofs.Common.{◌<◌, ◌∷◌, ◌++◌, [], ℕ, length, get_or, set, take, sym, ap, ◌∙◌, subst, arith}
use Rattle.std.proofs.lemmas.List.{take_more, get_or_read}
use Rattle.components.proofs.ListLaws.{Each-get}
use Rattle.components.specs.Targets.{AreTargets}
use Rattle.components.proofs.Adding.{no_targets, one_target_more}
use Rattle.components.proofs.rows.rows_of.Goals as goal

pub loop-from-init : goal.loop-from-init
loop-from-init c = subst (AreTargets c.args.n []) (sym c.in_ok-rows.ensures) (no_targets c.args.n)

pub loop-from-preserved : goal.loop-from-preserved
loop-from-preserved c =
    let inside : c.loop-from.from-index < length c.args.pairs.now = omega arith in
    let pair : ℕ × ℕ = get_or c.args.pairs.now c.loop-from.from-index (0, 0) in
    let below : (pair.0 < c.args.n) × (pair.1 < c.args.n) = Each-get (λ p. (p.0 < c.args.n) × (p.1 < c.args.n)) c.args.pairs.now c.requires c.loop-from.from-index (0, 0) inside in
    let listed : pair.0 < length c.loop-from.rows.items = subst (λ z. pair.0 < z) (sym c.loop-from.invariant.count) below.0 in
    let value = get_or_read c.loop-from.rows.items pair.0 c.index_mut.result.now listed c.index_mut.ensures.value [] in
    subst (λ ps. AreTargets c.args.n ps (set c.loop-from.rows.items pair.0 c.push.new.self)) (sym (take_more c.args.pairs.now c.loop-from.from-index (0, 0) inside))
    (one_target_more c.args.n (take c.loop-from.from-index c.args.pairs.now) c.loop-from.rows.items (set c.loop-from.rows.items pair.0 c.push.new.self) pair.0 pair.1 below.0 c.loop-from.invariant
    (ap (set c.loop-from.rows.items pair.0) (c.in_ok-push.ensures.ok ∙ ap (λ z. z ++ pair.1 ∷ []) value)))
