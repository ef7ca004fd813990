use Rattle.std.proofs.Common.{◌≡◌, ◌++◌, ◌+◌, ◌∙◌, [], None, true, false, ap, map, rules, arith, subst, refl, sym}
use Rattle.nest.specs.Plain as P
use Rattle.nest.specs.View.{branch_of, loop_of, part_of}
use Rattle.nest.specs.declared.parts.Part.TheVariants as variants
use Rattle.nest.proofs.Equations.{part_of-choice, part_of-jump, part_of-label, part_of-run, part_of-turns}
use Rattle.if_convert.specs.Arms.{ArmsLeft, IsAdded, converted_arms, converted_list, jumps_in_arms, jumps_in_list}
use Rattle.if_convert.specs.Converted.{choice_at, converted}
use Rattle.if_convert.specs.Masks.{asks}
use Rattle.if_convert.specs.Points.{Converted, entered, unless_skipped}
use Rattle.if_convert.specs.declared.points.MaskPoint.{MaskPoint}
use Rattle.if_convert.proofs.BodyLaws.{parts-next, arm-made, arms-begin, arms-next, choice-added, drop_end, else-end, loop-added, on_ok, pushed, skip-added}
use Rattle.if_convert.proofs.bodies.+bodies.Goals as goal

pub add_arm-returns : goal.add_arm-returns
add_arm-returns t c =
    on_ok c.add_block.result (λ added.
    arm-made c.args.line c.args.arm.now c.args.point.now c.in_ok-next.next c.add_block.new.point (map part_of c.args.made.now) (map part_of c.add_asked.new.made) (map part_of c.add_block.new.made)
    c.in_ok-next.ensures (c.in_ok-add_asked.ensures ∙ ap (λ e. map part_of c.args.made.now ++ asks c.args.line c.args.point.now.guard c.args.point.now.mask e) c.in_ok-copy.ensures) added) c.add_block.ensures

pub add_arms-loop-arm-preserved : goal.add_arms-loop-arm-preserved
add_arms-loop-arm-preserved t c = λ other all old h.
    arms-next c.args.line c.loop-arm.last c.as_slice-arm-items.result.now c.loop-arm.arm-index c.arm-item.result other c.loop-arm.point c.begin_rest.new.self c.add_arm.new.point
    (map part_of c.loop-arm.made) (map part_of c.begin_rest.new.made) (map part_of c.add_arm.new.made) all old c.loop-arm-test.true c.arm-item.is
    (c.loop-arm.invariant other all old h) c.in_ok-begin_rest.ensures c.in_ok-add_arm.ensures

pub add_arms-returns : goal.add_arms-returns
add_arms-returns t c = λ other all old h.
    let same : c.as_slice-arm-items.result.now ≡ c.args.arms.now = c.as_slice-arm-items.ensures in
    let begun = subst (λ xs. ArmsLeft c.args.line None (map branch_of xs) other c.args.point.now (map part_of c.args.made.now) all old) (sym same) h in
    subst (λ xs. ArmsLeft c.args.line c.loop-arm.last (map branch_of xs) other c.loop-arm.point (map part_of c.loop-arm.made) all old)
    (drop_end c.as_slice-arm-items.result.now c.loop-arm.arm-index c.loop-arm-test.false) (c.loop-arm.invariant other all old begun)

pub add_else-returns : goal.add_else-returns
add_else-returns t c =
    let some : c.args.other.now ≡ [] → ⊥ = (λ e. first_of (search rules, grind (arith, e), cc)) in
    on_ok c.add_block.result (λ added. λ all old left.
    else-end c.args.line c.args.last [] c.args.other.now c.args.point.now c.begin_rest.new.self c.add_block.new.point
    (map part_of c.args.made.now) (map part_of c.begin_rest.new.made) (map part_of c.add_block.new.made) all old refl some left c.in_ok-begin_rest.ensures added) c.add_block.ensures

pub add_parts-loop-part-preserved : goal.add_parts-loop-part-preserved
add_parts-loop-part-preserved t c =
    parts-next c.args.line c.args.deep c.args.own c.as_slice-part-items.result.now c.loop-part.part-index c.part-item.result c.loop-part.point c.add_part.new.point
    (map part_of c.loop-part.made) (map part_of c.add_part.new.made)
    (converted_list c.args.line c.args.deep c.args.own (map part_of c.as_slice-part-items.result.now) c.args.point.now) (map part_of c.args.made.now)
    c.loop-part-test.true c.part-item.is c.loop-part.invariant c.in_ok-add_part.ensures

pub add_loop-returns : goal.add_loop-returns
add_loop-returns t c =
    let line = c.args.line in
    let p = c.args.point.now in
    let body = map part_of c.args.body.now in
    let within = map part_of c.add_parts.new.made in
    let inner : c.entered-inner.result ≡ entered None p.mask p.mask = c.entered-inner.ensures in
    let none : map part_of c.new-parts.result ≡ [] = ap (map part_of) c.new-parts.ensures in
    let added : IsAdded line (converted_list line false None body (entered None p.mask p.mask)) c.add_parts.new.point [] within
    = subst (λ ps. IsAdded line (converted_list line false None body (entered None p.mask p.mask)) c.add_parts.new.point ps within) none
    (subst (λ (q : MaskPoint). IsAdded line (converted_list line false None body q) c.add_parts.new.point (map part_of c.new-parts.result) within) inner c.in_ok-add_parts.ensures) in
    on_ok c.push.result (λ now.
    loop-added line (loop_of c.args.turns.now) body p c.add_parts.new.point within (map part_of c.args.made.now) (map part_of c.push.new.self) c.if-point.false added
    (pushed c.args.made.now c.push.new.self (variants.Turns c.in_ok-copy.field-0 c.add_parts.new.made) (P.Turns (loop_of c.args.turns.now) (P.parts within))
    (part_of-turns c.in_ok-copy.field-0 c.add_parts.new.made ∙ ap (λ (l : P.Loop). P.Turns l (P.parts within)) c.in_ok-copy.ensures) now)) c.push.ensures.ok

pub add_part-returns-then-point : goal.add_part-returns-then-point
add_part-returns-then-point t c =
    let line = c.args.line in
    let p = c.args.point.now in
    subst (λ (q : P.Part). IsAdded line (converted line c.args.deep c.args.own q p) p (map part_of c.args.made.now) (map part_of c.args.made.now))
    (sym (ap part_of c.in-Choice.is ∙ part_of-choice c.in-Choice.arms c.in-Choice.other))
    (skip-added line p
    (choice_at c.args.deep c.args.own (jumps_in_arms (map branch_of c.in-Choice.arms) + jumps_in_list false (map part_of c.in-Choice.other)) p
    (converted_arms line (map branch_of c.in-Choice.arms) (map part_of c.in-Choice.other))) (map part_of c.args.made.now) c.if-point.true)

pub add_part-returns-in-Run : goal.add_part-returns-in-Run
add_part-returns-in-Run t c =
    on_ok c.keep.result (λ added.
    subst (λ (q : P.Part). IsAdded c.args.line (converted c.args.line c.args.deep c.args.own q c.args.point.now) c.args.point.now (map part_of c.args.made.now) (map part_of c.keep.new.made))
    (sym (ap part_of c.in-Run.is ∙ part_of-run c.in-Run.stmt)) added) c.keep.ensures

pub add_part-returns-in-Turns : goal.add_part-returns-in-Turns
add_part-returns-in-Turns t c =
    on_ok c.add_loop.result (λ added.
    subst (λ (q : P.Part). IsAdded c.args.line (converted c.args.line c.args.deep c.args.own q c.args.point.now) c.add_loop.new.point (map part_of c.args.made.now) (map part_of c.add_loop.new.made))
    (sym (ap part_of c.in-Turns.is ∙ part_of-turns c.in-Turns.turns c.in-Turns.body)) added) c.add_loop.ensures

pub add_part-returns-in_ok-add_else-in-Choice : goal.add_part-returns-in_ok-add_else-in-Choice
add_part-returns-in_ok-add_else-in-Choice t c =
    let line = c.args.line in
    let p = c.args.point.now in
    let q = c.number.new.self in
    let bs = map branch_of c.in-Choice.arms in
    let other = map part_of c.in-Choice.other in
    let n = jumps_in_arms bs + jumps_in_list false other in
    let count : c.in_ok-jumps-in-Choice.jumps ≡ n = c.in_ok-jumps-in-Choice.ensures in
    let made = map part_of c.args.made.now in
    let cleared = map part_of c.clear.new.made in
    let middle = map part_of c.add_else.new.made in
    let new = map part_of c.rejoin.new.made in
    let arms = converted_arms line bs other in
    let all : Converted = arms q.guard q.jump q.mask in
    let begun : ArmsLeft line None bs other c.entered-end.result cleared all cleared
    = subst (λ (e : MaskPoint). ArmsLeft line None bs other e cleared all cleared) (sym c.entered-end.ensures) (arms-begin line bs other q.guard q.jump q.mask cleared) in
    let ended = c.in_ok-add_else-in-Choice.ensures all cleared (c.in_ok-last-in-Choice.ensures other all cleared begun) in
    on_ok c.rejoin.result (λ added.
    subst (λ (x : P.Part). IsAdded line (converted line c.args.deep c.args.own x p) c.rejoin.new.self made new)
    (sym (ap part_of c.in-Choice.is ∙ part_of-choice c.in-Choice.arms c.in-Choice.other))
    (subst (λ k. IsAdded line (unless_skipped p.skips p (choice_at c.args.deep c.args.own k p arms)) c.rejoin.new.self made new) count
    (choice-added line c.args.deep c.args.own c.in_ok-jumps-in-Choice.jumps arms p q c.add_else.new.point c.rejoin.new.self made cleared middle new c.if-point.false
    c.in_ok-number-in-Choice.ensures c.in_ok-clear-in-Choice.ensures ended added))) c.rejoin.ensures

pub add_part-returns-in-Label : goal.add_part-returns-in-Label
add_part-returns-in-Label t c =
    on_ok c.pass.result (λ added.
    subst (λ (q : P.Part). IsAdded c.args.line (converted c.args.line c.args.deep c.args.own q c.args.point.now) c.pass.new.self (map part_of c.args.made.now) (map part_of c.pass.new.made))
    (sym (ap part_of c.in-Label.is ∙ part_of-label c.in-Label.label)) added) c.pass.ensures

pub add_part-returns-in-Jump : goal.add_part-returns-in-Jump
add_part-returns-in-Jump t c =
    on_ok c.go_to.result (λ added.
    subst (λ (q : P.Part). IsAdded c.args.line (converted c.args.line c.args.deep c.args.own q c.args.point.now) c.go_to.new.self (map part_of c.args.made.now) (map part_of c.go_to.new.made))
    (sym (ap part_of c.in-Jump.is ∙ part_of-jump c.in-Jump.label)) added) c.go_to.ensures
