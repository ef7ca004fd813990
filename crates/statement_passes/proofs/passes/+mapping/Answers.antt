use Rattle.std.proofs.Common.{◌≡◌, ◌+◌, ◌++◌, IfOk, List, map, sym, ap, ◌∙◌, subst, arith}
use Rattle.nest.specs.Plain as plain
use Rattle.nest.specs.View.{loop_of, part_of}
use Rattle.nest.specs.declared.parts.Part.{Part}
use Rattle.nest_steps.specs.Mapped.{count_of, mapped_parts_of, mapped_in}
use Rattle.statement_passes.proofs.PassLaws.{added-more, counted-more, counted-run, counted-turns, mapped-run, on-ok, turns-added}
use Rattle.statement_passes.proofs.passes.+mapping.Goals as goal

pub add_part-returns-in_ok-add_each-in-Run-clause-added : goal.add_part-returns-in_ok-add_each-in-Run-clause-added
add_part-returns-in_ok-add_each-in-Run-clause-added g t c =
    let e = g.S.StatementPass.each c.args.pass.now in
    on-ok c.one_more.result
    (subst (λ (p : Part). map part_of c.add_each.new.made ≡ map part_of c.args.made.now ++ mapped_parts_of e (map loop_of c.args.loops.now) c.args.number (part_of p)) (sym c.in-Run.is)
    (c.in_ok-add_each-in-Run.ensures.added ∙ ap (λ (xs : List plain.Part). map part_of c.args.made.now ++ xs) (sym (mapped-run e (map loop_of c.args.loops.now) c.args.number c.in-Run.stmt))))

pub add_part-returns-in_ok-add_each-in-Run-clause-counted : goal.add_part-returns-in_ok-add_each-in-Run-clause-counted
add_part-returns-in_ok-add_each-in-Run-clause-counted g t c =
    subst (λ m. IfOk c.one_more.result (λ next. next ≡ c.args.number + m)) (sym (ap (λ (p : Part). count_of (part_of p)) c.in-Run.is ∙ counted-run c.in-Run.stmt)) c.one_more.ensures

pub add_part-returns-in_ok-add_turns-in-Turns-clause-added : goal.add_part-returns-in_ok-add_turns-in-Turns-clause-added
add_part-returns-in_ok-add_turns-in-Turns-clause-added g t c =
    let e = g.S.StatementPass.each c.args.pass.now in
    let are : map part_of c.add_parts.new.made ≡ mapped_in e (map loop_of c.in_ok-inner-in-Turns.inner) c.args.number (plain.parts (map part_of c.in-Turns.body))
    = c.in_ok-next-in-Turns.ensures.added ∙ ap (λ (xs : List Part). map part_of xs ++ mapped_in e (map loop_of c.in_ok-inner-in-Turns.inner) c.args.number (plain.parts (map part_of c.in-Turns.body))) c.new-parts.ensures in
    subst (λ (p : Part). map part_of c.add_turns.new.made ≡ map part_of c.args.made.now ++ mapped_parts_of e (map loop_of c.args.loops.now) c.args.number (part_of p)) (sym c.in-Turns.is)
    (turns-added e (map loop_of c.args.loops.now) (map loop_of c.in_ok-inner-in-Turns.inner) c.args.number c.in-Turns.turns c.in-Turns.body (map part_of c.add_parts.new.made)
    (map part_of c.args.made.now) (map part_of c.add_turns.new.made) c.in_ok-inner-in-Turns.ensures are c.in_ok-add_turns-in-Turns.ensures)

pub add_part-returns-in_ok-add_turns-in-Turns-clause-counted : goal.add_part-returns-in_ok-add_turns-in-Turns-clause-counted
add_part-returns-in_ok-add_turns-in-Turns-clause-counted g t c =
    c.in_ok-next-in-Turns.ensures.counted
    ∙ ap (λ m. c.args.number + m) (sym (ap (λ (p : Part). count_of (part_of p)) c.in-Turns.is ∙ counted-turns c.in-Turns.turns c.in-Turns.body))

pub add_parts-loop-part-preserved : goal.add_parts-loop-part-preserved
add_parts-loop-part-preserved g t c =
    let each = g.S.StatementPass.each in
    record {
      added = added-more (each c.args.pass.now) (each c.loop-part.pass) (map loop_of c.args.loops.now) c.as_slice-part-items.result.now c.loop-part.part-index c.part-item.result c.args.number c.loop-part.next
          (map part_of c.args.made.now) (map part_of c.loop-part.made) (map part_of c.add_part.new.made) (omega arith) c.part-item.is c.loop-part.invariant.same c.loop-part.invariant.added c.loop-part.invariant.counted
          c.in_ok-next.ensures.added;
      counted = counted-more c.as_slice-part-items.result.now c.loop-part.part-index c.part-item.result c.args.number c.loop-part.next c.in_ok-next.next (omega arith) c.part-item.is
          c.loop-part.invariant.counted c.in_ok-next.ensures.counted;
      same = c.in_ok-next.ensures.same ∙ c.loop-part.invariant.same;
    }
