use Rattle.std.proofs.Common.{◌∙◌, ◌+◌, ◌++◌, List, ap, length, map}
use Rattle.tree.specs.Plain.{Reference}
use Rattle.tree.specs.View.{reference_of}
use Rattle.tree.specs.declared.exprs.Ref.{Ref}
use Rattle.nest.specs.View.{guarded_of, loop_of, made_of, nest_of}
use Rattle.node_splitting.specs.Arrays.{arrays}
use Rattle.node_splitting.specs.Split.{reads_at}
use Rattle.node_splitting.specs.View.{may_of}
use Rattle.node_splitting.proofs.nests.add_plan.Goals as goal

pub returns-clause-arrays : goal.returns-clause-arrays
returns-clause-arrays c =
    let ls = map loop_of c.args.standing.now.loops in
    let g = guarded_of c.args.standing.now.stmt in
    let more = λ (rs : List Reference). map made_of c.args.plan.now.arrays ++ arrays (nest_of c.args.nest.now) ls c.args.plan.now.copies rs in
    c.in_ok-add_arrays.ensures
    ∙ (ap (λ (rs : List Ref). more (map reference_of rs)) c.as_slice-reads.ensures
    ∙ ap more (c.in_ok-split.ensures.reads ∙ ap (λ n. reads_at (may_of c.args.choice.now) n ls c.args.number g) c.in_ok-count.ensures))

pub returns-clause-copies : goal.returns-clause-copies
returns-clause-copies c =
    let ls = map loop_of c.args.standing.now.loops in
    let g = guarded_of c.args.standing.now.stmt in
    c.in_ok-split.ensures.copies
    ∙ ap (λ n. c.args.plan.now.copies + length (reads_at (may_of c.args.choice.now) n ls c.args.number g)) c.in_ok-count.ensures
