-- What was added so far is what is made of the parts so far, as many statements were counted, and the pass makes what
-- it made.
use Rattle.std.proofs.Common.{◌≡◌, ◌+◌, ◌++◌, map, take}
use Rattle.nest.specs.Plain.{parts}
use Rattle.nest.specs.View.{loop_of, part_of}
use Rattle.nest_steps.specs.Mapped.{count_in, mapped_in}
use Rattle.statement_passes.proofs.passes.+mapping.Given as goal

abbrev pub invariant-add_parts-loop-part : goal.invariant-add_parts-loop-part
invariant-add_parts-loop-part g l =
    let each = g.S.StatementPass.each in
    record {
      added : map part_of l.made ≡ map part_of l.fn.made
          ++ mapped_in (each l.fn.pass) (map loop_of l.loops) l.fn.number (parts (map part_of (take l.part-index l.part-items)));
      counted : l.next ≡ l.fn.number + count_in (parts (map part_of (take l.part-index l.part-items)));
      same : each l.pass ≡ each l.fn.pass;
    }
