-- What was made so far, and what stands for what is left, are all.
use Rattle.std.proofs.Common.{List, map, drop, None}
use Rattle.nest.specs.Plain as plain
use Rattle.nest.specs.View.{branch_of, part_of}
use Rattle.if_convert.specs.Arms.{ArmsLeft, converted_list}
use Rattle.if_convert.specs.Points.{Converted}
use Rattle.if_convert.proofs.BodyLaws.{PartsLeft}
use Rattle.if_convert.proofs.bodies.+bodies.Given as goal

abbrev pub invariant-add_parts-loop-part : goal.invariant-add_parts-loop-part
invariant-add_parts-loop-part l =
    PartsLeft l.line l.deep l.own (map part_of (drop l.part-index l.part-items)) l.point (map part_of l.made)
    (converted_list l.line l.deep l.own (map part_of l.part-items) l.initial.point) (map part_of l.initial.made)

abbrev pub invariant-add_arms-loop-arm : goal.invariant-add_arms-loop-arm
invariant-add_arms-loop-arm l =
    (other : List plain.Part) (all : Converted) (old : List plain.Part)
    → ArmsLeft l.line None (map branch_of l.arm-items) other l.initial.point (map part_of l.initial.made) all old
    → ArmsLeft l.line l.last (map branch_of (drop l.arm-index l.arm-items)) other l.point (map part_of l.made) all old
