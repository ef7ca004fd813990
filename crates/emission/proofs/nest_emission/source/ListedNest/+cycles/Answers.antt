use Rattle.std.proofs.Common.{sym, subst, arith, rules}
use Rattle.std.specs.Prelude.{All}
use Rattle.components.specs.Lists.{Rises}
use Rattle.emission.specs.nest_emission.Cycles.{AddCycles, AreCyclesFor}
use Rattle.emission.specs.nest_emission.Given.{IsClass, nest_in}
use Rattle.emission.proofs.nest_emission.ClassLaws.{classes_are}
use Rattle.emission.proofs.nest_emission.CycleLaws.{classes_rise, formed_adds, kept_adds, loop_adds, none_yet, one_more, rises_once, turning_adds, walks_given}
use Rattle.emission.proofs.nest_emission.source.ListedNest.+cycles.Goals as goal

pub add_of_class-returns-in-Kept : goal.add_of_class-returns-in-Kept
add_of_class-returns-in-Kept t c =
    kept_adds (nest_in c.args.self.now) c.args.self.now.edges.now c.args.self.now.holds.now c.args.level c.args.class.now c.in-Kept.field-0 c.args.cycles.now c.in-Kept.ensures

pub add_of_class-returns-in-Formed : goal.add_of_class-returns-in-Formed
add_of_class-returns-in-Formed t c =
    formed_adds (nest_in c.args.self.now) c.args.self.now.edges.now c.args.self.now.holds.now c.args.level c.args.class.now c.in-Formed.field-0 c.args.cycles.now c.in-Formed.ensures

pub add_of_class-returns-in-Turning : goal.add_of_class-returns-in-Turning
add_of_class-returns-in-Turning t c =
    turning_adds (nest_in c.args.self.now) c.args.self.now.edges.now c.args.self.now.holds.now c.args.level c.args.class.now c.add_of_loop.result c.args.cycles.now c.add_of_loop.new.cycles
    c.requires.from_one c.requires.rises c.requires.class.inside c.in-Turning.ensures.0 c.in-Turning.ensures.1 c.add_of_loop.ensures

pub add_of_loop-add_walks-requires-clause-few : goal.add_of_loop-add_walks-requires-clause-few
add_of_loop-add_walks-requires-clause-few t c =
    walks_given c.args.self.now c.requires.source c.args.class.now c.requires.class.inside c.args.level c.in_ok-walks.walks c.as_slice.result.now c.in_ok-walks.ensures c.as_slice.ensures

pub add_of_loop-returns : goal.add_of_loop-returns
add_of_loop-returns t c =
    loop_adds (nest_in c.args.self.now) c.args.self.now.edges.now c.args.self.now.holds.now c.args.level c.args.class.now c.in_ok-walks.walks c.as_slice.result.now c.add_of_part.result
    c.args.cycles.now c.add_walks.new.cycles c.add_of_part.new.cycles c.in_ok-walks.ensures c.as_slice.ensures c.in_ok-add_walks.ensures c.add_of_part.ensures

pub add_of_part-classes_at-requires : goal.add_of_part-classes_at-requires
add_of_part-classes_at-requires t c = rises_once c.args.part.now c.requires.rises

pub add_of_part-loop-class-init : goal.add_of_part-loop-class-init
add_of_part-loop-class-init t c =
    none_yet (nest_in c.args.self.now) c.args.self.now.edges.now c.args.self.now.holds.now c.args.level c.args.cycles.now

pub add_of_part-add_of_class-requires : goal.add_of_part-add_of_class-requires
add_of_part-add_of_class-requires t c =
    let once = rises_once c.args.part.now c.requires.rises in
    let all : All (IsClass (nest_in c.args.self.now) c.args.level) c.as_slice-class-items.result.now =
    subst (All (IsClass (nest_in c.args.self.now) c.args.level)) (sym c.as_slice-class-items.ensures)
    (classes_are (nest_in c.args.self.now) c.args.self.now.edges.now c.args.level c.args.part.now c.in_ok-classes.classes c.requires.source.edges once c.requires.inside c.in_ok-classes.ensures) in
    let rise : All Rises c.as_slice-class-items.result.now =
    subst (All Rises) (sym c.as_slice-class-items.ensures) (classes_rise c.args.self.now.edges.now c.args.level c.args.part.now c.in_ok-classes.classes c.requires.rises c.in_ok-classes.ensures) in (
      first_of (omega arith, search rules, grind arith),
      (
        c.requires.source,
        (
          c.requires.from_one,
          (
            subst (IsClass (nest_in c.args.self.now) c.args.level) (sym c.as_slice.ensures)
                (subst (IsClass (nest_in c.args.self.now) c.args.level) (sym c.class-item.is) (all c.loop-class.class-index c.class-item.result (omega arith))),
            subst Rises (sym c.as_slice.ensures) (subst Rises (sym c.class-item.is) (rise c.loop-class.class-index c.class-item.result (omega arith))),
          ),
        ),
      ),
    )

pub add_of_part-loop-class-preserved : goal.add_of_part-loop-class-preserved
add_of_part-loop-class-preserved t c =
    one_more (nest_in c.args.self.now) c.args.self.now.edges.now c.args.self.now.holds.now c.args.level c.as_slice-class-items.result.now c.loop-class.class-index c.class-item.result
    c.args.cycles.now c.loop-class.cycles c.add_of_class.new.cycles (omega arith) c.class-item.is c.loop-class.invariant
    (subst (λ cl. AddCycles (AreCyclesFor (nest_in c.args.self.now) c.args.self.now.edges.now c.args.self.now.holds.now c.args.level cl) c.loop-class.cycles c.add_of_class.new.cycles) c.as_slice.ensures
    c.in_ok-add_of_class.ensures)
