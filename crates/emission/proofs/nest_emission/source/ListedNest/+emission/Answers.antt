use Rattle.std.proofs.Common.{List, [], map, sym, subst, arith, rules}
use Rattle.std.specs.Prelude.{All}
use Rattle.tree.specs.Plain.{block}
use Rattle.tree.specs.View.{block_of, statement_of}
use Rattle.tree.specs.declared.stmts.Stmt.{Stmt}
use Rattle.emission.specs.nest_emission.Blocks.{IsBlockFor, IsBlockForAll}
use Rattle.emission.specs.nest_emission.Given.{IsClass, nest_in}
use Rattle.emission.proofs.nest_emission.BlockLaws.{formed_class, kept_class, none_yet, one_more, part_done, turning_class}
use Rattle.emission.proofs.nest_emission.ClassLaws.{classes_are}
use Rattle.emission.proofs.nest_emission.source.ListedNest.+emission.Goals as goal

pub class_block-returns-in-Kept : goal.class_block-returns-in-Kept
class_block-returns-in-Kept t c =
    kept_class (nest_in c.args.self.now) c.args.self.now.edges.now c.args.self.now.holds.now c.args.level c.args.class.now c.in-Kept.number c.kept_block.result c.in-Kept.ensures c.kept_block.ensures

pub class_block-returns-in-Formed : goal.class_block-returns-in-Formed
class_block-returns-in-Formed t c =
    formed_class (nest_in c.args.self.now) c.args.self.now.edges.now c.args.self.now.holds.now c.args.level c.args.class.now c.in-Formed.number c.formed_block.result c.in-Formed.ensures
    c.formed_block.ensures

pub class_block-returns-in-Turning : goal.class_block-returns-in-Turning
class_block-returns-in-Turning t c =
    turning_class (nest_in c.args.self.now) c.args.self.now.edges.now c.args.self.now.holds.now c.args.level c.args.class.now c.turning_block.result c.in-Turning.ensures.0 c.turning_block.ensures

pub part_block-loop-class-init : goal.part_block-loop-class-init
part_block-loop-class-init t c =
    subst (λ (ss : List Stmt). IsBlockForAll (nest_in c.args.self.now) c.args.self.now.edges.now c.args.self.now.holds.now c.args.level [] (block (map statement_of ss))) (sym c.new-stmts.ensures.items)
    (none_yet (nest_in c.args.self.now) c.args.self.now.edges.now c.args.self.now.holds.now c.args.level)

pub part_block-class_block-requires : goal.part_block-class_block-requires
part_block-class_block-requires t c =
    let all : All (IsClass (nest_in c.args.self.now) c.args.level) c.as_slice-class-items.result.now =
    subst (All (IsClass (nest_in c.args.self.now) c.args.level)) (sym c.as_slice-class-items.ensures)
    (classes_are (nest_in c.args.self.now) c.args.self.now.edges.now c.args.level c.args.part.now c.in_ok-classes.classes c.requires.source.edges c.requires.once c.requires.inside c.in_ok-classes.ensures) in (
      first_of (omega arith, search rules, grind arith),
      (
        c.requires.source,
        (
          c.requires.from_one,
          subst (IsClass (nest_in c.args.self.now) c.args.level) (sym c.as_slice.ensures)
              (subst (IsClass (nest_in c.args.self.now) c.args.level) (sym c.class-item.is) (all c.loop-class.class-index c.class-item.result (omega arith))),
        ),
      ),
    )

pub part_block-loop-class-preserved : goal.part_block-loop-class-preserved
part_block-loop-class-preserved t c =
    one_more (nest_in c.args.self.now) c.args.self.now.edges.now c.args.self.now.holds.now c.args.level c.as_slice-class-items.result.now c.loop-class.class-index c.class-item.result
    (block (map statement_of c.loop-class.stmts.items)) (block_of c.in_ok-block.block) (block (map statement_of c.append.new.stmts.items)) (omega arith) c.class-item.is c.loop-class.invariant
    (subst (λ cl. IsBlockFor (nest_in c.args.self.now) c.args.self.now.edges.now c.args.self.now.holds.now c.args.level cl (block_of c.in_ok-block.block)) c.as_slice.ensures c.in_ok-block.ensures)
    c.in_ok-append.ensures

pub part_block-returns : goal.part_block-returns
part_block-returns t c =
    part_done (nest_in c.args.self.now) c.args.self.now.edges.now c.args.self.now.holds.now c.args.level c.args.part.now c.in_ok-classes.classes c.as_slice-class-items.result.now c.loop-class.class-index
    c.loop-class.stmts.items c.from_vec.result c.in_ok-classes.ensures c.as_slice-class-items.ensures (omega arith) c.loop-class.invariant c.from_vec.ensures
