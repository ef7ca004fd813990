use Rattle.std.proofs.Common.{map, arith}
use Rattle.tree.specs.View.{declaration_of}
use Rattle.array_values.proofs.storage.OpeningLaws.{keep_begun, keep_absent, keep_more, keep_done, opens, kinds_are}
use Rattle.array_values.proofs.storage.storage.Storage.new.Goals as goal

pub loop-decl-init : goal.loop-decl-init
loop-decl-init c = keep_begun c.args.decls.now c.new-slots.result.items c.new-names.result.keys c.new-slots.ensures.items c.new-names.ensures.len

pub declare-requires : goal.declare-requires
declare-requires c =
    keep_absent c.args.decls.now c.loop-decl.slots.items c.loop-decl.names.keys c.loop-decl.decl-index c.decl-item.result c.requires c.loop-decl.invariant (omega arith) c.decl-item.is

pub loop-decl-preserved : goal.loop-decl-preserved
loop-decl-preserved c =
    keep_more c.args.decls.now c.loop-decl.slots.items c.push.new.self.items c.loop-decl.names.keys c.declare.new.names.keys c.loop-decl.decl-index c.decl-item.result c.in_ok-slot.slot
    c.loop-decl.invariant (omega arith) c.decl-item.is c.in_ok-slot.ensures c.in_ok-push.ensures.items c.in_ok-declare.ensures

pub returns-clause-opened : goal.returns-clause-opened
returns-clause-opened c =
    opens (map declaration_of c.args.decls.now) c.loop-decl.slots.items (keep_done c.args.decls.now c.loop-decl.slots.items c.loop-decl.names.keys c.loop-decl.decl-index c.loop-decl.invariant (omega arith))

pub returns-clause-kinds : goal.returns-clause-kinds
returns-clause-kinds c =
    kinds_are (map declaration_of c.args.decls.now) c.loop-decl.slots.items (keep_done c.args.decls.now c.loop-decl.slots.items c.loop-decl.names.keys c.loop-decl.decl-index c.loop-decl.invariant (omega arith))
