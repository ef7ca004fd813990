use Rattle.std.proofs.Common.{◌≡◌, take, drop, map}
use Rattle.tree.specs.Plain.{subscripts, expressions}
use Rattle.tree.specs.View.{expression_of, subscript_of}
use Rattle.meaning.specs.Dialect.{fortran77}
use Rattle.tree.specs.declared.width.Width.TheVariants.{Plain}
use Rattle.machine.specs.Storage.{bounds_list}
use Rattle.machine.specs.Stored.{store_in}
use Rattle.run77.specs.Values.{call_of, offset_of}
use Rattle.run77.proofs.ValueLaws.{left_to_call, left_to_place}
use Rattle.run77.proofs.moment.Moment.+value.Given as goal

abbrev pub invariant-call-loop-expr : goal.invariant-call-loop-expr
invariant-call-loop-expr l =
    call_of (fortran77 Plain) l.function (expressions (map expression_of l.exprs)) (store_in l.self.storage) ≡ left_to_call l.function l.arguments (drop l.expr-index l.expr-items) (store_in l.self.storage)

abbrev pub invariant-offset-loop-sub : goal.invariant-offset-loop-sub
invariant-offset-loop-sub l =
    offset_of (fortran77 Plain) (bounds_list l.dims) (subscripts (map subscript_of l.subs)) (store_in l.self.storage)
    ≡ left_to_place (bounds_list l.dims) (take l.numbers.count l.numbers.numbers) (drop l.sub-index l.sub-items) (store_in l.self.storage)
