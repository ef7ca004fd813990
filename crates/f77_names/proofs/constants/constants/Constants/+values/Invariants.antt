use Rattle.std.proofs.Common.{◌≡◌, map, drop}
use Rattle.tree.specs.Plain.{subscripts, expressions}
use Rattle.tree.specs.View.{expression_of, subscript_of}
use Rattle.meaning.specs.Value.{values_of, subscript_values}
use Rattle.meaning.specs.Dialect.{fortran77}
use Rattle.f77_names.specs.constants.Constants.{store_of}
use Rattle.f77_names.specs.constants.Steps.{preceded, fault_of}
use Rattle.f77_names.proofs.constants.constants.Constants.+values.Given as goal

abbrev pub invariant-evaluate_all-loop-expr : goal.invariant-evaluate_all-loop-expr
invariant-evaluate_all-loop-expr l =
    values_of (fortran77 l.self.width) (expressions (map expression_of l.expr-items)) (store_of l.self)
    ≡ preceded l.values (values_of (fortran77 l.self.width) (expressions (map expression_of (drop l.expr-index l.expr-items))) (store_of l.self))

abbrev pub invariant-fault_in_subs-loop-sub : goal.invariant-fault_in_subs-loop-sub
invariant-fault_in_subs-loop-sub l =
    fault_of (subscript_values (fortran77 l.self.width) (subscripts (map subscript_of l.sub-items)) (store_of l.self))
    ≡ fault_of (subscript_values (fortran77 l.self.width) (subscripts (map subscript_of (drop l.sub-index l.sub-items))) (store_of l.self))
