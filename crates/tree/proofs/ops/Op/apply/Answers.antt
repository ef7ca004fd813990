use Rattle.std.proofs.Common.{◌↔◌, sym, subst, Result, IsTrue}
use Rattle.std.specs.Prelude.{IsErrOf}
use Rattle.tree.specs.OperationFaults.{suits}
use Rattle.tree.specs.declared.ops.Value.{Value}
use Rattle.tree.specs.declared.ops.Fault.{Fault}
use Rattle.tree.specs.declared.ops.Fault.TheVariants.{Shape}
use Rattle.tree.proofs.Faults.{apply-Shape}
use Rattle.tree.proofs.ops.Op.apply.Goals as goal

pub returns-clause-shape : goal.returns-clause-shape
returns-clause-shape c =
    subst (λ (r : Result Value Fault). IsErrOf r Shape ↔ ¬ IsTrue (suits c.args.self c.args.a c.args.b)) (sym c.operate.ensures) (apply-Shape c.args.self c.args.a c.args.b)
