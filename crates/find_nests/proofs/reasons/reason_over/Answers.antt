use Rattle.std.proofs.Common.{◌≡◌, subst, Option}
use Rattle.std.specs.Prelude.{IfOk}
use Rattle.find_nests.specs.declared.reasons.Reason.{Reason}
use Rattle.find_nests.proofs.ReasonWalks.{reason_is}
use Rattle.tree.specs.View.{statement_of}
use Rattle.find_nests.proofs.reasons.reason_over.Goals as goal

pub returns : goal.returns
returns c =
    subst (λ (o : Option Reason). IfOk c.walked_reason.result (λ (r : Option Reason). r ≡ o))
    (reason_is c.args.symbols (statement_of c.args.stmt.now)) c.walked_reason.ensures
