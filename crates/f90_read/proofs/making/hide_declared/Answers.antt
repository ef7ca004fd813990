use Rattle.std.proofs.Common.{◌≡◌, ℕ, List, Some, ap, sym, subst, ◌∙◌, OnOk}
use Rattle.f90_statement.specs.declared.nodes.Statement.{Statement}
use Rattle.f90_names.specs.calls.Hiding.{Hides, declared_by, names_of}
use Rattle.f90_read.proofs.making.hide_declared.Goals as goal

pub returns-in-Declare : goal.returns-in-Declare
returns-in-Declare c =
    let e : declared_by (Some c.args.statement.now) ≡ names_of c.in-Declare.entities =
    ap (λ (s : Statement). declared_by (Some s)) c.in-Declare.is in
    subst (λ (names : List (List ℕ)). OnOk c.hide_names.result
    (Hides names c.args.functions.now c.hide_names.new.functions))
    (ap names_of c.as_slice.ensures ∙ sym e) c.hide_names.ensures
