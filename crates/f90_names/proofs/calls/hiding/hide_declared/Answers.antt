use Rattle.std.proofs.Common.{◌≡◌, ℕ, List, Some, ap, sym, subst, ◌∙◌, OnOk, rules}
use Rattle.f90_statement.specs.declared.nodes.Statement.TheVariants.{Declare}
use Rattle.f90_names.specs.calls.Hiding.{Hides, declared_by, names_of}
use Rattle.f90_names.proofs.calls.hiding.hide_declared.Goals as goal

pub returns-in-Some-Declare : goal.returns-in-Some-Declare
returns-in-Some-Declare c =
    let e : c.args.form.now ≡ Some (Declare c.in-Some-Declare.field-0-0 c.in-Some-Declare.field-0-1
    c.in-Some-Declare.entities)
    = first_of (cc, search rules) in
    subst (λ (names : List (List ℕ)). OnOk c.hide_names.result
    (Hides names c.args.functions.now c.hide_names.new.functions))
    (ap names_of c.as_slice.ensures ∙ sym (ap declared_by e)) c.hide_names.ensures
