use Rattle.std.proofs.Common.{◌≡◌, arith, rules}
use Rattle.tree.specs.Plain.{Declaration}
use Rattle.tree.specs.View.{declaration_of}
use Rattle.nest.proofs.statement_loops.StandingLaws.{finds}
use Rattle.array_form.specs.holds.Surroundings.{is_spread_name}
use Rattle.array_form.proofs.holds.loops.declares_spread.Goals as goal

pub returns-then-is_spread_name : goal.returns-then-is_spread_name
returns-then-is_spread_name c =
    let same : c.as_slice-decl-items.result.now ≡ c.args.nest.now.decls = first_of (cc, search rules) in
    finds (λ (d : Declaration). is_spread_name d.name) declaration_of c.as_slice-decl-items.result.now c.args.nest.now.decls c.loop-decl.decl-index c.decl-item.result c.is_spread_name.result
    same (omega arith) c.decl-item.is c.is_spread_name.ensures c.if-is_spread_name.true
