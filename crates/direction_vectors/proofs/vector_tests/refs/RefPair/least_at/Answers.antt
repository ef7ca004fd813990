use Rattle.std.proofs.Common.{rules, arith}
use Rattle.std.specs.Prelude.{FitsSigned}
use Rattle.std.proofs.lemmas.Int.{to_z-of_z}
use mir.Syntax.{w64}
use Rattle.direction_vectors.proofs.vector_tests.LeastMeetings.{own_allowed, shared_allowed}
use Rattle.direction_vectors.proofs.vector_tests.refs.RefPair.least_at.Goals as goal

pub returns-then-place-from : goal.returns-then-place-from
returns-then-place-from c =
    shared_allowed c.args.self.now c.args.d.now c.args.place c.least_of.result.0 c.least_of.result.1 c.requires.refs (omega arith) c.least_of.ensures

pub returns : goal.returns
returns c =
    let fi : FitsSigned w64 c.least_of-i.result.0 = search rules in
    let fj : FitsSigned w64 c.least_of-j.result.1 = search rules in
    simp to_z-of_z
    (own_allowed c.args.self.now c.args.d.now c.args.place c.least_of-i.result.0 c.least_of-i.result.1 c.least_of-j.result.0 c.least_of-j.result.1 c.requires.refs c.requires.vector (omega arith)
    c.least_of-i.ensures c.least_of-j.ensures)
