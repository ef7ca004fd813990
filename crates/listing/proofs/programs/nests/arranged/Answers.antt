use Rattle.std.proofs.Common.{◌≡◌, sym, subst, refl, None, Some, map}
use Rattle.dependence_graph.specs.nest_graph.Graph.{IsGraphOf}
use Rattle.dependence_graph.specs.nest_graph.Ready.{IsReady}
use Rattle.f90_print.specs.Notes.{line_text}
use Rattle.interchange.specs.Arranged.{vectors_of, with_moved_loops}
use Rattle.nest.specs.View.{nest_of}
use Rattle.nest.specs.declared.nests.Nest.{Nest}
use Rattle.listing.proofs.programs.Arranging.{arranged_some, moved_none, moved_some}
use Rattle.listing.proofs.programs.Sources.{moved_as, stays_as}
use Rattle.listing.specs.programs.Testable.{AreTestsOf, MayBeListed}
use Rattle.listing.proofs.programs.nests.arranged.Goals as goal

pub moved-requires : goal.moved-requires
moved-requires c = subst (λ (n : Nest). IsReady (nest_of n)) (sym c.deref-before.ensures) c.requires.given.ready

pub test-requires : goal.test-requires
test-requires c =
    let k = nest_of c.args.nest.value in
    let vectors = vectors_of c.args.graph.edges in
    let e = subst (λ (n : Nest). with_moved_loops (nest_of n) vectors ≡ Some (nest_of c.in-Some.made.value)) c.deref-before.ensures
    (moved_some (nest_of c.deref-before.result.now) vectors _ (λ b. nest_of b.value) c.in-Some.made c.in_ok-made.ensures c.in-Some.is) in
    subst (λ (n : Nest). MayBeListed (nest_of n)) (sym c.deref-last.ensures)
    (subst MayBeListed (sym (arranged_some k (nest_of c.in-Some.made.value) vectors e)) (c.requires.moved vectors))

pub tests_with-requires-clause-ready : goal.tests_with-requires-clause-ready
tests_with-requires-clause-ready c =
    subst (λ (n : Nest). IsReady (nest_of n)) (sym c.deref-before.ensures) c.requires.given.ready

pub tests_with-requires-clause-emitted : goal.tests_with-requires-clause-emitted
tests_with-requires-clause-emitted c =
    (subst (λ (n : Nest). MayBeListed (nest_of n)) (sym c.deref-before.ensures) c.requires.given).emitted
    c.args.graph (subst (λ (n : Nest). IsGraphOf (nest_of n) c.args.graph) (sym c.deref-before.ensures) c.requires.graph)

pub returns-in_ok-tests-in-Some : goal.returns-in_ok-tests-in-Some
returns-in_ok-tests-in-Some c =
    let vectors = vectors_of c.args.graph.edges in
    let tests = c.in_ok-tests-in-Some.tests in
    let e = subst (λ (n : Nest). with_moved_loops (nest_of n) vectors ≡ Some (nest_of c.in-Some.made.value)) c.deref-before.ensures
    (moved_some (nest_of c.deref-before.result.now) vectors _ (λ b. nest_of b.value) c.in-Some.made c.in_ok-made.ensures c.in-Some.is) in
    moved_as c.args.number (nest_of c.args.nest.value) c.args.graph (record { nest = c.in-Some.made; tests = tests }) e
    (subst (λ (n : Nest). AreTestsOf c.args.number (nest_of n) tests.graph tests.holds (map line_text tests.lines))
    c.deref-last.ensures c.in_ok-tests-in-Some.ensures)

pub returns-in_ok-tests-in-None : goal.returns-in_ok-tests-in-None
returns-in_ok-tests-in-None c =
    let vectors = vectors_of c.args.graph.edges in
    let tests = c.in_ok-tests-in-None.tests in
    let e = subst (λ (n : Nest). with_moved_loops (nest_of n) vectors ≡ None) c.deref-before.ensures
    (moved_none (nest_of c.deref-before.result.now) vectors _ (λ b. nest_of b.value) c.in_ok-made.ensures c.in-None.is) in
    stays_as c.args.number (nest_of c.args.nest.value) c.args.graph (record { nest = c.args.nest; tests = tests }) e refl
    c.in_ok-tests-in-None.ensures.graph
    (subst (λ (n : Nest). AreTestsOf c.args.number (nest_of n) tests.graph tests.holds (map line_text tests.lines))
    c.deref-before.ensures c.in_ok-tests-in-None.ensures.tests)

pub tests_with-requires-clause-graph : goal.tests_with-requires-clause-graph
tests_with-requires-clause-graph c =
    subst (λ (n : Nest). IsGraphOf (nest_of n) c.args.graph) (sym c.deref-before.ensures) c.requires.graph
