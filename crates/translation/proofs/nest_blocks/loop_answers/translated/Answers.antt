use Rattle.std.proofs.Common.{◌≡◌, ◌∙◌, List, ap, map, subst, sym}
use Rattle.emission.specs.emission_pieces.Emission.{IsEmission}
use Rattle.emission.specs.nest_emission.Given.{MayBeEmitted}
use Rattle.listing.specs.programs.Listing.{counts_of}
use Rattle.tree.specs.View.{block_of}
use Rattle.nest.specs.View.{made_of, nest_of}
use Rattle.nest.specs.declared.nests.Made.{Made}
use Rattle.nest.specs.declared.nests.Nest.{Nest}
use Rattle.translation.specs.made_declarations.Declaring.{declaration_of_made, declaration_of_name}
use Rattle.translation.proofs.NestBlocks.Answering.{translated}
use Rattle.translation.proofs.nest_blocks.loop_answers.translated.Goals as goal

pub emit-requires : goal.emit-requires
emit-requires c =
    let graph = c.args.passed.tests.graph in
    subst (λ (n : Nest). MayBeEmitted (nest_of n) graph) (sym c.deref-nest.ensures) c.requires

pub returns : goal.returns
returns c counts n passed =
    let tests = c.args.passed.tests in
    let m = nest_of c.args.passed.nest.value in
    let block = block_of c.in_ok-block.block in
    let made : map declaration_of_name c.in_ok-made.made ≡ map declaration_of_made (map made_of c.args.passed.nest.value.made)
    = c.in_ok-made.ensures ∙ ap (λ (ms : List Made). map declaration_of_made (map made_of ms)) c.as_slice.ensures
    ∙ ap (λ (k : Nest). map declaration_of_made (map made_of k.made)) c.deref-nest.ensures in
    translated counts n m tests.graph tests.holds _ block
    (map declaration_of_name c.in_ok-made.made)
    (record { masks = c.deref-nest.result.now.masks; copies = c.deref-nest.result.now.copies }) passed.passed passed.kept passed.tests
    (subst (λ (k : Nest). IsEmission (nest_of k) tests.graph tests.holds block) c.deref-nest.ensures c.in_ok-block.ensures)
    made (ap (λ (k : Nest). counts_of (nest_of k)) c.deref-nest.ensures)
