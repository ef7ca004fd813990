use Rattle.std.proofs.Common.{List, ◌++◌, map, ap, ◌∙◌}
use Rattle.std.specs.List.{flat_map}
use Rattle.tree.specs.Plain.{block}
use Rattle.tree.specs.View.{block_of, statement_of}
use Rattle.tree.specs.declared.stmts.Stmt.{Stmt}
use Rattle.tree.proofs.Equations.{block_of-made}
use Rattle.nest.specs.Allocations.{block_then}
use Rattle.nest.specs.View.{made_of, nest_of}
use Rattle.nest.specs.declared.nests.Made.{Made}
use Rattle.emission.specs.nest_emission.Translations.{allocation, deallocation}
use Rattle.emission.proofs.nest_emission.TranslationLaws.{translated}
use Rattle.emission.proofs.nest_emission.translation.translation.Goals as goal

pub returns : goal.returns
returns c =
    let line = c.args.nest.now.line in
    block_of-made c.from_vec.result
    ∙ (ap (λ (ss : List Stmt). block (map statement_of ss)) c.from_vec.ensures
    ∙ translated (nest_of c.args.nest.now) (block_of c.args.body) (map statement_of c.add_allocations.new.stmts.items) (map statement_of c.append.new.stmts.items) (map statement_of c.append-2.new.stmts.items)
    (map statement_of c.add_deallocations.new.stmts.items)
    (c.in_ok-add_allocations.ensures
    ∙ (ap (λ (ss : List Stmt). map statement_of ss ++ flat_map (allocation line) (map made_of c.as_slice.result.now)) c.new-stmts.ensures.items
    ∙ ap (λ (ms : List Made). flat_map (allocation line) (map made_of ms)) c.as_slice.ensures))
    c.in_ok-append.ensures (c.in_ok-append-2.ensures ∙ ap (block_then (block (map statement_of c.append.new.stmts.items))) c.in_ok-copy.ensures)
    (c.in_ok-add_deallocations.ensures ∙ ap (λ (ms : List Made). map statement_of c.append-2.new.stmts.items ++ flat_map (deallocation line) (map made_of ms)) c.as_slice-2.ensures))
