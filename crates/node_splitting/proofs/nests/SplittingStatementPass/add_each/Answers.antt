use Rattle.std.proofs.Common.{◌≡◌, ◌∙◌, ◌++◌, ◌∷◌, [], List, OnOk, ap, length, map, subst}
use Rattle.std.specs.Prelude.{slice_index_or}
use Rattle.tree.specs.View.{reference_of}
use Rattle.nest.specs.Plain as plain
use Rattle.nest.specs.View.{guarded_of, loop_of, part_of}
use Rattle.node_splitting.specs.Arrays.{copy_element}
use Rattle.node_splitting.specs.Counts.{variables_from_outside}
use Rattle.node_splitting.specs.Reads.{copies_of, split_statement, with_copies}
use Rattle.node_splitting.specs.Split.{in_canonical_text, may_in, reads_at}
use Rattle.node_splitting.specs.View.{may_of}
use Rattle.node_splitting.proofs.nests.SplittingStatementPass.add_each.Goals as goal

pub returns-clause-added : goal.returns-clause-added
returns-clause-added c =
    let ls = map loop_of c.args.loops.now in
    let symbols = c.args.self.now.symbols in
    let may = may_of c.args.self.now.choice in
    let k = c.args.number in
    let g = guarded_of c.args.stmt.now in
    let new = c.in_ok-split.split in
    let first : c.first_at-first.result ≡ slice_index_or c.args.self.now.firsts k 0
    = c.first_at-first.ensures ∙ ap (λ xs. slice_index_or xs k 0) c.as_slice.ensures in
    let reads : map reference_of new.reads ≡ reads_at may (length symbols) ls k g
    = c.in_ok-split.ensures.reads ∙ ap (λ n. reads_at may n ls k g) c.in_ok-count.ensures in
    let stmt : guarded_of new.stmt ≡ split_statement (variables_from_outside ls) (may_in may (length symbols) ls k) g (copy_element (variables_from_outside ls)) (slice_index_or c.args.self.now.firsts k 0)
    = c.in_ok-split.ensures.stmt
    ∙ (λ i. split_statement (variables_from_outside ls) (may_in may (c.in_ok-count.ensures i) ls k) g (copy_element (variables_from_outside ls)) (first i)) in
    let same : copies_of (copy_element (variables_from_outside ls)) g c.first_at-first.result (map reference_of new.reads) ++ guarded_of new.stmt ∷ []
    ≡ with_copies (variables_from_outside ls) (may_in may (length symbols) ls k) (copy_element (variables_from_outside ls)) (slice_index_or c.args.self.now.firsts k 0) g
    = λ i. copies_of (copy_element (variables_from_outside ls)) g (first i) (reads i) ++ stmt i ∷ [] in
    subst (λ (gs : List plain.Guarded). OnOk c.add_split.result (map part_of c.add_split.new.made ≡ map part_of c.args.made.now ++ map plain.Run (map (in_canonical_text symbols ls) gs)))
    same c.add_split.ensures
