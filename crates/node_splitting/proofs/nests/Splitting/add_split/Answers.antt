use Rattle.std.proofs.Common.{◌∙◌, ◌++◌, List, ℕ, ap, map}
use Rattle.tree.specs.View.{reference_of}
use Rattle.tree.specs.declared.exprs.Ref.{Ref}
use Rattle.nest.specs.Plain as plain
use Rattle.nest.specs.View.{guarded_of, loop_of, part_of}
use Rattle.node_splitting.specs.Arrays.{copy_element}
use Rattle.node_splitting.specs.Counts.{variables_from_outside}
use Rattle.node_splitting.specs.Reads.{copies_of}
use Rattle.node_splitting.specs.Split.{in_canonical_text}
use Rattle.node_splitting.proofs.AddedTexts.{each_added}
use Rattle.node_splitting.proofs.nests.Splitting.add_split.Goals as goal

pub returns : goal.returns
returns c =
    let ls = map loop_of c.args.loops.now in
    let f = in_canonical_text c.args.self.now.symbols ls in
    let g = guarded_of c.args.stmt.now in
    let old = map part_of c.args.made.now in
    let gs = copies_of (copy_element (variables_from_outside ls)) g c.args.first (map reference_of c.args.split.now.reads) in
    each_added c.add_text.result f gs (guarded_of c.args.split.now.stmt) old (map part_of c.add_copies.new.made) (map part_of c.add_text.new.made)
    (c.in_ok-add_copies.ensures
    ∙ (ap (λ (rs : List Ref). old ++ map plain.Run (map f (copies_of (copy_element c.in_ok-names.names) g c.args.first (map reference_of rs)))) c.as_slice-reads.ensures
    ∙ ap (λ (xs : List (List ℕ)). old ++ map plain.Run (map f (copies_of (copy_element xs) g c.args.first (map reference_of c.args.split.now.reads)))) c.in_ok-names.ensures))
    c.add_text.ensures
