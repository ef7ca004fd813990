use Rattle.std.proofs.Common.{◌≡◌, ◌∙◌, ◌∷◌, List, ℕ, ap, map, rules, arith}
use Rattle.std.proofs.lemmas.Grind.{common_steps}
use Rattle.tree.specs.View.{reference_of}
use Rattle.tree.specs.declared.exprs.Ref.{Ref}
use Rattle.nest.specs.View.{guarded_of, loop_of, part_of}
use Rattle.node_splitting.specs.Arrays.{copy_element}
use Rattle.node_splitting.specs.Reads.{read_copied}
use Rattle.node_splitting.specs.Split.{in_canonical_text}
use Rattle.node_splitting.proofs.AddedTexts.{copies_added}
use Rattle.node_splitting.proofs.nests.+add_copies.Goals as goal

pub returns : goal.returns
returns t c =
    let e = copy_element c.args.names.now in
    let g = guarded_of c.args.stmt.now in
    let all : c.args.reads.now ≡ c.in-Some.first.now ∷ c.in-Some.rest.now = first_of (search rules, grind (arith, common_steps)) in
    copies_added c.add_copies.result (in_canonical_text c.args.symbols.now (map loop_of c.args.loops.now)) e g (guarded_of c.in_ok-copy.copy) c.args.copies c.in_ok-next.next
    (reference_of c.in-Some.first.now) (map reference_of c.in-Some.rest.now) (map reference_of c.args.reads.now)
    (map part_of c.args.made.now) (map part_of c.add_text.new.made) (map part_of c.add_copies.new.made) c.in_ok-next.ensures
    (c.in_ok-copy.ensures ∙ ap (λ (xs : List (List ℕ)). read_copied (copy_element xs) g c.args.copies (reference_of c.in-Some.first.now)) c.as_slice.ensures)
    (ap (λ (rs : List Ref). map reference_of rs) all) c.in_ok-add_text.ensures c.add_copies.ensures
