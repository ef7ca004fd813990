use Rattle.std.proofs.Common.{◌≡◌, ◌++◌, map, refl, ap, ◌∙◌, arith}
use Rattle.find_nests.specs.Found.{found_in}
use Rattle.find_nests.specs.View.{found_of}
use Rattle.tree.specs.View.{program_of}
use Rattle.listing.proofs.programs.Sources.{few_declarations, in_source}
use Rattle.translation.proofs.NestBlocks.SoFar.{found_all, found_more, found_none}
use Rattle.translation.proofs.nest_blocks.answers.program_answers.Goals as goal
use Rattle.tree.specs.declared.width.Width.TheVariants.{Wide}

pub find_nests-requires : goal.find_nests-requires
find_nests-requires c = few_declarations Wide (program_of c.args.program.now) c.args.program.now.decls refl c.requires

pub loop-found-init : goal.loop-found-init
loop-found-init c =
    found_none c.as_slice-found-items.result.now c.new-lines.result.items c.new-blocks.result.items
    c.new-made.result.items c.new-lines.ensures.items c.new-blocks.ensures.items c.new-made.ensures.items

pub answer_to-requires : goal.answer_to-requires
answer_to-requires c =
    let found : map found_of c.as_slice-found-items.result.now ≡ found_in (program_of c.args.program.now)
    = ap (map found_of) c.as_slice-found-items.ensures ∙ c.in_ok-find_nests.ensures in
    in_source Wide (program_of c.args.program.now) c.as_slice-found-items.result.now c.loop-found.found-index
    c.found-item.result c.requires found (omega arith) c.found-item.is

pub loop-found-preserved : goal.loop-found-preserved
loop-found-preserved c =
    let found : map found_of c.as_slice-found-items.result.now ≡ found_in (program_of c.args.program.now)
    = ap (map found_of) c.as_slice-found-items.ensures ∙ c.in_ok-find_nests.ensures in
    let lines : c.append.new.self.items ≡ c.loop-found.lines.items ++ c.in_ok-answer.answer.lines
    = c.in_ok-append.ensures.items ∙ ap (λ ls. c.loop-found.lines.items ++ ls) c.into_vec.ensures in
    let made : c.append-in-loop-found.new.self.items ≡ c.loop-found.made.items ++ c.in_ok-answer.answer.made
    = c.in_ok-append-2.ensures.items ∙ ap (λ ms. c.loop-found.made.items ++ ms) c.into_vec-in-loop-found.ensures in
    found_more Wide (program_of c.args.program.now) c.as_slice-found-items.result.now found c.loop-found.found-index
    c.found-item.result c.loop-found.lines.items c.in_ok-answer.answer.lines c.append.new.self.items
    c.in_ok-answer.answer.block c.loop-found.blocks.items c.put_found.new.blocks.items c.loop-found.made.items
    c.in_ok-answer.answer.made c.append-in-loop-found.new.self.items c.loop-found.counts c.in_ok-answer.answer.counts c.requires (omega arith) c.found-item.is c.loop-found.invariant
    c.in_ok-answer.ensures lines c.in_ok-put_found.ensures made

pub returns : goal.returns
returns c =
    let found : map found_of c.as_slice-found-items.result.now ≡ found_in (program_of c.args.program.now)
    = ap (map found_of) c.as_slice-found-items.ensures ∙ c.in_ok-find_nests.ensures in
    found_all Wide (program_of c.args.program.now) c.as_slice-found-items.result.now found c.loop-found.found-index
    c.loop-found.lines.items c.from_vec.result c.loop-found.blocks.items c.from_vec-2.result c.loop-found.made.items
    c.from_vec-3.result c.loop-found.counts (omega arith) c.loop-found.invariant c.from_vec.ensures c.from_vec-2.ensures
    c.from_vec-3.ensures
