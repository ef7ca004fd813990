use Rattle.std.proofs.Common.{◌≡◌, List, [], map, refl, sym, ap, ◌∙◌, subst, arith}
use Rattle.tree.specs.View.{program_of}
use Rattle.tree.specs.declared.programs.Line.{Line}
use Rattle.f90_print.specs.Notes.{line_text}
use Rattle.find_nests.specs.Found.{found_in}
use Rattle.find_nests.specs.View.{found_of}
use Rattle.listing.proofs.programs.Entries.{AreListed, listed_all, listed_more, listed_none}
use Rattle.listing.proofs.programs.Sources.{few_declarations, in_source}
use Rattle.listing.specs.programs.Listing.{no_counts}
use Rattle.listing.proofs.programs.listed.list.Goals as goal
use Rattle.tree.specs.declared.width.Width.TheVariants.{Wide}

pub find_nests-requires : goal.find_nests-requires
find_nests-requires c = few_declarations Wide (program_of c.args.program.now) c.args.program.now.decls refl c.requires

pub loop-found-init : goal.loop-found-init
loop-found-init c =
    subst (λ (l : List Line). AreListed [] (map line_text l) no_counts) (sym c.new-all.ensures.items) (listed_none [])

pub lines_of-requires : goal.lines_of-requires
lines_of-requires c =
    let found : map found_of c.as_slice-found-items.result.now ≡ found_in (program_of c.args.program.now) = ap (map found_of) c.as_slice-found-items.ensures ∙ c.in_ok-find_nests.ensures in
    in_source Wide (program_of c.args.program.now) c.as_slice-found-items.result.now c.loop-found.found-index c.found-item.result c.requires found (omega arith) c.found-item.is

pub loop-found-preserved : goal.loop-found-preserved
loop-found-preserved c =
    listed_more c.as_slice-found-items.result.now c.loop-found.found-index c.found-item.result c.loop-found.all.items c.add.new.all.items
    c.loop-found.counts c.in_ok-listed.listed.counts c.in_ok-listed.listed
    (omega arith) c.found-item.is c.loop-found.invariant c.in_ok-listed.ensures c.in_ok-add.ensures refl

pub returns : goal.returns
returns c =
    let found : map found_of c.as_slice-found-items.result.now ≡ found_in (program_of c.args.program.now) = ap (map found_of) c.as_slice-found-items.ensures ∙ c.in_ok-find_nests.ensures in
    listed_all (program_of c.args.program.now) c.as_slice-found-items.result.now c.loop-found.found-index c.loop-found.all.items c.from_vec.result
    c.loop-found.counts found (omega arith) c.loop-found.invariant c.from_vec.ensures
