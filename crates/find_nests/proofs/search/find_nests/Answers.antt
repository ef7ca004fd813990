use Rattle.std.proofs.Common.{◌≡◌, ◌∙◌, ap, sym, map, rules}
use Rattle.tree.specs.View.{program_of}
use Rattle.find_nests.specs.Found.{found_among}
use Rattle.find_nests.specs.View.{found_of}
use Rattle.find_nests.specs.Walk.{outermost_in_block}
use Rattle.find_nests.proofs.Outermost.{looked_at-is}
use Rattle.find_nests.proofs.search.find_nests.Goals as goal

pub returns : goal.returns
returns c =
    let p = program_of c.args.program.now in
    let found : map found_of c.block.new.self.found ≡ found_among p 0 (outermost_in_block p.declarations 0 p.body) = search rules in
    found ∙ ap (found_among p 0) (sym (looked_at-is p.declarations p.body))
