use Rattle.std.proofs.Common.{rules}
use Rattle.std.proofs.lemmas.Fn.{filter_same}
use Rattle.f77_structure.proofs.jumps.blocks.OpenBlocks.drop_ended.Goals as goal

pub returns-clause-loops : goal.returns-clause-loops
returns-clause-loops c = filter_same _ _ _ (λ x b f' k. search rules) _ _ c.retain.ensures.filtered
