use Rattle.f77_laws.proofs.trees.PairedBlocks as blocks
use Rattle.f77_laws.proofs.trees.Pairs as pairs
use Rattle.f77_laws.proofs.trees.laws.each_block_if_has_one_end_if.Goals as goal

pub returns-clause-ended : goal.returns-clause-ended
returns-clause-ended c = pairs.end_if_is_partner

pub returns-clause-open : goal.returns-clause-open
returns-clause-open c = pairs.open_if_is_partner

pub returns-clause-one_end : goal.returns-clause-one_end
returns-clause-one_end c = pairs.one_end

pub returns-clause-one_if : goal.returns-clause-one_if
returns-clause-one_if c = pairs.one_if

pub returns-clause-since : goal.returns-clause-since
returns-clause-since c = pairs.since_is_between

pub returns-clause-unended : goal.returns-clause-unended
returns-clause-unended c = pairs.unended_stand_outside

pub returns-clause-in_blocks : goal.returns-clause-in_blocks
returns-clause-in_blocks c = blocks.blocks_are_paired
