use Rattle.std.proofs.Common.{◌≡◌, take}
use Rattle.std.specs.List.{filter}
use Rattle.nest_reasons.specs.Sizes.{is_loop_piece}
use Rattle.nest_reasons.proofs.sizes.loops_among.Given as goal

abbrev pub invariant-loop-piece : goal.invariant-loop-piece
invariant-loop-piece l = l.loops ≡ filter is_loop_piece (take l.piece-index l.pieces)
