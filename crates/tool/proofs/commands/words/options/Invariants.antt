use Rattle.std.proofs.Common.{◌≡◌, length}
use Rattle.tool.specs.commands.Command.{texts, options_of}
use Rattle.tool.proofs.commands.Joined.{joined}
use Rattle.tool.proofs.commands.words.options.Given as goal

abbrev pub invariant-loop-word : goal.invariant-loop-word
invariant-loop-word l = joined l.options (options_of (texts l.rest)) ≡ options_of (texts l.words)

abbrev pub decreases-loop-word : goal.decreases-loop-word
decreases-loop-word l = length l.rest
