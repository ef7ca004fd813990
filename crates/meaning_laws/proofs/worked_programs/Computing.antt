-- What a run computes with.
use Rattle.std.proofs.Common.{ℕ}
use Rattle.std.specs.Fmt.{digits}
use Rattle.meaning.specs.Run.{while_going, evaluates, writes, stores, begins_line, takes_word, skips_line, counts_step, checks_range, allocates, deallocates}

unfoldable pub computed : ℕ
unfolding digits while_going evaluates writes stores begins_line takes_word skips_line counts_step checks_range allocates deallocates
computed = 0
