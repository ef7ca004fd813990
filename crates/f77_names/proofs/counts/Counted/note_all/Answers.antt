use Rattle.std.proofs.Common.{◌∷◌, [], ◌++◌, ◌-◌, map, drop, arith}
use Rattle.f77_names.specs.UsesView.{plain_use}
use Rattle.f77_names.specs.Counted.{counted_in}
use Rattle.f77_names.proofs.CountLaws.{holds_same, counted_back, none_ahead, all_counted}
use Rattle.f77_names.proofs.counts.Counted.note_all.Goals as goal

pub loop-i-preserved : goal.loop-i-preserved
loop-i-preserved c = record {
  counts = λ us xs h k.
      holds_same c.note.new.self
      (counted_in us (plain_use c.index-uses-i.result ∷ []) ++ (counted_in us (map plain_use (drop c.loop-i.i c.args.uses.now)) ++ xs))
      (counted_in us (map plain_use (drop (c.loop-i.i - 1) c.args.uses.now)) ++ xs)
      (counted_back us c.args.uses.now c.loop-i.i c.index-uses-i.result xs (omega arith) (omega (arith, c.loop-i.auto.i)) c.index-uses-i.is)
      (c.in_ok-note.ensures us (counted_in us (map plain_use (drop c.loop-i.i c.args.uses.now)) ++ xs) h (c.loop-i.invariant.counts us xs h k));
}

pub loop-i-init : goal.loop-i-init
loop-i-init c = record {
  counts = λ us xs h k. none_ahead us c.args.self.now c.args.uses.now xs k;
}

pub returns : goal.returns
returns c us xs h k = all_counted us c.loop-i.self c.args.uses.now c.loop-i.i xs c.loop-i-test.false (c.loop-i.invariant.counts us xs h k)
