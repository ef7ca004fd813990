use Rattle.std.proofs.Common.{◌∷◌, [], ◌++◌, sym, ap, ◌∙◌}
use Rattle.f77_names.specs.UsesView.{plain_use}
use Rattle.f77_names.specs.Counted.{is_counted_by, counted_in}
use Rattle.f77_names.proofs.CountLaws.{holds_same, holds_more, is_counted, is_left_out}
use Rattle.f77_names.proofs.counts.Counted.note.Goals as goal

pub returns-in_ok-insert : goal.returns-in_ok-insert
returns-in_ok-insert c us xs h k =
    holds_same (record { names = c.insert.new.self }) (c.args.used.now.name ∷ xs) (counted_in us (plain_use c.args.used.now ∷ []) ++ xs)
    (is_counted c.args.names.now us (plain_use c.args.used.now) xs h (ap is_counted_by (sym c.facts.ensures) ∙ sym c.is_counted.ensures ∙ c.if-is_counted.true))
    (holds_more c.args.self.now (record { names = c.insert.new.self }) c.args.used.now.name xs c.in_ok-insert.ensures.keys k)

pub returns-else-is_counted : goal.returns-else-is_counted
returns-else-is_counted c us xs h k =
    holds_same c.args.self.now xs (counted_in us (plain_use c.args.used.now ∷ []) ++ xs)
    (is_left_out c.args.names.now us (plain_use c.args.used.now) xs h (ap is_counted_by (sym c.facts.ensures) ∙ sym c.is_counted.ensures ∙ c.if-is_counted.false))
    k
