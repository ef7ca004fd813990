use Rattle.std.proofs.Common.{arith, length, ◌∙◌}
use Rattle.std.proofs.lemmas.List.{drop_all}
use Rattle.std.proofs.lemmas.Slice.{between_to_end}
use Rattle.f77_cards.proofs.FirstLines.{whole_line, lines_at_feed}
use Rattle.f77_cards.proofs.source.first_line.Goals as goal

pub returns-in-Some-clause-first : goal.returns-in-Some-clause-first
returns-in-Some-clause-first c =
    lines_at_feed c.args.text.now _ c.without_carriage_return.result.now c.in-Some.end (cc) c.without_carriage_return.ensures
    (between_to_end c.args.text.now _ (length c.args.text.now) (omega arith))

pub returns-in-None-clause-first : goal.returns-in-None-clause-first
returns-in-None-clause-first c =
    whole_line c.args.text.now _ c.requires (cc) (between_to_end c.args.text.now (length c.args.text.now) (length c.args.text.now) (omega arith) ∙ drop_all (length c.args.text.now) c.args.text.now (omega arith))
