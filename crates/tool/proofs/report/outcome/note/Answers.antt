use Rattle.std.proofs.Common.{ℕ, List, Option, sym, subst, ◌∙◌}
use Rattle.std.proofs.lemmas.Result.{on_err_weaker}
use Rattle.streams.proofs.Chained.{part_whole}
use Rattle.streams.specs.Streams.{GivesPart}
use Rattle.tool.proofs.report.outcome.note.Goals as goal

pub returns-clause-part : goal.returns-clause-part
returns-clause-part g c =
    let before = g.E.Sink.taken c.args.notes.now in
    let whole : GivesPart before c.as_bytes.result.now (g.E.Sink.taken c.write_all.new.to) = part_whole _ _ c.as_bytes.result.now c.in_ok-write_all.ensures.ok in
    on_err_weaker c.send.result
    (λ _. subst (λ (t : List ℕ). GivesPart before t (g.E.Sink.taken c.send.new.self)) (c.as_bytes.ensures ∙ c.line_of.ensures)
    (subst (λ (n : Option (List ℕ)). GivesPart before c.as_bytes.result.now n) (sym c.send.ensures.taken) whole))
    c.send.ensures.fault
