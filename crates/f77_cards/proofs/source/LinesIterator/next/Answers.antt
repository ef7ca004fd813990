use Rattle.std.proofs.Common.{arith, ◌≡◌, ◌+◌, ◌∷◌, length, sym, ap, ◌∙◌}
use Rattle.std.proofs.lemmas.Bool.{eqb-true}
use Rattle.std.proofs.lemmas.List.{nil_from_length}
use Rattle.f77_grammar.specs.Cards.{statement_lines_from}
use Rattle.f77_cards.specs.Source.{line_of}
use Rattle.f77_cards.proofs.Kept.{lines_from-comment, lines_from-kept, lines_from-none}
use Rattle.f77_cards.proofs.source.LinesIterator.next.Goals as goal

kept : (c : goal.Then-not-is_comment) → statement_lines_from c.args.self.now.number c.args.self.now.rest.now
    ≡ line_of (record { number = c.loop-line.self.number; columns = c.columns-columns.result }) ∷ statement_lines_from (c.loop-line.self.number + 1) c.first_line.result.1.now
kept c =
    sym c.loop-line.invariant
    ∙ lines_from-kept c.loop-line.self.number c.loop-line.self.rest.now c.first_line.result.0.now c.first_line.result.1.now c.columns-columns.result c.first_line.ensures.first c.columns-columns.ensures cc

pub returns-then-not-is_comment-clause-steps : goal.returns-then-not-is_comment-clause-steps
returns-then-not-is_comment-clause-steps c = kept c

pub returns-then-not-is_comment-clause-goes : goal.returns-then-not-is_comment-clause-goes
returns-then-not-is_comment-clause-goes c =
    let h = ap length (kept c) in
    record { on = λ _. (tt, tt, omega (arith, h)); keeps = tt; rests = λ _. tt }

pub loop-line-preserved : goal.loop-line-preserved
loop-line-preserved c =
    sym (lines_from-comment c.loop-line.self.number c.loop-line.self.rest.now c.first_line.result.0.now c.first_line.result.1.now c.columns-columns.result c.first_line.ensures.first c.columns-columns.ensures cc)
    ∙ c.loop-line.invariant

pub returns-clause-steps : goal.returns-clause-steps
returns-clause-steps c =
    let e = lines_from-none c.loop-line.self.number c.loop-line.self.rest.now (nil_from_length c.loop-line.self.rest.now (eqb-true (length c.loop-line.self.rest.now) 0 cc)) in
    (sym c.loop-line.invariant ∙ e, e)
