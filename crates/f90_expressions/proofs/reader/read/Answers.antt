use Rattle.std.proofs.Common.{◌≡◌, true, false, refl, rules}
use Rattle.std.proofs.lemmas.Result.{err_from_is_err_and}
use Rattle.f90_expressions.specs.words.Tokens.{words_of}
use Rattle.f90_expressions.proofs.ReadingLaws.{started, lacks, found_by, only_by, unplaced, error_by}
use Rattle.f90_expressions.proofs.reader.read.Goals as goal

pub returns-in_err-operand-clause-only : goal.returns-in_err-operand-clause-only
returns-in_err-operand-clause-only c p more g x w =
    let q = err_from_is_err_and c.from_residual.result c.from_residual.ensures.1 in
    rw (q.1, q.2) (error_by c.in_err-operand.field-0.0 (words_of c.args.tokens.now) p more
    (lacks c.in_err-operand.field-0.0 (words_of c.args.tokens.now) c.new-nodes.result.items c.new-nodes.ensures.items c.in_err-operand.ensures) g x w)

pub returns-then-not-operand-clause-only : goal.returns-then-not-operand-clause-only
returns-then-not-operand-clause-only c p more g x w =
    let h = started (words_of c.args.tokens.now) c.new-nodes.result.items _ c.new-nodes.ensures.items c.in_ok-operand.ensures in
    let k : c.in_ok-operand.operand.placed ≡ false = search rules in
    unplaced (words_of c.args.tokens.now) c.in_ok-operand.operand c.run.new.nodes.items (words_of c.in_ok-operand.rest.now) p more h k g x w

pub returns-clause-found : goal.returns-clause-found
returns-clause-found c =
    let h = started (words_of c.args.tokens.now) c.new-nodes.result.items _ c.new-nodes.ensures.items c.in_ok-operand.ensures in
    let k : c.in_ok-operand.operand.placed ≡ true = search rules in
    found_by (words_of c.args.tokens.now) _ c.in_ok-operand.operand c.run.new.nodes.items (words_of c.in_ok-operand.rest.now) h k c.from_vec.ensures refl

pub returns-clause-only : goal.returns-clause-only
returns-clause-only c p more g x w =
    let h = started (words_of c.args.tokens.now) c.new-nodes.result.items _ c.new-nodes.ensures.items c.in_ok-operand.ensures in
    only_by (words_of c.args.tokens.now) _ c.in_ok-operand.operand c.run.new.nodes.items (words_of c.in_ok-operand.rest.now) p more h c.from_vec.ensures refl g x w
