use Rattle.std.proofs.Common.{◌≡◌, arith, sym, length}
use Rattle.std.proofs.lemmas.List.{ext_get_or}
use Rattle.subscripts.specs.Iterations.{once}
use Rattle.subscripts.proofs.shapes.are_beside.Goals as goal

pub returns-then-are_same : goal.returns-then-are_same
returns-then-are_same c = λ t. record {
  common = sym c.if-p-q.false;
  from_depth = sym c.if-p-q-2.false;
  to_depth = sym c.if-p-q-3.false;
  from_spans = sym (ext_get_or once c.args.p.now.from_spans c.args.q.now.from_spans (omega arith) (λ k l. c.are_same.ensures c.if-are_same.true k (omega arith)));
  to_spans = sym (ext_get_or once c.args.p.now.to_spans c.args.q.now.to_spans (omega arith) (λ k l. c.are_same-then-are_same.ensures t k (omega arith)));
}
