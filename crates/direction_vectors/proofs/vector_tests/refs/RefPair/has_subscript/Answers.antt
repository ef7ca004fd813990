use Rattle.std.proofs.Common.{rules, arith, sym, ◌∙◌}
use Rattle.direction_vectors.proofs.vector_tests.refs.RefPair.has_subscript.Goals as goal

pub returns : goal.returns
returns c = λ t.
    record {
      pairing = c.is_valid.ensures c.if-not-is_valid.false;
      places = record { from_loops = search rules; to_loops = search rules; from_spans = search rules; to_spans = search rules };
      common = c.if-p-self.false;
      from_depth = sym c.from.ensures ∙ c.if-from-len.false ∙ c.len.ensures;
      to_depth = sym c.from-2.ensures ∙ c.if-from-len-2.false ∙ c.len-2.ensures;
      from_spans = c.are_padded.ensures c.if-not-are_padded.false;
      to_spans = c.are_padded-2.ensures t;
    }
