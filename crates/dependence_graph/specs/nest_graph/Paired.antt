-- Two references of a nest as the tests have them, in seven places.
use Rattle.std.specs.Prelude.{ℕ, ◌-◌, ℤ, pos, Bool, true, false, Option, Some, None, List, [], ◌++◌, length, map, take}
use Rattle.std.specs.Prelude.{drop, replicate}
use Rattle.subscripts.specs.declared.affine.Affine.{Affine}
use Rattle.subscripts.specs.declared.affine.Span.{Span}
use Rattle.subscripts.specs.declared.pairing.Pairing.{Pairing}
use Rattle.linear_forms.specs.Linear.{Form, constant_form}
use Rattle.linear_forms.specs.Places.{padded as padded_terms, terms_from}
use Rattle.direction_vectors.specs.vector_tests.Refs.{padded}
use Rattle.direction_vectors.specs.declared.vector_tests.refs.RefPair.{RefPair}
use Rattle.dependence_graph.specs.nest_graph.Indices.{SubscriptPair, subscript_pairs}
use Rattle.dependence_graph.specs.nest_graph.References.{variables_round}
use Rattle.dependence_graph.specs.nest_graph.Spans.{spans_of}
use Rattle.dependence_graph.specs.nest_graph.Tested.{Both, common_of}

-- 0 in the places past the last loop
abbrev pub seven : List ℤ → List ℤ
seven cs = cs ++ replicate (7 - length cs) (pos 0)

-- a form under so many loops
abbrev pub affine_of : ℕ → Form → Affine
affine_of depth f = record {
  loops = seven (take depth f.coefficients);
  syms = padded_terms (terms_from 0 (drop depth f.coefficients));
  constant = f.constant;
}

-- two subscripts that aren't both linear, in loops of which so many stand round both
abbrev pub unknown_pairing : ℕ → List Span → List Span → Pairing
unknown_pairing common from to = record {
  from = affine_of 0 (constant_form (pos 0));
  to = affine_of 0 (constant_form (pos 0));
  known = false;
  common = common;
  from_depth = length from;
  to_depth = length to;
  from_spans = padded from;
  to_spans = padded to;
}

abbrev pub pairing_from : Pairing → ℕ → ℕ → Option SubscriptPair → Pairing
pairing_from unknown m n None = unknown
pairing_from unknown m n (Some p) =
    record unknown { from = affine_of m p.first; to = affine_of n p.second; known = true }

abbrev pub unknown_of : Both → Pairing
unknown_of b =
    unknown_pairing (common_of b.first.loops b.second.loops) (spans_of [] b.first.loops) (spans_of [] b.second.loops)

abbrev pub pairing_of : Both → Option SubscriptPair → Pairing
pairing_of b o = pairing_from (unknown_of b) (length (variables_round b.first)) (length (variables_round b.second)) o

-- both, which may meet in one turn or not
abbrev pub refs_of : Both → Bool → RefPair
refs_of b turn = record {
  subs = map (pairing_of b) (subscript_pairs b);
  from_spans = spans_of [] b.first.loops;
  to_spans = spans_of [] b.second.loops;
  common = common_of b.first.loops b.second.loops;
  same_turn = turn;
}
