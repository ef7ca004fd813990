use Rattle.std.proofs.Common.{◌≡◌, ◌∙◌, arith, sym, subst, inl, inr}
use Rattle.std.specs.Prelude.{IsSome, IsTrue}
use Rattle.std.proofs.lemmas.Bool.{cases_lt}
use Rattle.std.proofs.lemmas.List.{get_or_default, get_or_past}
use Rattle.std.proofs.lemmas.List.Elements.{All-from_get_or}
use Rattle.subscripts.specs.Iterations.{once}
use Rattle.subscripts.specs.declared.affine.Span.{Span}
use Rattle.subscripts.proofs.shapes.are_spans.Goals as goal

pub returns : goal.returns
returns c = λ t.
    record {
      past_depth = λ k l.
          elim (cases_lt k c.loop-place.place) [
            | inl m ↦ c.loop-place.invariant.past k l m
            | inr m ↦ get_or_past c.args.spans.now k once (omega arith)
          ];
      fixed = All-from_get_or (λ s. IsTrue s.fixed → IsSome s.last) c.args.spans.now once (λ k l. c.loop-place.invariant.ends k (omega arith));
    }
