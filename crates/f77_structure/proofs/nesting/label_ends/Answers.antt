use Rattle.std.proofs.Common.{ap, ◌∙◌, arith}
use Rattle.f77_structure.specs.LabelPlaces.{place_of}
use Rattle.f77_structure.specs.Openings.{last_with}
use Rattle.f77_structure.proofs.Closers.{ends_more}
use Rattle.f77_grammar.proofs.syntax.Walks.{all_passed}
use Rattle.f77_structure.proofs.nesting.label_ends.Goals as goal

pub loop-i-preserved : goal.loop-i-preserved
loop-i-preserved c = record {
  places = ends_more c.args.text.now c.loop-i.i c.index-text-i.result (place_of c.loop-i.ends) (place_of c.put.new.self) (omega arith) c.index-text-i.is
      c.loop-i.invariant.places c.in_ok-put.ensures;
}

pub returns : goal.returns
returns c = λ n. c.loop-i.invariant.places n ∙ ap (λ xs. last_with xs n) (all_passed c.args.text.now c.loop-i.i (omega arith))
