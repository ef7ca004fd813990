use Rattle.std.proofs.Common.{cond, sym, ap, ◌∙◌, arith}
use Rattle.std.specs.Str.{bytes_eq}
use Rattle.std.proofs.lemmas.Slice.Eq.{bytes_eq-Decides}
use Rattle.f77_names.specs.UsesView.{role_of}
use Rattle.f77_names.specs.NameFacts.{facts_in, facts_with}
use Rattle.f77_names.proofs.FactLaws.{facts_more, noted}
use Rattle.f77_names.proofs.names.names_of.Goals as goal

pub loop-used-preserved : goal.loop-used-preserved
loop-used-preserved c = record {
  known = λ x.
      noted (facts_in c.loop-used.names) (facts_in c.note.new.self) c.used-item.result.name (role_of c.used-item.result.role) x (λ a b. (bytes_eq-Decides a b).0) (c.in_ok-note.ensures x)
      ∙ ap (λ f. cond (bytes_eq c.used-item.result.name x) (facts_with f (role_of c.used-item.result.role)) f) (c.loop-used.invariant.known x)
      ∙ sym (facts_more c.args.uses.now c.loop-used.used-index c.used-item.result x (omega arith) c.used-item.is);
}
