-- END DO closes the nearest DO or block IF that is open.
use Rattle.std.proofs.Common.{◌≡◌, false, [], sym, subst, refl}
use Rattle.std.specs.List.{AllByRecursion}
use Rattle.f77_grammar.specs.program.Text.{Place77, places}
use Rattle.f77_grammar.specs.program.Nesting.{is_nested_wrongly}
use Rattle.f77_grammar.specs.program.Limits.{no_values}
use Rattle.f77_grammar.specs.program.EndDo.{with_loop_labels}
use Rattle.f77_grammar.specs.program.Blocks.{AreBlock77}
use Rattle.f77_laws.specs.trees.Written.{AreClosed, NestedAreClosed}
use Rattle.f77_laws.proofs.trees.Segments.{all_labelled, AreFresh, once_fresh}
use Rattle.f77_laws.proofs.trees.Labelling.{block_made}
use Rattle.f77_laws.proofs.trees.Unlabelling.{block_read}
use Rattle.f77_laws.proofs.trees.WellNested.{nested_form_block}

pub nested_are_closed : NestedAreClosed
nested_are_closed text written once = (closed, nested)
  where
    closed : AllByRecursion (λ (p : Place77). is_nested_wrongly p ≡ false) (places (with_loop_labels text)) → AreClosed text
    closed h =
        let b = (nested_form_block [] no_values [] (with_loop_labels text) once).0 h in
        (block_read [] no_values [] (with_loop_labels text) b.0 b.1 text [] (sym (all_labelled text)) written
        (λ k g. refl)).closed

    nested : AreClosed text → AllByRecursion (λ (p : Place77). is_nested_wrongly p ≡ false) (places (with_loop_labels text))
    nested h =
        let fresh =
        subst (λ zs. AreFresh zs) (all_labelled text) (once_fresh [] (with_loop_labels text) once) in
        let m = block_made [] no_values [] text [] h (record { fresh = fresh; apart = λ k g. refl }) in
        (nested_form_block [] no_values [] (with_loop_labels text) once).1
        (m.made, subst (λ zs. AreBlock77 [] no_values [] zs m.made) (sym (all_labelled text)) m.formed)
