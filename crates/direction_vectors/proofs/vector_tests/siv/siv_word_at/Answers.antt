use Rattle.std.proofs.Common.{sym, subst}
use Rattle.std.proofs.lemmas.Option.{get_or_from_slice_get}
use Rattle.subscripts.specs.Classes.{HasOneLoop}
use Rattle.subscripts.specs.declared.pairing.Pairing.{Pairing}
use Rattle.direction_vectors.proofs.vector_tests.Steps.{siv_at}
use Rattle.direction_vectors.proofs.vector_tests.siv.siv_word_at.Goals as goal

pub returns-in-Some : goal.returns-in-Some
returns-in-Some c =
    siv_at c.refuted_siv.result c.args.ps.now c.args.d.now c.args.place _ c.requires.place (c.is_separable.ensures.0 c.if-not-is_separable.false) c.refuted_siv.ensures

pub returns-in-None : goal.returns-in-None
returns-in-None c = λ p l e s h. absurd (c.in-None.ensures l (subst (λ (z : Pairing). HasOneLoop z l) (sym (get_or_from_slice_get c.args.ps.now c.args.place p _ e)) h))
