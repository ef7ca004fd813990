use Rattle.std.proofs.Common.{sym, subst}
use Rattle.std.proofs.lemmas.Bool.{both_ways}
use Rattle.std.proofs.lemmas.Option.{get_or_from_slice_get}
use Rattle.subscripts.specs.Classes.{IsMiv}
use Rattle.direction_vectors.proofs.vector_tests.Steps.{miv_at}
use Rattle.direction_vectors.proofs.vector_tests.siv.miv_word_at.Goals as goal

pub returns-then-is_miv : goal.returns-then-is_miv
returns-then-is_miv c =
    miv_at c.refuted_miv.result c.args.ps.now c.args.d.now c.args.place _ c.requires.place (c.is_separable.ensures.0 c.if-not-is_separable.false) c.refuted_miv.ensures

pub returns-else-is_miv : goal.returns-else-is_miv
returns-else-is_miv c =
    λ p e s h. absurd (both_ways c.is_miv.result c.if-is_miv.false (c.is_miv.ensures.1 (subst IsMiv (sym (get_or_from_slice_get c.args.ps.now c.args.place p _ e)) h)))
