use Rattle.std.proofs.Common.{◌≡◌, take, subst}
use Rattle.std.specs.Prelude.{All, List}
use Rattle.std.proofs.lemmas.List.{take_all}
use Rattle.std.proofs.lemmas.List.Elements.{All-more}
use Rattle.subscripts.specs.Classes.{IsZiv}
use Rattle.subscripts.specs.declared.pairing.Pairing.{Pairing}
use Rattle.direction_vectors.proofs.vector_tests.Meetings.{all_at}
use Rattle.direction_vectors.proofs.vector_tests.siv.has_unequal_constants.Goals as goal

pub loop-p-preserved : goal.loop-p-preserved
loop-p-preserved c =
    All-more (λ p. IsZiv p → p.from.constant ≡ p.to.constant) c.args.ps.now c.loop-p.p-index _ c.loop-p-test.true c.loop-p.invariant (c.is_unequal.ensures.complete c.if-is_unequal.false)

pub returns-clause-complete : goal.returns-clause-complete
returns-clause-complete c =
    let t : take c.loop-p.p-index c.args.ps.now ≡ c.args.ps.now = take_all c.loop-p.p-index c.args.ps.now c.loop-p-test.false in
    let a = subst (λ (ps : List Pairing). All (λ p. IsZiv p → p.from.constant ≡ p.to.constant) ps) t c.loop-p.invariant in
    λ e h. h.differ (all_at (λ p. IsZiv p → p.from.constant ≡ p.to.constant) c.args.ps.now h.at h.pairing a h.is_at h.ziv)
