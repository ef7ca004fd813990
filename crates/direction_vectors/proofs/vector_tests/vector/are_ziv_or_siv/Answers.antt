use Rattle.std.proofs.Common.{◌≡◌, take, subst, refl}
use Rattle.std.specs.Prelude.{All, List}
use Rattle.std.proofs.lemmas.List.{take_all}
use Rattle.std.proofs.lemmas.List.Elements.{All-more}
use Rattle.subscripts.specs.declared.pairing.Pairing.{Pairing}
use Rattle.direction_vectors.specs.vector_tests.Ways.{IsZivOrSiv}
use Rattle.direction_vectors.proofs.vector_tests.vector.are_ziv_or_siv.Goals as goal

pub loop-p-preserved : goal.loop-p-preserved
loop-p-preserved c =
    All-more IsZivOrSiv c.args.ps.now c.loop-p.p-index _ c.loop-p-test.true c.loop-p.invariant (c.is_ziv_or_siv.ensures.0 c.if-not-is_ziv_or_siv.false)

pub returns : goal.returns
returns c =
    let t : take c.loop-p.p-index c.args.ps.now ≡ c.args.ps.now = take_all c.loop-p.p-index c.args.ps.now c.loop-p-test.false in
    (λ e. subst (λ (ps : List Pairing). All IsZivOrSiv ps) t c.loop-p.invariant, λ a. refl)
