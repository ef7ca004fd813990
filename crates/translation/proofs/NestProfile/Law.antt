-- What stands in the place of a nest is of the profile.
use Rattle.std.proofs.Common.{refl, sym, subst, ◌+◌, ◌≤◌, List, arith}
use Rattle.tree.specs.Limits.{expression_depth90}
use Rattle.tree.specs.Plain.{Block, Declaration}
use Rattle.array_form.specs.profile.Laws.{rise}
use Rattle.listing.proofs.programs.Arranging.{last_depth}
use Rattle.meaning.specs.Profile90.{IsBlock}
use Rattle.meaning_laws.specs.profiles.Profiles.{AddMadeNames}
use Rattle.pass_laws.proofs.PreparedRuns.Profile.{prepared_translation_is_of_profile}
use Rattle.translation.proofs.NestTranslation.Prepared.{passed_nest_is_prepared, same_declarations}
use Rattle.translation.specs.nest_profile.Laws.{TranslationIsOfProfile}
use Rattle.tree.specs.declared.width.Width.{Width}

-- ---- the law

room : last_depth + rise ≤ expression_depth90
room = let e : 844 ≤ 1000 = omega arith in e

pub translation_is_of_profile : (width : Width) → TranslationIsOfProfile width
translation_is_of_profile width p r n m b w found is among added translated counters made transpose reshape number round source =
    let prepared =
    passed_nest_is_prepared width p translated.counts n m w found is among translated.passed round source r added counters made in
    let own = same_declarations p translated.counts n m found translated.passed in
    subst (λ (c : Block). IsBlock r.declarations c w) (sym translated.block)
    (prepared_translation_is_of_profile r.declarations w.variables last_depth m translated.pieces w added.are prepared
    translated.are translated.passed.numbered.statements room
    (subst (λ (ds : List Declaration). AddMadeNames ds r.declarations) (sym own) added) transpose reshape refl)
