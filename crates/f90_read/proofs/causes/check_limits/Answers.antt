use Rattle.std.proofs.Common.{arith, ◌⊎◌, ◌≡◌, false}
use Rattle.tree.specs.declared.refusals.Cause.TheVariants.{Limit90}
use Rattle.f90_grammar.specs.Blocks.{Placed}
use Rattle.f90_grammar.specs.Bounds.{HasManyNames}
use Rattle.f90_grammar.specs.Contents.{has_wide_literal_in}
use Rattle.f90_grammar.specs.Order.{Place90}
use Rattle.f90_laws.proofs.readings.Lists.{all_at}
use Rattle.f90_read.proofs.CheckLaws.{limited, IsDeepBlock, IsBeyondBounds, IsBeyondElements, IsBeyond, first_refused}
use Rattle.f90_read.proofs.CheckLaws.{first_of_either}
use Rattle.f90_read.proofs.StatementLaws.{narrow, fewer}
use Rattle.f90_read.proofs.causes.check_limits.Goals as goal

pub returns : goal.returns
returns c source ps t clear =
    let s = t.of_text in
    let small = narrow source ps s (fewer source 36 40 (omega arith) clear) in
    let bounds = first_of_either ps IsDeepBlock IsBeyondBounds c.in_ok-blocks.blocks c.first_beyond_bounds.result
    c.earlier-bounds.result c.earlier-bounds.ensures
    (c.in_ok-blocks.ensures ps t.are) (c.first_beyond_bounds.ensures ps t.are) in
    let elements = first_of_either ps (λ (p : Place90). IsDeepBlock p ⊎ IsBeyondBounds p) IsBeyondElements
    c.earlier-bounds.result c.first_beyond_elements.result
    c.earlier-elements.result c.earlier-elements.ensures bounds
    (c.first_beyond_elements.ensures ps t.are (λ p m. all_at (λ (q : Placed). has_wide_literal_in q.form ≡ false) ps
    p small m)) in
    let all = first_of_either ps (λ (p : Place90). (IsDeepBlock p ⊎ IsBeyondBounds p) ⊎ IsBeyondElements p) HasManyNames
    c.earlier-elements.result
    c.first_beyond_names.result c.earlier-names.result c.earlier-names.ensures elements
    (c.first_beyond_names.ensures ps t.are) in
    limited source ps s c.refuse.result clear (first_refused ps Limit90 IsBeyond c.earlier-names.result c.refuse.result
    (c.refuse.ensures ps t.are) all)
