use Rattle.std.proofs.Common.{◌≡◌, subst, true, false, rules, SFits}
use Rattle.std.specs.Prelude.{is_some}
use Rattle.std.specs.Int.{w64}
use Rattle.std.proofs.lemmas.Int.{to_z-of_z}
use Rattle.linear_forms.proofs.PartLaws.{Zero, Combines, product_by_first, product_by_second}
use Rattle.linear_forms.proofs.forms.product_form.Goals as goal

pub returns-then-is_some : goal.returns-then-is_some
returns-then-is_some c =
    let f = c.args.f.now in
    let g = c.args.g.now in
    let yes : is_some c.args.k ≡ true = search rules in
    let fits : SFits w64 f.constant = search rules in
    product_by_first c.args.k c.args.l f g c.combined.result yes (subst (λ z. Combines Zero g z c.combined.result) (to_z-of_z w64 f.constant fits) c.combined.ensures)

pub returns-then-is_some-2 : goal.returns-then-is_some-2
returns-then-is_some-2 c =
    let f = c.args.f.now in
    let g = c.args.g.now in
    let no : is_some c.args.k ≡ false = search rules in
    let yes : is_some c.args.l ≡ true = search rules in
    let fits : SFits w64 g.constant = search rules in
    let r = c.combined-then-is_some-2.result in
    product_by_second c.args.k c.args.l f g r no yes (subst (λ z. Combines Zero f z r) (to_z-of_z w64 g.constant fits) c.combined-then-is_some-2.ensures)
