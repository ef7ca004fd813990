use Rattle.std.proofs.Common.{refl, sym, ap, ◌∙◌, nat_eq, ◌||◌}
use Rattle.std.proofs.lemmas.List.{get_or_read}
use Rattle.components.specs.Rest.{has}
use Rattle.components.proofs.Releasing.{added_free, kept_free}
use Rattle.components.proofs.rest.Rest.add_if_free.Goals as goal

pub returns-then-index-ne0 : goal.returns-then-index-ne0
returns-then-index-ne0 c =
    let r = c.args.self.now in
    let value = get_or_read r.counts.items c.args.class c.index.result.now c.requires.class c.index.ensures 0 in
    kept_free c.args.tables.now c.args.class r (λ e. c.if-index-ne0.true (value ∙ e))

pub returns : goal.returns
returns c =
    let r = c.args.self.now in
    let value = get_or_read r.counts.items c.args.class c.index.result.now c.requires.class c.index.ensures 0 in
    added_free c.args.tables.now c.args.class r (record r { ready = c.add.new.self }) refl (sym value ∙ c.if-index-ne0.false)
    (λ v. c.in_ok-add.ensures v ∙ ap (λ z. nat_eq v z || has r.ready v) c.first.ensures)
