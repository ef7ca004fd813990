use Rattle.std.proofs.Common.{◌∙◌, sym, ap, map}
use Rattle.tree.specs.Plain.{Reference, Subscript, subscripts}
use Rattle.tree.proofs.Equations.{reference_of-made}
use Rattle.f77_tree.specs.Parts.{known_uses, known_store}
use Rattle.f77_tree.proofs.ResolvedLaws.{reference-resolved}
use Rattle.f77_tree.proofs.resolver.Resolver.+resolve.Goals as goal

pub resolve_reference-returns : goal.resolve_reference-returns
resolve_reference-returns t c =
    reference_of-made c.args.item.now.name c.in_ok-resolve_subs.field-0
    ∙ ap (λ ss. let q : Reference = record { name = c.args.item.now.name; subscripts = subscripts ss } in q) c.in_ok-resolve_subs.ensures
    ∙ sym (reference-resolved (known_uses c.args.self.now) (known_store c.args.self.now) c.args.item.now)
