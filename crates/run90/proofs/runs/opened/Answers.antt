use Rattle.std.proofs.Common.{sym, ap, ◌∙◌, subst, map}
use Rattle.tree.specs.View.{declaration_of}
use Rattle.machine.specs.Moments.{seen_at}
use Rattle.machine.specs.Storage.{AreDistinct, opening_of}
use Rattle.array_values.specs.storage.Stored.{store_in}
use Rattle.run90.proofs.runs.opened.Goals as goal

pub new-requires : goal.new-requires
new-requires c = subst AreDistinct (sym (ap (map declaration_of) c.as_slice.ensures ∙ c.in_ok-own.ensures)) c.requires

pub returns : goal.returns
returns c =
    let ds = map declaration_of c.args.decls.now in
    let own = ap (map declaration_of) c.as_slice.ensures ∙ c.in_ok-own.ensures in
    ap (λ ds. seen_at ds (store_in c.in_ok-storage.storage) c.begin.result) c.in_ok-own.ensures
    ∙ ap (λ t. seen_at ds t c.begin.result) (c.in_ok-storage.ensures.opened ∙ ap opening_of own)
    ∙ ap (seen_at ds (opening_of ds)) c.begin.ensures
