use Rattle.std.proofs.Common.{◌≡◌, ◌∙◌, ap, ap₂, map, not, Bool, List}
use Rattle.std.specs.Prelude.{◌||◌}
use Rattle.std.specs.List.{filter}
use mathlib.Core.Path.{fun_ext}
use Rattle.tree.specs.Plain.{Declaration, Program}
use Rattle.tree.specs.View.{block_of, declaration_of}
use Rattle.reductions.specs.Finding.{is_source}
use Rattle.reductions.proofs.programs.with_names_left.Goals as goal

pub returns : goal.returns
returns c = λ b h.
    ap (λ (ds : List Declaration). let q : Program = record { name = c.args.name; declarations = ds; body = block_of c.args.body } in q)
    (c.in_ok-decls.ensures ∙ ap (λ (p : Declaration → Bool). filter p (map declaration_of c.args.decls))
    (fun_ext (λ (d : Declaration). ap₂ (λ m n. is_source d.name || (m || not n)) (c.in_ok-new.ensures d.name) (h d.name))))
