-- Variables without subscripts, statements and nests with names.
use Rattle.std.proofs.Common.{◌≡◌, refl, ap, ap₂, ◌∙◌, ℕ, ◌+◌, List, [], ◌∷◌, map, Some, None}
use Rattle.tree.specs.Plain.{Named, subscripts}
use Rattle.tree.specs.View.{reference_of, subscript_of}
use Rattle.tree.specs.declared.exprs.Ref.{Ref, out-Ref}
use Rattle.tree.specs.declared.exprs.Sub.{Sub}
use Rattle.tree.proofs.Equations.{reference_of-is}
use Rattle.tree.specs.Plain.{Reference}
use Rattle.nest.specs.Plain.{Guarded, Nest}
use Rattle.statement_passes.specs.MadeNames.{with_made}
use Rattle.statement_passes.specs.Passes.{mapped_nest}
use Rattle.statement_passes.specs.Texts.{with_nodes}
use Rattle.scalar_rename.specs.Renamed.{bare_name, each_renamed, made_of_webs, name_by, names_at, renamed_statement, renaming, with_left_name, with_names}
use Rattle.scalar_rename.specs.declared.ranges.Web.{Web}

by_subs : (x : List ℕ) (ss : List Sub) → (ss ≡ [] → ⊥) → bare_name (Named x (subscripts (map subscript_of ss))) ≡ None
by_subs x [] n = absurd (n refl)
by_subs x (s ∷ ss) n = refl

without_subs : (x : List ℕ) (ss : List Sub) → ss ≡ [] → bare_name (Named x (subscripts (map subscript_of ss))) ≡ Some x
without_subs x [] e = refl
without_subs x (s ∷ ss) e = cc

pub item_is_bare : (r : Ref) → (out-Ref r).subs ≡ [] → bare_name (Named (reference_of r).name (reference_of r).subscripts) ≡ Some (out-Ref r).name
item_is_bare r e =
    ap (λ (q : Reference). bare_name (Named q.name q.subscripts)) (reference_of-is r)
    ∙ without_subs (out-Ref r).name (out-Ref r).subs e

pub item_has_subs : (r : Ref) → ((out-Ref r).subs ≡ [] → ⊥) → bare_name (Named (reference_of r).name (reference_of r).subscripts) ≡ None
item_has_subs r n =
    ap (λ (q : Reference). bare_name (Named q.name q.subscripts)) (reference_of-is r)
    ∙ by_subs (out-Ref r).name (out-Ref r).subs n

pub ruleset bare_laws = (item_is_bare, item_has_subs)

pub some_webs : (m : Nest) (ws : List Web) → (ws ≡ [] → ⊥) → with_names m ws ≡ with_made (mapped_nest (each_renamed ws) m) (made_of_webs m.number ws)
some_webs m [] n = absurd (n refl)
some_webs m (w ∷ ws) n = refl

pub both_sides : (ws : List Web) (k : ℕ) (g h : Guarded) (left : List ℕ) → h ≡ with_nodes (renaming (names_at ws k)) g → left ≡ name_by (names_at ws (k + 1)) g.left.name
    → with_left_name h left ≡ renamed_statement ws k g
both_sides ws k g h left e f = ap₂ with_left_name e f
