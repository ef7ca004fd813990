-- Sections, subscript by subscript.
use Rattle.std.proofs.Common.{◌≡◌, refl, sym, ap, ◌∙◌, ℕ, List, [], ◌∷◌, map}
use Rattle.tree.specs.Plain.{Expression, Named, Reference, Subscript, subscript, subscripts}
use Rattle.tree.specs.View.{reference_of, subscript_of}
use Rattle.tree.specs.declared.lists.Seq.{Seq}
use Rattle.tree.specs.declared.exprs.Sub.{Sub}
use Rattle.tree.specs.declared.exprs.Ref.{Ref, out-Ref, roll-Ref}
use Rattle.tree.proofs.Equations.{reference_of-is, reference_of-made}
use Rattle.meaning.specs.Value.{named}
use Rattle.reductions.specs.Gathering.{in_section, section_of, sectioned}

pub sectioned_each : (i : List ℕ) (t : Expression) (ps : List Subscript) → subscripts (map (in_section i t) ps) ≡ sectioned i t (subscripts ps)
sectioned_each i t [] = refl
sectioned_each i t (p ∷ ps) = ap (subscript (in_section i t p)) (sectioned_each i t ps)

pub section_made : (i : List ℕ) (t : Expression) (r : Ref) (new : Seq Sub) → subscripts (map subscript_of new) ≡ sectioned i t (subscripts (map subscript_of (out-Ref r).subs))
    → named (reference_of (roll-Ref (record { name = (out-Ref r).name; subs = new }))) ≡ section_of i t (named (reference_of r))
section_made i t r new e =
    ap named (reference_of-made (out-Ref r).name new) ∙ (ap (Named (out-Ref r).name) e ∙ sym (ap (λ (q : Reference). section_of i t (named q)) (reference_of-is r)))

pub ruleset item_laws = (section_made)
