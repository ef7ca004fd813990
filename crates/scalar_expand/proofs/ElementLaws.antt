-- Elements, and references to private scalars.
use Rattle.std.proofs.Common.{◌≡◌, refl, sym, ap, ◌∙◌, ℕ, List, [], ◌∷◌, map, reverse}
use mathlib.Core.List.{reverse_aux}
use Rattle.tree.specs.Plain.{Reference, Subscript, subscripts}
use Rattle.tree.specs.View.{reference_of, subscript_of}
use Rattle.tree.specs.declared.exprs.Ref.{Ref, out-Ref, roll-Ref}
use Rattle.tree.specs.declared.exprs.Sub.{Sub}
use Rattle.tree.proofs.Equations.{reference_of-is, reference_of-made}
use Rattle.scalar_expand.specs.Expanded.{element_or, expanded_reference, named_private}
use Rattle.scalar_expand.specs.declared.privates.Private.{Private}

map_onto : {A B : Type 0} (f : A → B) (xs ys : List A) → map f (reverse_aux xs ys) ≡ reverse_aux (map f xs) (map f ys)
map_onto f [] ys = refl
map_onto f (x ∷ xs) ys = map_onto f xs (x ∷ ys)

pub map_reverse : {A B : Type 0} (f : A → B) (xs : List A) → map f (reverse xs) ≡ reverse (map f xs)
map_reverse f xs = map_onto f xs []

pub element_is : (x : List ℕ) (old new : List Sub) → new ≡ reverse old
    → reference_of (roll-Ref (record { name = x; subs = new })) ≡ record { name = x; subscripts = subscripts (reverse (map subscript_of old)) }
element_is x old new e =
    reference_of-made x new ∙ ap (λ (qs : List Subscript). let r : Reference = record { name = x; subscripts = subscripts qs } in r) (ap (map subscript_of) e ∙ map_reverse subscript_of old)

-- ---- a reference

by_subs : (ps : List Private) (x : List ℕ) (ss : List Sub) → (ss ≡ [] → ⊥) → expanded_reference ps (record { name = x; subscripts = subscripts (map subscript_of ss) }) ≡ record { name = x; subscripts = subscripts (map subscript_of ss) }
by_subs ps x [] n = absurd (n refl)
by_subs ps x (s ∷ ss) n = refl

without_subs : (ps : List Private) (x : List ℕ) (ss : List Sub) → ss ≡ []
    → expanded_reference ps (record { name = x; subscripts = subscripts (map subscript_of ss) }) ≡ element_or (named_private ps x) (record { name = x; subscripts = subscripts (map subscript_of ss) })
without_subs ps x [] e = refl
without_subs ps x (s ∷ ss) e = cc

pub reference_stays : (ps : List Private) (r : Ref) → ((out-Ref r).subs ≡ [] → ⊥) → expanded_reference ps (reference_of r) ≡ reference_of r
reference_stays ps r n = ap (expanded_reference ps) (reference_of-is r) ∙ (by_subs ps (out-Ref r).name (out-Ref r).subs n ∙ sym (reference_of-is r))

pub reference_expanded : (ps : List Private) (r : Ref) → (out-Ref r).subs ≡ [] → expanded_reference ps (reference_of r) ≡ element_or (named_private ps (out-Ref r).name) (reference_of r)
reference_expanded ps r e =
    ap (expanded_reference ps) (reference_of-is r)
    ∙ (without_subs ps (out-Ref r).name (out-Ref r).subs e ∙ ap (element_or (named_private ps (out-Ref r).name)) (sym (reference_of-is r)))

pub ruleset reference_laws = (reference_stays, reference_expanded)
