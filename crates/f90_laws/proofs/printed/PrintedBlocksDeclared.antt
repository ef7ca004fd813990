-- The declarations of a printed program are those of the tree.
use Rattle.std.proofs.Common.{◌≡◌, refl, ap, ap₂, ◌∙◌, sym, subst, ℕ, ◌+◌, ◌<◌, ◌^◌, ℤ, pos, negsuc, neg_ℤ, arith, decimal, add-one, List, [], ◌∷◌, map, FitsSigned, w64, None}
use Rattle.std.specs.List.{AllByRecursion}
use Rattle.std.specs.Ordering.{int_eq}
use Rattle.std.proofs.lemmas.Bool.{cond_both}
use Rattle.std.proofs.lemmas.Bool.Decides.{Decides-int_eq}
use Rattle.std.proofs.lemmas.Fmt.{decimal_is_IsNumeral_wide}
use Rattle.std.proofs.lemmas.List.{length-replicate}
use Rattle.tree.specs.Plain.{Extent, Given, Later, Declaration}
use Rattle.meaning.specs.Profile90.{IsDeclaration, IsExtent}
use Rattle.meaning.specs.Extents.{IsDimension}
use Rattle.f90_grammar.specs.Phrases.{value_of_digits}
use Rattle.f90_grammar.specs.Forms as forms
use Rattle.f90_grammar.specs.PrintedForms.{bound, dimension, dimensions_of, is_allocatable, printed_declaration}
use Rattle.f90_grammar.specs.Blocks.{Placed, placed_form}
use Rattle.f90_grammar.specs.Reading.{bound_value, dimension_bounds, extent_of_dimensions, entity_declaration}
use Rattle.f90_laws.proofs.printed.PrintedBlocksPlaced.{ArePlaced}
use Rattle.f90_laws.proofs.printed.PrintedBlocksPlaced.ArePlaced.{none, next}
use Rattle.f90_laws.proofs.printed.PrintedParts.{AreDeclared}
use Rattle.f90_laws.proofs.printed.PrintedParts.AreDeclared.{none as nothing, more}

-- ---- bounds

read_decimal : (n : ℕ) → n < 2 ^ 127 → value_of_digits (decimal n) ≡ n
read_decimal n h = (decimal_is_IsNumeral_wide n (omega arith)).1

bound_back : (z : ℤ) → FitsSigned w64 z → bound_value (bound z) ≡ z
bound_back (pos n) h = let l : n < 2 ^ 63 = h.sfits in ap pos (read_decimal n (omega arith))
bound_back (negsuc n) h =
    let l : n < 2 ^ 63 = h.sfits in
    ap (λ m. neg_ℤ (pos m)) (read_decimal (n + 1) (omega arith) ∙ add-one n)

abbrev pair : ℤ → ℤ → ℤ × ℤ
pair x y = (x, y)

dimension_back : (b : ℤ × ℤ) → IsDimension b → dimension_bounds (dimension b) ≡ b
dimension_back b h =
    cond_both (int_eq b.0 (pos 1)) (forms.Upper (bound b.1)) (forms.Both (bound b.0) (bound b.1)) (λ d. dimension_bounds d ≡ b)
    (λ e. ap₂ pair (sym ((Decides-int_eq b.0 (pos 1)).0 e)) (bound_back b.1 h.upper))
    (λ e. ap₂ pair (bound_back b.0 h.lower) (bound_back b.1 h.upper))

dimensions_back : (bs : List (ℤ × ℤ)) → AllByRecursion IsDimension bs → map dimension_bounds (map dimension bs) ≡ bs
dimensions_back [] h = refl
dimensions_back (b ∷ bs) h = ap₂ (λ x xs. x ∷ xs) (dimension_back b h.0) (dimensions_back bs h.1)

extent_back : (e : Extent) → IsExtent e → extent_of_dimensions (is_allocatable e) (dimensions_of e) ≡ e
extent_back (Given bs) h = ap Given (dimensions_back bs h.1)
extent_back (Later n) h = ap Later (length-replicate n forms.Deferred)

declaration_back : (d : Declaration) → IsDeclaration d
    → entity_declaration d.kind (is_allocatable d.extent) (record { name = d.name; dimensions = dimensions_of d.extent }) ≡ d
declaration_back d h = ap (λ (e : Extent). let r : Declaration = record { name = d.name; kind = d.kind; extent = e } in r) (extent_back d.extent h.extent)

pub declared_back : (ds : List Declaration) → AllByRecursion IsDeclaration ds → (ps : List Placed) → ArePlaced (map printed_declaration ds) ps → AreDeclared ps ds
declared_back [] h _ none = nothing
declared_back (d ∷ ds) h _ (next line s {ps = ps} p) =
    let e : forms.EntityForm90 = record { name = d.name; dimensions = dimensions_of d.extent } in
    subst (λ (x : Declaration). AreDeclared (placed_form line None (forms.Declare d.kind (is_allocatable d.extent) (e ∷ [])) ∷ ps) (x ∷ ds)) (declaration_back d h.0)
    (more line d.kind (is_allocatable d.extent) (e ∷ []) ps ds (declared_back ds h.1 ps p))
