-- What a machine relies on in a program of the profile.
use Rattle.std.proofs.Common.{◌≡◌, sym, map, ap, ◌∙◌, subst, ℕ, ℤ, ◌+◌, ◌≤◌, false, List, [], ◌∷◌, arith}
use Rattle.std.specs.List.{AllByRecursion}
use Rattle.std.specs.Prelude.{sum_by, ◌^◌, ◌*◌, ◌-ℤ◌, nat_abs}
use Rattle.std.specs.Str.{bytes_eq}
use Rattle.std.specs.Ordering.{nat_cmp, is_eq}
use Rattle.std.specs.Cmp.Lexicographic.{slice_cmp}
use Rattle.std.specs.declared.cmp.Ordering.TheVariants.{Less}
use Rattle.std.proofs.lemmas.Map.Text.{is_eq-slice_cmp}
use Rattle.std.proofs.lemmas.List.Sums.{sum_by-cons, sum-map}
use Rattle.std.proofs.lemmas.Int.{ints}
use Rattle.std.proofs.lemmas.Nat.{mul-le}
use Rattle.std.proofs.Math.Nat.{mul-le-mul_left, mul-le-mul_right}
use Rattle.tree.specs.Plain.{Declaration, Extent, Given, Later, Program, Statement, Assignment, Where, If, Do, Label}
use Rattle.tree.specs.Plain.{GoTo, Stop, Read, Print, Allocate, Deallocate, Arms, no_arms, arm, Block, no_statements}
use Rattle.tree.specs.Plain.{statement}
use Rattle.meaning.specs.Names.{IsInByteOrder}
use Rattle.meaning.specs.Typed.{dimensions}
use Rattle.meaning.specs.Dialect.{fortran77}
use Rattle.tree.specs.declared.width.Width.{Width}
use Rattle.meaning.specs.Blocks.{Surroundings, before_labels, labels_of, within_loop}
use Rattle.meaning.specs.Profile77.{IsProgram77, IsDeclaration, IsDimension, IsFixed}
use Rattle.meaning.specs.Extents.{array_elements, elements_of}
use Rattle.meaning.specs.Store.{size_of}
use Rattle.machine.proofs.StoreLaws.{size_is}
use Rattle.meaning.specs.Profile77.{IsStatement, AreArms, IsBlock}
use Rattle.machine.specs.Statements.{HasArms, ArmsHaveArms, BlockHasArms}
use Rattle.machine.specs.Storage.{AreArrays, AreBounds, IsBounded, HasBounds, AreDistinct}

mutual
  statement_has_arms : (ds : List Declaration) (c : Statement) (w : Surroundings) → IsStatement ds c w → HasArms c
  statement_has_arms ds (Assignment line mark left right) w h = tt
  statement_has_arms ds (Where line mark mask left right) w h = absurd h
  statement_has_arms ds (If line as' other) w h = (h.1, arms_have_arms ds as' w h.2, block_has_arms ds other w h.3)
  statement_has_arms ds (Do line x a b c body) w h = block_has_arms ds body (within_loop x w) h.5
  statement_has_arms ds (Label n) w h = tt
  statement_has_arms ds (GoTo line n) w h = tt
  statement_has_arms ds (Stop line) w h = tt
  statement_has_arms ds (Read line is) w h = tt
  statement_has_arms ds (Print line is) w h = tt
  statement_has_arms ds (Allocate line x es) w h = absurd h
  statement_has_arms ds (Deallocate line x) w h = absurd h

  arms_have_arms : (ds : List Declaration) (as' : Arms) (w : Surroundings) → AreArms ds as' w → ArmsHaveArms as'
  arms_have_arms ds no_arms w h = tt
  arms_have_arms ds (arm test body more) w h = (block_has_arms ds body w h.1, arms_have_arms ds more w h.2)

  pub block_has_arms : (ds : List Declaration) (b : Block) (w : Surroundings) → IsBlock ds b w → BlockHasArms b
  block_has_arms ds no_statements w h = tt
  block_has_arms ds (statement c cs) w h = (statement_has_arms ds c (before_labels (labels_of cs) w) h.0, block_has_arms ds cs w h.1)

-- ---- the declarations of a program

few_elements : (bs : List (ℤ × ℤ)) (others : ℕ) → array_elements bs + others ≤ 2 ^ 22 → elements_of bs ≤ 2 ^ 22
few_elements [] others l = omega arith
few_elements (b ∷ bs) others l = omega arith

abbrev counted : Declaration → ℕ
counted d = array_elements (dimensions d.extent)

-- each dimension has a number, so none has more than the array has elements
some_elements : (width : Width) → (bs : List (ℤ × ℤ)) → AllByRecursion (IsDimension (fortran77 width)) bs → 1 ≤ elements_of bs
some_elements width [] h = omega arith
some_elements width (b ∷ bs) h =
    let size : size_of b ≡ nat_abs (b.1 -ℤ b.0) + 1 = size_is b h.0.ordered in
    let more = some_elements width bs h.1 in
    let least : 1 * 1 ≤ size_of b * elements_of bs = mul-le 1 1 (size_of b) (elements_of bs) (omega (arith, size)) more in
    omega (arith, least)

one_bounded : (width : Width) → (b : ℤ × ℤ) → IsDimension (fortran77 width) b → size_of b ≤ 2 ^ 22 → IsBounded b
one_bounded width b h l = (let size : size_of b ≡ nat_abs (b.1 -ℤ b.0) + 1 = size_is b h.ordered in let o = h.ordered in record { ordered = o; near = omega (arith, ints, size, l, o) })

bounded : (width : Width) → (bs : List (ℤ × ℤ)) → AllByRecursion (IsDimension (fortran77 width)) bs → elements_of bs ≤ 2 ^ 22 → AllByRecursion IsBounded bs
bounded width [] h l = tt
bounded width (b ∷ bs) h l =
    let size : size_of b ≡ nat_abs (b.1 -ℤ b.0) + 1 = size_is b h.0.ordered in
    let more = some_elements width bs h.1 in
    let first : size_of b * 1 ≤ size_of b * elements_of bs = mul-le-mul_left (size_of b) more in
    let some : 1 ≤ size_of b = omega (arith, size) in
    let rest : 1 * elements_of bs ≤ size_of b * elements_of bs = mul-le-mul_right (elements_of bs) some in
    (one_bounded width b h.0 (omega (arith, first, l)), bounded width bs h.1 (omega (arith, rest, l)))

fixed_bounds : (e : Extent) → IsFixed e → AreBounds (dimensions e) → HasBounds e
fixed_bounds (Given bs) f h = h
fixed_bounds (Later n) f h = absurd f

arrays : (width : Width) → (ds : List Declaration) → AllByRecursion (IsDeclaration (fortran77 width)) ds → sum_by counted ds ≤ 2 ^ 22 → AreArrays ds
arrays width [] h l = tt
arrays width (d ∷ ds) h l =
    let all : sum_by counted (d ∷ ds) ≡ counted d + sum_by counted ds = sum_by-cons counted d ds in
    let few : elements_of (dimensions d.extent) ≤ 2 ^ 22 = few_elements (dimensions d.extent) (sum_by counted ds) (let sum : counted d + sum_by counted ds ≤ 2 ^ 22 = omega (arith, all, l) in sum) in
    (fixed_bounds d.extent h.0.fixed (record { each = bounded width (dimensions d.extent) h.0.dimension few; dimensions = h.0.few; few = few }), arrays width ds h.1 (omega (arith, all, l)))

pub are_arrays : (width : Width) → (p : Program) → IsProgram77 (fortran77 width) p → AreArrays p.declarations
are_arrays width p h = arrays width p.declarations h.declarations.each (subst (λ n. n ≤ 2 ^ 22) (sum-map counted p.declarations) h.declarations.elements)

-- a name is none of those after it in byte order
apart : (x : List ℕ) (ds : List Declaration) → AllByRecursion (λ y. slice_cmp nat_cmp x y ≡ Less) (map (λ (d : Declaration). d.name) ds) → AllByRecursion (λ (d : Declaration). bytes_eq x d.name ≡ false) ds
apart x [] h = tt
apart x (d ∷ ds) h = (sym (is_eq-slice_cmp x d.name) ∙ ap is_eq h.0, apart x ds h.1)

distinct : (ds : List Declaration) → IsInByteOrder (map (λ (d : Declaration). d.name) ds) → AreDistinct ds
distinct [] h = tt
distinct (d ∷ ds) h = (apart d.name ds h.0, distinct ds h.1)

pub are_distinct : (width : Width) → (p : Program) → IsProgram77 (fortran77 width) p → AreDistinct p.declarations
are_distinct width p h = distinct p.declarations h.declarations.ordered
