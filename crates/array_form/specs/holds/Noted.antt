-- What is kept of each statement of a nest for the bounds of its subscripts.
use Rattle.std.specs.Prelude.{◌≡◌, ℕ, ◌==◌, false, ◌&&◌, if◌then◌else◌, IfSome, Option, Some, None, is_some}
use Rattle.std.specs.Prelude.{unwrap_or, All, List, [], ◌∷◌, ◌++◌, length}
use Rattle.std.specs.List.{flat_map, list_all}
use Rattle.std.specs.Str.{bytes_eq}
use Rattle.tree.specs.Plain.{Reference}
use Rattle.subscripts.specs.Shapes.{IsSmall}
use Rattle.subscripts.specs.declared.affine.Affine.{Affine}
use Rattle.tree.specs.View.{bounds_of}
use Rattle.tree.specs.declared.programs.Decl.{Decl}
use Rattle.tree.specs.declared.programs.Dim.{Dim}
use Rattle.tree.specs.declared.programs.Extent.{Extent}
use Rattle.tree.specs.declared.programs.Extent.TheVariants.{Scalar, Fixed, Later}
use Rattle.linear_forms.specs.Affines.{IsFound}
use Rattle.nest.specs.Bodies.{Standing}
use Rattle.nest.specs.Plain.{Nest}
use Rattle.array_form.specs.holds.Bounds as plain
use Rattle.array_form.specs.holds.Bounds.{bounded_subscripts, is_sized, loop_numbers_round, subscripts_of}
use Rattle.array_form.specs.declared.holds.noted.Bounded.{Bounded}
use Rattle.array_form.specs.declared.holds.noted.Gathered.{Gathered}
use Rattle.array_form.specs.declared.holds.noted.Noted.{Noted}

-- as many of one list as of the other, each as its fellow
abbrev pub AreEach : {A B : Type 0} → (A → B → Type 0) → List A → List B → Type 0
AreEach R [] [] = Unit {0}
AreEach R (x ∷ xs) (y ∷ ys) = R x y × AreEach R xs ys
AreEach R _ _ = ⊥

-- ---- subscripts

abbrev pub HasSmallForm : Bounded → Type 0
HasSmallForm b = IfSome b.form (λ (a : Affine). All IsSmall a.loops)

-- under so many loops
pub record IsBounded (depth : ℕ) (q : plain.Bounded) (b : Bounded) : Type 0 where
  pub form : IsFound depth q.form b.form
  pub small : HasSmallForm b
  pub bounds : q.bounds ≡ bounds_of b.bounds

abbrev pub AreBounded : ℕ → List plain.Bounded → List Bounded → Type 0
AreBounded depth qs bs = AreEach (IsBounded depth) qs bs

abbrev pub AreFound : ℕ → Option (List plain.Bounded) → Option (List Bounded) → Type 0
AreFound depth None None = Unit {0}
AreFound depth (Some qs) (Some bs) = AreBounded depth qs bs
AreFound depth _ _ = ⊥

-- forms and dimensions side by side
abbrev pub beside : List (Option Affine) → List Dim → List Bounded
beside (f ∷ fs) (d ∷ ds) = record { form = f; bounds = d } ∷ beside fs ds
beside _ _ = []

-- the dimensions that are declared of a name
abbrev pub dims_of : Extent → Option (List Dim)
dims_of Scalar = Some []
dims_of (Fixed ds) = Some ds
dims_of (Later n) = None

abbrev pub dims_in : List Decl → List ℕ → Option (List Dim)
dims_in [] x = None
dims_in (d ∷ ds) x = if bytes_eq d.name x then dims_of d.extent else dims_in ds x

abbrev pub sized_by : List (Option Affine) → List Dim → Option (List Bounded)
sized_by fs ds = if length fs == length ds then Some (beside fs ds) else None

abbrev pub sized_within : List (Option Affine) → Option (List Dim) → Option (List Bounded)
sized_within fs None = None
sized_within fs (Some ds) = sized_by fs ds

-- ---- references

-- what one reference adds to what was found so far
abbrev pub with_found : Gathered → Option (List Bounded) → Gathered
with_found g None = record { sized = false; subscripts = g.subscripts }
with_found g (Some bs) = record { sized = g.sized; subscripts = g.subscripts ++ bs }

-- what these references add to what was found so far
pub record IsGathered (n : Nest) (loops : List (List ℕ)) (rs : List Reference) (old new : Gathered) : Type 0 where
  pub more : List Bounded
  pub subscripts : new.subscripts ≡ old.subscripts ++ more
  pub are : AreBounded (length loops) (flat_map (λ r. unwrap_or (bounded_subscripts n loops r) []) rs) more
  pub sized : new.sized ≡ (old.sized && list_all (λ r. is_some (bounded_subscripts n loops r)) rs)

-- ---- statements

pub record IsNoted (n : Nest) (x : Standing) (s : Noted) : Type 0 where
  pub guarded : s.guarded ≡ is_some x.statement.guard
  pub loops : s.loops ≡ loop_numbers_round x
  pub sized : s.sized ≡ is_sized n x
  pub subscripts : AreBounded (length x.loops) (subscripts_of n x) s.subscripts

abbrev pub AreNoted : Nest → List Standing → List Noted → Type 0
AreNoted n xs ss = AreEach (IsNoted n) xs ss

-- behind those so far
pub record IsNotedBehind (n : Nest) (xs : List Standing) (old new : List Noted) : Type 0 where
  pub more : List Noted
  pub is : new ≡ old ++ more
  pub are : AreNoted n xs more
