-- Stores that hold a program: the first one of its runs, and those with one more value or array.
use Rattle.std.proofs.Common.{◌≡◌, refl, subst, ℕ, ◌^◌, ℤ, Bool, true, false, ◌&&◌, cond, Option, Some, None, IfSome, List, [], ◌∷◌}
use Rattle.std.proofs.lemmas.Nat.{pow_pos}
use Rattle.std.proofs.lemmas.Bool.Decides.{Decides-ltb}
use Rattle.std.proofs.lemmas.Slice.Eq.{bytes_eq-Decides}
use Rattle.std.specs.Str.{bytes_eq}
use Rattle.std.specs.Cmp.Lexicographic.{pointwise}
use Rattle.std.specs.Ordering.{int_eq}
use Rattle.tree.specs.Plain.{Extent, Given, Later, Declaration, Program}
use Rattle.tree.specs.declared.ops.Kind.{Kind}
use Rattle.tree.specs.declared.ops.Kind.TheVariants.{Integer, Logical}
use Rattle.tree.specs.declared.ops.Value.{Value}
use Rattle.tree.specs.declared.ops.Value.TheVariants.{Int, Truth}
use Rattle.meaning.specs.Dialect.{Dialect}
use Rattle.meaning.specs.Store.{Store, Cell, put, same_cell, nought, nought_like, opening_bounds, opening_value, opening_store, with_bounds, allocated}
use Rattle.meaning.specs.Typed.{declared}
use Rattle.meaning.specs.Holding.{HasBounds, IsStorable, HoldsProgram}

-- ---- 0 and `.FALSE.`

nought_storable : (lang : Dialect) (k : Kind) → IsStorable lang k (nought k)
nought_storable lang Integer = record { kind = refl; within = (Decides-ltb 0 (2 ^ lang.bits)).1 (pow_pos lang.bits) }
nought_storable lang Logical = record { kind = refl; within = refl }

nought_like_storable : (lang : Dialect) (k : Kind) (v : Value) → IsStorable lang k v → IsStorable lang k (nought_like v)
nought_like_storable lang k (Int z) h = record { kind = h.kind; within = (Decides-ltb 0 (2 ^ lang.bits)).1 (pow_pos lang.bits) }
nought_like_storable lang k (Truth b) h = record { kind = h.kind; within = refl }

-- ---- the opening store

opening_bounds_are : (ds : List Declaration) (x : List ℕ) → IfSome (declared ds x) (λ (e : Declaration). HasBounds e.extent (opening_bounds ds x))
opening_bounds_are [] x = tt
opening_bounds_are (d ∷ ds) x = by (bytes_eq d.name x) (opening_bounds_are ds x)
  where
    own : (e : Extent) → HasBounds e (elim e [ Given bs ↦ Some bs | Later n ↦ None ])
    own (Given bs) = refl
    own (Later n) = tt

    by : (b : Bool) → IfSome (declared ds x) (λ (e : Declaration). HasBounds e.extent (opening_bounds ds x))
        → IfSome (cond b (Some d) (declared ds x)) (λ (e : Declaration). HasBounds e.extent (cond b (elim d.extent [ Given bs ↦ Some bs | Later n ↦ None ]) (opening_bounds ds x)))
    by true more = own d.extent
    by false more = more

opening_values_are : (lang : Dialect) (ds : List Declaration) (x : List ℕ) → IfSome (declared ds x) (λ (e : Declaration). IsStorable lang e.kind (opening_value ds x))
opening_values_are lang [] x = tt
opening_values_are lang (d ∷ ds) x = by (bytes_eq d.name x) (opening_values_are lang ds x)
  where
    by : (b : Bool) → IfSome (declared ds x) (λ (e : Declaration). IsStorable lang e.kind (opening_value ds x))
        → IfSome (cond b (Some d) (declared ds x)) (λ (e : Declaration). IsStorable lang e.kind (cond b (nought d.kind) (opening_value ds x)))
    by true more = nought_storable lang d.kind
    by false more = more

pub opening_holds : (lang : Dialect) (p : Program) → HoldsProgram lang p (opening_store p)
opening_holds lang p = record { bounds = opening_bounds_are p.declarations; kinds = λ c. opening_values_are lang p.declarations c.name }

-- ---- one more value

same_name : (c d : Cell) → same_cell c d ≡ true → c.name ≡ d.name
same_name c d h = by (bytes_eq c.name d.name) refl h
  where
    by : (b : Bool) → bytes_eq c.name d.name ≡ b → (b && pointwise int_eq c.subscripts d.subscripts) ≡ true → c.name ≡ d.name
    by true e h = (bytes_eq-Decides c.name d.name).0 e
    by false e h = absurd cc

module _ (lang : Dialect) (p : Program) where
  abbrev pub Fits : List ℕ → Value → Type 0
  Fits x v = IfSome (declared p.declarations x) (λ (e : Declaration). IsStorable lang e.kind v)

  pub put_holds : (c : Cell) (v : Value) (s : Store) → Fits c.name v → HoldsProgram lang p s → HoldsProgram lang p (put c v s)
  put_holds c v s f h = record { bounds = h.bounds; kinds = λ d. by d (same_cell c d) refl }
    where
      by : (d : Cell) (b : Bool) → same_cell c d ≡ b → Fits d.name (cond b v (s.held d))
      by d true e = subst (λ x. Fits x v) (same_name c d e) f
      by d false e = h.kinds d

  -- ---- arrays that come and go

  bounds_put : (x : List ℕ) (b : Option (List (ℤ × ℤ))) (s : Store) → IfSome (declared p.declarations x) (λ (e : Declaration). HasBounds e.extent b) → HoldsProgram lang p s
      → (y : List ℕ) → IfSome (declared p.declarations y) (λ (e : Declaration). HasBounds e.extent ((with_bounds x b s).bounds y))
  bounds_put x b s f h y = by (bytes_eq x y) refl
    where
      by : (t : Bool) → bytes_eq x y ≡ t → IfSome (declared p.declarations y) (λ (e : Declaration). HasBounds e.extent (cond t b (s.bounds y)))
      by true e = subst (λ z. IfSome (declared p.declarations z) (λ (e : Declaration). HasBounds e.extent b)) ((bytes_eq-Decides x y).0 e) f
      by false e = h.bounds y

  pub without_holds : (x : List ℕ) (s : Store) → IfSome (declared p.declarations x) (λ (e : Declaration). HasBounds e.extent None) → HoldsProgram lang p s → HoldsProgram lang p (with_bounds x None s)
  without_holds x s f h = record { bounds = bounds_put x None s f h; kinds = h.kinds }

  if_storable : (o : Option Declaration) (v : Value) → IfSome o (λ (e : Declaration). IsStorable lang e.kind v) → IfSome o (λ (e : Declaration). IsStorable lang e.kind (nought_like v))
  if_storable None v h = tt
  if_storable (Some e) v h = nought_like_storable lang e.kind v h

  pub allocated_holds : (x : List ℕ) (bs : List (ℤ × ℤ)) (s : Store) → IfSome (declared p.declarations x) (λ (e : Declaration). HasBounds e.extent (Some bs)) → HoldsProgram lang p s → HoldsProgram lang p (allocated x bs s)
  allocated_holds x bs s f h = record { bounds = bounds_put x (Some bs) s f h; kinds = λ c. by c (bytes_eq x c.name) }
    where
      by : (c : Cell) (t : Bool) → IfSome (declared p.declarations c.name) (λ (e : Declaration). IsStorable lang e.kind (cond t (nought_like (s.held c)) (s.held c)))
      by c true = if_storable (declared p.declarations c.name) (s.held c) (h.kinds c)
      by c false = h.kinds c
