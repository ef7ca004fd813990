-- The frame of a prepared nest: its arrays come to be before what it is run as, and go behind it.
use Rattle.std.proofs.Common.{◌≡◌, inl, inr, sym, ap, ◌∙◌, subst, ℕ, zero, suc, ◌+◌, ℤ, List, [], ◌∷◌, ◌++◌, Option, Some, None}
use Rattle.std.proofs.Common.{IfSome, arith, refl}
use Rattle.std.specs.Option.{IsSomeAnd}
use Rattle.components.specs.Lists as lists
use Rattle.linear_forms.specs.Linear.{HaveValues}
use Rattle.meaning.specs.Dialect.{fortran90}
use Rattle.tree.specs.declared.width.Width.{Width}
use Rattle.meaning.specs.Holding.{HasBounds, HoldsProgram}
use Rattle.meaning.specs.Run.{Going, State, does_all}
use Rattle.meaning.specs.Store.{Store}
use Rattle.meaning.specs.Typed.{declared}
use Rattle.nest.specs.Allocations.{deallocations}
use Rattle.nest.specs.Plain.{Made, Nest}
use Rattle.nest_order.specs.facts.Facts.{values_from}
use Rattle.nest_order.proofs.orders.Lists.{In-left, In-right}
use Rattle.nest_order.specs.orders.Lists.{In}
use Rattle.nest_order.specs.runs.Guarded.{variable_cell}
use Rattle.nest_order.specs.runs.Touched.{nth_of}
use Rattle.pass_laws.proofs.NormalFacts.Tables.{all_in, each_from}
use Rattle.pass_laws.proofs.ReadyNests.Lists.{Each-All}
use Rattle.pass_laws.specs.normal_facts.Laws.{IsCounter}
use Rattle.pass_laws.specs.prepared_runs.Allocations.{AreFree, ArraysAreAllocated, ArraysAreDeallocated, IsAllocated, IsDeallocated}
use Rattle.pass_laws.specs.prepared_runs.Allocations.{made_arrays, name_of_array}
use Rattle.pass_laws.specs.prepared_nests.Made.{AreBoundsBy, AreOf64Bits, IsPreparedMade, extent_for}
use Rattle.pass_laws.specs.prepared_nests.Nests.{IsPrepared, IsPreparedSymbol}
use Rattle.pass_laws.specs.prepared_runs.Allocations.{HasMade, HoldSymbols}
use Rattle.pass_laws.proofs.PreparedNests.Lists.{In-Contains}
use Rattle.pass_laws.proofs.PreparedRuns.Allocating.{Came, IsArray, IsFreeArray, IsThere, allocate_all, arrays_of}
use Rattle.pass_laws.proofs.PreparedRuns.Deallocating.{deallocate_all}
use Rattle.tree.specs.Names.{IsSourceName}
use Rattle.tree.specs.declared.ops.Value.TheVariants.{Int}
use Rattle.tree.specs.Plain.{Declaration, Expression, Extent, Program}

-- ---- symbols have their values

scalar_bounds : (o : Option Declaration) (b : Option (List (ℤ × ℤ))) → IsSomeAnd o IsCounter
    → IfSome o (λ (d : Declaration). HasBounds d.extent b) → b ≡ Some []
scalar_bounds None b c h = absurd c
scalar_bounds (Some d) b c h = subst (λ (x : Extent). HasBounds x b) c.scalar h

have_from : (ys : List (List ℕ)) (j : ℕ) (v : ℕ → ℤ) (s : Store)
    → ((k : ℕ) (y : List ℕ) → nth_of ys k ≡ Some y → (s.bounds y ≡ Some []) × (s.held (variable_cell y) ≡ Int (v (j + k))))
    → HaveValues ys s (values_from v j ys)
have_from [] j v s h = tt
have_from (y ∷ ys) j v s h =
    let own = h 0 y refl in (
      own.0,
      own.1 ∙ ap (λ i. Int (v i)) (let e : j + 0 ≡ j = omega arith in e),
      have_from ys (suc j) v s (λ k x e.
          let rest = h (suc k) x e in
          (rest.0, rest.1 ∙ ap (λ i. Int (v i)) (let f : j + suc k ≡ suc j + k = omega arith in f))),
    )

nth_in : (xs : List (List ℕ)) (k : ℕ) (x : List ℕ) → nth_of xs k ≡ Some x → In x xs
nth_in [] k x e = let no : ⊥ = cc in absurd no
nth_in (y ∷ xs) zero x e = let same : y ≡ x = cc in inl (sym same)
nth_in (y ∷ xs) (suc k) x e = inr (nth_in xs k x e)

-- ---- arrays among what is made

array_in : (ms : List Made) (a : Made) (e : Expression) (es : List Expression) → In a ms → a.extents ≡ e ∷ es
    → In a.name (arrays_of ms)
array_in [] a e es i is = absurd i
array_in (b ∷ ms) a e es (inl same) is =
    subst (λ (c : Made). In a.name (name_of_array c.name c.extents ++ arrays_of ms)) same
    (In-left a.name (name_of_array a.name a.extents) (arrays_of ms)
    (subst (λ (xs : List Expression). In a.name (name_of_array a.name xs)) (sym is) (inl refl)))
array_in (b ∷ ms) a e es (inr i) is = In-right a.name (name_of_array b.name b.extents) (arrays_of ms) (array_in ms a e es i is)

extent_alone : (o : Option Declaration) (P : Declaration → Type 0) (x : Extent)
    → IsSomeAnd o (λ (d : Declaration). P d × (d.extent ≡ x)) → IsSomeAnd o (λ (d : Declaration). d.extent ≡ x)
extent_alone None P x h = absurd h
extent_alone (Some d) P x h = h.1

module _ (width : Width) (q : Program) (around : List (List ℕ)) (deepest : ℕ) (m : Nest) (v : ℕ → ℤ)
    (h : IsPrepared q.declarations around deepest m) (wide : AreOf64Bits v) where
  is_array : (a : Made) → In a m.made → IsArray width q m.symbols deepest v m.line wide a
  is_array a i =
      let p = all_in (IsPreparedMade q.declarations m.symbols deepest) m.made h.parts.made a i in
      record {
        declaration =
            extent_alone (declared q.declarations a.name) (λ (d : Declaration). d.kind ≡ a.kind) (extent_for a.extents)
            p.declaration;
        extents = p.extents;
        apart = λ y j same.
            p.made (subst IsSourceName (sym same)
            (all_in (IsPreparedSymbol q.declarations) m.symbols h.parts.symbols y j).name);
      }

  there_each : (t : State) → HasMade m v t.store
      → lists.Each (λ (a : Made). IsThere width q m.symbols deepest v m.line wide t.store a.name a.extents) m.made
  there_each t made =
      each_from (λ (a : Made). IsThere width q m.symbols deepest v m.line wide t.store a.name a.extents) m.made
      (λ a i. all_in (λ (a : Made). IsSomeAnd (t.store.bounds a.name) (AreBoundsBy m.symbols v a.extents)) m.made made a i)

  module _ (t : State) (program : HoldsProgram (fortran90 width) q t.store) (symbols : HoldSymbols m.symbols v t.store)
      (free : AreFree (made_arrays m) t.store) (going : t.way ≡ Going) where
    have : HaveValues m.symbols t.store (values_from v 0 m.symbols)
    have =
        have_from m.symbols 0 v t.store (λ k y e. (
          scalar_bounds (declared q.declarations y) (t.store.bounds y)
              (all_in (IsPreparedSymbol q.declarations) m.symbols h.parts.symbols y (nth_in m.symbols k y e)).scalar
              (program.bounds y),
          symbols k y e ∙ ap (λ i. Int (v i)) (let f : k ≡ 0 + k = omega arith in f),
        ))

    free_each : lists.Each (λ (a : Made). IsFreeArray width q m.symbols deepest v m.line wide t.store a.name a.extents) m.made
    free_each =
        each_from (λ (a : Made). IsFreeArray width q m.symbols deepest v m.line wide t.store a.name a.extents) m.made
        (λ a i. by a i a.extents refl)
      where
        by : (a : Made) → In a m.made → (es : List Expression) → a.extents ≡ es
            → IsFreeArray width q m.symbols deepest v m.line wide t.store a.name es
        by a i [] is = tt
        by a i (e ∷ es) is =
            all_in (λ x. t.store.bounds x ≡ None) (made_arrays m) free a.name (array_in m.made a e es i is)

    came : Came width q m.symbols deepest v m.line wide m.made t
    came =
        allocate_all width q m.symbols deepest v m.line wide m.made
        (each_from (IsArray width q m.symbols deepest v m.line wide) m.made is_array) h.parts.made_once t going program have
        free_each

    is_allocated : IsAllocated width q m v t
    is_allocated = record {
      state = came.state;
      going = came.going;
      rest = came.rest;
      others = came.others;
      program = came.program;
      made =
          Each-All (λ (a : Made). IsSomeAnd (came.state.store.bounds a.name) (AreBoundsBy m.symbols v a.extents)) m.made
          came.there;
      runs = came.runs;
    }

  abbrev IsGone : State → List ℕ → Type 0
  IsGone t x = (does_all (fortran90 width) None (deallocations m.line m.made) t).store.bounds x ≡ None

  is_deallocated : (t : State) → HasMade m v t.store → t.way ≡ Going → IsDeallocated width m t
  is_deallocated t made going =
      let r = deallocate_all width m.symbols v m.line m.made h.parts.made_once t going (there_each t made) in
      record {
        going = r.going;
        rest = r.rest;
        others = r.others;
        free =
            Each-All (IsGone t) (made_arrays m)
            (each_from (IsGone t) (made_arrays m) (λ x i. r.free x (In-Contains x (made_arrays m) i)));
      }

pub arrays_are_allocated : (width : Width) → ArraysAreAllocated width
arrays_are_allocated width q around deepest m v t declarations h wide program symbols free going =
    is_allocated width q around deepest m v h wide t program symbols free going

pub arrays_are_deallocated : (width : Width) → ArraysAreDeallocated width
arrays_are_deallocated width q around deepest m v t h wide made going = is_deallocated width q around deepest m v h wide t made going
