-- Made arrays among the names of programs and stores.
use Rattle.std.proofs.Common.{◌≡◌, ◌⊎◌, ◌∙◌, inl, inr, refl, sym, ap, subst, ℕ, ◌≤◌, ◌^◌, ℤ, Bool, true, false, List, [], ◌∷◌}
use Rattle.std.proofs.Common.{◌++◌, length, Option, Some, None, IfSome, Contains}
use Rattle.std.specs.Option.{IsSomeAnd}
use Rattle.std.specs.Prelude.{nat_abs}
use Rattle.std.specs.Str.{bytes_eq}
use Rattle.std.proofs.lemmas.Slice.Eq.{bytes_eq-Decides}
use Rattle.linear_forms.specs.Laws.{HoldsSized}
use Rattle.meaning.specs.Dialect.{Dialect, fortran77, fortran90}
use Rattle.tree.specs.declared.width.Width.{Width}
use Rattle.meaning.specs.Holding.{HoldsProgram, IsStorable}
use Rattle.meaning.specs.Run.{State}
use Rattle.meaning.specs.Store.{Agree, Store}
use Rattle.meaning.specs.Typed.{declared}
use Rattle.meaning.specs.Value.{is_in_range}
use Rattle.meaning_laws.proofs.dialects.NamesIn.{among}
use Rattle.meaning_laws.proofs.profiles.Lists.{cases_of, here, nowhere, there}
use Rattle.meaning_laws.proofs.profiles.Programs.{kept_declaration}
use Rattle.meaning_laws.specs.profiles.Profiles.{AddMadeNames}
use Rattle.nest.specs.Plain.{Made, Nest}
use Rattle.nest_order.specs.orders.Lists.{In}
use Rattle.nest_order.specs.runs.Touched.{nth_of}
use Rattle.pass_laws.proofs.NormalFacts.Tables.{all_in, each_from}
use Rattle.pass_laws.proofs.ReadyNests.Lists.{Each-All}
use Rattle.pass_laws.proofs.PreparedNests.Lists.{Contains-In, In-Contains}
use Rattle.pass_laws.specs.prepared_nests.Made.{AreBoundsBy, IsPreparedMade, extent_for}
use Rattle.pass_laws.specs.prepared_nests.Nests.{IsPrepared, IsPreparedSymbol}
use Rattle.pass_laws.proofs.PreparedRuns.Allocating.{arrays_of}
use Rattle.pass_laws.proofs.PreparedRuns.Together.{in_list}
use Rattle.pass_laws.specs.prepared_runs.Allocations.{AreFree, HasMade, IsAllocated, IsSameBut, made_arrays, name_of_array}
use Rattle.translation.proofs.NestTranslation.Cleaned.{cleaned, cleaned_bounds, cleaned_free, sized}
use Rattle.translation.specs.placed_loops.Beside.{AreUnallocated, IsUnallocated}
use Rattle.tree.specs.Names.{IsSourceName}
use Rattle.tree.specs.Plain.{Declaration, Expression, Extent, Given, Later, Program}
use Rattle.tree.specs.declared.ops.Kind.{Kind}
use Rattle.tree.specs.declared.ops.Value.{Value}
use Rattle.tree.specs.Widths.{bits_of}

-- ---- both dialects hold the same stores

storable_too : (k l : Dialect) (o : Option Declaration) (v : Value) → k.bits ≡ l.bits
    → IfSome o (λ (d : Declaration). IsStorable k d.kind v) → IfSome o (λ (d : Declaration). IsStorable l d.kind v)
storable_too k l None v e h = tt
storable_too k l (Some d) v e h = record { kind = h.kind; within = subst (λ n. is_in_range n v ≡ true) e h.within }

pub of_77 : (width : Width) (r : Program) (s : Store) → HoldsProgram (fortran77 width) r s → HoldsProgram (fortran90 width) r s
of_77 width r s h = record {
  bounds = h.bounds;
  kinds = λ c. storable_too (fortran77 width) (fortran90 width) (declared r.declarations c.name) (s.held c) refl (h.kinds c);
}

pub of_90 : (width : Width) (r : Program) (s : Store) → HoldsProgram (fortran90 width) r s → HoldsProgram (fortran77 width) r s
of_90 width r s h = record {
  bounds = h.bounds;
  kinds = λ c. storable_too (fortran90 width) (fortran77 width) (declared r.declarations c.name) (s.held c) refl (h.kinds c);
}

-- ---- the array that has a name

pub record IsArrayNamed (ms : List Made) (x : List ℕ) : Type 0 where
  pub array : Made
  pub among : In array ms
  pub name : array.name ≡ x
  pub first : Expression
  pub rest : List Expression
  pub extents : array.extents ≡ first ∷ rest

later_array : (a : Made) (ms : List Made) (x : List ℕ) → IsArrayNamed ms x → IsArrayNamed (a ∷ ms) x
later_array a ms x h =
    record { array = h.array; among = inr h.among; name = h.name; first = h.first; rest = h.rest; extents = h.extents }

one_array : (a : Made) (ms : List Made) (x : List ℕ) (es : List Expression)
    → (Contains (arrays_of ms) x → IsArrayNamed ms x) → a.extents ≡ es
    → Contains (name_of_array a.name es ++ arrays_of ms) x → IsArrayNamed (a ∷ ms) x
one_array a ms x [] more is c = later_array a ms x (more c)
one_array a ms x (e ∷ es) more is c = by (cases_of a.name (arrays_of ms) x c)
  where
    by : (a.name ≡ x) ⊎ Contains (arrays_of ms) x → IsArrayNamed (a ∷ ms) x
    by (inl same) = record { array = a; among = inl refl; name = same; first = e; rest = es; extents = is }
    by (inr i) = later_array a ms x (more i)

array_named : (ms : List Made) (x : List ℕ) → Contains (arrays_of ms) x → IsArrayNamed ms x
array_named [] x c = absurd (nowhere x c)
array_named (a ∷ ms) x c = one_array a ms x a.extents (array_named ms x) refl c

-- whether a name is among others
one_among : (y : List ℕ) (xs : List (List ℕ)) (x : List ℕ) (b : Bool) → bytes_eq y x ≡ b
    → Contains xs x ⊎ ¬ Contains xs x → Contains (y ∷ xs) x ⊎ ¬ Contains (y ∷ xs) x
one_among y xs x true e o = inl (subst (Contains (y ∷ xs)) ((bytes_eq-Decides y x).0 e) (here y xs))
one_among y xs x false e (inl c) = inl (there y xs x c)
one_among y xs x false e (inr n) = inr (λ c. neither (cases_of y xs x c))
  where
    neither : (y ≡ x) ⊎ Contains xs x → ⊥
    neither (inl same) = let yes : bytes_eq y x ≡ true = (bytes_eq-Decides y x).1 same in let no : ⊥ = cc in no
    neither (inr c) = n c

pub among_or_not : (xs : List (List ℕ)) (x : List ℕ) → Contains xs x ⊎ ¬ Contains xs x
among_or_not [] x = inr (λ c. nowhere x c)
among_or_not (y ∷ xs) x = one_among y xs x (bytes_eq y x) refl (among_or_not xs x)

-- ---- the arrays of a prepared nest

later_extent : (o : Option Declaration) (k : Kind) (es : List Expression) (e : Expression) (more : List Expression)
    → es ≡ e ∷ more → IsSomeAnd o (λ (d : Declaration). (d.kind ≡ k) × (d.extent ≡ extent_for es))
    → IsSomeAnd o (λ (d : Declaration). d.extent ≡ Later (length (e ∷ more)))
later_extent None k es e more is g = absurd g
later_extent (Some d) k es e more is g = g.1 ∙ ap extent_for is

abbrev IsLater : Program → List ℕ → ℕ → Type 0
IsLater r x n = IsSomeAnd (declared r.declarations x) (λ (d : Declaration). d.extent ≡ Later n)

module _ (r : Program) (around : List (List ℕ)) (deepest : ℕ) (m : Nest) (h : IsPrepared r.declarations around deepest m) where
  made_is : (a : Made) → In a m.made → IsPreparedMade r.declarations m.symbols deepest a
  made_is a i = all_in (IsPreparedMade r.declarations m.symbols deepest) m.made h.parts.made a i

  pub none_of_source : (x : List ℕ) → IsSourceName x → ¬ Contains (made_arrays m) x
  none_of_source x source c =
      let a = array_named m.made x c in (made_is a.array a.among).made (subst IsSourceName (sym a.name) source)

  pub made_apart : (x : List ℕ) (k : ℕ) → nth_of m.symbols k ≡ Some x → ¬ Contains (made_arrays m) x
  made_apart x k e =
      none_of_source x (all_in (IsPreparedSymbol r.declarations) m.symbols h.parts.symbols x (in_list m.symbols k x e)).name

  -- an array is declared with extents that come later
  pub array_declared : (x : List ℕ) → Contains (made_arrays m) x → (n : ℕ) × IsLater r x n
  array_declared x c =
      let a = array_named m.made x c in (
        length (a.first ∷ a.rest),
        subst (λ y. IsLater r y (length (a.first ∷ a.rest))) a.name
            (later_extent (declared r.declarations a.array.name) a.array.kind a.array.extents a.first a.rest a.extents
            (made_is a.array a.among).declaration),
      )

abbrev IsGone : Program → Program → Store → List ℕ → Type 0
IsGone q r s x = (cleaned q.declarations r.declarations s).bounds x ≡ None

pub arrays_free : (q r : Program) (around : List (List ℕ)) (deepest : ℕ) (m : Nest) (s : Store)
    → AddMadeNames q.declarations r.declarations → IsPrepared r.declarations around deepest m → AreUnallocated q s
    → AreFree (made_arrays m) (cleaned q.declarations r.declarations s)
arrays_free q r around deepest m s more h free =
    Each-All (IsGone q r s) (made_arrays m)
    (each_from (IsGone q r s) (made_arrays m) (λ x i. by x (In-Contains x (made_arrays m) i)))
  where
    by : (x : List ℕ) → Contains (made_arrays m) x → IsGone q r s x
    by x c =
        let d = array_declared r around deepest m h x c in
        cleaned_free q.declarations r.declarations s x d.0 d.1 (kept_declaration q.declarations r.declarations more x) (free x)

-- ---- stores

abbrev IsThere : Nest → (ℕ → ℤ) → Store → Made → Type 0
IsThere m v s a = IsSomeAnd (s.bounds a.name) (AreBoundsBy m.symbols v a.extents)

pub made_still : (m : Nest) (v : ℕ → ℤ) (s t : Store) → ((x : List ℕ) → t.bounds x ≡ s.bounds x) → HasMade m v s → HasMade m v t
made_still m v s t same h =
    Each-All (IsThere m v t) m.made
    (each_from (IsThere m v t) m.made
    (λ a i. subst (λ (o : Option (List (ℤ × ℤ))). IsSomeAnd o (AreBoundsBy m.symbols v a.extents)) (sym (same a.name))
    (all_in (IsThere m v s) m.made h a i)))

-- numbers are of 64 bits again
pub sized_still : (width : Width) (r : Program) (around : List (List ℕ)) (deepest : ℕ) (m : Nest) (v : ℕ → ℤ) (t : State)
    → IsPrepared r.declarations around deepest m → HoldsSized t.store → (a : IsAllocated width r m v t) → HoldsSized a.state.store
sized_still width r around deepest m v t h before a c z e = by (declared r.declarations c.name) refl (a.program.kinds c)
  where
    by : (o : Option Declaration) → declared r.declarations c.name ≡ o
        → IfSome o (λ (d : Declaration). IsStorable (fortran90 width) d.kind (a.state.store.held c)) → nat_abs z ≤ 2 ^ 63
    by (Some d) is k = sized width z (subst (λ (u : Value). is_in_range (bits_of width) u ≡ true) e k.within)
    by None is k =
        before c z (sym (a.others.held c (λ i.
        let d = array_declared r around deepest m h c.name i in
        subst (λ (o : Option Declaration). IsSomeAnd o (λ (f : Declaration). f.extent ≡ Later d.0)) is d.1)) ∙ e)

-- ---- behind the block no array is there again

whatever : (e : Extent) → IsUnallocated e None
whatever (Given bs) = tt
whatever (Later n) = refl

-- from s to the store with the counters, to that with the arrays, through the run, to that without them
module _ (q r : Program) (m : Nest) (s there run gone last : Store) (free : AreUnallocated q s)
    (come : IsSameBut (made_arrays m) (cleaned q.declarations r.declarations s) there)
    (ran : (x : List ℕ) → run.bounds x ≡ there.bounds x) (go : IsSameBut (made_arrays m) run gone)
    (none : AreFree (made_arrays m) gone) (same : Agree q gone last) where
  bounds_back : (x : List ℕ) (d : Declaration) → declared q.declarations x ≡ Some d → ¬ Contains (made_arrays m) x
      → gone.bounds x ≡ s.bounds x
  bounds_back x d is other =
      go.bounds x other ∙ ran x ∙ come.bounds x other ∙ cleaned_bounds q.declarations r.declarations s x d is

  still : (x : List ℕ) (d : Declaration) → declared q.declarations x ≡ Some d
      → Contains (made_arrays m) x ⊎ ¬ Contains (made_arrays m) x → IsUnallocated d.extent (gone.bounds x)
  still x d is (inl c) =
      subst (IsUnallocated d.extent)
      (sym (all_in (λ y. gone.bounds y ≡ None) (made_arrays m) none x (Contains-In x (made_arrays m) c))) (whatever d.extent)
  still x d is (inr other) =
      subst (IsUnallocated d.extent) (sym (bounds_back x d is other))
      (subst (λ (o : Option Declaration). IfSome o (λ (d : Declaration). IsUnallocated d.extent (s.bounds x))) is (free x))

  pub free_again : AreUnallocated q last
  free_again x = by (declared q.declarations x) refl
    where
      by : (o : Option Declaration) → declared q.declarations x ≡ o → IfSome o (λ (d : Declaration). IsUnallocated d.extent (last.bounds x))
      by None is = tt
      by (Some d) is =
          subst (IsUnallocated d.extent) (same.bounds x (among q.declarations x (λ e. Unit {0})
          (subst (λ (o : Option Declaration). IsSomeAnd o (λ (e : Declaration). Unit {0})) (sym is) tt)))
          (still x d is (among_or_not (made_arrays m) x))
