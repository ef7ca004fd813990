-- The moment before expansion that goes with one behind it: masks that became arrays are scalars again.
use Rattle.std.proofs.Common.{◌≡◌, ◌⊎◌, inl, inr, refl, sym, ap, ◌∙◌, subst, ℕ, suc, ◌+◌, ◌≤◌, ◌^◌, ℤ, pos, Bool, true, false, cond, List, [], ◌∷◌, ◌++◌, Option, Some, None, IfSome, Contains, arith}
use Rattle.std.specs.Option.{IsSomeAnd}
use Rattle.std.specs.Prelude.{nat_abs}
use Rattle.std.specs.Str.{bytes_eq}
use Rattle.std.proofs.lemmas.Slice.Eq.{bytes_eq-Decides}
use Rattle.tree.specs.Names.{IsSourceName}
use Rattle.tree.specs.Plain.{Declaration, Expression, Extent, Given, Program}
use Rattle.tree.specs.declared.ops.Kind.{Kind}
use Rattle.tree.specs.declared.ops.Kind.TheVariants.{Integer, Logical}
use Rattle.tree.specs.declared.ops.Value.{Value}
use Rattle.tree.specs.declared.ops.Value.TheVariants.{Int}
use Rattle.linear_forms.specs.Laws.{HoldsSized}
use Rattle.meaning.specs.Dialect.{fortran77}
use Rattle.tree.specs.declared.width.Width.{Width}
use Rattle.meaning.specs.Holding.{HasBounds, HoldsProgram, IsStorable}
use Rattle.meaning.specs.Store.{Agree, Cell, Store, nought, nought_like}
use Rattle.meaning.specs.Typed.{declared}
use Rattle.nest.specs.Plain.{Made, Nest}
use Rattle.nest_order.proofs.orders.Lists.{In-left}
use Rattle.nest_order.specs.orders.Lists.{In}
use Rattle.nest_order.specs.runs.Touched.{nth_of}
use Rattle.pass_laws.proofs.NormalFacts.Tables.{all_in}
use Rattle.pass_laws.specs.prepared_nests.Made.{IsPreparedMade, extent_for}
use Rattle.pass_laws.specs.prepared_nests.Statements.{made_names}
use Rattle.pass_laws.specs.prepared_runs.Allocations.{IsSameBut}
use Rattle.scalar_expand.proofs.Changes.{found}
use Rattle.scalar_expand.specs.Expanded.{expanded, made_before, made_now, named_private}
use Rattle.scalar_expand.specs.Privates.{made_kind, private_scalars}
use Rattle.scalar_expand.specs.declared.privates.Private.{Private}
use Rattle.prepared_passes.specs.expansion.Laws.{value_among}
use Rattle.prepared_passes.specs.expansion.Places.{IsExpandedInPlaces}
use Rattle.prepared_passes.proofs.ExpandedNests.MadeArrays.{made_are, made_of, made_or_not, name_in, named_in, stays_made, symbols_are}
use Rattle.prepared_passes.proofs.ExpandedNests.Names.{found_kind, start}
use Rattle.tree.specs.Widths.{bits_of}
use Rattle.meaning.proofs.Widths.{in_range_more, narrowest}

-- ---- the store

-- o: the private scalar that has the name; w: its declaration in the program
abbrev bounds_or : Option Private → Option Declaration → Option (List (ℤ × ℤ)) → Option (List (ℤ × ℤ))
bounds_or None w b = b
bounds_or (Some p) (Some d) b = b
bounds_or (Some p) None b = Some []

abbrev value_or : Option Private → Option Declaration → Value → Value
value_or None w v = v
value_or (Some p) (Some d) v = v
value_or (Some p) None v = nought p.kind

abbrev pub earlier : Nest → Store → Store
earlier m s = record {
  bounds = λ x. bounds_or (named_private (private_scalars m) x) (declared m.declarations x) (s.bounds x);
  held = λ c. value_or (named_private (private_scalars m) c.name) (declared m.declarations c.name) (s.held c);
}

-- ---- declarations

abbrev IsGivenScalar : Declaration → Type 0
IsGivenScalar d = d.extent ≡ Given []

-- of one kind, and both scalars
same_holding : (o w : Option Declaration) (k : Kind) (b : Option (List (ℤ × ℤ)))
    → IsSomeAnd o (λ (d : Declaration). (d.kind ≡ k) × IsGivenScalar d) → IsSomeAnd w (λ (d : Declaration). (d.kind ≡ k) × IsGivenScalar d)
    → IfSome w (λ (d : Declaration). HasBounds d.extent b) → IfSome o (λ (d : Declaration). HasBounds d.extent b)
same_holding None w k b f g h = tt
same_holding (Some d) None k b f g h = absurd g
same_holding (Some d) (Some e) k b f g h = subst (λ (x : Extent). HasBounds x b) (g.1 ∙ sym f.1) h

same_storable : (width : Width) (o w : Option Declaration) (k : Kind) (v : Value)
    → IsSomeAnd o (λ (d : Declaration). (d.kind ≡ k) × IsGivenScalar d) → IsSomeAnd w (λ (d : Declaration). (d.kind ≡ k) × IsGivenScalar d)
    → IfSome w (λ (d : Declaration). IsStorable (fortran77 width) d.kind v) → IfSome o (λ (d : Declaration). IsStorable (fortran77 width) d.kind v)
same_storable width None w k v f g h = tt
same_storable width (Some d) None k v f g h = absurd g
same_storable width (Some d) (Some e) k v f g h = subst (λ (x : Kind). IsStorable (fortran77 width) x v) (g.0 ∙ sym f.0) h

nought_kind : (width : Width) (k : Kind) → IsStorable (fortran77 width) k (nought k)
nought_kind width Integer = record { kind = refl; within = in_range_more 31 (bits_of width) (narrowest width) (Int (pos 0)) refl }
nought_kind width Logical = record { kind = refl; within = refl }

nought_sized : (k : Kind) (z : ℤ) → nought k ≡ Int z → nat_abs z ≤ 2 ^ 63
nought_sized Integer z e =
    let same : pos 0 ≡ z = cc in
    subst (λ y. nat_abs y ≤ 2 ^ 63) same (let least : 0 ≤ 9223372036854775808 = omega arith in least)
nought_sized Logical z e = let no : ⊥ = cc in absurd no

some_if : (o : Option Declaration) (d : Declaration) (P : Declaration → Type 0) → o ≡ Some d → IfSome o P → P d
some_if o d P e h = subst (λ (w : Option Declaration). IfSome w P) e h

if_some : (o : Option Declaration) (P : Declaration → Type 0) → ((d : Declaration) → o ≡ Some d → P d) → IfSome o P
if_some None P f = tt
if_some (Some d) P f = f d refl

-- ---- symbols

-- a symbol has a place, and its value is the one there
pub record HasPlace (xs : List (List ℕ)) (j : ℕ) (v : ℕ → ℤ) (x : List ℕ) : Type 0 where
  pub place : ℕ
  pub there : nth_of xs place ≡ Some x
  pub value : value_among xs j v x ≡ v (j + place)

pub has_place : (xs : List (List ℕ)) (j : ℕ) (v : ℕ → ℤ) (x : List ℕ) → In x xs → HasPlace xs j v x
has_place [] j v x i = absurd i
has_place (y ∷ ys) j v x i = by (bytes_eq y x) refl i (λ k. has_place ys (suc j) v x k)
  where
    by : (b : Bool) → bytes_eq y x ≡ b → In x (y ∷ ys) → (In x ys → HasPlace ys (suc j) v x) → HasPlace (y ∷ ys) j v x
    by true e k r = record {
      place = 0;
      there = ap (λ (z : List ℕ). Some z) ((bytes_eq-Decides y x).0 e);
      value = ap (λ b. cond b (v j) (value_among ys (suc j) v x)) e ∙ ap v (let f : j ≡ j + 0 = omega arith in f);
    }
    by false e (inl k) r =
        let yes : bytes_eq y x ≡ true = (bytes_eq-Decides y x).1 (sym k) in
        let no : true ≡ false = sym yes ∙ e in
        cc
    by false e (inr k) r =
        let h = r k in record {
          place = suc h.place;
          there = h.there;
          value = ap (λ b. cond b (v j) (value_among ys (suc j) v x)) e ∙ (h.value ∙ ap v (let f : suc j + h.place ≡ j + suc h.place = omega arith in f));
        }

-- ---- what both places have

module _ (width : Width) (p b a : Program) (around : List (List ℕ)) (deepest deeper : ℕ) (m : Nest) (x : IsExpandedInPlaces p b a around deepest deeper m) where
  abbrev ps : List Private
  ps = private_scalars m

  abbrev ds : List Declaration
  ds = b.declarations

  made_here : (c : Made) → In c m.made → IsPreparedMade ds m.symbols deepest c
  made_here c i = all_in (IsPreparedMade ds m.symbols deepest) m.made x.before.parts.made c i

  pub made_there : (c : Made) → In c (made_before m.symbols (private_scalars m) m.made ++ made_now m.symbols (private_scalars m))
      → IsPreparedMade a.declarations m.symbols deeper c
  made_there c i =
      subst (λ (ss : List (List ℕ)). IsPreparedMade a.declarations ss deeper c) (symbols_are m)
      (all_in (IsPreparedMade a.declarations (expanded m).symbols deeper) (expanded m).made x.behind.parts.made c
      (subst (In c) (sym (made_are m)) i))

  -- a name of the source isn't made
  pub not_made : (y : List ℕ) → IsSourceName y → ¬ Contains (made_names m) y
  not_made y n c = let r = named_in m.made y c in (made_here r.0 r.1).made (subst IsSourceName (sym r.2) n)

  pub kept : (y : List ℕ) (d : Declaration) → declared ds y ≡ Some d → ¬ Contains (made_names m) y → declared a.declarations y ≡ Some d
  kept y d e n = x.places.alike y d e n

  -- ---- what was made before

  one_scalar : (o : Option Declaration) (k : Kind) (es : List Expression) → es ≡ []
      → IsSomeAnd o (λ (d : Declaration). (d.kind ≡ k) × (d.extent ≡ extent_for es))
      → IsSomeAnd o (λ (d : Declaration). (d.kind ≡ k) × IsGivenScalar d)
  one_scalar None k es e h = absurd h
  one_scalar (Some d) k es e h = (h.0, h.1 ∙ ap extent_for e)

  bare : (c : Made) → In c m.made → c.extents ≡ []
  bare c i = all_in (λ (c : Made). c.extents ≡ []) m.made x.scalars c i

  made_scalar_here : (c : Made) → In c m.made → IsSomeAnd (declared ds c.name) (λ (d : Declaration). (d.kind ≡ c.kind) × IsGivenScalar d)
  made_scalar_here c i = one_scalar (declared ds c.name) c.kind c.extents (bare c i) (made_here c i).declaration

  pub made_scalar_there : (c : Made) → In c m.made → named_private (private_scalars m) c.name ≡ None
      → IsSomeAnd (declared a.declarations c.name) (λ (d : Declaration). (d.kind ≡ c.kind) × IsGivenScalar d)
  made_scalar_there c i none =
      one_scalar (declared a.declarations c.name) c.kind c.extents (bare c i)
      (made_there c (In-left c (made_before m.symbols ps m.made) (made_now m.symbols ps) (stays_made m.symbols ps m.made c i none))).declaration

  -- ---- private scalars

  -- one that the program doesn't declare was made
  pub made_private : (q : Private) → In q (private_scalars m) → declared m.declarations q.name ≡ None
      → (c : Made) × In c m.made × (c.name ≡ q.name) × (c.kind ≡ q.kind)
  made_private q i none = by (found_kind m.declarations (made_kind m.made q.name) q.name q.kind (start ds around deepest m x.before x.may q i).kind)
    where
      by : ((d : Declaration) × (declared m.declarations q.name ≡ Some d) × (d.extent ≡ Given [])) ⊎ ((declared m.declarations q.name ≡ None) × (made_kind m.made q.name ≡ Some q.kind))
          → (c : Made) × In c m.made × (c.name ≡ q.name) × (c.kind ≡ q.kind)
      by (inl (d, e, g)) = let no : ◌≡◌ {A = Option Declaration} None (Some d) = sym none ∙ e in cc
      by (inr (e, g)) = let c = made_of m.made q.name q.kind g in (c.made, c.inside, c.name, c.kind)

  -- what isn't made keeps its place
  pub stays : (y : List ℕ) → ¬ Contains (made_names m) y → (s : Store)
      → ((earlier m s).bounds y ≡ s.bounds y) × ((c : Cell) → c.name ≡ y → (earlier m s).held c ≡ s.held c)
  stays y none s = by (named_private (private_scalars m) y) refl (declared m.declarations y) refl
    where
      to : (o : Option Private) → named_private (private_scalars m) y ≡ o → (w : Option Declaration) → declared m.declarations y ≡ w
          → (bounds_or o w (s.bounds y) ≡ s.bounds y) × ((c : Cell) → c.name ≡ y → value_or o w (s.held c) ≡ s.held c)
          → ((earlier m s).bounds y ≡ s.bounds y) × ((c : Cell) → c.name ≡ y → (earlier m s).held c ≡ s.held c)
      to o e w f h = (
        subst (λ (r : Option Private). bounds_or r (declared m.declarations y) (s.bounds y) ≡ s.bounds y) (sym e)
            (subst (λ (r : Option Declaration). bounds_or o r (s.bounds y) ≡ s.bounds y) (sym f) h.0),
        λ c n. subst (λ (z : List ℕ). value_or (named_private (private_scalars m) z) (declared m.declarations z) (s.held c) ≡ s.held c) (sym n)
            (subst (λ (r : Option Private). value_or r (declared m.declarations y) (s.held c) ≡ s.held c) (sym e)
            (subst (λ (r : Option Declaration). value_or o r (s.held c) ≡ s.held c) (sym f) (h.1 c n))),
      )

      by : (o : Option Private) → named_private (private_scalars m) y ≡ o → (w : Option Declaration) → declared m.declarations y ≡ w
          → ((earlier m s).bounds y ≡ s.bounds y) × ((c : Cell) → c.name ≡ y → (earlier m s).held c ≡ s.held c)
      by None e w f = to None e w f (refl, λ c n. refl)
      by (Some q) e (Some d) f = to (Some q) e (Some d) f (refl, λ c n. refl)
      by (Some q) e None f =
          let r = found (private_scalars m) y q e in
          let c = made_private q r.0 (ap (declared m.declarations) r.1 ∙ f) in
          absurd (none (subst (λ z. Contains (made_names m) z) (c.2 ∙ r.1) (name_in m.made c.0 c.1)))

  -- a made name that isn't private keeps it too
  pub stays_other : (y : List ℕ) → named_private (private_scalars m) y ≡ None → (s : Store) → ((earlier m s).bounds y ≡ s.bounds y)
      × ((c : Cell) → c.name ≡ y → (earlier m s).held c ≡ s.held c)
  stays_other y none s = (
    ap (λ (o : Option Private). bounds_or o (declared m.declarations y) (s.bounds y)) none,
    λ c n. ap (λ (o : Option Private). value_or o (declared m.declarations c.name) (s.held c)) (ap (named_private (private_scalars m)) n ∙ none),
  )

  -- ---- what a store holds

  module _ (s : Store) (holds : HoldsProgram (fortran77 width) a s) (sized : HoldsSized s) where
    module _ (y : List ℕ) where
      abbrev Fine : Option (List (ℤ × ℤ)) → Type 0
      Fine o = IfSome (declared b.declarations y) (λ (d : Declaration). HasBounds d.extent o)

      abbrev FineValue : Value → Type 0
      FineValue v = IfSome (declared b.declarations y) (λ (d : Declaration). IsStorable (fortran77 width) d.kind v)

      -- what a declares alike
      alike_fine : ¬ Contains (made_names m) y → Fine (s.bounds y) × ((c : Cell) → c.name ≡ y → FineValue (s.held c))
      alike_fine none = (
        if_some (declared b.declarations y) (λ (d : Declaration). HasBounds d.extent (s.bounds y))
            (λ d e. some_if (declared a.declarations y) d (λ (d : Declaration). HasBounds d.extent (s.bounds y)) (kept y d e none) (holds.bounds y)),
        λ c n. if_some (declared b.declarations y) (λ (d : Declaration). IsStorable (fortran77 width) d.kind (s.held c))
            (λ d e. some_if (declared a.declarations y) d (λ (d : Declaration). IsStorable (fortran77 width) d.kind (s.held c)) (kept y d e none)
            (subst (λ z. IfSome (declared a.declarations z) (λ (d : Declaration). IsStorable (fortran77 width) d.kind (s.held c))) n (holds.kinds c))),
      )

      -- what was made, and stays a scalar
      made_fine : (c : Made) → In c m.made → c.name ≡ y → named_private (private_scalars m) y ≡ None
          → Fine (s.bounds y) × ((d : Cell) → d.name ≡ y → FineValue (s.held d))
      made_fine c i is none =
          let here = subst (λ z. IsSomeAnd (declared b.declarations z) (λ (d : Declaration). (d.kind ≡ c.kind) × IsGivenScalar d)) is (made_scalar_here c i) in
          let there = subst (λ z. IsSomeAnd (declared a.declarations z) (λ (d : Declaration). (d.kind ≡ c.kind) × IsGivenScalar d)) is
          (made_scalar_there c i (ap (named_private (private_scalars m)) is ∙ none)) in (
            same_holding (declared b.declarations y) (declared a.declarations y) c.kind (s.bounds y) here there (holds.bounds y),
            λ d n. same_storable width (declared b.declarations y) (declared a.declarations y) c.kind (s.held d) here there
                (subst (λ z. IfSome (declared a.declarations z) (λ (e : Declaration). IsStorable (fortran77 width) e.kind (s.held d))) n (holds.kinds d)),
          )

      unchanged : (named_private (private_scalars m) y ≡ None) ⊎ ¬ Contains (made_names m) y
          → Fine (s.bounds y) × ((c : Cell) → c.name ≡ y → FineValue (s.held c))
      unchanged (inr none) = alike_fine none
      unchanged (inl none) = by (made_or_not m.made y)
        where
          by : ((c : Made) × In c m.made × (c.name ≡ y)) ⊎ ((c : Made) → In c m.made → ¬ (c.name ≡ y))
              → Fine (s.bounds y) × ((c : Cell) → c.name ≡ y → FineValue (s.held c))
          by (inl (c, i, is)) = made_fine c i is none
          by (inr other) = alike_fine (λ k. (let r = named_in m.made y k in other r.0 r.1 r.2))

      -- what was made, and becomes an array
      changed : (q : Private) → In q (private_scalars m) → q.name ≡ y → declared m.declarations y ≡ None
          → Fine (Some []) × FineValue (nought q.kind)
      changed q i is none =
          let c = made_private q i (ap (declared m.declarations) is ∙ none) in
          let here = subst (λ z. IsSomeAnd (declared b.declarations z) (λ (d : Declaration). (d.kind ≡ c.0.kind) × IsGivenScalar d)) (c.2 ∙ is) (made_scalar_here c.0 c.1) in
          of_scalar (declared b.declarations y) q.kind c.0.kind c.3 here
        where
          of_scalar : (o : Option Declaration) (j k : Kind) → k ≡ j → IsSomeAnd o (λ (d : Declaration). (d.kind ≡ k) × IsGivenScalar d)
              → IfSome o (λ (d : Declaration). HasBounds d.extent (Some [])) × IfSome o (λ (d : Declaration). IsStorable (fortran77 width) d.kind (nought j))
          of_scalar None j k e h = absurd h
          of_scalar (Some d) j k e h = (
            subst (λ (f : Extent). HasBounds f (Some [])) (sym h.1) refl,
            subst (λ (l : Kind). IsStorable (fortran77 width) l (nought j)) (sym e ∙ sym h.0) (nought_kind width j),
          )

      both : Fine ((earlier m s).bounds y) × ((c : Cell) → c.name ≡ y → FineValue ((earlier m s).held c))
      both = by (named_private (private_scalars m) y) refl (declared m.declarations y) refl
        where
          as_it_is : (named_private (private_scalars m) y ≡ None) ⊎ ¬ Contains (made_names m) y
              → ((earlier m s).bounds y ≡ s.bounds y) × ((c : Cell) → c.name ≡ y → (earlier m s).held c ≡ s.held c)
              → Fine ((earlier m s).bounds y) × ((c : Cell) → c.name ≡ y → FineValue ((earlier m s).held c))
          as_it_is why same =
              let f = unchanged why in
              (subst Fine (sym same.0) f.0, λ c n. subst FineValue (sym (same.1 c n)) (f.1 c n))

          by : (o : Option Private) → named_private (private_scalars m) y ≡ o → (w : Option Declaration) → declared m.declarations y ≡ w
              → Fine ((earlier m s).bounds y) × ((c : Cell) → c.name ≡ y → FineValue ((earlier m s).held c))
          by None e w f = as_it_is (inl e) (stays_other y e s)
          by (Some q) e (Some d) f =
              let none = not_made y (x.may.source y d f) in
              as_it_is (inr none) (stays y none s)
          by (Some q) e None f =
              let r = found (private_scalars m) y q e in
              let g = changed q r.0 r.1 f in (
                subst (λ (o : Option Private). Fine (bounds_or o (declared m.declarations y) (s.bounds y))) (sym e)
                    (subst (λ (w : Option Declaration). Fine (bounds_or (Some q) w (s.bounds y))) (sym f) g.0),
                λ c n. subst (λ z. FineValue (value_or (named_private (private_scalars m) z) (declared m.declarations z) (s.held c))) (sym n)
                    (subst (λ (o : Option Private). FineValue (value_or o (declared m.declarations y) (s.held c))) (sym e)
                    (subst (λ (w : Option Declaration). FineValue (value_or (Some q) w (s.held c))) (sym f) g.1)),
              )

    pub holds_before : HoldsProgram (fortran77 width) b (earlier m s)
    holds_before = record { bounds = λ y. (both y).0; kinds = λ c. (both c.name).1 c refl }

    pub sized_before : HoldsSized (earlier m s)
    sized_before c z e = by (named_private (private_scalars m) c.name) (declared m.declarations c.name) e
      where
        by : (o : Option Private) (w : Option Declaration) → value_or o w (s.held c) ≡ Int z → nat_abs z ≤ 2 ^ 63
        by None w f = sized c z f
        by (Some q) (Some d) f = sized c z f
        by (Some q) None f = nought_sized q.kind z f

    pub others_before : IsSameBut (made_names m) s (earlier m s)
    others_before = record { bounds = λ y none. (stays y none s).0; held = λ c none. (stays c.name none s).1 c refl }

    pub agrees_before : Agree p (earlier m s) s
    agrees_before = record {
      bounds = λ y i. (stays y (not_made y (x.places.source y i)) s).0;
      held = λ c i here. (stays c.name (not_made c.name (x.places.source c.name i)) s).1 c refl;
      kinds = λ c i. ap nought_like ((stays c.name (not_made c.name (x.places.source c.name i)) s).1 c refl);
    }
