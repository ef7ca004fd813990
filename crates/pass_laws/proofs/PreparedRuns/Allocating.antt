-- ALLOCATE for each made array, one after the other.
use Rattle.std.proofs.Common.{◌≡◌, ◌⊎◌, inl, inr, refl, sym, ap, ◌∙◌, subst, ℕ, suc, ◌+◌, ℤ, pos, Bool, true, false}
use Rattle.std.proofs.Common.{cond, List, [], ◌∷◌, ◌++◌, length, map, Option, Some, None, IfSome, Result, Ok, Err, Contains, arith}
use Rattle.std.specs.List.{flat_map}
use Rattle.std.specs.Option.{IsSomeAnd}
use Rattle.std.specs.Prelude.{All}
use Rattle.std.specs.Str.{bytes_eq}
use Rattle.std.proofs.lemmas.List.{length-map}
use Rattle.std.proofs.lemmas.Slice.Eq.{bytes_eq-Decides}
use Rattle.components.specs.Lists as lists
use Rattle.linear_forms.specs.Linear.{HaveValues}
use Rattle.meaning.specs.ArrayStatements.{allocated_bounds, free}
use Rattle.meaning.specs.Dialect.{fortran90}
use Rattle.tree.specs.declared.width.Width.{Width}
use Rattle.meaning.specs.Holding.{HasBounds, HoldsProgram}
use Rattle.meaning.specs.Run.{Going, State, Way, allocates, counts_step, does, does_all, evaluates}
use Rattle.meaning.specs.Run.{while_going}
use Rattle.meaning.specs.Store.{Cell, Store, allocated, nought_like}
use Rattle.meaning.specs.Typed.{declared}
use Rattle.meaning.specs.Value.{numbered, value_of, values_of}
use Rattle.meaning_laws.proofs.profiles.Lists.{cases_of, here, nowhere, there}
use Rattle.meaning_laws.proofs.profiles.Stores.{allocated_holds}
use Rattle.nest.specs.Allocations.{allocation_then, allocations_then}
use Rattle.nest.specs.Plain.{Made}
use Rattle.nest_order.specs.facts.Facts.{values_from}
use Rattle.nest_order.specs.orders.Lists.{In}
use Rattle.pass_laws.specs.prepared_runs.Allocations.{IsSameBut, name_of_array}
use Rattle.pass_laws.specs.prepared_nests.Made.{AreBoundsBy, AreOf64Bits, HasNumberBy, IsPreparedExtent, extent_for}
use Rattle.tree.specs.Operators.{as_numbers}
use Rattle.tree.specs.Plain.{Allocate, Block, Declaration, Expression, Expressions, Extent, Given, Later}
use Rattle.tree.specs.Plain.{Program, expressions}
use Rattle.tree.specs.Steps.{◌>>=◌}
use Rattle.tree.specs.declared.ops.Fault.{Fault}
use Rattle.tree.specs.declared.ops.Value.{Value}
use Rattle.tree.specs.declared.ops.Value.TheVariants.{Int, Truth}

-- ---- names

pub unequal : (x y : List ℕ) → ¬ (x ≡ y) → bytes_eq x y ≡ false
unequal x y n = by (bytes_eq x y) refl
  where
    by : (b : Bool) → bytes_eq x y ≡ b → b ≡ false
    by true e = absurd (n ((bytes_eq-Decides x y).0 e))
    by false e = refl

pub equal : (x : List ℕ) → bytes_eq x x ≡ true
equal x = (bytes_eq-Decides x x).1 refl

-- ---- one statement

allocate_does : (width : Width) (line : ℕ) (x : List ℕ) (es : Expressions) (t : State) (bs : List (ℤ × ℤ)) → t.way ≡ Going
    → allocated_bounds (fortran90 width) x es t.store ≡ Ok bs
    → does (fortran90 width) None (Allocate line x es) t
    ≡ record t { store = allocated x bs t.store; steps = t.steps + 1; way = Going }
unfolding while_going evaluates counts_step allocates
allocate_does width line x es t bs w e = rw (w, e) refl

-- ---- the numbers of extents

abbrev pub AreNumbers : List (List ℕ) → (ℕ → ℤ) → List Expression → List ℤ → Type 0
AreNumbers symbols v [] [] = Unit {0}
AreNumbers symbols v (e ∷ es) (z ∷ zs) = HasNumberBy symbols v e z × AreNumbers symbols v es zs
AreNumbers symbols v _ _ = ⊥

extent_numbers : (ds : List Declaration) (symbols : List (List ℕ)) (deepest : ℕ) (v : ℕ → ℤ) (es : List Expression)
    → AreOf64Bits v → All (IsPreparedExtent ds symbols deepest) es → (zs : List ℤ) × AreNumbers symbols v es zs
extent_numbers ds symbols deepest v [] wide h = ([], tt)
extent_numbers ds symbols deepest v (e ∷ es) wide h =
    let one = (h 0 e (omega arith)).value v wide in
    let more = extent_numbers ds symbols deepest v es wide (λ k d g. h (suc k) d (omega (arith, g))) in
    (one.0 ∷ more.0, (one.1, more.1))

value_is : (r : Result Value Fault) (z : ℤ) → numbered r ≡ Ok z → r ≡ Ok (Int z)
value_is (Err f) z e = let no : ⊥ = cc in absurd no
value_is (Ok (Truth b)) z e = let no : ⊥ = cc in absurd no
value_is (Ok (Int y)) z e = let same : y ≡ z = cc in ap (λ (x : ℤ). Ok (Int x)) same

values_are : (width : Width) (symbols : List (List ℕ)) (v : ℕ → ℤ) (es : List Expression) (zs : List ℤ) (s : Store)
    → AreNumbers symbols v es zs → HaveValues symbols s (values_from v 0 symbols)
    → values_of (fortran90 width) (expressions es) s ≡ Ok (map Int zs)
values_are width symbols v [] [] s h k = refl
values_are width symbols v [] (z ∷ zs) s h k = absurd h
values_are width symbols v (e ∷ es) [] s h k = absurd h
values_are width symbols v (e ∷ es) (z ∷ zs) s h k =
    ap (λ (r : Result Value Fault). do x ← r; xs ← values_of (fortran90 width) (expressions es) s; Ok (x ∷ xs))
    (value_is (value_of (fortran90 width) e s) z (h.0 (fortran90 width) s k))
    ∙ ap (λ (r : Result (List Value) Fault). do xs ← r; Ok (Int z ∷ xs)) (values_are width symbols v es zs s h.1 k)

numbers_back : (zs : List ℤ) → as_numbers (map Int zs) ≡ Ok zs
numbers_back [] = refl
numbers_back (z ∷ zs) = ap (λ (r : Result (List ℤ) Fault). do ys ← r; Ok (z ∷ ys)) (numbers_back zs)

abbrev pub from_one : ℤ → ℤ × ℤ
from_one n = (pos 1, n)

bounds_are : (width : Width) (symbols : List (List ℕ)) (v : ℕ → ℤ) (x : List ℕ) (es : List Expression) (zs : List ℤ) (s : Store)
    → AreNumbers symbols v es zs → HaveValues symbols s (values_from v 0 symbols) → s.bounds x ≡ None
    → allocated_bounds (fortran90 width) x (expressions es) s ≡ Ok (map from_one zs)
bounds_are width symbols v x es zs s h k none =
    ap (λ (r : Result (List Value) Fault). do vs ← r; ns ← as_numbers vs; free (s.bounds x) ns)
    (values_are width symbols v es zs s h k)
    ∙ ap (λ (r : Result (List ℤ) Fault). do ns ← r; free (s.bounds x) ns) (numbers_back zs)
    ∙ ap (λ (o : Option (List (ℤ × ℤ))). free o zs) none

by_numbers : (symbols : List (List ℕ)) (v : ℕ → ℤ) (es : List Expression) (zs : List ℤ) → AreNumbers symbols v es zs
    → AreBoundsBy symbols v es (map from_one zs)
by_numbers symbols v [] [] h = tt
by_numbers symbols v [] (z ∷ zs) h = absurd h
by_numbers symbols v (e ∷ es) [] h = absurd h
by_numbers symbols v (e ∷ es) (z ∷ zs) h = (refl, h.0, by_numbers symbols v es zs h.1)

as_many : (symbols : List (List ℕ)) (v : ℕ → ℤ) (es : List Expression) (zs : List ℤ) → AreNumbers symbols v es zs
    → length zs ≡ length es
as_many symbols v [] [] h = refl
as_many symbols v [] (z ∷ zs) h = absurd h
as_many symbols v (e ∷ es) [] h = absurd h
as_many symbols v (e ∷ es) (z ∷ zs) h = ap suc (as_many symbols v es zs h.1)

-- ---- symbols keep their values

have_kept : (ys : List (List ℕ)) (zs : List ℤ) (s u : Store) → ((y : List ℕ) → In y ys → u.bounds y ≡ s.bounds y)
    → ((c : Cell) → In c.name ys → u.held c ≡ s.held c) → HaveValues ys s zs → HaveValues ys u zs
have_kept [] [] s u b g h = tt
have_kept [] (z ∷ zs) s u b g h = absurd h
have_kept (y ∷ ys) [] s u b g h = absurd h
have_kept (y ∷ ys) (z ∷ zs) s u b g h = (
  b y (inl refl) ∙ h.0,
  g (record { name = y; subscripts = [] }) (inl refl) ∙ h.1,
  have_kept ys zs s u (λ x i. b x (inr i)) (λ c i. g c (inr i)) h.2,
)

-- ---- names of arrays

abbrev pub arrays_of : List Made → List (List ℕ)
arrays_of ms = flat_map (λ (a : Made). name_of_array a.name a.extents) ms

abbrev pub names_of : List Made → List (List ℕ)
names_of ms = map (λ (a : Made). a.name) ms

either_array : (x y : List ℕ) (es : List Expression) (ys : List (List ℕ)) → Contains (name_of_array x es ++ ys) y
    → (x ≡ y) ⊎ Contains ys y
either_array x y [] ys c = inr c
either_array x y (e ∷ es) ys c = cases_of x ys y c

pub no_array : (ms : List Made) (x : List ℕ) → lists.Each (λ y. ¬ (x ≡ y)) (names_of ms) → ¬ Contains (arrays_of ms) x
no_array [] x h c = nowhere x c
no_array (a ∷ ms) x h c = by (no_array ms x h.1) (either_array a.name x a.extents (arrays_of ms) c)
  where
    by : ¬ Contains (arrays_of ms) x → (a.name ≡ x) ⊎ Contains (arrays_of ms) x → ⊥
    by none (inl e) = h.0 (sym e)
    by none (inr d) = none d

-- ---- all of them

-- what is known of a made name with these extents
pub record IsMadeArray (q : Program) (symbols : List (List ℕ)) (deepest : ℕ) (x : List ℕ) (es : List Expression)
    : Type 0 where
  pub declaration : IsSomeAnd (declared q.declarations x) (λ (d : Declaration). d.extent ≡ extent_for es)
  pub extents : All (IsPreparedExtent q.declarations symbols deepest) es
  pub apart : (y : List ℕ) → In y symbols → ¬ (x ≡ y)

module _ (width : Width) (q : Program) (symbols : List (List ℕ)) (deepest : ℕ) (v : ℕ → ℤ) (line : ℕ) (wide : AreOf64Bits v) where
  abbrev pub IsArray : Made → Type 0
  IsArray a = IsMadeArray q symbols deepest a.name a.extents

  abbrev Have : Store → Type 0
  Have s = HaveValues symbols s (values_from v 0 symbols)

  abbrev pub IsThere : Store → List ℕ → List Expression → Type 0
  IsThere s x es = IsSomeAnd (s.bounds x) (AreBoundsBy symbols v es)

  abbrev pub IsFreeArray : Store → List ℕ → List Expression → Type 0
  IsFreeArray s x [] = Unit {0}
  IsFreeArray s x (e ∷ es) = s.bounds x ≡ None

  pub record Came (ms : List Made) (t : State) : Type 0 where
    pub state : State
    pub going : state.way ≡ Going
    pub rest : state ≡ record t { store = state.store; steps = state.steps }
    pub others : IsSameBut (arrays_of ms) t.store state.store
    pub program : HoldsProgram (fortran90 width) q state.store
    pub there : lists.Each (λ (a : Made). IsThere state.store a.name a.extents) ms
    pub runs : (b : Block) → does_all (fortran90 width) None (allocations_then line ms b) t ≡ does_all (fortran90 width) None b state

  -- the first one, with these extents, and others
  record CameWith (x : List ℕ) (es : List Expression) (ms : List Made) (t : State) : Type 0 where
    state : State
    going : state.way ≡ Going
    rest : state ≡ record t { store = state.store; steps = state.steps }
    others : IsSameBut (name_of_array x es ++ arrays_of ms) t.store state.store
    program : HoldsProgram (fortran90 width) q state.store
    first : IsThere state.store x es
    there : lists.Each (λ (a : Made). IsThere state.store a.name a.extents) ms
    runs : (b : Block) → does_all (fortran90 width) None (allocation_then line x es (allocations_then line ms b)) t
        ≡ does_all (fortran90 width) None b state

  scalar_there : (s : Store) (x : List ℕ) → HoldsProgram (fortran90 width) q s
      → IsSomeAnd (declared q.declarations x) (λ (d : Declaration). d.extent ≡ Given []) → IsThere s x []
  scalar_there s x h d = by (declared q.declarations x) (s.bounds x) (h.bounds x) d
    where
      by : (o : Option Declaration) (b : Option (List (ℤ × ℤ))) → IfSome o (λ (d : Declaration). HasBounds d.extent b)
          → IsSomeAnd o (λ (d : Declaration). d.extent ≡ Given []) → IsSomeAnd b (AreBoundsBy symbols v [])
      by None b k e = absurd e
      by (Some d) b k e =
          let is : b ≡ Some [] = subst (λ (x : Extent). HasBounds x b) e k in
          subst (λ (o : Option (List (ℤ × ℤ))). IsSomeAnd o (AreBoundsBy symbols v [])) (sym is) tt

  fits : (o : Option Declaration) (n : ℕ) (bs : List (ℤ × ℤ)) → IsSomeAnd o (λ (d : Declaration). d.extent ≡ Later n)
      → length bs ≡ n → IfSome o (λ (d : Declaration). HasBounds d.extent (Some bs))
  fits None n bs h e = absurd h
  fits (Some d) n bs h e = subst (λ (x : Extent). HasBounds x (Some bs)) (sym h) e

  still : (ms : List Made) (s u : Store) (x : List ℕ) → lists.Each (λ y. ¬ (x ≡ y)) (names_of ms)
      → ((y : List ℕ) → ¬ (x ≡ y) → u.bounds y ≡ s.bounds y)
      → lists.Each (λ (a : Made). IsFreeArray s a.name a.extents) ms
      → lists.Each (λ (a : Made). IsFreeArray u a.name a.extents) ms
  still [] s u x apart same h = tt
  still (a ∷ ms) s u x apart same h = (by a.extents h.0, still ms s u x apart.1 same h.1)
    where
      by : (es : List Expression) → IsFreeArray s a.name es → IsFreeArray u a.name es
      by [] k = tt
      by (e ∷ es) k = same a.name apart.0 ∙ k

  -- where the later ones come to be from any store
  abbrev pub LaterCome : List Made → Type 0
  LaterCome ms = (t : State) → t.way ≡ Going → HoldsProgram (fortran90 width) q t.store → Have t.store
      → lists.Each (λ (a : Made). IsFreeArray t.store a.name a.extents) ms → Came ms t

  allocate_first : (x : List ℕ) (es : List Expression) (ms : List Made) (t : State) → LaterCome ms
      → IsMadeArray q symbols deepest x es → lists.Each (λ y. ¬ (x ≡ y)) (names_of ms)
      → t.way ≡ Going → HoldsProgram (fortran90 width) q t.store → Have t.store → IsFreeArray t.store x es
      → lists.Each (λ (a : Made). IsFreeArray t.store a.name a.extents) ms → CameWith x es ms t
  allocate_first x [] ms t later own apart going program have none free =
      let r = later t going program have free in
      record {
        state = r.state;
        going = r.going;
        rest = r.rest;
        others = r.others;
        program = r.program;
        first = scalar_there r.state.store x r.program own.declaration;
        there = r.there;
        runs = r.runs;
      }
  allocate_first x (e ∷ es) ms t later own apart going program have none free =
      let n = extent_numbers q.declarations symbols deepest v (e ∷ es) wide own.extents in
      let bs = map from_one n.0 in
      let given : allocated_bounds (fortran90 width) x (expressions (e ∷ es)) t.store ≡ Ok bs
      = bounds_are width symbols v x (e ∷ es) n.0 t.store n.1 have none in
      let store : Store = allocated x bs t.store in
      let t1 : State = record t { store = store; steps = t.steps + 1; way = Going } in
      let bounds : (y : List ℕ) → ¬ (x ≡ y) → store.bounds y ≡ t.store.bounds y
      = λ y k. ap (λ (b : Bool). cond b (Some bs) (t.store.bounds y)) (unequal x y k) in
      let held : (c : Cell) → ¬ (x ≡ c.name) → store.held c ≡ t.store.held c
      = λ c k. ap (λ (b : Bool). cond b (nought_like (t.store.held c)) (t.store.held c)) (unequal x c.name k) in
      let count : length bs ≡ length (e ∷ es)
      = length-map n.0 from_one ∙ as_many symbols v (e ∷ es) n.0 n.1 in
      let holds = allocated_holds (fortran90 width) q x bs t.store
      (fits (declared q.declarations x) (length (e ∷ es)) bs own.declaration count) program in
      let more = have_kept symbols (values_from v 0 symbols) t.store store (λ y i. bounds y (own.apart y i))
      (λ c i. held c (own.apart c.name i)) have in
      let r = later t1 refl holds more (still ms t.store store x apart bounds free) in
      record {
        state = r.state;
        going = r.going;
        rest = r.rest ∙ ap (λ (y : Way). record t { store = r.state.store; steps = r.state.steps; way = y }) (sym going);
        others = record {
          bounds = λ y k.
              r.others.bounds y (λ c. k (there x (arrays_of ms) y c))
              ∙ bounds y (λ same. k (subst (Contains (x ∷ arrays_of ms)) same (here x (arrays_of ms))));
          held = λ c k.
              r.others.held c (λ d. k (there x (arrays_of ms) c.name d))
              ∙ held c (λ same. k (subst (Contains (x ∷ arrays_of ms)) same (here x (arrays_of ms))));
        };
        program = r.program;
        first =
            subst (λ (o : Option (List (ℤ × ℤ))). IsSomeAnd o (AreBoundsBy symbols v (e ∷ es)))
            (sym (r.others.bounds x (no_array ms x apart) ∙ ap (λ (b : Bool). cond b (Some bs) (t.store.bounds x)) (equal x)))
            (by_numbers symbols v (e ∷ es) n.0 n.1);
        there = r.there;
        runs = λ b.
            ap (does_all (fortran90 width) None (allocations_then line ms b)) (allocate_does width line x (expressions (e ∷ es)) t bs going given)
            ∙ r.runs b;
      }

  pub allocate_all : (ms : List Made) → lists.Each IsArray ms → lists.Distinct (names_of ms) → LaterCome ms
  allocate_all [] each once t going program have free = record {
    state = t;
    going = going;
    rest = refl;
    others = record { bounds = λ x k. refl; held = λ c k. refl };
    program = program;
    there = tt;
    runs = λ b. refl;
  }
  allocate_all (a ∷ ms) each once t going program have free =
      let r =
      allocate_first a.name a.extents ms t (allocate_all ms each.1 once.1) each.0 once.0 going program have free.0 free.1 in
      record {
        state = r.state;
        going = r.going;
        rest = r.rest;
        others = r.others;
        program = r.program;
        there = (r.first, r.there);
        runs = r.runs;
      }
