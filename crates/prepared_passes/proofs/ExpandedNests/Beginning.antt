-- At the moments before and behind expansion the stores are alike, but for the private scalars and their arrays.
use mathlib.Core.List.{reverse_aux}
use Rattle.std.proofs.Common.{◌≡◌, inl, inr, refl, sym, ap, ap₂, ◌∙◌, subst, ℕ, zero, suc, ◌+◌, ◌≤◌, ◌<◌, ℤ, pos, Bool, true, false, List, [], ◌∷◌, ◌++◌, map, reverse, length, Result, Ok, Option, Some, None, IfSome, arith}
use Rattle.std.specs.Option.{IsSomeAnd}
use Rattle.std.specs.Prelude.{slice_get}
use Rattle.std.proofs.lemmas.List.{length-reverse}
use Rattle.tree.specs.Steps.{◌>>=◌}
use Rattle.tree.specs.Operators.{as_number}
use Rattle.tree.specs.Plain.{Declaration, Expression, Extent, Given, Program}
use Rattle.tree.specs.declared.ops.Fault.{Fault}
use Rattle.tree.specs.declared.ops.Value.{Value}
use Rattle.tree.specs.declared.ops.Value.TheVariants.{Int}
use Rattle.linear_forms.specs.Expressed.{variable}
use Rattle.linear_forms.specs.Laws.{HoldsSized}
use Rattle.linear_forms.specs.Linear.{HaveValues}
use Rattle.meaning.specs.Dialect.{fortran77}
use Rattle.tree.specs.declared.width.Width.{Width}
use Rattle.meaning.specs.Holding.{HasBounds}
use Rattle.meaning.specs.Run.{State}
use Rattle.meaning.specs.Store.{Cell, Store, cell_in}
use Rattle.meaning.specs.Typed.{declared}
use Rattle.meaning.specs.Value.{number_of, value_of}
use Rattle.nest.specs.Bodies.{nest_loops, nest_statements}
use Rattle.nest.specs.Plain.{Loop, Made, Nest}
use Rattle.nest_order.proofs.orders.Lists.{In-left, In-right}
use Rattle.nest_order.proofs.orders.Membership.{In-map}
use Rattle.nest_order.proofs.runs.Results.{both_ok, ok_same}
use Rattle.nest_order.specs.facts.Facts as facts
use Rattle.nest_order.specs.orders.Lists.{In}
use Rattle.nest_order.specs.runs.Guarded.{variable_cell}
use Rattle.nest_order.specs.runs.Touched.{nth_of}
use Rattle.nest_steps.specs.Statements.{cell_of}
use Rattle.pass_laws.proofs.NormalFacts.Tables.{all_in, each_asked}
use Rattle.pass_laws.specs.normal_facts.Laws.{IsCounter}
use Rattle.pass_laws.proofs.PreparedNests.Facts as prepared
use Rattle.pass_laws.proofs.PreparedNests.Lists.{HasSome, ordered_distinct, some_of}
use Rattle.pass_laws.proofs.PreparedNests.Walks.{walked}
use Rattle.pass_laws.specs.prepared_nests.Loops.{IsPreparedLoop}
use Rattle.pass_laws.specs.prepared_nests.Made.{AreBoundsBy, AreOf64Bits, IsPreparedMade}
use Rattle.pass_laws.specs.prepared_nests.Nests.{IsPreparedSymbol}
use Rattle.pass_laws.proofs.PreparedRuns.Symbols.{HoldsNumber, IsNumber, holds_number, value_there, values_in, values_sized}
use Rattle.pass_laws.specs.prepared_runs.Running.{MayRun}
use Rattle.scalar_expand.proofs.Changes.{found}
use Rattle.scalar_expand.proofs.Covers.{extents_found}
use Rattle.scalar_expand.proofs.PrivateLaws.{first_begins, has_first}
use Rattle.scalar_expand.proofs.Theorems.{in_privates}
use Rattle.scalar_expand.specs.Expanded.{array_of, expanded, is_mask, made_before, made_now, named_private}
use Rattle.scalar_expand.specs.Laws.{AreAlike, own_of}
use Rattle.scalar_expand.specs.Numbers.{ends_of, from_place, limits_of, numbers_under}
use Rattle.scalar_expand.specs.Privates.{names_written, private_among, private_scalars, round_loop, trips_of}
use Rattle.scalar_expand.specs.Stores.{AreBeside}
use Rattle.scalar_expand.specs.Texts.{extent_texts}
use Rattle.scalar_expand.specs.declared.privates.Private.{Private}
use Rattle.prepared_passes.specs.expansion.Laws.{counters_of, value_among}
use Rattle.prepared_passes.specs.expansion.Places.{IsExpandedInPlaces}
use Rattle.prepared_passes.proofs.ExpandedNests.Before.{earlier, has_place, holds_before, kept, made_private, made_there, not_made, stays, stays_other}
use Rattle.prepared_passes.proofs.ExpandedNests.ExtentNumbers.{Says, Tell, texts_length, texts_tell}
use Rattle.prepared_passes.proofs.ExpandedNests.MadeArrays.{made_are, mask_made, mask_no_source, now_made, symbols_are}
use Rattle.prepared_passes.proofs.ExpandedNests.Names.{declared_in, is_scalar, named_is}
use Rattle.prepared_passes.proofs.ExpandedNests.Sizes.{AllKnown, extents_known}
use Rattle.prepared_passes.proofs.ExpandedNests.Trips.{symbol_values}
use Rattle.tree.specs.Widths.{bits_of}

-- ---- lists of texts

map_onto : {A B : Type 0} (f : A → B) (xs ys : List A) → map f (reverse_aux xs ys) ≡ reverse_aux (map f xs) (map f ys)
map_onto f [] ys = refl
map_onto f (x ∷ xs) ys = map_onto f xs (x ∷ ys)

pub map_reverse : {A B : Type 0} (f : A → B) (xs : List A) → map f (reverse xs) ≡ reverse (map f xs)
map_reverse f xs = map_onto f xs []

module _ (width : Width) (u : Store) where
  pub tell_onto : (es : List Expression) (zs : List ℤ) (fs : List Expression) (ys : List ℤ) → Tell (fortran77 width) u es zs → Tell (fortran77 width) u fs ys
      → Tell (fortran77 width) u (reverse_aux es fs) (reverse_aux zs ys)
  tell_onto [] [] fs ys h k = k
  tell_onto [] (z ∷ zs) fs ys h k = absurd h
  tell_onto (e ∷ es) [] fs ys h k = absurd h
  tell_onto (e ∷ es) (z ∷ zs) fs ys h k = tell_onto es zs (e ∷ fs) (z ∷ ys) h.1 (h.0, k)

  number_said : (e : Expression) (y z : ℤ) → Says (fortran77 width) u e z → number_of (fortran77 width) e u ≡ Ok y → y ≡ z
  number_said e y z h f =
      let p = both_ok (value_of (fortran77 width) e u) as_number y f in
      same (subst (λ (v : Value). as_number v ≡ Ok y) (h p.0 p.1) p.2)
    where
      same : ◌≡◌ {A = Result ℤ Fault} (Ok z) (Ok y) → y ≡ z
      same g = sym (ok_same {F = Fault} z y g)

  -- bounds from 1 to numbers are those to the numbers that the texts have
  pub bounds_said : (symbols : List (List ℕ)) (values : ℕ → ℤ) → HaveValues symbols u (facts.values_from values 0 symbols)
      → (n : ℕ) (v : ℕ → ℤ) (es : List Expression) (zs : List ℤ) (bs : List (ℤ × ℤ))
      → AreBoundsBy symbols values es bs → Tell (fortran77 width) u es zs → bs ≡ map (from_place n v (pos 1)) zs
  bounds_said symbols values have n v [] [] [] h k = refl
  bounds_said symbols values have n v [] [] (c ∷ bs) h k = absurd h
  bounds_said symbols values have n v [] (z ∷ zs) bs h k = absurd k
  bounds_said symbols values have n v (e ∷ es) [] bs h k = absurd k
  bounds_said symbols values have n v (e ∷ es) (z ∷ zs) [] h k = absurd h
  bounds_said symbols values have n v (e ∷ es) (z ∷ zs) ((l, y) ∷ bs) h k =
      ap₂ (λ (c : ℤ × ℤ) (cs : List (ℤ × ℤ)). c ∷ cs)
      (ap₂ (λ (i j : ℤ). (let c : ℤ × ℤ = (i, j) in c)) h.0 (number_said e y z k.0 (h.1 (fortran77 width) u have)))
      (bounds_said symbols values have n v es zs bs h.2 k.1)

-- ---- places of symbols

pub place_of : (xs : List (List ℕ)) (k : ℕ) (y : List ℕ) → slice_get xs k ≡ Some y → nth_of xs k ≡ Some y
place_of [] k y e = cc
place_of (x ∷ xs) zero y e = e
place_of (x ∷ xs) (suc k) y e = place_of xs k y e

pub some_there : (xs : List (List ℕ)) (k : ℕ) → k < length xs → ◌≡◌ {A = Option (List ℕ)} (slice_get xs k) None → ⊥
some_there [] k h e = omega (arith, h)
some_there (x ∷ xs) zero h e = cc
some_there (x ∷ xs) (suc k) h e = some_there xs k (omega (arith, h)) e

pub in_place : (xs : List (List ℕ)) (k : ℕ) (y : List ℕ) → nth_of xs k ≡ Some y → In y xs
in_place [] k y e = cc
in_place (x ∷ xs) zero y e = inl (let same : x ≡ y = cc in sym same)
in_place (x ∷ xs) (suc k) y e = inr (in_place xs k y e)

abbrev at_most : Option (List ℕ) → ℤ → ℤ
at_most None z = pos 0
at_most (Some y) z = z

-- ---- at the beginning

module _ (width : Width) (p b a : Program) (around : List (List ℕ)) (deepest deeper : ℕ) (m : Nest) (x : IsExpandedInPlaces p b a around deepest deeper m)
    (u : State) (may : MayRun width a (expanded m) u) (sized : HoldsSized u.store) where
  abbrev pub values : ℕ → ℤ
  values = values_in m.symbols u.store

  pub wide : AreOf64Bits values
  wide = values_sized m.symbols u.store sized

  -- ---- symbols

  symbol : (y : List ℕ) → In y m.symbols → IsPreparedSymbol b.declarations y
  symbol y i = all_in (IsPreparedSymbol b.declarations) m.symbols x.before.parts.symbols y i

  pub symbol_kept : (y : List ℕ) → In y m.symbols → ((earlier m u.store).bounds y ≡ u.store.bounds y) × ((c : Cell) → c.name ≡ y → (earlier m u.store).held c ≡ u.store.held c)
  symbol_kept y i = stays width p b a around deepest deeper m x y (not_made width p b a around deepest deeper m x y (symbol y i).name) u.store

  number_there : (y : List ℕ) → In y m.symbols → IsNumber a.declarations y
  number_there y i =
      let s = symbol y i in
      let d = some_of IsCounter (declared b.declarations y) s.scalar in
      record {
        declaration = d.value;
        is = kept width p b a around deepest deeper m x y d.value d.is (not_made width p b a around deepest deeper m x y s.name);
        kind = d.has.kind;
        extent = d.has.scalar;
      }

  pub number_at : (k : ℕ) (y : List ℕ) → nth_of m.symbols k ≡ Some y → HoldsNumber u.store y (values k)
  number_at k y e =
      value_there m.symbols u.store k y e (holds_number (fortran77 width) a u.store y may.holds (number_there y (in_place m.symbols k y e)))

  pub fixed : (v : ℕ → ℤ) → ((k : ℕ) (y : List ℕ) → nth_of m.symbols k ≡ Some y → u.store.held (variable_cell y) ≡ Int (v k))
      → (y : List ℕ) → In y m.symbols → (u.store.bounds y ≡ Some []) × (u.store.held (cell_of y) ≡ Int (value_among m.symbols 0 v y))
  fixed v held y i =
      let h = has_place m.symbols 0 v y i in
      let e : 0 + h.place ≡ h.place = omega arith in
      ((number_at h.place y h.there).bounds, held h.place y h.there ∙ ap Int (ap v (sym e) ∙ sym h.value))

  have_values : (v : ℕ → ℤ) → ((k : ℕ) (y : List ℕ) → nth_of m.symbols k ≡ Some y → u.store.held (variable_cell y) ≡ Int (v k))
      → HaveValues m.symbols u.store (facts.values_from v 0 m.symbols)
  have_values v held = symbol_values m.symbols 0 v u.store (ordered_distinct m.symbols x.before.parts.ordered) (fixed v held)

  pub may_valued : (k : ℕ) (y : List ℕ) → nth_of m.symbols k ≡ Some y → u.store.held (variable_cell y) ≡ Int (may.values k)
  may_valued k y e = may.valued k y (ap (λ (ys : List (List ℕ)). nth_of ys k) (symbols_are m) ∙ e)

  -- ---- arrays

  module _ (v : ℕ → ℤ) (valued : (k : ℕ) (y : List ℕ) → nth_of m.symbols k ≡ Some y → u.store.held (variable_cell y) ≡ Int (v k)) (q : Private) (i : In q (private_scalars m)) where
    made_array : In (array_of m.symbols q) (made_before m.symbols (private_scalars m) m.made ++ made_now m.symbols (private_scalars m))
    made_array = by (is_mask q.name) refl
      where
        by : (c : Bool) → is_mask q.name ≡ c
            → In (array_of m.symbols q) (made_before m.symbols (private_scalars m) m.made ++ made_now m.symbols (private_scalars m))
        by false e =
            In-right (array_of m.symbols q) (made_before m.symbols (private_scalars m) m.made) (made_now m.symbols (private_scalars m))
            (now_made m.symbols (private_scalars m) (private_scalars m) q i e)
        by true e = one (declared m.declarations q.name) refl
          where
            one : (w : Option Declaration) → declared m.declarations q.name ≡ w
                → In (array_of m.symbols q) (made_before m.symbols (private_scalars m) m.made ++ made_now m.symbols (private_scalars m))
            one (Some d) f = absurd (mask_no_source q.name e (x.may.source q.name d f))
            one None f =
                let c = made_private width p b a around deepest deeper m x q i f in
                In-left (array_of m.symbols q) (made_before m.symbols (private_scalars m) m.made) (made_now m.symbols (private_scalars m))
                (mask_made m.symbols (private_scalars m) m.made c.0 q c.1 (ap is_mask c.2 ∙ e)
                (ap (named_private (private_scalars m)) c.2 ∙ named_is b.declarations around deepest m x.before x.may q i))

    pub array_prepared : IsPreparedMade a.declarations m.symbols deeper (array_of m.symbols q)
    array_prepared = made_there width p b a around deepest deeper m x (array_of m.symbols q) made_array

    few : length q.extents ≤ 7
    few =
        let most : length (reverse (extent_texts m.symbols q.extents)) ≤ 7 = array_prepared.few in
        let turned = length-reverse (extent_texts m.symbols q.extents) in
        let same = texts_length m.symbols [] q.extents in
        omega (arith, most, turned, same)

    known : AllKnown (length m.symbols) q.extents
    known =
        let among = in_privates m (names_written [] (nest_statements m)) q i in
        let f = has_first m q.name q (nest_statements m) among in
        let s = first_begins m q.name q f.before f.standing f.behind (ap (private_among m q.name) (sym f.splits) ∙ among) f.none f.stands in
        let e = extents_found (length m.symbols) v (trips_of (map round_loop f.standing.loops)) q.extents s.1.extents in
        extents_known (length m.symbols) [] (trips_of (map round_loop f.standing.loops)) q.extents e.divisors e.under tt

    said : (k : ℕ) (y : List ℕ) → slice_get m.symbols k ≡ Some y → Says (fortran77 width) u.store (variable y) (at_most (slice_get m.symbols k) (v k))
    said k y e r f =
        let n = number_at k y (place_of m.symbols k y e) in
        let there : value_of (fortran77 width) (variable y) u.store ≡ Ok (Int (v k))
        = ap (λ (o : Option (List (ℤ × ℤ))). do c ← cell_in o y []; Ok (u.store.held c)) n.bounds ∙ ap (λ (w : Value). let r : Result Value Fault = Ok w in r) (valued k y (place_of m.symbols k y e)) in
        sym (ok_same {F = Fault} (Int (v k)) r (sym there ∙ f)) ∙ ap (λ (o : Option (List ℕ)). Int (at_most o (v k))) (sym e)

    told : Tell (fortran77 width) u.store (extent_texts m.symbols q.extents) (numbers_under (length m.symbols) v [] q.extents)
    told =
        texts_tell (fortran77 width) u.store m.symbols (λ k. at_most (slice_get m.symbols k) (v k)) said
        (λ k e. ap (λ (o : Option (List ℕ)). at_most o (v k)) e) v there q.extents [] [] known tt (let most = few in omega (arith, most))
      where
        there : (k : ℕ) → k < length m.symbols → at_most (slice_get m.symbols k) (v k) ≡ v k
        there k h = by (slice_get m.symbols k) refl
          where
            by : (o : Option (List ℕ)) → slice_get m.symbols k ≡ o → at_most (slice_get m.symbols k) (v k) ≡ v k
            by None e = absurd (some_there m.symbols k h e)
            by (Some y) e = ap (λ (o : Option (List ℕ)). at_most o (v k)) e

    pub limits_there : u.store.bounds q.array ≡ Some (limits_of (length m.symbols) v (pos 1) q)
    limits_there =
        let made = all_in (λ (c : Made). IsSomeAnd (u.store.bounds c.name) (AreBoundsBy (expanded m).symbols may.values c.extents)) (expanded m).made may.made
        (array_of m.symbols q) (subst (In (array_of m.symbols q)) (sym (made_are m)) made_array) in
        by (some_of (AreBoundsBy (expanded m).symbols may.values (reverse (extent_texts m.symbols q.extents))) (u.store.bounds q.array) made)
      where
        by : HasSome (AreBoundsBy (expanded m).symbols may.values (reverse (extent_texts m.symbols q.extents))) (u.store.bounds q.array)
            → u.store.bounds q.array ≡ Some (limits_of (length m.symbols) v (pos 1) q)
        by h =
            h.is
            ∙ ap (λ (bs : List (ℤ × ℤ)). Some bs)
            (bounds_said width u.store m.symbols may.values (have_values may.values may_valued) (length m.symbols) v
            (reverse (extent_texts m.symbols q.extents)) (reverse (numbers_under (length m.symbols) v [] q.extents)) h.value
            (subst (λ (ss : List (List ℕ)). AreBoundsBy ss may.values (reverse (extent_texts m.symbols q.extents)) h.value) (symbols_are m) h.has)
            (tell_onto width u.store (extent_texts m.symbols q.extents) (numbers_under (length m.symbols) v [] q.extents) [] [] told tt)
            ∙ map_reverse (from_place (length m.symbols) v (pos 1)) (numbers_under (length m.symbols) v [] q.extents))

  -- ---- counters

  counter_declared : (z : List ℕ) → In z (counters_of m) → IsSomeAnd (declared b.declarations z) IsCounter
  counter_declared z i =
      let o = In-map (λ (l : Loop). l.variable) z (nest_loops m) i in
      let r = each_asked (IsPreparedLoop b.declarations m.symbols) (nest_loops m) [] m.body x.before.plain
      (walked (IsPreparedLoop b.declarations m.symbols) [] m.body x.before.parts.loops) o.it o.inside in
      subst (λ y. IsSomeAnd (declared b.declarations y) IsCounter) (sym o.is) r.asked.counter

  -- ---- all of it

  private_bounds : (z : List ℕ) (q : Private) → In q (private_scalars m) → q.name ≡ z → (earlier m u.store).bounds z ≡ Some []
  private_bounds z q i is =
      by (declared b.declarations z)
      (subst (λ y. IsSomeAnd (declared b.declarations y) (λ (d : Declaration). d.extent ≡ Given [])) is (is_scalar b.declarations around deepest m x.before x.may q i))
      ((holds_before width p b a around deepest deeper m x u.store may.holds sized).bounds z)
    where
      by : (o : Option Declaration) → IsSomeAnd o (λ (d : Declaration). d.extent ≡ Given [])
          → IfSome o (λ (d : Declaration). HasBounds d.extent ((earlier m u.store).bounds z)) → (earlier m u.store).bounds z ≡ Some []
      by None h g = absurd h
      by (Some d) h g = subst (λ (e : Extent). HasBounds e ((earlier m u.store).bounds z)) h g

  own_kept : (q : Private) → In q (own_of m) → ((earlier m u.store).bounds q.name ≡ u.store.bounds q.name)
      × ((c : Cell) → c.name ≡ q.name → (earlier m u.store).held c ≡ u.store.held c)
  own_kept q j =
      let d = declared_in b.declarations around deepest m x.before x.may m.declarations q j in
      stays width p b a around deepest deeper m x q.name (not_made width p b a around deepest deeper m x q.name (x.may.source q.name d.0 d.1)) u.store

  beside : AreBeside (bits_of width) (private_scalars m) (limits_of (length m.symbols) values (pos 1)) (ends_of (length m.symbols) values) m.symbols (value_among m.symbols 0 values)
      (λ z. In z (counters_of m)) (λ q. In q (own_of m)) (earlier m u.store) u.store
  beside = record {
    bounds = λ z none other. sym (stays_other width p b a around deepest deeper m x z none u.store).0;
    held = λ c none other. sym ((stays_other width p b a around deepest deeper m x c.name none u.store).1 c refl);
    scalars = λ z q e. (let f = found (private_scalars m) z q e in private_bounds z q f.0 f.1);
    arrays = λ q i. limits_there values (λ j y e. (number_at j y e).held) q i;
    own = λ q i j. sym (own_kept q j).0 ∙ private_bounds q.name q i refl;
    counters = λ z i. prepared.scalar_bounds (declared b.declarations z) ((earlier m u.store).bounds z) (counter_declared z i)
        ((holds_before width p b a around deepest deeper m x u.store may.holds sized).bounds z);
    fixed = λ z i. (let k = symbol_kept z i in let f = fixed values (λ j y e. (number_at j y e).held) z i in (k.0 ∙ f.0, k.1 (cell_of z) refl ∙ f.1));
  }

  pub alike : AreAlike (bits_of width) m (limits_of (length m.symbols) values (pos 1)) (ends_of (length m.symbols) values) (counters_of m) (value_among m.symbols 0 values) []
      (earlier m u.store) u.store
  alike = record {
    beside = beside;
    turned = tt;
    elements = λ c i. absurd i;
    passed = λ c i. absurd i;
    kept = λ q i k. sym ((own_kept q k.0).1 (cell_of q.name) refl);
  }
