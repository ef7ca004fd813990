-- Statements over a program's names keep agreement on the program.
use Rattle.std.proofs.Common.{◌≡◌, refl, sym, ap, ◌∙◌, subst, ℕ, zero, suc, ◌+◌, ℤ, pos, ◌+ℤ◌, Bool, true, false, ◌&&◌, cond, List, [], ◌∷◌, ◌++◌, map, Result, Ok, Err, Option, Some, None, All, Contains}
use Rattle.std.specs.Prelude.{not}
use Rattle.std.specs.List.{AllByRecursion}
use Rattle.std.proofs.lemmas.List.Elements.{recursion_from_All}
use Rattle.std.specs.Ordering.{int_eq}
use mathlib.Core.Path.{ap₂}
use Rattle.tree.specs.Operators.{as_number, as_numbers, as_truth}
use Rattle.tree.specs.Steps.{◌>>=◌}
use Rattle.tree.specs.declared.ops.Fault.{Fault}
use Rattle.tree.specs.declared.ops.Fault.TheVariants.{InputEnd, Overflow, ZeroStep, Bounds}
use Rattle.tree.specs.declared.ops.Value.{Value}
use Rattle.tree.specs.declared.ops.Value.TheVariants.{Int}
use Rattle.tree.specs.Plain.{Expression, Number, Logic, Named, Unary, Binary, Apply, Constructor, Spread, Transpose, Reshape, Reduce, Subscripts, no_subscripts, subscript, Reference, Item, Single, Constant, ImpliedDo, Items, no_items, item, Statement, Assignment, Where, If, Do, Label, GoTo, Stop, Read, Print, Allocate, Deallocate, Arms, no_arms, arm, Block, no_statements, statement, Program}
use Rattle.meaning.specs.Store.{Store, Cell, put, nought_like, stored_bounds, allocated, with_bounds, same_cell, cell_at, cell_in, bounds_in, cells_of, is_within, Agree, IsCell, names_of}
use Rattle.meaning.specs.Texts.{from_value, first_word, after_word, output_text, read_value}
use Rattle.meaning.specs.Value.{value_of, number_of, truth_of, subscript_values, cell_named, item_cells, item_values, all_elements, is_array, is_scalar, named, array_of, values_of, selectors, is_in_range, increment_of, exact}
use Rattle.meaning.specs.Reads.{names_in, names_in_each, names_in_subscripts}
use Rattle.meaning.specs.Agreement.{MomentsAgree}
use Rattle.meaning.specs.Reads.{names_in_item, names_in_items, names_in_statement, names_in_arms, names_in_block}
use Rattle.meaning.specs.Run.{State, Way, Going, Jumping, Stopped, Failed, Cut, Act, nothing, then, either, repeated, for_each, goes, on_way, while_going, answered, evaluates, writes, stores, is_empty, begins_line, takes_word, skips_line, is_allowed, first_blank, arrives, counts_step, checks_range, assigns, array_assigns, stores_element, allocates, deallocates, sets_variable, increases, turn, loops, reads_into, reads_item, reads_items, prints_item, prints_items, does, chooses, does_all}
use Rattle.meaning.proofs.CellFrame.{first_part, second_part, scalar_array-same}
use Rattle.meaning.proofs.AgreeingValues.{value_of-agree, subscript_values-agree, array_of-agree, values_of-agree, selectors-agree, kind-put}
use Rattle.meaning.specs.ArrayValues.{Elements, Array, in_whole, conform, each, positions}
use Rattle.meaning.specs.Sections.{Axis, axes_selected, extents_of, cells_along}
use Rattle.meaning.specs.ArrayStatements.{writes_of, axes_named, where_true, storable, second, allocated_bounds, free}
use Rattle.std.specs.List.{zip}
use Rattle.std.specs.Str.{bytes_eq}
use Rattle.meaning.proofs.Columns.{cells-within}
use Rattle.meaning.specs.Dialect.{Dialect}

-- a cell that was found at x is a cell of the store, and one of x
cell_in-is : (b : Option (List (ℤ × ℤ))) (x : List ℕ) (is : List ℤ) (c : Cell) → cell_in b x is ≡ Ok c → (c.name ≡ x) × (cell_in b c.name c.subscripts ≡ Ok c)
cell_in-is None x is c e = cc
cell_in-is (Some bs) x is c e = by (is_within bs is) refl e
  where
    by : (b : Bool) → is_within bs is ≡ b → ◌≡◌ {A = Result Cell Fault} (cond b (Ok (record { name = x; subscripts = is })) (Err Bounds)) (Ok c)
        → (c.name ≡ x) × (cell_in (Some bs) c.name c.subscripts ≡ Ok c)
    by true p e =
        let same : ◌≡◌ {A = Cell} (record { name = x; subscripts = is }) c = cc in
        (sym (ap (λ (d : Cell). d.name) same), subst (λ (d : Cell). cell_in (Some bs) d.name d.subscripts ≡ Ok d) same (ap (λ b. cond b (Ok (record { name = x; subscripts = is })) (Err Bounds)) p))
    by false p e = cc

parts₃ : {A : Type 0} (P : A → Type 0) (xs ys zs : List A) → AllByRecursion P (xs ++ ys ++ zs) → AllByRecursion P xs × AllByRecursion P ys × AllByRecursion P zs
parts₃ P xs ys zs h =
    let front = first_part P (xs ++ ys) zs h in
    (first_part P xs ys front, second_part P xs ys front, second_part P (xs ++ ys) zs h)

parts₄ : {A : Type 0} (P : A → Type 0) (xs ys zs ws : List A) → AllByRecursion P (xs ++ ys ++ zs ++ ws)
    → AllByRecursion P xs × AllByRecursion P ys × AllByRecursion P zs × AllByRecursion P ws
parts₄ P xs ys zs ws h =
    let front = parts₃ P xs ys zs (first_part P (xs ++ ys ++ zs) ws h) in
    (front.0, front.1, front.2, second_part P (xs ++ ys ++ zs) ws h)

-- `has` gives the bounds that the program's names have in both stores
module _ (p : Program) (has : List ℕ → Option (List (ℤ × ℤ))) where
  abbrev Declared : List ℕ → Type 0
  Declared x = Contains (names_of p) x

  record StoresAlike (s u : Store) : Type 0 where
    left : (x : List ℕ) → Declared x → s.bounds x ≡ has x
    right : (x : List ℕ) → Declared x → u.bounds x ≡ has x
    held : (c : Cell) → Declared c.name → cell_in (has c.name) c.name c.subscripts ≡ Ok c → s.held c ≡ u.held c
    kinds : (c : Cell) → Declared c.name → nought_like (s.held c) ≡ nought_like (u.held c)

  agree_of : {s u : Store} → StoresAlike s u → Agree p s u
  agree_of a = record {
    bounds = λ x d. a.left x d ∙ sym (a.right x d);
    held = λ c d here. a.held c d (subst (λ b. cell_in b c.name c.subscripts ≡ Ok c) (a.left c.name d) here);
    kinds = a.kinds;
  }

  -- a cell of a declared name
  record ProperCell (c : Cell) : Type 0 where
    name : Declared c.name
    here : cell_in (has c.name) c.name c.subscripts ≡ Ok c

  record OneMoment (s t : State) : Type 0 where
    stores : StoresAlike s.store t.store
    rest : t ≡ record s { store = t.store }

  record Agrees (f : Act) : Type 0 where
    at : (s : State) (u : Store) → StoresAlike s.store u → OneMoment (f s) (f (record s { store = u }))

  unchanged : (s : State) (u : Store) → StoresAlike s.store u → OneMoment s (record s { store = u })
  unchanged s u a = record { stores = a; rest = refl }

  Agrees-nothing : Agrees nothing
  Agrees-nothing = record { at = unchanged }

  Agrees-then : (f g : Act) → Agrees f → Agrees g → Agrees (then f g)
  Agrees-then f g h k = record { at = λ s u a. by s (f (record s { store = u })) (h.at s u a) }
    where
      by : (s t : State) → OneMoment (f s) t → OneMoment (g (f s)) (g t)
      by s t m = subst (λ (r : State). OneMoment (g (f s)) (g r)) (sym m.rest) (k.at (f s) t.store m.stores)

  Agrees-goes : (w : Way) → Agrees (goes w)
  Agrees-goes w = record { at = λ s u a. record { stores = a; rest = refl } }

  Agrees-while_going : (f : Act) → Agrees f → Agrees (while_going f)
  unfolding while_going
  Agrees-while_going f h = record { at = λ s. by s.way s }
    where
      by : (w : Way) (s : State) (u : Store) → StoresAlike s.store u → OneMoment (on_way w f s) (on_way w f (record s { store = u }))
      by Going s u a = h.at s u a
      by (Jumping l) s u a = unchanged s u a
      by Stopped s u a = unchanged s u a
      by (Failed e l) s u a = unchanged s u a
      by Cut s u a = unchanged s u a

  Agrees-either : (b : Bool) (f g : Act) → Agrees f → Agrees g → Agrees (either b f g)
  Agrees-either true f g h k = h
  Agrees-either false f g h k = k

  Agrees-answered : {A : Type 0} (line : ℕ) (r : Result A Fault) (k : A → Act) → ((x : A) → r ≡ Ok x → Agrees (k x)) → Agrees (answered line r k)
  Agrees-answered line (Ok x) k h = h x refl
  Agrees-answered line (Err e) k h = Agrees-goes (Failed e line)

  -- Good is what is known of an answer
  Agrees-evaluates : {A : Type 0} (Good : A → Type 0) (line : ℕ) (q : Store → Result A Fault) (k : A → Act)
      → ((s u : Store) → StoresAlike s u → q s ≡ q u) → ((s u : Store) → StoresAlike s u → (x : A) → q s ≡ Ok x → Good x) → ((x : A) → Good x → Agrees (k x)) → Agrees (evaluates line q k)
  unfolding evaluates
  Agrees-evaluates Good line q k same good h = Agrees-while_going _ (record { at = by })
    where
      by : (s : State) (u : Store) → StoresAlike s.store u → OneMoment (answered line (q s.store) k s) (answered line (q u) k (record s { store = u }))
      by s u a = subst (λ r. OneMoment (answered line (q s.store) k s) (answered line r k (record s { store = u }))) (same s.store u a)
          ((Agrees-answered line (q s.store) k (λ x e. h x (good s.store u a x e))).at s u a)

  abbrev Any : {A : Type 0} → A → Type 0
  Any x = Unit {0}

  Agrees-asks : {A : Type 0} (line : ℕ) (q : Store → Result A Fault) (k : A → Act) → ((s u : Store) → StoresAlike s u → q s ≡ q u) → ((x : A) → Agrees (k x)) → Agrees (evaluates line q k)
  Agrees-asks line q k same h = Agrees-evaluates Any line q k same (λ s u a x e. tt) (λ x g. h x)

  Agrees-repeated : (n : ℕ) (f : Act) → Agrees f → Agrees (repeated n f)
  Agrees-repeated zero f h = Agrees-nothing
  Agrees-repeated (suc n) f h = Agrees-then f (repeated n f) h (Agrees-repeated n f h)

  Agrees-for_each : (cs : List Cell) (f : Cell → Act) → AllByRecursion ProperCell cs → ((c : Cell) → ProperCell c → Agrees (f c)) → Agrees (for_each cs f)
  Agrees-for_each [] f w h = Agrees-nothing
  Agrees-for_each (c ∷ cs) f w h = Agrees-then (f c) (for_each cs f) (h c w.0) (Agrees-for_each cs f w.1 h)

  Agrees-writes : (t : List ℕ) → Agrees (writes t)
  unfolding writes
  Agrees-writes t = Agrees-while_going _ (record { at = λ s u a. record { stores = a; rest = refl } })

  StoresAlike-put : (c : Cell) (v : Value) (s u : Store) → StoresAlike s u → StoresAlike (put c v s) (put c v u)
  StoresAlike-put c v s u a = record { left = a.left; right = a.right; held = λ d n here. ap (cond (same_cell c d) v) (a.held d n here); kinds = λ d n. kind-put (same_cell c d) v (s.held d) (u.held d) (a.kinds d n) }

  Agrees-stores : (c : Cell) (v : Value) → Agrees (stores c v)
  unfolding stores
  Agrees-stores c v = Agrees-while_going _ (record { at = λ s u a. record { stores = StoresAlike-put c v s.store u a; rest = refl } })

  Agrees-begins_line : (line : ℕ) → Agrees (begins_line line)
  unfolding begins_line
  Agrees-begins_line line = Agrees-while_going _ (record {
    at = λ s u a.
        (Agrees-either (is_empty s.input) (goes (Failed InputEnd line)) (λ t. record t { had_value = false }) (Agrees-goes (Failed InputEnd line)) (record { at = λ t v b. record { stores = b; rest = refl } })).at s u a;
  })

  Agrees-takes_word : (line : ℕ) (k : List ℕ → Act) → ((w : List ℕ) → Agrees (k w)) → Agrees (takes_word line k)
  unfolding takes_word
  Agrees-takes_word line k h = Agrees-while_going _ (record {
    at = λ s u a.
        (Agrees-answered line (from_value s.had_value s.input) (λ rest t. k (first_word rest) (record t { input = after_word rest; had_value = true })) (λ rest e. past rest)).at s u a;
  })
    where
      past : (rest : List ℕ) → Agrees (λ t. k (first_word rest) (record t { input = after_word rest; had_value = true }))
      past rest = record { at = λ t v b. (h (first_word rest)).at (record t { input = after_word rest; had_value = true }) v b }

  Agrees-skips_line : Agrees skips_line
  unfolding skips_line
  Agrees-skips_line = Agrees-while_going _ (record { at = λ s u a. record { stores = a; rest = refl } })

  -- ---- what is asked of the store

  proper : (s u : Store) → StoresAlike s u → (x : List ℕ) (is : List ℤ) (c : Cell) → Declared x → cell_at x is s ≡ Ok c → ProperCell c
  proper s u a x is c d e =
      let h = cell_in-is (s.bounds x) x is c e in
      record {
        name = subst Declared (sym h.0) d;
        here = subst (λ (y : List ℕ). cell_in (has y) c.name c.subscripts ≡ Ok c) (sym h.0) (subst (λ b. cell_in b c.name c.subscripts ≡ Ok c) (a.left x d) h.1);
      }

  cell_at-agree : (s u : Store) → StoresAlike s u → (x : List ℕ) (is : List ℤ) → Declared x → cell_at x is s ≡ cell_at x is u
  cell_at-agree s u a x is d = ap (λ b. cell_in b x is) (a.left x d ∙ sym (a.right x d))

  all-proper : (x : List ℕ) (bs : List (ℤ × ℤ)) → Declared x → has x ≡ Some bs → (cs : List Cell)
      → AllByRecursion (λ (c : Cell). (c.name ≡ x) × (is_within bs c.subscripts ≡ true)) cs → AllByRecursion ProperCell cs
  all-proper x bs d e [] h = tt
  all-proper x bs d e (c ∷ cs) h = (
    record {
      name = subst Declared (sym h.0.0) d;
      here = ap (λ (y : List ℕ). cell_in (has y) c.name c.subscripts) h.0.0 ∙ (ap (λ b. cell_in b c.name c.subscripts) e ∙ ap (λ b. cond b (Ok c) (Err Bounds)) h.0.1);
    },
    all-proper x bs d e cs h.1,
  )

  same_values : (s u : Store) → StoresAlike s u → (cs : List Cell) → AllByRecursion ProperCell cs → map s.held cs ≡ map u.held cs
  same_values s u a [] h = refl
  same_values s u a (c ∷ cs) h = ap₂ (λ v vs. v ∷ vs) (a.held c h.0.name h.0.here) (same_values s u a cs h.1)

  module _ (lang : Dialect) where
    value-agrees : (e : Expression) → AllByRecursion Declared (names_in e) → (s u : Store) → StoresAlike s u → value_of lang e s ≡ value_of lang e u
    value-agrees e d s u a = value_of-agree lang p e d s u (agree_of a)

    number-agrees : (e : Expression) → AllByRecursion Declared (names_in e) → (s u : Store) → StoresAlike s u → number_of lang e s ≡ number_of lang e u
    number-agrees e d s u a = ap (λ r. do x ← r; as_number x) (value-agrees e d s u a)

    truth-agrees : (e : Expression) → AllByRecursion Declared (names_in e) → (s u : Store) → StoresAlike s u → truth_of lang e s ≡ truth_of lang e u
    truth-agrees e d s u a = ap (λ r. do x ← r; as_truth x) (value-agrees e d s u a)

    increment-agrees : (e : Expression) → AllByRecursion Declared (names_in e) → (s u : Store) → StoresAlike s u → increment_of lang e s ≡ increment_of lang e u
    increment-agrees e d s u a = ap (λ r. do z ← r; cond (int_eq z (pos 0)) (Err ZeroStep) (Ok z)) (number-agrees e d s u a)

    cell-agrees : (r : Reference) → Declared r.name → AllByRecursion Declared (names_in_subscripts r.subscripts) → (s u : Store) → StoresAlike s u → cell_named lang r s ≡ cell_named lang r u
    cell-agrees r d ds s u a = ap₂ (λ q b. do is ← q; cell_in b r.name is) (subscript_values-agree lang p r.subscripts ds s u (agree_of a)) (a.left r.name d ∙ sym (a.right r.name d))

    item_cells-agree : (x : List ℕ) (ps : Subscripts) → Declared x → AllByRecursion Declared (names_in_subscripts ps) → (s u : Store) → StoresAlike s u → item_cells lang x ps s ≡ item_cells lang x ps u
    item_cells-agree x no_subscripts d ds s u a = ap (λ b. do bs ← bounds_in b; Ok (cells_of x bs)) (a.left x d ∙ sym (a.right x d))
    item_cells-agree x (subscript q ps) d ds s u a = ap₂ (λ r b. do is ← r; c ← cell_in b x is; Ok (c ∷ [])) (subscript_values-agree lang p (subscript q ps) ds s u (agree_of a)) (a.left x d ∙ sym (a.right x d))

    item_cells-proper : (x : List ℕ) (ps : Subscripts) → Declared x → (s u : Store) → StoresAlike s u → (cs : List Cell) → item_cells lang x ps s ≡ Ok cs → AllByRecursion ProperCell cs
    item_cells-proper x no_subscripts d s u a cs e = by (has x) refl (ap (λ b. do bs ← bounds_in b; Ok (cells_of x bs)) (sym (a.left x d)) ∙ e)
      where
        by : (b : Option (List (ℤ × ℤ))) → has x ≡ b → ◌≡◌ {A = Result (List Cell) Fault} (do bs ← bounds_in b; Ok (cells_of x bs)) (Ok cs) → AllByRecursion ProperCell cs
        by (Some bs) g f = let same : cells_of x bs ≡ cs = cc in subst (AllByRecursion ProperCell) same (all-proper x bs d g (cells_of x bs) (cells-within x bs))
        by None g f = cc
    item_cells-proper x (subscript q ps) d s u a cs e = by (subscript_values lang (subscript q ps) s) e
      where
        one : (is : List ℤ) (r : Result Cell Fault) → cell_at x is s ≡ r → ◌≡◌ {A = Result (List Cell) Fault} (do c ← r; Ok (c ∷ [])) (Ok cs) → AllByRecursion ProperCell cs
        one is (Ok c) f g = let same : c ∷ [] ≡ cs = cc in subst (AllByRecursion ProperCell) same (proper s u a x is c d f, tt)
        one is (Err f) g h = cc

        by : (r : Result (List ℤ) Fault) → ◌≡◌ {A = Result (List Cell) Fault} (do is ← r; c ← cell_at x is s; Ok (c ∷ [])) (Ok cs) → AllByRecursion ProperCell cs
        by (Ok is) f = one is (cell_at x is s) refl f
        by (Err g) f = cc

    named_values : (x : List ℕ) (ps : Subscripts) → Declared x → AllByRecursion Declared (names_in_subscripts ps) → (s u : Store) → StoresAlike s u
        → ◌≡◌ {A = Result (List Value) Fault} (do cs ← item_cells lang x ps s; Ok (map s.held cs)) (do cs ← item_cells lang x ps u; Ok (map u.held cs))
    named_values x ps d ds s u a = by (item_cells lang x ps s) refl ∙ ap (λ r. do cs ← r; Ok (map u.held cs)) (item_cells-agree x ps d ds s u a)
      where
        by : (r : Result (List Cell) Fault) → item_cells lang x ps s ≡ r → ◌≡◌ {A = Result (List Value) Fault} (do cs ← r; Ok (map s.held cs)) (do cs ← r; Ok (map u.held cs))
        by (Ok cs) e = ap Ok (same_values s u a cs (item_cells-proper x ps d s u a cs e))
        by (Err f) e = refl

    scalars-agree : (e : Expression) → AllByRecursion Declared (names_in e) → (s u : Store) → StoresAlike s u → is_scalar e s.bounds ≡ is_scalar e u.bounds
    scalars-agree e d s u a = scalar_array-same lang s u e (bounded (names_in e) d)
      where
        bounded : (xs : List (List ℕ)) → AllByRecursion Declared xs → AllByRecursion (λ x. s.bounds x ≡ u.bounds x) xs
        bounded [] d = tt
        bounded (x ∷ xs) d = (a.left x d.0 ∙ sym (a.right x d.0), bounded xs d.1)

    elements-agree : (e : Expression) → AllByRecursion Declared (names_in e) → (s u : Store) → StoresAlike s u → all_elements lang e s ≡ all_elements lang e u
    elements-agree e d s u a = ap (λ (r : Result (Elements Value) Fault). do g ← r; v ← in_whole g; Ok v.values) (array_of-agree lang p e d s u (agree_of a))

    -- by whether the item is an array
    one_way : (e : Expression) → AllByRecursion Declared (names_in e) → (s u : Store) → StoresAlike s u → (r q : Result (List Value) Fault) → r ≡ q
        → cond (is_array lang e s) (all_elements lang e s) r ≡ cond (is_array lang e u) (all_elements lang e u) q
    one_way e d s u a r q k = ap (λ b. cond (lang.arrays && not b) (all_elements lang e s) r) (scalars-agree e d s u a) ∙ ap₂ (λ x y. cond (is_array lang e u) x y) (elements-agree e d s u a) k

    single_value : (e : Expression) → AllByRecursion Declared (names_in e) → (s u : Store) → StoresAlike s u
        → ◌≡◌ {A = Result (List Value) Fault} (do x ← value_of lang e s; Ok (x ∷ [])) (do x ← value_of lang e u; Ok (x ∷ []))
    single_value e d s u a = ap (λ r. do x ← r; Ok (x ∷ [])) (value-agrees e d s u a)

    plain_item : (e : Expression) → AllByRecursion Declared (names_in e) → (s u : Store) → StoresAlike s u
        → cond (is_array lang e s) (all_elements lang e s) (do x ← value_of lang e s; Ok (x ∷ [])) ≡ cond (is_array lang e u) (all_elements lang e u) (do x ← value_of lang e u; Ok (x ∷ []))
    plain_item e d s u a = one_way e d s u a _ _ (single_value e d s u a)

    item_values-agree : (e : Expression) → AllByRecursion Declared (names_in e) → (s u : Store) → StoresAlike s u → item_values lang e s ≡ item_values lang e u
    item_values-agree (Named x ps) d s u a = one_way (Named x ps) d s u a _ _ (named_values x ps d.0 d.1 s u a)
    item_values-agree (Number n) d s u a = plain_item (Number n) d s u a
    item_values-agree (Logic b) d s u a = plain_item (Logic b) d s u a
    item_values-agree (Unary o e) d s u a = plain_item (Unary o e) d s u a
    item_values-agree (Binary o e f) d s u a = plain_item (Binary o e f) d s u a
    item_values-agree (Apply f es) d s u a = plain_item (Apply f es) d s u a
    item_values-agree (Constructor es ls) d s u a = plain_item (Constructor es ls) d s u a
    item_values-agree (Spread e k f) d s u a = plain_item (Spread e k f) d s u a
    item_values-agree (Transpose e) d s u a = plain_item (Transpose e) d s u a
    item_values-agree (Reshape e es) d s u a = plain_item (Reshape e es) d s u a
    item_values-agree (Reduce r e) d s u a = plain_item (Reduce r e) d s u a

    axes-agree : (r : Reference) → Declared r.name → AllByRecursion Declared (names_in_subscripts r.subscripts) → (s u : Store) → StoresAlike s u → axes_named lang r s ≡ axes_named lang r u
    axes-agree r d ds s u a = ap₂ (λ q o. do zs ← q; b ← bounds_in o; axes_selected r.subscripts b zs) (selectors-agree lang p r.subscripts ds s u (agree_of a)) (a.left r.name d ∙ sym (a.right r.name d))

    writes-agree : (m : Expression) (r : Reference) (e : Expression) → AllByRecursion Declared (names_in m) → Declared r.name → AllByRecursion Declared (names_in_subscripts r.subscripts) → AllByRecursion Declared (names_in e)
        → (s u : Store) → StoresAlike s u → writes_of lang m r e s ≡ writes_of lang m r e u
    writes-agree m r e dm d ds de s u a =
        ap₂ (λ x y. stages x y (array_of lang e s)) (array_of-agree lang p m dm s u (agree_of a)) (axes-agree r d ds s u a)
        ∙ ap (λ z. stages (array_of lang m u) (axes_named lang r u) z) (array_of-agree lang p e de s u (agree_of a))
      where
        stages : Result (Elements Value) Fault → Result (List Axis) Fault → Result (Elements Value) Fault → Result (List (Cell × Value)) Fault
        stages x y z = do
          mask ← x
          axes ← y
          ns ← conform mask.extents (extents_of axes)
          g ← z
          _ ← conform ns g.extents
          chosen ← where_true mask (zip (positions (extents_of axes)) (cells_along r.name axes))
          xs ← each (λ (q : List ℕ × Cell). g.at q.0) chosen
          vs ← each (storable lang) xs
          Ok (zip (map second chosen) vs)

    -- ---- statements

    module _ (limit : Option ℕ) where
      Agrees-counts_step : (k : Act) → Agrees k → Agrees (counts_step lang limit k)
      unfolding counts_step
      Agrees-counts_step k h = Agrees-while_going _ (record {
        at = λ s u a.
            (Agrees-either (is_allowed limit s.steps) (λ t. k (record t { steps = t.steps + 1 })) (goes Cut) (record { at = λ t v b. h.at (record t { steps = t.steps + 1 }) v b }) (Agrees-goes Cut)).at s u a;
      })

      Agrees-checks_range : (line : ℕ) (v : Value) (k : Act) → Agrees k → Agrees (checks_range lang limit line v k)
      unfolding checks_range
      Agrees-checks_range line v k h = Agrees-while_going _ (Agrees-either (is_in_range lang.bits v) k (goes (Failed Overflow line)) h (Agrees-goes (Failed Overflow line)))

      Agrees-sets_variable : (line : ℕ) (x : List ℕ) (z : ℤ) → Declared x → Agrees (sets_variable lang limit line x z)
      Agrees-sets_variable line x z d = Agrees-asks line _ _ (λ s u a. cell_at-agree s u a x [] d) (λ c. Agrees-checks_range line (Int z) _ (Agrees-stores c (Int z)))

      Agrees-increases : (line : ℕ) (x : List ℕ) (m3 : ℤ) → Declared x → Agrees (increases lang limit line x m3)
      Agrees-increases line x m3 d = Agrees-evaluates ProperCell line _ _ (λ s u a. cell_at-agree s u a x [] d) (λ s u a c e. proper s u a x [] c d e)
          (λ c g. Agrees-asks line _ _ (λ s u a. ap (λ v. do z ← as_number v; exact (z +ℤ m3)) (a.held c g.name g.here)) (λ z. Agrees-sets_variable line x z d))

      Agrees-turn : (line : ℕ) (x : List ℕ) (m3 : ℤ) (f : Act) → Declared x → Agrees f → Agrees (turn lang limit line x m3 f)
      Agrees-turn line x m3 f d h = Agrees-counts_step _ (Agrees-then f _ h (Agrees-increases line x m3 d))

      Agrees-loops : (line : ℕ) (x : List ℕ) (a b c : Expression) (f : Act) → Declared x → AllByRecursion Declared (names_in a) → AllByRecursion Declared (names_in b) → AllByRecursion Declared (names_in c)
          → Agrees f → Agrees (loops lang limit line x a b c f)
      Agrees-loops line x a b c f d da db dc h = Agrees-asks line _ _ (number-agrees a da) (λ m1. Agrees-asks line _ _ (number-agrees b db) (λ m2. Agrees-asks line _ _ (increment-agrees c dc) (λ m3.
          Agrees-then _ _ (Agrees-sets_variable line x m1 d) (Agrees-asks line _ _ (λ s u a. refl) (λ n. Agrees-repeated n _ (Agrees-turn line x m3 f d h))))))

      Agrees-reads_into : (line : ℕ) (c : Cell) → ProperCell c → Agrees (reads_into lang limit line c)
      Agrees-reads_into line c g = Agrees-takes_word line _ (λ w. Agrees-asks line _ _ (λ s u a. ap (λ v. read_value v w) (a.held c g.name g.here))
          (λ v. Agrees-checks_range line v _ (Agrees-counts_step _ (Agrees-stores c v))))

      mutual
        Agrees-reads_item : (i : Item) (line : ℕ) → AllByRecursion Declared (names_in_item i) → Agrees (reads_item lang limit i line)
        Agrees-reads_item (Single (Named x ps)) line d = Agrees-evaluates (AllByRecursion ProperCell) line _ _ (item_cells-agree x ps d.0 d.1) (item_cells-proper x ps d.0) (λ cs g. Agrees-for_each cs _ g (Agrees-reads_into line))
        Agrees-reads_item (ImpliedDo is x a b c) line d =
            let parts = parts₄ Declared (names_in a) (names_in b) (names_in c) (names_in_items is) d.1 in
            Agrees-loops line x a b c _ d.0 parts.0 parts.1 parts.2 (Agrees-reads_items is line parts.3)
        Agrees-reads_item _ line d = Agrees-nothing

        Agrees-reads_items : (is : Items) (line : ℕ) → AllByRecursion Declared (names_in_items is) → Agrees (reads_items lang limit is line)
        Agrees-reads_items no_items line d = Agrees-nothing
        Agrees-reads_items (item i is) line d = Agrees-then _ _ (Agrees-reads_item i line (first_part Declared (names_in_item i) (names_in_items is) d)) (Agrees-reads_items is line (second_part Declared (names_in_item i) (names_in_items is) d))

      mutual
        Agrees-prints_item : (i : Item) (line : ℕ) → AllByRecursion Declared (names_in_item i) → Agrees (prints_item lang limit i line)
        Agrees-prints_item (Single e) line d = Agrees-asks line _ _ (item_values-agree e d) (λ vs. Agrees-writes (output_text vs))
        Agrees-prints_item (Constant t) line d = Agrees-writes t
        Agrees-prints_item (ImpliedDo is x a b c) line d =
            let parts = parts₄ Declared (names_in a) (names_in b) (names_in c) (names_in_items is) d.1 in
            Agrees-loops line x a b c _ d.0 parts.0 parts.1 parts.2 (Agrees-prints_items is line parts.3)

        Agrees-prints_items : (is : Items) (line : ℕ) → AllByRecursion Declared (names_in_items is) → Agrees (prints_items lang limit is line)
        Agrees-prints_items no_items line d = Agrees-nothing
        Agrees-prints_items (item i is) line d = Agrees-then _ _ (Agrees-prints_item i line (first_part Declared (names_in_item i) (names_in_items is) d)) (Agrees-prints_items is line (second_part Declared (names_in_item i) (names_in_items is) d))

      Agrees-assigns : (line : ℕ) (r : Reference) (e : Expression) → Declared r.name → AllByRecursion Declared (names_in_subscripts r.subscripts) → AllByRecursion Declared (names_in e) → Agrees (assigns lang limit line r e)
      Agrees-assigns line r e d ds de = Agrees-asks line _ _ (value-agrees e de) (λ v. Agrees-asks line _ _ (cell-agrees r d ds) (λ c. Agrees-checks_range line v _ (Agrees-counts_step _ (Agrees-stores c v))))

      Agrees-for_all : {A : Type 0} (xs : List A) (f : A → Act) → ((x : A) → Agrees (f x)) → Agrees (for_each xs f)
      Agrees-for_all [] f h = Agrees-nothing
      Agrees-for_all (x ∷ xs) f h = Agrees-then (f x) (for_each xs f) (h x) (Agrees-for_all xs f h)

      Agrees-array_assigns : (line : ℕ) (m : Expression) (r : Reference) (e : Expression) → AllByRecursion Declared (names_in m) → Declared r.name → AllByRecursion Declared (names_in_subscripts r.subscripts) → AllByRecursion Declared (names_in e)
          → Agrees (array_assigns lang limit line m r e)
      Agrees-array_assigns line m r e dm d ds de = Agrees-asks line _ _ (writes-agree m r e dm d ds de) (λ ws. Agrees-for_all ws _ (λ w. Agrees-counts_step _ (Agrees-stores w.0 w.1)))

      Agrees-assignment : (line : ℕ) (r : Reference) (e : Expression) → Declared r.name → AllByRecursion Declared (names_in_subscripts r.subscripts) → AllByRecursion Declared (names_in e)
          → Agrees (λ s. either (is_array lang (named r) s.store) (array_assigns lang limit line (Logic true) r e) (assigns lang limit line r e) s)
      Agrees-assignment line r e d ds de = record { at = by }
        where
          by : (s : State) (u : Store) → StoresAlike s.store u → OneMoment (either (is_array lang (named r) s.store) (array_assigns lang limit line (Logic true) r e) (assigns lang limit line r e) s)
              (either (is_array lang (named r) u) (array_assigns lang limit line (Logic true) r e) (assigns lang limit line r e) (record s { store = u }))
          by s u a = subst (λ b. OneMoment (either (is_array lang (named r) s.store) (array_assigns lang limit line (Logic true) r e) (assigns lang limit line r e) s)
              (either (lang.arrays && not b) (array_assigns lang limit line (Logic true) r e) (assigns lang limit line r e) (record s { store = u }))) (scalars-agree (named r) (d, ds) s.store u a)
              ((Agrees-either (is_array lang (named r) s.store) _ _ (Agrees-array_assigns line (Logic true) r e tt d ds de) (Agrees-assigns line r e d ds de)).at s u a)

-- ---- statements: ALLOCATE and DEALLOCATE change the bounds

module _ (p : Program) where
  abbrev IsDeclared : List ℕ → Type 0
  IsDeclared x = Contains (names_of p) x

  record Together (s t : State) : Type 0 where
    store : Agree p s.store t.store
    rest : t ≡ record s { store = t.store }

  record Leads (f : Act) : Type 0 where
    at : (s : State) (u : Store) → Agree p s.store u → Together (f s) (f (record s { store = u }))

  alike_of : (s u : Store) → Agree p s u → StoresAlike p s.bounds s u
  alike_of s u a = record { left = λ x n. refl; right = λ x n. sym (a.bounds x n); held = a.held; kinds = a.kinds }

  leads : (f : Act) → ((has : List ℕ → Option (List (ℤ × ℤ))) → Agrees p has f) → Leads f
  leads f h = record { at = λ s u a. by s u (((h s.store.bounds).at s u (alike_of s.store u a))) }
    where
      by : (s : State) (u : Store) → OneMoment p s.store.bounds (f s) (f (record s { store = u })) → Together (f s) (f (record s { store = u }))
      by s u m = record { store = agree_of p s.store.bounds m.stores; rest = m.rest }

  Leads-then : (f g : Act) → Leads f → Leads g → Leads (then f g)
  Leads-then f g h k = record { at = λ s u a. by s (f (record s { store = u })) (h.at s u a) }
    where
      by : (s t : State) → Together (f s) t → Together (g (f s)) (g t)
      by s t m = subst (λ (r : State). Together (g (f s)) (g r)) (sym m.rest) (k.at (f s) t.store m.store)

  Leads-goes : (w : Way) → Leads (goes w)
  Leads-goes w = record { at = λ s u a. record { store = a; rest = refl } }

  Leads-nothing : Leads nothing
  Leads-nothing = record { at = λ s u a. record { store = a; rest = refl } }

  Leads-while_going : (f : Act) → Leads f → Leads (while_going f)
  unfolding while_going
  Leads-while_going f h = record { at = λ s. by s.way s }
    where
      by : (w : Way) (s : State) (u : Store) → Agree p s.store u → Together (on_way w f s) (on_way w f (record s { store = u }))
      by Going s u a = h.at s u a
      by (Jumping l) s u a = record { store = a; rest = refl }
      by Stopped s u a = record { store = a; rest = refl }
      by (Failed e l) s u a = record { store = a; rest = refl }
      by Cut s u a = record { store = a; rest = refl }

  Leads-either : (b : Bool) (f g : Act) → Leads f → Leads g → Leads (either b f g)
  Leads-either true f g h k = h
  Leads-either false f g h k = k

  Leads-answered : {A : Type 0} (line : ℕ) (r : Result A Fault) (k : A → Act) → ((x : A) → Leads (k x)) → Leads (answered line r k)
  Leads-answered line (Ok x) k h = h x
  Leads-answered line (Err e) k h = Leads-goes (Failed e line)

  Leads-asks : {A : Type 0} (line : ℕ) (q : Store → Result A Fault) (k : A → Act) → ((s u : Store) → Agree p s u → q s ≡ q u) → ((x : A) → Leads (k x)) → Leads (evaluates line q k)
  unfolding evaluates
  Leads-asks line q k same h = Leads-while_going _ (record { at = by })
    where
      by : (s : State) (u : Store) → Agree p s.store u → Together (answered line (q s.store) k s) (answered line (q u) k (record s { store = u }))
      by s u a = subst (λ r. Together (answered line (q s.store) k s) (answered line r k (record s { store = u }))) (same s.store u a) ((Leads-answered line (q s.store) k h).at s u a)

  Leads-repeated : (n : ℕ) (f : Act) → Leads f → Leads (repeated n f)
  Leads-repeated zero f h = Leads-nothing
  Leads-repeated (suc n) f h = Leads-then f (repeated n f) h (Leads-repeated n f h)

  emptied : (b : Bool) (h k : Value) → nought_like h ≡ nought_like k → (b ≡ false → h ≡ k) → cond b (nought_like h) h ≡ cond b (nought_like k) k
  emptied true h k e f = e
  emptied false h k e f = f refl

  emptied_kind : (b : Bool) (h k : Value) → nought_like h ≡ nought_like k → nought_like (cond b (nought_like h) h) ≡ nought_like (cond b (nought_like k) k)
  emptied_kind true h k e = ap nought_like e
  emptied_kind false h k e = e

  Leads-allocates : (x : List ℕ) (bs : List (ℤ × ℤ)) → Leads (allocates x bs)
  unfolding allocates
  Leads-allocates x bs = Leads-while_going _ (record { at = λ s u a. record { store = by s.store u a; rest = refl } })
    where
      others : (s : Store) (c : Cell) (b : Bool) → bytes_eq x c.name ≡ b → b ≡ false → cell_in (cond b (Some bs) (s.bounds c.name)) c.name c.subscripts ≡ Ok c → IsCell s c
      others s c true e f h = cc
      others s c false e f h = h

      by : (s u : Store) → Agree p s u → Agree p (allocated x bs s) (allocated x bs u)
      by s u a = record {
        bounds = λ y n. ap (cond (bytes_eq x y) (Some bs)) (a.bounds y n);
        held = λ c n here. emptied (bytes_eq x c.name) (s.held c) (u.held c) (a.kinds c n) (λ e. a.held c n (others s c (bytes_eq x c.name) refl e here));
        kinds = λ c n. emptied_kind (bytes_eq x c.name) (s.held c) (u.held c) (a.kinds c n);
      }

  Leads-deallocates : (x : List ℕ) → Leads (deallocates x)
  unfolding deallocates
  Leads-deallocates x = Leads-while_going _ (record { at = λ s u a. record { store = by s.store u a; rest = refl } })
    where
      still : (s : Store) (c : Cell) (b : Bool) → cell_in (cond b None (s.bounds c.name)) c.name c.subscripts ≡ Ok c → IsCell s c
      still s c true h = cc
      still s c false h = h

      by : (s u : Store) → Agree p s u → Agree p (with_bounds x None s) (with_bounds x None u)
      by s u a = record {
        bounds = λ y n. ap (cond (bytes_eq x y) None) (a.bounds y n);
        held = λ c n here. a.held c n (still s c (bytes_eq x c.name) here);
        kinds = a.kinds;
      }

  module _ (lang : Dialect) (limit : Option ℕ) where
    Leads-counts_step : (k : Act) → Leads k → Leads (counts_step lang limit k)
    unfolding counts_step
    Leads-counts_step k h = Leads-while_going _ (record {
      at = λ s u a.
          (Leads-either (is_allowed limit s.steps) (λ t. k (record t { steps = t.steps + 1 })) (goes Cut) (record { at = λ t v b. h.at (record t { steps = t.steps + 1 }) v b }) (Leads-goes Cut)).at s u a;
    })

    numbers : (e : Expression) → AllByRecursion IsDeclared (names_in e) → (s u : Store) → Agree p s u → number_of lang e s ≡ number_of lang e u
    numbers e d s u a = ap (λ r. do x ← r; as_number x) (value_of-agree lang p e d s u a)

    Leads-loops : (line : ℕ) (x : List ℕ) (a b c : Expression) (f : Act) → IsDeclared x → AllByRecursion IsDeclared (names_in a) → AllByRecursion IsDeclared (names_in b) → AllByRecursion IsDeclared (names_in c)
        → Leads f → Leads (loops lang limit line x a b c f)
    Leads-loops line x a b c f d da db dc h = Leads-asks line _ _ (numbers a da) (λ m1. Leads-asks line _ _ (numbers b db) (λ m2. Leads-asks line _ _ (λ s u g. ap (λ r. do z ← r; cond (int_eq z (pos 0)) (Err ZeroStep) (Ok z)) (numbers c dc s u g)) (λ m3.
        Leads-then _ _ (leads _ (λ has. Agrees-sets_variable p has lang limit line x m1 d)) (Leads-asks line _ _ (λ s u g. refl) (λ n. Leads-repeated n _
        (Leads-counts_step _ (Leads-then f _ h (leads _ (λ has. Agrees-increases p has lang limit line x m3 d)))))))))

    mutual
      Leads-does : (c : Statement) → AllByRecursion IsDeclared (names_in_statement c) → Leads (does lang limit c)
      Leads-does (Assignment line m r e) d = Leads-counts_step _ (leads _ (λ has. Agrees-assignment p has lang limit line r e d.0 (first_part IsDeclared (names_in_subscripts r.subscripts) (names_in e) d.1) (second_part IsDeclared (names_in_subscripts r.subscripts) (names_in e) d.1)))
      Leads-does (Where line m k r e) d =
          let parts = parts₃ IsDeclared (names_in k) (names_in_subscripts r.subscripts) (names_in e) d.1 in
          Leads-either lang.arrays _ _ (Leads-counts_step _ (leads _ (λ has. Agrees-array_assigns p has lang limit line k r e parts.0 d.0 parts.1 parts.2))) Leads-nothing
      Leads-does (If line arms other) d = Leads-chooses line arms _ (first_part IsDeclared (names_in_arms arms) (names_in_block other) d) (Leads-does_all other (second_part IsDeclared (names_in_arms arms) (names_in_block other) d))
      Leads-does (Do line x a b c body) d =
          let parts = parts₄ IsDeclared (names_in a) (names_in b) (names_in c) (names_in_block body) d.1 in
          Leads-loops line x a b c _ d.0 parts.0 parts.1 parts.2 (Leads-does_all body parts.3)
      Leads-does (Label l) d = record { at = λ s u a. (Leads-either (arrives l s.way) (goes Going) nothing (Leads-goes Going) Leads-nothing).at s u a }
      Leads-does (GoTo line l) d = Leads-counts_step _ (Leads-goes (Jumping l))
      Leads-does (Stop line) d = Leads-counts_step _ (Leads-goes Stopped)
      Leads-does (Read line is) d = Leads-counts_step _ (leads _ (λ has. Agrees-then p has _ _ (Agrees-begins_line p has line) (Agrees-then p has _ _ (Agrees-reads_items p has lang limit is line d) (Agrees-skips_line p has))))
      Leads-does (Print line is) d = Leads-counts_step _ (leads _ (λ has. Agrees-then p has _ _ (Agrees-writes p has (first_blank is)) (Agrees-then p has _ _ (Agrees-prints_items p has lang limit is line d) (Agrees-writes p has (10 ∷ [])))))
      Leads-does (Allocate line x es) d = Leads-either lang.arrays _ _ (Leads-counts_step _ (Leads-asks line _ _
          (λ s u a. ap₂ (λ r o. do vs ← r; ns ← as_numbers vs; free o ns) (values_of-agree lang p es d.1 s u a) (a.bounds x d.0)) (λ bs. Leads-allocates x bs))) Leads-nothing
      Leads-does (Deallocate line x) d = Leads-either lang.arrays _ _ (Leads-counts_step _ (Leads-asks line _ _ (λ s u a. ap bounds_in (a.bounds x d.0)) (λ bs. Leads-deallocates x))) Leads-nothing

      Leads-chooses : (line : ℕ) (arms : Arms) (f : Act) → AllByRecursion IsDeclared (names_in_arms arms) → Leads f → Leads (chooses lang limit line arms f)
      Leads-chooses line no_arms f d h = h
      Leads-chooses line (arm test body arms) f d h =
          let parts = parts₃ IsDeclared (names_in test) (names_in_block body) (names_in_arms arms) d in
          Leads-counts_step _ (Leads-asks line _ _ (λ s u a. ap (λ r. do x ← r; as_truth x) (value_of-agree lang p test parts.0 s u a)) (λ b. Leads-either b _ _ (Leads-does_all body parts.1) (Leads-chooses line arms f parts.2 h)))

      Leads-does_all : (cs : Block) → AllByRecursion IsDeclared (names_in_block cs) → Leads (does_all lang limit cs)
      Leads-does_all no_statements d = Leads-nothing
      Leads-does_all (statement c cs) d = Leads-then _ _ (Leads-does c (first_part IsDeclared (names_in_statement c) (names_in_block cs) d)) (Leads-does_all cs (second_part IsDeclared (names_in_statement c) (names_in_block cs) d))

  agreeing : {s t : State} → Together s t → MomentsAgree p s t
  agreeing m = record {
    store = m.store;
    written = sym (ap (λ (r : State). r.written) m.rest);
    input = sym (ap (λ (r : State). r.input) m.rest);
    had_value = sym (ap (λ (r : State). r.had_value) m.rest);
    steps = sym (ap (λ (r : State). r.steps) m.rest);
    way = sym (ap (λ (r : State). r.way) m.rest);
  }

pub statements_keep_agreement : (lang : Dialect) (limit : Option ℕ) (p : Program) (cs : Block) (s t : State)
    → All (Contains (names_of p)) (names_in_block cs) → MomentsAgree p s t → MomentsAgree p (does_all lang limit cs s) (does_all lang limit cs t)
statements_keep_agreement lang limit p cs s t d m =
    let same : ◌≡◌ {A = State} (record s { store = t.store }) t = (λ i. record { store = t.store; written = m.written i; input = m.input i; had_value = m.had_value i; steps = m.steps i; way = m.way i }) in
    let one = (Leads-does_all p lang limit cs (recursion_from_All (Contains (names_of p)) (names_in_block cs) d)).at s t.store m.store in
    subst (λ (r : State). MomentsAgree p (does_all lang limit cs s) (does_all lang limit cs r)) same (agreeing p one)
