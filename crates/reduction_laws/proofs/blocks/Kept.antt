-- What reads none of the variables but in the bodies of their own loops is kept.
use Rattle.std.proofs.Common.{◌≡◌, refl, sym, ap, ap₂, ◌∙◌, inl, inr, ℕ, ℤ, pos, Bool, true, cond, not, ◌&&◌, List, [], ◌∷◌, ◌++◌, map, Result, Ok, Err, Option}
use Rattle.std.specs.List.{AllByRecursion, zip}
use Rattle.std.specs.Ordering.{int_eq}
use Rattle.tree.specs.Steps.{◌>>=◌}
use Rattle.tree.specs.Operators.{as_numbers, as_truth}
use Rattle.tree.specs.Plain.{Expression, Number, Logic, Named, Unary, Binary, Apply, Constructor, Spread, Transpose, Reshape, Reduce, Expressions, Subscripts, no_subscripts, subscript, Reference}
use Rattle.tree.specs.Plain.{Item, Single, Constant, ImpliedDo, Items, no_items, item, Statement, Assignment, Where, If, Do, Label, GoTo, Stop, Read, Print, Allocate, Deallocate, Arms, no_arms, arm, Block, no_statements, statement}
use Rattle.tree.specs.declared.ops.Value.{Value}
use Rattle.tree.specs.declared.ops.Fault.{Fault}
use Rattle.tree.specs.declared.ops.Fault.TheVariants.{ZeroStep}
use Rattle.meaning.specs.ArrayStatements.{axes_named, allocated_bounds, free, second, storable, where_true, writes_of}
use Rattle.meaning.specs.ArrayValues.{Elements, conform, each, in_whole, positions}
use Rattle.meaning.specs.Dialect.{Dialect}
use Rattle.meaning.specs.Sections.{Axis, Selector, axes_selected, cells_along, extents_of}
use Rattle.meaning.specs.Store.{Store, Cell, bounds_in, stored_bounds, cell_at, cell_in, cells_of}
use Rattle.meaning.specs.Value.{all_elements, array_of, cell_named, increment_of, is_array, is_scalar, item_cells, item_values, number_of, numbered, selectors, subscript_values, truth_of, value_of, values_of}
use Rattle.nest_order.specs.orders.Lists.{In}
use Rattle.reductions.specs.Reading.{read_in, read_in_each, read_in_subscripts, read_in_loop, read_in_item, read_in_items, read_in_statement, read_in_arms, read_in_block, without}
use Rattle.reduction_laws.specs.unread.Unread.{AlikeBut, AreBlind, IsBlind, Kept, KeptArms, KeptBlock, KeptInput, KeptInputs, KeptOutput, KeptOutputs}
use Rattle.reduction_laws.specs.unread.Reading.{Spared}
use Rattle.reduction_laws.proofs.unread.Law.{items_named, other_name, still_in, was_in}
use Rattle.reduction_laws.proofs.unread.Blind.{array, left, right, selects, subs, value, values}

-- in the body of a loop
pub body_spared : (xs : List (List ℕ)) (x : List ℕ) (ns : List (List ℕ)) → Spared xs (without x ns) → Spared (without x xs) ns
body_spared xs x ns h y i j = let w = was_in x y xs j in h y (still_in x y ns i w.1) w.0

abbrev Bounds : Type 0
Bounds = List ℕ → Option (List (ℤ × ℤ))

module _ (lang : Dialect) where
  -- ---- questions

  number_blind : (e : Expression) (xs : List (List ℕ)) → Spared xs (read_in e) → IsBlind xs (number_of lang e)
  number_blind e xs n s t a = ap numbered (value lang e xs n s t a)

  increment_blind : (e : Expression) (xs : List (List ℕ)) → Spared xs (read_in e) → IsBlind xs (increment_of lang e)
  increment_blind e xs n s t a = ap (λ (r : Result ℤ Fault). do z ← r; cond (int_eq z (pos 0)) (Err ZeroStep) (Ok z)) (number_blind e xs n s t a)

  truth_blind : (e : Expression) (xs : List (List ℕ)) → Spared xs (read_in e) → IsBlind xs (truth_of lang e)
  truth_blind e xs n s t a = ap (λ (r : Result Value Fault). do x ← r; as_truth x) (value lang e xs n s t a)

  named_blind : (r : Reference) (xs : List (List ℕ)) → Spared xs (read_in_subscripts r.subscripts) → IsBlind xs (cell_named lang r)
  named_blind r xs n s t a =
      ap (λ (q : Result (List ℤ) Fault). do is ← q; cell_at r.name is s) (subs lang r.subscripts xs n s t a)
      ∙ ap (λ (b : Bounds). do is ← subscript_values lang r.subscripts t; cell_in (b r.name) r.name is) a.bounds

  axes_blind : (r : Reference) (xs : List (List ℕ)) → Spared xs (read_in_subscripts r.subscripts) → IsBlind xs (axes_named lang r)
  axes_blind r xs n s t a =
      ap (λ (q : Result (List Selector) Fault). do zs ← q; bs ← stored_bounds r.name s; axes_selected r.subscripts bs zs) (selects lang r.subscripts xs n s t a)
      ∙ ap (λ (b : Bounds). do zs ← selectors lang r.subscripts t; bs ← bounds_in (b r.name); axes_selected r.subscripts bs zs) a.bounds

  abbrev written : Reference → Result (Elements Value) Fault → Result (List Axis) Fault → Result (Elements Value) Fault → Result (List (Cell × Value)) Fault
  written r q o u = do
    m ← q
    axes ← o
    ns ← conform m.extents (extents_of axes)
    g ← u
    _ ← conform ns g.extents
    chosen ← where_true m (zip (positions (extents_of axes)) (cells_along r.name axes))
    xs ← each (λ p. g.at p.0) chosen
    vs ← each (storable lang) xs
    Ok (zip (map second chosen) vs)

  writes_blind : (m : Expression) (r : Reference) (e : Expression) (xs : List (List ℕ)) → Spared xs (read_in m) → Spared xs (read_in_subscripts r.subscripts) → Spared xs (read_in e) → IsBlind xs (writes_of lang m r e)
  writes_blind m r e xs h k n s t a =
      ap (λ q. written r q (axes_named lang r s) (array_of lang e s)) (array lang m xs h s t a)
      ∙ (ap (λ o. written r (array_of lang m t) o (array_of lang e s)) (axes_blind r xs k s t a)
      ∙ ap (λ u. written r (array_of lang m t) (axes_named lang r t) u) (array lang e xs n s t a))

  allocated_blind : (x : List ℕ) (es : Expressions) (xs : List (List ℕ)) → Spared xs (read_in_each es) → IsBlind xs (allocated_bounds lang x es)
  allocated_blind x es xs n s t a =
      ap (λ (q : Result (List Value) Fault). do vs ← q; ns ← as_numbers vs; free (s.bounds x) ns) (values lang es xs n s t a)
      ∙ ap (λ (b : Bounds). do vs ← values_of lang es t; ns ← as_numbers vs; free (b x) ns) a.bounds

  cells_blind : (x : List ℕ) (ps : Subscripts) (xs : List (List ℕ)) → Spared xs (read_in_subscripts ps) → IsBlind xs (item_cells lang x ps)
  cells_blind x no_subscripts xs n s t a = ap (λ (b : Bounds). do bs ← bounds_in (b x); Ok (cells_of x bs)) a.bounds
  cells_blind x (subscript p ps) xs n s t a =
      ap (λ (q : Result (List ℤ) Fault). do is ← q; c ← cell_at x is s; Ok (c ∷ [])) (subs lang (subscript p ps) xs n s t a)
      ∙ ap (λ (b : Bounds). do is ← subscript_values lang (subscript p ps) t; c ← cell_in (b x) x is; Ok (c ∷ [])) a.bounds

  -- ---- output items

  whole_blind : (e : Expression) (xs : List (List ℕ)) → Spared xs (read_in e) → IsBlind xs (all_elements lang e)
  whole_blind e xs n s t a = ap (λ (q : Result (Elements Value) Fault). do g ← q; v ← in_whole g; Ok v.values) (array lang e xs n s t a)

  is_array_same : (e : Expression) (xs : List (List ℕ)) (s t : Store) → AlikeBut xs s t → is_array lang e s ≡ is_array lang e t
  is_array_same e xs s t a = ap (λ (b : Bounds). lang.arrays && not (is_scalar e b)) a.bounds

  either_same : (b c : Bool) (q r u v : Result (List Value) Fault) → b ≡ c → q ≡ u → r ≡ v → cond b q r ≡ cond c u v
  either_same b c q r u v e f g = ap (λ z. cond z q r) e ∙ ap₂ (cond c) f g

  all_held : (x : List ℕ) (xs : List (List ℕ)) → ¬ (In x xs) → (s t : Store) → AlikeBut xs s t → (cs : List Cell) → AllByRecursion (λ (c : Cell). c.name ≡ x) cs → map s.held cs ≡ map t.held cs
  all_held x xs n s t a [] h = refl
  all_held x xs n s t a (c ∷ cs) h = ap₂ (λ v vs. v ∷ vs) (a.held c (other_name xs x c h.0 n)) (all_held x xs n s t a cs h.1)

  held_blind : (x : List ℕ) (ps : Subscripts) (xs : List (List ℕ)) → ¬ (In x xs) → Spared xs (read_in_subscripts ps) → (s t : Store) → AlikeBut xs s t
      → ◌≡◌ {A = Result (List Value) Fault} (do cs ← item_cells lang x ps s; Ok (map s.held cs)) (do cs ← item_cells lang x ps t; Ok (map t.held cs))
  held_blind x ps xs n h s t a = by (item_cells lang x ps s) refl ∙ ap (λ (q : Result (List Cell) Fault). do cs ← q; Ok (map t.held cs)) (cells_blind x ps xs h s t a)
    where
      by : (q : Result (List Cell) Fault) → item_cells lang x ps s ≡ q → ◌≡◌ {A = Result (List Value) Fault} (do cs ← q; Ok (map s.held cs)) (do cs ← q; Ok (map t.held cs))
      by (Err f) e = refl
      by (Ok cs) e = ap Ok (all_held x xs n s t a cs (items_named lang x ps s cs e))

  one_blind : (e : Expression) (xs : List (List ℕ)) → Spared xs (read_in e) → (s t : Store) → AlikeBut xs s t
      → cond (is_array lang e s) (all_elements lang e s) (do x ← value_of lang e s; Ok (x ∷ [])) ≡ cond (is_array lang e t) (all_elements lang e t) (do x ← value_of lang e t; Ok (x ∷ []))
  one_blind e xs n s t a =
      either_same (is_array lang e s) (is_array lang e t) (all_elements lang e s) (do x ← value_of lang e s; Ok (x ∷ [])) (all_elements lang e t) (do x ← value_of lang e t; Ok (x ∷ []))
      (is_array_same e xs s t a) (whole_blind e xs n s t a) (ap (λ (q : Result Value Fault). do x ← q; Ok (x ∷ [])) (value lang e xs n s t a))

  printed_blind : (e : Expression) (xs : List (List ℕ)) → Spared xs (read_in e) → IsBlind xs (item_values lang e)
  printed_blind (Named x ps) xs n s t a =
      either_same (is_array lang (Named x ps) s) (is_array lang (Named x ps) t) (all_elements lang (Named x ps) s) (do cs ← item_cells lang x ps s; Ok (map s.held cs)) (all_elements lang (Named x ps) t) (do cs ← item_cells lang x ps t; Ok (map t.held cs))
      (is_array_same (Named x ps) xs s t a) (whole_blind (Named x ps) xs n s t a) (held_blind x ps xs (n x (inl refl)) (λ y i. n y (inr i)) s t a)
  printed_blind (Number k) xs n s t a = one_blind (Number k) xs n s t a
  printed_blind (Logic k) xs n s t a = one_blind (Logic k) xs n s t a
  printed_blind (Unary o e) xs n s t a = one_blind (Unary o e) xs n s t a
  printed_blind (Binary o e f) xs n s t a = one_blind (Binary o e f) xs n s t a
  printed_blind (Apply f es) xs n s t a = one_blind (Apply f es) xs n s t a
  printed_blind (Constructor es ls) xs n s t a = one_blind (Constructor es ls) xs n s t a
  printed_blind (Spread e k f) xs n s t a = one_blind (Spread e k f) xs n s t a
  printed_blind (Transpose e) xs n s t a = one_blind (Transpose e) xs n s t a
  printed_blind (Reshape e es) xs n s t a = one_blind (Reshape e es) xs n s t a
  printed_blind (Reduce r e) xs n s t a = one_blind (Reduce r e) xs n s t a

  -- ---- loops

  pub bounds_blind : (x : List ℕ) (a b c : Expression) (ns xs : List (List ℕ)) → Spared xs (read_in_loop x a b c ns) → AreBlind lang xs a b c × Spared (without x xs) ns
  bounds_blind x a b c ns xs h =
      let h1 = right xs (read_in a) (read_in b ++ (read_in c ++ without x ns)) h in
      let h2 = right xs (read_in b) (read_in c ++ without x ns) h1 in (
        (number_blind a xs (left xs (read_in a) (read_in b ++ (read_in c ++ without x ns)) h), number_blind b xs (left xs (read_in b) (read_in c ++ without x ns) h1), increment_blind c xs (left xs (read_in c) (without x ns) h2)),
        body_spared xs x ns (right xs (read_in c) (without x ns) h2),
      )

  -- ---- items

  mutual
    input_kept : (i : Item) (xs : List (List ℕ)) → Spared xs (read_in_item i) → KeptInput lang xs i
    input_kept (Single (Named x ps)) xs h = (h x (inl refl), cells_blind x ps xs (λ y i. h y (inr i)))
    input_kept (ImpliedDo is x a b c) xs h = let l = bounds_blind x a b c (read_in_items is) xs h in (l.0, inputs_kept is (without x xs) l.1)
    input_kept (Constant t) xs h = tt
    input_kept (Single (Number n)) xs h = tt
    input_kept (Single (Logic n)) xs h = tt
    input_kept (Single (Unary o e)) xs h = tt
    input_kept (Single (Binary o e f)) xs h = tt
    input_kept (Single (Apply f es)) xs h = tt
    input_kept (Single (Constructor es ls)) xs h = tt
    input_kept (Single (Spread e k f)) xs h = tt
    input_kept (Single (Transpose e)) xs h = tt
    input_kept (Single (Reshape e es)) xs h = tt
    input_kept (Single (Reduce r e)) xs h = tt

    inputs_kept : (is : Items) (xs : List (List ℕ)) → Spared xs (read_in_items is) → KeptInputs lang xs is
    inputs_kept no_items xs h = tt
    inputs_kept (item i is) xs h = (input_kept i xs (left xs (read_in_item i) (read_in_items is) h), inputs_kept is xs (right xs (read_in_item i) (read_in_items is) h))

  mutual
    output_kept : (i : Item) (xs : List (List ℕ)) → Spared xs (read_in_item i) → KeptOutput lang xs i
    output_kept (Single e) xs h = printed_blind e xs h
    output_kept (Constant t) xs h = tt
    output_kept (ImpliedDo is x a b c) xs h = let l = bounds_blind x a b c (read_in_items is) xs h in (l.0, outputs_kept is (without x xs) l.1)

    outputs_kept : (is : Items) (xs : List (List ℕ)) → Spared xs (read_in_items is) → KeptOutputs lang xs is
    outputs_kept no_items xs h = tt
    outputs_kept (item i is) xs h = (output_kept i xs (left xs (read_in_item i) (read_in_items is) h), outputs_kept is xs (right xs (read_in_item i) (read_in_items is) h))

  -- ---- statements

  mutual
    pub kept : (c : Statement) (xs : List (List ℕ)) → Spared xs (read_in_statement c) → Kept lang xs c
    kept (Assignment line mark r e) xs h =
        let k = left xs (read_in_subscripts r.subscripts) (read_in e) h in
        let n = right xs (read_in_subscripts r.subscripts) (read_in e) h in
        (value lang e xs n, named_blind r xs k, writes_blind (Logic true) r e xs (λ y i. absurd i) k n)
    kept (Where line mark m r e) xs h =
        let more = right xs (read_in m) (read_in_subscripts r.subscripts ++ read_in e) h in
        writes_blind m r e xs (left xs (read_in m) (read_in_subscripts r.subscripts ++ read_in e) h) (left xs (read_in_subscripts r.subscripts) (read_in e) more) (right xs (read_in_subscripts r.subscripts) (read_in e) more)
    kept (If line arms other) xs h = (kept_arms arms xs (left xs (read_in_arms arms) (read_in_block other) h), kept_block other xs (right xs (read_in_arms arms) (read_in_block other) h))
    kept (Do line x a b c body) xs h = let l = bounds_blind x a b c (read_in_block body) xs h in (l.0, kept_block body (without x xs) l.1)
    kept (Label n) xs h = tt
    kept (GoTo line n) xs h = tt
    kept (Stop line) xs h = tt
    kept (Read line is) xs h = inputs_kept is xs h
    kept (Print line is) xs h = outputs_kept is xs h
    kept (Allocate line x es) xs h = allocated_blind x es xs h
    kept (Deallocate line x) xs h = tt

    kept_arms : (arms : Arms) (xs : List (List ℕ)) → Spared xs (read_in_arms arms) → KeptArms lang xs arms
    kept_arms no_arms xs h = tt
    kept_arms (arm test body arms) xs h =
        let first = left xs (read_in test ++ read_in_block body) (read_in_arms arms) h in (
          truth_blind test xs (left xs (read_in test) (read_in_block body) first),
          kept_block body xs (right xs (read_in test) (read_in_block body) first),
          kept_arms arms xs (right xs (read_in test ++ read_in_block body) (read_in_arms arms) h),
        )

    pub kept_block : (cs : Block) (xs : List (List ℕ)) → Spared xs (read_in_block cs) → KeptBlock lang xs cs
    kept_block no_statements xs h = tt
    kept_block (statement c cs) xs h = (kept c xs (left xs (read_in_statement c) (read_in_block cs) h), kept_block cs xs (right xs (read_in_statement c) (read_in_block cs) h))

  pub test_blind : (e : Expression) (xs : List (List ℕ)) → Spared xs (read_in e) → IsBlind xs (truth_of lang e)
  test_blind = truth_blind
