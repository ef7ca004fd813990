-- Arrays, by the forms of their expressions.
use Rattle.std.proofs.Common.{◌≡◌, refl, sym, ap, ◌∙◌, subst, ℕ, ℤ, Bool, true, false, cond, List, [], ◌∷◌, ◌++◌, map, drop, length, get_or, ◌+◌, ◌<◌, ◌≤◌, Option, Some, None, Result, Ok, Err}
use Rattle.std.specs.declared.boxed.Box.{Box}
use Rattle.std.specs.declared.alloc.Global.{Global}
use Rattle.std.proofs.lemmas.List.{map-append, at_drop_more, at_drop_all}
use mathlib.Core.Path.{ap₂}
use Rattle.tree.specs.Steps.{◌>>=◌}
use Rattle.tree.specs.Operators.{apply, call, as_number, as_numbers, reduced}
use Rattle.tree.specs.Plain as P
use Rattle.tree.specs.View.{expression_of, subscript_of, reference_of, loop_of, constructor_loops}
use Rattle.tree.specs.declared.ops.Op.{Op}
use Rattle.tree.specs.declared.functions.Fun.{Fun}
use Rattle.tree.specs.declared.functions.Red.{Red}
use Rattle.tree.specs.declared.ops.Value.{Value}
use Rattle.tree.specs.declared.ops.Value.TheVariants.{Int, Truth}
use Rattle.tree.specs.declared.ops.Fault.{Fault}
use Rattle.tree.specs.declared.lists.Seq.{Seq}
use Rattle.tree.specs.declared.exprs.Turn.{Turn}
use Rattle.tree.specs.declared.exprs.Expr.{Expr}
use Rattle.tree.specs.declared.exprs.Expr.TheVariants as exprs
use Rattle.tree.specs.declared.exprs.Sub.{Sub}
use Rattle.tree.specs.declared.exprs.Sub.TheVariants as subs
use Rattle.tree.specs.declared.exprs.Ref.{Ref, out-Ref}
use Rattle.tree.proofs.Equations.{expression_of-int, expression_of-truth, expression_of-item, expression_of-un, expression_of-bin, expression_of-call, expression_of-list, expression_of-spread, expression_of-transpose, expression_of-reshape, expression_of-reduce, subscript_of-one, subscript_of-part, reference_of-is}
use Rattle.meaning.specs.ArrayValues.{Array, Elements, each, settled, scalar_array, in_whole, conform, mapped, paired, spread, transposed, reshaped}
use Rattle.meaning.specs.Dialect.{fortran90}
use Rattle.tree.specs.declared.width.Width.{Width}
use Rattle.meaning.specs.Sections.{Selector, Triplet, not_negative, axes_selected, extents_of}
use Rattle.meaning.specs.Store.{Store, stored_bounds}
use Rattle.meaning.specs.Value.{array_of, arguments_of, selector, selectors, selector_of, together, under, values_of}
use Rattle.array_values.specs.Positions.{wider}
use Rattle.array_values.specs.Arrays.{all_at, extents_together, together_all}
use Rattle.array_values.specs.storage.Parts.{array_along, whole_array, part_array}
use Rattle.array_expressions.specs.Scopes.{selected_by, known_of, whole_of, reduction_of, extents_at, number_at, constructed, listed}
use Rattle.tree.specs.Widths.{bits_of}

module _ (width : Width) (s : Store) where
  pub int_array : (n : ℤ) → array_of (fortran90 width) (expression_of (exprs.Int n)) s ≡ Ok (settled (scalar_array (Int n)))
  int_array n = ap (λ e. array_of (fortran90 width) e s) (expression_of-int n)

  pub truth_array : (b : Bool) → array_of (fortran90 width) (expression_of (exprs.Truth b)) s ≡ Ok (settled (scalar_array (Truth b)))
  truth_array b = ap (λ e. array_of (fortran90 width) e s) (expression_of-truth b)

  pub item_array : (r : Ref) → array_of (fortran90 width) (expression_of (exprs.Item r)) s ≡ (do a ← selected_by width (reference_of r) s; Ok (settled a))
  item_array r = ap (λ e. array_of (fortran90 width) e s) (expression_of-item r) ∙ by (selectors (fortran90 width) (reference_of r).subscripts s) (stored_bounds (reference_of r).name s)
    where
      axes : (bs : List (ℤ × ℤ)) (zs : List Selector) → ◌≡◌ {A = Result (Elements Value) Fault} (do axes ← axes_selected (reference_of r).subscripts bs zs; Ok (settled (array_along (reference_of r).name axes s)))
          (do a ← (do axes ← axes_selected (reference_of r).subscripts bs zs; Ok (array_along (reference_of r).name axes s)); Ok (settled a))
      axes bs zs = elim (axes_selected (reference_of r).subscripts bs zs) as (λ q. ◌≡◌ {A = Result (Elements Value) Fault} (do axes ← q; Ok (settled (array_along (reference_of r).name axes s))) (do a ← (do axes ← q; Ok (array_along (reference_of r).name axes s)); Ok (settled a))) [ Ok as' ↦ refl | Err f ↦ refl ]

      by : (q : Result (List Selector) Fault) (p : Result (List (ℤ × ℤ)) Fault)
          → ◌≡◌ {A = Result (Elements Value) Fault} (do zs ← q; bs ← p; axes ← axes_selected (reference_of r).subscripts bs zs; Ok (settled (array_along (reference_of r).name axes s)))
          (do a ← (do zs ← q; bs ← p; axes ← axes_selected (reference_of r).subscripts bs zs; Ok (array_along (reference_of r).name axes s)); Ok (settled a))
      by (Err f) p = refl
      by (Ok zs) (Err f) = refl
      by (Ok zs) (Ok bs) = axes bs zs

  pub un_array : (o : Op) (a : Box Expr Global) → array_of (fortran90 width) (expression_of (exprs.Un o a)) s ≡ (do g ← array_of (fortran90 width) (expression_of a.value) s; Ok (mapped (λ x. apply o x x) g))
  un_array o a = ap (λ e. array_of (fortran90 width) e s) (expression_of-un o a)

  pub bin_array : (o : Op) (a b : Box Expr Global) → array_of (fortran90 width) (expression_of (exprs.Bin o a b)) s
      ≡ (do g ← array_of (fortran90 width) (expression_of a.value) s; h ← array_of (fortran90 width) (expression_of b.value) s; paired (apply o) g h)
  bin_array o a b = ap (λ e. array_of (fortran90 width) e s) (expression_of-bin o a b)

  pub call_array : (f : Fun) (es : Seq Expr) → array_of (fortran90 width) (expression_of (exprs.Call f es)) s
      ≡ (do g ← arguments_of (fortran90 width) (P.expressions (map expression_of es)) [] s; Ok (mapped (call f) g))
  call_array f es = ap (λ e. array_of (fortran90 width) e s) (expression_of-call f es)

  pub list_array : (es : Seq Expr) (ls : Seq Turn) → array_of (fortran90 width) (expression_of (exprs.List es ls)) s
      ≡ (do vs ← constructed width (P.expressions (map expression_of es)) (constructor_loops (map loop_of ls)) s; Ok (settled (listed vs)))
  list_array es ls = ap (λ e. array_of (fortran90 width) e s) (expression_of-list es ls)

  pub spread_array : (a : Box Expr Global) (d : ℕ) (n : Box Expr Global) → array_of (fortran90 width) (expression_of (exprs.Spread a d n)) s
      ≡ (do v ← known_of width (expression_of a.value) s; z ← number_at width (expression_of n.value) s; Ok (spread d (not_negative z) v))
  spread_array a d n = ap (λ e. array_of (fortran90 width) e s) (expression_of-spread a d n)

  pub transpose_array : (a : Box Expr Global) → array_of (fortran90 width) (expression_of (exprs.Transpose a)) s ≡ (do v ← whole_of width (expression_of a.value) s; Ok (transposed v))
  transpose_array a = ap (λ e. array_of (fortran90 width) e s) (expression_of-transpose a) ∙ by (array_of (fortran90 width) (expression_of a.value) s)
    where
      by : (q : Result (Elements Value) Fault) → ◌≡◌ {A = Result (Elements Value) Fault} (do g ← q; v ← in_whole g; Ok (transposed v)) (do v ← (do g ← q; in_whole g); Ok (transposed v))
      by (Ok g) = refl
      by (Err f) = refl

  pub reshape_array : (a : Box Expr Global) (es : Seq Expr) → array_of (fortran90 width) (expression_of (exprs.Reshape a es)) s
      ≡ (do v ← whole_of width (expression_of a.value) s; ns ← extents_at width (P.expressions (map expression_of es)) s; reshaped ns v)
  reshape_array a es = ap (λ e. array_of (fortran90 width) e s) (expression_of-reshape a es) ∙ by (array_of (fortran90 width) (expression_of a.value) s)
    where
      numbers : (v : Array) (q : Result (List Value) Fault) → ◌≡◌ {A = Result (Elements Value) Fault} (do xs ← q; zs ← as_numbers xs; reshaped (map not_negative zs) v) (do ns ← (do xs ← q; zs ← as_numbers xs; Ok (map not_negative zs)); reshaped ns v)
      numbers v (Ok xs) = elim (as_numbers xs) as (λ p. ◌≡◌ {A = Result (Elements Value) Fault} (do zs ← p; reshaped (map not_negative zs) v) (do ns ← (do zs ← p; Ok (map not_negative zs)); reshaped ns v)) [ Ok zs ↦ refl | Err f ↦ refl ]
      numbers v (Err f) = refl

      all : P.Expressions
      all = P.expressions (map expression_of es)

      whole : (q : Result Array Fault) → ◌≡◌ {A = Result (Elements Value) Fault} (do v ← q; xs ← values_of (fortran90 width) (P.expressions (map expression_of es)) s; zs ← as_numbers xs; reshaped (map not_negative zs) v)
          (do v ← q; ns ← extents_at width (P.expressions (map expression_of es)) s; reshaped ns v)
      whole (Ok v) = numbers v (values_of (fortran90 width) (P.expressions (map expression_of es)) s)
      whole (Err f) = refl

      by : (q : Result (Elements Value) Fault) → ◌≡◌ {A = Result (Elements Value) Fault} (do g ← q; v ← in_whole g; xs ← values_of (fortran90 width) (P.expressions (map expression_of es)) s; zs ← as_numbers xs; reshaped (map not_negative zs) v)
          (do v ← (do g ← q; in_whole g); ns ← extents_at width (P.expressions (map expression_of es)) s; reshaped ns v)
      by (Ok g) = whole (in_whole g)
      by (Err f) = refl

  pub reduce_array : (r : Red) (a : Box Expr Global) → array_of (fortran90 width) (expression_of (exprs.Reduce r a)) s ≡ (do x ← reduction_of width r (expression_of a.value) s; Ok (settled (scalar_array x)))
  reduce_array r a = ap (λ e. array_of (fortran90 width) e s) (expression_of-reduce r a) ∙ by (array_of (fortran90 width) (expression_of a.value) s)
    where
      numbers : (q : Result (List ℤ) Fault) → ◌≡◌ {A = Result (Elements Value) Fault} (do zs ← q; x ← reduced (bits_of width) r zs; Ok (settled (scalar_array x))) (do x ← (do zs ← q; reduced (bits_of width) r zs); Ok (settled (scalar_array x)))
      numbers (Ok zs) = refl
      numbers (Err f) = refl

      whole : (q : Result Array Fault) → ◌≡◌ {A = Result (Elements Value) Fault} (do v ← q; zs ← as_numbers v.values; x ← reduced (bits_of width) r zs; Ok (settled (scalar_array x))) (do x ← (do v ← q; zs ← as_numbers v.values; reduced (bits_of width) r zs); Ok (settled (scalar_array x)))
      whole (Ok v) = numbers (as_numbers v.values)
      whole (Err f) = refl

      by : (q : Result (Elements Value) Fault) → ◌≡◌ {A = Result (Elements Value) Fault} (do g ← q; v ← in_whole g; zs ← as_numbers v.values; x ← reduced (bits_of width) r zs; Ok (settled (scalar_array x))) (do x ← (do g ← q; v ← in_whole g; zs ← as_numbers v.values; reduced (bits_of width) r zs); Ok (settled (scalar_array x)))
      by (Ok g) = whole (in_whole g)
      by (Err f) = refl

  -- the steps of a reduction
  pub reduction_steps : (r : Red) (e : P.Expression) → reduction_of width r e s ≡ (do v ← whole_of width e s; zs ← as_numbers v.values; reduced (bits_of width) r zs)
  reduction_steps r e = by (array_of (fortran90 width) e s)
    where
      by : (q : Result (Elements Value) Fault) → ◌≡◌ {A = Result Value Fault} (do g ← q; v ← in_whole g; zs ← as_numbers v.values; reduced (bits_of width) r zs) (do v ← (do g ← q; in_whole g); zs ← as_numbers v.values; reduced (bits_of width) r zs)
      by (Ok g) = refl
      by (Err f) = refl

  -- ---- references

  pub one_selector : (e : Expr) → selector (fortran90 width) (subscript_of (subs.One e)) s ≡ (do v ← known_of width (expression_of e) s; zs ← as_numbers v.values; Ok (selector_of v.extents zs))
  one_selector e = ap (λ p. selector (fortran90 width) p s) (subscript_of-one e)

  pub part_selector : (a b c : Expr) → selector (fortran90 width) (subscript_of (subs.Part a b c)) s
      ≡ (do l ← number_at width (expression_of a) s; u ← number_at width (expression_of b) s; k ← number_at width (expression_of c) s; Ok (Triplet l u k))
  part_selector a b c = ap (λ p. selector (fortran90 width) p s) (subscript_of-part a b c)

  pub selectors_each : (ps : List Sub) → selectors (fortran90 width) (P.subscripts (map subscript_of ps)) s ≡ each (λ p. selector (fortran90 width) (subscript_of p) s) ps
  selectors_each [] = refl
  selectors_each (p ∷ ps) = ap (λ (q : Result (List Selector) Fault). do z ← selector (fortran90 width) (subscript_of p) s; zs ← q; Ok (z ∷ zs)) (selectors_each ps)

  bare_by : (x : List ℕ) (ps : List Sub) → ps ≡ [] → selected_by width (record { name = x; subscripts = P.subscripts (map subscript_of ps) }) s ≡ whole_array x s
  bare_by x [] e = refl
  bare_by x (p ∷ ps) e = cc

  pub selected_bare : (r : Ref) → (out-Ref r).subs ≡ [] → selected_by width (reference_of r) s ≡ whole_array (out-Ref r).name s
  selected_bare r e = ap (λ q. selected_by width q s) (reference_of-is r) ∙ bare_by (out-Ref r).name (out-Ref r).subs e

  parts_by : (x : List ℕ) (ps : List Sub) → (ps ≡ [] → ⊥) → selected_by width (record { name = x; subscripts = P.subscripts (map subscript_of ps) }) s ≡ (do zs ← selectors (fortran90 width) (P.subscripts (map subscript_of ps)) s; part_array x zs s)
  parts_by x [] n = absurd (n refl)
  parts_by x (p ∷ ps) n = refl

  pub selected_parts : (r : Ref) → ((out-Ref r).subs ≡ [] → ⊥) → selected_by width (reference_of r) s
      ≡ (do zs ← selectors (fortran90 width) (P.subscripts (map subscript_of (out-Ref r).subs)) s; part_array (out-Ref r).name zs s)
  selected_parts r n = ap (λ q. selected_by width q s) (reference_of-is r) ∙ parts_by (out-Ref r).name (out-Ref r).subs n

  -- there are as many selectors as subscripts
  pub selectors_some : (ps : List Sub) (zs : List Selector) → (ps ≡ [] → ⊥) → selectors (fortran90 width) (P.subscripts (map subscript_of ps)) s ≡ Ok zs → zs ≡ [] → ⊥
  selectors_some [] zs n e h = n refl
  selectors_some (p ∷ ps) [] n e h = by (selector (fortran90 width) (subscript_of p) s) (selectors (fortran90 width) (P.subscripts (map subscript_of ps)) s) e
    where
      by : (q : Result Selector Fault) (t : Result (List Selector) Fault) → ◌≡◌ {A = Result (List Selector) Fault} (do z ← q; zs ← t; Ok (z ∷ zs)) (Ok []) → ⊥
      by (Ok z) (Ok zs) e = cc
      by (Ok z) (Err f) e = cc
      by (Err f) t e = cc
  selectors_some (p ∷ ps) (z ∷ zs) n e h = cc

  -- ---- arguments, one after the other

  -- behind arguments that are known
  before : List (Elements Value) → Elements (List Value) → Elements (List Value)
  before [] m = m
  before (g ∷ gs) m = together g (before gs m)

  pub args_left : List (Elements Value) → List Expr → Result (Elements (List Value)) Fault
  args_left gs es = do
    m ← arguments_of (fortran90 width) (P.expressions (map expression_of es)) (extents_together [] gs) s
    Ok (before gs m)

  pub args_begun : (es : List Expr) → arguments_of (fortran90 width) (P.expressions (map expression_of es)) [] s ≡ args_left [] es
  unfolding args_left before
  args_begun es = by (arguments_of (fortran90 width) (P.expressions (map expression_of es)) [] s)
    where
      by : (q : Result (Elements (List Value)) Fault) → q ≡ (do m ← q; Ok m)
      by (Ok m) = refl
      by (Err f) = refl

  before_append : (gs : List (Elements Value)) (g : Elements Value) (m : Elements (List Value)) → before (gs ++ g ∷ []) m ≡ before gs (together g m)
  unfolding before
  before_append [] g m = refl
  before_append (h ∷ gs) g m = ap (together h) (before_append gs g m)

  extents_append : (ns : List ℕ) (gs : List (Elements Value)) (g : Elements Value) → extents_together ns (gs ++ g ∷ []) ≡ wider (extents_together ns gs) g.extents
  extents_append ns [] g = refl
  extents_append ns (h ∷ gs) g = extents_append (wider ns h.extents) gs g

  before_all : (ns : List ℕ) (gs : List (Elements Value)) → before gs (record { extents = ns; at = λ is. Ok [] }) ≡ record { extents = ns; at = all_at gs }
  unfolding before
  before_all ns [] = refl
  before_all ns (g ∷ gs) = ap (together g) (before_all ns gs)

  pub args_fault : (gs : List (Elements Value)) (e : Expr) (es : List Expr) (f : Fault) → array_of (fortran90 width) (expression_of e) s ≡ Err f → args_left gs (e ∷ es) ≡ Err f
  unfolding args_left
  args_fault gs e es f h =
      ap (λ (q : Result (Elements Value) Fault). do m ← (do g ← q; ms ← conform (extents_together [] gs) g.extents; more ← arguments_of (fortran90 width) (P.expressions (map expression_of es)) ms s; Ok (together g more)); Ok (before gs m)) h

  pub args_unshaped : (gs : List (Elements Value)) (e : Expr) (es : List Expr) (g : Elements Value) (f : Fault) → array_of (fortran90 width) (expression_of e) s ≡ Ok g → conform (extents_together [] gs) g.extents ≡ Err f
      → args_left gs (e ∷ es) ≡ Err f
  unfolding args_left
  args_unshaped gs e es g f h k =
      ap (λ (q : Result (Elements Value) Fault). do m ← (do g ← q; ms ← conform (extents_together [] gs) g.extents; more ← arguments_of (fortran90 width) (P.expressions (map expression_of es)) ms s; Ok (together g more)); Ok (before gs m)) h
      ∙ ap (λ (q : Result (List ℕ) Fault). do m ← (do ms ← q; more ← arguments_of (fortran90 width) (P.expressions (map expression_of es)) ms s; Ok (together g more)); Ok (before gs m)) k

  pub args_more : (gs : List (Elements Value)) (e : Expr) (es : List Expr) (g : Elements Value) → array_of (fortran90 width) (expression_of e) s ≡ Ok g
      → conform (extents_together [] gs) g.extents ≡ Ok (wider (extents_together [] gs) g.extents) → args_left gs (e ∷ es) ≡ args_left (gs ++ g ∷ []) es
  unfolding args_left
  args_more gs e es g h k =
      ap (λ (q : Result (Elements Value) Fault). do m ← (do g ← q; ms ← conform (extents_together [] gs) g.extents; more ← arguments_of (fortran90 width) (P.expressions (map expression_of es)) ms s; Ok (together g more)); Ok (before gs m)) h
      ∙ ap (λ (q : Result (List ℕ) Fault). do m ← (do ms ← q; more ← arguments_of (fortran90 width) (P.expressions (map expression_of es)) ms s; Ok (together g more)); Ok (before gs m)) k
      ∙ by (arguments_of (fortran90 width) (P.expressions (map expression_of es)) (wider (extents_together [] gs) g.extents) s)
      ∙ ap (λ ns. do m ← arguments_of (fortran90 width) (P.expressions (map expression_of es)) ns s; Ok (before (gs ++ g ∷ []) m)) (sym (extents_append [] gs g))
    where
      by : (q : Result (Elements (List Value)) Fault) → ◌≡◌ {A = Result (Elements (List Value)) Fault} (do m ← (do more ← q; Ok (together g more)); Ok (before gs m)) (do m ← q; Ok (before (gs ++ g ∷ []) m))
      by (Ok m) = ap (λ m. let r : Result (Elements (List Value)) Fault = Ok m in r) (sym (before_append gs g m))
      by (Err f) = refl

  pub args_done : (gs : List (Elements Value)) → args_left gs [] ≡ Ok (together_all [] gs)
  unfolding args_left
  args_done gs = ap (λ m. let r : Result (Elements (List Value)) Fault = Ok m in r) (before_all (extents_together [] gs) gs)

pub ruleset array_laws = (int_array, truth_array)

pub ruleset selected_laws = (selected_bare)

pub ruleset selector_laws = (part_selector)
