-- FORTRAN 77's expressions with arrays as values.
use Rattle.std.proofs.Common.{◌≡◌, refl, sym, ap, ap₂, ◌∙◌, ℕ, pos, Bool, true, false, cond, [], ◌∷◌, ◌++◌, map, Ok}
use Rattle.tree.specs.Steps.{◌>>=◌}
use mathlib.Core.Path.{fun_ext}
use Rattle.tree.specs.Operators.{apply, call, as_number}
use Rattle.tree.specs.Plain.{Expression, Number, Logic, Named, Unary, Binary, Apply, Constructor, Spread, Transpose, Reshape, Reduce, Expressions, no_expressions, expression, Subscript, Only, Section, Subscripts, no_subscripts, subscript}
use Rattle.tree.specs.declared.ops.Value.{Value}
use Rattle.tree.specs.declared.ops.Value.TheVariants.{Int}
use Rattle.meaning.specs.CellsRead.{cells_read, cells_read_by_each, cells_read_by, cells_read_by_subscript, found}
use Rattle.meaning.specs.Store.{Store, Cell, cell_at, put, same_cell}
use Rattle.meaning.specs.Value.{value_of, values_of, subscript_value, subscript_values}
use Rattle.meaning.proofs.Exchanges.{same_cell-same}
use Rattle.nest_order.specs.runs.Arrays.{CellIsKept, OuterIterationsHold, SameCellsAreRead, SubscriptsReadSame, ValueIsKept}
use Rattle.nest_order.specs.runs.Guarded.{at_iterations, dialect, sequential, variable_cell}
use Rattle.nest_order.specs.runs.Touched.{ArePlain, EachIsPlain, IsPlain, IsPlainSubscript}
use Rattle.nest_order.proofs.runs.Dialects.{value_kept, cell_kept}

module _ (bits : ℕ) (arrays : Bool) (s : Store) where
  mutual
    value_same : (e : Expression) → IsPlain e → value_of (sequential bits) e s ≡ value_of (dialect bits arrays) e s
    value_same (Number n) h = refl
    value_same (Logic b) h = refl
    value_same (Named x ps) h = ap (λ r. do is ← r; c ← cell_at x is s; Ok (s.held c)) (subscripts_same ps h)
    value_same (Unary o a) h = ap (λ r. do x ← r; apply o x x) (value_same a h)
    value_same (Binary o a b) h = ap₂ (λ r q. do x ← r; y ← q; apply o x y) (value_same a h.0) (value_same b h.1)
    value_same (Apply f es) h = ap (λ r. do xs ← r; call f xs) (values_same es h)
    value_same (Constructor es ls) h = absurd h
    value_same (Spread a k e) h = absurd h
    value_same (Transpose a) h = absurd h
    value_same (Reshape a es) h = absurd h
    value_same (Reduce r a) h = absurd h

    values_same : (es : Expressions) → EachIsPlain es → values_of (sequential bits) es s ≡ values_of (dialect bits arrays) es s
    values_same no_expressions h = refl
    values_same (expression e es) h = ap₂ (λ r q. do x ← r; xs ← q; Ok (x ∷ xs)) (value_same e h.0) (values_same es h.1)

    subscripts_same : (ps : Subscripts) → ArePlain ps → subscript_values (sequential bits) ps s ≡ subscript_values (dialect bits arrays) ps s
    subscripts_same no_subscripts h = refl
    subscripts_same (subscript p ps) h = ap₂ (λ r q. do i ← r; is ← q; Ok (i ∷ is)) (subscript_same p h.0) (subscripts_same ps h.1)

    subscript_same : (p : Subscript) → IsPlainSubscript p → subscript_value (sequential bits) p s ≡ subscript_value (dialect bits arrays) p s
    subscript_same (Only e) h = ap (λ r. do x ← r; as_number x) (value_same e h)
    subscript_same (Section a b c) h = absurd h

  mutual
    read_same : (e : Expression) → IsPlain e → cells_read (sequential bits) e s ≡ cells_read (dialect bits arrays) e s
    read_same (Number n) h = refl
    read_same (Logic b) h = refl
    read_same (Named x ps) h = ap₂ (λ cs r. cs ++ found (do is ← r; cell_at x is s)) (read_same_by ps h) (subscripts_same ps h)
    read_same (Unary o a) h = read_same a h
    read_same (Binary o a b) h = ap₂ (λ cs ds. cs ++ ds) (read_same a h.0) (read_same b h.1)
    read_same (Apply f es) h = read_same_each es h
    read_same (Constructor es ls) h = absurd h
    read_same (Spread a k e) h = absurd h
    read_same (Transpose a) h = absurd h
    read_same (Reshape a es) h = absurd h
    read_same (Reduce r a) h = absurd h

    read_same_each : (es : Expressions) → EachIsPlain es → cells_read_by_each (sequential bits) es s ≡ cells_read_by_each (dialect bits arrays) es s
    read_same_each no_expressions h = refl
    read_same_each (expression e es) h = ap₂ (λ cs ds. cs ++ ds) (read_same e h.0) (read_same_each es h.1)

    read_same_by : (ps : Subscripts) → ArePlain ps → cells_read_by (sequential bits) ps s ≡ cells_read_by (dialect bits arrays) ps s
    read_same_by no_subscripts h = refl
    read_same_by (subscript p ps) h = ap₂ (λ cs ds. cs ++ ds) (read_same_in p h.0) (read_same_by ps h.1)

    read_same_in : (p : Subscript) → IsPlainSubscript p → cells_read_by_subscript (sequential bits) p s ≡ cells_read_by_subscript (dialect bits arrays) p s
    read_same_in (Only e) h = read_same e h
    read_same_in (Section a b c) h = absurd h

-- what a cell holds already may be put into it
put_held : (c : Cell) (v : Value) (s : Store) → s.held c ≡ v → put c v s ≡ s
put_held c v s e = ap (λ (h : Cell → Value). let t : Store = record { bounds = s.bounds; held = h } in t) (fun_ext (λ d. by d (same_cell c d) refl))
  where
    by : (d : Cell) (b : Bool) → same_cell c d ≡ b → cond b v (s.held d) ≡ s.held d
    by d true f = sym e ∙ ap s.held (same_cell-same c d f)
    by d false f = refl

pub outer_iterations_hold : OuterIterationsHold
outer_iterations_hold n [] inner [] is t h = refl
outer_iterations_hold n [] inner (i ∷ before) is t h = absurd h
outer_iterations_hold n (l ∷ outer) inner [] is t h = absurd h
outer_iterations_hold n (l ∷ outer) inner (i ∷ before) is t h =
    ap (λ z. at_iterations (map n.variable_at (outer ++ inner)) (before ++ is) z) (put_held (variable_cell (n.variable_at l)) (Int (pos i)) t h.0) ∙ outer_iterations_hold n outer inner before is t h.1

pub value_is_kept : ValueIsKept
value_is_kept bits arrays e s v h = value_kept bits arrays s e v h

pub cell_is_kept : CellIsKept
cell_is_kept bits arrays r s c h = cell_kept bits arrays s r c h

pub same_cells_are_read : SameCellsAreRead
same_cells_are_read bits arrays e s h = read_same bits arrays s e h

pub subscripts_read_same : SubscriptsReadSame
subscripts_read_same bits arrays ps s h = read_same_by bits arrays s ps h
