-- The places of cells, and what is stored there.
use Rattle.std.proofs.Common.{◌≡◌, refl, sym, ap, ◌∙◌, subst, ℕ, ℤ, ◌+ℤ◌, List, map, Result, Ok, Err, Option, Some}
use Rattle.std.specs.Prelude.{IfOk}
use Rattle.tree.specs.Steps.{◌>>=◌}
use Rattle.tree.specs.Operators.{as_number}
use Rattle.tree.specs.Plain as P
use Rattle.tree.specs.View.{subscript_of, reference_of}
use Rattle.tree.specs.declared.exprs.Ref.{Ref, out-Ref}
use Rattle.tree.proofs.Equations.{reference_of-is}
use Rattle.tree.specs.declared.ops.Value.{Value}
use Rattle.tree.specs.declared.ops.Fault.{Fault}
use Rattle.meaning.specs.Dialect.{fortran90}
use Rattle.tree.specs.declared.width.Width.{Width}
use Rattle.meaning.specs.Store.{Store, Cell, cell_at}
use Rattle.meaning.specs.Value.{exact, subscript_values, cell_named}
use Rattle.machine.specs.Loops.{increased}
use Rattle.machine.specs.declared.progress.Halt.{Halt}
use Rattle.machine.specs.declared.progress.Halt.TheVariants.{Fault as Fault'}
use Rattle.machine.specs.Moments.{located}
use Rattle.array_values.specs.declared.storage.slots.Slot.{Slot}
use Rattle.array_values.specs.declared.storage.slots.Place.{Place}
use Rattle.array_values.specs.storage.Slots.{Finds, IsWithin, store_among, held_among}
use Rattle.array_values.proofs.storage.PlaceLaws.{store-held}
use Rattle.array_expressions.specs.declared.assignments.causes.Stuck.{Stuck}
use Rattle.array_expressions.specs.declared.assignments.causes.Stuck.TheVariants.{Halted, Memory}
use Rattle.array_expressions.specs.assignments.Causes.{AnswersAt}
use Rattle.array_expressions.specs.assignments.Placing.{IsAt, FindsAt}

module _ (vs : List Slot) (line : ℕ) (q : Result Cell Fault) where
  pub found_cell : (p : Result Place Fault) (k : Place) → Finds vs q p → Ok k ≡ located line p → (c : Cell) × (Ok c ≡ located line q) × IsAt vs c k
  found_cell p k f e = by q p f e
    where
      by : (q : Result Cell Fault) (p : Result Place Fault) → Finds vs q p → Ok k ≡ located line p → (c : Cell) × (Ok c ≡ located line q) × IsAt vs c k
      by (Ok c) (Ok j) f e = (c, refl, f ∙ ap (λ n. let o : Option Place = Some n in o) (let same : j ≡ k = cc in same))
      by (Ok c) (Err g) f e = absurd f
      by (Err g) (Ok j) f e = absurd f
      by (Err g) (Err h) f e = cc

  pub missed_cell : (p : Result Place Fault) (h : Halt) → Finds vs q p → Err h ≡ located line p → Err h ≡ located line q
  missed_cell p h f e = by q p f e
    where
      by : (q : Result Cell Fault) (p : Result Place Fault) → Finds vs q p → Err h ≡ located line p → Err h ≡ located line q
      by (Ok c) (Ok j) f e = cc
      by (Ok c) (Err g) f e = absurd f
      by (Err g) (Ok j) f e = absurd f
      by (Err g) (Err i) f e = (let same : h ≡ Fault' i line = cc in ap (λ (h : Halt). let r : Result Cell Halt = Err h in r) (same ∙ ap (λ f. Fault' f line) (sym f)))

  -- the same of a place that is found at a line
  pub cell_of : (k : Place) → FindsAt line vs q (Ok k) → (c : Cell) × (Ok c ≡ located line q) × IsAt vs c k
  cell_of k f = (f.0, sym (ap (located line) f.1), f.2)

pub within_place : (vs : List Slot) (line : ℕ) (k : Place) (q : Result Place Fault) → IfOk q (IsWithin vs) → Ok k ≡ located line q → IsWithin vs k
within_place vs line k (Ok j) h e = (let same : j ≡ k = cc in subst (IsWithin vs) same h)
within_place vs line k (Err f) h e = cc

pub held_is : (vs : List Slot) (c : Cell) (v : Value) → held_among vs c.name c.subscripts ≡ v → v ≡ (store_among vs).held c
held_is vs c v e = sym e ∙ sym (store-held vs c)

-- ---- a loop's variable

pub increased_fault : (v w : Value) (d : ℤ) (f : Fault) → v ≡ w → as_number w ≡ Err f → increased v d ≡ Err f
increased_fault v w d f h e = ap (λ v. increased v d) h ∙ ap (λ (q : Result ℤ Fault). do z ← q; exact (z +ℤ d)) e

pub increased_is : (v w : Value) (d z : ℤ) → v ≡ w → as_number w ≡ Ok z → increased v d ≡ exact (z +ℤ d)
increased_is v w d z h e = ap (λ v. increased v d) h ∙ ap (λ (q : Result ℤ Fault). do z ← q; exact (z +ℤ d)) e

-- ---- the place of an element

located_first : {A B : Type 0} (line : ℕ) (q : Result A Fault) (k : A → Result B Fault) (h : Halt) → Err h ≡ located line q → Err h ≡ located line (q >>= k)
located_first line (Ok x) k h e = cc
located_first line (Err f) k h e = (let same : h ≡ Fault' f line = cc in by same)
  where
    by : {B : Type 0} {h g : Halt} → h ≡ g → ◌≡◌ {A = Result B Halt} (Err h) (Err g)
    by e = ap (λ h. let r = Err h in r) e

located_ok : {A : Type 0} (line : ℕ) (q : Result A Fault) (x : A) → Ok x ≡ located line q → q ≡ Ok x
located_ok line (Ok y) x e = cc
located_ok line (Err f) x e = cc

module _ (width : Width) (vs : List Slot) (line : ℕ) (s : Store) (r : Ref) where
  at_reference : (q : Result Place Stuck) → FindsAt line vs (do is ← subscript_values (fortran90 width) (P.subscripts (map subscript_of (out-Ref r).subs)) s; cell_at (out-Ref r).name is s) q
      → FindsAt line vs (cell_named (fortran90 width) (reference_of r) s) q
  at_reference q h = subst (λ (p : P.Reference). FindsAt line vs (cell_named (fortran90 width) p s) q) (sym (reference_of-is r)) h

  pub numbers_stuck : (e : Stuck) → AnswersAt line (λ (is : List ℤ). is) (subscript_values (fortran90 width) (P.subscripts (map subscript_of (out-Ref r).subs)) s) (Err e) → FindsAt line vs (cell_named (fortran90 width) (reference_of r) s) (Err e)
  numbers_stuck (Halted h) a = at_reference (Err (Halted h)) (located_first line (subscript_values (fortran90 width) (P.subscripts (map subscript_of (out-Ref r).subs)) s) (λ is. cell_at (out-Ref r).name is s) h a)
  numbers_stuck Memory a = tt

  module _ (is : List ℤ) (a : AnswersAt line (λ (is : List ℤ). is) (subscript_values (fortran90 width) (P.subscripts (map subscript_of (out-Ref r).subs)) s) (Ok is)) where
    with_numbers : (q : Result Place Stuck) → FindsAt line vs (cell_at (out-Ref r).name is s) q → FindsAt line vs (cell_named (fortran90 width) (reference_of r) s) q
    with_numbers q h = at_reference q (subst (λ (p : Result (List ℤ) Fault). FindsAt line vs (do is ← p; cell_at (out-Ref r).name is s) q) (sym a) h)

    pub place_stuck : (p : Result Place Fault) (h : Halt) → Finds vs (cell_at (out-Ref r).name is s) p → Err h ≡ located line p → FindsAt line vs (cell_named (fortran90 width) (reference_of r) s) (Err (Halted h))
    place_stuck p h f e = with_numbers (Err (Halted h)) (missed_cell vs line (cell_at (out-Ref r).name is s) p h f e)

    pub place_found : (p : Result Place Fault) (k : Place) → Finds vs (cell_at (out-Ref r).name is s) p → Ok k ≡ located line p → FindsAt line vs (cell_named (fortran90 width) (reference_of r) s) (Ok k)
    place_found p k f e =
        let c = found_cell vs line (cell_at (out-Ref r).name is s) p k f e in
        with_numbers (Ok k) (c.0, located_ok line (cell_at (out-Ref r).name is s) c.0 c.1, c.2)

-- a place that isn't found answers the question for it
pub not_found : (vs : List Slot) (line : ℕ) (q : Result Cell Fault) (e : Stuck) → FindsAt line vs q (Err e) → AnswersAt line (λ (c : Cell). c) q (Err e)
not_found vs line q (Halted h) f = f
not_found vs line q Memory f = tt
