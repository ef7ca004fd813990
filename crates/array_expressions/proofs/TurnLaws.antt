-- The turns of a constructor's loops.
use Rattle.std.proofs.Common.{◌≡◌, refl, sym, ap, ◌∙◌, subst, zero, suc, ℕ, ℤ, pos, negsuc, ◌+ℤ◌, ◌-ℤ◌, ◌≤ℤ◌, ◌<ℤ◌, ◌+◌, Bool, true, false, cond, List, [], ◌∷◌, ◌++◌, map, Result, Ok, Err, arith, append_assoc}
use Rattle.std.proofs.lemmas.List.{map-append, append-nil}
use Rattle.std.proofs.lemmas.Int.{ints}
use Rattle.tree.specs.Steps.{◌>>=◌}
use Rattle.tree.specs.Operators.{fits}
use Rattle.tree.specs.Plain as P
use Rattle.tree.specs.View.{expression_of, loop_of, constructor_loops, ConstructorLoop}
use Rattle.tree.specs.declared.ops.Value.{Value}
use Rattle.tree.specs.declared.ops.Value.TheVariants.{Int}
use Rattle.tree.specs.declared.ops.Fault.{Fault}
use Rattle.tree.specs.declared.ops.Fault.TheVariants.{Overflow}
use Rattle.meaning.specs.ArrayValues.{each}
use Rattle.meaning.specs.Dialect.{fortran90}
use Rattle.tree.specs.declared.width.Width.{Width}
use Rattle.meaning.specs.Sections.{not_negative}
use Rattle.meaning.specs.Store.{Store, numbers_from}
use Rattle.meaning.specs.Value.{for_numbers, bound_to, joined_values, under, values_of}
use Rattle.array_expressions.specs.Scopes.{number_at, constructed}
use Rattle.tree.specs.Widths.{bits_of}

abbrev Run : Type 0
Run = Store → Result (List Value) Fault

-- the outermost loop first
under_last : (width : Width) (ls : List ConstructorLoop) (l : ConstructorLoop) (f : Run) (s : Store)
    → under (fortran90 width) (constructor_loops (ls ++ l ∷ [])) f s ≡ (do a ← number_at width l.first s; b ← number_at width l.last s; for_numbers (bits_of width) l.variable a b (under (fortran90 width) (constructor_loops ls) f) s)
under_last width [] l f s = refl
under_last width (m ∷ ls) l f s = under_last width ls l (λ t. (do a ← number_at width m.first t; b ← number_at width m.last t; for_numbers (bits_of width) m.variable a b f t)) s

pub outer_first : (width : Width) (es : P.Expressions) (ls : List ConstructorLoop) (l : ConstructorLoop) (s : Store)
    → constructed width es (constructor_loops (ls ++ l ∷ [])) s ≡ (do a ← number_at width l.first s; b ← number_at width l.last s; for_numbers (bits_of width) l.variable a b (λ t. constructed width es (constructor_loops ls) t) s)
outer_first width es ls l s = under_last width ls l (λ t. values_of (fortran90 width) es t) s

-- ---- one turn after the other

module _ (width : Width) (x : List ℕ) (f : Run) (s : Store) where
  turn : ℤ → Result (List Value) Fault
  turn z = cond (fits (bits_of width) z) (f (bound_to x z s)) (Err Overflow)

  joined_more : (z : ℤ) (zs : List ℤ) (vs : List Value) → turn z ≡ Ok vs
      → ◌≡◌ {A = Result (List Value) Fault} (do vss ← each (λ z. cond (fits (bits_of width) z) (f (bound_to x z s)) (Err Overflow)) (z ∷ zs); Ok (joined_values vss)) (do more ← (do vss ← each (λ z. cond (fits (bits_of width) z) (f (bound_to x z s)) (Err Overflow)) zs; Ok (joined_values vss)); Ok (vs ++ more))
  unfolding turn
  joined_more z zs vs e =
      ap (λ (q : Result (List Value) Fault). do vss ← (do v ← q; vs ← each (λ z. cond (fits (bits_of width) z) (f (bound_to x z s)) (Err Overflow)) zs; Ok (v ∷ vs)); Ok (joined_values vss)) e
      ∙ by (each (λ z. cond (fits (bits_of width) z) (f (bound_to x z s)) (Err Overflow)) zs)
    where
      by : (q : Result (List (List Value)) Fault) → ◌≡◌ {A = Result (List Value) Fault} (do vss ← (do vs' ← q; Ok (vs ∷ vs')); Ok (joined_values vss)) (do more ← (do vss ← q; Ok (joined_values vss)); Ok (vs ++ more))
      by (Ok vss) = refl
      by (Err g) = refl

  joined_fault : (z : ℤ) (zs : List ℤ) (g : Fault) → turn z ≡ Err g → ◌≡◌ {A = Result (List Value) Fault} (do vss ← each (λ z. cond (fits (bits_of width) z) (f (bound_to x z s)) (Err Overflow)) (z ∷ zs); Ok (joined_values vss)) (Err g)
  unfolding turn
  joined_fault z zs g e = ap (λ (q : Result (List Value) Fault). do vss ← (do v ← q; vs ← each (λ z. cond (fits (bits_of width) z) (f (bound_to x z s)) (Err Overflow)) zs; Ok (v ∷ vs)); Ok (joined_values vss)) e

  pub count_more : (z u : ℤ) → z ≤ℤ u → not_negative (u -ℤ z +ℤ pos 1) ≡ suc (not_negative (u -ℤ (z +ℤ pos 1) +ℤ pos 1))
  count_more z u l = by (u -ℤ z +ℤ pos 1) (u -ℤ (z +ℤ pos 1) +ℤ pos 1) (omega (arith, ints)) (omega (arith, ints))
    where
      by : (n m : ℤ) → n ≡ m +ℤ pos 1 → pos 0 ≤ℤ m → not_negative n ≡ suc (not_negative m)
      by n (pos m) e l = ap not_negative (e ∙ (let same : pos m +ℤ pos 1 ≡ pos (suc m) = omega (arith, ints) in same))
      by n (negsuc m) e l = absurd (omega (arith, ints))

  count_none : (z u : ℤ) → u <ℤ z → not_negative (u -ℤ z +ℤ pos 1) ≡ 0
  count_none z u l = by (u -ℤ z +ℤ pos 1) (omega (arith, ints))
    where
      by : (n : ℤ) → n ≤ℤ pos 0 → not_negative n ≡ 0
      by (pos n) l = omega (arith, ints)
      by (negsuc n) l = refl

  pub turn_more : (z u : ℤ) (vs : List Value) → z ≤ℤ u → fits (bits_of width) z ≡ true → f (bound_to x z s) ≡ Ok vs
      → for_numbers (bits_of width) x z u f s ≡ (do more ← for_numbers (bits_of width) x (z +ℤ pos 1) u f s; Ok (vs ++ more))
  unfolding turn
  turn_more z u vs l t e =
      ap (λ n. do vss ← each (λ z. cond (fits (bits_of width) z) (f (bound_to x z s)) (Err Overflow)) (numbers_from z n); Ok (joined_values vss)) (count_more z u l)
      ∙ joined_more z (numbers_from (z +ℤ pos 1) (not_negative (u -ℤ (z +ℤ pos 1) +ℤ pos 1))) vs (ap (λ t. cond t (f (bound_to x z s)) (Err Overflow)) t ∙ e)

  pub turn_fault : (z u : ℤ) (g : Fault) → z ≤ℤ u → fits (bits_of width) z ≡ true → f (bound_to x z s) ≡ Err g → for_numbers (bits_of width) x z u f s ≡ Err g
  unfolding turn
  turn_fault z u g l t e =
      ap (λ n. do vss ← each (λ z. cond (fits (bits_of width) z) (f (bound_to x z s)) (Err Overflow)) (numbers_from z n); Ok (joined_values vss)) (count_more z u l)
      ∙ joined_fault z (numbers_from (z +ℤ pos 1) (not_negative (u -ℤ (z +ℤ pos 1) +ℤ pos 1))) g (ap (λ t. cond t (f (bound_to x z s)) (Err Overflow)) t ∙ e)

  pub turn_past : (z u : ℤ) → z ≤ℤ u → fits (bits_of width) z ≡ false → for_numbers (bits_of width) x z u f s ≡ Err Overflow
  unfolding turn
  turn_past z u l t =
      ap (λ n. do vss ← each (λ z. cond (fits (bits_of width) z) (f (bound_to x z s)) (Err Overflow)) (numbers_from z n); Ok (joined_values vss)) (count_more z u l)
      ∙ joined_fault z (numbers_from (z +ℤ pos 1) (not_negative (u -ℤ (z +ℤ pos 1) +ℤ pos 1))) Overflow (ap (λ t. cond t (f (bound_to x z s)) (Err Overflow)) t)

  pub turn_none : (z u : ℤ) → u <ℤ z → for_numbers (bits_of width) x z u f s ≡ Ok []
  turn_none z u l = ap (λ n. do vss ← each (λ z. cond (fits (bits_of width) z) (f (bound_to x z s)) (Err Overflow)) (numbers_from z n); Ok (joined_values vss)) (count_none z u l)
