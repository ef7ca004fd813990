-- An increment that is a suitable constant is the number that it stands for: the statements with such numbers do the same.
use Rattle.std.proofs.Common.{◌≡◌, refl, sym, ap, ap₂, ◌∙◌, ℕ, suc, ◌<◌, ◌≤◌, ◌^◌, nat_lt, nat_le, nat_abs, ℤ, pos, negsuc, Bool, true, false, not, ◌&&◌, cond, List, [], ◌∷◌, ◌++◌, Result, Ok, Err, Option, Some, None, arith}
use Rattle.std.specs.Ordering.{int_eq}
use Rattle.std.proofs.lemmas.Bool.Decides.{Decides-ltb}
use mathlib.Core.Path.{fun_ext}
use Rattle.tree.specs.Operators.{fits, as_number}
use Rattle.tree.specs.Steps.{◌>>=◌}
use Rattle.tree.specs.Plain.{Expression, Statement, Assignment, Where, If, Do, Label, GoTo, Stop, Read, Print, Allocate, Deallocate, Arms, no_arms, arm, Block, no_statements, statement}
use Rattle.tree.specs.declared.ops.Fault.{Fault}
use Rattle.tree.specs.declared.ops.Fault.TheVariants.{Overflow, ZeroStep}
use Rattle.tree.specs.declared.ops.Value.{Value}
use Rattle.tree.specs.declared.ops.Value.TheVariants.{Int, Truth}
use Rattle.meaning.specs.Dialect.{Dialect, fortran77}
use Rattle.tree.specs.declared.width.Width.TheVariants.{Plain}
use Rattle.meaning.specs.Run.{Act, then, either, repeated, evaluates, counts_step, sets_variable, turn, does, chooses, does_all}
use Rattle.meaning.specs.Store.{Store}
use Rattle.meaning.specs.Value.{value_of, number_of, truth_of, increment_of, trip_count}
use Rattle.linear_forms.specs.Linear.{constant_of, as_constant, known, no_store}
use Rattle.linear_forms.proofs.Storeless.{storeless}
use Rattle.nest_reasons.specs.declared.flaws.Flaw.TheVariants.{Step}
use Rattle.nest_reasons.specs.Increments.{is_suitable_increment, suitable, suitable_or_none, step_of}
use Rattle.nest_reasons.specs.Loops.{has_flaw}
use Rattle.nest_reasons.specs.Walks.{any_loop, any_in_arms, any_in_block}
use Rattle.nest.specs.Blocks.{numeral}
use Rattle.find_nests.specs.nest_parts.Statements.{step_or_zero}
use Rattle.pass_laws.specs.nest_sources.Sources.{with_numbers, arms_with_numbers, block_with_numbers}
use Rattle.pass_laws.proofs.NestLoops.Exits.{neither}

-- ---- numbers

-- an increment that is this number
record IsConstant (e : Expression) (z : ℤ) : Type 0 where
  value : value_of (fortran77 Plain) e no_store ≡ Ok (Int z)
  small : nat_abs z ≤ 2 ^ 31

from_value : (e : Expression) (z : ℤ) (r : Result Value Fault) → value_of (fortran77 Plain) e no_store ≡ r → as_constant (known r) ≡ Some z → value_of (fortran77 Plain) e no_store ≡ Ok (Int z)
from_value e z (Ok (Int y)) is h = let same : y ≡ z = cc in is ∙ ap (λ x. Ok (Int x)) same
from_value e z (Ok (Truth b)) is h = let no : ⊥ = cc in absurd no
from_value e z (Err f) is h = let no : ⊥ = cc in absurd no

small_size : (z : ℤ) → is_suitable_increment z ≡ true → nat_abs z ≤ 2 ^ 31
small_size z h = by (not (int_eq z (pos 0))) (nat_le (nat_abs z) (2 ^ 31)) refl h
  where
    by : (a b : Bool) → nat_le (nat_abs z) (2 ^ 31) ≡ b → (a && b) ≡ true → nat_abs z ≤ 2 ^ 31
    by true true e h = grind arith
    by true false e h = let no : ⊥ = cc in absurd no
    by false b e h = let no : ⊥ = cc in absurd no

constant : (e : Expression) (z : ℤ) → step_of e ≡ Some z → IsConstant e z
constant e z h = by (constant_of e) refl h
  where
    at : (y : ℤ) (b : Bool) → constant_of e ≡ Some y → is_suitable_increment y ≡ b → cond b (Some y) None ≡ Some z → IsConstant e z
    at y true is s h =
        let same : y ≡ z = cc in
        record { value = from_value e z (value_of (fortran77 Plain) e no_store) refl (is ∙ ap Some same); small = small_size z (sym (ap is_suitable_increment same) ∙ s) }
    at y false is s h = let no : ⊥ = cc in absurd no

    by : (o : Option ℤ) → constant_of e ≡ o → suitable_or_none o ≡ Some z → IsConstant e z
    by None is h = let no : ⊥ = cc in absurd no
    by (Some y) is h = at y (is_suitable_increment y) is refl h

module _ (lang : Dialect) where
  -- a numeral has its number in each store
  numeral_value : (z : ℤ) (s : Store) → nat_abs z ≤ 2 ^ 31 → value_of lang (numeral z) s ≡ Ok (Int z)
  numeral_value (pos n) s h = refl
  numeral_value (negsuc n) s h =
      let fit : nat_lt n (2 ^ 127) ≡ true = (Decides-ltb n (2 ^ 127)).1 (omega (arith, h)) in
      ap (λ b. cond b (Ok (Int (negsuc n))) (Err Overflow)) fit

  same_value : (e : Expression) (s : Store) (o : Option ℤ) → step_of e ≡ o → (not (elim o [ Some z ↦ true | None ↦ false ])) ≡ false
      → value_of lang e s ≡ value_of lang (numeral (step_or_zero o)) s
  same_value e s None is h = let no : ⊥ = cc in absurd no
  same_value e s (Some z) is h = let c = constant e z is in storeless lang s e (Int z) c.value ∙ sym (numeral_value z s c.small)

  -- so has the increment
  abbrev as_increment : Result Value Fault → Result ℤ Fault
  as_increment r = do
    z ← (do x ← r; as_number x)
    cond (int_eq z (pos 0)) (Err ZeroStep) (Ok z)

  same_increment : (symbols around : List (List ℕ)) (first last e : Expression) (body : Block) → has_flaw Step symbols around first last e body ≡ false
      → increment_of lang e ≡ increment_of lang (numeral (step_or_zero (step_of e)))
  same_increment symbols around first last e body h = fun_ext (λ s. ap as_increment (same_value e s (step_of e) refl h))

  -- ---- statements

  module _ (limit : Option ℕ) where
    -- a loop by what its increment gives
    abbrev looping : ℕ → List ℕ → Expression → Expression → (Store → Result ℤ Fault) → Act → Act
    looping line x first last third body =
        evaluates line (number_of lang first) (λ m1. evaluates line (number_of lang last) (λ m2. evaluates line third (λ m3.
        then (sets_variable lang limit line x m1) (evaluates line (λ s. trip_count m1 m2 m3) (λ n. repeated n (turn lang limit line x m3 body))))))

    abbrev choosing : ℕ → Expression → Act → Act → Act
    choosing line test f g = counts_step lang limit (evaluates line (truth_of lang test) (λ b. either b f g))

    module _ (symbols : List (List ℕ)) where
      mutual
        pub same_does : (c : Statement) (around : List (List ℕ)) → any_loop (has_flaw Step symbols) around c ≡ false → does lang limit c ≡ does lang limit (with_numbers c)
        same_does (Assignment line mark left right) around h = refl
        same_does (Where line mark mask left right) around h = refl
        same_does (If line arms other) around h =
            let hs = neither (any_in_arms (has_flaw Step symbols) around arms) (any_in_block (has_flaw Step symbols) around other) h in
            same_chooses line arms around (does_all lang limit other) (does_all lang limit (block_with_numbers other)) hs.0 (same_does_all other around hs.1)
        same_does (Do line x a b c body) around h =
            let hs = neither (has_flaw Step symbols around a b c body) (any_in_block (has_flaw Step symbols) (around ++ x ∷ []) body) h in
            ap₂ (looping line x a b) (same_increment symbols around a b c body hs.0) (same_does_all body (around ++ x ∷ []) hs.1)
        same_does (Label n) around h = refl
        same_does (GoTo line n) around h = refl
        same_does (Stop line) around h = refl
        same_does (Read line is) around h = refl
        same_does (Print line is) around h = refl
        same_does (Allocate line x es) around h = refl
        same_does (Deallocate line x) around h = refl

        same_chooses : (line : ℕ) (arms : Arms) (around : List (List ℕ)) (f g : Act) → any_in_arms (has_flaw Step symbols) around arms ≡ false → f ≡ g
            → chooses lang limit line arms f ≡ chooses lang limit line (arms_with_numbers arms) g
        same_chooses line no_arms around f g h e = e
        same_chooses line (arm test body arms) around f g h e =
            let hs = neither (any_in_block (has_flaw Step symbols) around body) (any_in_arms (has_flaw Step symbols) around arms) h in
            ap₂ (choosing line test) (same_does_all body around hs.0) (same_chooses line arms around f g hs.1 e)

        same_does_all : (cs : Block) (around : List (List ℕ)) → any_in_block (has_flaw Step symbols) around cs ≡ false → does_all lang limit cs ≡ does_all lang limit (block_with_numbers cs)
        same_does_all no_statements around h = refl
        same_does_all (statement c cs) around h =
            let hs = neither (any_loop (has_flaw Step symbols) around c) (any_in_block (has_flaw Step symbols) around cs) h in
            ap₂ then (same_does c around hs.0) (same_does_all cs around hs.1)
