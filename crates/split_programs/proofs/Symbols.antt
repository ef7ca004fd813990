-- The symbols of a loop are INTEGER scalars, and have numbers of 64 bits in each store that holds the program.
use Rattle.std.proofs.Common.{◌≡◌, refl, sym, subst, inl, inr, ℕ, suc, ◌^◌, ◌≤◌, ◌<◌, ℤ, pos, negsuc, true, false, List, [], ◌∷◌, length, Some, IfSome, arith}
use Rattle.std.specs.Prelude.{nat_abs}
use Rattle.std.specs.Str.{bytes_eq}
use Rattle.std.proofs.Math.Nat.{pow-le-pow_right}
use Rattle.std.proofs.lemmas.Bool.Decides.{Decides-ltb}
use Rattle.std.proofs.lemmas.Slice.Eq.{bytes_eq-Decides}
use Rattle.components.specs.Lists.{Each}
use Rattle.last_values.specs.normal_forms.Numbers.{values_from}
use Rattle.linear_forms.specs.Laws.{AreSized}
use Rattle.linear_forms.specs.Linear.{HaveValues}
use Rattle.meaning.specs.Dialect.{Dialect}
use Rattle.meaning.specs.Holding.{HoldsProgram, IsStorable}
use Rattle.meaning.specs.Profile77.{AreDeclarations}
use Rattle.meaning.specs.Store.{Store}
use Rattle.meaning.specs.Value.{is_in_range}
use Rattle.nest.specs.statement_loops.Names.{is_among}
use Rattle.nest_order.specs.orders.Lists.{In}
use Rattle.nest_order.specs.runs.Guarded.{variable_cell}
use Rattle.nest_order.specs.runs.Touched.{nth_of}
use Rattle.nest_reasons.specs.Symbols.{symbols_of}
use Rattle.pass_laws.proofs.FoundSources.Lists.{clash}
use Rattle.pass_laws.proofs.NestLoops.Exits.{neither}
use Rattle.pass_laws.proofs.PreparedRuns.Symbols.{IsNumber, have_values, holds_number, symbol_is_number, value_there, values_in}
use Rattle.tree.specs.Operators.{fits}
use Rattle.tree.specs.Plain.{Block, Declaration, Program}
use Rattle.tree.specs.declared.ops.Value.{Value}
use Rattle.tree.specs.declared.ops.Value.TheVariants.{Int}

-- ---- names that aren't among others

pub not_in : (ys : List (List ℕ)) (x : List ℕ) → is_among ys x ≡ false → In x ys → ⊥
not_in [] x h i = i
not_in (y ∷ ys) x h (inl e) = clash (bytes_eq y x) ((bytes_eq-Decides y x).1 (sym e)) (neither (bytes_eq y x) (is_among ys x) h).0
not_in (y ∷ ys) x h (inr i) = not_in ys x (neither (bytes_eq y x) (is_among ys x) h).1 i

-- ---- declarations

from_places : {X : Type 0} (P : X → Type 0) (xs : List X) → ((k : ℕ) (x : X) → nth_of xs k ≡ Some x → P x) → Each P xs
from_places P [] f = tt
from_places P (x ∷ xs) f = (f 0 x refl, from_places P xs (λ k y e. f (suc k) y e))

pub symbols_are_numbers : (own : Dialect) (ds : List Declaration) → AreDeclarations own ds → (x : List ℕ) (body : Block) → Each (IsNumber ds) (symbols_of ds x body)
symbols_are_numbers own ds are x body = from_places (IsNumber ds) (symbols_of ds x body) (λ k y e. symbol_is_number ds are.ordered x body k y e)

-- ---- numbers

range_size : (bits : ℕ) (z : ℤ) → bits ≤ 63 → fits bits z ≡ true → nat_abs z ≤ 2 ^ 63
range_size bits (pos n) few h =
    let less : n < 2 ^ bits = (Decides-ltb n (2 ^ bits)).0 h in
    let most : 2 ^ bits ≤ 2 ^ 63 = pow-le-pow_right {n = 2} (omega arith) few in
    omega (arith, less, most)
range_size bits (negsuc n) few h =
    let less : n < 2 ^ bits = (Decides-ltb n (2 ^ bits)).0 h in
    let most : 2 ^ bits ≤ 2 ^ 63 = pow-le-pow_right {n = 2} (omega arith) few in
    omega (arith, less, most)

module _ (lang : Dialect) (few : lang.bits ≤ 63) (p : Program) (s : Store) (holds : HoldsProgram lang p s) where
  number_size : (y : List ℕ) (z : ℤ) → IsNumber p.declarations y → s.held (variable_cell y) ≡ Int z → nat_abs z ≤ 2 ^ 63
  number_size y z d e =
      let value = subst (λ o. IfSome o (λ (e : Declaration). IsStorable lang e.kind (s.held (variable_cell y)))) d.is (holds.kinds (variable_cell y)) in
      range_size lang.bits z few (subst (λ (v : Value). is_in_range lang.bits v ≡ true) e value.within)

  sized : (ys : List (List ℕ)) (zs : List ℤ) → Each (IsNumber p.declarations) ys → HaveValues ys s zs → AreSized zs
  sized [] [] f h = tt
  sized [] (z ∷ zs) f h = absurd h
  sized (y ∷ ys) [] f h = absurd h
  sized (y ∷ ys) (z ∷ zs) f h = (number_size y z f.0 h.1, sized ys zs f.1 h.2)

  module _ (own : Dialect) (are : AreDeclarations own p.declarations) (x : List ℕ) (body : Block) where
    -- the number that each symbol holds
    abbrev pub numbers : ℕ → ℤ
    numbers = values_in (symbols_of p.declarations x body) s

    abbrev pub values : List ℤ
    values = values_from (length (symbols_of p.declarations x body)) 0 (values_in (symbols_of p.declarations x body) s)

    pub known : HaveValues (symbols_of p.declarations x body) s values
    known =
        have_values (symbols_of p.declarations x body) numbers s
        (λ k y e. value_there (symbols_of p.declarations x body) s k y e (holds_number lang p s y holds (symbol_is_number p.declarations are.ordered x body k y e)))

    pub values_sized : AreSized values
    values_sized = sized (symbols_of p.declarations x body) values (symbols_are_numbers own p.declarations are x body) known
