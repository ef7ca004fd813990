-- Symbols of a nest that was found are declared as INTEGER scalars, and a store that holds the program gives them values.
use Rattle.std.proofs.Common.{◌≡◌, refl, sym, ap, ◌∙◌, subst, ℕ, zero, suc, ◌+◌, ◌≤◌, ◌^◌, ℤ, pos, Bool, true, false, cond, not}
use Rattle.std.proofs.Common.{◌&&◌, List, [], ◌∷◌, map, filter, length, Option, Some, None, IfSome, Contains, arith}
use Rattle.std.specs.List.{list_any}
use Rattle.std.specs.Prelude.{nat_abs}
use Rattle.std.specs.Str.{bytes_eq}
use Rattle.meaning.specs.Dialect.{Dialect}
use Rattle.meaning.specs.Holding.{HasBounds, HoldsProgram, IsStorable}
use Rattle.meaning.specs.Names.{IsInByteOrder}
use Rattle.meaning.specs.Store.{Store}
use Rattle.meaning.specs.Typed.{declared}
use Rattle.rewrite.specs.Names.{names_written_in}
use Rattle.tree.specs.OperationFaults.{kind_of}
use Rattle.tree.specs.Plain.{Block, Declaration, Extent, Given, Later, Program}
use Rattle.tree.specs.declared.ops.Kind.{Kind}
use Rattle.tree.specs.declared.ops.Kind.TheVariants.{Integer, Logical}
use Rattle.tree.specs.declared.ops.Value.{Value}
use Rattle.tree.specs.declared.ops.Value.TheVariants.{Int, Truth}
use Rattle.linear_forms.specs.Laws.{HoldsSized}
use Rattle.linear_forms.specs.Linear.{HaveValues}
use Rattle.linear_forms.proofs.Sizes.{both}
use Rattle.nest_reasons.specs.Symbols.{is_integer, is_integer_scalar, is_scalar_extent, is_symbol, symbols_of}
use Rattle.nest_order.specs.runs.Guarded.{variable_cell}
use Rattle.nest_order.specs.runs.Touched.{nth_of}
use Rattle.last_values.specs.normal_forms.Numbers.{values_from}
use Rattle.meaning_laws.proofs.profiles.Lists.{here, there}
use Rattle.meaning_laws.proofs.profiles.Names.{names, once}
use Rattle.pass_laws.specs.prepared_nests.Made.{AreOf64Bits}

-- ---- declarations

pub record IsNumber (ds : List Declaration) (x : List ℕ) : Type 0 where
  pub declaration : Declaration
  pub is : declared ds x ≡ Some declaration
  pub kind : declaration.kind ≡ Integer
  pub extent : declaration.extent ≡ Given []

module _ (ds : List Declaration) (ordered : IsInByteOrder (names ds)) where
  integer_kind : (k : Kind) → is_integer k ≡ true → k ≡ Integer
  integer_kind Integer h = refl
  integer_kind Logical h = let no : ⊥ = cc in absurd no

  scalar_extent : (e : Extent) → is_scalar_extent e ≡ true → e ≡ Given []
  scalar_extent (Given []) h = refl
  scalar_extent (Given (b ∷ bs)) h = let no : ⊥ = cc in absurd no
  scalar_extent (Later n) h = let no : ⊥ = cc in absurd no

  number_is : (d : Declaration) → Contains ds d → is_integer_scalar d ≡ true → IsNumber ds d.name
  number_is d among h =
      let b = both (is_integer d.kind) (is_scalar_extent d.extent) h in
      record { declaration = d; is = once ds d ordered among; kind = integer_kind d.kind b.0; extent = scalar_extent d.extent b.1 }

  among_symbols : (x : List ℕ) (written : List (List ℕ)) (cs : List Declaration) → ((d : Declaration) → Contains cs d → Contains ds d)
      → (k : ℕ) (y : List ℕ) → nth_of (map (λ (d : Declaration). d.name) (filter (is_symbol x written) cs)) k ≡ Some y → IsNumber ds y
  among_symbols x written [] sub k y e = let no : ⊥ = cc in absurd no
  among_symbols x written (c ∷ cs) sub k y e = by (is_symbol x written c) refl k e (λ j f. among_symbols x written cs (λ d i. sub d (there c cs d i)) j y f)
    where
      by : (b : Bool) → is_symbol x written c ≡ b → (j : ℕ)
          → nth_of (map (λ (d : Declaration). d.name) (cond b (c ∷ filter (is_symbol x written) cs) (filter (is_symbol x written) cs))) j ≡ Some y
          → ((i : ℕ) → nth_of (map (λ (d : Declaration). d.name) (filter (is_symbol x written) cs)) i ≡ Some y → IsNumber ds y) → IsNumber ds y
      by true s zero f later =
          let same : c.name ≡ y = cc in
          subst (IsNumber ds) same (number_is c (sub c (here c cs)) (both (is_integer_scalar c) (not (bytes_eq c.name x) && not (list_any (bytes_eq c.name) written)) s).0)
      by true s (suc j) f later = later j f
      by false s j f later = later j f

  pub symbol_is_number : (x : List ℕ) (body : Block) (k : ℕ) (y : List ℕ) → nth_of (symbols_of ds x body) k ≡ Some y → IsNumber ds y
  symbol_is_number x body k y e = among_symbols x (names_written_in body) ds (λ d i. i) k y e

-- ---- values

abbrev as_int : Value → ℤ
as_int (Int z) = z
as_int (Truth b) = pos 0

abbrev value_at : Option (List ℕ) → Store → ℤ
value_at None s = pos 0
value_at (Some x) s = as_int (s.held (variable_cell x))

-- the number that the k-th of these names holds
abbrev pub values_in : List (List ℕ) → Store → ℕ → ℤ
values_in ys s k = value_at (nth_of ys k) s

pub record HoldsNumber (s : Store) (x : List ℕ) (z : ℤ) : Type 0 where
  pub bounds : s.bounds x ≡ Some []
  pub held : s.held (variable_cell x) ≡ Int z

integer_value : (v : Value) → kind_of v ≡ Integer → v ≡ Int (as_int v)
integer_value (Int z) e = refl
integer_value (Truth b) e = absurd (other e)
  where
    other : ◌≡◌ {A = Kind} Logical Integer → ⊥
    other e = cc

given_bounds : (e : Extent) (b : Option (List (ℤ × ℤ))) → e ≡ Given [] → HasBounds e b → b ≡ Some []
given_bounds e b same h = subst (λ x. HasBounds x b) same h

-- a name that is declared as a number has one in a store that holds the program
pub holds_number : (lang : Dialect) (p : Program) (s : Store) (x : List ℕ) → HoldsProgram lang p s → IsNumber p.declarations x
    → HoldsNumber s x (as_int (s.held (variable_cell x)))
holds_number lang p s x h d =
    let bounds = subst (λ o. IfSome o (λ (e : Declaration). HasBounds e.extent (s.bounds x))) d.is (h.bounds x) in
    let value = subst (λ o. IfSome o (λ (e : Declaration). IsStorable lang e.kind (s.held (variable_cell x)))) d.is (h.kinds (variable_cell x)) in
    record { bounds = given_bounds d.declaration.extent (s.bounds x) d.extent bounds; held = integer_value (s.held (variable_cell x)) (value.kind ∙ d.kind) }

pub value_there : (ys : List (List ℕ)) (s : Store) (k : ℕ) (x : List ℕ) → nth_of ys k ≡ Some x
    → HoldsNumber s x (as_int (s.held (variable_cell x))) → HoldsNumber s x (values_in ys s k)
value_there ys s k x e h = record { bounds = h.bounds; held = h.held ∙ ap (λ o. Int (value_at o s)) (sym e) }

-- they are of 64 bits where all numbers of the store are
pub values_sized : (ys : List (List ℕ)) (s : Store) → HoldsSized s → AreOf64Bits (values_in ys s)
values_sized ys s sized k = by (nth_of ys k)
  where
    least : 0 ≤ 2 ^ 63
    least = let e : 0 ≤ 9223372036854775808 = omega arith in e

    value : (x : List ℕ) (v : Value) → s.held (variable_cell x) ≡ v → nat_abs (as_int v) ≤ 2 ^ 63
    value x (Int z) e = sized (variable_cell x) z e
    value x (Truth b) e = least

    by : (o : Option (List ℕ)) → nat_abs (value_at o s) ≤ 2 ^ 63
    by None = least
    by (Some x) = value x (s.held (variable_cell x)) refl

have : (ys : List (List ℕ)) (j : ℕ) (values : ℕ → ℤ) (s : Store) → ((k : ℕ) (x : List ℕ) → nth_of ys k ≡ Some x → HoldsNumber s x (values (j + k))) → HaveValues ys s (values_from (length ys) j values)
have [] j values s h = tt
have (y ∷ ys) j values s h =
    let a = h 0 y refl in (
      a.bounds,
      a.held ∙ ap (λ i. Int (values i)) (let e : j + 0 ≡ j = omega arith in e),
      have ys (j + 1) values s (λ k x e. subst (λ i. HoldsNumber s x (values i)) (let f : j + suc k ≡ (j + 1) + k = omega arith in f) (h (suc k) x e)),
    )

pub have_values : (ys : List (List ℕ)) (values : ℕ → ℤ) (s : Store) → ((k : ℕ) (x : List ℕ) → nth_of ys k ≡ Some x → HoldsNumber s x (values k)) → HaveValues ys s (values_from (length ys) 0 values)
have_values ys values s h = have ys 0 values s (λ k x e. subst (λ i. HoldsNumber s x (values i)) (let f : k ≡ 0 + k = omega arith in f) (h k x e))
