-- Sums of multiples of linear forms, coefficient by coefficient. The places of a form are seven loops, from the outside
-- in, the symbols, and behind them divided trips, each of which counts as one further symbol.
use Rattle.std.specs.Prelude.{Option, Some, None, ℕ, zero, suc, ◌+◌, ◌==◌, ℤ, pos, ◌+ℤ◌, ◌*ℤ◌, Bool}
use Rattle.std.specs.Prelude.{if◌then◌else◌, List, [], ◌∷◌, take, drop, replicate, slice_index_or}
use Rattle.std.specs.List.{list_all}
use Rattle.linear_forms.specs.Linear.{Form, is_small}
use Rattle.linear_forms.specs.Pushing.{small_or_none, pushed, then_pushed}
use Rattle.linear_forms.specs.Places.{padded, terms_from}
use Rattle.linear_forms.specs.declared.terms.Terms.{Terms}
use Rattle.subscripts.specs.declared.affine.Affine.{Affine}
use Rattle.last_values.specs.declared.normal_forms.places.Place.{Place}
use Rattle.last_values.specs.declared.normal_forms.places.Place.TheVariants.{Loop, Symbol, Constant}
use Rattle.last_values.specs.declared.normal_forms.combinations.Multiple.{Multiple}

-- the coefficient of a symbol, 0 where it doesn't stand among the terms
abbrev pub coefficient_in : List (ℕ × ℤ) → ℕ → ℤ
coefficient_in [] j = pos 0
coefficient_in (t ∷ ts) j = if t.0 == j then t.1 else coefficient_in ts j

-- the number at a place of a form
abbrev pub number_of_place : Affine → Place → ℤ
number_of_place a (Loop k) = slice_index_or a.loops k (pos 0)
number_of_place a (Symbol j) = coefficient_in a.syms j
number_of_place a Constant = a.constant

abbrev pub combined_at : List Multiple → Place → ℤ
combined_at [] p = pos 0
combined_at (t ∷ ts) p = t.times *ℤ number_of_place t.form p +ℤ combined_at ts p

-- ---- within the limits: numbers of size up to 2^40, and at most 8 symbols

abbrev pub with_number : Option ℤ → Option (List ℤ) → Option (List ℤ)
with_number None zs = None
with_number (Some z) None = None
with_number (Some z) (Some zs) = Some (z ∷ zs)

abbrev pub all_within : List ℤ → Option (List ℤ)
all_within [] = Some []
all_within (z ∷ zs) = with_number (small_or_none z) (all_within zs)

-- a number for each of the seven loops
abbrev pub seven : (ℕ → ℤ) → List ℤ
seven f = f 0 ∷ f 1 ∷ f 2 ∷ f 3 ∷ f 4 ∷ f 5 ∷ f 6 ∷ []

abbrev pub no_terms : Terms
no_terms = record { at = replicate 8 (0, pos 0); used = 0 }

-- n symbols from the place j on, behind the terms so far
abbrev pub with_symbol_terms : (ℕ → ℤ) → ℕ → ℕ → Terms → Option Terms
with_symbol_terms f zero j t = Some t
with_symbol_terms f (suc n) j t = then_pushed (pushed j (f j) t) (with_symbol_terms f n (j + 1))

abbrev pub form_with : Option (List ℤ) → Option Terms → Option ℤ → Option Affine
form_with (Some ls) (Some t) (Some z) = Some (record { loops = ls; syms = t.at; constant = z })
form_with (Some ls) (Some t) None = None
form_with (Some ls) None z = None
form_with None t z = None

abbrev pub has_small_factor : Multiple → Bool
has_small_factor t = is_small t.times

-- The sum of these multiples, whose factors are within the limit too, where n places are those of symbols and divided
-- trips. It is exact: it alone is held against the limits, and no sum on the way to it
unfoldable pub combination : ℕ → List Multiple → Option Affine
combination n ts =
    if list_all has_small_factor ts
    then form_with (all_within (seven (λ k. combined_at ts (Loop k))))
    (with_symbol_terms (λ j. combined_at ts (Symbol j)) n 0 no_terms) (small_or_none (combined_at ts Constant))
    else None

-- ---- forms of expressions

-- a linear form over n loops and symbols
abbrev pub affine_of : ℕ → Form → Affine
affine_of n f = record {
  loops = take n f.coefficients;
  syms = padded (terms_from 0 (drop n f.coefficients));
  constant = f.constant;
}

abbrev pub zero_loops : List ℤ
zero_loops = replicate 7 (pos 0)

abbrev pub no_symbols : List (ℕ × ℤ)
no_symbols = replicate 8 (0, pos 0)

abbrev pub number_form : ℤ → Affine
number_form z = record { loops = zero_loops; syms = no_symbols; constant = z }

-- a form's symbols and constant
abbrev pub without_loops : Affine → Affine
without_loops a = record a { loops = zero_loops }

abbrev pub times : ℤ → Affine → Multiple
times z a = record { times = z; form = a }
