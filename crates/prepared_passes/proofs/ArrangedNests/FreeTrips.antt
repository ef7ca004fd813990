-- A trip in which no loop's variable counts is one under any loops.
use Rattle.std.proofs.Common.{◌≡◌, refl, sym, ap, ◌∙◌, ℕ, zero, suc, ◌+◌, ◌≤◌, ℤ, pos, negsuc, true, ◌&&◌}
use Rattle.std.proofs.Common.{List, [], ◌∷◌, ◌++◌, length, length-append, drop, take, arith}
use Rattle.std.specs.List.{list_all}
use Rattle.std.specs.Ordering.{int_eq}
use Rattle.std.proofs.lemmas.Bool.Decides.{Decides-int_eq}
use Rattle.std.specs.Prelude.{nat_le, slice_index_or}
use Rattle.tree.specs.Plain.{Expression}
use Rattle.subscripts.specs.Shapes.{IsForm}
use Rattle.linear_forms.specs.Affines.{IsAffineOf}
use Rattle.linear_forms.specs.Canonical.{canonising}
use Rattle.linear_forms.specs.Linear.{Form, all_small, is_limited, is_small, not_zero}
use Rattle.linear_forms.specs.Places.{padded, terms_from}
use Rattle.linear_forms.proofs.Sizes.{both}
use Rattle.last_values.specs.normal_forms.Texts.{trip_text}
use Rattle.nest.specs.declared.parts.Trip.{Trip}
use Rattle.nest_order.specs.orders.Lists.{In}
use Rattle.pass_laws.proofs.NormalFacts.Tables.{each_from}
use Rattle.pass_laws.proofs.NormalFacts.Texts.{trip_over}
use Rattle.rewrite.specs.Making.{made}
use Rattle.interchange.specs.Arranged.{is_loop_free}
use Rattle.pass_laws.specs.prepared_nests.Loops.{IsPreparedTrip}
use Rattle.prepared_passes.proofs.ArrangedNests.Names.{text_alone}
use Rattle.prepared_passes.proofs.ArrangedNests.Unmoved.{IsOther, stays}

-- ---- zeros in the places of loops

abbrev zeros : ℕ → List ℤ
zeros zero = []
zeros (suc n) = pos 0 ∷ zeros n

zeros_length : (n : ℕ) → length (zeros n) ≡ n
zeros_length zero = refl
zeros_length (suc n) = ap suc (zeros_length n)

dropped : (n : ℕ) (xs : List ℤ) → drop n (zeros n ++ xs) ≡ xs
dropped zero xs = refl
dropped (suc n) xs = dropped n xs

taken : (n : ℕ) (xs : List ℤ) (k : ℕ) → slice_index_or (take n (zeros n ++ xs)) k (pos 0) ≡ pos 0
taken zero xs k = refl
taken (suc n) xs zero = refl
taken (suc n) xs (suc k) = taken n xs k

all_zero_at : (cs : List ℤ) → list_all (λ a. int_eq a (pos 0)) cs ≡ true → (k : ℕ) → slice_index_or cs k (pos 0) ≡ pos 0
all_zero_at [] e k = refl
all_zero_at (pos zero ∷ cs) e zero = refl
all_zero_at (pos zero ∷ cs) e (suc k) = all_zero_at cs e k
all_zero_at (pos (suc n) ∷ cs) e k =
    let same = (Decides-int_eq (pos (suc n)) (pos 0)).0 (both (int_eq (pos (suc n)) (pos 0)) (list_all (λ a. int_eq a (pos 0)) cs) e).0 in
    let nought : suc n ≡ 0 = cc in
    absurd (omega (arith, nought))
all_zero_at (negsuc n ∷ cs) e k = let no : ⊥ = cc in absurd no

small_dropped : (n : ℕ) (cs : List ℤ) → all_small cs ≡ true → all_small (drop n cs) ≡ true
small_dropped zero cs h = h
small_dropped (suc n) [] h = refl
small_dropped (suc n) (c ∷ cs) h = small_dropped n cs (both (is_small c) (all_small cs) h).1

small_behind : (n : ℕ) (xs : List ℤ) → all_small xs ≡ true → all_small (zeros n ++ xs) ≡ true
small_behind zero xs h = h
small_behind (suc n) xs h = small_behind n xs h

drop_short : (n m : ℕ) (cs : List ℤ) → length cs ≤ n + m → length (drop n cs) ≤ m
drop_short zero m cs h = omega (arith, h)
drop_short (suc n) m [] h = omega arith
drop_short (suc n) m (c ∷ cs) h = drop_short n m cs (omega (arith, h))

-- the form under n loops in place of m, of which none counts
abbrev under : ℕ → ℕ → Form → Form
under n m f = record { coefficients = zeros n ++ drop m f.coefficients; constant = f.constant }

limited_under : (n m : ℕ) (f : Form) → is_limited m f ≡ true → is_limited n (under n m f) ≡ true
limited_under n m f h =
    let a = both (all_small f.coefficients) (is_small f.constant && nat_le (not_zero (drop m f.coefficients)) 8) h in
    let b = both (is_small f.constant) (nat_le (not_zero (drop m f.coefficients)) 8) a.1 in
    let ys : List ℤ = zeros n ++ drop m f.coefficients in
    ap (λ c. c && (is_small f.constant && nat_le (not_zero (drop n ys)) 8)) (small_behind n (drop m f.coefficients) (small_dropped m f.coefficients a.0))
    ∙ (ap (λ c. c && nat_le (not_zero (drop n ys)) 8) b.0
    ∙ (ap (λ zs. nat_le (not_zero zs) 8) (dropped n (drop m f.coefficients)) ∙ b.1))

-- ---- the trip

module _ (round symbols : List (List ℕ)) (last : Expression) (t : Trip) (h : IsPreparedTrip round symbols last t) (none : is_loop_free t ≡ true) where
  at : (k : ℕ) → slice_index_or t.top.loops k (pos 0) ≡ pos 0
  at = all_zero_at t.top.loops none

  module _ (other : List (List ℕ)) where
    abbrev form : Form
    form = under (length other) (length round) h.form

    affine : IsAffineOf (length other) form t.top
    affine = record {
      loops = λ k. at k ∙ sym (taken (length other) (drop (length round) h.form.coefficients) k);
      symbols = h.affine.symbols ∙ ap (λ zs. padded (terms_from 0 zs)) (sym (dropped (length other) (drop (length round) h.form.coefficients)));
      constant = h.affine.constant;
    }

    top : IsForm (length other) t.top
    top = record {
      past_depth = λ k deep. at k;
      symbols = h.top.symbols;
      small_loops = h.top.small_loops;
      small_symbols = h.top.small_symbols;
      small_constant = h.top.small_constant;
    }

    short : length form.coefficients ≤ length other + length symbols
    short =
        let joined = length-append (zeros (length other)) (drop (length round) h.form.coefficients) in
        let first = zeros_length (length other) in
        let rest = drop_short (length round) (length symbols) h.form.coefficients h.short in
        omega (arith, joined, first, rest)

    -- its text in canonical text again, where the symbols are none of the variables
    module _ (variables : List (List ℕ)) (apart : (y : List ℕ) → In y symbols → IsOther variables y) where
      text : made (canonising variables symbols) last ≡ trip_text other symbols [] t
      text =
          let alone = text_alone round symbols t none in
          let over = trip_over (IsOther variables) symbols (each_from (IsOther variables) symbols apart) [] t tt in
          ap (made (canonising variables symbols)) (h.text ∙ alone)
          ∙ (stays variables symbols (trip_text [] symbols [] t) over ∙ sym (text_alone other symbols t none))

      pub free_trip : IsPreparedTrip other symbols (made (canonising variables symbols) last) t
      free_trip = record {
        top = top;
        form = form;
        affine = affine;
        limited = limited_under (length other) (length round) h.form h.limited;
        short = short;
        seven = h.seven;
        divisor = h.divisor;
        by = h.by;
        positive = h.positive;
        small = h.small;
        text = text;
      }
