-- The form of a bound, loop by loop.
use Rattle.std.proofs.Common.{◌≡◌, refl, sym, ap, ◌∙◌, subst, ℕ, zero, suc, ◌+◌, ◌≤◌, ◌<◌, ℤ, pos, ◌+ℤ◌, ◌*ℤ◌, Bool, true, false, cond, Option, Some, None, List, [], ◌∷◌, ◌++◌, map, take, drop, length, get_or, arith}
use Rattle.std.specs.Prelude.{nat_le}
use Rattle.std.specs.List.{filter}
use Rattle.std.specs.Option.{option_map}
use Rattle.std.proofs.lemmas.Bool.{leb-true}
use Rattle.std.proofs.lemmas.List.{get_or-take, length-map}
use Rattle.std.proofs.lemmas.Grind.{get_or_after_one}
use Rattle.tree.specs.Plain.{Expression}
use Rattle.subscripts.specs.declared.affine.Affine.{Affine}
use Rattle.linear_forms.specs.Linear.{Form, sum, multiple, linear, form_of}
use Rattle.linear_forms.specs.Places.{padded, terms_from}
use Rattle.linear_forms.specs.Affines.{IsAffineOf, IsFound}
use Rattle.find_nests.specs.bound_limits.Composed.{Outer, filled, with_multiples, symbol_terms, composed, is_loop_among, those_in, outer_variables_of, composed_bound}

module _ (names : List (List ℕ)) where
  abbrev among : List Outer → List Outer
  among rs = filter (is_loop_among names) rs

  passed : (r : Outer) (rs : List Outer) → is_loop_among names r ≡ false → among (r ∷ rs) ≡ among rs
  passed r rs e = ap (λ b. cond b (r ∷ among rs) (among rs)) e

  taken : (r : Outer) (rs : List Outer) → is_loop_among names r ≡ true → among (r ∷ rs) ≡ r ∷ among rs
  taken r rs e = ap (λ b. cond b (r ∷ among rs) (among rs)) e

  -- a loop whose variable isn't among the names
  pub without_one : (g w : Form) (ts : List ℤ) (r : Outer) (rs all : List Outer) → all ≡ r ∷ rs → is_loop_among names r ≡ false
      → (length (among rs) ≤ length ts → w ≡ with_multiples g ts (among rs))
      → length (among all) ≤ length ts → w ≡ with_multiples g ts (among all)
  without_one g w ts r rs all e out h few =
      let same : among all ≡ among rs = ap among e ∙ passed r rs out in
      h (subst (λ l. length l ≤ length ts) same few) ∙ ap (with_multiples g ts) (sym same)

  -- one whose variable is
  pub with_one : (g h w : Form) (ts us : List ℤ) (t : ℤ) (r : Outer) (rs all : List Outer) → all ≡ r ∷ rs → is_loop_among names r ≡ true
      → ts ≡ t ∷ us → h ≡ sum g (multiple t r.form)
      → (length (among rs) ≤ length us → w ≡ with_multiples h us (among rs))
      → length (among all) ≤ length ts → w ≡ with_multiples g ts (among all)
  with_one g h w ts us t r rs all e in' is added more few =
      let same : among all ≡ r ∷ among rs = ap among e ∙ taken r rs in' in
      let fewer : length (r ∷ among rs) ≤ length (t ∷ us) = subst (λ l. length l ≤ length (t ∷ us)) same (subst (λ l. length (among all) ≤ length l) is few) in
      more (omega (arith, fewer))
      ∙ ap (λ (f : Form). with_multiples f us (among rs)) added
      ∙ sym (ap (λ l. with_multiples g l (among all)) is ∙ ap (with_multiples g (t ∷ us)) same)

  -- no coefficient is left for one
  pub none_left : (ts : List ℤ) (r : Outer) (rs all : List Outer) → all ≡ r ∷ rs → is_loop_among names r ≡ true → ts ≡ []
      → length (among all) ≤ length ts → ⊥
  none_left ts r rs all e in' is few =
      let same : among all ≡ r ∷ among rs = ap among e ∙ taken r rs in' in
      let least : length (r ∷ among rs) ≤ 0 = subst (λ l. length l ≤ 0) same (subst (λ l. length (among all) ≤ length l) is few) in
      omega (arith, least)

-- the same coefficients, as many as there are loops
pub same_multiples : (g : Form) (cs ds : List ℤ) (rs : List Outer) → ((k : ℕ) → k < length rs → get_or cs k (pos 0) ≡ get_or ds k (pos 0))
    → with_multiples g cs rs ≡ with_multiples g ds rs
same_multiples g cs ds [] h = refl
same_multiples g cs ds (r ∷ rs) h =
    ap (λ t. with_multiples (sum g (multiple t r.form)) (drop 1 cs) rs) (h 0 (omega arith))
    ∙ same_multiples (sum g (multiple (get_or ds 0 (pos 0)) r.form)) (drop 1 cs) (drop 1 ds) rs
    (λ k l. get_or_after_one cs k (pos 0) ∙ h (1 + k) (omega (arith, l)) ∙ sym (get_or_after_one ds k (pos 0)))

few_loops : (loops symbols : List (List ℕ)) (e : Expression) (f : Form) → form_of loops symbols e ≡ Some f → length loops ≤ 7
few_loops loops symbols e f h = by (nat_le (length loops) 7) refl h
  where
    by : (b : Bool) → nat_le (length loops) 7 ≡ b → cond b (linear (length loops) (loops ++ symbols) e) None ≡ Some f → length loops ≤ 7
    by true q h = leb-true (length loops) 7 q
    by false q h = cc

module _ (symbols : List (List ℕ)) (around : List Outer) (e : Expression) where
  abbrev rs : List Outer
  rs = those_in e around

  abbrev vs : List (List ℕ)
  vs = outer_variables_of rs

  abbrev whole : Option Form
  whole = form_of vs symbols e

  pub bound-none : IsFound (length vs) whole None → composed_bound symbols around e ≡ None
  bound-none h = by whole refl h
    where
      by : (o : Option Form) → whole ≡ o → IsFound (length vs) o None → option_map (composed (length symbols) rs) whole ≡ None
      by None q h = ap (option_map (composed (length symbols) rs)) q
      by (Some f) q h = absurd h

  pub bound-some : (a : Affine) (w base : Form) → length a.loops ≡ 7 → IsFound (length vs) whole (Some a)
      → ((k : ℕ) (f : Form) → IsAffineOf k f a → base ≡ symbol_terms (length symbols) k f)
      → (length rs ≤ length a.loops → w ≡ with_multiples base a.loops rs) → Some w ≡ composed_bound symbols around e
  bound-some a w base seven h first more = by whole refl h
    where
      count : length vs ≡ length rs
      count = length-map rs (λ (r : Outer). r.variable)

      by : (o : Option Form) → whole ≡ o → IsFound (length vs) o (Some a) → Some w ≡ option_map (composed (length symbols) rs) whole
      by None q h = absurd h
      by (Some f) q h =
          let few = few_loops vs symbols e f q in
          let is : w ≡ with_multiples base a.loops rs = more (omega (arith, few, count, seven)) in
          let start : base ≡ symbol_terms (length symbols) (length rs) f = first (length vs) f h ∙ ap (λ n. symbol_terms (length symbols) n f) count in
          let same : with_multiples base a.loops rs ≡ with_multiples base f.coefficients rs =
          same_multiples base a.loops f.coefficients rs (λ k l. h.loops k ∙ get_or-take (length vs) f.coefficients k (pos 0) (omega (arith, l, count))) in
          ap (λ (z : Form). Some z) (is ∙ same ∙ ap (λ (z : Form). with_multiples z f.coefficients rs) start)
          ∙ ap (option_map (composed (length symbols) rs)) (sym q)

pub symbol_terms-is : (n k : ℕ) (f : Form) (a : Affine) (w : Form) → IsAffineOf k f a
    → ((cs : List ℤ) → a.syms ≡ padded (terms_from 0 cs) → w.coefficients ≡ filled n cs) → w.constant ≡ a.constant → w ≡ symbol_terms n k f
symbol_terms-is n k f a w i h e =
    ap (λ cs. let q : Form = record { coefficients = cs; constant = w.constant } in q) (h (drop k f.coefficients) i.symbols)
    ∙ ap (λ z. let q : Form = record { coefficients = filled n (drop k f.coefficients); constant = z } in q) (e ∙ i.constant)
