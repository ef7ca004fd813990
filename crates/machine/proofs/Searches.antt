-- The search for a name in the table of variables.
use Rattle.std.proofs.Common.{◌≡◌, refl, sym, ap, ◌∙◌, subst, Bool, Bor, MatchOption, ℕ, ℤ, ◌+◌, true, false, cond, List, [], ◌∷◌, Option, Some, None, arith}
use Rattle.std.specs.Option.{option_map, option_copied}
use Rattle.std.specs.Map.{keys_of, values_of as variables_of, lookup}
use Rattle.std.specs.Cmp.Lexicographic.{nat_list_eq_equiv}
use Rattle.std.specs.Str.{bytes_eq}
use Rattle.tree.specs.Plain.{Extent, Given, Later}
use Rattle.tree.specs.View.{declaration_of}
use Rattle.meaning.specs.Store.{opening_bounds}
use Rattle.meaning.specs.Typed.{dimensions}
use Rattle.machine.specs.declared.variables.Variable.{Variable}
use Rattle.machine.specs.Storage.{declared, own_names, starts_in, starts_of, place, offset, total, values_of, AreArrays, HasBounds}
use Rattle.machine.specs.Stored.{IsOf, bounds_here}
use Rattle.machine.proofs.StoreLaws.{bounds_known}

-- the name x stands nowhere before the rest, whose values start at n
pub record IsSearched (x : List ℕ) (whole rest : List Variable) (n : ℕ) : Type 0 where
  pub bounds : opening_bounds (declared whole) x ≡ opening_bounds (declared rest) x
  pub place : (is : List ℤ) → place (declared whole) x is ≡ option_map (λ k. n + k) (place (declared rest) x is)
  pub starts : starts_in rest ≡ starts_of n (declared rest)
  pub total : n + total (declared rest) ≡ total (declared whole)
  pub sound : AreArrays (declared rest)

shifted_none : (o : Option ℕ) → o ≡ option_map (λ k. 0 + k) o
shifted_none None = refl
shifted_none (Some k) = ap (λ n. let o : Option ℕ = Some n in o) (let e : k ≡ 0 + k = omega arith in e)

shifted_twice : (n m : ℕ) (o : Option ℕ) → option_map (λ k. n + k) (option_map (λ k. m + k) o) ≡ option_map (λ k. n + m + k) o
shifted_twice n m None = refl
shifted_twice n m (Some k) = ap (λ n. let o : Option ℕ = Some n in o) (let e : n + (m + k) ≡ n + m + k = omega arith in e)

pub begun : (x : List ℕ) (whole : List Variable) → starts_in whole ≡ starts_of 0 (declared whole) → AreArrays (declared whole) → IsSearched x whole whole 0
begun x whole e h = record { bounds = refl; place = λ is. shifted_none (place (declared whole) x is); starts = e; total = omega arith; sound = h }

given : (e : Extent) → HasBounds e → elim e as (λ _. Option (List (ℤ × ℤ))) [ Given bs ↦ Some bs | Later n ↦ None ] ≡ Some (dimensions e)
given (Given bs) h = refl
given (Later n) h = absurd h

module _ (x : List ℕ) (whole : List Variable) (v : Variable) (rest : List Variable) (n : ℕ) (h : IsSearched x whole (v ∷ rest) n) where
  pub passed : bytes_eq v.decl.name x ≡ false → IsSearched x whole rest (n + values_of (declaration_of v.decl))
  passed e = record {
    bounds = h.bounds ∙ ap (λ t. cond t (elim (declaration_of v.decl).extent as (λ _. Option (List (ℤ × ℤ))) [ Given bs ↦ Some bs | Later n ↦ None ]) (opening_bounds (declared rest) x)) e;
    place = λ is. h.place is
        ∙ ap (λ t. option_map (λ k. n + k) (cond t (offset (bounds_here v) is) (option_map (λ k. values_of (declaration_of v.decl) + k) (place (declared rest) x is)))) e
        ∙ shifted_twice n (values_of (declaration_of v.decl)) (place (declared rest) x is);
    starts = cc (h.starts);
    total = omega (arith, h.total);
    sound = h.sound.1;
  }

  pub hit : bytes_eq v.decl.name x ≡ true → IsOf (declared whole) x v
  hit e =
      let start : v.start ≡ n = cc (h.starts) in
      record {
        bounds = h.bounds ∙ ap (λ t. cond t (elim (declaration_of v.decl).extent as (λ _. Option (List (ℤ × ℤ))) [ Given bs ↦ Some bs | Later n ↦ None ]) (opening_bounds (declared rest) x)) e
            ∙ given (declaration_of v.decl).extent h.sound.0;
        place = λ is. h.place is
            ∙ ap (λ t. option_map (λ k. n + k) (cond t (offset (bounds_here v) is) (option_map (λ k. values_of (declaration_of v.decl) + k) (place (declared rest) x is)))) e
            ∙ ap (λ m. option_map (λ k. m + k) (offset (bounds_here v) is)) (sym start);
        sound = bounds_known (declaration_of v.decl).extent h.sound.0;
        fits = omega (arith, h.total);
      }

pub missed : (x : List ℕ) (whole : List Variable) (n : ℕ) → IsSearched x whole [] n → opening_bounds (declared whole) x ≡ None
missed x whole n h = h.bounds

-- what the table has for the name x
pub looked_up : (x : List ℕ) (whole : List Variable) (es : List (List ℕ × Variable)) (n : ℕ) → keys_of es ≡ own_names (variables_of es) → IsSearched x whole (variables_of es) n
    → MatchOption (lookup (bytes_eq x) es) (opening_bounds (declared whole) x ≡ None) (IsOf (declared whole) x)
looked_up x whole [] n k h = missed x whole n h
looked_up x whole (e ∷ es) n k h = by (bytes_eq x e.0) refl (λ m. looked_up x whole es m (cc k))
  where
    same : bytes_eq e.1.decl.name x ≡ bytes_eq x e.0
    same = nat_list_eq_equiv.symm e.1.decl.name x ∙ ap (bytes_eq x) (let key : e.1.decl.name ≡ e.0 = cc k in key)

    by : (b : Bool) → bytes_eq x e.0 ≡ b → ((m : ℕ) → IsSearched x whole (variables_of es) m → MatchOption (lookup (bytes_eq x) es) (opening_bounds (declared whole) x ≡ None) (IsOf (declared whole) x))
        → MatchOption (cond b (Some e.1) (lookup (bytes_eq x) es)) (opening_bounds (declared whole) x ≡ None) (IsOf (declared whole) x)
    by true t rest = hit x whole e.1 (variables_of es) n h (same ∙ t)
    by false t rest = rest (n + values_of (declaration_of e.1.decl)) (passed x whole e.1 (variables_of es) n h (same ∙ t))

-- the same of a reference to what the table has
pub referred : {A : Type 0} (P : Type 0) (Q : A → Type 0) (r : Option (Bor A)) (o : Option A) → option_copied r ≡ o → MatchOption o P Q → MatchOption r P (λ x. Q x.now)
referred P Q None o e h = subst (λ o. MatchOption o P Q) (sym e) h
referred P Q (Some x) o e h = subst (λ o. MatchOption o P Q) (sym e) h
