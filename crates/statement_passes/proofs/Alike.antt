-- An expression has one value in two stores that are alike on its names.
use Rattle.std.proofs.Common.{◌≡◌, refl, sym, ap, ap₂, ◌∙◌, ℤ, false, List, [], ◌∷◌, ℕ, Result, Ok, Err}
use Rattle.std.specs.Str.{bytes_eq}
use Rattle.meaning.specs.Names.{is_among}
use Rattle.std.specs.List.{AllByRecursion}
use Rattle.tree.specs.Operators.{apply, call, as_number}
use Rattle.tree.specs.Plain.{Expression, Number, Logic, Named, Unary, Binary, Apply, Constructor, Spread, Transpose, Reshape, Reduce, Expressions, no_expressions, expression, Subscript, Only, Section, Subscripts, no_subscripts, subscript}
use Rattle.tree.specs.declared.ops.Value.{Value}
use Rattle.tree.specs.declared.ops.Fault.{Fault}
use Rattle.meaning.specs.Reads.{names_in, names_in_each, names_in_subscripts, names_in_subscript}
use Rattle.meaning.specs.Store.{Store, Cell, cell_at, cell_in}
use Rattle.meaning.specs.Value.{value_of, values_of, subscript_value, subscript_values, number_of}
use Rattle.meaning.proofs.CellFrame.{first_part, second_part}
use Rattle.rewrite.specs.Following.{sequential}
use Rattle.rewrite.proofs.Values.{cell_in-named}
use Rattle.rewrite.proofs.Replacing.{either_false}
use Rattle.rewrite.proofs.Replacing.{bytes_eq-false, differ}
use Rattle.tree.specs.Steps.{◌>>=◌}

pub turned : (x y : List ℕ) → bytes_eq x y ≡ false → bytes_eq y x ≡ false
turned x y h = bytes_eq-false y x (λ e. differ x y h (sym e))

module _ (bits : ℕ) (s t : Store) where
  -- a name has the same bounds in both, and each of its cells the same value
  abbrev pub Alike : List ℕ → Type 0
  Alike x = (s.bounds x ≡ t.bounds x) × ((is : List ℤ) (c : Cell) → cell_at x is s ≡ Ok c → s.held c ≡ t.held c)

  abbrev AreAlike : List (List ℕ) → Type 0
  AreAlike xs = AllByRecursion Alike xs

  -- the element with these subscripts, where they have values
  abbrev fetched : List ℕ → Store → Store → Result (List ℤ) Fault → Result Value Fault
  fetched x u v r = do
    is ← r
    c ← cell_at x is u
    Ok (v.held c)

  element_alike : (x : List ℕ) (r : Result (List ℤ) Fault) → Alike x → fetched x s s r ≡ fetched x t t r
  element_alike x (Err f) a = refl
  element_alike x (Ok is) a = by (cell_at x is s) refl ∙ ap (held_by t) (ap (λ b. cell_in b x is) a.0)
    where
      held_by : Store → Result Cell Fault → Result Value Fault
      held_by u q = do
        c ← q
        Ok (u.held c)

      by : (q : Result Cell Fault) → cell_at x is s ≡ q → held_by s q ≡ held_by t q
      by (Err f) e = refl
      by (Ok c) e = ap Ok (a.1 is c e)

  mutual
    pub value_alike : (e : Expression) → AreAlike (names_in e) → value_of (sequential bits) e s ≡ value_of (sequential bits) e t
    value_alike (Number n) h = refl
    value_alike (Logic b) h = refl
    value_alike (Named x ps) h = element_alike x (subscript_values (sequential bits) ps s) h.0 ∙ ap (fetched x t t) (subscripts_alike ps h.1)
    value_alike (Unary o a) h = ap (λ r. do x ← r; apply o x x) (value_alike a h)
    value_alike (Binary o a b) h = ap₂ (λ r q. do x ← r; y ← q; apply o x y) (value_alike a (first_part Alike (names_in a) (names_in b) h)) (value_alike b (second_part Alike (names_in a) (names_in b) h))
    value_alike (Apply f es) h = ap (λ r. do xs ← r; call f xs) (values_alike es h)
    value_alike (Constructor es ls) h = refl
    value_alike (Spread a k e) h = refl
    value_alike (Transpose a) h = refl
    value_alike (Reshape a es) h = refl
    value_alike (Reduce r a) h = refl

    values_alike : (es : Expressions) → AreAlike (names_in_each es) → values_of (sequential bits) es s ≡ values_of (sequential bits) es t
    values_alike no_expressions h = refl
    values_alike (expression e es) h = ap₂ (λ r q. do x ← r; xs ← q; Ok (x ∷ xs)) (value_alike e (first_part Alike (names_in e) (names_in_each es) h)) (values_alike es (second_part Alike (names_in e) (names_in_each es) h))

    pub subscripts_alike : (ps : Subscripts) → AreAlike (names_in_subscripts ps) → subscript_values (sequential bits) ps s ≡ subscript_values (sequential bits) ps t
    subscripts_alike no_subscripts h = refl
    subscripts_alike (subscript p ps) h = ap₂ (λ r q. do i ← r; is ← q; Ok (i ∷ is)) (subscript_alike p (first_part Alike (names_in_subscript p) (names_in_subscripts ps) h)) (subscripts_alike ps (second_part Alike (names_in_subscript p) (names_in_subscripts ps) h))

    subscript_alike : (p : Subscript) → AreAlike (names_in_subscript p) → subscript_value (sequential bits) p s ≡ subscript_value (sequential bits) p t
    subscript_alike (Only e) h = ap (λ r. do x ← r; as_number x) (value_alike e h)
    subscript_alike (Section a b c) h = refl

  pub number_alike : (e : Expression) → AreAlike (names_in e) → number_of (sequential bits) e s ≡ number_of (sequential bits) e t
  number_alike e h = ap (λ r. do x ← r; as_number x) (value_alike e h)

  -- all names but x are alike
  pub all_alike : (x : List ℕ) → ((y : List ℕ) → s.bounds y ≡ t.bounds y) → ((c : Cell) → bytes_eq c.name x ≡ false → s.held c ≡ t.held c)
      → (ys : List (List ℕ)) → is_among ys x ≡ false → AreAlike ys
  all_alike x bounds held [] h = tt
  all_alike x bounds held (y ∷ ys) h =
      let f = either_false (bytes_eq x y) (is_among ys x) h in
      ((bounds y, λ is c e. held c (other y c (cell_in-named (s.bounds y) y is c e) f.0)), all_alike x bounds held ys f.1)
    where
      other : (y : List ℕ) (c : Cell) → c.name ≡ y → bytes_eq x y ≡ false → bytes_eq c.name x ≡ false
      other y c e f = ap (λ z. bytes_eq z x) e ∙ turned x y f
