-- What the range of INTEGER changes, and what it doesn't.
use Rattle.std.proofs.Common.{◌≡◌, refl, sym, ap, ◌∙◌, subst, ℕ, ℤ, zero, suc, ◌+◌, ◌≤◌, ◌<◌, Bool, true, false, List, [], ◌∷◌, Result, Ok, Err, pos, negsuc, cond, arith}
use Rattle.std.specs.Prelude.{◌^◌, neg_ℤ, ◌≤ℤ◌, ◌<ℤ◌}
use Rattle.std.specs.List.{AllByRecursion}
use Rattle.std.proofs.Math.Nat.{pow-le-pow_right}
use Rattle.std.proofs.lemmas.Int.{ints}
use Rattle.std.proofs.lemmas.Bool.{false_from_ne_true}
use Rattle.std.proofs.lemmas.Bool.Decides.{Decides-ltb}
use mathlib.Core.Path.{ap₂}
use Rattle.tree.specs.Steps.{◌>>=◌}
use Rattle.tree.specs.Operators.{apply, call, as_number, as_truth, fits}
use Rattle.tree.specs.Plain.{Program, Declaration, Expression, Number, Logic, Named, Unary, Binary, Apply, Constructor, Spread, Transpose, Reshape, Reduce, Expressions, no_expressions, expression}
use Rattle.tree.specs.Plain.{Subscript, Only, Section, Subscripts, no_subscripts, subscript, Reference}
use Rattle.tree.specs.declared.ops.Value.{Value}
use Rattle.tree.specs.declared.ops.Value.TheVariants.{Int, Truth}
use Rattle.tree.specs.declared.ops.Fault.{Fault}
use Rattle.tree.specs.declared.ops.Fault.TheVariants.{ZeroStep}
use Rattle.std.specs.Ordering.{int_eq}
use Rattle.tree.specs.declared.width.Width.{Width}
use Rattle.tree.specs.declared.width.Width.TheVariants.{Plain, Wide}
use Rattle.tree.specs.Widths.{bits_of}
use Rattle.meaning.specs.Dialect.{Dialect, fortran77}
use Rattle.meaning.specs.Store.{Store, Cell, cell_at}
use Rattle.meaning.specs.Value.{is_in_range, numbered, value_of, values_of, subscript_values, subscript_value, number_of, truth_of, increment_of, cell_named}
use Rattle.meaning.specs.Typed.{dimensions}
use Rattle.meaning.specs.Profile77.{IsProgram77, IsDeclaration, IsDimension}

-- ---- a wider range

power_grows : (m n : ℕ) → m ≤ n → 2 ^ m ≤ 2 ^ n
power_grows m n l = let two : 0 < 2 = omega arith in pow-le-pow_right two l

module _ (m n : ℕ) (l : m ≤ n) where
  pub fits_more : (z : ℤ) → fits m z ≡ true → fits n z ≡ true
  fits_more (pos k) t = (let h = (Decides-ltb k (2 ^ m)).0 t in let p = power_grows m n l in (Decides-ltb k (2 ^ n)).1 (omega arith))
  fits_more (negsuc k) t = (let h = (Decides-ltb k (2 ^ m)).0 t in let p = power_grows m n l in (Decides-ltb k (2 ^ n)).1 (omega arith))

  pub in_range_more : (v : Value) → is_in_range m v ≡ true → is_in_range n v ≡ true
  in_range_more (Int z) t = fits_more z t
  in_range_more (Truth b) t = refl

  pub out_of_range_less : (v : Value) → is_in_range n v ≡ false → is_in_range m v ≡ false
  out_of_range_less v e = false_from_ne_true (is_in_range m v) (λ t. let k = in_range_more v t in cc)

pub widest : (w : Width) → bits_of w ≤ 63
widest Plain = omega arith
widest Wide = omega arith

pub narrowest : (w : Width) → 31 ≤ bits_of w
narrowest Plain = omega arith
narrowest Wide = omega arith

module _ (d e : Dialect) (l : d.bits ≤ e.bits) where
  dimension_widens : (b : ℤ × ℤ) → IsDimension d b → IsDimension e b
  dimension_widens b h = (let p = power_grows d.bits e.bits l in record {
    above = (let a = h.above in omega (arith, ints));
    ordered = h.ordered;
    below = (let a = h.below in omega (arith, ints));
  })

  dimensions_widen : (bs : List (ℤ × ℤ)) → AllByRecursion (IsDimension d) bs → AllByRecursion (IsDimension e) bs
  dimensions_widen [] h = tt
  dimensions_widen (b ∷ bs) h = (dimension_widens b h.0, dimensions_widen bs h.1)

  declaration_widens : (x : Declaration) → IsDeclaration d x → IsDeclaration e x
  declaration_widens x h = record { fixed = h.fixed; name = h.name; few = h.few; dimension = dimensions_widen (dimensions x.extent) h.dimension }

  declarations_widen : (xs : List Declaration) → AllByRecursion (IsDeclaration d) xs → AllByRecursion (IsDeclaration e) xs
  declarations_widen [] h = tt
  declarations_widen (x ∷ xs) h = (declaration_widens x h.0, declarations_widen xs h.1)

  pub program_widens : (p : Program) → IsProgram77 d p → IsProgram77 e p
  program_widens p h = record {
    name = h.name;
    declarations = record {
      each = declarations_widen p.declarations h.declarations.each;
      ordered = h.declarations.ordered;
      few = h.declarations.few;
      elements = h.declarations.elements;
    };
    statements = h.statements;
    blocks = h.blocks;
    labels = h.labels;
    named = h.named;
    few = h.few;
  }

-- ---- without arrays as values the range has no part in a value

module _ (w : Width) where
  mutual
    pub same_value : (e : Expression) (s : Store) → value_of (fortran77 w) e s ≡ value_of (fortran77 Plain) e s
    same_value (Number n) s = refl
    same_value (Logic b) s = refl
    same_value (Named x ps) s = ap (λ (q : Result (List ℤ) Fault). do is ← q; c ← cell_at x is s; Ok (s.held c)) (same_subscripts ps s)
    same_value (Unary o a) s = ap (λ (q : Result Value Fault). do x ← q; apply o x x) (same_value a s)
    same_value (Binary o a b) s = ap₂ (λ (q r : Result Value Fault). do x ← q; y ← r; apply o x y) (same_value a s) (same_value b s)
    same_value (Apply f es) s = ap (λ (q : Result (List Value) Fault). do xs ← q; call f xs) (same_values es s)
    same_value (Reduce r a) s = refl
    same_value (Constructor es ls) s = refl
    same_value (Spread a k e) s = refl
    same_value (Transpose a) s = refl
    same_value (Reshape a es) s = refl

    pub same_values : (es : Expressions) (s : Store) → values_of (fortran77 w) es s ≡ values_of (fortran77 Plain) es s
    same_values no_expressions s = refl
    same_values (expression e es) s = ap₂ (λ (q : Result Value Fault) (r : Result (List Value) Fault). do x ← q; xs ← r; Ok (x ∷ xs)) (same_value e s) (same_values es s)

    pub same_subscripts : (ps : Subscripts) (s : Store) → subscript_values (fortran77 w) ps s ≡ subscript_values (fortran77 Plain) ps s
    same_subscripts no_subscripts s = refl
    same_subscripts (subscript p ps) s = ap₂ (λ (q : Result ℤ Fault) (r : Result (List ℤ) Fault). do i ← q; is ← r; Ok (i ∷ is)) (same_subscript p s) (same_subscripts ps s)

    pub same_subscript : (p : Subscript) (s : Store) → subscript_value (fortran77 w) p s ≡ subscript_value (fortran77 Plain) p s
    same_subscript (Only e) s = ap (λ (q : Result Value Fault). do x ← q; as_number x) (same_value e s)
    same_subscript (Section a b c) s = refl

  pub same_number : (e : Expression) (s : Store) → number_of (fortran77 w) e s ≡ number_of (fortran77 Plain) e s
  same_number e s = ap numbered (same_value e s)

  pub same_increment : (e : Expression) (s : Store) → increment_of (fortran77 w) e s ≡ increment_of (fortran77 Plain) e s
  same_increment e s = ap (λ (q : Result ℤ Fault). do z ← q; cond (int_eq z (pos 0)) (Err ZeroStep) (Ok z)) (same_number e s)

  pub same_truth : (e : Expression) (s : Store) → truth_of (fortran77 w) e s ≡ truth_of (fortran77 Plain) e s
  same_truth e s = ap (λ (q : Result Value Fault). do x ← q; as_truth x) (same_value e s)

  pub same_cell : (r : Reference) (s : Store) → cell_named (fortran77 w) r s ≡ cell_named (fortran77 Plain) r s
  same_cell r s = ap (λ (q : Result (List ℤ) Fault). do is ← q; cell_at r.name is s) (same_subscripts r.subscripts s)
