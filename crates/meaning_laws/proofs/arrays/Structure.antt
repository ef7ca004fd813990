-- The element of an operation or a function by those of its parts.
use Rattle.std.proofs.Common.{◌≡◌, refl, sym, ap, ◌∙◌, ℕ, List, [], ◌∷◌, Result, Ok, Err}
use mathlib.Core.Path.{ap₂}
use Rattle.tree.specs.Operators.{apply, call}
use Rattle.tree.specs.Plain.{Expressions, no_expressions, expression}
use Rattle.tree.specs.Steps.{◌>>=◌}
use Rattle.tree.specs.declared.ops.Fault.{Fault}
use Rattle.tree.specs.declared.ops.Value.{Value}
use Rattle.meaning.specs.ArrayValues.{Elements, conform, mapped, paired}
use Rattle.meaning.specs.Dialect.{Dialect}
use Rattle.meaning.specs.Store.{Store}
use Rattle.meaning.specs.Value.{array_of, arguments_of, together}
use Rattle.meaning_laws.specs.arrays.Elements.{elements_of, ElementOfUnary, ElementOfOperation, ElementOfCall}
use Rattle.meaning_laws.proofs.arrays.Stages.{bound}

abbrev at_position : {A : Type 0} → List ℕ → Result (Elements A) Fault → Result A Fault
at_position is r = do
  g ← r
  g.at is

unary : (is : List ℕ) (f : Value → Result Value Fault) (r : Result (Elements Value) Fault) → at_position is (do g ← r; Ok (mapped f g)) ≡ (do x ← at_position is r; f x)
unary is f (Ok g) = refl
unary is f (Err e) = refl

pub element_of_unary : ElementOfUnary
element_of_unary d o a is s = unary is (λ x. apply o x x) (array_of d a s)

module _ (is : List ℕ) (f : Value → Value → Result Value Fault) where
  conforming : (g h k : Elements Value) → paired f g h ≡ Ok k → at_position is (paired f g h) ≡ (do x ← g.at is; y ← h.at is; f x y)
  conforming g h k e = by (conform g.extents h.extents) e
    where
      by : (r : Result (List ℕ) Fault) → ◌≡◌ {A = Result (Elements Value) Fault} (do ns ← r; Ok (record { extents = ns; at = λ is. (do x ← g.at is; y ← h.at is; f x y) })) (Ok k)
          → at_position is (do ns ← r; Ok (record { extents = ns; at = λ is. (do x ← g.at is; y ← h.at is; f x y) })) ≡ (do x ← g.at is; y ← h.at is; f x y)
      by (Ok ns) e = refl
      by (Err m) e = absurd cc

  binary : (r q : Result (Elements Value) Fault) (k : Elements Value) → (do g ← r; h ← q; paired f g h) ≡ Ok k → at_position is (do g ← r; h ← q; paired f g h) ≡ (do x ← at_position is r; y ← at_position is q; f x y)
  binary (Ok g) (Ok h) k e = conforming g h k e
  binary (Ok g) (Err m) k e = absurd cc
  binary (Err m) q k e = absurd cc

pub element_of_operation : ElementOfOperation
element_of_operation d o a b is s k e = binary is (apply o) (array_of d a s) (array_of d b s) k e

-- ---- arguments

arguments : (d : Dialect) (es : Expressions) (ns is : List ℕ) (s : Store) (k : Elements (List Value)) → arguments_of d es ns s ≡ Ok k → k.at is ≡ elements_of d es is s
arguments d no_expressions ns is s k e = by k e
  where
    by : (k : Elements (List Value)) → ◌≡◌ {A = Result (Elements (List Value)) Fault} (Ok (record { extents = ns; at = λ is. Ok [] })) (Ok k) → k.at is ≡ Ok []
    by k e = sym (ap (at_position is) e)
arguments d (expression e es) ns is s k h =
    let g = bound (array_of d e s) (λ g. do ms ← conform ns g.extents; more ← arguments_of d es ms s; Ok (together g more)) k h in
    let m = bound (conform ns g.0.extents) (λ ms. do more ← arguments_of d es ms s; Ok (together g.0 more)) k g.2 in
    let more = bound (arguments_of d es m.0 s) (λ more. Ok (together g.0 more)) k m.2 in
    sym (ap (at_position is) more.2)
    ∙ ap₂ (λ (r : Result Value Fault) (q : Result (List Value) Fault). do x ← r; xs ← q; Ok (x ∷ xs)) (sym (ap (at_position is) g.1)) (arguments d es m.0 is s more.0 more.1)

called : (is : List ℕ) (f : List Value → Result Value Fault) (r : Result (Elements (List Value)) Fault) (q : Result (List Value) Fault) (k : Elements Value) → ((h : Elements (List Value)) → r ≡ Ok h → h.at is ≡ q)
    → (do g ← r; Ok (mapped f g)) ≡ Ok k → at_position is (do g ← r; Ok (mapped f g)) ≡ (do xs ← q; f xs)
called is f (Ok h) q k same e = ap (λ (p : Result (List Value) Fault). do xs ← p; f xs) (same h refl)
called is f (Err m) q k same e = absurd cc

pub element_of_call : ElementOfCall
element_of_call d f es is s k e = called is (call f) (arguments_of d es [] s) (elements_of d es is s) k (λ h p. arguments d es [] is s h p) e
