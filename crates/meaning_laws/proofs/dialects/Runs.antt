-- A program of FORTRAN 77 has one run in dialects with and without arrays.
use Rattle.std.proofs.Common.{◌≡◌, refl, sym, ap, ◌∙◌, subst, ℕ, ℤ, pos, Bool, true, false, not, cond, List, [], ◌∷◌, map, Result, Ok, Err, Option, Some, None, ◌⊎◌, inl, inr}
use Rattle.std.specs.Option.{IsSomeAnd}
use Rattle.std.specs.Ordering.{int_eq}
use Rattle.tree.specs.Operators.{as_number, as_truth}
use Rattle.tree.specs.Plain.{Expression, Number, Logic, Named, Unary, Binary, Apply, Constructor, Spread, Transpose, Reshape, Reduce, Subscripts, no_subscripts, subscript, Reference, Item, Single, Constant, ImpliedDo, Items, no_items, item, Statement, Assignment, Where, If, Do, Label, GoTo, Stop, Read, Print, Allocate, Deallocate, Arms, no_arms, arm, Block, no_statements, statement, Declaration, Program}
use Rattle.tree.specs.Steps.{◌>>=◌}
use Rattle.tree.specs.declared.ops.Fault.{Fault}
use Rattle.tree.specs.declared.ops.Fault.TheVariants.{ZeroStep}
use Rattle.tree.specs.declared.ops.Kind.{Kind}
use Rattle.tree.specs.declared.ops.Kind.TheVariants.{Integer, Logical}
use Rattle.tree.specs.declared.ops.Value.{Value}
use Rattle.tree.specs.declared.ops.Value.TheVariants.{Int}
use Rattle.meaning.specs.Blocks.{Surroundings, outermost, within_loop, before_labels, labels_of}
use Rattle.meaning.specs.Dialect.{Dialect}
use Rattle.meaning.specs.Profile77.{IsStatement, AreArms, IsBlock, IsProgram77}
use Rattle.meaning.specs.Run.{State, Act, Going, Jumping, Stopped, either, arrives, opening_state, assigns, array_assigns, sets_variable, increases, loops, reads_into, reads_item, reads_items, prints_item, prints_items, first_blank, does, chooses, does_all, run}
use Rattle.meaning.specs.Store.{Store, Cell, cell_at, opening_bounds}
use Rattle.meaning.specs.Texts.{output_text}
use Rattle.meaning.specs.Typed77.{declared, HasKind, AreSubscripts, IsWhole, IsElementOrWhole, IsOutput, IsOutputItem, AreOutputItems, IsInputItem, AreInputItems}
use Rattle.meaning.specs.Value.{value_of, number_of, truth_of, increment_of, cell_named, item_cells, item_values, all_elements, is_array, is_scalar, named}
use Rattle.meaning.proofs.ArrayLaws.{whole_name}
use Rattle.meaning_laws.specs.dialects.OneRun.{SourceHasOneRun, SequentialRunIsArrayRun}
use Rattle.meaning_laws.proofs.dialects.Values.{without_arrays, with_arrays, value_same, subscripts_same, AllFixed, all_fixed, scalar}
use Rattle.meaning_laws.proofs.dialects.Acts.{Bounded, Same, Same-nothing, Same-then, Same-goes, Same-either, Same-evaluates, Same-repeated, Same-for_each, Same-writes, Same-stores, Same-begins_line, Same-skips_line, Same-takes_word, Same-counts_step, Same-checks_range}
use Rattle.tree.specs.declared.width.Width.{Width}
use Rattle.tree.specs.Widths.{bits_of}

module _ (n : ℕ) (limit : Option ℕ) (ds : List Declaration) (fixed : AllFixed ds) where
  abbrev bs : List ℕ → Option (List (ℤ × ℤ))
  bs = opening_bounds ds

  abbrev scalars : Dialect
  scalars = without_arrays n

  abbrev arrays : Dialect
  arrays = with_arrays n

  -- ---- what is asked of the store

  numbers : (e : Expression) → HasKind ds e Integer → (s : Store) → s.bounds ≡ bs → number_of scalars e s ≡ number_of arrays e s
  numbers e h s b = ap (λ r. do x ← r; as_number x) (value_same n ds e Integer h s)

  increments : (e : Expression) → HasKind ds e Integer → (s : Store) → s.bounds ≡ bs → increment_of scalars e s ≡ increment_of arrays e s
  increments e h s b = ap (λ r. do z ← r; cond (int_eq z (pos 0)) (Err ZeroStep) (Ok z)) (numbers e h s b)

  elements : (x : List ℕ) (ps : Subscripts) → AreSubscripts ds ps → (s : Store) → item_cells scalars x ps s ≡ item_cells arrays x ps s
  elements x no_subscripts h s = refl
  elements x (subscript p ps) h s = ap (λ r. do is ← r; c ← cell_at x is s; Ok (c ∷ [])) (subscripts_same n ds (subscript p ps) h s)

  of_element : (x : List ℕ) (ps : Subscripts) → IsElementOrWhole ds x ps → AreSubscripts ds ps
  of_element x no_subscripts h = tt
  of_element x (subscript p ps) (inl h) = h.1
  of_element x (subscript p ps) (inr h) = h.1

  cells : (x : List ℕ) (ps : Subscripts) → IsElementOrWhole ds x ps → (s : Store) → s.bounds ≡ bs → item_cells scalars x ps s ≡ item_cells arrays x ps s
  cells x ps h s b = elements x ps (of_element x ps h) s

  whole : (x : List ℕ) (s : Store) → item_values scalars (Named x no_subscripts) s ≡ item_values arrays (Named x no_subscripts) s
  whole x s = by (is_scalar (Named x no_subscripts) s.bounds)
    where
      by : (b : Bool) → ◌≡◌ {A = Result (List Value) Fault} (do cs ← item_cells scalars x no_subscripts s; Ok (map s.held cs))
          (cond (not b) (all_elements arrays (Named x no_subscripts) s) (do cs ← item_cells arrays x no_subscripts s; Ok (map s.held cs)))
      by true = refl
      by false = sym (whole_name arrays x s)

  -- an expression of one kind or the other is no array
  no_array : (e : Expression) (k : Kind) → HasKind ds e k → (s : Store) → s.bounds ≡ bs → is_array arrays e s ≡ false
  no_array e k h s b = ap not (ap (is_scalar e) b ∙ scalar ds fixed e k h)

  single_of : (e : Expression) (k : Kind) → HasKind ds e k → (s : Store) → s.bounds ≡ bs
      → ◌≡◌ {A = Result (List Value) Fault} (do x ← value_of scalars e s; Ok (x ∷ [])) (cond (is_array arrays e s) (all_elements arrays e s) (do x ← value_of arrays e s; Ok (x ∷ [])))
  single_of e k h s b =
      ap (λ r. do x ← r; Ok (x ∷ [])) (value_same n ds e k h s)
      ∙ ap (λ t. cond t (all_elements arrays e s) (do x ← value_of arrays e s; Ok (x ∷ []))) (sym (no_array e k h s b))

  single : (e : Expression) → HasKind ds e Integer ⊎ HasKind ds e Logical → (s : Store) → s.bounds ≡ bs
      → ◌≡◌ {A = Result (List Value) Fault} (do x ← value_of scalars e s; Ok (x ∷ [])) (cond (is_array arrays e s) (all_elements arrays e s) (do x ← value_of arrays e s; Ok (x ∷ [])))
  single e (inl h) s b = single_of e Integer h s b
  single e (inr h) s b = single_of e Logical h s b

  no_array_element : (x : List ℕ) (ps : Subscripts) → HasKind ds (Named x ps) Integer ⊎ HasKind ds (Named x ps) Logical → (s : Store) → s.bounds ≡ bs → is_array arrays (Named x ps) s ≡ false
  no_array_element x ps (inl h) s b = no_array (Named x ps) Integer h s b
  no_array_element x ps (inr h) s b = no_array (Named x ps) Logical h s b

  outputs : (e : Expression) → IsOutput ds e → (s : Store) → s.bounds ≡ bs → item_values scalars e s ≡ item_values arrays e s
  outputs (Named x no_subscripts) h s b = whole x s
  outputs (Named x (subscript p ps)) h s b =
      ap (λ r. do cs ← r; Ok (map s.held cs)) (cells x (subscript p ps) h s b)
      ∙ ap (λ t. cond t (all_elements arrays (Named x (subscript p ps)) s) (do cs ← item_cells arrays x (subscript p ps) s; Ok (map s.held cs))) (sym (no_array_element x (subscript p ps) h s b))
  outputs (Number z) h s b = refl
  outputs (Logic v) h s b = refl
  outputs (Unary o a) h s b = single (Unary o a) h s b
  outputs (Binary o a c) h s b = single (Binary o a c) h s b
  outputs (Apply f es) h s b = single (Apply f es) h s b
  outputs (Constructor es ls) h s b = single (Constructor es ls) h s b
  outputs (Spread a k e) h s b = single (Spread a k e) h s b
  outputs (Transpose a) h s b = single (Transpose a) h s b
  outputs (Reshape a es) h s b = single (Reshape a es) h s b
  outputs (Reduce r a) h s b = single (Reduce r a) h s b

  -- ---- loops

  Same-sets_variable : (line : ℕ) (x : List ℕ) (z : ℤ) → Same bs (sets_variable scalars limit line x z) (sets_variable arrays limit line x z)
  Same-sets_variable line x z = Same-evaluates bs line _ _ _ _ (λ s b. refl) (λ c. Same-checks_range bs n limit line (Int z) _ _ (Same-stores bs c (Int z)))

  Same-increases : (line : ℕ) (x : List ℕ) (m3 : ℤ) → Same bs (increases scalars limit line x m3) (increases arrays limit line x m3)
  Same-increases line x m3 = Same-evaluates bs line _ _ _ _ (λ s b. refl) (λ c. Same-evaluates bs line _ _ _ _ (λ s b. refl) (λ z. Same-sets_variable line x z))

  Same-loops : (line : ℕ) (x : List ℕ) (a b c : Expression) (f g : Act) → HasKind ds a Integer → HasKind ds b Integer → HasKind ds c Integer → Same bs f g
      → Same bs (loops scalars limit line x a b c f) (loops arrays limit line x a b c g)
  Same-loops line x a b c f g ha hb hc h =
      Same-evaluates bs line _ _ _ _ (numbers a ha) (λ m1. Same-evaluates bs line _ _ _ _ (numbers b hb) (λ m2. Same-evaluates bs line _ _ _ _ (increments c hc) (λ m3.
      Same-then bs _ _ _ _ (Same-sets_variable line x m1) (Same-evaluates bs line _ _ _ _ (λ s b. refl) (λ k.
      Same-repeated bs k _ _ (Same-counts_step bs n limit _ _ (Same-then bs f g _ _ h (Same-increases line x m3))))))))

  -- ---- lists

  Same-reads_into : (line : ℕ) (c : Cell) → Same bs (reads_into scalars limit line c) (reads_into arrays limit line c)
  Same-reads_into line c =
      Same-takes_word bs line _ _ (λ w. Same-evaluates bs line _ _ _ _ (λ s b. refl) (λ v.
      Same-checks_range bs n limit line v _ _ (Same-counts_step bs n limit _ _ (Same-stores bs c v))))

  mutual
    Same-reads_item : (i : Item) (line : ℕ) (w : List (List ℕ)) → IsInputItem ds i w → Same bs (reads_item scalars limit i line) (reads_item arrays limit i line)
    Same-reads_item (Single (Named x ps)) line w h = Same-evaluates bs line _ _ _ _ (cells x ps h.0) (λ cs. Same-for_each bs cs _ _ (Same-reads_into line))
    Same-reads_item (ImpliedDo is x a b c) line w h = Same-loops line x a b c _ _ h.2 h.3 h.4 (Same-reads_items is line (x ∷ w) h.5)
    Same-reads_item _ line w h = Same-nothing bs

    Same-reads_items : (is : Items) (line : ℕ) (w : List (List ℕ)) → AreInputItems ds is w → Same bs (reads_items scalars limit is line) (reads_items arrays limit is line)
    Same-reads_items no_items line w h = Same-nothing bs
    Same-reads_items (item i is) line w h = Same-then bs _ _ _ _ (Same-reads_item i line w h.0) (Same-reads_items is line w h.1)

  mutual
    Same-prints_item : (i : Item) (line : ℕ) (w : List (List ℕ)) → IsOutputItem ds i w → Same bs (prints_item scalars limit i line) (prints_item arrays limit i line)
    Same-prints_item (Single e) line w h = Same-evaluates bs line _ _ _ _ (outputs e h) (λ vs. Same-writes bs (output_text vs))
    Same-prints_item (Constant t) line w h = Same-writes bs t
    Same-prints_item (ImpliedDo is x a b c) line w h = Same-loops line x a b c _ _ h.2 h.3 h.4 (Same-prints_items is line (x ∷ w) h.5)

    Same-prints_items : (is : Items) (line : ℕ) (w : List (List ℕ)) → AreOutputItems ds is w → Same bs (prints_items scalars limit is line) (prints_items arrays limit is line)
    Same-prints_items no_items line w h = Same-nothing bs
    Same-prints_items (item i is) line w h = Same-then bs _ _ _ _ (Same-prints_item i line w h.0) (Same-prints_items is line w h.1)

  -- ---- statements

  Same-assigns : (line : ℕ) (left : Reference) (right : Expression) (k : Kind) → HasKind ds (named left) k → HasKind ds right k
      → Same bs (assigns scalars limit line left right) (λ s. either (is_array arrays (named left) s.store) (array_assigns arrays limit line (Logic true) left right) (assigns arrays limit line left right) s)
  Same-assigns line left right k hl hr = record { same = λ s b. one.same s b ∙ sym (chosen s b); kept = λ s b. one.kept s b }
    where
      one : Same bs (assigns scalars limit line left right) (assigns arrays limit line left right)
      one = Same-evaluates bs line (value_of scalars right) (value_of arrays right) _ _ (λ s b. value_same n ds right k hr s) (λ v.
          Same-evaluates bs line (cell_named scalars left) (cell_named arrays left) _ _ (λ s b. ap (λ q. do is ← q; cell_at left.name is s) (subscripts_same n ds left.subscripts hl.1 s)) (λ c.
          Same-checks_range bs n limit line v _ _ (Same-counts_step bs n limit _ _ (Same-stores bs c v))))

      chosen : (s : State) → Bounded bs s → either (is_array arrays (named left) s.store) (array_assigns arrays limit line (Logic true) left right) (assigns arrays limit line left right) s ≡ assigns arrays limit line left right s
      chosen s b = ap (λ q. either q (array_assigns arrays limit line (Logic true) left right) (assigns arrays limit line left right) s) (no_array (named left) k hl s.store b)

  Same-assignment : (line : ℕ) (left : Reference) (right : Expression) (o : Option Declaration) → IsSomeAnd o (λ d. IsWhole ds (Named left.name left.subscripts) d.kind × IsWhole ds right d.kind)
      → Same bs (assigns scalars limit line left right) (λ s. either (is_array arrays (named left) s.store) (array_assigns arrays limit line (Logic true) left right) (assigns arrays limit line left right) s)
  Same-assignment line left right None h = absurd h
  Same-assignment line left right (Some d) h = Same-assigns line left right d.kind h.0.suits h.1.suits

  Same-label : (l : ℕ) → Same bs (does scalars limit (Label l)) (does arrays limit (Label l))
  Same-label l = record { same = λ s b. refl; kept = λ s b. (Same-either bs (arrives l s.way) (Same-goes bs Going) (Same-nothing bs)).kept s b }

  mutual
    Same-does : (c : Statement) (w : Surroundings) → IsStatement ds c w → Same bs (does scalars limit c) (does arrays limit c)
    Same-does (Assignment line m left right) w h = Same-counts_step bs n limit _ _ (Same-assignment line left right (declared ds left.name) h.2.0)
    Same-does (If line arms other) w h = Same-chooses line arms w _ _ h.2 (Same-does_all other w h.3)
    Same-does (Do line x a b c body) w h = Same-loops line x a b c _ _ h.2.suits h.3.suits h.4.suits (Same-does_all body (within_loop x w) h.5)
    Same-does (Label l) w h = Same-label l
    Same-does (GoTo line l) w h = Same-counts_step bs n limit _ _ (Same-goes bs (Jumping l))
    Same-does (Stop line) w h = Same-counts_step bs n limit _ _ (Same-goes bs Stopped)
    Same-does (Read line is) w h = Same-counts_step bs n limit _ _ (Same-then bs _ _ _ _ (Same-begins_line bs line) (Same-then bs _ _ _ _ (Same-reads_items is line w.variables h.1) (Same-skips_line bs)))
    Same-does (Print line is) w h = Same-counts_step bs n limit _ _ (Same-then bs _ _ _ _ (Same-writes bs (first_blank is)) (Same-then bs _ _ _ _ (Same-prints_items is line w.variables h.1) (Same-writes bs (10 ∷ []))))
    Same-does (Where line m k left right) w h = absurd h
    Same-does (Allocate line x es) w h = absurd h
    Same-does (Deallocate line x) w h = absurd h

    Same-chooses : (line : ℕ) (arms : Arms) (w : Surroundings) (f g : Act) → AreArms ds arms w → Same bs f g → Same bs (chooses scalars limit line arms f) (chooses arrays limit line arms g)
    Same-chooses line no_arms w f g p h = h
    Same-chooses line (arm test body arms) w f g p h = Same-counts_step bs n limit _ _ (Same-evaluates bs line (truth_of scalars test) (truth_of arrays test) _ _
        (λ s b. ap (λ r. do x ← r; as_truth x) (value_same n ds test Logical p.0.suits s)) (λ b. Same-either bs b (Same-does_all body w p.1) (Same-chooses line arms w f g p.2 h)))

    pub Same-does_all : (cs : Block) (w : Surroundings) → IsBlock ds cs w → Same bs (does_all scalars limit cs) (does_all arrays limit cs)
    Same-does_all no_statements w h = Same-nothing bs
    Same-does_all (statement c cs) w h = Same-then bs _ _ _ _ (Same-does c (before_labels (labels_of cs) w) h.0) (Same-does_all cs w h.1)

-- ---- runs

one_run : (n : ℕ) (own : Dialect) (limit : Option ℕ) (p : Program) (input : List ℕ) → IsProgram77 own p → run (without_arrays n) limit p input ≡ run (with_arrays n) limit p input
one_run n own limit p input h =
    (Same-does_all n limit p.declarations (all_fixed own p.declarations h.declarations.each) p.body outermost h.statements).same (opening_state p input) refl

abbrev with_bits : ℕ → Bool → Dialect
with_bits n a = record { bits = n; arrays = a }

whatever_arrays : (n : ℕ) (a b : Bool) (own : Dialect) (limit : Option ℕ) (p : Program) (input : List ℕ) → IsProgram77 own p → run (with_bits n a) limit p input ≡ run (with_bits n b) limit p input
whatever_arrays n true true own limit p input h = refl
whatever_arrays n true false own limit p input h = sym (one_run n own limit p input h)
whatever_arrays n false true own limit p input h = one_run n own limit p input h
whatever_arrays n false false own limit p input h = refl

pub source_has_one_run : SourceHasOneRun
source_has_one_run lang other own limit p input e h =
    subst (λ n. run lang limit p input ≡ run (with_bits n other.arrays) limit p input) e (whatever_arrays lang.bits lang.arrays other.arrays own limit p input h)

pub sequential_run_is_array_run : (width : Width) → SequentialRunIsArrayRun width
sequential_run_is_array_run width own p input h = one_run (bits_of width) own None p input h
