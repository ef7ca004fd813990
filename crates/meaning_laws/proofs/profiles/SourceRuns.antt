-- A run of a program of FORTRAN 77 meets plain faults alone.
use Rattle.std.proofs.Common.{◌≡◌, refl, sym, ap, subst, ◌∙◌, ◌⊎◌, inl, inr, ℕ, ℤ, Bool, true, false, ◌&&◌, not, cond, Option, Some, None, IfSome, List, [], ◌∷◌, length, map, Result, Ok, arith}
use Rattle.std.specs.Option.{IsSomeAnd}
use Rattle.tree.specs.Steps.{◌>>=◌}
use Rattle.tree.specs.Operators.{fits}
use Rattle.tree.specs.Plain.{Expression, Number, Logic, Named, Unary, Binary, Apply, Constructor, Spread, Transpose, Reshape, Reduce, Expressions, no_expressions, expression, Subscript, Only, Section, Subscripts, no_subscripts, subscript, Reference, Item, Single, Constant, ImpliedDo, Items, no_items, item, Statement, Assignment, Where, If, Do, Label, GoTo, Stop, Read, Print, Allocate, Deallocate, Arms, no_arms, arm, Block, no_statements, statement, Declaration, Program}
use Rattle.tree.specs.declared.ops.Kind.{Kind}
use Rattle.tree.specs.declared.ops.Kind.TheVariants.{Integer, Logical}
use Rattle.tree.specs.declared.ops.Value.TheVariants.{Int}
use Rattle.tree.specs.declared.ops.Fault.{Fault}
use Rattle.meaning.specs.Dialect.{Dialect}
use Rattle.meaning.specs.Store.{Store, Cell, cell_at, bounds_in, cells_of}
use Rattle.meaning.specs.Typed.{declared, dimensions, number_of_subscripts}
use Rattle.meaning.specs.Typed77 as typed
use Rattle.meaning.specs.Typed77.{HasKind, AreArguments, AreSubscripts, IsSubscript}
use Rattle.meaning.specs.Profile77 as source
use Rattle.meaning.specs.Profile77.{IsFixed, IsProgram77}
use Rattle.meaning.specs.Blocks.{Surroundings, outermost, within_loop, before_labels, labels_of}
use Rattle.meaning.specs.Value.{value_of, subscript_values, item_cells, item_values, all_elements, is_array, is_scalar, are_scalar, are_indices, is_index, is_bare, named, number_of, truth_of}
use Rattle.meaning.specs.Holding.{IsStorable, HoldsProgram}
use Rattle.meaning.proofs.ArrayLaws.{whole_name}
use Rattle.meaning_laws.specs.profiles.Faults.{IsPlainFault, SourceValueHasKind, SourceValueFaultIsPlain, SourceRunFaultIsPlain}
use Rattle.meaning_laws.proofs.profiles.Answering.{AnyValue, value, fault}
use Rattle.meaning_laws.proofs.profiles.ValueKinds.{IsKind}
use Rattle.meaning_laws.proofs.profiles.SourceValues.{Plainly, next, integer_plain, truth_plain, IsKnown, known, cell_known, value_plain, subscripts_plain}
use Rattle.meaning_laws.proofs.profiles.Programs.{fixed}
use Rattle.meaning_laws.proofs.profiles.Parts.{AllowsRest, Allowed, IsVariable}
use Rattle.meaning_laws.proofs.profiles.Walks.{Is, IsAssigned, IsReadInto, InputIsFine, InputsAreFine, OutputIsFine, OutputsAreFine, IsLoop, IsFine, ArmsAreFine, BlockIsFine, run_is_good}

pub plain_rest : AllowsRest IsPlainFault
plain_rest = record { overflow = tt; zero_divide = tt; bounds = tt; zero_step = tt; trip_count = tt; input_end = tt; input_form = tt }

both_true : (a b : Bool) → a ≡ true → b ≡ true → (a && b) ≡ true
both_true true b h g = g
both_true false b h g = absurd cc

no_array : (a b : Bool) → b ≡ true → (a && not b) ≡ false
no_array true true h = refl
no_array true false h = absurd cc
no_array false b h = refl

module _ (lang : Dialect) (limit : Option ℕ) (p : Program) (fixed' : (x : List ℕ) (e : Declaration) → declared p.declarations x ≡ Some e → IsFixed e.extent) where
  abbrev ds : List Declaration
  ds = p.declarations

  abbrev Known' : {A : Type 0} → (A → Type 0) → (Store → Result A Fault) → Type 0
  Known' Q f = Is lang limit p IsPlainFault plain_rest Q f

  -- ---- whatever has a kind is a scalar

  bare : (x : List ℕ) (k : Kind) (s : Store) → IsKnown lang p fixed' x k 0 s → is_bare (s.bounds x) ≡ true
  bare x k s h = ap is_bare h.are ∙ by h.bounds h.many
    where
      by : (bs : List (ℤ × ℤ)) → 0 ≡ length bs → is_bare (Some bs) ≡ true
      by [] e = refl
      by (b ∷ bs) e = absurd (omega (arith, e))

  mutual
    scalar : (e : Expression) (k : Kind) (s : Store) → HoldsProgram lang p s → HasKind ds e k → is_scalar e s.bounds ≡ true
    scalar (Number n) k s h g = refl
    scalar (Logic b) k s h g = refl
    scalar (Named x no_subscripts) k s h g = bare x k s (known lang p fixed' x k 0 s h g.0)
    scalar (Named x (subscript q ps)) k s h g = indices (subscript q ps) s h g.1
    scalar (Unary o a) k s h g = scalar a _ s h g.2
    scalar (Binary o a b) k s h g = both_true _ _ (scalar a _ s h g.2) (scalar b _ s h g.3)
    scalar (Apply f es) k s h g = scalars es s h g.3
    scalar (Constructor es ls) k s h g = absurd g
    scalar (Spread a n e) k s h g = absurd g
    scalar (Transpose a) k s h g = absurd g
    scalar (Reshape a es) k s h g = absurd g
    scalar (Reduce r a) k s h g = absurd g

    scalars : (es : Expressions) (s : Store) → HoldsProgram lang p s → AreArguments ds es → are_scalar es s.bounds ≡ true
    scalars no_expressions s h g = refl
    scalars (expression e es) s h g = both_true _ _ (scalar e _ s h g.0) (scalars es s h g.1)

    indices : (ps : Subscripts) (s : Store) → HoldsProgram lang p s → AreSubscripts ds ps → are_indices ps s.bounds ≡ true
    indices no_subscripts s h g = refl
    indices (subscript q ps) s h g = both_true _ _ (index q s h g.0) (indices ps s h g.1)

    index : (q : Subscript) (s : Store) → HoldsProgram lang p s → IsSubscript ds q → is_index q s.bounds ≡ true
    index (Only e) s h g = scalar e _ s h g
    index (Section a b c) s h g = absurd g

  never_array : (e : Expression) (k : Kind) (s : Store) → HoldsProgram lang p s → HasKind ds e k → is_array lang e s ≡ false
  never_array e k s h g = no_array lang.arrays (is_scalar e s.bounds) (scalar e k s h g)

  -- ---- numbers, truths, variables of loops

  numeric : (e : Expression) → HasKind ds e Integer → Known' AnyValue (number_of lang e)
  numeric e g s h = next (IsKind Integer) AnyValue (value_of lang e s) _ (value_plain lang p fixed' e Integer s h g) integer_plain

  truth : (e : Expression) → HasKind ds e Logical → Known' AnyValue (truth_of lang e)
  truth e g s h = next (IsKind Logical) AnyValue (value_of lang e s) _ (value_plain lang p fixed' e Logical s h g) truth_plain

  variable : (x : List ℕ) → HasKind ds (Named x no_subscripts) Integer → IsVariable lang limit p IsPlainFault plain_rest x
  variable x g = record {
    cell = λ s h. cell_known lang p fixed' x Integer 0 s [] (known lang p fixed' x Integer 0 s h g.0);
    fits' = λ z e. by z e (declared ds x) g.0;
    number = λ c e s h. integer_plain (s.held c) ((known lang p fixed' x Integer 0 s h g.0).kind c e);
  }
    where
      by : (z : ℤ) → fits lang.bits z ≡ true → (o : Option Declaration) → IsSomeAnd o (λ d. (Integer ≡ d.kind) × (0 ≡ length (dimensions d.extent))) → IfSome o (λ (e : Declaration). IsStorable lang e.kind (Int z))
      by z e None g = absurd g
      by z e (Some d) g = record { kind = g.0; within = e }

  loop_fine : (x : List ℕ) (around : List (List ℕ)) (a b c : Expression) → typed.IsDoVariable ds x around → HasKind ds a Integer → HasKind ds b Integer → HasKind ds c Integer → IsLoop lang limit p IsPlainFault plain_rest x a b c
  loop_fine x around a b c v ha hb hc = (variable x v.integer, numeric a ha, numeric b hb, numeric c hc)

  -- ---- assignments

  assigned : (left : Reference) (right : Expression) → IsSomeAnd (declared ds left.name) (λ d. typed.IsWhole ds (Named left.name left.subscripts) d.kind × typed.IsWhole ds right d.kind)
      → IsAssigned lang limit p IsPlainFault plain_rest left right
  assigned left right h = by (declared ds left.name) refl h
    where
      by : (o : Option Declaration) → declared ds left.name ≡ o → IsSomeAnd o (λ d. typed.IsWhole ds (Named left.name left.subscripts) d.kind × typed.IsWhole ds right d.kind) → IsAssigned lang limit p IsPlainFault plain_rest left right
      by None e g = absurd g
      by (Some d) e g = record {
        kind = d.kind;
        suits = λ v k r. subst (λ o. IfSome o (λ (c : Declaration). IsStorable lang c.kind v)) (sym e) (record { kind = k; within = r });
        value = λ s q. value_plain lang p fixed' right d.kind s q g.1.suits;
        cell = λ s q.
            next AnyValue (λ (c : Cell). c.name ≡ left.name) (subscript_values lang left.subscripts s) _ (subscripts_plain lang p fixed' left.subscripts s q g.0.suits.1)
            (λ is u. cell_known lang p fixed' left.name d.kind (number_of_subscripts left.subscripts) s is (known lang p fixed' left.name d.kind (number_of_subscripts left.subscripts) s q g.0.suits.0));
        whole = λ s q r. absurd (let n = never_array (named left) d.kind s q g.0.suits in (let f : true ≡ false = sym r ∙ n in cc));
      }

  -- ---- items

  whole_cells : (x : List ℕ) → typed.IsDeclared ds x → Known' AnyValue (item_cells lang x no_subscripts)
  whole_cells x g s h = by (declared ds x) refl g
    where
      at : (d : Declaration) → declared ds x ≡ Some d → Plainly AnyValue (item_cells lang x no_subscripts s)
      at d e =
          let w = known lang p fixed' x d.kind (length (dimensions d.extent)) s h (subst (λ o. IsSomeAnd o (λ c. (d.kind ≡ c.kind) × (length (dimensions d.extent) ≡ length (dimensions c.extent)))) (sym e) (refl, refl)) in
          subst (λ b. Plainly AnyValue (bounds_in b >>= λ bs. Ok (cells_of x bs))) (sym w.are) tt

      by : (o : Option Declaration) → declared ds x ≡ o → IsSomeAnd o (λ d. Unit {0}) → Plainly AnyValue (item_cells lang x no_subscripts s)
      by None e g = absurd g
      by (Some d) e g = at d e

  element_cells : (x : List ℕ) (q : Subscript) (ps : Subscripts) (k : Kind) → HasKind ds (Named x (subscript q ps)) k → Known' AnyValue (item_cells lang x (subscript q ps))
  element_cells x q ps k g s h =
      next AnyValue AnyValue (subscript_values lang (subscript q ps) s) _ (subscripts_plain lang p fixed' (subscript q ps) s h g.1) (λ is u.
      next (λ (c : Cell). c.name ≡ x) AnyValue (cell_at x is s) _ (cell_known lang p fixed' x k (number_of_subscripts (subscript q ps)) s is (known lang p fixed' x k (number_of_subscripts (subscript q ps)) s h g.0)) (λ c e. tt))

  cells_plain : (x : List ℕ) (ps : Subscripts) → typed.IsElementOrWhole ds x ps → Known' AnyValue (item_cells lang x ps)
  cells_plain x no_subscripts g = whole_cells x g
  cells_plain x (subscript q ps) (inl g) = element_cells x q ps Integer g
  cells_plain x (subscript q ps) (inr g) = element_cells x q ps Logical g

  chosen : {A : Type 0} (b : Bool) (q r : Result A Fault) → (b ≡ true → Plainly AnyValue q) → Plainly AnyValue r → Plainly AnyValue (cond b q r)
  chosen true q r h g = h refl
  chosen false q r h g = g

  held_plain : (x : List ℕ) (ps : Subscripts) (s : Store) → Plainly AnyValue (item_cells lang x ps s) → Plainly AnyValue (do cs ← item_cells lang x ps s; Ok (map s.held cs))
  held_plain x ps s h = next AnyValue AnyValue (item_cells lang x ps s) _ h (λ cs u. tt)

  impossible : {P : Type 0} → (e : Expression) (k : Kind) (s : Store) → HoldsProgram lang p s → HasKind ds e k → is_array lang e s ≡ true → P
  impossible e k s h g r = absurd (let n = never_array e k s h g in (let f : true ≡ false = sym r ∙ n in cc))

  named_values : (x : List ℕ) (ps : Subscripts) → typed.IsElementOrWhole ds x ps → Known' AnyValue (item_values lang (Named x ps))
  named_values x no_subscripts g s h =
      chosen (is_array lang (Named x no_subscripts) s) _ _ (λ e. subst (Plainly AnyValue) (sym (whole_name lang x s)) (held_plain x no_subscripts s (cells_plain x no_subscripts g s h))) (held_plain x no_subscripts s (cells_plain x no_subscripts g s h))
  named_values x (subscript q ps) (inl g) s h =
      chosen (is_array lang (Named x (subscript q ps)) s) _ _ (impossible (Named x (subscript q ps)) Integer s h g) (held_plain x (subscript q ps) s (cells_plain x (subscript q ps) (inl g) s h))
  named_values x (subscript q ps) (inr g) s h =
      chosen (is_array lang (Named x (subscript q ps)) s) _ _ (impossible (Named x (subscript q ps)) Logical s h g) (held_plain x (subscript q ps) s (cells_plain x (subscript q ps) (inr g) s h))

  single : (e : Expression) (k : Kind) (s : Store) → HoldsProgram lang p s → HasKind ds e k → Plainly AnyValue (cond (is_array lang e s) (all_elements lang e s) (do x ← value_of lang e s; Ok (x ∷ [])))
  single e k s h g = chosen (is_array lang e s) _ _ (impossible e k s h g) (next (IsKind k) AnyValue (value_of lang e s) (λ x. Ok (x ∷ [])) (value_plain lang p fixed' e k s h g) (λ x u. tt))

  either : (e : Expression) (s : Store) → HoldsProgram lang p s → HasKind ds e Integer ⊎ HasKind ds e Logical → Plainly AnyValue (cond (is_array lang e s) (all_elements lang e s) (do x ← value_of lang e s; Ok (x ∷ [])))
  either e s h (inl g) = single e Integer s h g
  either e s h (inr g) = single e Logical s h g

  printed : (e : Expression) → typed.IsOutput ds e → Known' AnyValue (item_values lang e)
  printed (Named x ps) g = named_values x ps g
  printed (Number n) g = λ s h. either (Number n) s h g
  printed (Logic b) g = λ s h. either (Logic b) s h g
  printed (Unary o a) g = λ s h. either (Unary o a) s h g
  printed (Binary o a b) g = λ s h. either (Binary o a b) s h g
  printed (Apply f es) g = λ s h. either (Apply f es) s h g
  printed (Constructor es ls) g = λ s h. either (Constructor es ls) s h g
  printed (Spread a n e) g = λ s h. either (Spread a n e) s h g
  printed (Transpose a) g = λ s h. either (Transpose a) s h g
  printed (Reshape a es) g = λ s h. either (Reshape a es) s h g
  printed (Reduce r a) g = λ s h. either (Reduce r a) s h g

  read_into : (e : Expression) (w : List (List ℕ)) → typed.IsInput ds e w → IsReadInto lang limit p IsPlainFault plain_rest e
  read_into (Named x ps) w g = cells_plain x ps g.0
  read_into (Number n) w g = tt
  read_into (Logic b) w g = tt
  read_into (Unary o a) w g = tt
  read_into (Binary o a b) w g = tt
  read_into (Apply f es) w g = tt
  read_into (Constructor es ls) w g = tt
  read_into (Spread a n e) w g = tt
  read_into (Transpose a) w g = tt
  read_into (Reshape a es) w g = tt
  read_into (Reduce r a) w g = tt

  mutual
    input : (i : Item) (w : List (List ℕ)) → typed.IsInputItem ds i w → InputIsFine lang limit p IsPlainFault plain_rest i
    input (Single e) w h = read_into e w h
    input (Constant t) w h = tt
    input (ImpliedDo is x a b c) w h = (loop_fine x w a b c h.1 h.2 h.3 h.4, inputs is (x ∷ w) h.5)

    inputs : (is : Items) (w : List (List ℕ)) → typed.AreInputItems ds is w → InputsAreFine lang limit p IsPlainFault plain_rest is
    inputs no_items w h = tt
    inputs (item i is) w h = (input i w h.0, inputs is w h.1)

  mutual
    output : (i : Item) (w : List (List ℕ)) → typed.IsOutputItem ds i w → OutputIsFine lang limit p IsPlainFault plain_rest i
    output (Single e) w h = printed e h
    output (Constant t) w h = tt
    output (ImpliedDo is x a b c) w h = (loop_fine x w a b c h.1 h.2 h.3 h.4, outputs is (x ∷ w) h.5)

    outputs : (is : Items) (w : List (List ℕ)) → typed.AreOutputItems ds is w → OutputsAreFine lang limit p IsPlainFault plain_rest is
    outputs no_items w h = tt
    outputs (item i is) w h = (output i w h.0, outputs is w h.1)

  -- ---- statements

  mutual
    fine : (c : Statement) (w : Surroundings) → source.IsStatement ds c w → IsFine lang limit p IsPlainFault plain_rest c
    fine (Assignment line mark left right) w h = assigned left right h.2.0
    fine (If line arms other) w h = (arms_fine arms w h.2, block_fine other w h.3)
    fine (Do line x a b c body) w h = (loop_fine x w.variables a b c h.1 h.2.suits h.3.suits h.4.suits, block_fine body (within_loop x w) h.5)
    fine (Label n) w h = tt
    fine (GoTo line n) w h = tt
    fine (Stop line) w h = tt
    fine (Read line is) w h = inputs is w.variables h.1
    fine (Print line is) w h = outputs is w.variables h.1
    fine (Where line mark mask left right) w h = absurd h
    fine (Allocate line x es) w h = absurd h
    fine (Deallocate line x) w h = absurd h

    arms_fine : (arms : Arms) (w : Surroundings) → source.AreArms ds arms w → ArmsAreFine lang limit p IsPlainFault plain_rest arms
    arms_fine no_arms w h = tt
    arms_fine (arm test body more) w h = (truth test h.0.suits, block_fine body w h.1, arms_fine more w h.2)

    pub block_fine : (b : Block) (w : Surroundings) → source.IsBlock ds b w → BlockIsFine lang limit p IsPlainFault plain_rest b
    block_fine no_statements w h = tt
    block_fine (statement c cs) w h = (fine c (before_labels (labels_of cs) w) h.0, block_fine cs w h.1)

-- ---- the laws

pub source_value_has_kind : SourceValueHasKind
source_value_has_kind lang own p e k s v h q g r = value IsPlainFault (IsKind k) (value_of lang e s) v (value_plain lang p (fixed own p.declarations h.declarations) e k s q g) r

pub source_value_fault_is_plain : SourceValueFaultIsPlain
source_value_fault_is_plain lang own p e k s f h q g r = fault IsPlainFault (IsKind k) (value_of lang e s) f (value_plain lang p (fixed own p.declarations h.declarations) e k s q g) r

pub source_run_fault_is_plain : SourceRunFaultIsPlain
source_run_fault_is_plain lang own limit p input f line h r =
    let good = run_is_good lang limit p IsPlainFault plain_rest input (block_fine lang limit p (fixed own p.declarations h.declarations) p.body outermost h.statements) in
    subst (Allowed IsPlainFault) r good.way
