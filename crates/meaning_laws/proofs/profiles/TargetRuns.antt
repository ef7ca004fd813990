-- Of the statements of a Fortran 90 program enough is known for each run to keep a store that holds the program.
use Rattle.std.proofs.Common.{◌≡◌, refl, sym, subst, ◌∙◌, ℕ, ℤ, pos, Bool, true, false, cond, Option, Some, None, IfSome, List, [], ◌∷◌, map, length, Ok, Err, arith}
use Rattle.std.specs.List.{AllByRecursion, zip}
use Rattle.std.specs.Option.{IsSomeAnd}
use Rattle.tree.specs.Operators.{as_number, as_numbers, as_truth}
use Rattle.tree.specs.Plain.{Expression, Expressions, no_expressions, expression, Logic, Named, Unary, Binary, Apply, Constructor, Spread, Transpose, Reshape, Reduce, Number, Reference, Item, Single, Constant, ImpliedDo, Items, no_items, item, Statement, Assignment, Where, If, Do, Label, GoTo, Stop, Read, Print, Allocate, Deallocate, Arms, no_arms, arm, Block, no_statements, statement, Extent, Given, Later, Declaration, Program}
use Rattle.tree.specs.declared.ops.Kind.{Kind}
use Rattle.tree.specs.declared.ops.Value.{Value}
use Rattle.tree.specs.declared.ops.Fault.TheVariants.{Overflow}
use Rattle.meaning.specs.Dialect.{Dialect}
use Rattle.meaning.specs.Store.{Store, Cell, stored_bounds}
use Rattle.meaning.specs.Typed.{declared, number_of_arguments}
use Rattle.meaning.specs.Blocks.{Surroundings, outermost, within_loop, before_labels, labels_of}
use Rattle.meaning.specs.ArrayValues.{Elements, each, positions, conform}
use Rattle.meaning.specs.Sections.{extents_of, cells_along}
use Rattle.meaning.specs.Value.{value_of, values_of, array_of, subscript_values, named, is_in_range}
use Rattle.meaning.specs.ArrayStatements.{second, where_true, free, axes_named, storable, writes_of}
use Rattle.meaning.specs.Holding.{HasBounds, IsStorable, HoldsProgram}
use Rattle.meaning.specs.Run.{Way, Going, Jumping, Stopped, Failed, Cut}
use Rattle.meaning.specs.Typed90 as typed
use Rattle.meaning.specs.Items90 as items90
use Rattle.meaning.specs.Typed90.{HasKind, IsIntegerScalar}
use Rattle.meaning.specs.Profile90 as target
use Rattle.meaning.specs.Profile90.{IsProgram90, IsWhole}
use Rattle.meaning.specs.Extents.{IsAllocatable}
use Rattle.meaning_laws.proofs.profiles.Answering.{AnyFault, AnyValue, behind, weaker, each_answers, all_any}
use Rattle.meaning_laws.proofs.profiles.Stores.{Fits, opening_holds}
use Rattle.meaning_laws.proofs.profiles.ValueKinds.{Gives, IsKind, ElementsAre, any, after, cell_is, integer_fits, value_is, array_is}
use Rattle.meaning_laws.proofs.profiles.Parts.{AllowsRest, Allowed, IsVariable}
use Rattle.meaning_laws.specs.profiles.Stores.{OpeningStoreHolds, StatementsKeepStores, RunHolds, SourceRunHolds}
use Rattle.meaning_laws.proofs.profiles.Targets.{block_is}
use Rattle.meaning_laws.proofs.profiles.Programs.{as_it_stands}
use Rattle.meaning_laws.proofs.profiles.Walks.{Is, AreWrites, IsAssigned, IsReadInto, InputIsFine, InputsAreFine, OutputIsFine, OutputsAreFine, IsLoop, IsAllocated, IsDeallocated, IsFine, ArmsAreFine, BlockIsFine, keeps_does_all, run_is_good}

pub any_rest : AllowsRest AnyFault
any_rest = record { overflow = tt; zero_divide = tt; bounds = tt; zero_step = tt; trip_count = tt; input_end = tt; input_form = tt }

-- ---- the bounds that ALLOCATE gives

pub numbers_length : (vs : List Value) → Gives (λ (zs : List ℤ). length zs ≡ length vs) (as_numbers vs)
numbers_length [] = refl
numbers_length (v ∷ vs) =
    after _ (as_number v) _ (λ z. behind AnyFault (λ (zs : List ℤ). length zs ≡ length vs) _ (as_numbers vs) _ (numbers_length vs) (λ zs e. let f : length (z ∷ zs) ≡ length (v ∷ vs) = omega (arith, e) in f))

pub values_length : (lang : Dialect) (es : Expressions) (s : Store) → Gives (λ (vs : List Value). length vs ≡ number_of_arguments es) (values_of lang es s)
values_length lang no_expressions s = refl
values_length lang (expression e es) s =
    after _ (value_of lang e s) _ (λ x. behind AnyFault (λ (vs : List Value). length vs ≡ number_of_arguments es) _ (values_of lang es s) _ (values_length lang es s)
    (λ xs e'. let f : length (x ∷ xs) ≡ number_of_arguments (expression e es) = omega (arith, e') in f))

pub length_map : {A B : Type 0} → (f : A → B) (xs : List A) → length (map f xs) ≡ length xs
length_map f [] = refl
length_map f (x ∷ xs) = let e = length_map f xs in omega (arith, e)

free_length : (b : Option (List (ℤ × ℤ))) (ns : List ℤ) → Gives (λ (bs : List (ℤ × ℤ)). length bs ≡ length ns) (free b ns)
free_length (Some bs) ns = tt
free_length None ns = length_map (λ n. (pos 1, n)) ns

-- ---- what an array assignment stores

module _ (lang : Dialect) (p : Program) where
  abbrev ds : List Declaration
  ds = p.declarations

  abbrev Of : List ℕ → List ℕ × Cell → Type 0
  Of x q = q.1.name ≡ x

  cells_of_name : (x : List ℕ) (iss : List (List ℤ)) → AllByRecursion (λ (c : Cell). c.name ≡ x) (map (λ is. record { name = x; subscripts = is }) iss)
  cells_of_name x [] = tt
  cells_of_name x (is ∷ iss) = (refl, cells_of_name x iss)

  placed : (x : List ℕ) (ps : List (List ℕ)) (cs : List Cell) → AllByRecursion (λ (c : Cell). c.name ≡ x) cs → AllByRecursion (Of x) (zip ps cs)
  placed x [] cs h = tt
  placed x (q ∷ ps) [] h = tt
  placed x (q ∷ ps) (c ∷ cs) h = (h.0, placed x ps cs h.1)

  chosen_are : (x : List ℕ) (m : Elements Value) (ps : List (List ℕ × Cell)) → AllByRecursion (Of x) ps → Gives (AllByRecursion (Of x)) (where_true m ps)
  chosen_are x m [] h = tt
  chosen_are x m (q ∷ ps) h =
      after (AllByRecursion (Of x)) (m.at q.0) _ (λ v. after (AllByRecursion (Of x)) (as_truth v) _ (λ b. behind AnyFault (AllByRecursion (Of x)) (AllByRecursion (Of x)) (where_true m ps) _ (chosen_are x m ps h.1) (λ more a. by b more a)))
    where
      by : (b : Bool) (more : List (List ℕ × Cell)) → AllByRecursion (Of x) more → AllByRecursion (Of x) (cond b (q ∷ more) more)
      by true more a = (h.0, a)
      by false more a = a

  abbrev Storable : Kind → Value → Type 0
  Storable k v = IsStorable lang k v

  storable_is : (k : Kind) (v : Value) → IsKind k v → Gives (Storable k) (storable lang v)
  storable_is k v h = by (is_in_range lang.bits v) refl
    where
      by : (b : Bool) → is_in_range lang.bits v ≡ b → Gives (Storable k) (cond b (Ok v) (Err Overflow))
      by true e = record { kind = h; within = e }
      by false e = tt

  written : (x : List ℕ) (k : Kind) → ((v : Value) → IsStorable lang k v → Fits lang p x v) → (qs : List (List ℕ × Cell)) (vs : List Value) → AllByRecursion (Of x) qs → AllByRecursion (Storable k) vs
      → AllByRecursion (λ (w : Cell × Value). Fits lang p w.0.name w.1) (zip (map second qs) vs)
  written x k f [] vs h g = tt
  written x k f (q ∷ qs) [] h g = tt
  written x k f (q ∷ qs) (v ∷ vs) h g = (subst (λ y. Fits lang p y v) (sym h.0) (f v g.0), written x k f qs vs h.1 g.1)

  abbrev Q : List (Cell × Value) → Type 0
  Q ws = AllByRecursion (λ (w : Cell × Value). Fits lang p w.0.name w.1) ws

  writes_are : (mask : Expression) (left : Reference) (right : Expression) (k : Kind) → ((v : Value) → IsStorable lang k v → Fits lang p left.name v) → HasKind ds right k
      → (s : Store) → HoldsProgram lang p s → Gives (λ ws. AllByRecursion (λ (w : Cell × Value). Fits lang p w.0.name w.1) ws) (writes_of lang mask left right s)
  writes_are mask left right k f g s h =
      after Q (array_of lang mask s) _ (λ m. after Q (axes_named lang left s) _ (λ axes. after Q (conform m.extents (extents_of axes)) _ (λ ns.
      behind AnyFault (ElementsAre k) Q (array_of lang right s) _ (array_is lang p right k s h g) (λ a ka. after Q (conform ns a.extents) _ (λ ms.
      behind AnyFault (AllByRecursion (Of left.name)) Q (where_true m (zip (positions (extents_of axes)) (cells_along left.name axes))) _
      (chosen_are left.name m _ (placed left.name (positions (extents_of axes)) (cells_along left.name axes) (cells_of_name left.name _))) (λ chosen qc.
      behind AnyFault (AllByRecursion (IsKind k)) Q (each (λ (q : List ℕ × Cell). a.at q.0) chosen) _ (each_answers AnyFault AnyValue (IsKind k) (λ q. a.at q.0) chosen (λ q u. ka q.0) (all_any chosen)) (λ xs qx.
      behind AnyFault (AllByRecursion (Storable k)) Q (each (storable lang) xs) _ (each_answers AnyFault (IsKind k) (Storable k) (storable lang) xs (storable_is k) qx) (λ vs qv.
      written left.name k f chosen vs qc qv))))))))

  -- ---- what is known of each statement

  module _ (limit : Option ℕ) where
    variable : (x : List ℕ) → IsIntegerScalar ds x → IsVariable lang limit p AnyFault any_rest x
    variable x h = record {
      cell = λ s q. cell_is lang p (s.bounds x) x [];
      fits' = λ z e. integer_fits lang p x z h e;
      number = λ c e s q. any (as_number (s.held c));
    }

    loop_fine : (x : List ℕ) (around : List (List ℕ)) (a b c : Expression) → typed.IsDoVariable ds x around → IsLoop lang limit p AnyFault any_rest x a b c
    loop_fine x around a b c h = (variable x h.integer, λ s q. any _, λ s q. any _, λ s q. any _)

    suits_name : (x : List ℕ) (d : Declaration) → declared ds x ≡ Some d → (v : Value) → IsStorable lang d.kind v → Fits lang p x v
    suits_name x d e v h = subst (λ o. IfSome o (λ (c : Declaration). IsStorable lang c.kind v)) (sym e) h

    assigned : (left : Reference) (right : Expression) → IsSomeAnd (declared ds left.name) (λ d. IsWhole ds (named left) d.kind × IsWhole ds right d.kind) → IsAssigned lang limit p AnyFault any_rest left right
    assigned left right h = by (declared ds left.name) refl h
      where
        by : (o : Option Declaration) → declared ds left.name ≡ o → IsSomeAnd o (λ d. IsWhole ds (named left) d.kind × IsWhole ds right d.kind) → IsAssigned lang limit p AnyFault any_rest left right
        by None e g = absurd g
        by (Some d) e g = record {
          kind = d.kind;
          suits = λ v k r. suits_name left.name d e v (record { kind = k; within = r });
          value = λ s q. value_is lang p right d.kind s q g.1.suits;
          cell = λ s q. after (λ (c : Cell). c.name ≡ left.name) (subscript_values lang left.subscripts s) _ (λ is. cell_is lang p (s.bounds left.name) left.name is);
          whole = λ s q r s' q'. writes_are (Logic true) left right d.kind (suits_name left.name d e) g.1.suits s' q';
        }

    masked : (mask : Expression) (left : Reference) (right : Expression) → IsSomeAnd (declared ds left.name) (λ d. IsWhole ds (named left) d.kind × IsWhole ds right d.kind)
        → Is lang limit p AnyFault any_rest (AreWrites lang limit p AnyFault any_rest) (writes_of lang mask left right)
    masked mask left right h = by (declared ds left.name) refl h
      where
        by : (o : Option Declaration) → declared ds left.name ≡ o → IsSomeAnd o (λ d. IsWhole ds (named left) d.kind × IsWhole ds right d.kind)
            → Is lang limit p AnyFault any_rest (AreWrites lang limit p AnyFault any_rest) (writes_of lang mask left right)
        by None e g = absurd g
        by (Some d) e g = λ s q. writes_are mask left right d.kind (suits_name left.name d e) g.1.suits s q

    allocation : (x : List ℕ) (es : Expressions) → IsSomeAnd (declared ds x) (λ d. d.extent ≡ Later (number_of_arguments es)) → IsAllocated lang limit p AnyFault any_rest x es
    allocation x es h = record {
      given = λ s q.
          behind AnyFault (λ (vs : List Value). length vs ≡ number_of_arguments es) _ (values_of lang es s) _ (values_length lang es s) (λ vs a.
          behind AnyFault (λ (zs : List ℤ). length zs ≡ length vs) _ (as_numbers vs) _ (numbers_length vs) (λ zs b.
          weaker AnyFault (λ (bs : List (ℤ × ℤ)). length bs ≡ length zs) _ (free (s.bounds x) zs) (λ bs c. by (declared ds x) bs (c ∙ b ∙ a) h) (free_length (s.bounds x) zs)));
    }
      where
        own : (e : Extent) (bs : List (ℤ × ℤ)) (n : ℕ) → e ≡ Later n → length bs ≡ n → HasBounds e (Some bs)
        own e bs n q l = subst (λ f. HasBounds f (Some bs)) (sym q) l

        by : (o : Option Declaration) (bs : List (ℤ × ℤ)) → length bs ≡ number_of_arguments es → IsSomeAnd o (λ d. d.extent ≡ Later (number_of_arguments es)) → IfSome o (λ (e : Declaration). HasBounds e.extent (Some bs))
        by None bs l g = tt
        by (Some d) bs l g = own d.extent bs (number_of_arguments es) g l

    deallocation : (x : List ℕ) → IsSomeAnd (declared ds x) (λ d. IsAllocatable d.extent) → IsDeallocated lang limit p AnyFault any_rest x
    deallocation x h = record { suits = by (declared ds x) h; known = λ s q. any (stored_bounds x s) }
      where
        own : (e : Extent) → IsAllocatable e → HasBounds e None
        own (Given bs) h = absurd h
        own (Later n) h = tt

        by : (o : Option Declaration) → IsSomeAnd o (λ d. IsAllocatable d.extent) → IfSome o (λ (e : Declaration). HasBounds e.extent None)
        by None g = tt
        by (Some d) g = own d.extent g

    read_into : (e : Expression) → IsReadInto lang limit p AnyFault any_rest e
    read_into (Named x ps) = λ s q. any _
    read_into (Number n) = tt
    read_into (Logic b) = tt
    read_into (Unary o a) = tt
    read_into (Binary o a b) = tt
    read_into (Apply f es) = tt
    read_into (Constructor es ls) = tt
    read_into (Spread a n e) = tt
    read_into (Transpose a) = tt
    read_into (Reshape a es) = tt
    read_into (Reduce r a) = tt

    mutual
      input : (i : Item) (w : List (List ℕ)) → items90.IsInputItem ds i w → InputIsFine lang limit p AnyFault any_rest i
      input (Single e) w h = read_into e
      input (Constant t) w h = tt
      input (ImpliedDo is x a b c) w h = (loop_fine x w a b c h.1, inputs is (x ∷ w) h.5)

      inputs : (is : Items) (w : List (List ℕ)) → items90.AreInputItems ds is w → InputsAreFine lang limit p AnyFault any_rest is
      inputs no_items w h = tt
      inputs (item i is) w h = (input i w h.0, inputs is w h.1)

    mutual
      output : (i : Item) (w : List (List ℕ)) → items90.IsOutputItem ds i w → OutputIsFine lang limit p AnyFault any_rest i
      output (Single e) w h = λ s q. any _
      output (Constant t) w h = tt
      output (ImpliedDo is x a b c) w h = (loop_fine x w a b c h.1, outputs is (x ∷ w) h.5)

      outputs : (is : Items) (w : List (List ℕ)) → items90.AreOutputItems ds is w → OutputsAreFine lang limit p AnyFault any_rest is
      outputs no_items w h = tt
      outputs (item i is) w h = (output i w h.0, outputs is w h.1)

    mutual
      fine : (c : Statement) (w : Surroundings) → target.IsStatement ds c w → IsFine lang limit p AnyFault any_rest c
      fine (Assignment line mark left right) w h = assigned left right h.1.0
      fine (Where line mark mask left right) w h = masked mask left right h.2.0
      fine (If line arms other) w h = (arms_fine arms w h.2, block_fine other w h.3)
      fine (Do line x a b c body) w h = (loop_fine x w.variables a b c h.1, block_fine body (within_loop x w) h.5)
      fine (Label n) w h = tt
      fine (GoTo line n) w h = tt
      fine (Stop line) w h = tt
      fine (Read line is) w h = inputs is w.variables h.1
      fine (Print line is) w h = outputs is w.variables h.1
      fine (Allocate line x es) w h = allocation x es h.1.0
      fine (Deallocate line x) w h = deallocation x h.1

      arms_fine : (arms : Arms) (w : Surroundings) → target.AreArms ds arms w → ArmsAreFine lang limit p AnyFault any_rest arms
      arms_fine no_arms w h = tt
      arms_fine (arm test body more) w h = ((λ s q. any _), block_fine body w h.1, arms_fine more w h.2)

      pub block_fine : (b : Block) (w : Surroundings) → target.IsBlock ds b w → BlockIsFine lang limit p AnyFault any_rest b
      block_fine no_statements w h = tt
      block_fine (statement c cs) w h = (fine c (before_labels (labels_of cs) w) h.0, block_fine cs w h.1)

pub opening_store_holds : OpeningStoreHolds
opening_store_holds lang p = opening_holds lang p

pub statements_keep_stores : StatementsKeepStores
statements_keep_stores lang limit p cs w s b h =
    ((keeps_does_all lang limit p AnyFault any_rest cs (block_fine lang p limit cs w b)).at s (record { store = h; way = any_way s.way })).store
  where
    any_way : (w : Way) → Allowed AnyFault w
    any_way Going = tt
    any_way (Jumping n) = tt
    any_way Stopped = tt
    any_way (Failed f line) = tt
    any_way Cut = tt

pub run_holds : RunHolds
run_holds lang limit p input h = (run_is_good lang limit p AnyFault any_rest input (block_fine lang p limit p.body outermost h.statements)).store

pub source_run_holds : SourceRunHolds
source_run_holds lang own limit p input h =
    (run_is_good lang limit p AnyFault any_rest input (block_fine lang p limit p.body outermost (block_is p.declarations p.declarations (as_it_stands own p h) p.body outermost h.statements))).store
