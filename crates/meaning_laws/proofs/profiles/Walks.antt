-- Statements of which enough is known keep a store that holds the program, and bring no fault but those of F.
use Rattle.std.proofs.Common.{◌≡◌, sym, subst, ℕ, true, Option, Some, None, IfSome, List, [], ◌∷◌, Result}
use Rattle.std.specs.List.{AllByRecursion}
use Rattle.tree.specs.OperationFaults.{kind_of}
use Rattle.tree.specs.Plain.{Expression, Expressions, Logic, Named, Reference, Item, Single, Constant, ImpliedDo, Items, no_items, item, Statement, Assignment, Where, If, Do, Label, GoTo, Stop, Read, Print, Allocate, Deallocate, Arms, no_arms, arm, Block, no_statements, statement, Declaration, Program}
use Rattle.tree.specs.declared.stmts.Mark.{Mark}
use Rattle.tree.specs.declared.ops.Kind.{Kind}
use Rattle.tree.specs.declared.ops.Value.{Value}
use Rattle.tree.specs.declared.ops.Fault.{Fault}
use Rattle.meaning.specs.Dialect.{Dialect}
use Rattle.meaning.specs.Store.{Store, Cell, stored_bounds}
use Rattle.meaning.specs.Texts.{output_text}
use Rattle.meaning.specs.Typed.{declared}
use Rattle.meaning.specs.Value.{value_of, truth_of, cell_named, item_cells, item_values, is_array, named, is_in_range}
use Rattle.meaning.specs.ArrayStatements.{writes_of, allocated_bounds}
use Rattle.meaning.specs.Holding.{HasBounds, HoldsProgram}
use Rattle.meaning.specs.Run.{Going, Jumping, Stopped, Act, nothing, goes, first_blank, arrives, assigns, array_assigns, reads_item, reads_items, prints_item, prints_items, does, chooses, does_all, run, opening_state}
use Rattle.meaning.proofs.Kept.{Keeps}
use Rattle.meaning_laws.proofs.profiles.Answering.{AnyValue, all_any}
use Rattle.meaning_laws.proofs.profiles.Stores.{Fits, opening_holds}
use Rattle.meaning_laws.proofs.profiles.Parts.{AllowsRest, Good, Known, IsNumeric, IsVariable, keeps_nothing, keeps_then, keeps_goes, keeps_either, keeps_evaluates, keeps_for_each, keeps_writes, keeps_allocates, keeps_deallocates, keeps_counts_step, keeps_checks_range, keeps_stores, keeps_begins_line, keeps_skips_line, keeps_reads_into, keeps_loops, keeps_elements}

module _ (lang : Dialect) (limit : Option ℕ) (p : Program) (F : Fault → Type 0) (rest : AllowsRest F) where
  abbrev pub Is : {A : Type 0} → (A → Type 0) → (Store → Result A Fault) → Type 0
  Is Q f = Known lang limit p F rest Q f

  abbrev Act-keeps : Act → Type 0
  Act-keeps f = Keeps (Good lang limit p F rest) f

  -- values for their cells
  abbrev pub AreWrites : List (Cell × Value) → Type 0
  AreWrites ws = AllByRecursion (λ (w : Cell × Value). Fits lang p w.0.name w.1) ws

  pub record IsAssigned (left : Reference) (right : Expression) : Type 0 where
    pub kind : Kind
    pub suits : (v : Value) → kind_of v ≡ kind → is_in_range lang.bits v ≡ true → Fits lang p left.name v
    pub value : Is (λ v. kind_of v ≡ kind) (value_of lang right)
    pub cell : Is (λ (c : Cell). c.name ≡ left.name) (cell_named lang left)
    pub whole : (s : Store) → HoldsProgram lang p s → is_array lang (named left) s ≡ true → Is AreWrites (writes_of lang (Logic true) left right)

  abbrev pub IsReadInto : Expression → Type 0
  IsReadInto (Named x ps) = Is AnyValue (item_cells lang x ps)
  IsReadInto e = Unit {0}

  abbrev pub IsLoop : List ℕ → Expression → Expression → Expression → Type 0
  IsLoop x a b c = IsVariable lang limit p F rest x × IsNumeric lang limit p F rest a × IsNumeric lang limit p F rest b × IsNumeric lang limit p F rest c

  abbrev mutual
    pub InputIsFine : Item → Type 0
    InputIsFine (Single e) = IsReadInto e
    InputIsFine (Constant t) = Unit {0}
    InputIsFine (ImpliedDo is x a b c) = IsLoop x a b c × InputsAreFine is

    pub InputsAreFine : Items → Type 0
    InputsAreFine no_items = Unit {0}
    InputsAreFine (item i is) = InputIsFine i × InputsAreFine is

  abbrev mutual
    pub OutputIsFine : Item → Type 0
    OutputIsFine (Single e) = Is AnyValue (item_values lang e)
    OutputIsFine (Constant t) = Unit {0}
    OutputIsFine (ImpliedDo is x a b c) = IsLoop x a b c × OutputsAreFine is

    pub OutputsAreFine : Items → Type 0
    OutputsAreFine no_items = Unit {0}
    OutputsAreFine (item i is) = OutputIsFine i × OutputsAreFine is

  pub record IsAllocated (x : List ℕ) (es : Expressions) : Type 0 where
    pub given : Is (λ bs. IfSome (declared p.declarations x) (λ (e : Declaration). HasBounds e.extent (Some bs))) (allocated_bounds lang x es)

  pub record IsDeallocated (x : List ℕ) : Type 0 where
    pub suits : IfSome (declared p.declarations x) (λ (e : Declaration). HasBounds e.extent None)
    pub known : Is AnyValue (stored_bounds x)

  abbrev mutual
    pub IsFine : Statement → Type 0
    IsFine (Assignment line mark left right) = IsAssigned left right
    IsFine (Where line mark mask left right) = Is AreWrites (writes_of lang mask left right)
    IsFine (If line arms other) = ArmsAreFine arms × BlockIsFine other
    IsFine (Do line x a b c body) = IsLoop x a b c × BlockIsFine body
    IsFine (Label n) = Unit {0}
    IsFine (GoTo line n) = Unit {0}
    IsFine (Stop line) = Unit {0}
    IsFine (Read line is) = InputsAreFine is
    IsFine (Print line is) = OutputsAreFine is
    IsFine (Allocate line x es) = IsAllocated x es
    IsFine (Deallocate line x) = IsDeallocated x

    pub ArmsAreFine : Arms → Type 0
    ArmsAreFine no_arms = Unit {0}
    ArmsAreFine (arm test body more) = Is AnyValue (truth_of lang test) × BlockIsFine body × ArmsAreFine more

    pub BlockIsFine : Block → Type 0
    BlockIsFine no_statements = Unit {0}
    BlockIsFine (statement c cs) = IsFine c × BlockIsFine cs

  -- ---- each is kept

  keeps_assigns : (line : ℕ) (left : Reference) (right : Expression) → IsAssigned left right → Act-keeps (assigns lang limit line left right)
  keeps_assigns line left right h =
      keeps_evaluates lang limit p F rest (λ v. kind_of v ≡ h.kind) line _ _ h.value (λ v k.
      keeps_evaluates lang limit p F rest (λ (c : Cell). c.name ≡ left.name) line _ _ h.cell (λ c e.
      keeps_checks_range lang limit p F rest line v _ (λ r. keeps_counts_step lang limit p F rest _
      (keeps_stores lang limit p F rest c v (subst (λ x. Fits lang p x v) (sym e) (h.suits v k r))))))

  keeps_array_assigns : (line : ℕ) (mask : Expression) (left : Reference) (right : Expression) → Is AreWrites (writes_of lang mask left right) → Act-keeps (array_assigns lang limit line mask left right)
  keeps_array_assigns line mask left right h = keeps_evaluates lang limit p F rest AreWrites line _ _ h (λ ws a. keeps_elements lang limit p F rest ws a)

  keeps_assignment : (line : ℕ) (mark : Option Mark) (left : Reference) (right : Expression) → IsAssigned left right → Act-keeps (does lang limit (Assignment line mark left right))
  keeps_assignment line mark left right h = keeps_counts_step lang limit p F rest _ (record {
    at = λ s q. (keeps_either lang limit p F rest (is_array lang (named left) s.store) _ _
        (λ e. keeps_array_assigns line (Logic true) left right (h.whole s.store q.store e)) (λ e. keeps_assigns line left right h)).at s q;
  })

  mutual
    keeps_reads_item : (i : Item) (line : ℕ) → InputIsFine i → Act-keeps (reads_item lang limit i line)
    keeps_reads_item (Single (Named x ps)) line h = keeps_evaluates lang limit p F rest AnyValue line _ _ h (λ cs u. keeps_for_each lang limit p F rest AnyValue cs _ (all_any cs) (λ c v. keeps_reads_into lang limit p F rest line c))
    keeps_reads_item (ImpliedDo is x a b c) line h = keeps_loops lang limit p F rest line x a b c _ h.0.0 h.0.1 h.0.2 h.0.3 (keeps_reads_items is line h.1)
    keeps_reads_item _ line h = keeps_nothing lang limit p F rest

    keeps_reads_items : (is : Items) (line : ℕ) → InputsAreFine is → Act-keeps (reads_items lang limit is line)
    keeps_reads_items no_items line h = keeps_nothing lang limit p F rest
    keeps_reads_items (item i is) line h = keeps_then lang limit p F rest _ _ (keeps_reads_item i line h.0) (keeps_reads_items is line h.1)

  mutual
    keeps_prints_item : (i : Item) (line : ℕ) → OutputIsFine i → Act-keeps (prints_item lang limit i line)
    keeps_prints_item (Single e) line h = keeps_evaluates lang limit p F rest AnyValue line _ _ h (λ vs u. keeps_writes lang limit p F rest (output_text vs))
    keeps_prints_item (Constant t) line h = keeps_writes lang limit p F rest t
    keeps_prints_item (ImpliedDo is x a b c) line h = keeps_loops lang limit p F rest line x a b c _ h.0.0 h.0.1 h.0.2 h.0.3 (keeps_prints_items is line h.1)

    keeps_prints_items : (is : Items) (line : ℕ) → OutputsAreFine is → Act-keeps (prints_items lang limit is line)
    keeps_prints_items no_items line h = keeps_nothing lang limit p F rest
    keeps_prints_items (item i is) line h = keeps_then lang limit p F rest _ _ (keeps_prints_item i line h.0) (keeps_prints_items is line h.1)

  mutual
    keeps_does : (c : Statement) → IsFine c → Act-keeps (does lang limit c)
    keeps_does (Assignment line mark left right) h = keeps_assignment line mark left right h
    keeps_does (Where line mark mask left right) h =
        keeps_either lang limit p F rest lang.arrays _ _ (λ e. keeps_counts_step lang limit p F rest _ (keeps_array_assigns line mask left right h)) (λ e. keeps_nothing lang limit p F rest)
    keeps_does (If line arms other) h = keeps_chooses line arms _ h.0 (keeps_does_all other h.1)
    keeps_does (Do line x a b c body) h = keeps_loops lang limit p F rest line x a b c _ h.0.0 h.0.1 h.0.2 h.0.3 (keeps_does_all body h.1)
    keeps_does (Label n) h = record { at = λ s. (keeps_either lang limit p F rest (arrives n s.way) (goes Going) nothing (λ e. keeps_goes lang limit p F rest Going tt) (λ e. keeps_nothing lang limit p F rest)).at s }
    keeps_does (GoTo line n) h = keeps_counts_step lang limit p F rest _ (keeps_goes lang limit p F rest (Jumping n) tt)
    keeps_does (Stop line) h = keeps_counts_step lang limit p F rest _ (keeps_goes lang limit p F rest Stopped tt)
    keeps_does (Read line is) h =
        keeps_counts_step lang limit p F rest _ (keeps_then lang limit p F rest _ _ (keeps_begins_line lang limit p F rest line)
        (keeps_then lang limit p F rest _ _ (keeps_reads_items is line h) (keeps_skips_line lang limit p F rest)))
    keeps_does (Print line is) h =
        keeps_counts_step lang limit p F rest _ (keeps_then lang limit p F rest _ _ (keeps_writes lang limit p F rest (first_blank is))
        (keeps_then lang limit p F rest _ _ (keeps_prints_items is line h) (keeps_writes lang limit p F rest (10 ∷ []))))
    keeps_does (Allocate line x es) h =
        keeps_either lang limit p F rest lang.arrays _ _
        (λ e. keeps_counts_step lang limit p F rest _ (keeps_evaluates lang limit p F rest _ line _ _ h.given (λ bs f. keeps_allocates lang limit p F rest x bs f))) (λ e. keeps_nothing lang limit p F rest)
    keeps_does (Deallocate line x) h =
        keeps_either lang limit p F rest lang.arrays _ _
        (λ e. keeps_counts_step lang limit p F rest _ (keeps_evaluates lang limit p F rest AnyValue line _ _ h.known (λ bs u. keeps_deallocates lang limit p F rest x h.suits))) (λ e. keeps_nothing lang limit p F rest)

    keeps_chooses : (line : ℕ) (arms : Arms) (f : Act) → ArmsAreFine arms → Act-keeps f → Act-keeps (chooses lang limit line arms f)
    keeps_chooses line no_arms f h k = k
    keeps_chooses line (arm test body more) f h k =
        keeps_counts_step lang limit p F rest _ (keeps_evaluates lang limit p F rest AnyValue line _ _ h.0 (λ b u.
        keeps_either lang limit p F rest b _ _ (λ e. keeps_does_all body h.1) (λ e. keeps_chooses line more f h.2 k)))

    pub keeps_does_all : (cs : Block) → BlockIsFine cs → Act-keeps (does_all lang limit cs)
    keeps_does_all no_statements h = keeps_nothing lang limit p F rest
    keeps_does_all (statement c cs) h = keeps_then lang limit p F rest _ _ (keeps_does c h.0) (keeps_does_all cs h.1)

  pub run_is_good : (input : List ℕ) → BlockIsFine p.body → Good lang limit p F rest (run lang limit p input)
  run_is_good input h = (keeps_does_all p.body h).at (opening_state p input) (record { store = opening_holds lang p; way = tt })
