-- What is known of the statements of a text for which no refusal has a number below some.
use Rattle.std.proofs.Common.{◌≡◌, ◌⊎◌, inr, ℕ, ◌+◌, ◌≤◌, Bool, true, false, cond, ◌||◌, IsTrue}
use Rattle.std.proofs.Common.{Option, Some, None, List, [], ◌∷◌, ◌++◌, length, map, refl, ap}
use Rattle.std.proofs.Common.{◌∙◌, arith, subst}
use Rattle.std.specs.List.{AllByRecursion, list_any}
use Rattle.std.specs.Str.{bytes_eq}
use Rattle.std.specs.Str.Lines.{lines}
use Rattle.tree.specs.Causes.{refusal_at}
use Rattle.tree.specs.Functions.{intrinsic_named}
use Rattle.tree.specs.Plain.{Declaration}
use Rattle.tree.specs.declared.functions.Intrinsic.{Intrinsic}
use Rattle.tree.specs.declared.ops.Kind.{Kind}
use Rattle.tree.specs.declared.refusals.Cause.TheVariants.{BadByte90, WideLiteral90, Structure, Declared90}
use Rattle.tree.specs.declared.refusals.Cause.TheVariants.{TypeClash90}
use Rattle.tree.specs.declared.stmts.Mark.{Mark}
use Rattle.meaning.specs.SymbolicNames.{IsLongName}
use Rattle.meaning.specs.Typed.{declared, rank_of_extent}
use Rattle.f90_grammar.specs.Blocks.{Placed}
use Rattle.f90_grammar.specs.Contents.{SuitsCallsIn, has_wide_literal_in}
use Rattle.f90_grammar.specs.Declared.{declarations_of, declarations_in, functions_in, Use90, IsKnown, HasKnownNames}
use Rattle.f90_grammar.specs.Declared.{uses90_of}
use Rattle.f90_grammar.specs.Forms as forms
use Rattle.f90_grammar.specs.Forms.{Form90, EntityForm90}
use Rattle.f90_grammar.specs.FreeForm.{FreeStatement, LinePiece, IsPiece, written_piece}
use Rattle.f90_grammar.specs.LineCauses.{LineState, LeadTo, is_bad_byte90, is_in_constant}
use Rattle.f90_grammar.specs.LineCauses.LeadTo.{nothing}
use Rattle.f90_grammar.specs.LineCauses.HasLineCause.{HoldsBadByte}
use Rattle.f90_grammar.specs.Order.{Place90, IsPlaceIn, IsInOrder, is_nothing90, is_disordered}
use Rattle.f90_grammar.specs.Reading.{AreStatementsOf, HaveForms, takes_mark, last_mark, if_taken, mark_left_over}
use Rattle.f90_grammar.specs.Reading.{entity_declaration, function_by, declares}
use Rattle.f90_grammar.specs.Refusals.HoldsIn.{HasNoStatement}
use Rattle.f90_grammar.specs.Refusals.HasCause90.{InLines, InStatements}
use Rattle.f90_grammar.specs.Refusals.IsRefusable.{For}
use Rattle.f90_grammar.specs.Suited.{Suits}
use Rattle.f90_laws.proofs.readings.Decisions.{affirmed}
use Rattle.f90_laws.proofs.readings.FormFacts.{suits}
use Rattle.f90_laws.proofs.readings.FreeLines.{AreGoodStatements, IsFormed, good_statements, formed}
use Rattle.f90_laws.proofs.readings.Lists.{all_both, all_right}
use Rattle.f90_laws.proofs.readings.PlaceFacts.{each_place}
use Rattle.f90_laws.proofs.readings.WordFacts.{IsWell, form_well, statement_words}
use Rattle.f90_blocks.specs.statement_trees.Executable.{IsMarked}
use Rattle.f90_read.specs.f90_suits.Ready.{IsReadyAt, AreReady, HoldsOfAll}
use Rattle.f90_trees.specs.Hiding.{function_in}
use Rattle.f90_trees.specs.declared.functions.Functions.{Functions}
use Rattle.f90_read.specs.surroundings.Misplaced.{AreProper, IsWrittenOut}
use Rattle.f90_read.specs.Checks.{IsClearBelow}
use Rattle.f90_read.proofs.NumberLaws.{holds_nowhere}

pub fewer : (text : List ℕ) (n m : ℕ) → n ≤ m → IsClearBelow text m → IsClearBelow text n
fewer text n m l clear r h = let k = clear r h in omega (arith, k)

-- ---- what the reading of a text says of each statement

are_marked : (pending : Option Mark) (ss : List FreeStatement) (ps : List Placed) → HaveForms pending ss ps
    → AllByRecursion IsMarked ps
are_marked pending [] [] h = tt
are_marked pending [] (p ∷ ps) h = absurd h
are_marked pending (s ∷ ss) [] h = absurd h
are_marked pending (s ∷ ss) (p ∷ ps) h = (
  λ t. h.1 ∙ ap (λ b. if_taken b (last_mark pending s.ahead)) t,
  are_marked (last_mark (mark_left_over (takes_mark p.form) (last_mark pending s.ahead)) s.within) ss ps h.3,
)

are_written : (pending : Option Mark) (ss : List FreeStatement) (ps : List Placed) → HaveForms pending ss ps
    → AllByRecursion IsWrittenOut ps
are_written pending [] [] h = tt
are_written pending [] (p ∷ ps) h = absurd h
are_written pending (s ∷ ss) [] h = absurd h
are_written pending (s ∷ ss) (p ∷ ps) h = (
  (h.2.0, h.2.2),
  are_written (last_mark (mark_left_over (takes_mark p.form) (last_mark pending s.ahead)) s.within) ss ps h.3,
)

-- ---- names

not_empty : (x : List ℕ) → IsLongName x → bytes_eq x [] ≡ false
not_empty [] h = let b : false ≡ true = h.begins in cc
not_empty (c ∷ cs) h = refl

nameless_step : (d : Declaration) (ds : List Declaration) → bytes_eq d.name [] ≡ false
    → declared (d ∷ ds) [] ≡ declared ds []
nameless_step d ds e = ap (λ b. cond b (Some d) (declared ds [])) e

nameless : (ds : List Declaration) → AllByRecursion (λ (d : Declaration). IsLongName d.name) ds → declared ds [] ≡ None
nameless [] h = refl
nameless (d ∷ ds) h = nameless_step d ds (not_empty d.name h.0) ∙ nameless ds h.1

entities_named : (k : Kind) (a : Bool) (es : List EntityForm90) → AllByRecursion (λ (e : EntityForm90). IsLongName e.name) es
    → AllByRecursion (λ (d : Declaration). IsLongName d.name) (map (entity_declaration k a) es)
entities_named k a [] h = tt
entities_named k a (e ∷ es) h = (h.0, entities_named k a es h.1)

form_named : (f : Form90) → IsWell f → AllByRecursion (λ (d : Declaration). IsLongName d.name) (declarations_in f)
form_named (forms.Declare k a es) h = entities_named k a es h
form_named f h = tt

all_named : (ps : List Placed) → AllByRecursion (λ (p : Placed). IsWell p.form) ps
    → AllByRecursion (λ (d : Declaration). IsLongName d.name) (declarations_of ps)
all_named [] h = tt
all_named (p ∷ ps) h = all_both (λ (d : Declaration). IsLongName d.name) (declarations_in p.form) (declarations_of ps)
    (form_named p.form h.0) (all_named ps h.1)

wells : (n m : ℕ) (ps : List Placed) → AllByRecursion (IsFormed n m) ps
    → AllByRecursion (λ (p : Placed). IsWell p.form) ps
wells n m [] h = tt
wells n m (p ∷ ps) h =
    let f = h.0 in (
      form_well p.form f.words f.written (statement_words f.chars f.words f.has_words f.plain),
      wells n m
          ps h.1,
    )

undeclared : (ds : List Declaration) (x : List ℕ) → declared ds x ≡ None → declares ds x ≡ false
undeclared [] x e = refl
undeclared (c ∷ ds) x e = by (bytes_eq c.name x) e (undeclared ds x)
  where
    by : (b : Bool) → cond b (Some c) (declared ds x) ≡ None → (declared ds x ≡ None → declares ds x ≡ false)
        → (b || declares ds x) ≡ false
    by true f next = absurd (cc)
    by false f next = next f

no_function : (ds : List Declaration) (x : List ℕ) → declares ds x ≡ true → function_by ds x ≡ None
no_function ds x e = ap (λ b. cond b None (intrinsic_named x)) e

-- ---- what can be decided

pub not_true : (b : Bool) → (IsTrue b → ⊥) → b ≡ false
not_true true h = absurd (h refl)
not_true false h = refl

pub some_statement : (ps : List Placed) → (ps ≡ [] → ⊥) → is_nothing90 ps ≡ false
some_statement [] h = absurd (h refl)
some_statement (p ∷ ps) h = refl

-- ---- places

pub at_place : (P : Placed → Type 0) (ps : List Placed) (p : Place90) → AllByRecursion P ps → IsPlaceIn ps p → P p.here
at_place P ps p h i = (all_right P p.before (p.here ∷ p.after) (subst (AllByRecursion P) i h)).0

-- ---- statements of a text

module _ (text : List ℕ) (ps : List Placed) (t : AreStatementsOf text ps) where
  abbrev ds : List Declaration
  ds = declarations_of ps

  pub marked : AllByRecursion IsMarked ps
  marked = are_marked None t.statements ps t.have_forms

  pub written_out : AllByRecursion IsWrittenOut ps
  written_out = are_written None t.statements ps t.have_forms

  module _ (clear : IsClearBelow text 35) where
    no_bad : (front back : List (List ℕ)) (p : LinePiece) (s : LineState) → lines text ≡ front ++ written_piece p ∷ back
        → LeadTo front s
        → IsPiece (is_in_constant s) p → IsTrue (list_any is_bad_byte90 p.chars) → ⊥
    no_bad front back p s e l i b =
        let r = refusal_at BadByte90 (length front + 1) in
        let k : 35 ≤ 31 = clear r (For r (InLines r (HoldsBadByte front back p s e l i b))) in
        omega arith

    good : AreGoodStatements 1 (1 + length (lines text)) t.statements
    good = good_statements (lines text) no_bad 1 (lines text) t.statements [] t.of_lines refl nothing

    all_formed : AllByRecursion (IsFormed 1 (1 + length (lines text))) ps
    all_formed = (formed 1 (1 + length (lines text)) None t.statements ps tt good.each t.have_forms).0

    pub named : declared ds [] ≡ None
    named = nameless ds (all_named ps (wells 1 (1 + length (lines text)) ps all_formed))

    pub proper : AreProper ds (functions_in ps)
    proper = record { named = undeclared ds [] named; no_functions = no_function ds }

  -- no literal is too great
  pub narrow : IsClearBelow text 36 → AllByRecursion (λ (p : Placed). has_wide_literal_in p.form ≡ false) ps
  narrow clear = each_place (λ (p : Placed). has_wide_literal_in p.form ≡ false) ps
      (λ p i. not_true (has_wide_literal_in p.here.form) (λ h. holds_nowhere text ps 36 WideLiteral90 t clear
      (omega arith) p i h))

  pub in_order : IsClearBelow text 38 → IsInOrder ps
  in_order clear = record {
    some = some_statement ps
        (λ e. let r = refusal_at Structure 0 in let k : 38 ≤ 37 =
        clear r (For r (InStatements ps Structure 0 t (HasNoStatement e))) in omega arith);
    none = λ p i. not_true (is_disordered ps p) (λ h. holds_nowhere text ps 38 Structure t clear (omega arith) p i h);
  }

  pub suited : IsClearBelow text 40 → HoldsOfAll (Suits ds) ps
  suited clear = λ p i. affirmed (suits ds p.here.form) (λ h. holds_nowhere text ps 40 TypeClash90 t clear (omega arith)
      p i h)

  are_ready : (qs : List Placed) → AllByRecursion IsMarked qs → AllByRecursion IsWrittenOut qs
      → AllByRecursion (λ (p : Placed). SuitsCallsIn (functions_in ps) p.form) qs
      → AllByRecursion (λ (p : Placed). has_wide_literal_in p.form ≡ false) qs → AllByRecursion (IsReadyAt ds) qs
  are_ready [] m w c n = tt
  are_ready (q ∷ qs) m w c n =
      (record { marked = m.0; written = w.0; calls = c.0; narrow = n.0 }, are_ready qs m.1 w.1 c.1 n.1)

  pub ready : (functions : Functions) → ((x : List ℕ) → function_in functions x ≡ functions_in ps x)
      → AllByRecursion (λ (p : Placed). SuitsCallsIn (functions_in ps) p.form) ps
      → IsClearBelow text 36 → AreReady functions ds ps
  ready functions same calls clear = record {
    of_text = record { are = same; named = named (λ r h. let k = clear r h in omega (arith, k)) };
    each = λ p i. at_place (IsReadyAt ds) ps p (are_ready ps marked written_out calls (narrow clear)) i;
  }
