-- What characters of a card are read as is a source statement.
use Rattle.std.proofs.Common.{◌≡◌, ◌⊎◌, inl, inr, ℕ, ◌≤◌, List, [], ◌∷◌, ◌++◌, sym, subst, codes, arith}
use Rattle.tree.specs.Plain.{Named}
use Rattle.f77_grammar.specs.expressions.Words as words
use Rattle.f77_grammar.specs.expressions.Words.{Word77}
use Rattle.f77_grammar.specs.expressions.Phrases as phrases
use Rattle.f77_grammar.specs.expressions.Phrases.{Phrase77, IsExpression77, written77, tree77_of, phrase_depth77}
use Rattle.f77_grammar.specs.expressions.Spelling.{AreWords77, chars77, value}
use Rattle.f77_grammar.specs.expressions.Squeezing.{Symbol77}
use Rattle.f77_grammar.specs.statements.Controls.{written_control}
use Rattle.f77_grammar.specs.statements.Items.{IsReference77, written_items77}
use Rattle.f77_grammar.specs.declared.directions.Direction.TheVariants.{Input, Output}
use Rattle.f77_grammar.specs.statements.Forms.{Form77, Program, ImplicitNone, Declare, Dimension, Constants, Assign, Go, Test, If, ElseIf, Else, EndIf, Do, PlainDo, EndDo, Continue, Stop, Read, ReadNothing, Print, PrintNothing, End, IsEntity77, IsBounded, Definition, IsDefinition, IsInner77, IsFollowed, IsWritten77, separated77, written_entity77, entity_tree, entity_depth, written_definition, definition_tree, definition_depth, IsLabel77, optional_comma, statement_of, form_depth}
use Rattle.reading.specs.Characters.{keyword_of}
use Rattle.reading.specs.Signs.{reference_in}
use Rattle.std.specs.Option.{IfSome}
use Rattle.f77_grammar.specs.Statement77.{Statement77}
use Rattle.f77_grammar.specs.program.Labels.{label_named}
use Rattle.f77_laws.specs.Source.{IsShallow, IsSourceEntity, IsSourceConstant, IsSourceAction, IsSourceStatement, IsSourceLabel, IsLoopLabel}
use Rattle.f77_laws.proofs.Lists.{all_left, all_right}
use Rattle.f77_laws.proofs.SymbolicNames.{symbolic_name}
use Rattle.f77_laws.specs.SourceCards.{ReadStatementIsSource}
use Rattle.f77_laws.proofs.Symbols.{IsCardSymbol, AreCardSymbols, card_symbols}
use Rattle.f77_laws.proofs.SourceWords.{AreSourceWords, left_words, right_words, words_spelled, shallow}
use Rattle.f77_laws.proofs.Parts as parts
use Rattle.f77_laws.proofs.ItemLists.{control_words, step_source, step_within, source_items, items_within}

-- ---- words in a statement

followed : (front : List ℕ) (ws : List Word77) (text : List Symbol77) → AreCardSymbols text → IsFollowed front ws text → AreSourceWords ws
followed front ws text s h = words_spelled ws h.0 (all_right IsCardSymbol (chars77 front) h.0 (subst AreCardSymbols h.1 s)) h.2

either : (front other : List ℕ) (ws : List Word77) (text : List Symbol77) → AreCardSymbols text → IsFollowed front ws text ⊎ IsFollowed other ws text → AreSourceWords ws
either front other ws text s (inl h) = followed front ws text s h
either front other ws text s (inr h) = followed other ws text s h

-- the symbols of a condition, and those behind its parenthesis
condition_symbols : (front : List ℕ) (e behind text : List Symbol77) → AreCardSymbols text → text ≡ chars77 front ++ (e ++ behind) → AreCardSymbols e × AreCardSymbols behind
condition_symbols front e behind text s same =
    let k = all_right IsCardSymbol (chars77 front) (e ++ behind) (subst AreCardSymbols same s) in
    (all_left IsCardSymbol e behind k, all_right IsCardSymbol e behind k)

condition : (front : List ℕ) (p : Phrase77) (e behind text : List Symbol77) → AreCardSymbols text → text ≡ chars77 front ++ (e ++ behind) → AreWords77 e (written77 p) → IsExpression77 p → phrase_depth77 p ≤ 400 → IsShallow (tree77_of p)
condition front p e behind text s same w g d = shallow p g (words_spelled (written77 p) e (condition_symbols front e behind text s same).0 w) d

-- ---- a statement that may stand in a logical IF

assigned : (p : Phrase77) → IsReference77 p → IsShallow (tree77_of p) → IsShallow (Named (reference_in (tree77_of p)).name (reference_in (tree77_of p)).subscripts)
assigned (phrases.Name x) g h = h
assigned (phrases.Listed x ps) g h = h
assigned (phrases.Literal n) g h = absurd g
assigned phrases.WideLiteral g h = absurd g
assigned (phrases.Truth b) g h = absurd g
assigned (phrases.Paren p) g h = absurd g
assigned (phrases.Signed s p) g h = absurd g
assigned (phrases.Joined o a b) g h = absurd g

assignment : (l r : Phrase77) (text : List Symbol77) → AreCardSymbols text → IsWritten77 (Assign l r) text → form_depth (Assign l r) ≤ 400 → IsSourceAction (statement_of (Assign l r))
assignment l r text s h d =
    let ws = words_spelled (written77 l ++ (words.Equals ∷ written77 r)) text s h.0 in (
      assigned l h.1 (shallow l h.2 (left_words (written77 l) (words.Equals ∷ written77 r) ws) (omega (arith, d))),
      shallow r h.3 (right_words (written77 l) (words.Equals ∷ written77 r) ws).1 (omega (arith, d)),
    )

action : (f : Form77) (text : List Symbol77) → AreCardSymbols text → IsInner77 f → IsWritten77 f text → form_depth f ≤ 400 → IsSourceAction (statement_of f)
action (Assign l r) text s i h d = assignment l r text s h d
action (Go label) text s i h d = parts.label label h.1
action Continue text s i h d = tt
action Stop text s i h d = tt
action (Read is) text s i h d = (source_items Input is h.1 (either (codes "READ*,") (codes "READ(*,*)") (written_items77 is) text s h.0), omega (arith, items_within Input is h.1, d))
action ReadNothing text s i h d = (tt, omega arith)
action (Print is) text s i h d = (source_items Output is h.1 (either (codes "PRINT*,") (codes "WRITE(*,*)") (written_items77 is) text s h.0), omega (arith, items_within Output is h.1, d))
action PrintNothing text s i h d = (tt, omega arith)
action (Program x) text s i h d = absurd i
action ImplicitNone text s i h d = absurd i
action (Declare k es) text s i h d = absurd i
action (Dimension es) text s i h d = absurd i
action (Constants ds) text s i h d = absurd i
action (Test p f) text s i h d = absurd i
action (If p) text s i h d = absurd i
action (ElseIf p) text s i h d = absurd i
action Else text s i h d = absurd i
action EndIf text s i h d = absurd i
action (Do label comma c) text s i h d = absurd i
action (PlainDo c) text s i h d = absurd i
action EndDo text s i h d = absurd i
action End text s i h d = absurd i

-- ---- any statement

definitions : (ds : List Definition) (text : List Symbol77) → AreCardSymbols text → IsWritten77 (Constants ds) text → form_depth (Constants ds) ≤ 400 → IsSourceStatement (statement_of (Constants ds))
definitions ds text s h d =
    let inside = separated77 written_definition ds in
    let ws = followed (codes "PARAMETER") (words.Open ∷ (inside ++ words.Close ∷ [])) text s h.0 in
    parts.list_made IsDefinition written_definition definition_depth definition_tree IsSourceConstant parts.definition ds h.1 (left_words inside (words.Close ∷ []) ws.1) d

-- a label that is written is one of a loop
loop_label : (digits : List ℕ) → IsLabel77 digits → IsLoopLabel (value digits)
loop_label digits h = let l = parts.label digits h in omega (arith, l)

pub statement : (f : Form77) (text : List Symbol77) → AreCardSymbols text → IsWritten77 f text → form_depth f ≤ 400 → IsSourceStatement (statement_of f)
statement (Program x) text s h d = symbolic_name x (followed (codes "PROGRAM") (words.Name x ∷ []) text s h).0
statement ImplicitNone text s h d = tt
statement (Declare k es) text s h d =
    parts.list_made IsEntity77 written_entity77 entity_depth entity_tree IsSourceEntity parts.entity es h.1 (followed (keyword_of k) (separated77 written_entity77 es) text s h.0) d
statement (Dimension es) text s h d =
    parts.list_made IsBounded written_entity77 entity_depth entity_tree IsSourceEntity parts.bounded_entity es h.1 (followed (codes "DIMENSION") (separated77 written_entity77 es) text s h.0) d
statement (Constants ds) text s h d = definitions ds text s h d
statement (Assign l r) text s h d = action (Assign l r) text s tt h d
statement (Go label) text s h d = action (Go label) text s tt h d
statement (Test p f) text s h d = (
  condition (codes "IF(") p h.0 (chars77 (codes ")") ++ h.1) text s h.2 h.3 h.4 (omega (arith, d)),
  action f h.1 (all_right IsCardSymbol (chars77 (codes ")")) h.1 (condition_symbols (codes "IF(") h.0 (chars77 (codes ")") ++ h.1) text s h.2).1) h.6 h.5 (omega (arith, d)),
)
statement (If p) text s h d = condition (codes "IF(") p h.0 (chars77 (codes ")THEN")) text s h.1 h.2 h.3 d
statement (ElseIf p) text s h d = condition (codes "ELSEIF(") p h.0 (chars77 (codes ")THEN")) text s h.1 h.2 h.3 d
statement Else text s h d = tt
statement EndIf text s h d = tt
statement (Do label comma c) text s h d =
    let k = control_words c (followed (codes "DO" ++ (label ++ optional_comma comma)) (written_control c) text s h.0) in (
      loop_label label h.1,
      symbolic_name c.variable k.variable.0,
      shallow c.first h.2.0 k.first (omega (arith, d)),
      shallow c.last h.2.1 k.last (omega (arith, d)),
      (step_source c.step h.2.2 k.step, omega (arith, step_within c.step h.2.2, d)),
    )
statement (PlainDo c) text s h d =
    let k = control_words c (followed (codes "DO") (written_control c) text s h.0) in (
      tt,
      symbolic_name c.variable k.variable.0,
      shallow c.first h.1.0 k.first (omega (arith, d)),
      shallow c.last h.1.1 k.last (omega (arith, d)),
      (step_source c.step h.1.2 k.step, omega (arith, step_within c.step h.1.2, d)),
    )
statement EndDo text s h d = tt
statement Continue text s h d = tt
statement Stop text s h d = tt
statement (Read is) text s h d = action (Read is) text s tt h d
statement ReadNothing text s h d = action ReadNothing text s tt h d
statement (Print is) text s h d = action (Print is) text s tt h d
statement PrintNothing text s h d = action PrintNothing text s tt h d
statement End text s h d = tt

-- the label that it names is such as can be written
label_written : (f : Form77) (text : List Symbol77) → IsWritten77 f text → IfSome (label_named (statement_of f)) IsSourceLabel
label_written (Go label) text h = parts.label label h.1
label_written (Do label comma c) text h = parts.label label h.1
label_written f text h = tt

pub read_statement_is_source : ReadStatementIsSource
read_statement_is_source characters s h r = (
  subst IsSourceStatement (sym r.same) (statement r.form r.is_form.symbols (card_symbols r.is_form.squeezed h) r.is_form.written r.shallow),
  subst (λ (t : Statement77). IfSome (label_named t) IsSourceLabel) (sym r.same) (label_written r.form r.is_form.symbols r.is_form.written),
)
