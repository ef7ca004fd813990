-- What holds of the relation between statements and the tree that they form.
use Rattle.std.specs.Prelude.{◌≡◌, ◌↔◌, ℕ, false, List, []}
use Rattle.std.specs.List.{AllByRecursion}
use Rattle.tree.specs.Plain as tree
use Rattle.tree.specs.Plain.{Program}
use Rattle.meaning.specs.Dialect.{Dialect}
use Rattle.meaning.specs.Store.{Store}
use Rattle.f77_grammar.specs.Statement77.{Labelled}
use Rattle.f77_grammar.specs.program.Text.{Place77, places}
use Rattle.f77_grammar.specs.program.Uses.{Use77}
use Rattle.f77_grammar.specs.program.Labels.{is_wrong_label77}
use Rattle.f77_grammar.specs.program.Nesting.{is_nested_wrongly}
use Rattle.f77_laws.specs.trees.Steps.{tree_of}
use Rattle.f77_grammar.specs.program.Program77.{findings, ReadsStatements}
use Rattle.f77_grammar.specs.program.Blocks.{AreBlock77, IsTreeOf}

-- the label of a statement isn't 0 and stands on no statement before it, and what is opened is closed there
pub record IsWellNested (p : Place77) : Type 0 where
  pub label : is_wrong_label77 p.before p.here.label ≡ false
  pub nesting : is_nested_wrongly p ≡ false

abbrev pub AreWellNested : List Labelled → Type 0
AreWellNested text = AllByRecursion IsWellNested (places text)

-- each label isn't 0 and stands on one statement alone
abbrev pub StandOnce : List Labelled → Type 0
StandOnce text = AllByRecursion (λ (p : Place77). is_wrong_label77 p.before p.here.label ≡ false) (places text)

-- there statements are nested wrongly nowhere exactly where they form a block
abbrev pub NestedFormBlock : Type 0
NestedFormBlock = (us : List Use77) (s : Store) (named : List ℕ) (text : List Labelled) → StandOnce text
    → AllByRecursion (λ (p : Place77). is_nested_wrongly p ≡ false) (places text)
    ↔ ((cs : List tree.Statement) × AreBlock77 us s named text cs)

-- statements form at most one block, whatever they are
abbrev pub OneBlock : Type 0
OneBlock = (us : List Use77) (s : Store) (named : List ℕ) (text : List Labelled) (cs ds : List tree.Statement)
    → AreBlock77 us s named text cs → AreBlock77 us s named text ds → cs ≡ ds

abbrev pub OneTree : Type 0
OneTree = (d : Dialect) (text : List Labelled) (p q : Program) → IsTreeOf d text p → IsTreeOf d text q → p ≡ q

-- where all are well nested they form one
abbrev pub SomeTree : Type 0
SomeTree = (d : Dialect) (text : List Labelled) → AreWellNested text → IsTreeOf d text (tree_of d text)

-- there a program is their tree by the relation exactly where it is by the definition from the last statement back
abbrev pub TreesAreOne : Type 0
TreesAreOne = (d : Dialect) (text : List Labelled) (p : Program) → AreWellNested text
    → IsTreeOf d text p ↔ p ≡ tree_of d text

-- so the program that is read is the one computed of a text without findings
abbrev pub ReadIsComputed : Type 0
ReadIsComputed = (d : Dialect) (text : List Labelled) (p : Program)
    → ReadsStatements d text p ↔ (findings d text ≡ []) × (p ≡ tree_of d text)
