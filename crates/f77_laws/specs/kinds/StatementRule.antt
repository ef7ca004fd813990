-- Kinds suit in a statement by the uses of names in its text, where they suit by the declarations in what the tree has
-- of it.
use Rattle.std.specs.Prelude.{◌≡◌, ◌↔◌, ℕ, ◌≤◌, true, false, List, [], ◌∷◌, Contains}
use Rattle.std.specs.List.{AllByRecursion}
use Rattle.tree.specs.Plain.{Declaration, Program, Statement, no_arms, arm, no_statements, block}
use Rattle.tree.specs.Plain as tree
use Rattle.meaning.specs.Dialect.{Dialect}
use Rattle.meaning.specs.Store.{Store}
use Rattle.meaning.specs.Profile77.{IsBlock, IsLine, Surroundings}
use Rattle.f77_grammar.specs.Statement77.{Labelled, Statement77, If, ElseIf, Do}
use Rattle.f77_grammar.specs.program.Text.{Place77, action, is_declaration}
use Rattle.f77_grammar.specs.program.Uses.{Use77, uses77_of, uses_in_text, is_array_name}
use Rattle.f77_grammar.specs.program.Declarations.{has_misused_name}
use Rattle.f77_grammar.specs.program.Kinds.{suits, has_unsuited_kind}
use Rattle.f77_grammar.specs.program.DoVariables.{misuses_variable}
use Rattle.f77_grammar.specs.program.Limits.{constants_of}
use Rattle.f77_grammar.specs.program.Program77.{ReadsStatements}
use Rattle.f77_grammar.specs.program.Tree.{resolved, simple, target}
use Rattle.f77_laws.specs.trees.Steps.{tree_of}
use Rattle.f77_laws.specs.Source.{IsSourceCard, IsSourceStatement}
use Rattle.f77_laws.specs.kinds.OneRule.{IsRightUse, IsArrayOrFunction, HasConstants}

-- what the tree has of a statement, with nothing in the block that it opens
abbrev pub alone : List Use77 → Store → ℕ → Statement77 → List Statement
alone us s line (If c) = tree.If line (arm (resolved us s c) no_statements no_arms) no_statements ∷ []
alone us s line (ElseIf c) = tree.If line (arm (resolved us s c) no_statements no_arms) no_statements ∷ []
alone us s line (Do label x a b c) =
    tree.Do line x (resolved us s a) (resolved us s b) (resolved us s c) no_statements ∷ []
alone us s line other = simple us s line other

pub record SuitsInText (us : List Use77) (c : Statement77) : Type 0 where
  pub kinds : suits us c ≡ true
  pub uses : AllByRecursion (IsRightUse us) (uses77_of c)

pub record SuitsInTree (us : List Use77) (s : Store) (ds : List Declaration) (c : Statement77) (line : ℕ)
    (w : Surroundings) : Type 0 where
  pub kinds : IsBlock ds (block (alone us s line c)) w
  pub lists : AllByRecursion (IsArrayOrFunction us) (uses77_of c)

-- A statement such as cards give, which declares nothing, whose names stand so in the text
pub record IsStatementOf (text : List Labelled) (c : Statement77) : Type 0 where
  pub source : IsSourceStatement c
  pub declares_nothing : is_declaration c ≡ false
  pub among : AllByRecursion (Contains (uses_in_text text)) (uses77_of c)

-- What the profile asks of a statement besides kinds: a line, that the DO variables round it are scalars, and that it
-- sets none of them, and that the label it goes to stands ahead
pub record IsPlaced (us : List Use77) (c : Statement77) (line : ℕ) (w : Surroundings) : Type 0 where
  pub numbered : IsLine line
  pub scalars : AllByRecursion (λ x. is_array_name us x ≡ false) w.variables
  pub variables : misuses_variable us (action c) w.variables ≡ false
  pub ahead : AllByRecursion (Contains w.ahead) (target (action c))

abbrev pub OneRuleOfStatements : Type 0
OneRuleOfStatements = (d : Dialect) (text : List Labelled) (c : Statement77) (line : ℕ) (w : Surroundings)
    → d.bits ≤ 126 → AllByRecursion IsSourceCard text → HasConstants d text → IsStatementOf text c
    → IsPlaced (uses_in_text text) c line w
    → SuitsInText (uses_in_text text) c
    ↔ SuitsInTree (uses_in_text text) (constants_of d text) (tree_of d text).declarations c line w

-- where a program is read, nothing is asked of its constants
abbrev pub OneRuleOfReadStatements : Type 0
OneRuleOfReadStatements = (d : Dialect) (text : List Labelled) (p : Program) (c : Statement77) (line : ℕ)
    (w : Surroundings) → d.bits ≤ 126 → AllByRecursion IsSourceCard text → ReadsStatements d text p
    → IsStatementOf text c → IsPlaced (uses_in_text text) c line w
    → SuitsInText (uses_in_text text) c
    ↔ SuitsInTree (uses_in_text text) (constants_of d text) p.declarations c line w

-- So at a statement of the text in which no name is misused, the cause TypeClash fails to hold exactly where the
-- statement suits in the tree
abbrev pub ClashesByTree : Type 0
ClashesByTree = (d : Dialect) (text : List Labelled) (p : Place77) (w : Surroundings)
    → d.bits ≤ 126 → AllByRecursion IsSourceCard text → HasConstants d text
    → Contains text p.here → is_declaration p.here.statement ≡ false
    → has_misused_name (uses_in_text text) p.here.statement ≡ false
    → IsPlaced (uses_in_text text) p.here.statement p.here.line w
    → (has_unsuited_kind (uses_in_text text) p ≡ false)
    ↔ SuitsInTree (uses_in_text text) (constants_of d text) (tree_of d text).declarations p.here.statement p.here.line w
