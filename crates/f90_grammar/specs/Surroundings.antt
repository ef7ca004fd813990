-- What surrounds a statement in the blocks of a program: labels, jumps and DO variables (ISO/IEC 1539:1991, sections
-- 8.1.4, 8.2 and 9.4.2).
use Rattle.std.specs.Prelude.{ℕ, ◌<◌, ◌==◌, Bool, false, ◌||◌, IsTrue, List, [], ◌∷◌, Contains}
use Rattle.std.specs.List.{list_any, filter}
use Rattle.tree.specs.Plain as tree
use Rattle.tree.specs.Plain.{Expression, Declaration, Item, Items, Statement, Arms, Block}
use Rattle.meaning.specs.Blocks.{Surroundings, outermost, within_loop, before_labels, labels_of}
use Rattle.meaning.specs.Typed90.{IsDoVariable}
use Rattle.f90_grammar.specs.Phrases.{value_of_digits}
use Rattle.f90_grammar.specs.Items.{Direction, Input, Output}
use Rattle.f90_grammar.specs.Forms as forms
use Rattle.f90_grammar.specs.Forms.{Form90}
use Rattle.f90_grammar.specs.Blocks.{Placed, AreBlock90}
use Rattle.f90_grammar.specs.Reading.{is_target_in}
use Rattle.f90_grammar.specs.Declared.{declarations_of, functions_in}
use Rattle.f90_grammar.specs.Order.{Place90, IsPlaceIn, is_executable90}

-- ---- the statements of a block, each with what surrounds it

mutual
  pub data StandsIn : Block → Surroundings → Statement → Surroundings → Type 0 where
    itself : (c : Statement) (cs : Block) (w : Surroundings)
        → StandsIn (tree.statement c cs) w c (before_labels (labels_of cs) w)
    further : (c d : Statement) (cs : Block) (w v : Surroundings) → StandsIn cs w d v
        → StandsIn (tree.statement c cs) w d v
    inside : (c d : Statement) (cs : Block) (w v : Surroundings) → StandsWithin c (before_labels (labels_of cs) w) d v
        → StandsIn (tree.statement c cs) w d v

  -- in a loop, in an arm of an IF, in its ELSE part
  pub data StandsWithin : Statement → Surroundings → Statement → Surroundings → Type 0 where
    in_loop : (line : ℕ) (x : List ℕ) (a b c : Expression) (body : Block) (w : Surroundings) (d : Statement)
        (v : Surroundings) → StandsIn body (within_loop x w) d v → StandsWithin (tree.Do line x a b c body) w d v
    in_arm : (line : ℕ) (arms : Arms) (other : Block) (w : Surroundings) (d : Statement) (v : Surroundings)
        → StandsInArms arms w d v → StandsWithin (tree.If line arms other) w d v
    in_else : (line : ℕ) (arms : Arms) (other : Block) (w : Surroundings) (d : Statement) (v : Surroundings)
        → StandsIn other w d v → StandsWithin (tree.If line arms other) w d v

  pub data StandsInArms : Arms → Surroundings → Statement → Surroundings → Type 0 where
    in_first : (test : Expression) (body : Block) (more : Arms) (w : Surroundings) (d : Statement) (v : Surroundings)
        → StandsIn body w d v → StandsInArms (tree.arm test body more) w d v
    in_later : (test : Expression) (body : Block) (more : Arms) (w : Surroundings) (d : Statement) (v : Surroundings)
        → StandsInArms more w d v → StandsInArms (tree.arm test body more) w d v

-- a label has no line
abbrev pub line_of : Statement → ℕ
line_of (tree.Assignment line mark left right) = line
line_of (tree.Where line mark mask left right) = line
line_of (tree.If line arms other) = line
line_of (tree.Do line x a b c body) = line
line_of (tree.Label n) = 0
line_of (tree.GoTo line n) = line
line_of (tree.Stop line) = line
line_of (tree.Read line is) = line
line_of (tree.Print line is) = line
line_of (tree.Allocate line x es) = line
line_of (tree.Deallocate line x) = line

-- ---- DO variables: INTEGER scalars that nothing in the range of their loop or list sets

-- what is read into is no DO variable round it
abbrev pub KeepsVariables : Direction → Expression → List (List ℕ) → Type 0
KeepsVariables Input (tree.Named x ps) around = Contains around x → ⊥
KeepsVariables d e around = Unit {0}

module _ (ds : List Declaration) where
  -- the range of an implied DO list is the list, not its parameters
  abbrev mutual
    pub ItemKeepsVariables : Direction → Item → List (List ℕ) → Type 0
    ItemKeepsVariables d (tree.Single e) around = KeepsVariables d e around
    ItemKeepsVariables d (tree.Constant t) around = Unit {0}
    ItemKeepsVariables d (tree.ImpliedDo is x a b c) around =
        IsDoVariable ds x around × ItemsKeepVariables d is (x ∷ around)

    pub ItemsKeepVariables : Direction → Items → List (List ℕ) → Type 0
    ItemsKeepVariables d tree.no_items around = Unit {0}
    ItemsKeepVariables d (tree.item i is) around = ItemKeepsVariables d i around × ItemsKeepVariables d is around

  -- A statement sets no DO variable of a loop round it, and its own DO variables are right. A GO TO names a label that
  -- stands later in its block or in a block round that one
  abbrev pub SuitsSurroundings : Statement → Surroundings → Type 0
  SuitsSurroundings (tree.Assignment line mark left right) w = Contains w.variables left.name → ⊥
  SuitsSurroundings (tree.Where line mark mask left right) w = Contains w.variables left.name → ⊥
  SuitsSurroundings (tree.Do line x a b c body) w = IsDoVariable ds x w.variables
  SuitsSurroundings (tree.Read line is) w = ItemsKeepVariables Input is w.variables
  SuitsSurroundings (tree.Print line is) w = ItemsKeepVariables Output is w.variables
  SuitsSurroundings (tree.GoTo line n) w = (0 < n) × Contains w.ahead n
  SuitsSurroundings c w = Unit {0}

-- ---- labels

abbrev pub label_digits_in : Form90 → List ℕ
label_digits_in (forms.Continue digits) = digits
label_digits_in f = []

abbrev pub bears_label : ℕ → List ℕ → Bool
bears_label n [] = false
bears_label n (d ∷ digits) = n == value_of_digits (d ∷ digits)

-- the label is 0, or stands before too
abbrev pub is_wrong_label90 : List Placed → List ℕ → Bool
is_wrong_label90 before [] = false
is_wrong_label90 before (d ∷ digits) =
    let n = value_of_digits (d ∷ digits) in
    (n == 0) || list_any (λ (p : Placed). bears_label n (label_digits_in p.form)) before

-- ---- both, where blocks and the order of statements are right

-- the executable statements form this block
abbrev pub AreBody : List Placed → Block → Type 0
AreBody ps b = AreBlock90 (functions_in ps) (is_target_in b) (filter (λ (p : Placed). is_executable90 p.form) ps) b

-- a label, a jump or a DO variable is wrong at the line
pub data IsMisplaced (ps : List Placed) : ℕ → Type 0 where
  HasWrongLabel : (p : Place90) → IsPlaceIn ps p → IsTrue (is_wrong_label90 p.before (label_digits_in p.here.form))
      → IsMisplaced ps p.here.line
  HasWrongSurroundings : (b : Block) (c : Statement) (w : Surroundings) → AreBody ps b → StandsIn b outermost c w
      → (SuitsSurroundings (declarations_of ps) c w → ⊥) → IsMisplaced ps (line_of c)
