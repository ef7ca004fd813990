-- The lists of READ and PRINT.
use Rattle.std.proofs.Common.{◌≡◌, ℕ, ◌≤◌, max, true, IsTrue, Option, None, Some, List, [], ◌∷◌, ◌++◌, refl, arith}
use Rattle.tree.specs.Plain.{Item, items}
use Rattle.f77_grammar.specs.expressions.Words as words
use Rattle.f77_grammar.specs.expressions.Words.{Word77}
use Rattle.f77_grammar.specs.expressions.Phrases.{Phrase77, Literal, WideLiteral, Truth, Name, Listed, Paren, Signed, Joined, written77, tree77_of}
use Rattle.f77_grammar.specs.expressions.Printing.{IsSource}
use Rattle.meaning.specs.Depths.{depth_of, depth_of_item, depth_of_items}
use Rattle.meaning.specs.Typed77.{has_item, IsText}
use Rattle.f77_grammar.specs.statements.Controls.{Control, IsStep77, written_step77, written_control, step_tree77, step_depth77}
use Rattle.f77_grammar.specs.statements.Items.{ItemPhrase77, ItemPhrases77, Value, Text, Loop, Sole, More, IsReference77, MayStand77, takes_text, IsItem77, AreItems77, written_item77, written_items77, item_tree77, item_trees77, item_depth77, items_depth77}
use Rattle.f77_grammar.specs.declared.directions.Direction.{Direction}
use Rattle.f77_grammar.specs.declared.directions.Direction.TheVariants.{Input, Output}
use Rattle.f77_laws.specs.Source.{IsSourceVariable, IsSourceValue, IsSourceText, IsSourceItem, AreSourceItems}
use Rattle.f77_laws.proofs.SourceExpressions.{within}
use Rattle.f77_laws.proofs.SymbolicNames.{symbolic_name}
use Rattle.f77_laws.proofs.SourceWords.{AreSourceWords, left_words, right_words, source}

-- ---- bounds and steps

pub step_source : (c : Option Phrase77) → IsStep77 c → AreSourceWords (written_step77 c) → IsSource (step_tree77 c)
step_source None g h = omega arith
step_source (Some p) g h = source p g h.1

pub step_within : (c : Option Phrase77) → IsStep77 c → depth_of (step_tree77 c) ≤ step_depth77 c
step_within None g = omega arith
step_within (Some p) g = within p g

-- the words of a DO variable and of its parameters
pub record ControlWords (k : Control) : Type 0 where
  pub variable : AreSourceWords (words.Name k.variable ∷ [])
  pub first : AreSourceWords (written77 k.first)
  pub last : AreSourceWords (written77 k.last)
  pub step : AreSourceWords (written_step77 k.step)

pub control_words : (k : Control) → AreSourceWords (written_control k) → ControlWords k
control_words k h =
    let behind = (right_words (written77 k.first) (words.Comma ∷ (written77 k.last ++ written_step77 k.step)) h.1.1).1 in record {
      variable = (h.0, tt);
      first = left_words (written77 k.first) (words.Comma ∷ (written77 k.last ++ written_step77 k.step)) h.1.1;
      last = left_words (written77 k.last) (written_step77 k.step) behind;
      step = right_words (written77 k.last) (written_step77 k.step) behind;
    }

-- the words of an implied DO list: its items and its control
record LoopWords (is : ItemPhrases77) (k : Control) : Type 0 where
  inside : AreSourceWords (written_items77 is)
  control : ControlWords k

loop_words : (is : ItemPhrases77) (k : Control) → AreSourceWords (written_item77 (Loop is k)) → LoopWords is k
loop_words is k h =
    let behind : List Word77 = words.Comma ∷ (written_control k ++ words.Close ∷ []) in
    record {
      inside = left_words (written_items77 is) behind h.1;
      control = control_words k (left_words (written_control k) (words.Close ∷ []) (right_words (written_items77 is) behind h.1).1);
    }

-- ---- one item more

item_push : (d : Direction) (is : List Item) (i : Item) → AreSourceItems d (items is) → IsSourceItem d i → AreSourceItems d (items (is ++ i ∷ []))
item_push d [] i h g = (g, tt)
item_push d (j ∷ is) i h g = (h.0, item_push d is i h.1 g)

depth_push : (is : List Item) (i : Item) → depth_of_items (items (is ++ i ∷ [])) ≤ max (depth_of_items (items is)) (depth_of_item i)
depth_push [] i = omega arith
depth_push (j ∷ is) i = let h = depth_push is i in omega (arith, h)

has_pushed : (is : List Item) (i : Item) → has_item (items (is ++ i ∷ [])) ≡ true
has_pushed [] i = refl
has_pushed (j ∷ is) i = refl

has_some : (is : ItemPhrases77) → has_item (items (item_trees77 is)) ≡ true
has_some (Sole i) = refl
has_some (More is i) = has_pushed (item_trees77 is) (item_tree77 i)

-- ---- lists

variable : (p : Phrase77) → IsReference77 p → IsSource (tree77_of p) → IsSourceVariable (tree77_of p)
variable (Name x) g h = h
variable (Listed x ps) g h = h
variable (Literal n) g h = absurd g
variable WideLiteral g h = absurd g
variable (Truth b) g h = absurd g
variable (Paren p) g h = absurd g
variable (Signed s p) g h = absurd g
variable (Joined o a b) g h = absurd g

value : (d : Direction) (p : Phrase77) → MayStand77 d p → IsSource (tree77_of p) → IsSourceValue d (tree77_of p)
value Output p g h = h
value Input p g h = variable p g h

text : (d : Direction) (t : List ℕ) → IsTrue (takes_text d) → IsText t → IsSourceText d t
text Output t g h = h
text Input t g h = absurd cc

mutual
  source_item : (d : Direction) (i : ItemPhrase77) → IsItem77 d i → AreSourceWords (written_item77 i) → IsSourceItem d (item_tree77 i)
  source_item d (Value p) g h = value d p g.1 (source p g.0 h)
  source_item d (Text t) g h = text d t g h.0
  source_item d (Loop is k) g h =
      let w = loop_words is k h in (
        has_some is,
        symbolic_name k.variable w.control.variable.0,
        source k.first g.1.0 w.control.first,
        source k.last g.1.1 w.control.last,
        step_source k.step g.1.2 w.control.step,
        source_items d is g.0 w.inside,
      )

  pub source_items : (d : Direction) (is : ItemPhrases77) → AreItems77 d is → AreSourceWords (written_items77 is) → AreSourceItems d (items (item_trees77 is))
  source_items d (Sole i) g h = (source_item d i g h, tt)
  source_items d (More is i) g h =
      item_push d (item_trees77 is) (item_tree77 i) (source_items d is g.0 (left_words (written_items77 is) (words.Comma ∷ written_item77 i) h))
      (source_item d i g.1 (right_words (written_items77 is) (words.Comma ∷ written_item77 i) h).1)

-- ---- depth

mutual
  item_within : (d : Direction) (i : ItemPhrase77) → IsItem77 d i → depth_of_item (item_tree77 i) ≤ item_depth77 i
  item_within d (Value p) g = within p g.0
  item_within d (Text t) g = omega arith
  item_within d (Loop is k) g = omega (arith, items_within d is g.0, within k.first g.1.0, within k.last g.1.1, step_within k.step g.1.2)

  pub items_within : (d : Direction) (is : ItemPhrases77) → AreItems77 d is → depth_of_items (items (item_trees77 is)) ≤ items_depth77 is
  items_within d (Sole i) g = omega (arith, item_within d i g)
  items_within d (More is i) g = omega (arith, items_within d is g.0, item_within d i g.1, depth_push (item_trees77 is) (item_tree77 i))
