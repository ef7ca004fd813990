-- DO variables that are wrong, or set in the range of their loop or list, told by names: `scalar` says which names are
-- INTEGER scalars, `round` which are the variables of loops round the statement.
use Rattle.std.specs.Prelude.{ℕ, nat_eq, Bool, true, false, not, ◌&&◌, ◌||◌, Option, Some, None, List, [], ◌∷◌}
use Rattle.tree.specs.declared.ops.Kind.{Kind}
use Rattle.tree.specs.declared.ops.Kind.TheVariants.{Integer, Logical}
use Rattle.meaning.specs.Names.{is_among}
use Rattle.f90_grammar.specs.Items as items
use Rattle.f90_grammar.specs.Items.{Direction, Input, Output, ItemPhrase90, ItemPhrases90, Sole, More}
use Rattle.f90_grammar.specs.Phrases.{Phrase90, Name, Listed}
use Rattle.f90_names.specs.kinds.declarations.Names.{found}
use Rattle.f90_names.specs.declared.kinds.declarations.names.Declared.{Declared}
use Rattle.f90_names.specs.declared.kinds.declarations.names.Names.{Names}
use Rattle.f90_expressions.specs.Flat as parts
use Rattle.f90_statement.specs.items.Flat.{Node, Of, Text, Begin, Turns}

-- ---- names

abbrev pub is_integer : Kind → Bool
is_integer Integer = true
is_integer Logical = false

abbrev pub is_scalar : Option Declared → Bool
is_scalar (Some k) = is_integer k.kind && nat_eq k.rank 0
is_scalar None = false

abbrev pub scalar_in : Names → List ℕ → Bool
scalar_in names x = is_scalar (found names x)

-- the name of what is stored into, which is a name or a name with a list
abbrev pub stored_name : Phrase90 → Option (List ℕ)
stored_name (Name x) = Some x
stored_name (Listed x ps) = Some x
stored_name p = None

-- it stands in the last part of an expression
abbrev pub name_in_node : parts.Node → Option (List ℕ)
name_in_node (parts.Name x) = Some x
name_in_node (parts.Listed x) = Some x
name_in_node n = None

-- ---- `lists` are the variables of the implied DO lists round an item, the innermost first

abbrev pub is_round : (List ℕ → Bool) → List (List ℕ) → List ℕ → Bool
is_round round lists x = is_among lists x || round x

abbrev pub stores_round : (List ℕ → Bool) → Option (List ℕ) → List (List ℕ) → Bool
stores_round round None lists = false
stores_round round (Some x) lists = is_round round lists x

-- READ stores into its items
abbrev pub sets_round : (List ℕ → Bool) → Direction → Phrase90 → List (List ℕ) → Bool
sets_round round Input p lists = stores_round round (stored_name p) lists
sets_round round Output p lists = false

-- the list so far, from its end backwards: whether something is wrong, and the lists that are open
pub record Walked : Type 0 where
  pub wrong : Bool
  pub lists : List (List ℕ)

abbrev pub walked : Bool → List (List ℕ) → Walked
walked b ls = record { wrong = b; lists = ls }

abbrev pub out_of : List (List ℕ) → List (List ℕ)
out_of [] = []
out_of (l ∷ ls) = ls

module _ (scalar round : List ℕ → Bool) where
  abbrev pub is_wrong_variable : List (List ℕ) → List ℕ → Bool
  is_wrong_variable lists x = not (scalar x) || is_round round lists x

  abbrev mutual
    pub item_misuses : Direction → ItemPhrase90 → List (List ℕ) → Bool
    item_misuses d (items.Of p) lists = sets_round round d p lists
    item_misuses d (items.Text t) lists = false
    item_misuses d (items.Loop is x a b c) lists = is_wrong_variable lists x || items_misuse d is (x ∷ lists)

    pub items_misuse : Direction → ItemPhrases90 → List (List ℕ) → Bool
    items_misuse d (Sole i) lists = item_misuses d i lists
    items_misuse d (More is i) lists = item_misuses d i lists || items_misuse d is lists

  abbrev pub with_node : Direction → Node → Walked → Walked
  with_node d (Of p) w = walked (w.wrong || sets_round round d p w.lists) w.lists
  with_node d (Text t) w = w
  with_node d Begin w = walked w.wrong (out_of w.lists)
  with_node d (Turns x a b c) w = walked (w.wrong || is_wrong_variable w.lists x) (x ∷ w.lists)

  abbrev pub with_nodes : Direction → List Node → Walked → Walked
  with_nodes d [] w = w
  with_nodes d (n ∷ ns) w = with_node d n (with_nodes d ns w)
