-- What the code holds, as the parts of lists.
use Rattle.std.specs.Prelude.{◌≡◌, ◌+◌, ◌<◌, ◌≤◌, ℕ, Bool, true, false, List, [], ◌∷◌, ◌++◌, length}
use Rattle.std.specs.Prelude.{Option, Some, None, Result, Ok, Err}
use Rattle.std.specs.Borrow.{Bor}
use Rattle.f90_grammar.specs.Items as items
use Rattle.f90_grammar.specs.Words as words
use Rattle.f90_grammar.specs.Words.{Word90}
use Rattle.f90_expressions.specs.words.Tokens.{words_of}
use Rattle.reading.specs.declared.stops.Stop.{Stop}
use Rattle.reading.specs.declared.stops.Stop.TheVariants.{Syntax, Memory}
use Rattle.f90_expressions.specs.Reading.{IsMadeOf}
use Rattle.f90_statement.specs.items.parts.Bounds.{AreBoundsOf}
use Rattle.f90_statement.specs.declared.items.nodes.Node.{Node}
use Rattle.f90_statement.specs.declared.items.nodes.Node.TheVariants.{Value, Text, Begin, Turns}
use Rattle.f90_statement.specs.declared.items.nodes.Direction.{Direction}
use Rattle.f90_statement.specs.declared.items.nodes.Direction.TheVariants.{Input, Output}
use Rattle.f90_statement.specs.declared.items.reader.Step.{Step}
use Rattle.f90_expressions.specs.declared.words.tokens.Token.{Token}
use Rattle.f90_statement.specs.items.Commas.{has_comma}
use Rattle.f90_statement.specs.items.Flat as flats
use Rattle.f90_statement.specs.items.Following.{Follows, Fronts}

abbrev pub direction_of : Direction → items.Direction
direction_of Input = items.Input
direction_of Output = items.Output

abbrev pub IsNodeOf : Node → flats.Node → Type 0
IsNodeOf (Value e) (flats.Of p) = IsMadeOf e p
IsNodeOf (Text t) (flats.Text u) = t ≡ u
IsNodeOf Begin flats.Begin = Unit {0}
IsNodeOf (Turns x k) (flats.Turns y p q r) = (x ≡ y) × AreBoundsOf k p q r
IsNodeOf _ _ = ⊥

abbrev pub AreNodesOf : List Node → List flats.Node → Type 0
AreNodesOf [] [] = Unit {0}
AreNodesOf (n ∷ ns) (m ∷ ms) = IsNodeOf n m × AreNodesOf ns ms
AreNodesOf _ _ = ⊥

-- ---- what functions return, unless memory ran out

-- one part stands in front, and that is left; or nothing that is due
pub record IsStep (d : items.Direction) (due : Bool) (n : ℕ) (ws : List Word90) (s : Step) : Type 0 where
  pub part : flats.Node
  pub is : IsNodeOf s.node part
  pub fronts : Fronts d due n ws part s.due s.loops (words_of s.rest.now)
  pub front : List Word90
  pub same : ws ≡ front ++ words_of s.rest.now
  pub some : 0 < length front
  pub few : s.loops + length (words_of s.rest.now) ≤ n + length ws

abbrev pub Steps : Result Step Stop → items.Direction → Bool → ℕ → List Word90 → Type 0
Steps (Ok s) d due n ws = IsStep d due n ws s
Steps (Err Syntax) d due n ws = (ns : List flats.Node) → Follows d due n ws ns → ⊥
Steps (Err Memory) d due n ws = Unit {0}

-- no constant stands in front, and no parenthesis with a comma in it
pub record IsValueFront (ws : List Word90) : Type 0 where
  pub no_text : (t : List ℕ) (us : List Word90) → ws ≡ words.Constant t ∷ us → ⊥
  pub no_list : (us : List Word90) → ws ≡ words.Open ∷ us → has_comma us 0 ≡ false

abbrev pub IsConstantFront : Option (Bor (List ℕ) × Bor (List Token)) → List Word90 → Type 0
IsConstantFront (Some r) ws = ws ≡ words.Constant r.0.now ∷ words_of r.1.now
IsConstantFront None ws = (t : List ℕ) (us : List Word90) → ws ≡ words.Constant t ∷ us → ⊥

abbrev pub IsControlFront : Option (List ℕ × Bor (List Token)) → List Word90 → Type 0
IsControlFront (Some r) ws = ws ≡ words.Name r.0 ∷ (words.Equals ∷ words_of r.1.now)
IsControlFront None ws = (x : List ℕ) (us : List Word90) → ws ≡ words.Name x ∷ (words.Equals ∷ us) → ⊥

-- the end of a list, whose variable and equals sign stand before these words
abbrev pub Controls : Result Step Stop → items.Direction → ℕ → List ℕ → List Word90 → Type 0
Controls result d n x ws = Steps result d false n (words.Comma ∷ (words.Name x ∷ (words.Equals ∷ ws)))

-- ---- while a list is read

pub record IsReading (d : items.Direction) (all : List Word90) (nodes : List Node) (due : Bool) (n : ℕ)
    (ws : List Word90)
    : Type 0 where
  pub parts : List flats.Node
  pub are : AreNodesOf nodes parts
  pub back : (ns : List flats.Node) → Follows d due n ws ns → Follows d true 0 all (parts ++ ns)
  pub on : (whole : List flats.Node) → Follows d true 0 all whole
      → (ns : List flats.Node) × (whole ≡ parts ++ ns) × Follows d due n ws ns
  pub front : List Word90
  pub same : all ≡ front ++ ws
  pub few : n + length ws ≤ length all

-- all parts of the list, or none where the words are none, unless memory ran out
abbrev pub IsParts : Result (List Node) Stop → items.Direction → List Word90 → Type 0
IsParts (Ok nodes) d ws = IsReading d ws nodes false 0 []
IsParts (Err Syntax) d ws = (ns : List flats.Node) → Follows d true 0 ws ns → ⊥
IsParts (Err Memory) d ws = Unit {0}
