-- The statements that a program is printed as, one after another, each with the mark that stands before it (ISO/IEC
-- 1539:1991, sections 5, 8 and 9).
use Rattle.std.specs.Prelude.{ℕ, ℤ, pos, negsuc, ◌+◌, Bool, true, false, Option, Some, None, List, [], ◌∷◌, ◌++◌, map}
use Rattle.std.specs.Prelude.{codes, decimal, replicate, if◌then◌else◌}
use Rattle.std.specs.Ordering.{int_eq}
use Rattle.tree.specs.Plain as tree
use Rattle.tree.specs.Plain.{Expression, Expressions, Reference, Item, Items, Statement, Arms, Block}
use Rattle.tree.specs.Plain.{Extent, Given, Later, Declaration, Program}
use Rattle.tree.specs.OperatorTable.{Minus}
use Rattle.tree.specs.declared.stmts.Mark.{Mark}
use Rattle.f90_grammar.specs.Phrases.{Phrase90}
use Rattle.f90_grammar.specs.Items.{ItemPhrase90, Of, Text, Loop, ItemPhrases90, Sole, More}
use Rattle.f90_grammar.specs.Forms as forms
use Rattle.f90_grammar.specs.Forms.{Form90, Bound90, Dimension}
use Rattle.f90_grammar.specs.Printing.{phrase_of, is_one}

pub record Printed : Type 0 where
  pub mark : Option Mark
  pub form : Form90

abbrev pub unmarked : Form90 → Printed
unmarked f = record { mark = None; form = f }

-- ---- parts of statements

abbrev pub reference_phrase : Reference → Phrase90
reference_phrase r = phrase_of (tree.Named r.name r.subscripts)

abbrev pub phrases_of : Expressions → List Phrase90
phrases_of tree.no_expressions = []
phrases_of (tree.expression e es) = phrase_of e ∷ phrases_of es

-- a step of 1 isn't written
abbrev pub step_phrase : Expression → Option Phrase90
step_phrase e = if is_one e then None else Some (phrase_of e)

-- a list of items has one at least
abbrev mutual
  pub item_phrase : Item → ItemPhrase90
  item_phrase (tree.Single e) = Of (phrase_of e)
  item_phrase (tree.Constant t) = Text t
  item_phrase (tree.ImpliedDo is x a b c) = Loop (item_phrases is) x (phrase_of a) (phrase_of b) (step_phrase c)

  pub item_phrases : Items → ItemPhrases90
  item_phrases tree.no_items = Sole (Text [])
  item_phrases (tree.item i is) = more_items (Sole (item_phrase i)) is

  pub more_items : ItemPhrases90 → Items → ItemPhrases90
  more_items ps tree.no_items = ps
  more_items ps (tree.item i is) = more_items (More ps (item_phrase i)) is

abbrev pub read_form : Items → Form90
read_form tree.no_items = forms.ReadNothing
read_form (tree.item i is) = forms.Read (item_phrases (tree.item i is))

abbrev pub print_form : Items → Form90
print_form tree.no_items = forms.PrintNothing
print_form (tree.item i is) = forms.Print (item_phrases (tree.item i is))

-- ---- statements: an IF is a block IF, and an ELSE part without statements isn't written

abbrev mutual
  pub printed_statement : Statement → List Printed
  printed_statement (tree.Assignment line mark left right) =
      record { mark = mark; form = forms.Assign (reference_phrase left) (phrase_of right) } ∷ []
  printed_statement (tree.Where line mark mask left right) =
      record { mark = mark; form = forms.Where (phrase_of mask) (reference_phrase left) (phrase_of right) } ∷ []
  printed_statement (tree.If line arms other) = printed_if arms (printed_else other)
  printed_statement (tree.Do line x a b c body) =
      unmarked (forms.Do x (phrase_of a) (phrase_of b) (step_phrase c))
      ∷ (printed_block body ++ unmarked forms.EndDo ∷ [])
  printed_statement (tree.Label n) = unmarked (forms.Continue (decimal n)) ∷ []
  printed_statement (tree.GoTo line n) = unmarked (forms.Go (decimal n)) ∷ []
  printed_statement (tree.Stop line) = unmarked forms.Stop ∷ []
  printed_statement (tree.Read line is) = unmarked (read_form is) ∷ []
  printed_statement (tree.Print line is) = unmarked (print_form is) ∷ []
  printed_statement (tree.Allocate line x es) = unmarked (forms.Allocate x (phrases_of es)) ∷ []
  printed_statement (tree.Deallocate line x) = unmarked (forms.Deallocate x) ∷ []

  -- an IF has one arm at least
  pub printed_if : Arms → List Printed → List Printed
  printed_if tree.no_arms other = []
  printed_if (tree.arm test body more) other =
      unmarked (forms.If (phrase_of test)) ∷ (printed_block body ++ (printed_arms more ++ (other
      ++ unmarked forms.EndIf ∷ [])))

  pub printed_arms : Arms → List Printed
  printed_arms tree.no_arms = []
  printed_arms (tree.arm test body more) =
      unmarked (forms.ElseIf (phrase_of test)) ∷ (printed_block body ++ printed_arms more)

  pub printed_else : Block → List Printed
  printed_else tree.no_statements = []
  printed_else (tree.statement c cs) = unmarked forms.Else ∷ (printed_statement c ++ printed_block cs)

  pub printed_block : Block → List Printed
  printed_block tree.no_statements = []
  printed_block (tree.statement c cs) = printed_statement c ++ printed_block cs

-- ---- declarations: a lower bound of 1 isn't written

abbrev pub bound : ℤ → Bound90
bound (pos n) = record { sign = None; digits = decimal n }
bound (negsuc n) = record { sign = Some Minus; digits = decimal (n + 1) }

abbrev pub dimension : ℤ × ℤ → Dimension
dimension b = if int_eq b.0 (pos 1) then forms.Upper (bound b.1) else forms.Both (bound b.0) (bound b.1)

abbrev pub dimensions_of : Extent → List Dimension
dimensions_of (Given bs) = map dimension bs
dimensions_of (Later n) = replicate n forms.Deferred

abbrev pub is_allocatable : Extent → Bool
is_allocatable (Given bs) = false
is_allocatable (Later n) = true

-- one name a statement
abbrev pub printed_declaration : Declaration → Printed
printed_declaration d =
    unmarked (forms.Declare d.kind (is_allocatable d.extent)
    (record { name = d.name; dimensions = dimensions_of d.extent } ∷ []))

-- ---- programs

-- one without a name gets this one
abbrev pub printed_title_of : Option (List ℕ) → List ℕ
printed_title_of None = codes "FV_PROGRAM"
printed_title_of (Some x) = x

abbrev pub printed_program : Program → List Printed
printed_program p =
    unmarked (forms.Program (printed_title_of p.name)) ∷ unmarked forms.ImplicitNone
    ∷ (map printed_declaration p.declarations ++ (printed_block p.body ++ unmarked forms.End ∷ []))
