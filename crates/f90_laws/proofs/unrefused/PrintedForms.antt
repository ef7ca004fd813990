-- What holds of the forms that are printed for each kind of statement holds of all statements of a printed program.
use Rattle.std.proofs.Common.{◌≡◌, refl, subst, ℕ, decimal, List, [], ◌∷◌, map, IsSomeAnd}
use Rattle.std.specs.List.{AllByRecursion}
use Rattle.tree.specs.declared.ops.Kind.TheVariants.{Integer, Logical}
use Rattle.tree.specs.Limits.{expression_depth90}
use Rattle.std.specs.Prelude.{◌≤◌}
use Rattle.tree.specs.Plain as tree
use Rattle.tree.specs.Plain.{Expression, Expressions, Reference, Item, Items, Statement, Arms, Block, Declaration, Program}
use Rattle.meaning.specs.Depths.{depth_of_items}
use Rattle.meaning.specs.Typed.{declared}
use Rattle.meaning.specs.Items90.{AreInputItems, AreOutputItems}
use Rattle.meaning.specs.Blocks.{Surroundings, outermost, within_loop, before_labels, labels_of}
use Rattle.meaning.specs.Labels.{IsLabel}
use Rattle.meaning.specs.Profile90.{IsDeclaration, IsWholeScalar, IsAssignment, IsMasked, IsAllocation, IsStatement}
use Rattle.meaning.specs.Profile90.{AreArms, IsBlock, IsProgram90}
use Rattle.meaning.specs.Extents.{IsAllocatable}
use Rattle.f90_grammar.specs.Forms as forms
use Rattle.f90_grammar.specs.Forms.{Form90}
use Rattle.f90_grammar.specs.Printing.{phrase_of}
use Rattle.f90_grammar.specs.PrintedForms.{Printed, reference_phrase, phrases_of, step_phrase, item_phrases, printed_title_of, printed_statement, printed_arms, printed_else, printed_block, printed_declaration, printed_program}
use Rattle.f90_grammar.specs.Blocks.{Placed}
use Rattle.f90_grammar.specs.Order.{Place90, IsPlaceIn}
use Rattle.f90_laws.proofs.printed.PrintedBlocksPlaced.{ArePlaced}
use Rattle.f90_laws.proofs.printed.PrintedBlocksPlaced.ArePlaced.{none, next}
use Rattle.f90_laws.proofs.readings.Lists.{all_both, all_right}

-- of each form that is printed for a part of a program with these declarations
pub record EachForm (ds : List Declaration) (Good : Form90 → Type 0) : Type 0 where
  pub titles : (x : List ℕ) → Good (forms.Program x)
  pub implicit : Good forms.ImplicitNone
  pub declares : (d : Declaration) → IsDeclaration d → Good (printed_declaration d).form
  pub assigns : (left : Reference) (right : Expression) (w : Surroundings) → IsAssignment ds left right w → Good (forms.Assign (reference_phrase left) (phrase_of right))
  pub masks : (mask : Expression) (left : Reference) (right : Expression) (w : Surroundings) → IsMasked ds mask left → IsAssignment ds left right w
      → Good (forms.Where (phrase_of mask) (reference_phrase left) (phrase_of right))
  pub tests : (e : Expression) → IsWholeScalar ds e Logical → Good (forms.If (phrase_of e))
  pub other_tests : (e : Expression) → IsWholeScalar ds e Logical → Good (forms.ElseIf (phrase_of e))
  pub others : Good forms.Else
  pub ends_if : Good forms.EndIf
  pub loops : (x : List ℕ) (a b c : Expression) → IsWholeScalar ds a Integer → IsWholeScalar ds b Integer → IsWholeScalar ds c Integer
      → Good (forms.Do x (phrase_of a) (phrase_of b) (step_phrase c))
  pub ends_do : Good forms.EndDo
  pub labels : (n : ℕ) → IsLabel n → Good (forms.Continue (decimal n))
  pub goes : (n : ℕ) → Good (forms.Go (decimal n))
  pub stops : Good forms.Stop
  pub reads_nothing : Good forms.ReadNothing
  pub reads : (i : Item) (is : Items) (around : List (List ℕ)) → AreInputItems ds (tree.item i is) around → depth_of_items (tree.item i is) ≤ expression_depth90
      → Good (forms.Read (item_phrases (tree.item i is)))
  pub prints_nothing : Good forms.PrintNothing
  pub prints : (i : Item) (is : Items) (around : List (List ℕ)) → AreOutputItems ds (tree.item i is) around → depth_of_items (tree.item i is) ≤ expression_depth90
      → Good (forms.Print (item_phrases (tree.item i is)))
  pub allocates : (x : List ℕ) (es : Expressions) → IsAllocation ds x es → Good (forms.Allocate x (phrases_of es))
  pub deallocates : (x : List ℕ) → IsSomeAnd (declared ds x) (λ (d : Declaration). IsAllocatable d.extent) → Good (forms.Deallocate x)
  pub ends : Good forms.End

module _ (Good : Form90 → Type 0) where
  abbrev IsGood : Printed → Type 0
  IsGood s = Good s.form

  abbrev AreGood : List Printed → Type 0
  AreGood ss = AllByRecursion IsGood ss

  else_forms : (o : Block) → Good forms.Else → AreGood (printed_block o) → AreGood (printed_else o)
  else_forms tree.no_statements g h = tt
  else_forms (tree.statement c cs) g h = (g, h)

  module _ (ds : List Declaration) (each : EachForm ds Good) where
    mutual
      statement_forms : (c : Statement) (w : Surroundings) → IsStatement ds c w → AreGood (printed_statement c)
      statement_forms (tree.Assignment line mark left right) w h = (each.assigns left right w h.1, tt)
      statement_forms (tree.Where line mark mask left right) w h = (each.masks mask left right w h.1 h.2, tt)
      statement_forms (tree.If line tree.no_arms other) w h = tt
      statement_forms (tree.If line (tree.arm test body more) other) w h = (
        each.tests test h.2.0,
        all_both IsGood (printed_block body) _ (block_forms body w h.2.1)
            (all_both IsGood (printed_arms more) _ (arms_forms more w h.2.2)
            (all_both IsGood (printed_else other) _ (else_forms other each.others (block_forms other w h.3)) (each.ends_if, tt))),
      )
      statement_forms (tree.Do line x a b c body) w h =
          (each.loops x a b c h.2 h.3 h.4, all_both IsGood (printed_block body) _ (block_forms body (within_loop x w) h.5) (each.ends_do, tt))
      statement_forms (tree.Label n) w h = (each.labels n h, tt)
      statement_forms (tree.GoTo line n) w h = (each.goes n, tt)
      statement_forms (tree.Stop line) w h = (each.stops, tt)
      statement_forms (tree.Read line tree.no_items) w h = (each.reads_nothing, tt)
      statement_forms (tree.Read line (tree.item i is)) w h = (each.reads i is w.variables h.1 h.2, tt)
      statement_forms (tree.Print line tree.no_items) w h = (each.prints_nothing, tt)
      statement_forms (tree.Print line (tree.item i is)) w h = (each.prints i is w.variables h.1 h.2, tt)
      statement_forms (tree.Allocate line x es) w h = (each.allocates x es h.1, tt)
      statement_forms (tree.Deallocate line x) w h = (each.deallocates x h.1, tt)

      arms_forms : (m : Arms) (w : Surroundings) → AreArms ds m w → AreGood (printed_arms m)
      arms_forms tree.no_arms w h = tt
      arms_forms (tree.arm test body more) w h =
          (each.other_tests test h.0, all_both IsGood (printed_block body) _ (block_forms body w h.1) (arms_forms more w h.2))

      block_forms : (b : Block) (w : Surroundings) → IsBlock ds b w → AreGood (printed_block b)
      block_forms tree.no_statements w h = tt
      block_forms (tree.statement c cs) w h =
          all_both IsGood (printed_statement c) _ (statement_forms c (before_labels (labels_of cs) w) h.0) (block_forms cs w h.1)

    declared_forms : (es : List Declaration) → AllByRecursion IsDeclaration es → AreGood (map printed_declaration es)
    declared_forms [] h = tt
    declared_forms (e ∷ es) h = (each.declares e h.0, declared_forms es h.1)

    pub program_forms : (p : Program) → p.declarations ≡ ds → IsProgram90 p → AllByRecursion (λ (s : Printed). Good s.form) (printed_program p)
    program_forms p e h = (
      each.titles (printed_title_of p.name),
      (
        each.implicit,
        all_both IsGood (map printed_declaration p.declarations) _ (declared_forms p.declarations h.declarations.each)
            (all_both IsGood (printed_block p.body) _ (block_forms p.body outermost (subst (λ (es : List Declaration). IsBlock es p.body outermost) e h.statements)) (each.ends, tt)),
      ),
    )

-- ---- statements on lines

pub placed_forms : (Good : Form90 → Type 0) (ss : List Printed) (ps : List Placed) → ArePlaced ss ps → AllByRecursion (λ (s : Printed). Good s.form) ss
    → AllByRecursion (λ (p : Placed). Good p.form) ps
placed_forms Good ss ps none h = tt
placed_forms Good ss ps (next line s k) h = (h.0, placed_forms Good _ _ k h.1)

-- what holds of each printed form holds at each place
pub at_each : (Good : Form90 → Type 0) (p : Program) (h : IsProgram90 p) (ps : List Placed) → ArePlaced (printed_program p) ps → EachForm p.declarations Good
    → (place : Place90) → IsPlaceIn ps place → Good place.here.form
at_each Good p h ps q each place e =
    let good = placed_forms Good (printed_program p) ps q (program_forms Good p.declarations each p refl h) in
    (all_right (λ (s : Placed). Good s.form) place.before (place.here ∷ place.after) (subst (λ (ss : List Placed). AllByRecursion (λ (s : Placed). Good s.form) ss) e good)).0
