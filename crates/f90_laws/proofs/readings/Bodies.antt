-- What the statements of a block's text say of the block.
use Rattle.std.proofs.Common.{◌≡◌, ◌⊎◌, inl, inr, ℕ, ◌+◌, ◌*◌, ◌<◌, ◌≤◌, max, Bool, true, false, cond, IsTrue, IsSomeAnd, Option, None, Some, List, [], ◌∷◌, ◌++◌, length, filter, flat_map, refl, sym, ap, subst, ◌∙◌, arith, Contains, append_assoc}
use mathlib.Core.Path.{ap₂}
use Rattle.std.specs.Prelude.{map, sum}
use Rattle.std.specs.Option.{IfSome}
use Rattle.std.specs.List.{AllByRecursion}
use Rattle.std.proofs.lemmas.List.Elements.{filter-append}
use Rattle.tree.specs.Plain as tree
use Rattle.tree.specs.Plain.{Expression, Declaration, Items, Statement, Arms, Block}
use Rattle.tree.specs.declared.stmts.Mark.{Mark}
use Rattle.tree.specs.declared.functions.Intrinsic.{Intrinsic}
use Rattle.meaning.specs.Blocks.{blocks_of, blocks_in_arms, blocks_in, statement_count_of, statement_count_in_arms, statement_count_in}
use Rattle.meaning.specs.Labels.{IsLine, IsLabel, all_labels_of, all_labels_in_arms, all_labels_in}
use Rattle.meaning.specs.Typed.{declared}
use Rattle.meaning.specs.Profile90.{IsMark}
use Rattle.meaning.specs.Extents.{IsAllocatable}
use Rattle.f90_grammar.specs.Phrases.{Phrase90, tree_of, value_of_digits}
use Rattle.f90_grammar.specs.Items.{Input, Output, step_tree90, item_trees90}
use Rattle.f90_grammar.specs.Forms as forms
use Rattle.f90_grammar.specs.Forms.{Form90}
use Rattle.f90_grammar.specs.Blocks.{Placed, placed_form, trees_by, IsSimple, AreBlock90, AreArms90}
use Rattle.reading.specs.Signs.{reference_in}
use Rattle.f90_grammar.specs.Blocks.IsSimple.{assigns, masks, goes, stops, reads, reads_nothing, prints, prints_nothing, allocates, deallocates}
use Rattle.f90_grammar.specs.Blocks.AreBlock90.{nothing, label, unnamed, simple, test, branch, loop}
use Rattle.f90_grammar.specs.Blocks.AreArms90.{ends, other, further}
use Rattle.f90_grammar.specs.Order.{Opened, InIf, InElse, InDo, opened_by, opened_behind, is_executable90}
use Rattle.f90_grammar.specs.Bounds.{opens_block90}
use Rattle.f90_laws.proofs.readings.Lists.{all_left, all_right}
use Rattle.f90_laws.proofs.readings.Sound.{AreWordless, IsSoundAssignment, IsSoundMask, IsSoundList, AreSoundNumbers, IsSoundTest, IsSoundAllocation, IsSound, AreSoundArms, IsSoundBlock}

module _ (function : List ℕ → Option Intrinsic) (is_target : ℕ → Bool) (ds : List Declaration) where
  abbrev tree_in : Phrase90 → Expression
  tree_in p = tree_of function p

  abbrev pub IsGoodForm : Form90 → Type 0
  IsGoodForm (forms.Assign l r) = IsSoundAssignment ds (reference_in (tree_in l)) (tree_in r)
  IsGoodForm (forms.Where m l r) = IsSoundMask ds (tree_in m) (reference_in (tree_in l)) × IsSoundAssignment ds (reference_in (tree_in l)) (tree_in r)
  IsGoodForm (forms.Test p f) = IsSoundTest ds (tree_in p) × IsGoodForm f
  IsGoodForm (forms.If p) = IsSoundTest ds (tree_in p)
  IsGoodForm (forms.ElseIf p) = IsSoundTest ds (tree_in p)
  IsGoodForm (forms.Do x a b c) = AreSoundNumbers ds (tree_in a) (tree_in b) (step_tree90 function c)
  IsGoodForm (forms.Read is) = AreWordless (tree.items (item_trees90 function is)) × IsSoundList ds Input (tree.items (item_trees90 function is))
  IsGoodForm (forms.Print is) = IsSoundList ds Output (tree.items (item_trees90 function is))
  IsGoodForm (forms.Allocate x es) = IsSoundAllocation ds x (tree.expressions (trees_by tree_in es))
  IsGoodForm (forms.Deallocate x) = IsSomeAnd (declared ds x) (λ d. IsAllocatable d.extent)
  IsGoodForm (forms.Continue digits) = is_target (value_of_digits digits) ≡ true → IsLabel (value_of_digits digits)
  IsGoodForm f = Unit {0}

  pub record IsGood (p : Placed) : Type 0 where
    pub line : IsLine p.line
    pub mark : IfSome p.mark IsMark
    pub form : IsGoodForm p.form

  abbrev AreGood : List Placed → Type 0
  AreGood ps = AllByRecursion IsGood ps

  sound_simple : (p : Placed) (c : Statement) → IsSimple function is_target p c → IsGood p → IsSound ds c
  sound_simple p c (assigns line m l r) g = ((g.line, g.mark), g.form)
  sound_simple p c (masks line m q l r) g = ((g.line, g.mark), g.form.0, g.form.1)
  sound_simple p c (goes line digits) g = g.line
  sound_simple p c (stops line) g = g.line
  sound_simple p c (reads line is) g = (g.line, g.form.0, g.form.1)
  sound_simple p c (reads_nothing line) g = (g.line, tt, record { suits = tt; filled = tt; depth = omega arith })
  sound_simple p c (prints line is) g = (g.line, g.form)
  sound_simple p c (prints_nothing line) g = (g.line, record { suits = tt; filled = tt; depth = omega arith })
  sound_simple p c (allocates line x es) g = (g.line, g.form)
  sound_simple p c (deallocates line x) g = (g.line, g.form)

  mutual
    pub sound_block : (ps : List Placed) (b : Block) → AreBlock90 function is_target ps b → AreGood ps → IsSoundBlock ds b
    sound_block ps b nothing g = tt
    sound_block ps b (label line digits rest more t h) g = (g.0.form t, sound_block rest more h g.1)
    sound_block ps b (unnamed line digits rest more t h) g = sound_block rest more h g.1
    sound_block ps b (simple p c rest more s h) g = (sound_simple p c s g.0, sound_block rest more h g.1)
    sound_block ps b (test line m p f inner more rest i h) g =
        ((g.0.line, refl, (g.0.form.0, sound_block (placed_form line m f ∷ []) inner i (record { line = g.0.line; mark = g.0.mark; form = g.0.form.1 }, tt), tt), tt), sound_block rest more h g.1)
    sound_block ps b (branch line p body arms rest first otherwise more more_arms i a h) g =
        let behind = all_right IsGood body (arms ++ rest) g.1 in (
          (g.0.line, refl, (g.0.form, sound_block body first i (all_left IsGood body (arms ++ rest) g.1), (sound_arms arms more_arms otherwise a (all_left IsGood arms rest behind)).0), (sound_arms arms more_arms otherwise a (all_left IsGood arms rest behind)).1),
          sound_block rest more h (all_right IsGood arms rest behind),
        )
    sound_block ps b (loop line end x p q r body rest inner more i h) g =
        let behind = all_right IsGood body (placed_form end None forms.EndDo ∷ rest) g.1 in
        ((g.0.line, g.0.form, sound_block body inner i (all_left IsGood body (placed_form end None forms.EndDo ∷ rest) g.1)), sound_block rest more h behind.1)

    sound_arms : (ps : List Placed) (ars : Arms) (b : Block) → AreArms90 function is_target ps ars b → AreGood ps → AreSoundArms ds ars × IsSoundBlock ds b
    sound_arms ps ars b (ends line) g = (tt, tt)
    sound_arms ps ars b (other line end body more i) g = (tt, sound_block body more i (all_left IsGood body (placed_form end None forms.EndIf ∷ []) g.1))
    sound_arms ps ars b (further line p body rest first otherwise more i a) g =
        let tail = sound_arms rest more otherwise a (all_right IsGood body rest g.1) in
        ((g.0.form, sound_block body first i (all_left IsGood body rest g.1), tail.0), tail.1)
