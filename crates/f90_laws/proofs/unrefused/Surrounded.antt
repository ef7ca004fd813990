-- What surrounds each statement of a printed program suits, whatever the numbers of its lines.
use Rattle.std.proofs.Common.{◌≡◌, refl, sym, ap₂, subst, ℕ, ◌<◌, List, ◌∷◌, ◌++◌, Contains}
use Rattle.std.specs.List.{AllByRecursion}
use Rattle.std.proofs.lemmas.List.Elements.{All-contains, All-from_recursion}
use Rattle.tree.specs.Plain as tree
use Rattle.tree.specs.Plain.{Statement, Arms, Block, Declaration, Item, Items, Program}
use Rattle.meaning.specs.Typed90.{IsDoVariable}
use Rattle.meaning.specs.Items90.{IsInput, IsOutputItem, AreOutputItems, IsInputItem, AreInputItems}
use Rattle.meaning.specs.Blocks.{Surroundings, within_loop, before_labels, label_of, labels_of}
use Rattle.meaning.specs.Labels.{IsLabel}
use Rattle.meaning.specs.Profile90.{IsStatement, AreArms, IsBlock}
use Rattle.f90_grammar.specs.Items.{Input, Output}
use Rattle.f90_grammar.specs.Surroundings.{StandsIn, StandsWithin, StandsInArms, KeepsVariables, ItemKeepsVariables, ItemsKeepVariables, SuitsSurroundings}
use Rattle.f90_grammar.specs.Surroundings.StandsIn.{itself, further, inside}
use Rattle.f90_grammar.specs.Surroundings.StandsWithin.{in_loop, in_arm, in_else}
use Rattle.f90_grammar.specs.Surroundings.StandsInArms.{in_first, in_later}
use Rattle.f90_laws.specs.printed.ReadBack.{without_numbers, arms_without_numbers, block_without_numbers}
use Rattle.f90_laws.proofs.readings.Lists.{all_both}

-- ---- what surrounds the statements of a block, without their lines

module _ (ds : List Declaration) where
  abbrev mutual
    StatementSuits : Statement → Surroundings → Type 0
    StatementSuits (tree.Assignment line mark left right) w = Contains w.variables left.name → ⊥
    StatementSuits (tree.Where line mark mask left right) w = Contains w.variables left.name → ⊥
    StatementSuits (tree.If line ars other) w = ArmsSuit ars w × BlockSuits other w
    StatementSuits (tree.Do line x a b c body) w = IsDoVariable ds x w.variables × BlockSuits body (within_loop x w)
    StatementSuits (tree.Read line is) w = ItemsKeepVariables ds Input is w.variables
    StatementSuits (tree.Print line is) w = ItemsKeepVariables ds Output is w.variables
    StatementSuits (tree.GoTo line n) w = (0 < n) × Contains w.ahead n
    StatementSuits c w = Unit {0}

    ArmsSuit : Arms → Surroundings → Type 0
    ArmsSuit tree.no_arms w = Unit {0}
    ArmsSuit (tree.arm test body more) w = BlockSuits body w × ArmsSuit more w

    pub BlockSuits : Block → Surroundings → Type 0
    BlockSuits tree.no_statements w = Unit {0}
    BlockSuits (tree.statement c cs) w = StatementSuits c (before_labels (labels_of cs) w) × BlockSuits cs w

  -- ---- a block of the profile suits

  mutual
    output_keeps : (i : Item) (around : List (List ℕ)) → IsOutputItem ds i around → ItemKeepsVariables ds Output i around
    output_keeps (tree.Single e) around h = tt
    output_keeps (tree.Constant t) around h = tt
    output_keeps (tree.ImpliedDo is x a b c) around h = (h.1, outputs_keep is (x ∷ around) h.5)

    outputs_keep : (is : Items) (around : List (List ℕ)) → AreOutputItems ds is around → ItemsKeepVariables ds Output is around
    outputs_keep tree.no_items around h = tt
    outputs_keep (tree.item i is) around h = (output_keeps i around h.0, outputs_keep is around h.1)

  input : (e : tree.Expression) (around : List (List ℕ)) → IsInput ds e around → KeepsVariables Input e around
  input (tree.Named x ps) around h = h.2
  input (tree.Number n) around h = absurd h
  input e around h = absurd h

  mutual
    input_keeps : (i : Item) (around : List (List ℕ)) → IsInputItem ds i around → ItemKeepsVariables ds Input i around
    input_keeps (tree.Single e) around h = input e around h
    input_keeps (tree.Constant t) around h = tt
    input_keeps (tree.ImpliedDo is x a b c) around h = (h.1, inputs_keep is (x ∷ around) h.5)

    inputs_keep : (is : Items) (around : List (List ℕ)) → AreInputItems ds is around → ItemsKeepVariables ds Input is around
    inputs_keep tree.no_items around h = tt
    inputs_keep (tree.item i is) around h = (input_keeps i around h.0, inputs_keep is around h.1)

  labels_good : (b : Block) (w : Surroundings) → IsBlock ds b w → AllByRecursion IsLabel (labels_of b)
  labels_good tree.no_statements w h = tt
  labels_good (tree.statement (tree.Label n) cs) w h = (h.0, labels_good cs w h.1)
  labels_good (tree.statement c cs) w h = labels_good cs w h.1

  mutual
    statement_suits : (c : Statement) (w : Surroundings) → IsStatement ds c w → AllByRecursion IsLabel w.ahead → StatementSuits c w
    statement_suits (tree.Assignment line mark left right) w h a = h.1.2
    statement_suits (tree.Where line mark mask left right) w h a = h.2.2
    statement_suits (tree.If line ars other) w h a = (arms_suit ars w h.2 a, block_suits other w h.3 a)
    statement_suits (tree.Do line x i j k body) w h a = (h.1, block_suits body (within_loop x w) h.5 a)
    statement_suits (tree.Label n) w h a = tt
    statement_suits (tree.GoTo line n) w h a = ((All-contains IsLabel w.ahead n (All-from_recursion IsLabel w.ahead a) h.1).0, h.1)
    statement_suits (tree.Stop line) w h a = tt
    statement_suits (tree.Read line is) w h a = inputs_keep is w.variables h.1
    statement_suits (tree.Print line is) w h a = outputs_keep is w.variables h.1
    statement_suits (tree.Allocate line x es) w h a = tt
    statement_suits (tree.Deallocate line x) w h a = tt

    arms_suit : (m : Arms) (w : Surroundings) → AreArms ds m w → AllByRecursion IsLabel w.ahead → ArmsSuit m w
    arms_suit tree.no_arms w h a = tt
    arms_suit (tree.arm test body more) w h a = (block_suits body w h.1 a, arms_suit more w h.2 a)

    pub block_suits : (b : Block) (w : Surroundings) → IsBlock ds b w → AllByRecursion IsLabel w.ahead → BlockSuits b w
    block_suits tree.no_statements w h a = tt
    block_suits (tree.statement c cs) w h a =
        (statement_suits c (before_labels (labels_of cs) w) h.0 (all_both IsLabel (labels_of cs) w.ahead (labels_good cs w h.1) a), block_suits cs w h.1 a)

  -- ---- numbers of lines don't matter

  label-renumbered : (c : Statement) → label_of (without_numbers c) ≡ label_of c
  label-renumbered (tree.Label n) = refl
  label-renumbered (tree.Assignment line mark left right) = refl
  label-renumbered (tree.Where line mark mask left right) = refl
  label-renumbered (tree.If line ars other) = refl
  label-renumbered (tree.Do line x a b c body) = refl
  label-renumbered (tree.GoTo line n) = refl
  label-renumbered (tree.Stop line) = refl
  label-renumbered (tree.Read line is) = refl
  label-renumbered (tree.Print line is) = refl
  label-renumbered (tree.Allocate line x es) = refl
  label-renumbered (tree.Deallocate line x) = refl

  labels-renumbered : (b : Block) → labels_of (block_without_numbers b) ≡ labels_of b
  labels-renumbered tree.no_statements = refl
  labels-renumbered (tree.statement c cs) = ap₂ (λ u v. u ++ v) (label-renumbered c) (labels-renumbered cs)

  mutual
    statement_without : (c : Statement) (w : Surroundings) → StatementSuits c w → StatementSuits (without_numbers c) w
    statement_without (tree.Assignment line mark left right) w h = h
    statement_without (tree.Where line mark mask left right) w h = h
    statement_without (tree.If line ars other) w h = (arms_without ars w h.0, block_without other w h.1)
    statement_without (tree.Do line x i j k body) w h = (h.0, block_without body (within_loop x w) h.1)
    statement_without (tree.Label n) w h = tt
    statement_without (tree.GoTo line n) w h = h
    statement_without (tree.Stop line) w h = tt
    statement_without (tree.Read line is) w h = h
    statement_without (tree.Print line is) w h = h
    statement_without (tree.Allocate line x es) w h = tt
    statement_without (tree.Deallocate line x) w h = tt

    arms_without : (m : Arms) (w : Surroundings) → ArmsSuit m w → ArmsSuit (arms_without_numbers m) w
    arms_without tree.no_arms w h = tt
    arms_without (tree.arm test body more) w h = (block_without body w h.0, arms_without more w h.1)

    block_without : (b : Block) (w : Surroundings) → BlockSuits b w → BlockSuits (block_without_numbers b) w
    block_without tree.no_statements w h = tt
    block_without (tree.statement c cs) w h = (
      subst (λ (ns : List ℕ). StatementSuits (without_numbers c) (before_labels ns w)) (sym (labels-renumbered cs)) (statement_without c (before_labels (labels_of cs) w) h.0),
      block_without cs w h.1,
    )

  mutual
    statement_with : (c : Statement) (w : Surroundings) → StatementSuits (without_numbers c) w → StatementSuits c w
    statement_with (tree.Assignment line mark left right) w h = h
    statement_with (tree.Where line mark mask left right) w h = h
    statement_with (tree.If line ars other) w h = (arms_with ars w h.0, block_with other w h.1)
    statement_with (tree.Do line x i j k body) w h = (h.0, block_with body (within_loop x w) h.1)
    statement_with (tree.Label n) w h = tt
    statement_with (tree.GoTo line n) w h = h
    statement_with (tree.Stop line) w h = tt
    statement_with (tree.Read line is) w h = h
    statement_with (tree.Print line is) w h = h
    statement_with (tree.Allocate line x es) w h = tt
    statement_with (tree.Deallocate line x) w h = tt

    arms_with : (m : Arms) (w : Surroundings) → ArmsSuit (arms_without_numbers m) w → ArmsSuit m w
    arms_with tree.no_arms w h = tt
    arms_with (tree.arm test body more) w h = (block_with body w h.0, arms_with more w h.1)

    block_with : (b : Block) (w : Surroundings) → BlockSuits (block_without_numbers b) w → BlockSuits b w
    block_with tree.no_statements w h = tt
    block_with (tree.statement c cs) w h = (
      statement_with c (before_labels (labels_of cs) w) (subst (λ (ns : List ℕ). StatementSuits (without_numbers c) (before_labels ns w)) (labels-renumbered cs) h.0),
      block_with cs w h.1,
    )

  pub renumbered_suits : (b c : Block) (w : Surroundings) → block_without_numbers b ≡ block_without_numbers c → BlockSuits b w → BlockSuits c w
  renumbered_suits b c w e h = block_with c w (subst (λ (d : Block). BlockSuits d w) e (block_without b w h))

  -- ---- so each statement suits where it stands

  itself_suits : (c : Statement) (w : Surroundings) → StatementSuits c w → SuitsSurroundings ds c w
  itself_suits (tree.Assignment line mark left right) w h = h
  itself_suits (tree.Where line mark mask left right) w h = h
  itself_suits (tree.If line ars other) w h = tt
  itself_suits (tree.Do line x i j k body) w h = h.0
  itself_suits (tree.Label n) w h = tt
  itself_suits (tree.GoTo line n) w h = h
  itself_suits (tree.Stop line) w h = tt
  itself_suits (tree.Read line is) w h = h
  itself_suits (tree.Print line is) w h = h
  itself_suits (tree.Allocate line x es) w h = tt
  itself_suits (tree.Deallocate line x) w h = tt

  mutual
    pub suits_in : (b : Block) (w : Surroundings) (c : Statement) (v : Surroundings) → StandsIn b w c v → BlockSuits b w → SuitsSurroundings ds c v
    suits_in b w c v (itself d cs u) h = itself_suits d (before_labels (labels_of cs) u) h.0
    suits_in b w c v (further d e cs u t s) h = suits_in cs u e t s h.1
    suits_in b w c v (inside d e cs u t s) h = suits_within d (before_labels (labels_of cs) u) e t s h.0

    suits_within : (c : Statement) (w : Surroundings) (d : Statement) (v : Surroundings) → StandsWithin c w d v → StatementSuits c w → SuitsSurroundings ds d v
    suits_within c w d v (in_loop line x i j k body u e t s) h = suits_in body (within_loop x u) e t s h.1
    suits_within c w d v (in_arm line ars other u e t s) h = suits_in_arms ars u e t s h.0
    suits_within c w d v (in_else line ars other u e t s) h = suits_in other u e t s h.1

    suits_in_arms : (m : Arms) (w : Surroundings) (d : Statement) (v : Surroundings) → StandsInArms m w d v → ArmsSuit m w → SuitsSurroundings ds d v
    suits_in_arms m w d v (in_first test body more u e t s) h = suits_in body u e t s h.0
    suits_in_arms m w d v (in_later test body more u e t s) h = suits_in_arms more u e t s h.1
