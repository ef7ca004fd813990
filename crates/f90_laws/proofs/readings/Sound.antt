-- A block is one of the profile where each of its statements is sound by itself and suits what surrounds it.
use Rattle.std.proofs.Common.{◌≡◌, ◌⊎◌, inl, inr, ℕ, ◌≤◌, IsTrue, IsSomeAnd, Option, None, Some, List, [], ◌∷◌, Contains}
use Rattle.std.specs.Option.{IfSome}
use Rattle.tree.specs.declared.stmts.Mark.{Mark}
use Rattle.tree.specs.declared.ops.Kind.TheVariants.{Integer, Logical}
use Rattle.tree.specs.Limits as limits
use Rattle.tree.specs.Plain as tree
use Rattle.tree.specs.Plain.{Expression, Reference, Expressions, Declaration, Item, Items, Statement, Arms, Block}
use Rattle.meaning.specs.Blocks.{labels_of, Surroundings, within_loop, before_labels}
use Rattle.meaning.specs.Labels.{IsLine, IsLabel, has_arm}
use Rattle.meaning.specs.Depths.{depth_of, depth_of_each, depth_of_items}
use Rattle.meaning.specs.Typed.{declared, has_item, IsText, number_of_arguments}
use Rattle.meaning.specs.Typed90.{rank_of, rank_of_subscripts, HasKind, IsScalar, AreScalars, HasSomeKind, IsDoVariable}
use Rattle.meaning.specs.Items90.{IsInput, IsOutputItem, AreOutputItems, IsInputItem, AreInputItems}
use Rattle.meaning.specs.Value.{named}
use Rattle.meaning.specs.Profile90.{IsMarked, IsWhole, IsWholeScalar, IsAssignment, IsMasked, IsAllocation, IsStatement}
use Rattle.meaning.specs.Profile90.{AreArms, IsBlock}
use Rattle.meaning.specs.Extents.{IsAllocatable}
use Rattle.f90_grammar.specs.Items.{Direction, Input, Output}
use Rattle.f90_grammar.specs.Suited.{SuitsAssignment, SuitsMask, AreNumbers, SuitsList, SuitsItem, SuitsItems, SuitsAllocation}
use Rattle.f90_grammar.specs.Surroundings.{StandsIn, StandsWithin, StandsInArms, KeepsVariables, ItemKeepsVariables, ItemsKeepVariables, SuitsSurroundings}
use Rattle.f90_grammar.specs.Surroundings.StandsIn.{itself, further, inside}
use Rattle.f90_grammar.specs.Surroundings.StandsWithin.{in_loop, in_arm, in_else}
use Rattle.f90_grammar.specs.Surroundings.StandsInArms.{in_first, in_later}

-- constants of output lists are texts, and no implied DO list is empty
abbrev mutual
  pub IsFilled : Item → Type 0
  IsFilled (tree.Single e) = Unit {0}
  IsFilled (tree.Constant t) = IsText t
  IsFilled (tree.ImpliedDo is x a b c) = IsTrue (has_item is) × AreFilled is

  pub AreFilled : Items → Type 0
  AreFilled tree.no_items = Unit {0}
  AreFilled (tree.item i is) = IsFilled i × AreFilled is

-- only expressions are read into
abbrev mutual
  pub IsWordless : Item → Type 0
  IsWordless (tree.Single e) = Unit {0}
  IsWordless (tree.Constant t) = ⊥
  IsWordless (tree.ImpliedDo is x a b c) = AreWordless is

  pub AreWordless : Items → Type 0
  AreWordless tree.no_items = Unit {0}
  AreWordless (tree.item i is) = IsWordless i × AreWordless is

module _ (ds : List Declaration) where
  pub record IsSoundAssignment (left : Reference) (right : Expression) : Type 0 where
    pub suits : SuitsAssignment ds left right
    pub left_depth : depth_of (named left) ≤ limits.expression_depth90
    pub right_depth : depth_of right ≤ limits.expression_depth90

  pub record IsSoundMask (mask : Expression) (left : Reference) : Type 0 where
    pub suits : SuitsMask ds mask left
    pub depth : depth_of mask ≤ limits.expression_depth90

  pub record IsSoundList (d : Direction) (is : Items) : Type 0 where
    pub suits : SuitsItems ds d is
    pub filled : AreFilled is
    pub depth : depth_of_items is ≤ limits.expression_depth90

  pub record AreSoundNumbers (a b c : Expression) : Type 0 where
    pub suits : AreNumbers ds a b c
    pub first : depth_of a ≤ limits.expression_depth90
    pub second : depth_of b ≤ limits.expression_depth90
    pub third : depth_of c ≤ limits.expression_depth90

  pub record IsSoundTest (e : Expression) : Type 0 where
    pub suits : IsScalar ds e Logical
    pub depth : depth_of e ≤ limits.expression_depth90

  pub record IsSoundAllocation (x : List ℕ) (es : Expressions) : Type 0 where
    pub suits : SuitsAllocation ds x es
    pub depth : depth_of_each es ≤ limits.expression_depth90

  abbrev mutual
    pub IsSound : Statement → Type 0
    IsSound (tree.Assignment line mark left right) = IsMarked line mark × IsSoundAssignment left right
    IsSound (tree.Where line mark mask left right) = IsMarked line mark × IsSoundMask mask left × IsSoundAssignment left right
    IsSound (tree.If line arms other) = IsLine line × IsTrue (has_arm arms) × AreSoundArms arms × IsSoundBlock other
    IsSound (tree.Do line x a b c body) = IsLine line × AreSoundNumbers a b c × IsSoundBlock body
    IsSound (tree.Label n) = IsLabel n
    IsSound (tree.GoTo line n) = IsLine line
    IsSound (tree.Stop line) = IsLine line
    IsSound (tree.Read line is) = IsLine line × AreWordless is × IsSoundList Input is
    IsSound (tree.Print line is) = IsLine line × IsSoundList Output is
    IsSound (tree.Allocate line x es) = IsLine line × IsSoundAllocation x es
    IsSound (tree.Deallocate line x) = IsLine line × IsSomeAnd (declared ds x) (λ d. IsAllocatable d.extent)

    pub AreSoundArms : Arms → Type 0
    AreSoundArms tree.no_arms = Unit {0}
    AreSoundArms (tree.arm test body more) = IsSoundTest test × IsSoundBlock body × AreSoundArms more

    pub IsSoundBlock : Block → Type 0
    IsSoundBlock tree.no_statements = Unit {0}
    IsSoundBlock (tree.statement c cs) = IsSound c × IsSoundBlock cs

  -- ---- lists

  mutual
    output_item : (i : Item) (around : List (List ℕ)) → SuitsItem ds Output i → IsFilled i → ItemKeepsVariables ds Output i around → IsOutputItem ds i around
    output_item (tree.Single e) around s f k = s
    output_item (tree.Constant t) around s f k = f
    output_item (tree.ImpliedDo is x a b c) around s f k =
        (f.0, k.0, s.1.0, s.1.1, s.1.2, output_items is (x ∷ around) s.0 f.1 k.1)

    output_items : (is : Items) (around : List (List ℕ)) → SuitsItems ds Output is → AreFilled is → ItemsKeepVariables ds Output is around → AreOutputItems ds is around
    output_items tree.no_items around s f k = tt
    output_items (tree.item i is) around s f k = (output_item i around s.0 f.0 k.0, output_items is around s.1 f.1 k.1)

  input : (e : Expression) (around : List (List ℕ)) → SuitsList ds Input e → KeepsVariables Input e around → IsInput ds e around
  input (tree.Number n) around s k = s
  input (tree.Logic b) around s k = s
  input (tree.Named x ps) around s k = (s.0, s.1, k)
  input (tree.Unary o a) around s k = s
  input (tree.Binary o a b) around s k = s
  input (tree.Apply f es) around s k = s
  input (tree.Constructor es ls) around s k = s
  input (tree.Spread a d n) around s k = s
  input (tree.Transpose a) around s k = s
  input (tree.Reshape a es) around s k = s
  input (tree.Reduce r a) around s k = s

  mutual
    input_item : (i : Item) (around : List (List ℕ)) → SuitsItem ds Input i → IsWordless i → IsFilled i → ItemKeepsVariables ds Input i around → IsInputItem ds i around
    input_item (tree.Single e) around s w f k = input e around s k
    input_item (tree.Constant t) around s w f k = w
    input_item (tree.ImpliedDo is x a b c) around s w f k =
        (f.0, k.0, s.1.0, s.1.1, s.1.2, input_items is (x ∷ around) s.0 w f.1 k.1)

    input_items : (is : Items) (around : List (List ℕ)) → SuitsItems ds Input is → AreWordless is → AreFilled is → ItemsKeepVariables ds Input is around → AreInputItems ds is around
    input_items tree.no_items around s w f k = tt
    input_items (tree.item i is) around s w f k = (input_item i around s.0 w.0 f.0 k.0, input_items is around s.1 w.1 f.1 k.1)

  -- ---- statements

  whole_left : (P : Declaration → Type 0) (Q : Declaration → Type 0) (o : Option Declaration) → ((d : Declaration) → P d → Q d) → IsSomeAnd o P → IsSomeAnd o Q
  whole_left P Q None f h = h
  whole_left P Q (Some d) f h = f d h

  assignment : (left : Reference) (right : Expression) (w : Surroundings) → IsSoundAssignment left right → (Contains w.variables left.name → ⊥) → IsAssignment ds left right w
  assignment left right w h free = (
    whole_left (λ d. HasKind ds (named left) d.kind × HasKind ds right d.kind) (λ d. IsWhole ds (named left) d.kind × IsWhole ds right d.kind) (declared ds left.name)
        (λ d k. (record { suits = k.0; depth = h.left_depth }, record { suits = k.1; depth = h.right_depth })) h.suits.0,
    h.suits.1,
    free,
  )

  mask : (e : Expression) (left : Reference) → IsSoundMask e left → IsMasked ds e left
  mask e left h = (record { suits = h.suits.0; depth = h.depth }, h.suits.1, h.suits.2)

  abbrev Suit : Block → Surroundings → Type 0
  Suit b w = (c : Statement) (v : Surroundings) → StandsIn b w c v → SuitsSurroundings ds c v

  abbrev SuitWithin : Statement → Surroundings → Type 0
  SuitWithin c w = (d : Statement) (v : Surroundings) → StandsWithin c w d v → SuitsSurroundings ds d v

  abbrev SuitInArms : Arms → Surroundings → Type 0
  SuitInArms a w = (d : Statement) (v : Surroundings) → StandsInArms a w d v → SuitsSurroundings ds d v

  mutual
    is_statement : (c : Statement) (w : Surroundings) → IsSound c → SuitsSurroundings ds c w → SuitWithin c w → IsStatement ds c w
    is_statement (tree.Assignment line mark left right) w h s i = (h.0, assignment left right w h.1 s)
    is_statement (tree.Where line mark m left right) w h s i = (h.0, mask m left h.1, assignment left right w h.2 s)
    is_statement (tree.If line arms other) w h s i =
        (h.0, h.1, are_arms arms w h.2 (λ d v p. i d v (in_arm line arms other w d v p)), is_block other w h.3 (λ d v p. i d v (in_else line arms other w d v p)))
    is_statement (tree.Do line x a b c body) w h s i = (
      h.0,
      s,
      record { suits = h.1.suits.0; depth = h.1.first },
      record { suits = h.1.suits.1; depth = h.1.second },
      record { suits = h.1.suits.2; depth = h.1.third },
      is_block body (within_loop x w) h.2 (λ d v p. i d v (in_loop line x a b c body w d v p)),
    )
    is_statement (tree.Label n) w h s i = h
    is_statement (tree.GoTo line n) w h s i = (h, s.1)
    is_statement (tree.Stop line) w h s i = h
    is_statement (tree.Read line is) w h s i = (h.0, input_items is w.variables h.2.suits h.1 h.2.filled s, h.2.depth)
    is_statement (tree.Print line is) w h s i = (h.0, output_items is w.variables h.1.suits h.1.filled s, h.1.depth)
    is_statement (tree.Allocate line x es) w h s i = (h.0, (h.1.suits.0, h.1.suits.1, h.1.depth))
    is_statement (tree.Deallocate line x) w h s i = h

    are_arms : (arms : Arms) (w : Surroundings) → AreSoundArms arms → SuitInArms arms w → AreArms ds arms w
    are_arms tree.no_arms w h s = tt
    are_arms (tree.arm test body more) w h s =
        (record { suits = h.0.suits; depth = h.0.depth }, is_block body w h.1 (λ d v p. s d v (in_first test body more w d v p)), are_arms more w h.2 (λ d v p. s d v (in_later test body more w d v p)))

    pub is_block : (b : Block) (w : Surroundings) → IsSoundBlock b → Suit b w → IsBlock ds b w
    is_block tree.no_statements w h s = tt
    is_block (tree.statement c cs) w h s =
        let around = before_labels (labels_of cs) w in
        (is_statement c around h.0 (s c around (itself c cs w)) (λ d v p. s d v (inside c d cs w v p)), is_block cs w h.1 (λ d v p. s d v (further c d cs w v p)))
