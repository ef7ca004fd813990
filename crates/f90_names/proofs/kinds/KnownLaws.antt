-- The names in a tree are those of the phrase that it is the tree of.
use Rattle.std.proofs.Common.{◌≡◌, ◌≢◌, ◌⊎◌, inl, inr, ℕ, ◌+◌, Bool, true, false, ◌||◌, cond, refl, sym, ap, ◌∙◌, subst}
use Rattle.std.proofs.Common.{arith, Option, None, Some, List, [], ◌∷◌, ◌++◌, IsSome, is_some, ◌↔◌}
use Rattle.std.specs.Option.{IsSomeAnd}
use Rattle.std.specs.List.{AllByRecursion, flat_map}
use Rattle.std.specs.Str.{bytes_eq}
use Rattle.tree.specs.Plain.{Expression, Number, Logic, Named, Unary, Binary, Apply, Constructor, Spread, Transpose}
use Rattle.tree.specs.Plain.{Reshape, Reduce}
use Rattle.tree.specs.Plain.{expressions, Subscript, Only, Section, no_subscripts, subscripts, Loops, no_loops, loop}
use Rattle.tree.specs.Plain.{Declaration}
use Rattle.tree.specs.Plain.{Item, items}
use Rattle.tree.specs.OperatorTable.{Sign, Plus, Minus, Negation}
use Rattle.tree.specs.Functions.{intrinsic_named}
use Rattle.tree.specs.declared.functions.Intrinsic.{Intrinsic}
use Rattle.tree.specs.declared.functions.Intrinsic.TheVariants as intrinsics
use Rattle.meaning.specs.Typed.{number_of_subscripts, declared, rank_of_extent}
use Rattle.meaning.proofs.CellFrame.{first_part, second_part}
use Rattle.meaning.proofs.Columns.{join}
use Rattle.f90_grammar.specs.Phrases as phrases
use Rattle.f90_grammar.specs.Phrases.{Phrase90, ListPart, ListParts, Phrases90, Turn, SuitsCalls, PartSuitsCalls, PartsSuitCalls}
use Rattle.f90_grammar.specs.Phrases.{ValuesSuitCalls, TurnSuitsCalls, SuitsFunction, AreValues, HasLiteralDimension, IsShape}
use Rattle.f90_grammar.specs.Phrases.{length_of_parts, called, arguments90_of, list_in, tree_of}
use Rattle.reading.specs.Signs.{argument_of, reference_in}
use Rattle.reading.specs.Signs as signs
use Rattle.f90_grammar.specs.Phrases.{tree_of_part, trees_of_parts, trees_of_values, looped}
use Rattle.f90_grammar.specs.Items as itemised
use Rattle.f90_grammar.specs.Items.{Direction, Input, Output, IsReference90, ItemPhrase90, ItemPhrases90, IsItem90, AreItems90}
use Rattle.f90_grammar.specs.Items.{item_tree90, item_trees90, step_tree90}
use Rattle.f90_grammar.specs.Reading.{declares, function_by}
use Rattle.f90_grammar.specs.Contents.{VariableSuitsCalls, item_expressions, items_expressions, item_variables}
use Rattle.f90_grammar.specs.Contents.{items_variables, step_expressions}
use Rattle.f90_grammar.specs.Declared.{Use90, IsKnown, use90_of, use_unless_function, uses90_in, uses_in_part, uses_in_parts}
use Rattle.f90_grammar.specs.Declared.{uses_in_values, uses_in_turn, uses90_in_variable}
use Rattle.f90_names.specs.kinds.Known.{KnowsNames, KnowsAll, KnowsSubscripts, KnowsSubscript, KnowsLoops, KnowsReference}
use Rattle.f90_names.specs.kinds.Known.{KnowsSingle, KnowsItem, KnowsItems, TreeKnowsNames, TreesKnowNames}
use Rattle.f90_names.specs.kinds.Known.{ReferenceKnowsNames}
use Rattle.f90_names.specs.kinds.Known.{OutputKnowsNames, InputKnowsNames}

-- ---- declared names are no functions

declares_none : (ds : List Declaration) (x : List ℕ) → declared ds x ≡ None → declares ds x ≡ false
declares_none [] x e = refl
declares_none (d ∷ ds) x e = by (bytes_eq d.name x) (declares_none ds x) e
  where
    by : (b : Bool) → (declared ds x ≡ None → declares ds x ≡ false) → cond b (Some d) (declared ds x) ≡ None
        → (b || declares ds x) ≡ false
    by true rest f = absurd (cc)
    by false rest f = rest f

declares_some : (ds : List Declaration) (x : List ℕ) (d : Declaration) → declared ds x ≡ Some d → declares ds x ≡ true
declares_some [] x d e = absurd (cc)
declares_some (c ∷ ds) x d e = by (bytes_eq c.name x) (declares_some ds x d) e
  where
    by : (b : Bool) → (declared ds x ≡ Some d → declares ds x ≡ true) → cond b (Some c) (declared ds x) ≡ Some d
        → (b || declares ds x) ≡ true
    by true rest f = refl
    by false rest f = rest f

pub function_undeclared : (ds : List Declaration) (x : List ℕ) → declared ds x ≡ None
    → function_by ds x ≡ intrinsic_named x
function_undeclared ds x e = ap (λ (b : Bool). cond b None (intrinsic_named x)) (declares_none ds x e)

pub function_declared : (ds : List Declaration) (x : List ℕ) (d : Declaration) → declared ds x ≡ Some d
    → function_by ds x ≡ None
function_declared ds x d e = ap (λ (b : Bool). cond b None (intrinsic_named x)) (declares_some ds x d e)

-- a name with so many subscripts, of which this is declared
abbrev pub FitsUse : Option Declaration → ℕ → Type 0
FitsUse o n = IsSomeAnd o (λ (d : Declaration). (n ≡ 0) ⊎ (n ≡ rank_of_extent d.extent))

function_unknown : (ds : List Declaration) (x : List ℕ) (f : Intrinsic) (n : ℕ) → function_by ds x ≡ Some f
    → IsKnown ds (use90_of x n) → ⊥
function_unknown ds x f n e h = by (declared ds x) refl h
  where
    by : (o : Option Declaration) → declared ds x ≡ o → FitsUse o n → ⊥
    by None i h = h
    by (Some d) i h = let j = function_declared ds x d i in cc

-- ---- parts of lists

pair_iff : {A B C D : Type 0} → (A ↔ B) → (C ↔ D) → (A × C) ↔ (B × D)
pair_iff f g = (λ h. (f.0 h.0, g.0 h.1), λ h. (f.1 h.0, g.1 h.1))

through : {A B C : Type 0} → (A ↔ B) → (B ↔ C) → (A ↔ C)
through f g = (λ h. g.0 (f.0 h), λ h. f.1 (g.1 h))

same_iff : {A : Type 0} → (A ↔ A)
same_iff = (λ h. h, λ h. h)

all_parts : (P : Use90 → Type 0) (xs ys : List Use90) → AllByRecursion P (xs ++ ys)
    ↔ (AllByRecursion P xs × AllByRecursion P ys)
all_parts P xs ys = (λ h. (first_part P xs ys h, second_part P xs ys h), λ h. join P xs ys h.0 h.1)

nonempty : {A : Type 0} (xs : List A) (x : A) → xs ++ x ∷ [] ≢ []
nonempty [] x e = cc
nonempty (y ∷ xs) x e = cc

parts_some : (function : List ℕ → Option Intrinsic) (ps : ListParts) → trees_of_parts function ps ≢ []
parts_some function (phrases.One p) e = cc
parts_some function (phrases.Then ps p) e = nonempty (trees_of_parts function ps) (tree_of_part function p) e

number_last : (ss : List Subscript) (s : Subscript) → number_of_subscripts
    (subscripts (ss ++ s ∷ [])) ≡ number_of_subscripts (subscripts ss) + 1
number_last [] s = refl
number_last (t ∷ ss) s = let e = number_last ss s in omega arith

parts_counted : (function : List ℕ → Option Intrinsic) (ps : ListParts)
    → number_of_subscripts (subscripts (trees_of_parts function ps)) ≡ length_of_parts ps
parts_counted function (phrases.One p) = refl
parts_counted function (phrases.Then ps p) = number_last (trees_of_parts function ps) (tree_of_part function p)
    ∙ ap (λ n. n + 1) (parts_counted function ps)

abbrev AreOnly : List Subscript → Type 0
AreOnly [] = Unit {0}
AreOnly (Only e ∷ ss) = AreOnly ss
AreOnly (Section a b c ∷ ss) = ⊥

only_last : (ss : List Subscript) (e : Expression) → AreOnly ss → AreOnly (ss ++ Only e ∷ [])
only_last [] e h = tt
only_last (Only d ∷ ss) e h = only_last ss e h
only_last (Section a b c ∷ ss) e h = h

values_only : (function : List ℕ → Option Intrinsic) (ps : ListParts) → AreValues ps → AreOnly (trees_of_parts function ps)
values_only function (phrases.One (phrases.Value p)) h = tt
values_only function (phrases.One (phrases.Range a b)) h = absurd h
values_only function (phrases.One (phrases.Strided a b c)) h = absurd h
values_only function (phrases.Then ps (phrases.Value p)) h =
    only_last (trees_of_parts function ps) (tree_of function p) (values_only function ps h)
values_only function (phrases.Then ps (phrases.Range a b)) h = absurd h
values_only function (phrases.Then ps (phrases.Strided a b c)) h = absurd h

module _ (ds : List Declaration) where
  subscripts_last : (ss : List Subscript) (s : Subscript) → (KnowsSubscripts ds (subscripts ss) × KnowsSubscript ds s)
      ↔ KnowsSubscripts ds (subscripts (ss ++ s ∷ []))
  subscripts_last [] s = (λ h. (h.1, tt), λ h. (tt, h.0))
  subscripts_last (t ∷ ss) s = let r = subscripts_last ss s in
      (λ h. (h.0.0, r.0 (h.0.1, h.1)), λ h. let q = r.1 h.1 in ((h.0, q.0), q.1))

  expressions_last : (es : List Expression) (e : Expression) → (KnowsAll ds (expressions es) × KnowsNames ds e)
      ↔ KnowsAll ds (expressions (es ++ e ∷ []))
  expressions_last [] e = (λ h. (h.1, tt), λ h. (tt, h.0))
  expressions_last (t ∷ es) e = let r = expressions_last es e in
      (λ h. (h.0.0, r.0 (h.0.1, h.1)), λ h. let q = r.1 h.1 in ((h.0, q.0), q.1))

  items_last : (d : Direction) (is : List Item) (i : Item) → (KnowsItems ds d (items is) × KnowsItem ds d i)
      ↔ KnowsItems ds d (items (is ++ i ∷ []))
  items_last d [] i = (λ h. (h.1, tt), λ h. (tt, h.0))
  items_last d (t ∷ is) i = let r = items_last d is i in (
    λ h. (h.0.0, r.0 (h.0.1, h.1)),
    λ h. let q = r.1 h.1 in
        ((h.0, q.0), q.1),
  )

  arguments_known : (ss : List Subscript) → AreOnly ss → KnowsSubscripts ds (subscripts ss)
      ↔ KnowsAll ds (expressions (arguments90_of ss))
  arguments_known [] h = same_iff
  arguments_known (Only e ∷ ss) h = pair_iff same_iff (arguments_known ss h)
  arguments_known (Section a b c ∷ ss) h = absurd h

  -- what a call leaves out of its tree has no names
  abbrev LosesNothing : Option Intrinsic → List Subscript → Type 0
  LosesNothing (Some intrinsics.Spread) (s ∷ d ∷ n ∷ []) = KnowsSubscript ds d
  LosesNothing (Some intrinsics.Reshape) (s ∷ n ∷ []) = KnowsSubscript ds n ↔ KnowsAll ds (list_in (argument_of n))
  LosesNothing f ss = Unit {0}

  long_spread : (ss : List Subscript) (a b c : Subscript) → ss ≢ []
      → LosesNothing (Some intrinsics.Spread) (((ss ++ a ∷ []) ++ b ∷ []) ++ c ∷ [])
  long_spread [] a b c h = absurd (h refl)
  long_spread (x ∷ []) a b c h = tt
  long_spread (x ∷ y ∷ []) a b c h = tt
  long_spread (x ∷ y ∷ z ∷ []) a b c h = tt
  long_spread (x ∷ y ∷ z ∷ w ∷ ss) a b c h = tt

  long_reshape : (ss : List Subscript) (a b : Subscript) → ss ≢ []
      → LosesNothing (Some intrinsics.Reshape) ((ss ++ a ∷ []) ++ b ∷ [])
  long_reshape [] a b h = absurd (h refl)
  long_reshape (x ∷ []) a b h = tt
  long_reshape (x ∷ y ∷ []) a b h = tt
  long_reshape (x ∷ y ∷ z ∷ ss) a b h = tt

  abbrev function : List ℕ → Option Intrinsic
  function = function_by ds

  spread_loses : (ps : ListParts) → HasLiteralDimension ps → LosesNothing (Some intrinsics.Spread) (trees_of_parts function ps)
  spread_loses (phrases.One p) h = tt
  spread_loses (phrases.Then (phrases.One p) q) h = tt
  spread_loses (phrases.Then (phrases.Then (phrases.One p) (phrases.Value (phrases.Literal t))) q) h = tt
  spread_loses (phrases.Then (phrases.Then (phrases.One p) (phrases.Value (phrases.Truth t))) q) h = absurd h
  spread_loses (phrases.Then (phrases.Then (phrases.One p) (phrases.Value (phrases.Name t))) q) h = absurd h
  spread_loses (phrases.Then (phrases.Then (phrases.One p) (phrases.Value (phrases.Listed x ps))) q) h = absurd h
  spread_loses (phrases.Then (phrases.Then (phrases.One p) (phrases.Value (phrases.Paren t))) q) h = absurd h
  spread_loses (phrases.Then (phrases.Then (phrases.One p) (phrases.Value (phrases.Signed s t))) q) h = absurd h
  spread_loses (phrases.Then (phrases.Then (phrases.One p) (phrases.Value (phrases.Joined o a b))) q) h = absurd h
  spread_loses (phrases.Then (phrases.Then (phrases.One p) (phrases.Value (phrases.Values vs))) q) h = absurd h
  spread_loses (phrases.Then (phrases.Then (phrases.One p) (phrases.Value (phrases.Looped t))) q) h = absurd h
  spread_loses (phrases.Then (phrases.Then (phrases.One p) (phrases.Range a b)) q) h = absurd h
  spread_loses (phrases.Then (phrases.Then (phrases.One p) (phrases.Strided a b c)) q) h = absurd h
  spread_loses (phrases.Then (phrases.Then (phrases.Then ps p) q) r) h =
      long_spread (trees_of_parts function ps) (tree_of_part function p) (tree_of_part function q)
      (tree_of_part function r) (parts_some function ps)

  reshape_loses : (ps : ListParts) → IsShape ps → LosesNothing (Some intrinsics.Reshape) (trees_of_parts function ps)
  reshape_loses (phrases.One p) h = tt
  reshape_loses (phrases.Then (phrases.One p) (phrases.Value (phrases.Values vs))) h = (λ k. k.0, λ k. (k, tt))
  reshape_loses (phrases.Then (phrases.One p) (phrases.Value (phrases.Literal t))) h = absurd h
  reshape_loses (phrases.Then (phrases.One p) (phrases.Value (phrases.Truth t))) h = absurd h
  reshape_loses (phrases.Then (phrases.One p) (phrases.Value (phrases.Name t))) h = absurd h
  reshape_loses (phrases.Then (phrases.One p) (phrases.Value (phrases.Listed x ps))) h = absurd h
  reshape_loses (phrases.Then (phrases.One p) (phrases.Value (phrases.Paren t))) h = absurd h
  reshape_loses (phrases.Then (phrases.One p) (phrases.Value (phrases.Signed s t))) h = absurd h
  reshape_loses (phrases.Then (phrases.One p) (phrases.Value (phrases.Joined o a b))) h = absurd h
  reshape_loses (phrases.Then (phrases.One p) (phrases.Value (phrases.Looped t))) h = absurd h
  reshape_loses (phrases.Then (phrases.One p) (phrases.Range a b)) h = absurd h
  reshape_loses (phrases.Then (phrases.One p) (phrases.Strided a b c)) h = absurd h
  reshape_loses (phrases.Then (phrases.Then ps p) q) h = long_reshape (trees_of_parts function ps)
      (tree_of_part function p) (tree_of_part function q) (parts_some function ps)

  call_values : (f : Intrinsic) (ps : ListParts) → SuitsFunction (Some f) ps → AreValues ps
  call_values (intrinsics.Elemental f) ps h = h
  call_values (intrinsics.Reduction r) ps h = h
  call_values intrinsics.Spread ps h = h.0
  call_values intrinsics.Transpose ps h = h
  call_values intrinsics.Reshape ps h = h.0

  call_loses : (f : Intrinsic) (ps : ListParts) → SuitsFunction (Some f) ps
      → LosesNothing (Some f) (trees_of_parts function ps)
  call_loses (intrinsics.Elemental f) ps h = tt
  call_loses (intrinsics.Reduction r) ps h = tt
  call_loses intrinsics.Spread ps h = spread_loses ps h.1
  call_loses intrinsics.Transpose ps h = tt
  call_loses intrinsics.Reshape ps h = reshape_loses ps h.1

  -- a call that stays as it is written
  stays : (x : List ℕ) (s : Subscript) (ss : List Subscript) (f : Intrinsic) → function_by ds x ≡ Some f
      → KnowsSubscripts ds (subscripts (s ∷ ss)) ↔ KnowsNames ds (Named x (subscripts (s ∷ ss)))
  stays x s ss f e = (λ h. (inl (ap is_some e), h), λ h. h.1)

  only_known : (s : Subscript) (ss : List Subscript) → AreOnly (s ∷ ss) → KnowsSubscript ds s
      ↔ KnowsNames ds (argument_of s)
  only_known (Only e) ss h = same_iff
  only_known (Section a b c) ss h = absurd h

  rest_only : (s : Subscript) (ss : List Subscript) → AreOnly (s ∷ ss) → AreOnly ss
  rest_only (Only e) ss h = h
  rest_only (Section a b c) ss h = absurd h

  called-known : (f : Intrinsic) (x : List ℕ) (ss : List Subscript) → function_by ds x ≡ Some f → ss ≢ [] → AreOnly ss
      → LosesNothing (Some f) ss
      → KnowsSubscripts ds (subscripts ss) ↔ KnowsNames ds (called (Some f) x ss)
  called-known f x [] e some only loses = absurd (some refl)
  called-known (intrinsics.Elemental f) x (s ∷ ss) e some only loses = arguments_known (s ∷ ss) only
  called-known (intrinsics.Reduction r) x (s ∷ []) e some only loses = let k = only_known s [] only in
      (λ h. k.0 h.0, λ h. (k.1 h, tt))
  called-known (intrinsics.Reduction r) x (s ∷ t ∷ ss) e some only loses = stays x s (t ∷ ss) (intrinsics.Reduction r) e
  called-known intrinsics.Transpose x (s ∷ []) e some only loses = let k = only_known s [] only in
      (λ h. k.0 h.0, λ h. (k.1 h, tt))
  called-known intrinsics.Transpose x (s ∷ t ∷ ss) e some only loses = stays x s (t ∷ ss) intrinsics.Transpose e
  called-known intrinsics.Spread x (s ∷ []) e some only loses = stays x s [] intrinsics.Spread e
  called-known intrinsics.Spread x (s ∷ d ∷ []) e some only loses = stays x s (d ∷ []) intrinsics.Spread e
  called-known intrinsics.Spread x (s ∷ d ∷ n ∷ []) e some only loses =
      let j = only_known s (d ∷ n ∷ []) only in
      let k = only_known n [] (rest_only d (n ∷ []) (rest_only s (d ∷ n ∷ []) only)) in
      (λ h. (j.0 h.0, k.0 h.1.1.0), λ h. (j.1 h.0, (loses, (k.1 h.1, tt))))
  called-known intrinsics.Spread x (s ∷ d ∷ n ∷ t ∷ ss) e some only loses =
      stays x s (d ∷ n ∷ t ∷ ss) intrinsics.Spread e
  called-known intrinsics.Reshape x (s ∷ []) e some only loses = stays x s [] intrinsics.Reshape e
  called-known intrinsics.Reshape x (s ∷ n ∷ []) e some only loses =
      let j = only_known s (n ∷ []) only in (λ h. (j.0 h.0, loses.0 h.1.0), λ h. (j.1 h.0, (loses.1 h.1, tt)))
  called-known intrinsics.Reshape x (s ∷ n ∷ t ∷ ss) e some only loses = stays x s (n ∷ t ∷ ss) intrinsics.Reshape e

  abbrev All : List Use90 → Type 0
  All us = AllByRecursion (IsKnown ds) us

  -- a name with a list that is no call
  variable-known : (x : List ℕ) (ss : List Subscript) → ss ≢ [] → function_by ds x ≡ None
      → (IsKnown ds (use90_of x (number_of_subscripts (subscripts ss))) × KnowsSubscripts ds (subscripts ss))
      ↔ KnowsNames ds (Named x (subscripts ss))
  variable-known x [] some e = absurd (some refl)
  variable-known x (s ∷ ss) some e = (
    λ h. (inr h.0, h.1),
    λ h.
        (elim h.0 [ inl i ↦ absurd (none (function_by ds x) e i) | inr k ↦ k ], h.1),
  )
    where
      none : (o : Option Intrinsic) → o ≡ None → IsSome o → ⊥
      none None e i = cc
      none (Some f) e i = cc

  listed-known : (o : Option Intrinsic) (x : List ℕ) (ps : ListParts) → function_by ds x ≡ o → SuitsFunction o ps
      → (All (use_unless_function o x (length_of_parts ps)) × KnowsSubscripts ds
      (subscripts (trees_of_parts function ps))) ↔ KnowsNames ds (called o x (trees_of_parts function ps))
  listed-known None x ps e suits =
      let v = variable-known x (trees_of_parts function ps) (parts_some function ps) e in (
        λ h. v.0 (subst (λ n. IsKnown ds (use90_of x n)) (sym (parts_counted function ps)) h.0.0, h.1),
        λ h. let k = v.1 h in ((subst (λ n. IsKnown ds (use90_of x n)) (parts_counted function ps) k.0, tt), k.1),
      )
  listed-known (Some f) x ps e suits =
      let v = called-known f x (trees_of_parts function ps) e (parts_some function ps)
      (values_only function ps (call_values f ps suits)) (call_loses f ps suits) in
      (λ h. v.0 h.1, λ h. (tt, v.1 h))

  signed-known : (s : Sign) (e : Expression) → KnowsNames ds e ↔ KnowsNames ds (signs.signed s e)
  signed-known Plus e = same_iff
  signed-known Minus e = same_iff
  signed-known Negation e = same_iff

  mutual
    pub phrase-known : (p : Phrase90) → SuitsCalls function p → All (uses90_in function p)
        ↔ KnowsNames ds (tree_of function p)
    phrase-known (phrases.Literal t) h = same_iff
    phrase-known (phrases.Truth b) h = same_iff
    phrase-known (phrases.Name x) h = (λ k. k.0, λ k. (k, tt))
    phrase-known (phrases.Listed x ps) h =
        through (all_parts (IsKnown ds) (use_unless_function (function_by ds x) x (length_of_parts ps))
        (uses_in_parts function ps))
        (through (pair_iff same_iff (parts-known ps h.1)) (listed-known (function_by ds x) x ps refl h.0))
    phrase-known (phrases.Paren p) h = phrase-known p h
    phrase-known (phrases.Signed s p) h = through (phrase-known p h) (signed-known s (tree_of function p))
    phrase-known (phrases.Joined o a b) h = through (all_parts (IsKnown ds) (uses90_in function a) (uses90_in function b))
        (pair_iff (phrase-known a h.0) (phrase-known b h.1))
    phrase-known (phrases.Values ps) h = let k = values-known ps h in (λ j. (k.0 j, tt), λ j. k.1 j.0)
    phrase-known (phrases.Looped t) h = let k = turn-known t no_loops h in (λ j. k.0 (j, tt), λ j. (k.1 j).0)

    part-known : (p : ListPart) → PartSuitsCalls function p → All (uses_in_part function p)
        ↔ KnowsSubscript ds (tree_of_part function p)
    part-known (phrases.Value p) h = phrase-known p h
    part-known (phrases.Range a b) h =
        let k = through (all_parts (IsKnown ds) (uses90_in function a) (uses90_in function b))
        (pair_iff (phrase-known a h.0) (phrase-known b h.1)) in
        (λ j. let i = k.0 j in (i.0, i.1, tt), λ j. k.1 (j.0, j.1))
    part-known (phrases.Strided a b c) h =
        let k = through (all_parts (IsKnown ds) (uses90_in function a) (uses90_in function b ++ uses90_in function c))
        (pair_iff (phrase-known a h.0) (through (all_parts (IsKnown ds) (uses90_in function b) (uses90_in function c))
        (pair_iff (phrase-known b h.1) (phrase-known c h.2)))) in
        (λ j. let i = k.0 j in (i.0, i.1.0, i.1.1), λ j. k.1 (j.0, (j.1, j.2)))

    parts-known : (ps : ListParts) → PartsSuitCalls function ps → All (uses_in_parts function ps)
        ↔ KnowsSubscripts ds (subscripts (trees_of_parts function ps))
    parts-known (phrases.One p) h = let k = part-known p h in (λ j. (k.0 j, tt), λ j. k.1 j.0)
    parts-known (phrases.Then ps p) h =
        through (all_parts (IsKnown ds) (uses_in_parts function ps) (uses_in_part function p))
        (through (pair_iff (parts-known ps h.0) (part-known p h.1))
        (subscripts_last (trees_of_parts function ps) (tree_of_part function p)))

    values-known : (ps : Phrases90) → ValuesSuitCalls function ps → All (uses_in_values function ps)
        ↔ KnowsAll ds (expressions (trees_of_values function ps))
    values-known (phrases.Sole p) h = let k = phrase-known p h in (λ j. (k.0 j, tt), λ j. k.1 j.0)
    values-known (phrases.More ps p) h =
        through (all_parts (IsKnown ds) (uses_in_values function ps) (uses90_in function p))
        (through (pair_iff (values-known ps h.0) (phrase-known p h.1))
        (expressions_last (trees_of_values function ps) (tree_of function p)))

    -- under the loops that are round it
    turn-known : (t : Turn) (ls : Loops) → TurnSuitsCalls function t
        → (All (uses_in_turn function t) × KnowsLoops ds ls) ↔ KnowsNames ds (looped function t ls)
    turn-known (phrases.Innermost p x a b) ls h =
        let k = through (all_parts (IsKnown ds) (uses90_in function p)
        (use90_of x 0 ∷ (uses90_in function a ++ uses90_in function b)))
        (pair_iff (phrase-known p h.0) (pair_iff same_iff (through
        (all_parts (IsKnown ds) (uses90_in function a) (uses90_in function b))
        (pair_iff (phrase-known a h.1) (phrase-known b h.2))))) in (
          λ j. let i = k.0 j.0 in ((i.0, tt), (i.1.0, i.1.1.0, i.1.1.1, j.1)),
          λ j.
              (k.1 (j.0.0, (j.1.0, (j.1.1, j.1.2))), j.1.3),
        )
    turn-known (phrases.Round t x a b) ls h =
        let r = turn-known t (loop x (tree_of function a) (tree_of function b) ls) h.0 in
        let k = through (all_parts (IsKnown ds) (uses_in_turn function t)
        (use90_of x 0 ∷ (uses90_in function a ++ uses90_in function b)))
        (pair_iff same_iff (pair_iff same_iff (through (all_parts (IsKnown ds) (uses90_in function a)
        (uses90_in function b)) (pair_iff (phrase-known a h.1) (phrase-known b h.2))))) in (
          λ j. let i = k.0 j.0 in r.0 (i.0, (i.1.0, i.1.1.0, i.1.1.1, j.1)),
          λ j. let i = r.1 j in
              (k.1 (i.0, (i.1.0, (i.1.1, i.1.2))), i.1.3),
        )

  -- ---- references

  -- the uses of a name with a list that is stored into
  abbrev StoredUses : List ℕ → ListParts → Type 0
  StoredUses x ps = IsKnown ds (use90_of x (length_of_parts ps)) × All (uses_in_parts function ps)

  stored-known : (x : List ℕ) (ps : ListParts) → PartsSuitCalls function ps → StoredUses x ps
      ↔ KnowsReference ds (record { name = x; subscripts = subscripts (trees_of_parts function ps) })
  stored-known x ps h = pair_iff (
    λ k. subst (λ n. IsKnown ds (use90_of x n)) (sym (parts_counted function ps)) k,
    λ k.
        subst (λ n. IsKnown ds (use90_of x n)) (parts_counted function ps) k,
  )
      (parts-known ps h)

  -- the name of a function is no variable
  no_single : (f : Intrinsic) (x : List ℕ) (ss : List Subscript) → function_by ds x ≡ Some f
      → KnowsSingle ds Input (called (Some f) x ss) → ⊥
  no_single (intrinsics.Elemental f) x ss e k = k
  no_single (intrinsics.Reduction r) x [] e k = function_unknown ds x (intrinsics.Reduction r) 0 e k.0
  no_single (intrinsics.Reduction r) x (s ∷ []) e k = k
  no_single (intrinsics.Reduction r) x (s ∷ t ∷ ss) e k = function_unknown ds x (intrinsics.Reduction r)
      (number_of_subscripts (subscripts (s ∷ t ∷ ss))) e k.0
  no_single intrinsics.Transpose x [] e k = function_unknown ds x intrinsics.Transpose 0 e k.0
  no_single intrinsics.Transpose x (s ∷ []) e k = k
  no_single intrinsics.Transpose x (s ∷ t ∷ ss) e k = function_unknown ds x intrinsics.Transpose
      (number_of_subscripts (subscripts (s ∷ t ∷ ss))) e k.0
  no_single intrinsics.Spread x [] e k = function_unknown ds x intrinsics.Spread 0 e k.0
  no_single intrinsics.Spread x (s ∷ []) e k = function_unknown ds x intrinsics.Spread
      (number_of_subscripts (subscripts (s ∷ []))) e k.0
  no_single intrinsics.Spread x (s ∷ d ∷ []) e k = function_unknown ds x intrinsics.Spread
      (number_of_subscripts (subscripts (s ∷ d ∷ []))) e k.0
  no_single intrinsics.Spread x (s ∷ d ∷ n ∷ []) e k = k
  no_single intrinsics.Spread x (s ∷ d ∷ n ∷ t ∷ ss) e k = function_unknown ds x intrinsics.Spread
      (number_of_subscripts (subscripts (s ∷ d ∷ n ∷ t ∷ ss))) e k.0
  no_single intrinsics.Reshape x [] e k = function_unknown ds x intrinsics.Reshape 0 e k.0
  no_single intrinsics.Reshape x (s ∷ []) e k = function_unknown ds x intrinsics.Reshape
      (number_of_subscripts (subscripts (s ∷ []))) e k.0
  no_single intrinsics.Reshape x (s ∷ n ∷ []) e k = k
  no_single intrinsics.Reshape x (s ∷ n ∷ t ∷ ss) e k = function_unknown ds x intrinsics.Reshape
      (number_of_subscripts (subscripts (s ∷ n ∷ t ∷ ss))) e k.0

  -- what isn't a reference would have the empty name
  nameless : declared ds [] ≡ None → KnowsReference ds (record { name = []; subscripts = no_subscripts }) → ⊥
  nameless empty h = subst (λ o. FitsUse o 0) empty h.0

  single_from_reference : (e : Expression) → declared ds [] ≡ None → KnowsReference ds (reference_in e)
      → KnowsSingle ds Input e
  single_from_reference (Named x ps) empty h = h
  single_from_reference (Number n) empty h = nameless empty h
  single_from_reference (Logic b) empty h = nameless empty h
  single_from_reference (Unary o a) empty h = nameless empty h
  single_from_reference (Binary o a b) empty h = nameless empty h
  single_from_reference (Apply f es) empty h = nameless empty h
  single_from_reference (Constructor es ls) empty h = nameless empty h
  single_from_reference (Spread a d n) empty h = nameless empty h
  single_from_reference (Transpose a) empty h = nameless empty h
  single_from_reference (Reshape a es) empty h = nameless empty h
  single_from_reference (Reduce r a) empty h = nameless empty h

  reference_from_single : (e : Expression) → KnowsSingle ds Input e → KnowsReference ds (reference_in e)
  reference_from_single (Named x ps) h = h
  reference_from_single (Number n) h = absurd h
  reference_from_single (Logic b) h = absurd h
  reference_from_single (Unary o a) h = absurd h
  reference_from_single (Binary o a b) h = absurd h
  reference_from_single (Apply f es) h = absurd h
  reference_from_single (Constructor es ls) h = absurd h
  reference_from_single (Spread a d n) h = absurd h
  reference_from_single (Transpose a) h = absurd h
  reference_from_single (Reshape a es) h = absurd h
  reference_from_single (Reduce r a) h = absurd h

  single-known : (p : Phrase90) → IsReference90 p → VariableSuitsCalls function p → All (uses90_in_variable function p)
      ↔ KnowsSingle ds Input (tree_of function p)
  single-known (phrases.Name x) is h = (λ k. (k.0, tt), λ k. (k.0, tt))
  single-known (phrases.Listed x ps) is h = by (function_by ds x) refl
    where
      by : (o : Option Intrinsic) → function_by ds x ≡ o → StoredUses x ps
          ↔ KnowsSingle ds Input (called o x (trees_of_parts function ps))
      by None e = stored-known x ps h
      by (Some f) e = (
        λ k. absurd (function_unknown ds x f (length_of_parts ps) e k.0),
        λ k. absurd
            (no_single f x (trees_of_parts function ps) e k),
      )
  single-known (phrases.Literal t) is h = absurd is
  single-known (phrases.Truth b) is h = absurd is
  single-known (phrases.Paren p) is h = absurd is
  single-known (phrases.Signed s p) is h = absurd is
  single-known (phrases.Joined o a b) is h = absurd is
  single-known (phrases.Values ps) is h = absurd is
  single-known (phrases.Looped t) is h = absurd is

  pub reference-known : (p : Phrase90) → declared ds [] ≡ None → IsReference90 p → VariableSuitsCalls function p
      → All (uses90_in_variable function p) ↔ KnowsReference ds (reference_in (tree_of function p))
  reference-known p empty is h = through (single-known p is h)
      (reference_from_single (tree_of function p), single_from_reference (tree_of function p) empty)

  -- ---- items

  abbrev Each : (Phrase90 → List Use90) → List Phrase90 → Type 0
  Each uses ps = AllByRecursion (λ p. All (uses p)) ps

  each-known : (uses : Phrase90 → List Use90) (ps : List Phrase90) → All (flat_map uses ps) ↔ Each uses ps
  each-known uses [] = same_iff
  each-known uses (p ∷ ps) = through (all_parts (IsKnown ds) (uses p) (flat_map uses ps))
      (pair_iff same_iff (each-known uses ps))

  each_parts : (P : Phrase90 → Type 0) (xs ys : List Phrase90) → AllByRecursion P (xs ++ ys)
      ↔ (AllByRecursion P xs × AllByRecursion P ys)
  each_parts P xs ys = (λ h. (first_part P xs ys h, second_part P xs ys h), λ h. join P xs ys h.0 h.1)

  is_reference : (p : Phrase90) → itemised.IsVariable p → IsReference90 p
  is_reference (phrases.Name x) h = tt
  is_reference (phrases.Listed x ps) h = tt
  is_reference (phrases.Literal t) h = h
  is_reference (phrases.Truth b) h = h
  is_reference (phrases.Paren p) h = h
  is_reference (phrases.Signed s p) h = h
  is_reference (phrases.Joined o a b) h = h
  is_reference (phrases.Values ps) h = h
  is_reference (phrases.Looped t) h = h

  abbrev Suit : List Phrase90 → Type 0
  Suit ps = AllByRecursion (SuitsCalls function) ps

  step-known : (c : Option Phrase90) → Suit (step_expressions c) → Each (uses90_in function) (step_expressions c)
      ↔ KnowsNames ds (step_tree90 function c)
  step-known None h = same_iff
  step-known (Some p) h = let k = phrase-known p h.0 in (λ j. k.0 j.0, λ j. (k.1 j, tt))

  bounds-known : (a b : Phrase90) (c : Option Phrase90) → Suit (a ∷ (b ∷ step_expressions c))
      → Each (uses90_in function) (a ∷ (b ∷ step_expressions c))
      ↔ (KnowsNames ds (tree_of function a) × (KnowsNames ds (tree_of function b)
      × KnowsNames ds (step_tree90 function c)))
  bounds-known a b c h = pair_iff (phrase-known a h.0) (pair_iff (phrase-known b h.1.0) (step-known c h.1.1))

  mutual
    output_item-known : (i : ItemPhrase90) → Suit (item_expressions Output i)
        → Each (uses90_in function) (item_expressions Output i) ↔ KnowsItem ds Output (item_tree90 function i)
    output_item-known (itemised.Of p) h = let k = phrase-known p h.0 in (λ j. k.0 j.0, λ j. (k.1 j, tt))
    output_item-known (itemised.Text t) h = same_iff
    output_item-known (itemised.Loop is x a b c) h =
        let s = (each_parts (SuitsCalls function) (items_expressions Output is) (a ∷ (b ∷ step_expressions c))).0 h in
        let k = through (each_parts (λ p. All (uses90_in function p)) (items_expressions Output is)
        (a ∷ (b ∷ step_expressions c))) (pair_iff (output_items-known is s.0) (bounds-known a b c s.1)) in
        (λ j. let i = k.0 j in (i.0, i.1.0, i.1.1.0, i.1.1.1), λ j. k.1 (j.0, (j.1, (j.2, j.3))))

    output_items-known : (is : ItemPhrases90) → Suit (items_expressions Output is)
        → Each (uses90_in function) (items_expressions Output is) ↔ KnowsItems ds Output (items (item_trees90 function is))
    output_items-known (itemised.Sole i) h = let k = output_item-known i h in (λ j. (k.0 j, tt), λ j. k.1 j.0)
    output_items-known (itemised.More is i) h =
        let s = (each_parts (SuitsCalls function) (items_expressions Output is) (item_expressions Output i)).0 h in
        through (each_parts (λ p. All (uses90_in function p)) (items_expressions Output is) (item_expressions Output i))
        (through (pair_iff (output_items-known is s.0) (output_item-known i s.1))
        (items_last Output (item_trees90 function is) (item_tree90 function i)))

  abbrev SuitVariables : List Phrase90 → Type 0
  SuitVariables ps = AllByRecursion (VariableSuitsCalls function) ps

  mutual
    input_item-known : (i : ItemPhrase90) → IsItem90 Input i → Suit (item_expressions Input i)
        → SuitVariables (item_variables i)
        → (Each (uses90_in function) (item_expressions Input i) × Each (uses90_in_variable function) (item_variables i))
        ↔ KnowsItem ds Input (item_tree90 function i)
    input_item-known (itemised.Of p) is h g = let k = single-known p (is_reference p is.1) g.0 in
        (λ j. k.0 j.1.0, λ j. (tt, (k.1 j, tt)))
    input_item-known (itemised.Text t) is h g = absurd is
    input_item-known (itemised.Loop is x a b c) are h g =
        let s = (each_parts (SuitsCalls function) (items_expressions Input is) (a ∷ (b ∷ step_expressions c))).0 h in
        let e = each_parts (λ p. All (uses90_in function p)) (items_expressions Input is)
        (a ∷ (b ∷ step_expressions c)) in
        let r = input_items-known is are.0 s.0 g in
        let k = bounds-known a b c s.1 in (
          λ j. let i = e.0 j.0 in let m = k.0 i.1 in (r.0 (i.0, j.1), m.0, m.1.0, m.1.1),
          λ j. let i = r.1 j.0 in
              (e.1 (i.0, k.1 (j.1, (j.2, j.3))), i.1),
        )

    input_items-known : (is : ItemPhrases90) → AreItems90 Input is → Suit (items_expressions Input is)
        → SuitVariables (items_variables is)
        → (Each (uses90_in function) (items_expressions Input is) × Each (uses90_in_variable function) (items_variables is))
        ↔ KnowsItems ds Input (items (item_trees90 function is))
    input_items-known (itemised.Sole i) is h g = let k = input_item-known i is h g in (λ j. (k.0 j, tt), λ j. k.1 j.0)
    input_items-known (itemised.More is i) are h g =
        let s = (each_parts (SuitsCalls function) (items_expressions Input is) (item_expressions Input i)).0 h in
        let t = (each_parts (VariableSuitsCalls function) (items_variables is) (item_variables i)).0 g in
        let e = each_parts (λ p. All (uses90_in function p)) (items_expressions Input is) (item_expressions Input i) in
        let v = each_parts (λ p. All (uses90_in_variable function p)) (items_variables is) (item_variables i) in
        let both = through (pair_iff (input_items-known is are.0 s.0 t.0) (input_item-known i are.1 s.1 t.1))
        (items_last Input (item_trees90 function is) (item_tree90 function i)) in (
          λ j. let x = e.0 j.0 in let y = v.0 j.1 in both.0 ((x.0, y.0), (x.1, y.1)),
          λ j. let z = both.1 j in
              (e.1 (z.0.0, z.1.0), v.1 (z.0.1, z.1.1)),
        )

-- ---- the laws

pub tree_knows_names : TreeKnowsNames
tree_knows_names ds p h = phrase-known ds p h

pub trees_know_names : TreesKnowNames
trees_know_names ds [] h = same_iff
trees_know_names ds (p ∷ ps) h =
    through (all_parts (IsKnown ds) (uses90_in (function_by ds) p) (flat_map (uses90_in (function_by ds)) ps))
    (pair_iff (phrase-known ds p h.0) (trees_know_names ds ps h.1))

pub reference_knows_names : ReferenceKnowsNames
reference_knows_names ds p empty is h = reference-known ds p empty is h

pub output_knows_names : OutputKnowsNames
output_knows_names ds is h = through (each-known ds (uses90_in (function_by ds)) (items_expressions Output is))
    (output_items-known ds is h)

pub input_knows_names : InputKnowsNames
input_knows_names ds is are h g =
    through (all_parts (IsKnown ds) (flat_map (uses90_in (function_by ds)) (items_expressions Input is))
    (flat_map (uses90_in_variable (function_by ds)) (items_variables is)))
    (through (pair_iff (each-known ds (uses90_in (function_by ds)) (items_expressions Input is))
    (each-known ds (uses90_in_variable (function_by ds)) (items_variables is))) (input_items-known ds is are h g))
