-- Whether calls have arguments that may stand there.
use Rattle.std.proofs.Common.{◌≡◌, ◌+◌, ◌<◌, ◌≤◌, ℕ, Bool, true, false, IsTrue, List, [], ◌∷◌, Option, Some, None}
use Rattle.std.proofs.Common.{Result, Ok, Err, drop, length, get_or, refl, ap, subst, ◌∙◌}
use Rattle.std.specs.Prelude.{◌↔◌}
use Rattle.std.specs.List.{AllByRecursion}
use Rattle.std.proofs.lemmas.List.{drop_more, drop_all}
use Rattle.tree.specs.declared.functions.Intrinsic.{Intrinsic}
use Rattle.tree.specs.declared.lists.Memory.{Memory}
use Rattle.f90_grammar.specs.Contents.{VariableSuitsCalls, SuitsCallsIn, step_expressions, item_expressions}
use Rattle.f90_grammar.specs.Contents.{items_expressions, item_variables, items_variables}
use Rattle.f90_grammar.specs.Forms as forms
use Rattle.f90_grammar.specs.Forms.{Form90}
use Rattle.f90_grammar.specs.Items as items
use Rattle.f90_grammar.specs.Items.{ItemPhrase90, ItemPhrases90}
use Rattle.f90_grammar.specs.Phrases.{Phrase90, SuitsCalls}
use Rattle.f90_laws.proofs.readings.Lists.{all_left, all_right, all_both}
use Rattle.f90_statement.specs.items.Flat.{Node, Of, Text, Turns, flat_item, flat_items}
use Rattle.f90_statement.specs.items.Reading.{IsListOf}
use Rattle.f90_statement.specs.declared.items.nodes.Direction.{Direction}
use Rattle.f90_statement.specs.declared.items.nodes.Direction.TheVariants.{Input, Output}
use Rattle.f90_statement.specs.declared.items.nodes.ItemList.{ItemList}
use Rattle.f90_statement.specs.declared.items.nodes.Node as code
use Rattle.f90_statement.specs.declared.items.nodes.Node.TheVariants as variants
use Rattle.f90_statement.specs.items.Views.{IsNodeOf}
use Rattle.f90_expressions.specs.Reading.{IsMadeOf}
use Rattle.f90_expressions.specs.declared.nodes.Expression.{Expression}
use Rattle.f90_statement.specs.items.parts.Bounds.{AreBoundsOf, IsStepOf}
use Rattle.f90_statement.specs.declared.items.parts.bounds.Bounds.{Bounds}
use Rattle.f90_statement.specs.Views.{AreOf, IsActionOf, IsStatementOf}
use Rattle.f90_statement.specs.declared.nodes.Action.{Action}
use Rattle.f90_statement.specs.declared.nodes.Action.TheVariants.{Assign, Read, Print}
use Rattle.f90_statement.specs.declared.nodes.Statement.TheVariants.{Where, Test, If, ElseIf, Do, Allocate}
use Rattle.f90_trees.specs.Hiding.{function_in}
use Rattle.f90_trees.specs.Trees.{TellsCallsOf}
use Rattle.f90_trees.specs.declared.functions.Functions.{Functions}
use Rattle.f90_names.specs.calls.Calls.{Tells, NodeSuits, ListSuits, AssignmentSuits}

-- ---- what is told

clash : {P : Type 0} (b : Bool) → b ≡ true → b ≡ false → P
clash b h k = absurd (cc)

-- what fails alone, fails with more
pub fails : {P Q : Type 0} (b : Bool) → b ≡ false → IsTrue b ↔ P → (Q → P) → Tells (Ok false) Q
fails b e h f = (λ t. clash false t refl, λ q. clash b (h.1 (f q)) e)

pub tells_by : {P Q : Type 0} (r : Result Bool Memory) → (P → Q) → (Q → P) → Tells r P → Tells r Q
tells_by (Ok b) f g h = (λ t. f (h.0 t), λ q. h.1 (g q))
tells_by (Err e) f g h = tt

-- where the first holds, the second is told
pub passes : (P Q : Type 0) (b : Bool) (r : Result Bool Memory) → b ≡ true → IsTrue b ↔ P → Tells r Q → Tells r (P × Q)
passes P Q b r e h t = tells_by r (λ q. (h.0 e, q)) (λ w. w.1) t

-- told of an expression
pub told : (r : Result Bool Memory) (fs : Functions) (p : Phrase90) → TellsCallsOf r fs p
    → Tells r (SuitsCalls (function_in fs) p)
told (Ok b) fs p h = h
told (Err e) fs p h = tt

-- ---- one after another

module _ {A B : Type 0} (is : A → B → Type 0) (Holds : B → Type 0) where
  abbrev Left : List A → List B → Type 0
  Left ys all = (rest : List B) × AreOf is ys rest × (AllByRecursion Holds rest ↔ AllByRecursion Holds all)

  -- it held of each of the first i
  abbrev pub IsLeft : List A → ℕ → List B → Type 0
  IsLeft xs i all = Left (drop i xs) all

  pub begun : (xs : List A) (all : List B) → AreOf is xs all → IsLeft xs 0 all
  begun xs all a = (all, a, (λ h. h, λ h. h))

  next : (xs : List A) (i : ℕ) (x : A) (all : List B) → i < length xs → get_or xs i x ≡ x → IsLeft xs i all
      → Left (x ∷ drop (i + 1) xs) all
  next xs i x all l g h =
      subst (λ (ys : List A). Left ys all) (drop_more xs i x l ∙ ap (λ (y : A). y ∷ drop (i + 1) xs) g) h

  passed_by : (x : A) (ys : List A) (b : Bool) (all rest : List B) → b ≡ true → ((p : B) → is x p → IsTrue b ↔ Holds p)
      → AreOf is (x ∷ ys) rest
      → AllByRecursion Holds rest ↔ AllByRecursion Holds all → Left ys all
  passed_by x ys b all [] e t a k = absurd a
  passed_by x ys b all (p ∷ rest) e t a k = (rest, a.1, (λ h. k.0 ((t p a.0).0 e, h), λ h. (k.1 h).1))

  pub passed : (xs : List A) (i : ℕ) (x : A) (b : Bool) (all : List B) → i < length xs → get_or xs i x ≡ x → b ≡ true
      → ((p : B) → is x p → IsTrue b ↔ Holds p)
      → IsLeft xs i all → IsLeft xs (i + 1) all
  passed xs i x b all l g e t h = let n = next xs i x all l g h in passed_by x (drop (i + 1) xs) b all n.0 e t n.1 n.2

  met_by : (x : A) (ys : List A) (b : Bool) (all rest : List B) → b ≡ false → ((p : B) → is x p → IsTrue b ↔ Holds p)
      → AreOf is (x ∷ ys) rest
      → AllByRecursion Holds rest ↔ AllByRecursion Holds all → Tells (Ok false) (AllByRecursion Holds all)
  met_by x ys b all [] e t a k = absurd a
  met_by x ys b all (p ∷ rest) e t a k = fails b e (t p a.0) (λ h. (k.1 h).0)

  pub met : (xs : List A) (i : ℕ) (x : A) (b : Bool) (all : List B) → i < length xs → get_or xs i x ≡ x → b ≡ false
      → ((p : B) → is x p → IsTrue b ↔ Holds p)
      → IsLeft xs i all → Tells (Ok false) (AllByRecursion Holds all)
  met xs i x b all l g e t h = let n = next xs i x all l g h in met_by x (drop (i + 1) xs) b all n.0 e t n.1 n.2

  ended_by : (all rest : List B) → AreOf is [] rest → AllByRecursion Holds rest ↔ AllByRecursion Holds all
      → Tells (Ok true) (AllByRecursion Holds all)
  ended_by all [] a k = (λ t. k.0 tt, λ h. refl)
  ended_by all (p ∷ rest) a k = absurd a

  pub ended : (xs : List A) (i : ℕ) (all : List B) → length xs ≤ i → IsLeft xs i all
      → Tells (Ok true) (AllByRecursion Holds all)
  ended xs i all l h = let n = subst (λ (ys : List A). Left ys all) (drop_all i xs l) h in ended_by all n.0 n.1 n.2

-- ---- lists of READ and PRINT

module _ (function : List ℕ → Option Intrinsic) where
  abbrev Suit : List Phrase90 → Type 0
  Suit ps = AllByRecursion (SuitsCalls function) ps

  abbrev Stored : List Phrase90 → Type 0
  Stored ps = AllByRecursion (VariableSuitsCalls function) ps

  abbrev bounds_of : Phrase90 → Phrase90 → Option Phrase90 → List Phrase90
  bounds_of a b c = a ∷ (b ∷ step_expressions c)

  -- of PRINT
  abbrev out : Node → Type 0
  out n = NodeSuits function Output n

  mutual
    output_suits : (i : ItemPhrase90) → AllByRecursion out (flat_item i) → Suit (item_expressions items.Output i)
    output_suits (items.Of p) h = h
    output_suits (items.Text t) h = tt
    output_suits (items.Loop is x a b c) h =
        all_both (SuitsCalls function) (items_expressions items.Output is) (bounds_of a b c)
        (outputs_suit is (all_left out (flat_items is) (Turns x a b c ∷ []) h.1))
        (all_right out (flat_items is) (Turns x a b c ∷ []) h.1).0

    outputs_suit : (is : ItemPhrases90) → AllByRecursion out (flat_items is) → Suit (items_expressions items.Output is)
    outputs_suit (items.Sole i) h = output_suits i h
    outputs_suit (items.More is i) h =
        all_both (SuitsCalls function) (items_expressions items.Output is) (item_expressions items.Output i)
        (outputs_suit is (all_left out (flat_items is) (flat_item i) h))
        (output_suits i (all_right out (flat_items is) (flat_item i) h))

  mutual
    output_parts : (i : ItemPhrase90) → Suit (item_expressions items.Output i) → AllByRecursion out (flat_item i)
    output_parts (items.Of p) h = h
    output_parts (items.Text t) h = (tt, tt)
    output_parts (items.Loop is x a b c) h = (
      tt,
      all_both out (flat_items is) (Turns x a b c ∷ [])
          (outputs_parts is (all_left (SuitsCalls function) (items_expressions items.Output is) (bounds_of a b c) h))
          (all_right (SuitsCalls function) (items_expressions items.Output is) (bounds_of a b c) h, tt),
    )

    outputs_parts : (is : ItemPhrases90) → Suit (items_expressions items.Output is) → AllByRecursion out (flat_items is)
    outputs_parts (items.Sole i) h = output_parts i h
    outputs_parts (items.More is i) h =
        all_both out (flat_items is) (flat_item i)
        (outputs_parts is (all_left (SuitsCalls function) (items_expressions items.Output is)
        (item_expressions items.Output i) h))
        (output_parts i (all_right (SuitsCalls function) (items_expressions items.Output is)
        (item_expressions items.Output i) h))

  -- of READ
  abbrev into : Node → Type 0
  into n = NodeSuits function Input n

  mutual
    input_suits : (i : ItemPhrase90) → AllByRecursion into (flat_item i)
        → Suit (item_expressions items.Input i) × Stored (item_variables i)
    input_suits (items.Of p) h = (tt, h)
    input_suits (items.Text t) h = (tt, tt)
    input_suits (items.Loop is x a b c) h =
        let k = inputs_suit is (all_left into (flat_items is) (Turns x a b c ∷ []) h.1) in (
          all_both (SuitsCalls function) (items_expressions items.Input is) (bounds_of a b c) k.0
              (all_right into (flat_items is) (Turns x a b c ∷ []) h.1).0,
          k.1,
        )

    inputs_suit : (is : ItemPhrases90) → AllByRecursion into (flat_items is) → ListSuits function Input is
    inputs_suit (items.Sole i) h = input_suits i h
    inputs_suit (items.More is i) h =
        let k = inputs_suit is (all_left into (flat_items is) (flat_item i) h) in
        let m = input_suits i (all_right into (flat_items is) (flat_item i) h) in (
          all_both (SuitsCalls function) (items_expressions items.Input is) (item_expressions items.Input i) k.0 m.0,
          all_both (VariableSuitsCalls function) (items_variables is) (item_variables i) k.1 m.1,
        )

  mutual
    input_parts : (i : ItemPhrase90) → Suit (item_expressions items.Input i) → Stored (item_variables i)
        → AllByRecursion into (flat_item i)
    input_parts (items.Of p) h k = k
    input_parts (items.Text t) h k = (tt, tt)
    input_parts (items.Loop is x a b c) h k = (
      tt,
      all_both into (flat_items is) (Turns x a b c ∷ [])
          (inputs_parts is (all_left (SuitsCalls function) (items_expressions items.Input is) (bounds_of a b c) h) k)
          (all_right (SuitsCalls function) (items_expressions items.Input is) (bounds_of a b c) h, tt),
    )

    inputs_parts : (is : ItemPhrases90) → Suit (items_expressions items.Input is) → Stored (items_variables is)
        → AllByRecursion into (flat_items is)
    inputs_parts (items.Sole i) h k = input_parts i h k
    inputs_parts (items.More is i) h k =
        all_both into (flat_items is) (flat_item i)
        (inputs_parts is (all_left (SuitsCalls function) (items_expressions items.Input is)
        (item_expressions items.Input i) h)
        (all_left (VariableSuitsCalls function) (items_variables is) (item_variables i) k))
        (input_parts i (all_right (SuitsCalls function) (items_expressions items.Input is)
        (item_expressions items.Input i) h)
        (all_right (VariableSuitsCalls function) (items_variables is) (item_variables i) k))

-- ---- of lists, and of statements

bounds_by : (function : List ℕ → Option Intrinsic) (r : Result Bool Memory) (e : Expression) (a b : Phrase90)
    (c : Option Phrase90) → SuitsCalls function a → SuitsCalls function b
    → ((p : Phrase90) → IsMadeOf e p → Tells r (SuitsCalls function p)) → IsStepOf (Some e) c
    → Tells r (AllByRecursion (SuitsCalls function) (a ∷ (b ∷ step_expressions c)))
bounds_by function r e a b None h k t s = absurd s
bounds_by function r e a b (Some p) h k t s = tells_by r (λ q. (h, (k, (q, tt)))) (λ q. q.1.1.0) (t p s)

pub bounds_told : (function : List ℕ → Option Intrinsic) (r : Result Bool Memory) (e : Expression) (k : Bounds)
    (x y : Bool) → k.step ≡ Some e → x ≡ true → y ≡ true
    → ((p : Phrase90) → IsMadeOf k.first p → IsTrue x ↔ SuitsCalls function p)
    → ((p : Phrase90) → IsMadeOf k.last p → IsTrue y ↔ SuitsCalls function p)
    → ((p : Phrase90) → IsMadeOf e p → Tells r (SuitsCalls function p)) → (a b : Phrase90) (c : Option Phrase90)
    → AreBoundsOf k a b c
    → Tells r (AllByRecursion (SuitsCalls function) (a ∷ (b ∷ step_expressions c)))
bounds_told function r e k x y i f g m n t a b c h =
    bounds_by function r e a b c ((m a h.first).0 f) ((n b h.last).0 g) t
    (subst (λ (o : Option Expression). IsStepOf o c) i h.step)

turns_by : (function : List ℕ → Option Intrinsic) (d : Direction) (r : Result Bool Memory) (x : List ℕ) (k : Bounds)
    (part : Node)
    → ((a b : Phrase90) (c : Option Phrase90) → AreBoundsOf k a b c
    → Tells r (AllByRecursion (SuitsCalls function) (a ∷ (b ∷ step_expressions c))))
    → IsNodeOf (variants.Turns x k) part → Tells r (NodeSuits function d part)
turns_by function Input r x k (Turns y a b c) t h = t a b c h.1
turns_by function Output r x k (Turns y a b c) t h = t a b c h.1
turns_by function d r x k part t h = absurd h

pub turns_told : (function : List ℕ → Option Intrinsic) (d : Direction) (r : Result Bool Memory) (n : code.Node)
    (x : List ℕ) (k : Bounds) (part : Node) → n ≡ variants.Turns x k
    → ((a b : Phrase90) (c : Option Phrase90) → AreBoundsOf k a b c
    → Tells r (AllByRecursion (SuitsCalls function) (a ∷ (b ∷ step_expressions c))))
    → IsNodeOf n part → Tells r (NodeSuits function d part)
turns_told function d r n x k part e t h =
    turns_by function d r x k part t (subst (λ (m : code.Node). IsNodeOf m part) e h)

pub list_told : (function : List ℕ → Option Intrinsic) (d : Direction) (r : Result Bool Memory) (is : ItemPhrases90)
    → Tells r (AllByRecursion (NodeSuits function d) (flat_items is))
    → Tells r (ListSuits function d is)
list_told function Input r is h = tells_by r (inputs_suit function is) (λ k. inputs_parts function is k.0 k.1) h
list_told function Output r is h = tells_by r (outputs_suit function is) (outputs_parts function is) h

module _ (function : List ℕ → Option Intrinsic) (r : Result Bool Memory) where
  abbrev Suits : Form90 → Type 0
  Suits f = Tells r (SuitsCallsIn function f)

  -- an expression alone
  expressions_told : (ps : List Phrase90) → Tells r (AllByRecursion (SuitsCalls function) ps)
      → Tells r (AllByRecursion (SuitsCalls function) ps × Unit {0})
  expressions_told ps h = tells_by r (λ k. (k, tt)) (λ k. k.0) h

  phrase_told : (p : Phrase90) → Tells r (SuitsCalls function p)
      → Tells r (AllByRecursion (SuitsCalls function) (p ∷ []) × Unit {0})
  phrase_told p h = tells_by r (λ k. ((k, tt), tt)) (λ k. k.0.0) h

  pub assigned : (k m : Expression) (f : Form90)
      → ((l s : Phrase90) → IsMadeOf k l → IsMadeOf m s → Tells r (AssignmentSuits function l s))
      → IsActionOf (Assign k m) f → Suits f
  assigned k m (forms.Assign l s) h a = tells_by r (λ q. ((q.0, tt), (q.1, tt))) (λ q. (q.0.0, q.1.0)) (h l s a.0 a.1)
  assigned k m f h a = absurd a

  pub read : (list : ItemList) (f : Form90)
      → ((is : ItemPhrases90) → IsListOf list is → Tells r (ListSuits function Input is))
      → IsActionOf (Read (Some list)) f → Suits f
  read list (forms.Read is) h a = h is a
  read list f h a = absurd a

  pub print : (list : ItemList) (f : Form90)
      → ((is : ItemPhrases90) → IsListOf list is → Tells r (ListSuits function Output is))
      → IsActionOf (Print (Some list)) f → Suits f
  print list (forms.Print is) h a = expressions_told (items_expressions items.Output is) (h is a)
  print list f h a = absurd a

  pub masked : (e k m : Expression) (f : Form90)
      → ((p l s : Phrase90) → IsMadeOf e p → IsMadeOf k l → IsMadeOf m s
      → Tells r (SuitsCalls function p × AssignmentSuits function l s)) → IsStatementOf (Where e k m) f → Suits f
  masked e k m (forms.Where p l s) h a =
      tells_by r (λ q. ((q.0, (q.1.0, tt)), (q.1.1, tt))) (λ q. (q.0.0, (q.0.1.0, q.1.0))) (h p l s a.0 a.1 a.2)
  masked e k m f h a = absurd a

  pub tested : (e : Expression) (x : Action) (f : Form90)
      → ((p : Phrase90) (g : Form90) → IsMadeOf e p → IsActionOf x g
      → Tells r (SuitsCalls function p × SuitsCallsIn function g))
      → IsStatementOf (Test e x) f → Suits f
  tested e x (forms.Test p g) h a = tells_by r (λ q. ((q.0, q.1.0), q.1.1)) (λ q. (q.0.0, (q.0.1, q.1))) (h p g a.0 a.1)
  tested e x f h a = absurd a

  pub opened : (e : Expression) (f : Form90) → ((p : Phrase90) → IsMadeOf e p → Tells r (SuitsCalls function p))
      → IsStatementOf (If e) f → Suits f
  opened e (forms.If p) h a = phrase_told p (h p a)
  opened e f h a = absurd a

  pub other : (e : Expression) (f : Form90) → ((p : Phrase90) → IsMadeOf e p → Tells r (SuitsCalls function p))
      → IsStatementOf (ElseIf e) f → Suits f
  other e (forms.ElseIf p) h a = phrase_told p (h p a)
  other e f h a = absurd a

  pub looped : (x : List ℕ) (k : Bounds) (f : Form90)
      → ((a b : Phrase90) (c : Option Phrase90) → AreBoundsOf k a b c
      → Tells r (AllByRecursion (SuitsCalls function) (a ∷ (b ∷ step_expressions c)))) → IsStatementOf (Do x k) f → Suits f
  looped x k (forms.Do y p q s) h a = expressions_told (p ∷ (q ∷ step_expressions s)) (h p q s a.1)
  looped x k f h a = absurd a

  pub allocated : (x : List ℕ) (es : List Expression) (f : Form90)
      → ((ps : List Phrase90) → AreOf IsMadeOf es ps → Tells r (AllByRecursion (SuitsCalls function) ps))
      → IsStatementOf (Allocate x es) f → Suits f
  allocated x es (forms.Allocate y ps) h a = expressions_told ps (h ps a.1)
  allocated x es f h a = absurd a
