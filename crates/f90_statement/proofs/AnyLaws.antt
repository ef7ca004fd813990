-- What holds of one of the expressions of a statement.
use Rattle.std.proofs.Common.{arith, zero, suc, ◌≡◌, ◌+◌, ◌<◌, ◌≤◌, ℕ, Bool, true, false, ◌||◌, List, [], ◌∷◌, ◌++◌, drop, length, get_or, ap, refl, sym, subst, ◌∙◌, append-nil, Option}
use mathlib.Core.Path.{ap₂}
use Rattle.std.specs.List.{list_any}
use Rattle.std.proofs.lemmas.List.{drop_more, drop_all}
use Rattle.f90_grammar.specs.Contents.{step_expressions, items_expressions, items_variables, item_expressions, item_variables}
use Rattle.f90_grammar.specs.Items as items
use Rattle.f90_grammar.specs.Items.{ItemPhrase90, ItemPhrases90, Input, Output}
use Rattle.f90_grammar.specs.Phrases.{Phrase90}
use Rattle.f90_statement.specs.items.Flat as flats
use Rattle.f90_statement.specs.items.Flat.{flat_item, flat_items}
use Rattle.f90_statement.specs.items.Views.{IsNodeOf, AreNodesOf}
use Rattle.f90_statement.specs.declared.items.nodes.Node.{Node}
use Rattle.f90_statement.specs.Contents.{node_holds}
use Rattle.f90_statement.specs.Views.{AreOf}

-- ---- item by item

first : (b : Bool) (r : Bool) → b ≡ false → (b || r) ≡ r
first true r h = absurd (cc)
first false r h = refl

holds : (b : Bool) (r : Bool) → b ≡ true → (b || r) ≡ true
holds true r h = refl
holds false r h = absurd (cc)

module _ {A B : Type 0} (is : A → B → Type 0) (test : B → Bool) where
  -- it held of none of the first i
  abbrev pub IsLeft : List A → ℕ → List B → Type 0
  IsLeft xs i all = (rest : List B) × AreOf is (drop i xs) rest × (list_any test all ≡ list_any test rest)

  pub begun : (xs : List A) (all : List B) → AreOf is xs all → IsLeft xs 0 all
  begun xs all a = (all, a, refl)

  abbrev Left : List A → List B → Type 0
  Left ys all = (rest : List B) × AreOf is ys rest × (list_any test all ≡ list_any test rest)

  next : (xs : List A) (i : ℕ) (x : A) (all : List B) → i < length xs → get_or xs i x ≡ x → IsLeft xs i all → Left (x ∷ drop (i + 1) xs) all
  next xs i x all l g h = subst (λ (ys : List A). Left ys all) (drop_more xs i x l ∙ ap (λ (y : A). y ∷ drop (i + 1) xs) g) h

  passed_by : (x : A) (ys : List A) (all rest : List B) → ((p : B) → is x p → false ≡ test p) → AreOf is (x ∷ ys) rest → list_any test all ≡ list_any test rest → Left ys all
  passed_by x ys all [] t a e = absurd a
  passed_by x ys all (p ∷ rest) t a e = (rest, a.1, e ∙ first (test p) (list_any test rest) (sym (t p a.0)))

  pub passed : (xs : List A) (i : ℕ) (x : A) (all : List B) → i < length xs → get_or xs i x ≡ x → ((p : B) → is x p → false ≡ test p) → IsLeft xs i all
      → IsLeft xs (i + 1) all
  passed xs i x all l g t h = let n = next xs i x all l g h in passed_by x (drop (i + 1) xs) all n.0 t n.1 n.2

  met_by : (x : A) (ys : List A) (all rest : List B) → ((p : B) → is x p → true ≡ test p) → AreOf is (x ∷ ys) rest → list_any test all ≡ list_any test rest
      → true ≡ list_any test all
  met_by x ys all [] t a e = absurd a
  met_by x ys all (p ∷ rest) t a e = sym (e ∙ holds (test p) (list_any test rest) (sym (t p a.0)))

  pub met : (xs : List A) (i : ℕ) (x : A) (all : List B) → i < length xs → get_or xs i x ≡ x → ((p : B) → is x p → true ≡ test p) → IsLeft xs i all
      → true ≡ list_any test all
  met xs i x all l g t h = let n = next xs i x all l g h in met_by x (drop (i + 1) xs) all n.0 t n.1 n.2

  ended_by : (all rest : List B) → AreOf is [] rest → list_any test all ≡ list_any test rest → false ≡ list_any test all
  ended_by all [] a e = sym e
  ended_by all (p ∷ rest) a e = absurd a

  pub ended : (xs : List A) (i : ℕ) (all : List B) → length xs ≤ i → IsLeft xs i all → false ≡ list_any test all
  ended xs i all l h = let n = subst (λ (ys : List A). Left ys all) (drop_all i xs l) h in ended_by all n.0 n.1 n.2

pub same_element : {A : Type 0} (xs : List A) (i : ℕ) (d e : A) → i < length xs → get_or xs i d ≡ get_or xs i e
same_element [] i d e l = absurd (omega arith)
same_element (x ∷ xs) zero d e l = refl
same_element (x ∷ xs) (suc i) d e l = same_element xs i d e (omega arith)

-- ---- parts of lists

pub nodes_are : (ns : List Node) (ms : List flats.Node) → AreNodesOf ns ms → AreOf IsNodeOf ns ms
nodes_are [] [] h = tt
nodes_are [] (m ∷ ms) h = absurd h
nodes_are (n ∷ ns) [] h = absurd h
nodes_are (n ∷ ns) (m ∷ ms) h = (h.0, nodes_are ns ms h.1)

or_none : (b : Bool) → (b || false) ≡ b
or_none true = refl
or_none false = refl

or_assoc : (a b c : Bool) → ((a || b) || c) ≡ (a || (b || c))
or_assoc true b c = refl
or_assoc false b c = refl

or_swap : (a b c d : Bool) → ((a || b) || (c || d)) ≡ ((a || c) || (b || d))
or_swap true b c d = refl
or_swap false true true d = refl
or_swap false true false d = refl
or_swap false false true d = refl
or_swap false false false d = refl

any_both : {A : Type 0} (t : A → Bool) (xs ys : List A) → list_any t (xs ++ ys) ≡ (list_any t xs || list_any t ys)
any_both t [] ys = refl
any_both t (x ∷ xs) ys = ap (λ (b : Bool). t x || b) (any_both t xs ys) ∙ sym (or_assoc (t x) (list_any t xs) (list_any t ys))

turned : (a b c : Bool) → ((a || b) || c) ≡ ((a || c) || b)
turned true b c = refl
turned false true true = refl
turned false true false = refl
turned false false true = refl
turned false false false = refl

module _ (test : Phrase90 → Bool) where
  abbrev bounds_of : Phrase90 → Phrase90 → Option Phrase90 → List Phrase90
  bounds_of a b c = a ∷ (b ∷ step_expressions c)

  loop_is : (ns : List flats.Node) (x : List ℕ) (a b : Phrase90) (c : Option Phrase90)
      → list_any (node_holds test) (flats.Begin ∷ (ns ++ flats.Turns x a b c ∷ [])) ≡ (list_any (node_holds test) ns || list_any test (bounds_of a b c))
  loop_is ns x a b c =
      any_both (node_holds test) ns (flats.Turns x a b c ∷ [])
      ∙ ap (λ (q : Bool). list_any (node_holds test) ns || q) (or_none (list_any test (bounds_of a b c)))

  -- of PRINT
  mutual
    output : (i : ItemPhrase90) → list_any (node_holds test) (flat_item i) ≡ list_any test (item_expressions Output i)
    output (items.Of p) = refl
    output (items.Text t) = refl
    output (items.Loop is x a b c) =
        loop_is (flat_items is) x a b c
        ∙ (ap (λ (q : Bool). q || list_any test (bounds_of a b c)) (outputs is) ∙ sym (any_both test (items_expressions Output is) (bounds_of a b c)))

    outputs : (is : ItemPhrases90) → list_any (node_holds test) (flat_items is) ≡ list_any test (items_expressions Output is)
    outputs (items.Sole i) = output i
    outputs (items.More is i) =
        any_both (node_holds test) (flat_items is) (flat_item i)
        ∙ (ap₂ (λ (x y : Bool). x || y) (outputs is) (output i) ∙ sym (any_both test (items_expressions Output is) (item_expressions Output i)))

  -- of READ
  abbrev both : List Phrase90 → List Phrase90 → Bool
  both xs ys = list_any test xs || list_any test ys

  mutual
    input : (i : ItemPhrase90) → list_any (node_holds test) (flat_item i) ≡ both (item_expressions Input i) (item_variables i)
    input (items.Of p) = refl
    input (items.Text t) = refl
    input (items.Loop is x a b c) =
        loop_is (flat_items is) x a b c
        ∙ (ap (λ (q : Bool). q || list_any test (bounds_of a b c)) (inputs is)
        ∙ (turned (list_any test (items_expressions Input is)) (list_any test (items_variables is)) (list_any test (bounds_of a b c))
        ∙ ap (λ (q : Bool). q || list_any test (items_variables is)) (sym (any_both test (items_expressions Input is) (bounds_of a b c)))))

    inputs : (is : ItemPhrases90) → list_any (node_holds test) (flat_items is) ≡ both (items_expressions Input is) (items_variables is)
    inputs (items.Sole i) = input i
    inputs (items.More is i) =
        any_both (node_holds test) (flat_items is) (flat_item i)
        ∙ (ap₂ (λ (x y : Bool). x || y) (inputs is) (input i)
        ∙ (or_swap (list_any test (items_expressions Input is)) (list_any test (items_variables is)) (list_any test (item_expressions Input i)) (list_any test (item_variables i))
        ∙ ap₂ (λ (x y : Bool). x || y) (sym (any_both test (items_expressions Input is) (item_expressions Input i)))
        (sym (any_both test (items_variables is) (item_variables i)))))

  pub output_holds : (is : ItemPhrases90) → list_any (node_holds test) (flat_items is) ≡ list_any test (items_expressions Output is ++ [])
  output_holds is = outputs is ∙ ap (list_any test) (sym (append-nil (items_expressions Output is)))

  pub input_holds : (is : ItemPhrases90) → list_any (node_holds test) (flat_items is) ≡ list_any test (items_expressions Input is ++ items_variables is)
  input_holds is = inputs is ∙ sym (any_both test (items_expressions Input is) (items_variables is))
