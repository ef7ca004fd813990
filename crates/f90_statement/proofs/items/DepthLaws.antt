-- The parts of a list tell how deep it is.
use Rattle.std.proofs.Common.{arith, ◌≡◌, ◌+◌, ℕ, List, [], ◌∷◌, ◌++◌, refl, ap, sym, ◌∙◌, append_assoc, append-nil}
use Rattle.std.specs.Prelude.{max}
use Rattle.f90_grammar.specs.Phrases.{phrase_depth90}
use Rattle.f90_grammar.specs.Items as items
use Rattle.f90_grammar.specs.Items.{ItemPhrase90, ItemPhrases90, Sole, More, step_depth90, item_depth90, items_depth90}
use Rattle.f90_expressions.specs.Machine.{counted, deeper}
use Rattle.f90_statement.specs.items.Depths.{Levels, levels, with_part, with_parts}
use Rattle.f90_statement.specs.items.Flat as flats
use Rattle.f90_statement.specs.items.Flat.{Of, Text, Begin, Turns, flat_item, flat_items}
use Rattle.f90_statement.specs.items.Views.{IsNodeOf, AreNodesOf}
use Rattle.f90_statement.specs.declared.items.nodes.Node.{Node}

counted_max : (a b : ℕ) → max (counted a) (counted b) ≡ counted (max a b)
counted_max a b = omega arith

grouped : (a b r : List flats.Node) (l : Levels) → with_parts ((a ++ b) ++ r) l ≡ with_parts (a ++ (b ++ r)) l
grouped a b r l = ap (λ (q : List flats.Node). with_parts q l) (append_assoc a b r)

at_depth : (r : List flats.Node) (ls : List ℕ) (m n : ℕ) → m ≡ n → with_parts r (levels m ls) ≡ with_parts r (levels n ls)
at_depth r ls m n e = ap (λ (k : ℕ). with_parts r (levels k ls)) e

of_bounds : (a b c : ℕ) → max (max (counted a) (counted b)) (counted c) ≡ counted (max (max a b) c)
of_bounds a b c = ap (λ (x : ℕ). max x (counted c)) (counted_max a b) ∙ counted_max (max a b) c

zero_counted : (i : ℕ) → max 0 (counted i) ≡ counted i
zero_counted i = omega arith

deeper_counted : (n : ℕ) → deeper (counted n) ≡ counted (n + 1)
deeper_counted n = omega arith

of_loop : (m i a b c : ℕ) → max m (deeper (max (max 0 (counted i)) (max (max (counted a) (counted b)) (counted c)))) ≡ max m (counted (max i (max (max a b) c) + 1))
of_loop m i a b c =
    ap (λ (x : ℕ). max m (deeper (max x (max (max (counted a) (counted b)) (counted c))))) (zero_counted i)
    ∙ (ap (λ (x : ℕ). max m (deeper (max (counted i) x))) (of_bounds a b c)
    ∙ (ap (λ (x : ℕ). max m (deeper x)) (counted_max i (max (max a b) c)) ∙ ap (max m) (deeper_counted (max i (max (max a b) c)))))

max_assoc : (a b c : ℕ) → max (max a b) c ≡ max a (max b c)
max_assoc a b c = omega arith

of_two : (m i j : ℕ) → max (max m (counted i)) (counted j) ≡ max m (counted (max i j))
of_two m i j = max_assoc m (counted i) (counted j) ∙ ap (max m) (counted_max i j)

of_none : (m : ℕ) → m ≡ max m (counted 0)
of_none m = omega arith

mutual
  item_deep : (i : ItemPhrase90) (r : List flats.Node) (m : ℕ) (ls : List ℕ) → with_parts (flat_item i ++ r) (levels m ls) ≡ with_parts r (levels (max m (counted (item_depth90 i))) ls)
  item_deep (items.Of p) r m ls = refl
  item_deep (items.Text t) r m ls = at_depth r ls m (max m (counted 0)) (of_none m)
  item_deep (items.Loop is x a b c) r m ls =
      grouped (flat_items is) (Turns x a b c ∷ []) r (levels 0 (m ∷ ls))
      ∙ (items_deep is (Turns x a b c ∷ r) 0 (m ∷ ls)
      ∙ at_depth r ls _ _ (of_loop m (items_depth90 is) (phrase_depth90 a) (phrase_depth90 b) (step_depth90 c)))

  items_deep : (is : ItemPhrases90) (r : List flats.Node) (m : ℕ) (ls : List ℕ) → with_parts (flat_items is ++ r) (levels m ls) ≡ with_parts r (levels (max m (counted (items_depth90 is))) ls)
  items_deep (Sole i) r m ls = item_deep i r m ls
  items_deep (More is i) r m ls =
      grouped (flat_items is) (flat_item i) r (levels m ls)
      ∙ (items_deep is (flat_item i ++ r) m ls
      ∙ (item_deep i r (max m (counted (items_depth90 is))) ls ∙ at_depth r ls _ _ (of_two m (items_depth90 is) (item_depth90 i))))

none_before : (n : ℕ) → max 0 (counted n) ≡ counted n
none_before n = omega arith

pub list_deep : (is : ItemPhrases90) → (with_parts (flat_items is) (levels 0 [])).inner ≡ counted (items_depth90 is)
list_deep is =
    ap (λ (q : List flats.Node). (with_parts q (levels 0 [])).inner) (sym (append-nil (flat_items is)))
    ∙ (ap (λ (l : Levels). l.inner) (items_deep is [] 0 []) ∙ none_before (items_depth90 is))

-- ---- node by node

abbrev pub IsLeft : List Node → List flats.Node → ℕ → List ℕ → Type 0
IsLeft nodes all inner outer =
    (rest : List flats.Node) × AreNodesOf nodes rest × (with_parts all (levels 0 []) ≡ with_parts rest (levels inner outer))

pub one_more : (node : Node) (tail : List Node) (all : List flats.Node) (i : ℕ) (o : List ℕ) (j : ℕ) (q : List ℕ)
    → ((part : flats.Node) → IsNodeOf node part → with_part part (levels i o) ≡ levels j q) → IsLeft (node ∷ tail) all i o → IsLeft tail all j q
one_more node tail all i o j q s h = by h.0 h.1 h.2
  where
    by : (rest : List flats.Node) → AreNodesOf (node ∷ tail) rest → with_parts all (levels 0 []) ≡ with_parts rest (levels i o) → IsLeft tail all j q
    by [] a e = absurd a
    by (p ∷ ps) a e = (ps, a.1, e ∙ ap (with_parts ps) (s p a.0))
