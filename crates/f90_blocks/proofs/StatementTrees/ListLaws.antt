-- The parts of a list make the trees of its items.
use Rattle.std.proofs.Common.{◌≡◌, ℕ, List, [], ◌∷◌, ◌++◌, map, refl, ap, sym, ◌∙◌, append_assoc, append-nil, Option}
use Rattle.std.specs.Prelude.{reverse}
use Rattle.std.proofs.lemmas.List.{map_push, reverse-append}
use Rattle.tree.specs.Plain as tree
use Rattle.tree.specs.Plain.{Item}
use Rattle.tree.specs.View.{expression_of, item_of}
use Rattle.tree.specs.declared.exprs.Expr.{Expr}
use Rattle.tree.specs.declared.functions.Intrinsic.{Intrinsic}
use Rattle.tree.specs.declared.stmts.Item as code
use Rattle.tree.specs.declared.stmts.Item.TheVariants as code_items
use Rattle.tree.proofs.Equations.{item_of-one, item_of-text, item_of-turns}
use Rattle.f90_grammar.specs.Items as items
use Rattle.f90_grammar.specs.Items.{ItemPhrase90, ItemPhrases90, item_tree90, item_trees90, step_tree90}
use Rattle.f90_grammar.specs.Phrases.{Phrase90, tree_of}
use Rattle.f90_expressions.specs.Reading.{IsMadeOf}
use Rattle.f90_expressions.specs.declared.nodes.Expression.{Expression}
use Rattle.f90_statement.specs.items.Flat.{Node, Of, Text, Turns, flat_item, flat_items}
use Rattle.f90_statement.specs.items.Views.{IsNodeOf}
use Rattle.f90_statement.specs.items.parts.Bounds.{AreBoundsOf}
use Rattle.f90_statement.specs.declared.items.parts.bounds.Bounds.{Bounds}
use Rattle.f90_statement.specs.declared.items.nodes.Node.TheVariants as node_variants
use Rattle.f90_trees.specs.Building.{held}
use Rattle.f90_blocks.specs.statement_trees.Held.{held_item, held_items}
use Rattle.f90_blocks.specs.statement_trees.Results.{AreBoundTrees}
use Rattle.f90_blocks.specs.statement_trees.Lists.{Levels, levels, ended, with_part, with_parts, levels_seen}

pub items_held : (ts : List Item) → tree.items (map held_item ts) ≡ held_items (tree.items ts)
items_held [] = refl
items_held (t ∷ ts) = ap (tree.item (held_item t)) (items_held ts)

module _ (function : List ℕ → Option Intrinsic) where
  abbrev made : ItemPhrases90 → List Item
  made is = map held_item (item_trees90 function is)

  grouped : (a b r : List Node) (l : Levels)
      → with_parts function ((a ++ b) ++ r) l ≡ with_parts function (a ++ (b ++ r)) l
  grouped a b r l = ap (λ (q : List Node). with_parts function q l) (append_assoc a b r)

  mutual
    item_made : (i : ItemPhrase90) (r : List Node) (is : List Item) (outer : List (List Item))
        → with_parts function (flat_item i ++ r) (levels is outer)
        ≡ with_parts function r (levels (is ++ held_item (item_tree90 function i) ∷ []) outer)
    item_made (items.Of p) r is outer = refl
    item_made (items.Text t) r is outer = refl
    item_made (items.Loop ps x a b c) r is outer =
        grouped (flat_items ps) (Turns x a b c ∷ []) r (levels [] (is ∷ outer))
        ∙ (items_made ps (Turns x a b c ∷ r) [] (is ∷ outer)
        ∙ ap (λ (q : tree.Items). with_parts function r
        (levels (is ++ tree.ImpliedDo q x (held (tree_of function a)) (held (tree_of function b)) (held
        (step_tree90 function c)) ∷ []) outer))
        (items_held (item_trees90 function ps)))

    items_made : (ps : ItemPhrases90) (r : List Node) (is : List Item) (outer : List (List Item))
        → with_parts function (flat_items ps ++ r) (levels is outer)
        ≡ with_parts function r (levels (is ++ made ps) outer)
    items_made (items.Sole i) r is outer = item_made i r is outer
    items_made (items.More ps i) r is outer =
        grouped (flat_items ps) (flat_item i) r (levels is outer)
        ∙ (items_made ps (flat_item i ++ r) is outer
        ∙ (item_made i r (is ++ made ps) outer
        ∙ ap (λ (q : List Item). with_parts function r (levels q outer))
        (append_assoc is (made ps) (held_item (item_tree90 function i) ∷ [])
        ∙ ap (λ (q : List Item). is ++ q) (sym (map_push held_item (item_trees90 function ps) (item_tree90 function i))))))

  pub list_made : (ps : ItemPhrases90) → (with_parts function (flat_items ps) (levels [] [])).inner ≡ made ps
  list_made ps =
      ap (λ (q : List Node). (with_parts function q (levels [] [])).inner) (sym (append-nil (flat_items ps)))
      ∙ ap (λ (l : Levels). l.inner) (items_made ps [] [] [])

  pub whole_list : (ps : ItemPhrases90) (made_items : List code.Item)
      → map item_of made_items ≡ (with_parts function (flat_items ps) (levels [] [])).inner
      → tree.items (map item_of made_items) ≡ held_items (tree.items (item_trees90 function ps))
  whole_list ps made_items e = ap tree.items (e ∙ list_made ps) ∙ items_held (item_trees90 function ps)

  pub one_more : (ns : List Node) (n : Node) (l : Levels)
      → with_parts function (ns ++ n ∷ []) l ≡ with_part function n (with_parts function ns l)
  one_more [] n l = refl
  one_more (m ∷ ns) n l = one_more ns n (with_part function m l)

-- ---- what each part does

seen_with : (is made : List code.Item) (i : code.Item) (t : Item) (outer : List (List code.Item))
    → map item_of made ≡ map item_of is ++ item_of i ∷ [] → item_of i ≡ t
    → levels_seen made outer ≡ levels (map item_of is ++ t ∷ []) (levels_seen is outer).outer
seen_with is made i t outer h k =
    ap (λ (q : List Item). levels q (levels_seen is outer).outer) (h ∙ ap (λ (q : Item). map item_of is ++ q ∷ []) k)

outer_push : (outer : List (List code.Item)) (is : List code.Item)
    → reverse (map (map item_of) (outer ++ is ∷ [])) ≡ map item_of is ∷ reverse (map (map item_of) outer)
outer_push outer is = ap (reverse {A = List Item}) (map_push (map item_of) outer is)
    ∙ reverse-append (map (map item_of) outer) (map item_of is ∷ [])

-- the items that were moved are those before
moved : (is before made : List code.Item) (i : code.Item) → before ≡ is
    → map item_of made ≡ map item_of before ++ item_of i ∷ [] → map item_of made ≡ map item_of is ++ item_of i ∷ []
moved is before made i e h = h ∙ ap (λ (q : List code.Item). map item_of q ++ item_of i ∷ []) e

module _ (function : List ℕ → Option Intrinsic) where
  pub value_made : (e : Expression) (x : Expr) (is before more : List code.Item) (outer : List (List code.Item))
      (part : Node) → IsNodeOf (node_variants.Value e) part
      → ((p : Phrase90) → IsMadeOf e p → expression_of x ≡ held (tree_of function p)) → before ≡ is
      → map item_of more ≡ map item_of before ++ item_of (code_items.One x) ∷ []
      → levels_seen more outer ≡ with_part function part (levels_seen is outer)
  value_made e x is before more outer (Of p) n t b h =
      seen_with is more (code_items.One x) _ outer (moved is before more (code_items.One x) b h) (item_of-one x
      ∙ ap tree.Single (t p n))
  value_made e x is before more outer part n t b h = absurd n

  pub text_made : (t u : List ℕ) (is before more : List code.Item) (outer : List (List code.Item)) (part : Node)
      → IsNodeOf (node_variants.Text t) part → u ≡ t → before ≡ is
      → map item_of more ≡ map item_of before ++ item_of (code_items.Text u) ∷ []
      → levels_seen more outer ≡ with_part function part (levels_seen is outer)
  text_made t u is before more outer (Text v) n e b h =
      seen_with is more (code_items.Text u) _ outer (moved is before more (code_items.Text u) b h) (item_of-text u
      ∙ ap tree.Constant (e ∙ n))
  text_made t u is before more outer part n e b h = absurd n

  -- the item that an implied DO list is
  abbrev list_item : List code.Item → List ℕ → Phrase90 → Phrase90 → Option Phrase90 → Item
  list_item is x a b c = tree.ImpliedDo (tree.items (map item_of is)) x (held (tree_of function a)) (held
      (tree_of function b)) (held (step_tree90 function c))

  turns_tree : (is before : List code.Item) (x y : List ℕ) (r : Expr × Expr × Expr) (a b : Phrase90)
      (c : Option Phrase90) → before ≡ is → x ≡ y → AreBoundTrees function a b c r
      → item_of (code_items.Turns before x r.0 r.1 r.2) ≡ list_item is y a b c
  turns_tree is before x y r a b c e f h =
      by before x (expression_of r.0) (expression_of r.1) (expression_of r.2)
      (item_of-turns before x r.0 r.1 r.2) e f h.first h.last h.step
    where
      by : (q : List code.Item) (z : List ℕ) (u v w : tree.Expression)
          → item_of (code_items.Turns before x r.0 r.1 r.2) ≡ tree.ImpliedDo (tree.items (map item_of q)) z u v w
          → q ≡ is → z ≡ y → u ≡ held (tree_of function a) → v ≡ held (tree_of function b)
          → w ≡ held (step_tree90 function c)
          → item_of (code_items.Turns before x r.0 r.1 r.2) ≡ list_item is y a b c
      by q z u v w t g h i j k = cc

  pub list_ended : (x : List ℕ) (k : Bounds) (r : Expr × Expr × Expr) (is before outside more : List code.Item)
      (old new : List (List code.Item)) (part : Node)
      → IsNodeOf (node_variants.Turns x k) part → ((a b : Phrase90) (c : Option Phrase90) → AreBoundsOf k a b c
      → AreBoundTrees function a b c r) → before ≡ is
      → old ≡ new ++ outside ∷ [] → map item_of more
      ≡ map item_of outside ++ item_of (code_items.Turns before x r.0 r.1 r.2) ∷ []
      → levels_seen more new ≡ with_part function part (levels_seen is old)
  list_ended x k r is before outside more old new (Turns y a b c) n t q e h =
      seen_with outside more (code_items.Turns before x r.0 r.1 r.2) _ new h (turns_tree is before x y r a b c q n.0
      (t a b c n.1))
      ∙ ap (λ (o : List (List Item)). ended (list_item is y a b c) o)
      (sym (ap (λ (o : List (List code.Item)). reverse (map (map item_of) o)) e ∙ outer_push new outside))
  list_ended x k r is before outside more old new part n t q e h = absurd n

  pub list_alone : (x : List ℕ) (k : Bounds) (r : Expr × Expr × Expr) (is before none more : List code.Item)
      (old new : List (List code.Item)) (part : Node)
      → IsNodeOf (node_variants.Turns x k) part → ((a b : Phrase90) (c : Option Phrase90) → AreBoundsOf k a b c
      → AreBoundTrees function a b c r) → before ≡ is → old ≡ [] → new ≡ []
      → none ≡ [] → map item_of more ≡ map item_of none ++ item_of (code_items.Turns before x r.0 r.1 r.2) ∷ []
      → levels_seen more new ≡ with_part function part (levels_seen is old)
  list_alone x k r is before none more old new (Turns y a b c) n t q e f g h =
      ap (λ (o : List (List code.Item)). levels (map item_of more) (reverse (map (map item_of) o))) f
      ∙ (ap (λ (o : List Item). levels o [])
      (moved [] none more (code_items.Turns before x r.0 r.1 r.2) g h
      ∙ ap (λ (i : Item). i ∷ []) (turns_tree is before x y r a b c q n.0 (t a b c n.1)))
      ∙ ap (λ (o : List (List code.Item)). ended (list_item is y a b c) (reverse (map (map item_of) o))) (sym e))
  list_alone x k r is before none more old new part n t q e f g h = absurd n
