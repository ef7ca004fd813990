-- The parts of a list tell whether something is wrong in it.
use Rattle.std.proofs.Common.{arith, zero, suc, ◌≡◌, ℕ, ◌+◌, ◌<◌, ◌≤◌, Bool, true, false, ◌||◌, Option, Some, None, List, [], ◌∷◌, ◌++◌, map, drop, length, get_or, refl, ap, sym, subst, ◌∙◌, append_assoc, append-nil}
use Rattle.std.specs.Prelude.{reverse}
use Rattle.std.specs.List.{list_any}
use Rattle.std.proofs.lemmas.List.Sorted.{list_any-IsPermutation, IsPermutation-reverse}
use Rattle.std.specs.Str.{bytes_eq}
use Rattle.meaning.specs.Names.{is_among}
use Rattle.f90_grammar.specs.Items as items
use Rattle.f90_grammar.specs.Items.{Direction, ItemPhrase90, ItemPhrases90, Sole, More}
use Rattle.f90_statement.specs.items.Flat as flats
use Rattle.f90_statement.specs.items.Flat.{Of, Text, Begin, Turns, flat_item, flat_items}
use Rattle.f90_statement.specs.items.Views.{IsNodeOf, AreNodesOf}
use Rattle.f90_statement.specs.declared.items.nodes.Node.{Node}
use Rattle.f90_expressions.specs.Flat as flat_nodes
use Rattle.f90_expressions.specs.Flat.{flat, flat_parts, flat_values, flat_turn}
use Rattle.f90_expressions.specs.Views.{node_seen, nodes_seen}
use Rattle.f90_expressions.specs.declared.nodes.Node as expr
use Rattle.f90_grammar.specs.Phrases as phrases
use Rattle.f90_grammar.specs.Phrases.{Phrase90}
use Rattle.std.proofs.lemmas.List.{map_push}
use Rattle.f90_read.specs.surroundings.Lists.{stored_name, name_in_node, is_round, Walked, walked, item_misuses, items_misuse, with_node, with_nodes}

-- names in another order
pub among_reversed : (xs : List (List ℕ)) (x : List ℕ) → is_among xs x ≡ is_among (reverse xs) x
among_reversed xs x = list_any-IsPermutation (bytes_eq x) xs (reverse xs) (IsPermutation-reverse xs)

-- the variable of a list or of a loop
pub round_then : (lists vars : List (List ℕ)) (x : List ℕ) (b : Bool) → b ≡ is_among lists x → b ≡ true
    → b ≡ is_round (is_among (reverse vars)) (reverse lists) x
round_then lists vars x b e t =
    t ∙ ap (λ (c : Bool). c || is_among (reverse vars) x) (sym t ∙ (e ∙ among_reversed lists x))

pub round_else : (lists vars : List (List ℕ)) (x : List ℕ) (b c : Bool) → b ≡ is_among lists x → b ≡ false → c ≡ is_among vars x
    → c ≡ is_round (is_among (reverse vars)) (reverse lists) x
round_else lists vars x b c e f g =
    g ∙ (among_reversed vars x ∙ ap (λ (d : Bool). d || is_among (reverse vars) x) (sym f ∙ (e ∙ among_reversed lists x)))

or_assoc : (a b c : Bool) → ((a || b) || c) ≡ (a || (b || c))
or_assoc true b c = refl
or_assoc false b c = refl

or_none : (b : Bool) → b ≡ (b || false)
or_none true = refl
or_none false = refl

module _ (scalar round : List ℕ → Bool) (d : Direction) where
  wrongs : (b c : Bool) (ls : List (List ℕ)) → b ≡ c → walked b ls ≡ walked c ls
  wrongs b c ls e = ap (λ (x : Bool). walked x ls) e

  pub nodes_append : (a b : List flats.Node) (w : Walked) → with_nodes scalar round d (a ++ b) w ≡ with_nodes scalar round d a (with_nodes scalar round d b w)
  nodes_append [] b w = refl
  nodes_append (n ∷ a) b w = ap (with_node scalar round d n) (nodes_append a b w)

  mutual
    item_walked : (i : ItemPhrase90) (b : Bool) (ls : List (List ℕ))
        → with_nodes scalar round d (flat_item i) (walked b ls) ≡ walked (b || item_misuses scalar round d i ls) ls
    item_walked (items.Of p) b ls = refl
    item_walked (items.Text t) b ls = wrongs b (b || false) ls (or_none b)
    item_walked (items.Loop is x l u s) b ls =
        ap (with_node scalar round d Begin)
        (nodes_append (flat_items is) (Turns x l u s ∷ []) (walked b ls) ∙ items_walked is _ (x ∷ ls))
        ∙ wrongs _ _ ls (or_assoc b _ _)

    items_walked : (is : ItemPhrases90) (b : Bool) (ls : List (List ℕ))
        → with_nodes scalar round d (flat_items is) (walked b ls) ≡ walked (b || items_misuse scalar round d is ls) ls
    items_walked (Sole i) b ls = item_walked i b ls
    items_walked (More is i) b ls =
        nodes_append (flat_items is) (flat_item i) (walked b ls)
        ∙ (ap (with_nodes scalar round d (flat_items is)) (item_walked i b ls)
        ∙ (items_walked is (b || item_misuses scalar round d i ls) ls ∙ wrongs _ _ ls (or_assoc b _ _)))

  pub whole_walked : (is : ItemPhrases90) → with_nodes scalar round d (flat_items is) (walked false []) ≡ walked (items_misuse scalar round d is []) []
  whole_walked is = items_walked is false []

-- ---- node by node, from the end

module _ (scalar round : List ℕ → Bool) (d : Direction) where
  pub none_walked : (nodes : List Node) (parts : List flats.Node) → AreNodesOf nodes parts
      → with_nodes scalar round d (drop (length nodes) parts) (walked false []) ≡ walked false []
  none_walked [] [] a = refl
  none_walked [] (p ∷ parts) a = absurd a
  none_walked (n ∷ nodes) [] a = absurd a
  none_walked (n ∷ nodes) (p ∷ parts) a = none_walked nodes parts a.1

  pub one_walked : (nodes : List Node) (parts : List flats.Node) (i j : ℕ) (x : Node) (w now : Walked) → AreNodesOf nodes parts → i ≡ suc j → j < length nodes
      → get_or nodes j x ≡ x → ((part : flats.Node) → IsNodeOf x part → with_node scalar round d part w ≡ now)
      → with_nodes scalar round d (drop i parts) (walked false []) ≡ w → with_nodes scalar round d (drop j parts) (walked false []) ≡ now
  one_walked [] parts i j x w now a k l g s e = absurd (omega arith)
  one_walked (n ∷ nodes) [] i j x w now a k l g s e = absurd a
  one_walked (n ∷ nodes) (p ∷ parts) i zero x w now a k l g s e =
      ap (with_node scalar round d p) (ap (λ (q : ℕ). with_nodes scalar round d (drop q (p ∷ parts)) (walked false [])) (sym k) ∙ e) ∙ s p (subst (λ (y : Node). IsNodeOf y p) g a.0)
  one_walked (n ∷ nodes) (p ∷ parts) i (suc j) x w now a k l g s e =
      one_walked nodes parts (suc j) j x w now a.1 refl (omega arith) g s
      (ap (λ (q : ℕ). with_nodes scalar round d (drop q (p ∷ parts)) (walked false [])) (sym k) ∙ e)

  pub told : (is : ItemPhrases90) (i : ℕ) (wrong : Bool) (lists : List (List ℕ)) → i ≤ 0
      → with_nodes scalar round d (drop i (flat_items is)) (walked false []) ≡ walked wrong lists → wrong ≡ items_misuse scalar round d is []
  told is zero wrong lists l e = ap (λ (w : Walked). w.wrong) (sym e ∙ whole_walked scalar round d is)
  told is (suc i) wrong lists l e = absurd (omega arith)

-- ---- the name of what is stored into

abbrev name_at_end : List flat_nodes.Node → Option (List ℕ)
name_at_end [] = None
name_at_end (n ∷ []) = name_in_node n
name_at_end (n ∷ m ∷ ns) = name_at_end (m ∷ ns)

end_push : (ns : List flat_nodes.Node) (n : flat_nodes.Node) → name_at_end (ns ++ n ∷ []) ≡ name_in_node n
end_push [] n = refl
end_push (m ∷ []) n = refl
end_push (m ∷ k ∷ ns) n = end_push (k ∷ ns) n

named_at_end : (p : Phrase90) → name_at_end (flat p) ≡ stored_name p
named_at_end (phrases.Literal t) = refl
named_at_end (phrases.Truth b) = refl
named_at_end (phrases.Name x) = refl
named_at_end (phrases.Listed x ps) = end_push (flat_nodes.Begin ∷ flat_parts ps) (flat_nodes.Listed x)
named_at_end (phrases.Paren p) = end_push (flat p) flat_nodes.Parenthesis
named_at_end (phrases.Signed s p) = end_push (flat p) (flat_nodes.Prefix s)
named_at_end (phrases.Joined o a b) =
    ap name_at_end (sym (append_assoc (flat a) (flat b) (flat_nodes.Infix o ∷ []))) ∙ end_push (flat a ++ flat b) (flat_nodes.Infix o)
named_at_end (phrases.Values ps) = end_push (flat_nodes.Begin ∷ flat_values ps) flat_nodes.Values
named_at_end (phrases.Looped t) = end_push (flat_nodes.Begin ∷ flat_turn t) flat_nodes.Looped

pub name_told : (slice nodes front : List expr.Node) (n : expr.Node) (p : Phrase90) → slice ≡ nodes → slice ≡ front ++ n ∷ [] → nodes_seen nodes ≡ flat p
    → name_in_node (node_seen n) ≡ stored_name p
name_told slice nodes front n p s e h =
    sym (end_push (map node_seen front) (node_seen n))
    ∙ (ap name_at_end (sym (map_push node_seen front n) ∙ (ap nodes_seen (sym e ∙ s) ∙ h)) ∙ named_at_end p)
