-- A list that is read part by part.
use Rattle.std.proofs.Common.{arith, ◌≡◌, ◌<◌, ℕ, Bool, true, false, List, [], ◌∷◌, ◌++◌, refl, ap, sym, subst, ◌∙◌, append_assoc, append-nil, Err}
use Rattle.f90_grammar.specs.Items.{Direction, ItemPhrases90, AreItems90, written_items90}
use Rattle.f90_grammar.specs.Words.{Word90}
use Rattle.f90_expressions.specs.words.Tokens.{words_of}
use Rattle.reading.specs.declared.stops.Stop.{Stop}
use Rattle.reading.specs.declared.stops.Stop.TheVariants.{Syntax, Memory}
use Rattle.f90_statement.specs.items.Flat as flats
use Rattle.f90_statement.specs.items.Flat.{flat_items}
use Rattle.f90_statement.specs.items.Following.{Follows}
use Rattle.f90_statement.specs.items.Depths.{levels, with_parts}
use Rattle.f90_statement.specs.items.Reading.{IsListOf, AreList, Gives}
use Rattle.f90_statement.specs.items.Views.{IsNodeOf, AreNodesOf, IsStep, IsReading, IsParts}
use Rattle.f90_statement.specs.declared.items.nodes.Node.{Node}
use Rattle.f90_statement.specs.declared.items.nodes.ItemList.{ItemList}
use Rattle.f90_statement.specs.declared.items.reader.Step.{Step}
use Rattle.f90_statement.proofs.items.FollowLaws.{nothing_left, list_goes}
use Rattle.f90_statement.proofs.items.ListLaws.{list_found}
use Rattle.f90_statement.proofs.items.DepthLaws.{list_deep}

pub nodes_push : (ns : List Node) (ms : List flats.Node) (n : Node) (m : flats.Node) → AreNodesOf ns ms → IsNodeOf n m → AreNodesOf (ns ++ n ∷ []) (ms ++ m ∷ [])
nodes_push [] [] n m h k = (k, tt)
nodes_push [] (p ∷ ms) n m h k = absurd h
nodes_push (o ∷ ns) [] n m h k = absurd h
nodes_push (o ∷ ns) (p ∷ ms) n m h k = (h.0, nodes_push ns ms n m h.1 k)

pub begun : (d : Direction) (ws : List Word90) → IsReading d ws [] true 0 ws
begun d ws = record { parts = []; are = tt; back = λ ns h. h; on = λ whole h. (whole, refl, h); front = []; same = refl; few = omega arith }

pub gone_on : (d : Direction) (all : List Word90) (nodes : List Node) (due : Bool) (n : ℕ) (ws : List Word90) (s : Step) → IsReading d all nodes due n ws → IsStep d due n ws s
    → IsReading d all (nodes ++ s.node ∷ []) s.due s.loops (words_of s.rest.now)
gone_on d all nodes due n ws s r k = record {
  parts = r.parts ++ k.part ∷ [];
  are = nodes_push nodes r.parts s.node k.part r.are k.is;
  back = λ ns h. subst (λ (q : List flats.Node). Follows d true 0 all q) (sym (append_assoc r.parts (k.part ∷ []) ns)) (r.back (k.part ∷ ns) (k.fronts.back ns h));
  on = λ whole h.
      let o = r.on whole h in
      let f = k.fronts.on o.0 o.2 in
      (f.0, o.1 ∙ (ap (λ (q : List flats.Node). r.parts ++ q) f.1 ∙ sym (append_assoc r.parts (k.part ∷ []) f.0)), f.2);
  front = r.front ++ k.front;
  same = r.same ∙ (ap (λ (q : List Word90). r.front ++ q) k.same ∙ sym (append_assoc r.front k.front (words_of s.rest.now)));
  few = (let a = r.few in let b = k.few in omega arith);
}

pub failed : (d : Direction) (all : List Word90) (nodes : List Node) (due : Bool) (n : ℕ) (ws : List Word90) → IsReading d all nodes due n ws
    → ((ns : List flats.Node) → Follows d due n ws ns → ⊥) → (whole : List flats.Node) → Follows d true 0 all whole → ⊥
failed d all nodes due n ws r none whole h = let o = r.on whole h in none o.0 o.2

pub left_open : (d : Direction) (n : ℕ) → 0 < n → (ns : List flats.Node) → Follows d false n [] ns → ⊥
left_open d n l ns h = let e = (nothing_left d n ns h).0 in omega arith

-- ---- the whole list

same_nodes : (nodes : List Node) (ms ps : List flats.Node) → ms ≡ ps → AreNodesOf nodes ms → AreNodesOf nodes ps
same_nodes nodes ms ps e h = subst (λ (q : List flats.Node). AreNodesOf nodes q) e h

abbrev IsDeep : List Node → ℕ → Type 0
IsDeep nodes depth = (parts : List flats.Node) → AreNodesOf nodes parts → depth ≡ (with_parts parts (levels 0 [])).inner

abbrev list_of : List Node → ℕ → ItemList
list_of nodes depth = record { nodes = nodes; depth = depth }

is_list : (nodes : List Node) (depth : ℕ) (is : ItemPhrases90) → AreNodesOf nodes (flat_items is) → IsDeep nodes depth → IsListOf (list_of nodes depth) is
is_list nodes depth is a k = record { nodes = a; depth = k (flat_items is) a ∙ list_deep is }

pub list_read : (d : Direction) (ws : List Word90) (nodes : List Node) (depth : ℕ) → IsReading d ws nodes false 0 [] → IsDeep nodes depth → AreList d ws (list_of nodes depth)
list_read d ws nodes depth r k =
    let f = list_found d ws (r.parts ++ []) (r.back [] refl) in
    record {
      phrases = f.items;
      good = f.good;
      is = is_list nodes depth f.items (same_nodes nodes r.parts (flat_items f.items) (sym (append-nil r.parts) ∙ f.nodes_are) r.are) k;
      same = f.words_are;
    }

pub list_given : (d : Direction) (ws : List Word90) (nodes : List Node) (depth : ℕ) (is : ItemPhrases90) → IsReading d ws nodes false 0 [] → IsDeep nodes depth
    → AreItems90 d is → ws ≡ written_items90 is → IsListOf (list_of nodes depth) is
list_given d ws nodes depth is r k g e =
    let o = r.on (flat_items is) (subst (λ (q : List Word90). Follows d true 0 q (flat_items is)) (sym e) (list_goes d is g)) in
    let m = (nothing_left d 0 o.0 o.2).1 in
    let s : flat_items is ≡ r.parts = o.1 ∙ (ap (λ (q : List flats.Node). r.parts ++ q) m ∙ append-nil r.parts) in
    is_list nodes depth is (same_nodes nodes r.parts (flat_items is) (sym s) r.are) k

pub list_lost : {P : Type 0} (d : Direction) (ws : List Word90) (is : ItemPhrases90) → ((ns : List flats.Node) → Follows d true 0 ws ns → ⊥) → AreItems90 d is → ws ≡ written_items90 is → P
list_lost d ws is none g e = absurd (none (flat_items is) (subst (λ (q : List Word90). Follows d true 0 q (flat_items is)) (sym e) (list_goes d is g)))

pub list_err : (stop : Stop) (d : Direction) (ws : List Word90) (is : ItemPhrases90) → IsParts (Err stop) d ws → AreItems90 d is → ws ≡ written_items90 is → Gives (Err stop) is
list_err Syntax d ws is h g e = list_lost d ws is h g e
list_err Memory d ws is h g e = tt

pub ruleset reading = (begun, gone_on, failed, left_open)

pub ruleset whole = (list_read, list_given, list_lost)
