-- Words that follow so are a list's.
use Rattle.std.proofs.Common.{arith, ◌≡◌, ℕ, zero, suc, Bool, true, false, List, [], ◌∷◌, ◌++◌, length, refl, ap, sym, ◌∙◌, append_assoc, append-nil, Option, Some, None}
use Rattle.f90_grammar.specs.Words as words
use Rattle.f90_grammar.specs.Words.{Word90}
use Rattle.f90_grammar.specs.Phrases.{Phrase90}
use Rattle.f90_grammar.specs.Items as items
use Rattle.f90_grammar.specs.Items.{Direction, ItemPhrase90, ItemPhrases90, Sole, More, IsItem90, AreItems90, written_item90, written_items90, written_bounds90}
use Rattle.f90_statement.specs.items.Flat.{Node, Of, Text, Begin, Turns, flat_item, flat_items}
use Rattle.f90_statement.specs.items.Following.{Follows, lead, written_control}
use Rattle.f90_statement.proofs.items.FollowLaws.{control_words, control_rest}

-- ---- the items so far in a list, if any, and those in the lists round it, the innermost first

abbrev lead_words : Option ItemPhrases90 → List Word90
lead_words None = []
lead_words (Some is) = written_items90 is ++ words.Comma ∷ []

abbrev lead_nodes : Option ItemPhrases90 → List Node
lead_nodes None = []
lead_nodes (Some is) = flat_items is

abbrev so_far : Bool → Option ItemPhrases90 → List Word90
so_far true o = lead_words o
so_far false None = []
so_far false (Some is) = written_items90 is

abbrev before : List (Option ItemPhrases90) → List Word90
before [] = []
before (o ∷ os) = before os ++ (lead_words o ++ words.Open ∷ [])

abbrev before_nodes : List (Option ItemPhrases90) → List Node
before_nodes [] = []
before_nodes (o ∷ os) = before_nodes os ++ (lead_nodes o ++ Begin ∷ [])

abbrev add : Option ItemPhrases90 → ItemPhrase90 → ItemPhrases90
add None i = Sole i
add (Some is) i = More is i

add_words : (o : Option ItemPhrases90) (i : ItemPhrase90) → written_items90 (add o i) ≡ lead_words o ++ written_item90 i
add_words None i = refl
add_words (Some is) i = sym (append_assoc (written_items90 is) (words.Comma ∷ []) (written_item90 i))

add_nodes : (o : Option ItemPhrases90) (i : ItemPhrase90) → flat_items (add o i) ≡ lead_nodes o ++ flat_item i
add_nodes None i = refl
add_nodes (Some is) i = refl

abbrev Ready : Bool → Option ItemPhrases90 → Type 0
Ready true o = Unit {0}
Ready false None = ⊥
Ready false (Some is) = Unit {0}

abbrev AreGood : Direction → Option ItemPhrases90 → Type 0
AreGood d None = Unit {0}
AreGood d (Some is) = AreItems90 d is

abbrev AllGood : Direction → List (Option ItemPhrases90) → Type 0
AllGood d [] = Unit {0}
AllGood d (o ∷ os) = AreGood d o × AllGood d os

add_good : (d : Direction) (o : Option ItemPhrases90) (i : ItemPhrase90) → AreGood d o → IsItem90 d i → AreItems90 d (add o i)
add_good d None i g h = h
add_good d (Some is) i g h = (g, h)

led : (due : Bool) (o : Option ItemPhrases90) (us : List Word90) → Ready due o → so_far due o ++ lead due us ≡ lead_words o ++ us
led true o us r = refl
led false None us r = absurd r
led false (Some is) us r = sym (append_assoc (written_items90 is) (words.Comma ∷ []) us)

-- one item more
with_item : (due : Bool) (o : Option ItemPhrases90) (i : ItemPhrase90) (ws us : List Word90) → Ready due o → ws ≡ lead due (written_item90 i ++ us)
    → so_far due o ++ ws ≡ written_items90 (add o i) ++ us
with_item due o i ws us r e =
    ap (λ (q : List Word90). so_far due o ++ q) e
    ∙ (led due o (written_item90 i ++ us) r
    ∙ (sym (append_assoc (lead_words o) (written_item90 i) us) ∙ ap (λ (q : List Word90). q ++ us) (sym (add_words o i))))

with_node : (o : Option ItemPhrases90) (i : ItemPhrase90) (ns : List Node) → lead_nodes o ++ (flat_item i ++ ns) ≡ flat_items (add o i) ++ ns
with_node o i ns = sym (append_assoc (lead_nodes o) (flat_item i) ns) ∙ ap (λ (q : List Node). q ++ ns) (sym (add_nodes o i))

pub record Found (d : Direction) (ws : List Word90) (ns : List Node) : Type 0 where
  pub items : ItemPhrases90
  pub good : AreItems90 d items
  pub words_are : ws ≡ written_items90 items
  pub nodes_are : ns ≡ flat_items items

found_at : (d : Direction) (ws us : List Word90) (ns ms : List Node) → ws ≡ us → ns ≡ ms → Found d us ms → Found d ws ns
found_at d ws us ns ms e f h = record { items = h.items; good = h.good; words_are = e ∙ h.words_are; nodes_are = f ∙ h.nodes_are }

-- a list that begins
begun : (due : Bool) (o : Option ItemPhrases90) (b ws us : List Word90) → Ready due o → ws ≡ lead due (words.Open ∷ us)
    → b ++ (so_far due o ++ ws) ≡ (b ++ (lead_words o ++ words.Open ∷ [])) ++ us
begun due o b ws us r e =
    ap (λ (q : List Word90). b ++ q) (ap (λ (q : List Word90). so_far due o ++ q) e ∙ (led due o (words.Open ∷ us) r ∙ sym (append_assoc (lead_words o) (words.Open ∷ []) us)))
    ∙ sym (append_assoc b (lead_words o ++ words.Open ∷ []) us)

begun_nodes : (o : Option ItemPhrases90) (b ns : List Node) → b ++ (lead_nodes o ++ Begin ∷ ns) ≡ (b ++ (lead_nodes o ++ Begin ∷ [])) ++ ns
begun_nodes o b ns =
    ap (λ (q : List Node). b ++ q) (sym (append_assoc (lead_nodes o) (Begin ∷ []) ns)) ∙ sym (append_assoc b (lead_nodes o ++ Begin ∷ []) ns)

-- a list that ends
over : (is : ItemPhrases90) (x : List ℕ) (a b : Phrase90) (c : Option Phrase90) (o : Option ItemPhrases90) (r ws us : List Word90) → ws ≡ written_control x a b c us
    → (r ++ (lead_words o ++ words.Open ∷ [])) ++ (written_items90 is ++ ws) ≡ r ++ (written_items90 (add o (items.Loop is x a b c)) ++ us)
over is x a b c o r ws us e =
    let loop : ItemPhrase90 = items.Loop is x a b c in
    let inner : words.Open ∷ (written_items90 is ++ ws) ≡ written_item90 loop ++ us
    = ap (λ (q : List Word90). words.Open ∷ q) (ap (λ (q : List Word90). written_items90 is ++ q) (e ∙ sym (control_rest x a b c us)) ∙ sym (append_assoc (written_items90 is) (control_words x a b c) us)) in
    append_assoc r (lead_words o ++ words.Open ∷ []) (written_items90 is ++ ws)
    ∙ ap (λ (q : List Word90). r ++ q)
    (append_assoc (lead_words o) (words.Open ∷ []) (written_items90 is ++ ws)
    ∙ (ap (λ (q : List Word90). lead_words o ++ q) inner
    ∙ (sym (append_assoc (lead_words o) (written_item90 loop) us) ∙ ap (λ (q : List Word90). q ++ us) (sym (add_words o loop)))))

over_nodes : (is : ItemPhrases90) (x : List ℕ) (a b : Phrase90) (c : Option Phrase90) (o : Option ItemPhrases90) (r ns : List Node)
    → (r ++ (lead_nodes o ++ Begin ∷ [])) ++ (flat_items is ++ Turns x a b c ∷ ns) ≡ r ++ (flat_items (add o (items.Loop is x a b c)) ++ ns)
over_nodes is x a b c o r ns =
    let loop : ItemPhrase90 = items.Loop is x a b c in
    let inner : Begin ∷ (flat_items is ++ Turns x a b c ∷ ns) ≡ flat_item loop ++ ns
    = ap (λ (q : List Node). Begin ∷ q) (sym (append_assoc (flat_items is) (Turns x a b c ∷ []) ns)) in
    append_assoc r (lead_nodes o ++ Begin ∷ []) (flat_items is ++ Turns x a b c ∷ ns)
    ∙ ap (λ (q : List Node). r ++ q)
    (append_assoc (lead_nodes o) (Begin ∷ []) (flat_items is ++ Turns x a b c ∷ ns)
    ∙ (ap (λ (q : List Node). lead_nodes o ++ q) inner ∙ with_node o loop ns))

found : (ns : List Node) (d : Direction) (due : Bool) (n : ℕ) (ws : List Word90) → Follows d due n ws ns → (os : List (Option ItemPhrases90)) → length os ≡ n
    → (o : Option ItemPhrases90) → Ready due o → AllGood d os → AreGood d o
    → Found d (before os ++ (so_far due o ++ ws)) (before_nodes os ++ (lead_nodes o ++ ns))
found (Of p ∷ ns) d due n ws h os l o r g k =
    let i : ItemPhrase90 = items.Of p in
    found_at d _ _ _ _ (ap (λ (q : List Word90). before os ++ q) (with_item due o i ws h.0 r h.1)) (ap (λ (q : List Node). before_nodes os ++ q) (with_node o i ns))
    (found ns d false n h.0 h.4 os l (Some (add o i)) tt g (add_good d o i k (h.2, h.3)))
found (Text t ∷ ns) d due n ws h os l o r g k =
    let i : ItemPhrase90 = items.Text t in
    found_at d _ _ _ _ (ap (λ (q : List Word90). before os ++ q) (with_item due o i ws h.0 r h.1)) (ap (λ (q : List Node). before_nodes os ++ q) (with_node o i ns))
    (found ns d false n h.0 h.3 os l (Some (add o i)) tt g (add_good d o i k h.2))
found (Begin ∷ ns) d due n ws h os l o r g k =
    found_at d _ _ _ _ (begun due o (before os) ws h.0 r h.1) (begun_nodes o (before_nodes os) ns)
    (found ns d true (suc n) h.0 h.2 (o ∷ os) (ap suc l) None tt (k, g) tt)
found (Turns x a b c ∷ ns) d true n ws h os l o r g k = absurd h
found (Turns x a b c ∷ ns) d false zero ws h os l o r g k = absurd h
found (Turns x a b c ∷ ns) d false (suc n) ws h os l None r g k = absurd r
found (Turns x a b c ∷ ns) d false (suc n) ws h [] l (Some is) r g k = absurd (omega arith)
found (Turns x a b c ∷ ns) d false (suc n) ws h (o ∷ os) l (Some is) r g k =
    let i : ItemPhrase90 = items.Loop is x a b c in
    let m : length os ≡ n = omega arith in
    found_at d _ _ _ _ (over is x a b c o (before os) ws h.0 h.1) (over_nodes is x a b c o (before_nodes os) ns)
    (found ns d false n h.0 h.3 os m (Some (add o i)) tt g.1 (add_good d o i g.0 (k, h.2.first, h.2.last, h.2.step)))
found [] d true n ws h os l o r g k = absurd h
found [] d false zero ws h (o ∷ os) l p r g k = absurd (omega arith)
found [] d false zero ws h [] l None r g k = absurd r
found [] d false zero ws h [] l (Some is) r g k =
    record { items = is; good = k; words_are = ap (λ (q : List Word90). written_items90 is ++ q) h ∙ append-nil (written_items90 is); nodes_are = append-nil (flat_items is) }
found [] d false (suc n) ws h os l o r g k = absurd h

pub list_found : (d : Direction) (ws : List Word90) (ns : List Node) → Follows d true 0 ws ns → Found d ws ns
list_found d ws ns h = found ns d true 0 ws h [] refl None tt tt tt
