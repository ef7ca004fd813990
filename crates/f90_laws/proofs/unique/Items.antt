-- No words are those of two lists of PRINT or READ.
use Rattle.std.proofs.Common.{◌≡◌, ℕ, List, [], ◌∷◌, ◌++◌, refl, sym, ap, ◌∙◌, append_assoc, append-nil, Option, Some, None}
use mathlib.Core.Path.{ap₂}
use Rattle.std.specs.List.{AllByRecursion}
use Rattle.tree.specs.declared.ops.Op.TheVariants.{Add, Sub, Not}
use Rattle.tree.specs.OperatorTable.{Plus, Minus, Negation}
use Rattle.f90_grammar.specs.Words.{Word90}
use Rattle.f90_grammar.specs.Words as words
use Rattle.f90_grammar.specs.Phrases.{Phrase90, Literal, Truth, Name, Listed, Paren, Signed, Joined, Values, Looped, written90, written_parts, written_values, written_turn, IsExpression90}
use Rattle.f90_grammar.specs.Items.{ItemPhrase90, ItemPhrases90, Of, Text, Loop, Sole, More, Direction, Output, IsItem90, AreItems90, IsStep90, written_item90, written_items90, written_step90, written_bounds90}
use Rattle.f90_grammar.specs.Forms.{followed90}
use Rattle.f90_laws.specs.unique.Unique.{EndsExpression, OneItems}
use Rattle.f90_laws.proofs.unique.Phrase.{one_phrase}
use Rattle.f90_laws.proofs.unique.Lists.{EndsItem, ends_expression, all_append, followed_append, Single, NoMore, ends_followed, followed_once}

-- ---- how an expression begins

abbrev pub Starts : Word90 → Type 0
Starts (words.Digits t) = Unit {0}
Starts (words.Truth b) = Unit {0}
Starts (words.Name x) = Unit {0}
Starts (words.Head x) = Unit {0}
Starts (words.Operator o) = Unit {0}
Starts words.Open = Unit {0}
Starts words.OpenList = Unit {0}
Starts w = ⊥

pub record Started (ws : List Word90) : Type 0 where
  pub word : Word90
  pub rest : List Word90
  pub same : ws ≡ word ∷ rest
  pub starts : Starts word

pub starts : (p : Phrase90) (r : List Word90) → Started (written90 p ++ r)
starts (Literal t) r = record { word = words.Digits t; rest = r; same = refl; starts = tt }
starts (Truth b) r = record { word = words.Truth b; rest = r; same = refl; starts = tt }
starts (Name x) r = record { word = words.Name x; rest = r; same = refl; starts = tt }
starts (Listed x ps) r = record { word = words.Head x; rest = (written_parts ps ++ words.Close ∷ []) ++ r; same = refl; starts = tt }
starts (Paren p) r = record { word = words.Open; rest = (written90 p ++ words.Close ∷ []) ++ r; same = refl; starts = tt }
starts (Signed Plus p) r = record { word = words.Operator Add; rest = written90 p ++ r; same = refl; starts = tt }
starts (Signed Minus p) r = record { word = words.Operator Sub; rest = written90 p ++ r; same = refl; starts = tt }
starts (Signed Negation p) r = record { word = words.Operator Not; rest = written90 p ++ r; same = refl; starts = tt }
starts (Joined o a b) r =
    let s = starts a (words.Operator o ∷ (written90 b ++ r)) in
    record { word = s.word; rest = s.rest; same = append_assoc (written90 a) (words.Operator o ∷ written90 b) r ∙ s.same; starts = s.starts }
starts (Values ps) r = record { word = words.OpenList; rest = (written_values ps ++ words.CloseList ∷ []) ++ r; same = refl; starts = tt }
starts (Looped t) r = record { word = words.OpenList; rest = (written_turn t ++ words.CloseList ∷ []) ++ r; same = refl; starts = tt }

pub starts_not : (w : Word90) (p : Phrase90) (r s : List Word90) → (Starts w → ⊥) → written90 p ++ r ≡ w ∷ s → ⊥
starts_not w p r s n e =
    let k = starts p r in
    let same : w ≡ k.word = cc k.same in
    n (rw same k.starts)

-- an expression that begins with a parenthesis has its end too
pub record Closed (ws : List Word90) : Type 0 where
  pub phrase : Phrase90
  pub rest : List Word90
  pub good : IsExpression90 phrase
  pub same : ws ≡ written90 phrase ++ words.Close ∷ rest

closes : (p : Phrase90) (r ws : List Word90) → IsExpression90 p → written90 p ++ r ≡ words.Open ∷ ws → Closed ws
closes (Literal t) r ws h e = absurd (cc)
closes (Truth b) r ws h e = absurd (cc)
closes (Name x) r ws h e = absurd (cc)
closes (Listed x ps) r ws h e = absurd (cc)
closes (Paren p) r ws h e =
    let d : ws ≡ (written90 p ++ words.Close ∷ []) ++ r = cc in
    record { phrase = p; rest = r; good = h; same = d ∙ append_assoc (written90 p) (words.Close ∷ []) r }
closes (Signed s p) r ws h e = absurd (cc)
closes (Joined o a b) r ws h e = closes a (words.Operator o ∷ (written90 b ++ r)) ws h.4 (sym (append_assoc (written90 a) (words.Operator o ∷ written90 b) r) ∙ e)
closes (Values ps) r ws h e = absurd (cc)
closes (Looped t) r ws h e = absurd (cc)

-- ---- lists up to their first item

abbrev first : ItemPhrases90 → ItemPhrase90
first (Sole i) = i
first (More is i) = first is

abbrev others : ItemPhrases90 → List ItemPhrase90
others (Sole i) = []
others (More is i) = others is ++ i ∷ []

abbrev more : ItemPhrases90 → List ItemPhrase90 → ItemPhrases90
more is [] = is
more is (j ∷ js) = more (More is j) js

more_last : (is : ItemPhrases90) (js : List ItemPhrase90) (i : ItemPhrase90) → more is (js ++ i ∷ []) ≡ More (more is js) i
more_last is [] i = refl
more_last is (j ∷ js) i = more_last (More is j) js i

rebuilt : (is : ItemPhrases90) → more (Sole (first is)) (others is) ≡ is
rebuilt (Sole i) = refl
rebuilt (More is i) = more_last (Sole (first is)) (others is) i ∙ ap (λ (js : ItemPhrases90). More js i) (rebuilt is)

items_once : (is js : ItemPhrases90) → first is ≡ first js → others is ≡ others js → is ≡ js
items_once is js a b = sym (rebuilt is) ∙ (ap₂ (λ (i : ItemPhrase90) (xs : List ItemPhrase90). more (Sole i) xs) a b ∙ rebuilt js)

abbrev listed : ItemPhrases90 → List Word90
listed is = written_item90 (first is) ++ followed90 written_item90 (others is)

items_listed : (is : ItemPhrases90) → written_items90 is ≡ listed is
items_listed (Sole i) = sym (append-nil (written_item90 i))
items_listed (More is i) =
    ap (λ (ws : List Word90). ws ++ words.Comma ∷ written_item90 i) (items_listed is)
    ∙ (append_assoc (written_item90 (first is)) (followed90 written_item90 (others is)) (words.Comma ∷ written_item90 i)
    ∙ ap (λ (ws : List Word90). written_item90 (first is) ++ ws)
    (ap (λ (ws : List Word90). followed90 written_item90 (others is) ++ words.Comma ∷ ws) (sym (append-nil (written_item90 i)))
    ∙ sym (followed_append written_item90 (others is) (i ∷ []))))

-- with words behind the list
items_rest : (is : ItemPhrases90) (r : List Word90) → written_items90 is ++ r ≡ written_item90 (first is) ++ (followed90 written_item90 (others is) ++ r)
items_rest is r = ap (λ (ws : List Word90). ws ++ r) (items_listed is) ∙ append_assoc (written_item90 (first is)) (followed90 written_item90 (others is)) r

-- ---- what may stand in an input list may stand in an output list

abbrev pub Good : ItemPhrase90 → Type 0
Good i = IsItem90 Output i

mutual
  output : (d : Direction) (i : ItemPhrase90) → IsItem90 d i → Good i
  output d (Of p) h = (h.0, tt)
  output d (Text t) h = tt
  output d (Loop is x a b c) h = (outputs d is h.0, h.1, h.2, h.3)

  pub outputs : (d : Direction) (is : ItemPhrases90) → AreItems90 d is → AreItems90 Output is
  outputs d (Sole i) h = output d i h
  outputs d (More is i) h = (outputs d is h.0, output d i h.1)

first_good : (is : ItemPhrases90) → AreItems90 Output is → Good (first is)
first_good (Sole i) h = h
first_good (More is i) h = first_good is h.0

others_good : (is : ItemPhrases90) → AreItems90 Output is → AllByRecursion Good (others is)
others_good (Sole i) h = tt
others_good (More is i) h = all_append Good (others is) (i ∷ []) (others_good is h.0) (h.1, tt)

-- ---- bounds

abbrev pub EndsBounds : List Word90 → Type 0
EndsBounds [] = Unit {0}
EndsBounds (words.Close ∷ ws) = Unit {0}
EndsBounds ws = ⊥

bounds_end : (r : List Word90) → EndsBounds r → EndsExpression r
bounds_end [] h = tt
bounds_end (words.Operator o ∷ ws) h = absurd h
bounds_end (w ∷ ws) h = tt

no_comma : (r s : List Word90) → EndsBounds r → r ≡ words.Comma ∷ s → ⊥
no_comma [] s h e = cc
no_comma (words.Comma ∷ ws) s h e = h
no_comma (w ∷ ws) s h e = cc

step_end : (c : Option Phrase90) (r : List Word90) → EndsBounds r → EndsExpression (written_step90 c ++ r)
step_end None r h = bounds_end r h
step_end (Some p) r h = tt

step_once : (c d : Option Phrase90) (r s : List Word90) → IsStep90 c → IsStep90 d → EndsBounds r → EndsBounds s
    → written_step90 c ++ r ≡ written_step90 d ++ s → (c ≡ d) × (r ≡ s)
step_once None None r s h k a b e = (refl, e)
step_once None (Some q) r s h k a b e = absurd (no_comma r _ a e)
step_once (Some p) None r s h k a b e = absurd (no_comma s _ b (sym e))
step_once (Some p) (Some q) r s h k a b e =
    let d : written90 p ++ r ≡ written90 q ++ s = cc in
    let o = one_phrase p q r s h k (bounds_end r a) (bounds_end s b) d in
    (ap (λ (z : Phrase90). Some z) o.0, o.1)

bounds_rest : (a b : Phrase90) (c : Option Phrase90) (r : List Word90) → written_bounds90 a b c ++ r ≡ written90 a ++ words.Comma ∷ (written90 b ++ (written_step90 c ++ r))
bounds_rest a b c r =
    append_assoc (written90 a) (words.Comma ∷ (written90 b ++ written_step90 c)) r
    ∙ ap (λ (ws : List Word90). written90 a ++ words.Comma ∷ ws) (append_assoc (written90 b) (written_step90 c) r)

pub record SameBounds (a b a' b' : Phrase90) (c c' : Option Phrase90) (r s : List Word90) : Type 0 where
  pub lower : a ≡ a'
  pub upper : b ≡ b'
  pub stride : c ≡ c'
  pub rest : r ≡ s

pub bounds_once : (a b a' b' : Phrase90) (c c' : Option Phrase90) (r s : List Word90) → IsExpression90 a → IsExpression90 b → IsStep90 c
    → IsExpression90 a' → IsExpression90 b' → IsStep90 c' → EndsBounds r → EndsBounds s
    → written_bounds90 a b c ++ r ≡ written_bounds90 a' b' c' ++ s → SameBounds a b a' b' c c' r s
bounds_once a b a' b' c c' r s ha hb hc ka kb kc er es e =
    let f = one_phrase a a' (words.Comma ∷ (written90 b ++ (written_step90 c ++ r))) (words.Comma ∷ (written90 b' ++ (written_step90 c' ++ s)))
    ha ka tt tt (sym (bounds_rest a b c r) ∙ (e ∙ bounds_rest a' b' c' s)) in
    let d : written90 b ++ (written_step90 c ++ r) ≡ written90 b' ++ (written_step90 c' ++ s) = cc f.1 in
    let g = one_phrase b b' (written_step90 c ++ r) (written_step90 c' ++ s) hb kb (step_end c r er) (step_end c' s es) d in
    let t = step_once c c' r s hc kc er es g.1 in
    record { lower = f.0; upper = g.0; stride = t.0; rest = t.1 }

-- ---- items

abbrev loop_end : List ℕ → Phrase90 → Phrase90 → Option Phrase90 → List Word90 → List Word90
loop_end x a b c r = words.Comma ∷ (words.Name x ∷ (words.Equals ∷ (written_bounds90 a b c ++ words.Close ∷ r)))

loop_rest : (is : ItemPhrases90) (x : List ℕ) (a b : Phrase90) (c : Option Phrase90) (r : List Word90)
    → written_item90 (Loop is x a b c) ++ r
    ≡ words.Open ∷ (written_item90 (first is) ++ (followed90 written_item90 (others is) ++ loop_end x a b c r))
loop_rest is x a b c r =
    ap (λ (ws : List Word90). words.Open ∷ ws)
    (append_assoc (written_items90 is) (words.Comma ∷ (words.Name x ∷ (words.Equals ∷ (written_bounds90 a b c ++ words.Close ∷ [])))) r
    ∙ (ap (λ (ws : List Word90). written_items90 is ++ words.Comma ∷ (words.Name x ∷ (words.Equals ∷ ws)))
    (append_assoc (written_bounds90 a b c) (words.Close ∷ []) r)
    ∙ items_rest is (loop_end x a b c r)))

comma_first : (is : List ItemPhrase90) (w : Word90) (r s : List Word90) → followed90 written_item90 is ++ words.Comma ∷ r ≡ w ∷ s → w ≡ words.Comma
comma_first [] w r s e = cc
comma_first (i ∷ is) w r s e = cc

-- words of an expression are those of no other item, whatever goes on behind it
mutual
  only_phrase : (j : ItemPhrase90) (p : Phrase90) (r s : List Word90) → IsExpression90 p → Good j → EndsExpression r → EndsItem s
      → written90 p ++ r ≡ written_item90 j ++ s → (Of p ≡ j) × (r ≡ s)
  only_phrase (Of q) p r s h k a b e = let o = one_phrase p q r s h k.0 a (ends_expression s b) e in (ap Of o.0, o.1)
  only_phrase (Text t) p r s h k a b e = absurd (starts_not (words.Constant t) p r s (λ x. x) e)
  only_phrase (Loop js y c d f) p r s h k a b e =
      let q = closes p r (written_item90 (first js) ++ (followed90 written_item90 (others js) ++ loop_end y c d f s)) h (e ∙ loop_rest js y c d f s) in
      let t = only_first js q.phrase (words.Close ∷ q.rest) (followed90 written_item90 (others js) ++ loop_end y c d f s)
      q.good k.0 tt (ends_followed written_item90 Good (others js) (loop_end y c d f s) tt) (sym q.same) in
      let w : words.Close ≡ words.Comma = comma_first (others js) words.Close _ q.rest (sym t) in
      absurd (cc)

  only_first : (js : ItemPhrases90) (q : Phrase90) (r s : List Word90) → IsExpression90 q → AreItems90 Output js → EndsExpression r → EndsItem s
      → written90 q ++ r ≡ written_item90 (first js) ++ s → r ≡ s
  only_first (Sole j) q r s h k a b e = (only_phrase j q r s h k a b e).1
  only_first (More js j) q r s h k a b e = only_first js q r s h k.0 a b e

no_equals : (r s : List Word90) → EndsItem s → words.Equals ∷ r ≡ s → ⊥
no_equals r [] h e = cc
no_equals r (words.Equals ∷ s) h e = h
no_equals r (w ∷ s) h e = cc

no_item : (x : List ℕ) (a b : Phrase90) (c : Option Phrase90) (r : List Word90) → NoMore written_item90 Good (loop_end x a b c r)
no_item x a b c r j s k g e =
    let d : words.Name x ∷ (words.Equals ∷ (written_bounds90 a b c ++ words.Close ∷ r)) ≡ written_item90 j ++ s = cc in
    no_equals _ s g (only_phrase j (Name x) _ s tt k tt g d).1

swapped : {A : Type 0} {a b : A} {r s : List Word90} → (a ≡ b) × (r ≡ s) → (b ≡ a) × (s ≡ r)
swapped h = (sym h.0, sym h.1)

same_loop : (is js : ItemPhrases90) (x y : List ℕ) (a b a' b' : Phrase90) (c c' : Option Phrase90) → is ≡ js → x ≡ y → a ≡ a' → b ≡ b' → c ≡ c'
    → Loop is x a b c ≡ Loop js y a' b' c'
same_loop is js x y a b a' b' c c' e f g h k = cc

abbrev Once : ItemPhrase90 → Type 0
Once i = Single written_item90 Good i

mutual
  item_once : (i j : ItemPhrase90) (r s : List Word90) → Good i → Good j → EndsItem r → EndsItem s
      → written_item90 i ++ r ≡ written_item90 j ++ s → (i ≡ j) × (r ≡ s)
  item_once (Of p) j r s h k a b e = only_phrase j p r s h.0 k (ends_expression r a) b e
  item_once i (Of q) r s h k a b e = swapped (only_phrase i q s r k.0 h (ends_expression s b) a (sym e))
  item_once (Text t) (Text u) r s h k a b e = (cc, cc)
  item_once (Text t) (Loop js y a' b' c') r s h k a b e = absurd (cc)
  item_once (Loop is x a b c) (Text u) r s h k er es e = absurd (cc)
  item_once (Loop is x a b c) (Loop js y a' b' c') r s h k er es e =
      let d : words.Open ∷ (written_item90 (first is) ++ (followed90 written_item90 (others is) ++ loop_end x a b c r))
      ≡ words.Open ∷ (written_item90 (first js) ++ (followed90 written_item90 (others js) ++ loop_end y a' b' c' s))
      = sym (loop_rest is x a b c r) ∙ (e ∙ loop_rest js y a' b' c' s) in
      let f = first_once is h.0 (first js) (followed90 written_item90 (others is) ++ loop_end x a b c r)
      (followed90 written_item90 (others js) ++ loop_end y a' b' c' s) (first_good js k.0)
      (ends_followed written_item90 Good (others is) (loop_end x a b c r) tt) (ends_followed written_item90 Good (others js) (loop_end y a' b' c' s) tt)
      (cc d) in
      let g = followed_once written_item90 Good (others is) (others js) (loop_end x a b c r) (loop_end y a' b' c' s) (others_once is h.0)
      (others_good is h.0) (others_good js k.0) tt tt (no_item x a b c r) (no_item y a' b' c' s) f.1 in
      let n : x ≡ y = cc g.1 in
      let w : written_bounds90 a b c ++ words.Close ∷ r ≡ written_bounds90 a' b' c' ++ words.Close ∷ s = cc g.1 in
      let t = bounds_once a b a' b' c c' (words.Close ∷ r) (words.Close ∷ s) h.1 h.2 h.3 k.1 k.2 k.3 tt tt w in
      (same_loop is js x y a b a' b' c c' (items_once is js f.0 g.0) n t.lower t.upper t.stride, cc t.rest)

  first_once : (is : ItemPhrases90) → AreItems90 Output is → Once (first is)
  first_once (Sole i) h = λ j r s k a b e. item_once i j r s h k a b e
  first_once (More is i) h = first_once is h.0

  others_once : (is : ItemPhrases90) → AreItems90 Output is → AllByRecursion Once (others is)
  others_once (Sole i) h = tt
  others_once (More is i) h = all_append Once (others is) (i ∷ []) (others_once is h.0) ((λ j r s k a b e. item_once i j r s h.1 k a b e), tt)

-- at the end of a statement
pub one_items : OneItems
one_items d e is js h k w =
    let hi = outputs d is h in
    let kj = outputs e js k in
    let f = first_once is hi (first js) (followed90 written_item90 (others is) ++ []) (followed90 written_item90 (others js) ++ []) (first_good js kj)
    (ends_followed written_item90 Good (others is) [] tt) (ends_followed written_item90 Good (others js) [] tt)
    (sym (items_rest is []) ∙ (ap (λ (ws : List Word90). ws ++ []) w ∙ items_rest js [])) in
    let g = followed_once written_item90 Good (others is) (others js) [] [] (others_once is hi) (others_good is hi) (others_good js kj)
    tt tt (λ y s q b z. cc) (λ y s q b z. cc) f.1 in
    items_once is js f.0 g.0
