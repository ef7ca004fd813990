-- Lists of PRINT and READ, and the words that follow in them.
use Rattle.std.proofs.Common.{arith, ◌≡◌, ◌<◌, ℕ, zero, suc, Bool, true, false, List, [], ◌∷◌, ◌++◌, refl, ap, sym, subst, ◌∙◌, append_assoc, append-nil, Option}
use Rattle.f90_grammar.specs.Words as words
use Rattle.f90_grammar.specs.Words.{Word90}
use Rattle.f90_grammar.specs.Phrases.{Phrase90, written90}
use Rattle.f90_grammar.specs.Items as items
use Rattle.f90_grammar.specs.Items.{Direction, ItemPhrase90, ItemPhrases90, Sole, More, IsItem90, AreItems90, written_item90, written_items90, written_bounds90}
use Rattle.f90_laws.specs.unique.Unique.{EndsExpression}
use Rattle.f90_statement.specs.items.Commas.{has_comma}
use Rattle.f90_statement.specs.items.Flat.{Node, Of, Text, Begin, Turns, flat_item, flat_items}
use Rattle.f90_statement.specs.items.Following.{Follows, lead, written_control}
use Rattle.f90_statement.proofs.items.CommaLaws.{passes, passes_control}

-- ---- what stands behind an item

pub follows_end : (d : Direction) (n : ℕ) (ws : List Word90) (ns : List Node) → Follows d false n ws ns → EndsExpression ws
follows_end d n ws (Of p ∷ ns) h = subst EndsExpression (sym h.1) tt
follows_end d n ws (Text t ∷ ns) h = subst EndsExpression (sym h.1) tt
follows_end d n ws (Begin ∷ ns) h = subst EndsExpression (sym h.1) tt
follows_end d zero ws (Turns x a b c ∷ ns) h = absurd h
follows_end d (suc n) ws (Turns x a b c ∷ ns) h = subst EndsExpression (sym h.1) tt
follows_end d zero ws [] h = subst EndsExpression (sym h) tt
follows_end d (suc n) ws [] h = absurd h

-- an item doesn't stand before an equals sign
pub no_equals : {P : Type 0} (d : Direction) (n : ℕ) (ws us : List Word90) (ns : List Node) → Follows d false n ws ns → ws ≡ words.Equals ∷ us → P
no_equals d n ws us (Of p ∷ ns) h e = let k = h.1 in absurd (cc)
no_equals d n ws us (Text t ∷ ns) h e = let k = h.1 in absurd (cc)
no_equals d n ws us (Begin ∷ ns) h e = let k = h.1 in absurd (cc)
no_equals d zero ws us (Turns x a b c ∷ ns) h e = absurd h
no_equals d (suc n) ws us (Turns x a b c ∷ ns) h e = let k = h.1 in absurd (cc)
no_equals d zero ws us [] h e = absurd (cc)
no_equals d (suc n) ws us [] h e = absurd h

-- nothing is left of the parts where no words are left
pub nothing_left : (d : Direction) (n : ℕ) (ns : List Node) → Follows d false n [] ns → (n ≡ 0) × (ns ≡ [])
nothing_left d n (Of p ∷ ns) h = let k = h.1 in absurd (cc)
nothing_left d n (Text t ∷ ns) h = let k = h.1 in absurd (cc)
nothing_left d n (Begin ∷ ns) h = let k = h.1 in absurd (cc)
nothing_left d zero (Turns x a b c ∷ ns) h = absurd h
nothing_left d (suc n) (Turns x a b c ∷ ns) h = let k = h.1 in absurd (cc)
nothing_left d zero [] h = (refl, refl)
nothing_left d (suc n) [] h = absurd h

-- ---- each parenthesis of a list has a comma

at_words : {ws us : List Word90} (k : ℕ) → ws ≡ us → has_comma us k ≡ true → has_comma ws k ≡ true
at_words k e h = ap (λ (q : List Word90). has_comma q k) e ∙ h

led : (due : Bool) (us : List Word90) (k : ℕ) → has_comma us k ≡ true → has_comma (lead due us) k ≡ true
led true us k h = h
led false us zero h = refl
led false us (suc k) h = h

pub list_has_comma : (d : Direction) (due : Bool) (n : ℕ) (ws : List Word90) (ns : List Node) → Follows d due n ws ns → (k : ℕ) → k < n → has_comma ws k ≡ true
list_has_comma d due n ws (Of p ∷ ns) h k l =
    at_words k h.1 (led due (written90 p ++ h.0) k (passes p h.0 k ∙ list_has_comma d false n h.0 ns h.4 k l))
list_has_comma d due n ws (Text t ∷ ns) h k l = at_words k h.1 (led due (words.Constant t ∷ h.0) k (list_has_comma d false n h.0 ns h.3 k l))
list_has_comma d due n ws (Begin ∷ ns) h k l = at_words k h.1 (led due (words.Open ∷ h.0) k (list_has_comma d true (suc n) h.0 ns h.2 (suc k) (omega arith)))
list_has_comma d true n ws (Turns x a b c ∷ ns) h k l = absurd h
list_has_comma d false zero ws (Turns x a b c ∷ ns) h k l = absurd h
list_has_comma d false (suc n) ws (Turns x a b c ∷ ns) h zero l = at_words zero h.1 refl
list_has_comma d false (suc n) ws (Turns x a b c ∷ ns) h (suc k) l =
    at_words (suc k) h.1 (passes_control a b c (words.Close ∷ h.0) k ∙ list_has_comma d false n h.0 ns h.3 k (omega arith))
list_has_comma d true n ws [] h k l = absurd h
list_has_comma d false zero ws [] h k l = absurd (omega arith)
list_has_comma d false (suc n) ws [] h k l = absurd h

-- ---- a list's words follow so

grouped : (due : Bool) (a b r : List Word90) → lead due ((a ++ b) ++ r) ≡ lead due (a ++ (b ++ r))
grouped due a b r = ap (lead due) (append_assoc a b r)

abbrev IsGone : Direction → Bool → ℕ → List Word90 → List Node → Type 0
IsGone d due n ws ns = Follows d due n ws ns

regrouped : (d : Direction) (due : Bool) (n : ℕ) (a b r : List Word90) (ns : List Node) → Follows d due n (lead due (a ++ (b ++ r))) ns → Follows d due n (lead due ((a ++ b) ++ r)) ns
regrouped d due n a b r ns h = subst (λ (q : List Word90). Follows d due n q ns) (sym (grouped due a b r)) h

reparted : (d : Direction) (due : Bool) (n : ℕ) (ws : List Word90) (a b r : List Node) → Follows d due n ws (a ++ (b ++ r)) → Follows d due n ws ((a ++ b) ++ r)
reparted d due n ws a b r h = subst (λ (q : List Node). Follows d due n ws q) (sym (append_assoc a b r)) h

abbrev pub control_words : List ℕ → Phrase90 → Phrase90 → Option Phrase90 → List Word90
control_words x a b c = words.Comma ∷ (words.Name x ∷ (words.Equals ∷ (written_bounds90 a b c ++ words.Close ∷ [])))

pub control_rest : (x : List ℕ) (a b : Phrase90) (c : Option Phrase90) (us : List Word90) → control_words x a b c ++ us ≡ written_control x a b c us
control_rest x a b c us = ap (λ (q : List Word90). words.Comma ∷ (words.Name x ∷ (words.Equals ∷ q))) (append_assoc (written_bounds90 a b c) (words.Close ∷ []) us)

mutual
  item_goes : (d : Direction) (i : ItemPhrase90) (due : Bool) (n : ℕ) (us : List Word90) (ns : List Node) → IsItem90 d i → Follows d false n us ns
      → Follows d due n (lead due (written_item90 i ++ us)) (flat_item i ++ ns)
  item_goes d (items.Of p) due n us ns g h = (us, refl, g.0, g.1, h)
  item_goes d (items.Text t) due n us ns g h = (us, refl, g, h)
  item_goes d (items.Loop is x a b c) due n us ns g h =
      let k : Follows d false (suc n) (control_words x a b c ++ us) (Turns x a b c ∷ ns)
      = (us, control_rest x a b c us, record { first = g.1; last = g.2; step = g.3 }, h) in (
        written_items90 is ++ (control_words x a b c ++ us),
        ap (λ (q : List Word90). lead due (words.Open ∷ q)) (append_assoc (written_items90 is) (control_words x a b c) us),
        reparted d true (suc n) (written_items90 is ++ (control_words x a b c ++ us)) (flat_items is) (Turns x a b c ∷ []) ns
            (items_go d is true (suc n) (control_words x a b c ++ us) (Turns x a b c ∷ ns) g.0 k),
      )

  items_go : (d : Direction) (is : ItemPhrases90) (due : Bool) (n : ℕ) (us : List Word90) (ns : List Node) → AreItems90 d is → Follows d false n us ns
      → Follows d due n (lead due (written_items90 is ++ us)) (flat_items is ++ ns)
  items_go d (Sole i) due n us ns g h = item_goes d i due n us ns g h
  items_go d (More is i) due n us ns g h =
      regrouped d due n (written_items90 is) (words.Comma ∷ written_item90 i) us ((flat_items is ++ flat_item i) ++ ns)
      (reparted d due n (lead due (written_items90 is ++ (words.Comma ∷ (written_item90 i ++ us)))) (flat_items is) (flat_item i) ns
      (items_go d is due n (words.Comma ∷ (written_item90 i ++ us)) (flat_item i ++ ns) g.0 (item_goes d i false n us ns g.1 h)))

pub list_goes : (d : Direction) (is : ItemPhrases90) → AreItems90 d is → Follows d true 0 (written_items90 is) (flat_items is)
list_goes d is g =
    subst (λ (q : List Node). Follows d true 0 (written_items90 is) q) (append-nil (flat_items is))
    (subst (λ (q : List Word90). Follows d true 0 q (flat_items is ++ [])) (append-nil (written_items90 is)) (items_go d is true 0 [] [] g refl))
