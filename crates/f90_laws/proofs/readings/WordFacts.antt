-- The words of a statement are spelled well, and so are the names, labels and texts of its form.
use Rattle.std.proofs.Common.{◌≡◌, ◌⊎◌, inl, inr, ℕ, zero, suc, ◌+◌, ◌-◌, ◌<◌, ◌≤◌, ◌^◌, nat_le, Bool, true, false, not, ◌&&◌, ◌||◌, cond, IsTrue, Option, None, Some, List, [], ◌∷◌, ◌++◌, length, refl, sym, ap, subst, ◌∙◌, arith, codes, map, append_assoc}
use Rattle.std.specs.Prelude.{◌==◌, nat_lt}
use Rattle.std.specs.Char.{digit_value}
use Rattle.std.specs.List.{AllByRecursion, list_all}
use Rattle.std.specs.Str.Parse.{AllDigits, digits_value}
use Rattle.std.proofs.lemmas.Bool.Decides.{Decides-eqb, leb_tells, nat_tests}
use Rattle.std.proofs.lemmas.Int.Digits.{digits_value-lt}
use Rattle.tree.specs.Plain as tree
use Rattle.tree.specs.Plain.{Item, Items}
use Rattle.tree.specs.declared.functions.Intrinsic.{Intrinsic}
use Rattle.meaning.specs.SymbolicNames.{IsLongName}
use Rattle.meaning.specs.Typed.{IsText}
use Rattle.f90_grammar.specs.LineCauses.{is_bad_byte90}
use Rattle.f90_grammar.specs.Words as words
use Rattle.f90_grammar.specs.Words.{Word90, Symbol90, Char, Gap, Symbols, IsInLine, goes_on90, IsName90, Spelled90, chars90, AreGaps, SpelledBy90, Begins90, AreWords90, HasWords}
use Rattle.reading.specs.Characters.{upper, doubled_one, doubled, is_digit, is_letter, Pass, IsDigits, IsList, keyword_of}
use Rattle.f90_grammar.specs.Words.Symbols.{nothing, blank, line_end, character, constant}
use Rattle.f90_grammar.specs.Phrases.{value_of_digits, written90}
use Rattle.f90_grammar.specs.Items as items
use Rattle.f90_grammar.specs.Items.{ItemPhrase90, Of, Text, Loop, ItemPhrases90, Sole, More, Direction, Input, Output, AreItems90, IsItem90, written_item90, written_items90, written_bounds90, item_tree90, item_trees90}
use Rattle.f90_grammar.specs.Forms as forms
use Rattle.f90_grammar.specs.Forms.{Form90, EntityForm90, Dimension, followed90, separated90, written_dimension, written_dimensions, written_entity90, labelled, IsLabel90, attribute, IsTransfer, IsWritten90}
use Rattle.f90_laws.proofs.readings.Lists.{left_true, right_true, left_false, right_false, all_left, all_right, all_both}
use Rattle.f90_laws.proofs.readings.FreeLines.{IsPlain, ArePlain}
use Rattle.f90_laws.proofs.readings.Sound.{AreFilled, IsFilled, AreWordless, IsWordless}

-- ---- constants

printable : (c : ℕ) → is_bad_byte90 c ≡ false → (32 ≤ c) × (c ≤ 126)
printable c h = by (leb_tells 32 c) (leb_tells 127 c) (left_false (nat_lt c 32) (nat_lt 126 c) h) (right_false (nat_lt c 32) (nat_lt 126 c) h)
  where
    by : ((nat_le 32 c ≡ true) × (32 ≤ c)) ⊎ ((nat_le 32 c ≡ false) × (c < 32)) → ((nat_le 127 c ≡ true) × (127 ≤ c)) ⊎ ((nat_le 127 c ≡ false) × (c < 127))
        → nat_lt c 32 ≡ false → nat_lt 126 c ≡ false → (32 ≤ c) × (c ≤ 126)
    by a b l r = grind (arith, nat_tests)

plain_text : (t : List ℕ) → ArePlain t → IsInLine t → AllByRecursion (λ b. (32 ≤ b) × (b ≤ 126)) t
plain_text [] p l = tt
plain_text (c ∷ t) p l = (by p.0, plain_text t p.1 l.1)
  where
    by : (c ≡ 10) ⊎ (is_bad_byte90 c ≡ false) → (32 ≤ c) × (c ≤ 126)
    by (inl e) = absurd (not_ten ((Decides-eqb c 10).1 e) l.0)
      where
        not_ten : (c == 10) ≡ true → (c == 10) ≡ false → ⊥
        not_ten a b = cc
    by (inr h) = printable c h

doubled_one_plain : (b : Bool) (c : ℕ) (rest : List ℕ) → ArePlain (doubled_one b c ++ rest) → IsPlain c × ArePlain rest
doubled_one_plain true c rest h = (h.0, h.1.1)
doubled_one_plain false c rest h = h

doubled_plain : (t rest : List ℕ) → ArePlain (doubled t ++ rest) → ArePlain t × ArePlain rest
doubled_plain [] rest h = (tt, h)
doubled_plain (c ∷ t) rest h =
    let one = doubled_one_plain (c == 39) c (doubled t ++ rest) (subst ArePlain (append_assoc (doubled_one (c == 39) c) (doubled t) rest) h) in
    let more = doubled_plain t rest one.1 in
    ((one.0, more.0), more.1)

abbrev IsGoodSymbol : Symbol90 → Type 0
IsGoodSymbol (words.Text t) = IsText t
IsGoodSymbol s = Unit {0}

symbols_good : (cs : List ℕ) (ss : List Symbol90) → Symbols cs ss → ArePlain cs → AllByRecursion IsGoodSymbol ss
symbols_good cs ss nothing p = tt
symbols_good cs ss (blank more) p = (tt, symbols_good _ _ more p.1)
symbols_good cs ss (line_end more) p = (tt, symbols_good _ _ more p.1)
symbols_good cs ss (character c a b d more) p = (tt, symbols_good _ _ more p.1)
symbols_good cs ss (constant c t {cs = rest} l e more) p =
    let d = doubled_plain (c ∷ t) (39 ∷ rest) p.1 in
    (plain_text (c ∷ t) d.0 l, symbols_good rest _ more d.1.1)

-- ---- words

abbrev pub IsGoodWord : Word90 → Type 0
IsGoodWord (words.Digits t) = IsDigits t
IsGoodWord (words.Name x) = IsName90 x
IsGoodWord (words.Head x) = IsName90 x
IsGoodWord (words.Constant t) = IsText t
IsGoodWord w = Unit {0}

abbrev pub AreGoodWords : List Word90 → Type 0
AreGoodWords ws = AllByRecursion IsGoodWord ws

good_word : (w : Word90) (front : List Symbol90) → SpelledBy90 w front → AllByRecursion IsGoodSymbol front → IsGoodWord w
good_word (words.Digits t) front h g = h.2.1
good_word (words.Truth b) front h g = tt
good_word (words.Name x) front h g = h.2.1
good_word (words.Head x) front h g = h.2
good_word (words.Operator o) front h g = tt
good_word words.Open front h g = tt
good_word words.Close front h g = tt
good_word words.OpenList front h g = tt
good_word words.CloseList front h g = tt
good_word words.Comma front h g = tt
good_word words.Equals front h g = tt
good_word words.Colon front h g = tt
good_word words.Colons front h g = tt
good_word (words.Constant t) front h g = (subst (AllByRecursion IsGoodSymbol) h g).0

good_words : (ws : List Word90) (text : List Symbol90) → AreWords90 text ws → AllByRecursion IsGoodSymbol text → AreGoodWords ws
good_words [] text h g = tt
good_words (w ∷ ws) text h g =
    let b = h.1 in
    let split = subst (AllByRecursion IsGoodSymbol) b.same g in
    let behind = all_right IsGoodSymbol b.gaps (b.front ++ h.0) split in
    (good_word w b.front b.spelled (all_left IsGoodSymbol b.front h.0 behind), good_words ws h.0 h.2 (all_right IsGoodSymbol b.front h.0 behind))

pub statement_words : (cs : List ℕ) (ws : List Word90) → HasWords cs ws → ArePlain cs → AreGoodWords ws
statement_words cs ws h p = good_words ws h.0 h.2 (symbols_good cs h.0 h.1 p)

-- ---- names

regroup : (a b c : Bool) → (a || (b || c)) ≡ true → (a || b || c) ≡ true
regroup true b c h = refl
regroup false true c h = refl
regroup false false c h = h

both_true : (a b : Bool) → a ≡ true → b ≡ true → (a && b) ≡ true
both_true true b h g = g
both_true false b h g = h

abbrev name_character : ℕ → Bool
name_character c = is_letter c || is_digit c || c == 95

all_pass : (cs : List ℕ) → Pass goes_on90 cs → list_all name_character cs ≡ true
all_pass [] p = refl
all_pass (d ∷ ds) p = both_true (name_character d) (list_all name_character ds) (regroup (is_letter d) (is_digit d) (d == 95) p.0) (all_pass ds p.1)

first_letter : (a b c : Bool) → a ≡ true → (a || b || c) ≡ true
first_letter true b c h = refl
first_letter false b c h = cc

pub long_name : (x : List ℕ) → IsName90 x → IsLongName x
long_name [] h = absurd h
long_name (c ∷ cs) h =
    record {
      begins = h.0;
      goes_on = both_true (name_character c) (list_all name_character cs) (first_letter (is_letter c) (is_digit c) (c == 95) h.0) (all_pass cs h.1);
      within = omega (arith, h.2);
    }

entity_name : (x : List ℕ) (ds : List Dimension) → AreGoodWords (written_dimensions x ds) → IsName90 x
entity_name x [] h = h.0
entity_name x (d ∷ ds) h = h.0

followed_names : (es : List EntityForm90) → AreGoodWords (followed90 written_entity90 es) → AllByRecursion (λ (e : EntityForm90). IsName90 e.name) es
followed_names [] h = tt
followed_names (e ∷ es) h =
    (entity_name e.name e.dimensions (all_left IsGoodWord (written_entity90 e) (followed90 written_entity90 es) h.1), followed_names es (all_right IsGoodWord (written_entity90 e) (followed90 written_entity90 es) h.1))

separated_names : (es : List EntityForm90) → AreGoodWords (separated90 written_entity90 es) → AllByRecursion (λ (e : EntityForm90). IsName90 e.name) es
separated_names [] h = tt
separated_names (e ∷ es) h =
    (entity_name e.name e.dimensions (all_left IsGoodWord (written_entity90 e) (followed90 written_entity90 es) h), followed_names es (all_right IsGoodWord (written_entity90 e) (followed90 written_entity90 es) h))

attribute_rest : (a : Bool) (ws : List Word90) → AreGoodWords (attribute a ++ ws) → AreGoodWords ws
attribute_rest true ws h = h.1.1
attribute_rest false ws h = h

-- ---- labels

digit_small : (c : ℕ) → IsTrue (is_digit c) → digit_value c < 10
digit_small c h = by (leb_tells 48 c) (leb_tells c 57) (left_true (nat_le 48 c) (nat_le c 57) h) (right_true (nat_le 48 c) (nat_le c 57) h)
  where
    by : ((nat_le 48 c ≡ true) × (48 ≤ c)) ⊎ ((nat_le 48 c ≡ false) × (c < 48)) → ((nat_le c 57 ≡ true) × (c ≤ 57)) ⊎ ((nat_le c 57 ≡ false) × (57 < c))
        → nat_le 48 c ≡ true → nat_le c 57 ≡ true → digit_value c < 10
    by (inl a) (inl b) l r = value a.1 b.1
      where
        value : 48 ≤ c → c ≤ 57 → digit_value c < 10
        value low high = grind (arith, nat_tests)
    by (inr a) b l r = cc
    by (inl a) (inr b) l r = cc

passing : (cs : List ℕ) → Pass is_digit cs → AllDigits 10 cs
passing [] p = tt
passing (c ∷ cs) p = (digit_small c p.0, passing cs p.1)

power : (n : ℕ) → n ≤ 5 → 10 ^ n ≤ 100000
power zero h = omega arith
power (suc zero) h = omega arith
power (suc (suc zero)) h = omega arith
power (suc (suc (suc zero))) h = omega arith
power (suc (suc (suc (suc zero)))) h = omega arith
power (suc (suc (suc (suc (suc zero))))) h = omega arith
power (suc (suc (suc (suc (suc (suc n)))))) h = absurd (omega arith)

pub label_small : (digits : List ℕ) → IsDigits digits → IsLabel90 digits → value_of_digits digits < 100000
label_small [] d l = absurd d
label_small (c ∷ cs) d l =
    let small : value_of_digits (c ∷ cs) < 10 ^ length (c ∷ cs) = digits_value-lt 10 (c ∷ cs) (digit_small c d.0, passing cs d.1) in
    let most : 10 ^ length (c ∷ cs) ≤ 100000 = power (length (c ∷ cs)) l in
    omega arith

-- ---- texts in lists

abbrev mutual
  pub HasTexts : ItemPhrase90 → Type 0
  HasTexts (Of p) = Unit {0}
  HasTexts (Text t) = IsText t
  HasTexts (Loop is x a b c) = HaveTexts is

  pub HaveTexts : ItemPhrases90 → Type 0
  HaveTexts (Sole i) = HasTexts i
  HaveTexts (More is i) = HaveTexts is × HasTexts i

mutual
  item_texts : (i : ItemPhrase90) → AreGoodWords (written_item90 i) → HasTexts i
  item_texts (Of p) h = tt
  item_texts (Text t) h = h.0
  item_texts (Loop is x a b c) h = items_texts is (all_left IsGoodWord (written_items90 is) (words.Comma ∷ (words.Name x ∷ (words.Equals ∷ (written_bounds90 a b c ++ words.Close ∷ [])))) h.1)

  items_texts : (is : ItemPhrases90) → AreGoodWords (written_items90 is) → HaveTexts is
  items_texts (Sole i) h = item_texts i h
  items_texts (More is i) h =
      (items_texts is (all_left IsGoodWord (written_items90 is) (words.Comma ∷ written_item90 i) h), item_texts i (all_right IsGoodWord (written_items90 is) (words.Comma ∷ written_item90 i) h).1)

-- ---- forms

-- names that are declared or the program's, labels and texts of a form
abbrev pub IsWell : Form90 → Type 0
IsWell (forms.Program x) = IsLongName x
IsWell (forms.Declare k a es) = AllByRecursion (λ (e : EntityForm90). IsLongName e.name) es
IsWell (forms.Continue (d ∷ digits)) = value_of_digits (d ∷ digits) < 100000
IsWell (forms.Print is) = HaveTexts is
IsWell (forms.Test p f) = IsWell f
IsWell f = Unit {0}

names_long : (es : List EntityForm90) → AllByRecursion (λ (e : EntityForm90). IsName90 e.name) es → AllByRecursion (λ (e : EntityForm90). IsLongName e.name) es
names_long [] h = tt
names_long (e ∷ es) h = (long_name e.name h.0, names_long es h.1)

transfer_list : (short long : List ℕ) (list ws : List Word90) → IsTransfer short long list ws → AreGoodWords ws → AreGoodWords list
transfer_list short long list ws (inl e) g = (subst AreGoodWords e g).1.1.1
transfer_list short long list ws (inr e) g = (subst AreGoodWords e g).1.1.1.1.1

pub form_well : (f : Form90) (ws : List Word90) → IsWritten90 f ws → AreGoodWords ws → IsWell f
form_well (forms.Program x) ws h g = long_name x (subst AreGoodWords h g).1.0
form_well (forms.Declare k a es) ws h g =
    names_long es (separated_names es (attribute_rest a (words.Colons ∷ separated90 written_entity90 es) (subst AreGoodWords h.0 g).1).1)
form_well (forms.Continue []) ws h g = tt
form_well (forms.Continue (d ∷ digits)) ws h g = label_small (d ∷ digits) (subst AreGoodWords h.0 g).0 h.1
form_well (forms.Print is) ws h g = items_texts is (transfer_list (codes "PRINT") (codes "WRITE") (written_items90 is) ws h.0 g)
form_well (forms.Test p f) ws h g = form_well f h.0 h.3 (all_right IsGoodWord (written90 p) (words.Close ∷ h.0) (subst AreGoodWords h.1 g).1).1
form_well forms.ImplicitNone ws h g = tt
form_well (forms.Assign l r) ws h g = tt
form_well (forms.Where m l r) ws h g = tt
form_well (forms.If p) ws h g = tt
form_well (forms.ElseIf p) ws h g = tt
form_well forms.Else ws h g = tt
form_well forms.EndIf ws h g = tt
form_well (forms.Do x a b c) ws h g = tt
form_well forms.EndDo ws h g = tt
form_well (forms.Go label) ws h g = tt
form_well forms.Stop ws h g = tt
form_well (forms.Read is) ws h g = tt
form_well forms.ReadNothing ws h g = tt
form_well forms.PrintNothing ws h g = tt
form_well (forms.Allocate x es) ws h g = tt
form_well (forms.Deallocate x) ws h g = tt
form_well forms.End ws h g = tt
form_well (forms.EndProgram x) ws h g = tt
