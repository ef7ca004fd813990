-- The front of a list shows whether an implied DO list begins there, and whether one ends.
use Rattle.std.proofs.Common.{arith, ◌≡◌, ◌≤◌, ℕ, ◌+◌, ◌-◌, Bool, true, false, List, [], ◌∷◌, ◌++◌, refl, ap, sym, ◌∙◌, subst, append_assoc}
use Rattle.std.specs.Prelude.{Option, Some, None, ◌&&◌, ◌==◌}
use Rattle.std.proofs.lemmas.Bool.Decides.{nat_tests}
use Rattle.std.proofs.lemmas.Bool.{and_parts, eqb-true}
use Rattle.tree.specs.declared.ops.Op.{Op}
use Rattle.tree.specs.declared.ops.Op.TheVariants.{Pow}
use Rattle.tree.specs.OperatorTable.{level_of}
use Rattle.f77_grammar.specs.expressions.Phrases.{Phrase77, Literal, WideLiteral, Truth, Name, Listed, Paren, Signed, Joined, Phrases77, One, Then, written77, written_list, phrase_level77}
use Rattle.f77_grammar.specs.expressions.Words as words
use Rattle.f77_grammar.specs.expressions.Words.{Word77}
use Rattle.f77_grammar.specs.statements.Controls.{Control, written_step77, written_control}
use Rattle.f77_grammar.specs.statements.Items.{ItemPhrase77, ItemPhrases77, Value, Text, Loop, Sole, More, IsReference77, written_item77, written_items77}
use Rattle.f77_grammar.specs.declared.directions.Direction.{Direction}
use Rattle.f77_expressions.specs.Reader as expressions
use Rattle.f77_words.specs.lists.Reader.{Frame, holds_comma, opens, simple, value, begins_control}
use Rattle.f77_expressions.specs.TokenFronts.{begins_with_name}

-- ---- commas within a parenthesis

scanned : (n : ℕ) (a b r : List Word77) → holds_comma n ((a ++ b) ++ r) ≡ holds_comma n (a ++ (b ++ r))
scanned n a b r = ap (holds_comma n) (append_assoc a b r)

close_one : (n : ℕ) (r : List Word77) → holds_comma (n + 1) (words.Close ∷ r) ≡ holds_comma n r
close_one n r = let e : (n + 1 == 0) ≡ false = grind (arith, nat_tests) in let m : n + 1 - 1 ≡ n = omega arith in rw (e, m) refl

comma_skipped : (n : ℕ) (r : List Word77) → holds_comma (n + 1) (words.Comma ∷ r) ≡ holds_comma (n + 1) r
comma_skipped n r = let e : (n + 1 == 0) ≡ false = grind (arith, nat_tests) in rw e refl

mutual
  neutral : (p : Phrase77) (n : ℕ) (r : List Word77) → holds_comma n (written77 p ++ r) ≡ holds_comma n r
  neutral (Literal k) n r = refl
  neutral WideLiteral n r = refl
  neutral (Truth b) n r = refl
  neutral (Name x) n r = refl
  neutral (Listed x ps) n r = scanned (n + 1) (written_list ps) (words.Close ∷ []) r ∙ (neutral_list ps n (words.Close ∷ r) ∙ close_one n r)
  neutral (Paren p) n r = scanned (n + 1) (written77 p) (words.Close ∷ []) r ∙ (neutral p (n + 1) (words.Close ∷ r) ∙ close_one n r)
  neutral (Signed s p) n r = neutral p n r
  neutral (Joined o a b) n r = scanned n (written77 a) (words.Operator o ∷ written77 b) r ∙ (neutral a n (words.Operator o ∷ (written77 b ++ r)) ∙ neutral b n r)

  neutral_list : (ps : Phrases77) (n : ℕ) (r : List Word77) → holds_comma (n + 1) (written_list ps ++ r) ≡ holds_comma (n + 1) r
  neutral_list (One p) n r = neutral p (n + 1) r
  neutral_list (Then ps p) n r =
      scanned (n + 1) (written_list ps) (words.Comma ∷ written77 p) r
      ∙ (neutral_list ps n (words.Comma ∷ (written77 p ++ r)) ∙ (comma_skipped n (written77 p ++ r) ∙ neutral p (n + 1) r))

neutral_step : (c : Option Phrase77) (n : ℕ) (r : List Word77) → holds_comma (n + 1) (written_step77 c ++ r) ≡ holds_comma (n + 1) r
neutral_step None n r = refl
neutral_step (Some p) n r = comma_skipped n (written77 p ++ r) ∙ neutral p (n + 1) r

neutral_control : (k : Control) (n : ℕ) (r : List Word77) → holds_comma (n + 1) (written_control k ++ r) ≡ holds_comma (n + 1) r
neutral_control k n r =
    scanned (n + 1) (written77 k.first) (words.Comma ∷ (written77 k.last ++ written_step77 k.step)) r
    ∙ (neutral k.first (n + 1) (words.Comma ∷ ((written77 k.last ++ written_step77 k.step) ++ r))
    ∙ (comma_skipped n ((written77 k.last ++ written_step77 k.step) ++ r)
    ∙ (scanned (n + 1) (written77 k.last) (written_step77 k.step) r ∙ (neutral k.last (n + 1) (written_step77 k.step ++ r) ∙ neutral_step k.step n r))))

-- what stands behind the items of an implied DO list
abbrev pub loop_end : Control → List Word77
loop_end k = words.Comma ∷ (written_control k ++ words.Close ∷ [])

neutral_end : (k : Control) (n : ℕ) (r : List Word77) → holds_comma (n + 1) (loop_end k ++ r) ≡ holds_comma n r
neutral_end k n r =
    comma_skipped n ((written_control k ++ words.Close ∷ []) ++ r)
    ∙ (scanned (n + 1) (written_control k) (words.Close ∷ []) r ∙ (neutral_control k n (words.Close ∷ r) ∙ close_one n r))

mutual
  neutral_item : (i : ItemPhrase77) (n : ℕ) (r : List Word77) → holds_comma n (written_item77 i ++ r) ≡ holds_comma n r
  neutral_item (Value p) n r = neutral p n r
  neutral_item (Text t) n r = refl
  neutral_item (Loop is k) n r = scanned (n + 1) (written_items77 is) (loop_end k) r ∙ (neutral_items is n (loop_end k ++ r) ∙ neutral_end k n r)

  neutral_items : (is : ItemPhrases77) (n : ℕ) (r : List Word77) → holds_comma (n + 1) (written_items77 is ++ r) ≡ holds_comma (n + 1) r
  neutral_items (Sole i) n r = neutral_item i (n + 1) r
  neutral_items (More is i) n r =
      scanned (n + 1) (written_items77 is) (words.Comma ∷ written_item77 i) r
      ∙ (neutral_items is n (words.Comma ∷ (written_item77 i ++ r)) ∙ (comma_skipped n (written_item77 i ++ r) ∙ neutral_item i (n + 1) r))

-- the parenthesis of an implied DO list holds a comma
pub list_opens : (is : ItemPhrases77) (r : List Word77) → holds_comma 0 (written_items77 is ++ words.Comma ∷ r) ≡ true
list_opens (Sole i) r = neutral_item i 0 (words.Comma ∷ r)
list_opens (More is i) r = scanned 0 (written_items77 is) (words.Comma ∷ written_item77 i) (words.Comma ∷ r) ∙ list_opens is (written_item77 i ++ words.Comma ∷ r)

opened : (a b r : List Word77) → opens ((a ++ b) ++ r) ≡ opens (a ++ (b ++ r))
opened a b r = ap opens (append_assoc a b r)

-- and that of an expression none
pub value_opens_not : (p : Phrase77) (r : List Word77) → opens (written77 p ++ r) ≡ false
value_opens_not (Literal k) r = refl
value_opens_not WideLiteral r = refl
value_opens_not (Truth b) r = refl
value_opens_not (Name x) r = refl
value_opens_not (Listed x ps) r = refl
value_opens_not (Paren p) r = scanned 0 (written77 p) (words.Close ∷ []) r ∙ neutral p 0 (words.Close ∷ r)
value_opens_not (Signed s p) r = refl
value_opens_not (Joined o a b) r = opened (written77 a) (words.Operator o ∷ written77 b) r ∙ value_opens_not a (words.Operator o ∷ (written77 b ++ r))

-- ---- the first word of an expression

abbrev IsSimple : Direction → List Frame → List Word77 → Type 0
IsSimple d fs ws = simple d fs ws ≡ value d ws fs (expressions.read ws)

-- it is no constant
pub value_simple : (d : Direction) (fs : List Frame) (p : Phrase77) (r : List Word77) → IsSimple d fs (written77 p ++ r)
value_simple d fs (Literal k) r = refl
value_simple d fs WideLiteral r = refl
value_simple d fs (Truth b) r = refl
value_simple d fs (Name x) r = refl
value_simple d fs (Listed x ps) r = refl
value_simple d fs (Paren p) r = refl
value_simple d fs (Signed s p) r = refl
value_simple d fs (Joined o a b) r =
    subst (IsSimple d fs) (sym (append_assoc (written77 a) (words.Operator o ∷ written77 b) r)) (value_simple d fs a (words.Operator o ∷ (written77 b ++ r)))

abbrev pub IsNoEquals : List Word77 → Type 0
IsNoEquals (words.Equals ∷ ws) = ⊥
IsNoEquals ws = Unit {0}

name_controls_not : (x : List ℕ) (r : List Word77) → IsNoEquals r → begins_control (words.Name x ∷ r) ≡ false
name_controls_not x [] h = refl
name_controls_not x (words.Equals ∷ r) h = absurd h
name_controls_not x (w ∷ r) h = refl

-- no variable of an implied DO list begins it
pub value_controls_not : (p : Phrase77) (r : List Word77) → IsNoEquals r → begins_control (written77 p ++ r) ≡ false
value_controls_not (Literal k) r h = refl
value_controls_not WideLiteral r h = refl
value_controls_not (Truth b) r h = refl
value_controls_not (Name x) r h = name_controls_not x r h
value_controls_not (Listed x ps) r h = refl
value_controls_not (Paren p) r h = refl
value_controls_not (Signed s p) r h = refl
value_controls_not (Joined o a b) r h =
    ap begins_control (append_assoc (written77 a) (words.Operator o ∷ written77 b) r) ∙ value_controls_not a (words.Operator o ∷ (written77 b ++ r)) tt

pub item_controls_not : (i : ItemPhrase77) (r : List Word77) → IsNoEquals r → begins_control (written_item77 i ++ r) ≡ false
item_controls_not (Value p) r h = value_controls_not p r h
item_controls_not (Text t) r h = refl
item_controls_not (Loop is k) r h = refl

-- ---- references

level_nine : (o : Op) → level_of o ≤ 9
level_nine Pow = omega arith
level_nine o = omega arith

pub reference_stands : (p : Phrase77) (r : List Word77) → IsReference77 p → (begins_with_name (written77 p ++ r) && (phrase_level77 p == 10)) ≡ true
reference_stands (Literal n) r h = absurd h
reference_stands WideLiteral r h = absurd h
reference_stands (Truth b) r h = absurd h
reference_stands (Name x) r h = refl
reference_stands (Listed x ps) r h = refl
reference_stands (Paren p) r h = absurd h
reference_stands (Signed s p) r h = absurd h
reference_stands (Joined o a b) r h = absurd h

tested : (b : Bool) (n : ℕ) → (b && (n == 10)) ≡ true → n ≡ 10
tested b n h = eqb-true n 10 (and_parts b (n == 10) h).1

-- it is one where it begins with a name and binds most tightly
pub stands_reference : (p : Phrase77) (r : List Word77) → (begins_with_name (written77 p ++ r) && (phrase_level77 p == 10)) ≡ true → IsReference77 p
stands_reference (Literal n) r h = cc
stands_reference WideLiteral r h = cc
stands_reference (Truth b) r h = cc
stands_reference (Name x) r h = tt
stands_reference (Listed x ps) r h = tt
stands_reference (Paren p) r h = cc
stands_reference (Signed s p) r h = cc
stands_reference (Joined o a b) r h = absurd (omega (arith, level_nine o, tested (begins_with_name (written77 (Joined o a b) ++ r)) (level_of o) h))
