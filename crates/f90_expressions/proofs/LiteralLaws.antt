-- The literals of an expression are those of its list, and their values are read digit by digit.
use Rattle.std.proofs.Common.{arith, ◌≡◌, ℕ, ◌+◌, ◌*◌, ◌<◌, ◌≤◌, ◌^◌, Bool, true, false, ◌||◌, cond, List, [], ◌∷◌, ◌++◌, length, take, drop, get_or, refl, ap, sym, subst, ◌∙◌, Some, None, inl, inr}
use mathlib.Core.Path.{ap₂}
use Rattle.std.specs.Prelude.{nat_lt}
use Rattle.std.specs.List.{list_any}
use Rattle.std.specs.Char.{digit_value}
use Rattle.std.specs.Str.Parse.{digits_value, digits_value_after}
use Rattle.std.proofs.lemmas.Bool.{cond-true, cond-false, lt-ltb, le-ltb, ltb-true, ltb-false, cases_lt}
use Rattle.std.proofs.lemmas.List.{take-append-drop, take_all}
use Rattle.std.proofs.lemmas.Int.Digits.{digits_value_more}
use Rattle.tree.specs.Limits.{greatest_literal}
use Rattle.f90_grammar.specs.Phrases as phrases
use Rattle.f90_grammar.specs.Phrases.{Phrase90, ListPart, Value, Range, Strided, ListParts, Phrases90, Turn, phrase_depth90}
use Rattle.f90_grammar.specs.Contents.{is_wide_literal, has_wide_literal90, part_has_wide_literal, parts_have_wide_literal, values_have_wide_literal, turn_has_wide_literal, is_deep}
use Rattle.f90_expressions.specs.declared.nodes.Expression.{Expression}
use Rattle.f90_expressions.specs.Flat as flats
use Rattle.f90_expressions.specs.Flat.{Node, flat, flat_part, flat_parts, flat_values, flat_turn}
use Rattle.f90_expressions.specs.Literals.{is_wide_node, narrow, value_in}
use Rattle.f90_expressions.specs.Machine.{counted}
use Rattle.f90_expressions.specs.Reading.{IsMadeOf}
use Rattle.f90_expressions.specs.Views.{nodes_seen}

-- ---- values

grows : (n : ℕ) (cs : List ℕ) → n ≤ digits_value_after 10 n cs
grows n [] = omega arith
grows n (c ∷ cs) = omega (arith, grows (n * 10 + digit_value c) cs)

after_both : (n : ℕ) (xs ys : List ℕ) → digits_value_after 10 n (xs ++ ys) ≡ digits_value_after 10 (digits_value_after 10 n xs) ys
after_both n [] ys = refl
after_both n (c ∷ cs) ys = after_both (n * 10 + digit_value c) cs ys

front_least : (digits : List ℕ) (i : ℕ) → digits_value 10 (take i digits) ≤ digits_value 10 digits
front_least digits i =
    let e : digits_value 10 digits ≡ digits_value_after 10 (digits_value 10 (take i digits)) (drop i digits)
    = ap (digits_value 10) (sym (take-append-drop i digits)) ∙ after_both 0 (take i digits) (drop i digits) in
    omega (arith, e, grows (digits_value 10 (take i digits)) (drop i digits))

narrow_by : (b : Bool) (n m : ℕ) → nat_lt n (2 ^ 127) ≡ b → cond b (Some n) None ≡ Some m → (m ≡ n) × (m < 2 ^ 127)
narrow_by true n m e h = let k : m ≡ n = cc in (k, subst (λ (x : ℕ). x < 2 ^ 127) (sym k) (ltb-true n (2 ^ 127) e))
narrow_by false n m e h = absurd (cc)

narrow_none : (b : Bool) (n : ℕ) → nat_lt n (2 ^ 127) ≡ b → cond b (Some n) None ≡ None → 2 ^ 127 ≤ n
narrow_none true n e h = absurd (cc)
narrow_none false n e h = ltb-false n (2 ^ 127) e

ten_times : (n d : ℕ) → 10 * n + d ≡ n * 10 + d
ten_times n d = omega arith

-- the value so far, with one digit more
pub with_more : (digits : List ℕ) (i n m : ℕ) → i < length digits → n ≡ digits_value 10 (take i digits)
    → narrow (10 * n + digit_value (get_or digits i 0)) ≡ Some m → (m ≡ digits_value 10 (take (i + 1) digits)) × (m < 2 ^ 127)
with_more digits i n m l e h =
    let d = digit_value (get_or digits i 0) in
    let k = narrow_by (nat_lt (10 * n + d) (2 ^ 127)) (10 * n + d) m refl h in
    (k.0 ∙ (ten_times n d ∙ (ap (λ (x : ℕ). x * 10 + d) e ∙ sym (digits_value_more 10 digits i l))), k.1)

-- one digit more passes the limit
pub with_less : (digits : List ℕ) (i n : ℕ) → i < length digits → n ≡ digits_value 10 (take i digits)
    → narrow (10 * n + digit_value (get_or digits i 0)) ≡ None → None ≡ value_in digits
with_less digits i n l e h =
    let d = digit_value (get_or digits i 0) in
    let k = narrow_none (nat_lt (10 * n + d) (2 ^ 127)) (10 * n + d) refl h in
    let m : digits_value 10 (take (i + 1) digits) ≡ 10 * n + d
    = digits_value_more 10 digits i l ∙ (ap (λ (x : ℕ). x * 10 + d) (sym e) ∙ sym (ten_times n d)) in
    let w : greatest_literal < digits_value 10 digits = omega (arith, k, m, front_least digits (i + 1)) in
    sym (cond-true (is_wide_literal digits) None (Some (digits_value 10 digits)) (lt-ltb greatest_literal (digits_value 10 digits) w))

pub value_all : (digits : List ℕ) (i n : ℕ) → length digits ≤ i → n ≡ digits_value 10 (take i digits) → n < 2 ^ 127 → Some n ≡ value_in digits
value_all digits i n l e h =
    let k : n ≡ digits_value 10 digits = e ∙ ap (digits_value 10) (take_all i digits l) in
    ap Some k
    ∙ sym (cond-false (is_wide_literal digits) None (Some (digits_value 10 digits)) (le-ltb greatest_literal (digits_value 10 digits) (omega (arith, k, h))))

pub ruleset values = (with_more, with_less, value_all)

-- ---- literals

or_none : (b : Bool) → (b || false) ≡ b
or_none true = refl
or_none false = refl

or_assoc : (a b c : Bool) → ((a || b) || c) ≡ (a || (b || c))
or_assoc true b c = refl
or_assoc false b c = refl

any_both : (xs ys : List Node) → list_any is_wide_node (xs ++ ys) ≡ (list_any is_wide_node xs || list_any is_wide_node ys)
any_both [] ys = refl
any_both (x ∷ xs) ys =
    ap (λ (b : Bool). is_wide_node x || b) (any_both xs ys) ∙ sym (or_assoc (is_wide_node x) (list_any is_wide_node xs) (list_any is_wide_node ys))

any_end : (xs : List Node) (n : Node) → is_wide_node n ≡ false → list_any is_wide_node (xs ++ n ∷ []) ≡ list_any is_wide_node xs
any_end xs n h =
    any_both xs (n ∷ []) ∙ (ap (λ (b : Bool). list_any is_wide_node xs || (b || false)) h ∙ or_none (list_any is_wide_node xs))

mutual
  pub wide : (p : Phrase90) → list_any is_wide_node (flat p) ≡ has_wide_literal90 p
  wide (phrases.Literal t) = or_none (is_wide_literal t)
  wide (phrases.Truth b) = refl
  wide (phrases.Name x) = refl
  wide (phrases.Listed x ps) = any_end (flat_parts ps) (flats.Listed x) refl ∙ wide_parts ps
  wide (phrases.Paren p) = any_end (flat p) flats.Parenthesis refl ∙ wide p
  wide (phrases.Signed s p) = any_end (flat p) (flats.Prefix s) refl ∙ wide p
  wide (phrases.Joined o a b) =
      any_both (flat a) (flat b ++ flats.Infix o ∷ []) ∙ ap₂ (λ (x y : Bool). x || y) (wide a) (any_end (flat b) (flats.Infix o) refl ∙ wide b)
  wide (phrases.Values ps) = any_end (flat_values ps) flats.Values refl ∙ wide_values ps
  wide (phrases.Looped t) = any_end (flat_turn t) flats.Looped refl ∙ wide_turn t

  wide_part : (p : ListPart) → list_any is_wide_node (flat_part p) ≡ part_has_wide_literal p
  wide_part (Value p) = any_end (flat p) flats.One refl ∙ wide p
  wide_part (Range a b) =
      any_both (flat a) (flat b ++ flats.Bounds ∷ []) ∙ ap₂ (λ (x y : Bool). x || y) (wide a) (any_end (flat b) flats.Bounds refl ∙ wide b)
  wide_part (Strided a b c) =
      any_both (flat a) (flat b ++ (flat c ++ flats.Stride ∷ []))
      ∙ ap₂ (λ (x y : Bool). x || y) (wide a)
      (any_both (flat b) (flat c ++ flats.Stride ∷ []) ∙ ap₂ (λ (x y : Bool). x || y) (wide b) (any_end (flat c) flats.Stride refl ∙ wide c))

  wide_parts : (ps : ListParts) → list_any is_wide_node (flat_parts ps) ≡ parts_have_wide_literal ps
  wide_parts (phrases.One p) = wide_part p
  wide_parts (phrases.Then ps p) = any_both (flat_parts ps) (flat_part p) ∙ ap₂ (λ (x y : Bool). x || y) (wide_parts ps) (wide_part p)

  wide_values : (ps : Phrases90) → list_any is_wide_node (flat_values ps) ≡ values_have_wide_literal ps
  wide_values (phrases.Sole p) = wide p
  wide_values (phrases.More ps p) = any_both (flat_values ps) (flat p) ∙ ap₂ (λ (x y : Bool). x || y) (wide_values ps) (wide p)

  wide_turn : (t : Turn) → list_any is_wide_node (flat_turn t) ≡ turn_has_wide_literal t
  wide_turn (phrases.Innermost p x a b) =
      any_both (flat p) (flat a ++ (flat b ++ flats.Inner x ∷ []))
      ∙ ap₂ (λ (x y : Bool). x || y) (wide p)
      (any_both (flat a) (flat b ++ flats.Inner x ∷ []) ∙ ap₂ (λ (x y : Bool). x || y) (wide a) (any_end (flat b) (flats.Inner x) refl ∙ wide b))
  wide_turn (phrases.Round t x a b) =
      any_both (flat_turn t) (flat a ++ (flat b ++ flats.Outer x ∷ []))
      ∙ ap₂ (λ (x y : Bool). x || y) (wide_turn t)
      (any_both (flat a) (flat b ++ flats.Outer x ∷ []) ∙ ap₂ (λ (x y : Bool). x || y) (wide a) (any_end (flat b) (flats.Outer x) refl ∙ wide b))

pub has_wide_is : (b : Bool) (e : Expression) (p : Phrase90) → b ≡ list_any is_wide_node (nodes_seen e.nodes) → IsMadeOf e p → b ≡ has_wide_literal90 p
has_wide_is b e p h m = h ∙ (ap (list_any is_wide_node) m.nodes ∙ wide p)

pub deep_is : (e : Expression) (p : Phrase90) → IsMadeOf e p → nat_lt 1000 e.depth ≡ is_deep p
deep_is e p m = ap (nat_lt 1000) m.depth ∙ by (phrase_depth90 p)
  where
    by : (n : ℕ) → nat_lt 1000 (counted n) ≡ nat_lt 1000 n
    by n =
        elim (cases_lt 1000 n) [
          | inl h ↦ lt-ltb 1000 (counted n) (omega (arith, h)) ∙ sym (lt-ltb 1000 n h)
          | inr h ↦ le-ltb 1000 (counted n) (omega (arith, h)) ∙ sym (le-ltb 1000 n h)
        ]
