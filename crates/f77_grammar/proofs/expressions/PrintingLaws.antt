-- What is printed is an expression, and has that tree.
use Rattle.std.proofs.Common.{arith, ◌≡◌, ◌<◌, ◌≤◌, ◌^◌, ℕ, ◌+◌, ◌-◌, ◌*◌, ℤ, pos, negsuc, Bool, true, false, IsTrue, List, [], ◌∷◌, ◌++◌, length, refl, ap, sym, ◌∙◌, subst, append_assoc, append-nil, codes, rules}
use Rattle.std.specs.Prelude.{nat_le, ◌&&◌, decimal, ◌==◌}
use Rattle.std.specs.List.{flat_map, fold, list_any}
use Rattle.std.proofs.lemmas.Bool.{cond_both, leb-true}
use Rattle.std.proofs.lemmas.Bool.Decides.{nat_tests}
use Rattle.std.proofs.lemmas.Fmt.{decimal_is_IsNumeral_wide}
use Rattle.std.proofs.lemmas.List.{map-append}
use Rattle.std.proofs.lemmas.Str.Parse.{IsNumeralModel, numerals_by_fold}
use Rattle.tree.specs.declared.ops.Op.{Op}
use Rattle.tree.specs.declared.ops.Op.TheVariants.{Pow, Mul, Neg, Sub, Not}
use Rattle.tree.specs.Plain.{Expression, Number, Logic, Named, Unary, Binary, Apply, Constructor, Spread, Transpose, Reshape, Reduce, Subscript, Only, Section, Subscripts, no_subscripts, subscript, subscripts}
use Rattle.tree.specs.OperatorTable.{Sign, Plus, Minus, Negation, left_least, right_least, stands_between, may_follow, spelling77_of}
use Rattle.f77_grammar.specs.expressions.Phrases.{Phrase77, Literal, WideLiteral, Truth, Name, Listed, Paren, Signed, Joined, Phrases77, One, Then, phrase_level77, begins_with_sign77, written77, written_list, tree77_of, trees77_of, IsExpression77, AreExpressions77}
use Rattle.reading.specs.Characters.{is_digit, is_letter, Pass, IsDigits, upper}
use Rattle.reading.specs.Signs.{sign_word}
use Rattle.f77_grammar.specs.expressions.Printing.{IsLiteral, is_negating, IsSource, IsSourceSubscript, AreSource, fit, behind, listed, unary_phrase, phrase_of, subscript_phrase, phrases_of, with_more, digits_of, spelling_of, printed}
use Rattle.f77_grammar.specs.expressions.Reading.{Spells, IsWide}
use Rattle.f77_grammar.specs.expressions.Words.{is_wide_word}
use Rattle.f77_grammar.specs.expressions.Spelling.{is_letter_or_digit, value, IsName77, Spelled77, chars77, SpelledBy77, Stops77, goes_on77, IsWhole77, AreWords77}
use Rattle.f77_grammar.specs.expressions.Squeezing.{Symbol77, Char, Squeezed, nothing, character}
use Rattle.f77_grammar.specs.expressions.Words as words
use Rattle.f77_grammar.specs.expressions.Words.{Word77}

-- the number that the digits write when they follow those of n
abbrev digits_from : ℕ → List ℕ → ℕ
digits_from n ds = fold (λ n c. 10 * n + (c - 48)) n ds

-- ---- the tree

fit_tree : (n : ℕ) (p : Phrase77) → tree77_of (fit n p) ≡ tree77_of p
fit_tree n p = cond_both (nat_le n (phrase_level77 p)) p (Paren p) (λ q. tree77_of q ≡ tree77_of p) (λ e. refl) (λ e. refl)

behind_tree : (o : Op) (p : Phrase77) → tree77_of (behind o p) ≡ tree77_of p
behind_tree o p = cond_both (may_follow o (begins_with_sign77 p)) p (Paren p) (λ q. tree77_of q ≡ tree77_of p) (λ e. refl) (λ e. refl)

unary_tree : (o : Op) (p : Phrase77) → IsTrue (is_negating o) → tree77_of (unary_phrase o p) ≡ Unary o (tree77_of p)
unary_tree Neg p h = ap (Unary Neg) (fit_tree 8 p)
unary_tree Not p h = ap (Unary Not) (fit_tree 6 (behind Not p) ∙ behind_tree Not p)
unary_tree o p h = cc

-- some subscripts, and then others
abbrev put_before : List Subscript → Subscripts → Subscripts
put_before [] ss = ss
put_before (x ∷ xs) ss = subscript x (put_before xs ss)

put_none : (xs : List Subscript) → subscripts xs ≡ put_before xs no_subscripts
put_none [] = refl
put_none (x ∷ xs) = ap (subscript x) (put_none xs)

put_one : (xs : List Subscript) (s : Subscript) (ss : Subscripts) → put_before (xs ++ s ∷ []) ss ≡ put_before xs (subscript s ss)
put_one [] s ss = refl
put_one (x ∷ xs) s ss = ap (subscript x) (put_one xs s ss)

mutual
  pub back : (e : Expression) → IsSource e → tree77_of (phrase_of e) ≡ e
  back (Number n) h = refl
  back (Logic b) h = refl
  back (Named x ss) h = back_named x ss h.1
  back (Unary o a) h = unary_tree o (phrase_of a) h.0 ∙ ap (Unary o) (back a h.1)
  back (Binary o a b) h =
      ap (λ (t : Expression). Binary o t (tree77_of (fit (right_least o) (behind o (phrase_of b))))) (fit_tree (left_least o) (phrase_of a) ∙ back a h.1)
      ∙ ap (Binary o a) (fit_tree (right_least o) (behind o (phrase_of b)) ∙ (behind_tree o (phrase_of b) ∙ back b h.2))
  back (Apply f es) h = absurd h
  back (Constructor es ls) h = absurd h
  back (Spread a k e) h = absurd h
  back (Transpose a) h = absurd h
  back (Reshape a es) h = absurd h
  back (Reduce r a) h = absurd h

  back_subscript : (s : Subscript) → IsSourceSubscript s → Only (tree77_of (subscript_phrase s)) ≡ s
  back_subscript (Only e) h = ap Only (back e h)
  back_subscript (Section a b c) h = absurd h

  back_named : (x : List ℕ) (ss : Subscripts) → AreSource ss → tree77_of (listed x (phrases_of ss)) ≡ Named x ss
  back_named x no_subscripts h = refl
  back_named x (subscript s ss) h =
      ap (Named x) (back_list (One (subscript_phrase s)) ss h.1 ∙ ap (λ (q : Subscript). subscript q ss) (back_subscript s h.0))

  back_list : (ps : Phrases77) (ss : Subscripts) → AreSource ss → subscripts (trees77_of (with_more ps ss)) ≡ put_before (trees77_of ps) ss
  back_list ps no_subscripts h = put_none (trees77_of ps)
  back_list ps (subscript s ss) h =
      back_list (Then ps (subscript_phrase s)) ss h.1
      ∙ (put_one (trees77_of ps) (Only (tree77_of (subscript_phrase s))) ss ∙ ap (λ (q : Subscript). put_before (trees77_of ps) (subscript q ss)) (back_subscript s h.0))

-- ---- it is an expression

ten : (o : Op) → (left_least o ≤ 10) × (right_least o ≤ 10)
ten Pow = (omega arith, omega arith)
ten o = (omega arith, omega arith)

fits : (n : ℕ) (p : Phrase77) → n ≤ 10 → n ≤ phrase_level77 (fit n p)
fits n p h = cond_both (nat_le n (phrase_level77 p)) p (Paren p) (λ q. n ≤ phrase_level77 q) (λ e. leb-true _ _ e) (λ e. h)

fit_good : (n : ℕ) (p : Phrase77) → IsExpression77 p → IsExpression77 (fit n p)
fit_good n p h = cond_both (nat_le n (phrase_level77 p)) p (Paren p) IsExpression77 (λ e. h) (λ e. h)

behind_good : (o : Op) (p : Phrase77) → IsExpression77 p → IsExpression77 (behind o p)
behind_good o p h = cond_both (may_follow o (begins_with_sign77 p)) p (Paren p) IsExpression77 (λ e. h) (λ e. h)

behind_follows : (o : Op) (p : Phrase77) → IsTrue (may_follow o (begins_with_sign77 (behind o p)))
behind_follows o p = cond_both (may_follow o (begins_with_sign77 p)) p (Paren p) (λ q. IsTrue (may_follow o (begins_with_sign77 q))) (λ e. e) (λ e. refl)

fit_follows : (o : Op) (n : ℕ) (p : Phrase77) → IsTrue (may_follow o (begins_with_sign77 p)) → IsTrue (may_follow o (begins_with_sign77 (fit n p)))
fit_follows o n p h = cond_both (nat_le n (phrase_level77 p)) p (Paren p) (λ q. IsTrue (may_follow o (begins_with_sign77 q))) (λ e. h) (λ e. refl)

sub_followed : (b : Bool) → IsTrue (may_follow Sub b)
sub_followed true = refl
sub_followed false = refl

unary_good : (o : Op) (p : Phrase77) → IsExpression77 p → IsExpression77 (unary_phrase o p)
unary_good Not p h = (fits 6 (behind Not p) (omega arith), fit_follows Not 6 (behind Not p) (behind_follows Not p), fit_good 6 (behind Not p) (behind_good Not p h))
unary_good o p h = (fits 8 p (omega arith), sub_followed _, fit_good 8 p h)

mutual
  pub good : (e : Expression) → IsSource e → IsExpression77 (phrase_of e)
  good (Number n) h = tt
  good (Logic b) h = tt
  good (Named x ss) h = good_named x ss h.1
  good (Unary o a) h = unary_good o (phrase_of a) (good a h.1)
  good (Binary o a b) h = (
    h.0,
    fits (left_least o) (phrase_of a) (ten o).0,
    fits (right_least o) (behind o (phrase_of b)) (ten o).1,
    fit_follows o (right_least o) (behind o (phrase_of b)) (behind_follows o (phrase_of b)),
    fit_good (left_least o) (phrase_of a) (good a h.1),
    fit_good (right_least o) (behind o (phrase_of b)) (behind_good o (phrase_of b) (good b h.2)),
  )
  good (Apply f es) h = absurd h
  good (Constructor es ls) h = absurd h
  good (Spread a k e) h = absurd h
  good (Transpose a) h = absurd h
  good (Reshape a es) h = absurd h
  good (Reduce r a) h = absurd h

  good_subscript : (s : Subscript) → IsSourceSubscript s → IsExpression77 (subscript_phrase s)
  good_subscript (Only e) h = good e h
  good_subscript (Section a b c) h = absurd h

  good_named : (x : List ℕ) (ss : Subscripts) → AreSource ss → IsExpression77 (listed x (phrases_of ss))
  good_named x no_subscripts h = tt
  good_named x (subscript s ss) h = good_list (One (subscript_phrase s)) ss (good_subscript s h.0) h.1

  good_list : (ps : Phrases77) (ss : Subscripts) → AreExpressions77 ps → AreSource ss → AreExpressions77 (with_more ps ss)
  good_list ps no_subscripts g h = g
  good_list ps (subscript s ss) g h = good_list (Then ps (subscript_phrase s)) ss (g, good_subscript s h.0) h.1

-- ---- its words are spelled, and none is too wide

abbrev AreSpelled : List Word77 → Type 0
AreSpelled [] = Unit {0}
AreSpelled (w ∷ ws) = Spelled77 w (spelling_of w) × (is_wide_word w ≡ false) × AreSpelled ws

spelled_append : (a b : List Word77) → AreSpelled a → AreSpelled b → AreSpelled (a ++ b)
spelled_append [] b h k = k
spelled_append (w ∷ a) b h k = (h.0, h.1, spelled_append a b h.2 k)

spelled_split : (a b : List Word77) → AreSpelled (a ++ b) → AreSpelled a × AreSpelled b
spelled_split [] b h = (tt, h)
spelled_split (w ∷ a) b h = let k = spelled_split a b h.2 in ((h.0, h.1, k.0), k.1)

own : IsNumeralModel (Pass is_digit) value
own = numerals_by_fold _ (search rules) (λ n ds. digits_from n ds) (search rules)

digits_nonempty : (ds : List ℕ) → 0 < length ds → Pass is_digit ds → IsDigits ds
digits_nonempty [] l h = absurd (omega arith)
digits_nonempty (c ∷ cs) l h = h

literal_spelled : (n : ℤ) → IsLiteral n → Spelled77 (words.Number n) (digits_of n)
literal_spelled (pos n) h =
    let d = decimal_is_IsNumeral_wide n (omega arith) in
    let p : Pass is_digit (decimal n) = own.from (decimal n) d.0.1 in
    let v : value (decimal n) ≡ n = own.same (decimal n) d.0.1 ∙ d.1 in
    (digits_nonempty (decimal n) d.0.0 p, ap pos (sym v), omega arith)
literal_spelled (negsuc n) h = absurd h

truth_spelled : (b : Bool) → Spelled77 (words.Truth b) (spelling_of (words.Truth b))
truth_spelled true = refl
truth_spelled false = refl

joins_spelled : (o : Op) → IsTrue (stands_between o) → Spelled77 (words.Operator o) (spelling77_of o)
joins_spelled Neg h = cc
joins_spelled Pow h = refl
joins_spelled o h = refl

sign_spelled : (s : Sign) → Spelled77 (words.Operator (sign_word s)) (spelling77_of (sign_word s))
sign_spelled Plus = refl
sign_spelled Minus = refl
sign_spelled Negation = refl

fit_spelled : (n : ℕ) (p : Phrase77) → AreSpelled (written77 p) → AreSpelled (written77 (fit n p))
fit_spelled n p h =
    cond_both (nat_le n (phrase_level77 p)) p (Paren p) (λ q. AreSpelled (written77 q)) (λ e. h)
    (λ e. (refl, refl, spelled_append (written77 p) (words.Close ∷ []) h (refl, refl, tt)))

behind_spelled : (o : Op) (p : Phrase77) → AreSpelled (written77 p) → AreSpelled (written77 (behind o p))
behind_spelled o p h =
    cond_both (may_follow o (begins_with_sign77 p)) p (Paren p) (λ q. AreSpelled (written77 q)) (λ e. h)
    (λ e. (refl, refl, spelled_append (written77 p) (words.Close ∷ []) h (refl, refl, tt)))

unary_spelled : (o : Op) (p : Phrase77) → AreSpelled (written77 p) → AreSpelled (written77 (unary_phrase o p))
unary_spelled Not p h = (refl, refl, fit_spelled 6 (behind Not p) (behind_spelled Not p h))
unary_spelled o p h = (refl, refl, fit_spelled 8 p h)

mutual
  pub source_spelled : (e : Expression) → IsSource e → AreSpelled (written77 (phrase_of e))
  source_spelled (Number n) h = (literal_spelled n h, refl, tt)
  source_spelled (Logic b) h = (truth_spelled b, refl, tt)
  source_spelled (Named x ss) h = spelled_named x ss h.0 h.1
  source_spelled (Unary o a) h = unary_spelled o (phrase_of a) (source_spelled a h.1)
  source_spelled (Binary o a b) h =
      spelled_append (written77 (fit (left_least o) (phrase_of a))) (words.Operator o ∷ written77 (fit (right_least o) (behind o (phrase_of b))))
      (fit_spelled (left_least o) (phrase_of a) (source_spelled a h.1))
      (joins_spelled o h.0, refl, fit_spelled (right_least o) (behind o (phrase_of b)) (behind_spelled o (phrase_of b) (source_spelled b h.2)))
  source_spelled (Apply f es) h = absurd h
  source_spelled (Constructor es ls) h = absurd h
  source_spelled (Spread a k e) h = absurd h
  source_spelled (Transpose a) h = absurd h
  source_spelled (Reshape a es) h = absurd h
  source_spelled (Reduce r a) h = absurd h

  spelled_subscript : (s : Subscript) → IsSourceSubscript s → AreSpelled (written77 (subscript_phrase s))
  spelled_subscript (Only e) h = source_spelled e h
  spelled_subscript (Section a b c) h = absurd h

  spelled_named : (x : List ℕ) (ss : Subscripts) → IsName77 x → AreSource ss → AreSpelled (written77 (listed x (phrases_of ss)))
  spelled_named x no_subscripts n h = ((refl, n), refl, tt)
  spelled_named x (subscript s ss) n h = (
    (refl, n),
    refl,
    spelled_append (written_list (with_more (One (subscript_phrase s)) ss)) (words.Close ∷ [])
        (spelled_list (One (subscript_phrase s)) ss (spelled_subscript s h.0) h.1) (refl, refl, tt),
  )

  spelled_list : (ps : Phrases77) (ss : Subscripts) → AreSpelled (written_list ps) → AreSource ss → AreSpelled (written_list (with_more ps ss))
  spelled_list ps no_subscripts k h = k
  spelled_list ps (subscript s ss) k h =
      spelled_list (Then ps (subscript_phrase s)) ss
      (spelled_append (written_list ps) (words.Comma ∷ written77 (subscript_phrase s)) k (refl, refl, spelled_subscript s h.0)) h.1

none_wide : (ws : List Word77) → AreSpelled ws → list_any is_wide_word ws ≡ false
none_wide [] h = refl
none_wide (w ∷ ws) h = rw h.1 (none_wide ws h.2)

pub narrow : (e : Expression) → IsSource e → ¬ IsWide (phrase_of e)
narrow e h k = let n = none_wide (written77 (phrase_of e)) (source_spelled e h) in cc

-- ---- they are the words of the text

-- words spelled before some symbols
abbrev spelled : List Word77 → List Symbol77 → List Symbol77
spelled [] r = r
spelled (w ∷ ws) r = chars77 (spelling_of w) ++ spelled ws r

spelled-append : (a b : List Word77) (r : List Symbol77) → spelled (a ++ b) r ≡ spelled a (spelled b r)
spelled-append [] b r = refl
spelled-append (w ∷ a) b r = ap (λ (q : List Symbol77). chars77 (spelling_of w) ++ q) (spelled-append a b r)

chars_spelled : (ws : List Word77) → chars77 (flat_map spelling_of ws) ≡ spelled ws []
chars_spelled [] = refl
chars_spelled (w ∷ ws) = map-append Char (spelling_of w) (flat_map spelling_of ws) ∙ ap (λ (q : List Symbol77). chars77 (spelling_of w) ++ q) (chars_spelled ws)

apart : (a b : List Word77) (r : List Symbol77) (later : List Word77) → AreWords77 (spelled a (spelled b r)) (a ++ (b ++ later)) → AreWords77 (spelled (a ++ b) r) ((a ++ b) ++ later)
apart a b r later h =
    subst (λ (q : List Word77). AreWords77 (spelled (a ++ b) r) q) (sym (append_assoc a b later))
    (subst (λ (q : List Symbol77). AreWords77 q (a ++ (b ++ later))) (sym (spelled-append a b r)) h)

goes_digit : (c : ℕ) → goes_on77 c ≡ false → is_digit c ≡ false
goes_digit c h = grind (arith, nat_tests)

digit_stops : (r : List Symbol77) → Stops77 goes_on77 r → Stops77 is_digit r
digit_stops [] h = tt
digit_stops (Char c ∷ r) h = goes_digit c h
digit_stops (s ∷ r) h = tt

operator_stops : (o : Op) (r : List Symbol77) → Stops77 goes_on77 (chars77 (spelling77_of o) ++ r)
operator_stops Pow r = refl
operator_stops o r = refl

operator_whole : (o : Op) (r : List Symbol77) → Stops77 (λ c. c == 42) r → IsWhole77 (words.Operator o) r
operator_whole Mul r h = h
operator_whole o r h = tt

sign_whole : (s : Sign) (r : List Symbol77) → IsWhole77 (words.Operator (sign_word s)) r
sign_whole Plus r = tt
sign_whole Minus r = tt
sign_whole Negation r = tt

not_star_digit : (c : ℕ) → IsTrue (is_digit c) → (c == 42) ≡ false
not_star_digit c h = grind (arith, nat_tests)

not_star_letter : (c : ℕ) → IsTrue (is_letter c) → (c == 42) ≡ false
not_star_letter c h = grind (arith, nat_tests)

digits_start : (ds : List ℕ) (r : List Symbol77) → IsDigits ds → Stops77 (λ c. c == 42) (chars77 ds ++ r)
digits_start [] r h = absurd h
digits_start (c ∷ cs) r h = not_star_digit c h.0

name_start : (x y : List ℕ) (r : List Symbol77) → IsName77 x → Stops77 (λ c. c == 42) (chars77 (x ++ y) ++ r)
name_start [] y r h = absurd h
name_start (c ∷ cs) y r h = not_star_letter c h.0

bare_start : (x : List ℕ) (r : List Symbol77) → IsName77 x → Stops77 (λ c. c == 42) (chars77 x ++ r)
bare_start [] r h = absurd h
bare_start (c ∷ cs) r h = not_star_letter c h.0

-- no operand begins with an asterisk
starts : (p : Phrase77) (r : List Symbol77) → AreSpelled (written77 p) → Stops77 (λ c. c == 42) (spelled (written77 p) r)
starts (Literal n) r h = digits_start (digits_of n) r h.0.0
starts WideLiteral r h = digits_start (decimal (2 ^ 127)) r h.0.0
starts (Truth true) r h = refl
starts (Truth false) r h = refl
starts (Name x) r h = bare_start x r h.0.1
starts (Listed x ps) r h = name_start x (codes "(") _ h.0.1
starts (Paren p) r h = refl
starts (Signed Plus p) r h = refl
starts (Signed Minus p) r h = refl
starts (Signed Negation p) r h = refl
starts (Joined o a b) r h =
    subst (Stops77 (λ c. c == 42)) (sym (spelled-append (written77 a) (words.Operator o ∷ written77 b) r))
    (starts a _ (spelled_split (written77 a) (words.Operator o ∷ written77 b) h).0)

closed : (r : List Symbol77) (later : List Word77) → AreWords77 r later → AreWords77 (Char 41 ∷ r) (words.Close ∷ later)
closed r later k = (r, record { front = Char 41 ∷ []; same = refl; spelled = (codes ")", refl, refl); whole = tt }, k)

operator_by : (o : Op) → Spelled77 (words.Operator o) (spelling77_of o) → SpelledBy77 (words.Operator o) (chars77 (spelling77_of o))
operator_by o h = (spelling77_of o, refl, h)

mutual
  phrase_words : (p : Phrase77) (r : List Symbol77) (later : List Word77) → AreSpelled (written77 p) → Stops77 goes_on77 r → AreWords77 r later → AreWords77 (spelled (written77 p) r) (written77 p ++ later)
  phrase_words (Literal n) r later h s k = (r, record { front = chars77 (digits_of n); same = refl; spelled = (digits_of n, refl, h.0); whole = digit_stops r s }, k)
  phrase_words WideLiteral r later h s k = (r, record { front = chars77 (decimal (2 ^ 127)); same = refl; spelled = (decimal (2 ^ 127), refl, h.0); whole = digit_stops r s }, k)
  phrase_words (Truth b) r later h s k = (r, record { front = chars77 (spelling_of (words.Truth b)); same = refl; spelled = (spelling_of (words.Truth b), refl, h.0); whole = tt }, k)
  phrase_words (Name x) r later h s k = (r, record { front = chars77 x; same = refl; spelled = (x, refl, h.0); whole = s }, k)
  phrase_words (Listed x ps) r later h s k = (
    _,
    record { front = chars77 (x ++ codes "("); same = refl; spelled = (x ++ codes "(", refl, h.0); whole = tt },
    apart (written_list ps) (words.Close ∷ []) r later
        (list_words ps (Char 41 ∷ r) (words.Close ∷ later) (spelled_split (written_list ps) (words.Close ∷ []) h.2).0 refl (closed r later k)),
  )
  phrase_words (Paren p) r later h s k = (
    _,
    record { front = Char 40 ∷ []; same = refl; spelled = (codes "(", refl, refl); whole = tt },
    apart (written77 p) (words.Close ∷ []) r later
        (phrase_words p (Char 41 ∷ r) (words.Close ∷ later) (spelled_split (written77 p) (words.Close ∷ []) h.2).0 refl (closed r later k)),
  )
  phrase_words (Signed s p) r later h stop k = (
    _,
    record { front = chars77 (spelling77_of (sign_word s)); same = refl; spelled = operator_by (sign_word s) h.0; whole = sign_whole s _ },
    phrase_words p r later h.2 stop k,
  )
  phrase_words (Joined o a b) r later h s k =
      let hs = spelled_split (written77 a) (words.Operator o ∷ written77 b) h in
      apart (written77 a) (words.Operator o ∷ written77 b) r later
      (phrase_words a _ (words.Operator o ∷ (written77 b ++ later)) hs.0 (operator_stops o _) (
        _,
        record { front = chars77 (spelling77_of o); same = refl; spelled = operator_by o hs.1.0; whole = operator_whole o _ (starts b r hs.1.2) },
        phrase_words b r later hs.1.2 s k,
      ))

  list_words : (ps : Phrases77) (r : List Symbol77) (later : List Word77) → AreSpelled (written_list ps) → Stops77 goes_on77 r → AreWords77 r later → AreWords77 (spelled (written_list ps) r) (written_list ps ++ later)
  list_words (One p) r later h s k = phrase_words p r later h s k
  list_words (Then ps p) r later h s k =
      let hs = spelled_split (written_list ps) (words.Comma ∷ written77 p) h in
      apart (written_list ps) (words.Comma ∷ written77 p) r later
      (list_words ps _ (words.Comma ∷ (written77 p ++ later)) hs.0 refl
      (_, record { front = Char 44 ∷ []; same = refl; spelled = (codes ",", refl, refl); whole = tt }, phrase_words p r later hs.1.2 s k))

-- ---- the text has no blanks, no small letters and no apostrophes

abbrev is_plain : ℕ → Bool
is_plain c = nat_le 40 c && nat_le c 90

digit_plain : (c : ℕ) → IsTrue (is_digit c) → IsTrue (is_plain c)
digit_plain c h = grind (arith, nat_tests)

letter_plain : (c : ℕ) → IsTrue (is_letter c) → IsTrue (is_plain c)
letter_plain c h = grind (arith, nat_tests)

inner_plain : (c : ℕ) → IsTrue (is_letter_or_digit c) → IsTrue (is_plain c)
inner_plain c h = grind (arith, nat_tests)

digits_plain : (cs : List ℕ) → Pass is_digit cs → Pass is_plain cs
digits_plain [] h = tt
digits_plain (c ∷ cs) h = (digit_plain c h.0, digits_plain cs h.1)

inners_plain : (cs : List ℕ) → Pass is_letter_or_digit cs → Pass is_plain cs
inners_plain [] h = tt
inners_plain (c ∷ cs) h = (inner_plain c h.0, inners_plain cs h.1)

numeral_plain : (cs : List ℕ) → IsDigits cs → Pass is_plain cs
numeral_plain [] h = absurd h
numeral_plain (c ∷ cs) h = (digit_plain c h.0, digits_plain cs h.1)

name_plain : (cs : List ℕ) → IsName77 cs → Pass is_plain cs
name_plain [] h = absurd h
name_plain (c ∷ cs) h = (letter_plain c h.0, inners_plain cs h.1)

plain_append : (a b : List ℕ) → Pass is_plain a → Pass is_plain b → Pass is_plain (a ++ b)
plain_append [] b h k = k
plain_append (c ∷ a) b h k = (h.0, plain_append a b h.1 k)

operator_plain : (o : Op) → Pass is_plain (spelling77_of o)
operator_plain Pow = (refl, (refl, tt))
operator_plain o = search rules

word_plain : (w : Word77) → Spelled77 w (spelling_of w) → Pass is_plain (spelling_of w)
word_plain (words.Number n) h = numeral_plain (digits_of n) h.0
word_plain words.Wide h = numeral_plain (decimal (2 ^ 127)) h.0
word_plain (words.Truth true) h = search rules
word_plain (words.Truth false) h = search rules
word_plain (words.Name x) h = name_plain x h.1
word_plain (words.Head x) h = plain_append x (codes "(") (name_plain x h.1) (refl, tt)
word_plain (words.Operator o) h = operator_plain o
word_plain (words.Constant t) h = tt
word_plain w h = (refl, tt)

plain_words : (ws : List Word77) → AreSpelled ws → Pass is_plain (flat_map spelling_of ws)
plain_words [] h = tt
plain_words (w ∷ ws) h = plain_append (spelling_of w) (flat_map spelling_of ws) (word_plain w h.0) (plain_words ws h.2)

plain_char : (c : ℕ) → IsTrue (is_plain c) → ((c == 32) ≡ false) × ((c == 39) ≡ false) × (upper c ≡ c)
plain_char c h = (grind (arith, nat_tests), grind (arith, nat_tests), grind (arith, nat_tests))

squeezed : (cs : List ℕ) → Pass is_plain cs → Squeezed cs (chars77 cs)
squeezed [] h = nothing
squeezed (c ∷ cs) h =
    let p = plain_char c h.0 in
    subst (λ (d : ℕ). Squeezed (c ∷ cs) (Char d ∷ chars77 cs)) p.2 (character c p.0 p.1 (squeezed cs h.1))

-- ---- What is printed of a tree spells an expression that has that tree.

pub spells : (e : Expression) → IsSource e → Spells (printed e) (phrase_of e)
spells e h =
    let ws = written77 (phrase_of e) in
    let s = source_spelled e h in
    record {
      symbols = chars77 (printed e);
      squeezed = squeezed (printed e) (plain_words ws s);
      words = subst (λ (q : List Symbol77). AreWords77 q ws) (sym (chars_spelled ws))
          (subst (λ (q : List Word77). AreWords77 (spelled ws []) q) (append-nil ws) (phrase_words (phrase_of e) [] [] s tt refl));
      good = good e h;
    }
