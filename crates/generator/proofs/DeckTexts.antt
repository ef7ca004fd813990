-- The text of a deck: one nest more, and its length.
use Rattle.std.proofs.Common.{◌≡◌, ◌<◌, ◌≤◌, ℕ, zero, suc, ◌+◌, ◌*◌, ◌^◌, Bool, true, false, cond, List, [], ◌∷◌, ◌++◌, length, codes, refl, ap, ◌∙◌, arith, add-one, length-append}
use Rattle.std.specs.Prelude.{decimal, nat_lt, ◌==◌}
use Rattle.std.proofs.lemmas.Fmt.{length-decimal-le, decimal_digit, decimal_step}
use Rattle.generator.specs.declared.draws.DrawnStatement.{DrawnStatement}
use Rattle.generator.specs.Draws.{state_after, drawn}
use Rattle.generator.specs.Statements.{drawn_array_name, reference_text, statement_text, drawn_statement}
use Rattle.generator.specs.Decks.{blanks_before, nest_text, nest_at, nests_of, deck_of}

pub more_nests : (n q : ℕ) → nests_of n (q + 1) ≡ nests_of n q ++ nest_at (11 + q) (state_after (10 * q) n)
unfolding nests_of
more_nests n q = ap (nests_of n) (add-one q)

-- all nests stand there, and then the end of the deck
pub whole_deck : (n q : ℕ) (text whole : List ℕ) → q ≡ n → text ≡ codes "      INTEGER A(200), B(200), C(200)\n" ++ nests_of n q
    → whole ≡ text ++ codes "      PRINT *, A(100), B(100), C(100)\n      END\n" → whole ≡ deck_of n
unfolding deck_of
whole_deck n q text whole last so_far end =
    end ∙ ap (λ (t : List ℕ). t ++ codes "      PRINT *, A(100), B(100), C(100)\n      END\n")
    (so_far ∙ ap (λ (k : ℕ). codes "      INTEGER A(200), B(200), C(200)\n" ++ nests_of n k) last)

-- ---- numbers of two digits and of one

pub eleven : decimal 11 ≡ codes "11"
eleven = decimal_step 11 (omega arith) (omega arith) ∙ ap (λ (t : List ℕ). t ++ 49 ∷ []) (decimal_digit 1 (omega arith))

pub twelve : decimal 12 ≡ codes "12"
twelve = decimal_step 12 (omega arith) (omega arith) ∙ ap (λ (t : List ℕ). t ++ 50 ∷ []) (decimal_digit 1 (omega arith))

pub zero_digit : decimal 0 ≡ codes "0"
zero_digit = decimal_digit 0 (omega arith)

pub one_digit : decimal 1 ≡ codes "1"
one_digit = decimal_digit 1 (omega arith)

pub two_digit : decimal 2 ≡ codes "2"
two_digit = decimal_digit 2 (omega arith)

pub three_digit : decimal 3 ≡ codes "3"
three_digit = decimal_digit 3 (omega arith)

pub four_digit : decimal 4 ≡ codes "4"
four_digit = decimal_digit 4 (omega arith)

pub five_digit : decimal 5 ≡ codes "5"
five_digit = decimal_digit 5 (omega arith)

pub six_digit : decimal 6 ≡ codes "6"
six_digit = decimal_digit 6 (omega arith)

pub seven_digit : decimal 7 ≡ codes "7"
seven_digit = decimal_digit 7 (omega arith)

-- ---- lengths

three : (a b c : List ℕ) → length (a ++ b ++ c) ≡ length a + length b + length c
three a b c = simp length-append

four : (a b c d : List ℕ) → length (a ++ b ++ c ++ d) ≡ length a + length b + length c + length d
four a b c d = simp length-append

eight : (a b c d e f g h : List ℕ) → length (a ++ b ++ c ++ d ++ e ++ f ++ g ++ h) ≡ length a + length b + length c + length d + length e + length f + length g + length h
eight a b c d e f g h = simp length-append

seven : (a b c d e f g : List ℕ) → length (a ++ b ++ c ++ d ++ e ++ f ++ g) ≡ length a + length b + length c + length d + length e + length f + length g
seven a b c d e f g = simp length-append

short_number : (n : ℕ) → n < 2 ^ 64 → length (decimal n) ≤ 20
short_number n h = length-decimal-le 20 n (omega arith) (omega (arith, h)) h

one_letter : (n : ℕ) → length (drawn_array_name n) ≡ 1
one_letter n = by (n == 0) (n == 1)
  where
    by : (a b : Bool) → length (cond a (codes "A") (cond b (codes "B") (codes "C"))) ≡ 1
    by true b = refl
    by false true = refl
    by false false = refl

short_reference : (array shift : ℕ) → shift < 2 ^ 64 → length (reference_text array shift) ≤ 25
unfolding reference_text
short_reference array shift h =
    omega (arith, four (drawn_array_name array) (codes "(I+") (decimal shift) (codes ")"), one_letter array, short_number shift h)

short_statement : (s : DrawnStatement) → s.to_shift < 2 ^ 64 → s.from_shift < 2 ^ 64 → s.added < 2 ^ 64 → length (statement_text s) ≤ 90
unfolding statement_text
short_statement s h i j =
    omega (
      arith,
      seven (codes "      ") (reference_text s.to s.to_shift) (codes " = ") (reference_text s.from s.from_shift) (codes " + ") (decimal s.added) (codes "\n"),
      short_reference s.to s.to_shift h,
      short_reference s.from s.from_shift i,
      short_number s.added j,
    )

few : (x m : ℕ) → 0 < m → m ≤ 10 → drawn x m < 2 ^ 64
few x m h i = omega arith

short_statement_at : (x : ℕ) → length (statement_text (drawn_statement x)) ≤ 90
short_statement_at x = short_statement (drawn_statement x) (few (state_after 2 x) 5 (omega arith) (omega arith)) (few (state_after 4 x) 5 (omega arith) (omega arith)) (few (state_after 5 x) 10 (omega arith) (omega arith))

short_blanks : (label : ℕ) → length (blanks_before label) ≤ 3
short_blanks label = by (nat_lt label 100)
  where
    by : (b : Bool) → length (cond b (codes "   ") (codes "  ")) ≤ 3
    by true = omega arith
    by false = omega arith

short_nest : (label x : ℕ) → label < 2 ^ 64 → length (nest_at label x) ≤ 300
unfolding nest_text nest_at
short_nest label x h =
    omega (
      arith,
      eight (codes "      DO ") (decimal label) (codes " I = 1, 100\n") (statement_text (drawn_statement x)) (statement_text (drawn_statement (state_after 5 x))) (blanks_before label) (decimal label) (codes " CONTINUE\n"),
      short_number label h,
      short_statement_at x,
      short_statement_at (state_after 5 x),
      short_blanks label,
    )

short_nests : (n q : ℕ) → q ≤ 500 → length (nests_of n q) ≤ 300 * q
unfolding nests_of
short_nests n zero h = omega arith
short_nests n (suc q) h =
    omega (arith, length-append (nests_of n q) (nest_at (11 + q) (state_after (10 * q) n)), short_nests n q (omega arith), short_nest (11 + q) (state_after (10 * q) n) (omega arith))

pub short_deck : (n : ℕ) → n ≤ 500 → length (deck_of n) < 2 ^ 24
unfolding deck_of
short_deck n h =
    omega (
      arith,
      three (codes "      INTEGER A(200), B(200), C(200)\n") (nests_of n n) (codes "      PRINT *, A(100), B(100), C(100)\n      END\n"),
      short_nests n n h,
    )
