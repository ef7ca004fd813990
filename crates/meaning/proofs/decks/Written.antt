-- A Fortran 90 deck that is written line by line: its source and its input.
use Rattle.std.proofs.Common.{◌≡◌, ℕ, List, [], ◌∷◌, ◌++◌, map, refl, ap, sym, ◌∙◌, Bool, true, false, arith, append-nil, append_assoc}
use Rattle.std.specs.Prelude.{flat_map}
use Rattle.std.specs.List.{AllByRecursion}
use Rattle.std.proofs.lemmas.Bool.{cond-true, cond-false}
use Rattle.meaning.specs.Deck.{whole_lines, is_line, text_of_lines, lines_before, lines_after, has_line, source_of, input_of, has_data, data_line90}
use Rattle.meaning.proofs.decks.Parts.{joined_lines}
use Rattle.meaning.proofs.decks.WholeLines.{Lacks, with_line_feed, whole_first}

-- a line of the source: it has no line feed, and isn't the one between source and input
pub record IsSourceLine (line : List ℕ) : Type 0 where
  pub lacks : Lacks 10 line
  pub other : is_line data_line90 (with_line_feed line) ≡ false

text_of_lines-append : (xs ys : List (List ℕ)) → text_of_lines (xs ++ ys) ≡ text_of_lines xs ++ text_of_lines ys
text_of_lines-append [] ys = refl
text_of_lines-append (x ∷ xs) ys = ap (λ t. x ++ t) (text_of_lines-append xs ys) ∙ sym (append_assoc x (text_of_lines xs) (text_of_lines ys))

text_of_lines-fed : (ls : List (List ℕ)) → text_of_lines (map with_line_feed ls) ≡ flat_map with_line_feed ls
text_of_lines-fed [] = refl
text_of_lines-fed (l ∷ ls) = ap (λ t. with_line_feed l ++ t) (text_of_lines-fed ls)

whole_behind : (ls : List (List ℕ)) (rest : List ℕ) → AllByRecursion IsSourceLine ls
    → whole_lines (flat_map with_line_feed ls ++ rest) ≡ map with_line_feed ls ++ whole_lines rest
whole_behind [] rest h = refl
whole_behind (l ∷ ls) rest h =
    ap whole_lines (append_assoc (with_line_feed l) (flat_map with_line_feed ls) rest ∙ append_assoc l (10 ∷ []) (flat_map with_line_feed ls ++ rest))
    ∙ whole_first l (flat_map with_line_feed ls ++ rest) h.0.lacks ∙ ap (λ ws. with_line_feed l ∷ ws) (whole_behind ls rest h.1)

before_behind : (ls ws : List (List ℕ)) → AllByRecursion IsSourceLine ls
    → lines_before data_line90 (map with_line_feed ls ++ ws) ≡ map with_line_feed ls ++ lines_before data_line90 ws
before_behind [] ws h = refl
before_behind (l ∷ ls) ws h =
    cond-false (is_line data_line90 (with_line_feed l)) [] (with_line_feed l ∷ lines_before data_line90 (map with_line_feed ls ++ ws)) h.0.other
    ∙ ap (λ t. with_line_feed l ∷ t) (before_behind ls ws h.1)

after_behind : (ls ws : List (List ℕ)) → AllByRecursion IsSourceLine ls → lines_after data_line90 (map with_line_feed ls ++ ws) ≡ lines_after data_line90 ws
after_behind [] ws h = refl
after_behind (l ∷ ls) ws h =
    cond-false (is_line data_line90 (with_line_feed l)) (map with_line_feed ls ++ ws) (lines_after data_line90 (map with_line_feed ls ++ ws)) h.0.other
    ∙ after_behind ls ws h.1

source_of-lines : (ls : List (List ℕ)) (rest : List ℕ) → AllByRecursion IsSourceLine ls
    → source_of data_line90 (flat_map with_line_feed ls ++ rest) ≡ flat_map with_line_feed ls ++ source_of data_line90 rest
source_of-lines ls rest h =
    ap (λ ws. text_of_lines (lines_before data_line90 ws)) (whole_behind ls rest h) ∙ ap text_of_lines (before_behind ls (whole_lines rest) h)
    ∙ text_of_lines-append (map with_line_feed ls) (lines_before data_line90 (whole_lines rest)) ∙ ap (λ t. t ++ source_of data_line90 rest) (text_of_lines-fed ls)

input_of-lines : (ls : List (List ℕ)) (rest : List ℕ) → AllByRecursion IsSourceLine ls
    → input_of data_line90 (flat_map with_line_feed ls ++ rest) ≡ input_of data_line90 rest
input_of-lines ls rest h = ap (λ ws. text_of_lines (lines_after data_line90 ws)) (whole_behind ls rest h) ∙ ap text_of_lines (after_behind ls (whole_lines rest) h)

data_lacks : Lacks 10 data_line90
data_lacks = (λ e. omega (arith, e), (λ e. omega (arith, e), (λ e. omega (arith, e), (λ e. omega (arith, e), (λ e. omega (arith, e), tt)))))

data_first : (input : List ℕ) → whole_lines (data_line90 ++ 10 ∷ input) ≡ with_line_feed data_line90 ∷ whole_lines input
data_first input = whole_first data_line90 input data_lacks

-- ---- with a data line behind the lines, or with none

pub source_alone : (ls : List (List ℕ)) → AllByRecursion IsSourceLine ls → source_of data_line90 (flat_map with_line_feed ls ++ []) ≡ flat_map with_line_feed ls
source_alone ls h = source_of-lines ls [] h ∙ append-nil (flat_map with_line_feed ls)

pub input_alone : (ls : List (List ℕ)) → AllByRecursion IsSourceLine ls → input_of data_line90 (flat_map with_line_feed ls ++ []) ≡ []
input_alone ls h = input_of-lines ls [] h

pub source_before_data : (ls : List (List ℕ)) (input : List ℕ) → AllByRecursion IsSourceLine ls
    → source_of data_line90 (flat_map with_line_feed ls ++ (data_line90 ++ 10 ∷ input)) ≡ flat_map with_line_feed ls
source_before_data ls input h =
    source_of-lines ls (data_line90 ++ 10 ∷ input) h
    ∙ ap (λ ws. flat_map with_line_feed ls ++ text_of_lines (lines_before data_line90 ws)) (data_first input) ∙ append-nil (flat_map with_line_feed ls)

pub input_after_data : (ls : List (List ℕ)) (input : List ℕ) → AllByRecursion IsSourceLine ls
    → input_of data_line90 (flat_map with_line_feed ls ++ (data_line90 ++ 10 ∷ input)) ≡ input
input_after_data ls input h =
    input_of-lines ls (data_line90 ++ 10 ∷ input) h ∙ ap (λ ws. text_of_lines (lines_after data_line90 ws)) (data_first input) ∙ joined_lines input

-- ---- a deck without a data line has no input

none_after : (mark : List ℕ) (ws : List (List ℕ)) → has_line mark ws ≡ false → lines_after mark ws ≡ []
none_after mark [] e = refl
none_after mark (w ∷ ws) e = by (is_line mark w) refl e (none_after mark ws)
  where
    by : (b : Bool) → is_line mark w ≡ b → has_line mark (w ∷ ws) ≡ false → (has_line mark ws ≡ false → lines_after mark ws ≡ []) → lines_after mark (w ∷ ws) ≡ []
    by true q f more = absurd (let g : true ≡ false = sym (cond-true (is_line mark w) true (has_line mark ws) q) ∙ f in cc)
    by false q f more =
        cond-false (is_line mark w) ws (lines_after mark ws) q
        ∙ more (sym (cond-false (is_line mark w) true (has_line mark ws) q) ∙ f)

pub no_input : (mark deck : List ℕ) → has_data mark deck ≡ false → input_of mark deck ≡ []
no_input mark deck e = ap text_of_lines (none_after mark (whole_lines deck) e)
