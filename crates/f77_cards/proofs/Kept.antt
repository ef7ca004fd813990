-- The lines of a text that are no comment lines, by its first line.
use Rattle.std.proofs.Common.{arith, ◌≡◌, ℕ, suc, ◌+◌, ◌≤◌, List, [], ◌∷◌, length, Bool, true, false, cond, refl, ap, sym, ◌∙◌}
use Rattle.std.specs.Prelude.{not, filter}
use Rattle.std.proofs.lemmas.Bool.{cond-true, cond-false, not_from_true, not_from_false}
use Rattle.std.specs.Str.Lines.{lines}
use Rattle.f77_grammar.specs.Cards.{Line, columns_of, is_comment, numbered_lines, statement_lines_from}
use Rattle.f77_grammar.proofs.FirstLine.{lines-none, lines-le}

abbrev is_kept : Line → Bool
is_kept line = not (is_comment line.columns)

pub lines_from-comment : (n : ℕ) (text line rest columns : List ℕ) → lines text ≡ line ∷ lines rest → columns ≡ columns_of line → is_comment columns ≡ true
    → statement_lines_from n text ≡ statement_lines_from (n + 1) rest
unfolding statement_lines_from
lines_from-comment n text line rest columns e s c =
    ap (λ ls. filter is_kept (numbered_lines n ls)) e ∙ cond-false (is_kept (record { number = n; columns = columns_of line })) _ _ (not_from_true (is_comment (columns_of line)) (ap is_comment (sym s) ∙ c))

pub lines_from-kept : (n : ℕ) (text line rest columns : List ℕ) → lines text ≡ line ∷ lines rest → columns ≡ columns_of line → is_comment columns ≡ false
    → statement_lines_from n text ≡ record { number = n; columns = columns } ∷ statement_lines_from (n + 1) rest
unfolding statement_lines_from
lines_from-kept n text line rest columns e s c =
    ap (λ ls. filter is_kept (numbered_lines n ls)) e ∙ cond-true (is_kept (record { number = n; columns = columns_of line })) _ _ (not_from_false (is_comment (columns_of line)) (ap is_comment (sym s) ∙ c))
    ∙ ap (λ cs. record { number = n; columns = cs } ∷ filter is_kept (numbered_lines (n + 1) (lines rest))) (sym s)

pub lines_from-none : (n : ℕ) (text : List ℕ) → text ≡ [] → statement_lines_from n text ≡ []
unfolding statement_lines_from
lines_from-none n text e = ap (λ ls. filter is_kept (numbered_lines n ls)) (ap lines e ∙ lines-none)

-- ---- there are no more lines than bytes

numbered_lines-length : (n : ℕ) (lines : List (List ℕ)) → length (numbered_lines n lines) ≡ length lines
numbered_lines-length n [] = refl
numbered_lines-length n (l ∷ lines) = ap suc (numbered_lines-length (n + 1) lines)

filter-le_by : (b : Bool) (l : Line) (kept : List Line) (n : ℕ) → length kept ≤ n → length (cond b (l ∷ kept) kept) ≤ n + 1
filter-le_by true l kept n h = omega (arith, h)
filter-le_by false l kept n h = omega (arith, h)

filter-le : (p : Line → Bool) (ls : List Line) → length (filter p ls) ≤ length ls
filter-le p [] = omega arith
filter-le p (l ∷ ls) = omega (arith, filter-le_by (p l) l (filter p ls) (length ls) (filter-le p ls))

pub statement_lines-le : (n : ℕ) (text : List ℕ) → length (statement_lines_from n text) ≤ length text
unfolding statement_lines_from
statement_lines-le n text = omega (arith, filter-le is_kept (numbered_lines n (lines text)), numbered_lines-length n (lines text), lines-le text)
