-- The lines of a text that is made of lines.
use Rattle.std.proofs.Common.{◌≡◌, refl, ap, ◌∙◌, sym, ℕ, zero, suc, ◌-◌, ◌==◌, Bool, true, false, cond, List, [], ◌∷◌, ◌++◌, length, take, get_or, append_assoc, flat_map, slice_index}
use Rattle.std.specs.List.{AllByRecursion, onto_first, slice_split}
use Rattle.std.specs.Str.Lines.{lines, lines_of_parts, strip_carriage_return}
use Rattle.std.proofs.lemmas.Bool.{cond-false}
use Rattle.std.proofs.lemmas.List.Splits.{slice_split_at}
use Rattle.std.proofs.lemmas.List.Elements.{All-from_recursion}
use Rattle.f90_grammar.specs.PrintedText.{with_line_feed}

-- neither an LF nor a CR
abbrev pub IsInside : ℕ → Type 0
IsInside c = ((c == 10) ≡ false) × ((c == 13) ≡ false)

abbrev pub IsLine : List ℕ → Type 0
IsLine line = AllByRecursion IsInside line

abbrev parts : List ℕ → List (List ℕ)
parts text = slice_split (λ b. b == 10) text

parts_some : (text : List ℕ) → (t : List ℕ) × (ts : List (List ℕ)) × (parts text ≡ t ∷ ts)
parts_some [] = ([], [], refl)
parts_some (b ∷ bs) = by (b == 10) (parts_some bs)
  where
    by : (q : Bool) → ((t : List ℕ) × (ts : List (List ℕ)) × (parts bs ≡ t ∷ ts))
        → (t : List ℕ) × (ts : List (List ℕ)) × (cond q ([] ∷ parts bs) (onto_first b (parts bs)) ≡ t ∷ ts)
    by true r = ([], parts bs, refl)
    by false r = (b ∷ r.0, r.1, ap (onto_first b) r.2)

no_line_feed : (line : List ℕ) → IsLine line → AllByRecursion (λ b. (b == 10) ≡ false) line
no_line_feed [] h = tt
no_line_feed (c ∷ cs) h = (h.0.0, no_line_feed cs h.1)

no_return : (line : List ℕ) (k : ℕ) → IsLine line → (get_or line k 0 == 13) ≡ false
no_return [] k h = refl
no_return (c ∷ cs) zero h = h.0.1
no_return (c ∷ cs) (suc k) h = no_return cs k h.1

kept : (line : List ℕ) → IsLine line → strip_carriage_return line ≡ line
kept line h =
    cond-false (slice_index line (length line - 1) == 13) (take (length line - 1) line) line (no_return line (length line - 1) h)

first_line : (line rest : List ℕ) → IsLine line → lines (line ++ 10 ∷ rest) ≡ line ∷ lines rest
first_line line rest h =
    let r = parts_some rest in
    ap lines_of_parts (slice_split_at (λ b. b == 10) line 10 rest (All-from_recursion (λ b. (b == 10) ≡ false) line (no_line_feed line h)) refl)
    ∙ ap (λ ps. lines_of_parts (line ∷ ps)) r.2
    ∙ ap (λ l. l ∷ lines_of_parts (r.0 ∷ r.1)) (kept line h) ∙ ap (λ ps. line ∷ lines_of_parts ps) (sym r.2)

-- lines that are written one after another are the lines of the text
pub lines_again : (ls : List (List ℕ)) → AllByRecursion IsLine ls → lines (flat_map with_line_feed ls) ≡ ls
lines_again [] h = refl
lines_again (l ∷ ls) h =
    ap lines (append_assoc l (10 ∷ []) (flat_map with_line_feed ls)) ∙ first_line l (flat_map with_line_feed ls) h.0 ∙ ap (λ t. l ∷ t) (lines_again ls h.1)
