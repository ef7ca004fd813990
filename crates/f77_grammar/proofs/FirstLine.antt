-- The first line of a text, and the lines after it.
use Rattle.std.proofs.Common.{arith, ◌≡◌, ℕ, ◌+◌, ◌-◌, ◌<◌, ◌≤◌, List, [], ◌∷◌, ◌++◌, length, get_or, take, Bool, true, false, cond, refl, ap, sym, ◌∙◌, length-append}
use Rattle.std.specs.Prelude.{◌==◌, All}
use Rattle.std.specs.List.{onto_first, slice_split}
use Rattle.std.specs.Str.Lines.{lines, lines_of_parts, strip_carriage_return}
use Rattle.std.proofs.lemmas.Bool.{cond-true, cond-false, ne_eqb, eq-eqb}
use Rattle.std.proofs.lemmas.List.{get_or_at, take_at}
use Rattle.std.proofs.lemmas.List.Splits.{slice_split_none, slice_split_at}

abbrev pub is_feed : ℕ → Bool
is_feed b = b == 10

abbrev pub LacksFeed : List ℕ → Type 0
LacksFeed text = All (λ b. is_feed b ≡ false) text

-- ---- the parts between the LFs

-- there is always one
record HasParts (parts : List (List ℕ)) : Type 0 where
  first : List ℕ
  more : List (List ℕ)
  is : parts ≡ first ∷ more

has_parts_by : (b : Bool) (x : ℕ) (parts : List (List ℕ)) → HasParts parts → HasParts (cond b ([] ∷ parts) (onto_first x parts))
has_parts_by true x parts h = record { first = []; more = parts; is = refl }
has_parts_by false x parts h = record { first = x ∷ h.first; more = h.more; is = ap (onto_first x) h.is }

has_parts : (text : List ℕ) → HasParts (slice_split is_feed text)
has_parts [] = record { first = []; more = []; is = refl }
has_parts (x ∷ text) = has_parts_by (is_feed x) x (slice_split is_feed text) (has_parts text)

lines_of_parts-more : (front : List ℕ) (parts : List (List ℕ)) → HasParts parts → lines_of_parts (front ∷ parts) ≡ strip_carriage_return front ∷ lines_of_parts parts
lines_of_parts-more front parts h =
    ap (λ ps. lines_of_parts (front ∷ ps)) h.is ∙ ap (λ ps. strip_carriage_return front ∷ lines_of_parts ps) (sym h.is)

-- ---- the first line

pub lines-last : (text : List ℕ) → 0 < length text → LacksFeed text → lines text ≡ text ∷ []
lines-last text h k =
    ap lines_of_parts (slice_split_none is_feed text k) ∙ cond-false (length text == 0) [] (text ∷ []) (ne_eqb (length text) 0 (λ e. omega (arith, h, e)))

pub lines-feed : (a rest : List ℕ) → LacksFeed a → lines (a ++ 10 ∷ rest) ≡ strip_carriage_return a ∷ lines rest
lines-feed a rest h = ap lines_of_parts (slice_split_at is_feed a 10 rest h refl) ∙ lines_of_parts-more a (slice_split is_feed rest) (has_parts rest)

pub lines-none : lines [] ≡ []
lines-none = refl

-- ---- a CR at the end

last_byte : (line front : List ℕ) (last : ℕ) → line ≡ front ++ last ∷ [] → get_or line (length line - 1) 0 ≡ last
last_byte line front last e =
    let n : length line - 1 ≡ length front = omega (arith, ap length e, length-append front (last ∷ [])) in
    ap (λ l. get_or l (length line - 1) 0) e ∙ get_or_at front last [] 0 (length line - 1) (sym n)

pub strip-return : (line front : List ℕ) (last : ℕ) → line ≡ front ++ last ∷ [] → last ≡ 13 → strip_carriage_return line ≡ front
strip-return line front last e r =
    let n : length line - 1 ≡ length front = omega (arith, ap length e, length-append front (last ∷ [])) in
    cond-true (get_or line (length line - 1) 0 == 13) (take (length line - 1) line) line (eq-eqb (get_or line (length line - 1) 0) 13 (last_byte line front last e ∙ r))
    ∙ ap (take (length line - 1)) e ∙ take_at front (last ∷ []) (length line - 1) (sym n)

pub strip-other : (line front : List ℕ) (last : ℕ) → line ≡ front ++ last ∷ [] → (last ≡ 13 → ⊥) → strip_carriage_return line ≡ line
strip-other line front last e r =
    cond-false (get_or line (length line - 1) 0 == 13) (take (length line - 1) line) line
    (ne_eqb (get_or line (length line - 1) 0) 13 (λ f. r (sym (last_byte line front last e) ∙ f)))

-- ---- there are no more lines than bytes

cond-length : (b : Bool) (line : List ℕ) → length (cond b [] (line ∷ [])) ≤ 1
cond-length true line = omega arith
cond-length false line = omega arith

parts-onto : (x : ℕ) (parts : List (List ℕ)) → length (lines_of_parts (onto_first x parts)) ≤ length (lines_of_parts parts) + 1
parts-onto x [] = cond-length (length (x ∷ []) == 0) (x ∷ [])
parts-onto x (p ∷ []) = omega (arith, cond-length (length (x ∷ p) == 0) (x ∷ p))
parts-onto x (p ∷ q ∷ more) = omega arith

parts-le_by : (b : Bool) (x : ℕ) (parts : List (List ℕ)) (n : ℕ) → HasParts parts → length (lines_of_parts parts) ≤ n → length (lines_of_parts (cond b ([] ∷ parts) (onto_first x parts))) ≤ n + 1
parts-le_by true x parts n h k = omega (arith, ap length (lines_of_parts-more [] parts h), k)
parts-le_by false x parts n h k = omega (arith, parts-onto x parts, k)

pub lines-le : (text : List ℕ) → length (lines text) ≤ length text
lines-le [] = omega arith
lines-le (x ∷ text) = omega (arith, parts-le_by (is_feed x) x (slice_split is_feed text) (length text) (has_parts text) (lines-le text))
