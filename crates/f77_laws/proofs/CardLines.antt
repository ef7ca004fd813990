-- The lines of a source that isn't refused: their columns hold characters from 32 to 126, and their numbers rise.
use Rattle.std.proofs.Common.{◌≡◌, ℕ, ◌+◌, ◌<◌, ◌≤◌, Bool, true, false, not, ◌&&◌, ◌||◌, cond, IsTrue, List, [], ◌∷◌, ◌++◌, length, drop, take, filter, refl, sym, subst, ◌∙◌, arith, flat_map}
use Rattle.std.specs.Prelude.{nat_lt}
use Rattle.std.specs.List.{AllByRecursion, list_any}
use Rattle.std.specs.Str.Lines.{lines}
use Rattle.std.proofs.lemmas.Bool.{ltb-false}
use Rattle.std.proofs.lemmas.List.{append_assoc, take-append-drop}
use Rattle.tree.specs.Causes.{refusal_at}
use Rattle.tree.specs.declared.refusals.Refusal.{Refusal}
use Rattle.f77_grammar.specs.Cards.{Line, HasCardCause, columns_of, is_bad_byte77, is_tab, is_comment, cause_of_line, numbered_lines, statement_field, statement_lines, statement_lines_from}
use Rattle.f77_grammar.specs.Cards.LineCause.{BadByte, Tab}
use Rattle.f77_grammar.specs.Cards.IsWrong.{HoldsBadByte, HoldsTab}
use Rattle.f77_grammar.specs.Cards.HasCardCause.{AtLine}
use Rattle.f77_laws.proofs.Lists.{left_false, right_false, all_right, all_both, all_weaker, none_any}
use Rattle.f77_laws.specs.SourceCards.{AreCardCharacters}

-- ---- characters

denied : (b : Bool) → (IsTrue b → ⊥) → b ≡ false
denied true h = absurd (h refl)
denied false h = refl

abbrev IsCardCharacter : ℕ → Type 0
IsCardCharacter c = (32 ≤ c) × (c ≤ 126)

character : (b : ℕ) → is_bad_byte77 b ≡ false → is_tab b ≡ false → IsCardCharacter b
unfolding is_bad_byte77
character b h e =
    let k : (nat_lt b 32 || nat_lt 126 b) ≡ false = subst (λ t. (not t && (nat_lt b 32 || nat_lt 126 b)) ≡ false) e h in
    (ltb-false b 32 (left_false (nat_lt b 32) (nat_lt 126 b) k), ltb-false 126 b (right_false (nat_lt b 32) (nat_lt 126 b) k))

characters : (cs : List ℕ) → AllByRecursion (λ c. is_bad_byte77 c ≡ false) cs → AllByRecursion (λ c. is_tab c ≡ false) cs → AreCardCharacters cs
characters [] h k = tt
characters (c ∷ cs) h k = (character c h.0 k.0, characters cs h.1 k.1)

abbrev pub HasCardColumns : Line → Type 0
HasCardColumns line = AreCardCharacters line.columns

column_characters : (text : List ℕ) (before ls : List Line) → statement_lines text ≡ before ++ ls → ((r : Refusal) → HasCardCause text r → ⊥) → AllByRecursion HasCardColumns ls
column_characters text before [] e none = tt
column_characters text before (l ∷ ls) e none = (
  characters l.columns
      (none_any is_bad_byte77 l.columns (denied (list_any is_bad_byte77 l.columns) (λ h. none (refusal_at (cause_of_line BadByte) l.number) (AtLine BadByte before l ls e (HoldsBadByte h)))))
      (none_any is_tab l.columns (denied (list_any is_tab l.columns) (λ h. none (refusal_at (cause_of_line Tab) l.number) (AtLine Tab before l ls e (HoldsTab h))))),
  column_characters text (before ++ l ∷ []) ls (e ∙ sym (append_assoc before (l ∷ []) ls)) none,
)

pub card_columns : (text : List ℕ) → ((r : Refusal) → HasCardCause text r → ⊥) → AllByRecursion HasCardColumns (statement_lines text)
card_columns text none = column_characters text [] (statement_lines text) refl none

-- columns 7 to 72 of lines
all_dropped : {A : Type 0} → (P : A → Type 0) (n : ℕ) (xs : List A) → AllByRecursion P xs → AllByRecursion P (drop n xs)
all_dropped P n xs h = all_right P (take n xs) (drop n xs) (subst (AllByRecursion P) (sym (take-append-drop n xs)) h)

pub fields : (ls : List Line) → AllByRecursion HasCardColumns ls → AreCardCharacters (flat_map statement_field ls)
fields [] h = tt
fields (l ∷ ls) h = all_both IsCardCharacter (statement_field l) (flat_map statement_field ls) (all_dropped IsCardCharacter 6 l.columns h.0) (fields ls h.1)

-- ---- numbers

-- each line stands behind those before it
abbrev pub AreRisingLines : List Line → Type 0
AreRisingLines [] = Unit {0}
AreRisingLines (x ∷ xs) = AllByRecursion (λ (y : Line). x.number < y.number) xs × AreRisingLines xs

pub rising_right : (ls ms : List Line) → AreRisingLines (ls ++ ms) → AreRisingLines ms
rising_right [] ms h = h
rising_right (l ∷ ls) ms h = rising_right ls ms h.1

-- from n on, and before n + count
abbrev pub IsNumbered : ℕ → ℕ → Line → Type 0
IsNumbered n count line = (n ≤ line.number) × (line.number < n + count)

pub record AreNumbered (n count : ℕ) (ls : List Line) : Type 0 where
  pub each : AllByRecursion (IsNumbered n count) ls
  pub rising : AreRisingLines ls

longer : (n : ℕ) (ls : List (List ℕ)) (line : List ℕ) (l : Line) → IsNumbered (n + 1) (length ls) l → IsNumbered n (length (line ∷ ls)) l
longer n ls line l h = let a = h.0 in let b = h.1 in (omega (arith, a), omega (arith, b))

kept_by : (b : Bool) (n : ℕ) (line : List ℕ) (ls : List (List ℕ)) (l : Line) (kept : List Line) → l.number ≡ n → AreNumbered (n + 1) (length ls) kept → AreNumbered n (length (line ∷ ls)) (cond b (l ∷ kept) kept)
kept_by true n line ls l kept e h = record {
  each = ((omega (arith, e), omega (arith, e)), all_weaker (IsNumbered (n + 1) (length ls)) (IsNumbered n (length (line ∷ ls))) (longer n ls line) kept h.each);
  rising = (all_weaker (IsNumbered (n + 1) (length ls)) (λ (y : Line). l.number < y.number) (λ y k. let a = k.0 in omega (arith, a, e)) kept h.each, h.rising);
}
kept_by false n line ls l kept e h = record {
  each = all_weaker (IsNumbered (n + 1) (length ls)) (IsNumbered n (length (line ∷ ls))) (longer n ls line) kept h.each;
  rising = h.rising;
}

kept_numbered : (test : Line → Bool) (n : ℕ) (ls : List (List ℕ)) → AreNumbered n (length ls) (filter test (numbered_lines n ls))
kept_numbered test n [] = record { each = tt; rising = tt }
kept_numbered test n (line ∷ ls) =
    let l : Line = record { number = n; columns = columns_of line } in
    kept_by (test l) n line ls l (filter test (numbered_lines (n + 1) ls)) refl (kept_numbered test (n + 1) ls)

pub lines_numbered : (text : List ℕ) → AreNumbered 1 (length (lines text)) (statement_lines text)
unfolding statement_lines_from
lines_numbered text = kept_numbered (λ line. not (is_comment line.columns)) 1 (lines text)
