-- Words of the input, and what stands between them. List-directed input has more forms (ANSI X3.9-1978, section 13.6):
-- null values, repeats and the slash are none of those read here.
use Rattle.std.specs.Prelude.{◌≡◌, ◌↔◌, Ok, Err, ℕ, ◌≤◌, ◌==◌, Bool, true, false, List, [], ◌∷◌, ◌++◌, count_by}
use Rattle.std.specs.List.{AllByRecursion}
use Rattle.tree.specs.declared.ops.Fault.TheVariants.{InputEnd, InputForm}
use Rattle.meaning.specs.Texts.{is_separator, first_word, after_word, from_value}

abbrev pub commas_in : List ℕ → ℕ
commas_in text = count_by (λ c. c == 44) text

-- whether a comma may stand there
abbrev pub most_commas : Bool → ℕ
most_commas true = 1
most_commas false = 0

-- blanks, tabs, line ends and commas
abbrev pub AreSeparators : List ℕ → Type 0
AreSeparators text = AllByRecursion (λ c. is_separator c ≡ true) text

-- what may stand before a word: with at most one comma, or with none
pub record IsSeparation (comma : Bool) (text : List ℕ) : Type 0 where
  pub separators : AreSeparators text
  pub commas : commas_in text ≤ most_commas comma

-- at least one byte, and no separator
abbrev pub IsWord : List ℕ → Type 0
IsWord [] = ⊥
IsWord (c ∷ cs) = AllByRecursion (λ b. is_separator b ≡ false) (c ∷ cs)

-- a word begins here, or none goes on here
abbrev pub BeginsWord : List ℕ → Type 0
BeginsWord [] = ⊥
BeginsWord (c ∷ cs) = is_separator c ≡ false

abbrev pub EndsWord : List ℕ → Type 0
EndsWord [] = Unit {0}
EndsWord (c ∷ cs) = is_separator c ≡ true

-- ---- laws; `comma` says whether a comma may still come

-- exactly where a word stands behind such a separation, the input from that word on is found
abbrev pub NextWordIsSeparated : Type 0
NextWordIsSeparated = (comma : Bool) (text rest : List ℕ)
    → (from_value comma text ≡ Ok rest)
    ↔ ((before : List ℕ) × (text ≡ before ++ rest) × IsSeparation comma before × BeginsWord rest)

-- exactly where nothing else is left, the input has ended
abbrev pub InputEndsInSeparation : Type 0
InputEndsInSeparation = (comma : Bool) (text : List ℕ)
    → (from_value comma text ≡ Err InputEnd) ↔ IsSeparation comma text

-- exactly where a comma stands that none may, its form is a fault
abbrev pub SecondCommaIsFault : Type 0
SecondCommaIsFault = (comma : Bool) (text : List ℕ)
    → (from_value comma text ≡ Err InputForm)
    ↔ ((before more : List ℕ)
    × (text ≡ before ++ 44 ∷ more) × AreSeparators before × (commas_in before ≡ most_commas comma))

-- a word is all bytes up to the next separator, or to the end
abbrev pub WordIsWhole : Type 0
WordIsWhole = (word more : List ℕ) → IsWord word → EndsWord more
    → (first_word (word ++ more) ≡ word) × (after_word (word ++ more) ≡ more)
