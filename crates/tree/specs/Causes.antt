-- Why a source is refused: each cause has a number, a word where it has several parts, and a name.
use Rattle.std.specs.Prelude.{◌≡◌, ℕ, ◌==◌, ◌&&◌, ◌≤◌, ◌⊎◌, Bool, Option, None, Some, find, List, [], ◌∷◌, codes}
use Rattle.tree.specs.declared.refusals.Refusal.{Refusal}
use Rattle.tree.specs.declared.refusals.Cause.{Cause}
use Rattle.tree.specs.declared.refusals.Cause.TheVariants.{TooLong, BadByte, Tab, LineForm, ManyLines, Syntax}
use Rattle.tree.specs.declared.refusals.Cause.TheVariants.{OutOfProfile, WideLiteral, Deep, Label, Nesting, NoEnd}
use Rattle.tree.specs.declared.refusals.Cause.TheVariants.{Declared, RealName, TypeClash, Jump, DoVariable}
use Rattle.tree.specs.declared.refusals.Cause.TheVariants.{ManyNames, ManyBlocks, ReversedBounds, ManyElements}
use Rattle.tree.specs.declared.refusals.Cause.TheVariants.{BadConstant, Untyped}
use Rattle.tree.specs.declared.refusals.Cause.TheVariants.{BadByte90, LongLine, Continuation, Syntax90, WideLiteral90}
use Rattle.tree.specs.declared.refusals.Cause.TheVariants.{Deep90, Structure, Declared90, TypeClash90, Limit90}

abbrev pub number_of_cause : Cause → ℕ
number_of_cause TooLong = 1
number_of_cause BadByte = 2
number_of_cause Tab = 3
number_of_cause LineForm = 4
number_of_cause ManyLines = 5
number_of_cause Syntax = 6
number_of_cause (OutOfProfile word) = 7
number_of_cause WideLiteral = 8
number_of_cause Deep = 9
number_of_cause Label = 10
number_of_cause Nesting = 11
number_of_cause NoEnd = 12
number_of_cause Declared = 13
number_of_cause RealName = 14
number_of_cause TypeClash = 15
number_of_cause Jump = 16
number_of_cause DoVariable = 17
number_of_cause ManyNames = 18
number_of_cause ManyBlocks = 18
number_of_cause ReversedBounds = 18
number_of_cause ManyElements = 18
number_of_cause BadConstant = 18
number_of_cause Untyped = 19
number_of_cause BadByte90 = 31
number_of_cause LongLine = 32
number_of_cause Continuation = 33
number_of_cause Syntax90 = 34
number_of_cause WideLiteral90 = 35
number_of_cause Deep90 = 36
number_of_cause Structure = 37
number_of_cause Declared90 = 38
number_of_cause TypeClash90 = 39
number_of_cause Limit90 = 40

-- what is left out of the profile has a word, and so has each limit; 0 stands for none
abbrev pub word_of_cause : Cause → ℕ
word_of_cause (OutOfProfile word) = word
word_of_cause ManyNames = 41
word_of_cause ManyBlocks = 42
word_of_cause ReversedBounds = 43
word_of_cause ManyElements = 44
word_of_cause BadConstant = 45
word_of_cause _ = 0

abbrev pub name_of_cause : Cause → List ℕ
name_of_cause TooLong = codes "TooLong"
name_of_cause BadByte = codes "BadByte"
name_of_cause Tab = codes "Tab"
name_of_cause LineForm = codes "LineForm"
name_of_cause ManyLines = codes "ManyLines"
name_of_cause Syntax = codes "Syntax"
name_of_cause (OutOfProfile word) = codes "OutOfProfile"
name_of_cause WideLiteral = codes "WideLiteral"
name_of_cause Deep = codes "Deep"
name_of_cause Label = codes "Label"
name_of_cause Nesting = codes "Nesting"
name_of_cause NoEnd = codes "NoEnd"
name_of_cause Declared = codes "Declared"
name_of_cause RealName = codes "RealName"
name_of_cause TypeClash = codes "TypeClash"
name_of_cause Jump = codes "Jump"
name_of_cause DoVariable = codes "DoVariable"
name_of_cause ManyNames = codes "Limit"
name_of_cause ManyBlocks = codes "Limit"
name_of_cause ReversedBounds = codes "Limit"
name_of_cause ManyElements = codes "Limit"
name_of_cause BadConstant = codes "Limit"
name_of_cause Untyped = codes "Untyped"
name_of_cause BadByte90 = codes "BadByte"
name_of_cause LongLine = codes "LongLine"
name_of_cause Continuation = codes "Continuation"
name_of_cause Syntax90 = codes "Syntax"
name_of_cause WideLiteral90 = codes "WideLiteral"
name_of_cause Deep90 = codes "Deep"
name_of_cause Structure = codes "Structure"
name_of_cause Declared90 = codes "Declared"
name_of_cause TypeClash90 = codes "TypeClash"
name_of_cause Limit90 = codes "Limit"

-- the name of the limit that is passed
abbrev pub limit_of_cause : Cause → List ℕ
limit_of_cause ManyNames = codes "NAMES"
limit_of_cause ManyBlocks = codes "BLOCKS"
limit_of_cause ReversedBounds = codes "BOUNDS"
limit_of_cause ManyElements = codes "ARRAYS"
limit_of_cause BadConstant = codes "CONSTANT"
limit_of_cause _ = []

-- the refusal of a source for the cause, at this line
abbrev pub refusal_at : Cause → ℕ → Refusal
refusal_at cause line = record { number = number_of_cause cause; line = line; word = word_of_cause cause }

-- the refusal has the number and the word of the cause
pub record IsForCause (r : Refusal) (cause : Cause) : Type 0 where
  pub number : number_of_cause cause ≡ r.number
  pub word : word_of_cause cause ≡ r.word

-- FORTRAN 77 has the numbers 1 to 19, and Fortran 90 those from 31 to 40
abbrev pub IsRefusalNumber : ℕ → Type 0
IsRefusalNumber n = ((1 ≤ n) × (n ≤ 19)) ⊎ ((31 ≤ n) × (n ≤ 40))

-- ---- names of refusals by their numbers

-- each cause once, of those that are left out of the profile one
abbrev pub all_causes : List Cause
all_causes =
    TooLong ∷ BadByte ∷ Tab ∷ LineForm ∷ ManyLines ∷ Syntax ∷ OutOfProfile 0 ∷ WideLiteral ∷ Deep ∷ Label ∷ Nesting
    ∷ NoEnd ∷ Declared ∷ RealName ∷ TypeClash ∷ Jump ∷ DoVariable
    ∷ ManyNames ∷ ManyBlocks ∷ ReversedBounds ∷ ManyElements ∷ BadConstant ∷ Untyped
    ∷ BadByte90 ∷ LongLine ∷ Continuation ∷ Syntax90 ∷ WideLiteral90 ∷ Deep90 ∷ Structure ∷ Declared90 ∷ TypeClash90
    ∷ Limit90 ∷ []

abbrev pub cause_text_of : (Cause → List ℕ) → Option Cause → List ℕ
cause_text_of text None = []
cause_text_of text (Some cause) = text cause

abbrev pub has_number : ℕ → Cause → Bool
has_number number cause = number_of_cause cause == number

abbrev pub has_code : ℕ → ℕ → Cause → Bool
has_code number word cause = number_of_cause cause == number && word_of_cause cause == word

-- the name of a refusal; no cause has another number, and such a number has no name
abbrev pub refusal_name : ℕ → List ℕ
refusal_name number = cause_text_of name_of_cause (find (has_number number) all_causes)

-- the limit of a refusal by its number and word, empty where it has none
abbrev pub refusal_limit : ℕ → ℕ → List ℕ
refusal_limit number word = cause_text_of limit_of_cause (find (has_code number word) all_causes)
