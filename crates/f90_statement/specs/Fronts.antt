-- The words in front of a statement.
use Rattle.std.specs.Prelude.{ℕ, ◌≡◌, ◌++◌, Bool, Option, Some, None, List, [], ◌∷◌, codes}
use Rattle.std.specs.Borrow.{Bor}
use Rattle.tree.specs.declared.ops.Kind.{Kind}
use Rattle.tree.specs.declared.ops.Op.TheVariants.{Mul}
use Rattle.f90_grammar.specs.Forms.{Either, EitherHead, IsTransfer, IsLabel90, attribute}
use Rattle.reading.specs.Characters.{keyword_of}
use Rattle.f90_grammar.specs.Phrases.{value_of_digits}
use Rattle.f90_grammar.specs.Words as words
use Rattle.f90_grammar.specs.Words.{Word90}
use Rattle.f90_expressions.specs.words.Tokens.{words_of}
use Rattle.f90_expressions.specs.declared.words.tokens.Token.{Token}

-- what follows two words, or the one that they make
abbrev pub AfterEither : List ℕ → List ℕ → Option (Bor (List Token)) → List Word90 → Type 0
AfterEither a b (Some r) ws = Either a b (words_of r.now) ws
AfterEither a b None ws = (rest : List Word90) → Either a b rest ws → ⊥

-- the same with a parenthesis behind them
abbrev pub AfterEitherHead : List ℕ → List ℕ → Option (Bor (List Token)) → List Word90 → Type 0
AfterEitherHead a b (Some r) ws = EitherHead a b (words_of r.now) ws
AfterEitherHead a b None ws = (rest : List Word90) → EitherHead a b rest ws → ⊥

-- what follows a keyword and an asterisk
abbrev pub AfterFormat : List ℕ → Option (Bor (List Token)) → List Word90 → Type 0
AfterFormat x (Some r) ws = ws ≡ words.Name x ∷ (words.Operator Mul ∷ words_of r.now)
AfterFormat x None ws = (rest : List Word90) → ws ≡ words.Name x ∷ (words.Operator Mul ∷ rest) → ⊥

-- what follows a keyword and two asterisks in parentheses
abbrev pub behind_unit : List ℕ → List Word90 → List Word90
behind_unit x rest =
    words.Head x ∷ (words.Operator Mul ∷ (words.Comma ∷ (words.Operator Mul ∷ (words.Close ∷ rest))))

abbrev pub AfterUnit : List ℕ → Option (Bor (List Token)) → List Word90 → Type 0
AfterUnit x (Some r) ws = ws ≡ behind_unit x (words_of r.now)
AfterUnit x None ws = (rest : List Word90) → ws ≡ behind_unit x rest → ⊥

-- the list of READ or PRINT
abbrev pub AfterTransfer : List ℕ → List ℕ → Option (Bor (List Token)) → List Word90 → Type 0
AfterTransfer short long (Some r) ws = IsTransfer short long (words_of r.now) ws
AfterTransfer short long None ws = (list : List Word90) → IsTransfer short long list ws → ⊥

-- a name alone
abbrev pub IsLoneName : Option (List ℕ) → List Word90 → Type 0
IsLoneName (Some x) ws = ws ≡ words.Name x ∷ []
IsLoneName None ws = (x : List ℕ) → ws ≡ words.Name x ∷ [] → ⊥

-- a name and the parenthesis that closes a list
abbrev pub IsClosedName : Option (List ℕ) → List Word90 → Type 0
IsClosedName (Some x) ws = ws ≡ words.Name x ∷ (words.Close ∷ [])
IsClosedName None ws = (x : List ℕ) → ws ≡ words.Name x ∷ (words.Close ∷ []) → ⊥

-- the value of a label's digits
abbrev pub IsLabelValue : Option ℕ → List ℕ → Type 0
IsLabelValue (Some n) label = (n ≡ value_of_digits label) × IsLabel90 label
IsLabelValue None label = IsLabel90 label → ⊥

-- a label alone, by the value of its digits
pub record IsTheLabel (n : ℕ) (ws : List Word90) : Type 0 where
  pub label : List ℕ
  pub same : ws ≡ words.Digits label ∷ []
  pub value : n ≡ value_of_digits label
  pub few : IsLabel90 label

abbrev pub IsLoneLabel : Option ℕ → List Word90 → Type 0
IsLoneLabel (Some n) ws = IsTheLabel n ws
IsLoneLabel None ws = (label : List ℕ) → IsLabel90 label → ws ≡ words.Digits label ∷ [] → ⊥

abbrev pub IsDigitsFront : Option (Bor (List ℕ) × Bor (List Token)) → List Word90 → Type 0
IsDigitsFront (Some r) ws = ws ≡ words.Digits r.0.now ∷ words_of r.1.now
IsDigitsFront None ws = (t : List ℕ) (rest : List Word90) → ws ≡ words.Digits t ∷ rest → ⊥

-- a CONTINUE with a label
abbrev pub labelled : ℕ → List ℕ → List Word90
labelled d ds = words.Digits (d ∷ ds) ∷ (words.Name (codes "CONTINUE") ∷ [])

pub record HasLabel (n : ℕ) (ws : List Word90) : Type 0 where
  pub first : ℕ
  pub more : List ℕ
  pub same : ws ≡ labelled first more
  pub value : n ≡ value_of_digits (first ∷ more)
  pub few : IsLabel90 (first ∷ more)

abbrev pub IsLabelled : Option ℕ → List Word90 → Type 0
IsLabelled (Some n) ws = HasLabel n ws
IsLabelled None ws = (d : ℕ) (ds : List ℕ) → IsLabel90 (d ∷ ds) → ws ≡ labelled d ds → ⊥

-- what stands behind the lower bound of an extent, which is 1, and its colon
abbrev pub AfterExtent : Option (Bor (List Token)) → List Word90 → Type 0
AfterExtent (Some r) ws = ws ≡ words.Digits (codes "1") ∷ (words.Colon ∷ words_of r.now)
AfterExtent None ws = (rest : List Word90) → ws ≡ words.Digits (codes "1") ∷ (words.Colon ∷ rest) → ⊥

-- the type that a declaration begins with
abbrev pub AfterType : Option (Kind × Bor (List Token)) → List Word90 → Type 0
AfterType (Some r) ws = ws ≡ words.Name (keyword_of r.0) ∷ words_of r.1.now
AfterType None ws = (k : Kind) (rest : List Word90) → ws ≡ words.Name (keyword_of k) ∷ rest → ⊥

-- whether ALLOCATABLE stands there, and what follows the two colons
abbrev pub AfterAttribute : Option (Bool × Bor (List Token)) → List Word90 → Type 0
AfterAttribute (Some r) ws = ws ≡ attribute r.0 ++ words.Colons ∷ words_of r.1.now
AfterAttribute None ws = (a : Bool) (rest : List Word90) → ws ≡ attribute a ++ words.Colons ∷ rest → ⊥

-- the variable of a DO, and what follows its equals sign
abbrev pub begun_loop : List ℕ → List Word90 → List Word90
begun_loop x rest = words.Name (codes "DO") ∷ (words.Name x ∷ (words.Equals ∷ rest))

abbrev pub IsLoopFront : Option (List ℕ × Bor (List Token)) → List Word90 → Type 0
IsLoopFront (Some r) ws = ws ≡ begun_loop r.0 (words_of r.1.now)
IsLoopFront None ws = (x : List ℕ) (rest : List Word90) → ws ≡ begun_loop x rest → ⊥

-- the name of an ALLOCATE, and what follows its parenthesis
abbrev pub begun_allocate : List ℕ → List Word90 → List Word90
begun_allocate x rest = words.Head (codes "ALLOCATE") ∷ (words.Head x ∷ rest)

abbrev pub IsAllocateFront : Option (List ℕ × Bor (List Token)) → List Word90 → Type 0
IsAllocateFront (Some r) ws = ws ≡ begun_allocate r.0 (words_of r.1.now)
IsAllocateFront None ws = (x : List ℕ) (rest : List Word90) → ws ≡ begun_allocate x rest → ⊥
