-- The forms of statements of Fortran 90, as they are written in words (ISO/IEC 1539:1991, sections 5, 6.3, 7.5, 8 and
-- 9).
use Rattle.std.specs.Prelude.{◌≡◌, ℕ, ◌≤◌, ◌⊎◌, Bool, true, false, Option, Some, None, List, []}
use Rattle.std.specs.Prelude.{◌∷◌, ◌++◌, length, codes}
use Rattle.std.specs.List.{AllByRecursion}
use Rattle.tree.specs.declared.ops.Kind.{Kind}
use Rattle.tree.specs.declared.ops.Op.TheVariants.{Add, Sub, Mul}
use Rattle.tree.specs.OperatorTable.{Sign, Plus, Minus, Negation}
use Rattle.f90_grammar.specs.Phrases.{Phrase90, IsExpression90, written90}
use Rattle.f90_grammar.specs.Items.{ItemPhrases90, Input, Output, AreItems90, IsReference90, IsStep90, written_items90}
use Rattle.f90_grammar.specs.Items.{written_bounds90}
use Rattle.f90_grammar.specs.Words as words
use Rattle.f90_grammar.specs.Words.{Word90}
use Rattle.reading.specs.Characters.{IsList, keyword_of}

abbrev pub name : List ℕ → Word90
name x = words.Name x

abbrev pub followed90 : {A : Type 0} → (A → List Word90) → List A → List Word90
followed90 write [] = []
followed90 write (x ∷ xs) = words.Comma ∷ (write x ++ followed90 write xs)

abbrev pub separated90 : {A : Type 0} → (A → List Word90) → List A → List Word90
separated90 write [] = []
separated90 write (x ∷ xs) = write x ++ followed90 write xs

-- ---- declarations

-- a bound is a literal with an optional sign
pub record Bound90 : Type 0 where
  pub sign : Option Sign
  pub digits : List ℕ

abbrev pub IsBound90 : Bound90 → Type 0
IsBound90 b = b.sign ≡ Some Negation → ⊥

abbrev pub written_sign : Option Sign → List Word90
written_sign (Some Plus) = words.Operator Add ∷ []
written_sign (Some Minus) = words.Operator Sub ∷ []
written_sign s = []

abbrev pub written_bound90 : Bound90 → List Word90
written_bound90 b = written_sign b.sign ++ words.Digits b.digits ∷ []

-- the upper bound alone, or both; or a colon, where the array is allocatable
pub data Dimension : Type 0 where
  Upper : Bound90 → Dimension
  Both : Bound90 → Bound90 → Dimension
  Deferred : Dimension

abbrev pub written_dimension : Dimension → List Word90
written_dimension (Upper b) = written_bound90 b
written_dimension (Both a b) = written_bound90 a ++ words.Colon ∷ written_bound90 b
written_dimension Deferred = words.Colon ∷ []

abbrev pub SuitsAllocatable : Bool → Dimension → Type 0
SuitsAllocatable false (Upper b) = IsBound90 b
SuitsAllocatable false (Both a b) = IsBound90 a × IsBound90 b
SuitsAllocatable false Deferred = ⊥
SuitsAllocatable true Deferred = Unit {0}
SuitsAllocatable true _ = ⊥

pub record EntityForm90 : Type 0 where
  pub name : List ℕ
  pub dimensions : List Dimension

abbrev pub has_dimensions : Bool → List Dimension → Type 0
has_dimensions true ds = IsList (SuitsAllocatable true) ds × (length ds ≤ 7)
has_dimensions false ds = AllByRecursion (SuitsAllocatable false) ds × (length ds ≤ 7)

abbrev pub IsEntity90 : Bool → EntityForm90 → Type 0
IsEntity90 allocatable e = has_dimensions allocatable e.dimensions

abbrev pub written_dimensions : List ℕ → List Dimension → List Word90
written_dimensions x [] = name x ∷ []
written_dimensions x (d ∷ ds) = words.Head x ∷ (separated90 written_dimension (d ∷ ds) ++ words.Close ∷ [])

abbrev pub written_entity90 : EntityForm90 → List Word90
written_entity90 e = written_dimensions e.name e.dimensions

-- ---- the forms

pub data Form90 : Type 0 where
  Program : List ℕ → Form90
  ImplicitNone : Form90
  Declare : Kind → Bool → List EntityForm90 → Form90
  Assign : Phrase90 → Phrase90 → Form90
  Where : Phrase90 → Phrase90 → Phrase90 → Form90
  Test : Phrase90 → Form90 → Form90
  If : Phrase90 → Form90
  ElseIf : Phrase90 → Form90
  Else : Form90
  EndIf : Form90
  Do : List ℕ → Phrase90 → Phrase90 → Option Phrase90 → Form90
  EndDo : Form90
  -- with a label or without one
  Continue : List ℕ → Form90
  Go : List ℕ → Form90
  Stop : Form90
  Read : ItemPhrases90 → Form90
  ReadNothing : Form90
  Print : ItemPhrases90 → Form90
  PrintNothing : Form90
  Allocate : List ℕ → List Phrase90 → Form90
  Deallocate : List ℕ → Form90
  End : Form90
  EndProgram : Option (List ℕ) → Form90

abbrev pub IsInner90 : Form90 → Type 0
IsInner90 (Assign l r) = Unit {0}
IsInner90 (Go label) = Unit {0}
IsInner90 (Continue label) = label ≡ []
IsInner90 Stop = Unit {0}
IsInner90 (Read is) = Unit {0}
IsInner90 ReadNothing = Unit {0}
IsInner90 (Print is) = Unit {0}
IsInner90 PrintNothing = Unit {0}
IsInner90 f = ⊥

abbrev pub attribute : Bool → List Word90
attribute true = words.Comma ∷ (name (codes "ALLOCATABLE") ∷ [])
attribute false = []

abbrev pub IsLabel90 : List ℕ → Type 0
IsLabel90 label = length label ≤ 5

-- two words, or one
abbrev pub Either : List ℕ → List ℕ → List Word90 → List Word90 → Type 0
Either a b rest ws = (ws ≡ name a ∷ (name b ∷ rest)) ⊎ (ws ≡ name (a ++ b) ∷ rest)

-- a keyword before a parenthesis is one word with it
abbrev pub EitherHead : List ℕ → List ℕ → List Word90 → List Word90 → Type 0
EitherHead a b rest ws = (ws ≡ name a ∷ (words.Head b ∷ rest)) ⊎ (ws ≡ words.Head (a ++ b) ∷ rest)

-- an extent of ALLOCATE stands behind `1:`
abbrev pub written_extent : Phrase90 → List Word90
written_extent p = words.Digits (codes "1") ∷ (words.Colon ∷ written90 p)

-- READ *, and READ (*, *)
abbrev pub IsTransfer : List ℕ → List ℕ → List Word90 → List Word90 → Type 0
IsTransfer short long list ws =
    (ws ≡ name short ∷ (words.Operator Mul ∷ (words.Comma ∷ list)))
    ⊎ (ws
    ≡ words.Head long ∷ (words.Operator Mul ∷ (words.Comma ∷ (words.Operator Mul ∷ (words.Close ∷ list)))))

abbrev pub IsEmptyTransfer : List ℕ → List ℕ → List Word90 → Type 0
IsEmptyTransfer short long ws =
    (ws ≡ name short ∷ (words.Operator Mul ∷ []))
    ⊎ (ws
    ≡ words.Head long ∷ (words.Operator Mul ∷ (words.Comma ∷ (words.Operator Mul ∷ (words.Close ∷ [])))))

abbrev pub IsNamed : Option (List ℕ) → List Word90
IsNamed None = []
IsNamed (Some x) = name x ∷ []

abbrev pub labelled : List ℕ → List Word90 → List Word90
labelled [] ws = ws
labelled (c ∷ cs) ws = words.Digits (c ∷ cs) ∷ ws

abbrev pub IsWritten90 : Form90 → List Word90 → Type 0
IsWritten90 (Program x) ws = ws ≡ name (codes "PROGRAM") ∷ (name x ∷ [])
IsWritten90 ImplicitNone ws = ws ≡ name (codes "IMPLICIT") ∷ (name (codes "NONE") ∷ [])
IsWritten90 (Declare k a es) ws =
    (ws ≡ name (keyword_of k) ∷ (attribute a ++ words.Colons ∷ separated90 written_entity90 es))
    × IsList (IsEntity90 a) es
IsWritten90 (Assign l r) ws = (ws ≡ written90 l ++ words.Equals ∷ written90 r) × IsReference90 l × IsExpression90 l
    × IsExpression90 r
IsWritten90 (Where m l r) ws =
    (ws ≡ words.Head (codes "WHERE") ∷ (written90 m ++ words.Close ∷ (written90 l ++ words.Equals ∷ written90 r)))
    × IsExpression90 m × IsReference90 l × IsExpression90 l × IsExpression90 r
IsWritten90 (Test p f) ws = (rest : List Word90) × (ws ≡ words.Head (codes "IF") ∷ (written90 p ++ words.Close ∷ rest))
    × IsExpression90 p × IsWritten90 f rest × IsInner90 f
IsWritten90 (If p) ws = (ws ≡ words.Head (codes "IF") ∷ (written90 p ++ words.Close ∷ (name (codes "THEN") ∷ [])))
    × IsExpression90 p
IsWritten90 (ElseIf p) ws =
    EitherHead (codes "ELSE") (codes "IF") (written90 p ++ words.Close ∷ (name (codes "THEN") ∷ [])) ws
    × IsExpression90 p
IsWritten90 Else ws = ws ≡ name (codes "ELSE") ∷ []
IsWritten90 EndIf ws = Either (codes "END") (codes "IF") [] ws
IsWritten90 (Do x a b c) ws =
    (ws ≡ name (codes "DO") ∷ (name x ∷ (words.Equals ∷ written_bounds90 a b c))) × IsExpression90 a
    × IsExpression90 b × IsStep90 c
IsWritten90 EndDo ws = Either (codes "END") (codes "DO") [] ws
IsWritten90 (Continue label) ws = (ws ≡ labelled label (name (codes "CONTINUE") ∷ [])) × IsLabel90 label
IsWritten90 (Go label) ws = Either (codes "GO") (codes "TO") (words.Digits label ∷ []) ws × IsLabel90 label
IsWritten90 Stop ws = ws ≡ name (codes "STOP") ∷ []
IsWritten90 (Read is) ws = IsTransfer (codes "READ") (codes "READ") (written_items90 is) ws × AreItems90 Input is
IsWritten90 ReadNothing ws = IsEmptyTransfer (codes "READ") (codes "READ") ws
IsWritten90 (Print is) ws = IsTransfer (codes "PRINT") (codes "WRITE") (written_items90 is) ws × AreItems90 Output is
IsWritten90 PrintNothing ws = IsEmptyTransfer (codes "PRINT") (codes "WRITE") ws
IsWritten90 (Allocate x es) ws =
    (ws ≡ words.Head (codes "ALLOCATE") ∷ (words.Head x ∷ (separated90 written_extent es ++ words.Close
    ∷ (words.Close ∷ [])))) × IsList IsExpression90 es
IsWritten90 (Deallocate x) ws = ws ≡ words.Head (codes "DEALLOCATE") ∷ (name x ∷ (words.Close ∷ []))
IsWritten90 End ws = ws ≡ name (codes "END") ∷ []
IsWritten90 (EndProgram x) ws = Either (codes "END") (codes "PROGRAM") (IsNamed x) ws
