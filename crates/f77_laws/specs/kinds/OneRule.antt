-- The kind of a written expression is said by all uses of names in its text, and that of its tree by declarations. Both
-- are one rule, where the uses are right and what stands with a list in parentheses is an array or a function.
use Rattle.std.specs.Prelude.{◌≡◌, ◌↔◌, ℕ, ◌≤◌, true, false, ◌||◌, is_none, List, Contains}
use Rattle.std.specs.List.{AllByRecursion, flat_map}
use Rattle.tree.specs.Plain.{Expression, Declaration, Program}
use Rattle.tree.specs.declared.ops.Kind.{Kind}
use Rattle.meaning.specs.Dialect.{Dialect}
use Rattle.meaning.specs.Store.{Store}
use Rattle.meaning.specs.Typed77.{HasKind}
use Rattle.f77_grammar.specs.Statement77.{NamedConstant, Labelled}
use Rattle.f77_grammar.specs.expressions.Printing.{IsSource}
use Rattle.f77_grammar.specs.program.Uses.{Use77, uses77_in, uses_in_text, is_constant_name, is_array_name, is_function}
use Rattle.f77_grammar.specs.program.Uses.{kind_of_name}
use Rattle.f77_grammar.specs.program.Declarations.{has_list, is_misused}
use Rattle.f77_grammar.specs.program.Kinds.{has_kind, calls_hidden}
use Rattle.f77_grammar.specs.program.Limits.{definitions_of, constants_of}
use Rattle.f77_grammar.specs.program.Program77.{ReadsStatements}
use Rattle.f77_grammar.specs.program.Tree.{resolved}
use Rattle.f77_laws.specs.trees.Steps.{tree_of}
use Rattle.f77_laws.specs.Source.{IsSourceCard}

-- ---- names

-- A list in parentheses has as many subscripts as the array has dimensions, or stands behind a function's name; no
-- symbolic constant is stored into; and no variable has the name by which Fortran 90 calls the function
pub record IsRightUse (us : List Use77) (u : Use77) : Type 0 where
  pub suits : is_misused us u ≡ false
  pub shown : calls_hidden us u ≡ false

-- What stands with a list in parentheses is an array, or a function that no variable or symbolic constant hides
abbrev pub IsArrayOrFunction : List Use77 → Use77 → Type 0
IsArrayOrFunction us u = has_list u.role ≡ true → (is_array_name us u.name || is_function us u.name) ≡ true

-- ---- kinds, by the uses `us` of names in a text, the values `s` of its symbolic constants and its declarations `ds`

pub record HasKindInText (us : List Use77) (e : Expression) (k : Kind) : Type 0 where
  pub kind : has_kind us e k ≡ true
  pub uses : AllByRecursion (IsRightUse us) (uses77_in e)

pub record HasKindInTree (us : List Use77) (s : Store) (ds : List Declaration) (e : Expression)
    (k : Kind) : Type 0 where
  pub kind : HasKind ds (resolved us s e) k
  pub lists : AllByRecursion (IsArrayOrFunction us) (uses77_in e)

-- ---- texts

abbrev pub definitions_in : List Labelled → List NamedConstant
definitions_in text = flat_map (λ (x : Labelled). definitions_of x.statement) text

abbrev pub IsOfItsType : List Use77 → NamedConstant → Type 0
IsOfItsType us c = has_kind us c.value (kind_of_name us c.name) ≡ true

abbrev pub HasItsValue : Dialect → List Labelled → List ℕ → Type 0
HasItsValue d text x = is_none ((constants_of d text).bounds x) ≡ false

-- each symbolic constant is defined by an expression of its type, and has a value
pub record HasConstants (d : Dialect) (text : List Labelled) : Type 0 where
  pub kinds : AllByRecursion (IsOfItsType (uses_in_text text)) (definitions_in text)
  pub values : (x : List ℕ) → is_constant_name (uses_in_text text) x ≡ true → HasItsValue d text x

-- an expression such as FORTRAN 77 has, whose names stand so in the text
pub record IsExpressionOf (text : List Labelled) (e : Expression) : Type 0 where
  pub source : IsSource e
  pub among : AllByRecursion (Contains (uses_in_text text)) (uses77_in e)

-- ---- the laws

abbrev pub OneRuleOfKinds : Type 0
OneRuleOfKinds = (d : Dialect) (text : List Labelled) (e : Expression) (k : Kind) → d.bits ≤ 126
    → AllByRecursion IsSourceCard text → HasConstants d text → IsExpressionOf text e
    → HasKindInText (uses_in_text text) e k
    ↔ HasKindInTree (uses_in_text text) (constants_of d text) (tree_of d text).declarations e k

-- where the uses are right and the lists suit
abbrev pub SameKinds : Type 0
SameKinds = (d : Dialect) (text : List Labelled) (e : Expression) (k : Kind) → d.bits ≤ 126
    → AllByRecursion IsSourceCard text → HasConstants d text → IsExpressionOf text e
    → AllByRecursion (IsRightUse (uses_in_text text)) (uses77_in e)
    → AllByRecursion (IsArrayOrFunction (uses_in_text text)) (uses77_in e)
    → (has_kind (uses_in_text text) e k ≡ true)
    ↔ HasKind (tree_of d text).declarations (resolved (uses_in_text text) (constants_of d text) e) k

-- where a program is read, nothing is asked of its constants
abbrev pub OneRuleOfRead : Type 0
OneRuleOfRead = (d : Dialect) (text : List Labelled) (p : Program) (e : Expression) (k : Kind) → d.bits ≤ 126
    → AllByRecursion IsSourceCard text → ReadsStatements d text p → IsExpressionOf text e
    → HasKindInText (uses_in_text text) e k
    ↔ HasKindInTree (uses_in_text text) (constants_of d text) p.declarations e k
