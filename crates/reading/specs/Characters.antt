-- What both dialects write alike: characters, digits, constants of characters, keywords of kinds, and lists. 32 is a
-- blank, 39 an apostrophe.
use Rattle.std.specs.Prelude.{◌≡◌, ℕ, ◌==◌, ◌-◌, nat_le, Bool, true, false, ◌&&◌, if◌then◌else◌, IsTrue}
use Rattle.std.specs.List.{AllByRecursion}
use Rattle.std.specs.Prelude.{List, [], ◌∷◌, ◌++◌, codes}
use Rattle.tree.specs.declared.ops.Kind.{Kind}
use Rattle.tree.specs.declared.ops.Kind.TheVariants.{Integer, Logical}

abbrev pub is_blank : ℕ → Bool
is_blank c = c == 32

abbrev pub is_digit : ℕ → Bool
is_digit c = nat_le 48 c && nat_le c 57

abbrev pub is_letter : ℕ → Bool
is_letter c = nat_le 65 c && nat_le c 90

-- of a letter in lower case, that in upper case
abbrev pub upper : ℕ → ℕ
upper c = if nat_le 97 c && nat_le c 122 then c - 32 else c

-- each character passes
abbrev pub Pass : (ℕ → Bool) → List ℕ → Type 0
Pass p [] = Unit {0}
Pass p (c ∷ cs) = IsTrue (p c) × Pass p cs

abbrev pub IsDigits : List ℕ → Type 0
IsDigits [] = ⊥
IsDigits (c ∷ cs) = IsTrue (is_digit c) × Pass is_digit cs

abbrev pub keyword_of : Kind → List ℕ
keyword_of Integer = codes "INTEGER"
keyword_of Logical = codes "LOGICAL"

-- ---- constants of characters

-- a constant's text as it stands between its apostrophes: each apostrophe in it is doubled
abbrev pub doubled_one : Bool → ℕ → List ℕ
doubled_one true c = c ∷ c ∷ []
doubled_one false c = c ∷ []

abbrev pub doubled : List ℕ → List ℕ
doubled [] = []
doubled (c ∷ cs) = doubled_one (c == 39) c ++ doubled cs

-- no apostrophe stands at the front
abbrev pub IsEnded : List ℕ → Type 0
IsEnded [] = Unit {0}
IsEnded (c ∷ cs) = (c == 39) ≡ false

-- ---- lists

-- one at least, and each is good
abbrev pub IsList : {A : Type 0} → (A → Type 0) → List A → Type 0
IsList good [] = ⊥
IsList good (x ∷ xs) = good x × AllByRecursion good xs
