-- Names: which are INTEGER without a type statement (ANSI X3.9-1978, section 4.1.2), and lists of names.
use Rattle.std.specs.Prelude.{◌≡◌, ℕ, nat_le, Bool, false, ◌&&◌, List, [], ◌∷◌}
use Rattle.std.specs.List.{list_any, AllByRecursion}
use Rattle.std.specs.Cmp.Lexicographic.{slice_cmp}
use Rattle.std.specs.Ordering.{nat_cmp}
use Rattle.std.specs.declared.cmp.Ordering.TheVariants.{Less}
use Rattle.std.specs.Str.{bytes_eq}

abbrev pub begins_with : (ℕ → Bool) → List ℕ → Bool
begins_with test [] = false
begins_with test (c ∷ cs) = test c

-- a name that begins with one of I to N is an INTEGER without a type statement (section 4.1.2)
abbrev pub is_implicit_integer : List ℕ → Bool
is_implicit_integer = begins_with (λ c. nat_le 73 c && nat_le c 78)

-- ---- lists of names

abbrev pub is_among : List (List ℕ) → List ℕ → Bool
is_among names x = list_any (bytes_eq x) names

-- in byte order, none twice
abbrev pub IsInByteOrder : List (List ℕ) → Type 0
IsInByteOrder [] = Unit {0}
IsInByteOrder (x ∷ xs) = AllByRecursion (λ y. slice_cmp nat_cmp x y ≡ Less) xs × IsInByteOrder xs
