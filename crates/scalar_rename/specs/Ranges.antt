-- Ranges of a scalar's values: each unguarded assignment begins one (Allen and Kennedy, "Optimizing Compilers for
-- Modern Architectures", section 5.4, scalar renaming).
use Rattle.std.specs.Prelude.{◌≡◌, Option, Some, None, ℕ, ◌+◌, nat_le, ◌==◌, Bool, true, false, ◌&&◌, ◌||◌}
use Rattle.std.specs.Prelude.{if◌then◌else◌, List, [], ◌∷◌, ◌++◌, slice_get, codes, decimal}
use Rattle.std.specs.List.{list_all}
use Rattle.std.specs.Str.{bytes_eq}
use Rattle.tree.specs.Plain.{Declaration}
use Rattle.tree.specs.declared.ops.Kind.{Kind}
use Rattle.nest.specs.Bodies.{Standing, nest_statements}
use Rattle.nest.specs.Plain.{Guarded, Nest}
use Rattle.last_values.specs.Occurrences.{stands_in_statement}
use Rattle.statement_passes.specs.MadeNames.{kind_if_scalar}
use Rattle.scalar_expand.specs.Privates.{begins_anew, has_no_guard, is_source, number_behind, stands_only_in}
use Rattle.scalar_rename.specs.declared.ranges.Web.{Web}

-- ---- names

-- of the j-th range of x in the n-th nest of a program, counted from 1
abbrev pub range_name : ℕ → List ℕ → ℕ → List ℕ
range_name n x j = ((codes "FV_NAME_" ++ x) ++ (codes "_" ++ decimal j)) ++ number_behind n

-- ---- ranges

-- it gives x a value, always
abbrev pub begins_range : List ℕ → Guarded → Bool
begins_range x g = bytes_eq g.left.name x && has_no_guard g.guard

abbrev pub one_more_if : Bool → ℕ → ℕ
one_more_if true k = k + 1
one_more_if false k = k

-- how many ranges of x begin in these statements
abbrev pub ranges_in : List ℕ → List Standing → ℕ
ranges_in x [] = 0
ranges_in x (s ∷ ss) = one_more_if (begins_range x s.statement) (ranges_in x ss)

-- The name that the value of x has where j of its ranges, all in all so many, have begun: its own before the first one
-- and in the last one
abbrev pub owner : ℕ → List ℕ → ℕ → ℕ → List ℕ
owner n x all j = if j == 0 || j == all then x else range_name n x j

-- the names that it has before each of these statements, where j ranges have begun before, and behind the last one
abbrev pub owners_from : ℕ → List ℕ → ℕ → ℕ → List Standing → List (List ℕ)
owners_from n x all j [] = owner n x all j ∷ []
owners_from n x all j (s ∷ ss) = owner n x all j ∷ owners_from n x all (one_more_if (begins_range x s.statement) j) ss

-- ---- scalars that are renamed

-- All statements in which x stands are in one loop's own body, and the first of them gives it a value, always, without
-- reading it
abbrev pub stands_in_one_body : List ℕ → List Standing → Bool
stands_in_one_body x [] = false
stands_in_one_body x (s ∷ ss) =
    if stands_in_statement x s.statement then begins_anew x s.statement && list_all (stands_only_in x s.loops) ss
    else stands_in_one_body x ss

-- a scalar of the source, so that a name may be made of its name, with at least two ranges
abbrev pub is_renamed : List ℕ → List Standing → Bool
is_renamed x ss = is_source x && (nat_le 2 (ranges_in x ss) && stands_in_one_body x ss)

abbrev pub web_of : ℕ → List Standing → List ℕ → Kind → Web
web_of n ss x k =
    record { name = x; kind = k; ranges = ranges_in x ss; owners = owners_from n x (ranges_in x ss) 0 ss }

abbrev pub web_if_renamed : ℕ → List Standing → List ℕ → Option Kind → List Web
web_if_renamed n ss x None = []
web_if_renamed n ss x (Some k) = if is_renamed x ss then web_of n ss x k ∷ [] else []

abbrev pub webs_among : ℕ → List Standing → List Declaration → List Web
webs_among n ss [] = []
webs_among n ss (d ∷ ds) = web_if_renamed n ss d.name (kind_if_scalar d) ++ webs_among n ss ds

-- the declared scalars that are renamed, in the order of the declarations, which stand in byte order
abbrev pub webs_of : Nest → List Web
webs_of m = webs_among m.number (nest_statements m) m.declarations

-- ---- short names

-- numbers of ranges that have a name of their own have five digits then, and names at most 31 bytes
abbrev pub most_ranges : ℕ
most_ranges = 100000

abbrev pub HaveFewRanges : Nest → Type 0
HaveFewRanges m = list_all (λ (w : Web). nat_le w.ranges most_ranges) (webs_of m) ≡ true

-- ---- names by places

abbrev pub name_or : List ℕ → Option (List ℕ) → List ℕ
name_or x None = x
name_or x (Some y) = y

-- the name of the value where so many statements stand before
abbrev pub owner_at : Web → ℕ → List ℕ
owner_at w k = name_or w.name (slice_get w.owners k)
