-- A nest in which each range of a scalar's values has a name of its own (Allen and Kennedy, "Optimizing Compilers for
-- Modern Architectures", section 5.4, scalar renaming).
use Rattle.std.specs.Prelude.{Option, Some, None, ℕ, zero, suc, ◌+◌, ◌-◌, if◌then◌else◌, List, [], ◌∷◌, ◌++◌, map}
use Rattle.std.specs.Option.{option_map}
use Rattle.std.specs.Str.{bytes_eq}
use Rattle.tree.specs.Plain.{Expression, Named, no_subscripts, subscript}
use Rattle.tree.specs.declared.ops.Kind.{Kind}
use Rattle.rewrite.specs.Making.{Making}
use Rattle.nest.specs.Plain.{Guarded, Loop, Made, Nest}
use Rattle.statement_passes.specs.MadeNames.{with_made}
use Rattle.statement_passes.specs.Passes.{mapped_nest}
use Rattle.statement_passes.specs.Texts.{with_nodes}
use Rattle.scalar_rename.specs.Ranges.{owner_at, range_name, webs_of}
use Rattle.scalar_rename.specs.declared.ranges.Web.{Web}
use Rattle.scalar_rename.specs.declared.names.NewName.{NewName}

-- ---- names for names

abbrev pub new_name : Web → ℕ → NewName
new_name w k = record { old = w.name; new = owner_at w k }

abbrev pub names_at : List Web → ℕ → List NewName
names_at ws k = map (λ (w : Web). new_name w k) ws

-- the name that x has by these; its own where it isn't among them
abbrev pub name_by : List NewName → List ℕ → List ℕ
name_by [] x = x
name_by (n ∷ ns) x = if bytes_eq n.old x then n.new else name_by ns x

-- the name of a variable without subscripts
abbrev pub bare_name : Expression → Option (List ℕ)
bare_name (Named x no_subscripts) = Some x
bare_name (Named x (subscript p ps)) = None
bare_name e = None

abbrev pub named_or : Option (List ℕ) → Expression → Expression
named_or None e = e
named_or (Some x) e = Named x no_subscripts

abbrev pub renamed_node : List NewName → Expression → Expression
renamed_node ns e = named_or (option_map (name_by ns) (bare_name e)) e

abbrev pub renaming : List NewName → Making
renaming ns = record { expression = λ first e. renamed_node ns e; left = λ l. l }

-- ---- statements

abbrev pub with_left_name : Guarded → List ℕ → Guarded
with_left_name g x = record g { left = record { name = x; subscripts = g.left.subscripts } }

-- what is read has the name from before the statement, what is assigned the one from behind it
abbrev pub renamed_statement : List Web → ℕ → Guarded → Guarded
renamed_statement ws k g =
    with_left_name (with_nodes (renaming (names_at ws k)) g) (name_by (names_at ws (k + 1)) g.left.name)

abbrev pub each_renamed : List Web → List Loop → ℕ → Guarded → List Guarded
each_renamed ws ls k g = renamed_statement ws k g ∷ []

-- ---- what is made

-- scalars of the kind of x, for so many of its ranges from the j-th one on
abbrev pub made_from : ℕ → List ℕ → Kind → ℕ → ℕ → List Made
made_from n x k j zero = []
made_from n x k j (suc c) = record { name = range_name n x j; kind = k; extents = [] } ∷ made_from n x k (suc j) c

-- for all of its ranges but the last one
abbrev pub made_of_web : ℕ → Web → List Made
made_of_web n w = made_from n w.name w.kind 1 (w.ranges - 1)

abbrev pub made_of_webs : ℕ → List Web → List Made
made_of_webs n [] = []
made_of_webs n (w ∷ ws) = made_of_web n w ++ made_of_webs n ws

-- ---- the nest

-- with these scalars renamed; without any it stays as it is
abbrev pub with_names : Nest → List Web → Nest
with_names m [] = m
with_names m (w ∷ ws) = with_made (mapped_nest (each_renamed (w ∷ ws)) m) (made_of_webs m.number (w ∷ ws))

-- each range but the last one of a scalar that is renamed under a name of its own
unfoldable pub renamed : Nest → Nest
renamed m = with_names m (webs_of m)
