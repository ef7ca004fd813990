-- The names that stand in parts of a tree, and those that a block reads.
use Rattle.std.specs.Prelude.{ℕ, if◌then◌else◌, List, ◌∷◌, ◌++◌}
use Rattle.std.specs.Str.{bytes_eq}
use Rattle.meaning.specs.Reads.{names_in, names_in_subscripts, names_in_block}
use Rattle.indexmap.specs.IndexSet.{insert_key}
use Rattle.tree.specs.Plain.{Expression, Reference, Block}
use Rattle.tree.specs.View.{ConstructorLoop, Tested}
use Rattle.rewrite.specs.declared.uses.Way.{Way}
use Rattle.rewrite.specs.declared.uses.Way.TheVariants.{Reads}
use Rattle.rewrite.specs.declared.uses.Use.{Use}
use Rattle.rewrite.specs.Names.{is_way, names_standing, uses_in, uses_in_block, without_repeats}

abbrev pub uses_in_loop : ConstructorLoop → List Use
uses_in_loop l = uses_in l.first ++ uses_in l.last

abbrev pub uses_in_arm : Tested → List Use
uses_in_arm t = uses_in t.test ++ uses_in_block t.body

-- a condition of a block IF, and the statements under it
abbrev pub names_in_arm : Tested → List (List ℕ)
names_in_arm t = names_in t.test ++ names_in_block t.body

abbrev pub names_in_reference : Reference → List (List ℕ)
names_in_reference r = r.name ∷ names_in_subscripts r.subscripts

-- the variable of a constructor's loop, with its bounds
abbrev pub names_in_loop : ConstructorLoop → List (List ℕ)
names_in_loop l = l.variable ∷ names_in l.first ++ names_in l.last

-- the variable of a DO or of an implied DO list, with its bounds and its step
abbrev pub names_in_control : List ℕ → Expression → Expression → Expression → List (List ℕ)
names_in_control x a b c = x ∷ names_in a ++ names_in b ++ names_in c

abbrev pub names_read_in : Block → List (List ℕ)
names_read_in b = without_repeats (names_standing Reads (uses_in_block b))

-- the names with one more, where it stands so and isn't among them
abbrev pub with_use : Way → List (List ℕ) → Use → List (List ℕ)
with_use w xs u = if is_way u.way w then insert_key bytes_eq xs u.name else xs
