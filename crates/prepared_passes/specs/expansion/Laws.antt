-- What is known of a prepared nest in which private scalars become arrays.
use Rattle.std.specs.Prelude.{◌≡◌, Some, ℕ, suc, ℤ, pos, false, if◌then◌else◌, Contains, List, [], ◌∷◌, length, map}
use Rattle.std.specs.Str.{bytes_eq}
use Rattle.tree.specs.Names.{IsSourceName}
use Rattle.tree.specs.Plain.{Declaration}
use Rattle.meaning.specs.Typed.{declared}
use Rattle.nest.specs.Bodies.{Standing, nest_loops, nest_statements}
use Rattle.nest.specs.Plain.{Loop, Nest, Parts, Turns}
use Rattle.nest_order.specs.orders.Lists.{In}
use Rattle.last_values.specs.Occurrences.{stands_in_statement}
use Rattle.scalar_expand.specs.Endings.{TextsTell}
use Rattle.scalar_expand.specs.Laws.{IsExpandable}
use Rattle.scalar_expand.specs.Numbers.{ends_of, limits_of, trip_at}
use Rattle.scalar_expand.specs.Privates.{private_scalars}
use Rattle.scalar_expand.specs.declared.privates.Private.{Private}
use Rattle.pass_laws.specs.prepared_nests.Made.{AreOf64Bits}
use Rattle.pass_laws.specs.prepared_nests.Nests.{IsPrepared}
use Rattle.pass_laws.specs.prepared_nests.Statements.{made_names}

-- what a symbol holds, where the k-th name, from the j-th on, has the value v k
abbrev pub value_among : List (List ℕ) → ℕ → (ℕ → ℤ) → List ℕ → ℤ
value_among [] j v x = pos 0
value_among (y ∷ ys) j v x = if bytes_eq y x then v j else value_among ys (suc j) v x

abbrev pub counters_of : Nest → List (List ℕ)
counters_of m = map (λ (l : Loop). l.variable) (nest_loops m)

-- The declarations of the nest have names of the source, and are among those of the program that it is to stand in. No
-- statement has the name of an array that is to be made for a scalar of the source, and nothing that was made before
pub record MayBeExpanded (es : List Declaration) (m : Nest) : Type 0 where
  pub among : (x : List ℕ) (d : Declaration) → declared m.declarations x ≡ Some d → declared es x ≡ Some d
  pub source : (x : List ℕ) (d : Declaration) → declared m.declarations x ≡ Some d → IsSourceName x
  pub fresh : (p : Private) → In p (private_scalars m) → IsSourceName p.name → (s : Standing)
      → In s (nest_statements m) → stands_in_statement p.array s.statement ≡ false
  pub unmade : (p : Private) → In p (private_scalars m) → IsSourceName p.name → ¬ Contains (made_names m) p.array

-- Whatever the symbols' values are, a prepared nest of one loop has what its loops need to go on beside those of the
-- expanded nest, where arrays are allocated by their extents
abbrev pub PreparedNestIsExpandable : Type 0
PreparedNestIsExpandable =
    (bits : ℕ) (es : List Declaration) (around : List (List ℕ)) (deepest : ℕ) (m : Nest) (loop : Loop) (body : Parts)
    (values : ℕ → ℤ) → IsPrepared es around deepest m → m.body ≡ Turns loop body → MayBeExpanded es m
    → IsExpandable bits m (limits_of (length m.symbols) values (pos 1)) (ends_of (length m.symbols) values)
    (counters_of m) (value_among m.symbols 0 values) (trip_at (length m.symbols) values)

-- The texts of trips that are the same in all turns have the numbers of the last iterations, wherever the symbols hold
-- these values
abbrev pub PreparedTextsTell : Type 0
PreparedTextsTell =
    (bits : ℕ) (es : List Declaration) (around : List (List ℕ)) (deepest : ℕ) (m : Nest) (values : ℕ → ℤ)
    → IsPrepared es around deepest m → MayBeExpanded es m → AreOf64Bits values
    → TextsTell bits m (ends_of (length m.symbols) values) (value_among m.symbols 0 values)
