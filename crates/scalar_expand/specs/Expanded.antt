-- A nest in which private scalars have become arrays with an element for each iteration (Allen and Kennedy, "Optimizing
-- Compilers for Modern Architectures", section 5.3, scalar expansion).
use Rattle.std.specs.Prelude.{Option, Some, None, ℕ, ◌==◌, Bool, true, false, not, ◌&&◌}
use Rattle.std.specs.Prelude.{if◌then◌else◌, is_some, List, [], ◌∷◌, ◌++◌, map, reverse, codes}
use Rattle.std.specs.List.{list_all}
use Rattle.std.specs.Str.{bytes_eq}
use Rattle.tree.specs.Plain.{Declaration, Expression, Named, Only, Reference, Statement, Assignment}
use Rattle.tree.specs.Plain.{Subscript, Subscripts, block, no_subscripts, subscript, subscripts}
use Rattle.rewrite.specs.Making.{Making}
use Rattle.nest.specs.Allocations.{block_then}
use Rattle.nest.specs.Plain.{Guarded, Made, Nest, Part, Run, Turns, Choice, Label, Jump, Parts, no_parts, part, parts}
use Rattle.nest_rewrite.specs.Assembled.{with_parts}
use Rattle.nest_rewrite.specs.Statements.{rewritten_statement}
use Rattle.last_values.specs.Endings.{where_all_hold}
use Rattle.last_values.specs.Scalars.{scalar}
use Rattle.last_values.specs.normal_forms.NormalLoops.{has_no_loops, is_positive}
use Rattle.last_values.specs.normal_forms.Texts.{at_least_one, trip_text}
use Rattle.scalar_expand.specs.Privates.{private_or_none, private_scalars}
use Rattle.scalar_expand.specs.Texts.{extent_texts}
use Rattle.scalar_expand.specs.declared.privates.Private.{Private}
use Rattle.scalar_expand.specs.declared.privates.RoundLoop.{RoundLoop}

abbrev pub has_prefix : List ℕ → List ℕ → Bool
has_prefix [] ys = true
has_prefix (x ∷ xs) [] = false
has_prefix (x ∷ xs) (y ∷ ys) = x == y && has_prefix xs ys

-- masks have numbers, in whose order they stand
abbrev pub is_mask : List ℕ → Bool
is_mask x = has_prefix (codes "FV_MASK_") x

-- ---- elements

abbrev pub loop_subscript : RoundLoop → Subscript
loop_subscript l = Only (Named l.variable no_subscripts)

-- the element of the iteration at hand, by the variables of the loops, the innermost one first
abbrev pub element : Private → Reference
element p = record { name = p.array; subscripts = subscripts (reverse (map loop_subscript p.loops)) }

abbrev pub named_private : List Private → List ℕ → Option Private
named_private [] x = None
named_private (p ∷ ps) x = if bytes_eq p.name x then Some p else named_private ps x

abbrev pub element_or : Option Private → Reference → Reference
element_or None r = r
element_or (Some p) r = element p

-- a private scalar becomes its element
abbrev pub reference_to : List Private → List ℕ → Subscripts → Reference
reference_to ps x no_subscripts = element_or (named_private ps x) (record { name = x; subscripts = no_subscripts })
reference_to ps x (subscript q qs) = record { name = x; subscripts = subscript q qs }

abbrev pub expanded_reference : List Private → Reference → Reference
expanded_reference ps r = reference_to ps r.name r.subscripts

abbrev pub as_expression : Reference → Expression
as_expression r = Named r.name r.subscripts

abbrev pub expanded_node : List Private → Expression → Expression
expanded_node ps (Named x qs) = as_expression (reference_to ps x qs)
expanded_node ps e = e

abbrev pub expanding : List Private → Making
expanding ps = record { expression = λ first e. expanded_node ps e; left = expanded_reference ps }

-- ---- last values

-- the trips of the loops are the same in all turns of the loops round them, so that the last iteration is known
abbrev pub has_known_end : Private → Bool
has_known_end p = list_all (λ (l : RoundLoop). has_no_loops l.trip.top) p.loops

abbrev pub is_innermost : ℕ → List RoundLoop → Bool
is_innermost n [] = false
is_innermost n (l ∷ []) = l.number == n
is_innermost n (l ∷ k ∷ ks) = is_innermost n (k ∷ ks)

-- where it isn't known, each turn of the loop ends by giving the scalar the element's value
abbrev pub is_copied_in : ℕ → Private → Bool
is_copied_in n p = not (has_known_end p) && is_innermost n p.loops

abbrev pub copied : ℕ → Private → Guarded
copied line p =
    record { line = line; guard = None; left = scalar p.name; right = as_expression (element p) }

-- by the line of the nest
module _ (line : ℕ) where
  abbrev pub copy_in : ℕ → Private → List Part
  copy_in n p = if is_copied_in n p then Run (copied line p) ∷ [] else []

  abbrev pub copies_in : ℕ → List Private → List Part
  copies_in n [] = []
  copies_in n (p ∷ ps) = copy_in n p ++ copies_in n ps

  -- the statement or loop with each node made anew; the loop with copies at the end of its body
  module _ (m : Making) (ps : List Private) where
    abbrev mutual
      pub expanded_part : Part → Part
      expanded_part (Run g) = Run (rewritten_statement m g)
      expanded_part (Turns l qs) = Turns l (parts (expanded_parts qs ++ copies_in l.number ps))
      expanded_part (Choice bs qs) = Choice bs qs
      expanded_part (Label n) = Label n
      expanded_part (Jump n) = Jump n

      pub expanded_parts : Parts → List Part
      expanded_parts no_parts = []
      expanded_parts (part q qs) = expanded_part q ∷ expanded_parts qs

-- ---- behind all loops

module _ (symbols : List (List ℕ)) where
  abbrev pub trip_expression : RoundLoop → Expression
  trip_expression l = trip_text [] symbols [] l.trip

  abbrev pub known_trip_at : RoundLoop → Subscript
  known_trip_at l = Only (trip_expression l)

  -- a loop that may have no turn has one
  abbrev pub trip_test : RoundLoop → List Expression
  trip_test l = if is_positive l.trip then [] else at_least_one (trip_expression l) ∷ []

  abbrev pub trip_tests : List RoundLoop → List Expression
  trip_tests [] = []
  trip_tests (l ∷ ls) = trip_test l ++ trip_tests ls

  -- the element of the last iteration
  abbrev pub last_element : Private → Reference
  last_element p = record { name = p.array; subscripts = subscripts (reverse (map known_trip_at p.loops)) }

  module _ (line : ℕ) where
    abbrev pub last_assignment : Private → Statement
    last_assignment p = Assignment line None (scalar p.name) (as_expression (last_element p))

    -- where the loops have turns, the scalar gets the value of the last one
    abbrev pub last_value : Private → List Statement
    last_value p =
        if has_known_end p then where_all_hold line (trip_tests p.loops) (last_assignment p ∷ []) else []

    abbrev pub last_values : List Private → List Statement
    last_values [] = []
    last_values (p ∷ ps) = last_value p ++ last_values ps

  -- ---- what is allocated

  abbrev pub array_of : Private → Made
  array_of p = record { name = p.array; kind = p.kind; extents = reverse (extent_texts symbols p.extents) }

  abbrev pub array_or : Option Private → Made → Made
  array_or None a = a
  array_or (Some p) a = array_of p

  -- those that were made before: masks that are private as their arrays, and what isn't private as it is
  abbrev pub made_before : List Private → List Made → List Made
  made_before ps [] = []
  made_before ps (a ∷ as') =
      if is_mask a.name then array_or (named_private ps a.name) a ∷ made_before ps as'
      else if is_some (named_private ps a.name) then made_before ps as'
      else a ∷ made_before ps as'

  -- arrays for further private scalars, in the order in which these are written first
  abbrev pub made_now : List Private → List Made
  made_now [] = []
  made_now (p ∷ ps) = if is_mask p.name then made_now ps else array_of p ∷ made_now ps

-- ---- the nest

-- those that the program declares, in byte order as their declarations stand
abbrev pub declared_privates : List Private → List Declaration → List Private
declared_privates ps [] = []
declared_privates ps (d ∷ ds) = private_or_none (named_private ps d.name) ++ declared_privates ps ds

-- A nest of loops and statements with these private scalars as arrays. Those that the program declares keep their last
-- values: behind all loops where the last iteration is known, else at the end of each turn
unfoldable pub with_made_arrays : Nest → List Private → Nest
with_made_arrays m ps =
    let own = declared_privates ps m.declarations in
    with_parts m (expanded_part m.line (expanding ps) own m.body)
    (made_before m.symbols ps m.made ++ made_now m.symbols ps)
    (block_then m.after (block (last_values m.symbols m.line own)))

-- each private scalar of the nest as an array
abbrev pub expanded : Nest → Nest
expanded m = with_made_arrays m (private_scalars m)
