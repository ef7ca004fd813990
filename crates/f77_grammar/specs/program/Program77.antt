-- What is found wrong in a program's text, and which program is read from it.
use Rattle.std.specs.Prelude.{◌≡◌, Bool, false, ◌||◌, List, [], ◌∷◌, map, Contains}
use Rattle.std.specs.List.{filter, flat_map}
use Rattle.tree.specs.Causes.{refusal_at}
use Rattle.tree.specs.declared.refusals.Cause.{Cause}
use Rattle.tree.specs.declared.refusals.Cause.TheVariants.{Label, Nesting, NoEnd, Declared, RealName, TypeClash}
use Rattle.tree.specs.declared.refusals.Cause.TheVariants.{Jump, DoVariable, ManyNames, ManyBlocks, ReversedBounds}
use Rattle.tree.specs.declared.refusals.Cause.TheVariants.{ManyElements, BadConstant, Untyped}
use Rattle.tree.specs.declared.refusals.Refusal.{Refusal}
use Rattle.tree.specs.Plain as tree
use Rattle.meaning.specs.Dialect.{Dialect}
use Rattle.meaning.specs.Store.{Store}
use Rattle.reading.specs.refusal_order.Answered.{IsAnswered}
use Rattle.f77_grammar.specs.Statement77.{Labelled}
use Rattle.f77_grammar.specs.program.Text.{Place77, places}
use Rattle.f77_grammar.specs.program.Uses.{Use77, uses_in_text}
use Rattle.f77_grammar.specs.program.Labels.{has_wrong_label}
use Rattle.f77_grammar.specs.program.Nesting.{is_nested_wrongly}
use Rattle.f77_grammar.specs.program.Order.{is_out_of_order, is_ended_wrongly}
use Rattle.f77_grammar.specs.program.Declarations.{is_declared_wrongly, has_real_name, has_untyped_name}
use Rattle.f77_grammar.specs.program.Kinds.{has_unsuited_kind}
use Rattle.f77_grammar.specs.program.Jumps.{has_wrong_jump}
use Rattle.f77_grammar.specs.program.DoVariables.{has_wrong_do_variable}
use Rattle.f77_grammar.specs.program.Limits.{constants_of, has_many_names, has_many_blocks, has_reversed_bounds}
use Rattle.f77_grammar.specs.program.Limits.{has_many_elements, has_bad_constant}
use Rattle.f77_grammar.specs.program.Blocks.{IsTreeOf}

-- ---- the causes of a program's statements

-- in the order of their numbers and words
abbrev pub program_causes : List Cause
program_causes =
    Label ∷ Nesting ∷ NoEnd ∷ Declared ∷ RealName ∷ TypeClash ∷ Jump ∷ DoVariable
    ∷ ManyNames ∷ ManyBlocks ∷ ReversedBounds ∷ ManyElements ∷ BadConstant ∷ Untyped ∷ []

-- the cause holds at a place of the text, by all uses of names in it and the values of its symbolic constants
abbrev pub holds_at : Dialect → Cause → List Labelled → List Use77 → Store → Place77 → Bool
holds_at d Label text us s p = has_wrong_label text p
holds_at d Nesting text us s p = is_nested_wrongly p || is_out_of_order p
holds_at d NoEnd text us s p = is_ended_wrongly p
holds_at d Declared text us s p = is_declared_wrongly us p
holds_at d RealName text us s p = has_real_name text us p
holds_at d TypeClash text us s p = has_unsuited_kind us p
holds_at d Jump text us s p = has_wrong_jump p
holds_at d DoVariable text us s p = has_wrong_do_variable us p
holds_at d ManyNames text us s p = has_many_names us p
holds_at d ManyBlocks text us s p = has_many_blocks p
holds_at d ReversedBounds text us s p = has_reversed_bounds d s p
holds_at d ManyElements text us s p = has_many_elements d s p
holds_at d BadConstant text us s p = has_bad_constant d s p
holds_at d Untyped text us s p = has_untyped_name text us p
holds_at d _ text us s p = false

abbrev pub holds_in : Dialect → List Labelled → Cause → Place77 → Bool
holds_in d text c p = holds_at d c text (uses_in_text text) (constants_of d text) p

abbrev pub findings_of : Dialect → List Labelled → Cause → List Refusal
findings_of d text c = map (λ (p : Place77). refusal_at c p.here.line) (filter (holds_in d text c) (places text))

-- a text without statements has no END, at line 0
abbrev pub findings : Dialect → List Labelled → List Refusal
findings d [] = refusal_at NoEnd 0 ∷ []
findings d (x ∷ xs) = flat_map (findings_of d (x ∷ xs)) program_causes

-- ---- what is read and what is refused

abbrev pub RefusedStatements : Dialect → List Labelled → Refusal → Type 0
RefusedStatements d text = IsAnswered (Contains (findings d text))

-- the program is the tree that the statements form, in which nothing is wrong
pub record ReadsStatements (d : Dialect) (text : List Labelled) (p : tree.Program) : Type 0 where
  pub sound : findings d text ≡ []
  pub formed : IsTreeOf d text p
