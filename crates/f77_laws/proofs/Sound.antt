-- A text without findings: at none of its places does a cause of refusal hold.
use Rattle.std.proofs.Common.{◌≡◌, false, List, [], Contains}
use Rattle.std.specs.List.{AllByRecursion}
use Rattle.meaning.specs.Dialect.{Dialect}
use Rattle.f77_grammar.specs.Statement77.{Labelled}
use Rattle.f77_grammar.specs.program.Text.{Place77, places}
use Rattle.f77_grammar.specs.program.Uses.{uses_in_text}
use Rattle.f77_grammar.specs.program.Labels.{has_wrong_label}
use Rattle.f77_grammar.specs.program.Nesting.{is_nested_wrongly}
use Rattle.f77_grammar.specs.program.Order.{is_out_of_order, is_ended_wrongly}
use Rattle.f77_grammar.specs.program.Declarations.{is_declared_wrongly}
use Rattle.f77_grammar.specs.program.Kinds.{has_unsuited_kind}
use Rattle.f77_grammar.specs.program.Jumps.{has_wrong_jump}
use Rattle.f77_grammar.specs.program.DoVariables.{has_wrong_do_variable}
use Rattle.f77_grammar.specs.program.Limits.{constants_of, has_many_names, has_many_blocks, has_reversed_bounds, has_many_elements, has_bad_constant}
use Rattle.tree.specs.declared.refusals.Cause.{Cause}
use Rattle.tree.specs.declared.refusals.Cause.TheVariants.{Label, Nesting, NoEnd, Declared, TypeClash, Jump, DoVariable, ManyNames, ManyBlocks, ReversedBounds, ManyElements, BadConstant}
use Rattle.f77_grammar.specs.program.Program77.{program_causes, holds_at, findings}
use Rattle.f77_laws.proofs.Lists.{left_false, right_false, all_at, all_of}
pub use Rattle.f77_laws.proofs.trees.Sound.{IsFree, sound}

-- nothing is wrong at a place, its values aside
pub record IsRight (text : List Labelled) (p : Place77) : Type 0 where
  pub label : has_wrong_label text p ≡ false
  pub nesting : is_nested_wrongly p ≡ false
  pub order : is_out_of_order p ≡ false
  pub end : is_ended_wrongly p ≡ false
  pub declared : is_declared_wrongly (uses_in_text text) p ≡ false
  pub kinds : has_unsuited_kind (uses_in_text text) p ≡ false
  pub jump : has_wrong_jump p ≡ false
  pub do_variable : has_wrong_do_variable (uses_in_text text) p ≡ false
  pub names : has_many_names (uses_in_text text) p ≡ false
  pub blocks : has_many_blocks p ≡ false

-- nothing is wrong with the values of constants and bounds at a place
pub record HasValues (d : Dialect) (text : List Labelled) (p : Place77) : Type 0 where
  pub bounds : has_reversed_bounds d (constants_of d text) p ≡ false
  pub elements : has_many_elements d (constants_of d text) p ≡ false
  pub constants : has_bad_constant d (constants_of d text) p ≡ false

module _ (d : Dialect) (text : List Labelled) (e : findings d text ≡ []) where
  free_at : (c : Cause) (p : Place77) → IsFree d text c → Contains (places text) p → holds_at d c text (uses_in_text text) (constants_of d text) p ≡ false
  free_at c p h m = all_at (λ (q : Place77). holds_at d c text (uses_in_text text) (constants_of d text) q ≡ false) (places text) p h m

  right_at : (p : Place77) → Contains (places text) p → AllByRecursion (IsFree d text) program_causes → IsRight text p
  right_at p m h =
      let nesting = free_at Nesting p h.1.0 m in
      record {
        label = free_at Label p h.0 m;
        nesting = left_false (is_nested_wrongly p) (is_out_of_order p) nesting;
        order = right_false (is_nested_wrongly p) (is_out_of_order p) nesting;
        end = free_at NoEnd p h.1.1.0 m;
        declared = free_at Declared p h.1.1.1.0 m;
        kinds = free_at TypeClash p h.1.1.1.1.1.0 m;
        jump = free_at Jump p h.1.1.1.1.1.1.0 m;
        do_variable = free_at DoVariable p h.1.1.1.1.1.1.1.0 m;
        names = free_at ManyNames p h.1.1.1.1.1.1.1.1.0 m;
        blocks = free_at ManyBlocks p h.1.1.1.1.1.1.1.1.1.0 m;
      }

  pub right : AllByRecursion (IsRight text) (places text)
  right = all_of (IsRight text) (places text) (λ p c. right_at p c (sound d text e))

  values_at : (p : Place77) → Contains (places text) p → AllByRecursion (IsFree d text) program_causes → HasValues d text p
  values_at p m h = record {
    bounds = free_at ReversedBounds p h.1.1.1.1.1.1.1.1.1.1.0 m;
    elements = free_at ManyElements p h.1.1.1.1.1.1.1.1.1.1.1.0 m;
    constants = free_at BadConstant p h.1.1.1.1.1.1.1.1.1.1.1.1.0 m;
  }

  pub values : AllByRecursion (HasValues d text) (places text)
  values = all_of (HasValues d text) (places text) (λ p c. values_at p c (sound d text e))
