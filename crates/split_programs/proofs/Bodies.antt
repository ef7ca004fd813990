-- The body of a loop that is cut assigns neither the variable nor a symbol.
use Rattle.std.proofs.Common.{◌≡◌, refl, sym, subst, inl, inr, ℕ, true, List, ◌∷◌, Contains}
use Rattle.components.specs.Lists.{Each}
use Rattle.index_split.specs.Pieces.{are_assignments}
use Rattle.meaning.specs.Blocks.{Surroundings, within_loop}
use Rattle.meaning.specs.Profile77.{IsBlock}
use Rattle.meaning_laws.proofs.profiles.Lists.{here}
use Rattle.nest_order.specs.orders.Lists.{In}
use Rattle.nest_reasons.specs.Symbols.{symbols_of}
use Rattle.pass_laws.proofs.FoundSources.Lists.{Each-right}
use Rattle.pass_laws.proofs.FoundSources.Symbols.{IsApart, uses_apart, variable_no_symbol}
use Rattle.rewrite.specs.Names.{uses_in_block, uses_in_statement}
use Rattle.split_laws.specs.Pieces.{AssignsOthers}
use Rattle.split_programs.proofs.Symbols.{not_in}
use Rattle.tree.specs.Plain.{Allocate, Assignment, Block, Deallocate, Declaration, Do, GoTo, If, Label, Print, Read, Stop, Where, no_statements, statement}

module _ (ds : List Declaration) (x : List ℕ) (symbols : List (List ℕ)) where
  others : (cs : Block) (w : Surroundings) → are_assignments cs ≡ true → IsBlock ds cs w → Contains w.variables x → Each (IsApart symbols) (uses_in_block cs)
      → AssignsOthers (x ∷ symbols) cs
  others no_statements w a h c u = tt
  others (statement (Assignment line mark left right) cs) w a h c u =
      (own, others cs w a h.1 c (Each-right (IsApart symbols) (uses_in_statement (Assignment line mark left right)) (uses_in_block cs) u))
    where
      own : In left.name (x ∷ symbols) → ⊥
      own (inl e) = h.0.2.1 (subst (Contains w.variables) (sym e) c)
      own (inr i) = not_in symbols left.name (u.0 refl) i
  others (statement (Where line mark mask left right) cs) w a h c u = absurd h.0
  others (statement (If line arms other) cs) w a h c u = let no : ⊥ = cc in absurd no
  others (statement (Do line y first last step body) cs) w a h c u = let no : ⊥ = cc in absurd no
  others (statement (Label k) cs) w a h c u = let no : ⊥ = cc in absurd no
  others (statement (GoTo line k) cs) w a h c u = let no : ⊥ = cc in absurd no
  others (statement (Stop line) cs) w a h c u = let no : ⊥ = cc in absurd no
  others (statement (Read line is) cs) w a h c u = let no : ⊥ = cc in absurd no
  others (statement (Print line is) cs) w a h c u = let no : ⊥ = cc in absurd no
  others (statement (Allocate line y es) cs) w a h c u = let no : ⊥ = cc in absurd no
  others (statement (Deallocate line y) cs) w a h c u = let no : ⊥ = cc in absurd no

pub assigns_others : (ds : List Declaration) (x : List ℕ) (body : Block) (w : Surroundings) → are_assignments body ≡ true → IsBlock ds body (within_loop x w)
    → AssignsOthers (x ∷ symbols_of ds x body) body
assigns_others ds x body w a h = others ds x (symbols_of ds x body) body (within_loop x w) a h (here x w.variables) (uses_apart ds x body)

pub variable_apart : (ds : List Declaration) (x : List ℕ) (body : Block) → ¬ (In x (symbols_of ds x body))
variable_apart ds x body i = not_in (symbols_of ds x body) x (variable_no_symbol ds x body) i
