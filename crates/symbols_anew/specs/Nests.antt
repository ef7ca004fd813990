-- A nest with all its symbols, and with its statements in canonical text by these.
use Rattle.std.specs.Prelude.{ℕ, List, [], ◌∷◌, map}
use Rattle.linear_forms.specs.Canonical.{canonising}
use Rattle.nest.specs.Plain.{Guarded, Loop, Nest}
use Rattle.nest_rewrite.specs.Statements.{rewritten_statement}
use Rattle.statement_passes.specs.Passes.{mapped_nest}
use Rattle.statement_passes.specs.Shifted.{with_nest_symbols}
use Rattle.symbols_anew.specs.Found.{new_symbols}

-- a statement in canonical text, by the variables of the loops round it and these symbols
abbrev pub canonised : List (List ℕ) → List Loop → Guarded → Guarded
canonised symbols ls g = rewritten_statement (canonising (map (λ (l : Loop). l.variable) ls) symbols) g

abbrev pub each_canonised : List (List ℕ) → List Loop → ℕ → Guarded → List Guarded
each_canonised symbols ls k g = canonised symbols ls g ∷ []

abbrev pub with_texts : Nest → Nest
with_texts n = mapped_nest (each_canonised n.symbols) n

-- with these symbols more; without any it stays as it is
abbrev pub with_new : Nest → List (List ℕ) → Nest
with_new n [] = n
with_new n (x ∷ xs) = with_texts (with_nest_symbols n (x ∷ xs))

-- m with all its symbols, where a pass has made it of n
unfoldable pub with_symbols_found : Nest → Nest → Nest
with_symbols_found n m = with_new m (new_symbols n m)
