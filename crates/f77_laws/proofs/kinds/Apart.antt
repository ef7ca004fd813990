-- Three worked texts, in each of which one name is used otherwise than the one rule of kinds asks.
use Rattle.std.proofs.Common.{◌≡◌, ℕ, false, refl, List, [], ◌∷◌, arith, rules}
use Rattle.std.specs.List.{AllByRecursion}
use Rattle.tree.specs.Plain.{Expression}
use Rattle.tree.specs.declared.ops.Kind.TheVariants.{Integer, Logical}
use Rattle.f77_grammar.specs.Statement77.{Labelled, Declare, Constants, Assign, End}
use Rattle.meaning.proofs.DeckWords.{n, v, at, to}
use Rattle.f77_grammar.proofs.programs.Words.{s, scalar, array, constant}
use Rattle.meaning.specs.Dialect.{fortran77}
use Rattle.tree.specs.declared.width.Width.TheVariants.{Plain}
use Rattle.f77_grammar.specs.program.Uses.{uses_in_text, is_constant_name}
use Rattle.f77_laws.proofs.Lists.{not_both}
use Rattle.f77_laws.specs.kinds.Apart.{HasTreeKind, IsOfText, ListsAreNeeded, SpellingsAreNeeded, CountsAreNeeded, ConstantsAreNeeded}
use Rattle.f77_laws.specs.kinds.OneRule.{IsOfItsType, HasConstants, definitions_in}

--       INTEGER IABS
--       I = IABS(1)
--       END
abbrev hidden : List Labelled
hidden =
    s 1 (Declare Integer (scalar "IABS" ∷ []))
    ∷ s 2 (Assign (to "I") (at "IABS" (n 1 ∷ [])))
    ∷ s 3 End
    ∷ []

--       INTEGER ABS
--       I = IABS(1)
--       END
abbrev covered : List Labelled
covered =
    s 1 (Declare Integer (scalar "ABS" ∷ []))
    ∷ s 2 (Assign (to "I") (at "IABS" (n 1 ∷ [])))
    ∷ s 3 End
    ∷ []

abbrev call : Expression
call = at "IABS" (n 1 ∷ [])

--       INTEGER A(1:5)
--       I = A(1,1)
--       END
abbrev miscounted : List Labelled
miscounted =
    s 1 (Declare Integer (array "A" ((n 1, n 5) ∷ []) ∷ []))
    ∷ s 2 (Assign (to "I") (at "A" (n 1 ∷ n 1 ∷ [])))
    ∷ s 3 End
    ∷ []

--       LOGICAL L
--       PARAMETER (L = 1)
--       K = L
--       END
abbrev mistyped : List Labelled
mistyped =
    s 1 (Declare Logical (scalar "L" ∷ []))
    ∷ s 2 (Constants (constant "L" (n 1) ∷ []))
    ∷ s 3 (Assign (to "K") (v "L"))
    ∷ s 4 End
    ∷ []

abbrev element : Expression
element = at "A" (n 1 ∷ n 1 ∷ [])

hidden_text : IsOfText hidden call
hidden_text = record { cards = search rules; expression = search rules }

covered_text : IsOfText covered call
covered_text = record { cards = search rules; expression = search rules }

miscounted_text : IsOfText miscounted element
miscounted_text = record { cards = search rules; expression = search rules }

mistyped_text : IsOfText mistyped (v "L")
mistyped_text = record { cards = search rules; expression = search rules }

no_constants : (text : List Labelled) → ((x : List ℕ) → is_constant_name (uses_in_text text) x ≡ false) → AllByRecursion (IsOfItsType (uses_in_text text)) (definitions_in text) → HasConstants (fortran77 Plain) text
no_constants text none kinds = record { kinds = kinds; values = λ x h. absurd (not_both (is_constant_name (uses_in_text text) x) h (none x)) }

hidden_kind : HasTreeKind hidden call Integer
hidden_kind = search rules

no_covered_kind : HasTreeKind covered call Integer → ⊥
no_covered_kind h = let e = h.1 in cc

no_miscounted_kind : HasTreeKind miscounted element Integer → ⊥
no_miscounted_kind h = let e = h.0.1 in absurd (omega arith)

pub lists_are_needed : ListsAreNeeded
lists_are_needed = (hidden, call, hidden_text, no_constants hidden (λ x. refl) tt, (refl, tt), (refl, tt), (Integer, hidden_kind, refl))

pub spellings_are_needed : SpellingsAreNeeded
spellings_are_needed = (covered, call, covered_text, no_constants covered (λ x. refl) tt, (refl, tt), (λ l. refl, tt), (Integer, refl, no_covered_kind))

pub counts_are_needed : CountsAreNeeded
counts_are_needed = (miscounted, element, miscounted_text, no_constants miscounted (λ x. refl) tt, (refl, tt), (λ l. refl, tt), (Integer, refl, no_miscounted_kind))

no_mistyped_kind : HasTreeKind mistyped (v "L") Logical → ⊥
no_mistyped_kind h = let e = h.1 in absurd cc

pub constants_are_needed : ConstantsAreNeeded
constants_are_needed = (mistyped, v "L", mistyped_text, (refl, tt), (refl, tt), (λ l. absurd cc, tt), (Logical, refl, no_mistyped_kind))
