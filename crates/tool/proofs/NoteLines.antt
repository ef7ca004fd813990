-- Of the lines of a printed program its notes alone begin as lines of a listing do.
use Rattle.std.proofs.Common.{◌≡◌, ℕ, false, true, cond, List, [], ◌∷◌, ◌++◌, take, refl, ap, ap₂, ◌∙◌, codes, filter, flat_map, append-nil}
use Rattle.std.specs.List.{AllByRecursion}
use Rattle.std.proofs.lemmas.List.Elements.{filter-append}
use Rattle.tree.specs.Plain.{Program}
use Rattle.meaning.specs.Profile90.{IsProgram90}
use Rattle.f90_grammar.specs.PrintedForms.{printed_program}
use Rattle.f90_grammar.specs.PrintedText.{IsNote, printed_lines, program_lines}
use Rattle.f90_laws.proofs.printed.PrintedWords.{printed_is_spelled}
use Rattle.tool.specs.Listings.{is_listed}
use Rattle.tool.proofs.SourceLines.{other_byte, statements_all}

abbrev IsUnlisted : List ℕ → Type 0
IsUnlisted line = is_listed line ≡ false

none_listed : (ls : List (List ℕ)) → AllByRecursion IsUnlisted ls → filter is_listed ls ≡ []
none_listed [] h = refl
none_listed (l ∷ ls) h = ap (λ b. cond b (l ∷ filter is_listed ls) (filter is_listed ls)) h.0 ∙ none_listed ls h.1

note_listed : (line : List ℕ) → IsNote line → is_listed line ≡ true
note_listed line h = ap is_listed h.begins

all_listed : (ls : List (List ℕ)) → AllByRecursion IsNote ls → filter is_listed ls ≡ ls
all_listed [] h = refl
all_listed (l ∷ ls) h =
    ap (λ b. cond b (l ∷ filter is_listed ls) (filter is_listed ls)) (note_listed l h.0) ∙ ap (λ ms. l ∷ ms) (all_listed ls h.1)

other_start : (c : ℕ) (cs : List ℕ) → (c ≡ 33 → ⊥) → IsUnlisted (c ∷ cs)
other_start c cs h = other_byte c 33 (take 2 cs) (codes "G ") h

pub listed_are_notes : (q : Program) (notes : List (List ℕ)) → IsProgram90 q → AllByRecursion IsNote notes → filter is_listed (program_lines q notes) ≡ notes
listed_are_notes q notes program are =
    filter-append is_listed notes (flat_map printed_lines (printed_program q))
    ∙ ap₂ (λ (us vs : List (List ℕ)). us ++ vs) (all_listed notes are)
    (none_listed (flat_map printed_lines (printed_program q)) (statements_all IsUnlisted other_start (λ m. refl) (printed_program q) (printed_is_spelled q program)))
    ∙ append-nil notes
