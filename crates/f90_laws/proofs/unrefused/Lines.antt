-- No line of a printed program is refused.
use Rattle.std.proofs.Common.{◌≡◌, refl, ap, ◌∙◌, sym, subst, ℕ, ◌≤◌, ◌==◌, Bool, true, false, not, ◌&&◌, ◌||◌, IsTrue, List, [], ◌∷◌, ◌++◌, length, flat_map, map, arith, append_assoc, codes}
use Rattle.std.specs.Prelude.{nat_lt, if◌then◌else◌}
use Rattle.std.specs.List.{AllByRecursion, list_any}
use Rattle.std.specs.Str.Lines.{lines}
use Rattle.std.proofs.lemmas.Bool.{le-ltb}
use Rattle.std.proofs.lemmas.Grind.{flat_map-append}
use Rattle.std.proofs.lemmas.List.Folds.{list_any-append}
use mathlib.Core.Path.{ap₂}
use Rattle.tree.specs.Plain.{Program}
use Rattle.tree.specs.declared.refusals.Refusal.{Refusal}
use Rattle.meaning.specs.Profile90.{IsProgram90}
use Rattle.f90_grammar.specs.FreeForm.{LinePiece, IsPiece, written_piece, ampersand, is_comment_line, is_nothing}
use Rattle.f90_grammar.specs.Forms as forms
use Rattle.f90_grammar.specs.PrintedForms.{Printed, unmarked, printed_title_of, printed_declaration, printed_block, printed_program}
use Rattle.f90_grammar.specs.PrintedText.{printed_lines, program_lines, printed90, IsNote}
use Rattle.f90_grammar.specs.LineCauses.{LineState, Between, Within, LeadTo, is_bad_byte90, HasLineCause}
use Rattle.f90_grammar.specs.LineCauses.LeadTo.{nothing, comment, piece}
use Rattle.f90_grammar.specs.LineCauses.HasLineCause.{HoldsBadByte, IsLong, EndsWithin}
use Rattle.f90_laws.specs.printed.Laws.{IsFreeLine}
use Rattle.f90_laws.proofs.printed.PrintedBlocksBack.{each_readable, text_lines_free}
use Rattle.f90_laws.proofs.printed.PrintedLines.{same_lines}
use Rattle.f90_laws.proofs.printed.PrintedLinesTaken.{program_suits}
use Rattle.f90_laws.proofs.printed.PrintedWords.{printed_is_spelled}
use Rattle.f90_laws.proofs.readings.Lists.{all_left, all_right, or_right, both_false}

abbrev ArePrintable : List ℕ → Type 0
ArePrintable t = AllByRecursion (λ c. (32 ≤ c) × (c ≤ 126)) t

abbrev AreFree : List (List ℕ) → Type 0
AreFree ls = AllByRecursion IsFreeLine ls

-- ---- the characters of a line

line_good : (front back : List (List ℕ)) (line : List ℕ) (ls : List (List ℕ)) → AreFree ls → ls ≡ front ++ line ∷ back → IsFreeLine line
line_good front back line ls h e = (all_right IsFreeLine front (line ∷ back) (subst AreFree e h)).0

no_bad_byte : (t : List ℕ) → ArePrintable t → list_any is_bad_byte90 t ≡ false
no_bad_byte [] h = refl
no_bad_byte (c ∷ cs) h = let l : 32 ≤ c = h.0.0 in let u : c ≤ 126 = h.0.1 in both_false (is_bad_byte90 c) (list_any is_bad_byte90 cs) (both_false (nat_lt c 32) (nat_lt 126 c) (le-ltb c 32 l) (le-ltb 126 c u)) (no_bad_byte cs h.1)

-- the characters of a piece stand in its line
piece_printable : (p : LinePiece) → ArePrintable (written_piece p) → ArePrintable p.chars
piece_printable p h =
    all_left (λ c. (32 ≤ c) × (c ≤ 126)) p.chars (ampersand (p.is_continued && not p.is_single) ++ (p.behind ++ p.comment))
    (all_right (λ c. (32 ≤ c) × (c ≤ 126)) (ampersand p.is_pulled) _ (all_right (λ c. (32 ≤ c) × (c ≤ 126)) p.before _ h))

-- ---- the last line

abbrev has_ampersand : List ℕ → Bool
has_ampersand t = list_any (λ c. c == 38) t

behind_front : (xs ys : List ℕ) → has_ampersand ys ≡ true → has_ampersand (xs ++ ys) ≡ true
behind_front xs ys h = list_any-append (λ c. c == 38) xs ys ∙ or_right (has_ampersand xs) (has_ampersand ys) h

before_back : (xs ys : List ℕ) → has_ampersand xs ≡ true → has_ampersand (xs ++ ys) ≡ true
before_back xs ys h = list_any-append (λ c. c == 38) xs ys ∙ ap (λ b. b || has_ampersand ys) h

-- a line that is continued has an ampersand, which may be the one before its characters
continued_has : (p : LinePiece) → (single pulled : Bool) → p.is_single ≡ single → p.is_pulled ≡ pulled → p.is_continued ≡ true
    → IsTrue (not single || (pulled && (true && is_nothing p.chars))) → has_ampersand (written_piece p) ≡ true
continued_has p false pulled s q c h =
    behind_front p.before _ (behind_front (ampersand p.is_pulled) _ (behind_front p.chars _
    (before_back (ampersand (p.is_continued && not p.is_single)) (p.behind ++ p.comment) (ap₂ (λ a b. has_ampersand (ampersand (a && not b))) c s))))
continued_has p true true s q c h =
    behind_front p.before _ (before_back (ampersand p.is_pulled) _ (ap (λ b. has_ampersand (ampersand b)) q))
continued_has p true false s q c h = let k : false ≡ true = h in absurd cc

piece_has : (o : Bool) (p : LinePiece) → IsPiece o p → p.is_continued ≡ true → has_ampersand (written_piece p) ≡ true
piece_has o p h c =
    continued_has p p.is_single p.is_pulled refl refl c
    (subst (λ (b : Bool). IsTrue (not p.is_single || (p.is_pulled && (b && is_nothing p.chars)))) c h.single)

last_same : {A : Type 0} → (xs ys : List A) (x y : A) → xs ++ x ∷ [] ≡ ys ++ y ∷ [] → x ≡ y
last_same [] [] x y e = cc
last_same [] (z ∷ []) x y e = absurd (let l = ap length e in omega arith)
last_same [] (z ∷ w ∷ ys) x y e = absurd (let l = ap length e in omega arith)
last_same (z ∷ []) [] x y e = absurd (let l = ap length e in omega arith)
last_same (z ∷ w ∷ xs) [] x y e = absurd (let l = ap length e in omega arith)
last_same (z ∷ xs) (w ∷ ys) x y e = last_same xs ys x y (let f : xs ++ x ∷ [] ≡ ys ++ y ∷ [] = cc in f)

-- a line that is no comment and has no ampersand ends a statement
abbrev EndsStatement : List ℕ → Type 0
EndsStatement line = (is_comment_line line ≡ false) × (has_ampersand line ≡ false)

continues : (b : Bool) (n : ℕ) (s : LineState) (o : Bool) (initial : ℕ) (q : Bool) → (if b then Within n q else Between) ≡ Within initial o → b ≡ true
continues true n s o initial q e = refl
continues false n s o initial q e = cc

ended : (ls : List (List ℕ)) (s : LineState) → LeadTo ls s → (front : List (List ℕ)) (last : List ℕ) → ls ≡ front ++ last ∷ [] → EndsStatement last
    → (initial : ℕ) (o : Bool) → s ≡ Within initial o → ⊥
ended ls s nothing front last e h initial o f = cc
ended ls s (comment lead line t c k) front last e h initial o f =
    let same : line ≡ last = last_same lead front line last e in
    let g : is_comment_line last ≡ true = subst (λ (l : List ℕ). is_comment_line l ≡ true) same c in
    let z = h.0 in cc
ended ls s (piece lead p t i k) front last e h initial o f =
    let same : written_piece p ≡ last = last_same lead front (written_piece p) last e in
    let g : has_ampersand last ≡ true = subst (λ (l : List ℕ). has_ampersand l ≡ true) same (piece_has _ p i (continues p.is_continued _ t o initial _ f)) in
    let z = h.1 in cc

-- ---- the lines of a program

module _ (p : Program) (notes : List (List ℕ)) (good : AllByRecursion IsNote notes) (h : IsProgram90 p) where
  program_free : AreFree (lines (printed90 p notes))
  program_free = text_lines_free p notes h good (printed_is_spelled p h)

  are_lines : lines (printed90 p notes) ≡ program_lines p notes
  are_lines = same_lines p notes good (each_readable (printed_program p) (printed_is_spelled p h) (program_suits p h))

  abbrev before_end : List Printed
  before_end = unmarked (forms.Program (printed_title_of p.name)) ∷ unmarked forms.ImplicitNone ∷ (map printed_declaration p.declarations ++ printed_block p.body)

  ends_in_end : program_lines p notes ≡ (notes ++ flat_map printed_lines before_end) ++ codes "END" ∷ []
  ends_in_end =
      ap (λ ss. notes ++ flat_map printed_lines (unmarked (forms.Program (printed_title_of p.name)) ∷ unmarked forms.ImplicitNone ∷ ss)) (sym (append_assoc (map printed_declaration p.declarations) (printed_block p.body) (unmarked forms.End ∷ [])))
      ∙ (ap (λ ls. notes ++ ls) (flat_map-append printed_lines before_end (unmarked forms.End ∷ [])) ∙ sym (append_assoc notes (flat_map printed_lines before_end) (codes "END" ∷ [])))

  pub no_line_cause : (r : Refusal) → HasLineCause (printed90 p notes) r → ⊥
  no_line_cause r (HoldsBadByte front back q s e l i b) =
      let g = line_good front back (written_piece q) (lines (printed90 p notes)) program_free e in
      let f = no_bad_byte q.chars (piece_printable q g.printable) in
      let t : list_any is_bad_byte90 q.chars ≡ true = b in cc
  no_line_cause r (IsLong front back line e l) =
      let g = line_good front back line (lines (printed90 p notes)) program_free e in
      let w = g.within in omega arith
  no_line_cause r (EndsWithin initial o l) =
      ended (lines (printed90 p notes)) (Within initial o) l (notes ++ flat_map printed_lines before_end) (codes "END") (are_lines ∙ ends_in_end) (refl, refl) initial o refl
