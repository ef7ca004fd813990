-- No characters have two lists of symbols.
use Rattle.std.proofs.Common.{◌≡◌, ℕ, Bool, true, false, List, [], ◌∷◌, ◌++◌, refl, sym, ap, ◌∙◌, append_assoc, append-nil, arith}
use Rattle.std.proofs.lemmas.Bool.Decides.{nat_tests}
use Rattle.std.specs.Prelude.{◌==◌, if◌then◌else◌}
use Rattle.f90_grammar.specs.Words.{Symbol90, Char, Gap, Text, Symbols}
use Rattle.reading.specs.Characters.{upper, doubled, doubled_one, IsEnded}
use Rattle.f90_grammar.specs.Words.Symbols.{nothing, blank, line_end, character, constant}

-- outside constants; in one, with its text so far; behind an apostrophe in one
data Mode : Type 0 where
  Outside : Mode
  Inside : List ℕ → Mode
  Quoted : List ℕ → Mode

abbrev outside : ℕ → (Mode → List Symbol90) → List Symbol90
outside c on = if c == 32 then Gap ∷ on Outside else (if c == 10 then Gap ∷ on Outside else
    (if c == 39 then on (Inside []) else Char (upper c) ∷ on Outside))

abbrev scanned : ℕ → Mode → (Mode → List Symbol90) → List Symbol90
scanned c Outside on = outside c on
scanned c (Inside t) on = if c == 39 then on (Quoted t) else on (Inside (t ++ c ∷ []))
scanned c (Quoted t) on = if c == 39 then on (Inside (t ++ 39 ∷ [])) else Text t ∷ outside c on

abbrev at_end : Mode → List Symbol90
at_end (Quoted t) = Text t ∷ []
at_end m = []

abbrev scan : List ℕ → Mode → List Symbol90
scan [] m = at_end m
scan (c ∷ cs) m = scanned c m (scan cs)

inside_one : (b : Bool) (c : ℕ) (t cs : List ℕ) → (c == 39) ≡ b → scan (doubled_one b c ++ cs) (Inside t) ≡ scan cs (Inside (t ++ c ∷ []))
inside_one true c t cs e = rw e (ap (λ (x : ℕ). scan cs (Inside (t ++ x ∷ []))) (sym (apostrophe c e)))
  where
    apostrophe : (c : ℕ) → (c == 39) ≡ true → c ≡ 39
    apostrophe c e = grind (arith, nat_tests)
inside_one false c t cs e = rw e refl

inside : (u t cs : List ℕ) → scan (doubled u ++ 39 ∷ cs) (Inside t) ≡ scan cs (Quoted (t ++ u))
inside [] t cs = ap (λ (v : List ℕ). scan cs (Quoted v)) (sym (append-nil t))
inside (c ∷ u) t cs =
    ap (λ (v : List ℕ). scan v (Inside t)) (append_assoc (doubled_one (c == 39) c) (doubled u) (39 ∷ cs))
    ∙ (inside_one (c == 39) c t (doubled u ++ 39 ∷ cs) refl
    ∙ (inside u (t ++ c ∷ []) cs ∙ ap (λ (v : List ℕ). scan cs (Quoted v)) (append_assoc t (c ∷ []) u)))

quoted : (t cs : List ℕ) → IsEnded cs → scan cs (Quoted t) ≡ Text t ∷ scan cs Outside
quoted t [] h = refl
quoted t (c ∷ cs) h = rw h refl

scans : {cs : List ℕ} {ss : List Symbol90} → Symbols cs ss → scan cs Outside ≡ ss
scans nothing = refl
scans (blank r) = ap (λ (ss : List Symbol90). Gap ∷ ss) (scans r)
scans (line_end r) = ap (λ (ss : List Symbol90). Gap ∷ ss) (scans r)
scans (character c e f g r) = rw (e, f, g) (ap (λ (ss : List Symbol90). Char (upper c) ∷ ss) (scans r))
scans (constant c t {cs} {ss} l e r) =
    inside (c ∷ t) [] cs ∙ (quoted (c ∷ t) cs e ∙ ap (λ (us : List Symbol90). Text (c ∷ t) ∷ us) (scans r))

pub symbols_once : {cs : List ℕ} {ss ts : List Symbol90} → Symbols cs ss → Symbols cs ts → ss ≡ ts
symbols_once h k = sym (scans h) ∙ scans k
