-- What stands behind the parenthesis that closes a list: an expression closes each parenthesis that it opens.
use Rattle.std.proofs.Common.{◌≡◌, ℕ, zero, suc, List, [], ◌∷◌, ◌++◌, refl, ap, ◌∙◌, append_assoc}
use Rattle.f90_grammar.specs.Words.{Word90}
use Rattle.f90_grammar.specs.Words as words
use Rattle.f90_grammar.specs.Phrases.{Phrase90, Literal, Truth, Name, Listed, Paren, Signed, Joined, Values, Looped, ListPart, Value, Range, Strided, ListParts, One, Then, Phrases90, Sole, More, Turn, Innermost, Round, written90, written_part, written_parts, written_values, written_turn}
use Rattle.f90_grammar.specs.Forms.{followed90, separated90, written_extent}

-- the words behind the parenthesis that closes the innermost but n of those that are open
abbrev pub after : List Word90 → ℕ → List Word90
after [] n = []
after (words.Head x ∷ ws) n = after ws (suc n)
after (words.Open ∷ ws) n = after ws (suc n)
after (words.Close ∷ ws) zero = ws
after (words.Close ∷ ws) (suc n) = after ws n
after (w ∷ ws) n = after ws n

grouped : (a b r : List Word90) (n : ℕ) → after ((a ++ b) ++ r) n ≡ after (a ++ (b ++ r)) n
grouped a b r n = ap (λ (q : List Word90). after q n) (append_assoc a b r)

abbrev loop_end : List ℕ → Phrase90 → Phrase90 → List Word90
loop_end x a b = words.Comma ∷ (words.Name x ∷ (words.Equals ∷ (written90 a ++ words.Comma ∷ (written90 b ++ words.Close ∷ []))))

abbrev Passes : Phrase90 → Type 0
Passes p = (r : List Word90) (n : ℕ) → after (written90 p ++ r) n ≡ after r n

passes_bounds : (a b : Phrase90) (r : List Word90) (n : ℕ) → Passes a → Passes b
    → after ((written90 a ++ words.Comma ∷ (written90 b ++ words.Close ∷ [])) ++ r) (suc n) ≡ after r n
passes_bounds a b r n pa pb =
    grouped (written90 a) (words.Comma ∷ (written90 b ++ words.Close ∷ [])) r (suc n)
    ∙ (pa (words.Comma ∷ ((written90 b ++ words.Close ∷ []) ++ r)) (suc n)
    ∙ (grouped (written90 b) (words.Close ∷ []) r (suc n) ∙ pb (words.Close ∷ r) (suc n)))

mutual
  pub passes : (p : Phrase90) (r : List Word90) (n : ℕ) → after (written90 p ++ r) n ≡ after r n
  passes (Literal t) r n = refl
  passes (Truth b) r n = refl
  passes (Name x) r n = refl
  passes (Listed x ps) r n = grouped (written_parts ps) (words.Close ∷ []) r (suc n) ∙ passes_parts ps (words.Close ∷ r) (suc n)
  passes (Paren p) r n = grouped (written90 p) (words.Close ∷ []) r (suc n) ∙ passes p (words.Close ∷ r) (suc n)
  passes (Signed s p) r n = passes p r n
  passes (Joined o a b) r n = grouped (written90 a) (words.Operator o ∷ written90 b) r n
      ∙ (passes a (words.Operator o ∷ (written90 b ++ r)) n ∙ passes b r n)
  passes (Values ps) r n = grouped (written_values ps) (words.CloseList ∷ []) r n ∙ passes_values ps (words.CloseList ∷ r) n
  passes (Looped t) r n = grouped (written_turn t) (words.CloseList ∷ []) r n ∙ passes_turn t (words.CloseList ∷ r) n

  passes_part : (p : ListPart) (r : List Word90) (n : ℕ) → after (written_part p ++ r) n ≡ after r n
  passes_part (Value p) r n = passes p r n
  passes_part (Range a b) r n = grouped (written90 a) (words.Colon ∷ written90 b) r n ∙ (passes a (words.Colon ∷ (written90 b ++ r)) n ∙ passes b r n)
  passes_part (Strided a b c) r n =
      grouped (written90 a) (words.Colon ∷ (written90 b ++ words.Colon ∷ written90 c)) r n
      ∙ (passes a (words.Colon ∷ ((written90 b ++ words.Colon ∷ written90 c) ++ r)) n
      ∙ (grouped (written90 b) (words.Colon ∷ written90 c) r n ∙ (passes b (words.Colon ∷ (written90 c ++ r)) n ∙ passes c r n)))

  pub passes_parts : (ps : ListParts) (r : List Word90) (n : ℕ) → after (written_parts ps ++ r) n ≡ after r n
  passes_parts (One p) r n = passes_part p r n
  passes_parts (Then ps p) r n = grouped (written_parts ps) (words.Comma ∷ written_part p) r n
      ∙ (passes_parts ps (words.Comma ∷ (written_part p ++ r)) n ∙ passes_part p r n)

  passes_values : (ps : Phrases90) (r : List Word90) (n : ℕ) → after (written_values ps ++ r) n ≡ after r n
  passes_values (Sole p) r n = passes p r n
  passes_values (More ps p) r n = grouped (written_values ps) (words.Comma ∷ written90 p) r n
      ∙ (passes_values ps (words.Comma ∷ (written90 p ++ r)) n ∙ passes p r n)

  passes_turn : (t : Turn) (r : List Word90) (n : ℕ) → after (written_turn t ++ r) n ≡ after r n
  passes_turn (Innermost p x a b) r n =
      grouped (written90 p) (loop_end x a b) r (suc n)
      ∙ (passes p (loop_end x a b ++ r) (suc n) ∙ passes_bounds a b r n (λ q m. passes a q m) (λ q m. passes b q m))
  passes_turn (Round t x a b) r n =
      grouped (written_turn t) (loop_end x a b) r (suc n)
      ∙ (passes_turn t (loop_end x a b ++ r) (suc n) ∙ passes_bounds a b r n (λ q m. passes a q m) (λ q m. passes b q m))

passes_followed : (es : List Phrase90) (r : List Word90) (n : ℕ) → after (followed90 written_extent es ++ r) n ≡ after r n
passes_followed [] r n = refl
passes_followed (e ∷ es) r n =
    grouped (written90 e) (followed90 written_extent es) r n ∙ (passes e (followed90 written_extent es ++ r) n ∙ passes_followed es r n)

pub passes_extents : (es : List Phrase90) (r : List Word90) (n : ℕ) → after (separated90 written_extent es ++ r) n ≡ after r n
passes_extents [] r n = refl
passes_extents (e ∷ es) r n =
    grouped (written90 e) (followed90 written_extent es) r n ∙ (passes e (followed90 written_extent es ++ r) n ∙ passes_followed es r n)
