-- Which parentheses have a comma in them: no expression's, and each that begins a list.
use Rattle.std.proofs.Common.{◌≡◌, ℕ, zero, suc, Bool, false, List, [], ◌∷◌, ◌++◌, refl, ap, sym, ◌∙◌, append_assoc, Option, Some, None}
use Rattle.std.specs.Prelude.{reverse}
use Rattle.std.proofs.lemmas.List.{reverse-append}
use Rattle.f90_grammar.specs.Words as words
use Rattle.f90_grammar.specs.Words.{Word90}
use Rattle.f90_grammar.specs.Phrases.{Phrase90, Literal, Truth, Name, Listed, Paren, Signed, Joined, Values, Looped, ListPart, Value, Range, Strided, ListParts, One, Then, Phrases90, Sole, More, Turn, Innermost, Round, written90, written_part, written_parts, written_values, written_turn}
use Rattle.f90_grammar.specs.Items.{written_step90, written_bounds90}
use Rattle.f90_statement.specs.items.Commas.{has_comma, level_of, out_of, before_word, AreLevels}

-- ---- from the last word back

out_level : (bs : List Bool) (n : ℕ) → level_of (out_of bs) n ≡ level_of bs (suc n)
out_level [] n = refl
out_level (b ∷ bs) n = refl

opened : (bs : List Bool) (ws : List Word90) → AreLevels bs ws → (n : ℕ) → level_of (out_of bs) n ≡ has_comma ws (suc n)
opened bs ws h n = out_level bs n ∙ h (suc n)

pub no_levels : AreLevels [] []
no_levels n = refl

pub levels_back : (w : Word90) (bs : List Bool) (ws : List Word90) → AreLevels bs ws → AreLevels (before_word w bs) (w ∷ ws)
levels_back (words.Head x) bs ws h n = opened bs ws h n
levels_back words.Open bs ws h n = opened bs ws h n
levels_back words.OpenList bs ws h n = opened bs ws h n
levels_back words.Close bs ws h zero = refl
levels_back words.Close bs ws h (suc n) = h n
levels_back words.CloseList bs ws h zero = refl
levels_back words.CloseList bs ws h (suc n) = h n
levels_back words.Comma bs ws h zero = refl
levels_back words.Comma bs ws h (suc n) = opened bs ws h n
levels_back w bs ws h n = h n

-- ---- expressions close what they open

grouped : (a b r : List Word90) (n : ℕ) → has_comma ((a ++ b) ++ r) n ≡ has_comma (a ++ (b ++ r)) n
grouped a b r n = ap (λ (q : List Word90). has_comma q n) (append_assoc a b r)

abbrev Passes : Phrase90 → Type 0
Passes p = (r : List Word90) (n : ℕ) → has_comma (written90 p ++ r) n ≡ has_comma r n

passes_bounds : (a b : Phrase90) (r : List Word90) (n : ℕ) → Passes a → Passes b
    → has_comma ((written90 a ++ words.Comma ∷ (written90 b ++ words.Close ∷ [])) ++ r) (suc n) ≡ has_comma r n
passes_bounds a b r n pa pb =
    grouped (written90 a) (words.Comma ∷ (written90 b ++ words.Close ∷ [])) r (suc n)
    ∙ (pa (words.Comma ∷ ((written90 b ++ words.Close ∷ []) ++ r)) (suc n)
    ∙ (grouped (written90 b) (words.Close ∷ []) r (suc n) ∙ pb (words.Close ∷ r) (suc n)))

abbrev loop_end : List ℕ → Phrase90 → Phrase90 → List Word90
loop_end x a b = words.Comma ∷ (words.Name x ∷ (words.Equals ∷ (written90 a ++ words.Comma ∷ (written90 b ++ words.Close ∷ []))))

mutual
  pub passes : (p : Phrase90) (r : List Word90) (n : ℕ) → has_comma (written90 p ++ r) n ≡ has_comma r n
  passes (Literal t) r n = refl
  passes (Truth b) r n = refl
  passes (Name x) r n = refl
  passes (Listed x ps) r n = grouped (written_parts ps) (words.Close ∷ []) r (suc n) ∙ passes_parts ps (words.Close ∷ r) n
  passes (Paren p) r n = grouped (written90 p) (words.Close ∷ []) r (suc n) ∙ passes p (words.Close ∷ r) (suc n)
  passes (Signed s p) r n = passes p r n
  passes (Joined o a b) r n = grouped (written90 a) (words.Operator o ∷ written90 b) r n
      ∙ (passes a (words.Operator o ∷ (written90 b ++ r)) n ∙ passes b r n)
  passes (Values ps) r n = grouped (written_values ps) (words.CloseList ∷ []) r (suc n) ∙ passes_values ps (words.CloseList ∷ r) n
  passes (Looped t) r n = grouped (written_turn t) (words.CloseList ∷ []) r (suc n) ∙ passes_turn t (words.CloseList ∷ r) (suc n)

  passes_part : (p : ListPart) (r : List Word90) (n : ℕ) → has_comma (written_part p ++ r) n ≡ has_comma r n
  passes_part (Value p) r n = passes p r n
  passes_part (Range a b) r n = grouped (written90 a) (words.Colon ∷ written90 b) r n ∙ (passes a (words.Colon ∷ (written90 b ++ r)) n ∙ passes b r n)
  passes_part (Strided a b c) r n =
      grouped (written90 a) (words.Colon ∷ (written90 b ++ words.Colon ∷ written90 c)) r n
      ∙ (passes a (words.Colon ∷ ((written90 b ++ words.Colon ∷ written90 c) ++ r)) n
      ∙ (grouped (written90 b) (words.Colon ∷ written90 c) r n ∙ (passes b (words.Colon ∷ (written90 c ++ r)) n ∙ passes c r n)))

  -- in a parenthesis
  passes_parts : (ps : ListParts) (r : List Word90) (n : ℕ) → has_comma (written_parts ps ++ r) (suc n) ≡ has_comma r (suc n)
  passes_parts (One p) r n = passes_part p r (suc n)
  passes_parts (Then ps p) r n = grouped (written_parts ps) (words.Comma ∷ written_part p) r (suc n)
      ∙ (passes_parts ps (words.Comma ∷ (written_part p ++ r)) n ∙ passes_part p r (suc n))

  passes_values : (ps : Phrases90) (r : List Word90) (n : ℕ) → has_comma (written_values ps ++ r) (suc n) ≡ has_comma r (suc n)
  passes_values (Sole p) r n = passes p r (suc n)
  passes_values (More ps p) r n = grouped (written_values ps) (words.Comma ∷ written90 p) r (suc n)
      ∙ (passes_values ps (words.Comma ∷ (written90 p ++ r)) n ∙ passes p r (suc n))

  passes_turn : (t : Turn) (r : List Word90) (n : ℕ) → has_comma (written_turn t ++ r) n ≡ has_comma r n
  passes_turn (Innermost p x a b) r n =
      grouped (written90 p) (loop_end x a b) r (suc n)
      ∙ (passes p (loop_end x a b ++ r) (suc n) ∙ passes_bounds a b r n (λ q k. passes a q k) (λ q k. passes b q k))
  passes_turn (Round t x a b) r n =
      grouped (written_turn t) (loop_end x a b) r (suc n)
      ∙ (passes_turn t (loop_end x a b ++ r) (suc n) ∙ passes_bounds a b r n (λ q k. passes a q k) (λ q k. passes b q k))

-- in a parenthesis too
pub passes_step : (c : Option Phrase90) (r : List Word90) (n : ℕ) → has_comma (written_step90 c ++ r) (suc n) ≡ has_comma r (suc n)
passes_step None r n = refl
passes_step (Some p) r n = passes p r (suc n)

pub passes_control : (a b : Phrase90) (c : Option Phrase90) (r : List Word90) (n : ℕ) → has_comma (written_bounds90 a b c ++ r) (suc n) ≡ has_comma r (suc n)
passes_control a b c r n =
    grouped (written90 a) (words.Comma ∷ (written90 b ++ written_step90 c)) r (suc n)
    ∙ (passes a (words.Comma ∷ ((written90 b ++ written_step90 c) ++ r)) (suc n)
    ∙ (grouped (written90 b) (written_step90 c) r (suc n) ∙ (passes b (written_step90 c ++ r) (suc n) ∙ passes_step c r n)))

-- ---- words that begin an expression

-- a parenthesis that begins an expression has no comma
pub no_list : (p : Phrase90) (r us : List Word90) → written90 p ++ r ≡ words.Open ∷ us → has_comma us 0 ≡ false
no_list (Literal t) r us e = absurd (cc)
no_list (Truth b) r us e = absurd (cc)
no_list (Name x) r us e = absurd (cc)
no_list (Listed x ps) r us e = absurd (cc)
no_list (Paren p) r us e =
    let d : us ≡ (written90 p ++ words.Close ∷ []) ++ r = cc e in
    ap (λ (q : List Word90). has_comma q 0) d ∙ (grouped (written90 p) (words.Close ∷ []) r 0 ∙ passes p (words.Close ∷ r) 0)
no_list (Signed s p) r us e = absurd (cc)
no_list (Joined o a b) r us e = no_list a (words.Operator o ∷ (written90 b ++ r)) us (sym (append_assoc (written90 a) (words.Operator o ∷ written90 b) r) ∙ e)
no_list (Values ps) r us e = absurd (cc)
no_list (Looped t) r us e = absurd (cc)

-- no expression begins with a constant
pub no_text : {P : Type 0} (p : Phrase90) (r us : List Word90) (t : List ℕ) → written90 p ++ r ≡ words.Constant t ∷ us → P
no_text (Literal u) r us t e = absurd (cc)
no_text (Truth b) r us t e = absurd (cc)
no_text (Name x) r us t e = absurd (cc)
no_text (Listed x ps) r us t e = absurd (cc)
no_text (Paren p) r us t e = absurd (cc)
no_text (Signed s p) r us t e = absurd (cc)
no_text (Joined o a b) r us t e = no_text a (words.Operator o ∷ (written90 b ++ r)) us t (sym (append_assoc (written90 a) (words.Operator o ∷ written90 b) r) ∙ e)
no_text (Values ps) r us t e = absurd (cc)
no_text (Looped u) r us t e = absurd (cc)

-- ---- the levels that the code holds, the innermost last

pub level_push : (bs : List Bool) (b : Bool) → reverse (bs ++ b ∷ []) ≡ b ∷ reverse bs
level_push bs b = reverse-append bs (b ∷ [])

pub level_left : (bs : List Bool) (b : Bool) → out_of (reverse (bs ++ b ∷ [])) ≡ reverse bs
level_left bs b = ap out_of (level_push bs b)

pub level_first : (bs : List Bool) (b : Bool) → level_of (reverse (bs ++ b ∷ [])) 0 ≡ b
level_first bs b = ap (λ (q : List Bool). level_of q 0) (level_push bs b)

pub ruleset stacks = (level_push, level_left, level_first)
