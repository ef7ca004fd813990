-- What the words of a text do to the parentheses, and which signs stand outside these.
use Rattle.std.proofs.Common.{◌≡◌, ℕ, zero, suc, Bool, true, false, List, [], ◌∷◌, ◌++◌, refl}
use Rattle.f77_grammar.specs.expressions.Squeezing.{Symbol77, Char}
use Rattle.f77_grammar.specs.expressions.Words as words
use Rattle.f77_grammar.specs.expressions.Words.{Word77}

-- How many parentheses are open, whether an equals sign stood outside them, whether a comma did behind one, and whether a parenthesis closed none
pub record Marks : Type 0 where
  pub inside : ℕ
  pub equals : Bool
  pub comma : Bool
  pub unpaired : Bool

pub data Mark : Type 0 where
  Opening : Mark
  Closing : Mark
  Comma : Mark
  Equals : Mark
  Plain : Mark

abbrev pub mark_of : Word77 → Mark
mark_of (words.Number n) = Plain
mark_of words.Wide = Plain
mark_of (words.Truth b) = Plain
mark_of (words.Name x) = Plain
mark_of (words.Head x) = Opening
mark_of (words.Operator o) = Plain
mark_of words.Open = Opening
mark_of words.Close = Closing
mark_of words.Comma = Comma
mark_of words.Equals = Equals
mark_of words.Colon = Plain
mark_of (words.Constant t) = Plain

-- the symbol at a word's end that counts
abbrev pub sign_of : Mark → List Symbol77
sign_of Opening = Char 40 ∷ []
sign_of Closing = Char 41 ∷ []
sign_of Comma = Char 44 ∷ []
sign_of Equals = Char 61 ∷ []
sign_of Plain = []

abbrev pub close_at : ℕ → Marks → Marks
close_at zero m = record m { unpaired = true }
close_at (suc n) m = record m { inside = n }

abbrev pub equals_at : ℕ → Marks → Marks
equals_at zero m = record m { equals = true }
equals_at (suc n) m = m

abbrev pub comma_at : ℕ → Bool → Marks → Marks
comma_at zero true m = record m { comma = true }
comma_at zero false m = m
comma_at (suc n) b m = m

abbrev pub marked : Mark → Marks → Marks
marked Opening m = record m { inside = suc m.inside }
marked Closing m = close_at m.inside m
marked Comma m = comma_at m.inside m.equals m
marked Equals m = equals_at m.inside m
marked Plain m = m

abbrev pub mark : Marks → Word77 → Marks
mark m w = marked (mark_of w) m

abbrev pub marks : Marks → List Word77 → Marks
marks m [] = m
marks m (w ∷ ws) = marks (mark m w) ws

abbrev pub made : ℕ → Bool → Bool → Bool → Marks
made n e c u = record { inside = n; equals = e; comma = c; unpaired = u }

abbrev pub none : Marks
none = made 0 false false false

abbrev pub deeper : Marks → Marks
deeper m = record m { inside = suc m.inside }

pub marks_append : (m : Marks) (a b : List Word77) → marks m (a ++ b) ≡ marks (marks m a) b
marks_append m [] b = refl
marks_append m (w ∷ a) b = marks_append (mark m w) a b
