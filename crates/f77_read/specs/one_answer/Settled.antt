-- Characters that are read as a statement or refused, and in one way alone.
use Rattle.std.specs.Prelude.{◌≡◌, ◌⊎◌, ℕ, List}
use Rattle.f77_grammar.specs.Statement77.{Statement77}
use Rattle.f77_grammar.specs.statements.Reading.{ReadsStatement, IsRefusedBy}

pub record IsSettled (chars : List ℕ) : Type 0 where
  pub either : ((s : Statement77) × ReadsStatement chars s)
      ⊎ ((number : ℕ) × (word : ℕ) × IsRefusedBy chars number word)
  pub not_both : (s : Statement77) (number word : ℕ) → ReadsStatement chars s → IsRefusedBy chars number word → ⊥
  pub one_statement : (s t : Statement77) → ReadsStatement chars s → ReadsStatement chars t → s ≡ t
  pub one_number : (n w m v : ℕ) → IsRefusedBy chars n w → IsRefusedBy chars m v → n ≡ m
  pub one_word : (n w m v : ℕ) → IsRefusedBy chars n w → IsRefusedBy chars m v → w ≡ v

abbrev pub AllAreSettled : Type 0
AllAreSettled = (chars : List ℕ) → IsSettled chars
