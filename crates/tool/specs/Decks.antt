-- Which program each command reads from a deck, and why it refuses one.
use Rattle.std.specs.Prelude.{◌≡◌, ◌<◌, ◌≤◌, ℕ, List, length}
use Rattle.tree.specs.declared.refusals.Refusal.{Refusal}
use Rattle.tree.specs.Plain.{Program}
use Rattle.tree.specs.Limits.{deck_bytes, deck_bytes90}
use Rattle.meaning.specs.Deck.{source_of, data_line77, data_line90}
use Rattle.tree.specs.Causes.{refusal_at}
use Rattle.tree.specs.declared.refusals.Cause.TheVariants.{TooLong as TooLong'}
use Rattle.f77_grammar.specs.Reading77.{Reads77, Refused77}
use Rattle.f90_grammar.specs.Refusals.{Reads90, Refused90}
use Rattle.tool.specs.declared.commands.commands.Command.{Command}
use Rattle.tool.specs.declared.commands.commands.Command.TheVariants.{Vectorise, Graph, Run77, Run90}
use Rattle.meaning.specs.Dialect.{fortran77}
use Rattle.tree.specs.declared.width.Width.{Width}

-- ---- a deck of FORTRAN 77

-- within the limit of bytes, and its source is read as the program
pub record ReadsDeck77 (width : Width) (deck : List ℕ) (p : Program) : Type 0 where
  pub within : length deck ≤ deck_bytes
  pub source : Reads77 (fortran77 width) (source_of data_line77 deck) p

-- It is too long, or else its source is refused.
pub data RefusedDeck77 (width : Width) (deck : List ℕ) : Refusal → Type 0 where
  TooLong : deck_bytes < length deck → RefusedDeck77 width deck (refusal_at TooLong' 0)
  OfSource : (r : Refusal) → length deck ≤ deck_bytes → Refused77 (fortran77 width) (source_of data_line77 deck) r
      → RefusedDeck77 width deck r

-- ---- a deck of Fortran 90

-- the same
pub record ReadsDeck90 (deck : List ℕ) (p : Program) : Type 0 where
  pub within : length deck ≤ deck_bytes90
  pub source : Reads90 (source_of data_line90 deck) p

pub data RefusedDeck90 (deck : List ℕ) : Refusal → Type 0 where
  TooLong : deck_bytes90 < length deck → RefusedDeck90 deck (refusal_at TooLong' 0)
  OfSource : (r : Refusal) → length deck ≤ deck_bytes90 → Refused90 (source_of data_line90 deck) r
      → RefusedDeck90 deck r

-- ---- by command

-- how many bytes a deck may have
abbrev pub most_bytes : Command → ℕ
most_bytes (Vectorise w) = deck_bytes
most_bytes (Graph w) = deck_bytes
most_bytes (Run77 options) = deck_bytes
most_bytes (Run90 options) = deck_bytes90

abbrev pub Reads : Command → List ℕ → Program → Type 0
Reads (Vectorise w) = ReadsDeck77 w
Reads (Graph w) = ReadsDeck77 w
Reads (Run77 options) = ReadsDeck77 options.width
Reads (Run90 options) = ReadsDeck90

abbrev pub IsRefused : Command → List ℕ → Refusal → Type 0
IsRefused (Vectorise w) = RefusedDeck77 w
IsRefused (Graph w) = RefusedDeck77 w
IsRefused (Run77 options) = RefusedDeck77 options.width
IsRefused (Run90 options) = RefusedDeck90

-- the deck is read as this program and as no other, and it isn't refused
pub record IsReadAs (c : Command) (deck : List ℕ) (p : Program) : Type 0 where
  pub reads : Reads c deck p
  pub only : (q : Program) → Reads c deck q → q ≡ p
  pub accepted : (r : Refusal) → IsRefused c deck r → ⊥

-- the deck is refused so, and isn't read
pub record IsRefusedFor (c : Command) (r : Refusal) (deck : List ℕ) : Type 0 where
  pub refused : IsRefused c deck r
  pub unread : (p : Program) → Reads c deck p → ⊥
