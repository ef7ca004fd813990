-- What the words after the program's name ask for.
use Rattle.std.specs.Prelude.{ℕ, ◌^◌, List, [], ◌∷◌, map, length, drop, codes, string_bytes, String, true, false, ◌&&◌}
use Rattle.std.specs.Prelude.{◌==◌, Bool, nat_eq, nat_le, nat_lt, Option, None, Some, is_some, if◌then◌else◌}
use Rattle.std.specs.Char.{is_ascii_digit}
use Rattle.std.specs.List.{list_all, starts_with}
use Rattle.std.specs.Option.{option_map}
use Rattle.std.specs.Str.{bytes_eq}
use Rattle.std.specs.Str.Parse.{digits_value}
use Rattle.std.specs.declared.alloc.Global.{Global}
use Rattle.tree.specs.declared.width.Width.{Width}
use Rattle.tree.specs.declared.width.Width.TheVariants.{Plain, Wide}
use Rattle.tool.specs.declared.commands.commands.Options.{Options}
use Rattle.tool.specs.declared.commands.commands.Command.{Command}
use Rattle.tool.specs.declared.commands.commands.Command.TheVariants.{Vectorise, Graph, Run77, Run90}
use Rattle.tool.specs.declared.commands.commands.Request.{Request}
use Rattle.tool.specs.declared.commands.commands.Request.TheVariants.{OnDeck, Make}
use Rattle.generator.specs.Decks.{most_nests}

abbrev pub texts : List (String Global) → List (List ℕ)
texts words = map (λ word. string_bytes word) words

-- the number of 1 to 20 digits, which is at most 2 ^ 64 - 1
abbrev pub number_of_word : List ℕ → Option ℕ
number_of_word word =
    if list_all is_ascii_digit word && nat_le 1 (length word) && nat_le (length word) 20
    && nat_lt (digits_value 10 word) (2 ^ 64)
    then Some (digits_value 10 word) else None

abbrev pub no_options : Options
no_options = record { width = Plain; final_store = false; steps = None }

abbrev pub is_wide : Width → Bool
is_wide Plain = false
is_wide Wide = true

-- these options and `--wide`, which doesn't stand among them
abbrev pub and_wide : Option Options → Option Options
and_wide None = None
and_wide (Some options) =
    if is_wide options.width then None
    else Some (record { width = Wide; final_store = options.final_store; steps = options.steps })

-- these options and `--final`, which doesn't stand among them
abbrev pub and_final : Option Options → Option Options
and_final None = None
and_final (Some options) =
    if options.final_store then None else Some
    (record { width = options.width; final_store = true; steps = options.steps })

-- these options and `--steps`, which doesn't stand among them, with its number
abbrev pub and_steps : Option ℕ → Option Options → Option Options
and_steps None options = None
and_steps (Some n) None = None
and_steps (Some n) (Some options) =
    if is_some options.steps then None
    else Some (record { width = options.width; final_store = options.final_store; steps = Some n })

-- the number of the word `--steps=` with a number
abbrev pub attached_number : List ℕ → Option ℕ
attached_number word = if starts_with nat_eq word (codes "--steps=") then number_of_word (drop 8 word) else None

-- these options and the one that is a word by itself
abbrev pub and_option : List ℕ → Option Options → Option Options
and_option word options =
    if bytes_eq word (codes "--final") then and_final options
    else if bytes_eq word (codes "--wide") then and_wide options
    else and_steps (attached_number word) options

abbrev pub options_of : List (List ℕ) → Option Options
options_of [] = Some no_options
options_of (word ∷ []) = and_option word (Some no_options)
options_of (word ∷ number ∷ words) =
    if bytes_eq word (codes "--steps") then and_steps (number_of_word number) (options_of words)
    else and_option word (options_of (number ∷ words))

-- the width that the words behind `vectorise` or `graph` ask for: that of `--wide`, if they are that word alone
abbrev pub width_of : List (List ℕ) → Option Width
width_of [] = Some Plain
width_of (word ∷ words) =
    if length words == 0 then (if bytes_eq word (codes "--wide") then Some Wide else None) else None

-- the command of these words that is given a deck, or none
abbrev pub command_of : List (List ℕ) → Option Command
command_of [] = None
command_of (word ∷ words) =
    if bytes_eq word (codes "vectorise") then option_map Vectorise (width_of words)
    else if bytes_eq word (codes "graph") then option_map Graph (width_of words)
    else if bytes_eq word (codes "run77") then option_map Run77 (options_of words)
    else (if bytes_eq word (codes "run90") then option_map Run90 (options_of words) else None)

-- ---- the command `make N`, which is given no deck

-- one to so many nests
abbrev pub few_nests : Option ℕ → Option ℕ
few_nests None = None
few_nests (Some n) = if nat_le 1 n && nat_le n most_nests then Some n else None

-- how many nests the words behind `make` ask for
abbrev pub nests_asked_for : List (List ℕ) → Option ℕ
nests_asked_for [] = None
nests_asked_for (word ∷ words) = if length words == 0 then few_nests (number_of_word word) else None

-- what these words ask for, or nothing
abbrev pub request_of : List (List ℕ) → Option Request
request_of [] = None
request_of (word ∷ words) =
    if bytes_eq word (codes "make") then option_map Make (nests_asked_for words)
    else option_map OnDeck (command_of (word ∷ words))
