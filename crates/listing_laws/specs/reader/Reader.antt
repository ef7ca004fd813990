-- A reader of listings: what each text of one tells.
use Rattle.std.specs.Prelude.{ℕ, ◌-◌, ◌==◌, ℤ, pos, neg_ℤ, Bool, if◌then◌else◌, Option, Some, None}
use Rattle.std.specs.Prelude.{List, [], ◌∷◌, ◌++◌, map, take, drop, length, codes, reverse}
use Rattle.std.specs.Str.{bytes_eq}
use Rattle.std.specs.Str.Parse.{digits_value}
use Rattle.subscripts.specs.declared.affine.Dir.{Dir}
use Rattle.subscripts.specs.declared.affine.Dir.TheVariants.{Lt, Eq, Gt, Any}
use Rattle.subscripts.specs.declared.verdict.Test.{Test}
use Rattle.subscripts.specs.declared.verdict.Test.TheVariants.{Trip, Scalar, Ziv, Strong, WeakZero, Crossing}
use Rattle.subscripts.specs.declared.verdict.Test.TheVariants.{Siv, Delta, Gcd, Range, Miv, Unknown}
use Rattle.dependence_graph.specs.declared.graphs.Dep.{Dep}
use Rattle.dependence_graph.specs.declared.graphs.Dep.TheVariants.{Flow, Anti, Output}
use Rattle.dependence_graph.specs.declared.graphs.HoldReason.{HoldReason}
use Rattle.dependence_graph.specs.declared.graphs.HoldReason.TheVariants.{Form, Triangle, Bounds}
use Rattle.dependence_graph.specs.declared.graphs.Place.{Place}
use Rattle.listing.specs.graphs.Words.{kind_word, test_word, hold_word, direction_sign}
use Rattle.listing.specs.graphs.Lines.{Dependence, Meeting, Entry, NestEntry, LoopEntry, StatementEntry, EdgeEntry}
use Rattle.listing.specs.graphs.Lines.{DropEntry, HoldEntry, CycleEntry, KeepEntry}

-- ---- texts in parts

-- up to a byte, and what stands behind it
abbrev pub until : ℕ → List ℕ → List ℕ
until c [] = []
until c (x ∷ xs) = if x == c then [] else x ∷ until c xs

abbrev pub rest_behind : ℕ → List ℕ → List ℕ
rest_behind c [] = []
rest_behind c (x ∷ xs) = if x == c then xs else rest_behind c xs

-- up to the first blank, and what stands behind it
abbrev pub word : List ℕ → List ℕ
word t = until 32 t

abbrev pub rest : List ℕ → List ℕ
rest t = rest_behind 32 t

-- behind the last blank, and up to it
abbrev pub last_word : List ℕ → List ℕ
last_word t = reverse (until 32 (reverse t))

abbrev pub before_last : List ℕ → List ℕ
before_last t = reverse (rest_behind 32 (reverse t))

abbrev pub onto : ℕ → List (List ℕ) → List (List ℕ)
onto x [] = (x ∷ []) ∷ []
onto x (t ∷ ts) = (x ∷ t) ∷ ts

-- what stands between such bytes
abbrev pub split : ℕ → List ℕ → List (List ℕ)
split c [] = [] ∷ []
split c (x ∷ xs) = if x == c then [] ∷ split c xs else onto x (split c xs)

abbrev pub or_nothing : {A : Type 0} → (List ℕ → List A) → List ℕ → List A
or_nothing f [] = []
or_nothing f (c ∷ cs) = f (c ∷ cs)

-- within parentheses
abbrev pub inner : List ℕ → List ℕ
inner t = take (length t - 2) (drop 1 t)

-- a list in parentheses, with commas
abbrev pub tuple : {A : Type 0} → (List ℕ → A) → List ℕ → List A
tuple read t = or_nothing (λ u. map read (split 44 u)) (inner t)

-- ---- numbers and words

abbrev pub number_read : List ℕ → ℕ
number_read t = digits_value 10 t

abbrev pub signed_number_read : List ℕ → ℤ
signed_number_read [] = pos 0
signed_number_read (c ∷ cs) = if c == 45 then neg_ℤ (pos (number_read cs)) else pos (number_read (c ∷ cs))

-- of the values, the one with this text
abbrev pub value_with_text : {A : Type 0} → (A → List ℕ) → List A → List ℕ → Option A
value_with_text text [] t = None
value_with_text text (x ∷ xs) t = if bytes_eq (text x) t then Some x else value_with_text text xs t

abbrev pub dependence_kinds : List Dep
dependence_kinds = Flow ∷ Anti ∷ Output ∷ []

abbrev pub tests : List Test
tests =
    Trip ∷ Scalar ∷ Ziv ∷ Strong ∷ WeakZero ∷ Crossing ∷ Siv ∷ Delta ∷ Gcd ∷ Range ∷ Miv ∷ Unknown ∷ []

abbrev pub hold_reasons : List HoldReason
hold_reasons = Form ∷ Triangle ∷ Bounds ∷ []

abbrev pub sign : List ℕ → Dir
sign t = elim (value_with_text direction_sign (Lt ∷ Eq ∷ Gt ∷ []) t) [ Some d ↦ d | None ↦ Any ]

-- the number of a statement behind its letter
abbrev pub statement_number_read : List ℕ → ℕ
statement_number_read t = number_read (drop 1 t)

abbrev pub place : List ℕ → Place
place t = record { stmt = statement_number_read (until 46 t) - 1; at = number_read (rest_behind 46 t) }

-- a level, or the word of a loop independent dependence, which begins with a letter
abbrev pub level_read : List ℕ → ℕ
level_read [] = 0
level_read (c ∷ cs) = if c == 73 then 0 else number_read (c ∷ cs)

-- a pair of iterations, or the word in its place
abbrev pub meeting : List ℕ → Option Meeting
meeting [] = None
meeting (c ∷ cs) =
    if c == 65 then None
    else Some (record {
      first = tuple signed_number_read (word (c ∷ cs));
      second = tuple signed_number_read
          (rest (c ∷ cs));
    })

-- ---- entries

abbrev pub dependence : List ℕ → Dep → Dependence
dependence t kind = record {
  from = place (word t);
  to = place (word (rest t));
  kind = kind;
  array = word (rest (rest (rest t)));
  directions = tuple sign (word (rest (rest (rest (rest t)))));
}

-- what stands behind a dependence
abbrev pub behind_dependence : List ℕ → List ℕ
behind_dependence t = rest (rest (rest (rest (rest t))))

abbrev pub kind_in : List ℕ → Option Dep
kind_in t = value_with_text kind_word dependence_kinds (word (rest (rest t)))

abbrev pub edge_read : List ℕ → Option Dep → Option Test → Option Entry
edge_read t (Some kind) (Some test) =
    Some (EdgeEntry (dependence t kind) (level_read (word (behind_dependence t))) test
    (meeting (rest (rest (behind_dependence t)))))
edge_read t (Some kind) None = None
edge_read t None test = None

abbrev pub drop_with : List ℕ → Option Dep → Option Test → Option Entry
drop_with t (Some kind) (Some test) = Some (DropEntry (dependence t kind) test)
drop_with t (Some kind) None = None
drop_with t None test = None

abbrev pub hold_read : List ℕ → Option HoldReason → Option Entry
hold_read t (Some r) =
    Some (HoldEntry (record { stmt = statement_number_read (word t); level = number_read (word (rest t)); reason = r }))
hold_read t None = None

-- behind the first word
abbrev pub nest_in : List ℕ → Option Entry
nest_in t = Some (NestEntry (number_read (word t)) (number_read (rest (rest t))))

abbrev pub loop_in : List ℕ → Option Entry
loop_in t =
    Some (LoopEntry (number_read (word t)) (word (rest t)) (before_last (before_last (rest (rest (rest t)))))
    (number_read (last_word (rest (rest (rest t))))))

abbrev pub statement_in : List ℕ → Option Entry
statement_in t =
    Some (StatementEntry (statement_number_read (word t)) (tuple number_read (word (rest t))) (rest (rest t)))

abbrev pub edge_in : List ℕ → Option Entry
edge_in t = edge_read t (kind_in t) (value_with_text test_word tests (word (rest (behind_dependence t))))

abbrev pub drop_in : List ℕ → Option Entry
drop_in t = drop_with t (kind_in t) (value_with_text test_word tests (behind_dependence t))

abbrev pub hold_in : List ℕ → Option Entry
hold_in t = hold_read t (value_with_text hold_word hold_reasons (rest (rest t)))

-- the numbers of statements between blanks
abbrev pub walk_in : List ℕ → List ℕ
walk_in t = or_nothing (λ u. map statement_number_read (split 32 u)) t

abbrev pub cycle_in : List ℕ → Option Entry
cycle_in t = Some (CycleEntry (number_read (word t)) (walk_in (rest t)))

abbrev pub keep_in : List ℕ → Option Entry
keep_in t = Some (KeepEntry (number_read (word t)) (rest t))

-- by the first word
abbrev pub entry_by : List ℕ → List ℕ → Option Entry
entry_by w t =
    if bytes_eq w (codes "NEST") then nest_in t
    else if bytes_eq w (codes "LOOP") then loop_in t
    else if bytes_eq w (codes "STMT") then statement_in t
    else if bytes_eq w (codes "EDGE") then edge_in t
    else if bytes_eq w (codes "DROP") then drop_in t
    else if bytes_eq w (codes "HOLD") then hold_in t
    else if bytes_eq w (codes "CYCLE") then cycle_in t
    else if bytes_eq w (codes "KEEP") then keep_in t
    else None

abbrev pub read_entry : List ℕ → Option Entry
read_entry t = entry_by (word t) (rest t)

-- ---- lines: one that begins with a plus sign goes on with the text before it

abbrev pub continues : List ℕ → Bool
continues line = bytes_eq (take 4 line) (codes "!G +")

-- what the lines add to the text before them
abbrev pub more_of : List (List ℕ) → List ℕ
more_of [] = []
more_of (line ∷ lines) = if continues line then drop 5 line ++ more_of lines else []

abbrev pub texts_of : List (List ℕ) → List (List ℕ)
texts_of [] = []
texts_of (line ∷ lines) = if continues line then texts_of lines else (drop 3 line ++ more_of lines) ∷ texts_of lines

abbrev pub read_listing : List (List ℕ) → List (Option Entry)
read_listing lines = map read_entry (texts_of lines)
