-- Which expressions are variables.
use Rattle.std.proofs.Common.{arith, ◌≡◌, ℕ, ◌+◌, ◌-◌, ◌==◌, Bool, true, false, ◌||◌, ◌&&◌, not, cond, ◌≤◌, None, Some, List, [], ◌∷◌, ◌++◌, refl, ap, sym, ◌∙◌, subst, append_assoc}
use Rattle.std.specs.Prelude.{IsTrue, ◌↔◌}
use Rattle.std.proofs.lemmas.List.{map_push}
use Rattle.std.proofs.lemmas.Bool.{ne_eqb, or_parts, or_from}
use Rattle.f90_grammar.specs.Items.{IsReference90, IsVariable}
use Rattle.f90_grammar.specs.Phrases as phrases
use Rattle.f90_grammar.specs.Phrases.{Phrase90, AreValues}
use Rattle.f90_expressions.specs.Flat as flats
use Rattle.f90_expressions.specs.Flat.{Node, flat, flat_part, flat_parts, flat_values, flat_turn}
use Rattle.f90_expressions.specs.Views.{node_seen, nodes_seen}
use Rattle.f90_expressions.specs.declared.nodes.Node as code
use Rattle.f90_expressions.specs.Reading.{IsMadeOf}
use Rattle.f90_expressions.specs.declared.nodes.Expression.{Expression}
use Rattle.f90_statement.specs.items.parts.Variables.{names, is_named, or_section, has_section, is_plain}

named_last : (ns : List Node) (n : Node) → is_named (ns ++ n ∷ []) ≡ names n
named_last [] n = refl
named_last (m ∷ []) n = refl
named_last (m ∷ (k ∷ ns)) n = named_last (k ∷ ns) n

pub named_push : (ns : List code.Node) (n : code.Node) → is_named (nodes_seen (ns ++ n ∷ [])) ≡ names (node_seen n)
named_push ns n = ap is_named (map_push node_seen ns n) ∙ named_last (nodes_seen ns) (node_seen n)

pub ruleset lists = (named_push)

-- ---- names, and names with lists

yes : (b : Bool) → b ≡ true → IsTrue b ↔ Unit {0}
yes b e = (λ h. tt, λ h. e)

no : (b : Bool) → b ≡ false → IsTrue b ↔ ⊥
no b e = (λ h. clash b h e, λ h. absurd h)
  where
    clash : (c : Bool) → c ≡ true → c ≡ false → ⊥
    clash c h k = absurd (cc)

two : (a b : List Node) (n : Node) → a ++ (b ++ n ∷ []) ≡ (a ++ b) ++ n ∷ []
two a b n = sym (append_assoc a b (n ∷ []))

joined_last : (a b : List Node) (n : Node) → is_named (a ++ (b ++ n ∷ [])) ≡ names n
joined_last a b n = ap is_named (two a b n) ∙ named_last (a ++ b) n

listed_named : (x : List ℕ) (ps : phrases.ListParts) → is_named (flat (phrases.Listed x ps)) ≡ true
listed_named x ps = named_last (flats.Begin ∷ flat_parts ps) (flats.Listed x)

pub tells_reference : (p : Phrase90) → IsTrue (is_named (flat p)) ↔ IsReference90 p
tells_reference (phrases.Literal t) = no false refl
tells_reference (phrases.Truth b) = no false refl
tells_reference (phrases.Name x) = yes true refl
tells_reference (phrases.Listed x ps) = yes (is_named (flat (phrases.Listed x ps))) (listed_named x ps)
tells_reference (phrases.Paren p) = no (is_named (flat (phrases.Paren p))) (named_last (flat p) flats.Parenthesis)
tells_reference (phrases.Signed s p) = no (is_named (flat (phrases.Signed s p))) (named_last (flat p) (flats.Prefix s))
tells_reference (phrases.Joined o a b) = no (is_named (flat (phrases.Joined o a b))) (joined_last (flat a) (flat b) (flats.Infix o))
tells_reference (phrases.Values ps) = no (is_named (flat (phrases.Values ps))) (named_last (flats.Begin ∷ flat_values ps) flats.Values)
tells_reference (phrases.Looped t) = no (is_named (flat (phrases.Looped t))) (named_last (flats.Begin ∷ flat_turn t) flats.Looped)

-- ---- sections in lists within lists don't count

grouped : (a b r : List Node) (n : ℕ) → has_section ((a ++ b) ++ r) n ≡ has_section (a ++ (b ++ r)) n
grouped a b r n = ap (λ (q : List Node). has_section q n) (append_assoc a b r)

up_down : (r : List Node) (n : ℕ) → has_section r ((n + 1) - 1) ≡ has_section r n
up_down r n = ap (has_section r) (omega arith)

not_one : (r : List Node) (n : ℕ) → 2 ≤ n → or_section (cond (n == 1) None (Some n)) (has_section r) ≡ has_section r n
not_one r n h = ap (λ (b : Bool). or_section (cond b None (Some n)) (has_section r)) (ne_eqb n 1 (λ e. omega arith))

abbrev Passes : Phrase90 → Type 0
Passes p = (r : List Node) (n : ℕ) → 1 ≤ n → has_section (flat p ++ r) n ≡ has_section r n

passes_two : (a b : Phrase90) (k : Node) (r : List Node) (n : ℕ) → Passes a → Passes b → 1 ≤ n
    → has_section ((flat a ++ (flat b ++ k ∷ [])) ++ r) n ≡ has_section (k ∷ r) n
passes_two a b k r n pa pb h =
    grouped (flat a) (flat b ++ k ∷ []) r n
    ∙ (pa ((flat b ++ k ∷ []) ++ r) n h ∙ (grouped (flat b) (k ∷ []) r n ∙ pb (k ∷ r) n h))

mutual
  passes : (p : Phrase90) (r : List Node) (n : ℕ) → 1 ≤ n → has_section (flat p ++ r) n ≡ has_section r n
  passes (phrases.Literal t) r n h = refl
  passes (phrases.Truth b) r n h = refl
  passes (phrases.Name x) r n h = refl
  passes (phrases.Listed x ps) r n h =
      grouped (flat_parts ps) (flats.Listed x ∷ []) r (n + 1)
      ∙ (passes_parts ps (flats.Listed x ∷ r) (n + 1) (omega arith) ∙ up_down r n)
  passes (phrases.Paren p) r n h = grouped (flat p) (flats.Parenthesis ∷ []) r n ∙ passes p (flats.Parenthesis ∷ r) n h
  passes (phrases.Signed s p) r n h = grouped (flat p) (flats.Prefix s ∷ []) r n ∙ passes p (flats.Prefix s ∷ r) n h
  passes (phrases.Joined o a b) r n h =
      grouped (flat a) (flat b ++ flats.Infix o ∷ []) r n
      ∙ (passes a ((flat b ++ flats.Infix o ∷ []) ++ r) n h
      ∙ (grouped (flat b) (flats.Infix o ∷ []) r n ∙ passes b (flats.Infix o ∷ r) n h))
  passes (phrases.Values ps) r n h =
      grouped (flat_values ps) (flats.Values ∷ []) r (n + 1)
      ∙ (passes_values ps (flats.Values ∷ r) (n + 1) (omega arith) ∙ up_down r n)
  passes (phrases.Looped t) r n h =
      grouped (flat_turn t) (flats.Looped ∷ []) r (n + 1)
      ∙ (passes_turn t (flats.Looped ∷ r) (n + 1) (omega arith) ∙ up_down r n)

  passes_part : (p : phrases.ListPart) (r : List Node) (n : ℕ) → 2 ≤ n → has_section (flat_part p ++ r) n ≡ has_section r n
  passes_part (phrases.Value p) r n h = grouped (flat p) (flats.One ∷ []) r n ∙ passes p (flats.One ∷ r) n (omega arith)
  passes_part (phrases.Range a b) r n h = passes_two a b flats.Bounds r n (λ q m i. passes a q m i) (λ q m i. passes b q m i) (omega arith) ∙ not_one r n h
  passes_part (phrases.Strided a b c) r n h =
      grouped (flat a) (flat b ++ (flat c ++ flats.Stride ∷ [])) r n
      ∙ (passes a ((flat b ++ (flat c ++ flats.Stride ∷ [])) ++ r) n (omega arith)
      ∙ (passes_two b c flats.Stride r n (λ q m i. passes b q m i) (λ q m i. passes c q m i) (omega arith) ∙ not_one r n h))

  passes_parts : (ps : phrases.ListParts) (r : List Node) (n : ℕ) → 2 ≤ n → has_section (flat_parts ps ++ r) n ≡ has_section r n
  passes_parts (phrases.One p) r n h = passes_part p r n h
  passes_parts (phrases.Then ps p) r n h =
      grouped (flat_parts ps) (flat_part p) r n ∙ (passes_parts ps (flat_part p ++ r) n h ∙ passes_part p r n h)

  passes_values : (ps : phrases.Phrases90) (r : List Node) (n : ℕ) → 2 ≤ n → has_section (flat_values ps ++ r) n ≡ has_section r n
  passes_values (phrases.Sole p) r n h = passes p r n (omega arith)
  passes_values (phrases.More ps p) r n h =
      grouped (flat_values ps) (flat p) r n ∙ (passes_values ps (flat p ++ r) n h ∙ passes p r n (omega arith))

  passes_turn : (t : phrases.Turn) (r : List Node) (n : ℕ) → 2 ≤ n → has_section (flat_turn t ++ r) n ≡ has_section r n
  passes_turn (phrases.Innermost p x a b) r n h =
      grouped (flat p) (flat a ++ (flat b ++ flats.Inner x ∷ [])) r n
      ∙ (passes p ((flat a ++ (flat b ++ flats.Inner x ∷ [])) ++ r) n (omega arith) ∙ passes_two a b (flats.Inner x) r n (λ q m i. passes a q m i) (λ q m i. passes b q m i) (omega arith))
  passes_turn (phrases.Round t x a b) r n h =
      grouped (flat_turn t) (flat a ++ (flat b ++ flats.Outer x ∷ [])) r n
      ∙ (passes_turn t ((flat a ++ (flat b ++ flats.Outer x ∷ [])) ++ r) n h ∙ passes_two a b (flats.Outer x) r n (λ q m i. passes a q m i) (λ q m i. passes b q m i) (omega arith))

-- ---- those in the outermost list do

abbrev is_range : phrases.ListPart → Bool
is_range (phrases.Value p) = false
is_range (phrases.Range a b) = true
is_range (phrases.Strided a b c) = true

abbrev have_range : phrases.ListParts → Bool
have_range (phrases.One p) = is_range p
have_range (phrases.Then ps p) = have_range ps || is_range p

or_assoc : (a b c : Bool) → ((a || b) || c) ≡ (a || (b || c))
or_assoc true b c = refl
or_assoc false b c = refl

part_shows : (p : phrases.ListPart) (r : List Node) → has_section (flat_part p ++ r) 1 ≡ (is_range p || has_section r 1)
part_shows (phrases.Value p) r = grouped (flat p) (flats.One ∷ []) r 1 ∙ passes p (flats.One ∷ r) 1 (omega arith)
part_shows (phrases.Range a b) r = passes_two a b flats.Bounds r 1 (λ q m i. passes a q m i) (λ q m i. passes b q m i) (omega arith)
part_shows (phrases.Strided a b c) r =
    grouped (flat a) (flat b ++ (flat c ++ flats.Stride ∷ [])) r 1
    ∙ (passes a ((flat b ++ (flat c ++ flats.Stride ∷ [])) ++ r) 1 (omega arith) ∙ passes_two b c flats.Stride r 1 (λ q m i. passes b q m i) (λ q m i. passes c q m i) (omega arith))

parts_show : (ps : phrases.ListParts) (r : List Node) → has_section (flat_parts ps ++ r) 1 ≡ (have_range ps || has_section r 1)
parts_show (phrases.One p) r = part_shows p r
parts_show (phrases.Then ps p) r =
    grouped (flat_parts ps) (flat_part p) r 1
    ∙ (parts_show ps (flat_part p ++ r)
    ∙ (ap (λ (b : Bool). have_range ps || b) (part_shows p r) ∙ sym (or_assoc (have_range ps) (is_range p) (has_section r 1))))

or_false : (b : Bool) → (b || false) ≡ b
or_false true = refl
or_false false = refl

listed_shows : (x : List ℕ) (ps : phrases.ListParts) → has_section (flat (phrases.Listed x ps)) 0 ≡ have_range ps
listed_shows x ps = parts_show ps (flats.Listed x ∷ []) ∙ or_false (have_range ps)

values_only : (ps : phrases.ListParts) → have_range ps ≡ false → AreValues ps
values_only (phrases.One (phrases.Value p)) h = tt
values_only (phrases.One (phrases.Range a b)) h = absurd (cc)
values_only (phrases.One (phrases.Strided a b c)) h = absurd (cc)
values_only (phrases.Then ps (phrases.Value p)) h = values_only ps (or_parts (have_range ps) false h).0
values_only (phrases.Then ps (phrases.Range a b)) h = let k = (or_parts (have_range ps) true h).1 in absurd (cc)
values_only (phrases.Then ps (phrases.Strided a b c)) h = let k = (or_parts (have_range ps) true h).1 in absurd (cc)

no_range : (ps : phrases.ListParts) → AreValues ps → have_range ps ≡ false
no_range (phrases.One (phrases.Value p)) h = refl
no_range (phrases.One (phrases.Range a b)) h = absurd h
no_range (phrases.One (phrases.Strided a b c)) h = absurd h
no_range (phrases.Then ps (phrases.Value p)) h = or_from (have_range ps) false (no_range ps h) refl
no_range (phrases.Then ps (phrases.Range a b)) h = absurd h
no_range (phrases.Then ps (phrases.Strided a b c)) h = absurd h

other : (p : Phrase90) → is_named (flat p) ≡ false → IsTrue (is_plain (flat p)) ↔ ⊥
other p e = no (is_plain (flat p)) (ap (λ (b : Bool). b && not (has_section (flat p) 0)) e)

listed_plain : (x : List ℕ) (ps : phrases.ListParts) (b : Bool) → have_range ps ≡ b → is_plain (flat (phrases.Listed x ps)) ≡ not b
listed_plain x ps b e =
    ap (λ (c : Bool). c && not (has_section (flat (phrases.Listed x ps)) 0)) (listed_named x ps) ∙ ap not (listed_shows x ps ∙ e)

pub tells_variable : (p : Phrase90) → IsTrue (is_plain (flat p)) ↔ IsVariable p
tells_variable (phrases.Literal t) = no false refl
tells_variable (phrases.Truth b) = no false refl
tells_variable (phrases.Name x) = yes true refl
tells_variable (phrases.Listed x ps) = (
  λ h. values_only ps (negated (have_range ps) (sym (listed_plain x ps (have_range ps) refl) ∙ h)),
  λ h. listed_plain x ps false (no_range ps h),
)
  where
    negated : (b : Bool) → not b ≡ true → b ≡ false
    negated true h = sym h
    negated false h = refl
tells_variable (phrases.Paren p) = other (phrases.Paren p) (named_last (flat p) flats.Parenthesis)
tells_variable (phrases.Signed s p) = other (phrases.Signed s p) (named_last (flat p) (flats.Prefix s))
tells_variable (phrases.Joined o a b) = other (phrases.Joined o a b) (joined_last (flat a) (flat b) (flats.Infix o))
tells_variable (phrases.Values ps) = other (phrases.Values ps) (named_last (flats.Begin ∷ flat_values ps) flats.Values)
tells_variable (phrases.Looped t) = other (phrases.Looped t) (named_last (flats.Begin ∷ flat_turn t) flats.Looped)

-- ---- the same of what the code holds

pub reference_told : (b : Bool) (e : Expression) (p : Phrase90) → b ≡ is_named (nodes_seen e.nodes) → IsMadeOf e p → IsTrue b ↔ IsReference90 p
reference_told b e p h m = subst (λ (x : Bool). IsTrue x ↔ IsReference90 p) (sym (h ∙ ap is_named m.nodes)) (tells_reference p)

pub variable_told : (b : Bool) (e : Expression) (p : Phrase90) → b ≡ is_plain (nodes_seen e.nodes) → IsMadeOf e p → IsTrue b ↔ IsVariable p
variable_told b e p h m = subst (λ (x : Bool). IsTrue x ↔ IsVariable p) (sym (h ∙ ap is_plain m.nodes)) (tells_variable p)
