-- Names with bounds, symbolic constants, and the labels of statements.
use Rattle.std.proofs.Common.{ℕ, ◌-◌, ◌≤◌, IsTrue, List, [], ◌∷◌, map, arith}
use Rattle.std.specs.Prelude.{nat_le}
use Rattle.std.specs.List.{AllByRecursion}
use Rattle.std.proofs.lemmas.Bool.{and_parts, leb-true}
use Rattle.std.proofs.lemmas.List.{length-map}
use Rattle.tree.specs.Plain.{Expression}
use Rattle.f77_grammar.specs.expressions.Words as words
use Rattle.f77_grammar.specs.expressions.Words.{Word77}
use Rattle.f77_grammar.specs.expressions.Phrases.{written77}
use Rattle.f77_grammar.specs.expressions.Spelling.{value}
use Rattle.reading.specs.Characters.{is_digit, IsList}
use Rattle.f77_grammar.specs.statements.Forms.{followed77, separated77, deepest, Bound77, Upper, Both, IsBound77, written_bound77, bound_tree, bound_depth, EntityForm77, Plain, Bounded, IsEntity77, IsBounded, written_entity77, entity_tree, entity_depth, Definition, IsDefinition, written_definition, definition_tree, definition_depth, IsLabel77}
use Rattle.f77_laws.specs.Source.{IsShallow, IsSourceEntity, IsSourceConstant, IsSourceLabel}
use Rattle.f77_laws.proofs.SymbolicNames.{symbolic_name}
use Rattle.f77_laws.proofs.SourceWords.{AreSourceWords, left_words, right_words, shallow}

-- ---- lists with commas

followed_words : {A : Type 0} → (write : A → List Word77) (xs : List A) → AreSourceWords (followed77 write xs) → AllByRecursion (λ (x : A). AreSourceWords (write x)) xs
followed_words write [] h = tt
followed_words write (x ∷ xs) h = (left_words (write x) (followed77 write xs) h.1, followed_words write xs (right_words (write x) (followed77 write xs) h.1))

pub separated_words : {A : Type 0} → (write : A → List Word77) (xs : List A) → AreSourceWords (separated77 write xs) → AllByRecursion (λ (x : A). AreSourceWords (write x)) xs
separated_words write [] h = tt
separated_words write (x ∷ xs) h = (left_words (write x) (followed77 write xs) h, followed_words write xs (right_words (write x) (followed77 write xs) h))

listed : {A : Type 0} → (good : A → Type 0) (xs : List A) → IsList good xs → AllByRecursion good xs
listed good [] h = absurd h
listed good (x ∷ xs) h = h

-- what is made of each part is good where the part is, its words are, and it isn't deep
each_made : {A B : Type 0} → (good : A → Type 0) (write : A → List Word77) (deep : A → ℕ) (make : A → B) (made : B → Type 0)
    → ((x : A) → good x → AreSourceWords (write x) → deep x ≤ 400 → made (make x))
    → (xs : List A) → AllByRecursion good xs → AllByRecursion (λ (x : A). AreSourceWords (write x)) xs → deepest deep xs ≤ 400 → AllByRecursion made (map make xs)
each_made good write deep make made f [] g h d = tt
each_made good write deep make made f (x ∷ xs) g h d = (f x g.0 h.0 (omega (arith, d)), each_made good write deep make made f xs g.1 h.1 (omega (arith, d)))

pub list_made : {A B : Type 0} → (good : A → Type 0) (write : A → List Word77) (deep : A → ℕ) (make : A → B) (made : B → Type 0)
    → ((x : A) → good x → AreSourceWords (write x) → deep x ≤ 400 → made (make x))
    → (xs : List A) → IsList good xs → AreSourceWords (separated77 write xs) → deepest deep xs ≤ 400 → AllByRecursion made (map make xs)
list_made good write deep make made f xs g h d = each_made good write deep make made f xs (listed good xs g) (separated_words write xs h) d

-- ---- names with bounds

abbrev ArePairShallow : Expression × Expression → Type 0
ArePairShallow b = IsShallow b.0 × IsShallow b.1

bound : (b : Bound77) → IsBound77 b → AreSourceWords (written_bound77 b) → bound_depth b ≤ 400 → ArePairShallow (bound_tree b)
bound (Upper p) g h d = ((omega arith, omega arith), shallow p g h d)
bound (Both p q) g h d =
    (shallow p g.0 (left_words (written77 p) (words.Colon ∷ written77 q) h) (omega (arith, d)), shallow q g.1 (right_words (written77 p) (words.Colon ∷ written77 q) h).1 (omega (arith, d)))

pub entity : (e : EntityForm77) → IsEntity77 e → AreSourceWords (written_entity77 e) → entity_depth e ≤ 400 → IsSourceEntity (entity_tree e)
entity (Plain x) g h d = record { name = symbolic_name x h.0; few = omega arith; bounds = tt }
entity (Bounded x bs) g h d = record {
  name = symbolic_name x h.0;
  few = (let few = g.1 in omega (arith, few, length-map bs bound_tree));
  bounds = list_made IsBound77 written_bound77 bound_depth bound_tree ArePairShallow bound bs g.0 (left_words (separated77 written_bound77 bs) (words.Close ∷ []) h.1) d;
}

pub bounded_entity : (e : EntityForm77) → IsBounded e → AreSourceWords (written_entity77 e) → entity_depth e ≤ 400 → IsSourceEntity (entity_tree e)
bounded_entity (Plain x) g h d = absurd g
bounded_entity (Bounded x bs) g h d = entity (Bounded x bs) g h d

pub definition : (d : Definition) → IsDefinition d → AreSourceWords (written_definition d) → definition_depth d ≤ 400 → IsSourceConstant (definition_tree d)
definition d g h l = record { name = symbolic_name d.name h.0; value = shallow d.value g h.1.1 l }

-- ---- labels

digit_below : (c : ℕ) → IsTrue (is_digit c) → c - 48 ≤ 9
digit_below c h = let p = and_parts (nat_le 48 c) (nat_le c 57) h in omega (arith, leb-true c 57 p.1)

pub label : (digits : List ℕ) → IsLabel77 digits → IsSourceLabel (value digits)
label [] h = absurd h.0
label (a ∷ []) h = omega (arith, digit_below a h.0.0)
label (a ∷ b ∷ []) h = omega (arith, digit_below a h.0.0, digit_below b h.0.1.0)
label (a ∷ b ∷ c ∷ []) h = omega (arith, digit_below a h.0.0, digit_below b h.0.1.0, digit_below c h.0.1.1.0)
label (a ∷ b ∷ c ∷ d ∷ []) h = omega (arith, digit_below a h.0.0, digit_below b h.0.1.0, digit_below c h.0.1.1.0, digit_below d h.0.1.1.1.0)
label (a ∷ b ∷ c ∷ d ∷ e ∷ []) h =
    omega (arith, digit_below a h.0.0, digit_below b h.0.1.0, digit_below c h.0.1.1.0, digit_below d h.0.1.1.1.0, digit_below e h.0.1.1.1.1.0)
label (a ∷ b ∷ c ∷ d ∷ e ∷ f ∷ digits) h = absurd (let l = h.1 in omega (arith, l))
