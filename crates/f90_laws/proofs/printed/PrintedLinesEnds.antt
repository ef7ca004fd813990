-- The text of a statement ends in a character of its last word.
use Rattle.std.proofs.Common.{◌≡◌, refl, ap, ◌∙◌, sym, subst, inl, inr, ℕ, ◌==◌, Bool, true, false, not, Option, Some, None, List, [], ◌∷◌, ◌++◌, append-nil, ne_eqb, codes}
use Rattle.std.specs.List.{AllByRecursion}
use Rattle.std.proofs.lemmas.Bool.{and_from, not_from_false, or_left}
use Rattle.tree.specs.OperatorTable.{spelling90_of}
use Rattle.f90_grammar.specs.Words as words
use Rattle.f90_grammar.specs.Words.{Word90, Symbol90, IsName90, SpelledBy90, AreWords90, goes_on90}
use Rattle.reading.specs.Characters.{IsDigits, Pass, is_digit, is_letter, doubled, IsList, keyword_of}
use Rattle.f90_grammar.specs.Phrases as phrases
use Rattle.f90_grammar.specs.Phrases.{Phrase90, written90}
use Rattle.f90_grammar.specs.Items.{ItemPhrase90, Of, Text, Loop, ItemPhrases90, Sole, More, written_item90, written_items90, written_step90}
use Rattle.f90_grammar.specs.Forms as forms
use Rattle.f90_grammar.specs.Forms.{Form90, EntityForm90, IsWritten90, IsEntity90, separated90, written_entity90, attribute, Either, IsTransfer}
use Rattle.f90_grammar.specs.PrintedText.{in_parentheses, comma, separated_text, sign_text, phrase_text, loop_text, parts_text, values_text, turn_text, step_text, bounds_text, extent_text, item_text, items_text, dimension_text, dimensions_text, entity_text, attribute_text, form_text, assignment_text}
use Rattle.f90_laws.specs.printed.Spelled.{IsSpelled}
use Rattle.f90_laws.proofs.printed.PrintedLinesPieces.{ends_well, end_of_both}

-- ---- numbers and names

ends_passed : (p : ℕ → Bool) → p 32 ≡ false → p 38 ≡ false → (c : ℕ) (cs : List ℕ) → p c ≡ true → Pass p cs → ends_well (c ∷ cs) ≡ true
ends_passed p a b c [] h k = and_from (not (c == 32)) (not (c == 38)) (apart 32 a) (apart 38 b)
  where
    apart : (m : ℕ) → p m ≡ false → not (c == m) ≡ true
    apart m e = not_from_false (c == m) (ne_eqb c m (λ f. let q : true ≡ false = sym h ∙ (ap p f ∙ e) in absurd cc))
ends_passed p a b c (d ∷ cs) h k = ends_passed p a b d cs k.0 k.1

digits_end : (t : List ℕ) → IsDigits t → ends_well t ≡ true
digits_end [] h = absurd h
digits_end (c ∷ cs) h = ends_passed is_digit refl refl c cs h.0 h.1

name_end : (x : List ℕ) → IsName90 x → ends_well x ≡ true
name_end [] h = absurd h
name_end (c ∷ cs) h = ends_passed goes_on90 refl refl c cs (or_left (is_letter c) _ h.0) h.1

-- ---- the words of a text are spelled

abbrev IsWord : Word90 → Type 0
IsWord (words.Digits t) = IsDigits t
IsWord (words.Name x) = IsName90 x
IsWord _ = Unit {0}

abbrev AreWords : List Word90 → Type 0
AreWords ws = AllByRecursion IsWord ws

word_spelled : (w : Word90) (text : List Symbol90) → SpelledBy90 w text → IsWord w
word_spelled (words.Digits t) text h = h.2.1
word_spelled (words.Name x) text h = h.2.1
word_spelled w text h = tt

words_spelled : (ws : List Word90) (text : List Symbol90) → AreWords90 text ws → AreWords ws
words_spelled [] text h = tt
words_spelled (w ∷ ws) text h = (word_spelled w h.1.front h.1.spelled, words_spelled ws h.0 h.2)

right_words : (xs ys : List Word90) → AreWords (xs ++ ys) → AreWords ys
right_words [] ys h = h
right_words (x ∷ xs) ys h = right_words xs ys h.1

left_words : (xs ys : List Word90) → AreWords (xs ++ ys) → AreWords xs
left_words [] ys h = tt
left_words (x ∷ xs) ys h = (h.0, left_words xs ys h.1)

-- ---- expressions

parenthesis_end : (t : List ℕ) → ends_well (in_parentheses t) ≡ true
parenthesis_end t = end_of_both (40 ∷ t) (41 ∷ []) refl

comma_end : (t u : List ℕ) → ends_well u ≡ true → ends_well (t ++ (comma ++ u)) ≡ true
comma_end t u h = end_of_both t (comma ++ u) (end_of_both comma u h)

phrase_end : (p : Phrase90) → AreWords (written90 p) → ends_well (phrase_text p) ≡ true
phrase_end (phrases.Literal t) h = digits_end t h.0
phrase_end (phrases.Truth true) h = refl
phrase_end (phrases.Truth false) h = refl
phrase_end (phrases.Name x) h = name_end x h.0
phrase_end (phrases.Listed x ps) h = end_of_both x (in_parentheses (parts_text ps)) (parenthesis_end (parts_text ps))
phrase_end (phrases.Paren p) h = parenthesis_end (phrase_text p)
phrase_end (phrases.Signed s p) h = end_of_both (sign_text s) (phrase_text p) (phrase_end p h.1)
phrase_end (phrases.Joined o a b) h =
    end_of_both (phrase_text a) _ (end_of_both (32 ∷ spelling90_of o) (32 ∷ phrase_text b)
    (end_of_both (32 ∷ []) (phrase_text b) (phrase_end b (right_words (written90 a) (words.Operator o ∷ written90 b) h).1)))
phrase_end (phrases.Values ps) h = end_of_both (codes "(/ ") (values_text ps ++ codes " /)") (end_of_both (values_text ps) (codes " /)") refl)
phrase_end (phrases.Looped t) h = end_of_both (codes "(/ ") (turn_text t ++ codes " /)") (end_of_both (turn_text t) (codes " /)") refl)

-- ---- items

item_end : (i : ItemPhrase90) → AreWords (written_item90 i) → ends_well (item_text i) ≡ true
item_end (Of p) h = phrase_end p h
item_end (Text t) h = end_of_both (39 ∷ doubled t) (39 ∷ []) refl
item_end (Loop is x a b c) h = parenthesis_end (items_text is ++ (comma ++ bounds_text x a b c))

items_end : (is : ItemPhrases90) → AreWords (written_items90 is) → ends_well (items_text is) ≡ true
items_end (Sole i) h = item_end i h
items_end (More is i) h = comma_end (items_text is) (item_text i) (item_end i (right_words (written_items90 is) (words.Comma ∷ written_item90 i) h).1)

transfer_end : (short long : List ℕ) (is : ItemPhrases90) (ws : List Word90) → IsTransfer short long (written_items90 is) ws → AreWords ws → ends_well (items_text is) ≡ true
transfer_end short long is ws (inl e) v = items_end is (subst AreWords e v).1.1.1
transfer_end short long is ws (inr e) v = items_end is (subst AreWords e v).1.1.1.1.1

-- ---- declarations

entity_end : (e : EntityForm90) → AreWords (written_entity90 e) → ends_well (entity_text e) ≡ true
entity_end e h = by e.dimensions h
  where
    by : (ds : List forms.Dimension) → AreWords (forms.written_dimensions e.name ds) → ends_well (e.name ++ dimensions_text ds) ≡ true
    by [] k = ap ends_well (append-nil e.name) ∙ name_end e.name k.0
    by (d ∷ ds) k = end_of_both e.name (dimensions_text (d ∷ ds)) (parenthesis_end (separated_text dimension_text (d ∷ ds)))

entities_end : (a : Bool) (es : List EntityForm90) → IsList (IsEntity90 a) es → AreWords (separated90 written_entity90 es) → ends_well (separated_text entity_text es) ≡ true
entities_end a [] g h = absurd g
entities_end a (e ∷ []) g h = entity_end e (left_words (written_entity90 e) [] h)
entities_end a (e ∷ f ∷ es) g h =
    comma_end (entity_text e) (separated_text entity_text (f ∷ es))
    (entities_end a (f ∷ es) (g.1.0, g.1.1) (right_words (written_entity90 e) (words.Comma ∷ separated90 written_entity90 (f ∷ es)) h).1)

-- ---- statements

assignment_end : (l r : Phrase90) → AreWords (written90 r) → ends_well (assignment_text l r) ≡ true
assignment_end l r h = end_of_both (phrase_text l) _ (end_of_both (codes " = ") (phrase_text r) (phrase_end r h))

bounds_end : (x : List ℕ) (a b : Phrase90) (c : Option Phrase90) → AreWords (written90 b ++ written_step90 c) → ends_well (loop_text x (phrase_text a) (phrase_text b) ++ step_text c) ≡ true
bounds_end x a b None h =
    ap ends_well (append-nil (loop_text x (phrase_text a) (phrase_text b)))
    ∙ end_of_both x _ (end_of_both (codes " = ") (phrase_text a ++ (comma ++ phrase_text b)) (comma_end (phrase_text a) (phrase_text b) (phrase_end b (left_words (written90 b) [] h))))
bounds_end x a b (Some c) h = comma_end (loop_text x (phrase_text a) (phrase_text b)) (phrase_text c) (phrase_end c (right_words (written90 b) (words.Comma ∷ written90 c) h).1)

last_word : (w : Word90) (a b : List ℕ) (ws : List Word90) → Either a b (w ∷ []) ws → AreWords ws → IsWord w
last_word w a b ws (inl e) v = (subst AreWords e v).1.1.0
last_word w a b ws (inr e) v = (subst AreWords e v).1.0

form_end : (f : Form90) (ws : List Word90) → IsWritten90 f ws → AreWords ws → ends_well (form_text f) ≡ true
form_end (forms.Program x) ws h v = end_of_both (codes "PROGRAM ") x (name_end x (subst AreWords h v).1.0)
form_end forms.ImplicitNone ws h v = refl
form_end (forms.Declare k a es) ws h v =
    end_of_both (keyword_of k) (attribute_text a ++ (codes " :: " ++ separated_text entity_text es)) (end_of_both (attribute_text a) (codes " :: " ++ separated_text entity_text es) (end_of_both (codes " :: ") (separated_text entity_text es)
    (entities_end a es h.1 (right_words (attribute a) (words.Colons ∷ separated90 written_entity90 es) (subst AreWords h.0 v).1).1)))
form_end (forms.Assign l r) ws h v = assignment_end l r (right_words (written90 l) (words.Equals ∷ written90 r) (subst AreWords h.0 v)).1
form_end (forms.Where m l r) ws h v =
    end_of_both (codes "WHERE ") (in_parentheses (phrase_text m) ++ (32 ∷ assignment_text l r)) (end_of_both (in_parentheses (phrase_text m)) (32 ∷ assignment_text l r)
    (end_of_both (32 ∷ []) (assignment_text l r)
    (assignment_end l r (right_words (written90 l) (words.Equals ∷ written90 r) (right_words (written90 m) (words.Close ∷ (written90 l ++ words.Equals ∷ written90 r)) (subst AreWords h.0 v).1).1).1)))
form_end (forms.Test p f) ws h v =
    end_of_both (codes "IF ") (in_parentheses (phrase_text p) ++ (32 ∷ form_text f)) (end_of_both (in_parentheses (phrase_text p)) (32 ∷ form_text f)
    (end_of_both (32 ∷ []) (form_text f)
    (form_end f h.0 h.3 (right_words (written90 p) (words.Close ∷ h.0) (subst AreWords h.1 v).1).1)))
form_end (forms.If p) ws h v = end_of_both (codes "IF ") (in_parentheses (phrase_text p) ++ codes " THEN") (end_of_both (in_parentheses (phrase_text p)) (codes " THEN") refl)
form_end (forms.ElseIf p) ws h v = end_of_both (codes "ELSE IF ") (in_parentheses (phrase_text p) ++ codes " THEN") (end_of_both (in_parentheses (phrase_text p)) (codes " THEN") refl)
form_end forms.Else ws h v = refl
form_end forms.EndIf ws h v = refl
form_end (forms.Do x a b c) ws h v =
    end_of_both (codes "DO ") (bounds_text x a b c) (bounds_end x a b c (right_words (written90 a) (words.Comma ∷ (written90 b ++ written_step90 c)) (subst AreWords h.0 v).1.1.1).1)
form_end forms.EndDo ws h v = refl
form_end (forms.Continue []) ws h v = refl
form_end (forms.Continue (c ∷ cs)) ws h v = end_of_both (c ∷ cs) (codes " CONTINUE") refl
form_end (forms.Go label) ws h v =
    end_of_both (codes "GO TO ") label (digits_end label (last_word (words.Digits label) _ _ ws h.0 v))
form_end forms.Stop ws h v = refl
form_end (forms.Read is) ws h v = end_of_both (codes "READ *, ") (items_text is) (transfer_end _ _ is ws h.0 v)
form_end forms.ReadNothing ws h v = refl
form_end (forms.Print is) ws h v = end_of_both (codes "PRINT *, ") (items_text is) (transfer_end _ _ is ws h.0 v)
form_end forms.PrintNothing ws h v = refl
form_end (forms.Allocate x es) ws h v = end_of_both (codes "ALLOCATE ") (in_parentheses (x ++ in_parentheses (separated_text extent_text es))) (parenthesis_end (x ++ in_parentheses (separated_text extent_text es)))
form_end (forms.Deallocate x) ws h v = end_of_both (codes "DEALLOCATE ") (in_parentheses x) (parenthesis_end x)
form_end forms.End ws h v = refl
form_end (forms.EndProgram None) ws h v = refl
form_end (forms.EndProgram (Some x)) ws h v =
    end_of_both (codes "END PROGRAM ") x (name_end x (last_word (words.Name x) _ _ ws h v))

pub spelled_end : (f : Form90) → IsSpelled f → ends_well (form_text f) ≡ true
spelled_end f h = form_end f h.in_words h.is_written (words_spelled h.in_words h.has_words.0 h.has_words.2)
