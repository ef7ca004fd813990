-- The text of each form that is printed has words in which the form is written.
use Rattle.std.proofs.Common.{◌≡◌, inl, refl, sym, subst, arith, ℕ, zero, suc, ◌+◌, ◌≤◌, ℤ, pos, negsuc, Bool, true, false, ◌&&◌, ◌||◌, IsTrue, Option, List, [], ◌∷◌, ◌++◌, append_assoc, append-nil, codes, length, map}
use Rattle.std.specs.Prelude.{nat_le, decimal, replicate, FitsSigned}
use Rattle.std.specs.Int.{w64}
use Rattle.std.specs.Ordering.{int_eq}
use Rattle.std.specs.List.{AllByRecursion, list_all}
use Rattle.std.proofs.lemmas.Bool.{cond_both, and_parts, or_left, or_right}
use Rattle.tree.specs.declared.ops.Kind.{Kind}
use Rattle.tree.specs.declared.ops.Kind.TheVariants.{Integer, Logical}
use Rattle.tree.specs.declared.ops.Op.TheVariants.{Mul}
use Rattle.tree.specs.OperatorTable.{Minus}
use Rattle.meaning.specs.SymbolicNames as names
use Rattle.meaning.specs.Names.{begins_with}
use Rattle.meaning.specs.Profile90.{IsExtent}
use Rattle.meaning.specs.Extents.{IsDimension}
use Rattle.tree.specs.Plain.{Extent, Given, Later}
use Rattle.std.proofs.lemmas.List.{length-map, length-replicate}
use Rattle.f90_grammar.specs.Words as words
use Rattle.f90_grammar.specs.Words.{Word90, IsName90, goes_on90}
use Rattle.reading.specs.Characters.{IsDigits, is_letter, IsList, keyword_of}
use Rattle.f90_grammar.specs.Phrases.{Phrase90, Name, Listed, IsExpression90, written90}
use Rattle.f90_grammar.specs.Items.{IsReference90, Input, Output, ItemPhrases90}
use Rattle.f90_grammar.specs.Forms as forms
use Rattle.f90_grammar.specs.Forms.{Form90, Bound90, Dimension, EntityForm90, IsWritten90, IsBound90, SuitsAllocatable, has_dimensions, attribute, separated90, written_bound90, written_dimension, written_dimensions, written_entity90, written_extent}
use Rattle.f90_grammar.specs.PrintedForms.{bound, dimension, dimensions_of, is_allocatable}
use Rattle.f90_grammar.specs.PrintedText.{form_text, phrase_text, assignment_text, attribute_text, bound_text, dimension_text, dimensions_text, entity_text, extent_text, separated_text, comma}
use Rattle.f90_laws.specs.printed.Spelled.{IsSpelled}
use Rattle.f90_laws.proofs.printed.Spelling.{Place, Start, Inside, Beyond, Named, After, IsFirst, Leads, join, inside, word, start_blank, after_blank, comma_word, colon_word, close_word, close_beyond, equals_word, colons_word, name_word, digits_word, head_word, spaced_head, stops_too, joint_42, no_open, has_words, no_comment, closed}
use Rattle.f90_laws.proofs.printed.PhraseWords.{IsWorded, phrase_leads, sign_leads}
use Rattle.f90_laws.proofs.printed.PhraseLevels.{IsGood, text_name, decimal_digits}
use Rattle.f90_laws.proofs.printed.ItemWords.{StepIsGood, bounds_lead, ItemsAreGood, items_lead}

-- ---- a text that has the words of its form

abbrev pub Begins : List ℕ → Type 0
Begins t = IsTrue (begins_with (λ c. names.is_letter c || names.is_digit c) t)

spelled : {p q : Place} {ws : List Word90} → (f : Form90) → Leads p q (form_text f) ws → IsWritten90 f ws → Begins (form_text f) → IsSpelled f
spelled {p} {q} {ws} f l w b = record {
  in_words = ws;
  has_words = has_words l;
  is_written = w;
  printable = l.tidy.printable;
  no_comment = no_comment l.tidy;
  closed = closed l.tidy;
  begins = b;
}

-- ---- keywords

abbrev is_keyword : List ℕ → Bool
is_keyword [] = false
is_keyword (c ∷ cs) = is_letter c && (list_all goes_on90 cs && nat_le (length cs) 30)

keyword_name : (x : List ℕ) → is_keyword x ≡ true → IsName90 x
keyword_name [] h = absurd cc
keyword_name (c ∷ cs) h =
    let k = and_parts (is_letter c) (list_all goes_on90 cs && nat_le (length cs) 30) h in
    let l = and_parts (list_all goes_on90 cs) (nat_le (length cs) 30) k.1 in
    text_name c cs k.0 l.0 l.1

keyword : (q : Place) → IsFirst q → (x : List ℕ) → is_keyword x ≡ true → Leads After q x (words.Name x ∷ [])
keyword q f x h = name_word q f x (keyword_name x h)

-- two words with a blank between them
two_words : {p : Place} {t : List ℕ} {us : List Word90} → (r : Place) → IsFirst r → (x : List ℕ) → is_keyword x ≡ true → Leads p Named t us → Leads p r (x ++ (32 ∷ t)) (words.Name x ∷ us)
two_words r f x h l = join (keyword r f x h) (join after_blank l)

-- a keyword with a phrase in parentheses, and what comes behind it
headed : {p q : Place} {t z : List ℕ} {us vs : List Word90} → (r : Place) → IsFirst r → (x : List ℕ) → is_keyword x ≡ true → Leads After Start t us → Leads p q z vs
    → Leads p r (x ++ (codes " (" ++ ((t ++ codes ")") ++ (32 ∷ z)))) (words.Head x ∷ (us ++ words.Close ∷ vs))
headed {p} {q} {t} {z} {us} {vs} r f x h l m =
    subst (λ ws. Leads p r (x ++ (codes " (" ++ ((t ++ codes ")") ++ (32 ∷ z)))) (words.Head x ∷ ws)) (append_assoc us (words.Close ∷ []) vs)
    (spaced_head r f x (keyword_name x h) (inside (join (join l close_word) (join start_blank m))))

-- ---- forms without parts

pub implicit_none : IsSpelled forms.ImplicitNone
implicit_none = spelled forms.ImplicitNone (two_words Start tt (codes "IMPLICIT") refl (keyword Named tt (codes "NONE") refl)) refl refl

pub else_spelled : IsSpelled forms.Else
else_spelled = spelled forms.Else (keyword Start tt (codes "ELSE") refl) refl refl

pub end_if : IsSpelled forms.EndIf
end_if = spelled forms.EndIf (two_words Start tt (codes "END") refl (keyword Named tt (codes "IF") refl)) (inl refl) refl

pub end_do : IsSpelled forms.EndDo
end_do = spelled forms.EndDo (two_words Start tt (codes "END") refl (keyword Named tt (codes "DO") refl)) (inl refl) refl

pub stop_spelled : IsSpelled forms.Stop
stop_spelled = spelled forms.Stop (keyword Start tt (codes "STOP") refl) refl refl

pub end_spelled : IsSpelled forms.End
end_spelled = spelled forms.End (keyword Start tt (codes "END") refl) refl refl

-- ---- the program's name, labels

pub program_spelled : (x : List ℕ) → IsName90 x → IsSpelled (forms.Program x)
program_spelled x h = spelled (forms.Program x) (two_words Start tt (codes "PROGRAM") refl (name_word Named tt x h)) refl refl

pub continue_spelled : (t : List ℕ) → IsDigits t → length t ≤ 5 → IsSpelled (forms.Continue t)
continue_spelled [] h k = absurd h
continue_spelled (c ∷ cs) h k =
    spelled (forms.Continue (c ∷ cs)) (join (digits_word Start tt (c ∷ cs) h) (join after_blank (keyword Named tt (codes "CONTINUE") refl))) (refl, k)
    (or_right (names.is_letter c) (names.is_digit c) h.0)

pub go_spelled : (t : List ℕ) → IsDigits t → length t ≤ 5 → IsSpelled (forms.Go t)
go_spelled t h k = spelled (forms.Go t) (two_words Start tt (codes "GO") refl (two_words Named tt (codes "TO") refl (digits_word Named tt t h))) (inl refl, k) refl

-- ---- assignments

assignment_leads : (l r : Phrase90) → IsWorded l → IsWorded r → Leads After Start (assignment_text l r) (written90 l ++ words.Equals ∷ written90 r)
assignment_leads l r h k = join (phrase_leads l h) (join equals_word (phrase_leads r k))

letter_first : (c : ℕ) → IsTrue (is_letter c) → IsTrue (names.is_letter c || names.is_digit c)
letter_first c h = or_left (names.is_letter c) (names.is_digit c) h

reference_begins : (l : Phrase90) (rest : List ℕ) → IsReference90 l → IsWorded l → Begins (phrase_text l ++ rest)
reference_begins (Name []) rest h k = absurd k
reference_begins (Name (c ∷ cs)) rest h k = letter_first c k.0
reference_begins (Listed [] ps) rest h k = absurd k.0
reference_begins (Listed (c ∷ cs) ps) rest h k = letter_first c k.0.0
reference_begins p rest h k = absurd h

pub assign_spelled : (l r : Phrase90) → IsReference90 l → IsGood l → IsGood r → IsSpelled (forms.Assign l r)
assign_spelled l r h k m = spelled (forms.Assign l r) (assignment_leads l r k.1 m.1) (refl, h, k.0, m.0) (reference_begins l (codes " = " ++ phrase_text r) h k.1)

pub where_spelled : (m l r : Phrase90) → IsGood m → IsReference90 l → IsGood l → IsGood r → IsSpelled (forms.Where m l r)
where_spelled m l r g h k n =
    spelled (forms.Where m l r) (headed Start tt (codes "WHERE") refl (phrase_leads m g.1) (assignment_leads l r k.1 n.1)) (refl, g.0, h, k.0, n.0) refl

-- ---- IF and DO

pub if_spelled : (p : Phrase90) → IsGood p → IsSpelled (forms.If p)
if_spelled p h = spelled (forms.If p) (headed Start tt (codes "IF") refl (phrase_leads p h.1) (keyword Start tt (codes "THEN") refl)) (refl, h.0) refl

pub else_if_spelled : (p : Phrase90) → IsGood p → IsSpelled (forms.ElseIf p)
else_if_spelled p h =
    spelled (forms.ElseIf p) (two_words Start tt (codes "ELSE") refl (headed Named tt (codes "IF") refl (phrase_leads p h.1) (keyword Start tt (codes "THEN") refl))) (inl refl, h.0) refl

pub do_spelled : (x : List ℕ) (a b : Phrase90) (c : Option Phrase90) → IsName90 x → IsGood a → IsGood b → StepIsGood c → IsSpelled (forms.Do x a b c)
do_spelled x a b c h k l m =
    spelled (forms.Do x a b c) (two_words Start tt (codes "DO") refl (bounds_lead Named tt x a b c h k.1 l.1 m.1)) (refl, k.0, l.0, m.0) refl

-- ---- READ and PRINT

star : Leads Start Named (codes "*") (words.Operator Mul ∷ [])
star = word Start Named (words.Operator Mul) (codes "*") refl (codes "*", refl, inl refl) (λ rest ss f. stops_too _ _ joint_42 ss f) (λ rest ss. no_open 42 ss refl)

pub read_spelled : (is : ItemPhrases90) → ItemsAreGood Input is → IsSpelled (forms.Read is)
read_spelled is h = spelled (forms.Read is) (two_words Start tt (codes "READ") refl (join star (join comma_word (items_lead is h.1)))) (inl refl, h.0) refl

pub print_spelled : (is : ItemPhrases90) → ItemsAreGood Output is → IsSpelled (forms.Print is)
print_spelled is h = spelled (forms.Print is) (two_words Start tt (codes "PRINT") refl (join star (join comma_word (items_lead is h.1)))) (inl refl, h.0) refl

pub read_nothing : IsSpelled forms.ReadNothing
read_nothing = spelled forms.ReadNothing (two_words Start tt (codes "READ") refl star) (inl refl) refl

pub print_nothing : IsSpelled forms.PrintNothing
print_nothing = spelled forms.PrintNothing (two_words Start tt (codes "PRINT") refl star) (inl refl) refl

-- ---- lists

separated_lead : {A : Type 0} {p q : Place} → (text : A → List ℕ) (write : A → List Word90) (P : A → Type 0) → ((x : A) → P x → Leads p q (text x) (write x))
    → Leads q p comma (words.Comma ∷ []) → (x : A) (xs : List A) → P x → AllByRecursion P xs → Leads p q (separated_text text (x ∷ xs)) (separated90 write (x ∷ xs))
separated_lead {A} {p} {q} text write P each between x [] h hs = subst (λ ws. Leads p q (text x) ws) (sym (append-nil (write x))) (each x h)
separated_lead text write P each between x (y ∷ ys) h hs = join (each x h) (join between (separated_lead text write P each between y ys hs.0 hs.1))

-- ---- declarations

bound_good : (z : ℤ) → FitsSigned w64 z → Leads After Start (bound_text (bound z)) (written_bound90 (bound z)) × IsBound90 (bound z)
bound_good (pos n) h = (digits_word Start tt (decimal n) (decimal_digits n (omega (arith, h.sfits))), λ e. absurd cc)
bound_good (negsuc n) h = (join (sign_leads Minus) (digits_word Start tt (decimal (n + 1)) (decimal_digits (n + 1) (omega (arith, h.sfits)))), λ e. absurd cc)

abbrev DimensionIsGood : Dimension → Type 0
DimensionIsGood d = Leads After Start (dimension_text d) (written_dimension d) × SuitsAllocatable false d

dimension_good : (b : ℤ × ℤ) → IsDimension b → DimensionIsGood (dimension b)
dimension_good b h =
    let l = bound_good b.0 h.lower in
    let u = bound_good b.1 h.upper in
    cond_both (int_eq b.0 (pos 1)) (forms.Upper (bound b.1)) (forms.Both (bound b.0) (bound b.1)) DimensionIsGood
    (λ e. u) (λ e. (join l.0 (join colon_word u.0), (l.1, u.1)))

dimensions_good : (bs : List (ℤ × ℤ)) → AllByRecursion IsDimension bs → AllByRecursion DimensionIsGood (map dimension bs)
dimensions_good [] h = tt
dimensions_good (b ∷ bs) h = (dimension_good b h.0, dimensions_good bs h.1)

entity_leads : (x : List ℕ) (ds : List Dimension) → IsName90 x → AllByRecursion DimensionIsGood ds → Leads After Start (x ++ dimensions_text ds) (written_dimensions x ds)
entity_leads x [] h g = subst (λ t. Leads After Start t (words.Name x ∷ [])) (sym (append-nil x)) (name_word Start tt x h)
entity_leads x (d ∷ ds) h g =
    head_word Start tt x h (inside (join (separated_lead dimension_text written_dimension DimensionIsGood (λ d k. k.0) comma_word d ds g.0 g.1) close_word))

deferred : (u : Dimension) → u ≡ forms.Deferred → Leads Beyond Inside (dimension_text u) (written_dimension u)
deferred u e = subst (λ d. Leads Beyond Inside (dimension_text d) (written_dimension d)) (sym e)
    (word Beyond Inside words.Colon (codes ":") refl (codes ":", refl, refl) (λ rest ss f. f) (λ rest ss. refl))

allocatable_leads : (x : List ℕ) (ds : List Dimension) → IsName90 x → AllByRecursion (λ d. d ≡ forms.Deferred) (forms.Deferred ∷ ds)
    → Leads After Start (x ++ dimensions_text (forms.Deferred ∷ ds)) (written_dimensions x (forms.Deferred ∷ ds))
allocatable_leads x ds h g =
    head_word Start tt x h (join (separated_lead dimension_text written_dimension (λ d. d ≡ forms.Deferred) deferred comma_word forms.Deferred ds g.0 g.1) close_beyond)

abbrev entity : List ℕ → List Dimension → EntityForm90
entity x ds = record { name = x; dimensions = ds }

type_keyword : (k : Kind) → Leads After Start (keyword_of k) (words.Name (keyword_of k) ∷ [])
type_keyword Integer = keyword Start tt (codes "INTEGER") refl
type_keyword Logical = keyword Start tt (codes "LOGICAL") refl

attribute_leads : {p : Place} {t : List ℕ} {us : List Word90} → (a : Bool) → Leads p After t us → Leads p After (attribute_text a ++ t) (attribute a ++ us)
attribute_leads true l = join (join comma_word (keyword Start tt (codes "ALLOCATABLE") refl)) l
attribute_leads false l = l

type_begins : (k : Kind) (rest : List ℕ) → Begins (keyword_of k ++ rest)
type_begins Integer rest = refl
type_begins Logical rest = refl

declare_spelled : (k : Kind) (a : Bool) (x : List ℕ) (ds : List Dimension) → Leads After Start (x ++ dimensions_text ds) (written_dimensions x ds) → has_dimensions a ds
    → IsSpelled (forms.Declare k a (entity x ds ∷ []))
declare_spelled k a x ds l h =
    spelled (forms.Declare k a (entity x ds ∷ []))
    (join (type_keyword k) (attribute_leads a (join colons_word (separated_lead entity_text written_entity90 (λ (e : EntityForm90). Leads After Start (entity_text e) (written_entity90 e)) (λ e m. m) comma_word (entity x ds) [] l tt))))
    (refl, (h, tt)) (type_begins k _)

all_deferred : (n : ℕ) → AllByRecursion (λ d. d ≡ forms.Deferred) (replicate n forms.Deferred)
all_deferred zero = tt
all_deferred (suc n) = (refl, all_deferred n)

suit_allocatable : (ds : List Dimension) → AllByRecursion (λ d. d ≡ forms.Deferred) ds → AllByRecursion (SuitsAllocatable true) ds
suit_allocatable [] h = tt
suit_allocatable (d ∷ ds) h = (subst (SuitsAllocatable true) (sym h.0) tt, suit_allocatable ds h.1)

suit_given : (ds : List Dimension) → AllByRecursion DimensionIsGood ds → AllByRecursion (SuitsAllocatable false) ds
suit_given [] h = tt
suit_given (d ∷ ds) h = (h.0.1, suit_given ds h.1)

pub declaration_spelled : (k : Kind) (x : List ℕ) (e : Extent) → IsName90 x → IsExtent e → IsSpelled (forms.Declare k (is_allocatable e) (entity x (dimensions_of e) ∷ []))
declaration_spelled k x (Given bs) h g =
    let d = dimensions_good bs g.1 in
    declare_spelled k false x (map dimension bs) (entity_leads x (map dimension bs) h d) (suit_given (map dimension bs) d, rw length-map g.0)
declaration_spelled k x (Later zero) h g = absurd (omega (arith, g.0))
declaration_spelled k x (Later (suc n)) h g =
    let d = all_deferred n in
    declare_spelled k true x (forms.Deferred ∷ replicate n forms.Deferred) (allocatable_leads x (replicate n forms.Deferred) h (refl, d))
    ((tt, suit_allocatable (replicate n forms.Deferred) d), omega (arith, length-replicate n forms.Deferred, g.1))

-- ---- ALLOCATE and DEALLOCATE

extent_leads : (p : Phrase90) → IsGood p → Leads After Start (extent_text p) (written_extent p)
extent_leads p h = join (digits_word Start tt (codes "1") (refl, tt)) (join colon_word (phrase_leads p h.1))

good_expressions : (ps : List Phrase90) → AllByRecursion IsGood ps → AllByRecursion IsExpression90 ps
good_expressions [] h = tt
good_expressions (p ∷ ps) h = (h.0.0, good_expressions ps h.1)

pub allocate_spelled : (x : List ℕ) (p : Phrase90) (ps : List Phrase90) → IsName90 x → AllByRecursion IsGood (p ∷ ps) → IsSpelled (forms.Allocate x (p ∷ ps))
allocate_spelled x p ps h g =
    spelled (forms.Allocate x (p ∷ ps))
    (subst (λ ws. Leads After Start (form_text (forms.Allocate x (p ∷ ps))) (words.Head (codes "ALLOCATE") ∷ (words.Head x ∷ ws)))
    (append_assoc (separated90 written_extent (p ∷ ps)) (words.Close ∷ []) (words.Close ∷ []))
    (spaced_head Start tt (codes "ALLOCATE") (keyword_name (codes "ALLOCATE") refl)
    (inside (join (head_word Start tt x h (inside (join (separated_lead extent_text written_extent IsGood extent_leads comma_word p ps g.0 g.1) close_word))) close_word))))
    (refl, (g.0.0, good_expressions ps g.1)) refl

pub deallocate_spelled : (x : List ℕ) → IsName90 x → IsSpelled (forms.Deallocate x)
deallocate_spelled x h =
    spelled {p = After} (forms.Deallocate x) (spaced_head Start tt (codes "DEALLOCATE") (keyword_name (codes "DEALLOCATE") refl) (inside (join (name_word Start tt x h) close_word))) refl refl
