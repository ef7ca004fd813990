-- The text of a phrase has the words that it is written in.
use Rattle.std.proofs.Common.{◌≡◌, refl, ap, subst, ◌∙◌, ℕ, Bool, true, false, IsTrue, List, [], ◌∷◌, ◌++◌, append_assoc, codes, inl}
use Rattle.tree.specs.declared.ops.Op.{Op}
use Rattle.tree.specs.declared.ops.Op.TheVariants.{Pow, Mul, Div, Neg, Add, Sub, Lt, Le, Eq, Ne, Gt, Ge, Not, And, Or, Eqv, Neqv}
use Rattle.tree.specs.OperatorTable.{Sign, Plus, Minus, Negation, stands_between, spelling90_of}
use Rattle.f90_grammar.specs.Words as words
use Rattle.f90_grammar.specs.Words.{Word90, Symbol90, Char, IsName90, truth_text}
use Rattle.reading.specs.Characters.{IsDigits}
use Rattle.reading.specs.Signs.{sign_word}
use Rattle.f90_grammar.specs.Phrases.{Phrase90, Literal, Truth, Name, Listed, Paren, Signed, Joined, Values, Looped, ListPart, Value, Range, Strided, ListParts, One, Then, Phrases90, Sole, More, Turn, Innermost, Round, written90, written_part, written_parts, written_values, written_turn}
use Rattle.f90_grammar.specs.PrintedText.{sign_text, phrase_text, part_text, parts_text, values_text, turn_text, in_parentheses, comma, loop_text}
use Rattle.f90_laws.proofs.printed.Spelling.{Place, Start, Named, After, Leads, IsFirst, join, inside, word, start_blank, after_blank, comma_word, colon_word, open_word, close_word, open_list, close_list, equals_word, name_word, digits_word, head_word, stops_too, joint_41, joint_42, joint_61, no_open, is_joint}
use Rattle.std.proofs.lemmas.Bool.{or_from}

-- ---- phrases whose names are names and whose literals are digits

abbrev mutual
  pub IsWorded : Phrase90 → Type 0
  IsWorded (Literal t) = IsDigits t
  IsWorded (Truth b) = Unit {0}
  IsWorded (Name x) = IsName90 x
  IsWorded (Listed x ps) = IsName90 x × PartsAreWorded ps
  IsWorded (Paren p) = IsWorded p
  IsWorded (Signed s p) = IsWorded p
  IsWorded (Joined o a b) = IsTrue (stands_between o) × IsWorded a × IsWorded b
  IsWorded (Values ps) = ValuesAreWorded ps
  IsWorded (Looped t) = TurnIsWorded t

  pub PartIsWorded : ListPart → Type 0
  PartIsWorded (Value p) = IsWorded p
  PartIsWorded (Range a b) = IsWorded a × IsWorded b
  PartIsWorded (Strided a b c) = IsWorded a × IsWorded b × IsWorded c

  pub PartsAreWorded : ListParts → Type 0
  PartsAreWorded (One p) = PartIsWorded p
  PartsAreWorded (Then ps p) = PartsAreWorded ps × PartIsWorded p

  pub ValuesAreWorded : Phrases90 → Type 0
  ValuesAreWorded (Sole p) = IsWorded p
  ValuesAreWorded (More ps p) = ValuesAreWorded ps × IsWorded p

  pub TurnIsWorded : Turn → Type 0
  TurnIsWorded (Innermost p x a b) = IsWorded p × IsName90 x × IsWorded a × IsWorded b
  TurnIsWorded (Round t x a b) = TurnIsWorded t × IsName90 x × IsWorded a × IsWorded b

-- ---- operators

operator : (p : Place) (w : Word90) (cs : List ℕ) → Leads Start Named cs (w ∷ []) → Leads p After (codes " " ++ (cs ++ codes " ")) (w ∷ [])
operator p w cs l = join after_blank (join l start_blank)

unjoint_slash : (c : ℕ) → is_joint c ≡ false → words.IsWhole90 (words.Operator Div) (Char c ∷ [])
unjoint_slash c h = or_from _ _ (joint_61 c h) (joint_41 c h)

stops : (q : ℕ → Bool) → ((c : ℕ) → is_joint c ≡ false → q c ≡ false) → (ss : List Symbol90) → words.Stops90 is_joint ss → words.Stops90 q ss
stops q f ss h = stops_too is_joint q f ss h

between : (p : Place) (o : Op) → IsTrue (stands_between o) → Leads p After (codes " " ++ (spelling90_of o ++ codes " ")) (words.Operator o ∷ [])
between p Pow h = operator p (words.Operator Pow) (codes "**") (word Start Named (words.Operator Pow) (codes "**") refl (codes "**", refl, inl refl) (λ rest ss f. tt) (λ rest ss. no_open 42 _ refl))
between p Mul h = operator p (words.Operator Mul) (codes "*") (word Start Named (words.Operator Mul) (codes "*") refl (codes "*", refl, inl refl) (λ rest ss f. stops _ joint_42 ss f) (λ rest ss. no_open 42 _ refl))
between p Div h = operator p (words.Operator Div) (codes "/") (word Start Named (words.Operator Div) (codes "/") refl (codes "/", refl, inl refl) (λ rest ss f. stops _ unjoint_slash ss f) (λ rest ss. no_open 47 _ refl))
between p Add h = operator p (words.Operator Add) (codes "+") (word Start Named (words.Operator Add) (codes "+") refl (codes "+", refl, inl refl) (λ rest ss f. tt) (λ rest ss. no_open 43 _ refl))
between p Sub h = operator p (words.Operator Sub) (codes "-") (word Start Named (words.Operator Sub) (codes "-") refl (codes "-", refl, inl refl) (λ rest ss f. tt) (λ rest ss. no_open 45 _ refl))
between p Lt h = operator p (words.Operator Lt) (codes "<") (word Start Named (words.Operator Lt) (codes "<") refl (codes "<", refl, inl refl) (λ rest ss f. stops _ joint_61 ss f) (λ rest ss. no_open 60 _ refl))
between p Le h = operator p (words.Operator Le) (codes "<=") (word Start Named (words.Operator Le) (codes "<=") refl (codes "<=", refl, inl refl) (λ rest ss f. tt) (λ rest ss. no_open 60 _ refl))
between p Eq h = operator p (words.Operator Eq) (codes "==") (word Start Named (words.Operator Eq) (codes "==") refl (codes "==", refl, inl refl) (λ rest ss f. tt) (λ rest ss. no_open 61 _ refl))
between p Ne h = operator p (words.Operator Ne) (codes "/=") (word Start Named (words.Operator Ne) (codes "/=") refl (codes "/=", refl, inl refl) (λ rest ss f. tt) (λ rest ss. no_open 47 _ refl))
between p Gt h = operator p (words.Operator Gt) (codes ">") (word Start Named (words.Operator Gt) (codes ">") refl (codes ">", refl, inl refl) (λ rest ss f. stops _ joint_61 ss f) (λ rest ss. no_open 62 _ refl))
between p Ge h = operator p (words.Operator Ge) (codes ">=") (word Start Named (words.Operator Ge) (codes ">=") refl (codes ">=", refl, inl refl) (λ rest ss f. tt) (λ rest ss. no_open 62 _ refl))
between p And h = operator p (words.Operator And) (codes ".AND.") (word Start Named (words.Operator And) (codes ".AND.") refl (codes ".AND.", refl, inl refl) (λ rest ss f. tt) (λ rest ss. no_open 46 _ refl))
between p Or h = operator p (words.Operator Or) (codes ".OR.") (word Start Named (words.Operator Or) (codes ".OR.") refl (codes ".OR.", refl, inl refl) (λ rest ss f. tt) (λ rest ss. no_open 46 _ refl))
between p Eqv h = operator p (words.Operator Eqv) (codes ".EQV.") (word Start Named (words.Operator Eqv) (codes ".EQV.") refl (codes ".EQV.", refl, inl refl) (λ rest ss f. tt) (λ rest ss. no_open 46 _ refl))
between p Neqv h = operator p (words.Operator Neqv) (codes ".NEQV.") (word Start Named (words.Operator Neqv) (codes ".NEQV.") refl (codes ".NEQV.", refl, inl refl) (λ rest ss f. tt) (λ rest ss. no_open 46 _ refl))
between p Neg h = cc
between p Not h = cc

pub sign_leads : (s : Sign) → Leads Start Start (sign_text s) (words.Operator (sign_word s) ∷ [])
sign_leads Plus = word Start Start (words.Operator Add) (codes "+") refl (codes "+", refl, inl refl) (λ rest ss f. tt) (λ rest ss. refl)
sign_leads Minus = word Start Start (words.Operator Sub) (codes "-") refl (codes "-", refl, inl refl) (λ rest ss f. tt) (λ rest ss. refl)
sign_leads Negation = join (word Start Start (words.Operator Not) (codes ".NOT.") refl (codes ".NOT.", refl, inl refl) (λ rest ss f. tt) (λ rest ss. refl)) start_blank

truth_leads : (b : Bool) → Leads After Start (truth_text b) (words.Truth b ∷ [])
truth_leads true = word After Start (words.Truth true) (codes ".TRUE.") refl (codes ".TRUE.", refl, refl) (λ rest ss f. tt) (λ rest ss. refl)
truth_leads false = word After Start (words.Truth false) (codes ".FALSE.") refl (codes ".FALSE.", refl, refl) (λ rest ss f. tt) (λ rest ss. refl)

-- ---- phrases

joined_text : (a o b : List ℕ) → a ++ ((codes " " ++ (o ++ codes " ")) ++ b) ≡ a ++ (32 ∷ (o ++ (32 ∷ b)))
joined_text a o b = ap (λ t. a ++ (32 ∷ t)) (append_assoc o (codes " ") b)

pub loop_leads : {p : Place} {a b : List ℕ} {us vs : List Word90} → (q : Place) → IsFirst q → (x : List ℕ) → IsName90 x → Leads After Start a us → Leads p Start b vs
    → Leads p q (loop_text x a b) (words.Name x ∷ (words.Equals ∷ (us ++ words.Comma ∷ vs)))
loop_leads q f x h a b = join (name_word q f x h) (join equals_word (join a (join comma_word b)))

turn_words : (p a b : List Word90) (x : List ℕ) → (p ++ words.Comma ∷ (words.Name x ∷ (words.Equals ∷ (a ++ words.Comma ∷ b)))) ++ words.Close ∷ []
    ≡ p ++ words.Comma ∷ (words.Name x ∷ (words.Equals ∷ (a ++ words.Comma ∷ (b ++ words.Close ∷ []))))
turn_words p a b x = append_assoc p _ _ ∙ ap (λ t. p ++ words.Comma ∷ (words.Name x ∷ (words.Equals ∷ t))) (append_assoc a (words.Comma ∷ b) _)

turn_leads_with : (p : List ℕ) (us : List Word90) (x a b : List ℕ) (vs ws : List Word90) → Leads After Start p us → IsName90 x → Leads After Start a vs → Leads After Start b ws
    → Leads After Start (in_parentheses (p ++ (comma ++ loop_text x a b)))
    (words.Open ∷ (us ++ words.Comma ∷ (words.Name x ∷ (words.Equals ∷ (vs ++ words.Comma ∷ (ws ++ words.Close ∷ []))))))
turn_leads_with p us x a b vs ws k h l m =
    subst (λ t. Leads After Start (in_parentheses (p ++ (comma ++ loop_text x a b))) (words.Open ∷ t)) (turn_words us vs ws x)
    (join open_word (join (join k (join comma_word (loop_leads Start tt x h l m))) close_word))

mutual
  pub phrase_leads : (p : Phrase90) → IsWorded p → Leads After Start (phrase_text p) (written90 p)
  phrase_leads (Literal t) h = digits_word Start tt t h
  phrase_leads (Truth b) h = truth_leads b
  phrase_leads (Name x) h = name_word Start tt x h
  phrase_leads (Listed x ps) h = head_word Start tt x h.0 (inside (join (parts_lead ps h.1) close_word))
  phrase_leads (Paren p) h = join open_word (join (phrase_leads p h) close_word)
  phrase_leads (Signed s p) h = join (sign_leads s) (phrase_leads p h)
  phrase_leads (Joined o a b) h =
      subst (λ t. Leads After Start t (written90 a ++ words.Operator o ∷ written90 b)) (joined_text (phrase_text a) (spelling90_of o) (phrase_text b))
      (join (phrase_leads a h.1) (join (between Start o h.0) (phrase_leads b h.2)))
  phrase_leads (Values ps) h = join open_list (join (values_lead ps h) close_list)
  phrase_leads (Looped t) h = join open_list (join (turn_leads t h) close_list)

  part_leads : (p : ListPart) → PartIsWorded p → Leads After Start (part_text p) (written_part p)
  part_leads (Value p) h = phrase_leads p h
  part_leads (Range a b) h = join (phrase_leads a h.0) (join colon_word (phrase_leads b h.1))
  part_leads (Strided a b c) h = join (phrase_leads a h.0) (join colon_word (join (phrase_leads b h.1) (join colon_word (phrase_leads c h.2))))

  parts_lead : (ps : ListParts) → PartsAreWorded ps → Leads After Start (parts_text ps) (written_parts ps)
  parts_lead (One p) h = part_leads p h
  parts_lead (Then ps p) h = join (parts_lead ps h.0) (join comma_word (part_leads p h.1))

  values_lead : (ps : Phrases90) → ValuesAreWorded ps → Leads After Start (values_text ps) (written_values ps)
  values_lead (Sole p) h = phrase_leads p h
  values_lead (More ps p) h = join (values_lead ps h.0) (join comma_word (phrase_leads p h.1))

  turn_leads : (t : Turn) → TurnIsWorded t → Leads After Start (turn_text t) (written_turn t)
  turn_leads (Innermost p x a b) h =
      turn_leads_with (phrase_text p) (written90 p) x (phrase_text a) (phrase_text b) (written90 a) (written90 b) (phrase_leads p h.0) h.1 (phrase_leads a h.2) (phrase_leads b h.3)
  turn_leads (Round t x a b) h =
      turn_leads_with (turn_text t) (written_turn t) x (phrase_text a) (phrase_text b) (written90 a) (written90 b) (turn_leads t h.0) h.1 (phrase_leads a h.2) (phrase_leads b h.3)
