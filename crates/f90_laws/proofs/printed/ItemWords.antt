-- The text of a list of PRINT or READ has the words that it is written in.
use Rattle.std.proofs.Common.{◌≡◌, inl, inr, refl, sym, ap, subst, ◌∙◌, arith, ℕ, ◌≤◌, Bool, true, false, cond, Option, Some, None, List, [], ◌∷◌, ◌++◌, append_assoc}
use Rattle.std.specs.Prelude.{◌==◌}
use Rattle.std.specs.List.{AllByRecursion}
use Rattle.std.proofs.lemmas.Bool.{cond_both, eqb-true}
use Rattle.std.proofs.lemmas.Bool.Decides.{nat_tests}
use Rattle.tree.specs.declared.ops.Kind.TheVariants.{Integer, Logical}
use Rattle.tree.specs.Plain as tree
use Rattle.tree.specs.Plain.{Expression, Subscript, Subscripts, Item, Items, Declaration}
use Rattle.meaning.specs.Profile90.{IsDeclaration}
use Rattle.meaning.specs.Typed.{IsText}
use Rattle.meaning.specs.Typed90.{HasSomeKind, rank_of_subscript, rank_of_subscripts}
use Rattle.meaning.specs.Items90.{IsInputItem, AreInputItems, IsOutputItem, AreOutputItems}
use Rattle.f90_grammar.specs.FreeForm.{has_comment, is_open_behind}
use Rattle.f90_grammar.specs.Words as words
use Rattle.f90_grammar.specs.Words.{Word90, Symbol90, Symbols, IsName90, IsInLine}
use Rattle.reading.specs.Characters.{IsEnded, doubled, doubled_one}
use Rattle.f90_grammar.specs.Words.Symbols.{constant}
use Rattle.f90_grammar.specs.Phrases.{Phrase90, ListParts, One, Then, AreValues, written90}
use Rattle.f90_grammar.specs.Items.{ItemPhrase90, Of, Text, Loop, ItemPhrases90, Sole, More, Direction, Input, Output, IsVariable, IsStep90, IsItem90, AreItems90, written_step90, written_bounds90, written_item90, written_items90}
use Rattle.f90_grammar.specs.Printing.{is_one, phrase_of, list_part_of, more_parts}
use Rattle.f90_grammar.specs.PrintedForms.{step_phrase, item_phrase, item_phrases, more_items}
use Rattle.f90_grammar.specs.PrintedText.{step_text, bounds_text, constant_text, item_text, items_text}
use Rattle.f90_laws.proofs.printed.Spelling.{Place, Start, After, IsFirst, Leads, join, open_word, close_word, comma_word, no_words, IsTidy, IsPrintable, all_append}
use Rattle.f90_laws.proofs.printed.PhraseWords.{IsWorded, phrase_leads, loop_leads}
use Rattle.f90_laws.proofs.printed.PhraseLevels.{IsGood, good, declared_name}

-- ---- constants

in_line : (cs : List ℕ) → AllByRecursion IsPrintable cs → IsInLine cs
in_line [] h = tt
in_line (c ∷ cs) h = (by c h.0.0, in_line cs h.1)
  where
    by : (c : ℕ) → 32 ≤ c → (c == 10) ≡ false
    by c k = grind (arith, nat_tests)

doubled_printable : (cs : List ℕ) → AllByRecursion IsPrintable cs → AllByRecursion IsPrintable (doubled cs)
doubled_printable [] h = tt
doubled_printable (c ∷ cs) h = by (c == 39) (doubled_printable cs h.1)
  where
    by : (b : Bool) → AllByRecursion IsPrintable (doubled cs) → AllByRecursion IsPrintable (doubled_one b c ++ doubled cs)
    by true g = (h.0, (h.0, g))
    by false g = (h.0, g)

-- the apostrophes in a constant are doubled, so it stays open up to its end
doubled_comment : (cs rest : List ℕ) → has_comment true (doubled cs ++ (39 ∷ rest)) ≡ has_comment false rest
doubled_comment [] rest = refl
doubled_comment (c ∷ cs) rest = by (c == 39) refl (doubled_comment cs rest)
  where
    by : (b : Bool) → (c == 39) ≡ b → has_comment true (doubled cs ++ (39 ∷ rest)) ≡ has_comment false rest
        → has_comment true ((doubled_one b c ++ doubled cs) ++ (39 ∷ rest)) ≡ has_comment false rest
    by true e h = subst (λ d. has_comment true ((doubled_one true d ++ doubled cs) ++ (39 ∷ rest)) ≡ has_comment false rest) (sym (eqb-true c 39 e)) h
    by false e h = ap (λ b. has_comment (cond b false true) (doubled cs ++ (39 ∷ rest))) e ∙ h

doubled_open : (cs rest : List ℕ) → is_open_behind true (doubled cs ++ (39 ∷ rest)) ≡ is_open_behind false rest
doubled_open [] rest = refl
doubled_open (c ∷ cs) rest = by (c == 39) refl (doubled_open cs rest)
  where
    by : (b : Bool) → (c == 39) ≡ b → is_open_behind true (doubled cs ++ (39 ∷ rest)) ≡ is_open_behind false rest
        → is_open_behind true ((doubled_one b c ++ doubled cs) ++ (39 ∷ rest)) ≡ is_open_behind false rest
    by true e h = subst (λ d. is_open_behind true ((doubled_one true d ++ doubled cs) ++ (39 ∷ rest)) ≡ is_open_behind false rest) (sym (eqb-true c 39 e)) h
    by false e h = ap (λ b. is_open_behind (cond b false true) (doubled cs ++ (39 ∷ rest))) e ∙ h

constant_tidy : (t : List ℕ) → AllByRecursion IsPrintable t → IsTidy (constant_text t)
constant_tidy t h = record {
  printable = ((omega arith, omega arith), all_append IsPrintable (doubled t) (39 ∷ []) (doubled_printable t h) ((omega arith, omega arith), tt));
  comment = λ rest. ap (has_comment true) (append_assoc (doubled t) (39 ∷ []) rest) ∙ doubled_comment t rest;
  open_behind = λ rest. ap (is_open_behind true) (append_assoc (doubled t) (39 ∷ []) rest) ∙ doubled_open t rest;
}

constant_leads : (t : List ℕ) → IsText t → Leads After Start (constant_text t) (words.Constant t ∷ [])
constant_leads [] h = absurd h
constant_leads (c ∷ cs) h = record {
  stands = λ rest more s. record {
    symbols = words.Text (c ∷ cs) ∷ s.symbols;
    are = subst (λ r. Symbols (39 ∷ r) (words.Text (c ∷ cs) ∷ s.symbols)) (sym (append_assoc (doubled (c ∷ cs)) (39 ∷ []) rest)) (constant c cs (in_line (c ∷ cs) h) s.follows.0 s.are);
    in_words = (s.symbols, record { gaps = []; front = words.Text (c ∷ cs) ∷ []; same = refl; are_gaps = tt; spelled = refl; whole = tt }, s.in_words);
    follows = tt;
  };
  tidy = constant_tidy (c ∷ cs) h;
}

-- ---- items whose names are names

abbrev pub StepIsWorded : Option Phrase90 → Type 0
StepIsWorded None = Unit {0}
StepIsWorded (Some p) = IsWorded p

abbrev mutual
  pub ItemIsWorded : ItemPhrase90 → Type 0
  ItemIsWorded (Of p) = IsWorded p
  ItemIsWorded (Text t) = IsText t
  ItemIsWorded (Loop is x a b c) = ItemsAreWorded is × IsName90 x × IsWorded a × IsWorded b × StepIsWorded c

  pub ItemsAreWorded : ItemPhrases90 → Type 0
  ItemsAreWorded (Sole i) = ItemIsWorded i
  ItemsAreWorded (More is i) = ItemsAreWorded is × ItemIsWorded i

step_leads : (c : Option Phrase90) → StepIsWorded c → Leads After After (step_text c) (written_step90 c)
step_leads None h = no_words
step_leads (Some p) h = join comma_word (phrase_leads p h)

bounds_words : (a b c : List Word90) (x : List ℕ) → (words.Name x ∷ (words.Equals ∷ (a ++ words.Comma ∷ b))) ++ c ≡ words.Name x ∷ (words.Equals ∷ (a ++ words.Comma ∷ (b ++ c)))
bounds_words a b c x = ap (λ t. words.Name x ∷ (words.Equals ∷ t)) (append_assoc a (words.Comma ∷ b) c)

pub bounds_lead : (q : Place) → IsFirst q → (x : List ℕ) (a b : Phrase90) (c : Option Phrase90) → IsName90 x → IsWorded a → IsWorded b → StepIsWorded c
    → Leads After q (bounds_text x a b c) (words.Name x ∷ (words.Equals ∷ written_bounds90 a b c))
bounds_lead q f x a b c h k l m =
    subst (λ t. Leads After q (bounds_text x a b c) t) (bounds_words (written90 a) (written90 b) (written_step90 c) x)
    (join (loop_leads q f x h (phrase_leads a k) (phrase_leads b l)) (step_leads c m))

mutual
  item_leads : (i : ItemPhrase90) → ItemIsWorded i → Leads After Start (item_text i) (written_item90 i)
  item_leads (Of p) h = phrase_leads p h
  item_leads (Text t) h = constant_leads t h
  item_leads (Loop is x a b c) h =
      subst (λ t. Leads After Start (item_text (Loop is x a b c)) (words.Open ∷ t))
      (append_assoc (written_items90 is) (words.Comma ∷ (words.Name x ∷ (words.Equals ∷ written_bounds90 a b c))) (words.Close ∷ []))
      (join open_word (join (join (items_lead is h.0) (join comma_word (bounds_lead Start tt x a b c h.1 h.2 h.3 h.4))) close_word))

  pub items_lead : (is : ItemPhrases90) → ItemsAreWorded is → Leads After Start (items_text is) (written_items90 is)
  items_lead (Sole i) h = item_leads i h
  items_lead (More is i) h = join (items_lead is h.0) (join comma_word (item_leads i h.1))

-- ---- what is printed for items

abbrev pub ItemsAreGood : Direction → ItemPhrases90 → Type 0
ItemsAreGood d is = AreItems90 d is × ItemsAreWorded is

abbrev ItemIsGood : Direction → ItemPhrase90 → Type 0
ItemIsGood d i = IsItem90 d i × ItemIsWorded i

abbrev pub StepIsGood : Option Phrase90 → Type 0
StepIsGood c = IsStep90 c × StepIsWorded c

pub step_good : (e : Expression) → IsGood (phrase_of e) → StepIsGood (step_phrase e)
step_good e h = cond_both (is_one e) None (Some (phrase_of e)) StepIsGood (λ k. (tt, tt)) (λ k. h)

loop_good : (d : Direction) (is : ItemPhrases90) (x : List ℕ) (a b : Phrase90) (c : Option Phrase90) → ItemsAreGood d is → IsName90 x → IsGood a → IsGood b → StepIsGood c → ItemIsGood d (Loop is x a b c)
loop_good d is x a b c h n k l m = ((h.0, k.0, l.0, m.0), (h.1, n, k.1, l.1, m.1))

-- a subscript of rank 0 isn't a section
plain_part : (ps : ListParts) (s : Subscript) → AreValues ps → (ds : List Declaration) → rank_of_subscript ds s ≡ 0 → AreValues (Then ps (list_part_of s))
plain_part ps (tree.Only e) h ds k = h
plain_part ps (tree.Section a b c) h ds k = absurd (omega arith)

first_part : (s : Subscript) (ds : List Declaration) → rank_of_subscript ds s ≡ 0 → AreValues (One (list_part_of s))
first_part (tree.Only e) ds k = tt
first_part (tree.Section a b c) ds k = absurd (omega arith)

plain_parts : (ps : ListParts) (ss : Subscripts) → AreValues ps → (ds : List Declaration) → rank_of_subscripts ds ss ≡ 0 → AreValues (more_parts ps ss)
plain_parts ps tree.no_subscripts h ds k = h
plain_parts ps (tree.subscript s ss) h ds k = plain_parts (Then ps (list_part_of s)) ss (plain_part ps s h ds (omega arith)) ds (omega arith)

variable : (x : List ℕ) (ss : Subscripts) (ds : List Declaration) → rank_of_subscripts ds ss ≡ 0 → IsVariable (phrase_of (tree.Named x ss))
variable x tree.no_subscripts ds h = tt
variable x (tree.subscript s ss) ds h = plain_parts (One (list_part_of s)) ss (first_part s ds (omega arith)) ds (omega arith)

module _ (ds : List Declaration) (names : AllByRecursion IsDeclaration ds) where
  some_good : (e : Expression) → HasSomeKind ds e → IsGood (phrase_of e)
  some_good e (inl h) = good ds names e Integer h
  some_good e (inr h) = good ds names e Logical h

  mutual
    output_good : (i : Item) (around : List (List ℕ)) → IsOutputItem ds i around → ItemIsGood Output (item_phrase i)
    output_good (tree.Single e) w h = let g = some_good e h in ((g.0, tt), g.1)
    output_good (tree.Constant t) w h = (tt, h)
    output_good (tree.ImpliedDo tree.no_items x a b c) w h = let e = h.0 in absurd cc
    output_good (tree.ImpliedDo (tree.item i is) x a b c) w h =
        loop_good Output (item_phrases (tree.item i is)) x (phrase_of a) (phrase_of b) (step_phrase c)
        (more_output (Sole (item_phrase i)) is (x ∷ w) (output_good i (x ∷ w) h.5.0) h.5.1)
        (declared_name ds x _ names h.1.integer) (good ds names a Integer h.2.0) (good ds names b Integer h.3.0) (step_good c (good ds names c Integer h.4.0))

    more_output : (ps : ItemPhrases90) (is : Items) (around : List (List ℕ)) → ItemsAreGood Output ps → AreOutputItems ds is around → ItemsAreGood Output (more_items ps is)
    more_output ps tree.no_items w g h = g
    more_output ps (tree.item i is) w g h = let k = output_good i w h.0 in more_output (More ps (item_phrase i)) is w ((g.0, k.0), (g.1, k.1)) h.1

  mutual
    input_good : (i : Item) (around : List (List ℕ)) → IsInputItem ds i around → ItemIsGood Input (item_phrase i)
    input_good (tree.Single (tree.Named x ss)) w h = let g = some_good (tree.Named x ss) h.0 in ((g.0, variable x ss ds h.1), g.1)
    input_good (tree.Single (tree.Number n)) w h = absurd h
    input_good (tree.Single e) w h = absurd h
    input_good (tree.Constant t) w h = absurd h
    input_good (tree.ImpliedDo tree.no_items x a b c) w h = let e = h.0 in absurd cc
    input_good (tree.ImpliedDo (tree.item i is) x a b c) w h =
        loop_good Input (item_phrases (tree.item i is)) x (phrase_of a) (phrase_of b) (step_phrase c)
        (more_input (Sole (item_phrase i)) is (x ∷ w) (input_good i (x ∷ w) h.5.0) h.5.1)
        (declared_name ds x _ names h.1.integer) (good ds names a Integer h.2.0) (good ds names b Integer h.3.0) (step_good c (good ds names c Integer h.4.0))

    more_input : (ps : ItemPhrases90) (is : Items) (around : List (List ℕ)) → ItemsAreGood Input ps → AreInputItems ds is around → ItemsAreGood Input (more_items ps is)
    more_input ps tree.no_items w g h = g
    more_input ps (tree.item i is) w g h = let k = input_good i w h.0 in more_input (More ps (item_phrase i)) is w ((g.0, k.0), (g.1, k.1)) h.1

  pub output_items : (i : Item) (is : Items) (around : List (List ℕ)) → AreOutputItems ds (tree.item i is) around → ItemsAreGood Output (item_phrases (tree.item i is))
  output_items i is w h = more_output (Sole (item_phrase i)) is w (output_good i w h.0) h.1

  pub input_items : (i : Item) (is : Items) (around : List (List ℕ)) → AreInputItems ds (tree.item i is) around → ItemsAreGood Input (item_phrases (tree.item i is))
  input_items i is w h = more_input (Sole (item_phrase i)) is w (input_good i w h.0) h.1
