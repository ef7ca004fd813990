-- The class of a form's words tells the form.
use Rattle.std.proofs.Common.{◌≡◌, ℕ, Bool, true, false, List, [], ◌∷◌, ◌++◌, refl, sym, ap, subst, ◌∙◌, append_assoc, append-nil, Option, Some, None, codes, ◌⊎◌, inl, inr}
use Rattle.tree.specs.declared.ops.Kind.{Kind}
use Rattle.tree.specs.declared.ops.Kind.TheVariants.{Integer, Logical}
use Rattle.tree.specs.declared.ops.Op.TheVariants.{Mul}
use Rattle.f90_grammar.specs.Words.{Word90}
use Rattle.f90_grammar.specs.Words as words
use Rattle.f90_grammar.specs.Phrases as phrases
use Rattle.f90_grammar.specs.Phrases.{Phrase90, IsExpression90, written90, written_parts}
use Rattle.f90_grammar.specs.Items as items
use Rattle.f90_grammar.specs.Items.{ItemPhrase90, ItemPhrases90, Input, Output, AreItems90, IsReference90, IsStep90, written_item90, written_items90, written_bounds90}
use Rattle.f90_grammar.specs.Forms.{Form90, Program, ImplicitNone, Declare, Assign, Where, Test, If, ElseIf, Else, EndIf, Do, EndDo, Continue, Go, Stop, Read, ReadNothing, Print, PrintNothing, Allocate, Deallocate, End, EndProgram, IsInner90, IsWritten90, IsEntity90, EntityForm90, attribute, separated90, written_entity90, written_extent, IsNamed, labelled}
use Rattle.reading.specs.Characters.{IsList, keyword_of}
use Rattle.f90_laws.proofs.unique.Balanced.{after, passes, passes_parts, passes_extents}
use Rattle.f90_laws.proofs.unique.Classes.{Class, Titled, Untyped, Declared, Assigned, Masked, Tested, BeginsIf, BeginsElseIf, BeginsElse, EndsIf, BeginsDo, EndsDo, Continued, Goes, Stopped, ReadsItems, ReadsNothing, PrintsItems, PrintsNothing, Allocates, Deallocates, Ends, EndsProgram, Unknown, class_of, unless_equals, head_class, keyword}
use Rattle.f90_laws.proofs.unique.Items.{starts, starts_not}

abbrev pub then_word : List Word90
then_word = words.Name (codes "THEN") ∷ []

-- what a class says of a form
abbrev pub Told : Class → Form90 → Type 0
Told (Titled x) f = f ≡ Program x
Told Untyped f = f ≡ ImplicitNone
Told (Declared k ws) f = (a : Bool) × (es : List EntityForm90) × (f ≡ Declare k a es)
    × (ws ≡ attribute a ++ words.Colons ∷ separated90 written_entity90 es) × IsList (IsEntity90 a) es
Told (Assigned ws) f = (l : Phrase90) × (r : Phrase90) × (f ≡ Assign l r) × (ws ≡ written90 l ++ words.Equals ∷ written90 r)
    × IsExpression90 l × IsExpression90 r
Told (Masked ws) f = (m : Phrase90) × (l : Phrase90) × (r : Phrase90) × (f ≡ Where m l r)
    × (ws ≡ written90 m ++ words.Close ∷ (written90 l ++ words.Equals ∷ written90 r)) × IsExpression90 m × IsExpression90 l × IsExpression90 r
Told (Tested ws) f = (p : Phrase90) × (g : Form90) × (rest : List Word90) × (f ≡ Test p g) × (ws ≡ written90 p ++ words.Close ∷ rest)
    × IsExpression90 p × IsWritten90 g rest × IsInner90 g
Told (BeginsIf ws) f = (p : Phrase90) × (f ≡ If p) × (ws ≡ written90 p ++ words.Close ∷ then_word) × IsExpression90 p
Told (BeginsElseIf ws) f = (p : Phrase90) × (f ≡ ElseIf p) × (ws ≡ written90 p ++ words.Close ∷ then_word) × IsExpression90 p
Told BeginsElse f = f ≡ Else
Told EndsIf f = f ≡ EndIf
Told (BeginsDo ws) f = (x : List ℕ) × (a : Phrase90) × (b : Phrase90) × (c : Option Phrase90) × (f ≡ Do x a b c)
    × (ws ≡ words.Name x ∷ (words.Equals ∷ written_bounds90 a b c)) × IsExpression90 a × IsExpression90 b × IsStep90 c
Told EndsDo f = f ≡ EndDo
Told (Continued label) f = f ≡ Continue label
Told (Goes ws) f = (label : List ℕ) × (f ≡ Go label) × (ws ≡ words.Digits label ∷ [])
Told Stopped f = f ≡ Stop
Told (ReadsItems ws) f = (is : ItemPhrases90) × (f ≡ Read is) × (ws ≡ written_items90 is) × AreItems90 Input is
Told ReadsNothing f = f ≡ ReadNothing
Told (PrintsItems ws) f = (is : ItemPhrases90) × (f ≡ Print is) × (ws ≡ written_items90 is) × AreItems90 Output is
Told PrintsNothing f = f ≡ PrintNothing
Told (Allocates ws) f = (x : List ℕ) × (es : List Phrase90) × (f ≡ Allocate x es)
    × (ws ≡ words.Head x ∷ (separated90 written_extent es ++ words.Close ∷ (words.Close ∷ []))) × IsList IsExpression90 es
Told (Deallocates ws) f = (x : List ℕ) × (f ≡ Deallocate x) × (ws ≡ words.Name x ∷ (words.Close ∷ []))
Told Ends f = f ≡ End
Told (EndsProgram ws) f = (x : Option (List ℕ)) × (f ≡ EndProgram x) × (ws ≡ IsNamed x)
Told Unknown f = ⊥

by_class : (f : Form90) (ws vs : List Word90) (c : Class) → ws ≡ vs → class_of vs ≡ c → Told c f → Told (class_of ws) f
by_class f ws vs c e d t = subst (λ (z : Class). Told z f) (sym (ap class_of e ∙ d)) t

-- ---- a name with a list begins an assignment or has a keyword

abbrev by_rest : List ℕ → List Word90 → List Word90 → Class
by_rest x ws rest = unless_equals (Assigned (words.Head x ∷ ws)) (head_class (keyword x) rest ws) rest

headed : (x : List ℕ) (ws rest : List Word90) → after ws 0 ≡ rest → class_of (words.Head x ∷ ws) ≡ by_rest x ws rest
headed x ws rest e = ap (by_rest x ws) e

closed : (p : Phrase90) (rest : List Word90) → after (written90 p ++ words.Close ∷ rest) 0 ≡ rest
closed p rest = passes p (words.Close ∷ rest) 0

assigned : (l r : Phrase90) → IsReference90 l → class_of (written90 l ++ words.Equals ∷ written90 r) ≡ Assigned (written90 l ++ words.Equals ∷ written90 r)
assigned (phrases.Literal t) r h = absurd h
assigned (phrases.Truth b) r h = absurd h
assigned (phrases.Name x) r h = refl
assigned (phrases.Listed x ps) r h =
    headed x ((written_parts ps ++ words.Close ∷ []) ++ words.Equals ∷ written90 r) (words.Equals ∷ written90 r)
    (ap (λ (ws : List Word90). after ws 0) (append_assoc (written_parts ps) (words.Close ∷ []) (words.Equals ∷ written90 r))
    ∙ passes_parts ps (words.Close ∷ (words.Equals ∷ written90 r)) 0)
assigned (phrases.Paren p) r h = absurd h
assigned (phrases.Signed s p) r h = absurd h
assigned (phrases.Joined o a b) r h = absurd h
assigned (phrases.Values ps) r h = absurd h
assigned (phrases.Looped t) r h = absurd h

-- ---- WHERE

masked : (m l r : Phrase90) → IsReference90 l → (ws : List Word90)
    → ws ≡ written90 m ++ words.Close ∷ (written90 l ++ words.Equals ∷ written90 r) → class_of (words.Head (codes "WHERE") ∷ ws) ≡ Masked ws
masked m l r h ws e =
    headed (codes "WHERE") ws (written90 l ++ words.Equals ∷ written90 r)
    (ap (λ (v : List Word90). after v 0) e ∙ closed m (written90 l ++ words.Equals ∷ written90 r)) ∙ by l h
  where
    by : (l : Phrase90) → IsReference90 l → by_rest (codes "WHERE") ws (written90 l ++ words.Equals ∷ written90 r) ≡ Masked ws
    by (phrases.Literal t) h = absurd h
    by (phrases.Truth b) h = absurd h
    by (phrases.Name x) h = refl
    by (phrases.Listed x ps) h = refl
    by (phrases.Paren p) h = absurd h
    by (phrases.Signed s p) h = absurd h
    by (phrases.Joined o a b) h = absurd h
    by (phrases.Values ps) h = absurd h
    by (phrases.Looped t) h = absurd h

-- ---- lists of READ and PRINT

pub record Begun (ws : List Word90) : Type 0 where
  pub word : Word90
  pub rest : List Word90
  pub same : ws ≡ word ∷ rest
  pub no_equals : word ≡ words.Equals → ⊥

mutual
  item_begins : (i : ItemPhrase90) (r : List Word90) → Begun (written_item90 i ++ r)
  item_begins (items.Of p) r =
      let s = starts p r in
      record { word = s.word; rest = s.rest; same = s.same; no_equals = λ e. starts_not words.Equals p r s.rest (λ x. x) (s.same ∙ ap (λ (w : Word90). w ∷ s.rest) e) }
  item_begins (items.Text t) r = record { word = words.Constant t; rest = r; same = refl; no_equals = λ e. cc }
  item_begins (items.Loop is x a b c) r = record {
    word = words.Open;
    rest = (written_items90 is ++ words.Comma ∷ (words.Name x ∷ (words.Equals ∷ (written_bounds90 a b c ++ words.Close ∷ [])))) ++ r;
    same = refl;
    no_equals = λ e. cc;
  }

  items_begin : (is : ItemPhrases90) (r : List Word90) → Begun (written_items90 is ++ r)
  items_begin (items.Sole i) r = item_begins i r
  items_begin (items.More is i) r =
      let s = items_begin is (words.Comma ∷ (written_item90 i ++ r)) in
      record { word = s.word; rest = s.rest; same = append_assoc (written_items90 is) (words.Comma ∷ written_item90 i) r ∙ s.same; no_equals = s.no_equals }

begun : (is : ItemPhrases90) → Begun (written_items90 is)
begun is =
    let s = items_begin is [] in
    record { word = s.word; rest = s.rest; same = sym (append-nil (written_items90 is)) ∙ s.same; no_equals = s.no_equals }

not_equals : (c d : Class) (w : Word90) (ws : List Word90) → (w ≡ words.Equals → ⊥) → unless_equals c d (w ∷ ws) ≡ d
not_equals c d words.Equals ws n = absurd (n refl)
not_equals c d w ws n = refl

-- an asterisk for the unit and for the format
abbrev starred : List Word90 → List Word90
starred list = words.Operator Mul ∷ (words.Comma ∷ (words.Operator Mul ∷ (words.Close ∷ list)))

reads_list : (is : ItemPhrases90) → class_of (words.Head (codes "READ") ∷ starred (written_items90 is)) ≡ ReadsItems (written_items90 is)
reads_list is =
    let b = begun is in
    let T = starred (written_items90 is) in
    ap (by_rest (codes "READ") T) b.same
    ∙ (not_equals (Assigned (words.Head (codes "READ") ∷ T)) (ReadsItems (b.word ∷ b.rest)) b.word b.rest b.no_equals ∙ ap ReadsItems (sym b.same))

writes_list : (is : ItemPhrases90) → class_of (words.Head (codes "WRITE") ∷ starred (written_items90 is)) ≡ PrintsItems (written_items90 is)
writes_list is =
    let b = begun is in
    let T = starred (written_items90 is) in
    ap (by_rest (codes "WRITE") T) b.same
    ∙ (not_equals (Assigned (words.Head (codes "WRITE") ∷ T)) (PrintsItems (b.word ∷ b.rest)) b.word b.rest b.no_equals ∙ ap PrintsItems (sym b.same))

-- ---- statements behind IF (..)

two : (F : List Word90 → Class) (c : Class) (ws u v : List Word90) → (ws ≡ u) ⊎ (ws ≡ v) → F u ≡ c → F v ≡ c → F ws ≡ c
two F c ws u v (inl e) p q = ap F e ∙ p
two F c ws u v (inr e) p q = ap F e ∙ q

abbrev behind_if : List Word90 → List Word90 → Class
behind_if T rest = by_rest (codes "IF") T rest

referred : (T : List Word90) (l : Phrase90) (r : List Word90) → IsReference90 l → behind_if T (written90 l ++ words.Equals ∷ r) ≡ Tested T
referred T (phrases.Literal t) r h = absurd h
referred T (phrases.Truth b) r h = absurd h
referred T (phrases.Name x) r h = refl
referred T (phrases.Listed x ps) r h = refl
referred T (phrases.Paren p) r h = absurd h
referred T (phrases.Signed s p) r h = absurd h
referred T (phrases.Joined o a b) r h = absurd h
referred T (phrases.Values ps) r h = absurd h
referred T (phrases.Looped t) r h = absurd h

inner_class : (T : List Word90) (f : Form90) (rest : List Word90) → IsWritten90 f rest → IsInner90 f → behind_if T rest ≡ Tested T
inner_class T (Assign l r) rest h i = ap (behind_if T) h.0 ∙ referred T l (written90 r) h.1
inner_class T (Go label) rest h i = two (behind_if T) (Tested T) rest _ _ h.0 refl refl
inner_class T (Continue label) rest h i =
    ap (behind_if T) (h.0 ∙ ap (λ (x : List ℕ). labelled x (words.Name (codes "CONTINUE") ∷ [])) i)
inner_class T Stop rest h i = ap (behind_if T) h
inner_class T (Read is) rest h i = two (behind_if T) (Tested T) rest _ _ h.0 refl refl
inner_class T ReadNothing rest h i = two (behind_if T) (Tested T) rest _ _ h refl refl
inner_class T (Print is) rest h i = two (behind_if T) (Tested T) rest _ _ h.0 refl refl
inner_class T PrintNothing rest h i = two (behind_if T) (Tested T) rest _ _ h refl refl
inner_class T f rest h i = absurd i

-- ---- all forms

declared : (k : Kind) (a : Bool) (es : List EntityForm90)
    → class_of (words.Name (keyword_of k) ∷ (attribute a ++ words.Colons ∷ separated90 written_entity90 es))
    ≡ Declared k (attribute a ++ words.Colons ∷ separated90 written_entity90 es)
declared Integer true es = refl
declared Integer false es = refl
declared Logical true es = refl
declared Logical false es = refl

by_two : (f : Form90) (ws u v : List Word90) (c : Class) → (ws ≡ u) ⊎ (ws ≡ v) → class_of u ≡ c → class_of v ≡ c → Told c f → Told (class_of ws) f
by_two f ws u v c h p q t = subst (λ (z : Class). Told z f) (sym (two class_of c ws u v h p q)) t

pub told : (f : Form90) (ws : List Word90) → IsWritten90 f ws → Told (class_of ws) f
told (Program x) ws h = by_class (Program x) ws _ (Titled x) h refl refl
told ImplicitNone ws h = by_class ImplicitNone ws _ Untyped h refl refl
told (Declare k a es) ws h =
    by_class (Declare k a es) ws _ (Declared k (attribute a ++ words.Colons ∷ separated90 written_entity90 es)) h.0 (declared k a es) (a, es, refl, refl, h.1)
told (Assign l r) ws h =
    by_class (Assign l r) ws _ (Assigned (written90 l ++ words.Equals ∷ written90 r)) h.0 (assigned l r h.1) (l, r, refl, refl, h.2, h.3)
told (Where m l r) ws h =
    let T = written90 m ++ words.Close ∷ (written90 l ++ words.Equals ∷ written90 r) in
    by_class (Where m l r) ws _ (Masked T) h.0 (masked m l r h.2 T refl) (m, l, r, refl, refl, h.1, h.3, h.4)
told (Test p f) ws h =
    let T = written90 p ++ words.Close ∷ h.0 in
    by_class (Test p f) ws (words.Head (codes "IF") ∷ T) (Tested T) h.1
    (headed (codes "IF") T h.0 (closed p h.0) ∙ inner_class T f h.0 h.3 h.4) (p, f, h.0, refl, refl, h.2, h.3, h.4)
told (If p) ws h =
    let T = written90 p ++ words.Close ∷ then_word in
    by_class (If p) ws _ (BeginsIf T) h.0 (headed (codes "IF") T then_word (closed p then_word)) (p, refl, refl, h.1)
told (ElseIf p) ws h =
    let T = written90 p ++ words.Close ∷ then_word in
    by_two (ElseIf p) ws _ _ (BeginsElseIf T) h.0 refl (headed (codes "ELSEIF") T then_word (closed p then_word)) (p, refl, refl, h.1)
told Else ws h = by_class Else ws _ BeginsElse h refl refl
told EndIf ws h = by_two EndIf ws _ _ EndsIf h refl refl refl
told (Do x a b c) ws h =
    by_class (Do x a b c) ws _ (BeginsDo (words.Name x ∷ (words.Equals ∷ written_bounds90 a b c))) h.0 refl
    (x, a, b, c, refl, refl, h.1, h.2, h.3)
told EndDo ws h = by_two EndDo ws _ _ EndsDo h refl refl refl
told (Continue []) ws h = by_class (Continue []) ws _ (Continued []) h.0 refl refl
told (Continue (c ∷ cs)) ws h = by_class (Continue (c ∷ cs)) ws _ (Continued (c ∷ cs)) h.0 refl refl
told (Go label) ws h = by_two (Go label) ws _ _ (Goes (words.Digits label ∷ [])) h.0 refl refl (label, refl, refl)
told Stop ws h = by_class Stop ws _ Stopped h refl refl
told (Read is) ws h = by_two (Read is) ws _ _ (ReadsItems (written_items90 is)) h.0 refl (reads_list is) (is, refl, refl, h.1)
told ReadNothing ws h = by_two ReadNothing ws _ _ ReadsNothing h refl refl refl
told (Print is) ws h = by_two (Print is) ws _ _ (PrintsItems (written_items90 is)) h.0 refl (writes_list is) (is, refl, refl, h.1)
told PrintNothing ws h = by_two PrintNothing ws _ _ PrintsNothing h refl refl refl
told (Allocate x es) ws h =
    let T = words.Head x ∷ (separated90 written_extent es ++ words.Close ∷ (words.Close ∷ [])) in
    by_class (Allocate x es) ws _ (Allocates T) h.0
    (headed (codes "ALLOCATE") T [] (passes_extents es (words.Close ∷ (words.Close ∷ [])) 1)) (x, es, refl, refl, h.1)
told (Deallocate x) ws h = by_class (Deallocate x) ws _ (Deallocates (words.Name x ∷ (words.Close ∷ []))) h refl (x, refl, refl)
told End ws h = by_class End ws _ Ends h refl refl
told (EndProgram None) ws h = by_two (EndProgram None) ws _ _ (EndsProgram []) h refl refl (None, refl, refl)
told (EndProgram (Some x)) ws h =
    by_two (EndProgram (Some x)) ws _ _ (EndsProgram (words.Name x ∷ [])) h refl refl (Some x, refl, refl)
