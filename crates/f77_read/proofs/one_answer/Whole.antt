-- All words as an expression, as a list, as a DO variable with its parameters, as an assignment.
use Rattle.std.proofs.Common.{◌≡◌, inl, inr, ℕ, List, [], ◌∷◌, ◌++◌, map, max, min, refl, ap, sym, ◌∙◌, subst, append-nil, arith}
use Rattle.std.specs.Prelude.{◌⊎◌, Option, Some, None}
use Rattle.f77_grammar.specs.expressions.Phrases as phrases
use Rattle.f77_grammar.specs.expressions.Phrases.{Phrase77, IsExpression77, written77}
use Rattle.f77_grammar.specs.expressions.Spelling.{AreWords77}
use Rattle.f77_grammar.specs.expressions.Squeezing.{Symbol77}
use Rattle.f77_grammar.specs.expressions.Words as words
use Rattle.f77_grammar.specs.expressions.Words.{Word77}
use Rattle.f77_grammar.specs.statements.Forms.{separated77, deepest}
use Rattle.reading.specs.Characters.{IsList}
use Rattle.f77_grammar.specs.statements.Controls.{Control, IsControl, written_control, step_tree77, step_depth77, control_depth}
use Rattle.f77_grammar.specs.statements.Items.{IsReference77}
use Rattle.f77_expressions.specs.Reader.{capped}
use Rattle.f77_expressions.specs.Reading.{Ends}
use Rattle.f77_words.specs.lists.Reader as reader
use Rattle.f77_words.proofs.lists.Complete.{control_of}
use Rattle.f77_words.proofs.lists.ControlLaws.{whole_is_read, nothing_read}
use Rattle.f77_words.proofs.lists.Sound.{control_found}
use Rattle.f77_statement.specs.Separated.{EndsPart, EndsList}
use Rattle.f77_read.proofs.one_answer.Fronts.{IsThere, Front, BeginsWith, close, open_, equals, nothing, tail_same, phrase, list}
use Rattle.f77_read.proofs.one_answer.Parts.{IsBareExpression, reference, both_alike}
use Rattle.f77_read.proofs.one_answer.Symbols.{HasWords, HasNoWords, words_of}

-- ---- an expression

pub record IsWhole (ws : List Word77) : Type 0 where
  pub phrase : Phrase77
  pub good : IsExpression77 phrase
  pub same : ws ≡ written77 phrase
  pub only : (q : Phrase77) → IsExpression77 q → ws ≡ written77 q → (phrases.tree77_of phrase ≡ phrases.tree77_of q) × (capped (phrases.phrase_depth77 phrase) ≡ capped (phrases.phrase_depth77 q))

abbrev pub IsNoWhole : List Word77 → Type 0
IsNoWhole ws = (q : Phrase77) → IsExpression77 q → ws ≡ written77 q → ⊥

alone : (xs ys : List Word77) → xs ≡ ys → xs ≡ ys ++ []
alone xs ys e = e ∙ sym (append-nil ys)

pub whole : (ws : List Word77) → IsWhole ws ⊎ IsNoWhole ws
whole ws = by (phrase ws)
  where
    by_rest : (h : IsThere written77 IsExpression77 phrases.tree77_of phrases.phrase_depth77 Ends ws) → (h.rest ≡ []) ⊎ (h.rest ≡ [] → ⊥) → IsWhole ws ⊎ IsNoWhole ws
    by_rest h (inl e) = inl (record {
      phrase = h.part;
      good = h.is_good;
      same = h.same ∙ ap (λ q. written77 h.part ++ q) e ∙ append-nil (written77 h.part);
      only = λ q g s. let f = h.only q [] g tt (alone ws (written77 q) s) in (f.0, f.1);
    })
    by_rest h (inr lacks) = inr (λ q g s. lacks (h.only q [] g tt (alone ws (written77 q) s)).2)

    by : Front written77 IsExpression77 phrases.tree77_of phrases.phrase_depth77 Ends ws → IsWhole ws ⊎ IsNoWhole ws
    by (inl h) = by_rest h (nothing h.rest)
    by (inr never) = inr (λ q g s. never q [] g tt (alone ws (written77 q) s))

-- ---- a condition

pub record IsSpelled (text : List Symbol77) : Type 0 where
  pub phrase : Phrase77
  pub good : IsExpression77 phrase
  pub spelled : AreWords77 text (written77 phrase)
  pub only : (q : Phrase77) → IsExpression77 q → AreWords77 text (written77 q) → (phrases.tree77_of phrase ≡ phrases.tree77_of q) × (capped (phrases.phrase_depth77 phrase) ≡ capped (phrases.phrase_depth77 q)) × (written77 phrase ≡ written77 q)

abbrev pub IsNotSpelled : List Symbol77 → Type 0
IsNotSpelled text = (q : Phrase77) → IsExpression77 q → AreWords77 text (written77 q) → ⊥

pub spelled : (text : List Symbol77) → IsSpelled text ⊎ IsNotSpelled text
spelled text = by (words_of text)
  where
    by_whole : (k : HasWords text) → IsWhole k.words ⊎ IsNoWhole k.words → IsSpelled text ⊎ IsNotSpelled text
    by_whole k (inl w) = inl (record {
      phrase = w.phrase;
      good = w.good;
      spelled = subst (AreWords77 text) w.same k.are;
      only = λ q g h. let s = k.only (written77 q) h in let f = w.only q g s in (f.0, f.1, sym w.same ∙ s);
    })
    by_whole k (inr never) = inr (λ q g h. never q g (k.only (written77 q) h))

    by : HasWords text ⊎ HasNoWords text → IsSpelled text ⊎ IsNotSpelled text
    by (inl k) = by_whole k (whole k.words)
    by (inr never) = inr (λ q g h. never (written77 q) h)

-- ---- a list

module _ {A T : Type 0} (write : A → List Word77) (good : A → Type 0) (tree : A → T) (depth : A → ℕ) (part : (ws : List Word77) → Front write good tree depth EndsPart ws) where
  pub record AreAll (ws : List Word77) : Type 0 where
    pub parts : List A
    pub are : IsList good parts
    pub same : ws ≡ separated77 write parts
    pub only : (xs : List A) → IsList good xs → ws ≡ separated77 write xs → (map tree parts ≡ map tree xs) × (capped (deepest depth parts) ≡ capped (deepest depth xs))

  abbrev pub AreNot : List Word77 → Type 0
  AreNot ws = (xs : List A) → IsList good xs → ws ≡ separated77 write xs → ⊥

  pub all : (ws : List Word77) → AreAll ws ⊎ AreNot ws
  all ws = by (list write good tree depth part ws)
    where
      by_rest : (h : IsThere (separated77 write) (IsList good) (map tree) (deepest depth) EndsList ws) → (h.rest ≡ []) ⊎ (h.rest ≡ [] → ⊥) → AreAll ws ⊎ AreNot ws
      by_rest h (inl e) = inl (record {
        parts = h.part;
        are = h.is_good;
        same = h.same ∙ ap (λ q. separated77 write h.part ++ q) e ∙ append-nil (separated77 write h.part);
        only = λ xs g s. let f = h.only xs [] g tt (alone ws (separated77 write xs) s) in (f.0, f.1);
      })
      by_rest h (inr lacks) = inr (λ xs g s. lacks (h.only xs [] g tt (alone ws (separated77 write xs) s)).2)

      by : Front (separated77 write) (IsList good) (map tree) (deepest depth) EndsList ws → AreAll ws ⊎ AreNot ws
      by (inl h) = by_rest h (nothing h.rest)
      by (inr never) = inr (λ xs g s. never xs [] g tt (alone ws (separated77 write xs) s))

  abbrev enclosed : List A → List Word77
  enclosed xs = words.Open ∷ (separated77 write xs ++ words.Close ∷ [])

  pub record AreInside (ws : List Word77) : Type 0 where
    pub parts : List A
    pub are : IsList good parts
    pub same : ws ≡ enclosed parts
    pub only : (xs : List A) → IsList good xs → ws ≡ enclosed xs → (map tree parts ≡ map tree xs) × (capped (deepest depth parts) ≡ capped (deepest depth xs))

  abbrev pub AreNotInside : List Word77 → Type 0
  AreNotInside ws = (xs : List A) → IsList good xs → ws ≡ enclosed xs → ⊥

  pub inside : (ws : List Word77) → AreInside ws ⊎ AreNotInside ws
  inside ws = by (open_ ws)
    where
      by_end : (more : List Word77) → ws ≡ words.Open ∷ more → (h : IsThere (separated77 write) (IsList good) (map tree) (deepest depth) EndsList more) (rest : List Word77) → h.rest ≡ words.Close ∷ rest → (rest ≡ []) ⊎ (rest ≡ [] → ⊥) → AreInside ws ⊎ AreNotInside ws
      by_end more e h rest c (inl n) = inl (record {
        parts = h.part;
        are = h.is_good;
        same = e ∙ ap (λ (q : List Word77). words.Open ∷ q) (h.same ∙ ap (λ q. separated77 write h.part ++ q) (c ∙ ap (λ (q : List Word77). words.Close ∷ q) n));
        only = λ xs g s. let f = h.only xs (words.Close ∷ []) g tt (tail_same words.Open _ _ (sym e ∙ s)) in (f.0, f.1);
      })
      by_end more e h rest c (inr lacks) = inr (λ xs g s. lacks (tail_same words.Close _ _ (sym c ∙ (h.only xs (words.Close ∷ []) g tt (tail_same words.Open _ _ (sym e ∙ s))).2)))

      by_close : (more : List Word77) → ws ≡ words.Open ∷ more → (h : IsThere (separated77 write) (IsList good) (map tree) (deepest depth) EndsList more) → BeginsWith words.Close h.rest → AreInside ws ⊎ AreNotInside ws
      by_close more e h (inl k) = by_end more e h k.0 k.1 (nothing k.0)
      by_close more e h (inr lacks) = inr (λ xs g s. lacks _ (h.only xs (words.Close ∷ []) g tt (tail_same words.Open _ _ (sym e ∙ s))).2)

      by_list : (more : List Word77) → ws ≡ words.Open ∷ more → Front (separated77 write) (IsList good) (map tree) (deepest depth) EndsList more → AreInside ws ⊎ AreNotInside ws
      by_list more e (inl h) = by_close more e h (close h.rest)
      by_list more e (inr never) = inr (λ xs g s. never xs (words.Close ∷ []) g tt (tail_same words.Open _ _ (sym e ∙ s)))

      by : BeginsWith words.Open ws → AreInside ws ⊎ AreNotInside ws
      by (inl k) = by_list k.0 k.1 (list write good tree depth part k.0)
      by (inr lacks) = inr (λ xs g s. lacks _ s)

-- ---- a DO variable with its parameters

pub record IsControlThere (ws : List Word77) : Type 0 where
  pub control : Control
  pub good : IsControl control
  pub same : ws ≡ written_control control
  pub only : (c : Control) → IsControl c → ws ≡ written_control c
      → (control.variable ≡ c.variable) × (phrases.tree77_of control.first ≡ phrases.tree77_of c.first) × (phrases.tree77_of control.last ≡ phrases.tree77_of c.last) × (step_tree77 control.step ≡ step_tree77 c.step) × (capped (control_depth control) ≡ capped (control_depth c))

abbrev pub IsNoControl : List Word77 → Type 0
IsNoControl ws = (c : Control) → IsControl c → ws ≡ written_control c → ⊥

deepest_part : (a b c : ℕ) → max (max (min a 401) (min b 401)) (min c 401) ≡ min (max (max a b) c) 401
deepest_part a b c = omega arith

depth_is : (k : Control) (rest : List Word77) → (control_of k rest).depth ≡ capped (control_depth k)
depth_is k rest = deepest_part (phrases.phrase_depth77 k.first) (phrases.phrase_depth77 k.last) (step_depth77 k.step)

pub control_there : (ws : List Word77) → IsControlThere ws ⊎ IsNoControl ws
control_there ws = by (reader.control ws) refl
  where
    by_rest : (b : reader.ReadControl) → reader.control ws ≡ Some b → (rest : List Word77) → b.rest ≡ rest → IsControlThere ws ⊎ IsNoControl ws
    by_rest b e [] n =
        let f = control_found ws b e in
        inl (record {
          control = f.control;
          good = f.good;
          same = f.text_is ∙ (ap (λ (q : List Word77). written_control f.control ++ q) n ∙ append-nil (written_control f.control));
          only = λ c g s.
              let k = sym e ∙ whole_is_read ws c g s in
              let q : b ≡ control_of c [] = cc in
              let r = sym f.is ∙ q in (
                ap (λ (m : reader.ReadControl). m.variable) r,
                ap (λ (m : reader.ReadControl). m.first) r,
                ap (λ (m : reader.ReadControl). m.last) r,
                ap (λ (m : reader.ReadControl). m.step) r,
                sym (depth_is f.control b.rest) ∙ (ap (λ (m : reader.ReadControl). m.depth) r ∙ depth_is c []),
              );
        })
    by_rest b e (w ∷ rest) n = inr (λ c g s.
        let k = sym e ∙ whole_is_read ws c g s in
        let q : b ≡ control_of c [] = cc in
        let r : w ∷ rest ≡ [] = sym n ∙ ap (λ (m : reader.ReadControl). m.rest) q in cc)

    by : (o : Option reader.ReadControl) → reader.control ws ≡ o → IsControlThere ws ⊎ IsNoControl ws
    by None e = inr (nothing_read ws e)
    by (Some b) e = by_rest b e b.rest refl

-- ---- an assignment

abbrev pub assigned : Phrase77 → Phrase77 → List Word77
assigned l r = written77 l ++ (words.Equals ∷ written77 r)

pub record IsAssignment (ws : List Word77) : Type 0 where
  pub left : Phrase77
  pub right : Phrase77
  pub bare : IsReference77 left
  pub good_left : IsExpression77 left
  pub good_right : IsExpression77 right
  pub same : ws ≡ assigned left right
  pub only : (l r : Phrase77) → IsReference77 l → IsExpression77 l → IsExpression77 r → ws ≡ assigned l r
      → (phrases.tree77_of left ≡ phrases.tree77_of l) × (phrases.tree77_of right ≡ phrases.tree77_of r) × (capped (max (phrases.phrase_depth77 left) (phrases.phrase_depth77 right)) ≡ capped (max (phrases.phrase_depth77 l) (phrases.phrase_depth77 r)))

abbrev pub IsNoAssignment : List Word77 → Type 0
IsNoAssignment ws = (l r : Phrase77) → IsReference77 l → IsExpression77 l → IsExpression77 r → ws ≡ assigned l r → ⊥

pub assignment_of : (ws : List Word77) → IsAssignment ws ⊎ IsNoAssignment ws
assignment_of ws = by (reference ws)
  where
    by_right : (h : IsThere written77 IsBareExpression phrases.tree77_of phrases.phrase_depth77 Ends ws) (more : List Word77) → h.rest ≡ words.Equals ∷ more → IsWhole more ⊎ IsNoWhole more → IsAssignment ws ⊎ IsNoAssignment ws
    by_right h more e (inl w) = inl (record {
      left = h.part;
      right = w.phrase;
      bare = h.is_good.0;
      good_left = h.is_good.1;
      good_right = w.good;
      same = h.same ∙ ap (λ q. written77 h.part ++ q) (e ∙ ap (λ (q : List Word77). words.Equals ∷ q) w.same);
      only = λ l r b g k s.
          let f = h.only l (words.Equals ∷ written77 r) (b, g) tt s in
          let m = w.only r k (tail_same words.Equals _ _ (sym e ∙ f.2)) in
          (f.0, m.0, both_alike (phrases.phrase_depth77 h.part) (phrases.phrase_depth77 l) (phrases.phrase_depth77 w.phrase) (phrases.phrase_depth77 r) f.1 m.1);
    })
    by_right h more e (inr never) = inr (λ l r b g k s. never r k (tail_same words.Equals _ _ (sym e ∙ (h.only l (words.Equals ∷ written77 r) (b, g) tt s).2)))

    by_equals : (h : IsThere written77 IsBareExpression phrases.tree77_of phrases.phrase_depth77 Ends ws) → BeginsWith words.Equals h.rest → IsAssignment ws ⊎ IsNoAssignment ws
    by_equals h (inl k) = by_right h k.0 k.1 (whole k.0)
    by_equals h (inr lacks) = inr (λ l r b g k s. lacks _ (h.only l (words.Equals ∷ written77 r) (b, g) tt s).2)

    by : Front written77 IsBareExpression phrases.tree77_of phrases.phrase_depth77 Ends ws → IsAssignment ws ⊎ IsNoAssignment ws
    by (inl h) = by_equals h (equals h.rest)
    by (inr never) = inr (λ l r b g k s. never l (words.Equals ∷ written77 r) (b, g) tt s)
