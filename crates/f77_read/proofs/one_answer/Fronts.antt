-- Parts at the front of words: one is there, and any other stands for the same, or none is.
use Rattle.std.proofs.Common.{◌≡◌, ◌≤◌, ◌<◌, inl, inr, ℕ, zero, suc, List, [], ◌∷◌, ◌++◌, map, length, max, refl, ap, sym, ◌∙◌, append_assoc, arith}
use Rattle.std.specs.Prelude.{◌⊎◌, Option, Some, None}
use Rattle.std.specs.List.{AllByRecursion}
use Rattle.std.proofs.lemmas.List.{length-append}
use Rattle.f77_grammar.specs.expressions.Phrases as phrases
use Rattle.f77_grammar.specs.expressions.Phrases.{Phrase77, IsExpression77, written77}
use Rattle.f77_grammar.specs.expressions.Words as words
use Rattle.f77_grammar.specs.expressions.Words.{Word77}
use Rattle.f77_grammar.specs.statements.Forms.{followed77, separated77, deepest}
use Rattle.reading.specs.Characters.{IsList}
use Rattle.f77_expressions.specs.Reader.{Operand, Read, read, capped}
use Rattle.f77_expressions.specs.Reading.{Ends}
use Rattle.f77_expressions.proofs.Complete.{operand_of, is_read}
use Rattle.f77_expressions.proofs.Sound.{read_is}
use Rattle.f77_statement.specs.Separated.{EndsPart, EndsList}
use Rattle.f77_statement.proofs.CappedLaws.{capped_max}

module _ {A T : Type 0} (write : A → List Word77) (good : A → Type 0) (tree : A → T) (depth : A → ℕ) (ends : List Word77 → Type 0) where
  pub record IsThere (ws : List Word77) : Type 0 where
    pub part : A
    pub rest : List Word77
    pub is_good : good part
    pub same : ws ≡ write part ++ rest
    pub only : (x : A) (r : List Word77) → good x → ends r → ws ≡ write x ++ r → (tree part ≡ tree x) × (capped (depth part) ≡ capped (depth x)) × (rest ≡ r)

  abbrev pub IsNowhere : List Word77 → Type 0
  IsNowhere ws = (x : A) (r : List Word77) → good x → ends r → ws ≡ write x ++ r → ⊥

  abbrev pub Front : List Word77 → Type 0
  Front ws = IsThere ws ⊎ IsNowhere ws

-- ---- words

abbrev pub BeginsWith : Word77 → List Word77 → Type 0
BeginsWith w ws = ((more : List Word77) × (ws ≡ w ∷ more)) ⊎ ((more : List Word77) → ws ≡ w ∷ more → ⊥)

pub comma : (ws : List Word77) → BeginsWith words.Comma ws
comma [] = inr (λ more e. cc)
comma (words.Comma ∷ ws) = inl (ws, refl)
comma (w ∷ ws) = inr (λ more e. cc)

pub colon : (ws : List Word77) → BeginsWith words.Colon ws
colon [] = inr (λ more e. cc)
colon (words.Colon ∷ ws) = inl (ws, refl)
colon (w ∷ ws) = inr (λ more e. cc)

pub close : (ws : List Word77) → BeginsWith words.Close ws
close [] = inr (λ more e. cc)
close (words.Close ∷ ws) = inl (ws, refl)
close (w ∷ ws) = inr (λ more e. cc)

pub open_ : (ws : List Word77) → BeginsWith words.Open ws
open_ [] = inr (λ more e. cc)
open_ (words.Open ∷ ws) = inl (ws, refl)
open_ (w ∷ ws) = inr (λ more e. cc)

pub equals : (ws : List Word77) → BeginsWith words.Equals ws
equals [] = inr (λ more e. cc)
equals (words.Equals ∷ ws) = inl (ws, refl)
equals (w ∷ ws) = inr (λ more e. cc)

pub name : (ws : List Word77) → ((x : List ℕ) × (more : List Word77) × (ws ≡ words.Name x ∷ more)) ⊎ ((x : List ℕ) (more : List Word77) → ws ≡ words.Name x ∷ more → ⊥)
name [] = inr (λ x more e. cc)
name (words.Name x ∷ ws) = inl (x, ws, refl)
name (w ∷ ws) = inr (λ x more e. cc)

pub head : (ws : List Word77) → ((x : List ℕ) × (more : List Word77) × (ws ≡ words.Head x ∷ more)) ⊎ ((x : List ℕ) (more : List Word77) → ws ≡ words.Head x ∷ more → ⊥)
head [] = inr (λ x more e. cc)
head (words.Head x ∷ ws) = inl (x, ws, refl)
head (w ∷ ws) = inr (λ x more e. cc)

pub nothing : {A : Type 0} (xs : List A) → (xs ≡ []) ⊎ (xs ≡ [] → ⊥)
nothing [] = inl refl
nothing (x ∷ xs) = inr (λ e. cc)

pub tail_same : (w : Word77) (xs ys : List Word77) → w ∷ xs ≡ w ∷ ys → xs ≡ ys
tail_same w xs ys e = cc

-- ---- an expression

no_read : (r : Read) → None ≡ Some r → ⊥
no_read r e = cc

one_read : (r s : Read) → Some r ≡ Some s → r ≡ s
one_read r s e = cc

pub phrase : (ws : List Word77) → Front written77 IsExpression77 phrases.tree77_of phrases.phrase_depth77 Ends ws
phrase ws = by (read ws) refl
  where
    by : (o : Option Read) → read ws ≡ o → Front written77 IsExpression77 phrases.tree77_of phrases.phrase_depth77 Ends ws
    by None e = inr (λ p r g h s. no_read _ (sym e ∙ ap read s ∙ is_read p r g h))
    by (Some r) e =
        let k = read_is ws r e in
        inl (record {
          part = k.phrase;
          rest = r.rest;
          is_good = k.good;
          same = sym k.text_is;
          only = λ p q g h s.
              let m : r ≡ record { operand = operand_of p; rest = q } = one_read r _ (sym e ∙ ap read s ∙ is_read p q g h) in
              let o : operand_of k.phrase ≡ operand_of p = sym k.operand_is ∙ ap (λ (r : Read). r.operand) m in
              (ap (λ (o : Operand). o.tree) o, ap (λ (o : Operand). o.depth) o, ap (λ (r : Read). r.rest) m);
        })

-- ---- parts with commas between

module _ {A T : Type 0} (write : A → List Word77) (good : A → Type 0) (tree : A → T) (depth : A → ℕ) (part : (ws : List Word77) → Front write good tree depth EndsPart ws) where
  ends_followed : (xs : List A) (last : List Word77) → EndsList last → EndsPart (followed77 write xs ++ last)
  ends_followed [] [] h = tt
  ends_followed [] (words.Close ∷ last) h = tt
  ends_followed [] (w ∷ last) h = absurd h
  ends_followed (x ∷ xs) last h = tt

  no_comma : (last more : List Word77) → EndsList last → last ≡ words.Comma ∷ more → ⊥
  no_comma [] more h e = cc
  no_comma (words.Close ∷ last) more h e = cc
  no_comma (w ∷ last) more h e = absurd h

  behind_comma : (x : A) (xs : List A) (r more : List Word77) → words.Comma ∷ more ≡ followed77 write (x ∷ xs) ++ r → more ≡ write x ++ (followed77 write xs ++ r)
  behind_comma x xs r more e = tail_same words.Comma _ _ e ∙ append_assoc (write x) (followed77 write xs) r

  deeper_alike : (a b c d : ℕ) → capped a ≡ capped b → capped c ≡ capped d → capped (max a c) ≡ capped (max b d)
  deeper_alike a b c d e f = sym (capped_max a c) ∙ ap (λ n. max n (capped c)) e ∙ ap (max (capped b)) f ∙ capped_max b d

  abbrev Followed : List Word77 → Type 0
  Followed ws = Front (followed77 write) (AllByRecursion good) (map tree) (deepest depth) EndsList ws

  abbrev At : List Word77 → Type 0
  At ws = IsThere write good tree depth EndsPart ws

  abbrev FollowedAt : List Word77 → Type 0
  FollowedAt ws = IsThere (followed77 write) (AllByRecursion good) (map tree) (deepest depth) EndsList ws

  first_then : (ws more : List Word77) (h : At more) (k : FollowedAt h.rest) → ws ≡ words.Comma ∷ more → FollowedAt ws
  first_then ws more h k e = record {
    part = h.part ∷ k.part;
    rest = k.rest;
    is_good = (h.is_good, k.is_good);
    same = e ∙ ap (λ (q : List Word77). words.Comma ∷ q) (h.same ∙ ap (λ (q : List Word77). write h.part ++ q) k.same ∙ sym (append_assoc (write h.part) (followed77 write k.part) k.rest));
    only = only;
  }
    where
      only : (xs : List A) (r : List Word77) → AllByRecursion good xs → EndsList r → ws ≡ followed77 write xs ++ r
          → (map tree (h.part ∷ k.part) ≡ map tree xs) × (capped (deepest depth (h.part ∷ k.part)) ≡ capped (deepest depth xs)) × (k.rest ≡ r)
      only [] r a l s = absurd (no_comma r more l (sym s ∙ e))
      only (x ∷ xs) r a l s =
          let f = h.only x (followed77 write xs ++ r) a.0 (ends_followed xs r l) (behind_comma x xs r more (sym e ∙ s)) in
          let g = k.only xs r a.1 l f.2 in
          (ap (λ q. q ∷ map tree k.part) f.0 ∙ ap (λ q. tree x ∷ q) g.0, deeper_alike (depth h.part) (depth x) (deepest depth k.part) (deepest depth xs) f.1 g.1, g.2)

  module _ (ws : List Word77) where
    none_behind : (more : List Word77) → ws ≡ words.Comma ∷ more → IsNowhere write good tree depth EndsPart more → IsNowhere (followed77 write) (AllByRecursion good) (map tree) (deepest depth) EndsList ws
    none_behind more e never [] r a h s = no_comma r more h (sym s ∙ e)
    none_behind more e never (x ∷ xs) r a h s = never x (followed77 write xs ++ r) a.0 (ends_followed xs r h) (behind_comma x xs r more (sym e ∙ s))

    none_later : (more : List Word77) → ws ≡ words.Comma ∷ more → (h : At more) → IsNowhere (followed77 write) (AllByRecursion good) (map tree) (deepest depth) EndsList h.rest
        → IsNowhere (followed77 write) (AllByRecursion good) (map tree) (deepest depth) EndsList ws
    none_later more e k never [] r a h s = no_comma r more h (sym s ∙ e)
    none_later more e k never (x ∷ xs) r a h s =
        never xs r a.1 h (k.only x (followed77 write xs ++ r) a.0 (ends_followed xs r h) (behind_comma x xs r more (sym e ∙ s))).2

    shorter : (more : List Word77) → ws ≡ words.Comma ∷ more → (h : At more) → length h.rest < length ws
    shorter more e h =
        let a : length ws ≡ length (words.Comma ∷ more) = ap length e in
        let b : length more ≡ length (write h.part ++ h.rest) = ap length h.same in
        omega (arith, length-append (write h.part) h.rest)

    ended : ((more : List Word77) → ws ≡ words.Comma ∷ more → ⊥) → (xs : List A) (r : List Word77) → ws ≡ followed77 write xs ++ r
        → (map tree [] ≡ map tree xs) × (capped (deepest depth []) ≡ capped (deepest depth xs)) × (ws ≡ r)
    ended lacks [] r s = (refl, refl, s)
    ended lacks (x ∷ xs) r s = absurd (lacks _ s)

    then_more : (more : List Word77) → ws ≡ words.Comma ∷ more → (h : At more) → Followed h.rest → Followed ws
    then_more more e h (inl k) = inl (first_then ws more h k e)
    then_more more e h (inr never) = inr (none_later more e h never)

    at_comma : (more : List Word77) → ws ≡ words.Comma ∷ more → ((vs : List Word77) → length vs < length ws → Followed vs) → Front write good tree depth EndsPart more → Followed ws
    at_comma more e on (inl h) = then_more more e h (on h.rest (shorter more e h))
    at_comma more e on (inr never) = inr (none_behind more e never)

    step : ((vs : List Word77) → length vs < length ws → Followed vs) → BeginsWith words.Comma ws → Followed ws
    step on (inl h) = at_comma h.0 h.1 on (part h.0)
    step on (inr lacks) = inl (record { part = []; rest = ws; is_good = tt; same = refl; only = λ xs r a h s. ended lacks xs r s })

  more_parts : (n : ℕ) (ws : List Word77) → length ws ≤ n → Followed ws
  more_parts zero ws l = step ws (λ vs k. absurd (omega arith)) (comma ws)
  more_parts (suc n) ws l = step ws (λ vs k. more_parts n vs (omega arith)) (comma ws)

  abbrev Listed : List Word77 → Type 0
  Listed ws = Front (separated77 write) (IsList good) (map tree) (deepest depth) EndsList ws

  all_there : (ws : List Word77) (h : At ws) (k : FollowedAt h.rest) → Listed ws
  all_there ws h k = inl (record {
    part = h.part ∷ k.part;
    rest = k.rest;
    is_good = (h.is_good, k.is_good);
    same = h.same ∙ ap (λ (q : List Word77). write h.part ++ q) k.same ∙ sym (append_assoc (write h.part) (followed77 write k.part) k.rest);
    only = only;
  })
    where
      only : (xs : List A) (r : List Word77) → IsList good xs → EndsList r → ws ≡ separated77 write xs ++ r
          → (map tree (h.part ∷ k.part) ≡ map tree xs) × (capped (deepest depth (h.part ∷ k.part)) ≡ capped (deepest depth xs)) × (k.rest ≡ r)
      only [] r a l s = absurd a
      only (x ∷ xs) r a l s =
          let f = h.only x (followed77 write xs ++ r) a.0 (ends_followed xs r l) (s ∙ append_assoc (write x) (followed77 write xs) r) in
          let g = k.only xs r a.1 l f.2 in
          (ap (λ q. q ∷ map tree k.part) f.0 ∙ ap (λ q. tree x ∷ q) g.0, deeper_alike (depth h.part) (depth x) (deepest depth k.part) (deepest depth xs) f.1 g.1, g.2)

  none_first : (ws : List Word77) → IsNowhere write good tree depth EndsPart ws → IsNowhere (separated77 write) (IsList good) (map tree) (deepest depth) EndsList ws
  none_first ws never [] r a l s = absurd a
  none_first ws never (x ∷ xs) r a l s = never x (followed77 write xs ++ r) a.0 (ends_followed xs r l) (s ∙ append_assoc (write x) (followed77 write xs) r)

  none_others : (ws : List Word77) (h : At ws) → IsNowhere (followed77 write) (AllByRecursion good) (map tree) (deepest depth) EndsList h.rest
      → IsNowhere (separated77 write) (IsList good) (map tree) (deepest depth) EndsList ws
  none_others ws h never [] r a l s = absurd a
  none_others ws h never (x ∷ xs) r a l s =
      never xs r a.1 l (h.only x (followed77 write xs ++ r) a.0 (ends_followed xs r l) (s ∙ append_assoc (write x) (followed77 write xs) r)).2

  pub list : (ws : List Word77) → Listed ws
  list ws = by (part ws)
    where
      then_others : (h : At ws) → Followed h.rest → Listed ws
      then_others h (inl k) = all_there ws h k
      then_others h (inr never) = inr (none_others ws h never)

      by : Front write good tree depth EndsPart ws → Listed ws
      by (inl h) = then_others h (more_parts (length h.rest) h.rest (omega arith))
      by (inr never) = inr (none_first ws never)
