-- What is known of cards after one more card.
use Rattle.std.proofs.Common.{◌≡◌, ◌⊎◌, inl, inr, ℕ, suc, ◌+◌, ◌<◌, Bool, true, false, cond, Option, None, Some, Result, Ok, Err, List, [], ◌∷◌, ◌++◌, map, take, length, get_or, refl, sym, ap, subst, ◌∙◌, arith}
use Rattle.std.specs.Prelude.{IsOkAnd}
use Rattle.std.specs.List.{AllByRecursion}
use Rattle.std.proofs.Math.Seq.{take-suc}
use Rattle.std.proofs.lemmas.List.{map-append}
use Rattle.std.proofs.lemmas.List.Elements.{Contains-append_left, Contains-push}
use Rattle.tree.specs.declared.refusals.Refusal.{Refusal}
use Rattle.tree.specs.declared.refusals.Refused.{Refused}
use Rattle.tree.specs.declared.refusals.Refused.TheVariants as refused
use Rattle.f77_grammar.specs.Cards.{PlainCard}
use Rattle.f77_grammar.specs.Statement77.{Labelled, Statement77}
use Rattle.f77_grammar.specs.statements.Reading.{ReadsStatement, IsRefusedBy}
use Rattle.reading.specs.refusal_order.Answered.{comes_before}
use Rattle.f77_grammar.proofs.Answered.{not_before_itself, not_before_sooner}
use Rattle.f77_checks.specs.Outcomes.{IfRefusal}
use Rattle.f77_laws.proofs.Lists.{all_weaker, all_both}
use Rattle.f77_grammar.specs.Reading77.{AreReadFrom}
use Rattle.f77_cards.specs.Card.{card_of}
use Rattle.f77_cards.specs.declared.cards.Card.{Card}
use Rattle.f77_grammar.specs.declared.syntax.statements.Labelled.{Labelled as Labelled'}
use Rattle.f77_grammar.specs.declared.syntax.statements.Stmt77.{Stmt77}
use Rattle.f77_grammar.specs.syntax.Views.{statement_of, labelled_of, text_of}
use Rattle.f77_read.specs.Cards.{card_refusal, IsReadAlone, IsRefusedAlone, AreReadAlone, IsNotBefore, IsRefusedFirst, AreTried, first_of}

-- ---- the answer to one card

abbrev pub Refuses : PlainCard → Result Stmt77 Refused → Type 0
Refuses card o = (r : Refusal) → o ≡ Err (refused.Refusal r) → (r.line ≡ card.line) × IsRefusedBy card.chars r.number r.word

abbrev pub ReadsOnly : PlainCard → Result Stmt77 Refused → Type 0
ReadsOnly card o = (s : Statement77) → ReadsStatement card.chars s → IsOkAnd o (λ read. statement_of read ≡ s) ⊎ (o ≡ Err refused.Memory)

abbrev pub RefusesOnly : PlainCard → Result Stmt77 Refused → Type 0
RefusesOnly card o = (number word : ℕ) → IsRefusedBy card.chars number word → (o ≡ Err (refused.Refusal (card_refusal card number word))) ⊎ (o ≡ Err refused.Memory)

abbrev answer : Refused → Result Stmt77 Refused
answer e = Err e

same_refusal : (x y : Refusal) → (answer (refused.Refusal x) ≡ Err (refused.Refusal y)) ⊎ (answer (refused.Refusal x) ≡ Err refused.Memory) → y ≡ x
same_refusal x y (inl e) = cc
same_refusal x y (inr e) = absurd (cc)

pub card_refused : (card : PlainCard) (e : Refused) → Refuses card (Err e) → ReadsOnly card (Err e) → RefusesOnly card (Err e) → IfRefusal e (IsRefusedAlone card)
card_refused card refused.Memory h f g = tt
card_refused card (refused.Refusal r) h f g = record {
  line = (h r refl).0;
  refused = (h r refl).1;
  only = (λ number word i. same_refusal r (card_refusal card number word) (g number word i));
  unread = (λ s i. other r (f s i));
}
  where
    other : (r : Refusal) → ⊥ ⊎ (answer (refused.Refusal r) ≡ Err refused.Memory) → ⊥
    other r (inl e) = e
    other r (inr e) = cc

pub card_read : (card : PlainCard) (s : Stmt77) → ReadsStatement card.chars (statement_of s) → ReadsOnly card (Ok s) → RefusesOnly card (Ok s)
    → IsReadAlone card (record { label = card.label; line = card.line; statement = statement_of s })
card_read card s h f g = record {
  is_read = (record { label = refl; line = refl; reads = h });
  only = (λ t i. same t (f t i));
  unrefused = (λ number word i. none (card_refusal card number word) (g number word i));
}
  where
    same : (t : Statement77) → (statement_of s ≡ t) ⊎ (Ok s ≡ Err refused.Memory) → t ≡ statement_of s
    same t (inl e) = sym e
    same t (inr e) = absurd (cc)

    none : (r : Refusal) → (Ok s ≡ Err (refused.Refusal r)) ⊎ (Ok s ≡ Err refused.Memory) → ⊥
    none r (inl e) = cc
    none r (inr e) = cc

-- ---- cards that are read

pub read_last : (card : PlainCard) (x : Labelled) (cards : List PlainCard) (text : List Labelled) → AreReadAlone cards text → IsReadAlone card x
    → AreReadAlone (cards ++ card ∷ []) (text ++ x ∷ [])
read_last card x [] [] a h = (h, tt)
read_last card x [] (y ∷ ys) a h = absurd a
read_last card x (c ∷ cs) [] a h = absurd a
read_last card x (c ∷ cs) (y ∷ ys) a h = (a.0, read_last card x cs ys a.1 h)

abbrev pub IsUnrefused : PlainCard → Type 0
IsUnrefused card = (number word : ℕ) → IsRefusedBy card.chars number word → ⊥

pub unrefused : (cards : List PlainCard) (text : List Labelled) → AreReadAlone cards text → AllByRecursion IsUnrefused cards
unrefused [] text a = tt
unrefused (c ∷ cs) [] a = absurd a
unrefused (c ∷ cs) (x ∷ xs) a = (a.0.unrefused, unrefused cs xs a.1)

last_is_read : (cards : List PlainCard) (card : PlainCard) (text : List Labelled) → AreReadFrom (cards ++ card ∷ []) text → (s : Statement77) × ReadsStatement card.chars s
last_is_read [] card [] a = absurd a
last_is_read [] card (x ∷ xs) a = (x.statement, a.0.reads)
last_is_read (c ∷ cs) card [] a = absurd a
last_is_read (c ∷ cs) card (x ∷ xs) a = last_is_read cs card xs a.1

front_is_read : (cards : List PlainCard) (card : PlainCard) (text : List Labelled) → AreReadFrom (cards ++ card ∷ []) text → (t : List Labelled) × AreReadFrom cards t
front_is_read [] card text a = ([], tt)
front_is_read (c ∷ cs) card [] a = absurd a
front_is_read (c ∷ cs) card (x ∷ xs) a = let r = front_is_read cs card xs a.1 in (x ∷ r.0, (a.0, r.1))

-- ---- refusals

itself_alone : (card : PlainCard) (r : Refusal) → IsRefusedAlone card r → IsNotBefore r card
itself_alone card r f n w h = subst (λ (o : Refusal). comes_before o r ≡ false) (sym (f.only n w h)) (not_before_itself r)

refused_last : (cards : List PlainCard) (card : PlainCard) (r : Refusal) → IsRefusedAlone card r → AllByRecursion (IsNotBefore r) cards → IsRefusedFirst (cards ++ card ∷ []) r
refused_last cards card r f a = record {
  card = card;
  is_card = Contains-push cards card;
  line = f.line;
  refused = f.refused;
  unread = (λ text h. let l = last_is_read cards card text h in f.unread l.0 l.1);
  first = all_both (IsNotBefore r) cards (card ∷ []) a (itself_alone card r f, tt);
}

pub kept : (cards : List PlainCard) (card : PlainCard) (r : Refusal) → IsRefusedFirst cards r → IsNotBefore r card → IsRefusedFirst (cards ++ card ∷ []) r
kept cards card r f h = record {
  card = f.card;
  is_card = Contains-append_left cards (card ∷ []) f.card f.is_card;
  line = f.line;
  refused = f.refused;
  unread = (λ text a. let t = front_is_read cards card text a in f.unread t.0 t.1);
  first = all_both (IsNotBefore r) cards (card ∷ []) f.first (h, tt);
}

-- of cards that were read
pub first_refused : (cards : List PlainCard) (text : List Labelled) (card : PlainCard) (r : Refusal) → AreReadAlone cards text → IsRefusedAlone card r
    → IsRefusedFirst (cards ++ card ∷ []) r
first_refused cards text card r a f = refused_last cards card r f (all_weaker IsUnrefused (IsNotBefore r) (λ c u n w h. absurd (u n w h)) cards (unrefused cards text a))

-- of cards of which one is refused
pub another_refused : (cards : List PlainCard) (card : PlainCard) (r s : Refusal) (t : Bool) → comes_before s r ≡ t → IsRefusedFirst cards r → IsRefusedAlone card s
    → IsRefusedFirst (cards ++ card ∷ []) (cond t s r)
another_refused cards card r s true e f g =
    refused_last cards card s g (all_weaker (IsNotBefore r) (IsNotBefore s) (λ c h n w i. not_before_sooner (card_refusal c n w) r s (h n w i) e) cards f.first)
another_refused cards card r s false e f g =
    kept cards card r f (λ n w h. subst (λ (o : Refusal). comes_before o r ≡ false) (sym (g.only n w h)) e)

-- ---- one card more

pub more_cards : (cards : List Card) (i : ℕ) (card : Card) → i < length cards → card ≡ get_or cards i card → map card_of (take i cards) ++ card_of card ∷ [] ≡ map card_of (take (i + 1) cards)
more_cards cards i card h e = sym (map-append card_of (take i cards) (card ∷ [])) ∙ sym (ap (map card_of) one)
  where
    add-one : (i : ℕ) → i + 1 ≡ suc i
    add-one i = omega arith

    one : take (i + 1) cards ≡ take i cards ++ card ∷ []
    one = ap (λ n. take n cards) (add-one i) ∙ take-suc cards i card h ∙ ap (λ y. take i cards ++ y ∷ []) (sym e)

pub tried_read : (cards : List PlainCard) (xs : List Labelled') (o : Option Refusal) (card : PlainCard) (x : Labelled') → AreTried cards (text_of xs) o → IsReadAlone card (labelled_of x)
    → AreTried (cards ++ card ∷ []) (text_of (xs ++ x ∷ [])) o
tried_read cards xs None card x a h =
    subst (AreReadAlone (cards ++ card ∷ [])) (sym (map-append labelled_of xs (x ∷ []))) (read_last card (labelled_of x) cards (text_of xs) a h)
tried_read cards xs (Some r) card x a h = kept cards card r a (λ n w i. absurd (h.unrefused n w i))

pub tried_refused : (cards : List PlainCard) (text : List Labelled) (o : Option Refusal) (card : PlainCard) (r : Refusal) → AreTried cards text o → IsRefusedAlone card r
    → AreTried (cards ++ card ∷ []) text (Some (first_of o r))
tried_refused cards text None card r a f = first_refused cards text card r a f
tried_refused cards text (Some s) card r a f = another_refused cards card s r (comes_before r s) refl a f
