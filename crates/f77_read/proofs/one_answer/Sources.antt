-- A source is read or refused, and in one way alone, where cards are.
use Rattle.std.proofs.Common.{◌≡◌, ◌⊎◌, inl, inr, ℕ, Option, None, Some, List, [], ◌∷◌, ◌++◌, Contains, refl, sym, ap, subst, ◌∙◌, append_assoc, append-nil}
use Rattle.tree.specs.Plain.{Program}
use Rattle.tree.specs.declared.refusals.Refusal.{Refusal}
use Rattle.meaning.specs.Dialect.{Dialect}
use Rattle.reading.specs.refusal_order.Answered.{IsAnswered}
use Rattle.f77_grammar.specs.Cards.{PlainCard, ReadsCards, RefusedCards}
use Rattle.f77_grammar.specs.Statement77.{Labelled, Statement77}
use Rattle.f77_grammar.specs.statements.Reading.{ReadsStatement, IsRefusedBy}
use Rattle.f77_grammar.specs.program.EndDo.{with_loop_labels}
use Rattle.f77_grammar.specs.program.Program77.{findings, ReadsStatements}
use Rattle.f77_laws.specs.trees.Steps.{tree_of}
use Rattle.f77_laws.proofs.trees.Trees.{tree_is_read, one_read}
use Rattle.f77_grammar.specs.Reading77.{IsReadFrom, AreReadFrom, HasCause77, ReadsProgram, RefusedProgram, Reads77, Refused77}
use Rattle.f77_grammar.specs.Reading77.HasCause77.{AtCard, InText}
use Rattle.f77_grammar.specs.Reading77.Refused77.{OfLines, OfCards}
use Rattle.f77_grammar.proofs.CardLaws as lines
use Rattle.f77_grammar.proofs.Grouping.{one_reading}
use Rattle.f77_grammar.proofs.programs.Least.{none_or_first, nothing_in}
use Rattle.f77_laws.proofs.Lists.{nowhere, cases_of}
use Rattle.f77_read.specs.Cards.{card_refusal, IsReadAlone, IsRefusedAlone, AreReadAlone, AreTried}
use Rattle.f77_read.specs.one_answer.Settled.{AllAreSettled}
use Rattle.f77_read.proofs.CardLaws.{read_last, kept, first_refused, another_refused}
use Rattle.f77_read.proofs.Answers.{are_read, answered_card, answered_text}

module _ (settled : AllAreSettled) where
  -- ---- one card

  abbrev labelled : PlainCard → Statement77 → Labelled
  labelled card s = record { label = card.label; line = card.line; statement = s }

  read_alone : (card : PlainCard) (s : Statement77) → ReadsStatement card.chars s → IsReadAlone card (labelled card s)
  read_alone card s h = record {
    is_read = (record { label = refl; line = refl; reads = h });
    only = (λ t i. (settled card.chars).one_statement t s i h);
    unrefused = (λ n w i. (settled card.chars).not_both s n w h i);
  }

  refused_alone : (card : PlainCard) (n w : ℕ) → IsRefusedBy card.chars n w → IsRefusedAlone card (card_refusal card n w)
  refused_alone card n w h = record {
    line = refl;
    refused = h;
    only = (λ m v i. ap (λ k. card_refusal card k v) ((settled card.chars).one_number m v n w i h) ∙ ap (card_refusal card n) ((settled card.chars).one_word m v n w i h));
    unread = (λ s i. (settled card.chars).not_both s n w i h);
  }

  -- ---- all cards, one after the other

  record IsTriedAs (cards : List PlainCard) : Type 0 where
    text : List Labelled
    refusal : Option Refusal
    tried : AreTried cards text refusal

  one_more : (cards : List PlainCard) (card : PlainCard) → IsTriedAs cards → IsTriedAs (cards ++ card ∷ [])
  one_more cards card k = by k.refusal k.tried (settled card.chars).either
    where
      by : (o : Option Refusal) → AreTried cards k.text o → ((s : Statement77) × ReadsStatement card.chars s) ⊎ ((n : ℕ) × (w : ℕ) × IsRefusedBy card.chars n w) → IsTriedAs (cards ++ card ∷ [])
      by None a (inl h) = record { text = k.text ++ labelled card h.0 ∷ []; refusal = None; tried = read_last card (labelled card h.0) cards k.text a (read_alone card h.0 h.1) }
      by None a (inr h) = record { text = k.text; refusal = Some (card_refusal card h.0 h.1); tried = first_refused cards k.text card (card_refusal card h.0 h.1) a (refused_alone card h.0 h.1 h.2) }
      by (Some r) a (inl h) = record { text = k.text; refusal = Some r; tried = kept cards card r a (λ n w i. absurd ((settled card.chars).not_both h.0 n w h.1 i)) }
      by (Some r) a (inr h) =
          let s = card_refusal card h.0 h.1 in
          record { text = k.text; refusal = Some _; tried = another_refused cards card r s _ refl a (refused_alone card h.0 h.1 h.2) }

  all_tried : (before after : List PlainCard) → IsTriedAs before → IsTriedAs (before ++ after)
  all_tried before [] k = subst IsTriedAs (sym (append-nil before)) k
  all_tried before (card ∷ after) k = subst IsTriedAs (append_assoc before (card ∷ []) after) (all_tried (before ++ card ∷ []) after (one_more before card k))

  -- ---- read or refused

  cards_either : (d : Dialect) (cards : List PlainCard) → ((p : Program) × ReadsProgram d cards p) ⊎ ((r : Refusal) × RefusedProgram d cards r)
  cards_either d cards = by (all_tried [] cards (record { text = []; refusal = None; tried = tt }))
    where
      of_text : (text : List Labelled) → AreReadAlone cards text → (findings d (with_loop_labels text) ≡ []) ⊎ ((r : Refusal) × IsAnswered (Contains (findings d (with_loop_labels text))) r)
          → ((p : Program) × ReadsProgram d cards p) ⊎ ((r : Refusal) × RefusedProgram d cards r)
      of_text text a (inl e) = inl (tree_of d (with_loop_labels text), record { text = text; statements = are_read cards text a; reads = tree_is_read d (with_loop_labels text) (tree_of d (with_loop_labels text)) e refl })
      of_text text a (inr f) = inr (f.0, answered_text d cards text f.0 a f.1)

      tried_either : (text : List Labelled) (o : Option Refusal) → AreTried cards text o → ((p : Program) × ReadsProgram d cards p) ⊎ ((r : Refusal) × RefusedProgram d cards r)
      tried_either text None a = of_text text a (none_or_first (findings d (with_loop_labels text)))
      tried_either text (Some r) a = inr (r, answered_card d cards r a)

      by : IsTriedAs cards → ((p : Program) × ReadsProgram d cards p) ⊎ ((r : Refusal) × RefusedProgram d cards r)
      by k = tried_either k.text k.refusal k.tried

  pub either : (d : Dialect) (source : List ℕ) → ((p : Program) × Reads77 d source p) ⊎ ((r : Refusal) × Refused77 d source r)
  either d source = by (lines.read_or_refused source)
    where
      of_cards : (cards : List PlainCard) → ReadsCards source cards → ((p : Program) × ReadsProgram d cards p) ⊎ ((r : Refusal) × RefusedProgram d cards r)
          → ((p : Program) × Reads77 d source p) ⊎ ((r : Refusal) × Refused77 d source r)
      of_cards cards c (inl h) = inl (h.0, record { cards = cards; are_cards = c; program = h.1 })
      of_cards cards c (inr h) = inr (h.0, OfCards cards c h.1)

      by : ((cards : List PlainCard) × ReadsCards source cards) ⊎ ((r : Refusal) × RefusedCards source r) → ((p : Program) × Reads77 d source p) ⊎ ((r : Refusal) × Refused77 d source r)
      by (inl k) = of_cards k.0 k.1 (cards_either d k.0)
      by (inr k) = inr (k.0, OfLines k.1)

  -- ---- in one way alone

  one_statement : (card : PlainCard) (x y : Labelled) → IsReadFrom card x → IsReadFrom card y → x ≡ y
  one_statement card x y f g =
      ap (λ n. let z : Labelled = record { label = n; line = x.line; statement = x.statement } in z) (f.label ∙ sym g.label)
      ∙ ap (λ l. let z : Labelled = record { label = y.label; line = l; statement = x.statement } in z) (f.line ∙ sym g.line)
      ∙ ap (λ s. let z : Labelled = record { label = y.label; line = y.line; statement = s } in z) ((settled card.chars).one_statement x.statement y.statement f.reads g.reads)

  one_text : (cards : List PlainCard) (xs ys : List Labelled) → AreReadFrom cards xs → AreReadFrom cards ys → xs ≡ ys
  one_text [] [] [] f g = refl
  one_text [] [] (y ∷ ys) f g = absurd g
  one_text [] (x ∷ xs) ys f g = absurd f
  one_text (c ∷ cs) [] ys f g = absurd f
  one_text (c ∷ cs) (x ∷ xs) [] f g = absurd g
  one_text (c ∷ cs) (x ∷ xs) (y ∷ ys) f g = ap (λ z. z ∷ xs) (one_statement c x y f.0 g.0) ∙ ap (λ zs. y ∷ zs) (one_text cs xs ys f.1 g.1)

  read_at : (cards : List PlainCard) (xs : List Labelled) (card : PlainCard) → AreReadFrom cards xs → Contains cards card → (s : Statement77) × ReadsStatement card.chars s
  read_at [] xs card f c = absurd (nowhere card c)
  read_at (y ∷ ys) [] card f c = absurd f
  read_at (y ∷ ys) (x ∷ xs) card f c = by (read_at ys xs card f.1) (cases_of y ys card c)
    where
      by : (Contains ys card → (s : Statement77) × ReadsStatement card.chars s) → (y ≡ card) ⊎ Contains ys card → (s : Statement77) × ReadsStatement card.chars s
      by more (inl e) = (x.statement, subst (λ (q : PlainCard). ReadsStatement q.chars x.statement) e f.0.reads)
      by more (inr k) = more k

  no_cause : (d : Dialect) (cards : List PlainCard) (p : Program) (r : Refusal) → ReadsProgram d cards p → HasCause77 d cards r → ⊥
  no_cause d cards p r h (AtCard card n w c i) = let k = read_at cards h.text card h.statements c in (settled card.chars).not_both k.0 n w k.1 i
  no_cause d cards p r h (InText t o a c) =
      nothing_in o (subst (λ xs. Contains xs o) h.reads.sound (subst (λ ys. Contains (findings d (with_loop_labels ys)) o) (one_text cards t h.text a h.statements) c))

  pub not_both : (d : Dialect) (source : List ℕ) (p : Program) (r : Refusal) → Reads77 d source p → Refused77 d source r → ⊥
  not_both d source p r h (OfLines f) = lines.not_both source h.cards r h.are_cards f
  not_both d source p r h (OfCards cs c f) =
      no_cause d cs p r (subst (λ xs. ReadsProgram d xs p) (one_reading source h.cards cs h.are_cards.are_cards c.are_cards) h.program) f.holds

  pub one_program : (d : Dialect) (source : List ℕ) (p q : Program) → Reads77 d source p → Reads77 d source q → p ≡ q
  one_program d source p q h g =
      let k = subst (λ xs. ReadsProgram d xs p) (one_reading source h.cards g.cards h.are_cards.are_cards g.are_cards.are_cards) h.program in
      one_read d (with_loop_labels g.program.text) p q (subst (λ ys. ReadsStatements d (with_loop_labels ys) p) (one_text g.cards k.text g.program.text k.statements g.program.statements) k.reads) g.program.reads
