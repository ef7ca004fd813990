-- What is wrong among the statements of a block, told at each from the statements before and behind it, is what is
-- wrong in the block's tree.
use Rattle.std.proofs.Common.{◌≡◌, ◌↔◌, ◌⊎◌, inl, inr, ℕ, ◌<◌, Bool, true, Option, None, List, [], ◌∷◌, ◌++◌, refl, sym}
use Rattle.std.proofs.Common.{ap, subst, ◌∙◌, append_assoc, Contains}
use Rattle.std.specs.List.{AllByRecursion}
use Rattle.std.proofs.lemmas.Bool.Decides.{Decides-eqb}
use Rattle.tree.specs.Plain as tree
use Rattle.tree.specs.Plain.{Declaration, Statement, Arms, Block}
use Rattle.tree.specs.declared.functions.Intrinsic.{Intrinsic}
use Rattle.meaning.specs.Blocks.{Surroundings, within_loop, before_labels, labels_of}
use Rattle.meaning.specs.Typed90.{IsDoVariable}
use Rattle.f90_grammar.specs.Phrases.{tree_of, value_of_digits}
use Rattle.f90_grammar.specs.Items.{Input, Output, item_trees90}
use Rattle.f90_grammar.specs.Forms as forms
use Rattle.f90_grammar.specs.Forms.{Form90}
use Rattle.f90_grammar.specs.Blocks.{Placed, placed_form, IsSimple, AreBlock90, AreArms90}
use Rattle.reading.specs.Signs.{reference_in}
use Rattle.f90_grammar.specs.Blocks.IsSimple.{assigns, masks, goes, stops, reads, reads_nothing, prints, prints_nothing}
use Rattle.f90_grammar.specs.Blocks.IsSimple.{allocates, deallocates}
use Rattle.f90_grammar.specs.Blocks.AreBlock90.{nothing, label, unnamed, simple, test, branch, loop}
use Rattle.f90_grammar.specs.Blocks.AreArms90.{ends, other, further}
use Rattle.f90_grammar.specs.Order.{Opened, InIf, InElse, InDo, opened_by, opened_behind}
use Rattle.f90_grammar.specs.Surroundings.{StandsIn, StandsWithin, StandsInArms, line_of, SuitsSurroundings}
use Rattle.f90_grammar.specs.Surroundings.{ItemsKeepVariables}
use Rattle.f90_grammar.specs.Surroundings.StandsIn.{itself, further as later, inside}
use Rattle.f90_grammar.specs.Surroundings.StandsWithin.{in_loop, in_arm, in_else}
use Rattle.f90_grammar.specs.Surroundings.StandsInArms.{in_first, in_later}
use Rattle.f90_laws.proofs.readings.Counts.{block_keeps, arms_keep}
use Rattle.f90_laws.proofs.readings.Lists.{all_left, all_right}
use Rattle.f90_laws.proofs.unrefused.Blocks.{simple_quiet}
use Rattle.f90_laws.specs.blocks.Blocks.{goes_to}
use Rattle.f90_laws.specs.blocks.Places.{loop_variables, labels_ahead, SuitsPlace}
use Rattle.f90_laws.proofs.blocks.Ways.{same, turned, and_then, along, or_both, or_regrouped, without_left}
use Rattle.f90_laws.proofs.blocks.Ways.{without_right}
use Rattle.f90_laws.proofs.blocks.Ahead.{AreAlike, more_alike, alike_then, block_ahead, arms_ahead}

-- what surrounds a statement, where these blocks are open before it and these statements stand behind it
abbrev pub around : List Opened → List Placed → Surroundings
around os back = record { variables = loop_variables os; ahead = labels_ahead back 0 }

module _ (ds : List Declaration) where
  -- ---- in the tree

  abbrev mutual
    -- the statement or what stands in it doesn't suit its surroundings, on this line
    pub BadStatement : Statement → Surroundings → ℕ → Type 0
    BadStatement (tree.Do l x a b c body) w line =
        ((IsDoVariable ds x w.variables → ⊥) × (line ≡ l)) ⊎ BadBlock body (within_loop x w) line
    BadStatement (tree.If l arms otherwise) w line = BadArms arms w line ⊎ BadBlock otherwise w line
    BadStatement (tree.Assignment l mark left right) w line = ((Contains w.variables left.name → ⊥) → ⊥) × (line ≡ l)
    BadStatement (tree.Where l mark mask left right) w line = ((Contains w.variables left.name → ⊥) → ⊥) × (line ≡ l)
    BadStatement (tree.GoTo l n) w line = ((0 < n) × Contains w.ahead n → ⊥) × (line ≡ l)
    BadStatement (tree.Read l is) w line = (ItemsKeepVariables ds Input is w.variables → ⊥) × (line ≡ l)
    BadStatement (tree.Print l is) w line = (ItemsKeepVariables ds Output is w.variables → ⊥) × (line ≡ l)
    BadStatement (tree.Label n) w line = ⊥
    BadStatement (tree.Stop l) w line = ⊥
    BadStatement (tree.Allocate l x es) w line = ⊥
    BadStatement (tree.Deallocate l x) w line = ⊥

    pub BadArms : Arms → Surroundings → ℕ → Type 0
    BadArms tree.no_arms w line = ⊥
    BadArms (tree.arm condition body more) w line = BadBlock body w line ⊎ BadArms more w line

    pub BadBlock : Block → Surroundings → ℕ → Type 0
    BadBlock tree.no_statements w line = ⊥
    BadBlock (tree.statement c cs) w line = BadStatement c (before_labels (labels_of cs) w) line ⊎ BadBlock cs w line

  bad_itself : (c : Statement) (w : Surroundings) → (SuitsSurroundings ds c w → ⊥) → BadStatement c w (line_of c)
  bad_itself (tree.Do l x a b c body) w n = inl (n, refl)
  bad_itself (tree.If l arms otherwise) w n = absurd (n tt)
  bad_itself (tree.Assignment l mark left right) w n = (n, refl)
  bad_itself (tree.Where l mark mask left right) w n = (n, refl)
  bad_itself (tree.GoTo l k) w n = (n, refl)
  bad_itself (tree.Read l is) w n = (n, refl)
  bad_itself (tree.Print l is) w n = (n, refl)
  bad_itself (tree.Label k) w n = n tt
  bad_itself (tree.Stop l) w n = n tt
  bad_itself (tree.Allocate l x es) w n = n tt
  bad_itself (tree.Deallocate l x) w n = n tt

  mutual
    pub bad_in : (b : Block) (w : Surroundings) (d : Statement) (v : Surroundings) → StandsIn b w d v
        → (SuitsSurroundings ds d v → ⊥) → BadBlock b w (line_of d)
    bad_in b w d v (itself c cs u) n = inl (bad_itself c (before_labels (labels_of cs) u) n)
    bad_in b w d v (later c e cs u t h) n = inr (bad_in cs u e t h n)
    bad_in b w d v (inside c e cs u t h) n = inl (bad_within c (before_labels (labels_of cs) u) e t h n)

    bad_within : (c : Statement) (w : Surroundings) (d : Statement) (v : Surroundings) → StandsWithin c w d v
        → (SuitsSurroundings ds d v → ⊥) → BadStatement c w (line_of d)
    bad_within c w d v (in_loop l x a b s body u e t h) n = inr (bad_in body (within_loop x u) e t h n)
    bad_within c w d v (in_arm l arms otherwise u e t h) n = inl (bad_in_arms arms u e t h n)
    bad_within c w d v (in_else l arms otherwise u e t h) n = inr (bad_in otherwise u e t h n)

    bad_in_arms : (arms : Arms) (w : Surroundings) (d : Statement) (v : Surroundings) → StandsInArms arms w d v
        → (SuitsSurroundings ds d v → ⊥) → BadArms arms w (line_of d)
    bad_in_arms arms w d v (in_first condition body more u e t h) n = inl (bad_in body u e t h n)
    bad_in_arms arms w d v (in_later condition body more u e t h) n = inr (bad_in_arms more u e t h n)

  -- what doesn't suit its surroundings, where it stands as `Stands` says
  pub record Misfit (Stands : Statement → Surroundings → Type 0) (line : ℕ) : Type 0 where
    pub it : Statement
    pub surroundings : Surroundings
    pub stands : Stands it surroundings
    pub wrong : SuitsSurroundings ds it surroundings → ⊥
    pub at_line : line ≡ line_of it

  moved : (P Q : Statement → Surroundings → Type 0) (line : ℕ) → ((d : Statement) (v : Surroundings) → P d v → Q d v)
      → Misfit P line → Misfit Q line
  moved P Q line f m = record {
    it = m.it;
    surroundings = m.surroundings;
    stands = f m.it m.surroundings m.stands;
    wrong = m.wrong;
    at_line = m.at_line;
  }

  -- the statement itself, or one in it
  abbrev Stands : Statement → Surroundings → Statement → Surroundings → Type 0
  Stands c w d v = ((c ≡ d) × (w ≡ v)) ⊎ StandsWithin c w d v

  itself_wrong : (c : Statement) (w : Surroundings) (line : ℕ) → (SuitsSurroundings ds c w → ⊥) × (line ≡ line_of c)
      → Misfit (Stands c w) line
  itself_wrong c w line h = record { it = c; surroundings = w; stands = inl (refl, refl); wrong = h.0; at_line = h.1 }

  stands_first : (c : Statement) (cs : Block) (w : Surroundings) (d : Statement) (v : Surroundings)
      → Stands c (before_labels (labels_of cs) w) d v → StandsIn (tree.statement c cs) w d v
  stands_first c cs w d v (inl e) =
      subst (λ s. StandsIn (tree.statement c cs) w s v) e.0
      (subst (λ u. StandsIn (tree.statement c cs) w c u) e.1 (itself c cs w))
  stands_first c cs w d v (inr h) = inside c d cs w v h

  mutual
    misfit_statement : (c : Statement) (w : Surroundings) (line : ℕ) → BadStatement c w line → Misfit (Stands c w) line
    misfit_statement (tree.Do l x a b c body) w line (inl h) = itself_wrong (tree.Do l x a b c body) w line h
    misfit_statement (tree.Do l x a b c body) w line (inr h) =
        moved (StandsIn body (within_loop x w)) (Stands (tree.Do l x a b c body) w) line
        (λ d v s. inr (in_loop l x a b c body w d v s)) (misfit_block body (within_loop x w) line h)
    misfit_statement (tree.If l arms otherwise) w line (inl h) =
        moved (StandsInArms arms w) (Stands (tree.If l arms otherwise) w) line
        (λ d v s. inr (in_arm l arms otherwise w d v s)) (misfit_arms arms w line h)
    misfit_statement (tree.If l arms otherwise) w line (inr h) =
        moved (StandsIn otherwise w) (Stands (tree.If l arms otherwise) w) line
        (λ d v s. inr (in_else l arms otherwise w d v s)) (misfit_block otherwise w line h)
    misfit_statement (tree.Assignment l mark left right) w line h =
        itself_wrong (tree.Assignment l mark left right) w line h
    misfit_statement (tree.Where l mark mask left right) w line h =
        itself_wrong (tree.Where l mark mask left right) w line h
    misfit_statement (tree.GoTo l n) w line h = itself_wrong (tree.GoTo l n) w line h
    misfit_statement (tree.Read l is) w line h = itself_wrong (tree.Read l is) w line h
    misfit_statement (tree.Print l is) w line h = itself_wrong (tree.Print l is) w line h
    misfit_statement (tree.Label n) w line h = absurd h
    misfit_statement (tree.Stop l) w line h = absurd h
    misfit_statement (tree.Allocate l x es) w line h = absurd h
    misfit_statement (tree.Deallocate l x) w line h = absurd h

    misfit_arms : (arms : Arms) (w : Surroundings) (line : ℕ) → BadArms arms w line → Misfit (StandsInArms arms w) line
    misfit_arms tree.no_arms w line h = absurd h
    misfit_arms (tree.arm condition body more) w line (inl h) =
        moved (StandsIn body w) (StandsInArms (tree.arm condition body more) w) line
        (λ d v s. in_first condition body more w d v s) (misfit_block body w line h)
    misfit_arms (tree.arm condition body more) w line (inr h) =
        moved (StandsInArms more w) (StandsInArms (tree.arm condition body more) w) line
        (λ d v s. in_later condition body more w d v s) (misfit_arms more w line h)

    pub misfit_block : (b : Block) (w : Surroundings) (line : ℕ) → BadBlock b w line → Misfit (StandsIn b w) line
    misfit_block tree.no_statements w line h = absurd h
    misfit_block (tree.statement c cs) w line (inl h) =
        moved (Stands c (before_labels (labels_of cs) w)) (StandsIn (tree.statement c cs) w) line
        (λ d v s. stands_first c cs w d v s)
        (misfit_statement c (before_labels (labels_of cs) w) line h)
    misfit_block (tree.statement c cs) w line (inr h) =
        moved (StandsIn cs w) (StandsIn (tree.statement c cs) w) line (λ d v s. later c d cs w v s)
        (misfit_block cs w line h)

-- ---- among the statements

module _ (ds : List Declaration) (function : List ℕ → Option Intrinsic) where
  abbrev pub IsWrong : List Opened → Placed → List Placed → ℕ → Type 0
  IsWrong os p back line = (SuitsPlace ds function p.form (around os back) → ⊥) × (line ≡ p.line)

  -- one of the statements doesn't suit its place, where these blocks are open before them and `back` stands behind them
  abbrev pub WrongIn : List Opened → List Placed → List Placed → ℕ → Type 0
  WrongIn os [] back line = ⊥
  WrongIn os (p ∷ ps) back line = IsWrong os p (ps ++ back) line ⊎ WrongIn (opened_by p.form os) ps back line

  split : (os : List Opened) (xs ys back : List Placed) (line : ℕ)
      → WrongIn os (xs ++ ys) back line ↔ (WrongIn os xs (ys ++ back) line ⊎ WrongIn (opened_behind os xs) ys back line)
  split os [] ys back line = turned (without_left (λ a. a) same)
  split os (x ∷ xs) ys back line =
      let first = along (λ zs. IsWrong os x zs line) (append_assoc xs ys back) in
      and_then (or_both first (split (opened_by x.form os) xs ys back line)) or_regrouped

  module _ (is_target : ℕ → Bool) where
    -- the surroundings are those of the places
    pub record Fits (os : List Opened) (back : List Placed) (w : Surroundings) : Type 0 where
      pub variables : loop_variables os ≡ w.variables
      pub ahead : AreAlike function is_target w.ahead (labels_ahead back 0)

    -- the GO TOs of the statement name targets
    abbrev pub IsNamed : Placed → Type 0
    IsNamed p = (n : ℕ) → goes_to n p.form ≡ true → is_target n ≡ true

    before_block : (ps : List Placed) (b : Block) (os : List Opened) (back : List Placed) (w : Surroundings)
        → AreBlock90 function is_target ps b → Fits os back w → Fits os (ps ++ back) (before_labels (labels_of b) w)
    before_block ps b os back w h f =
        let own = labels_of b in
        let behind = labels_ahead back 0 in
        record {
          variables = f.variables;
          ahead = alike_then function is_target (own ++ w.ahead) (own ++ behind) (labels_ahead (ps ++ back) 0)
              (more_alike function is_target own w.ahead behind f.ahead) (block_ahead function is_target ps b h back);
        }

    before_arms : (ps : List Placed) (ars : Arms) (b : Block) (os : List Opened) (back : List Placed) (w : Surroundings)
        → AreArms90 function is_target ps ars b → Fits os back w → Fits os (ps ++ back) w
    before_arms ps ars b os back w a f =
        record {
          variables = f.variables;
          ahead = subst (λ ns. AreAlike function is_target w.ahead ns)
              (sym (arms_ahead function is_target ps ars b a back)) f.ahead;
        }

    in_block : (o : Opened) (os : List Opened) (back : List Placed) (w : Surroundings)
        → loop_variables (o ∷ os) ≡ loop_variables os → Fits os back w → Fits (o ∷ os) back w
    in_block o os back w e f = record { variables = e ∙ f.variables; ahead = f.ahead }

    in_do : (x : List ℕ) (os : List Opened) (back : List Placed) (w : Surroundings) → Fits os back w
        → Fits (InDo x ∷ os) back (within_loop x w)
    in_do x os back w f = record { variables = ap (λ xs. x ∷ xs) f.variables; ahead = f.ahead }

    goes_alike : (n : ℕ) (os : List Opened) (back : List Placed) (w : Surroundings) → Fits os back w
        → is_target n ≡ true
        → ((0 < n) × Contains (labels_ahead back 0) n) ↔ ((0 < n) × Contains w.ahead n)
    goes_alike n os back w f t = (λ h. (h.0, (f.ahead.each n h.0 t).1 h.1), λ h. (h.0, (f.ahead.each n h.0 t).0 h.1))

    not_both : {A B : Type 0} (line l : ℕ) → A ↔ B → ((A → ⊥) × (line ≡ l)) ↔ ((B → ⊥) × (line ≡ l))
    not_both line l h = (λ g. (λ b. g.0 (h.1 b), g.1), λ g. (λ a. g.0 (h.0 a), g.1))

    never : (line l : ℕ) → ((Unit {0} → ⊥) × (line ≡ l)) ↔ ⊥
    never line l = (λ h. h.0 tt, λ h. absurd h)

    simple_wrong : (p : Placed) (c : Statement) (os : List Opened) (back : List Placed) (w : Surroundings) (line : ℕ)
        → IsSimple function is_target p c → Fits os back w → IsNamed p
        → IsWrong os p back line ↔ BadStatement ds c w line
    simple_wrong p c os back w line (assigns l m left right) f t =
        along (λ vs. ((Contains vs (reference_in (tree_of function left)).name → ⊥) → ⊥) × (line ≡ l)) f.variables
    simple_wrong p c os back w line (masks l m q left right) f t =
        along (λ vs. ((Contains vs (reference_in (tree_of function left)).name → ⊥) → ⊥) × (line ≡ l)) f.variables
    simple_wrong p c os back w line (goes l digits) f t =
        let n = value_of_digits digits in not_both line l (goes_alike n os back w f (t n ((Decides-eqb n n).1 refl)))
    simple_wrong p c os back w line (stops l) f t = never line l
    simple_wrong p c os back w line (reads l is) f t =
        let all = tree.items (item_trees90 function is) in
        along (λ vs. (ItemsKeepVariables ds Input all vs → ⊥) × (line ≡ l)) f.variables
    simple_wrong p c os back w line (reads_nothing l) f t = not_both line l same
    simple_wrong p c os back w line (prints l is) f t =
        let all = tree.items (item_trees90 function is) in
        along (λ vs. (ItemsKeepVariables ds Output all vs → ⊥) × (line ≡ l)) f.variables
    simple_wrong p c os back w line (prints_nothing l) f t = not_both line l same
    simple_wrong p c os back w line (allocates l x es) f t = never line l
    simple_wrong p c os back w line (deallocates l x) f t = never line l

    -- what suits any place
    fine : (line l : ℕ) → (Unit {0} → ⊥) × (line ≡ l) → ⊥
    fine line l h = h.0 tt

    nothing_wrong : (line l : ℕ) → ((Unit {0} → ⊥) × (line ≡ l)) ⊎ ⊥ → ⊥
    nothing_wrong line l (inl h) = h.0 tt
    nothing_wrong line l (inr h) = h

    -- before the end of the block that they stand in
    in_end : (os : List Opened) (end : ℕ) (back : List Placed) (w : Surroundings) → Fits os back w
        → Fits os (placed_form end None forms.EndDo ∷ back) w
    in_end os end back w f = record { variables = f.variables; ahead = f.ahead }

    in_end_if : (os : List Opened) (end : ℕ) (back : List Placed) (w : Surroundings) → Fits os back w
        → Fits os (placed_form end None forms.EndIf ∷ back) w
    in_end_if os end back w f = record { variables = f.variables; ahead = f.ahead }

    -- ---- both are the same

    abbrev AreNamed : List Placed → Type 0
    AreNamed ps = AllByRecursion IsNamed ps

    mutual
      pub block_wrong : (ps : List Placed) (b : Block) → AreBlock90 function is_target ps b
          → (os : List Opened) (back : List Placed) (w : Surroundings) (line : ℕ) → Fits os back w → AreNamed ps
          → WrongIn os ps back line ↔ BadBlock ds b w line
      block_wrong ps b nothing os back w line f t = same
      block_wrong ps b (label l digits rest more y h) os back w line f t =
          or_both (never line l) (block_wrong rest more h os back w line f t.1)
      block_wrong ps b (unnamed l digits rest more y h) os back w line f t =
          without_left (fine line l) (block_wrong rest more h os back w line f t.1)
      block_wrong ps b (simple p c rest more s h) os back w line f t =
          or_both (simple_wrong p c os (rest ++ back) (before_labels (labels_of more) w) line s
          (before_block rest more os back w h f) t.0)
          (and_then (along (λ o. WrongIn o rest back line) ((simple_quiet function is_target p c s).opens os))
          (block_wrong rest more h os back w line f t.1))
      block_wrong ps b (test l m p g inner more rest i h) os back w line f t =
          or_both (and_then (turned (without_right (λ a. a) same))
          (and_then (block_wrong (placed_form l m g ∷ []) inner i os (rest ++ back) (before_labels (labels_of more) w) line
          (before_block rest more os back w h f) (t.0, tt))
          (turned (without_right (λ a. a) (without_right (λ a. a) same)))))
          (block_wrong rest more h os back w line f t.1)
      block_wrong ps b (branch l p body arms rest first otherwise more more_arms i a h) os back w line f t =
          let u = before_labels (labels_of more) w in
          let g = before_block rest more os back w h f in
          let to_arms = along (λ o. WrongIn o (arms ++ rest) back line)
          (block_keeps function is_target body first (InIf ∷ os) i) in
          let to_rest = along (λ o. WrongIn o rest back line)
          (arms_keep function is_target arms more_arms otherwise os a) in
          let named = all_right IsNamed body (arms ++ rest) t.1 in
          let in_body = block_wrong body first i (InIf ∷ os) ((arms ++ rest) ++ back) u line
          (subst (λ xs. Fits (InIf ∷ os) xs u) (sym (append_assoc arms rest back))
          (in_block InIf os (arms ++ (rest ++ back)) u refl
          (before_arms arms more_arms otherwise os (rest ++ back) u a g)))
          (all_left IsNamed body (arms ++ rest) t.1) in
          let in_arms = arms_wrong arms more_arms otherwise a os (rest ++ back) u line g
          (all_left IsNamed arms rest named) in
          let behind = block_wrong rest more h os back w line f (all_right IsNamed arms rest named) in
          without_left (fine line l)
          (and_then (split (InIf ∷ os) body (arms ++ rest) back line)
          (and_then (or_both in_body
          (and_then to_arms (and_then (split (InIf ∷ os) arms rest back line)
          (or_both in_arms (and_then to_rest behind)))))
          (and_then or_regrouped (or_both or_regrouped same))))
      block_wrong ps b (loop l end x p q r body rest inner more i h) os back w line f t =
          let u = before_labels (labels_of more) w in
          let last = placed_form end None forms.EndDo in
          let g = before_block rest more os back w h f in
          let to_rest = along (λ o. WrongIn o (last ∷ rest) back line)
          (block_keeps function is_target body inner (InDo x ∷ os) i) in
          let named = all_right IsNamed body (last ∷ rest) t.1 in
          let in_body = block_wrong body inner i (InDo x ∷ os) (last ∷ (rest ++ back)) (within_loop x u) line
          (in_end (InDo x ∷ os) end (rest ++ back) (within_loop x u) (in_do x os (rest ++ back) u g))
          (all_left IsNamed body (last ∷ rest) t.1) in
          let behind = without_left (fine line end) (block_wrong rest more h os back w line f named.1) in
          and_then (or_both (along (λ vs. (IsDoVariable ds x vs → ⊥) × (line ≡ l)) f.variables)
          (and_then (split (InDo x ∷ os) body (last ∷ rest) back line) (or_both in_body (and_then to_rest behind))))
          or_regrouped

      pub arms_wrong : (ps : List Placed) (ars : Arms) (b : Block) → AreArms90 function is_target ps ars b
          → (os : List Opened) (back : List Placed) (w : Surroundings) (line : ℕ) → Fits os back w → AreNamed ps
          → WrongIn (InIf ∷ os) ps back line ↔ (BadArms ds ars w line ⊎ BadBlock ds b w line)
      arms_wrong ps ars b (ends l) os back w line f t = or_both (never line l) same
      arms_wrong ps ars b (other l end body more i) os back w line f t =
          let last = placed_form end None forms.EndIf in
          let in_body = block_wrong body more i (InElse ∷ os) (last ∷ back) w line
          (in_end_if (InElse ∷ os) end back w (in_block InElse os back w refl f))
          (all_left IsNamed body (last ∷ []) t.1) in
          or_both (never line l)
          (and_then (split (InElse ∷ os) body (last ∷ []) back line)
          (without_right (λ h. nothing_wrong line end h) in_body))
      arms_wrong ps ars b (further l p body rest first otherwise more i a) os back w line f t =
          let to_rest = along (λ o. WrongIn o rest back line)
          (block_keeps function is_target body first (InIf ∷ os) i) in
          let in_body = block_wrong body first i (InIf ∷ os) (rest ++ back) w line
          (in_block InIf os (rest ++ back) w refl (before_arms rest more otherwise os back w a f))
          (all_left IsNamed body rest t.1) in
          let behind = arms_wrong rest more otherwise a os back w line f (all_right IsNamed body rest t.1) in
          without_left (fine line l) (and_then (split (InIf ∷ os) body rest back line)
          (and_then (or_both in_body (and_then to_rest behind)) or_regrouped))
