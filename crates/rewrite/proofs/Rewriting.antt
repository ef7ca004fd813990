-- The run of what a rule makes of a tree follows the run of the tree.
use Rattle.std.proofs.Common.{◌≡◌, refl, sym, ap, ◌∙◌, subst, ℕ, ℤ, ◌+ℤ◌, true, List, [], ◌∷◌, Ok, None}
use Rattle.std.specs.Prelude.{IsTrue}
use Rattle.std.specs.List.{AllByRecursion}
use Rattle.tree.specs.Operators.{as_number}
use Rattle.tree.specs.Steps.{◌>>=◌}
use Rattle.tree.specs.declared.ops.Value.{Value}
use Rattle.tree.specs.declared.ops.Value.TheVariants.{Int}
use Rattle.tree.specs.Plain.{Statement, Assignment, Where, If, Do, Label, GoTo, Stop, Read, Print, Allocate, Deallocate, Arms, no_arms, arm, Block, no_statements, statement, Item, Single, Constant, ImpliedDo, Items, no_items, item, Expression, Number, Logic, Named, Unary, Binary, Apply, Constructor, Spread, Transpose, Reshape, Reduce, Subscripts, no_subscripts, subscript, Reference}
use Rattle.meaning.specs.Store.{Store, Cell, put, cell_at, cell_in, cells_of, bounds_in, is_within}
use Rattle.meaning.specs.Texts.{output_text, read_value}
use Rattle.meaning.specs.Value.{subscript_values, cell_named, item_cells, is_in_range, exact}
use Rattle.meaning.specs.Run.{State, Going, Jumping, Stopped, Act, nothing, for_each, goes, writes, first_blank, arrives, assigns, sets_variable, increases, turn, loops, reads_into, reads_item, reads_items, prints_item, prints_items, does, chooses, does_all}
use Rattle.meaning.proofs.Columns.{cells-within}
use Rattle.rewrite.specs.Following.{MomentsAlike, RunFollows, sequential}
use Rattle.rewrite.specs.Making.{Making, made, made_subscripts, made_left}
use Rattle.rewrite.specs.MadeBlocks.{made_input, made_inputs, made_output}
use Rattle.rewrite.specs.MadeBlocks.{made_outputs, made_statement, made_arms, made_block}
use Rattle.rewrite.specs.Suits.{Suiting, Suits, SuitsSubscripts, SuitsLeft, SuitsLoop, SuitsInput, SuitsInputs}
use Rattle.rewrite.specs.Suits.{SuitsOutput, SuitsOutputs, SuitsStatement, SuitsArms, SuitsBlock}
use Rattle.rewrite.specs.Rule.{IsRule}
use Rattle.rewrite.proofs.Acts.{Stays, Stays-then, Stays-evaluates, Stays-writes, Stays-skips_line, Stays-takes_word, Stays-counts_step, Stays-reads_items, Stays-prints_items, Stays-does_all, Follows, Follows-nothing, Follows-then, Follows-goes, Follows-either, Follows-writes, Follows-stores, Follows-begins_line, Follows-skips_line, Follows-takes_word, Follows-counts_step, Follows-checks_range, Answers, Also, Follows-evaluates, Follows-asks, Follows-repeated, Follows-for_each, Follows-more}
use Rattle.rewrite.proofs.Values.{parted, cell_in-named, made-number, made-truth, made-increment, made-value, made-subscripts, made-item}

module _ (bits : ℕ) (m : Making) (suits : Suiting) (like : Store → Store → Type 0) (rule : IsRule (sequential bits) m suits like) where
  -- the two acts, from stores that are alike
  abbrev pub Goes : Act → Act → Type 0
  Goes f g = Follows like like f g

  id : (s u : Store) → like s u → like s u
  id s u a = a

  -- ---- assignments

  -- the cells stay alike with any value in the range
  abbrev Cells : Store → Store → Cell → Cell → Type 0
  Cells s u c d = (v : Value) → IsTrue (is_in_range bits v) → like (put c v s) (put d v u)

  left-cell : (r : Reference) → SuitsLeft m suits r → (s u : Store) → like s u → (c : Cell) → cell_named (sequential bits) r s ≡ Ok c → Answers like (Cells s u) (cell_named (sequential bits) (made_left m r) u) c
  left-cell r h s u a c e =
      let p = parted (subscript_values (sequential bits) r.subscripts s) (λ is. cell_at r.name is s) c e in
      let got = rule.assigned (record { name = r.name; subscripts = made_subscripts m r.subscripts }) s u p.part c h.0 a (made-subscripts bits m suits like rule s u a r.subscripts h.1 p.part p.first) p.second in
      record { answer = got.cell; answered = got.named; related = got.put }

  Goes-assigns : (line : ℕ) (r : Reference) (e : Expression) → SuitsLeft m suits r → Suits m suits e → Goes (assigns (sequential bits) None line r e) (assigns (sequential bits) None line (made_left m r) (made m e))
  Goes-assigns line r e hr he = Follows-asks like like id line _ _ _ _ (λ s u a v. made-value bits m suits like rule s u a e he v)
      (λ v. Follows-evaluates like like id Cells line line _ _ _ _ (λ s u a c. left-cell r hr s u a c)
      (λ c d. let weak : (s u : Store) → Also like like Cells c d s u → like s u = (λ s u k. k.0) in
      Follows-checks_range like (Also like like Cells c d) weak (sequential bits) line v _ _ (λ q.
      Follows-counts_step like (Also like like Cells c d) weak (sequential bits) _ _ (Follows-stores like (Also like like Cells c d) weak c d v (λ s u k. k.1 v q)))))

  -- ---- loops

  -- one cell of the name x
  abbrev OneOf : List ℕ → Store → Store → Cell → Cell → Type 0
  OneOf x s u c d = (c ≡ d) × (c.name ≡ x)

  variable-cell : (x : List ℕ) → IsTrue (suits.variable x) → (is : List ℤ) (s u : Store) → like s u → (c : Cell) → cell_at x is s ≡ Ok c → Answers like (OneOf x s u) (cell_at x is u) c
  variable-cell x h is s u a c e =
      let common = rule.variable x s u h a in
      record { answer = c; answered = ap (λ b. cell_in b x is) (sym common.bounds) ∙ e; related = (refl, cell_in-named (s.bounds x) x is c e) }

  same-put : (x : List ℕ) → IsTrue (suits.variable x) → (c d : Cell) (v : Value) → IsTrue (is_in_range bits v) → (s u : Store) → Also like like (OneOf x) c d s u → like (put c v s) (put d v u)
  same-put x h c d v q s u k = subst (λ (d : Cell). like (put c v s) (put d v u)) k.1.0 ((rule.variable x s u h k.0).put c v k.1.1 q)

  Goes-sets_variable : (before : Store → Store → Type 0) (weak : (s u : Store) → before s u → like s u) (line : ℕ) (x : List ℕ) (z : ℤ) → IsTrue (suits.variable x)
      → Follows like before (sets_variable (sequential bits) None line x z) (sets_variable (sequential bits) None line x z)
  Goes-sets_variable before weak line x z h = Follows-more like like before _ _ weak (Follows-evaluates like like id (OneOf x) line line _ _ _ _ (variable-cell x h [])
      (λ c d. let less : (s u : Store) → Also like like (OneOf x) c d s u → like s u = (λ s u k. k.0) in
      Follows-checks_range like (Also like like (OneOf x) c d) less (sequential bits) line (Int z) _ _ (λ q. Follows-stores like (Also like like (OneOf x) c d) less c d (Int z) (same-put x h c d (Int z) q))))

  Goes-increases : (line : ℕ) (x : List ℕ) (d : ℤ) → IsTrue (suits.variable x) → Goes (increases (sequential bits) None line x d) (increases (sequential bits) None line x d)
  Goes-increases line x d h = Follows-evaluates like like id (OneOf x) line line _ _ _ _ (variable-cell x h [])
      (λ c e. let less : (s u : Store) → Also like like (OneOf x) c e s u → like s u = (λ s u k. k.0) in
      Follows-asks like (Also like like (OneOf x) c e) less line _ _ _ _
      (λ s u k z g. ap (λ v. do z ← as_number v; exact (z +ℤ d)) (sym ((rule.variable x s u h k.0).held c k.1.1 ∙ ap u.held k.1.0)) ∙ g)
      (λ z. Goes-sets_variable (Also like like (OneOf x) c e) less line x z h))

  Stays-increases : (line : ℕ) (x : List ℕ) (d : ℤ) → Stays (increases (sequential bits) None line x d)
  Stays-increases line x d = Stays-evaluates line _ _

  Goes-turn : (line : ℕ) (x : List ℕ) (d : ℤ) (f f' : Act) → IsTrue (suits.variable x) → Goes f f' → Goes (turn (sequential bits) None line x d f) (turn (sequential bits) None line x d f')
  Goes-turn line x d f f' h g = Follows-counts_step like like id (sequential bits) _ _ (Follows-then like like id f f' _ _ g (Stays-increases line x d) (Goes-increases line x d h))

  Goes-loops : (line : ℕ) (x : List ℕ) (a b c : Expression) (f f' : Act) → SuitsLoop m suits x a b c → Goes f f'
      → Goes (loops (sequential bits) None line x a b c f) (loops (sequential bits) None line x (made m a) (made m b) (made m c) f')
  Goes-loops line x a b c f f' h g = Follows-asks like like id line _ _ _ _ (λ s u l z. made-number bits m suits like rule s u l a h.1 z) (λ m1.
      Follows-asks like like id line _ _ _ _ (λ s u l z. made-number bits m suits like rule s u l b h.2 z) (λ m2.
      Follows-asks like like id line _ _ _ _ (λ s u l z. made-increment bits m suits like rule s u l c h.3 z) (λ m3.
      Follows-then like like id _ _ _ _ (Goes-sets_variable like id line x m1 h.0) (Stays-evaluates line _ _)
      (Follows-asks like like id line _ _ _ _ (λ s u l n e. e) (λ n. Follows-repeated like n _ _ (Goes-turn line x m3 f f' h.0 g) (Stays-counts_step (sequential bits) None _))))))

  -- ---- READ

  abbrev AllNamed : List ℕ → List Cell → Type 0
  AllNamed x cs = AllByRecursion (λ (c : Cell). c.name ≡ x) cs

  all-named : (x : List ℕ) (bs : List (ℤ × ℤ)) (cs : List Cell) → AllByRecursion (λ (c : Cell). (c.name ≡ x) × (is_within bs c.subscripts ≡ true)) cs → AllNamed x cs
  all-named x bs [] h = tt
  all-named x bs (c ∷ cs) h = (h.0.0, all-named x bs cs h.1)

  -- the same cells, all of the name x
  abbrev AllOf : List ℕ → Store → Store → List Cell → List Cell → Type 0
  AllOf x s u cs ds = (cs ≡ ds) × AllNamed x cs

  input-cells : (x : List ℕ) (ps : Subscripts) → IsTrue (suits.variable x) → SuitsSubscripts m suits ps → (s u : Store) → like s u → (cs : List Cell) → item_cells (sequential bits) x ps s ≡ Ok cs
      → Answers like (AllOf x s u) (item_cells (sequential bits) x (made_subscripts m ps) u) cs
  input-cells x no_subscripts h hs s u a cs e =
      let common = rule.variable x s u h a in
      let p = parted (bounds_in (s.bounds x)) (λ bs. Ok (cells_of x bs)) cs e in
      let all : cells_of x p.part ≡ cs = let g = p.second in cc in
      record {
        answer = cs;
        answered = ap (λ b. do bs ← bounds_in b; Ok (cells_of x bs)) (sym common.bounds) ∙ e;
        related = (refl, subst (AllNamed x) all (all-named x p.part (cells_of x p.part) (cells-within x p.part)));
      }
  input-cells x (subscript b ps) h hs s u a cs e =
      let common = rule.variable x s u h a in
      let is = parted (subscript_values (sequential bits) (subscript b ps) s) (λ is. do c ← cell_at x is s; Ok (c ∷ [])) cs e in
      let c = parted (cell_at x is.part s) (λ c. Ok (c ∷ [])) cs is.second in
      let one : c.part ∷ [] ≡ cs = let g = c.second in cc in
      let values = made-subscripts bits m suits like rule s u a (subscript b ps) hs is.part is.first in
      record {
        answer = cs;
        answered = ap (λ r. do is ← r; c ← cell_at x is u; Ok (c ∷ [])) values ∙ (ap (λ b. do c ← cell_in b x is.part; Ok (c ∷ [])) (sym common.bounds) ∙ is.second);
        related = (refl, subst (AllNamed x) one (cell_in-named (s.bounds x) x is.part c.part c.first, tt));
      }

  Goes-reads_into : (line : ℕ) (x : List ℕ) (c : Cell) → IsTrue (suits.variable x) → c.name ≡ x → Goes (reads_into (sequential bits) None line c) (reads_into (sequential bits) None line c)
  Goes-reads_into line x c h n = Follows-takes_word like like id line _ _ (λ w.
      Follows-asks like like id line _ _ _ _ (λ s u a v e. ap (λ y. read_value y w) (sym ((rule.variable x s u h a).held c n)) ∙ e) (λ v.
      Follows-checks_range like like id (sequential bits) line v _ _ (λ q. Follows-counts_step like like id (sequential bits) _ _ (Follows-stores like like id c c v (λ s u a. (rule.variable x s u h a).put c v n q)))))

  Goes-reads_each : (line : ℕ) (x : List ℕ) (cs ds : List Cell) → IsTrue (suits.variable x)
      → Follows like (Also like like (AllOf x) cs ds) (for_each cs (reads_into (sequential bits) None line)) (for_each ds (reads_into (sequential bits) None line))
  Goes-reads_each line x cs ds h = record {
    at = λ s u n k w.
        (subst (λ (ds : List Cell). Goes (for_each cs (reads_into (sequential bits) None line)) (for_each ds (reads_into (sequential bits) None line))) k.1.0
        (Follows-for_each like (λ (c : Cell). c.name ≡ x) cs _ _ k.1.1 (λ c. Stays-takes_word line _) (λ c n. Goes-reads_into line x c h n))).at s u n k.0 w;
  }

  mutual
    Goes-reads_item : (i : Item) (line : ℕ) → SuitsInput m suits i → Goes (reads_item (sequential bits) None i line) (reads_item (sequential bits) None (made_input m i) line)
    Goes-reads_item (Single (Named x ps)) line h = Follows-evaluates like like id (AllOf x) line line _ _ _ _ (input-cells x ps h.0 h.1) (λ cs ds. Goes-reads_each line x cs ds h.0)
    Goes-reads_item (ImpliedDo is x a b c) line h = Goes-loops line x a b c _ _ h.0 (Goes-reads_items is line h.1)
    Goes-reads_item (Single (Number n)) line h = Follows-nothing like like id
    Goes-reads_item (Single (Logic b)) line h = Follows-nothing like like id
    Goes-reads_item (Single (Unary o e)) line h = Follows-nothing like like id
    Goes-reads_item (Single (Binary o e f)) line h = Follows-nothing like like id
    Goes-reads_item (Single (Apply f es)) line h = Follows-nothing like like id
    Goes-reads_item (Single (Constructor es ls)) line h = Follows-nothing like like id
    Goes-reads_item (Single (Spread e k f)) line h = Follows-nothing like like id
    Goes-reads_item (Single (Transpose e)) line h = Follows-nothing like like id
    Goes-reads_item (Single (Reshape e es)) line h = Follows-nothing like like id
    Goes-reads_item (Single (Reduce r e)) line h = Follows-nothing like like id
    Goes-reads_item (Constant t) line h = Follows-nothing like like id

    Goes-reads_items : (is : Items) (line : ℕ) → SuitsInputs m suits is → Goes (reads_items (sequential bits) None is line) (reads_items (sequential bits) None (made_inputs m is) line)
    Goes-reads_items no_items line h = Follows-nothing like like id
    Goes-reads_items (item i is) line h = Follows-then like like id _ _ _ _ (Goes-reads_item i line h.0) (Stays-reads_items (sequential bits) None is line) (Goes-reads_items is line h.1)

  -- ---- PRINT

  mutual
    Goes-prints_item : (i : Item) (line : ℕ) → SuitsOutput m suits i → Goes (prints_item (sequential bits) None i line) (prints_item (sequential bits) None (made_output m i) line)
    Goes-prints_item (Single e) line h = Follows-asks like like id line _ _ _ _ (λ s u a vs. made-item bits m suits like rule s u a e h vs) (λ vs. Follows-writes like like id (output_text vs))
    Goes-prints_item (Constant t) line h = Follows-writes like like id t
    Goes-prints_item (ImpliedDo is x a b c) line h = Goes-loops line x a b c _ _ h.0 (Goes-prints_items is line h.1)

    Goes-prints_items : (is : Items) (line : ℕ) → SuitsOutputs m suits is → Goes (prints_items (sequential bits) None is line) (prints_items (sequential bits) None (made_outputs m is) line)
    Goes-prints_items no_items line h = Follows-nothing like like id
    Goes-prints_items (item i is) line h = Follows-then like like id _ _ _ _ (Goes-prints_item i line h.0) (Stays-prints_items (sequential bits) None is line) (Goes-prints_items is line h.1)

  -- a blank before the list stays where it was
  first_blank-made : (is : Items) → first_blank (made_outputs m is) ≡ first_blank is
  first_blank-made no_items = refl
  first_blank-made (item (Single e) is) = refl
  first_blank-made (item (Constant t) is) = refl
  first_blank-made (item (ImpliedDo js x a b c) is) = refl

  Goes-first_blank : (is : Items) → Goes (writes (first_blank is)) (writes (first_blank (made_outputs m is)))
  Goes-first_blank is = subst (λ (t : List ℕ). Goes (writes (first_blank is)) (writes t)) (sym (first_blank-made is)) (Follows-writes like like id (first_blank is))

  -- ---- statements

  Goes-label : (n : ℕ) → Goes (does (sequential bits) None (Label n)) (does (sequential bits) None (Label n))
  Goes-label n = record { at = λ s. (Follows-either like like id (arrives n s.way) (goes Going) (goes Going) nothing nothing (λ e. Follows-goes like like id Going) (λ e. Follows-nothing like like id)).at s }

  mutual
    Goes-does : (c : Statement) → SuitsStatement m suits c → Goes (does (sequential bits) None c) (does (sequential bits) None (made_statement m c))
    Goes-does (Assignment line mark r e) h = Follows-counts_step like like id (sequential bits) _ _ (Goes-assigns line r e h.0 h.1)
    Goes-does (If line arms other) h = Goes-chooses line arms _ _ h.0 (Stays-does_all (sequential bits) None other) (Goes-does_all other h.1)
    Goes-does (Do line x a b c body) h = Goes-loops line x a b c _ _ h.0 (Goes-does_all body h.1)
    Goes-does (Label n) h = Goes-label n
    Goes-does (GoTo line n) h = Follows-counts_step like like id (sequential bits) _ _ (Follows-goes like like id (Jumping n))
    Goes-does (Stop line) h = Follows-counts_step like like id (sequential bits) _ _ (Follows-goes like like id Stopped)
    Goes-does (Read line is) h = Follows-counts_step like like id (sequential bits) _ _ (Follows-then like like id _ _ _ _ (Follows-begins_line like like id line)
        (Stays-then _ _ (Stays-reads_items (sequential bits) None is line) Stays-skips_line)
        (Follows-then like like id _ _ _ _ (Goes-reads_items is line h) Stays-skips_line (Follows-skips_line like like id)))
    Goes-does (Print line is) h = Follows-counts_step like like id (sequential bits) _ _ (Follows-then like like id _ _ _ _ (Goes-first_blank is)
        (Stays-then _ _ (Stays-prints_items (sequential bits) None is line) (Stays-writes (10 ∷ [])))
        (Follows-then like like id _ _ _ _ (Goes-prints_items is line h) (Stays-writes (10 ∷ [])) (Follows-writes like like id (10 ∷ []))))
    -- nothing without arrays as values
    Goes-does (Where line mark mask r e) h = Follows-nothing like like id
    Goes-does (Allocate line x es) h = Follows-nothing like like id
    Goes-does (Deallocate line x) h = Follows-nothing like like id

    Goes-chooses : (line : ℕ) (arms : Arms) (f f' : Act) → SuitsArms m suits arms → Stays f → Goes f f' → Goes (chooses (sequential bits) None line arms f) (chooses (sequential bits) None line (made_arms m arms) f')
    Goes-chooses line no_arms f f' h w g = g
    Goes-chooses line (arm test body arms) f f' h w g = Follows-counts_step like like id (sequential bits) _ _ (Follows-asks like like id line _ _ _ _
        (λ s u a b. made-truth bits m suits like rule s u a test h.0 b)
        (λ b. Follows-either like like id b _ _ _ _ (λ e. Goes-does_all body h.1) (λ e. Goes-chooses line arms f f' h.2 w g)))

    pub Goes-does_all : (cs : Block) → SuitsBlock m suits cs → Goes (does_all (sequential bits) None cs) (does_all (sequential bits) None (made_block m cs))
    Goes-does_all no_statements h = Follows-nothing like like id
    Goes-does_all (statement c cs) h = Follows-then like like id _ _ _ _ (Goes-does c h.0) (Stays-does_all (sequential bits) None cs) (Goes-does_all cs h.1)

  pub made_block_follows : (cs : Block) → SuitsBlock m suits cs → RunFollows (sequential bits) like cs (made_block m cs)
  made_block_follows cs h s t a w =
      let same : ◌≡◌ {A = State} (record s { store = t.store; steps = t.steps }) t
      = (λ i. record { store = t.store; written = a.written i; input = a.input i; had_value = a.had_value i; steps = t.steps; way = a.way i }) in
      let one = (Goes-does_all cs h).at s t.store t.steps a.store w in
      subst (λ (r : State). MomentsAlike like (does_all (sequential bits) None cs s) (does_all (sequential bits) None (made_block m cs) r)) same (record {
        store = one.stores;
        written = sym (ap (λ (r : State). r.written) one.rest);
        input = sym (ap (λ (r : State). r.input) one.rest);
        had_value = sym (ap (λ (r : State). r.had_value) one.rest);
        way = sym (ap (λ (r : State). r.way) one.rest);
      })
