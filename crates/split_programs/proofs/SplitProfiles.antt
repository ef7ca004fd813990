-- The statements of a split program are of the profile again, with the labels and jumps of its source.
use Rattle.std.proofs.Common.{◌≡◌, refl, sym, ap, ap₂, ◌∙◌, subst, inl, inr, ℕ, ◌+◌, ◌≤◌, ◌<◌, ◌^◌, true, List, [], ◌∷◌, ◌++◌, append_assoc, append-nil, map, Option, Some, None, IfSome, Contains, arith}
use Rattle.std.specs.List.{AllByRecursion}
use Rattle.components.specs.Lists.{Each}
use Rattle.components.proofs.ListLaws.{Each-append}
use Rattle.find_nests.specs.Found.{InNest, nest_of_loop}
use Rattle.find_nests.specs.Loops.{Numbered, SourceLoop, as_statement}
use Rattle.index_split.specs.Answers.{IsAnswerTo}
use Rattle.index_split.specs.Pieces.{are_assignments, constant, loop_over, loops_over}
use Rattle.index_split.specs.declared.answers.Answer.{Answer}
use Rattle.index_split.specs.declared.answers.Answer.TheVariants.{Cut, Outer, Whole}
use Rattle.index_split.specs.declared.pieces.Bounds.{Bounds}
use Rattle.index_split.specs.declared.pieces.Pieces.{Pieces}
use Rattle.linear_forms.specs.Texts.{text_of}
use Rattle.meaning.specs.Blocks.{Surroundings, before_labels, blocks_in, blocks_in_arms, blocks_of, label_of, labels_of, outermost, statement_count_in, within_loop}
use Rattle.meaning.specs.Calls.{calls_in, calls_in_arms, calls_in_block, calls_in_statement, names_called}
use Rattle.meaning.specs.Dialect.{Dialect}
use Rattle.meaning.specs.Labels.{IsWithoutRepeats, all_labels_in, all_labels_in_arms, all_labels_of, has_arm, targets_in, targets_in_arms, targets_of}
use Rattle.meaning.specs.Profile77.{AreArms, AreDeclarations, IsBlock, IsProgram77, IsStatement}
use Rattle.meaning.specs.Store.{names_of}
use Rattle.meaning.specs.SymbolicNames.{IsSymbolicName}
use Rattle.meaning_laws.proofs.profiles.Lists.{cases_of, here, nowhere, there}
use Rattle.nest.specs.Plain.{Nest}
use Rattle.pass_laws.proofs.FoundSources.Lists.{Each-left, Each-right}
use Rattle.pass_laws.proofs.PreparedRuns.Symbols.{IsNumber}
use Rattle.split_laws.proofs.LoopAnswers.{split_program_is_split}
use Rattle.split_laws.specs.Split.{AreArmsSplit, IsAnswered, IsBlockSplit, IsInstead, IsSplit}
use Rattle.split_programs.proofs.Pieces.{HasBoundedPieces, pieces_bounded, step_bounded}
use Rattle.split_programs.proofs.Symbols.{symbols_are_numbers}
use Rattle.split_programs.proofs.Texts.{IsBounded, no_calls, whole_text}
use Rattle.split_programs.specs.Profiles.{SplitProgramIsOfProfile}
use Rattle.tree.specs.Plain.{Allocate, Arms, Assignment, Block, Deallocate, Declaration, Do, GoTo, If, Label, Print, Program, Read, Statement, Stop, Where, arm, block, no_arms, no_statements, statement}

-- ---- assignments alone

pub record HasNoLabels (b : Block) : Type 0 where
  pub labels : all_labels_in b ≡ []
  pub targets : targets_in b ≡ []

no_labels : (b : Block) → are_assignments b ≡ true → HasNoLabels b
no_labels no_statements h = record { labels = refl; targets = refl }
no_labels (statement (Assignment line mark left right) b) h = let more = no_labels b h in record { labels = more.labels; targets = more.targets }
no_labels (statement (Where line mark mask left right) b) h = let no : ⊥ = cc in absurd no
no_labels (statement (If line arms other) b) h = let no : ⊥ = cc in absurd no
no_labels (statement (Do line x first last step body) b) h = let no : ⊥ = cc in absurd no
no_labels (statement (Label n) b) h = let no : ⊥ = cc in absurd no
no_labels (statement (GoTo line n) b) h = let no : ⊥ = cc in absurd no
no_labels (statement (Stop line) b) h = let no : ⊥ = cc in absurd no
no_labels (statement (Read line is) b) h = let no : ⊥ = cc in absurd no
no_labels (statement (Print line is) b) h = let no : ⊥ = cc in absurd no
no_labels (statement (Allocate line x es) b) h = let no : ⊥ = cc in absurd no
no_labels (statement (Deallocate line x) b) h = let no : ⊥ = cc in absurd no

-- ---- blocks one after the other

labels-append : (xs ys : List Statement) → labels_of (block (xs ++ ys)) ≡ labels_of (block xs) ++ labels_of (block ys)
labels-append [] ys = refl
labels-append (x ∷ xs) ys = ap (λ ns. label_of x ++ ns) (labels-append xs ys) ∙ sym (append_assoc (label_of x) (labels_of (block xs)) (labels_of (block ys)))

all_labels-append : (xs ys : List Statement) → all_labels_in (block (xs ++ ys)) ≡ all_labels_in (block xs) ++ all_labels_in (block ys)
all_labels-append [] ys = refl
all_labels-append (x ∷ xs) ys = ap (λ ns. all_labels_of x ++ ns) (all_labels-append xs ys) ∙ sym (append_assoc (all_labels_of x) (all_labels_in (block xs)) (all_labels_in (block ys)))

targets-append : (xs ys : List Statement) → targets_in (block (xs ++ ys)) ≡ targets_in (block xs) ++ targets_in (block ys)
targets-append [] ys = refl
targets-append (x ∷ xs) ys = ap (λ ns. targets_of x ++ ns) (targets-append xs ys) ∙ sym (append_assoc (targets_of x) (targets_in (block xs)) (targets_in (block ys)))

blocks-append : (xs ys : List Statement) (n : ℕ) → blocks_in (block xs) ≤ n → blocks_in (block ys) ≤ n → blocks_in (block (xs ++ ys)) ≤ n
blocks-append [] ys n h k = k
blocks-append (x ∷ xs) ys n h k = let more = blocks-append xs ys n (omega (arith, h)) k in omega (arith, h, more)

calls-append : (P : List ℕ → Type 0) (xs ys : List Statement) → Each P (calls_in_block (block xs)) → Each P (calls_in_block (block ys)) → Each P (calls_in_block (block (xs ++ ys)))
calls-append P [] ys h k = k
calls-append P (x ∷ xs) ys h k =
    Each-append P (calls_in_statement x) (calls_in_block (block (xs ++ ys))) (Each-left P (calls_in_statement x) (calls_in_block (block xs)) h)
    (calls-append P xs ys (Each-right P (calls_in_statement x) (calls_in_block (block xs)) h) k)

blocks_together : (ds : List Declaration) (xs ys : List Statement) (w : Surroundings) → IsBlock ds (block xs) (before_labels (labels_of (block ys)) w) → IsBlock ds (block ys) w → IsBlock ds (block (xs ++ ys)) w
blocks_together ds [] ys w h g = g
blocks_together ds (x ∷ xs) ys w h g = (
  subst (λ ns. IsStatement ds x (record { variables = w.variables; ahead = ns }))
      (sym (append_assoc (labels_of (block xs)) (labels_of (block ys)) w.ahead) ∙ ap (λ ns. ns ++ w.ahead) (sym (labels-append xs ys))) h.0,
  blocks_together ds xs ys w h.1 g,
)

module _ (P : List ℕ → Type 0) (own : Dialect) (p : Program) (are : AreDeclarations own p.declarations) where
  abbrev ds : List Declaration
  ds = p.declarations

  -- what stands in the place of a statement, and of a block
  pub record IsLike (c : Statement) (cs : List Statement) (w : Surroundings) : Type 0 where
    pub labels : labels_of (block cs) ≡ label_of c
    pub all : all_labels_in (block cs) ≡ all_labels_of c
    pub targets : targets_in (block cs) ≡ targets_of c
    pub blocks : blocks_in (block cs) ≤ blocks_of c
    pub calls : Each P (calls_in_statement c) → Each P (calls_in_block (block cs))
    pub profile : IsBlock p.declarations (block cs) w

  pub record IsLikeBlock (b : Block) (cs : List Statement) (w : Surroundings) : Type 0 where
    pub labels : labels_of (block cs) ≡ labels_of b
    pub all : all_labels_in (block cs) ≡ all_labels_in b
    pub targets : targets_in (block cs) ≡ targets_in b
    pub blocks : blocks_in (block cs) ≤ blocks_in b
    pub calls : Each P (calls_in_block b) → Each P (calls_in_block (block cs))
    pub profile : IsBlock p.declarations (block cs) w

  pub record AreLikeArms (arms ms : Arms) (w : Surroundings) : Type 0 where
    pub some : has_arm ms ≡ has_arm arms
    pub all : all_labels_in_arms ms ≡ all_labels_in_arms arms
    pub targets : targets_in_arms ms ≡ targets_in_arms arms
    pub blocks : blocks_in_arms ms ≤ blocks_in_arms arms
    pub calls : Each P (calls_in_arms arms) → Each P (calls_in_arms ms)
    pub profile : AreArms p.declarations ms w

  -- one statement
  like_one : (c d : Statement) (cs : List Statement) (w : Surroundings) → cs ≡ d ∷ [] → label_of d ≡ label_of c → all_labels_of d ≡ all_labels_of c → targets_of d ≡ targets_of c
      → blocks_of d ≤ blocks_of c → (Each P (calls_in_statement c) → Each P (calls_in_statement d)) → IsStatement ds d w → IsLike c cs w
  like_one c d cs w e labels all targets blocks calls h = subst (λ (es : List Statement). IsLike c es w) (sym e) (record {
    labels = append-nil (label_of d) ∙ labels;
    all = append-nil (all_labels_of d) ∙ all;
    targets = append-nil (targets_of d) ∙ targets;
    blocks = omega (arith, blocks);
    calls = λ k. Each-append P (calls_in_statement d) [] (calls k) tt;
    profile = (h, tt);
  })

  same : (c : Statement) (cs : List Statement) (w : Surroundings) → cs ≡ c ∷ [] → IsStatement ds c w → IsLike c cs w
  same c cs w e h = like_one c c cs w e refl refl refl (omega arith) (λ k. k) h

  -- ---- pieces

  none_in : (xs : List (List ℕ)) → xs ≡ [] → Each P xs
  none_in xs e = subst (Each P) (sym e) tt

  module _ (place : Numbered) (w : Surroundings) (stands : IsStatement p.declarations (as_statement place.loop) w) (free : HasNoLabels place.loop.body) (ps : Pieces) (bounded : HasBoundedPieces p place ps) where
    abbrev body : Block
    body = place.loop.body

    symbols : Each (IsNumber ds) ps.symbols
    symbols = subst (Each (IsNumber ds)) (sym bounded.symbols) (symbols_are_numbers own ds are place.loop.variable place.loop.body)

    abbrev piece : Bounds → Statement
    piece b = loop_over ps place.loop.line place.loop.variable place.loop.body b

    abbrev all_pieces : List Bounds → List Statement
    all_pieces bs = map (loop_over ps place.loop.line place.loop.variable place.loop.body) bs

    labels_none : (bs : List Bounds) → labels_of (block (all_pieces bs)) ≡ []
    labels_none [] = refl
    labels_none (b ∷ bs) = labels_none bs

    all_none : (bs : List Bounds) → all_labels_in (block (all_pieces bs)) ≡ []
    all_none [] = refl
    all_none (b ∷ bs) = ap₂ (λ (xs ys : List ℕ). xs ++ ys) free.labels (all_none bs)

    targets_none : (bs : List Bounds) → targets_in (block (all_pieces bs)) ≡ []
    targets_none [] = refl
    targets_none (b ∷ bs) = ap₂ (λ (xs ys : List ℕ). xs ++ ys) free.targets (targets_none bs)

    blocks_few : (bs : List Bounds) → blocks_in (block (all_pieces bs)) ≤ 1 + blocks_in body
    blocks_few [] = omega arith
    blocks_few (b ∷ bs) = let more = blocks_few bs in omega (arith, more)

    calls_same : (bs : List Bounds) → Each (λ (b : Bounds). IsBounded ds b.first × IsBounded ds b.last) bs → Each P (calls_in_block body) → Each P (calls_in_block (block (all_pieces bs)))
    calls_same [] h k = tt
    calls_same (b ∷ bs) h k =
        let first = calls_in (text_of [] ps.symbols [] b.first) in
        let last = calls_in (text_of [] ps.symbols [] b.last) in
        let step = calls_in (text_of [] [] [] (constant ps.step)) in
        Each-append P (calls_in_statement (piece b)) (calls_in_block (block (all_pieces bs)))
        (Each-append P (first ++ last ++ step) (calls_in_block body)
        (Each-append P (first ++ last) step
        (Each-append P first last (none_in first (no_calls ds ps.symbols b.first symbols h.0.0)) (none_in last (no_calls ds ps.symbols b.last symbols h.0.1)))
        (none_in step (no_calls ds [] (constant ps.step) tt (step_bounded ds ps.step bounded.step)))) k)
        (calls_same bs h.1 k)

    profile_is : (bs : List Bounds) → Each (λ (b : Bounds). IsBounded ds b.first × IsBounded ds b.last) bs → IsBlock ds (block (all_pieces bs)) w
    profile_is [] h = tt
    profile_is (b ∷ bs) h = (
      subst (λ ns. IsStatement ds (piece b) (before_labels ns w)) (sym (labels_none bs)) (
        stands.0,
        stands.1,
        whole_text ds ps.symbols b.first symbols h.0.0,
        whole_text ds ps.symbols b.last symbols h.0.1,
        whole_text ds [] (constant ps.step) tt (step_bounded ds ps.step bounded.step),
        stands.5,
      ),
      profile_is bs h.1,
    )

    pub like_pieces : IsLike (as_statement place.loop) (loops_over ps place.loop.line place.loop.variable place.loop.body) w
    like_pieces = record {
      labels = labels_none ps.bounds;
      all = all_none ps.bounds ∙ sym free.labels;
      targets = targets_none ps.bounds ∙ sym free.targets;
      blocks = blocks_few ps.bounds;
      calls = λ k.
          calls_same ps.bounds bounded.bounds
          (Each-right P (calls_in place.loop.first ++ calls_in place.loop.last ++ calls_in place.loop.step) (calls_in_block body) k);
      profile = profile_is ps.bounds bounded.bounds;
    }

  -- ---- statements

  like_answer : (number : ℕ) (place : Numbered) (w : Surroundings) (cs : List Statement) (a : Answer) → IsStatement p.declarations (as_statement place.loop) w
      → IsAnswerTo (InNest (nest_of_loop p number place)) a → IsInstead place.loop a cs → IsLike (as_statement place.loop) cs w
  like_answer number place w cs Outer h right e = absurd e
  like_answer number place w cs Whole h right e = same (as_statement place.loop) cs w e h
  like_answer number place w cs (Cut ps) h right (inl e) =
      subst (λ (es : List Statement). IsLike (as_statement place.loop) es w) (sym e.1)
      (like_pieces place w h (no_labels place.loop.body e.0) ps (pieces_bounded p number place ps right))
  like_answer number place w cs (Cut ps) h right (inr e) = same (as_statement place.loop) cs w e.1 h

  like_nest : (l : SourceLoop) (w : Surroundings) (cs : List Statement) → IsStatement p.declarations (as_statement l) w → IsAnswered p l cs → IsLike (as_statement l) cs w
  like_nest l w cs h a =
      subst (λ (k : SourceLoop). IsLike (as_statement k) cs w) a.loop
      (like_answer a.nest.number a.place w cs a.answer
      (subst (λ (k : SourceLoop). IsStatement p.declarations (as_statement k) w) (sym a.loop) h)
      (subst (λ (n : Nest). IsAnswerTo (InNest n) a.answer) a.is a.right)
      (subst (λ (k : SourceLoop). IsInstead k a.answer cs) (sym a.loop) a.instead))

  mutual
    like : (c : Statement) (cs : List Statement) (w : Surroundings) → IsStatement p.declarations c w → IsSplit p c cs → IsLike c cs w
    like (Assignment line mark left right) cs w h e = same (Assignment line mark left right) cs w e h
    like (Where line mark mask left right) cs w h e = same (Where line mark mask left right) cs w e h
    like (If line arms other) cs w h e =
        let f = like_arms arms e.0 w h.2 e.3 in
        let g = like_block other e.1 w h.3 e.4 in
        let fb = f.blocks in
        let gb = g.blocks in
        like_one (If line arms other) (If line e.0 (block e.1)) cs w e.2 refl (ap₂ (λ (xs ys : List ℕ). xs ++ ys) f.all g.all) (ap₂ (λ (xs ys : List ℕ). xs ++ ys) f.targets g.targets)
        (omega (arith, fb, gb))
        (λ k.
        Each-append P (calls_in_arms e.0) (calls_in_block (block e.1)) (f.calls (Each-left P (calls_in_arms arms) (calls_in_block other) k)) (g.calls (Each-right P (calls_in_arms arms) (calls_in_block other) k)))
        (h.0, f.some ∙ h.1, f.profile, g.profile)
    like (Do line x a b c body) cs w h (inl e) =
        let f = like_block body e.1.0 (within_loop x w) h.5 e.1.2 in
        let fb = f.blocks in
        like_one (Do line x a b c body) (Do line x a b c (block e.1.0)) cs w e.1.1 refl f.all f.targets (omega (arith, fb))
        (λ k.
        Each-append P (calls_in a ++ calls_in b ++ calls_in c) (calls_in_block (block e.1.0)) (Each-left P (calls_in a ++ calls_in b ++ calls_in c) (calls_in_block body) k)
        (f.calls (Each-right P (calls_in a ++ calls_in b ++ calls_in c) (calls_in_block body) k)))
        (h.0, h.1, h.2, h.3, h.4, f.profile)
    like (Do line x a b c body) cs w h (inr e) = like_nest (record { line = line; variable = x; first = a; last = b; step = c; body = body }) w cs h e.1
    like (Label n) cs w h e = same (Label n) cs w e h
    like (GoTo line n) cs w h e = same (GoTo line n) cs w e h
    like (Stop line) cs w h e = same (Stop line) cs w e h
    like (Read line is) cs w h e = same (Read line is) cs w e h
    like (Print line is) cs w h e = same (Print line is) cs w e h
    like (Allocate line x es) cs w h e = absurd h
    like (Deallocate line x) cs w h e = absurd h

    like_arms : (arms ms : Arms) (w : Surroundings) → AreArms p.declarations arms w → AreArmsSplit p arms ms → AreLikeArms arms ms w
    like_arms no_arms ms w h e = subst (λ (ns : Arms). AreLikeArms no_arms ns w) (sym e) (record { some = refl; all = refl; targets = refl; blocks = omega arith; calls = λ k. k; profile = tt })
    like_arms (arm test body arms) ms w h e =
        let f = like_block body e.0 w h.1 e.3 in
        let g = like_arms arms e.1 w h.2 e.4 in
        let fb = f.blocks in
        let gb = g.blocks in
        subst (λ (ns : Arms). AreLikeArms (arm test body arms) ns w) (sym e.2) (record {
          some = refl;
          all = ap₂ (λ (xs ys : List ℕ). xs ++ ys) f.all g.all;
          targets = ap₂ (λ (xs ys : List ℕ). xs ++ ys) f.targets g.targets;
          blocks = omega (arith, fb, gb);
          calls = λ k.
              let front = Each-left P (calls_in test ++ calls_in_block body) (calls_in_arms arms) k in
              Each-append P (calls_in test ++ calls_in_block (block e.0)) (calls_in_arms e.1)
              (Each-append P (calls_in test) (calls_in_block (block e.0)) (Each-left P (calls_in test) (calls_in_block body) front) (f.calls (Each-right P (calls_in test) (calls_in_block body) front)))
              (g.calls (Each-right P (calls_in test ++ calls_in_block body) (calls_in_arms arms) k));
          profile = (h.0, f.profile, g.profile);
        })

    like_block : (b : Block) (cs : List Statement) (w : Surroundings) → IsBlock p.declarations b w → IsBlockSplit p b cs → IsLikeBlock b cs w
    like_block no_statements cs w h e =
        subst (λ (es : List Statement). IsLikeBlock no_statements es w) (sym e) (record { labels = refl; all = refl; targets = refl; blocks = omega arith; calls = λ k. k; profile = tt })
    like_block (statement c b) cs w h e =
        let f = like c e.0 (before_labels (labels_of b) w) h.0 e.3 in
        let g = like_block b e.1 w h.1 e.4 in
        let fb = f.blocks in
        let gb = g.blocks in
        subst (λ (es : List Statement). IsLikeBlock (statement c b) es w) (sym e.2) (record {
          labels = labels-append e.0 e.1 ∙ ap₂ (λ (xs ys : List ℕ). xs ++ ys) f.labels g.labels;
          all = all_labels-append e.0 e.1 ∙ ap₂ (λ (xs ys : List ℕ). xs ++ ys) f.all g.all;
          targets = targets-append e.0 e.1 ∙ ap₂ (λ (xs ys : List ℕ). xs ++ ys) f.targets g.targets;
          blocks = blocks-append e.0 e.1 (blocks_in (statement c b)) (omega (arith, fb)) (omega (arith, gb));
          calls = λ k.
              calls-append P e.0 e.1 (f.calls (Each-left P (calls_in_statement c) (calls_in_block b) k)) (g.calls (Each-right P (calls_in_statement c) (calls_in_block b) k));
          profile = blocks_together ds e.0 e.1 w (subst (λ ns. IsBlock ds (block e.0) (before_labels ns w)) (sym g.labels) f.profile) g.profile;
        })

-- ---- programs

each_other : (x : List ℕ) (xs : List (List ℕ)) → (Contains xs x → ⊥) → Each (λ y. ¬ (y ≡ x)) xs
each_other x [] f = tt
each_other x (y ∷ ys) f = (λ e. f (subst (Contains (y ∷ ys)) e (here y ys)), each_other x ys (λ c. f (there y ys x c)))

not_there : (x : List ℕ) (xs : List (List ℕ)) → Each (λ y. ¬ (y ≡ x)) xs → Contains xs x → ⊥
not_there x [] h c = nowhere x c
not_there x (y ∷ ys) h c = elim (cases_of y ys x c) [ inl e ↦ h.0 e | inr i ↦ not_there x ys h.1 i ]

module _ (own : Dialect) (p : Program) (is : IsProgram77 own p) (cs : List Statement) (split : IsBlockSplit p p.body cs) where
  whole : (P : List ℕ → Type 0) → IsLikeBlock P own p is.declarations p.body cs outermost
  whole P = like_block P own p is.declarations p.body cs outermost is.statements split

  abbrev made : Program
  made = record p { body = block cs }

  named : (o : Option (List ℕ)) → IfSome o (λ x. IsSymbolicName x × (Contains (names_of p) x → ⊥) × (Contains (names_called p) x → ⊥))
      → IfSome o (λ x. IsSymbolicName x × (Contains (names_of p) x → ⊥) × (Contains (calls_in_block (block cs)) x → ⊥))
  named None h = tt
  named (Some x) h = (h.0, h.1, λ c. not_there x (calls_in_block (block cs)) ((whole (λ y. ¬ (y ≡ x))).calls (each_other x (calls_in_block p.body) h.2)) c)

  of_profile : statement_count_in (block cs) < 2 ^ 31 → IsProgram77 own (record p { body = block cs })
  of_profile few =
      let f = whole (λ y. Unit {0}) in
      let fb = f.blocks in
      let pb = is.blocks in
      record {
        name = named p.name is.name;
        declarations = is.declarations;
        statements = f.profile;
        blocks = omega (arith, fb, pb);
        labels = subst IsWithoutRepeats (sym f.all) is.labels;
        named = subst (λ ns. AllByRecursion (Contains (targets_in (block cs))) ns) (sym f.all) (subst (λ ts. AllByRecursion (Contains ts) (all_labels_in p.body)) (sym f.targets) is.named);
        few = few;
      }

pub split_program_is_of_profile : SplitProgramIsOfProfile
split_program_is_of_profile own p q is split =
    let parts = split_program_is_split p q split in
    subst (IsProgram77 own) (sym parts.1) (of_profile own p is parts.0 parts.2 (subst (λ (r : Program). statement_count_in r.body < 2 ^ 31) parts.1 split.few))
