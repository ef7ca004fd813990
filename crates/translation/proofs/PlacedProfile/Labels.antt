-- A block that stands in the place of a loop has no labels and no jumps, and no jump leaves the loop. So labels and jumps
-- go together, and each label that stays is named by a jump that stays.
use Rattle.std.proofs.Common.{◌≡◌, ◌⊎◌, inl, inr, refl, sym, ap, subst, ◌∙◌, ℕ, Option, Some, None, List, [], ◌∷◌}
use Rattle.std.proofs.Common.{◌++◌, append_assoc, append-nil, Contains}
use Rattle.std.specs.List.{AllByRecursion}
use Rattle.std.proofs.lemmas.List.Elements.{Contains-append_cases, Contains-append_left, Contains-append_right}
use Rattle.meaning_laws.proofs.profiles.Lists.{all_at, cases_of, here, nowhere, there}
use Rattle.tree.specs.Plain.{Statement, Assignment, Where, If, Do, Label, GoTo, Stop, Read, Print, Allocate}
use Rattle.tree.specs.Plain.{Deallocate, Arms, no_arms, arm, Block, no_statements, statement, block, Program}
use Rattle.meaning.specs.Blocks.{label_of, labels_of}
use Rattle.meaning.specs.Dialect.{fortran77}
use Rattle.tree.specs.declared.width.Width.{Width}
use Rattle.meaning.specs.Labels.{IsWithoutRepeats, all_labels_of, all_labels_in, all_labels_in_arms}
use Rattle.meaning.specs.Labels.{targets_of, targets_in, targets_in_arms}
use Rattle.meaning.specs.Profile77.{IsProgram77}
use Rattle.find_nests.specs.Loops.{SurroundedLoop, SourceLoop, loops_in, loops_in_arms, loops_in_block}
use Rattle.translation.specs.loop_placing.Placing.{block_at, instead, placed_statement, placed_arms, placed_in, statements_of_block}
use Rattle.find_nests.specs.nest_parts.Numbers.{number_after, after_arms, after_block, next_loop_number}
use Rattle.translation.specs.placed_profile.Laws.{SuitsLoop}

-- ---- blocks and lists

pub block_of_statements : (b : Block) → block (statements_of_block b) ≡ b
block_of_statements no_statements = refl
block_of_statements (statement c cs) = ap (statement c) (block_of_statements cs)

both : (ms ns os ps : List ℕ) → ms ≡ os → ns ≡ ps → ms ++ ns ≡ os ++ ps
both ms ns os ps e f = cc

first_is_none : (ms ns : List ℕ) → ms ++ ns ≡ [] → ms ≡ []
first_is_none [] ns e = refl
first_is_none (m ∷ ms) ns e = absurd cc

second_is_none : (ms ns : List ℕ) → ms ++ ns ≡ [] → ns ≡ []
second_is_none [] ns e = e
second_is_none (m ∷ ms) ns e = absurd cc

pub labels-append : (xs ys : List Statement) → labels_of (block (xs ++ ys)) ≡ labels_of (block xs) ++ labels_of (block ys)
labels-append [] ys = refl
labels-append (x ∷ xs) ys = ap (λ ns. label_of x ++ ns) (labels-append xs ys) ∙ sym (append_assoc (label_of x) (labels_of (block xs)) (labels_of (block ys)))

all_labels-append : (xs ys : List Statement) → all_labels_in (block (xs ++ ys)) ≡ all_labels_in (block xs) ++ all_labels_in (block ys)
all_labels-append [] ys = refl
all_labels-append (x ∷ xs) ys = ap (λ ns. all_labels_of x ++ ns) (all_labels-append xs ys) ∙ sym (append_assoc (all_labels_of x) (all_labels_in (block xs)) (all_labels_in (block ys)))

targets-append : (xs ys : List Statement) → targets_in (block (xs ++ ys)) ≡ targets_in (block xs) ++ targets_in (block ys)
targets-append [] ys = refl
targets-append (x ∷ xs) ys = ap (λ ns. targets_of x ++ ns) (targets-append xs ys) ∙ sym (append_assoc (targets_of x) (targets_in (block xs)) (targets_in (block ys)))

-- ---- a block without labels

label_is_none : (c : Statement) → all_labels_of c ≡ [] → label_of c ≡ []
label_is_none (Assignment line mark left right) e = refl
label_is_none (Where line mark mask left right) e = refl
label_is_none (If line arms other) e = refl
label_is_none (Do line x first last step body) e = refl
label_is_none (Label n) e = e
label_is_none (GoTo line n) e = refl
label_is_none (Stop line) e = refl
label_is_none (Read line is) e = refl
label_is_none (Print line is) e = refl
label_is_none (Allocate line x es) e = refl
label_is_none (Deallocate line x) e = refl

labels_are_none : (b : Block) → all_labels_in b ≡ [] → labels_of b ≡ []
labels_are_none no_statements e = refl
labels_are_none (statement c cs) e =
    both (label_of c) (labels_of cs) [] []
    (label_is_none c (first_is_none (all_labels_of c) (all_labels_in cs) e))
    (labels_are_none cs (second_is_none (all_labels_of c) (all_labels_in cs) e))

-- ---- lists without repeats

front_once : (xs ys : List ℕ) → IsWithoutRepeats (xs ++ ys) → IsWithoutRepeats xs
front_once [] ys h = tt
front_once (x ∷ xs) ys h = (λ c. h.0 (Contains-append_left xs ys x c), front_once xs ys h.1)

rest_once : (xs ys : List ℕ) → IsWithoutRepeats (xs ++ ys) → IsWithoutRepeats ys
rest_once [] ys h = h
rest_once (x ∷ xs) ys h = rest_once xs ys h.1

across : (xs ys : List ℕ) → IsWithoutRepeats (xs ++ ys) → (k : ℕ) → Contains xs k → Contains ys k → ⊥
across [] ys h k c d = nowhere k c
across (x ∷ xs) ys h k c d = by (cases_of x xs k c) (λ i. across xs ys h.1 k i d)
  where
    by : (x ≡ k) ⊎ Contains xs k → (Contains xs k → ⊥) → ⊥
    by (inl e) more = h.0 (subst (Contains (xs ++ ys)) (sym e) (Contains-append_right xs ys k d))
    by (inr i) more = more i

once_both : (xs ys : List ℕ) → IsWithoutRepeats xs → IsWithoutRepeats ys → ((k : ℕ) → Contains xs k → Contains ys k → ⊥)
    → IsWithoutRepeats (xs ++ ys)
once_both [] ys h g apart = g
once_both (x ∷ xs) ys h g apart = (
  λ c. by (Contains-append_cases xs ys x c),
  once_both xs ys h.1 g (λ k c d. apart k (there x xs k c) d),
)
  where
    by : Contains xs x ⊎ Contains ys x → ⊥
    by (inl c) = h.0 c
    by (inr d) = apart x (here x xs) d

-- ---- the walk

-- a label that goes
record HasGone (each kept : List ℕ) (n : ℕ) : Type 0 where
  stood : Contains each n
  gone : Contains kept n → ⊥

-- Of these labels some are kept, and of the labels that jumps name those are kept that aren't gone
record Keep (each named kept jumps : List ℕ) : Type 0 where
  some : (n : ℕ) → Contains kept n → Contains each n
  once : IsWithoutRepeats kept
  jump : (n : ℕ) → Contains named n → Contains jumps n ⊎ HasGone each kept n

keep_same : (each named : List ℕ) → IsWithoutRepeats each → Keep each named each named
keep_same each named h = record { some = λ n c. c; once = h; jump = λ n c. inl c }

module _ (each more named further kept also jumps others : List ℕ) (once : IsWithoutRepeats (each ++ more))
    (a : Keep each named kept jumps) (b : Keep more further also others) where
  gone_first : (n : ℕ) → HasGone each kept n → HasGone (each ++ more) (kept ++ also) n
  gone_first n g = record { stood = Contains-append_left each more n g.stood; gone = λ c. by (Contains-append_cases kept also n c) }
    where
      by : Contains kept n ⊎ Contains also n → ⊥
      by (inl c) = g.gone c
      by (inr c) = across each more once n g.stood (b.some n c)

  gone_second : (n : ℕ) → HasGone more also n → HasGone (each ++ more) (kept ++ also) n
  gone_second n g = record { stood = Contains-append_right each more n g.stood; gone = λ c. by (Contains-append_cases kept also n c) }
    where
      by : Contains kept n ⊎ Contains also n → ⊥
      by (inl c) = across each more once n (a.some n c) g.stood
      by (inr c) = g.gone c

  keep_both : Keep (each ++ more) (named ++ further) (kept ++ also) (jumps ++ others)
  keep_both = record {
    some = λ n c. stays n (Contains-append_cases kept also n c);
    once = once_both kept also a.once b.once (λ n c d. across each more once n (a.some n c) (b.some n d));
    jump = λ n c. jumps_on n (Contains-append_cases named further n c);
  }
    where
      stays : (n : ℕ) → Contains kept n ⊎ Contains also n → Contains (each ++ more) n
      stays n (inl c) = Contains-append_left each more n (a.some n c)
      stays n (inr c) = Contains-append_right each more n (b.some n c)

      first : (n : ℕ) → Contains jumps n ⊎ HasGone each kept n
          → Contains (jumps ++ others) n ⊎ HasGone (each ++ more) (kept ++ also) n
      first n (inl c) = inl (Contains-append_left jumps others n c)
      first n (inr g) = inr (gone_first n g)

      second : (n : ℕ) → Contains others n ⊎ HasGone more also n
          → Contains (jumps ++ others) n ⊎ HasGone (each ++ more) (kept ++ also) n
      second n (inl c) = inl (Contains-append_right jumps others n c)
      second n (inr g) = inr (gone_second n g)

      jumps_on : (n : ℕ) → Contains named n ⊎ Contains further n
          → Contains (jumps ++ others) n ⊎ HasGone (each ++ more) (kept ++ also) n
      jumps_on n (inl c) = first n (a.jump n c)
      jumps_on n (inr c) = second n (b.jump n c)

-- in a block
abbrev KeepIn : List ℕ → List ℕ → Block → Type 0
KeepIn each named d = Keep each named (all_labels_in d) (targets_in d)

-- of one statement alone
keep_one : (each named : List ℕ) (c : Statement) → Keep each named (all_labels_of c) (targets_of c)
    → KeepIn each named (statement c no_statements)
keep_one each named c h =
    subst (λ (ns : List ℕ). Keep each named ns (targets_of c ++ [])) (sym (append-nil (all_labels_of c)))
    (subst (λ (ns : List ℕ). Keep each named (all_labels_of c) ns) (sym (append-nil (targets_of c))) h)

-- labels are those alone that a jump names, each once
pub record LabelsSuit (d : Block) : Type 0 where
  pub once : IsWithoutRepeats (all_labels_in d)
  pub named : AllByRecursion (Contains (targets_in d)) (all_labels_in d)

each_named : (ns ms : List ℕ) → ((n : ℕ) → Contains ns n → Contains ms n) → AllByRecursion (Contains ms) ns
each_named [] ms h = tt
each_named (n ∷ ns) ms h = (h n (here n ns), each_named ns ms (λ m c. h m (there n ns m c)))

module _ (width : Width) (p q : Program) (blocks : List (Option Block)) where
  -- each block suits the one of these loops that has its number
  abbrev pub Suit : List SurroundedLoop → Type 0
  Suit ls = (l : SurroundedLoop) (b : Block) → Contains ls l → block_at blocks (next_loop_number l.loop.before) ≡ Some b → SuitsLoop p q l b

  -- ---- the labels of a block itself

  loop_top : (l : SurroundedLoop) (inside : Block) (o : Option Block) → block_at blocks (next_loop_number l.loop.before) ≡ o
      → ((b : Block) → block_at blocks (next_loop_number l.loop.before) ≡ Some b → SuitsLoop p q l b)
      → labels_of (block (instead blocks o (Do l.loop.loop.line l.loop.loop.variable l.loop.loop.first l.loop.loop.last l.loop.loop.step inside))) ≡ []
  loop_top l inside None e h = refl
  loop_top l inside (Some b) e h = ap labels_of (block_of_statements b) ∙ labels_are_none b (h b e).block.labels

  statement_top : (k : ℕ) (around : List SourceLoop) (c : Statement) → Suit (loops_in k around c)
      → labels_of (block (placed_statement blocks k c)) ≡ label_of c
  statement_top k around (Assignment line mark left right) h = refl
  statement_top k around (Where line mark mask left right) h = refl
  statement_top k around (If line arms other) h = refl
  statement_top k around (Do line x first last step body) h =
      let own : SourceLoop = record { line = line; variable = x; first = first; last = last; step = step; body = body } in
      loop_top (record { around = around; loop = record { before = k; loop = own } }) (block (placed_in blocks (next_loop_number k) body))
      (block_at blocks (next_loop_number k)) refl
      (λ b e. h (record { around = around; loop = record { before = k; loop = own } }) b (here _ (loops_in_block (next_loop_number k) (around ++ own ∷ []) body)) e)
  statement_top k around (Label n) h = refl
  statement_top k around (GoTo line n) h = refl
  statement_top k around (Stop line) h = refl
  statement_top k around (Read line is) h = refl
  statement_top k around (Print line is) h = refl
  statement_top k around (Allocate line x es) h = refl
  statement_top k around (Deallocate line x) h = refl

  pub block_top : (k : ℕ) (around : List SourceLoop) (b : Block) → Suit (loops_in_block k around b)
      → labels_of (block (placed_in blocks k b)) ≡ labels_of b
  block_top k around no_statements h = refl
  block_top k around (statement c cs) h =
      labels-append (placed_statement blocks k c) (placed_in blocks (number_after k c) cs)
      ∙ both _ _ _ _
      (statement_top k around c (λ l b i e. h l b (Contains-append_left (loops_in k around c) (loops_in_block (number_after k c) around cs) l i) e))
      (block_top (number_after k c) around cs (λ l b i e. h l b (Contains-append_right (loops_in k around c) (loops_in_block (number_after k c) around cs) l i) e))

  -- ---- all labels

  -- a loop with a block for it, or with what its body becomes
  loop_keeps : (l : SurroundedLoop) (inside : Block) (o : Option Block) → block_at blocks (next_loop_number l.loop.before) ≡ o
      → ((b : Block) → block_at blocks (next_loop_number l.loop.before) ≡ Some b → SuitsLoop p q l b)
      → KeepIn (all_labels_in l.loop.loop.body) (targets_in l.loop.loop.body) inside
      → KeepIn (all_labels_in l.loop.loop.body) (targets_in l.loop.loop.body)
      (block (instead blocks o (Do l.loop.loop.line l.loop.loop.variable l.loop.loop.first l.loop.loop.last l.loop.loop.step inside)))
  loop_keeps l inside None e h g =
      keep_one (all_labels_in l.loop.loop.body) (targets_in l.loop.loop.body)
      (Do l.loop.loop.line l.loop.loop.variable l.loop.loop.first l.loop.loop.last l.loop.loop.step inside) g
  loop_keeps l inside (Some b) e h g =
      let s = h b e in
      let none : Keep (all_labels_in l.loop.loop.body) (targets_in l.loop.loop.body) [] []
      = record {
        some = λ n c. absurd (nowhere n c);
        once = tt;
        jump = λ n c. inr (record { stood = s.loop n c; gone = λ d. nowhere n d });
      } in
      subst (KeepIn (all_labels_in l.loop.loop.body) (targets_in l.loop.loop.body)) (sym (block_of_statements b))
      (subst (λ (ns : List ℕ). Keep (all_labels_in l.loop.loop.body) (targets_in l.loop.loop.body) ns (targets_in b)) (sym s.block.labels)
      (subst (λ (ns : List ℕ). Keep (all_labels_in l.loop.loop.body) (targets_in l.loop.loop.body) [] ns) (sym s.block.targets) none))

  mutual
    statement_keeps : (k : ℕ) (around : List SourceLoop) (c : Statement) → Suit (loops_in k around c) → IsWithoutRepeats (all_labels_of c)
        → KeepIn (all_labels_of c) (targets_of c) (block (placed_statement blocks k c))
    statement_keeps k around (Assignment line mark left right) h o = keep_same [] [] o
    statement_keeps k around (Where line mark mask left right) h o = keep_same [] [] o
    statement_keeps k around (If line arms other) h o =
        let m = arms_keep k around arms (λ l b i e. h l b (Contains-append_left (loops_in_arms k around arms) (loops_in_block (after_arms k arms) around other) l i) e)
        (front_once (all_labels_in_arms arms) (all_labels_in other) o) in
        let n = block_keeps (after_arms k arms) around other (λ l b i e. h l b (Contains-append_right (loops_in_arms k around arms) (loops_in_block (after_arms k arms) around other) l i) e)
        (rest_once (all_labels_in_arms arms) (all_labels_in other) o) in
        keep_one (all_labels_of (If line arms other)) (targets_of (If line arms other))
        (If line (placed_arms blocks k arms) (block (placed_in blocks (after_arms k arms) other)))
        (keep_both (all_labels_in_arms arms) (all_labels_in other) (targets_in_arms arms) (targets_in other) _ _ _ _ o m n)
    statement_keeps k around (Do line x first last step body) h o =
        let own : SourceLoop = record { line = line; variable = x; first = first; last = last; step = step; body = body } in
        loop_keeps (record { around = around; loop = record { before = k; loop = own } }) (block (placed_in blocks (next_loop_number k) body))
        (block_at blocks (next_loop_number k)) refl
        (λ b e. h (record { around = around; loop = record { before = k; loop = own } }) b (here _ (loops_in_block (next_loop_number k) (around ++ own ∷ []) body)) e)
        (block_keeps (next_loop_number k) (around ++ own ∷ []) body (λ l b i e. h l b (there _ (loops_in_block (next_loop_number k) (around ++ own ∷ []) body) l i) e) o)
    statement_keeps k around (Label n) h o = keep_same (n ∷ []) [] o
    statement_keeps k around (GoTo line n) h o = keep_same [] (n ∷ []) o
    statement_keeps k around (Stop line) h o = keep_same [] [] o
    statement_keeps k around (Read line is) h o = keep_same [] [] o
    statement_keeps k around (Print line is) h o = keep_same [] [] o
    statement_keeps k around (Allocate line x es) h o = keep_same [] [] o
    statement_keeps k around (Deallocate line x) h o = keep_same [] [] o

    arms_keep : (k : ℕ) (around : List SourceLoop) (ms : Arms) → Suit (loops_in_arms k around ms) → IsWithoutRepeats (all_labels_in_arms ms)
        → Keep (all_labels_in_arms ms) (targets_in_arms ms) (all_labels_in_arms (placed_arms blocks k ms)) (targets_in_arms (placed_arms blocks k ms))
    arms_keep k around no_arms h o = keep_same [] [] o
    arms_keep k around (arm test body ms) h o =
        keep_both (all_labels_in body) (all_labels_in_arms ms) (targets_in body) (targets_in_arms ms) _ _ _ _ o
        (block_keeps k around body (λ l b i e. h l b (Contains-append_left (loops_in_block k around body) (loops_in_arms (after_block k body) around ms) l i) e)
        (front_once (all_labels_in body) (all_labels_in_arms ms) o))
        (arms_keep (after_block k body) around ms (λ l b i e. h l b (Contains-append_right (loops_in_block k around body) (loops_in_arms (after_block k body) around ms) l i) e)
        (rest_once (all_labels_in body) (all_labels_in_arms ms) o))

    block_keeps : (k : ℕ) (around : List SourceLoop) (b : Block) → Suit (loops_in_block k around b) → IsWithoutRepeats (all_labels_in b)
        → KeepIn (all_labels_in b) (targets_in b) (block (placed_in blocks k b))
    block_keeps k around no_statements h o = keep_same [] [] o
    block_keeps k around (statement c cs) h o =
        let a = statement_keeps k around c (λ l b i e. h l b (Contains-append_left (loops_in k around c) (loops_in_block (number_after k c) around cs) l i) e)
        (front_once (all_labels_of c) (all_labels_in cs) o) in
        let b = block_keeps (number_after k c) around cs (λ l b i e. h l b (Contains-append_right (loops_in k around c) (loops_in_block (number_after k c) around cs) l i) e)
        (rest_once (all_labels_of c) (all_labels_in cs) o) in
        let xs = placed_statement blocks k c in
        let ys = placed_in blocks (number_after k c) cs in
        subst (λ (ns : List ℕ). Keep (all_labels_of c ++ all_labels_in cs) (targets_of c ++ targets_in cs) ns (targets_in (block (xs ++ ys)))) (sym (all_labels-append xs ys))
        (subst (λ (ns : List ℕ). Keep (all_labels_of c ++ all_labels_in cs) (targets_of c ++ targets_in cs) (all_labels_in (block xs) ++ all_labels_in (block ys)) ns) (sym (targets-append xs ys))
        (keep_both (all_labels_of c) (all_labels_in cs) (targets_of c) (targets_in cs) _ _ _ _ o a b))

  -- ---- programs

  pub labels_suit : IsProgram77 (fortran77 width) p → Suit (loops_in_block 0 [] p.body) → LabelsSuit (block (placed_in blocks 0 p.body))
  labels_suit is suit =
      let k = block_keeps 0 [] p.body suit is.labels in
      let d = block (placed_in blocks 0 p.body) in
      record { once = k.once; named = each_named (all_labels_in d) (targets_in d) (λ n c. stays n c (k.jump n (all_at (Contains (targets_in p.body)) (all_labels_in p.body) n is.named (k.some n c)))) }
    where
      stays : (n : ℕ) → Contains (all_labels_in (block (placed_in blocks 0 p.body))) n
          → Contains (targets_in (block (placed_in blocks 0 p.body))) n ⊎ HasGone (all_labels_in p.body) (all_labels_in (block (placed_in blocks 0 p.body))) n
          → Contains (targets_in (block (placed_in blocks 0 p.body))) n
      stays n c (inl j) = j
      stays n c (inr g) = absurd (g.gone c)
