-- What is read of a text is a program of the profile.
use Rattle.std.proofs.Common.{◌≡◌, ◌⊎◌, inl, inr, ℕ, ◌+◌, ◌<◌, ◌≤◌, nat_le, Bool, true, false, ◌||◌, cond, IsTrue, None, List, [], ◌∷◌, ◌++◌, length, filter, refl, sym, ap, subst, ◌∙◌, arith, Contains}
use Rattle.std.specs.Prelude.{map, sum}
use Rattle.std.specs.Option.{IfSome}
use Rattle.std.specs.List.{AllByRecursion, list_any}
use Rattle.std.specs.Str.Lines.{lines}
use Rattle.std.proofs.lemmas.Bool.Decides.{leb_tells}
use Rattle.tree.specs.Limits as limits
use Rattle.tree.specs.Causes.{refusal_at}
use Rattle.tree.specs.Plain as tree
use Rattle.tree.specs.Plain.{Declaration, Program, Statement}
use Rattle.tree.specs.declared.refusals.Cause.{Cause}
use Rattle.tree.specs.declared.refusals.Cause.TheVariants.{Deep90, Structure, TypeClash90, Limit90, BadByte90}
use Rattle.meaning.specs.SymbolicNames.{IsLongName}
use Rattle.meaning.specs.Blocks.{Surroundings, outermost}
use Rattle.meaning.specs.Labels.{IsLine, IsWithoutRepeats, all_labels_in, targets_in}
use Rattle.meaning.specs.Typed.{declared, dimensions}
use Rattle.meaning.specs.Extents.{array_elements}
use Rattle.meaning.specs.Profile90.{IsDeclaration, IsProgram90}
use Rattle.f90_grammar.specs.FreeForm.{LinePiece, written_piece, IsPiece}
use Rattle.f90_grammar.specs.LineCauses.{LineState, is_in_constant, LeadTo, is_bad_byte90}
use Rattle.f90_grammar.specs.LineCauses.LeadTo.{nothing}
use Rattle.f90_grammar.specs.LineCauses.HasLineCause.{HoldsBadByte}
use Rattle.f90_grammar.specs.Words.{Word90}
use Rattle.f90_grammar.specs.Forms as forms
use Rattle.f90_grammar.specs.Forms.{Form90, IsWritten90}
use Rattle.f90_grammar.specs.Blocks.{Placed, AreBlock90}
use Rattle.f90_grammar.specs.Reading.{is_target_in, function_by}
use Rattle.f90_grammar.specs.Programs.{IsProgramOf}
use Rattle.f90_grammar.specs.Contents.{SuitsCallsIn, expressions_of, stored_variables_of, is_deep, has_deep_list, has_deep_expression}
use Rattle.f90_grammar.specs.Order.{Place90, IsPlaceIn, IsInOrder, is_nothing90, is_executable90, name_in, title_in_text, Opened, opened_by}
use Rattle.f90_grammar.specs.Declared.{declarations_in, declarations_of, functions_in}
use Rattle.f90_grammar.specs.Suited.{Suits}
use Rattle.f90_grammar.specs.Surroundings.{StandsIn, line_of, SuitsSurroundings, IsMisplaced}
use Rattle.f90_grammar.specs.Surroundings.IsMisplaced.{HasWrongLabel, HasWrongSurroundings}
use Rattle.f90_grammar.specs.Bounds.{HasBounds}
use Rattle.f90_grammar.specs.Bounds.PassesLimit.{OfBlocks, OfBounds, OfElements}
use Rattle.f90_grammar.specs.Refusals.{HoldsAt, Conforms90}
use Rattle.f90_grammar.specs.Refusals.HoldsIn.{AtPlace, IsWrongInBlocks}
use Rattle.f90_grammar.specs.Refusals.HasCause90.{InLines, InStatements}
use Rattle.f90_laws.proofs.readings.Lists.{here, there, cases_of, left_false, right_false}
use Rattle.f90_laws.proofs.readings.Decisions.{affirmed, at_most}
use Rattle.f90_laws.proofs.readings.FormFacts.{suits, each_shallow, IsFit, good_form}
use Rattle.f90_laws.proofs.readings.Sound.{is_block}
use Rattle.f90_laws.proofs.readings.Bodies.{IsGood, sound_block}
use Rattle.f90_laws.proofs.readings.Counts.{OpensWithin, HasInnerForm, HasInner, label_values, flat_labels, blocks_within, count, labels_are}
use Rattle.f90_laws.proofs.readings.Targets.{named_in, jumps_in}
use Rattle.f90_laws.proofs.readings.FreeLines.{lines-le, AreGoodStatements, good_statements, IsFormed, formed}
use Rattle.f90_laws.proofs.readings.WordFacts.{IsWell, form_well, statement_words}
use Rattle.f90_laws.proofs.blocks.Endings.{executables, idle_opens}
use Rattle.f90_laws.proofs.readings.Tables.{alike_in, bounds_fit, form_declares, all_declare, are_declarations}
use Rattle.f90_laws.proofs.readings.PlaceFacts.{at_place, each_place, opens_within, labels_once}
use Rattle.f90_laws.proofs.readings.SurroundingFacts.{suits_surroundings, surroundings_too}

-- ---- lists

zipped : {A : Type 0} (P Q R : A → Type 0) → ((x : A) → P x → Q x → R x) → (xs : List A) → AllByRecursion P xs → AllByRecursion Q xs → AllByRecursion R xs
zipped P Q R f [] h g = tt
zipped P Q R f (x ∷ xs) h g = (f x h.0 g.0, zipped P Q R f xs h.1 g.1)

mapped : {A : Type 0} (P Q : A → Type 0) → ((x : A) → P x → Q x) → (xs : List A) → AllByRecursion P xs → AllByRecursion Q xs
mapped P Q f [] h = tt
mapped P Q f (x ∷ xs) h = (f x h.0, mapped P Q f xs h.1)

any_left : {A : Type 0} (t : A → Bool) (xs ys : List A) → list_any t (xs ++ ys) ≡ false → list_any t xs ≡ false
any_left t [] ys h = refl
any_left t (x ∷ xs) ys h = by (t x) h (λ k. any_left t xs ys k)
  where
    by : (b : Bool) → (b || list_any t (xs ++ ys)) ≡ false → (list_any t (xs ++ ys) ≡ false → list_any t xs ≡ false) → (b || list_any t xs) ≡ false
    by true h next = cc
    by false h next = next h

any_right : {A : Type 0} (t : A → Bool) (xs ys : List A) → list_any t (xs ++ ys) ≡ false → list_any t ys ≡ false
any_right t [] ys h = h
any_right t (x ∷ xs) ys h = any_right t xs ys (right_false (t x) (list_any t (xs ++ ys)) h)

not_true : (b : Bool) → (IsTrue b → ⊥) → b ≡ false
not_true true h = absurd (h refl)
not_true false h = refl

-- ---- the statement in a logical IF

inner : (f : Form90) (ws : List Word90) → IsWritten90 f ws → HasInnerForm f
inner (forms.Test p f) ws w = w.4
inner (forms.Program x) ws w = tt
inner forms.ImplicitNone ws w = tt
inner (forms.Declare k a es) ws w = tt
inner (forms.Assign l r) ws w = tt
inner (forms.Where m l r) ws w = tt
inner (forms.If p) ws w = tt
inner (forms.ElseIf p) ws w = tt
inner forms.Else ws w = tt
inner forms.EndIf ws w = tt
inner (forms.Do x a b c) ws w = tt
inner forms.EndDo ws w = tt
inner (forms.Continue l) ws w = tt
inner (forms.Go l) ws w = tt
inner forms.Stop ws w = tt
inner (forms.Read is) ws w = tt
inner forms.ReadNothing ws w = tt
inner (forms.Print is) ws w = tt
inner forms.PrintNothing ws w = tt
inner (forms.Allocate x es) ws w = tt
inner (forms.Deallocate x) ws w = tt
inner forms.End ws w = tt
inner (forms.EndProgram x) ws w = tt

-- ---- labels

unfiltered : (t : ℕ → Bool) (ns : List ℕ) (n : ℕ) → Contains (filter t ns) n → Contains ns n
unfiltered t [] n c = c
unfiltered t (m ∷ ms) n c = by (t m) c (λ k. unfiltered t ms n k)
  where
    first : (m ≡ n) ⊎ Contains (filter t ms) n → (Contains (filter t ms) n → Contains ms n) → Contains (m ∷ ms) n
    first (inl e) next = subst (Contains (m ∷ ms)) e (here m ms)
    first (inr k) next = there m ms n (next k)

    by : (b : Bool) → Contains (cond b (m ∷ filter t ms) (filter t ms)) n → (Contains (filter t ms) n → Contains ms n) → Contains (m ∷ ms) n
    by true k next = first (cases_of m (filter t ms) n k) next
    by false k next = there m ms n (next k)

sub_repeats : (t : ℕ → Bool) (ns : List ℕ) → IsWithoutRepeats ns → IsWithoutRepeats (filter t ns)
sub_repeats t [] h = tt
sub_repeats t (n ∷ ns) h = by (t n) (sub_repeats t ns h.1)
  where
    by : (b : Bool) → IsWithoutRepeats (filter t ns) → IsWithoutRepeats (cond b (n ∷ filter t ns) (filter t ns))
    by true next = (λ c. h.0 (unfiltered t ns n c), next)
    by false next = next

each_target : (t : ℕ → Bool) (P : ℕ → Type 0) → ((n : ℕ) → t n ≡ true → P n) → (ns : List ℕ) → AllByRecursion P (filter t ns)
each_target t P f [] = tt
each_target t P f (n ∷ ns) = by (t n) refl (each_target t P f ns)
  where
    by : (b : Bool) → t n ≡ b → AllByRecursion P (filter t ns) → AllByRecursion P (cond b (n ∷ filter t ns) (filter t ns))
    by true e next = (f n e, next)
    by false e next = next

-- ---- the executable statements

all_kept : (P : Placed → Type 0) (ps : List Placed) → AllByRecursion P ps → AllByRecursion P (executables ps)
all_kept P [] h = tt
all_kept P (p ∷ ps) h = by (is_executable90 p.form) (all_kept P ps h.1)
  where
    by : (b : Bool) → AllByRecursion P (executables ps) → AllByRecursion P (cond b (p ∷ executables ps) (executables ps))
    by true next = (h.0, next)
    by false next = next

opens_kept : (n : ℕ) (os : List Opened) (ps : List Placed) → OpensWithin n os ps → OpensWithin n os (executables ps)
opens_kept n os [] h = tt
opens_kept n os (p ∷ ps) h = by (is_executable90 p.form) refl (opens_kept n (opened_by p.form os) ps h.1)
  where
    by : (b : Bool) → is_executable90 p.form ≡ b → OpensWithin n (opened_by p.form os) (executables ps) → OpensWithin n os (cond b (p ∷ executables ps) (executables ps))
    by true e next = (h.0, next)
    by false e next = subst (λ o. OpensWithin n o (executables ps)) (idle_opens p.form os e) next

unlabelled : (f : Form90) → is_executable90 f ≡ false → label_values f ≡ []
unlabelled (forms.Program x) e = refl
unlabelled forms.ImplicitNone e = refl
unlabelled (forms.Declare k a es) e = refl
unlabelled forms.End e = refl
unlabelled (forms.EndProgram x) e = refl
unlabelled f e = absurd cc

labels_kept : (ps : List Placed) → flat_labels (executables ps) ≡ flat_labels ps
labels_kept [] = refl
labels_kept (p ∷ ps) = by (is_executable90 p.form) refl (labels_kept ps)
  where
    by : (b : Bool) → is_executable90 p.form ≡ b → flat_labels (executables ps) ≡ flat_labels ps → flat_labels (cond b (p ∷ executables ps) (executables ps)) ≡ flat_labels (p ∷ ps)
    by true e next = ap (λ ns. label_values p.form ++ ns) next
    by false e next = next ∙ sym (ap (λ ns. ns ++ flat_labels ps) (unlabelled p.form e))

fewer_kept : (ps : List Placed) → length (executables ps) ≤ length ps
fewer_kept [] = omega arith
fewer_kept (p ∷ ps) = by (is_executable90 p.form) (fewer_kept ps)
  where
    by : (b : Bool) → length (executables ps) ≤ length ps → length (cond b (p ∷ executables ps) (executables ps)) ≤ length (p ∷ ps)
    by true next = omega arith
    by false next = omega arith

-- ---- the first statement and the last one

titled_well : (ps : List Placed) → AllByRecursion (λ (p : Placed). IsWell p.form) ps → IfSome (title_in_text ps) IsLongName
titled_well [] h = tt
titled_well (p ∷ ps) h = by p.form h.0
  where
    by : (f : Form90) → IsWell f → IfSome (name_in f) IsLongName
    by (forms.Program x) w = w
    by f w = tt

record HasLast (ps : List Placed) : Type 0 where
  front : List Placed
  last : Placed
  same : ps ≡ front ++ last ∷ []

has_last : (p : Placed) (ps : List Placed) → HasLast (p ∷ ps)
has_last p [] = record { front = []; last = p; same = refl }
has_last p (q ∷ ps) = let k = has_last q ps in record { front = p ∷ k.front; last = k.last; same = ap (λ xs. p ∷ xs) k.same }

some_last : (ps : List Placed) → is_nothing90 ps ≡ false → HasLast ps
some_last [] h = absurd cc
some_last (p ∷ ps) h = has_last p ps

above : (m n : ℕ) → (n ≤ m → ⊥) → m < n
above m n h = by (leb_tells n m)
  where
    by : ((nat_le n m ≡ true) × (n ≤ m)) ⊎ ((nat_le n m ≡ false) × (m < n)) → m < n
    by (inl t) = absurd (h t.1)
    by (inr t) = t.1

-- ---- the program

module _ (text : List ℕ) (q : Program) (short : length text ≤ limits.deck_bytes90) (reads : Conforms90 text q) where
  abbrev ps : List Placed
  ps = reads.statements

  abbrev ds : List Declaration
  ds = declarations_of ps

  abbrev is : IsProgramOf ps q
  is = reads.is_program

  abbrev is_target : ℕ → Bool
  is_target = is_target_in q.body

  abbrev behind : ℕ
  behind = 1 + length (lines text)

  no_bad : (front back : List (List ℕ)) (p : LinePiece) (s : LineState) → lines text ≡ front ++ written_piece p ∷ back → LeadTo front s
      → IsPiece (is_in_constant s) p → IsTrue (list_any is_bad_byte90 p.chars) → ⊥
  no_bad front back p s e l i b =
      let r = refusal_at BadByte90 (length front + 1) in reads.unrefused r (InLines r (HoldsBadByte front back p s e l i b))

  good : AreGoodStatements 1 behind reads.of_text.statements
  good = good_statements (lines text) no_bad 1 (lines text) reads.of_text.statements [] reads.of_text.of_lines refl nothing

  all_formed : AllByRecursion (IsFormed 1 behind) ps × (length ps ≡ length reads.of_text.statements)
  all_formed = formed 1 behind None reads.of_text.statements ps tt good.each reads.of_text.have_forms

  unfound : (c : Cause) (p : Place90) → IsPlaceIn ps p → HoldsAt c ps p → ⊥
  unfound c p i h = reads.unrefused (refusal_at c p.here.line) (InStatements ps c p.here.line reads.of_text (AtPlace c p i h))

  abbrev ordered : IsInOrder ps
  ordered = is.in_order

  misplaced : (line : ℕ) → IsMisplaced ps line → ⊥
  misplaced line m = reads.unrefused (refusal_at Structure line) (InStatements ps Structure line reads.of_text (IsWrongInBlocks line ordered m))

  alike : (x : List ℕ) → declared ds x ≡ declared q.declarations x
  alike = alike_in ps q is

  abbrev body : List Placed
  body = executables ps

  abbrev block : AreBlock90 (function_by ds) is_target body q.body
  block = is.body

  suit : (c : Statement) (w : Surroundings) → StandsIn q.body outermost c w → SuitsSurroundings q.declarations c w
  suit c w s =
      surroundings_too ds q.declarations alike c w (affirmed (suits_surroundings ds c w) (λ n. misplaced (line_of c) (HasWrongSurroundings q.body c w is.body s n)))

  positive : (n : ℕ) → is_target n ≡ true → 0 < n
  positive n t = let j = jumps_in n q.body outermost (named_in n q.body t) in (suit (tree.GoTo j.line n) j.around j.stands).0

  zero_free : is_target 0 ≡ false
  zero_free = not_true (is_target 0) (λ t. let l : 0 < 0 = positive 0 t in omega arith)

  -- ---- each statement

  abbrev Well : Placed → Type 0
  Well p = IsWell p.form

  wells : AllByRecursion Well ps
  wells = mapped (IsFormed 1 behind) Well (λ p f. form_well p.form f.words f.written (statement_words f.chars f.words f.has_words f.plain)) ps all_formed.0

  record IsKept (p : Placed) : Type 0 where
    formed : IsFormed 1 behind p
    well : IsWell p.form
    calls : SuitsCallsIn (functions_in ps) p.form
    kinds : Suits ds p.form
    shallow : has_deep_expression p.form ≡ false
    bounds : AllByRecursion HasBounds (declarations_in p.form)

  kept : AllByRecursion IsKept ps
  kept =
      let kinds = each_place (λ (p : Placed). Suits ds p.form) ps (λ pl i. affirmed (suits ds pl.here.form) (λ n. unfound TypeClash90 pl i n)) in
      let shallow = each_place (λ (p : Placed). has_deep_expression p.form ≡ false) ps (λ pl i. not_true (has_deep_expression pl.here.form) (λ t. unfound Deep90 pl i t)) in
      let bounds = each_place (λ (p : Placed). AllByRecursion HasBounds (declarations_in p.form)) ps (λ pl i. affirmed (bounds_fit (declarations_in pl.here.form)) (λ n. unfound Limit90 pl i (OfBounds n))) in
      let both = λ (P Q : Placed → Type 0) (a : AllByRecursion P ps) (b : AllByRecursion Q ps). zipped P Q (λ p. P p × Q p) (λ p x y. (x, y)) ps a b in
      let first = both (IsFormed 1 behind) Well all_formed.0 wells in
      let second = both (λ (p : Placed). SuitsCallsIn (functions_in ps) p.form) (λ (p : Placed). Suits ds p.form) reads.calls kinds in
      let third = both (λ (p : Placed). has_deep_expression p.form ≡ false) (λ (p : Placed). AllByRecursion HasBounds (declarations_in p.form)) shallow bounds in
      zipped (λ (p : Placed). IsFormed 1 behind p × Well p)
      (λ (p : Placed). (SuitsCallsIn (functions_in ps) p.form × Suits ds p.form) × ((has_deep_expression p.form ≡ false) × AllByRecursion HasBounds (declarations_in p.form)))
      IsKept
      (λ p a b. record { formed = a.0; well = a.1; calls = b.0.0; kinds = b.0.1; shallow = b.1.0; bounds = b.1.1 })
      ps first
      (zipped (λ (p : Placed). SuitsCallsIn (functions_in ps) p.form × Suits ds p.form) (λ (p : Placed). (has_deep_expression p.form ≡ false) × AllByRecursion HasBounds (declarations_in p.form))
      (λ (p : Placed). (SuitsCallsIn (functions_in ps) p.form × Suits ds p.form) × ((has_deep_expression p.form ≡ false) × AllByRecursion HasBounds (declarations_in p.form)))
      (λ p x y. (x, y)) ps second third)

  line_good : (p : Placed) → IsFormed 1 behind p → IsLine p.line
  line_good p f = (f.low, omega (arith, f.high, lines-le text, short))

  fit : (p : Placed) → IsKept p → IsFit ds q.declarations alike is_target p.form
  fit p k =
      let f = p.form in
      let rest = right_false (has_deep_list f) (list_any is_deep (expressions_of f ++ stored_variables_of f)) k.shallow in
      record {
        calls = k.calls;
        kinds = k.kinds;
        lists = left_false (has_deep_list f) (list_any is_deep (expressions_of f ++ stored_variables_of f)) k.shallow;
        expressions = each_shallow (expressions_of f) (any_left is_deep (expressions_of f) (stored_variables_of f) rest);
        variables = each_shallow (stored_variables_of f) (any_right is_deep (expressions_of f) (stored_variables_of f) rest);
        well = k.well;
      }

  abbrev Good : Placed → Type 0
  Good p = IsGood (function_by ds) is_target q.declarations p

  goods : AllByRecursion Good ps
  goods = mapped IsKept Good
      (λ p k. record { line = line_good p k.formed; mark = k.formed.mark; form = good_form ds q.declarations alike is_target p.form k.formed.words k.formed.written (fit p k) positive }) ps kept

  inners : AllByRecursion HasInner ps
  inners = mapped (IsFormed 1 behind) HasInner (λ p f. inner p.form f.words f.written) ps all_formed.0

  -- ---- those of the body

  in_body : (P : Placed → Type 0) → AllByRecursion P ps → AllByRecursion P body
  in_body P h = all_kept P ps h

  body_opens : OpensWithin limits.block_depth90 [] body
  body_opens = opens_kept limits.block_depth90 [] ps (opens_within ps (λ pl i t. unfound Limit90 pl i (OfBlocks t)))

  body_labels : IsWithoutRepeats (flat_labels body)
  body_labels = subst IsWithoutRepeats (sym (labels_kept ps)) (labels_once ps (λ pl i t. misplaced pl.here.line (HasWrongLabel pl i t)))

  labels_same : all_labels_in q.body ≡ filter is_target (flat_labels body)
  labels_same = labels_are (function_by ds) is_target zero_free body q.body block (in_body HasInner inners)

  -- ---- declarations

  each_declared : AllByRecursion IsDeclaration ds
  each_declared = all_declare ps (mapped IsKept (λ (p : Placed). AllByRecursion IsDeclaration (declarations_in p.form)) (λ p k. form_declares p.form k.formed.words k.formed.written k.well k.bounds) ps kept)

  abbrev size : List Declaration → ℕ
  size xs = sum (map (λ (d : Declaration). array_elements (dimensions d.extent)) xs)

  ending : HasLast ps
  ending = some_last ps ordered.some

  few_elements : size ds ≤ limits.most_array_elements
  few_elements = affirmed (at_most (size ds) limits.most_array_elements)
      (λ n. unfound Limit90 (at_place ending.front ending.last []) ending.same (OfElements (above limits.most_array_elements (size (declarations_of (ending.front ++ ending.last ∷ [])))
      (λ l. n (subst (λ xs. size (declarations_of xs) ≤ limits.most_array_elements) (sym ending.same) l)))))

  pub read_program : IsProgram90 q
  read_program = record {
    name = subst (λ o. IfSome o IsLongName) (sym is.title) (titled_well ps wells);
    declarations = are_declarations ps q is each_declared few_elements;
    statements = is_block q.declarations q.body outermost (sound_block (function_by ds) is_target q.declarations body q.body block (in_body Good goods)) suit;
    blocks = omega (arith, blocks_within (function_by ds) is_target limits.block_depth90 body q.body [] block (in_body HasInner inners) (omega arith) body_opens);
    labels = subst IsWithoutRepeats (sym labels_same) (sub_repeats is_target (flat_labels body) body_labels);
    named = subst (AllByRecursion (Contains (targets_in q.body))) (sym labels_same) (each_target is_target (Contains (targets_in q.body)) (λ n t. named_in n q.body t) (flat_labels body));
    few = omega (arith, count (function_by ds) is_target body q.body block (in_body HasInner inners), fewer_kept ps, all_formed.1, good.few, lines-le text, short);
  }
