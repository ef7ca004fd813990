-- A statement leads on where reads of it are copied right before it, under its guard.
use Rattle.std.proofs.Common.{◌≡◌, ◌⊎◌, inl, inr, refl, sym, ap, ◌∙◌, subst, ℕ, suc, ◌+◌, ◌≤◌, ◌<◌, ℤ, Bool, true, false, cond, ◌&&◌, List, [], ◌∷◌, map, length, Result, Ok, Option, Some, None, arith}
use Rattle.std.specs.List.{AllByRecursion}
use Rattle.std.specs.Str.{bytes_eq}
use Rattle.std.specs.Ordering.{int_eq}
use Rattle.std.specs.Cmp.Lexicographic.{pointwise}
use Rattle.std.proofs.lemmas.List.{map-append}
use Rattle.tree.specs.Operators.{as_truth}
use Rattle.tree.specs.Plain.{Assignment, Block, Expression, If, Reference, arm, no_arms, no_statements, statement}
use Rattle.tree.specs.Steps.{◌>>=◌}
use Rattle.tree.specs.declared.ops.Fault.{Fault}
use Rattle.tree.specs.declared.ops.Value.{Value}
use Rattle.tree.specs.declared.ops.Value.TheVariants.{Int}
use Rattle.meaning.proofs.Exchanges.{same_cell-refl}
use Rattle.meaning.specs.Dialect.{Dialect}
use Rattle.meaning.specs.Reads.{names_in, names_in_subscripts}
use Rattle.meaning.specs.Run.{State, Going, counts_step, does, does_all, evaluates, while_going}
use Rattle.meaning.specs.Store.{Cell, Store, cell_at, put, same_cell, cell_in}
use Rattle.meaning.specs.Value.{cell_named, is_in_range, subscript_values, truth_of, value_of}
use Rattle.nest.specs.Blocks.{block_of_parts, guarded_statement}
use Rattle.nest.specs.Plain.{Guarded, Loop, Run, parts}
use Rattle.nest_order.proofs.orders.Lists.{In-left, In-right, In-append}
use Rattle.nest_order.proofs.runs.Alike.{Alike, value_alike}
use Rattle.nest_order.proofs.runs.Results.{each_of, ok_same}
use Rattle.nest_order.specs.orders.Lists.{In}
use Rattle.nest_order.specs.runs.Guarded.{names_of, names_of_guard}
use Rattle.nest_steps.proofs.Acts.{Lands, Leads-assignment, Leads-chooses}
use Rattle.nest_steps.proofs.Assigning.{assigns_at}
use Rattle.nest_steps.proofs.Mapped.{does_joined}
use Rattle.nest_steps.proofs.Rounds.{hold_put}
use Rattle.nest_steps.specs.Leading.{Led, Leads}
use Rattle.nest_steps.specs.Rounds.{InLoops}
use Rattle.nest_steps.specs.Statements.{cell_of}
use Rattle.pass_laws.specs.prepared_nests.Statements.{assignment}
use Rattle.rewrite.proofs.Replacing.{bytes_eq-false}
use Rattle.rewrite.proofs.Values.{cell_in-named, joined, parted}
use Rattle.rewrite.specs.Following.{IsSound, sequential}
use Rattle.node_splitting.specs.Counts.{first_in_left, first_in_right}
use Rattle.node_splitting.specs.Reads.{read_as_expression, but_whole, read_copied, copies_of, reads_in_left, reads_in_right, reads_in_statement, split_statement, with_copies}
use Rattle.prepared_passes.proofs.SplitNests.Reading.{read_names, read_names_in}
use Rattle.prepared_passes.proofs.SplitNests.Values.{AreCopied, HasValue, IsSame, both_parts, first_copies, reads_have_values, second_copies, split_subscript_values, split_value, subscript_reads_have_values}

-- ---- a statement under a guard, step by step

module _ (bits : ℕ) where
  abbrev lang : Dialect
  lang = sequential bits

  abbrev pub IsTaken : Option Expression → Store → Type 0
  IsTaken None s = Unit {0}
  IsTaken (Some t) s = truth_of lang t s ≡ Ok true

  abbrev pub IsPassed : Option Expression → Store → Type 0
  IsPassed None s = ⊥
  IsPassed (Some t) s = truth_of lang t s ≡ Ok false

  not_both : (o : Option Expression) (s : Store) → IsTaken o s → IsPassed o s → ⊥
  not_both None s h k = k
  not_both (Some t) s h k = let bad : ◌≡◌ {A = Result Bool Fault} (Ok true) (Ok false) = sym h ∙ k in cc

  taken_at : (line : ℕ) (t : Expression) (b : Block) (s : State) → s.way ≡ Going → truth_of lang t s.store ≡ Ok true
      → does lang None (If line (arm t b no_arms) no_statements) s ≡ does_all lang None b (record s { steps = s.steps + 1; way = Going })
  unfolding while_going evaluates counts_step
  taken_at line t b s w f = rw (w, f) refl

  passed_at : (line : ℕ) (t : Expression) (b : Block) (s : State) → s.way ≡ Going → truth_of lang t s.store ≡ Ok false
      → does lang None (If line (arm t b no_arms) no_statements) s ≡ record s { steps = s.steps + 1; way = Going }
  unfolding while_going evaluates counts_step
  passed_at line t b s w f = rw (w, f) refl

  -- what a statement comes to
  pub record ComesTo (g : Guarded) (s : State) (t : Store) : Type 0 where
    pub steps : ℕ
    pub is : does lang None (guarded_statement g) s ≡ record s { store = t; steps = steps; way = Going }

  pub comes_to : (g : Guarded) (s : State) (v : Value) (c : Cell) → s.way ≡ Going → IsTaken g.guard s.store → value_of lang g.right s.store ≡ Ok v
      → cell_named lang g.left s.store ≡ Ok c → is_in_range bits v ≡ true → ComesTo g s (put c v s.store)
  comes_to g s v c w taken f h r = by g.guard taken
    where
      Comes : Option Expression → Type 0
      Comes o = ComesTo (record g { guard = o }) s (put c v s.store)

      by : (o : Option Expression) → IsTaken o s.store → Comes o
      by None k = record { steps = s.steps + 1 + 1; is = assigns_at bits g.line None g.left g.right s c v w f h r }
      by (Some t) k = record {
        steps = s.steps + 1 + 1 + 1;
        is =
            taken_at g.line t (statement (Assignment g.line None g.left g.right) no_statements) s w k
            ∙ assigns_at bits g.line None g.left g.right (record s { steps = s.steps + 1; way = Going }) c v refl f h r;
      }

  pub comes_to_same : (g : Guarded) (s : State) → s.way ≡ Going → IsPassed g.guard s.store → ComesTo g s s.store
  comes_to_same g s w passed = by g.guard passed
    where
      by : (o : Option Expression) → IsPassed o s.store → ComesTo (record g { guard = o }) s s.store
      by None k = absurd k
      by (Some t) k = record { steps = s.steps + 1; is = passed_at g.line t (statement (Assignment g.line None g.left g.right) no_statements) s w k }

  -- ---- what a statement that meets no fault has evaluated

  pub record Evaluates (g : Guarded) (s : Store) : Type 0 where
    pub value : Value
    pub value_is : value_of lang g.right s ≡ Ok value
    pub cell : Cell
    pub cell_is : cell_named lang g.left s ≡ Ok cell

  abbrev pub Chosen : Option Expression → Guarded → Store → Type 0
  Chosen o g s = (IsTaken o s × Evaluates g s) ⊎ IsPassed o s

  module _ (g : Guarded) (here : Store) where
    abbrev Here : Store → Store → Type 0
    Here p u = (p ≡ here) × (u ≡ here)

    lands : (o : Option Expression) (p u : Store) → Here p u → IsTaken o here → (v : Value) → value_of lang g.right p ≡ Ok v → (c : Cell) → cell_named lang g.left p ≡ Ok c
        → Lands bits (λ p u. Chosen o g here) p u g.left c v
    lands o p u h k v f c i = record {
      cell = c;
      named = subst (λ (q : Store). cell_named lang g.left q ≡ Ok c) (h.0 ∙ sym h.1) i;
      put = λ range. inl (
        k,
        record {
          value = v;
          value_is = subst (λ (q : Store). value_of lang g.right q ≡ Ok v) h.0 f;
          cell = c;
          cell_is = subst (λ (q : Store). cell_named lang g.left q ≡ Ok c) h.0 i;
        },
      );
    }

    same : (p u : Store) → Here p u → (v : Value) → value_of lang g.right p ≡ Ok v → value_of lang g.right u ≡ Ok v
    same p u h v f = subst (λ (q : Store). value_of lang g.right q ≡ Ok v) (h.0 ∙ sym h.1) f

    chosen_leads : (o : Option Expression) → Leads Here (λ p u. Chosen o g here) (does lang None (guarded_statement (record g { guard = o }))) (does lang None (guarded_statement (record g { guard = o })))
    chosen_leads None = Leads-assignment bits Here (λ p u. Chosen None g here) g.line g.line None None g.left g.left g.right g.right same (λ p u h v f c i. lands None p u h tt v f c i)
    chosen_leads (Some t) =
        Leads-chooses bits Here (λ p u. Chosen (Some t) g here) g.line g.line t t (statement (Assignment g.line None g.left g.right) no_statements)
        (statement (Assignment g.line None g.left g.right) no_statements)
        (λ p u h x f. subst (λ (q : Store). truth_of lang t q ≡ Ok x) (h.0 ∙ sym h.1) f)
        (record { at = λ s u n i a e. inner.at s u n i a e })
        (λ p u h f. inr (subst (λ (q : Store). truth_of lang t q ≡ Ok false) h.0 f))
      where
        Taken : Store → Store → Type 0
        Taken p u = Here p u × (truth_of lang t p ≡ Ok true)

        inner : Leads Taken (λ p u. Chosen (Some t) g here) (does lang None (Assignment g.line None g.left g.right)) (does lang None (Assignment g.line None g.left g.right))
        inner =
            Leads-assignment bits Taken (λ p u. Chosen (Some t) g here) g.line g.line None None g.left g.left g.right g.right (λ p u h v f. same p u h.0 v f)
            (λ p u h v f c i. lands (Some t) p u h.0 (subst (λ (q : Store). truth_of lang t q ≡ Ok true) h.0.0 h.1) v f c i)

  pub chosen : (g : Guarded) (s : State) → s.way ≡ Going → IsSound (does lang None (guarded_statement g) s).way → Chosen g.guard g s.store
  chosen g s w sound = ((chosen_leads g s.store g.guard).at s s.store s.steps w (refl, refl) sound).stores

-- ---- two stores beside each other

-- Made: names of copies, which only the second run has; Known: declared names; B: the bounds that names have all the time
module _ (bits : ℕ) (Made Known : List ℕ → Type 0) (symbols : List (List ℕ)) (value : List ℕ → ℤ) (B : List ℕ → Option (List (ℤ × ℤ))) where
  pub record AreBeside (s u : Store) : Type 0 where
    pub first : (x : List ℕ) → s.bounds x ≡ B x
    pub second : (x : List ℕ) → u.bounds x ≡ B x
    pub held : (c : Cell) → ¬ Made c.name → u.held c ≡ s.held c
    pub ranged : (c : Cell) → Known c.name → is_in_range bits (s.held c) ≡ true
    pub fixed : (z : List ℕ) → In z symbols → s.held (cell_of z) ≡ Int (value z)

  pub put_both : (c : Cell) (v : Value) (s u : Store) → is_in_range bits v ≡ true → ¬ In c.name symbols → AreBeside s u → AreBeside (put c v s) (put c v u)
  put_both c v s u r free a = record {
    first = a.first;
    second = a.second;
    held = λ d n. ap (λ w. cond (same_cell c d) v w) (a.held d n);
    ranged = λ d k. by (same_cell c d) (s.held d) (a.ranged d k);
    fixed = λ z i. ap (λ b. cond (b && pointwise int_eq c.subscripts []) v (s.held (cell_of z))) (bytes_eq-false c.name z (λ e. free (subst (λ y. In y symbols) (sym e) i))) ∙ a.fixed z i;
  }
    where
      by : (b : Bool) (w : Value) → is_in_range bits w ≡ true → is_in_range bits (cond b v w) ≡ true
      by true w h = r
      by false w h = h

  pub put_copy : (c : Cell) (v : Value) (s u : Store) → Made c.name → AreBeside s u → AreBeside s (put c v u)
  put_copy c v s u made a = record {
    first = a.first;
    second = a.second;
    held = λ d n. ap (λ b. cond (b && pointwise int_eq c.subscripts d.subscripts) v (u.held d)) (bytes_eq-false c.name d.name (λ e. n (subst Made e made))) ∙ a.held d n;
    ranged = a.ranged;
    fixed = a.fixed;
  }

  abbrev pub Clear : List (List ℕ) → Type 0
  Clear xs = (x : List ℕ) → In x xs → ¬ Made x

  same_name : (s u : Store) → AreBeside s u → (x : List ℕ) → ¬ Made x → IsSame bits s u x
  same_name s u a x n = record { bounds = a.first x ∙ sym (a.second x); held = λ c e. sym (a.held c (λ m. n (subst Made e m))) }

  all_same : (s u : Store) → AreBeside s u → (xs : List (List ℕ)) → Clear xs → AllByRecursion (IsSame bits s u) xs
  all_same s u a xs h = each_of (IsSame bits s u) xs (λ x i. same_name s u a x (h x i))

  all_alike : (s u : Store) → AreBeside s u → (xs : List (List ℕ)) → Clear xs → AllByRecursion (Alike bits s u) xs
  all_alike s u a xs h = each_of (Alike bits s u) xs (λ x i. (
    a.first x ∙ sym (a.second x),
    λ is c e. sym (a.held c (subst (λ y. ¬ Made y) (sym (cell_in-named (s.bounds x) x is c e)) (h x i))),
  ))

  pub same_value : (e : Expression) → Clear (names_in e) → (s u : Store) → AreBeside s u → value_of (sequential bits) e s ≡ value_of (sequential bits) e u
  same_value e h s u a = value_alike bits s u e (all_alike s u a (names_in e) h)

  same_truth : (e : Expression) → Clear (names_in e) → (s u : Store) → AreBeside s u → truth_of (sequential bits) e s ≡ truth_of (sequential bits) e u
  same_truth e h s u a = ap (λ (r : Result Value Fault). do v ← r; as_truth v) (same_value e h s u a)

  -- ---- in loops

  module _ (counters : List ℕ → Bool) (ls : List Loop) (is : List ℕ) where
    abbrev pub At : ℕ → Store → Store → Type 0
    At k = InLoops bits counters (λ is k. AreBeside) ls is k

    -- ---- the statement, and what its copies are

    module _ (k line : ℕ) (loops : List (List ℕ)) (may : ℕ → Bool) (g : Guarded) (element : ℕ → Reference) (cell : ℕ → Cell) (from : ℕ) where
      abbrev reads : List Reference
      reads = reads_in_statement loops may g

      -- what is asked
      pub record IsReady : Type 0 where
        pub clear : Clear (names_of (assignment g))
        pub known : (x : List ℕ) → In x (names_of (assignment g)) → Known x
        pub free : ¬ In g.left.name symbols
        pub own : AllByRecursion (λ (o : Loop). bytes_eq g.left.name o.variable ≡ false) ls
        pub made : (j : ℕ) → from ≤ j → j < from + length (reads_in_statement loops may g) → Made (cell j).name
        pub other : (j : ℕ) → AllByRecursion (λ (o : Loop). bytes_eq (cell j).name o.variable ≡ false) ls
        pub once : (i j : ℕ) → i < from + length (reads_in_statement loops may g) → j < from + length (reads_in_statement loops may g) → (cell i).name ≡ (cell j).name → i ≡ j
        pub room : (s u : Store) → InLoops bits counters (λ is k. AreBeside) ls is k s u → (j : ℕ) → from ≤ j → j < from + length (reads_in_statement loops may g)
            → cell_named (sequential bits) (element j) u ≡ Ok (cell j)

      module _ (q : IsReady) where
        abbrev to : ℕ
        to = from + length (reads_in_statement loops may g)

        at_copy : (j : ℕ) (v : Value) (s u : Store) → from ≤ j → j < to → At k s u → At k s (put (cell j) v u)
        at_copy j v s u low high a = record {
          stores = put_copy (cell j) v s u (q.made j low high) a.stores;
          scalars = a.scalars;
          first = a.first;
          second = hold_put (cell j) v ls is u (q.other j) a.second;
        }

        element_value : (j : ℕ) (u : Store) → cell_named (sequential bits) (element j) u ≡ Ok (cell j)
            → value_of (sequential bits) (read_as_expression (element j)) u ≡ Ok (u.held (cell j))
        element_value j u e =
            let p = parted (subscript_values (sequential bits) (element j).subscripts u) (λ zs. cell_at (element j).name zs u) (cell j) e in
            joined (subscript_values (sequential bits) (element j).subscripts u) (λ zs. do c ← cell_at (element j).name zs u; Ok (u.held c)) p.part (u.held (cell j)) p.first
            (joined (cell_at (element j).name p.part u) (λ c. Ok (u.held c)) (cell j) (u.held (cell j)) p.second refl)

        apart : (i j : ℕ) (v : Value) (u : Store) → i < j → j < to → (put (cell j) v u).held (cell i) ≡ u.held (cell i)
        apart i j v u less high =
            ap (λ b. cond (b && pointwise int_eq (cell j).subscripts (cell i).subscripts) v (u.held (cell i)))
            (bytes_eq-false (cell j).name (cell i).name (λ e. (let same = q.once j i high (omega (arith, less, high)) e in omega (arith, same, less))))

        -- a read with its value
        record CanBeRead (s : Store) (r : Reference) : Type 0 where
          worth : Value
          said : value_of (sequential bits) (read_as_expression r) s ≡ Ok worth
          range : is_in_range bits worth ≡ true
          clear : Clear (names_in (read_as_expression r))

        guard_taken : (s u : Store) → At k s u → IsTaken bits g.guard s → IsTaken bits g.guard u
        guard_taken s u a h = by g.guard h (λ x i. q.clear x (In-left x (names_of_guard g.guard) _ i))
          where
            by : (o : Option Expression) → IsTaken bits o s → Clear (names_of_guard o) → IsTaken bits o u
            by None t c = tt
            by (Some e) t c = sym (same_truth e c s u a.stores) ∙ t

        guard_passed : (s u : Store) → At k s u → IsPassed bits g.guard s → IsPassed bits g.guard u
        guard_passed s u a h = by g.guard h (λ x i. q.clear x (In-left x (names_of_guard g.guard) _ i))
          where
            by : (o : Option Expression) → IsPassed bits o s → Clear (names_of_guard o) → IsPassed bits o u
            by None t c = t
            by (Some e) t c = sym (same_truth e c s u a.stores) ∙ t

        -- ---- the copies, one after another

        record Copied (j : ℕ) (rs : List Reference) (u s t : Store) : Type 0 where
          at : At k s t
          held : (i : ℕ) → i < j → t.held (cell i) ≡ u.held (cell i)
          copies : AreCopied bits element s t j rs

        abbrev does_copies : ℕ → List Reference → State → State
        does_copies j rs s = does_all (sequential bits) None (block_of_parts line (parts (map Run (copies_of element g j rs)))) s

        one_more : (j : ℕ) (r : Reference) (rs : List Reference) (v : Value) (u s t : Store) → from ≤ j → j < to → value_of (sequential bits) (read_as_expression r) s ≡ Ok v
            → Copied (suc j) rs (put (cell j) v u) s t → Copied j (r ∷ rs) u s t
        one_more j r rs v u s t low high e h = record {
          at = h.at;
          held = λ i l. h.held i (omega (arith, l)) ∙ apart i j v u l high;
          copies = (λ w f. here w f, h.copies);
        }
          where
            kept : t.held (cell j) ≡ v
            kept = h.held j (omega arith) ∙ ap (λ b. cond b v (u.held (cell j))) (same_cell-refl (cell j))

            here : (w : Value) → value_of (sequential bits) (read_as_expression r) s ≡ Ok w → value_of (sequential bits) (read_as_expression (element j)) t ≡ Ok w
            here w f = element_value j t (q.room s t h.at j low high) ∙ ap Ok (kept ∙ ok_same {F = Fault} v w (sym e ∙ f))

        copies_go : (j : ℕ) (rs : List Reference) → from ≤ j → j + length rs ≤ to → (s : State) (u : Store) (n : ℕ) → s.way ≡ Going → At k s.store u → IsTaken bits g.guard s.store
            → ((r : Reference) → In r rs → CanBeRead s.store r) → Led (Copied j rs u) s (does_copies j rs (record s { store = u; steps = n }))
        copies_go j [] low high s u n w a taken h = record { stores = record { at = a; held = λ i l. refl; copies = tt }; rest = refl; going = w }
        copies_go j (r ∷ rs) low high s u n w a taken h =
            let c = h r (inl refl) in
            let less : j < to = omega (arith, high) in
            let there : value_of (sequential bits) (read_as_expression r) u ≡ Ok c.worth = sym (same_value (read_as_expression r) c.clear s.store u a.stores) ∙ c.said in
            let one = comes_to bits (read_copied element g j r) (record s { store = u; steps = n }) c.worth (cell j) w (guard_taken s.store u a taken) there (q.room s.store u a j low less) c.range in
            let u1 = put (cell j) c.worth u in
            let more = copies_go (suc j) rs (omega (arith, low)) (omega (arith, high)) s u1 one.steps w (at_copy j c.worth s.store u low less a) taken (λ x i. h x (inr i)) in
            let is : does (sequential bits) None (guarded_statement (read_copied element g j r)) (record s { store = u; steps = n }) ≡ record s { store = u1; steps = one.steps }
            = one.is ∙ ap (λ y. record s { store = u1; steps = one.steps; way = y }) (sym w) in
            subst (λ (t : State). Led (Copied j (r ∷ rs) u) s (does_copies (suc j) rs t)) (sym is)
            (record { stores = one_more j r rs c.worth u s.store _ low less c.said more.stores; rest = more.rest; going = more.going })

        passes : (j : ℕ) (rs : List Reference) (s : State) (u : Store) (n : ℕ) → s.way ≡ Going → IsPassed bits g.guard u
            → Led (λ x t. t ≡ u) s (does_copies j rs (record s { store = u; steps = n }))
        passes j [] s u n w h = record { stores = refl; rest = refl; going = w }
        passes j (r ∷ rs) s u n w h =
            let one = comes_to_same bits (read_copied element g j r) (record s { store = u; steps = n }) w h in
            let is : does (sequential bits) None (guarded_statement (read_copied element g j r)) (record s { store = u; steps = n }) ≡ record s { store = u; steps = one.steps }
            = one.is ∙ ap (λ y. record s { store = u; steps = one.steps; way = y }) (sym w) in
            subst (λ (t : State). Led (λ x t. t ≡ u) s (does_copies (suc j) rs t)) (sym is) (passes (suc j) rs s u one.steps w h)

        -- ---- what is copied can be read

        read_value : (s : Store) → ((x : List ℕ) → (c : Cell) → c.name ≡ x → Known x → is_in_range bits (s.held c) ≡ true) → (r : Reference) → Clear (names_in (read_as_expression r)) → Known r.name
            → HasValue bits s r → CanBeRead s r
        read_value s ranged r clear known h =
            let p = parted (subscript_values (sequential bits) r.subscripts s) (λ zs. do c ← cell_at r.name zs s; Ok (s.held c)) h.0 h.1 in
            let c = parted (cell_at r.name p.part s) (λ c. Ok (s.held c)) h.0 p.second in
            let same : s.held c.part ≡ h.0 = ok_same {F = Fault} (s.held c.part) h.0 c.second in
            record {
              worth = h.0;
              said = h.1;
              range = subst (λ v. is_in_range bits v ≡ true) same (ranged r.name c.part (cell_in-named (s.bounds r.name) r.name p.part c.part c.first) known);
              clear = clear;
            }

        in_left : (x : List ℕ) → In x (names_in_subscripts g.left.subscripts) → In x (names_of (assignment g))
        in_left x i = In-right x (names_of_guard g.guard) _ (In-right x (names_in g.right) (g.left.name ∷ names_in_subscripts g.left.subscripts) (inr i))

        in_right : (x : List ℕ) → In x (names_in g.right) → In x (names_of (assignment g))
        in_right x i = In-right x (names_of_guard g.guard) _ (In-left x (names_in g.right) (g.left.name ∷ names_in_subscripts g.left.subscripts) i)

        read_in : (r : Reference) → In r reads → (x : List ℕ) → In x (names_in (read_as_expression r)) → In x (names_of (assignment g))
        read_in r i x j = by (In-append r (reads_in_left loops may g) (reads_in_right loops may g) i)
          where
            by : In r (reads_in_left loops may g) ⊎ In r (reads_in_right loops may g) → In x (names_of (assignment g))
            by (inl l) = in_left x (read_names_in loops (but_whole loops may g) (first_in_left loops g) g.left.subscripts r l x j)
            by (inr l) = in_right x (read_names loops (but_whole loops may g) (first_in_right loops g) g.right r l x j)

        all_have_values : (s : Store) → Evaluates bits g s → AllByRecursion (HasValue bits s) reads
        all_have_values s e =
            let p = parted (subscript_values (sequential bits) g.left.subscripts s) (λ zs. cell_at g.left.name zs s) e.cell e.cell_is in
            both_parts (HasValue bits s) (reads_in_left loops may g) (reads_in_right loops may g)
            (subscript_reads_have_values bits loops (but_whole loops may g) s (first_in_left loops g) g.left.subscripts p.part p.first)
            (reads_have_values bits loops (but_whole loops may g) s (first_in_right loops g) g.right e.value e.value_is)

        picked : (P : Reference → Type 0) (rs : List Reference) → AllByRecursion P rs → (r : Reference) → In r rs → P r
        picked P [] h r i = absurd i
        picked P (x ∷ rs) h r (inl e) = subst P (sym e) h.0
        picked P (x ∷ rs) h r (inr i) = picked P rs h.1 r i

        can_be_read : (s u : Store) → At k s u → Evaluates bits g s → (r : Reference) → In r reads → CanBeRead s r
        can_be_read s u a e r i =
            read_value s (λ x c f known. a.stores.ranged c (subst Known (sym f) known)) r (λ x j. q.clear x (read_in r i x j)) (q.known r.name (read_in r i r.name (inl refl)))
            (picked (HasValue bits s) reads (all_have_values s e) r i)

        -- ---- and then the statement

        abbrev Mid : Store → Store → Type 0
        Mid s u = At k s u × (IsTaken bits g.guard s → AreCopied bits element s u from reads)

        copies_done : (s : State) (u : Store) (n : ℕ) → s.way ≡ Going → At k s.store u → Chosen bits g.guard g s.store
            → Led Mid s (does_copies from reads (record s { store = u; steps = n }))
        copies_done s u n w a (inl (taken, e)) =
            let c = copies_go from reads (omega arith) (omega arith) s u n w a taken (can_be_read s.store u a e) in
            record { stores = (c.stores.at, λ t. c.stores.copies); rest = c.rest; going = c.going }
        copies_done s u n w a (inr passed) =
            let c = passes from reads s u n w (guard_passed s.store u a passed) in
            record {
              stores = (subst (At k s.store) (sym c.stores) a, λ t. absurd (not_both bits g.guard s.store t passed));
              rest = c.rest;
              going = c.going;
            }

        abbrev new : Guarded
        new = split_statement loops may g element from

        next : (s u : Store) → At k s u → At (k + 1) s u
        next s u a = record { stores = a.stores; scalars = a.scalars; first = a.first; second = a.second }

        lands_split : (s u : Store) → At k s u → AreCopied bits element s u from reads → (v : Value) (c : Cell) → cell_named (sequential bits) g.left s ≡ Ok c
            → Lands bits (At (k + 1)) s u new.left c v
        lands_split s u a h v c e =
            let p = parted (subscript_values (sequential bits) g.left.subscripts s) (λ zs. cell_at g.left.name zs s) c e in
            let here = split_subscript_values bits loops (but_whole loops may g) element s u (first_in_left loops g) from g.left.subscripts
            (all_same s u a.stores (names_in_subscripts g.left.subscripts) (λ x i. q.clear x (in_left x i))) (first_copies bits element s u from (reads_in_left loops may g) (reads_in_right loops may g) h) p.part p.first in
            let name : c.name ≡ g.left.name = cell_in-named (s.bounds g.left.name) g.left.name p.part c p.second in
            record {
              cell = c;
              named = joined (subscript_values (sequential bits) new.left.subscripts u) (λ zs. cell_at g.left.name zs u) p.part c here
                  (ap (λ o. cell_in o g.left.name p.part) (a.stores.second g.left.name ∙ sym (a.stores.first g.left.name)) ∙ p.second);
              put = λ range. record {
                stores = put_both c v s u range (subst (λ y. ¬ In y symbols) (sym name) q.free) a.stores;
                scalars = a.scalars;
                first = hold_put c v ls is s (subst (λ y. AllByRecursion (λ (o : Loop). bytes_eq y o.variable ≡ false) ls) (sym name) q.own) a.first;
                second = hold_put c v ls is u (subst (λ y. AllByRecursion (λ (o : Loop). bytes_eq y o.variable ≡ false) ls) (sym name) q.own) a.second;
              };
            }

        right_split : (s u : Store) → At k s u → AreCopied bits element s u from reads → (v : Value) → value_of (sequential bits) g.right s ≡ Ok v
            → value_of (sequential bits) new.right u ≡ Ok v
        right_split s u a h v e =
            split_value bits loops (but_whole loops may g) element s u (first_in_right loops g) (from + length (reads_in_left loops may g)) g.right
            (all_same s u a.stores (names_in g.right) (λ x i. q.clear x (in_right x i)))
            (second_copies bits element s u from (reads_in_left loops may g) (reads_in_right loops may g) h) v e

        split_leads : Leads Mid (At (k + 1)) (does (sequential bits) None (guarded_statement g)) (does (sequential bits) None (guarded_statement new))
        split_leads = by g.guard (λ x i. q.clear x (In-left x (names_of_guard g.guard) _ i)) (λ s u m. m)
          where
            by : (o : Option Expression) → Clear (names_of_guard o) → ((s u : Store) → Mid s u → At k s u × (IsTaken bits o s → AreCopied bits element s u from reads))
                → Leads Mid (At (k + 1)) (does (sequential bits) None (guarded_statement (record g { guard = o }))) (does (sequential bits) None (guarded_statement (record new { guard = o })))
            by None c f =
                Leads-assignment bits Mid (At (k + 1)) g.line g.line None None g.left new.left g.right new.right
                (λ s u m v e. right_split s u m.0 ((f s u m).1 tt) v e) (λ s u m v e c h. lands_split s u m.0 ((f s u m).1 tt) v c h)
            by (Some t) c f =
                Leads-chooses bits Mid (At (k + 1)) g.line g.line t t (statement (Assignment g.line None g.left g.right) no_statements)
                (statement (Assignment g.line None new.left new.right) no_statements)
                (λ s u m x e. sym (same_truth t c s u m.0.stores) ∙ e)
                (record { at = λ s u n i a e. inner.at s u n i a e })
                (λ s u m e. next s u m.0)
              where
                Taken : Store → Store → Type 0
                Taken s u = Mid s u × (truth_of (sequential bits) t s ≡ Ok true)

                inner : Leads Taken (At (k + 1)) (does (sequential bits) None (Assignment g.line None g.left g.right)) (does (sequential bits) None (Assignment g.line None new.left new.right))
                inner =
                    Leads-assignment bits Taken (At (k + 1)) g.line g.line None None g.left new.left g.right new.right
                    (λ s u m v e. right_split s u m.0.0 ((f s u m.0).1 m.1) v e) (λ s u m v e c h. lands_split s u m.0.0 ((f s u m.0).1 m.1) v c h)

        -- all of it
        pub statement_leads : Leads (At k) (At (k + 1)) (does (sequential bits) None (guarded_statement g))
            (does_all (sequential bits) None (block_of_parts line (parts (map Run (with_copies loops may element from g)))))
        statement_leads = record {
          at = λ s u n w a sound.
              let one = copies_done s u n w a (chosen bits g s w sound) in
              let t = does_copies from reads (record s { store = u; steps = n }) in
              let two = split_leads.at s t.store t.steps w one.stores sound in
              let is : does_all (sequential bits) None (block_of_parts line (parts (map Run (with_copies loops may element from g)))) (record s { store = u; steps = n })
              ≡ does (sequential bits) None (guarded_statement new) (record s { store = t.store; steps = t.steps })
              = ap (λ ps. does_all (sequential bits) None (block_of_parts line (parts ps)) (record s { store = u; steps = n })) (map-append Run (copies_of element g from reads) (new ∷ []))
              ∙ (does_joined bits line (map Run (copies_of element g from reads)) (Run new ∷ []) (record s { store = u; steps = n })
              ∙ ap (does (sequential bits) None (guarded_statement new)) one.rest) in
              subst (λ (z : State). Led (At (k + 1)) (does (sequential bits) None (guarded_statement g) s) z) (sym is) two;
        }
