-- The renamed nest goes on as the nest does.
use Rattle.std.proofs.Common.{◌≡◌, ◌⊎◌, inl, inr, refl, sym, ap, ◌∙◌, subst, ℕ, ◌+◌, ◌==◌, ℤ, Bool, true, false, cond, ◌&&◌, ◌||◌, List, [], ◌∷◌, ◌++◌, append_assoc, append-nil, length, length-append, Option, Some, None, Contains, arith}
use Rattle.std.specs.Option.{IsSomeAnd}
use Rattle.std.specs.Str.{bytes_eq}
use Rattle.std.proofs.lemmas.Bool.Decides.{Decides-eqb}
use Rattle.std.proofs.lemmas.Slice.Eq.{bytes_eq-Decides}
use Rattle.meaning.specs.Dialect.{fortran77}
use Rattle.tree.specs.declared.width.Width.{Width}
use Rattle.meaning.specs.Holding.{HoldsProgram}
use Rattle.meaning.specs.Reads.{names_in, names_in_block, names_in_statement, names_in_subscripts}
use Rattle.meaning.specs.Run.{Going, State, does, does_all}
use Rattle.meaning.specs.Store.{Cell, Store}
use Rattle.meaning.specs.Typed.{declared}
use Rattle.nest.specs.Blocks.{assignment_of, block_of_parts, guarded_statement, numeral, statement_of_part, under_guard}
use Rattle.nest.specs.Bodies.{Standing, loops_in_parts, loops_of, nest_loops, nest_statements, statements_in, statements_in_parts}
use Rattle.nest.specs.Plain.{Choice, Guarded, Jump, Label, Loop, Nest, Part, Parts, Run, Turns, no_parts, part, parts}
use Rattle.nest.specs.statement_loops.Names.{is_among}
use Rattle.nest_order.proofs.orders.Lists.{In-append, In-left, In-right}
use Rattle.nest_order.proofs.orders.Membership.{In-map, map-In}
use Rattle.nest_order.specs.orders.Lists.{In}
use Rattle.nest_order.specs.runs.Guarded.{names_of_guard}
use Rattle.nest_order.specs.shapes.Shapes.{ArePlain, IsPlain}
use Rattle.nest_steps.proofs.Acts.{Leads-then, Leads-to}
use Rattle.nest_steps.specs.Leading.{Led, Leads}
use Rattle.nest_steps.specs.Mapped.{count_in, count_of, mapped_parts_of}
use Rattle.pass_laws.proofs.PreparedNests.Lists.{In-Contains, distinct_too, some_of}
use Rattle.pass_laws.proofs.PreparedNests.Trips.{BearsNumber, names_of_trip}
use Rattle.pass_laws.specs.prepared_nests.Loops.{EachLoop, EachLoopIn, IsPreparedLoop, IsPreparedTrip, variables_of_loops}
use Rattle.pass_laws.specs.prepared_nests.Nests.{IsPrepared}
use Rattle.rewrite.proofs.Acts.{Stays-does_all}
use Rattle.rewrite.specs.Following.{IsSound}
use Rattle.scalar_expand.specs.Privates.{has_no_guard}
use Rattle.scalar_rename.specs.Ranges.{begins_range, one_more_if, owner, range_name, ranges_in, stands_in_one_body, webs_of}
use Rattle.scalar_rename.specs.Renamed.{each_renamed, renamed, with_names}
use Rattle.scalar_rename.specs.declared.ranges.Web.{Web}
use Rattle.statement_passes.specs.Passes.{mapped_body}
use Rattle.statement_passes.specs.Standings.{IsLoop}
use Rattle.tree.specs.Plain as tree
use Rattle.tree.specs.Plain.{Block, Declaration, Expression, Program, Statement, statement}
use Rattle.prepared_passes.proofs.RenamedNests.Behind.{AreSame, Clear, endings_lead, front, rest}
use Rattle.prepared_passes.proofs.RenamedNests.Bodies.{IsPlace, all_or_none, count_part, count_parts, first_place, inner_place, numbers_of, rest_place}
use Rattle.prepared_passes.proofs.RenamedNests.Facts.{among_in, among_true, bearing, bounds_of, counter_scalar, counts_none, names_count_none, no_variable, once, other_variables, scalars, still_counter, still_symbol}
use Rattle.prepared_passes.proofs.RenamedNests.Moved.{Fits, moved}
use Rattle.prepared_passes.proofs.RenamedNests.Walks.{At, Fit, FitIn, FitsLoop, Still, nest_leads}
use Rattle.prepared_passes.proofs.RenamedNests.Webs.{Found, find, more_ranges, names_of, one_body, owner_here, web_is}
use Rattle.prepared_passes.specs.renaming.Laws.{GoOnButNames, IsMadeFor, RenamedNestGoesOnAsNest}
use Rattle.prepared_passes.specs.renaming.Renamed.{MayBeRenamed}
use Rattle.pass_laws.specs.prepared_runs.Running.{loops_then_after}
use Rattle.tree.specs.Widths.{bits_of}
use Rattle.meaning.proofs.Widths.{narrowest}

both_true : (a b : Bool) → (a && b) ≡ true → (a ≡ true) × (b ≡ true)
both_true true b e = (refl, e)
both_true false b e = cc

no_guard : (o : Option Expression) → has_no_guard o ≡ true → o ≡ None
no_guard None e = refl
no_guard (Some e) f = cc

module _ (width : Width) (es : List Declaration) (around : List (List ℕ)) (deepest : ℕ) (m : Nest) (h : IsPrepared es around deepest m) (may : MayBeRenamed es m) where
  abbrev names : ℕ → List ℕ → List ℕ
  names = names_of m

  abbrev Made : List ℕ → Type 0
  Made = IsMadeFor m

  abbrev ss : List Standing
  ss = nest_statements m

  apart : (k : ℕ) (x z : List ℕ) → ¬ IsMadeFor m x → ¬ IsMadeFor m z → names_of m k x ≡ names_of m k z → x ≡ z
  apart = once width es around deepest m h may

  abbrev IsStill : List ℕ → Type 0
  IsStill = Still (bits_of width) (names_of m) (IsMadeFor m) apart

  abbrev counters : List ℕ → Bool
  counters x = is_among (variables_of_loops (nest_loops m)) x

  counter_of : (x : List ℕ) → is_among (variables_of_loops (nest_loops m)) x ≡ true → (l : Loop) × In l (nest_loops m) × (x ≡ l.variable)
  counter_of x e = let o = In-map (λ (l : Loop). l.variable) x (nest_loops m) (among_in (variables_of_loops (nest_loops m)) x e) in (o.it, o.inside, o.is)

  still_counters : (x : List ℕ) → is_among (variables_of_loops (nest_loops m)) x ≡ true → IsStill x
  still_counters x e =
      let c = counter_of x e in
      still_counter width es around deepest m h may x c.0.number (c.2 ∙ (bearing width es around deepest m h may c.0 c.1).0)

  abbrev FitHere : List Loop → ℕ → Part → Type 0
  FitHere = Fit (bits_of width) (names_of m) (IsMadeFor m) apart counters still_counters

  abbrev FitThere : List Loop → ℕ → Parts → Type 0
  FitThere = FitIn (bits_of width) (names_of m) (IsMadeFor m) apart counters still_counters

  -- ---- where names change

  -- at a place in the text
  named_here : (x : List ℕ) → Found (webs_of m) x ⊎ ((k : ℕ) → names_of m k x ≡ x) → (pre post pre' post' : List Standing) → nest_statements m ≡ pre ++ post → nest_statements m ≡ pre' ++ post'
      → ((ranges_in x pre ≡ 0) × (ranges_in x pre' ≡ ranges_in x (nest_statements m))) ⊎ (ranges_in x pre' ≡ ranges_in x pre) → names_of m (length pre') x ≡ names_of m (length pre) x
  named_here x (inr f) pre post pre' post' e e' r = f (length pre') ∙ sym (f (length pre))
  named_here x (inl f) pre post pre' post' e e' r =
      f.at (length pre')
      ∙ (owner_here m f.web (web_is m f.web f.inside) pre' post' e'
      ∙ (by (subst (λ y. ((ranges_in y pre ≡ 0) × (ranges_in y pre' ≡ ranges_in y (nest_statements m))) ⊎ (ranges_in y pre' ≡ ranges_in y pre)) (sym f.named) r)
      ∙ (sym (owner_here m f.web (web_is m f.web f.inside) pre post e) ∙ sym (f.at (length pre)))))
    where
      none_begun : owner m.number f.web.name (ranges_in f.web.name (nest_statements m)) 0 ≡ f.web.name
      none_begun = refl

      all_begun : owner m.number f.web.name (ranges_in f.web.name (nest_statements m)) (ranges_in f.web.name (nest_statements m)) ≡ f.web.name
      all_begun = either ((ranges_in f.web.name (nest_statements m)) == 0) ((ranges_in f.web.name (nest_statements m)) == (ranges_in f.web.name (nest_statements m))) ((Decides-eqb (ranges_in f.web.name (nest_statements m)) (ranges_in f.web.name (nest_statements m))).1 refl)
        where
          either : (a b : Bool) → b ≡ true → cond (a || b) f.web.name (range_name m.number f.web.name (ranges_in f.web.name (nest_statements m))) ≡ f.web.name
          either true b g = refl
          either false true g = refl
          either false false g = cc

      by : ((ranges_in f.web.name pre ≡ 0) × (ranges_in f.web.name pre' ≡ ranges_in f.web.name (nest_statements m))) ⊎ (ranges_in f.web.name pre' ≡ ranges_in f.web.name pre)
          → owner m.number f.web.name (ranges_in f.web.name (nest_statements m)) (ranges_in f.web.name pre') ≡ owner m.number f.web.name (ranges_in f.web.name (nest_statements m)) (ranges_in f.web.name pre)
      by (inl b) = ap (owner m.number f.web.name (ranges_in f.web.name (nest_statements m))) b.1 ∙ (all_begun ∙ (sym none_begun ∙ ap (owner m.number f.web.name (ranges_in f.web.name (nest_statements m))) (sym b.0)))
      by (inr b) = ap (owner m.number f.web.name (ranges_in f.web.name (nest_statements m))) b

  -- ---- statements

  one_more : (x : List ℕ) (pre : List Standing) (s : Standing) → ranges_in x (pre ++ s ∷ []) ≡ ranges_in x pre + one_more_if (begins_range x s.statement) 0
  one_more x pre s = more_ranges x pre (s ∷ [])

  longer : (pre : List Standing) (s : Standing) → length (pre ++ s ∷ []) ≡ length pre + 1
  longer pre s = length-append pre (s ∷ [])

  moves : (pre post : List Standing) (s : Standing) → nest_statements m ≡ pre ++ s ∷ post → (x : List ℕ) → ¬ IsMadeFor m x
      → (names_of m (length pre + 1) x ≡ names_of m (length pre) x) ⊎ ((s.statement.guard ≡ None) × (s.statement.left.name ≡ x))
  moves pre post s e x n = by (begins_range x s.statement) refl
    where
      by : (b : Bool) → begins_range x s.statement ≡ b → (names_of m (length pre + 1) x ≡ names_of m (length pre) x) ⊎ ((s.statement.guard ≡ None) × (s.statement.left.name ≡ x))
      by true f =
          let both = both_true (bytes_eq s.statement.left.name x) (has_no_guard s.statement.guard) f in
          inr (no_guard s.statement.guard both.1, (bytes_eq-Decides s.statement.left.name x).0 both.0)
      by false f =
          let same : ranges_in x (pre ++ s ∷ []) ≡ ranges_in x pre = (let more = one_more x pre s ∙ ap (λ b. ranges_in x pre + one_more_if b 0) f in omega (arith, more)) in
          inl (ap (λ k. names_of m k x) (sym (longer pre s))
          ∙ named_here x (find (webs_of m) x) pre (s ∷ post) (pre ++ s ∷ []) post e (e ∙ sym (append_assoc pre (s ∷ []) post)) (inr same))

  module _ (ls : List Loop) (round : (o : Loop) → In o ls → BearsNumber o) (pre post : List Standing) (g : Guarded) (e : nest_statements m ≡ pre ++ record { loops = ls; statement = g } ∷ post)
      (clear : Clear (bits_of width) (IsMadeFor m) (names_in_statement (guarded_statement g))) where
    abbrev s : Standing
    s = record { loops = ls; statement = g }

    inside : In s (nest_statements m)
    inside = subst (λ (zs : List Standing). In s zs) (sym e) (In-right s pre (s ∷ post) (inl refl))

    record Parts-clear (o : Option Expression) : Type 0 where
      guard : Clear (bits_of width) (IsMadeFor m) (names_of_guard o)
      rest_clear : Clear (bits_of width) (IsMadeFor m) (names_in_statement (assignment_of g))

    parted : (o : Option Expression) → Clear (bits_of width) (IsMadeFor m) (names_in_statement (under_guard g.line o (assignment_of g))) → Parts-clear o
    parted None c = record { guard = λ x i. absurd i; rest_clear = c }
    parted (Some t) c =
        let one = front (bits_of width) (IsMadeFor m) (names_in t ++ (names_in_statement (assignment_of g) ++ []) ++ []) [] c in
        let two = front (bits_of width) (IsMadeFor m) (names_in t ++ (names_in_statement (assignment_of g) ++ [])) [] one in
        record {
          guard = λ x i. two x (In-left x (names_in t) (names_in_statement (assignment_of g) ++ []) i);
          rest_clear = λ x i. two x (In-right x (names_in t) (names_in_statement (assignment_of g) ++ []) (In-left x (names_in_statement (assignment_of g)) [] i));
        }

    abbrev clears : Parts-clear g.guard
    clears = parted g.guard clear

    fits : Fits (bits_of width) (names_of m) (IsMadeFor m) apart ls (length pre) g
    fits = record {
      guard = clears.guard;
      right = λ x i. clears.rest_clear x (inr (In-right x (names_in_subscripts g.left.subscripts) (names_in g.right) i));
      target = clears.rest_clear g.left.name (inl refl);
      left = λ x i. clears.rest_clear x (inr (In-left x (names_in_subscripts g.left.subscripts) (names_in g.right) i));
      own = no_variable width es around deepest m h may g.left.name (counts_none width es around deepest m h may s inside) ls round;
      also_own = no_variable width es around deepest m h may (names_of m (length pre + 1) g.left.name) (names_count_none width es around deepest m h may s inside (length pre + 1)) ls round;
      moves = moves pre post s e;
    }

  -- ---- loops

  still_last : (ls : List Loop) → ((o : Loop) → In o ls → BearsNumber o) → (l : Loop) → IsPreparedLoop es m.symbols ls l → (x : List ℕ) → In x (names_in l.last) → IsStill x
  still_last ls round l p x i =
      let t = some_of (IsPreparedTrip (variables_of_loops ls) m.symbols l.last) l.trip p.trip in
      names_of_trip IsStill (variables_of_loops ls) m.symbols t.value
      (λ y j. (let o = In-map (λ (q : Loop). q.variable) y ls j in still_counter width es around deepest m h may y o.it.number (o.is ∙ (round o.it o.inside).0)))
      (λ y j. still_symbol width es around deepest m h may y j) x (subst (λ e. In x (names_in e)) t.has.text i)

  more_round : (ls : List Loop) (l : Loop) → ((o : Loop) → In o ls → BearsNumber o) → BearsNumber l → (o : Loop) → In o (ls ++ l ∷ []) → BearsNumber o
  more_round ls l f b o i = by (In-append o ls (l ∷ []) i)
    where
      by : In o ls ⊎ In o (l ∷ []) → BearsNumber o
      by (inl j) = f o j
      by (inr (inl e)) = subst BearsNumber (sym e) b
      by (inr (inr j)) = absurd j

  abbrev Round : List Loop → Type 0
  Round ls = (o : Loop) → In o ls → BearsNumber o

  abbrev Within : Loop → Type 0
  Within l = In l (nest_loops m)

  loop_fits : (ls : List Loop) (l : Loop) (ps : Parts) (pre post : List Standing) → Round ls → In l (nest_loops m) → IsPlain (Turns l ps) → IsPreparedLoop es m.symbols ls l
      → IsPlace (nest_statements m) ls (l ∷ loops_in_parts ps) pre (statements_in_parts (ls ++ l ∷ []) ps) post
      → FitsLoop (bits_of width) (names_of m) (IsMadeFor m) apart counters ls (length pre) l (count_in ps)
  loop_fits ls l ps pre post round inside plain p place = record {
    first = plain.0.first;
    step = plain.0.step;
    counter = among_true (variables_of_loops (nest_loops m)) l.variable (map-In (λ (q : Loop). q.variable) l (nest_loops m) inside);
    own = other_variables width es around deepest m h may l ls (l ∷ loops_in_parts ps) (inl refl) (bearing width es around deepest m h may l inside) round place.round;
    last = still_last ls round l p;
    same = λ x n. subst (λ k. names_of m k x ≡ names_of m (length pre) x) long (here x (find (webs_of m) x));
  }
    where
      mid : List Standing
      mid = statements_in_parts (ls ++ l ∷ []) ps

      long : length (pre ++ statements_in_parts (ls ++ l ∷ []) ps) ≡ length pre + count_in ps
      long = length-append pre (statements_in_parts (ls ++ l ∷ []) ps) ∙ ap (λ n. length pre + n) (count_parts (ls ++ l ∷ []) ps plain.1)

      here : (x : List ℕ) → Found (webs_of m) x ⊎ ((k : ℕ) → names_of m k x ≡ x)
          → names_of m (length (pre ++ statements_in_parts (ls ++ l ∷ []) ps)) x ≡ names_of m (length pre) x
      here x (inr f) = f (length (pre ++ statements_in_parts (ls ++ l ∷ []) ps)) ∙ sym (f (length pre))
      here x (inl f) =
          named_here x (inl f) pre (statements_in_parts (ls ++ l ∷ []) ps ++ post) (pre ++ statements_in_parts (ls ++ l ∷ []) ps) post place.parted
          (place.parted ∙ sym (append_assoc pre (statements_in_parts (ls ++ l ∷ []) ps) post))
          (all_or_none (nest_statements m) ls l ps pre post place x plain.1 (subst (λ y. stands_in_one_body y (nest_statements m) ≡ true) f.named (one_body m f.web (web_is m f.web f.inside))))

  -- ---- parts

  abbrev Clears : Statement → Type 0
  Clears c = Clear (bits_of width) (IsMadeFor m) (names_in_statement c)

  mutual
    part_fits : (line : ℕ) (ls : List Loop) (p : Part) (pre post : List Standing) → IsPlain p → Round ls → ((o : Loop) → In o (loops_of p) → In o (nest_loops m)) → EachLoop (IsPreparedLoop es m.symbols) ls p
        → Clear (bits_of width) (IsMadeFor m) (names_in_statement (statement_of_part line p)) → IsPlace (nest_statements m) ls (loops_of p) pre (statements_in ls p) post → FitHere ls (length pre) p
    part_fits line ls (Run g) pre post plain round among each clear place = fits ls round pre post g place.parted clear
    part_fits line ls (Turns l ps) pre post plain round among each clear place = (
      loop_fits ls l ps pre post round (among l (inl refl)) plain each.0 place,
      parts_fit line (ls ++ l ∷ []) ps pre post plain.1 (more_round ls l round (bearing width es around deepest m h may l (among l (inl refl)))) (λ o i. among o (inr i)) each.1
          (λ x i. clear x (inr (In-right x (names_in l.first ++ names_in l.last ++ names_in (numeral l.step)) (names_in_block (block_of_parts line ps)) i)))
          (inner_place (nest_statements m) ls l ps pre post place),
    )
    part_fits line ls (Choice bs ps) pre post plain round among each clear place = absurd plain
    part_fits line ls (Label n) pre post plain round among each clear place = absurd plain
    part_fits line ls (Jump n) pre post plain round among each clear place = absurd plain

    parts_fit : (line : ℕ) (ls : List Loop) (ps : Parts) (pre post : List Standing) → ArePlain ps → Round ls → ((o : Loop) → In o (loops_in_parts ps) → In o (nest_loops m)) → EachLoopIn (IsPreparedLoop es m.symbols) ls ps
        → Clear (bits_of width) (IsMadeFor m) (names_in_block (block_of_parts line ps)) → IsPlace (nest_statements m) ls (loops_in_parts ps) pre (statements_in_parts ls ps) post → FitThere ls (length pre) ps
    parts_fit line ls no_parts pre post plain round among each clear place = tt
    parts_fit line ls (part p ps) pre post plain round among each clear place = (
      part_fits line ls p pre (statements_in_parts ls ps ++ post) plain.0 round (λ o i. among o (In-left o (loops_of p) (loops_in_parts ps) i)) each.0
          (front (bits_of width) (IsMadeFor m) (names_in_statement (statement_of_part line p)) (names_in_block (block_of_parts line ps)) clear)
          (first_place (nest_statements m) ls p ps plain.0 plain.1 pre post place),
      subst (λ k. FitThere ls k ps) long
          (parts_fit line ls ps (pre ++ statements_in ls p) post plain.1 round (λ o i. among o (In-right o (loops_of p) (loops_in_parts ps) i)) each.1
          (rest (bits_of width) (IsMadeFor m) (names_in_statement (statement_of_part line p)) (names_in_block (block_of_parts line ps)) clear)
          (rest_place (nest_statements m) ls p ps plain.0 plain.1 pre post place)),
    )
      where
        long : length (pre ++ statements_in ls p) ≡ length pre + count_of p
        long = length-append pre (statements_in ls p) ∙ ap (λ n. length pre + n) (count_part ls p plain.0)

  -- ---- the nest

  clear_block : Clear (bits_of width) (IsMadeFor m) (names_in_block (loops_then_after m))
  clear_block x i made = may.fresh made.0 made.1 (subst (λ y. Contains (names_in_block (loops_then_after m)) y) (sym made.2) (In-Contains x (names_in_block (loops_then_after m)) i))

  whole : IsPlace (nest_statements m) [] (loops_of m.body) [] (statements_in [] m.body) []
  whole = record {
    parted = sym (append-nil (nest_statements m));
    before = λ s i. absurd i;
    behind = λ s i. absurd i;
    round = λ a b i. absurd i;
    once = distinct_too (numbers_of (nest_loops m)) h.parts.once;
  }

  body_fits : FitHere [] 0 m.body
  body_fits =
      part_fits m.line [] m.body [] [] h.plain (λ o i. absurd i) (λ o i. i) h.parts.loops
      (front (bits_of width) (IsMadeFor m) (names_in_statement (statement_of_part m.line m.body)) (names_in_block m.after) clear_block) whole

  -- nothing has begun before all, and all has begun behind all
  own_before : (x : List ℕ) → names_of m 0 x ≡ x
  own_before x = by (find (webs_of m) x)
    where
      by : Found (webs_of m) x ⊎ ((k : ℕ) → names_of m k x ≡ x) → names_of m 0 x ≡ x
      by (inr f) = f 0
      by (inl f) = f.at 0 ∙ (owner_here m f.web (web_is m f.web f.inside) [] (nest_statements m) refl ∙ f.named)

  own_behind : (x : List ℕ) → names_of m (count_of m.body) x ≡ x
  own_behind x =
      ap (λ k. names_of m k x) (sym (count_part [] m.body h.plain))
      ∙ (named_here x (find (webs_of m) x) [] (nest_statements m) (nest_statements m) [] refl (sym (append-nil (nest_statements m))) (inl (refl, refl)) ∙ own_before x)

  at_home : (k : ℕ) → ((x : List ℕ) → names_of m k x ≡ x) → (c : Cell) → moved (bits_of width) (names_of m) (IsMadeFor m) k c ≡ c
  at_home k f c = by c.subscripts refl
    where
      by : (is : List ℤ) → c.subscripts ≡ is → moved (bits_of width) (names_of m) (IsMadeFor m) k c ≡ c
      by [] e =
          let bare : Cell = record { name = c.name; subscripts = [] } in
          let is_bare : c ≡ bare = ap (λ js. let q : Cell = record { name = c.name; subscripts = js } in q) e in
          ap (moved (bits_of width) (names_of m) (IsMadeFor m) k) is_bare ∙ (ap (λ y. let q : Cell = record { name = y; subscripts = [] } in q) (f c.name) ∙ sym is_bare)
      by (i ∷ is) e =
          let element : Cell = record { name = c.name; subscripts = i ∷ is } in
          let is_element : c ≡ element = ap (λ js. let q : Cell = record { name = c.name; subscripts = js } in q) e in
          ap (moved (bits_of width) (names_of m) (IsMadeFor m) k) is_element ∙ sym is_element

  module _ (p : Program) (same : p.declarations ≡ es) (s : State) (going : s.way ≡ Going) (holds : HoldsProgram (fortran77 width) p s.store)
      (l : Loop) (ps : Parts) (body : m.body ≡ Turns l ps) (sound : IsSound (does_all (fortran77 width) None (loops_then_after m) s).way) where
    abbrev new_body : Part
    new_body = mapped_body (each_renamed (webs_of m)) m.body

    abbrev Start : Store → Store → Type 0
    Start = At (bits_of width) (names_of m) (IsMadeFor m) apart counters still_counters [] [] 0

    abbrev End : Store → Store → Type 0
    End = At (bits_of width) (names_of m) (IsMadeFor m) apart counters still_counters [] [] (count_of m.body)

    loops : Leads Start End (does (fortran77 width) None (statement_of_part m.line m.body)) (does (fortran77 width) None (statement_of_part m.line new_body))
    loops =
        subst (λ (b : Part). Leads Start End (does (fortran77 width) None (statement_of_part m.line m.body)) (does (fortran77 width) None (statement_of_part m.line (mapped_body (each_renamed (webs_of m)) b)))) (sym body)
        (subst (λ (b : Part). Leads Start End (does (fortran77 width) None (statement_of_part m.line m.body))
        (does_all (fortran77 width) None (block_of_parts m.line (parts (mapped_parts_of (each_renamed (webs_of m)) [] 0 b))))) body
        (nest_leads (bits_of width) (names_of m) (IsMadeFor m) apart counters still_counters m.line (narrowest width) m.body body_fits))

    start : Start s.store s.store
    start = record {
      stores = record { bounds = λ x. refl; scalars = scalars width es around deepest m h may p s.store same holds; held = λ c n. ap (λ (d : Cell). s.store.held d) (at_home 0 own_before c) };
      scalars = λ y c. (scalar y c, scalar y c);
      first = tt;
      second = tt;
    }
      where
        scalar : (y : List ℕ) → is_among (variables_of_loops (nest_loops m)) y ≡ true → s.store.bounds y ≡ Some []
        scalar y e =
            let c = counter_of y e in
            bounds_of width es around deepest m h may p s.store same holds y
            (subst (λ z. IsSomeAnd (declared es z) (λ (d : Declaration). d.extent ≡ tree.Given [])) (sym c.2) (counter_scalar width es around deepest m h may c.0 c.1))

    after : Leads (AreSame (bits_of width) (IsMadeFor m)) (AreSame (bits_of width) (IsMadeFor m)) (does_all (fortran77 width) None m.after) (does_all (fortran77 width) None m.after)
    after = endings_lead (bits_of width) (IsMadeFor m) m.after h.parts.after.endings (rest (bits_of width) (IsMadeFor m) (names_in_statement (statement_of_part m.line m.body)) (names_in_block m.after) clear_block)

    ended : (t u : Store) → End t u → AreSame (bits_of width) (IsMadeFor m) t u
    ended t u a = record {
      bounds = a.stores.bounds;
      held = λ c n. ap (λ (d : Cell). u.held d) (sym (at_home (count_of m.body) own_behind c)) ∙ a.stores.held c n;
    }

    led : Led (AreSame (bits_of width) (IsMadeFor m)) (does_all (fortran77 width) None (loops_then_after m) s) (does_all (fortran77 width) None (statement (statement_of_part m.line new_body) m.after) s)
    led =
        (Leads-then Start (AreSame (bits_of width) (IsMadeFor m)) (AreSame (bits_of width) (IsMadeFor m)) _ _ _ _ (Leads-to Start End (AreSame (bits_of width) (IsMadeFor m)) _ _ ended loops)
        (Stays-does_all (fortran77 width) None m.after) after).at s s.store s.steps going start sound

    pub goes_on : (ws : List Web) → webs_of m ≡ ws → GoOnButNames m (does_all (fortran77 width) None (loops_then_after m) s) (does_all (fortran77 width) None (loops_then_after (with_names m ws)) s)
    goes_on [] e = record { going = led.going; bounds = λ x. refl; held = λ c n. refl; rest = refl }
    goes_on (w ∷ ws) e =
        let run : Led (AreSame (bits_of width) (IsMadeFor m)) (does_all (fortran77 width) None (loops_then_after m) s) (does_all (fortran77 width) None (loops_then_after (with_names m (w ∷ ws))) s)
        = subst (λ (vs : List Web). Led (AreSame (bits_of width) (IsMadeFor m)) (does_all (fortran77 width) None (loops_then_after m) s)
        (does_all (fortran77 width) None (statement (statement_of_part m.line (mapped_body (each_renamed vs) m.body)) m.after) s)) e led in
        record { going = run.going; bounds = run.stores.bounds; held = run.stores.held; rest = run.rest }

pub renamed_nest_goes_on_as_nest : (width : Width) → RenamedNestGoesOnAsNest width
unfolding renamed
renamed_nest_goes_on_as_nest width p around deepest m s h may going holds sound = by m.body refl may.loop
  where
    by : (b : Part) → m.body ≡ b → IsLoop b → GoOnButNames m (does_all (fortran77 width) None (loops_then_after m) s) (does_all (fortran77 width) None (loops_then_after (with_names m (webs_of m))) s)
    by (Turns l ps) e loop = goes_on width p.declarations around deepest m h may p refl s going holds l ps e sound (webs_of m) refl
    by (Run g) e loop = absurd loop
    by (Choice bs ps) e loop = absurd loop
    by (Label n) e loop = absurd loop
    by (Jump n) e loop = absurd loop
