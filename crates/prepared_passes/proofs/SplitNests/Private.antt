-- Private scalars don't come back: where one stands in a statement of the split nest, it stood in the statement that
-- this one comes from, which copies its element to it, and in which nothing is copied further.
use mathlib.Core.List.{reverse_aux}
use Rattle.std.proofs.Common.{◌≡◌, ◌⊎◌, inl, inr, refl, sym, ap, ap₂, ◌∙◌, subst, ℕ, ◌+◌, Bool, true, false, cond, not, ◌&&◌, List, [], ◌∷◌, ◌++◌, map, reverse, length, Option, Some, None, Contains, arith}
use Rattle.std.proofs.lemmas.Bool.Decides.{nat_tests}
use Rattle.std.specs.Prelude.{◌==◌, nat_le, unwrap_or}
use Rattle.dependence_graph.specs.declared.graphs.Place.{Place}
use Rattle.last_values.specs.Scalars.{scalar}
use Rattle.last_values.specs.normal_forms.NormalLoops.{counter_name}
use Rattle.linear_forms.specs.Canonical.{canonical_text, canonising, text_or}
use Rattle.linear_forms.specs.Linear.{linear}
use Rattle.nest.specs.Bodies.{Standing, nest_loops, nest_statements, statements_in, statements_in_parts}
use Rattle.nest.specs.Plain.{Choice, Guarded, Jump, Label, Loop, Made, Nest, Part, Parts, Run, Turns, no_parts, part}
use Rattle.nest_order.proofs.orders.Lists.{In-append, In-right}
use Rattle.nest_order.proofs.orders.Membership.{In-map}
use Rattle.nest_order.specs.orders.Lists.{In}
use Rattle.nest_order.specs.runs.Touched.{touched_in, touched_in_subscripts}
use Rattle.nest_order.specs.shapes.Shapes.{ArePlain, IsPlain}
use Rattle.pass_laws.proofs.NormalFacts.MadeStatements.{counter_long}
use Rattle.pass_laws.proofs.NormalFacts.Tables.{all_in}
use Rattle.pass_laws.proofs.PreparedNests.Lists.{Contains-In}
use Rattle.pass_laws.specs.prepared_nests.Loops.{IsPreparedLoop}
use Rattle.pass_laws.specs.prepared_nests.Made.{IsPreparedMade}
use Rattle.pass_laws.specs.prepared_nests.Nests.{IsPrepared}
use Rattle.pass_laws.specs.prepared_nests.Statements.{IsPreparedStatement, made_names}
use Rattle.prepared_passes.proofs.ArrangedNests.Names.{found_in}
use Rattle.prepared_passes.proofs.ExpandedNests.Walks.{round_in}
use Rattle.prepared_passes.specs.expansion.Left.{IsCopyOf, NoPrivateScalarIsLeft, references_touched}
use Rattle.rewrite.specs.Making.{made, made_subscripts}
use Rattle.rewrite.specs.Names.{mentions}
use Rattle.scalar_expand.proofs.PrivateLaws.{first_begins, has_first, in_middle}
use Rattle.scalar_expand.proofs.Theorems.{in_privates}
use Rattle.scalar_expand.specs.Expanded as expanded
use Rattle.scalar_expand.specs.Privates.{names_written, private_among, private_scalars, round_loop}
use Rattle.scalar_expand.specs.declared.privates.Private.{Private}
use Rattle.scalar_expand.specs.declared.privates.RoundLoop.{RoundLoop}
use Rattle.statement_passes.specs.Standings.{IsLoop}
use Rattle.tree.specs.Limits.{nest_depth}
use Rattle.tree.specs.Names.{IsSourceName}
use Rattle.tree.specs.Plain.{Declaration, Named, Only, Reference, Section, Subscript, Subscripts, no_subscripts, subscript, subscripts}
use Rattle.node_splitting.specs.Arrays.{copy_element, variable_subscript}
use Rattle.node_splitting.specs.Counts.{first_in_right, is_counter, variables_from_outside}
use Rattle.node_splitting.specs.Reads.{read_as_expression, behind, but_whole, is_copied, itself_or, read_or, reads_in, reads_in_statement, split_in, split_statement}
use Rattle.node_splitting.specs.Split.{in_canonical_text, last_from, made_arrays, may_in, reads_at, with_copy_arrays, with_nodes_split}
use Rattle.prepared_passes.specs.splitting.Kept.{SplitNestHasNoPrivateScalars}
use Rattle.prepared_passes.proofs.SplitNests.Canonical.{IsMadeOf, name_stays, of_statement as of_text, subscripts_stay}
use Rattle.prepared_passes.proofs.SplitNests.Kept.{IsFromStatement, each, from_statement, has}
use Rattle.prepared_passes.proofs.SplitNests.Limits.{same_variables}
use Rattle.prepared_passes.proofs.SplitNests.Occurrences.{StoodIn, raw_stood, variables_have_none, variables_stay}
use Rattle.prepared_passes.proofs.SplitNests.Standings.{IsCopy, comes_from}
use Rattle.prepared_passes.proofs.SplitNests.Texts.{split_is}

-- ---- subscripts

none_before : (loops symbols : List (List ℕ)) (qs : Subscripts) → no_subscripts ≡ made_subscripts (canonising loops symbols) qs → qs ≡ no_subscripts
none_before loops symbols no_subscripts e = refl
none_before loops symbols (subscript (Only a) qs) e = let no : ⊥ = cc in absurd no
none_before loops symbols (subscript (Section a b c) qs) e = let no : ⊥ = cc in absurd no

none_split : (loops : List (List ℕ)) (may : ℕ → Bool) (el : ℕ → Reference) (q c : ℕ) (qs : Subscripts) → no_subscripts ≡ split_in loops may el q c qs → qs ≡ no_subscripts
none_split loops may el q c no_subscripts e = refl
none_split loops may el q c (subscript (Only a) qs) e = let no : ⊥ = cc in absurd no
none_split loops may el q c (subscript (Section a b d) qs) e = let no : ⊥ = cc in absurd no

some_onto : (xs : List Subscript) (y : Subscript) (ys : List Subscript) → no_subscripts ≡ subscripts (reverse_aux xs (y ∷ ys)) → ⊥
some_onto [] y ys e = let no : ⊥ = cc in no
some_onto (x ∷ xs) y ys e = some_onto xs x (y ∷ ys) e

-- an element of a statement within a loop has a subscript
some_subscripts : (vs : List (List ℕ)) (v : List ℕ) (more : List (List ℕ)) → vs ≡ v ∷ more → no_subscripts ≡ subscripts (reverse (map variable_subscript vs)) → ⊥
some_subscripts vs v more same e = some_onto (map variable_subscript more) (variable_subscript v) [] (e ∙ ap (λ us. subscripts (reverse (map variable_subscript us))) same)

-- the references of its subscripts
in_onto : (vs : List (List ℕ)) (ss : List Subscript) (r : Reference) → In r (touched_in_subscripts (subscripts (reverse_aux (map variable_subscript vs) ss)))
    → ((v : List ℕ) × In v vs × (r ≡ scalar v)) ⊎ In r (touched_in_subscripts (subscripts ss))
in_onto [] ss r i = inr i
in_onto (v ∷ vs) ss r i = by (in_onto vs (variable_subscript v ∷ ss) r i)
  where
    by : ((w : List ℕ) × In w vs × (r ≡ scalar w)) ⊎ In r (touched_in_subscripts (subscripts (variable_subscript v ∷ ss)))
        → ((w : List ℕ) × In w (v ∷ vs) × (r ≡ scalar w)) ⊎ In r (touched_in_subscripts (subscripts ss))
    by (inl h) = inl (h.0, inr h.1, h.2)
    by (inr (inl e)) = inl (v, inl refl, e)
    by (inr (inr j)) = inr j

pub variable_of_element : (vs : List (List ℕ)) (r : Reference) → In r (touched_in_subscripts (subscripts (reverse (map variable_subscript vs)))) → (v : List ℕ) × In v vs × (r ≡ scalar v)
variable_of_element vs r i = by (in_onto vs [] r i)
  where
    by : ((v : List ℕ) × In v vs × (r ≡ scalar v)) ⊎ In r (touched_in_subscripts no_subscripts) → (v : List ℕ) × In v vs × (r ≡ scalar v)
    by (inl h) = h
    by (inr j) = absurd j

-- ---- statements stand in a loop

abbrev Begins : List Loop → Type 0
Begins ls = (l : Loop) × (more : List Loop) × (ls ≡ l ∷ more)

begins_more : (ls : List Loop) (o : Loop) → Begins ls → Begins (ls ++ o ∷ [])
begins_more ls o b = (b.0, b.1 ++ o ∷ [], ap (λ us. us ++ o ∷ []) b.2)

mutual
  begun_in : (ls : List Loop) (q : Part) → IsPlain q → Begins ls → (x : Standing) → In x (statements_in ls q) → Begins x.loops
  begun_in ls (Run g) plain b x (inl e) = subst (λ (z : Standing). Begins z.loops) (sym e) b
  begun_in ls (Run g) plain b x (inr i) = absurd i
  begun_in ls (Turns l ps) plain b x i = begun_in_parts (ls ++ l ∷ []) ps plain.1 (begins_more ls l b) x i
  begun_in ls (Choice bs ps) plain b x i = absurd plain
  begun_in ls (Label n) plain b x i = absurd plain
  begun_in ls (Jump n) plain b x i = absurd plain

  begun_in_parts : (ls : List Loop) (ps : Parts) → ArePlain ps → Begins ls → (x : Standing) → In x (statements_in_parts ls ps) → Begins x.loops
  begun_in_parts ls no_parts plain b x i = absurd i
  begun_in_parts ls (part q ps) plain b x i =
      by (λ j. begun_in ls q plain.0 b x j) (λ j. begun_in_parts ls ps plain.1 b x j) (In-append x (statements_in ls q) (statements_in_parts ls ps) i)
    where
      by : (In x (statements_in ls q) → Begins x.loops) → (In x (statements_in_parts ls ps) → Begins x.loops)
          → In x (statements_in ls q) ⊎ In x (statements_in_parts ls ps) → Begins x.loops
      by f g (inl j) = f j
      by f g (inr j) = g j

in_loop : (p : Part) → IsLoop p → IsPlain p → (x : Standing) → In x (statements_in [] p) → Begins x.loops
in_loop (Turns l ps) loop plain x i = begun_in_parts (l ∷ []) ps plain.1 (l, [], refl) x i
in_loop (Run g) loop plain x i = absurd loop
in_loop (Choice bs ps) loop plain x i = absurd loop
in_loop (Label n) loop plain x i = absurd loop
in_loop (Jump n) loop plain x i = absurd loop

-- ---- an array's element is canonical text where its subscripts are

array_text : (loops symbols : List (List ℕ)) (x : List ℕ) (qs : Subscripts) → made_subscripts (canonising loops symbols) qs ≡ qs
    → made (canonising loops symbols) (Named x qs) ≡ Named x qs
array_text loops symbols x no_subscripts e = name_stays loops symbols x
array_text loops symbols x (subscript q qs) e =
    ap (λ us. (canonising loops symbols).expression (Named x (subscript q qs)) (Named x us)) e ∙ by (mentions loops (Named x (subscript q qs)))
  where
    text : (b : Bool) → text_or loops symbols (cond b (linear (length loops) (loops ++ symbols) (Named x (subscript q qs))) None) (Named x (subscript q qs)) ≡ Named x (subscript q qs)
    text true = refl
    text false = refl

    by : (b : Bool) → cond b (canonical_text loops symbols (Named x (subscript q qs))) (Named x (subscript q qs)) ≡ Named x (subscript q qs)
    by true = text (nat_le (length loops) nest_depth)
    by false = refl

-- ---- the names of private scalars

module _ (es : List Declaration) (around : List (List ℕ)) (deepest : ℕ) (m : Nest) (h : IsPrepared es around deepest m)
    (p : Private) (i : In p (private_scalars m)) where
  -- a statement that gives it a value
  record IsBegun : Type 0 where
    standing : Standing
    inside : In standing (nest_statements m)
    target : standing.statement.left.name ≡ p.name

  begun : IsBegun
  begun =
      let known : private_among m p.name (nest_statements m) ≡ Some p
      = in_privates m (names_written [] (nest_statements m)) p i in
      let f = has_first m p.name p (nest_statements m) known in
      let o = first_begins m p.name p f.before f.standing f.behind (ap (private_among m p.name) (sym f.splits) ∙ known)
      f.none f.stands in
      record {
        standing = f.standing;
        inside = subst (In f.standing) (sym f.splits) (in_middle f.before f.standing f.behind);
        target = o.0.left;
      }

  no_counter : (k : ℕ) → ¬ (p.name ≡ counter_name k)
  no_counter k e = by (all_in (IsPreparedStatement es m deepest) (nest_statements m) h.parts.statements begun.standing begun.inside).target
    where
      is : begun.standing.statement.left.name ≡ counter_name k
      is = begun.target ∙ e

      by : IsSourceName begun.standing.statement.left.name ⊎ Contains (made_names m) begun.standing.statement.left.name → ⊥
      by (inl n) = counter_long begun.standing.statement.left.name k n.within is
      by (inr c) =
          let r = In-map (λ (a : Made). a.name) begun.standing.statement.left.name m.made
          (Contains-In begun.standing.statement.left.name (made_names m) c) in
          (all_in (IsPreparedMade es m.symbols deepest) m.made h.parts.made r.it r.inside).counter k (sym r.is ∙ is)

-- ---- one statement

same_number : (n : ℕ) → (n == n) ≡ true
same_number n = grind (arith, nat_tests)

both_false : (b : Bool) → (b && false) ≡ false
both_false true = refl
both_false false = refl

module _ (m : Nest) (fs : List Declaration) (outside : List (List ℕ)) (deeper : ℕ) (may : Place → Bool) (k : Nest) (h : IsPrepared fs outside deeper k) (loop : IsLoop k.body)
    (p : Private) (counts : (n : ℕ) → ¬ (p.name ≡ counter_name n)) (left : (s : Standing) → In s (nest_statements k) → In (scalar p.name) (references_touched s.statement) → IsCopyOf m p s)
    (x : Standing) (f : IsFromStatement may k x) (r : In (scalar p.name) (references_touched x.statement)) where
  abbrev ls : List Loop
  ls = f.from.loops

  abbrev vs : List (List ℕ)
  vs = variables_from_outside f.from.loops

  abbrev allowed : ℕ → Bool
  allowed = may_in may (length k.symbols) f.from.loops (length f.pre)

  inside : In f.from (nest_statements k)
  inside = subst (λ (zs : List Standing). In f.from zs) (sym f.parted) (In-right f.from f.pre (f.from ∷ f.post) (inl refl))

  same_scalar : (first : Reference) → p.name ≡ first.name → first.subscripts ≡ no_subscripts → scalar p.name ≡ first
  same_scalar first e n = ap₂ (λ y (qs : Subscripts). record { name = y; subscripts = qs }) e (sym n)

  in_raw : In (scalar p.name) (references_touched f.text.raw)
  in_raw = by (of_text vs k.symbols f.text.raw (scalar p.name) (subst (λ (z : Standing). In (scalar p.name) (references_touched z.statement)) f.text.same r))
    where
      by : IsMadeOf vs k.symbols (references_touched f.text.raw) (scalar p.name) → In (scalar p.name) (references_touched f.text.raw)
      by o = subst (λ (z : Reference). In z (references_touched f.text.raw)) (sym (same_scalar o.first o.name (none_before vs k.symbols o.first.subscripts o.subscripts))) o.inside

  counted : (v : List ℕ) → In v vs → (n : ℕ) × (v ≡ counter_name n)
  counted v i =
      let o = In-map (λ (l : Loop). l.variable) v f.from.loops i in
      (o.it.number, o.is ∙ by o.it (round_in [] k.body h.plain f.from inside o.it o.inside))
    where
      by : (l : Loop) → In l [] ⊎ In l (nest_loops k) → l.variable ≡ counter_name l.number
      by l (inl j) = absurd j
      by l (inr j) = (found_in (IsPreparedLoop fs k.symbols) l [] k.body h.plain h.parts.loops j).1.variable

  no_element : (j : ℕ) → ¬ In (scalar p.name) (touched_in (read_as_expression (copy_element vs j)))
  no_element j (inl e) =
      let b = in_loop k.body loop h.plain f.from inside in
      some_subscripts vs b.0.variable (variables_from_outside b.1) (ap variables_from_outside b.2) (ap (λ (z : Reference). z.subscripts) e)
  no_element j (inr i) =
      let w = variable_of_element vs (scalar p.name) i in
      let c = counted w.0 w.1 in
      counts c.0 (ap (λ (z : Reference). z.name) w.2 ∙ c.1)

  there : In (scalar p.name) (references_touched f.from.statement)
  there = by (raw_stood vs allowed (copy_element vs) f.from.statement k f.from.loops (last_from may k 0 k.copies f.pre) f.text.raw f.text.is (scalar p.name) in_raw)
    where
      by : StoodIn vs allowed (copy_element vs) f.from.statement (last_from may k 0 k.copies f.pre) (scalar p.name) → In (scalar p.name) (references_touched f.from.statement)
      by (inl i) = i
      by (inr (inl o)) =
          subst (λ (z : Reference). In z (references_touched f.from.statement))
          (sym (same_scalar o.first o.name (none_split vs (but_whole vs allowed f.from.statement) (copy_element vs) o.place o.from o.first.subscripts o.subscripts))) o.inside
      by (inr (inr e)) = absurd (no_element e.number e.among)

  copy : IsCopyOf m p f.from
  copy = left f.from inside there

  -- ---- in which nothing is copied

  abbrev held : Subscripts
  held = subscripts (reverse (map variable_subscript vs))

  abbrev taken : Guarded
  taken = record { line = m.line; guard = None; left = scalar p.name; right = Named p.array (subscripts (reverse (map variable_subscript vs))) }

  subscripts_are : subscripts (reverse (map expanded.loop_subscript p.loops)) ≡ subscripts (reverse (map variable_subscript vs))
  subscripts_are =
      ap (λ (os : List RoundLoop). subscripts (reverse (map expanded.loop_subscript os))) (sym copy.loops)
      ∙ ap (λ (ss : List Subscript). subscripts (reverse ss)) (same_variables f.from.loops)

  taken_is : expanded.copied m.line p ≡ taken
  taken_is = ap (λ qs. record { line = m.line; guard = None; left = scalar p.name; right = Named p.array qs }) subscripts_are

  from_is : f.from.statement ≡ taken
  from_is = copy.statement ∙ taken_is

  abbrev first : ℕ
  first = first_in_right vs taken

  whole : is_copied vs (but_whole vs allowed taken) first p.array held ≡ false
  whole =
      ap (λ b. not (is_counter vs p.array held) && (allowed first && not b)) (same_number first)
      ∙ (ap (λ b. not (is_counter vs p.array held) && b) (both_false (allowed first)) ∙ both_false (not (is_counter vs p.array held)))

  none_copied : reads_in_statement vs allowed taken ≡ []
  none_copied =
      ap (λ b. itself_or b (record { name = p.array; subscripts = held }) (reads_in vs (but_whole vs allowed taken) (behind vs (but_whole vs allowed taken) first p.array held) held)) whole
      ∙ variables_have_none vs (but_whole vs allowed taken) (copy_element vs) vs (λ v i. i) (behind vs (but_whole vs allowed taken) first p.array held)

  stays : (c : ℕ) → split_statement vs allowed taken (copy_element vs) c ≡ taken
  stays c =
      ap (λ e. record { line = m.line; guard = None; left = scalar p.name; right = e })
      (ap (λ b. read_or b (copy_element vs (c + 0)) (Named p.array (split_in vs (but_whole vs allowed taken) (copy_element vs) (behind vs (but_whole vs allowed taken) first p.array held) (c + 0) held))) whole
      ∙ ap (λ qs. Named p.array qs) (variables_stay vs (but_whole vs allowed taken) (copy_element vs) vs (λ v i. i) (behind vs (but_whole vs allowed taken) first p.array held) (c + 0)))

  text_stays : in_canonical_text k.symbols f.from.loops taken ≡ taken
  text_stays = ap (λ e. record { line = m.line; guard = None; left = scalar p.name; right = e }) (array_text vs k.symbols p.array held (subscripts_stay vs k.symbols vs))

  raw_is : f.text.raw ≡ taken
  raw_is = by f.text.is
    where
      by : IsCopy k f.from.loops (copy_element vs) f.from.statement (last_from may k 0 k.copies f.pre) (reads_at may (length k.symbols) f.from.loops (length f.pre) f.from.statement) f.text.raw
          ⊎ (f.text.raw ≡ split_statement vs allowed f.from.statement (copy_element vs) (last_from may k 0 k.copies f.pre)) → f.text.raw ≡ taken
      by (inl c) = absurd (subst (λ rs. In c.read rs) (ap (reads_in_statement vs allowed) from_is ∙ none_copied) c.among)
      by (inr e) = e ∙ (ap (λ (z : Guarded). split_statement vs allowed z (copy_element vs) (last_from may k 0 k.copies f.pre)) from_is ∙ stays (last_from may k 0 k.copies f.pre))

  copied_still : IsCopyOf m p x
  copied_still = record {
    statement = ap (λ (z : Standing). z.statement) f.text.same ∙ (ap (in_canonical_text k.symbols f.from.loops) raw_is ∙ (text_stays ∙ sym taken_is));
    loops = ap (λ (z : Standing). map round_loop z.loops) f.text.same ∙ copy.loops;
    unknown = copy.unknown;
  }

-- ---- the nest

pub split_nest_has_no_private_scalars : SplitNestHasNoPrivateScalars
split_nest_has_no_private_scalars es fs around outside deepest deeper may m k before h loop left = by (with_nodes_split may k) refl
  where
    whole : NoPrivateScalarIsLeft m (with_copy_arrays may k (made_arrays may k))
    whole p i x j r =
        copied_still m fs outside deeper may k h loop p (no_counter es around deepest m before p i) (left p i) x
        (from_statement may k x (comes_from (each may k) 0 (nest_statements k) x (subst (λ (zs : List Standing). In x zs) (has may k loop h.plain).statements j))) r

    by : (o : Option Nest) → with_nodes_split may k ≡ o → NoPrivateScalarIsLeft m (unwrap_or o k)
    by None e = left
    by (Some n) e = subst (NoPrivateScalarIsLeft m) (sym (split_is may k n e)) whole
