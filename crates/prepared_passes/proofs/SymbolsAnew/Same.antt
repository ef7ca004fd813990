-- The nest with all its symbols gives values to the same names.
use Rattle.std.proofs.Common.{◌≡◌, ◌⊎◌, inl, inr, refl, sym, ap, ◌∙◌, subst, ℕ, not, ◌&&◌, List, [], ◌∷◌, map}
use Rattle.meaning.specs.Names.{is_among}
use Rattle.nest.specs.Bodies.{Standing, nest_loops, nest_statements}
use Rattle.nest.specs.Plain.{Choice, Guarded, Jump, Label, Loop, Nest, Part, Run, Turns}
use Rattle.nest_order.proofs.orders.Membership.{In-map}
use Rattle.nest_order.specs.orders.Lists.{In}
use Rattle.nest_order.specs.shapes.Shapes.{IsPlain}
use Rattle.nest_reasons.specs.Symbols.{is_integer_scalar}
use Rattle.pass_laws.proofs.NormalFacts.FoundSymbols.{chosen}
use Rattle.statement_passes.specs.Passes.{mapped_body}
use Rattle.statement_passes.specs.Shifted.{shifted_loop, with_nest_symbol, with_nest_symbols}
use Rattle.statement_passes.specs.Standings.{IsLoop, shifted_standing}
use Rattle.statement_passes.specs.Symbols.{place_among}
use Rattle.statement_passes.proofs.Standings.{mapped_nest_has, symbol_leaves_nest}
use Rattle.symbols_anew.specs.Found.{is_new, known_names, names_assigned, new_symbols}
use Rattle.symbols_anew.specs.Nests.{each_canonised, with_new, with_symbols_found, with_texts}
use Rattle.prepared_passes.specs.symbols.Laws.{NestWithSymbolsIsSameButText, SymbolsAreFoundWithAnythingBehind}
use Rattle.tree.specs.Plain.{Block}
use Rattle.prepared_passes.specs.symbols.Same.{IsSameButText, without_trip}
use Rattle.prepared_passes.proofs.SymbolsAnew.Comes.{loop_stays, symbols_are}
use Rattle.prepared_passes.proofs.SymbolsAnew.Names.{both_true, in_more, is_in}
use Rattle.prepared_passes.proofs.SymbolsAnew.Settled.{settled_standing}
use Rattle.prepared_passes.proofs.SymbolsAnew.Prepared.{settled_standings}

pub assigned_in : (xs : List Standing) (x : Standing) → In x xs → In x.statement.left.name (map (λ (s : Standing). s.statement.left.name) xs)
assigned_in [] x i = absurd i
assigned_in (y ∷ ys) x (inl e) = inl (ap (λ (s : Standing). s.statement.left.name) e)
assigned_in (y ∷ ys) x (inr i) = inr (assigned_in ys x i)

-- statements that keep the names that they give values to
mapped_in : (f : Standing → Standing) → ((x : Standing) → (f x).statement.left.name ≡ x.statement.left.name) → (n m : Nest)
    → nest_statements m ≡ map f (nest_statements n) → (x : Standing) → In x (nest_statements m) → In x.statement.left.name (names_assigned n)
mapped_in f same n m are x i =
    let o = In-map f x (nest_statements n) (subst (In x) are i) in
    subst (λ z. In z (names_assigned n)) (sym (ap (λ (s : Standing). s.statement.left.name) o.is ∙ same o.it)) (assigned_in (nest_statements n) o.it o.inside)

-- a loop stays one
pub mapped_loop : (each : List Loop → ℕ → Guarded → List Guarded) (p : Part) → IsLoop p → IsLoop (mapped_body each p)
mapped_loop each (Turns l ps) h = tt
mapped_loop each (Run g) h = absurd h
mapped_loop each (Choice bs ps) h = absurd h
mapped_loop each (Label i) h = absurd h
mapped_loop each (Jump i) h = absurd h

-- ---- symbols that come in

pub record IsSame (n m : Nest) : Type 0 where
  pub plain : IsPlain m.body
  pub loop : IsLoop m.body
  pub assigned : (z : List ℕ) → In z (names_assigned m) → In z (names_assigned n)
  pub rest : m ≡ record n { symbols = m.symbols; body = m.body }
  pub loops : map without_trip (nest_loops m) ≡ map without_trip (nest_loops n)
  pub kept : (y : List ℕ) → In y n.symbols → In y m.symbols

all_assigned : (n m : Nest) → ((x : Standing) → In x (nest_statements m) → In x.statement.left.name (names_assigned n)) → (z : List ℕ) → In z (names_assigned m) → In z (names_assigned n)
all_assigned n m f z i =
    let o = In-map (λ (s : Standing). s.statement.left.name) z (nest_statements m) i in
    subst (λ x. In x (names_assigned n)) (sym o.is) (f o.it o.inside)

same_loops : (at : ℕ) (ls : List Loop) → map without_trip (map (shifted_loop at) ls) ≡ map without_trip ls
same_loops at [] = refl
same_loops at (l ∷ ls) = ap (λ ms. without_trip l ∷ ms) (same_loops at ls)

one_same : (n : Nest) (x : List ℕ) → IsPlain n.body → IsLoop n.body → IsSame n (with_nest_symbol n x)
one_same n x plain loop =
    let from = symbol_leaves_nest n x plain in
    record {
      plain = from.plain;
      loop = loop_stays (place_among n.symbols x) n.body loop;
      assigned = all_assigned n (with_nest_symbol n x)
          (mapped_in (shifted_standing (place_among n.symbols x)) (λ y. refl) n (with_nest_symbol n x) from.statements);
      rest = refl;
      loops = ap (map without_trip) from.loops ∙ same_loops (place_among n.symbols x) (nest_loops n);
      kept = λ y i. in_more n.symbols (place_among n.symbols x) x y i;
    }

pub all_same : (n : Nest) (xs : List (List ℕ)) → IsPlain n.body → IsLoop n.body → IsSame n (with_nest_symbols n xs)
all_same n [] plain loop = record { plain = plain; loop = loop; assigned = λ z i. i; rest = refl; loops = refl; kept = λ y i. i }
all_same n (x ∷ xs) plain loop =
    let one = one_same n x plain loop in
    let more = all_same (with_nest_symbol n x) xs one.plain one.loop in
    record {
      plain = more.plain;
      loop = more.loop;
      assigned = λ z i. one.assigned z (more.assigned z i);
      rest = more.rest ∙ ap (λ (k : Nest). record k { symbols = (with_nest_symbols n (x ∷ xs)).symbols; body = (with_nest_symbols n (x ∷ xs)).body }) one.rest;
      loops = more.loops ∙ one.loops;
      kept = λ y i. more.kept y (one.kept y i);
    }

-- ---- the nest

was_assigned : (before n : Nest) (y : List ℕ) → In y (new_symbols before n) → In y (names_assigned before)
was_assigned before n y i =
    let c = chosen (is_new (names_assigned before) (known_names n)) n.declarations y i in
    let p =
    both_true (is_integer_scalar c.declaration)
    (is_among (names_assigned before) c.declaration.name && not (is_among (known_names n) c.declaration.name)) c.passes in
    let r = both_true (is_among (names_assigned before) c.declaration.name) (not (is_among (known_names n) c.declaration.name)) p.1 in
    is_in (names_assigned before) y (ap (is_among (names_assigned before)) c.name ∙ r.0)

new_same : (before n : Nest) (xs : List (List ℕ)) → new_symbols before n ≡ xs → IsPlain n.body → IsLoop n.body → IsSameButText before n (with_new n xs)
new_same before n [] e plain loop = record {
  assigned = assigned_in (nest_statements n);
  rest = refl;
  loops = refl;
  kept = λ y i. i;
  new = λ y i. inl i;
}
new_same before n (x ∷ xs) e plain loop =
    let m = with_nest_symbols n (x ∷ xs) in
    let same = all_same n (x ∷ xs) plain loop in
    let has = mapped_nest_has (each_canonised m.symbols) m same.loop same.plain in
    record {
      assigned = λ y i. same.assigned y.statement.left.name
          (mapped_in (settled_standing m.symbols) (λ z. refl) m (with_texts m)
          (has.statements ∙ settled_standings m.symbols 0 (nest_statements m)) y i);
      rest = ap (λ (k : Nest). record k { body = (with_texts m).body }) same.rest;
      loops = ap (map without_trip) has.loops ∙ same.loops;
      kept = same.kept;
      new = λ y i. by y (symbols_are n (x ∷ xs) y i);
    }
  where
    by : (y : List ℕ) → In y n.symbols ⊎ In y (x ∷ xs) → In y n.symbols ⊎ In y (names_assigned before)
    by y (inl i) = inl i
    by y (inr i) = inr (was_assigned before n y (subst (In y) (sym e) i))

pub nest_with_symbols_is_same_but_text : NestWithSymbolsIsSameButText
unfolding with_symbols_found
nest_with_symbols_is_same_but_text before n plain loop = new_same before n (new_symbols before n) refl plain loop

-- ---- whatever stands behind

with_behind : (n : Nest) (after : Block) (xs : List (List ℕ)) → with_nest_symbols (record n { after = after }) xs ≡ record (with_nest_symbols n xs) { after = after }
with_behind n after [] = refl
with_behind n after (x ∷ xs) = with_behind (with_nest_symbol n x) after xs

new_behind : (n : Nest) (after : Block) (xs : List (List ℕ)) → with_new (record n { after = after }) xs ≡ record (with_new n xs) { after = after }
new_behind n after [] = refl
new_behind n after (x ∷ xs) = ap with_texts (with_behind n after (x ∷ xs))

pub symbols_are_found_with_anything_behind : SymbolsAreFoundWithAnythingBehind
unfolding with_symbols_found
symbols_are_found_with_anything_behind before n after = new_behind n after (new_symbols before n)
