-- What a nest whose symbols were found anew has of the nest before.
use Rattle.std.proofs.Common.{◌≡◌, ◌⊎◌, inl, inr, refl, sym, ap, ◌∙◌, subst, ℕ, ◌≤◌, Contains, List, [], ◌∷◌, map, length}
use Rattle.std.specs.List.{AllByRecursion}
use Rattle.meaning.specs.Names.{IsInByteOrder}
use Rattle.meaning.specs.Typed.{declared}
use Rattle.nest.specs.Plain.{Choice, Jump, Label, Loop, Nest, Part, Parts, Run, Turns}
use Rattle.nest_order.proofs.orders.Membership.{map-In}
use Rattle.nest_order.specs.orders.Lists.{In}
use Rattle.pass_laws.proofs.NormalFacts.FoundSymbols.{chosen}
use Rattle.pass_laws.proofs.PreparedNests.Lists.{Contains-In, In-Contains}
use Rattle.statement_passes.specs.Shifted.{with_nest_symbol, with_nest_symbols}
use Rattle.statement_passes.specs.Standings.{IsLoop}
use Rattle.statement_passes.specs.Symbols.{place_among}
use Rattle.symbols_anew.specs.Found.{is_new, known_names, names_assigned, new_symbols}
use Rattle.symbols_anew.specs.Nests.{each_canonised, with_new, with_symbols_found, with_texts}
use Rattle.prepared_passes.proofs.SymbolsAnew.Comes.{loop_stays, symbols_are}
use Rattle.prepared_passes.proofs.SymbolsAnew.Same.{mapped_loop}
use Rattle.prepared_passes.specs.symbols.Sources.{IsOfSource, names_declared}
use Rattle.tree.specs.Names.{IsSourceName}
use Rattle.tree.specs.Plain.{Declaration}

-- ---- what stays, whatever nest it was made of

symbols_rest : (n : Nest) (xs : List (List ℕ))
    → with_nest_symbols n xs ≡ record n { symbols = (with_nest_symbols n xs).symbols; body = (with_nest_symbols n xs).body }
symbols_rest n [] = refl
symbols_rest n (x ∷ xs) = symbols_rest (with_nest_symbol n x) xs

new_rest : (n : Nest) (xs : List (List ℕ))
    → with_new n xs ≡ record n { symbols = (with_new n xs).symbols; body = (with_new n xs).body }
new_rest n [] = refl
new_rest n (x ∷ xs) =
    ap (λ (k : Nest). record k { body = (with_texts (with_nest_symbols n (x ∷ xs))).body }) (symbols_rest n (x ∷ xs))

-- all but its symbols and its body
pub rest_anew : (m j k : Nest) → k ≡ with_symbols_found m j → k ≡ record j { symbols = k.symbols; body = k.body }
unfolding with_symbols_found
rest_anew m j k anew =
    subst (λ (z : Nest). z ≡ record j { symbols = z.symbols; body = z.body }) (sym anew) (new_rest j (new_symbols m j))

pub masks_anew : (m j k : Nest) → k ≡ with_symbols_found m j → k.masks ≡ j.masks
masks_anew m j k anew = ap (λ (z : Nest). z.masks) (rest_anew m j k anew)

-- a loop stays one
symbols_loop : (n : Nest) (xs : List (List ℕ)) → IsLoop n.body → IsLoop (with_nest_symbols n xs).body
symbols_loop n [] h = h
symbols_loop n (x ∷ xs) h = symbols_loop (with_nest_symbol n x) xs (loop_stays (place_among n.symbols x) n.body h)

new_loop : (n : Nest) (xs : List (List ℕ)) → IsLoop n.body → IsLoop (with_new n xs).body
new_loop n [] h = h
new_loop n (x ∷ xs) h =
    let m = with_nest_symbols n (x ∷ xs) in mapped_loop (each_canonised m.symbols) m.body (symbols_loop n (x ∷ xs) h)

pub loop_anew : (m j k : Nest) → k ≡ with_symbols_found m j → IsLoop j.body → IsLoop k.body
unfolding with_symbols_found
loop_anew m j k anew h = subst (λ (z : Nest). IsLoop z.body) (sym anew) (new_loop j (new_symbols m j) h)

-- ---- it is of the source

symbols_new : (n : Nest) (xs : List (List ℕ)) (y : List ℕ) → In y (with_new n xs).symbols → In y n.symbols ⊎ In y xs
symbols_new n [] y i = inl i
symbols_new n (x ∷ xs) y i = symbols_are n (x ∷ xs) y i

symbols_anew : (m j k : Nest) → k ≡ with_symbols_found m j → (y : List ℕ) → In y k.symbols → In y j.symbols ⊎ In y (new_symbols m j)
unfolding with_symbols_found
symbols_anew m j k anew y i = symbols_new j (new_symbols m j) y (subst (λ (z : Nest). In y z.symbols) anew i)

every_name : (P : List ℕ → Type 0) (xs : List (List ℕ)) → AllByRecursion P xs → (x : List ℕ) → In x xs → P x
every_name P [] h x i = absurd i
every_name P (y ∷ xs) h x (inl e) = subst P (sym e) h.0
every_name P (y ∷ xs) h x (inr i) = every_name P xs h.1 x i

names_each : (P : List ℕ → Type 0) (xs : List (List ℕ)) → ((x : List ℕ) → In x xs → P x) → AllByRecursion P xs
names_each P [] f = tt
names_each P (x ∷ xs) f = (f x (inl refl), names_each P xs (λ y i. f y (inr i)))

pub source_anew : (es : List Declaration) (m j k : Nest) → k ≡ with_symbols_found m j → IsOfSource es j → IsOfSource es k
source_anew es m j k anew source = record {
  loop = loop_anew m j k anew source.loop;
  names = subst (λ (xs : List (List ℕ)). AllByRecursion IsSourceName xs) (sym names_same) source.names;
  ordered = subst (λ (xs : List (List ℕ)). IsInByteOrder xs) (sym names_same) source.ordered;
  few = (let few = source.few in subst (λ (ds : List Declaration). length ds ≤ 1000) (sym same) few);
  symbols = names_each (Contains (names_declared k)) k.symbols (λ y i. subst (λ (xs : List (List ℕ)). Contains xs y) (sym names_same) (by y (symbols_anew m j k anew y i)));
  among = λ x d e. source.among x d (ap (λ (ds : List Declaration). declared ds x) (sym same) ∙ e);
}
  where
    same : k.declarations ≡ j.declarations
    same = ap (λ (z : Nest). z.declarations) (rest_anew m j k anew)

    names_same : names_declared k ≡ names_declared j
    names_same = ap (λ (ds : List Declaration). map (λ (d : Declaration). d.name) ds) same

    by : (y : List ℕ) → In y j.symbols ⊎ In y (new_symbols m j) → Contains (names_declared j) y
    by y (inl i) = every_name (Contains (names_declared j)) j.symbols source.symbols y i
    by y (inr i) =
        let c = chosen (is_new (names_assigned m) (known_names j)) j.declarations y i in
        subst (λ x. Contains (names_declared j) x) (sym c.name)
        (In-Contains c.declaration.name (names_declared j) (map-In (λ (d : Declaration). d.name) c.declaration j.declarations (Contains-In c.declaration j.declarations c.among)))

-- ---- one loop

pub record IsOneLoop (k : Nest) : Type 0 where
  pub loop : Loop
  pub body : Parts
  pub is_loop : k.body ≡ Turns loop body

abbrev pub TurnsIn : Part → Type 0
TurnsIn q = (l : Loop) × (ps : Parts) × (q ≡ Turns l ps)

pub turns_in : (q : Part) → IsLoop q → TurnsIn q
turns_in (Turns l ps) h = (l, ps, refl)
turns_in (Run g) h = absurd h
turns_in (Choice bs ps) h = absurd h
turns_in (Label i) h = absurd h
turns_in (Jump i) h = absurd h
