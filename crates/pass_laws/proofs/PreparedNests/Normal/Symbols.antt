-- The symbols of a nest that was found are prepared: INTEGER scalars of the source, in byte order.
use Rattle.std.proofs.Common.{◌≡◌, sym, subst, ℕ, Bool, true, false, cond, List, [], ◌∷◌, filter, Option}
use Rattle.std.proofs.Common.{Contains}
use Rattle.std.specs.Cmp.Lexicographic.{slice_cmp}
use Rattle.std.specs.List.{AllByRecursion}
use Rattle.std.specs.Option.{IsSomeAnd}
use Rattle.std.specs.Ordering.{nat_cmp}
use Rattle.std.specs.declared.cmp.Ordering.TheVariants.{Less}
use Rattle.find_nests.proofs.FoundLaws.{found_nest_is_loop}
use Rattle.find_nests.specs.Found.{InNest, found_in}
use Rattle.meaning.specs.Names.{IsInByteOrder}
use Rattle.meaning.specs.Typed.{declared}
use Rattle.meaning_laws.proofs.profiles.Names.{names}
use Rattle.nest.specs.Plain.{Nest}
use Rattle.nest_reasons.specs.Symbols.{is_symbol}
use Rattle.pass_laws.proofs.NormalFacts.FoundSymbols.{IsSymbolIn}
use Rattle.pass_laws.specs.normal_facts.Laws.{IsCounter}
use Rattle.rewrite.specs.Names.{names_written_in}
use Rattle.tree.specs.Plain.{Declaration, Program}

-- what is left out changes no order
later_names : (test : Declaration → Bool) (x : List ℕ) (ds : List Declaration) → AllByRecursion (λ y. slice_cmp nat_cmp x y ≡ Less) (names ds)
    → AllByRecursion (λ y. slice_cmp nat_cmp x y ≡ Less) (names (filter test ds))
later_names test x [] h = tt
later_names test x (d ∷ ds) h = by (test d) (later_names test x ds h.1)
  where
    by : (b : Bool) → AllByRecursion (λ y. slice_cmp nat_cmp x y ≡ Less) (names (filter test ds)) → AllByRecursion (λ y. slice_cmp nat_cmp x y ≡ Less) (names (cond b (d ∷ filter test ds) (filter test ds)))
    by true k = (h.0, k)
    by false k = k

pub chosen_ordered : (test : Declaration → Bool) (ds : List Declaration) → IsInByteOrder (names ds) → IsInByteOrder (names (filter test ds))
chosen_ordered test [] h = tt
chosen_ordered test (d ∷ ds) h = by (test d) (chosen_ordered test ds h.1)
  where
    by : (b : Bool) → IsInByteOrder (names (filter test ds)) → IsInByteOrder (names (cond b (d ∷ filter test ds) (filter test ds)))
    by true k = (later_names test d.name ds h.0, k)
    by false k = k

pub symbols_ordered : (p : Program) (n : Nest) → IsInByteOrder (names p.declarations) → Contains (found_in p) (InNest n) → IsInByteOrder n.symbols
symbols_ordered p n ordered h =
    let f = found_nest_is_loop p n h in
    subst (λ (n : Nest). IsInByteOrder n.symbols) (sym f.is) (chosen_ordered (is_symbol f.loop.loop.loop.variable (names_written_in f.loop.loop.loop.body)) p.declarations ordered)

pub symbol_counter : (es : List Declaration) (y : List ℕ) → IsSymbolIn es y → IsSomeAnd (declared es y) IsCounter
symbol_counter es y h =
    subst (λ (o : Option Declaration). IsSomeAnd o IsCounter) (sym h.found) (record { kind = h.kind; scalar = h.scalar })
