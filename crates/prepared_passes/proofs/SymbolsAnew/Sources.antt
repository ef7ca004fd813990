-- What is made of a nest that is found is of its source.
use Rattle.std.proofs.Common.{◌≡◌, inl, inr, refl, sym, ap, ◌∙◌, subst, ℕ, ◌≤◌, Bool, true, false, cond, List, [], ◌∷◌, map, length, Some, None, Contains}
use Rattle.std.specs.List.{AllByRecursion}
use Rattle.std.specs.Option.{option_map}
use Rattle.tree.specs.Names.{IsSourceName}
use Rattle.tree.specs.Plain.{Block, Declaration, Program}
use Rattle.meaning.specs.Dialect.{fortran77}
use Rattle.tree.specs.declared.width.Width.{Width}
use Rattle.meaning.specs.Names.{IsInByteOrder}
use Rattle.meaning.specs.Profile77.{IsProgram77}
use Rattle.meaning.specs.Typed.{declared}
use Rattle.meaning_laws.specs.profiles.Profiles.{AddMadeNames}
use Rattle.meaning_laws.proofs.profiles.Names.{once as declared_once}
use Rattle.meaning_laws.proofs.profiles.Programs.{kept_declaration}
use Rattle.find_nests.specs.Found.{InNest, found_in}
use Rattle.find_nests.proofs.FoundLaws.{found_nest_is_loop}
use Rattle.if_convert.specs.Converted.{converted_loop, converted_nest}
use Rattle.nest.specs.Plain.{Nest, Part, Run, Turns, Choice, Label, Jump}
use Rattle.nest_order.specs.orders.Lists.{In}
use Rattle.nest_reasons.specs.Symbols.{is_symbol}
use Rattle.normal_loops.specs.Bodies.{normal_part}
use Rattle.normal_loops.specs.Loops.{nested_loops}
use Rattle.normal_loops.specs.Normal.{is_normal}
use Rattle.normal_loops.specs.Normalised.{normalised, only_one, with_body, with_loops}
use Rattle.pass_laws.proofs.NormalFacts.FoundSymbols.{chosen}
use Rattle.pass_laws.proofs.NormalMeaning.Made as texts
use Rattle.pass_laws.proofs.PreparedNests.Lists.{Contains-In, In-Contains}
use Rattle.pass_laws.proofs.PreparedNests.Normal.Sources.{declared_source}
use Rattle.rewrite.specs.Names.{names_written_in}
use Rattle.statement_passes.specs.Standings.{IsLoop}
use Rattle.prepared_passes.specs.symbols.Laws.{FoundNestIsOfSource}
use Rattle.prepared_passes.specs.symbols.Sources.{IsOfSource}

-- ---- what the passes keep

record HasSameNames (n m : Nest) : Type 0 where
  declarations : m.declarations ≡ n.declarations
  symbols : m.symbols ≡ n.symbols

with_body_names : (n : Nest) (more : Block) (p : Part) → HasSameNames n (with_body n more p)
unfolding with_body
with_body_names n more p = record { declarations = refl; symbols = refl }

module _ (n m : Nest) where
  from_bodies : (ps : List Part) → option_map (with_body n (texts.behind n)) (only_one ps) ≡ Some m → HasSameNames n m
  from_bodies [] h = let no : ⊥ = cc in absurd no
  from_bodies (p ∷ []) h =
      let same : with_body n (texts.behind n) p ≡ m = cc in
      subst (HasSameNames n) same (with_body_names n (texts.behind n) p)
  from_bodies (p ∷ q ∷ ps) h = let no : ⊥ = cc in absurd no

  from_loops : with_loops n (nested_loops n.symbols [] n.body) ≡ Some m → HasSameNames n m
  unfolding with_loops
  from_loops h = from_bodies (normal_part n (nested_loops n.symbols [] n.body) [] n.body) h

  normal_names : normalised n ≡ Some m → HasSameNames n m
  unfolding normalised
  normal_names h = by (is_normal n.symbols [] n.body) h
    where
      by : (b : Bool) → cond b (with_loops n (nested_loops n.symbols [] n.body)) None ≡ Some m → HasSameNames n m
      by true g = from_loops g
      by false g = let no : ⊥ = cc in absurd no

record IsConverted (m k : Nest) : Type 0 where
  names : HasSameNames m k
  loop : IsLoop k.body

converted_is : (masks : ℕ) (m k : Nest) → converted_nest masks m ≡ Some k → IsConverted m k
unfolding converted_nest
converted_is masks m k e = by m.body e
  where
    by : (p : Part) → elim p [
      | Run g ↦ None
      | Turns l ps ↦ Some (converted_loop m masks l ps)
      | Choice bs other ↦ None
      | Label j ↦ None
      | Jump j ↦ None
    ] ≡ Some k → IsConverted m k
    by (Run g) h = let no : ⊥ = cc in absurd no
    by (Turns l ps) h =
        let same : converted_loop m masks l ps ≡ k = cc in
        subst (IsConverted m) same (record { names = record { declarations = refl; symbols = refl }; loop = tt })
    by (Choice bs other) h = let no : ⊥ = cc in absurd no
    by (Label j) h = let no : ⊥ = cc in absurd no
    by (Jump j) h = let no : ⊥ = cc in absurd no

-- ---- the source

from_each : {A : Type 0} (P : A → Type 0) (xs : List A) → ((x : A) → In x xs → P x) → AllByRecursion P xs
from_each P [] f = tt
from_each P (x ∷ xs) f = (f x (inl refl), from_each P xs (λ y i. f y (inr i)))

named_in : (ds : List Declaration) (d : Declaration) → In d ds → In d.name (map (λ (e : Declaration). e.name) ds)
named_in [] d i = absurd i
named_in (e ∷ es) d (inl q) = inl (ap (λ (x : Declaration). x.name) q)
named_in (e ∷ es) d (inr i) = inr (named_in es d i)

record IsNamed (ds : List Declaration) (x : List ℕ) : Type 0 where
  declaration : Declaration
  among : In declaration ds
  name : declaration.name ≡ x

declaration_named : (ds : List Declaration) (x : List ℕ) → In x (map (λ (d : Declaration). d.name) ds) → IsNamed ds x
declaration_named [] x i = absurd i
declaration_named (d ∷ ds) x (inl e) = record { declaration = d; among = inl refl; name = sym e }
declaration_named (d ∷ ds) x (inr i) =
    let r = declaration_named ds x i in
    record { declaration = r.declaration; among = inr r.among; name = r.name }

module _ (width : Width) (p : Program) (n : Nest) (es : List Declaration) (is : IsProgram77 (fortran77 width) p) (among : Contains (found_in p) (InNest n))
    (added : AddMadeNames p.declarations es) where
  of_program : n.declarations ≡ p.declarations
  of_program = ap (λ (k : Nest). k.declarations) (found_nest_is_loop p n among).is

  names_source : (x : List ℕ) → In x (map (λ (d : Declaration). d.name) p.declarations) → IsSourceName x
  names_source x i =
      let r = declaration_named p.declarations x i in
      declared_source (fortran77 width) p is x r.declaration
      (ap (declared p.declarations) (sym r.name)
      ∙ declared_once p.declarations r.declaration is.declarations.ordered (In-Contains r.declaration p.declarations r.among))

  symbol_declared : (y : List ℕ) → In y n.symbols → Contains (map (λ (d : Declaration). d.name) p.declarations) y
  symbol_declared y i =
      let f = found_nest_is_loop p n among in
      let l = f.loop.loop.loop in
      let c = chosen (is_symbol l.variable (names_written_in l.body)) p.declarations y (subst (λ (k : Nest). In y k.symbols) f.is i) in
      In-Contains y (map (λ (d : Declaration). d.name) p.declarations)
      (subst (λ z. In z (map (λ (d : Declaration). d.name) p.declarations)) (sym c.name)
      (named_in p.declarations c.declaration (Contains-In c.declaration p.declarations c.among)))

  -- a loop with the same declarations and symbols
  is_of_source : (k : Nest) → IsLoop k.body → k.declarations ≡ p.declarations → k.symbols ≡ n.symbols → IsOfSource es k
  is_of_source k loop same symbols =
      let few = is.declarations.few in
      record {
        loop = loop;
        names = subst (λ (ds : List Declaration). AllByRecursion IsSourceName (map (λ (d : Declaration). d.name) ds)) (sym same)
            (from_each IsSourceName (map (λ (d : Declaration). d.name) p.declarations) names_source);
        ordered = subst (λ (ds : List Declaration). IsInByteOrder (map (λ (d : Declaration). d.name) ds)) (sym same) is.declarations.ordered;
        few = subst (λ (ds : List Declaration). length ds ≤ 1000) (sym same) few;
        symbols = subst (λ (ds : List Declaration). AllByRecursion (Contains (map (λ (d : Declaration). d.name) ds)) k.symbols) (sym same)
            (subst (AllByRecursion (Contains (map (λ (d : Declaration). d.name) p.declarations))) (sym symbols)
            (from_each (Contains (map (λ (d : Declaration). d.name) p.declarations)) n.symbols symbol_declared));
        among = λ x d e. kept_declaration p.declarations es added x d (ap (λ (ds : List Declaration). declared ds x) (sym same) ∙ e);
      }

pub found_nest_is_of_source : (width : Width) → FoundNestIsOfSource width
found_nest_is_of_source width p n m k es masks is among normal converted added =
    let one = normal_names n m normal in
    let two = converted_is masks m k converted in
    is_of_source width p n es is among added k two.loop
    (two.names.declarations ∙ (one.declarations ∙ of_program width p n es is among added)) (two.names.symbols ∙ one.symbols)
