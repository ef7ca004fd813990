-- Inductions grow as they did in a nest into whose symbols names have come, which is run as it was.
use Rattle.std.proofs.Common.{◌≡◌, ◌⊎◌, refl, sym, ap, ap₂, ◌∙◌, subst, ℕ, ◌+◌, ◌<◌, ◌≤◌, Bool, false, List, [], ◌∷◌, ◌++◌, map}
use Rattle.std.specs.List.{AllByRecursion}
use Rattle.std.specs.Str.{bytes_eq}
use Rattle.std.proofs.lemmas.List.{map-append}
use Rattle.tree.specs.Plain.{Expression}
use Rattle.nest.specs.Blocks.{statement_of_part}
use Rattle.nest.specs.Plain.{Choice, Jump, Label, Loop, Nest, Part, Parts, Run, Turns, no_parts, part}
use Rattle.nest_steps.specs.Mapped.{count_in, count_of}
use Rattle.statement_passes.specs.Shifted.{shifted_loop, shifted_part, shifted_parts, with_nest_symbol, with_nest_symbols}
use Rattle.statement_passes.specs.Symbols.{place_among}
use Rattle.statement_passes.proofs.Shifting.{shifted_runs_alike}
use Rattle.inductions.specs.Together.{AllGrowIn, Counts, Fits, FitIn}
use Rattle.inductions.specs.declared.found.Induction.{Induction}

module _ (at : ℕ) where
  mutual
    count_stays : (p : Part) → count_of (shifted_part at p) ≡ count_of p
    count_stays (Run g) = refl
    count_stays (Turns l ps) = counts_stay ps
    count_stays (Choice bs ps) = refl
    count_stays (Label k) = refl
    count_stays (Jump k) = refl

    counts_stay : (ps : Parts) → count_in (shifted_parts at ps) ≡ count_in ps
    counts_stay no_parts = refl
    counts_stay (part p ps) = ap₂ (λ a b. a + b) (count_stays p) (counts_stay ps)

  module _ (bits : ℕ) (counter : List ℕ) (counters kept : List ℕ → Bool) (ds : List Induction) where
    own_stays : (x : List ℕ) (ls : List Loop) → AllByRecursion (λ (o : Loop). bytes_eq x o.variable ≡ false) ls → AllByRecursion (λ (o : Loop). bytes_eq x o.variable ≡ false) (map (shifted_loop at) ls)
    own_stays x [] h = tt
    own_stays x (l ∷ ls) h = (h.0, own_stays x ls h.1)

    counts : (ls : List Loop) (l : Loop) → Counts counters ds ls l → Counts counters ds (map (shifted_loop at) ls) (shifted_loop at l)
    counts ls l h = record { first = h.first; step = h.step; counts = h.counts; own = own_stays l.variable ls h.own; last = h.last }

    mutual
      fits : (ls : List Loop) (k : ℕ) (p : Part) → Fits bits counter counters kept ds ls k p → Fits bits counter counters kept ds (map (shifted_loop at) ls) k (shifted_part at p)
      fits ls k (Run g) h = h
      fits ls k (Turns l ps) h = (
        counts ls l h.0,
        λ d is. subst (λ n. (d.place < k) ⊎ (k + n ≤ d.place)) (sym (counts_stay ps)) (h.1 d is),
        subst (λ ms. FitIn bits counter counters kept ds ms k (shifted_parts at ps)) (map-append (shifted_loop at) ls (l ∷ [])) (fit_in (ls ++ l ∷ []) k ps h.2),
      )
      fits ls k (Choice bs ps) h = h
      fits ls k (Label j) h = h
      fits ls k (Jump j) h = h

      fit_in : (ls : List Loop) (k : ℕ) (ps : Parts) → FitIn bits counter counters kept ds ls k ps → FitIn bits counter counters kept ds (map (shifted_loop at) ls) k (shifted_parts at ps)
      fit_in ls k no_parts h = tt
      fit_in ls k (part p ps) h =
          (fits ls k p h.0, subst (λ n. FitIn bits counter counters kept ds (map (shifted_loop at) ls) (k + n) (shifted_parts at ps)) (sym (count_stays p)) (fit_in ls (k + count_of p) ps h.1))

    pub all_grow : (l : Loop) (ps : Parts) → AllGrowIn bits counter counters kept ds l ps → AllGrowIn bits counter counters kept ds (shifted_loop at l) (shifted_parts at ps)
    all_grow l ps h = record {
      counts = counts [] l h.counts;
      variable = h.variable;
      places = λ d is. subst (λ n. d.place < n) (sym (counts_stay ps)) (h.places d is);
      some = subst (λ n. 0 < n) (sym (counts_stay ps)) h.some;
      fit = fit_in (l ∷ []) 0 ps h.fit;
    }

-- ---- the nest

-- it is a loop, in which they grow
pub record GrowsIn (bits : ℕ) (counter : List ℕ) (counters kept : List ℕ → Bool) (ds : List Induction) (last : Expression) (m : Nest) : Type 0 where
  pub loop : Loop
  pub parts : Parts
  pub is : m.body ≡ Turns loop parts
  pub last_is : loop.last ≡ last
  pub grow : AllGrowIn bits counter counters kept ds loop parts

module _ (bits : ℕ) (counter : List ℕ) (counters kept : List ℕ → Bool) (ds : List Induction) (last : Expression) where
  one_more : (n : Nest) (x : List ℕ) → GrowsIn bits counter counters kept ds last n → GrowsIn bits counter counters kept ds last (with_nest_symbol n x)
  one_more n x h = record {
    loop = shifted_loop (place_among n.symbols x) h.loop;
    parts = shifted_parts (place_among n.symbols x) h.parts;
    is = ap (shifted_part (place_among n.symbols x)) h.is;
    last_is = h.last_is;
    grow = all_grow (place_among n.symbols x) bits counter counters kept ds h.loop h.parts h.grow;
  }

  pub with_more : (n : Nest) (xs : List (List ℕ)) → GrowsIn bits counter counters kept ds last n → GrowsIn bits counter counters kept ds last (with_nest_symbols n xs)
  with_more n [] h = h
  with_more n (x ∷ xs) h = with_more (with_nest_symbol n x) xs (one_more n x h)

pub record IsRunAlike (n m : Nest) : Type 0 where
  pub line : m.line ≡ n.line
  pub runs : (line : ℕ) → statement_of_part line m.body ≡ statement_of_part line n.body

pub run_alike : (n : Nest) (xs : List (List ℕ)) → IsRunAlike n (with_nest_symbols n xs)
run_alike n [] = record { line = refl; runs = λ line. refl }
run_alike n (x ∷ xs) =
    let more = run_alike (with_nest_symbol n x) xs in
    record { line = more.line; runs = λ line. more.runs line ∙ shifted_runs_alike line (place_among n.symbols x) n.body }
