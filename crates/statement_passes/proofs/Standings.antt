-- What stands in a nest whose statements were mapped, and in one with a symbol more.
use Rattle.std.proofs.Common.{◌≡◌, ℕ, ◌+◌, List, [], ◌∷◌, ◌++◌, map, length, refl, sym, ap, ap₂, ◌∙◌, append_assoc, arith, length-append}
use Rattle.std.proofs.lemmas.List.{append-nil, map-append}
use Rattle.nest.specs.Bodies.{Standing, loops_in_branches, loops_in_parts, loops_of, statements_in, statements_in_branches, statements_in_parts}
use Rattle.nest.specs.Plain.{Branches, no_branches, branch, Guarded, Loop, Part, Run, Turns, Choice, Label, Jump, Parts, no_parts, part, parts}
use Rattle.nest_order.specs.shapes.Shapes.{ArePlain, IsPlain}
use Rattle.nest_steps.specs.Mapped.{count_in, count_of, mapped_parts_of, mapped_in}
use Rattle.statement_passes.specs.Laws.{MappedNestHas, SymbolLeavesNest}
use Rattle.statement_passes.specs.Passes.{mapped_body}
use Rattle.statement_passes.specs.Shifted.{shifted_branches, shifted_loop, shifted_part, shifted_parts}
use Rattle.statement_passes.specs.Standings.{IsLoop, mapped_standings, shifted_standing, standings}
use Rattle.statement_passes.specs.Symbols.{place_among}

-- ---- lists of parts

statements-append : (ls : List Loop) (xs ys : List Part) → statements_in_parts ls (parts (xs ++ ys)) ≡ statements_in_parts ls (parts xs) ++ statements_in_parts ls (parts ys)
statements-append ls [] ys = refl
statements-append ls (x ∷ xs) ys =
    ap (λ ss. statements_in ls x ++ ss) (statements-append ls xs ys) ∙ sym (append_assoc (statements_in ls x) (statements_in_parts ls (parts xs)) (statements_in_parts ls (parts ys)))

loops-append : (xs ys : List Part) → loops_in_parts (parts (xs ++ ys)) ≡ loops_in_parts (parts xs) ++ loops_in_parts (parts ys)
loops-append [] ys = refl
loops-append (x ∷ xs) ys = ap (λ ms. loops_of x ++ ms) (loops-append xs ys) ∙ sym (append_assoc (loops_of x) (loops_in_parts (parts xs)) (loops_in_parts (parts ys)))

plain-append : (xs ys : List Part) → ArePlain (parts xs) → ArePlain (parts ys) → ArePlain (parts (xs ++ ys))
plain-append [] ys h k = k
plain-append (x ∷ xs) ys h k = (h.0, plain-append xs ys h.1 k)

-- ---- mapped statements

runs-are : (ls : List Loop) (gs : List Guarded) → statements_in_parts ls (parts (map Run gs)) ≡ standings ls gs
runs-are ls [] = refl
runs-are ls (g ∷ gs) = ap (λ (ss : List Standing). record { loops = ls; statement = g } ∷ ss) (runs-are ls gs)

no-loops : (gs : List Guarded) → loops_in_parts (parts (map Run gs)) ≡ []
no-loops [] = refl
no-loops (g ∷ gs) = no-loops gs

runs-plain : (gs : List Guarded) → ArePlain (parts (map Run gs))
runs-plain [] = tt
runs-plain (g ∷ gs) = (tt, runs-plain gs)

mutual
  count-part : (ls : List Loop) (p : Part) → IsPlain p → length (statements_in ls p) ≡ count_of p
  count-part ls (Run g) h = refl
  count-part ls (Turns l ps) h = count-parts (ls ++ l ∷ []) ps h.1
  count-part ls (Choice bs ps) h = absurd h
  count-part ls (Label n) h = absurd h
  count-part ls (Jump n) h = absurd h

  count-parts : (ls : List Loop) (ps : Parts) → ArePlain ps → length (statements_in_parts ls ps) ≡ count_in ps
  count-parts ls no_parts h = refl
  count-parts ls (part p ps) h = length-append (statements_in ls p) (statements_in_parts ls ps) ∙ ap₂ (λ m n. m + n) (count-part ls p h.0) (count-parts ls ps h.1)

module _ (each : List Loop → ℕ → Guarded → List Guarded) where
  mapped-append : (k : ℕ) (xs ys : List Standing) → mapped_standings each k (xs ++ ys) ≡ mapped_standings each k xs ++ mapped_standings each (k + length xs) ys
  mapped-append k [] ys = let same : k ≡ k + 0 = omega arith in ap (λ m. mapped_standings each m ys) same
  mapped-append k (x ∷ xs) ys =
      let same : (k + 1) + length xs ≡ k + length (x ∷ xs) = omega arith in
      ap (λ ss. standings x.loops (each x.loops k x.statement) ++ ss) (mapped-append (k + 1) xs ys)
      ∙ sym (append_assoc (standings x.loops (each x.loops k x.statement)) (mapped_standings each (k + 1) xs) (mapped_standings each ((k + 1) + length xs) ys))
      ∙ ap (λ m. (standings x.loops (each x.loops k x.statement) ++ mapped_standings each (k + 1) xs) ++ mapped_standings each m ys) same

  mutual
    part-stands : (ls : List Loop) (k : ℕ) (p : Part) → IsPlain p → statements_in_parts ls (parts (mapped_parts_of each ls k p)) ≡ mapped_standings each k (statements_in ls p)
    part-stands ls k (Run g) h = runs-are ls (each ls k g) ∙ sym (append-nil (standings ls (each ls k g)))
    part-stands ls k (Turns l ps) h =
        append-nil (statements_in_parts (ls ++ l ∷ []) (parts (mapped_in each (ls ++ l ∷ []) k ps))) ∙ parts-stand (ls ++ l ∷ []) k ps h.1
    part-stands ls k (Choice bs ps) h = absurd h
    part-stands ls k (Label n) h = absurd h
    part-stands ls k (Jump n) h = absurd h

    parts-stand : (ls : List Loop) (k : ℕ) (ps : Parts) → ArePlain ps → statements_in_parts ls (parts (mapped_in each ls k ps)) ≡ mapped_standings each k (statements_in_parts ls ps)
    parts-stand ls k no_parts h = refl
    parts-stand ls k (part p ps) h =
        statements-append ls (mapped_parts_of each ls k p) (mapped_in each ls (k + count_of p) ps)
        ∙ ap₂ (λ (xs ys : List Standing). xs ++ ys) (part-stands ls k p h.0)
        (parts-stand ls (k + count_of p) ps h.1 ∙ ap (λ m. mapped_standings each (k + m) (statements_in_parts ls ps)) (sym (count-part ls p h.0)))
        ∙ sym (mapped-append k (statements_in ls p) (statements_in_parts ls ps))

  mutual
    part-loops : (ls : List Loop) (k : ℕ) (p : Part) → IsPlain p → loops_in_parts (parts (mapped_parts_of each ls k p)) ≡ loops_of p
    part-loops ls k (Run g) h = no-loops (each ls k g)
    part-loops ls k (Turns l ps) h = ap (λ ms. l ∷ ms) (append-nil (loops_in_parts (parts (mapped_in each (ls ++ l ∷ []) k ps))) ∙ parts-loops (ls ++ l ∷ []) k ps h.1)
    part-loops ls k (Choice bs ps) h = absurd h
    part-loops ls k (Label n) h = absurd h
    part-loops ls k (Jump n) h = absurd h

    parts-loops : (ls : List Loop) (k : ℕ) (ps : Parts) → ArePlain ps → loops_in_parts (parts (mapped_in each ls k ps)) ≡ loops_in_parts ps
    parts-loops ls k no_parts h = refl
    parts-loops ls k (part p ps) h =
        loops-append (mapped_parts_of each ls k p) (mapped_in each ls (k + count_of p) ps)
        ∙ ap₂ (λ (xs ys : List Loop). xs ++ ys) (part-loops ls k p h.0) (parts-loops ls (k + count_of p) ps h.1)

  mutual
    part-plain : (ls : List Loop) (k : ℕ) (p : Part) → IsPlain p → ArePlain (parts (mapped_parts_of each ls k p))
    part-plain ls k (Run g) h = runs-plain (each ls k g)
    part-plain ls k (Turns l ps) h = ((h.0, parts-plain (ls ++ l ∷ []) k ps h.1), tt)
    part-plain ls k (Choice bs ps) h = absurd h
    part-plain ls k (Label n) h = absurd h
    part-plain ls k (Jump n) h = absurd h

    parts-plain : (ls : List Loop) (k : ℕ) (ps : Parts) → ArePlain ps → ArePlain (parts (mapped_in each ls k ps))
    parts-plain ls k no_parts h = tt
    parts-plain ls k (part p ps) h = plain-append (mapped_parts_of each ls k p) (mapped_in each ls (k + count_of p) ps) (part-plain ls k p h.0) (parts-plain ls (k + count_of p) ps h.1)

  record Stands (p q : Part) : Type 0 where
    pub plain : IsPlain q
    pub loops : loops_of q ≡ loops_of p
    pub statements : statements_in [] q ≡ mapped_standings each 0 (statements_in [] p)

  body-stands : (p : Part) → IsLoop p → IsPlain p → Stands p (mapped_body each p)
  body-stands (Turns l ps) h k = record {
    plain = (k.0, parts-plain (l ∷ []) 0 ps k.1);
    loops = ap (λ ms. l ∷ ms) (parts-loops (l ∷ []) 0 ps k.1);
    statements = parts-stand (l ∷ []) 0 ps k.1;
  }
  body-stands (Run g) h k = absurd h
  body-stands (Choice bs ps) h k = absurd h
  body-stands (Label n) h k = absurd h
  body-stands (Jump n) h k = absurd h

pub mapped_nest_has : MappedNestHas
mapped_nest_has each n h k =
    let s = body-stands each n.body h k in
    record { plain = s.plain; loops = s.loops; statements = s.statements }

-- ---- a symbol more

module _ (at : ℕ) where
  abbrev All-shifted : List Loop → List Loop
  All-shifted ls = map (shifted_loop at) ls

  one-within : (ls : List Loop) (l : Loop) → All-shifted ls ++ shifted_loop at l ∷ [] ≡ All-shifted (ls ++ l ∷ [])
  one-within ls l = sym (map-append (shifted_loop at) ls (l ∷ []))

  mutual
    part-shifted : (ls : List Loop) (p : Part) → statements_in (All-shifted ls) (shifted_part at p) ≡ map (shifted_standing at) (statements_in ls p)
    part-shifted ls (Run g) = refl
    part-shifted ls (Turns l ps) = ap (λ ms. statements_in_parts ms (shifted_parts at ps)) (one-within ls l) ∙ parts-shifted (ls ++ l ∷ []) ps
    part-shifted ls (Choice bs ps) =
        ap₂ (λ (xs ys : List Standing). xs ++ ys) (branches-shifted ls bs) (parts-shifted ls ps)
        ∙ sym (map-append (shifted_standing at) (statements_in_branches ls bs) (statements_in_parts ls ps))
    part-shifted ls (Label n) = refl
    part-shifted ls (Jump n) = refl

    parts-shifted : (ls : List Loop) (ps : Parts) → statements_in_parts (All-shifted ls) (shifted_parts at ps) ≡ map (shifted_standing at) (statements_in_parts ls ps)
    parts-shifted ls no_parts = refl
    parts-shifted ls (part p ps) =
        ap₂ (λ (xs ys : List Standing). xs ++ ys) (part-shifted ls p) (parts-shifted ls ps)
        ∙ sym (map-append (shifted_standing at) (statements_in ls p) (statements_in_parts ls ps))

    branches-shifted : (ls : List Loop) (bs : Branches) → statements_in_branches (All-shifted ls) (shifted_branches at bs) ≡ map (shifted_standing at) (statements_in_branches ls bs)
    branches-shifted ls no_branches = refl
    branches-shifted ls (branch test ps bs) =
        ap₂ (λ (xs ys : List Standing). xs ++ ys) (parts-shifted ls ps) (branches-shifted ls bs)
        ∙ sym (map-append (shifted_standing at) (statements_in_parts ls ps) (statements_in_branches ls bs))

  mutual
    loops-shifted : (p : Part) → loops_of (shifted_part at p) ≡ All-shifted (loops_of p)
    loops-shifted (Run g) = refl
    loops-shifted (Turns l ps) = ap (λ ms. shifted_loop at l ∷ ms) (parts-loops-shifted ps)
    loops-shifted (Choice bs ps) =
        ap₂ (λ (xs ys : List Loop). xs ++ ys) (branches-loops-shifted bs) (parts-loops-shifted ps)
        ∙ sym (map-append (shifted_loop at) (loops_in_branches bs) (loops_in_parts ps))
    loops-shifted (Label n) = refl
    loops-shifted (Jump n) = refl

    parts-loops-shifted : (ps : Parts) → loops_in_parts (shifted_parts at ps) ≡ All-shifted (loops_in_parts ps)
    parts-loops-shifted no_parts = refl
    parts-loops-shifted (part p ps) =
        ap₂ (λ (xs ys : List Loop). xs ++ ys) (loops-shifted p) (parts-loops-shifted ps) ∙ sym (map-append (shifted_loop at) (loops_of p) (loops_in_parts ps))

    branches-loops-shifted : (bs : Branches) → loops_in_branches (shifted_branches at bs) ≡ All-shifted (loops_in_branches bs)
    branches-loops-shifted no_branches = refl
    branches-loops-shifted (branch test ps bs) =
        ap₂ (λ (xs ys : List Loop). xs ++ ys) (parts-loops-shifted ps) (branches-loops-shifted bs)
        ∙ sym (map-append (shifted_loop at) (loops_in_parts ps) (loops_in_branches bs))

  mutual
    plain-shifted : (p : Part) → IsPlain p → IsPlain (shifted_part at p)
    plain-shifted (Run g) h = tt
    plain-shifted (Turns l ps) h = (record { first = h.0.first; step = h.0.step }, parts-plain-shifted ps h.1)
    plain-shifted (Choice bs ps) h = absurd h
    plain-shifted (Label n) h = absurd h
    plain-shifted (Jump n) h = absurd h

    parts-plain-shifted : (ps : Parts) → ArePlain ps → ArePlain (shifted_parts at ps)
    parts-plain-shifted no_parts h = tt
    parts-plain-shifted (part p ps) h = (plain-shifted p h.0, parts-plain-shifted ps h.1)

pub symbol_leaves_nest : SymbolLeavesNest
symbol_leaves_nest n x h = record {
  plain = plain-shifted (place_among n.symbols x) n.body h;
  loops = loops-shifted (place_among n.symbols x) n.body;
  statements = part-shifted (place_among n.symbols x) [] n.body;
}
