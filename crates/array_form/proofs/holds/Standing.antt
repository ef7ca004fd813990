-- One more loop, which stands in a text or doesn't.
use Rattle.std.proofs.Common.{◌≡◌, ℕ, ◌+◌, ◌<◌, Bool, true, false, cond, List, [], ◌∷◌, ◌++◌, map, take, length, get_or, refl, sym, ap, ◌∙◌}
use mathlib.Core.Path.{ap₂}
use Rattle.std.proofs.lemmas.List.{length-map, map-append}
use Rattle.std.proofs.lemmas.List.Elements.{filter-append}
use Rattle.array_form.specs.forms.Loops as forms
use Rattle.nest.proofs.statement_loops.StandingLaws.{one_more}
use Rattle.nest.specs.statement_loops.Names as texts
use Rattle.nest.specs.Plain.{Loop, Nest}
use Rattle.array_form.specs.holds.Surroundings.{counted_loop, counted_of, may_spread, surroundings_of}
use Rattle.array_form.specs.holds.View.{surroundings_view}
use Rattle.array_form.specs.declared.holds.loops.CountedLoop.{CountedLoop}
use Rattle.array_form.proofs.holds.AmongLaws.{among-is}

map_one : {A B : Type 0} (f : A → B) (b : Bool) (x : A) → map f (cond b (x ∷ []) []) ≡ cond b (f x ∷ []) []
map_one f true x = refl
map_one f false x = refl

pub among_more : (names : List (List ℕ)) (n : ℕ) (xs : List CountedLoop) (i : ℕ) (x : CountedLoop) (old new : List CountedLoop) (b : Bool)
    → i < length xs → x ≡ get_or xs i x → b ≡ texts.is_among names x.var → new ≡ old ++ cond b (x ∷ []) []
    → map (counted_of n) old ≡ forms.loops_among (map (counted_of n) (take i xs)) names
    → map (counted_of n) new ≡ forms.loops_among (map (counted_of n) (take (i + 1) xs)) names
among_more names n xs i x old new b h is e now before =
    let p : forms.FormLoop → Bool = λ (l : forms.FormLoop). forms.is_among names l.variable in
    ap (map (counted_of n)) now ∙ map-append (counted_of n) old (cond b (x ∷ []) [])
    ∙ ap₂ (λ ls ms. ls ++ ms) before (map_one (counted_of n) b x ∙ ap (λ c. cond c (counted_of n x ∷ []) []) (e ∙ among-is names x.var))
    ∙ sym (filter-append p (map (counted_of n) (take i xs)) (counted_of n x ∷ []))
    ∙ ap (λ ls. forms.loops_among ls names) (sym (map-append (counted_of n) (take i xs) (x ∷ [])))
    ∙ ap (λ ls. forms.loops_among (map (counted_of n) ls) names) (sym (one_more xs i x h is))

-- ---- surroundings

map_twice : {A B C : Type 0} (f : B → C) (g : A → B) (xs : List A) → map f (map g xs) ≡ map (λ x. f (g x)) xs
map_twice f g [] = refl
map_twice f g (x ∷ xs) = ap (λ ys. f (g x) ∷ ys) (map_twice f g xs)

abbrev around : List forms.FormLoop → List (List ℕ) → Bool → forms.FormSurroundings
around ls xs b = record { loops = ls; symbols = xs; may_spread = b }

pub surroundings_made : (n : Nest) (ls : List Loop) (all : List CountedLoop) (symbols : List (List ℕ)) (m : Bool)
    → all ≡ map counted_loop ls → symbols ≡ n.symbols → m ≡ may_spread n
    → surroundings_view (record { loops = all; symbols = symbols; may_spread = m }) ≡ surroundings_of n ls
surroundings_made n ls all symbols m a s b =
    let loops : map (counted_of (length all)) all ≡ map (λ l. counted_of (length ls) (counted_loop l)) ls =
    ap (λ xs. map (counted_of (length xs)) xs) a ∙ ap (λ k. map (counted_of k) (map counted_loop ls)) (length-map ls counted_loop)
    ∙ map_twice (counted_of (length ls)) counted_loop ls in
    ap₂ (λ ks xs. around ks xs m) loops s ∙ ap (around (map (λ l. counted_of (length ls) (counted_loop l)) ls) n.symbols) b
