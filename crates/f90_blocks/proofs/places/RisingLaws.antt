-- The lines of statements rise.
use Rattle.std.proofs.Common.{arith, ◌≡◌, ◌+◌, ◌<◌, ◌≤◌, ℕ, zero, suc, List, [], ◌∷◌, ◌++◌, length, map, flat_map}
use Rattle.std.proofs.Common.{get_or, refl, ap, sym, subst, ◌∙◌, append_assoc, Option}
use Rattle.std.specs.List.{AllByRecursion}
use Rattle.std.specs.Str.Lines.{lines}
use Rattle.std.proofs.lemmas.List.{length-append}
use Rattle.tree.specs.declared.stmts.Mark.{Mark}
use Rattle.f90_grammar.specs.FreeForm.{FreeStatement, CommentedPiece, AreStatements, written_block, written_piece}
use Rattle.f90_grammar.specs.FreeForm.AreStatements.{ends, begins}
use Rattle.f90_grammar.specs.Blocks.{Placed}
use Rattle.f90_grammar.specs.Reading.{HaveForms}
use Rattle.f90_blocks.specs.places.Rising.{StatementsRise, PlacesRise}

-- ---- numbers that rise

abbrev AreAbove : ℕ → List ℕ → Type 0
AreAbove n ns = AllByRecursion (λ (m : ℕ). n < m) ns

abbrev Rise : List ℕ → Type 0
Rise [] = Unit {0}
Rise (n ∷ ns) = AreAbove n ns × Rise ns

above_at : (n : ℕ) (ns : List ℕ) (j : ℕ) → AreAbove n ns → j < length ns → n < get_or ns j 0
above_at n [] j h l = absurd (omega arith)
above_at n (m ∷ ns) zero h l = h.0
above_at n (m ∷ ns) (suc j) h l = above_at n ns j h.1 (omega arith)

rise_at : (ns : List ℕ) (i j : ℕ) → Rise ns → i < j → j < length ns → get_or ns i 0 < get_or ns j 0
rise_at [] i j h l m = absurd (omega arith)
rise_at (n ∷ ns) zero zero h l m = absurd (omega arith)
rise_at (n ∷ ns) zero (suc j) h l m = above_at n ns j h.0 (omega arith)
rise_at (n ∷ ns) (suc i) zero h l m = absurd (omega arith)
rise_at (n ∷ ns) (suc i) (suc j) h l m = rise_at ns i j h.1 (omega arith) (omega arith)

lower : (n m : ℕ) (ns : List ℕ) → n ≤ m → AreAbove m ns → AreAbove n ns
lower n m [] l h = tt
lower n m (k ∷ ns) l h = (let q : m < k = h.0 in omega arith, lower n m ns l h.1)

-- ---- lines

abbrev lines_of : List FreeStatement → List ℕ
lines_of ss = map (λ (s : FreeStatement). s.line) ss

abbrev places_lines : List Placed → List ℕ
places_lines ps = map (λ (p : Placed). p.line) ps

longer : (b : CommentedPiece) (bs : List CommentedPiece) → length b.comments < length (flat_map written_block (b ∷ bs))
longer b bs =
    omega (
      arith,
      length-append (written_block b) (flat_map written_block bs),
      length-append b.comments
          (written_piece b.piece ∷ []),
    )

-- a text from the line n on has no statements in lines before it
later : (n : ℕ) (ls : List (List ℕ)) (ss : List FreeStatement) → AreStatements n ls ss → (m : ℕ) → m < n
    → AreAbove m (lines_of ss)
later n ls ss (ends k comments c) m l = tt
later n ls ss (begins k b bs ahead within rest more c p a w h) m l =
    (omega arith, later _ rest more h m (omega arith))

rise : (n : ℕ) (ls : List (List ℕ)) (ss : List FreeStatement) → AreStatements n ls ss → Rise (lines_of ss)
rise n ls ss (ends k comments c) = tt
rise n ls ss (begins k b bs ahead within rest more c p a w h) =
    let g = longer b bs in
    (later _ rest more h (k + length b.comments) (omega arith), rise _ rest more h)

same_lines : (m : Option Mark) (ss : List FreeStatement) (ps : List Placed) → HaveForms m ss ps
    → lines_of ss ≡ places_lines ps
same_lines m [] [] h = refl
same_lines m [] (p ∷ ps) h = absurd h
same_lines m (s ∷ ss) [] h = absurd h
same_lines m (s ∷ ss) (p ∷ ps) h =
    ap (λ (n : ℕ). n ∷ lines_of ss) (sym h.0) ∙ ap (λ (ns : List ℕ). p.line ∷ ns) (same_lines _ ss ps h.3)

-- ---- at places

at_length : {A : Type 0} (f : A → ℕ) (before : List A) (x : A) (after : List A)
    → get_or (map f (before ++ x ∷ after)) (length before) 0 ≡ f x
at_length f [] x after = refl
at_length f (y ∷ before) x after = at_length f before x after

within : {A : Type 0} (f : A → ℕ) (before : List A) (x : A) (after : List A)
    → length before < length (map f (before ++ x ∷ after))
within f [] x after = omega arith
within f (y ∷ before) x after = let h = within f before x after in omega arith

rise_between : {A : Type 0} (f : A → ℕ) (xs a b c d : List A) (x y : A) → xs ≡ a ++ x ∷ c → xs ≡ b ++ y ∷ d
    → length a < length b → Rise (map f xs) → f x < f y
rise_between f xs a b c d x y e g l h =
    let i : get_or (map f xs) (length a) 0 ≡ f x
    = ap (λ (q : List _). get_or (map f q) (length a) 0) e ∙ at_length f a x c in
    let j : get_or (map f xs) (length b) 0 ≡ f y
    = ap (λ (q : List _). get_or (map f q) (length b) 0) g ∙ at_length f b y d in
    let w : length b < length (map f xs)
    = subst (λ (q : List _). length b < length (map f q)) (sym g) (within f b y d) in
    let r = rise_at (map f xs) (length a) (length b) h l w in
    omega arith

pub statements_rise : StatementsRise
statements_rise text before between after s t h =
    rise_between (λ (q : FreeStatement). q.line) (before ++ s ∷ (between ++ t ∷ after)) before (before ++ s ∷ between)
    (between ++ t ∷ after) after s t refl
    (sym (append_assoc before (s ∷ between) (t ∷ after))) (omega (arith, length-append before (s ∷ between)))
    (rise 1 (lines text) _ h)

pub places_rise : PlacesRise
places_rise text ps p q h i j l =
    rise_between (λ (k : Placed). k.line) ps p.before q.before p.after q.after p.here q.here i j l
    (subst Rise (same_lines _ h.statements ps h.have_forms) (rise 1 (lines text) h.statements h.of_lines))
