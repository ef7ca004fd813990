-- Texts in parts, and their parts.
use Rattle.std.proofs.Common.{◌≡◌, ℕ, ◌<◌, ◌==◌, true, if◌then◌else◌, List, [], ◌∷◌, ◌++◌, map, take, length, reverse, refl, sym, ap, subst, ◌∙◌, append_assoc, codes, arith}
use Rattle.std.proofs.lemmas.Bool.Decides.{nat_tests}
use Rattle.std.proofs.Math.Seq.{take-append_seam}
use Rattle.std.proofs.lemmas.List.{append-nil, length-append, reverse-append}
use Rattle.std.specs.List.{AllByRecursion, flat_map}
use Rattle.listing.specs.graphs.Lines.{tuple_text}
use Rattle.listing_laws.specs.reader.Listable.{Lacks, IsWord}
use Rattle.listing_laws.specs.reader.Reader.{until, rest_behind, last_word, before_last, onto, split, or_nothing, inner, tuple}

pub same : (c : ℕ) → (c == c) ≡ true
same c = grind (arith, nat_tests)

pub until-then : (c : ℕ) (w t : List ℕ) → Lacks c w → until c (w ++ c ∷ t) ≡ w
until-then c [] t h = ap (λ b. if b then [] else c ∷ until c t) (same c)
until-then c (x ∷ w) t h = ap (λ b. if b then [] else x ∷ until c (w ++ c ∷ t)) h.0 ∙ ap (λ u. x ∷ u) (until-then c w t h.1)

pub until-all : (c : ℕ) (w : List ℕ) → Lacks c w → until c w ≡ w
until-all c [] h = refl
until-all c (x ∷ w) h = ap (λ b. if b then [] else x ∷ until c w) h.0 ∙ ap (λ u. x ∷ u) (until-all c w h.1)

pub rest_behind-then : (c : ℕ) (w t : List ℕ) → Lacks c w → rest_behind c (w ++ c ∷ t) ≡ t
rest_behind-then c [] t h = ap (λ b. if b then t else rest_behind c t) (same c)
rest_behind-then c (x ∷ w) t h = ap (λ b. if b then w ++ c ∷ t else rest_behind c (w ++ c ∷ t)) h.0 ∙ rest_behind-then c w t h.1

pub rest_behind-all : (c : ℕ) (w : List ℕ) → Lacks c w → rest_behind c w ≡ []
rest_behind-all c [] h = refl
rest_behind-all c (x ∷ w) h = ap (λ b. if b then w else rest_behind c w) h.0 ∙ rest_behind-all c w h.1

pub split-then : (c : ℕ) (w t : List ℕ) → Lacks c w → split c (w ++ c ∷ t) ≡ w ∷ split c t
split-then c [] t h = ap (λ b. if b then [] ∷ split c t else onto c (split c t)) (same c)
split-then c (x ∷ w) t h =
    ap (λ b. if b then [] ∷ split c (w ++ c ∷ t) else onto x (split c (w ++ c ∷ t))) h.0 ∙ ap (onto x) (split-then c w t h.1)

pub split-all : (c : ℕ) (w : List ℕ) → Lacks c w → split c w ≡ w ∷ []
split-all c [] h = refl
split-all c (x ∷ w) h = ap (λ b. if b then [] ∷ split c w else onto x (split c w)) h.0 ∙ ap (onto x) (split-all c w h.1)

-- ---- what lacks a byte

pub lacks-append : (c : ℕ) (v w : List ℕ) → Lacks c v → Lacks c w → Lacks c (v ++ w)
lacks-append c [] w h k = k
lacks-append c (x ∷ v) w h k = (h.0, lacks-append c v w h.1 k)

lacks-reverse : (c : ℕ) (w : List ℕ) → Lacks c w → Lacks c (reverse w)
lacks-reverse c [] h = tt
lacks-reverse c (x ∷ w) h =
    subst (Lacks c) (sym (reverse-append (x ∷ []) w)) (lacks-append c (reverse w) (x ∷ []) (lacks-reverse c w h.1) (h.0, tt))

pub reverse-twice : (w : List ℕ) → reverse (reverse w) ≡ w
reverse-twice [] = refl
reverse-twice (x ∷ w) =
    ap reverse (reverse-append (x ∷ []) w) ∙ reverse-append (reverse w) (x ∷ []) ∙ ap (λ u. x ∷ u) (reverse-twice w)

turned : (a w : List ℕ) → reverse (a ++ 32 ∷ w) ≡ reverse w ++ 32 ∷ reverse a
turned a w =
    reverse-append a (32 ∷ w) ∙ ap (λ u. u ++ reverse a) (reverse-append (32 ∷ []) w) ∙ append_assoc (reverse w) (32 ∷ []) (reverse a)

pub last-word : (a w : List ℕ) → IsWord w → last_word (a ++ 32 ∷ w) ≡ w
last-word a w h =
    ap (λ u. reverse (until 32 u)) (turned a w)
    ∙ ap reverse (until-then 32 (reverse w) (reverse a) (lacks-reverse 32 w h)) ∙ reverse-twice w

pub before-last : (a w : List ℕ) → IsWord w → before_last (a ++ 32 ∷ w) ≡ a
before-last a w h =
    ap (λ u. reverse (rest_behind 32 u)) (turned a w)
    ∙ ap reverse (rest_behind-then 32 (reverse w) (reverse a) (lacks-reverse 32 w h)) ∙ reverse-twice a

-- ---- lists

-- x is read from its text, which may stand between such bytes
pub record IsReadBetween {A : Type 0} (c : ℕ) (text : A → List ℕ) (read : List ℕ → A) (x : A) : Type 0 where
  pub lacks : Lacks c (text x)
  pub some : 0 < length (text x)
  pub back : read (text x) ≡ x

-- the texts of a list between such bytes
abbrev between : {A : Type 0} → ℕ → (A → List ℕ) → List A → List ℕ
between c text xs = flat_map (λ y. c ∷ text y) xs

pub split-list : {A : Type 0} (c : ℕ) (text : A → List ℕ) (read : List ℕ → A) (x : A) (xs : List A)
    → IsReadBetween c text read x → AllByRecursion (IsReadBetween c text read) xs
    → map read (split c (text x ++ flat_map (λ y. c ∷ text y) xs)) ≡ x ∷ xs
split-list c text read x [] h hs =
    ap (λ u. map read (split c u)) (append-nil (text x)) ∙ ap (map read) (split-all c (text x) h.lacks) ∙ ap (λ y. y ∷ []) h.back
split-list c text read x (y ∷ ys) h hs =
    ap (map read) (split-then c (text x) (text y ++ flat_map (λ y. c ∷ text y) ys) h.lacks)
    ∙ ap (λ z. z ∷ map read (split c (text y ++ flat_map (λ y. c ∷ text y) ys))) h.back
    ∙ ap (λ zs. x ∷ zs) (split-list c text read y ys (hs.0) (hs.1))

pub something : {A : Type 0} (f : List ℕ → List A) (w v : List ℕ) → 0 < length w → or_nothing f (w ++ v) ≡ f (w ++ v)
something f [] v h = absurd (omega arith)
something f (x ∷ w) v h = refl

inner-of : (u : List ℕ) → inner (40 ∷ (u ++ 41 ∷ [])) ≡ u
inner-of u =
    ap (λ n. take n (u ++ 41 ∷ [])) (omega (arith, length-append u (41 ∷ []))) ∙ take-append_seam u (41 ∷ [])

pub tuple-read : {A : Type 0} (text : A → List ℕ) (read : List ℕ → A) (xs : List A) → AllByRecursion (IsReadBetween 44 text read) xs
    → tuple read (tuple_text text xs) ≡ xs
tuple-read text read [] hs = refl
tuple-read text read (x ∷ xs) hs =
    let u = text x ++ flat_map (λ y. codes "," ++ text y) xs in
    ap (λ t. tuple read (40 ∷ t)) (sym (append_assoc (text x) (flat_map (λ y. codes "," ++ text y) xs) (41 ∷ [])))
    ∙ ap (or_nothing (λ v. map read (split 44 v))) (inner-of u)
    ∙ something (λ v. map read (split 44 v)) (text x) (flat_map (λ y. codes "," ++ text y) xs) hs.0.some
    ∙ split-list 44 text read x xs hs.0 hs.1
