-- Texts of printable characters alone.
use Rattle.std.proofs.Common.{◌≡◌, refl, ℕ, zero, suc, ◌+◌, ◌/◌, ◌%◌, ◌<◌, ◌≤◌, ◌==◌, ℤ, pos, negsuc, Bool, true, false}
use Rattle.std.proofs.Common.{cond, ◌&&◌, ◌||◌, List, [], ◌∷◌, ◌++◌, take, drop, codes, decimal, arith, mod-lt, lit<}
use Rattle.std.proofs.Common.{lit≤}
use Rattle.std.specs.Prelude.{nat_le, nat_lt}
use Rattle.std.specs.Fmt.{digit_glyph, digits_onto, digits, signed_decimal}
use Rattle.std.specs.List.{AllByRecursion, flat_map, list_all}
use Rattle.std.proofs.lemmas.Bool.{and_parts, leb-true}
use Rattle.meaning.specs.SymbolicNames.{IsSymbolicName, is_letter, is_digit}
use Rattle.listing.specs.graphs.Lines.{tuple_text}

abbrev pub IsPrintable : ℕ → Type 0
IsPrintable c = (32 ≤ c) × (c ≤ 126)

abbrev pub ArePrintable : List ℕ → Type 0
ArePrintable t = AllByRecursion IsPrintable t

pub joined : {A : Type 0} (P : A → Type 0) (xs ys : List A) → AllByRecursion P xs → AllByRecursion P ys → AllByRecursion P (xs ++ ys)
joined P [] ys h k = k
joined P (x ∷ xs) ys h k = (h.0, joined P xs ys h.1 k)

pub both : (s t : List ℕ) → ArePrintable s → ArePrintable t → ArePrintable (s ++ t)
both = joined IsPrintable

pub blank : IsPrintable 32
blank = (lit≤ tt, lit≤ tt)

-- ---- words

abbrev pub is_printable : ℕ → Bool
is_printable c = nat_le 32 c && nat_le c 126

pub word : (t : List ℕ) → list_all is_printable t ≡ true → ArePrintable t
word [] h = tt
word (c ∷ cs) h =
    let p = and_parts (is_printable c) (list_all is_printable cs) h in
    let q = and_parts (nat_le 32 c) (nat_le c 126) p.0 in
    ((leb-true 32 c q.0, leb-true c 126 q.1), word cs p.1)

within : (low high c : ℕ) → 32 ≤ low → high ≤ 126 → (nat_le low c && nat_le c high) ≡ true → IsPrintable c
within low high c h k e =
    let p = and_parts (nat_le low c) (nat_le c high) e in
    let over = leb-true low c p.0 in
    let under = leb-true c high p.1 in
    (omega (arith, h, over), omega (arith, k, under))

pub name_character : (c : ℕ) → (is_letter c || is_digit c) ≡ true → IsPrintable c
name_character c h = by (is_letter c) refl h
  where
    by : (b : Bool) → is_letter c ≡ b → (b || is_digit c) ≡ true → IsPrintable c
    by true e k = within 65 90 c (lit≤ tt) (lit≤ tt) e
    by false e k = within 48 57 c (lit≤ tt) (lit≤ tt) k

name_characters : (x : List ℕ) → list_all (λ c. is_letter c || is_digit c) x ≡ true → ArePrintable x
name_characters [] h = tt
name_characters (c ∷ cs) h =
    let p = and_parts (is_letter c || is_digit c) (list_all (λ c. is_letter c || is_digit c) cs) h in
    (name_character c p.0, name_characters cs p.1)

pub name : (x : List ℕ) → IsSymbolicName x → ArePrintable x
name x h = name_characters x h.goes_on

-- ---- numbers

glyph : (d : ℕ) → d < 10 → IsPrintable (digit_glyph false d)
glyph d h = by (nat_lt d 10)
  where
    by : (b : Bool) → IsPrintable (cond b (48 + d) (87 + d))
    by true = (omega (arith, h), omega (arith, h))
    by false = (omega (arith, h), omega (arith, h))

glyphs : (k n : ℕ) (rest : List ℕ) → ArePrintable rest → ArePrintable (digits_onto k 10 false n rest)
glyphs zero n rest h = h
glyphs (suc k) n rest h = by (n / 10 == 0) (glyphs k (n / 10) (digit_glyph false (n % 10) ∷ rest) more)
  where
    more : ArePrintable (digit_glyph false (n % 10) ∷ rest)
    more = (glyph (n % 10) (mod-lt n (lit< tt)), h)

    by : (b : Bool) → ArePrintable (digits_onto k 10 false (n / 10) (digit_glyph false (n % 10) ∷ rest))
        → ArePrintable (cond b (digit_glyph false (n % 10) ∷ rest) (digits_onto k 10 false (n / 10) (digit_glyph false (n % 10) ∷ rest)))
    by true g = more
    by false g = g

pub number : (n : ℕ) → ArePrintable (decimal n)
unfolding digits
number n = glyphs 64 n [] tt

pub signed_number : (z : ℤ) → ArePrintable (signed_decimal z)
signed_number (pos n) = number n
signed_number (negsuc n) = ((lit≤ tt, lit≤ tt), number (suc n))

-- ---- lists

pub each_text : {A : Type 0} (text : A → List ℕ) → ((x : A) → ArePrintable (text x)) → (xs : List A) → ArePrintable (flat_map text xs)
each_text text h [] = tt
each_text text h (x ∷ xs) = both (text x) (flat_map text xs) (h x) (each_text text h xs)

pub tuple : {A : Type 0} (text : A → List ℕ) → ((x : A) → ArePrintable (text x)) → (xs : List A) → ArePrintable (tuple_text text xs)
tuple text h [] = word (codes "()") refl
tuple text h (x ∷ xs) =
    let rest = flat_map (λ y. codes "," ++ text y) xs in
    both (codes "(") (text x ++ (rest ++ codes ")")) (word (codes "(") refl)
    (both (text x) (rest ++ codes ")") (h x)
    (both rest (codes ")") (each_text (λ y. codes "," ++ text y) (λ y. both (codes ",") (text y) (word (codes ",") refl) (h y)) xs) (word (codes ")") refl)))

-- ---- parts of a text

pub beginning : (n : ℕ) (t : List ℕ) → ArePrintable t → ArePrintable (take n t)
beginning zero t h = tt
beginning (suc n) [] h = tt
beginning (suc n) (c ∷ cs) h = (h.0, beginning n cs h.1)

pub end : (n : ℕ) (t : List ℕ) → ArePrintable t → ArePrintable (drop n t)
end zero t h = h
end (suc n) [] h = tt
end (suc n) (c ∷ cs) h = end n cs h.1
