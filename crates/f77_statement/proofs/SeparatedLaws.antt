-- Reading a list with commas, part by part.
use Rattle.std.proofs.Common.{◌≡◌, ℕ, List, [], ◌∷◌, ◌++◌, map, ap, sym, ◌∙◌, refl, max, arith, append_assoc, append-nil, Err, length, ◌<◌}
use Rattle.std.specs.List.{AllByRecursion}
use Rattle.std.proofs.lemmas.List.{map-append, length-map, length-append}
use Rattle.f77_grammar.specs.expressions.Words as words
use Rattle.f77_grammar.specs.expressions.Words.{Word77}
use Rattle.f77_grammar.specs.statements.Forms.{separated77, followed77, deepest}
use Rattle.reading.specs.Characters.{IsList}
use Rattle.reading.specs.declared.stops.Stop.{Stop}
use Rattle.reading.specs.declared.stops.Stop.TheVariants.{Syntax, Memory}
use Rattle.f77_expressions.specs.declared.tokens.Token.{Token}
use Rattle.f77_expressions.specs.Tokens.{word_of}
use Rattle.f77_expressions.specs.Views.{words_of}
use Rattle.f77_statement.specs.Parts.{Given, capped}
use Rattle.f77_statement.proofs.CappedLaws.{capped_max}
use Rattle.f77_statement.specs.Separated.{EndsPart, EndsList, BeginsWithList, StillToRead, Reads, IsRead}

max_assoc : (a b c : ℕ) → max a (max b c) ≡ max (max a b) c
max_assoc a b c = omega arith

capped_nothing : (a : ℕ) → max a 0 ≡ a
capped_nothing a = omega arith

module _ {A T : Type 0} (write : A → List Word77) (good : A → Type 0) (tree : A → T) (depth : A → ℕ) where
  followed_more : (xs : List A) (x : A) → followed77 write (xs ++ x ∷ []) ≡ followed77 write xs ++ (words.Comma ∷ write x)
  followed_more [] x = ap (λ (q : List Word77). words.Comma ∷ q) (append-nil (write x))
  followed_more (y ∷ ys) x =
      ap (λ (q : List Word77). words.Comma ∷ (write y ++ q)) (followed_more ys x) ∙ ap (λ (q : List Word77). words.Comma ∷ q) (sym (append_assoc (write y) (followed77 write ys) (words.Comma ∷ write x)))

  separated_more : (x : A) (xs : List A) (y : A) → separated77 write ((x ∷ xs) ++ y ∷ []) ≡ separated77 write (x ∷ xs) ++ (words.Comma ∷ write y)
  separated_more x xs y = ap (λ (q : List Word77). write x ++ q) (followed_more xs y) ∙ sym (append_assoc (write x) (followed77 write xs) (words.Comma ∷ write y))

  deepest_more : (xs : List A) (x : A) → deepest depth (xs ++ x ∷ []) ≡ max (deepest depth xs) (depth x)
  deepest_more [] x = omega arith
  deepest_more (y ∷ ys) x = ap (max (depth y)) (deepest_more ys x) ∙ max_assoc (depth y) (deepest depth ys) (depth x)

  all_more : (xs : List A) (x : A) → AllByRecursion good xs → good x → AllByRecursion good (xs ++ x ∷ [])
  all_more [] x h g = (g, tt)
  all_more (y ∷ ys) x h g = (h.0, all_more ys x h.1 g)

  list_more : (xs : List A) (x : A) → IsList good xs → good x → IsList good (xs ++ x ∷ [])
  list_more [] x h g = absurd h
  list_more (y ∷ ys) x h g = (h.0, all_more ys x h.1 g)

  separated_list : (xs : List A) (y : A) → IsList good xs → separated77 write (xs ++ y ∷ []) ≡ separated77 write xs ++ (words.Comma ∷ write y)
  separated_list [] y h = absurd h
  separated_list (x ∷ xs) y h = separated_more x xs y

  -- the first part
  pub list_begun : (ws rest : List Word77) (x : A) (t : T) (d : ℕ) → good x → t ≡ tree x → d ≡ capped (depth x) → ws ≡ write x ++ rest → BeginsWithList write good tree depth ws (t ∷ []) d rest
  list_begun ws rest x t d g e k s =
      record {
        parts = x ∷ [];
        are = (g, tt);
        trees = ap (λ (q : T). q ∷ []) e;
        deep = k ∙ ap capped (sym (capped_nothing (depth x)));
        same = s ∙ ap (λ (q : List Word77). q ++ rest) (sym (append-nil (write x)));
      }

  -- one part more
  pub list_grown : (ws rest more behind : List Word77) (made : List T) (d : ℕ) (x : A) (t : T) (k n : ℕ) → BeginsWithList write good tree depth ws made d rest → rest ≡ words.Comma ∷ more
      → good x → t ≡ tree x → k ≡ capped (depth x) → more ≡ write x ++ behind → n ≡ max d k → BeginsWithList write good tree depth ws (made ++ t ∷ []) n behind
  list_grown ws rest more behind made d x t k n h r g e m s w =
      record {
        parts = h.parts ++ x ∷ [];
        are = list_more h.parts x h.are g;
        trees = ap (λ (q : List T). q ++ t ∷ []) h.trees ∙ ap (λ (q : T). map tree h.parts ++ q ∷ []) e ∙ sym (map-append tree h.parts (x ∷ []));
        deep = w ∙ ap (λ (q : ℕ). max q k) h.deep ∙ ap (max (capped (deepest depth h.parts))) m ∙ capped_max (deepest depth h.parts) (depth x) ∙ ap capped (sym (deepest_more h.parts x));
        same =
            h.same ∙ ap (λ (q : List Word77). separated77 write h.parts ++ q) (r ∙ ap (λ (q : List Word77). words.Comma ∷ q) s)
            ∙ sym (append_assoc (separated77 write h.parts) (words.Comma ∷ write x) behind) ∙ ap (λ (q : List Word77). q ++ behind) (sym (separated_list h.parts x h.are));
      }

  ends_followed : (xs : List A) (last : List Word77) → EndsList last → EndsPart (followed77 write xs ++ last)
  ends_followed [] [] h = tt
  ends_followed [] (words.Close ∷ last) h = tt
  ends_followed [] (w ∷ last) h = absurd h
  ends_followed (x ∷ xs) last h = tt

  no_comma : (more last : List Word77) → EndsList last → last ≡ words.Comma ∷ more → ⊥
  no_comma more [] h e = cc
  no_comma more (words.Close ∷ last) h e = cc
  no_comma more (w ∷ last) h e = absurd h

  -- the first part
  pub reads_begun : (ws rest : List Word77) (t : T) (d : ℕ) → ((x : A) (r : List Word77) → good x → EndsPart r → ws ≡ write x ++ r → (t ≡ tree x) × (d ≡ capped (depth x)) × (rest ≡ r))
      → Reads write good tree depth ws (t ∷ []) d rest
  reads_begun ws rest t d only [] last h e s = absurd h
  reads_begun ws rest t d only (x ∷ xs) last h e s =
      let k = only x (followed77 write xs ++ last) h.0 (ends_followed xs last e) (s ∙ append_assoc (write x) (followed77 write xs) last) in
      record {
        front = x ∷ [];
        back = xs;
        all = refl;
        are = h.1;
        trees = ap (λ (q : T). q ∷ []) k.0;
        deep = k.1 ∙ ap capped (sym (capped_nothing (depth x)));
        same = k.2;
      }

  grown : (parts : List A) (last rest more behind : List Word77) (made : List T) (d : ℕ) (t : T) (k n : ℕ) (front back : List A) → parts ≡ front ++ back → AllByRecursion good back → made ≡ map tree front → d ≡ capped (deepest depth front)
      → rest ≡ followed77 write back ++ last → EndsList last → rest ≡ words.Comma ∷ more
      → ((x : A) (r : List Word77) → good x → EndsPart r → more ≡ write x ++ r → (t ≡ tree x) × (k ≡ capped (depth x)) × (behind ≡ r)) → n ≡ max d k
      → StillToRead write good tree depth parts last (made ++ t ∷ []) n behind
  grown parts last rest more behind made d t k n front [] p a m e s l c only w = absurd (no_comma more last l (sym s ∙ c))
  grown parts last rest more behind made d t k n front (y ∷ ys) p a m e s l c only w =
      let j : words.Comma ∷ more ≡ words.Comma ∷ ((write y ++ followed77 write ys) ++ last) = sym c ∙ s in
      let q : more ≡ (write y ++ followed77 write ys) ++ last = cc in
      let h = only y (followed77 write ys ++ last) a.0 (ends_followed ys last l) (q ∙ append_assoc (write y) (followed77 write ys) last) in
      record {
        front = front ++ y ∷ [];
        back = ys;
        all = p ∙ sym (append_assoc front (y ∷ []) ys);
        are = a.1;
        trees = ap (λ (q : List T). q ++ t ∷ []) m ∙ ap (λ (q : T). map tree front ++ q ∷ []) h.0 ∙ sym (map-append tree front (y ∷ []));
        deep = w ∙ ap (λ (q : ℕ). max q k) e ∙ ap (max (capped (deepest depth front))) h.1 ∙ capped_max (deepest depth front) (depth y) ∙ ap capped (sym (deepest_more front y));
        same = h.2;
      }

  -- one part more
  pub reads_grown : (ws rest more behind : List Word77) (made : List T) (d : ℕ) (t : T) (k n : ℕ) → Reads write good tree depth ws made d rest → rest ≡ words.Comma ∷ more
      → ((x : A) (r : List Word77) → good x → EndsPart r → more ≡ write x ++ r → (t ≡ tree x) × (k ≡ capped (depth x)) × (behind ≡ r)) → n ≡ max d k
      → Reads write good tree depth ws (made ++ t ∷ []) n behind
  reads_grown ws rest more behind made d t k n h c only w parts last g l s =
      let q = h parts last g l s in
      grown parts last rest more behind made d t k n q.front q.back q.all q.are q.trees q.deep q.same l c only w

  ended : (parts : List A) (last rest : List Word77) (made : List T) (d : ℕ) (front back : List A) → parts ≡ front ++ back → made ≡ map tree front → d ≡ capped (deepest depth front)
      → rest ≡ followed77 write back ++ last → ((more : List Word77) → rest ≡ words.Comma ∷ more → ⊥) → IsRead write good tree depth parts last made d rest
  ended parts last rest made d front [] p m e s n =
      let q : parts ≡ front = p ∙ append-nil front in
      (m ∙ ap (map tree) (sym q), e ∙ ap (λ (x : List A). capped (deepest depth x)) (sym q), s)
  ended parts last rest made d front (y ∷ ys) p m e s n = absurd (n _ s)

  -- no comma follows
  pub reads_ended : (ws rest : List Word77) (made : List T) (d : ℕ) → Reads write good tree depth ws made d rest → ((more : List Word77) → rest ≡ words.Comma ∷ more → ⊥)
      → (parts : List A) (last : List Word77) → IsList good parts → EndsList last → ws ≡ separated77 write parts ++ last → IsRead write good tree depth parts last made d rest
  reads_ended ws rest made d h n parts last g l s =
      let q = h parts last g l s in
      ended parts last rest made d q.front q.back q.all q.trees q.deep q.same n

  -- no part is read where one has to stand
  pub list_err : {B C : Type 0} (P : B → Type 0) (Q : A → List Word77 → C → Type 0) (ws : List Word77) (e : Stop) → ((x : A) (r : List Word77) → good x → EndsPart r → ws ≡ write x ++ r → Given (Err e) (Q x r))
      → (parts : List A) (last : List Word77) → IsList good parts → EndsList last → ws ≡ separated77 write parts ++ last → Given (Err e) P
  list_err P Q ws Syntax only [] last g l s = absurd g
  list_err P Q ws Syntax only (x ∷ xs) last g l s = only x (followed77 write xs ++ last) g.0 (ends_followed xs last l) (s ∙ append_assoc (write x) (followed77 write xs) last)
  list_err P Q ws Memory only parts last g l s = tt

  more_err : {C : Type 0} (Q : A → List Word77 → C → Type 0) (rest more last : List Word77) (back : List A) → AllByRecursion good back → rest ≡ followed77 write back ++ last → EndsList last → rest ≡ words.Comma ∷ more
      → ((x : A) (r : List Word77) → good x → EndsPart r → more ≡ write x ++ r → Given (Err Syntax) (Q x r)) → ⊥
  more_err Q rest more last [] a s l c only = no_comma more last l (sym s ∙ c)
  more_err Q rest more last (y ∷ ys) a s l c only =
      let j : words.Comma ∷ more ≡ words.Comma ∷ ((write y ++ followed77 write ys) ++ last) = sym c ∙ s in
      let q : more ≡ (write y ++ followed77 write ys) ++ last = cc in
      only y (followed77 write ys ++ last) a.0 (ends_followed ys last l) (q ∙ append_assoc (write y) (followed77 write ys) last)

  pub grown_err : {B C : Type 0} (P : B → Type 0) (Q : A → List Word77 → C → Type 0) (ws rest more : List Word77) (made : List T) (d : ℕ) (e : Stop) → Reads write good tree depth ws made d rest → rest ≡ words.Comma ∷ more
      → ((x : A) (r : List Word77) → good x → EndsPart r → more ≡ write x ++ r → Given (Err e) (Q x r))
      → (parts : List A) (last : List Word77) → IsList good parts → EndsList last → ws ≡ separated77 write parts ++ last → Given (Err e) P
  grown_err P Q ws rest more made d Syntax h c only parts last g l s =
      let q = h parts last g l s in
      more_err Q rest more last q.back q.are q.same l c only
  grown_err P Q ws rest more made d Memory h c only parts last g l s = tt

-- what follows a comma and a part is shorter
pub shorter : (rest more behind : List Token) (front : List Word77) → words_of rest ≡ words.Comma ∷ words_of more → words_of more ≡ front ++ words_of behind → length behind < length rest
shorter rest more behind front c s =
    let a : length (words_of rest) ≡ length (words.Comma ∷ words_of more) = ap length c in
    let b : length (words_of more) ≡ length (front ++ words_of behind) = ap length s in
    omega (arith, length-map rest word_of, length-map more word_of, length-map behind word_of, length-append front (words_of behind))
