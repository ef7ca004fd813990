-- Reading a list with commas, part by part.
use Rattle.std.proofs.Common.{arith, ◌≡◌, ◌<◌, suc, List, [], ◌∷◌, ◌++◌, length, ap, sym, ◌∙◌, refl, subst, append_assoc, append-nil, Err}
use Rattle.std.specs.List.{AllByRecursion}
use Rattle.std.proofs.lemmas.List.{length-map, length-append}
use Rattle.f90_grammar.specs.Forms.{separated90, followed90}
use Rattle.reading.specs.Characters.{IsList}
use Rattle.f90_grammar.specs.Words as words
use Rattle.f90_grammar.specs.Words.{Word90}
use Rattle.f90_expressions.specs.words.Tokens.{word_of, words_of}
use Rattle.f90_expressions.specs.declared.words.tokens.Token.{Token}
use Rattle.reading.specs.declared.stops.Stop.{Stop}
use Rattle.reading.specs.declared.stops.Stop.TheVariants.{Syntax, Memory}
use Rattle.f90_statement.specs.Reading.{EndsItem, EndsList, Begins, BeginsWithList, IsThe, StillToRead, ReadsOn, Given}
use Rattle.f90_statement.specs.Views.{AreOf}

module _ {A B : Type 0} (is : A → B → Type 0) (good : B → Type 0) (write : B → List Word90) where
  are_more : (xs : List A) (bs : List B) (a : A) (b : B) → AreOf is xs bs → is a b → AreOf is (xs ++ a ∷ []) (bs ++ b ∷ [])
  are_more [] [] a b h k = (k, tt)
  are_more [] (c ∷ bs) a b h k = absurd h
  are_more (d ∷ xs) [] a b h k = absurd h
  are_more (d ∷ xs) (c ∷ bs) a b h k = (h.0, are_more xs bs a b h.1 k)

  followed_more : (xs : List B) (x : B) → followed90 write (xs ++ x ∷ []) ≡ followed90 write xs ++ (words.Comma ∷ write x)
  followed_more [] x = ap (λ (q : List Word90). words.Comma ∷ q) (append-nil (write x))
  followed_more (y ∷ ys) x =
      ap (λ (q : List Word90). words.Comma ∷ (write y ++ q)) (followed_more ys x)
      ∙ ap (λ (q : List Word90). words.Comma ∷ q) (sym (append_assoc (write y) (followed90 write ys) (words.Comma ∷ write x)))

  all_more : (xs : List B) (x : B) → AllByRecursion good xs → good x → AllByRecursion good (xs ++ x ∷ [])
  all_more [] x h g = (g, tt)
  all_more (y ∷ ys) x h g = (h.0, all_more ys x h.1 g)

  list_more : (xs : List B) (x : B) → IsList good xs → good x → IsList good (xs ++ x ∷ [])
  list_more [] x h g = absurd h
  list_more (y ∷ ys) x h g = (h.0, all_more ys x h.1 g)

  separated_more : (xs : List B) (y : B) → IsList good xs → separated90 write (xs ++ y ∷ []) ≡ separated90 write xs ++ (words.Comma ∷ write y)
  separated_more [] y h = absurd h
  separated_more (x ∷ xs) y h =
      ap (λ (q : List Word90). write x ++ q) (followed_more xs y) ∙ sym (append_assoc (write x) (followed90 write xs) (words.Comma ∷ write y))

  -- ---- what was read is a list

  pub list_begun : (ws rest : List Word90) (made : A) → Begins is good write ws made rest → BeginsWithList is good write ws (made ∷ []) rest
  list_begun ws rest made h = record {
    part = h.part ∷ [];
    is_of = (h.is_of, tt);
    is_good = (h.is_good, tt);
    same = h.same ∙ ap (λ (q : List Word90). q ++ rest) (sym (append-nil (write h.part)));
  }

  pub list_grown : (ws rest more behind : List Word90) (made : List A) (next : A) → BeginsWithList is good write ws made rest → rest ≡ words.Comma ∷ more
      → Begins is good write more next behind → BeginsWithList is good write ws (made ++ next ∷ []) behind
  list_grown ws rest more behind made next h c k = record {
    part = h.part ++ k.part ∷ [];
    is_of = are_more made h.part next k.part h.is_of k.is_of;
    is_good = list_more h.part k.part h.is_good k.is_good;
    same =
        h.same ∙ (ap (λ (q : List Word90). separated90 write h.part ++ q) (c ∙ ap (λ (q : List Word90). words.Comma ∷ q) k.same)
        ∙ (sym (append_assoc (separated90 write h.part) (words.Comma ∷ write k.part) behind)
        ∙ ap (λ (q : List Word90). q ++ behind) (sym (separated_more h.part k.part h.is_good))));
  }

  -- ---- a list is read, in one way alone

  abbrev pub IsOnly : List Word90 → A → List Word90 → Type 0
  IsOnly ws made rest = (x : B) (last : List Word90) → good x → EndsItem last → ws ≡ write x ++ last → IsThe is good write x last made rest

  ends_followed : (xs : List B) (last : List Word90) → EndsList last → EndsItem (followed90 write xs ++ last)
  ends_followed [] [] h = tt
  ends_followed [] (words.Close ∷ last) h = tt
  ends_followed [] (w ∷ last) h = absurd h
  ends_followed (x ∷ xs) last h = tt

  no_comma : (more last : List Word90) → EndsList last → last ≡ words.Comma ∷ more → ⊥
  no_comma more [] h e = cc
  no_comma more (words.Close ∷ last) h e = cc
  no_comma more (w ∷ last) h e = absurd h

  pub reads_begun : (ws rest : List Word90) (made : A) → IsOnly ws made rest → ReadsOn is good write ws (made ∷ []) rest
  reads_begun ws rest made only [] last h e s = absurd h
  reads_begun ws rest made only (x ∷ xs) last h e s =
      let k = only x (followed90 write xs ++ last) h.0 (ends_followed xs last e) (s ∙ append_assoc (write x) (followed90 write xs) last) in
      record { front = x ∷ []; back = xs; all = refl; are_good = h.1; are = (k.0, tt); same = k.1 }

  grown : (parts : List B) (last rest more behind : List Word90) (made : List A) (next : A) (front back : List B) → parts ≡ front ++ back → AllByRecursion good back
      → AreOf is made front → rest ≡ followed90 write back ++ last → EndsList last → rest ≡ words.Comma ∷ more → IsOnly more next behind
      → StillToRead is good write parts last (made ++ next ∷ []) behind
  grown parts last rest more behind made next front [] p a m s l c only = absurd (no_comma more last l (sym s ∙ c))
  grown parts last rest more behind made next front (y ∷ ys) p a m s l c only =
      let j : words.Comma ∷ more ≡ words.Comma ∷ ((write y ++ followed90 write ys) ++ last) = sym c ∙ s in
      let q : more ≡ (write y ++ followed90 write ys) ++ last = cc in
      let h = only y (followed90 write ys ++ last) a.0 (ends_followed ys last l) (q ∙ append_assoc (write y) (followed90 write ys) last) in
      record {
        front = front ++ y ∷ [];
        back = ys;
        all = p ∙ sym (append_assoc front (y ∷ []) ys);
        are_good = a.1;
        are = are_more made front next y m h.0;
        same = h.1;
      }

  pub reads_grown : (ws rest more behind : List Word90) (made : List A) (next : A) → ReadsOn is good write ws made rest → rest ≡ words.Comma ∷ more → IsOnly more next behind
      → ReadsOn is good write ws (made ++ next ∷ []) behind
  reads_grown ws rest more behind made next h c only parts last g l s =
      let q = h parts last g l s in
      grown parts last rest more behind made next q.front q.back q.all q.are_good q.are q.same l c only

  ended : (parts : List B) (last rest : List Word90) (made : List A) (front back : List B) → parts ≡ front ++ back → AreOf is made front → rest ≡ followed90 write back ++ last
      → ((more : List Word90) → rest ≡ words.Comma ∷ more → ⊥) → AreOf is made parts × (rest ≡ last)
  ended parts last rest made front [] p m s n = (subst (λ (x : List B). AreOf is made x) (sym (p ∙ append-nil front)) m, s)
  ended parts last rest made front (y ∷ ys) p m s n = absurd (n _ s)

  -- no comma follows
  pub reads_ended : (ws rest : List Word90) (made : List A) → ReadsOn is good write ws made rest → ((more : List Word90) → rest ≡ words.Comma ∷ more → ⊥)
      → (parts : List B) (last : List Word90) → IsList good parts → EndsList last → ws ≡ separated90 write parts ++ last → AreOf is made parts × (rest ≡ last)
  reads_ended ws rest made h n parts last g l s =
      let q = h parts last g l s in
      ended parts last rest made q.front q.back q.all q.are q.same n

  -- no part is read where one has to stand
  pub list_err : {C D : Type 0} (P : C → Type 0) (Q : B → List Word90 → D → Type 0) (ws : List Word90) (e : Stop)
      → ((x : B) (last : List Word90) → good x → EndsItem last → ws ≡ write x ++ last → Given (Err e) (Q x last))
      → (parts : List B) (last : List Word90) → IsList good parts → EndsList last → ws ≡ separated90 write parts ++ last → Given (Err e) P
  list_err P Q ws Syntax only [] last g l s = absurd g
  list_err P Q ws Syntax only (x ∷ xs) last g l s = only x (followed90 write xs ++ last) g.0 (ends_followed xs last l) (s ∙ append_assoc (write x) (followed90 write xs) last)
  list_err P Q ws Memory only parts last g l s = tt

  more_err : {D : Type 0} (Q : B → List Word90 → D → Type 0) (rest more last : List Word90) (back : List B) → AllByRecursion good back → rest ≡ followed90 write back ++ last → EndsList last
      → rest ≡ words.Comma ∷ more → ((x : B) (behind : List Word90) → good x → EndsItem behind → more ≡ write x ++ behind → Given (Err Syntax) (Q x behind)) → ⊥
  more_err Q rest more last [] a s l c only = no_comma more last l (sym s ∙ c)
  more_err Q rest more last (y ∷ ys) a s l c only =
      let j : words.Comma ∷ more ≡ words.Comma ∷ ((write y ++ followed90 write ys) ++ last) = sym c ∙ s in
      let q : more ≡ (write y ++ followed90 write ys) ++ last = cc in
      only y (followed90 write ys ++ last) a.0 (ends_followed ys last l) (q ∙ append_assoc (write y) (followed90 write ys) last)

  pub grown_err : {C D : Type 0} (P : C → Type 0) (Q : B → List Word90 → D → Type 0) (ws rest more : List Word90) (made : List A) (e : Stop) → ReadsOn is good write ws made rest
      → rest ≡ words.Comma ∷ more → ((x : B) (last : List Word90) → good x → EndsItem last → more ≡ write x ++ last → Given (Err e) (Q x last))
      → (parts : List B) (last : List Word90) → IsList good parts → EndsList last → ws ≡ separated90 write parts ++ last → Given (Err e) P
  grown_err P Q ws rest more made Syntax h c only parts last g l s =
      let q = h parts last g l s in
      more_err Q rest more last q.back q.are_good q.same l c only
  grown_err P Q ws rest more made Memory h c only parts last g l s = tt

  pub as_many : (xs : List A) (bs : List B) → AreOf is xs bs → length xs ≡ length bs
  as_many [] [] h = refl
  as_many [] (b ∷ bs) h = absurd h
  as_many (a ∷ xs) [] h = absurd h
  as_many (a ∷ xs) (b ∷ bs) h = ap suc (as_many xs bs h.1)

-- what follows a comma and a part is shorter
pub shorter : (rest more behind : List Token) (front : List Word90) → words_of rest ≡ words.Comma ∷ words_of more → words_of more ≡ front ++ words_of behind → length behind < length rest
shorter rest more behind front c s =
    let a : length (words_of rest) ≡ length (words.Comma ∷ words_of more) = ap length c in
    let b : length (words_of more) ≡ length (front ++ words_of behind) = ap length s in
    omega (arith, length-map rest word_of, length-map more word_of, length-map behind word_of, length-append front (words_of behind))
