-- What the form of a loop reads, of variables that the loop doesn't read but in its body.
use Rattle.std.proofs.Common.{◌≡◌, refl, sym, ap, ◌∙◌, subst, ◌⊎◌, inl, inr, ℕ, pos, Bool, true, false, not, ◌&&◌, cond, List, [], ◌∷◌, ◌++◌, Option, Some, None, ◌+◌, arith}
use Rattle.std.specs.Option.{IsSomeAnd}
use Rattle.tree.specs.Plain.{Expression, Number, Logic, Named, Unary, Binary, Apply, Constructor, Spread, Transpose, Reshape, Reduce, Subscript, Only, Section, Subscripts, no_subscripts, subscript, Reference, Declaration}
use Rattle.tree.specs.declared.ops.Kind.{Kind}
use Rattle.tree.specs.declared.ops.Kind.TheVariants.{Integer}
use Rattle.meaning.specs.Blocks.{Surroundings}
use Rattle.meaning.specs.Reads.{names_in_subscript, names_in_subscripts}
use Rattle.meaning.specs.Typed.{declared, number_of_subscripts, rank_of_extent}
use Rattle.meaning.specs.Typed90.{HasKind, IsIntegerScalar, SuitsDimensions}
use Rattle.meaning.specs.Value.{named}
use Rattle.nest_order.specs.orders.Lists.{In}
use Rattle.nest_order.proofs.orders.Lists.{In-append, In-left, In-right}
use Rattle.reductions.specs.declared.gathering.Gathering.{Gathering}
use Rattle.reductions.specs.declared.gathering.Gathering.TheVariants.{Adds, Takes, Greatest, Least}
use Rattle.reductions.specs.Finding.{Context, FoundLoop, is_positive, may_be_section, one_is_variable, stands_in_subscript, stands_in_subscripts}
use Rattle.reductions.specs.Gathering.{Lines, Loop, form_of, in_section, in_turn, is_variable, listed, loop_of, of_all, section_of, sectioned, tested}
use Rattle.reductions.specs.Reading.{read_in, read_in_statement, read_in_subscript, read_in_subscripts, without}
use Rattle.reductions.specs.Reduced.{assignment, form, lines_of, values_of}
use Rattle.reduction_laws.specs.gathering.Gathering.{IsReducible, OneIsVariable, either}
use Rattle.reduction_laws.specs.unread.Reading.{Spared}
use Rattle.reduction_laws.proofs.blocks.Conditions.{Conditions, Typed, apart, differ, named_in_subscript, named_in_subscripts, one_subscript}
use Rattle.reduction_laws.proofs.unread.Blind.{left, right}
use Rattle.reduction_laws.proofs.unread.Law.{still_in, was_in}

-- ---- right sides

turn_reads : (g : Gathering) (x e : Expression) (y : List ℕ) → In y (read_in x) ⊎ In y (read_in e) → In y (read_in (in_turn g x e))
turn_reads (Adds false) x e y (inl i) = In-left y (read_in x) (read_in e) i
turn_reads (Adds false) x e y (inr i) = In-right y (read_in x) (read_in e) i
turn_reads (Adds true) x e y (inl i) = In-right y (read_in e) (read_in x) i
turn_reads (Adds true) x e y (inr i) = In-left y (read_in e) (read_in x) i
turn_reads Takes x e y (inl i) = In-left y (read_in x) (read_in e) i
turn_reads Takes x e y (inr i) = In-right y (read_in x) (read_in e) i
turn_reads (Greatest false) x e y (inl i) = In-left y (read_in x) (read_in e ++ []) i
turn_reads (Greatest false) x e y (inr i) = In-right y (read_in x) (read_in e ++ []) (In-left y (read_in e) [] i)
turn_reads (Greatest true) x e y (inl i) = In-right y (read_in e) (read_in x ++ []) (In-left y (read_in x) [] i)
turn_reads (Greatest true) x e y (inr i) = In-left y (read_in e) (read_in x ++ []) i
turn_reads (Least false) x e y (inl i) = In-left y (read_in x) (read_in e ++ []) i
turn_reads (Least false) x e y (inr i) = In-right y (read_in x) (read_in e ++ []) (In-left y (read_in e) [] i)
turn_reads (Least true) x e y (inl i) = In-right y (read_in e) (read_in x ++ []) (In-left y (read_in x) [] i)
turn_reads (Least true) x e y (inr i) = In-left y (read_in e) (read_in x ++ []) i

-- nothing is in no list
pub here_only : (y : List ℕ) (ns : List (List ℕ)) → In y (ns ++ []) → In y ns
here_only y ns i = by (In-append y ns [] i)
  where
    by : In y ns ⊎ In y [] → In y ns
    by (inl j) = j
    by (inr j) = absurd j

of_call : (x f : Expression) (y : List ℕ) → In y (read_in x ++ (read_in f ++ [])) → In y (read_in x) ⊎ In y (read_in f)
of_call x f y i = by (In-append y (read_in x) (read_in f ++ []) i)
  where
    by : In y (read_in x) ⊎ In y (read_in f ++ []) → In y (read_in x) ⊎ In y (read_in f)
    by (inl j) = inl j
    by (inr j) = inr (here_only y (read_in f) j)

all_reads : (g : Gathering) (x f : Expression) (y : List ℕ) → In y (read_in (of_all g x f)) → In y (read_in x) ⊎ In y (read_in f)
all_reads (Adds turned) x f y i = In-append y (read_in x) (read_in f) i
all_reads Takes x f y i = In-append y (read_in x) (read_in f) i
all_reads (Greatest turned) x f y i = of_call x f y i
all_reads (Least turned) x f y i = of_call x f y i

-- ---- the loop's own reads

module _ (xs : List (List ℕ)) (z : Lines) (l : Loop) (spared : Spared xs (read_in_statement (loop_of z l))) (ok : IsReducible l) where
  abbrev body : List (List ℕ)
  body = (read_in_subscripts l.left.subscripts ++ read_in (in_turn l.how (named l.left) l.operand)) ++ []

  trip_spared : Spared xs (read_in l.trip)
  trip_spared = left xs (read_in l.trip) (without l.variable body) spared

  body_spared : (y : List ℕ) → In y (read_in (in_turn l.how (named l.left) l.operand)) → ¬ (y ≡ l.variable) → ¬ (In y xs)
  body_spared y i n = right xs (read_in l.trip) (without l.variable body) spared y
      (still_in l.variable y body (In-left y (read_in_subscripts l.left.subscripts ++ read_in (in_turn l.how (named l.left) l.operand)) []
      (In-right y (read_in_subscripts l.left.subscripts) (read_in (in_turn l.how (named l.left) l.operand)) i)) n)

  left_spared : Spared xs (read_in (named l.left))
  left_spared y i = body_spared y (turn_reads l.how (named l.left) l.operand y (inl i)) (other i)
    where
      other : In y (read_in (named l.left)) → ¬ (y ≡ l.variable)
      other (inl e) = λ f. ok.apart (sym f ∙ e)
      other (inr j) = (ok.subscripts y (named_in_subscripts l.left.subscripts y j)).1

  operand_spared : (y : List ℕ) → In y (read_in l.operand) → ¬ (y ≡ l.variable) → ¬ (In y xs)
  operand_spared y i n = body_spared y (turn_reads l.how (named l.left) l.operand y (inr i)) n

  -- ---- the values

  listed_spared : Spared xs (read_in (listed l.variable l.trip l.operand))
  listed_spared y i = by (In-append y (read_in l.trip) (without l.variable (read_in l.operand ++ [])) i)
    where
      by : In y (read_in l.trip) ⊎ In y (without l.variable (read_in l.operand ++ [])) → ¬ (In y xs)
      by (inl j) = trip_spared y j
      by (inr j) = let w = was_in l.variable y (read_in l.operand ++ []) j in operand_spared y (here_only y (read_in l.operand) w.0) w.1

  section_sub : (q : Subscript) → ((y : List ℕ) → In y (read_in_subscript q) → In y (read_in l.operand)) → (b : Bool) → (b ≡ false → ¬ (In l.variable (names_in_subscript q)))
      → Spared xs (read_in_subscript (cond b (Section (Number (pos 1)) l.trip (Number (pos 1))) q))
  section_sub q inside true other y i = trip_spared y (here_only y (read_in l.trip) i)
  section_sub q inside false other y i = operand_spared y (inside y i) (λ e. other refl (subst (λ n. In n (names_in_subscript q)) e (named_in_subscript q y i)))

  -- subscripts in which the variable doesn't stand
  plain_subs : (ps : Subscripts) → ((y : List ℕ) → In y (read_in_subscripts ps) → In y (read_in l.operand)) → ¬ (In l.variable (names_in_subscripts ps)) → Spared xs (read_in_subscripts (sectioned l.variable l.trip ps))
  plain_subs no_subscripts inside n y i = absurd i
  plain_subs (subscript q qs) inside n y i = by (plain_subs qs (λ m k. inside m (In-right m (read_in_subscript q) (read_in_subscripts qs) k)) (λ k. n (In-right l.variable (names_in_subscript q) (names_in_subscripts qs) k)))
      (In-append y (read_in_subscript (in_section l.variable l.trip q)) (read_in_subscripts (sectioned l.variable l.trip qs)) i)
    where
      by : Spared xs (read_in_subscripts (sectioned l.variable l.trip qs)) → In y (read_in_subscript (in_section l.variable l.trip q)) ⊎ In y (read_in_subscripts (sectioned l.variable l.trip qs)) → ¬ (In y xs)
      by more (inl j) = section_sub q (λ m k. inside m (In-left m (read_in_subscript q) (read_in_subscripts qs) k)) (is_variable l.variable q)
          (λ e k. n (In-left l.variable (names_in_subscript q) (names_in_subscripts qs) k)) y j
      by more (inr j) = more y j

  section_subs : (ps : Subscripts) → ((y : List ℕ) → In y (read_in_subscripts ps) → In y (read_in l.operand)) → OneIsVariable l.variable ps → Spared xs (read_in_subscripts (sectioned l.variable l.trip ps))
  section_subs no_subscripts inside one y i = absurd one
  section_subs (subscript q qs) inside one y i = by (section_subs qs (λ m k. inside m (In-right m (read_in_subscript q) (read_in_subscripts qs) k))) (is_variable l.variable q) refl one (In-append y (read_in_subscript (in_section l.variable l.trip q)) (read_in_subscripts (sectioned l.variable l.trip qs)) i)
    where
      first : (m : List ℕ) → In m (read_in_subscript q) → In m (read_in l.operand)
      first m k = inside m (In-left m (read_in_subscript q) (read_in_subscripts qs) k)

      later : (m : List ℕ) → In m (read_in_subscripts qs) → In m (read_in l.operand)
      later m k = inside m (In-right m (read_in_subscript q) (read_in_subscripts qs) k)

      by : (OneIsVariable l.variable qs → Spared xs (read_in_subscripts (sectioned l.variable l.trip qs))) → (b : Bool) → is_variable l.variable q ≡ b → either b (¬ (In l.variable (names_in_subscripts qs))) (¬ (In l.variable (names_in_subscript q)) × OneIsVariable l.variable qs)
          → In y (read_in_subscript (in_section l.variable l.trip q)) ⊎ In y (read_in_subscripts (sectioned l.variable l.trip qs)) → ¬ (In y xs)
      by go true e free (inl j) = section_sub q first (is_variable l.variable q) (λ f. absurd (differ (is_variable l.variable q) e f)) y j
      by go true e free (inr j) = plain_subs qs later free y j
      by go false e (free, more) (inl j) = section_sub q first (is_variable l.variable q) (λ f. free) y j
      by go false e (free, more) (inr j) = go more y j

  module _ (ds : List Declaration) (v : Surroundings) (t : Typed ds l v) where
    -- an array isn't the variable
    not_variable : (x : List ℕ) (ps : Subscripts) → HasKind ds (Named x ps) Integer → OneIsVariable l.variable ps → ¬ (x ≡ l.variable)
    not_variable x no_subscripts h one e = absurd one
    not_variable x (subscript q qs) h one e = by (declared ds l.variable) t.integer (subst (λ n. IsSomeAnd (declared ds n) (λ d. (Integer ≡ d.kind) × (number_of_subscripts (subscript q qs) ≡ rank_of_extent d.extent))) e h.0)
      where
        nothing : (m n : ℕ) → 1 + m ≡ n → n ≡ 0 → ⊥
        nothing m n e f = absurd (omega (arith, e, f))

        by : (o : Option Declaration) → IsSomeAnd o (λ d. (d.kind ≡ Integer) × (rank_of_extent d.extent ≡ 0)) → IsSomeAnd o (λ d. (Integer ≡ d.kind) × (number_of_subscripts (subscript q qs) ≡ rank_of_extent d.extent)) → ⊥
        by (Some d) k m = nothing (number_of_subscripts qs) (rank_of_extent d.extent) m.1 k.1
        by None k m = absurd k

    section_spared : may_be_section l.variable l.operand ≡ true → Spared xs (read_in (section_of l.variable l.trip l.operand))
    section_spared e y i = by l.operand refl e t.operand i
      where
        by : (f : Expression) → l.operand ≡ f → may_be_section l.variable f ≡ true → HasKind ds f Integer → In y (read_in (section_of l.variable l.trip f)) → ¬ (In y xs)
        by (Named x ps) g e h (inl j) =
            let one = one_subscript l.variable ps e in
            operand_spared y (subst (λ f. In y (read_in f)) (sym g) (inl j)) (λ k. not_variable x ps h one (sym j ∙ k))
        by (Named x ps) g e h (inr j) = section_subs ps (λ m k. subst (λ f. In m (read_in f)) (sym g) (inr k)) (one_subscript l.variable ps e) y j
        by (Number n) g e h j = cc
        by (Logic b) g e h j = cc
        by (Unary o a) g e h j = cc
        by (Binary o a b) g e h j = cc
        by (Apply f es) g e h j = cc
        by (Constructor es ls) g e h j = cc
        by (Spread a k f) g e h j = cc
        by (Transpose a) g e h j = cc
        by (Reshape a es) g e h j = cc
        by (Reduce r a) g e h j = cc

    pub values_spared : (b : Bool) → may_be_section l.variable l.operand ≡ b → Spared xs (read_in (cond b (section_of l.variable l.trip l.operand) (listed l.variable l.trip l.operand)))
    values_spared true e = section_spared e
    values_spared false e = listed_spared

  -- ---- the form

  pub form_spared : (u : Lines) (f : Expression) → Spared xs (read_in f) → Spared xs (read_in_statement (form_of u l f))
  form_spared u f h y i = by (In-append y (read_in_subscripts l.left.subscripts) (read_in (of_all l.how (named l.left) f)) i)
    where
      all : In y (read_in (named l.left)) ⊎ In y (read_in f) → ¬ (In y xs)
      all (inl j) = left_spared y j
      all (inr j) = h y j

      by : In y (read_in_subscripts l.left.subscripts) ⊎ In y (read_in (of_all l.how (named l.left) f)) → ¬ (In y xs)
      by (inl j) = left_spared y (inr j)
      by (inr j) = all (all_reads l.how (named l.left) f y j)

  pub tested_spared : (u : Lines) (f : Expression) → Spared xs (read_in f) → Spared xs (read_in_statement (tested u l (form_of u l f)))
  tested_spared u f h y i = by (In-append y (read_in l.trip ++ []) (read_in_statement (form_of u l f) ++ []) (here_only y ((read_in l.trip ++ []) ++ (read_in_statement (form_of u l f) ++ [])) (here_only y (((read_in l.trip ++ []) ++ (read_in_statement (form_of u l f) ++ [])) ++ []) i)))
    where
      by : In y (read_in l.trip ++ []) ⊎ In y (read_in_statement (form_of u l f) ++ []) → ¬ (In y xs)
      by (inl j) = trip_spared y (here_only y (read_in l.trip) j)
      by (inr j) = form_spared u f h y (here_only y (read_in_statement (form_of u l f)) j)
