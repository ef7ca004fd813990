-- A text that has too many names and no other cause is refused at the first line that declares one too many.
use Rattle.std.proofs.Common.{◌≡◌, ◌⊎◌, inl, inr, refl, sym, subst, ◌∙◌, ℕ, ◌<◌, nat_lt, arith, Bool, true, false}
use Rattle.std.proofs.Common.{List, [], ◌∷◌, ◌++◌, length, append_assoc, append-nil, Contains}
use Rattle.std.proofs.lemmas.Bool.Decides.{nat_tests}
use Rattle.std.proofs.lemmas.List.Elements.{Contains-append_left, Contains-append_right, Contains-append_cases}
use Rattle.tree.specs.Causes.{refusal_at}
use Rattle.tree.specs.Limits as limits
use Rattle.tree.specs.declared.refusals.Cause.TheVariants.{Limit90}
use Rattle.tree.specs.declared.refusals.Refusal.{Refusal}
use Rattle.reading.specs.refusal_order.Answered.{IsAnswered}
use Rattle.reading.proofs.refusal_order.Least.{none_or_first}
use Rattle.f90_grammar.specs.Blocks.{Placed}
use Rattle.f90_grammar.specs.Bounds.{HasManyNames, declared_up_to}
use Rattle.f90_grammar.specs.Order.{Place90, IsPlaceIn}
use Rattle.f90_grammar.specs.Refusals.{HasCause90, PassesNames, IsRefusable, Refused90}
use Rattle.f90_grammar.specs.Refusals.IsRefusable.{For, ForNames}
use Rattle.f90_laws.proofs.readings.Lists.{here, nowhere, cases_of}
use Rattle.f90_laws.proofs.unique.Lines.{one_text}

-- ---- the places at which too many names are declared

abbrev place : List Placed → Placed → List Placed → Place90
place before here after = record { before = before; here = here; after = after }

abbrev has_many : Place90 → Bool
has_many p = nat_lt limits.program_names90 (length (declared_up_to p))

many_tells : (m n : ℕ) → m < n → nat_lt m n ≡ true
many_tells m n l = grind (arith, nat_tests)

many_told : (m n : ℕ) → nat_lt m n ≡ true → m < n
many_told m n e = grind (arith, nat_tests)

abbrev finding : Bool → ℕ → List Refusal
finding true line = refusal_at Limit90 line ∷ []
finding false line = []

-- their refusals, behind the front
abbrev findings : List Placed → List Placed → List Refusal
findings front [] = []
findings front (p ∷ ps) = finding (has_many (place front p ps)) p.line ++ findings (front ++ p ∷ []) ps

finds : (front between : List Placed) (p : Placed) (after : List Placed)
    → HasManyNames (place (front ++ between) p after)
    → Contains (findings front (between ++ p ∷ after)) (refusal_at Limit90 p.line)
finds front [] p after h =
    let many = subst (λ (ps : List Placed). HasManyNames (place ps p after)) (append-nil front) h in
    let told : has_many (place front p after) ≡ true =
    many_tells limits.program_names90 (length (declared_up_to (place front p after))) many in
    let r = refusal_at Limit90 p.line in
    Contains-append_left (finding (has_many (place front p after)) p.line) (findings (front ++ p ∷ []) after) r
    (subst (λ (b : Bool). Contains (finding b p.line) r) (sym told) (here r []))
finds front (q ∷ between) p after h =
    Contains-append_right (finding (has_many (place front q (between ++ p ∷ after))) q.line)
    (findings (front ++ q ∷ []) (between ++ p ∷ after)) (refusal_at Limit90 p.line)
    (finds (front ++ q ∷ []) between p after
    (subst (λ (ps : List Placed). HasManyNames (place ps p after)) (sym (append_assoc front (q ∷ []) between)) h))

record IsFound (ps : List Placed) (r : Refusal) : Type 0 where
  pub it : Place90
  pub stands : IsPlaceIn ps it
  pub many : HasManyNames it
  pub is : r ≡ refusal_at Limit90 it.here.line

sole : (r s : Refusal) → Contains (s ∷ []) r → r ≡ s
sole r s c = by (cases_of s [] r c)
  where
    by : (s ≡ r) ⊎ Contains [] r → r ≡ s
    by (inl e) = sym e
    by (inr k) = absurd (nowhere r k)

found_in : (front rest : List Placed) (r : Refusal) → Contains (findings front rest) r → IsFound (front ++ rest) r
found_in front [] r c = absurd (nowhere r c)
found_in front (p ∷ ps) r c =
    by (found_in (front ++ p ∷ []) ps r)
    (Contains-append_cases (finding (has_many (place front p ps)) p.line) (findings (front ++ p ∷ []) ps) r c)
  where
    at_first : (b : Bool) → has_many (place front p ps) ≡ b → Contains (finding b p.line) r
        → IsFound (front ++ p ∷ ps) r
    at_first true e k = record {
      it = place front p ps;
      stands = refl;
      many = many_told limits.program_names90 (length (declared_up_to (place front p ps))) e;
      is = sole r (refusal_at Limit90 p.line) k;
    }
    at_first false e k = absurd (nowhere r k)

    by : (Contains (findings (front ++ p ∷ []) ps) r → IsFound ((front ++ p ∷ []) ++ ps) r)
        → Contains (finding (has_many (place front p ps)) p.line) r ⊎ Contains (findings (front ++ p ∷ []) ps) r
        → IsFound (front ++ p ∷ ps) r
    by next (inl k) = at_first (has_many (place front p ps)) refl k
    by next (inr k) = subst (λ (qs : List Placed). IsFound qs r) (append_assoc front (p ∷ []) ps) (next k)

-- ---- a text that has no other cause

module _ (text : List ℕ) (line : ℕ) (names : PassesNames text line) (none : (r : Refusal) → HasCause90 text r → ⊥) where
  abbrev all : List Refusal
  all = findings [] names.statements

  found : (r : Refusal) → Contains all r → IsFound names.statements r
  found r c = found_in [] names.statements r c

  refusable : (r : Refusal) → IsFound names.statements r → IsRefusable text r
  refusable r f =
      subst (IsRefusable text) (sym f.is) (ForNames f.it.here.line (record {
        statements = names.statements;
        of_text = names.of_text;
        place = f.it;
        in_text = f.stands;
        many = f.many;
        line_is = refl;
      }))

  for_names : (l : ℕ) → PassesNames text l → Contains all (refusal_at Limit90 l)
  for_names l h =
      let same = sym h.in_text ∙ one_text text h.statements names.statements h.of_text names.of_text in
      subst (λ (n : ℕ). Contains all (refusal_at Limit90 n)) (sym h.line_is)
      (subst (λ (ps : List Placed). Contains (findings [] ps) (refusal_at Limit90 h.place.here.line)) same
      (finds [] h.place.before h.place.here h.place.after h.many))

  is_among : (r : Refusal) → IsRefusable text r → Contains all r
  is_among r (For q h) = absurd (none r h)
  is_among r (ForNames l h) = for_names l h

  answered : (r : Refusal) → IsAnswered (Contains all) r → (first : ℕ) × Refused90 text (refusal_at Limit90 first)
  answered r h =
      let f = found r h.holds in
      let answer : Refused90 text r =
      record { holds = refusable r f; first = λ other g. h.first other (is_among other g) } in
      (f.it.here.line, subst (Refused90 text) f.is answer)

  pub refused_for_names : (first : ℕ) × Refused90 text (refusal_at Limit90 first)
  refused_for_names = by (none_or_first all)
    where
      by : (all ≡ []) ⊎ ((r : Refusal) × IsAnswered (Contains all) r)
          → (first : ℕ) × Refused90 text (refusal_at Limit90 first)
      by (inl e) =
          absurd (nowhere (refusal_at Limit90 line)
          (subst (λ (rs : List Refusal). Contains rs (refusal_at Limit90 line)) e (for_names line names)))
      by (inr h) = answered h.0 h.1
