-- What is done to a sink, one thing after the other.
use Rattle.std.proofs.Common.{◌≡◌, refl, sym, ap, ◌∙◌, ℕ, suc, Bool, true, false, List, [], ◌∷◌, ◌++◌, length, Option, Some, None, Result, Ok, Err, append-nil, arith}
use Rattle.std.specs.Prelude.{◌==◌}
use Rattle.std.proofs.lemmas.Bool.Decides.{nat_tests}
use Rattle.std.proofs.lemmas.List.{length-append}
use Rattle.std.specs.Io.KnownBytes.{append_known}
use Rattle.streams.specs.declared.errors.WriteFault.{WriteFault}
use Rattle.tree.specs.Plain.{Declaration}
use Rattle.tree.specs.declared.ops.Value.{Value}
use Rattle.meaning.specs.Run.{State}
use Rattle.meaning.specs.Texts.{output_text}
use Rattle.meaning.specs.declared.End.{End}
use Rattle.meaning.specs.declared.End.TheVariants.{Done, Fault, StepLimit, WriteFault as Unwritten}
use Rattle.machine.specs.Moments.{Seen}
use Rattle.machine.specs.Texts.{WritesText}
use Rattle.machine.specs.Endings.{Ends}
use Rattle.machine.specs.Told.{IsTold}

-- nothing is given
pub still : {K : Type 0} {D : Option (List ℕ) → Option (List ℕ) → Type 0} (a : K) (bytes : List ℕ) → D (Some bytes) (Some bytes) → IsTold D (a ≡ a) bytes
still a bytes h = record { after = bytes; does = h; grows = omega arith; untouched = λ e. refl }

-- the same is given
pub kept : {D E : Option (List ℕ) → Option (List ℕ) → Type 0} {S : Type 0} {bytes : List ℕ} (k : IsTold D S bytes) → E (Some bytes) (Some k.after) → IsTold E S bytes
kept k h = record { after = k.after; does = h; grows = k.grows; untouched = k.untouched }

-- what two give
pub both : {K : Type 0} {a b c : K} {D E F : Option (List ℕ) → Option (List ℕ) → Type 0} {bytes : List ℕ} (k : IsTold D (b ≡ a) bytes) (l : IsTold E (c ≡ b) k.after) → F (Some bytes) (Some l.after) → IsTold F (c ≡ a) bytes
both k l h = record {
  after = l.after;
  does = h;
  grows = omega (arith, k.grows, l.grows);
  untouched = λ e. l.untouched (omega (arith, e, k.grows, l.grows)) ∙ k.untouched (omega (arith, e, k.grows, l.grows));
}

-- all of a text is taken, whether the sink at hand took it or not
pub taken_whole : (text bytes : List ℕ) (r : Result (Unit {0}) WriteFault) → WritesText (Some bytes) text (Some (bytes ++ text)) r
taken_whole text bytes (Ok x) = refl
taken_whole text bytes (Err e) = (text, [], sym (append-nil text), refl)

no_more : (xs ys : List ℕ) → length (xs ++ ys) ≡ length xs → ys ≡ []
no_more xs [] e = refl
no_more xs (y ∷ ys) e = (let l = length-append xs (y ∷ ys) in absurd (omega (arith, e, l)))

-- a text is given
pub given : {D : Option (List ℕ) → Option (List ℕ) → Type 0} {S : Type 0} (text bytes : List ℕ) → (text ≡ [] → S) → D (Some bytes) (Some (bytes ++ text)) → IsTold D S bytes
given text bytes s h = record {
  after = bytes ++ text;
  does = h;
  grows = (let l = length-append bytes text in omega (arith, l));
  untouched = λ e. s (no_more bytes text e);
}

-- a text, and then more
pub behind_text : {K : Type 0} {a b c : K} {E F : Option (List ℕ) → Option (List ℕ) → Type 0} (text bytes : List ℕ) → (text ≡ [] → b ≡ a) → (l : IsTold E (c ≡ b) (bytes ++ text)) → F (Some bytes) (Some l.after) → IsTold F (c ≡ a) bytes
behind_text text bytes s l h =
    let m = length-append bytes text in
    record {
      after = l.after;
      does = h;
      grows = omega (arith, m, l.grows);
      untouched = λ e. l.untouched (omega (arith, e, m, l.grows)) ∙ s (no_more bytes text (omega (arith, e, m, l.grows)));
    }

-- a text, and then more, and then a text again
pub between_texts : {K : Type 0} {a b c d : K} {E F : Option (List ℕ) → Option (List ℕ) → Type 0} (text last bytes : List ℕ) → (text ≡ [] → b ≡ a) → (l : IsTold E (c ≡ b) (bytes ++ text)) → (last ≡ [] → d ≡ c)
    → F (Some bytes) (Some (l.after ++ last)) → IsTold F (d ≡ a) bytes
between_texts text last bytes s l t h =
    let m = length-append bytes text in
    let n = length-append l.after last in
    record {
      after = l.after ++ last;
      does = h;
      grows = omega (arith, m, n, l.grows);
      untouched = λ e. t (no_more l.after last (omega (arith, e, m, n, l.grows))) ∙ l.untouched (omega (arith, e, m, n, l.grows)) ∙ s (no_more bytes text (omega (arith, e, m, n, l.grows)));
    }

-- a text, and then more, and then the end of a line, so that something is given
pub line_ended : {K : Type 0} {S : Type 0} {a b : K} {E F : Option (List ℕ) → Option (List ℕ) → Type 0} (text bytes : List ℕ) → (l : IsTold E (b ≡ a) (bytes ++ text)) → F (Some bytes) (Some (l.after ++ 10 ∷ [])) → IsTold F S bytes
line_ended text bytes l h =
    let m = length-append bytes text in
    let n = length-append l.after (10 ∷ []) in
    record {
      after = l.after ++ 10 ∷ [];
      does = h;
      grows = omega (arith, m, n, l.grows);
      untouched = λ e. absurd (omega (arith, e, m, n, l.grows));
    }

-- ---- values

pub no_values : (vs : List Value) (b : Bool) → b ≡ (length vs == 0) → b ≡ true → vs ≡ []
no_values [] b e h = refl
no_values (v ∷ vs) b e h = let k : (suc (length vs) == 0) ≡ true = sym e ∙ h in let z : ⊥ = grind (arith, nat_tests) in absurd z

pub values_there : (vs : List Value) (b : Bool) → b ≡ (length vs == 0) → b ≡ false → vs ≡ [] → ⊥
values_there vs b e h n = (let k : b ≡ true = e ∙ ap (λ (xs : List Value). length xs == 0) n in cc)

with_nothing : (bytes : Option (List ℕ)) → bytes ≡ append_known bytes []
with_nothing None = refl
with_nothing (Some xs) = ap (λ ys. let o : Option (List ℕ) = Some ys in o) (sym (append-nil xs))

-- no values have no text
pub no_output : (vs : List Value) (bytes : Option (List ℕ)) → vs ≡ [] → bytes ≡ append_known bytes (output_text vs)
no_output vs bytes e = with_nothing bytes ∙ ap (λ (xs : List Value). append_known bytes (output_text xs)) (sym e)

-- values have a text
pub some_output : (vs : List Value) → (vs ≡ [] → ⊥) → output_text vs ≡ [] → ⊥
some_output [] n e = n refl
some_output (v ∷ vs) n e = cc

-- a value has a text
pub one_output : (v : Value) → output_text (v ∷ []) ≡ [] → ⊥
one_output v e = cc

pub nothing_in_front : (xs ys : List ℕ) → xs ++ ys ≡ [] → xs ≡ []
nothing_in_front [] ys e = refl
nothing_in_front (x ∷ xs) ys e = cc

pub nothing_behind : (xs ys : List ℕ) → xs ++ ys ≡ [] → ys ≡ []
nothing_behind [] ys e = e
nothing_behind (x ∷ xs) ys e = cc

same_bytes : (xs ys : List ℕ) → Some xs ≡ append_known (Some []) ys → xs ≡ ys
same_bytes xs ys e = cc

-- a run that writes nothing gives nothing
pub nothing_given : (names : List Declaration) (s : State) (m : Seen) (after : List ℕ) (e : End) → s.written ≡ [] → Ends names s m (Some []) (Some after) e → length after ≡ 0
nothing_given names s m after Done w h = ap length (same_bytes after s.written h.taken ∙ w)
nothing_given names s m after (Fault f line) w h = ap length (same_bytes after s.written h.taken ∙ w)
nothing_given names s m after StepLimit w h = ap length (same_bytes after s.written h.taken ∙ w)
nothing_given names s m after Unwritten w h = ap length (same_bytes after h.front h.taken ∙ nothing_in_front h.front h.rest (sym h.whole ∙ w))
