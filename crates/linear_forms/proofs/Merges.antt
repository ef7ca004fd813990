-- How terms are put together.
use Rattle.std.proofs.Common.{append-nil, ◌≡◌, refl, sym, ap, ◌∙◌, subst, ℕ, zero, suc, ◌+◌, ◌-◌, ◌≤◌, ◌<◌, ℤ, pos, ◌+ℤ◌, ◌*ℤ◌, Bool, true, false, cond, ◌&&◌, not, List, [], ◌∷◌, ◌++◌, map, take, length, set, replicate, Option, Some, None, ◌⊎◌, inl, inr, arith, append_assoc, length-append}
use Rattle.std.specs.Prelude.{nat_lt}
use Rattle.std.specs.List.{position_or_len}
use Rattle.std.specs.Ordering.{int_eq}
use Rattle.std.proofs.lemmas.Bool.{ltb-false, le-ltb}
use Rattle.std.proofs.lemmas.Bool.Decides.{Decides-int_eq, Decides-ltb}
use Rattle.std.proofs.lemmas.Int.{ints}
use Rattle.std.proofs.Math.IntN.{*ℤ-zero, +ℤ_idl}
use Rattle.linear_forms.specs.Linear.{is_small, all_small, not_zero, added}
use Rattle.linear_forms.specs.Merging.{merged, with_rest, all_pushed, is_unused, front_used}
use Rattle.linear_forms.specs.Pushing.{pushed, then_pushed}
use Rattle.linear_forms.specs.Places.{terms_from}
use Rattle.linear_forms.specs.declared.terms.Terms.{Terms}

abbrev pub Term : Type 0
Term = ℕ × ℤ

is_zero : (c : ℤ) → int_eq c (pos 0) ≡ true → c ≡ pos 0
is_zero c h = (Decides-int_eq c (pos 0)).0 h

less : (m n : ℕ) → m < n → nat_lt m n ≡ true
less m n h = (Decides-ltb m n).1 h

not_less : (m n : ℕ) → n ≤ m → nat_lt m n ≡ false
not_less m n h = le-ltb m n h

-- ---- two terms at the front

both_equal : (k : ℤ) (t u : Term) (more : List Term → List Term) (us : List Term) → nat_lt t.0 u.0 ≡ false → nat_lt u.0 t.0 ≡ false
    → with_rest k t more (u ∷ us) ≡ (t.0, t.1 +ℤ k *ℤ u.1) ∷ more us
both_equal k t u more us h g =
    ap (λ b. cond b (t ∷ more (u ∷ us)) (cond (nat_lt u.0 t.0) ((u.0, k *ℤ u.1) ∷ with_rest k t more us) ((t.0, t.1 +ℤ k *ℤ u.1) ∷ more us))) h
    ∙ ap (λ b. cond b ((u.0, k *ℤ u.1) ∷ with_rest k t more us) ((t.0, t.1 +ℤ k *ℤ u.1) ∷ more us)) g

first_before : (k : ℤ) (t u : Term) (more : List Term → List Term) (us : List Term) → nat_lt t.0 u.0 ≡ true → with_rest k t more (u ∷ us) ≡ t ∷ more (u ∷ us)
first_before k t u more us h =
    ap (λ b. cond b (t ∷ more (u ∷ us)) (cond (nat_lt u.0 t.0) ((u.0, k *ℤ u.1) ∷ with_rest k t more us) ((t.0, t.1 +ℤ k *ℤ u.1) ∷ more us))) h

second_before : (k : ℤ) (t u : Term) (more : List Term → List Term) (us : List Term) → nat_lt t.0 u.0 ≡ false → nat_lt u.0 t.0 ≡ true
    → with_rest k t more (u ∷ us) ≡ (u.0, k *ℤ u.1) ∷ with_rest k t more us
second_before k t u more us h g =
    ap (λ b. cond b (t ∷ more (u ∷ us)) (cond (nat_lt u.0 t.0) ((u.0, k *ℤ u.1) ∷ with_rest k t more us) ((t.0, t.1 +ℤ k *ℤ u.1) ∷ more us))) h
    ∙ ap (λ b. cond b ((u.0, k *ℤ u.1) ∷ with_rest k t more us) ((t.0, t.1 +ℤ k *ℤ u.1) ∷ more us)) g

-- two terms with one place
pub merged_equal : (k : ℤ) (terms others ts us : List Term) (t u : Term) (s : Terms) → terms ≡ t ∷ ts → others ≡ u ∷ us → u.0 ≤ t.0 → t.0 ≤ u.0
    → all_pushed (merged k terms others) s ≡ then_pushed (pushed t.0 (t.1 +ℤ k *ℤ u.1) s) (all_pushed (merged k ts us))
merged_equal k terms others ts us t u s e f h g =
    ap (λ l. all_pushed (merged k l others) s) e ∙ ap (λ l. all_pushed (merged k (t ∷ ts) l) s) f
    ∙ ap (λ l. all_pushed l s) (both_equal k t u (merged k ts) us (not_less t.0 u.0 h) (not_less u.0 t.0 g))

-- ---- terms that are pushed one after the other

pub then_same : (o : Option Terms) (f g : Terms → Option Terms) → ((t : Terms) → f t ≡ g t) → then_pushed o f ≡ then_pushed o g
then_same None f g h = refl
then_same (Some t) f g h = h t

pushed_none : (o : ℕ) (c : ℤ) (s : Terms) → c ≡ pos 0 → pushed o c s ≡ Some s
pushed_none o c s h = ap (λ c. pushed o c s) h

head : (o : ℕ) (c : ℤ) (es : List ℤ) (s : Terms) → all_pushed (terms_from o (c ∷ es)) s ≡ then_pushed (pushed o c s) (all_pushed (terms_from (suc o) es))
head o c es s = by (int_eq c (pos 0)) refl
  where
    by : (b : Bool) → int_eq c (pos 0) ≡ b → all_pushed (cond b (terms_from (suc o) es) ((o, c) ∷ terms_from (suc o) es)) s ≡ then_pushed (pushed o c s) (all_pushed (terms_from (suc o) es))
    by true e = sym (ap (λ q. then_pushed q (all_pushed (terms_from (suc o) es))) (pushed_none o c s (is_zero c e)))
    by false e = refl

-- the first place isn't below that from which places are counted
first_from : (o : ℕ) (es : List ℤ) (u : Term) (us : List Term) → terms_from o es ≡ u ∷ us → o ≤ u.0
first_from o [] u us e = cc
first_from o (c ∷ es) u us e = by (λ g. first_from (suc o) es u us g) (int_eq c (pos 0)) e
  where
    by : (terms_from (suc o) es ≡ u ∷ us → suc o ≤ u.0) → (b : Bool) → cond b (terms_from (suc o) es) ((o, c) ∷ terms_from (suc o) es) ≡ u ∷ us → o ≤ u.0
    by more true g = let h = more g in omega (arith, h)
    by more false g = let same : (o, c) ≡ u = cc in subst (λ (t : Term). o ≤ t.0) same (omega arith)

scaled : (k : ℤ) (o : ℕ) (ds : List ℤ) (s : Terms) → all_pushed (map (λ (u : Term). (u.0, k *ℤ u.1)) (terms_from o ds)) s ≡ all_pushed (terms_from o (map (λ d. k *ℤ d) ds)) s
scaled k o [] s = refl
scaled k o (d ∷ ds) s = by (λ t. scaled k (suc o) ds t) (int_eq d (pos 0)) refl ∙ sym (head o (k *ℤ d) (map (λ d. k *ℤ d) ds) s)
  where
    by : ((t : Terms) → all_pushed (map (λ (u : Term). (u.0, k *ℤ u.1)) (terms_from (suc o) ds)) t ≡ all_pushed (terms_from (suc o) (map (λ d. k *ℤ d) ds)) t)
        → (b : Bool) → int_eq d (pos 0) ≡ b
        → all_pushed (map (λ (u : Term). (u.0, k *ℤ u.1)) (cond b (terms_from (suc o) ds) ((o, d) ∷ terms_from (suc o) ds))) s
        ≡ then_pushed (pushed o (k *ℤ d) s) (all_pushed (terms_from (suc o) (map (λ d. k *ℤ d) ds)))
    by more true e =
        let none : k *ℤ d ≡ pos 0 = ap (λ d. k *ℤ d) (is_zero d e) ∙ *ℤ-zero k in
        more s ∙ sym (ap (λ q. then_pushed q (all_pushed (terms_from (suc o) (map (λ d. k *ℤ d) ds)))) (pushed_none o (k *ℤ d) s none))
    by more false e = then_same (pushed o (k *ℤ d) s) _ _ more

alone : (k : ℤ) (ts : List Term) → merged k ts [] ≡ ts
alone k [] = refl
alone k (t ∷ ts) = ap (λ l. t ∷ l) (alone k ts)

-- a term before all others
put_first : (k : ℤ) (o : ℕ) (c : ℤ) (ts us : List Term) → ((u : Term) (vs : List Term) → us ≡ u ∷ vs → o < u.0) → merged k ((o, c) ∷ ts) us ≡ (o, c) ∷ merged k ts us
put_first k o c ts [] h = refl
put_first k o c ts (u ∷ us) h = first_before k (o, c) u (merged k ts) us (less o u.0 (h u us refl))

put_second : (k : ℤ) (o : ℕ) (d : ℤ) (ts us : List Term) → ((t : Term) (vs : List Term) → ts ≡ t ∷ vs → o < t.0) → merged k ts ((o, d) ∷ us) ≡ (o, k *ℤ d) ∷ merged k ts us
put_second k o d [] us h = refl
put_second k o d (t ∷ ts) us h =
    let l = h t ts refl in
    second_before k t (o, d) (merged k ts) us (not_less t.0 o (omega (arith, l))) (less o t.0 l)

pub merged_terms : (k : ℤ) (o : ℕ) (cs ds : List ℤ) (s : Terms) → all_pushed (merged k (terms_from o cs) (terms_from o ds)) s ≡ all_pushed (terms_from o (added cs (map (λ d. k *ℤ d) ds))) s
merged_terms k o [] ds s = scaled k o ds s
merged_terms k o (c ∷ cs) [] s = ap (λ l. all_pushed l s) (alone k (terms_from o (c ∷ cs)))
merged_terms k o (c ∷ cs) (d ∷ ds) s = by (λ t. merged_terms k (suc o) cs ds t) (int_eq c (pos 0)) refl (int_eq d (pos 0)) refl ∙ sym (head o (c +ℤ k *ℤ d) (added cs (map (λ d. k *ℤ d) ds)) s)
  where
    above : (es : List ℤ) (u : Term) (vs : List Term) → terms_from (suc o) es ≡ u ∷ vs → o < u.0
    above es u vs e = let h = first_from (suc o) es u vs e in omega (arith, h)

    by : ((t : Terms) → all_pushed (merged k (terms_from (suc o) cs) (terms_from (suc o) ds)) t ≡ all_pushed (terms_from (suc o) (added cs (map (λ d. k *ℤ d) ds))) t)
        → (b : Bool) → int_eq c (pos 0) ≡ b → (a : Bool) → int_eq d (pos 0) ≡ a
        → all_pushed (merged k (cond b (terms_from (suc o) cs) ((o, c) ∷ terms_from (suc o) cs)) (cond a (terms_from (suc o) ds) ((o, d) ∷ terms_from (suc o) ds))) s
        ≡ then_pushed (pushed o (c +ℤ k *ℤ d) s) (all_pushed (terms_from (suc o) (added cs (map (λ d. k *ℤ d) ds))))
    by more true e true g =
        let none : c +ℤ k *ℤ d ≡ pos 0 = ap (λ c. c +ℤ k *ℤ d) (is_zero c e) ∙ (+ℤ_idl (k *ℤ d) ∙ (ap (λ d. k *ℤ d) (is_zero d g) ∙ *ℤ-zero k)) in
        more s ∙ sym (ap (λ q. then_pushed q (all_pushed (terms_from (suc o) (added cs (map (λ d. k *ℤ d) ds))))) (pushed_none o (c +ℤ k *ℤ d) s none))
    by more false e true g =
        let plain : c ≡ c +ℤ k *ℤ d = let z : k *ℤ d ≡ pos 0 = ap (λ d. k *ℤ d) (is_zero d g) ∙ *ℤ-zero k in let w : c ≡ c +ℤ pos 0 = omega (arith, ints) in w ∙ ap (λ z. c +ℤ z) (sym z) in
        ap (λ l. all_pushed l s) (put_first k o c (terms_from (suc o) cs) (terms_from (suc o) ds) (above ds))
        ∙ (then_same (pushed o c s) _ _ more
        ∙ ap (λ c. then_pushed (pushed o c s) (all_pushed (terms_from (suc o) (added cs (map (λ d. k *ℤ d) ds))))) plain)
    by more true e false g =
        let plain : k *ℤ d ≡ c +ℤ k *ℤ d = sym (+ℤ_idl (k *ℤ d)) ∙ ap (λ c. c +ℤ k *ℤ d) (sym (is_zero c e)) in
        ap (λ l. all_pushed l s) (put_second k o d (terms_from (suc o) cs) (terms_from (suc o) ds) (above cs))
        ∙ (then_same (pushed o (k *ℤ d) s) _ _ more
        ∙ ap (λ c. then_pushed (pushed o c s) (all_pushed (terms_from (suc o) (added cs (map (λ d. k *ℤ d) ds))))) plain)
    by more false e false g =
        ap (λ l. all_pushed l s) (both_equal k (o, c) (o, d) (merged k (terms_from (suc o) cs)) (terms_from (suc o) ds) (not_less o o (omega arith)) (not_less o o (omega arith)))
        ∙ then_same (pushed o (c +ℤ k *ℤ d) s) _ _ more

-- ---- what was pushed

pub record Holds (done : List Term) (t : Terms) : Type 0 where
  pub at : t.at ≡ done ++ replicate (8 - length done) (0, pos 0)
  pub used : t.used ≡ length done

set_behind : (done rest : List Term) (z x : Term) → set (done ++ z ∷ rest) (length done) x ≡ done ++ x ∷ rest
set_behind [] rest z x = refl
set_behind (d ∷ done) rest z x = ap (λ l. d ∷ l) (set_behind done rest z x)

one_pushed : (done : List Term) (t : Terms) (x : Term) → Holds done t → length done < 8 → Holds (done ++ x ∷ []) (record { at = set t.at t.used x; used = t.used + 1 })
one_pushed done t x h l =
    let room : 8 - length done ≡ suc (8 - suc (length done)) = omega (arith, l) in
    let len : length (done ++ x ∷ []) ≡ suc (length done) = length-append done (x ∷ []) ∙ omega arith in
    let none : Term = (0, pos 0) in
    record {
      at = ap (λ l. set l t.used x) (h.at ∙ ap (λ n. done ++ replicate n (0, pos 0)) room)
          ∙ (ap (λ n. set (done ++ (0, pos 0) ∷ replicate (8 - suc (length done)) (0, pos 0)) n x) h.used
          ∙ (set_behind done (replicate (8 - suc (length done)) (0, pos 0)) (0, pos 0) x
          ∙ (sym (append_assoc done (x ∷ []) (replicate (8 - suc (length done)) (0, pos 0))) ∙ ap (λ n. (done ++ x ∷ []) ++ replicate (8 - n) (0, pos 0)) (sym len))));
      used = ap (λ n. n + 1) h.used ∙ (omega arith ∙ sym len);
    }

abbrev pub Outcome : ℕ → List ℤ → List Term → Option Terms → Type 0
Outcome o es done (Some t) = Holds (done ++ terms_from o es) t × (all_small es ≡ true) × (length done + not_zero es ≤ 8)
Outcome o es done None = (all_small es ≡ false) ⊎ (8 < length done + not_zero es)

small_zero : (c : ℤ) → int_eq c (pos 0) ≡ true → is_small c ≡ true
small_zero c h = ap is_small (is_zero c h)

-- the same of c and then es, where b says whether c is 0
abbrev Extended : ℕ → ℤ → List ℤ → List Term → Bool → Option Terms → Type 0
Extended o c es done b (Some t) = Holds (done ++ cond b (terms_from (suc o) es) ((o, c) ∷ terms_from (suc o) es)) t × ((is_small c && all_small es) ≡ true) × (length done + cond b (not_zero es) (suc (not_zero es)) ≤ 8)
Extended o c es done b None = ((is_small c && all_small es) ≡ false) ⊎ (8 < length done + cond b (not_zero es) (suc (not_zero es)))

pub pushes : (o : ℕ) (es : List ℤ) (done : List Term) (t : Terms) → Holds done t → length done ≤ 8 → Outcome o es done (all_pushed (terms_from o es) t)
pushes o [] done t h l =
    let same = sym (append-nil done) in
    (record { at = h.at ∙ ap (λ d. d ++ replicate (8 - length d) (0, pos 0)) same; used = h.used ∙ ap length same }, refl, omega (arith, l))
pushes o (c ∷ es) done t h l = by (λ d u h l. pushes (suc o) es d u h l) (int_eq c (pos 0)) refl
  where
    skipped : (q : Option Terms) → int_eq c (pos 0) ≡ true → Outcome (suc o) es done q → Extended o c es done true q
    skipped (Some t) e m = (m.0, ap (λ b. b && all_small es) (small_zero c e) ∙ m.1, m.2)
    skipped None e (inl m) = inl (ap (λ b. b && all_small es) (small_zero c e) ∙ m)
    skipped None e (inr m) = inr m

    behind : (q : Option Terms) → is_small c ≡ true → Outcome (suc o) es (done ++ (o, c) ∷ []) q → Extended o c es done false q
    behind (Some t) e m =
        let len : length (done ++ (o, c) ∷ []) ≡ suc (length done) = length-append done ((o, c) ∷ []) ∙ omega arith in
        let most = m.2 in
        (subst (λ (d : List Term). Holds d t) (append_assoc done ((o, c) ∷ []) (terms_from (suc o) es)) m.0, ap (λ b. b && all_small es) e ∙ m.1, omega (arith, len, most))
    behind None e (inl m) = inl (ap (λ b. b && all_small es) e ∙ m)
    behind None e (inr m) =
        let len : length (done ++ (o, c) ∷ []) ≡ suc (length done) = length-append done ((o, c) ∷ []) ∙ omega arith in
        inr (omega (arith, len, m))

    chosen : ((d : List Term) (u : Terms) → Holds d u → length d ≤ 8 → Outcome (suc o) es d (all_pushed (terms_from (suc o) es) u)) → (a : Bool) → is_small c ≡ a → (b : Bool) → nat_lt t.used 8 ≡ b
        → Extended o c es done false (then_pushed (cond (a && b) (Some (record { at = set t.at t.used (o, c); used = t.used + 1 })) None) (all_pushed (terms_from (suc o) es)))
    chosen more true e true g =
        let room : length done < 8 = subst (λ n. n < 8) h.used ((Decides-ltb t.used 8).0 g) in
        let len : length (done ++ (o, c) ∷ []) ≡ suc (length done) = length-append done ((o, c) ∷ []) ∙ omega arith in
        behind (all_pushed (terms_from (suc o) es) (record { at = set t.at t.used (o, c); used = t.used + 1 })) e
        (more (done ++ (o, c) ∷ []) (record { at = set t.at t.used (o, c); used = t.used + 1 }) (one_pushed done t (o, c) h room) (omega (arith, len, room)))
    chosen more true e false g =
        let full : 8 ≤ t.used = ltb-false t.used 8 g in
        let same = h.used in
        inr (omega (arith, full, same))
    chosen more false e b g = inl (ap (λ b. b && all_small es) e)

    by : ((d : List Term) (u : Terms) → Holds d u → length d ≤ 8 → Outcome (suc o) es d (all_pushed (terms_from (suc o) es) u)) → (b : Bool) → int_eq c (pos 0) ≡ b → Extended o c es done b (all_pushed (cond b (terms_from (suc o) es) ((o, c) ∷ terms_from (suc o) es)) t)
    by more true e = skipped (all_pushed (terms_from (suc o) es) t) e (more done t h l)
    by more false e = subst (λ q. Extended o c es done false (then_pushed q (all_pushed (terms_from (suc o) es)))) (sym (ap (λ b. cond b (Some t) (cond (is_small c && nat_lt t.used 8) (Some (record { at = set t.at t.used (o, c); used = t.used + 1 })) None)) e))
        (chosen more (is_small c) refl (nat_lt t.used 8) refl)

-- ---- the terms in use

pub used_terms : (o : ℕ) (es : List ℤ) (n : ℕ) → front_used (terms_from o es ++ replicate n (0, pos 0)) ≡ terms_from o es
used_terms o [] zero = refl
used_terms o [] (suc n) = refl
used_terms o (c ∷ es) n = by (used_terms (suc o) es n) (int_eq c (pos 0)) refl
  where
    by : front_used (terms_from (suc o) es ++ replicate n (0, pos 0)) ≡ terms_from (suc o) es → (b : Bool) → int_eq c (pos 0) ≡ b → front_used (cond b (terms_from (suc o) es) ((o, c) ∷ terms_from (suc o) es) ++ replicate n (0, pos 0)) ≡ cond b (terms_from (suc o) es) ((o, c) ∷ terms_from (suc o) es)
    by more true e = more
    by more false e =
        let ts : List Term = terms_from (suc o) es ++ replicate n (0, pos 0) in
        let next : 1 + position_or_len is_unused ts ≡ suc (position_or_len is_unused ts) = omega arith in
        ap (λ b. take (cond (not b) (1 + position_or_len is_unused ts) 0) ((o, c) ∷ ts)) e
        ∙ (ap (λ m. take m ((o, c) ∷ ts)) next ∙ ap (λ l. (o, c) ∷ l) more)
