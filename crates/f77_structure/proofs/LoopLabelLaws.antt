-- END DO statements that wait, as the code keeps them: turned round, the nearest last.
use Rattle.std.proofs.Common.{◌≡◌, ℕ, suc, ◌+◌, ◌-◌, true, false, cond, Option, List, [], ◌∷◌, ◌++◌, map, reverse, length, get_or, take, drop, refl, sym, ap, subst, ◌∙◌, arith, append_assoc, append-nil}
use Rattle.std.proofs.lemmas.List.{reverse-append, reverse-reverse, length-reverse, map-append}
use Rattle.std.proofs.Math.Seq.{take-append_seam}
use Rattle.f77_grammar.specs.Statement77.{Labelled}
use Rattle.f77_grammar.specs.program.Text.{bears, is_label}
use Rattle.f77_grammar.specs.program.EndDo.{without_bearer, waiting_with, waiting, closer_label, with_labels, with_loop_labels}
use Rattle.f77_grammar.specs.syntax.Views.{labelled_of, statement_of, text_of}
use Rattle.f77_grammar.specs.declared.syntax.statements.Labelled.{Labelled as Labelled'}
use Rattle.f77_structure.specs.declared.loop_labels.Ends.{Ends}
use Rattle.f77_structure.specs.declared.loop_labels.Waiting.{Waiting}
use Rattle.f77_structure.specs.LoopLabels.{waiting_of, AreWaiting}

-- ---- the nearest that bears a label

-- those before the place have been looked at, the nearest first, and none bears it
pub record ArePassed (n : ℕ) (xs : List Labelled) (left : ℕ) : Type 0 where
  pub front : List Labelled
  pub back : List Labelled
  pub whole : xs ≡ front ++ back
  pub many : length back ≡ left
  pub same : without_bearer n xs ≡ front ++ without_bearer n back

pub none_passed : (n : ℕ) (xs : List Labelled) (left : ℕ) → length xs ≡ left → ArePassed n xs left
none_passed n xs left h = record { front = []; back = xs; whole = refl; many = h; same = refl }

-- as the code keeps them
kept : (ws : List Waiting) (front : List Labelled) (x : Labelled) (back : List Labelled)
    → reverse ws ≡ map waiting_of (front ++ x ∷ back)
    → ws ≡ reverse (map waiting_of back) ++ waiting_of x ∷ reverse (map waiting_of front)
kept ws front x back h =
    sym (reverse-reverse ws) ∙ ap reverse (h ∙ map-append waiting_of front (x ∷ back))
    ∙ reverse-append (map waiting_of front) (waiting_of x ∷ map waiting_of back)
    ∙ ap (λ vs. vs ++ reverse (map waiting_of front)) (reverse-append (waiting_of x ∷ []) (map waiting_of back))
    ∙ append_assoc (reverse (map waiting_of back)) (waiting_of x ∷ []) (reverse (map waiting_of front))

mapped : (xs : List Labelled) → length (map waiting_of xs) ≡ length xs
mapped [] = refl
mapped (x ∷ xs) = ap suc (mapped xs)

kept_many : (back : List Labelled) → length (reverse (map waiting_of back)) ≡ length back
kept_many back = length-reverse (map waiting_of back) ∙ mapped back

pub many_wait : (ws : List Waiting) (xs : List Labelled) → reverse ws ≡ map waiting_of xs → length xs ≡ length ws
many_wait ws xs h = sym (mapped xs) ∙ ap length (sym h) ∙ length-reverse ws

-- the one at the place
pub one_kept : (ws : List Waiting) (front : List Labelled) (x : Labelled) (back : List Labelled) (d : Waiting)
    → reverse ws ≡ map waiting_of (front ++ x ∷ back) → get_or ws (length back) d ≡ waiting_of x
one_kept ws front x back d h =
    ap (λ vs. get_or vs (length back) d) (kept ws front x back h)
    ∙ ap (λ k. get_or (reverse (map waiting_of back) ++ waiting_of x ∷ reverse (map waiting_of front)) k d)
    (sym (kept_many back))
    ∙ seam (reverse (map waiting_of back))
  where
    seam : (vs : List Waiting) → get_or (vs ++ waiting_of x ∷ reverse (map waiting_of front)) (length vs) d ≡ waiting_of x
    seam [] = refl
    seam (v ∷ vs) = seam vs

-- without it
pub removed_waits : (ws : List Waiting) (front : List Labelled) (x : Labelled) (back : List Labelled)
    → reverse ws ≡ map waiting_of (front ++ x ∷ back)
    → reverse (take (length back) ws ++ drop (length back + 1) ws) ≡ map waiting_of (front ++ back)
removed_waits ws front x back h =
    ap reverse (ap (λ vs. take (length back) vs ++ drop (length back + 1) vs) (kept ws front x back h)
    ∙ ap (λ k. take k whole ++ drop (k + 1) whole) (sym (kept_many back))
    ∙ ap (λ vs. vs ++ drop (length behind + 1) whole) (take-append_seam behind (waiting_of x ∷ before))
    ∙ ap (λ vs. behind ++ vs) (rest behind))
    ∙ reverse-append behind before
    ∙ ap (λ vs. vs ++ reverse behind) (reverse-reverse (map waiting_of front))
    ∙ ap (λ vs. map waiting_of front ++ vs) (reverse-reverse (map waiting_of back))
    ∙ sym (map-append waiting_of front back)
  where
    behind : List Waiting
    behind = reverse (map waiting_of back)

    before : List Waiting
    before = reverse (map waiting_of front)

    whole : List Waiting
    whole = behind ++ waiting_of x ∷ before

    rest : (vs : List Waiting) → drop (length vs + 1) (vs ++ waiting_of x ∷ before) ≡ before
    rest [] = refl
    rest (v ∷ vs) =
        let e : suc (length vs) + 1 ≡ suc (length vs + 1) = omega arith in
        ap (λ k. drop k (v ∷ (vs ++ waiting_of x ∷ before))) e ∙ rest vs

-- one more is looked at
pub passed_one : (n : ℕ) (xs front : List Labelled) (x : Labelled) (back : List Labelled) → xs ≡ front ++ x ∷ back
    → without_bearer n xs ≡ front ++ without_bearer n (x ∷ back) → bears n x ≡ false → ArePassed n xs (length back)
passed_one n xs front x back e h f =
    record {
      front = front ++ x ∷ [];
      back = back;
      whole = e ∙ sym (append_assoc front (x ∷ []) back);
      many = refl;
      same =
          h ∙ ap (λ b. front ++ cond b back (x ∷ without_bearer n back)) f
          ∙ sym (append_assoc front (x ∷ []) (without_bearer n back));
    }

-- and bears the label
pub bearer_found : (n : ℕ) (xs front : List Labelled) (x : Labelled) (back : List Labelled)
    → without_bearer n xs ≡ front ++ without_bearer n (x ∷ back) → bears n x ≡ true → without_bearer n xs ≡ front ++ back
bearer_found n xs front x back h f = h ∙ ap (λ b. front ++ cond b back (x ∷ without_bearer n back)) f

-- the END DO at a place doesn't bear the label
pub not_here : (n : ℕ) (ws : List Waiting) (xs : List Labelled) (i : ℕ) (w : Waiting) → reverse ws ≡ map waiting_of xs
    → ArePassed n xs (i + 1) → w ≡ get_or ws i w → is_label n w.label ≡ false → ArePassed n xs i
not_here n ws xs i w h p e f = by p.front p.back p.whole p.many p.same
  where
    by : (front back : List Labelled) → xs ≡ front ++ back → length back ≡ i + 1
        → without_bearer n xs ≡ front ++ without_bearer n back → ArePassed n xs i
    by front [] u m s = absurd (omega (arith, m))
    by front (x ∷ back) u m s =
        let k : length back ≡ i = omega (arith, m) in
        let q : w ≡ waiting_of x =
        e ∙ ap (λ j. get_or ws j w) (sym k) ∙ one_kept ws front x back w (h ∙ ap (map waiting_of) u) in
        subst (λ j. ArePassed n xs j) k
        (passed_one n xs front x back u s (sym (ap (λ (v : Waiting). is_label n v.label) q) ∙ f))

-- or bears it, and is taken out
pub found_here : (n : ℕ) (ws : List Waiting) (xs : List Labelled) (i : ℕ) (w : Waiting) → reverse ws ≡ map waiting_of xs
    → ArePassed n xs (i + 1) → w ≡ get_or ws i w → is_label n w.label ≡ true
    → reverse (take i ws ++ drop (i + 1) ws) ≡ map waiting_of (without_bearer n xs)
found_here n ws xs i w h p e f = by p.front p.back p.whole p.many p.same
  where
    by : (front back : List Labelled) → xs ≡ front ++ back → length back ≡ i + 1
        → without_bearer n xs ≡ front ++ without_bearer n back
        → reverse (take i ws ++ drop (i + 1) ws) ≡ map waiting_of (without_bearer n xs)
    by front [] u m s = absurd (omega (arith, m))
    by front (x ∷ back) u m s =
        let k : length back ≡ i = omega (arith, m) in
        let g : reverse ws ≡ map waiting_of (front ++ x ∷ back) = h ∙ ap (map waiting_of) u in
        let q : w ≡ waiting_of x = e ∙ ap (λ j. get_or ws j w) (sym k) ∙ one_kept ws front x back w g in
        subst (λ j. reverse (take j ws ++ drop (j + 1) ws) ≡ map waiting_of (front ++ back)) k
        (removed_waits ws front x back g)
        ∙ ap (map waiting_of)
        (sym (bearer_found n xs front x back s (sym (ap (λ (v : Waiting). is_label n v.label) q) ∙ f)))

pub none_bears : (n : ℕ) (xs : List Labelled) → ArePassed n xs 0 → without_bearer n xs ≡ xs
none_bears n xs p = by p.front p.back p.whole p.many p.same
  where
    by : (front back : List Labelled) → xs ≡ front ++ back → length back ≡ 0
        → without_bearer n xs ≡ front ++ without_bearer n back → without_bearer n xs ≡ xs
    by front [] u m s = s ∙ sym u
    by front (x ∷ back) u m s = absurd (omega (arith, m))

-- ---- the statements behind those left

-- have their labels, the last of them first
pub record AreLabelled (text left : List Labelled') (ends : Ends) (done : List Labelled') : Type 0 where
  pub behind : List Labelled
  pub whole : text_of text ≡ text_of left ++ behind
  pub waits : AreWaiting ends (waiting behind)
  pub are : text_of (reverse done) ≡ with_loop_labels behind

pub none_labelled : (text : List Labelled') (ends : Ends) (done : List Labelled') → AreWaiting ends [] → done ≡ []
    → AreLabelled text text ends done
none_labelled text ends done h e =
    record { behind = []; whole = sym (append-nil (text_of text)); waits = h; are = ap (λ xs. text_of (reverse xs)) e }

pub one_labelled : (text old left : List Labelled') (x w : Labelled') (ends next : Ends) (done more : List Labelled')
    (closer : Option ℕ) → AreLabelled text old ends done → old ≡ left ++ x ∷ [] → more ≡ done ++ w ∷ []
    → labelled_of w ≡ with_labels (labelled_of x) closer
    → ((xs : List Labelled) → AreWaiting ends xs → closer ≡ closer_label xs)
    → ((xs : List Labelled) → AreWaiting ends xs
    → AreWaiting next (waiting_with (statement_of x.statement) (labelled_of x) xs))
    → AreLabelled text left next more
one_labelled text old left x w ends next done more closer h p q e f g =
    record {
      behind = labelled_of x ∷ h.behind;
      whole =
          h.whole ∙ ap (λ xs. text_of xs ++ h.behind) p ∙ ap (λ xs. xs ++ h.behind) (map-append labelled_of left (x ∷ []))
          ∙ append_assoc (text_of left) (labelled_of x ∷ []) h.behind;
      waits = g (waiting h.behind) h.waits;
      are =
          ap (λ xs. text_of (reverse xs)) q ∙ ap text_of (reverse-append done (w ∷ []))
          ∙ ap (λ y. y ∷ text_of (reverse done)) (e ∙ ap (with_labels (labelled_of x)) (f (waiting h.behind) h.waits))
          ∙ ap (λ ys. with_labels (labelled_of x) (closer_label (waiting h.behind)) ∷ ys) h.are;
    }

pub all_labelled : (text left : List Labelled') (ends : Ends) (done labelled : List Labelled')
    → AreLabelled text left ends done → left ≡ [] → labelled ≡ reverse done
    → text_of labelled ≡ with_loop_labels (text_of text)
all_labelled text left ends done labelled h p q =
    ap text_of q ∙ h.are ∙ ap with_loop_labels (sym (h.whole ∙ ap (λ xs. text_of xs ++ h.behind) p))
