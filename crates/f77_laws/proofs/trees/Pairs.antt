-- Partners among block IFs and END IFs.
use Rattle.std.proofs.Common.{◌≡◌, ℕ, zero, suc, Bool, true, false, ◌||◌, List, [], ◌∷◌, ◌++◌, reverse, refl, sym, ap}
use Rattle.std.proofs.Common.{subst, ◌∙◌, append-nil, append_assoc}
use Rattle.std.proofs.lemmas.List.{reverse-append, reverse-reverse}
use Rattle.std.specs.List.{list_any}
use Rattle.f77_grammar.specs.Statement77.{Labelled, Statement77, If, EndIf}
use Rattle.f77_grammar.specs.program.Text.{is_block_if, is_end_if, left_over, without_ended, unended}
use Rattle.f77_grammar.specs.program.Nesting.{up_to_if, since, since_if, ends_here, has_end_if77, has_open_if}
use Rattle.f77_laws.specs.trees.Pairs.{ArePaired, IsEnded, IsEnding, EndIfIsPartner, OpenIfIsPartner, OneEnd}
use Rattle.f77_laws.specs.trees.Pairs.{OneIf, SinceIsBetween, UnendedStandOutside}
use Rattle.f77_laws.specs.trees.Pairs.ArePaired.{nothing, other, pair}
use Rattle.f77_laws.proofs.trees.Lists.{right_false, not_both}

-- ---- what each statement does to the counts

ends_other : (s : Statement77) (more : ℕ → Bool) (k : ℕ) → is_block_if s ≡ false → is_end_if s ≡ false
    → ends_here s more k ≡ more k
ends_other (If c) more k a b = absurd (not_both true refl a)
ends_other EndIf more k a b = absurd (not_both true refl b)
ends_other s more k a b = refl

ends_if : (s : Statement77) (more : ℕ → Bool) (k : ℕ) → is_block_if s ≡ true → ends_here s more k ≡ more (suc k)
ends_if (If c) more k a = refl
ends_if s more k a = absurd (not_both false a refl)

ends_end : (s : Statement77) (more : ℕ → Bool) (k : ℕ) → is_end_if s ≡ true → ends_here s more (suc k) ≡ more k
ends_end EndIf more k b = refl
ends_end s more k b = absurd (not_both false b refl)

ends_first : (s : Statement77) (more : ℕ → Bool) → is_end_if s ≡ true → ends_here s more zero ≡ true
ends_first EndIf more b = refl
ends_first s more b = absurd (not_both false b refl)

-- ---- forwards

paired_passed : (xs ys : List Labelled) (k : ℕ) → ArePaired xs → has_end_if77 (xs ++ ys) k ≡ has_end_if77 ys k
paired_passed xs ys k nothing = refl
paired_passed xs ys k (other x zs a b h) = ends_other x.statement (has_end_if77 (zs ++ ys)) k a b ∙ paired_passed zs ys k h
paired_passed xs ys k (pair x end between zs a b h g) =
    ends_if x.statement (has_end_if77 ((between ++ end ∷ zs) ++ ys)) k a
    ∙ ap (λ ws. has_end_if77 ws (suc k)) (append_assoc between (end ∷ zs) ys)
    ∙ paired_passed between (end ∷ (zs ++ ys)) (suc k) h
    ∙ ends_end end.statement (has_end_if77 (zs ++ ys)) k b
    ∙ paired_passed zs ys k g

pub paired_append : (xs ys : List Labelled) → ArePaired xs → ArePaired ys → ArePaired (xs ++ ys)
paired_append xs ys nothing k = k
paired_append xs ys (other x zs a b h) k = other x (zs ++ ys) a b (paired_append zs ys h k)
paired_append xs ys (pair x end between zs a b h g) k =
    subst (λ (ws : List Labelled). ArePaired (x ∷ ws)) (sym (append_assoc between (end ∷ zs) ys))
    (pair x end between (zs ++ ys) a b h (paired_append zs ys g k))

-- the first END IF without a block IF among the statements, and what holds of those behind it
record EndIn (xs : List Labelled) (More : List Labelled → Type 0) : Type 0 where
  between : List Labelled
  end : Labelled
  later : List Labelled
  whole : xs ≡ between ++ end ∷ later
  is_end : is_end_if end.statement ≡ true
  paired : ArePaired between
  more : More later

-- there is one, and `k` more
abbrev EndAfter : ℕ → List Labelled → Type 0
EndAfter zero xs = EndIn xs (λ ys. Unit {0})
EndAfter (suc k) xs = EndIn xs (EndAfter k)

end_other : (x : Labelled) (xs : List Labelled) (More : List Labelled → Type 0) → is_block_if x.statement ≡ false
    → is_end_if x.statement ≡ false → EndIn xs More → EndIn (x ∷ xs) More
end_other x xs More a b h =
    record {
      between = x ∷ h.between;
      end = h.end;
      later = h.later;
      whole = ap (λ zs. x ∷ zs) h.whole;
      is_end = h.is_end;
      paired = other x h.between a b h.paired;
      more = h.more;
    }

end_pair : (x : Labelled) (xs : List Labelled) (More : List Labelled → Type 0) → is_block_if x.statement ≡ true
    → EndIn xs (λ ys. EndIn ys More) → EndIn (x ∷ xs) More
end_pair x xs More a h =
    let g = h.more in
    record {
      between = x ∷ (h.between ++ h.end ∷ g.between);
      end = g.end;
      later = g.later;
      whole = ap (λ zs. x ∷ zs) (h.whole ∙ ap (λ zs. h.between ++ h.end ∷ zs) g.whole
          ∙ sym (append_assoc h.between (h.end ∷ g.between) (g.end ∷ g.later)));
      is_end = g.is_end;
      paired = pair x h.end h.between g.between a h.is_end h.paired g.paired;
      more = g.more;
    }

end_step : (x : Labelled) (xs : List Labelled) (s : Statement77) → x.statement ≡ s
    → ((k : ℕ) → has_end_if77 xs k ≡ true → EndAfter k xs)
    → (k : ℕ) → ends_here s (has_end_if77 xs) k ≡ true → EndAfter k (x ∷ xs)
end_step x xs EndIf e ih zero h =
    record {
      between = [];
      end = x;
      later = xs;
      whole = refl;
      is_end = ap is_end_if e;
      paired = nothing;
      more = tt;
    }
end_step x xs EndIf e ih (suc k) h =
    record {
      between = [];
      end = x;
      later = xs;
      whole = refl;
      is_end = ap is_end_if e;
      paired = nothing;
      more = ih k h;
    }
end_step x xs (If c) e ih zero h = end_pair x xs (λ ys. Unit {0}) (ap is_block_if e) (ih 1 h)
end_step x xs (If c) e ih (suc k) h = end_pair x xs (EndAfter k) (ap is_block_if e) (ih (suc (suc k)) h)
end_step x xs s e ih zero h = end_other x xs (λ ys. Unit {0}) (ap is_block_if e) (ap is_end_if e) (ih zero h)
end_step x xs s e ih (suc k) h = end_other x xs (EndAfter k) (ap is_block_if e) (ap is_end_if e) (ih (suc k) h)

end_after : (xs : List Labelled) (k : ℕ) → has_end_if77 xs k ≡ true → EndAfter k xs
end_after [] k h = absurd (not_both false h refl)
end_after (x ∷ xs) k h = end_step x xs x.statement refl (end_after xs) k h

pub end_if_is_partner : EndIfIsPartner
end_if_is_partner x after a = (there, back)
  where
    there : has_end_if77 after 0 ≡ true → IsEnded x after
    there h =
        let e = end_after after 0 h in
        record {
          between = e.between;
          end = e.end;
          later = e.later;
          whole = e.whole;
          ends = record { is_if = a; is_end = e.is_end; paired = e.paired };
        }

    back : IsEnded x after → has_end_if77 after 0 ≡ true
    back h =
        ap (λ zs. has_end_if77 zs 0) h.whole ∙ paired_passed h.between (h.end ∷ h.later) 0 h.ends.paired
        ∙ ends_first h.end.statement (has_end_if77 h.later) h.ends.is_end

-- the statements up to the first END IF without a block IF, where `k` are open
abbrev until_step : Statement77 → Labelled → (ℕ → List Labelled) → ℕ → List Labelled
until_step EndIf x more zero = []
until_step EndIf x more (suc k) = x ∷ more k
until_step (If c) x more k = x ∷ more (suc k)
until_step s x more k = x ∷ more k

abbrev until : List Labelled → ℕ → List Labelled
until [] k = []
until (x ∷ xs) k = until_step x.statement x (until xs) k

until_other : (s : Statement77) (x : Labelled) (more : ℕ → List Labelled) (k : ℕ) → is_block_if s ≡ false
    → is_end_if s ≡ false → until_step s x more k ≡ x ∷ more k
until_other (If c) x more k a b = absurd (not_both true refl a)
until_other EndIf x more k a b = absurd (not_both true refl b)
until_other s x more k a b = refl

until_if : (s : Statement77) (x : Labelled) (more : ℕ → List Labelled) (k : ℕ) → is_block_if s ≡ true
    → until_step s x more k ≡ x ∷ more (suc k)
until_if (If c) x more k a = refl
until_if s x more k a = absurd (not_both false a refl)

until_end : (s : Statement77) (x : Labelled) (more : ℕ → List Labelled) (k : ℕ) → is_end_if s ≡ true
    → until_step s x more (suc k) ≡ x ∷ more k
until_end EndIf x more k b = refl
until_end s x more k b = absurd (not_both false b refl)

until_first : (s : Statement77) (x : Labelled) (more : ℕ → List Labelled) → is_end_if s ≡ true
    → until_step s x more zero ≡ []
until_first EndIf x more b = refl
until_first s x more b = absurd (not_both false b refl)

until_paired : (xs ys : List Labelled) (k : ℕ) → ArePaired xs → until (xs ++ ys) k ≡ xs ++ until ys k
until_paired xs ys k nothing = refl
until_paired xs ys k (other x zs a b h) =
    until_other x.statement x (until (zs ++ ys)) k a b ∙ ap (λ ws. x ∷ ws) (until_paired zs ys k h)
until_paired xs ys k (pair x end between zs a b h g) =
    until_if x.statement x (until ((between ++ end ∷ zs) ++ ys)) k a
    ∙ ap (λ ws. x ∷ until ws (suc k)) (append_assoc between (end ∷ zs) ys)
    ∙ ap (λ ws. x ∷ ws)
    (until_paired between (end ∷ (zs ++ ys)) (suc k) h
    ∙ ap (λ ws. between ++ ws)
    (until_end end.statement end (until (zs ++ ys)) k b ∙ ap (λ ws. end ∷ ws) (until_paired zs ys k g))
    ∙ sym (append_assoc between (end ∷ zs) (until ys k)))

until_between : (x : Labelled) (after : List Labelled) (h : IsEnded x after) → until after 0 ≡ h.between
until_between x after h =
    ap (λ zs. until zs 0) h.whole ∙ until_paired h.between (h.end ∷ h.later) 0 h.ends.paired
    ∙ ap (λ zs. h.between ++ zs) (until_first h.end.statement h.end (until h.later) h.ends.is_end)
    ∙ append-nil h.between

pub one_end : OneEnd
one_end x after h k = sym (until_between x after h) ∙ until_between x after k

-- ---- backwards

-- paired statements, the nearest first
pub data BackPaired : List Labelled → Type 0 where
  none : BackPaired []
  single : (x : Labelled) (xs : List Labelled) → is_block_if x.statement ≡ false → is_end_if x.statement ≡ false
      → BackPaired xs → BackPaired (x ∷ xs)
  double : (x end : Labelled) (between xs : List Labelled) → is_block_if x.statement ≡ true
      → is_end_if end.statement ≡ true → BackPaired between → BackPaired xs
      → BackPaired (end ∷ (between ++ x ∷ xs))

pub back_append : (xs ys : List Labelled) → BackPaired xs → BackPaired ys → BackPaired (xs ++ ys)
back_append xs ys none k = k
back_append xs ys (single x zs a b h) k = single x (zs ++ ys) a b (back_append zs ys h k)
back_append xs ys (double x end between zs a b h g) k =
    subst (λ (ws : List Labelled). BackPaired (end ∷ ws)) (sym (append_assoc between (x ∷ zs) ys))
    (double x end between (zs ++ ys) a b h (back_append zs ys g k))

pub reverse_one : (x : Labelled) (xs : List Labelled) → reverse (x ∷ xs) ≡ reverse xs ++ x ∷ []
reverse_one x xs = reverse-append (x ∷ []) xs

pub reverse_pair : (x y : Labelled) (xs ys : List Labelled)
    → reverse (x ∷ (xs ++ y ∷ ys)) ≡ reverse ys ++ (y ∷ (reverse xs ++ x ∷ []))
reverse_pair x y xs ys =
    reverse_one x (xs ++ y ∷ ys)
    ∙ ap (λ zs. zs ++ x ∷ []) (reverse-append xs (y ∷ ys) ∙ ap (λ zs. zs ++ reverse xs) (reverse_one y ys))
    ∙ ap (λ zs. zs ++ x ∷ []) (append_assoc (reverse ys) (y ∷ []) (reverse xs))
    ∙ append_assoc (reverse ys) (y ∷ reverse xs) (x ∷ [])

pub back_of : (xs : List Labelled) → ArePaired xs → BackPaired (reverse xs)
back_of xs nothing = none
back_of xs (other x zs a b h) =
    subst (λ (ws : List Labelled). BackPaired ws) (sym (reverse_one x zs))
    (back_append (reverse zs) (x ∷ []) (back_of zs h) (single x [] a b none))
back_of xs (pair x end between zs a b h g) =
    subst (λ (ws : List Labelled). BackPaired ws) (sym (reverse_pair x end between zs))
    (back_append (reverse zs) (end ∷ (reverse between ++ x ∷ [])) (back_of zs g)
    (double x end (reverse between) [] a b (back_of between h) none))

forward_of : (xs : List Labelled) → BackPaired xs → ArePaired (reverse xs)
forward_of xs none = nothing
forward_of xs (single x zs a b h) =
    subst (λ (ws : List Labelled). ArePaired ws) (sym (reverse_one x zs))
    (paired_append (reverse zs) (x ∷ []) (forward_of zs h) (other x [] a b nothing))
forward_of xs (double x end between zs a b h g) =
    subst (λ (ws : List Labelled). ArePaired ws) (sym (reverse_pair end x between zs))
    (paired_append (reverse zs) (x ∷ (reverse between ++ end ∷ [])) (forward_of zs g)
    (pair x end (reverse between) [] a b (forward_of between h) nothing))

-- a block IF before which all that comes is paired, and what holds of those before it
record OpenIn (xs : List Labelled) (More : List Labelled → Type 0) : Type 0 where
  between : List Labelled
  opener : Labelled
  earlier : List Labelled
  whole : xs ≡ between ++ opener ∷ earlier
  is_if : is_block_if opener.statement ≡ true
  paired : BackPaired between
  more : More earlier

abbrev OpenBefore : ℕ → List Labelled → Type 0
OpenBefore zero xs = OpenIn xs (λ ys. Unit {0})
OpenBefore (suc k) xs = OpenIn xs (OpenBefore k)

abbrev pub some_if : List Labelled → Bool
some_if xs = list_any (λ (z : Labelled). is_block_if z.statement) xs

open_other : (x : Labelled) (xs : List Labelled) (More : List Labelled → Type 0) → is_block_if x.statement ≡ false
    → is_end_if x.statement ≡ false → OpenIn xs More → OpenIn (x ∷ xs) More
open_other x xs More a b h =
    record {
      between = x ∷ h.between;
      opener = h.opener;
      earlier = h.earlier;
      whole = ap (λ zs. x ∷ zs) h.whole;
      is_if = h.is_if;
      paired = single x h.between a b h.paired;
      more = h.more;
    }

open_pair : (end : Labelled) (xs : List Labelled) (More : List Labelled → Type 0) → is_end_if end.statement ≡ true
    → OpenIn xs (λ ys. OpenIn ys More) → OpenIn (end ∷ xs) More
open_pair end xs More b h =
    let g = h.more in
    record {
      between = end ∷ (h.between ++ h.opener ∷ g.between);
      opener = g.opener;
      earlier = g.earlier;
      whole = ap (λ zs. end ∷ zs) (h.whole ∙ ap (λ zs. h.between ++ h.opener ∷ zs) g.whole
          ∙ sym (append_assoc h.between (h.opener ∷ g.between) (g.opener ∷ g.earlier)));
      is_if = g.is_if;
      paired = double h.opener end h.between g.between h.is_if b h.paired g.paired;
      more = g.more;
    }

open_here : (x : Labelled) (xs : List Labelled) (More : List Labelled → Type 0) → is_block_if x.statement ≡ true
    → More xs → OpenIn (x ∷ xs) More
open_here x xs More a h =
    record { between = []; opener = x; earlier = xs; whole = refl; is_if = a; paired = none; more = h }

open_step : (x : Labelled) (xs : List Labelled) (s : Statement77) → x.statement ≡ s
    → ((k : ℕ) → some_if (without_ended xs k) ≡ true → OpenBefore k xs)
    → (k : ℕ) → some_if (left_over s x (without_ended xs) k) ≡ true → OpenBefore k (x ∷ xs)
open_step x xs EndIf e ih zero h = open_pair x xs (λ ys. Unit {0}) (ap is_end_if e) (ih 1 h)
open_step x xs EndIf e ih (suc k) h = open_pair x xs (OpenBefore k) (ap is_end_if e) (ih (suc (suc k)) h)
open_step x xs (If c) e ih zero h = open_here x xs (λ ys. Unit {0}) (ap is_block_if e) tt
open_step x xs (If c) e ih (suc k) h = open_here x xs (OpenBefore k) (ap is_block_if e) (ih k h)
open_step x xs s e ih zero h =
    open_other x xs (λ ys. Unit {0}) (ap is_block_if e) (ap is_end_if e)
    (ih zero (sym (ap (λ t. is_block_if t || some_if (without_ended xs 0)) e) ∙ h))
open_step x xs s e ih (suc k) h = open_other x xs (OpenBefore k) (ap is_block_if e) (ap is_end_if e) (ih (suc k) h)

open_before : (xs : List Labelled) (k : ℕ) → some_if (without_ended xs k) ≡ true → OpenBefore k xs
open_before [] k h = absurd (not_both false h refl)
open_before (x ∷ xs) k h = open_step x xs x.statement refl (open_before xs) k h

-- ---- what the counts leave of paired statements

pub left_if : (s : Statement77) (x : Labelled) (more : ℕ → List Labelled) (k : ℕ) → is_block_if s ≡ true
    → left_over s x more (suc k) ≡ more k
left_if (If c) x more k a = refl
left_if s x more k a = absurd (not_both false a refl)

pub left_end : (s : Statement77) (x : Labelled) (more : ℕ → List Labelled) (k : ℕ) → is_end_if s ≡ true
    → left_over s x more k ≡ more (suc k)
left_end EndIf x more k b = refl
left_end s x more k b = absurd (not_both false b refl)

pub left_first : (s : Statement77) (x : Labelled) (more : ℕ → List Labelled) → is_end_if s ≡ false
    → left_over s x more zero ≡ x ∷ more zero
left_first EndIf x more b = absurd (not_both true refl b)
left_first (If c) x more b = refl
left_first s x more b = refl

left_other : (s : Statement77) (x : Labelled) (more : ℕ → List Labelled) (k : ℕ) → is_block_if s ≡ false
    → is_end_if s ≡ false → left_over s x more (suc k) ≡ more (suc k)
left_other (If c) x more k a b = absurd (not_both true refl a)
left_other EndIf x more k a b = absurd (not_both true refl b)
left_other s x more k a b = refl

-- where a block IF has ended, nothing in it is left
pub all_passed : (xs ys : List Labelled) (k : ℕ) → BackPaired xs
    → without_ended (xs ++ ys) (suc k) ≡ without_ended ys (suc k)
all_passed xs ys k none = refl
all_passed xs ys k (single x zs a b h) =
    left_other x.statement x (without_ended (zs ++ ys)) k a b ∙ all_passed zs ys k h
all_passed xs ys k (double x end between zs a b h g) =
    left_end end.statement end (without_ended ((between ++ x ∷ zs) ++ ys)) (suc k) b
    ∙ ap (λ ws. without_ended ws (suc (suc k))) (append_assoc between (x ∷ zs) ys)
    ∙ all_passed between (x ∷ (zs ++ ys)) (suc k) h
    ∙ left_if x.statement x (without_ended (zs ++ ys)) (suc k) a
    ∙ all_passed zs ys k g

pub no_if_left : (xs ys : List Labelled) → BackPaired xs → some_if (without_ended (xs ++ ys) 0) ≡ some_if (without_ended ys 0)
no_if_left xs ys none = refl
no_if_left xs ys (single x zs a b h) =
    ap some_if (left_first x.statement x (without_ended (zs ++ ys)) b)
    ∙ ap (λ t. t || some_if (without_ended (zs ++ ys) 0)) a ∙ no_if_left zs ys h
no_if_left xs ys (double x end between zs a b h g) =
    ap some_if
    (left_end end.statement end (without_ended ((between ++ x ∷ zs) ++ ys)) 0 b
    ∙ ap (λ ws. without_ended ws 1) (append_assoc between (x ∷ zs) ys)
    ∙ all_passed between (x ∷ (zs ++ ys)) 0 h
    ∙ left_if x.statement x (without_ended (zs ++ ys)) 0 a)
    ∙ no_if_left zs ys g

pub not_end : (s : Statement77) → is_block_if s ≡ true → is_end_if s ≡ false
not_end (If c) a = refl
not_end s a = absurd (not_both false a refl)

pub is_open : (between : List Labelled) (x : Labelled) (earlier : List Labelled) → BackPaired between
    → is_block_if x.statement ≡ true → has_open_if (between ++ x ∷ earlier) ≡ true
is_open between x earlier h a =
    no_if_left between (x ∷ earlier) h
    ∙ ap some_if (left_first x.statement x (without_ended earlier) (not_end x.statement a))
    ∙ ap (λ t. t || some_if (without_ended earlier 0)) a

pub open_if_is_partner : OpenIfIsPartner
open_if_is_partner end before b = (there, back)
  where
    there : has_open_if before ≡ true → IsEnding end before
    there h =
        let o = open_before before 0 h in
        record {
          between = reverse o.between;
          x = o.opener;
          earlier = o.earlier;
          whole = o.whole ∙ ap (λ zs. zs ++ o.opener ∷ o.earlier) (sym (reverse-reverse o.between));
          ends = record { is_if = o.is_if; is_end = b; paired = forward_of o.between o.paired };
        }

    back : IsEnding end before → has_open_if before ≡ true
    back h =
        ap has_open_if h.whole
        ∙ is_open (reverse h.between) h.x h.earlier (back_of h.between h.ends.paired) h.ends.is_if

-- ---- what stands since

since_other : (s : Statement77) (x : Labelled) (more : ℕ → List Labelled) (k : ℕ) → is_block_if s ≡ false
    → is_end_if s ≡ false → up_to_if s x more k ≡ x ∷ more k
since_other (If c) x more k a b = absurd (not_both true refl a)
since_other EndIf x more k a b = absurd (not_both true refl b)
since_other s x more k a b = refl

since_end : (s : Statement77) (x : Labelled) (more : ℕ → List Labelled) (k : ℕ) → is_end_if s ≡ true
    → up_to_if s x more k ≡ x ∷ more (suc k)
since_end EndIf x more k b = refl
since_end s x more k b = absurd (not_both false b refl)

since_later_if : (s : Statement77) (x : Labelled) (more : ℕ → List Labelled) (k : ℕ) → is_block_if s ≡ true
    → up_to_if s x more (suc k) ≡ x ∷ more k
since_later_if (If c) x more k a = refl
since_later_if s x more k a = absurd (not_both false a refl)

since_first_if : (s : Statement77) (x : Labelled) (more : ℕ → List Labelled) → is_block_if s ≡ true
    → up_to_if s x more zero ≡ []
since_first_if (If c) x more a = refl
since_first_if s x more a = absurd (not_both false a refl)

since_paired : (xs ys : List Labelled) (k : ℕ) → BackPaired xs → since (xs ++ ys) k ≡ xs ++ since ys k
since_paired xs ys k none = refl
since_paired xs ys k (single x zs a b h) =
    since_other x.statement x (since (zs ++ ys)) k a b ∙ ap (λ ws. x ∷ ws) (since_paired zs ys k h)
since_paired xs ys k (double x end between zs a b h g) =
    since_end end.statement end (since ((between ++ x ∷ zs) ++ ys)) k b
    ∙ ap (λ ws. end ∷ since ws (suc k)) (append_assoc between (x ∷ zs) ys)
    ∙ ap (λ ws. end ∷ ws)
    (since_paired between (x ∷ (zs ++ ys)) (suc k) h
    ∙ ap (λ ws. between ++ ws)
    (since_later_if x.statement x (since (zs ++ ys)) k a ∙ ap (λ ws. x ∷ ws) (since_paired zs ys k g))
    ∙ sym (append_assoc between (x ∷ zs) (since ys k)))

pub since_is : (between : List Labelled) (x : Labelled) (earlier : List Labelled) → BackPaired between
    → is_block_if x.statement ≡ true → since_if (between ++ x ∷ earlier) ≡ between
since_is between x earlier h a =
    since_paired between (x ∷ earlier) 0 h
    ∙ ap (λ zs. between ++ zs) (since_first_if x.statement x (since earlier) a)
    ∙ append-nil between

pub since_is_between : SinceIsBetween
since_is_between end before h =
    ap since_if h.whole ∙ since_is (reverse h.between) h.x h.earlier (back_of h.between h.ends.paired) h.ends.is_if

pub one_if : OneIf
one_if end before h k =
    sym (reverse-reverse h.between)
    ∙ ap reverse (sym (since_is_between end before h) ∙ since_is_between end before k)
    ∙ reverse-reverse k.between

-- ---- what stands in no block IF that has ended

none_left_step : (s : Statement77) (x : Labelled) (xs : List Labelled) → x.statement ≡ s
    → ((k : ℕ) → some_if (without_ended xs k) ≡ false → without_ended xs (suc k) ≡ [])
    → (k : ℕ) → some_if (left_over s x (without_ended xs) k) ≡ false → left_over s x (without_ended xs) (suc k) ≡ []
none_left_step EndIf x xs e ih k h = ih (suc k) h
none_left_step (If c) x xs e ih zero h =
    absurd (not_both true refl (sym (ap (λ t. is_block_if t || some_if (without_ended xs 0)) e) ∙ h))
none_left_step (If c) x xs e ih (suc k) h = ih k h
none_left_step s x xs e ih zero h = ih zero (right_false (is_block_if x.statement) (some_if (without_ended xs 0)) h)
none_left_step s x xs e ih (suc k) h = ih (suc k) h

none_left : (xs : List Labelled) (k : ℕ) → some_if (without_ended xs k) ≡ false → without_ended xs (suc k) ≡ []
none_left [] k h = refl
none_left (x ∷ xs) k h = none_left_step x.statement x xs refl (none_left xs) k h

pub unended_stand_outside : UnendedStandOutside
unended_stand_outside = record { kept = kept; ended = ended; alone = alone }
  where
    kept : (x : Labelled) (before : List Labelled) → is_end_if x.statement ≡ false
        → unended (x ∷ before) ≡ x ∷ unended before
    kept x before b = left_first x.statement x (without_ended before) b

    ended : (end : Labelled) (before : List Labelled) (h : IsEnding end before)
        → unended (end ∷ before) ≡ unended h.earlier
    ended end before h =
        left_end end.statement end (without_ended before) 0 h.ends.is_end
        ∙ ap (λ zs. without_ended zs 1) h.whole
        ∙ all_passed (reverse h.between) (h.x ∷ h.earlier) 0 (back_of h.between h.ends.paired)
        ∙ left_if h.x.statement h.x (without_ended h.earlier) 0 h.ends.is_if

    alone : (end : Labelled) (before : List Labelled) → is_end_if end.statement ≡ true
        → (IsEnding end before → ⊥) → unended (end ∷ before) ≡ []
    alone end before b n =
        left_end end.statement end (without_ended before) 0 b ∙ none_left before 0 (none_open (has_open_if before) refl)
      where
        none_open : (t : Bool) → has_open_if before ≡ t → has_open_if before ≡ false
        none_open true e = absurd (n ((open_if_is_partner end before b).0 e))
        none_open false e = e
