-- Names that stand so, each once.
use Rattle.std.proofs.Common.{◌≡◌, ℕ, ◌+◌, ◌<◌, Bool, true, false, not, ◌||◌, cond, List, [], ◌∷◌, ◌++◌, map, take, length, get_or, refl, sym, ap, ◌∙◌}
use Rattle.std.specs.Str.{bytes_eq}
use Rattle.std.specs.List.{list_any, filter}
use Rattle.std.proofs.lemmas.Slice.Eq.{bytes_eq-Decides}
use Rattle.std.proofs.lemmas.List.{map-append, append-nil}
use Rattle.std.proofs.lemmas.List.Elements.{filter-append}
use Rattle.indexmap.specs.IndexSet.{insert_key}
use Rattle.rewrite.specs.declared.uses.Use.{Use}
use Rattle.rewrite.specs.declared.uses.Way.{Way}
use Rattle.rewrite.specs.Names.{is_way, names_standing, without_repeats}
use Rattle.rewrite.specs.NamesAlong.{with_use}
use Rattle.rewrite.proofs.UseLaws.{one_more}

module _ (x y : List ℕ) where
  -- what is left without y still has x, if that is another one
  still_among : bytes_eq x y ≡ false → (zs : List (List ℕ)) → list_any (bytes_eq x) (filter (λ z. not (bytes_eq z y)) zs) ≡ list_any (bytes_eq x) zs
  still_among h [] = refl
  still_among h (z ∷ zs) = cases (bytes_eq z y) refl (still_among h zs)
    where
      cases : (b : Bool) → bytes_eq z y ≡ b → list_any (bytes_eq x) (filter (λ z. not (bytes_eq z y)) zs) ≡ list_any (bytes_eq x) zs
          → list_any (bytes_eq x) (cond (not b) (z ∷ filter (λ z. not (bytes_eq z y)) zs) (filter (λ z. not (bytes_eq z y)) zs)) ≡ (bytes_eq x z || list_any (bytes_eq x) zs)
      cases true e rest = rest ∙ ap (λ b. b || list_any (bytes_eq x) zs) (sym (ap (bytes_eq x) ((bytes_eq-Decides z y).0 e) ∙ h))
      cases false e rest = ap (λ b. bytes_eq x z || b) rest

  added_behind : (zs : List (List ℕ)) → y ∷ filter (λ z. not (bytes_eq z y)) (insert_key bytes_eq zs x) ≡ insert_key bytes_eq (y ∷ filter (λ z. not (bytes_eq z y)) zs) x
  added_behind zs = cases (bytes_eq x y) refl
    where
      rest : List (List ℕ)
      rest = filter (λ z. not (bytes_eq z y)) zs

      at_end : (b : Bool) → bytes_eq x y ≡ b → filter (λ z. not (bytes_eq z y)) (zs ++ x ∷ []) ≡ rest ++ cond (not b) (x ∷ []) []
      at_end b e = filter-append (λ z. not (bytes_eq z y)) zs (x ∷ []) ∙ ap (λ c. rest ++ cond (not c) (x ∷ []) []) e

      same : (a : Bool) → bytes_eq x y ≡ true → filter (λ z. not (bytes_eq z y)) (cond a zs (zs ++ x ∷ [])) ≡ rest
      same true e = refl
      same false e = at_end true e ∙ append-nil rest

      other : (a : Bool) → bytes_eq x y ≡ false → y ∷ filter (λ z. not (bytes_eq z y)) (cond a zs (zs ++ x ∷ [])) ≡ cond a (y ∷ rest) (y ∷ rest ++ x ∷ [])
      other true e = refl
      other false e = ap (λ ns. y ∷ ns) (at_end false e)

      cases : (b : Bool) → bytes_eq x y ≡ b → y ∷ filter (λ z. not (bytes_eq z y)) (insert_key bytes_eq zs x) ≡ insert_key bytes_eq (y ∷ rest) x
      cases true e =
          ap (λ ns. y ∷ ns) (same (list_any (bytes_eq x) zs) e)
          ∙ ap (λ b. cond (b || list_any (bytes_eq x) rest) (y ∷ rest) (y ∷ rest ++ x ∷ [])) (sym e)
      cases false e =
          other (list_any (bytes_eq x) zs) e
          ∙ ap (λ a. cond a (y ∷ rest) (y ∷ rest ++ x ∷ [])) (sym (still_among e zs))
          ∙ ap (λ b. cond (b || list_any (bytes_eq x) rest) (y ∷ rest) (y ∷ rest ++ x ∷ [])) (sym e)

repeats_more : (xs : List (List ℕ)) (x : List ℕ) → without_repeats (xs ++ x ∷ []) ≡ insert_key bytes_eq (without_repeats xs) x
repeats_more [] x = refl
repeats_more (y ∷ ys) x = ap (λ ns. y ∷ filter (λ z. not (bytes_eq z y)) ns) (repeats_more ys x) ∙ added_behind x y (without_repeats ys)

-- ---- one use more

module _ (w : Way) (list : List Use) (i : ℕ) (u : Use) where
  standing_more : (b : Bool) → i < length list → u ≡ get_or list i u → is_way u.way w ≡ b
      → names_standing w (take (i + 1) list) ≡ names_standing w (take i list) ++ map (λ (v : Use). v.name) (cond b (u ∷ []) [])
  standing_more b h e is =
      ap (names_standing w) (one_more list i u h e)
      ∙ ap (map (λ (v : Use). v.name)) (filter-append (λ (v : Use). is_way v.way w) (take i list) (u ∷ []))
      ∙ map-append (λ (v : Use). v.name) (filter (λ (v : Use). is_way v.way w) (take i list)) (filter (λ (v : Use). is_way v.way w) (u ∷ []))
      ∙ ap (λ c. names_standing w (take i list) ++ map (λ (v : Use). v.name) (cond c (u ∷ []) [])) is

  pub noted : (old new : List (List ℕ)) → i < length list → u ≡ get_or list i u → old ≡ without_repeats (names_standing w (take i list))
      → new ≡ with_use w old u → new ≡ without_repeats (names_standing w (take (i + 1) list))
  noted old new h e known now = now ∙ cases (is_way u.way w) refl
    where
      cases : (b : Bool) → is_way u.way w ≡ b → cond b (insert_key bytes_eq old u.name) old ≡ without_repeats (names_standing w (take (i + 1) list))
      cases true is =
          ap (λ ks. insert_key bytes_eq ks u.name) known ∙ sym (repeats_more (names_standing w (take i list)) u.name)
          ∙ ap without_repeats (sym (standing_more true h e is))
      cases false is = known ∙ ap without_repeats (sym (standing_more false h e is ∙ append-nil (names_standing w (take i list))))
