-- Names that are counted.
use Rattle.std.proofs.Common.{◌≡◌, ℕ, suc, ◌+◌, ◌-◌, ◌<◌, ◌≤◌, Bool, true, false, ◌||◌, cond, List, [], ◌∷◌, ◌++◌, map, drop, length, nat_lt, get_or, refl, sym, ap, ◌∙◌, subst, append_assoc, arith}
use Rattle.std.specs.Str.{bytes_eq}
use Rattle.std.specs.List.{list_any, filter}
use Rattle.std.proofs.lemmas.Slice.Eq.{bytes_eq-Decides}
use Rattle.std.proofs.lemmas.List.{length-append, drop_all}
use Rattle.std.proofs.lemmas.List.Folds.{list_any-append}
use Rattle.indexmap.specs.IndexSet.{insert_key}
use Rattle.meaning.specs.Names.{is_among}
use Rattle.f77_grammar.specs.program.Uses.{Use77, is_variable, is_constant_name, uses77_of, uses_in_text}
use Rattle.f77_grammar.specs.program.Limits.{once, has_many_names}
use Rattle.f77_grammar.specs.declared.syntax.statements.Labelled.{Labelled as Labelled'}
use Rattle.f77_grammar.specs.syntax.Views.{text_of, labelled_of, statement_of}
use Rattle.f77_grammar.specs.syntax.Walk.{passed, place_at}
use Rattle.f77_names.specs.declared.counts.Counted.{Counted}
use Rattle.f77_names.specs.declared.names.Names.{Names}
use Rattle.f77_names.specs.declared.uses.Use.{Use as Use'}
use Rattle.f77_names.specs.NameFacts.{AreNamesOf, facts_in}
use Rattle.f77_names.specs.Counted.{is_counted_by, counted_in, Holds}
use Rattle.f77_names.specs.UsesView.{plain_use}
use Rattle.f77_names.proofs.FactLaws.{variable_by_names, constant_by_names}
use Rattle.f77_names.proofs.SeenLaws.{ahead_at}
use Rattle.f77_names.proofs.DeclarationLaws.{text_behind}

pub holds_same : (counted : Counted) (xs ys : List (List ℕ)) → xs ≡ ys → Holds counted xs → Holds counted ys
holds_same counted xs ys e h = subst (Holds counted) e h

-- ---- one name more

among_kept : (x k : List ℕ) (xs : List (List ℕ)) → is_among xs k ≡ true → is_among xs x ≡ (bytes_eq x k || is_among xs x)
among_kept x k xs h = cases (bytes_eq x k) refl
  where
    cases : (b : Bool) → bytes_eq x k ≡ b → is_among xs x ≡ (b || is_among xs x)
    cases true e = ap (is_among xs) ((bytes_eq-Decides x k).0 e) ∙ h
    cases false e = refl

among_added : (a b : Bool) → (a || (b || false)) ≡ (b || a)
among_added true true = refl
among_added true false = refl
among_added false true = refl
among_added false false = refl

pub holds_more : (old new : Counted) (k : List ℕ) (xs : List (List ℕ)) → new.names.keys ≡ insert_key bytes_eq old.names.keys k → Holds old xs → Holds new (k ∷ xs)
holds_more old new k xs e h = cases (list_any (bytes_eq k) old.names.keys) refl
  where
    grown : (n m : ℕ) → n ≡ m → n + 1 ≡ suc m
    grown n m h = omega (arith, h)

    cases : (b : Bool) → list_any (bytes_eq k) old.names.keys ≡ b → Holds new (k ∷ xs)
    cases true f = record {
      among = λ x.
          ap (list_any (bytes_eq x)) (e ∙ ap (λ b. cond b old.names.keys (old.names.keys ++ k ∷ [])) f) ∙ h.among x ∙ among_kept x k xs (sym (h.among k) ∙ f);
      number =
          ap length (e ∙ ap (λ b. cond b old.names.keys (old.names.keys ++ k ∷ [])) f) ∙ h.number
          ∙ ap length (ap (λ b. cond b (once xs) (k ∷ once xs)) (sym (sym (h.among k) ∙ f)));
    }
    cases false f = record {
      among = λ x.
          ap (list_any (bytes_eq x)) (e ∙ ap (λ b. cond b old.names.keys (old.names.keys ++ k ∷ [])) f)
          ∙ list_any-append (bytes_eq x) old.names.keys (k ∷ []) ∙ among_added (list_any (bytes_eq x) old.names.keys) (bytes_eq x k)
          ∙ ap (λ b. bytes_eq x k || b) (h.among x);
      number =
          ap length (e ∙ ap (λ b. cond b old.names.keys (old.names.keys ++ k ∷ [])) f) ∙ length-append old.names.keys (k ∷ [])
          ∙ grown (length old.names.keys) (length (once xs)) h.number
          ∙ ap length (ap (λ b. cond b (once xs) (k ∷ once xs)) (sym (sym (h.among k) ∙ f)));
    }

-- ---- uses

pub counted_by : (names : Names) (us : List Use77) (x : List ℕ) → AreNamesOf names us → is_counted_by (facts_in names x) ≡ (is_variable us x || is_constant_name us x)
counted_by names us x h = ap (λ b. b || (facts_in names x).constant) (variable_by_names names us x h) ∙ ap (λ b. is_variable us x || b) (constant_by_names names us x h)

pub is_counted : (names : Names) (us : List Use77) (u : Use77) (xs : List (List ℕ)) → AreNamesOf names us → is_counted_by (facts_in names u.name) ≡ true
    → u.name ∷ xs ≡ counted_in us (u ∷ []) ++ xs
is_counted names us u xs h e = ap (λ b. map (λ (v : Use77). v.name) (cond b (u ∷ []) []) ++ xs) (sym e ∙ counted_by names us u.name h)

pub is_left_out : (names : Names) (us : List Use77) (u : Use77) (xs : List (List ℕ)) → AreNamesOf names us → is_counted_by (facts_in names u.name) ≡ false
    → xs ≡ counted_in us (u ∷ []) ++ xs
is_left_out names us u xs h e = ap (λ b. map (λ (v : Use77). v.name) (cond b (u ∷ []) []) ++ xs) (sym e ∙ counted_by names us u.name h)

pub counted_append : (us vs ws : List Use77) → counted_in us (vs ++ ws) ≡ counted_in us vs ++ counted_in us ws
counted_append us [] ws = refl
counted_append us (v ∷ vs) ws = cases (is_variable us v.name || is_constant_name us v.name) (counted_append us vs ws)
  where
    cases : (b : Bool) → counted_in us (vs ++ ws) ≡ counted_in us vs ++ counted_in us ws
        → map (λ (u : Use77). u.name) (cond b (v ∷ filter (λ (u : Use77). is_variable us u.name || is_constant_name us u.name) (vs ++ ws)) (filter (λ (u : Use77). is_variable us u.name || is_constant_name us u.name) (vs ++ ws)))
        ≡ map (λ (u : Use77). u.name) (cond b (v ∷ filter (λ (u : Use77). is_variable us u.name || is_constant_name us u.name) vs) (filter (λ (u : Use77). is_variable us u.name || is_constant_name us u.name) vs)) ++ counted_in us ws
    cases true e = ap (λ xs. v.name ∷ xs) e
    cases false e = e

pub counted_ahead : (us : List Use77) (list : List Use') (i : ℕ) (u : Use') (xs : List (List ℕ)) → i < length list → u ≡ get_or list i u
    → counted_in us (plain_use u ∷ []) ++ (counted_in us (map plain_use (drop (i + 1) list)) ++ xs) ≡ counted_in us (map plain_use (drop i list)) ++ xs
counted_ahead us list i u xs h e =
    sym (append_assoc (counted_in us (plain_use u ∷ [])) (counted_in us (map plain_use (drop (i + 1) list))) xs)
    ∙ ap (λ ys. ys ++ xs) (sym (counted_append us (plain_use u ∷ []) (map plain_use (drop (i + 1) list))))
    ∙ ap (λ vs. counted_in us vs ++ xs) (sym (ahead_at plain_use list i u h e))

pub counted_back : (us : List Use77) (list : List Use') (i : ℕ) (u : Use') (xs : List (List ℕ)) → 0 < i → i ≤ length list → u ≡ get_or list (i - 1) u
    → counted_in us (plain_use u ∷ []) ++ (counted_in us (map plain_use (drop i list)) ++ xs) ≡ counted_in us (map plain_use (drop (i - 1) list)) ++ xs
counted_back us list i u xs h k e =
    ap (λ n. counted_in us (plain_use u ∷ []) ++ (counted_in us (map plain_use (drop n list)) ++ xs)) (behind i h) ∙ counted_ahead us list (i - 1) u xs (within i (length list) h k) e
  where
    behind : (i : ℕ) → 0 < i → i ≡ (i - 1) + 1
    behind i h = omega (arith, h)

    within : (i n : ℕ) → 0 < i → i ≤ n → i - 1 < n
    within i n h k = omega (arith, h, k)

pub counted_behind : (us : List Use77) (text : List Labelled') (i : ℕ) (x : Labelled') → i < length text → x ≡ get_or text i x
    → counted_in us (uses77_of (statement_of x.statement)) ++ counted_in us (uses_in_text (passed (text_of text) i)) ≡ counted_in us (uses_in_text (passed (text_of text) (i + 1)))
counted_behind us text i x h e =
    sym (counted_append us (uses77_of (statement_of x.statement)) (uses_in_text (passed (text_of text) i))) ∙ ap (counted_in us) (sym (text_behind text i x h e))

pub none_ahead : (us : List Use77) (counted : Counted) (list : List Use') (xs : List (List ℕ)) → Holds counted xs → Holds counted (counted_in us (map plain_use (drop (length list) list)) ++ xs)
none_ahead us counted list xs h =
    holds_same counted xs (counted_in us (map plain_use (drop (length list) list)) ++ xs) (sym (ap (λ us'. counted_in us (map plain_use us') ++ xs) (drop_all (length list) list (same (length list))))) h
  where
    same : (n : ℕ) → n ≤ n
    same n = omega arith

pub all_counted : (us : List Use77) (counted : Counted) (list : List Use') (i : ℕ) (xs : List (List ℕ)) → i ≤ 0 → Holds counted (counted_in us (map plain_use (drop i list)) ++ xs)
    → Holds counted (counted_in us (map plain_use list) ++ xs)
all_counted us counted list i xs h known =
    holds_same counted (counted_in us (map plain_use (drop i list)) ++ xs) (counted_in us (map plain_use list) ++ xs) (ap (λ n. counted_in us (map plain_use (drop n list)) ++ xs) (none i h)) known
  where
    none : (i : ℕ) → i ≤ 0 → i ≡ 0
    none i h = omega (arith, h)

-- what is counted up to a statement says whether its place has many names
pub many_at : (text : List Labelled') (i : ℕ) (x : Labelled') (counted : Counted) → i < length text → x ≡ get_or text i x
    → Holds counted (counted_in (uses_in_text (text_of text)) (uses_in_text (passed (text_of text) (i + 1))))
    → has_many_names (uses_in_text (text_of text)) (place_at (text_of text) i (labelled_of x)) ≡ nat_lt 1000 (length counted.names.keys)
many_at text i x counted h e known =
    ap (λ vs. nat_lt 1000 (length (once (counted_in (uses_in_text (text_of text)) vs)))) (sym (text_behind text i x h e))
    ∙ ap (nat_lt 1000) (sym known.number)
