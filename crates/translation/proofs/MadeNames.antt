-- Made names among those that stand in blocks.
use Rattle.std.proofs.Common.{◌≡◌, ◌↔◌, ◌⊎◌, inl, inr, refl, sym, ap, subst, ◌∙◌, ℕ, zero, suc, ◌+◌, ◌-◌, ◌<◌, ◌≤◌}
use Rattle.std.proofs.Common.{Bool, true, false, if◌then◌else◌, IsTrue, true≢false, Option, Some, None, List, []}
use Rattle.std.proofs.Common.{◌∷◌, ◌++◌, take, length, get_or, Contains, arith}
use Rattle.std.specs.List.{flat_map, list_any}
use Rattle.std.specs.Option.{option_map}
use Rattle.std.specs.Str.{bytes_eq}
use Rattle.std.proofs.lemmas.List.{append-nil, map-append, take_all}
use Rattle.std.proofs.lemmas.List.Concat.{flat_map-append}
use Rattle.std.proofs.lemmas.List.Elements.{Contains-append_left, Contains-append_right, Contains-append_cases}
use Rattle.std.proofs.lemmas.List.Elements.{Contains-push_cases}
use Rattle.std.proofs.lemmas.Slice.Eq.{bytes_eq-Decides}
use Rattle.indexmap.specs.IndexSet.{insert_key}
use Rattle.indexmap.proofs.CallerLemmas.{Contains-insert_key}
use Rattle.tree.specs.Names.{IsSourceName}
use Rattle.tree.specs.Plain.{Block}
use Rattle.tree.specs.View.{block_of}
use Rattle.tree.specs.declared.stmts.Block.{Block as Tree}
use Rattle.rewrite.proofs.UseLaws.{one_more}
use Rattle.translation.specs.loop_placing.Placing.{blocks_of}
use Rattle.meaning_laws.proofs.profiles.Lists.{cases_of, here, nowhere}
use Rattle.translation.specs.program_translation.Translated.{IsMadeIn, StandsInBlocks}
use Rattle.translation.specs.Names.{AreWithMade, IsMadeAmong, names_in_option}

-- ---- one name

module _ (ks : List (List ℕ)) (y : List ℕ) where
  insert_key_kept : (x : List ℕ) (b : Bool) → Contains ks x → Contains (if b then ks else ks ++ y ∷ []) x
  insert_key_kept x true h = h
  insert_key_kept x false h = Contains-append_left ks (y ∷ []) x h

  insert_key_cases : (x : List ℕ) (b : Bool) → Contains (if b then ks else ks ++ y ∷ []) x → Contains ks x ⊎ (y ≡ x)
  insert_key_cases x true h = inl h
  insert_key_cases x false h = Contains-push_cases ks y x h

  made_name : (IsSourceName y → ⊥) → AreWithMade ks (y ∷ []) (insert_key bytes_eq ks y)
  made_name made x = (λ h. to (insert_key_cases x (list_any (bytes_eq y) ks) h), from)
    where
      to : Contains ks x ⊎ (y ≡ x) → Contains ks x ⊎ IsMadeAmong (y ∷ []) x
      to (inl h) = inl h
      to (inr e) = inr (record {
        among = subst (Contains (y ∷ [])) e (here y []);
        made = subst (λ z. IsSourceName z → ⊥) e made;
      })

      at : (y ≡ x) ⊎ Contains [] x → Contains (insert_key bytes_eq ks y) x
      at (inl e) =
          subst (Contains (insert_key bytes_eq ks y)) e
          (Contains-insert_key bytes_eq (λ a b. (bytes_eq-Decides a b).0) ks y)
      at (inr h) = absurd (nowhere x h)

      from : Contains ks x ⊎ IsMadeAmong (y ∷ []) x → Contains (insert_key bytes_eq ks y) x
      from (inl h) = insert_key_kept x (list_any (bytes_eq y) ks) h
      from (inr m) = at (cases_of y [] x m.among)

  pub noted_name : (new : List (List ℕ)) (b : Bool) → (IsTrue b ↔ IsSourceName y) → b ≡ false
      → new ≡ insert_key bytes_eq ks y → AreWithMade ks (y ∷ []) new
  noted_name new b means e now =
      subst (AreWithMade ks (y ∷ [])) (sym now) (made_name (λ h. true≢false (sym (means.1 h) ∙ e)))

-- ---- one name or one block more

module _ (ks ls ms : List (List ℕ)) (all more : List (List ℕ)) where
  then_made : AreWithMade ks all ls → AreWithMade ls more ms → AreWithMade ks (all ++ more) ms
  then_made h g x = (λ m. to ((g x).0 m), from)
    where
      to_all : Contains ks x ⊎ IsMadeAmong all x → Contains ks x ⊎ IsMadeAmong (all ++ more) x
      to_all (inl m) = inl m
      to_all (inr m) = inr (record { among = Contains-append_left all more x m.among; made = m.made })

      to : Contains ls x ⊎ IsMadeAmong more x → Contains ks x ⊎ IsMadeAmong (all ++ more) x
      to (inl m) = to_all ((h x).0 m)
      to (inr m) = inr (record { among = Contains-append_right all more x m.among; made = m.made })

      at : Contains all x ⊎ Contains more x → (IsSourceName x → ⊥) → Contains ms x
      at (inl a) made = (g x).1 (inl ((h x).1 (inr (record { among = a; made = made }))))
      at (inr a) made = (g x).1 (inr (record { among = a; made = made }))

      from : Contains ks x ⊎ IsMadeAmong (all ++ more) x → Contains ms x
      from (inl m) = (g x).1 (inl ((h x).1 (inl m)))
      from (inr m) = at (Contains-append_cases all more x m.among) m.made

pub one_name_more : (first old new : List (List ℕ)) (all : List (List ℕ)) (i : ℕ) (y : List ℕ)
    → i < length all → y ≡ get_or all i y
    → AreWithMade first (take i all) old → AreWithMade old (y ∷ []) new → AreWithMade first (take (i + 1) all) new
one_name_more first old new all i y h e known now =
    subst (λ ys. AreWithMade first ys new) (sym (one_more all i y h e))
    (then_made first old new (take i all) (y ∷ []) known now)

-- the names in some blocks
abbrev pub names_in_blocks : List (Option Tree) → List (List ℕ)
names_in_blocks bs = flat_map names_in_option (blocks_of bs)

names_in_blocks-push : (bs : List (Option Tree)) (b : Option Tree)
    → names_in_blocks (bs ++ b ∷ []) ≡ names_in_blocks bs ++ names_in_option (option_map block_of b)
names_in_blocks-push bs b =
    ap (flat_map names_in_option) (map-append (option_map block_of) bs (b ∷ []))
    ∙ flat_map-append names_in_option (blocks_of bs) (option_map block_of b ∷ [])
    ∙ ap (λ xs. names_in_blocks bs ++ xs) (append-nil (names_in_option (option_map block_of b)))

pub one_block_more : (first old new : List (List ℕ)) (bs : List (Option Tree)) (i : ℕ) (b : Option Tree)
    → i < length bs → b ≡ get_or bs i b
    → AreWithMade first (names_in_blocks (take i bs)) old
    → AreWithMade old (names_in_option (option_map block_of b)) new
    → AreWithMade first (names_in_blocks (take (i + 1) bs)) new
one_block_more first old new bs i b h e known now =
    subst (λ ys. AreWithMade first ys new)
    (sym (ap names_in_blocks (one_more bs i b h e) ∙ names_in_blocks-push (take i bs) b))
    (then_made first old new (names_in_blocks (take i bs)) (names_in_option (option_map block_of b)) known now)

pub all_noted : (first last : List (List ℕ)) (all : List (List ℕ)) (i : ℕ) → length all ≤ i
    → AreWithMade first (take i all) last → AreWithMade first all last
all_noted first last all i h known = subst (λ ys. AreWithMade first ys last) (take_all i all h) known

-- ---- the blocks by their numbers

-- a block at this index has the name
record StandsAt (bs : List (Option Block)) (x : List ℕ) : Type 0 where
  pub index : ℕ
  pub block : Block
  pub is : get_or bs index None ≡ Some block
  pub among : Contains (names_in_option (Some block)) x

stands_after : (o : Option Block) (os : List (Option Block)) (x : List ℕ) → StandsAt os x → StandsAt (o ∷ os) x
stands_after o os x s = record { index = suc s.index; block = s.block; is = s.is; among = s.among }

stands_at : (bs : List (Option Block)) (x : List ℕ) → Contains (flat_map names_in_option bs) x → StandsAt bs x
stands_at [] x h = absurd (nowhere x h)
stands_at (o ∷ os) x h =
    by o (stands_at os x) (Contains-append_cases (names_in_option o) (flat_map names_in_option os) x h)
  where
    by : (q : Option Block) → (Contains (flat_map names_in_option os) x → StandsAt os x)
        → Contains (names_in_option q) x ⊎ Contains (flat_map names_in_option os) x → StandsAt (q ∷ os) x
    by None later (inl g) = absurd (nowhere x g)
    by (Some b) later (inl g) = record { index = 0; block = b; is = refl; among = g }
    by q later (inr g) = stands_after q os x (later g)

contains_at : (bs : List (Option Block)) (i : ℕ) (b : Block) (x : List ℕ)
    → get_or bs i None ≡ Some b → Contains (names_in_option (Some b)) x
    → Contains (flat_map names_in_option bs) x
contains_at [] i b x e h = absurd cc
contains_at (o ∷ os) zero b x e h =
    Contains-append_left (names_in_option o) (flat_map names_in_option os) x
    (subst (λ q. Contains (names_in_option q) x) (sym e) h)
contains_at (o ∷ os) (suc i) b x e h =
    Contains-append_right (names_in_option o) (flat_map names_in_option os) x (contains_at os i b x e h)

module _ (bs : List (Option Block)) (x : List ℕ) where
  to_number : StandsAt bs x → StandsInBlocks bs x
  to_number s = record {
    number = suc s.index;
    block = s.block;
    is = subst (λ i. get_or bs i None ≡ Some s.block) (omega arith) s.is;
    among = s.among;
  }

  made_in : (ks : List (List ℕ)) → AreWithMade [] (flat_map names_in_option bs) ks → Contains ks x ↔ IsMadeIn bs x
  made_in ks h = (λ m. to ((h x).0 m), from)
    where
      to : Contains [] x ⊎ IsMadeAmong (flat_map names_in_option bs) x → IsMadeIn bs x
      to (inl m) = absurd (nowhere x m)
      to (inr m) = record { stands = to_number (stands_at bs x m.among); made = m.made }

      from : IsMadeIn bs x → Contains ks x
      from m =
          (h x).1 (inr (record {
            among = contains_at bs (m.stands.number - 1) m.stands.block x m.stands.is m.stands.among;
            made = m.made;
          }))

pub made_in_blocks : (bs : List (Option Tree)) (i : ℕ) (ks out : List (List ℕ))
    → length bs ≤ i → AreWithMade [] (names_in_blocks (take i bs)) ks → out ≡ ks
    → (x : List ℕ) → Contains out x ↔ IsMadeIn (blocks_of bs) x
made_in_blocks bs i ks out h known e x =
    subst (λ ns. Contains ns x ↔ IsMadeIn (blocks_of bs) x) (sym e)
    (made_in (blocks_of bs) x ks (subst (λ ys. AreWithMade [] (names_in_blocks ys) ks) (take_all i bs h) known))
