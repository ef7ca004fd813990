-- Bounds, names with bounds, symbolic constants, references, DO variables with their parameters.
use Rattle.std.proofs.Common.{◌≡◌, ◌≤◌, ◌<◌, inl, inr, ℕ, List, [], ◌∷◌, ◌++◌, map, length, max, pos, refl, ap, sym, ◌∙◌, append_assoc, arith, true, false, Bool, nat_le}
use Rattle.std.specs.Prelude.{◌⊎◌}
use Rattle.std.proofs.lemmas.List.{length-map}
use Rattle.std.proofs.lemmas.Bool.Decides.{nat_tests}
use Rattle.tree.specs.Plain.{Expression, Number}
use Rattle.f77_grammar.specs.Statement77 as statement
use Rattle.f77_grammar.specs.expressions.Phrases.{Phrase77, Name, Listed, IsExpression77, written77, tree77_of, phrase_depth77}
use Rattle.f77_grammar.specs.expressions.Words as words
use Rattle.f77_grammar.specs.expressions.Words.{Word77}
use Rattle.f77_grammar.specs.statements.Forms.{Bound77, Upper, Both, IsBound77, written_bound77, bound_tree, bound_depth, EntityForm77, Plain, Bounded, IsEntity77, IsBounded, written_entity77, entity_tree, entity_depth, Definition, IsDefinition, written_definition, definition_tree, definition_depth, separated77, deepest}
use Rattle.reading.specs.Characters.{IsList}
use Rattle.reading.specs.Signs.{reference_in}
use Rattle.f77_grammar.specs.statements.Items.{IsReference77}
use Rattle.f77_expressions.specs.Reader.{capped}
use Rattle.f77_expressions.specs.Reading.{Ends}
use Rattle.f77_expressions.specs.TokenFronts.{begins_with_name}
use Rattle.f77_statement.specs.Separated.{EndsPart, EndsList}
use Rattle.f77_statement.proofs.BoundLaws.{ends, no_colon}
use Rattle.f77_statement.proofs.CappedLaws.{capped_max}
use Rattle.f77_statement.proofs.ReferenceLaws.{is_bare, names_begin, named_is}
use Rattle.f77_read.proofs.one_answer.Fronts.{IsThere, IsNowhere, Front, BeginsWith, colon, close, equals, name, head, tail_same, phrase, list}

-- ---- bounds

abbrev At : List Word77 → Type 0
At ws = IsThere written77 IsExpression77 tree77_of phrase_depth77 Ends ws

abbrev pub BoundAt : List Word77 → Type 0
BoundAt ws = Front written_bound77 IsBound77 bound_tree bound_depth EndsPart ws

pub both_alike : (a b c d : ℕ) → capped a ≡ capped b → capped c ≡ capped d → capped (max a c) ≡ capped (max b d)
both_alike a b c d e f = sym (capped_max a c) ∙ ap (λ n. max n (capped c)) e ∙ ap (max (capped b)) f ∙ capped_max b d

module _ (ws : List Word77) where
  no_phrase : IsNowhere written77 IsExpression77 tree77_of phrase_depth77 Ends ws → IsNowhere written_bound77 IsBound77 bound_tree bound_depth EndsPart ws
  no_phrase never (Upper p) r g h s = never p r g (ends r h) s
  no_phrase never (Both p q) r g h s = never p (words.Colon ∷ (written77 q ++ r)) g.0 tt (s ∙ append_assoc (written77 p) (words.Colon ∷ written77 q) r)

  module _ (h : At ws) where
    no_second : (more : List Word77) → h.rest ≡ words.Colon ∷ more → IsNowhere written77 IsExpression77 tree77_of phrase_depth77 Ends more → IsNowhere written_bound77 IsBound77 bound_tree bound_depth EndsPart ws
    no_second more e never (Upper p) r g k s = no_colon r more k (sym (h.only p r g (ends r k) s).2 ∙ e)
    no_second more e never (Both p q) r g k s =
        let f = h.only p (words.Colon ∷ (written77 q ++ r)) g.0 tt (s ∙ append_assoc (written77 p) (words.Colon ∷ written77 q) r) in
        never q r g.1 (ends r k) (tail_same words.Colon _ _ (sym e ∙ f.2))

    second : (more : List Word77) → h.rest ≡ words.Colon ∷ more → At more → BoundAt ws
    second more e k = inl (record {
      part = Both h.part k.part;
      rest = k.rest;
      is_good = (h.is_good, k.is_good);
      same = h.same ∙ ap (λ (q : List Word77). written77 h.part ++ q) (e ∙ ap (λ (q : List Word77). words.Colon ∷ q) k.same) ∙ sym (append_assoc (written77 h.part) (words.Colon ∷ written77 k.part) k.rest);
      only = only;
    })
      where
        only : (b : Bound77) (r : List Word77) → IsBound77 b → EndsPart r → ws ≡ written_bound77 b ++ r
            → (bound_tree (Both h.part k.part) ≡ bound_tree b) × (capped (bound_depth (Both h.part k.part)) ≡ capped (bound_depth b)) × (k.rest ≡ r)
        only (Upper p) r g l s = absurd (no_colon r more l (sym (h.only p r g (ends r l) s).2 ∙ e))
        only (Both p q) r g l s =
            let f = h.only p (words.Colon ∷ (written77 q ++ r)) g.0 tt (s ∙ append_assoc (written77 p) (words.Colon ∷ written77 q) r) in
            let j = k.only q r g.1 (ends r l) (tail_same words.Colon _ _ (sym e ∙ f.2)) in
            (ap (λ (x : Expression). (x, tree77_of k.part)) f.0 ∙ ap (λ (x : Expression). (tree77_of p, x)) j.0, both_alike (phrase_depth77 h.part) (phrase_depth77 p) (phrase_depth77 k.part) (phrase_depth77 q) f.1 j.1, j.2)

    alone : ((more : List Word77) → h.rest ≡ words.Colon ∷ more → ⊥) → BoundAt ws
    alone lacks = inl (record { part = Upper h.part; rest = h.rest; is_good = h.is_good; same = h.same; only = only })
      where
        only : (b : Bound77) (r : List Word77) → IsBound77 b → EndsPart r → ws ≡ written_bound77 b ++ r
            → (bound_tree (Upper h.part) ≡ bound_tree b) × (capped (bound_depth (Upper h.part)) ≡ capped (bound_depth b)) × (h.rest ≡ r)
        only (Upper p) r g l s = let f = h.only p r g (ends r l) s in (ap (λ (x : Expression). (Number (pos 1), x)) f.0, f.1, f.2)
        only (Both p q) r g l s = absurd (lacks _ (h.only p (words.Colon ∷ (written77 q ++ r)) g.0 tt (s ∙ append_assoc (written77 p) (words.Colon ∷ written77 q) r)).2)

    by_second : (more : List Word77) → h.rest ≡ words.Colon ∷ more → Front written77 IsExpression77 tree77_of phrase_depth77 Ends more → BoundAt ws
    by_second more e (inl k) = second more e k
    by_second more e (inr never) = inr (no_second more e never)

    by_colon : BeginsWith words.Colon h.rest → BoundAt ws
    by_colon (inl k) = by_second k.0 k.1 (phrase k.0)
    by_colon (inr lacks) = alone lacks

  by_first : Front written77 IsExpression77 tree77_of phrase_depth77 Ends ws → BoundAt ws
  by_first (inl h) = by_colon h (colon h.rest)
  by_first (inr never) = inr (no_phrase never)

pub bound : (ws : List Word77) → BoundAt ws
bound ws = by_first ws (phrase ws)

-- ---- names with bounds

abbrev Bounds : List Word77 → Type 0
Bounds ws = IsThere (separated77 written_bound77) (IsList IsBound77) (map bound_tree) (deepest bound_depth) EndsList ws

abbrev pub BoundedAt : List Word77 → Type 0
BoundedAt ws = Front written_entity77 IsBounded entity_tree entity_depth EndsPart ws

abbrev pub EntityAt : List Word77 → Type 0
EntityAt ws = Front written_entity77 IsEntity77 entity_tree entity_depth EndsPart ws

few : (n : ℕ) → (n ≤ 7) ⊎ (7 < n)
few n = by (nat_le n 7) refl
  where
    by : (b : Bool) → nat_le n 7 ≡ b → (n ≤ 7) ⊎ (7 < n)
    by true e = inl (grind (arith, nat_tests))
    by false e = inr (grind (arith, nat_tests))

head_name : (x y : List ℕ) (a b : List Word77) → words.Head x ∷ a ≡ words.Head y ∷ b → x ≡ y
head_name x y a b e = cc

head_tail : (x y : List ℕ) (a b : List Word77) → words.Head x ∷ a ≡ words.Head y ∷ b → a ≡ b
head_tail x y a b e = cc

-- behind the bounds stands a closing parenthesis
closed : (bs : List Bound77) (r : List Word77) → (separated77 written_bound77 bs ++ words.Close ∷ []) ++ r ≡ separated77 written_bound77 bs ++ (words.Close ∷ r)
closed bs r = append_assoc (separated77 written_bound77 bs) (words.Close ∷ []) r

module _ (ws : List Word77) where
  no_head : ((x : List ℕ) (more : List Word77) → ws ≡ words.Head x ∷ more → ⊥) → IsNowhere written_entity77 IsBounded entity_tree entity_depth EndsPart ws
  no_head lacks (Plain x) r g l s = absurd g
  no_head lacks (Bounded x bs) r g l s = lacks x _ s

  module _ (x : List ℕ) (more : List Word77) (is : ws ≡ words.Head x ∷ more) where
    inside : (y : List ℕ) (bs : List Bound77) (r : List Word77) → ws ≡ written_entity77 (Bounded y bs) ++ r → more ≡ separated77 written_bound77 bs ++ (words.Close ∷ r)
    inside y bs r s = head_tail x y _ _ (sym is ∙ s) ∙ closed bs r

    no_bounds : IsNowhere (separated77 written_bound77) (IsList IsBound77) (map bound_tree) (deepest bound_depth) EndsList more → IsNowhere written_entity77 IsBounded entity_tree entity_depth EndsPart ws
    no_bounds never (Plain y) r g l s = absurd g
    no_bounds never (Bounded y bs) r g l s = never bs (words.Close ∷ r) g.0 tt (inside y bs r s)

    module _ (h : Bounds more) where
      no_close : ((rest : List Word77) → h.rest ≡ words.Close ∷ rest → ⊥) → IsNowhere written_entity77 IsBounded entity_tree entity_depth EndsPart ws
      no_close lacks (Plain y) r g l s = absurd g
      no_close lacks (Bounded y bs) r g l s = lacks r (h.only bs (words.Close ∷ r) g.0 tt (inside y bs r s)).2

      too_many : 7 < length h.part → IsNowhere written_entity77 IsBounded entity_tree entity_depth EndsPart ws
      too_many many (Plain y) r g l s = absurd g
      too_many many (Bounded y bs) r g l s =
          let e : length (map bound_tree h.part) ≡ length (map bound_tree bs) = ap length (h.only bs (words.Close ∷ r) g.0 tt (inside y bs r s)).0 in
          omega (arith, length-map h.part bound_tree, length-map bs bound_tree, g.1)

      with_bounds : (rest : List Word77) → h.rest ≡ words.Close ∷ rest → length h.part ≤ 7 → BoundedAt ws
      with_bounds rest e small = inl (record {
        part = Bounded x h.part;
        rest = rest;
        is_good = (h.is_good, small);
        same = is ∙ ap (λ (q : List Word77). words.Head x ∷ q) (h.same ∙ ap (λ (q : List Word77). separated77 written_bound77 h.part ++ q) e ∙ sym (closed h.part rest));
        only = only;
      })
        where
          only : (y : EntityForm77) (r : List Word77) → IsBounded y → EndsPart r → ws ≡ written_entity77 y ++ r
              → (entity_tree (Bounded x h.part) ≡ entity_tree y) × (capped (entity_depth (Bounded x h.part)) ≡ capped (entity_depth y)) × (rest ≡ r)
          only (Plain y) r g l s = absurd g
          only (Bounded y bs) r g l s =
              let f = h.only bs (words.Close ∷ r) g.0 tt (inside y bs r s) in
              let n : x ≡ y = head_name x y _ _ (sym is ∙ s) in (
                ap (λ (z : List ℕ). let q : statement.Entity = record { name = z; bounds = map bound_tree h.part } in q) n
                    ∙ ap (λ (z : List (Expression × Expression)). let q : statement.Entity = record { name = y; bounds = z } in q) f.0,
                f.1,
                tail_same words.Close _ _ (sym e ∙ f.2),
              )

      by_number : (rest : List Word77) → h.rest ≡ words.Close ∷ rest → (length h.part ≤ 7) ⊎ (7 < length h.part) → BoundedAt ws
      by_number rest e (inl small) = with_bounds rest e small
      by_number rest e (inr many) = inr (too_many many)

      by_close : BeginsWith words.Close h.rest → BoundedAt ws
      by_close (inl k) = by_number k.0 k.1 (few (length h.part))
      by_close (inr lacks) = inr (no_close lacks)

    by_bounds : Front (separated77 written_bound77) (IsList IsBound77) (map bound_tree) (deepest bound_depth) EndsList more → BoundedAt ws
    by_bounds (inl h) = by_close h (close h.rest)
    by_bounds (inr never) = inr (no_bounds never)

  by_head : ((x : List ℕ) × (more : List Word77) × (ws ≡ words.Head x ∷ more)) ⊎ ((x : List ℕ) (more : List Word77) → ws ≡ words.Head x ∷ more → ⊥) → BoundedAt ws
  by_head (inl h) = by_bounds h.0 h.1 h.2 (list written_bound77 IsBound77 bound_tree bound_depth bound h.1)
  by_head (inr lacks) = inr (no_head lacks)

pub bounded : (ws : List Word77) → BoundedAt ws
bounded ws = by_head ws (head ws)

pub name_name : (x y : List ℕ) (a b : List Word77) → words.Name x ∷ a ≡ words.Name y ∷ b → x ≡ y
name_name x y a b e = cc

pub name_tail : (x y : List ℕ) (a b : List Word77) → words.Name x ∷ a ≡ words.Name y ∷ b → a ≡ b
name_tail x y a b e = cc

name_head : (x y : List ℕ) (a b : List Word77) → words.Name x ∷ a ≡ words.Head y ∷ b → ⊥
name_head x y a b e = cc

module _ (ws : List Word77) where
  plain : (x : List ℕ) (more : List Word77) → ws ≡ words.Name x ∷ more → EntityAt ws
  plain x more is = inl (record { part = Plain x; rest = more; is_good = tt; same = is; only = only })
    where
      only : (y : EntityForm77) (r : List Word77) → IsEntity77 y → EndsPart r → ws ≡ written_entity77 y ++ r
          → (entity_tree (Plain x) ≡ entity_tree y) × (capped (entity_depth (Plain x)) ≡ capped (entity_depth y)) × (more ≡ r)
      only (Plain y) r g l s = (ap (λ (z : List ℕ). let q : statement.Entity = record { name = z; bounds = [] } in q) (name_name x y _ _ (sym is ∙ s)), refl, name_tail x y _ _ (sym is ∙ s))
      only (Bounded y bs) r g l s = absurd (name_head x y _ _ (sym is ∙ s))

  of_bounded : ((x : List ℕ) (more : List Word77) → ws ≡ words.Name x ∷ more → ⊥) → BoundedAt ws → EntityAt ws
  of_bounded lacks (inl h) = inl (record { part = h.part; rest = h.rest; is_good = entity_of h.part h.is_good; same = h.same; only = only })
    where
      entity_of : (e : EntityForm77) → IsBounded e → IsEntity77 e
      entity_of (Plain x) g = tt
      entity_of (Bounded x bs) g = g

      only : (y : EntityForm77) (r : List Word77) → IsEntity77 y → EndsPart r → ws ≡ written_entity77 y ++ r
          → (entity_tree h.part ≡ entity_tree y) × (capped (entity_depth h.part) ≡ capped (entity_depth y)) × (h.rest ≡ r)
      only (Plain y) r g l s = absurd (lacks y r s)
      only (Bounded y bs) r g l s = h.only (Bounded y bs) r g l s
  of_bounded lacks (inr never) = inr none
    where
      none : IsNowhere written_entity77 IsEntity77 entity_tree entity_depth EndsPart ws
      none (Plain y) r g l s = lacks y r s
      none (Bounded y bs) r g l s = never (Bounded y bs) r g l s

  by_name : ((x : List ℕ) × (more : List Word77) × (ws ≡ words.Name x ∷ more)) ⊎ ((x : List ℕ) (more : List Word77) → ws ≡ words.Name x ∷ more → ⊥) → EntityAt ws
  by_name (inl h) = plain h.0 h.1 h.2
  by_name (inr lacks) = of_bounded lacks (bounded ws)

pub entity : (ws : List Word77) → EntityAt ws
entity ws = by_name ws (name ws)

-- ---- symbolic constants

abbrev pub DefinitionAt : List Word77 → Type 0
DefinitionAt ws = Front written_definition IsDefinition definition_tree definition_depth EndsPart ws

module _ (ws : List Word77) where
  nameless : ((x : List ℕ) (more : List Word77) → ws ≡ words.Name x ∷ more → ⊥) → DefinitionAt ws
  nameless lacks = inr (λ d r g l s. lacks d.name _ s)

  module _ (x : List ℕ) (more : List Word77) (is : ws ≡ words.Name x ∷ more) where
    behind : (d : Definition) (r : List Word77) → ws ≡ written_definition d ++ r → more ≡ words.Equals ∷ (written77 d.value ++ r)
    behind d r s = name_tail x d.name _ _ (sym is ∙ s)

    by_value : (value : List Word77) → more ≡ words.Equals ∷ value → Front written77 IsExpression77 tree77_of phrase_depth77 Ends value → DefinitionAt ws
    by_value value e (inr never) = inr (λ d r g l s. never d.value r g (ends r l) (tail_same words.Equals _ _ (sym e ∙ behind d r s)))
    by_value value e (inl h) = inl (record {
      part = record { name = x; value = h.part };
      rest = h.rest;
      is_good = h.is_good;
      same = is ∙ ap (λ (q : List Word77). words.Name x ∷ q) (e ∙ ap (λ (q : List Word77). words.Equals ∷ q) h.same);
      only = λ d r g l s.
          let f = h.only d.value r g (ends r l) (tail_same words.Equals _ _ (sym e ∙ behind d r s)) in (
            ap (λ (z : List ℕ). let q : statement.NamedConstant = record { name = z; value = tree77_of h.part } in q) (name_name x d.name _ _ (sym is ∙ s))
                ∙ ap (λ (z : Expression). let q : statement.NamedConstant = record { name = d.name; value = z } in q) f.0,
            f.1,
            f.2,
          );
    })

    by_equals : BeginsWith words.Equals more → DefinitionAt ws
    by_equals (inl k) = by_value k.0 k.1 (phrase k.0)
    by_equals (inr lacks) = inr (λ d r g l s. lacks _ (behind d r s))

  by_its_name : ((x : List ℕ) × (more : List Word77) × (ws ≡ words.Name x ∷ more)) ⊎ ((x : List ℕ) (more : List Word77) → ws ≡ words.Name x ∷ more → ⊥) → DefinitionAt ws
  by_its_name (inl h) = by_equals h.0 h.1 h.2 (equals h.1)
  by_its_name (inr lacks) = nameless lacks

pub definition : (ws : List Word77) → DefinitionAt ws
definition ws = by_its_name ws (name ws)

-- ---- references

reference_or_not : (p : Phrase77) → IsReference77 p ⊎ (IsReference77 p → ⊥)
reference_or_not (Name x) = inl tt
reference_or_not (Listed x ps) = inl tt
reference_or_not p = inr (λ h. h)

abbrev pub IsBareExpression : Phrase77 → Type 0
IsBareExpression p = IsReference77 p × IsExpression77 p

abbrev pub ReferenceAt : List Word77 → Type 0
ReferenceAt ws = Front written77 IsBareExpression tree77_of phrase_depth77 Ends ws

module _ (ws : List Word77) where
  no_name : begins_with_name ws ≡ false → ReferenceAt ws
  no_name b = inr (λ p r g l s. true_false (sym (names_begin p r g.0) ∙ sym (ap begins_with_name s) ∙ b))
    where
      true_false : true ≡ false → ⊥
      true_false e = cc

  module _ (b : begins_with_name ws ≡ true) (h : At ws) where
    a_reference : IsReference77 h.part → ReferenceAt ws
    a_reference k = inl (record { part = h.part; rest = h.rest; is_good = (k, h.is_good); same = h.same; only = λ p r g l s. h.only p r g.1 l s })

    -- where another one stood for a reference, so would this
    no_reference : (IsReference77 h.part → ⊥) → ReferenceAt ws
    no_reference lacks = inr (λ p r g l s.
        let f = h.only p r g.1 l s in
        lacks (is_bare h.part h.rest (reference_in (tree77_of p)) (sym (ap begins_with_name h.same) ∙ b) (f.0 ∙ named_is p g.0)))

    by_reference : IsReference77 h.part ⊎ (IsReference77 h.part → ⊥) → ReferenceAt ws
    by_reference (inl k) = a_reference k
    by_reference (inr lacks) = no_reference lacks

  by_phrase : begins_with_name ws ≡ true → Front written77 IsExpression77 tree77_of phrase_depth77 Ends ws → ReferenceAt ws
  by_phrase b (inl h) = by_reference b h (reference_or_not h.part)
  by_phrase b (inr never) = inr (λ p r g l s. never p r g.1 l s)

  by_begin : (b : Bool) → begins_with_name ws ≡ b → ReferenceAt ws
  by_begin true b = by_phrase b (phrase ws)
  by_begin false b = no_name b

pub reference : (ws : List Word77) → ReferenceAt ws
reference ws = by_begin ws (begins_with_name ws) refl
