-- A translation is a program of Fortran 90 that keeps the meaning of its source.
use Rattle.std.proofs.Common.{◌≡◌, ◌⊎◌, inl, inr, refl, sym, ap, subst, ◌∙◌, ℕ, zero, suc, ◌^◌, ◌≤◌, ◌<◌, Some, List, [], ◌∷◌}
use Rattle.std.proofs.Common.{◌++◌, Option, length, map, Contains, arith}
use Rattle.std.specs.Prelude.{All, codes}
use Rattle.std.specs.List.{AllByRecursion}
use Rattle.std.specs.Option.{IsSomeAnd}
use Rattle.std.proofs.lemmas.List.Elements.{All-from_recursion, Contains-append_left, Contains-get_or}
use Rattle.meaning_laws.proofs.dialects.MadeNames.{is_declared}
use Rattle.meaning_laws.proofs.dialects.NamesIn.{among}
use Rattle.translation.proofs.FewerNames.FewerStatements.{block_with_fewer_names}
use Rattle.find_nests.proofs.FoundLaws.{found_nest_is_loop}
use Rattle.find_nests.specs.Laws.{IsFoundNest}
use Rattle.find_nests.specs.Loops.{SurroundedLoop, as_statement, loops_in_block}
use Rattle.find_nests.specs.LookedAt.{looked_at}
use Rattle.listing.proofs.programs.Arranging.{last_depth}
use Rattle.meaning.specs.Reads.{names_in_block}
use Rattle.meaning.specs.Blocks.{Surroundings}
use Rattle.meaning.specs.Dialect.{fortran77}
use Rattle.tree.specs.declared.width.Width.{Width}
use Rattle.meaning.specs.Profile77.{IsProgram77, IsStatement}
use Rattle.meaning.specs.Profile90.{IsBlock}
use Rattle.meaning.specs.Store.{names_of}
use Rattle.meaning.specs.Typed.{declared}
use Rattle.tree.specs.Names.{IsSourceName}
use Rattle.tree.specs.Plain.{Block, Declaration, Program}
use Rattle.translation.proofs.LoopNumbers.Behind.{next_from_one}
use Rattle.translation.proofs.LoopNumbers.Nests.{nest_number}
use Rattle.translation.proofs.LoopNumbers.Order.{same_loop}
use Rattle.translation.specs.loop_numbers.Numbers.{loop_number}
use Rattle.translation.specs.loop_placing.Placing.{block_at}
use Rattle.translation.proofs.MadeDeclarations.Made.{made_names}
use Rattle.translation.specs.made_declarations.Declaring.{declaration_by, declaration_of_made, with_declarations}
use Rattle.translation.specs.made_declarations.Laws.{AreWith, IsMadeDeclaration, WithMadeNames}
use Rattle.translation.specs.nest_blocks.Blocks.{AreNestBlocks, IsBlockOfLoop}
use Rattle.find_nests.specs.nest_parts.Numbers.{next_loop_number}
use Rattle.translation.proofs.NestProfile.Law.{translation_is_of_profile}
use Rattle.translation.specs.nest_profile.Laws.{TranslationIsOfProfile}
use Rattle.translation.specs.nest_translation.Laws.{AreMadeDeclared}
use Rattle.pass_laws.specs.prepared_nests.Nests.{IsPrepared}
use Rattle.translation.proofs.NestTranslation.Prepared.{passed_nest_is_prepared}
use Rattle.translation.proofs.NestTranslation.Translation.{translation_does_as_loop}
use Rattle.nest.specs.Bodies.{nest_loops}
use Rattle.nest.specs.Plain.{Loop, Nest}
use Rattle.pass_laws.specs.normal_facts.Laws.{IsCounter}
use Rattle.last_values.specs.normal_forms.NormalLoops.{counter_name}
use Rattle.translation.proofs.PlacedProfile.Placing.{placed_program_is_program}
use Rattle.translation.specs.placed_profile.Limits.{IsWithinLimits}
use Rattle.translation.specs.placed_profile.Laws.{AreSourceNames, IsWithoutLabels, KeepsJumps}
use Rattle.translation.specs.placed_profile.Laws.{PlacedProgramIsProgram, SuitLoops}
use Rattle.meaning_laws.proofs.arrays.Members.{each_member, in_map, of_map}
use Rattle.meaning_laws.proofs.profiles.Lists.{all_at}
use Rattle.meaning_laws.proofs.profiles.Names.{found}
use Rattle.meaning_laws.specs.profiles.Profiles.{AddMadeNames}
use Rattle.translation.proofs.ProgramTranslation.Counted.{IsCounterDeclared, IsNumbered, counter_declarations, each_of}
use Rattle.translation.proofs.ProgramTranslation.Counted.{variables_numbered}
use Rattle.translation.proofs.ProgramTranslation.Declared.{AreMade, IsMadeHere, agree, apart, declared_counter, declared_here}
use Rattle.translation.proofs.ProgramTranslation.Declared.{each_made, either, names_of_made, not_source, own_are, own_source}
use Rattle.translation.proofs.ProgramTranslation.Declared.{unhidden, with_all}
use Rattle.translation.proofs.ProgramTranslation.Leaving.{nest_keeps_jumps}
use Rattle.translation.proofs.ProgramTranslation.Made.{names_are_made}
use Rattle.translation.proofs.ProgramTranslation.Named.{block_known}
use Rattle.translation.proofs.ProgramTranslation.Sources.{name_among}
use Rattle.translation.proofs.ProgramTranslation.Standing.{Stands, loop_stands}
use Rattle.translation.proofs.ProgramTranslation.Translating.{translation_keeps}
use Rattle.translation.proofs.ProgramTranslation.Unlabelled.{endings_unlabelled, translation_unlabelled}
use Rattle.translation.specs.program_translation.Laws.{AreTranslations, IsGoodTranslation, TranslationIsGood}
use Rattle.translation.specs.program_translation.Translated.{IsMadeIn, IsPlacedBy}

-- what is declared bears a declared name
name_of_declared : (ds : List Declaration) (e : Declaration) (x : List ℕ) → declared ds x ≡ Some e → Contains (map (λ (d : Declaration). d.name) ds) x
name_of_declared ds e x h = among ds x (λ d. Unit {0}) (subst (λ o. IsSomeAnd o (λ (d : Declaration). Unit {0})) (sym h) tt)

-- no counter is called so
abbrev first_letter : List ℕ → ℕ
first_letter [] = 0
first_letter (x ∷ xs) = x

counter_letter : (k : ℕ) → first_letter (counter_name k) ≡ 70
counter_letter k = refl

other_letter : (f : List ℕ) → (first_letter f ≡ 70 → ⊥) → IsNumbered f → ⊥
other_letter f other h = other (sym (ap first_letter h.is) ∙ counter_letter h.number)

other_transpose : IsNumbered (codes "TRANSPOSE") → ⊥
other_transpose = other_letter (codes "TRANSPOSE") (λ e. omega (arith, e))

other_reshape : IsNumbered (codes "RESHAPE") → ⊥
other_reshape = other_letter (codes "RESHAPE") (λ e. omega (arith, e))

module _ (width : Width) (within : WithMadeNames) (profile : TranslationIsOfProfile width) (p q : Program) (blocks : List (Option Block))
    (made : List Declaration) (program : IsProgram77 (fortran77 width) p) (are : AreNestBlocks p blocks made)
    (t : IsPlacedBy p blocks made q) (given : AreMade made) where
  -- ---- all counters, and all that passes made, besides the names of the program

  abbrev all : List Declaration
  all = made ++ counter_declarations

  abbrev rs : List Declaration
  rs = with_declarations p.declarations all

  abbrev r : Program
  r = record p { declarations = rs }

  with_others : AreWith p.declarations all rs
  with_others = with_all width within p program made given

  long_transpose : 6 < length (codes "TRANSPOSE")
  long_transpose = omega arith

  long_reshape : 6 < length (codes "RESHAPE")
  long_reshape = omega arith

  -- ---- a block

  module _ (k : ℕ) (b : Block) (from : 1 ≤ k) (e : block_at blocks k ≡ Some b) where
    is_block : IsBlockOfLoop p k b
    is_block = are.only k b from e

    found_nest : IsFoundNest p is_block.nest
    found_nest = found_nest_is_loop p is_block.nest is_block.among

    abbrev loop : SurroundedLoop
    loop = found_nest.loop

    stands : Stands width program loop
    stands = loop_stands width program loop found_nest.stands

    abbrev one : Nest
    one = is_block.translated.passed.normal

    counters : All (λ (l : Loop). IsSomeAnd (declared rs l.variable) IsCounter) (nest_loops one)
    counters = λ j d i. declared_counter width within p program made given _
        (All-from_recursion (λ (l : Loop). IsNumbered l.variable) (nest_loops one)
        (variables_numbered width p rs is_block.nest one program with_others.more is_block.among is_block.translated.passed.made) j d i)

    made_declared : AreMadeDeclared r is_block.normal
    unfolding is_block
    made_declared a c =
        with_others.declared (declaration_of_made a)
        (Contains-append_left made counter_declarations (declaration_of_made a) (are.declared k b from e a c))

    small : is_block.nest.number < 2 ^ 32
    small =
        let least = nest_number p 0 (looked_at p.declarations p.body) is_block.nest (omega arith) is_block.among in
        let less : is_block.nest.number < 4294967296 = omega (arith, least) in less

    of_profile : (w : Surroundings) → AreSourceNames w.variables → IsStatement p.declarations (as_statement loop.loop.loop) w → IsBlock rs b w
    of_profile w v s =
        profile p r is_block.nest is_block.normal b w found_nest program is_block.among with_others.more is_block.translated
        counters made_declared (unhidden width within p program made given (codes "TRANSPOSE") long_transpose other_transpose given.transpose)
        (unhidden width within p program made given (codes "RESHAPE") long_reshape other_reshape given.reshape) small v s

    known : AllByRecursion (Contains (names_of r)) (names_in_block b)
    known = block_known rs b stands.round (of_profile stands.round stands.named stands.is)

    -- a name in it is one of the program, or a made one
    own_or_made : (x : List ℕ) → Contains (names_in_block b) x → Contains (names_of p) x ⊎ IsMadeHere made x
    own_or_made x c =
        let d = is_declared rs x (all_at (Contains (names_of r)) (names_in_block b) x known c) in
        let f = found rs x d.0 d.1 in
        by d.0 f.name (each_of p.declarations all d.0 f.among)
      where
        here_made : (d : Declaration) → d.name ≡ x → Contains made d ⊎ IsCounterDeclared d → IsMadeHere made x
        here_made d n (inl i) =
            inl (subst (Contains (names_of_made made)) n (in_map (λ (e : Declaration). e.name) made d i))
        here_made d n (inr o) = inr (subst IsNumbered n o.numbered)

        by : (d : Declaration) → d.name ≡ x → Contains p.declarations d ⊎ Contains all d
            → Contains (names_of p) x ⊎ IsMadeHere made x
        by d n (inl i) = inl (subst (Contains (names_of p)) n (name_among p.declarations d i))
        by d n (inr i) = inr (here_made d n (either width within p program made given d i))

    prepared : IsPrepared rs (stands.round.variables) last_depth is_block.normal
    prepared =
        passed_nest_is_prepared width p is_block.translated.counts is_block.nest is_block.normal stands.round found_nest program
        is_block.among is_block.translated.passed stands.named stands.is r with_others.more counters made_declared

    block_unlabelled : IsWithoutLabels b
    block_unlabelled = subst IsWithoutLabels (sym is_block.translated.block)
        (translation_unlabelled is_block.normal is_block.translated.pieces
        (endings_unlabelled is_block.normal.after prepared.parts.after.endings))

    -- the loop with the number is the nest's
    is_loop : (l : SurroundedLoop) → Contains (loops_in_block 0 [] p.body) l → next_loop_number l.loop.before ≡ k → loop ≡ l
    is_loop l c n =
        let own : next_loop_number loop.loop.before ≡ k = sym (ap loop_number found_nest.is) ∙ is_block.number in
        same_loop p.body program.few loop l found_nest.stands c (own ∙ sym n)

  -- ---- the made names

  -- the block at 0 is that at 1
  known_at : (k : ℕ) (b : Block) → block_at blocks k ≡ Some b → (x : List ℕ) → Contains (names_in_block b) x
      → Contains (names_of p) x ⊎ IsMadeHere made x
  known_at zero b e x c = own_or_made 1 b (omega arith) e x c
  known_at (suc k) b e x c = own_or_made (suc k) b (omega arith) e x c

  stands_made : (x : List ℕ) → IsMadeIn blocks x → IsMadeHere made x
  stands_made x h = by (known_at h.stands.number h.stands.block h.stands.is x h.stands.among)
    where
      by : Contains (names_of p) x ⊎ IsMadeHere made x → IsMadeHere made x
      by (inl c) =
          let d = is_declared p.declarations x c in
          let f = found p.declarations x d.0 d.1 in
          absurd (h.made (subst IsSourceName f.name (own_source width within p program made given d.0 f.among)))
      by (inr n) = n

  abbrev new : List Declaration
  new = map (declaration_by made) t.names

  abbrev qs : List Declaration
  qs = with_declarations p.declarations new

  new_in : (e : Declaration) → Contains new e → Contains all e
  new_in e c =
      let o = of_map (declaration_by made) t.names e c in
      subst (Contains all) o.2 (declared_here width within p program made given o.0 (stands_made o.0 ((t.names_are o.0).0 o.1))).0

  with_names : AreWith p.declarations new qs
  with_names =
      within p.declarations new (own_are width within p program made given)
      (each_member IsMadeDeclaration new (λ e c. each_made width within p program made given e (new_in e c)))
      (λ d e c k same. agree width within p program made given d e (new_in d c) (new_in e k) same)
      (λ d e c k same. apart width within p program made given d e c (new_in e k) same)

  -- each declaration of q is one of r
  some : (e : Declaration) → Contains qs e → Contains rs e
  some e c = by (each_of p.declarations new e c)
    where
      by : Contains p.declarations e ⊎ Contains new e → Contains rs e
      by (inl i) = with_others.more.kept e i
      by (inr i) = (found rs e.name e (with_others.declared e (new_in e i))).among

  more : AddMadeNames qs rs
  more = record { kept = some; made = others; are = with_others.more.are }
    where
      by : (e : Declaration) → Contains p.declarations e ⊎ (IsSourceName e.name → ⊥) → Contains qs e ⊎ (IsSourceName e.name → ⊥)
      by e (inl c) = inl (with_names.more.kept e c)
      by e (inr f) = inr f

      others : (e : Declaration) → Contains rs e → Contains qs e ⊎ (IsSourceName e.name → ⊥)
      others e c = by e (with_others.more.made e c)

  names_declared : (k : ℕ) (b : Block) → block_at blocks k ≡ Some b → (x : List ℕ) → Contains (names_in_block b) x
      → Contains (map (λ (d : Declaration). d.name) qs) x
  names_declared k b e x c = by (known_at k b e x c)
    where
      by : Contains (names_of p) x ⊎ IsMadeHere made x → Contains (map (λ (d : Declaration). d.name) qs) x
      by (inl i) =
          let d = is_declared p.declarations x i in
          let f = found p.declarations x d.0 d.1 in
          subst (Contains (map (λ (d : Declaration). d.name) qs)) f.name (name_among qs d.0 (with_names.more.kept d.0 f.among))
      by (inr n) =
          let m : Contains t.names x
          = (t.names_are x).1 (record {
            stands = record { number = k; block = b; is = e; among = c };
            made = not_source width within p program made given x n;
          }) in
          let name = (declared_here width within p program made given x n).1 in
          name_of_declared qs (declaration_by made x) x
          (subst (λ z. declared qs z ≡ Some (declaration_by made x)) name
          (with_names.declared (declaration_by made x) (in_map (declaration_by made) t.names x m)))

  all_declared : (k : ℕ) (b : Block) → block_at blocks k ≡ Some b → All (Contains (map (λ (d : Declaration). d.name) qs)) (names_in_block b)
  all_declared k b e = λ j d i. names_declared k b e _ (Contains-get_or (names_in_block b) j d i)

  fewer : (k : ℕ) (b : Block) (w : Surroundings) → block_at blocks k ≡ Some b → IsBlock rs b w → IsBlock qs b w
  fewer k b w e h = block_with_fewer_names qs rs b w with_names.more.are with_others.more.are some (all_declared k b e) h

  -- ---- by the declarations of q

  own_more : AddMadeNames p.declarations q.declarations
  own_more = subst (λ (ds : List Declaration). AddMadeNames p.declarations ds) (sym t.declarations) with_names.more

  counters_more : AddMadeNames q.declarations r.declarations
  counters_more = subst (λ (ds : List Declaration). AddMadeNames ds rs) (sym t.declarations) more

  block_is : (k : ℕ) (b : Block) (w : Surroundings) → block_at blocks k ≡ Some b → IsBlock rs b w → IsBlock q.declarations b w
  block_is k b w e h = subst (λ (ds : List Declaration). IsBlock ds b w) (sym t.declarations) (fewer k b w e h)

  names_are : (k : ℕ) (b : Block) → block_at blocks k ≡ Some b → All (Contains (names_of q)) (names_in_block b)
  names_are k b e = subst (λ (ds : List Declaration). All (Contains (map (λ (d : Declaration). d.name) ds)) (names_in_block b)) (sym t.declarations) (all_declared k b e)

  translations : AreTranslations p q r blocks
  translations l b i e =
      let k = next_loop_number l.loop.before in
      let from = next_from_one l.loop.before in
      let one = is_block k b from e in
      record {
        nest = one.nest;
        among = one.among;
        found = found_nest k b from e;
        is_loop = is_loop k b from e l i refl;
        normal = one.normal;
        translated = one.translated;
        counters = counters k b from e;
        made = made_declared k b from e;
        names = names_are k b e;
        surroundings = (stands k b from e).round;
        profile = block_is k b (stands k b from e).round e (of_profile k b from e (stands k b from e).round (stands k b from e).named (stands k b from e).is);
      }

  suits : SuitLoops p q blocks
  suits l b i e =
      let k = next_loop_number l.loop.before in
      let from = next_from_one l.loop.before in
      let same = is_loop k b from e l i refl in
      record {
        profile = λ w v s. block_is k b w e (of_profile k b from e w v (subst (λ (m : SurroundedLoop). IsStatement p.declarations (as_statement m.loop.loop) w) (sym same) s));
        loop = subst (λ (m : SurroundedLoop). KeepsJumps m.loop.loop.body) same (nest_keeps_jumps p (is_block k b from e).nest (found_nest k b from e));
        block = block_unlabelled k b from e;
      }

  good : PlacedProgramIsProgram width → IsWithinLimits q.body → IsGoodTranslation width p q
  good placed limits =
      let target = placed p q blocks program own_more t.name t.body suits limits in
      record {
        program = target;
        keeps = λ input. translation_keeps width (translation_does_as_loop width) p q r blocks input program target own_more counters_more translations t.body;
      }

-- ---- the law

pub translation_is_good : (width : Width) → TranslationIsGood width
translation_is_good width p q blocks made program are placed limits =
    good width made_names (translation_is_of_profile width) p q blocks made program are placed
    (names_are_made width p blocks made program are) (placed_program_is_program width) limits
