-- What becomes of the loops of a program.
use Rattle.std.proofs.Common.{◌≡◌, ◌≤◌, ◌<◌, ◌+◌, refl, sym, ap, subst, ◌∙◌, ℕ, true≢false, Option, Some, None, is_some, Result, Ok, Err, List, [], ◌∷◌, ◌++◌, length, map, take, get_or, Contains, arith, ◌^◌}
use Rattle.std.specs.Prelude.{IfOk}
use Rattle.std.proofs.lemmas.List.{get_or-map, length-map, map-append, take_all}
use Rattle.dependence_graph.proofs.dep_graph.Joining.{one_more}
use Rattle.dependence_graph.specs.nest_graph.Ready.{IsReady}
use Rattle.find_nests.proofs.FoundLaws.{found_nest_is_loop}
use Rattle.find_nests.specs.Found.{Found, InNest, found_in}
use Rattle.find_nests.specs.Laws.{IsFoundNest}
use Rattle.find_nests.specs.View.{found_of}
use Rattle.find_nests.specs.declared.search.Found.{Found as Found'}
use Rattle.meaning.specs.Dialect.{fortran77}
use Rattle.tree.specs.declared.width.Width.TheVariants.{Wide}
use Rattle.meaning.specs.Profile77.{IsProgram77}
use Rattle.nest.specs.Plain.{Loop, Nest}
use Rattle.nest_reasons.specs.Symbols.{symbols_of}
use Rattle.normal_loops.specs.Normalised.{normalised}
use Rattle.pass_laws.proofs.NormalNests.Form.{found_nest_has_normal_form}
use Rattle.pass_laws.proofs.ReadyNests.NormalReady.{normal_nest_is_ready}
use Rattle.pass_laws.proofs.ReadyNests.SourceRanks.{few_symbols}
use Rattle.tree.specs.Plain.{Program}
use Rattle.tree.specs.View.{declaration_of}
use Rattle.tree.specs.declared.programs.Decl.{Decl}
use Rattle.index_split.specs.Answers.{AreAnswersTo, AreUsed, IsAnswerTo, IsCutAs, IsNestAnswer, IsOfSource}
use Rattle.index_split.specs.Cuts.{outermost}
use Rattle.index_split.specs.Points.{AreCutPoints, IsConsidered}
use Rattle.index_split.specs.declared.answers.Answer.{Answer}
use Rattle.index_split.specs.declared.answers.Answer.TheVariants.{Whole}
use Rattle.index_split.proofs.CutLaws.{considered_once}

-- ---- nests

module _ (n m : Nest) (points : List ℕ) (are : AreCutPoints m points) where
  pub unused : (AreUsed points → ⊥) → IsNestAnswer n m Whole
  unused never = record { points = points; are = are; unused = λ h. refl; used = λ t l h k e. absurd (never h) }

  module _ (some : AreUsed points) where
    pub not_considered : ((t : ℕ) → IsConsidered m t → ⊥) → IsNestAnswer n m Whole
    not_considered never = record { points = points; are = are; unused = λ h. refl; used = λ t l h k e. absurd (never t k) }

    pub without_loop : outermost n.body ≡ None → IsNestAnswer n m Whole
    without_loop lacks = record { points = points; are = are; unused = λ h. refl; used = λ t l h k e. absurd (none l (sym lacks ∙ e)) }
      where
        none : (l : Loop) → ◌≡◌ {A = Option Loop} None (Some l) → ⊥
        none l e = cc

    pub cut : (t : ℕ) (l : Loop) (a : Answer) → IsConsidered m t → outermost n.body ≡ Some l → IsCutAs n l (points ++ t ∷ []) a → IsNestAnswer n m a
    cut t l a h e is = record {
      points = points;
      are = are;
      unused = λ never. absurd (never some);
      used = λ u k s g f. subst (λ (j : ℕ). IsCutAs n k (points ++ j ∷ []) a) (considered_once m t u h g)
          (subst (λ (j : Loop). IsCutAs n j (points ++ t ∷ []) a) (same l k (sym e ∙ f)) is);
    }
      where
        same : (x y : Loop) → ◌≡◌ {A = Option Loop} (Some x) (Some y) → x ≡ y
        same x y e = cc

pub if_ok : {A E : Type 0} (P Q : A → Type 0) (r : Result A E) → ((x : A) → P x → Q x) → IfOk r P → IfOk r Q
if_ok P Q (Ok x) f h = f x h
if_ok P Q (Err e) f h = tt

-- ---- sources

within_declarations : (p : Program) (n : Nest) → IsFoundNest p n → length p.declarations ≤ 1000 → length n.symbols ≤ 1000
within_declarations p n h most =
    let l = h.loop.loop.loop in
    let size : length n.symbols ≡ length (symbols_of p.declarations l.variable l.body) = ap (λ (m : Nest). length m.symbols) h.is in
    let within : length (symbols_of p.declarations l.variable l.body) ≤ length p.declarations = few_symbols p.declarations l.variable l.body in
    omega (arith, size, within, most)

pub few_of_source : (n : Nest) → IsOfSource (InNest n) → length n.symbols ≤ 1000
few_of_source n h = within_declarations h.program n (found_nest_is_loop h.program n h.among) h.profile.declarations.few

pub normal_there : (n : Nest) → IsOfSource (InNest n) → normalised n ≡ None → ⊥
normal_there n h none =
    let form = found_nest_has_normal_form (fortran77 Wide) h.program n h.profile h.among in
    true≢false (ap is_some (sym form.is ∙ none))

pub normal_ready : (n m : Nest) → IsOfSource (InNest n) → normalised n ≡ Some m → IsReady m
normal_ready n m h e = normal_nest_is_ready (fortran77 Wide) h.program n m h.profile h.among e

pub few_declarations : (p : Program) (ds : List Decl) → map declaration_of ds ≡ p.declarations → IsProgram77 (fortran77 Wide) p → length ds ≤ 2 ^ 16
few_declarations p ds e is =
    let size : length (map declaration_of ds) ≡ length ds = length-map ds declaration_of in
    let same : length (map declaration_of ds) ≡ length p.declarations = ap length e in
    let few : length p.declarations ≤ 1000 = is.declarations.few in
    omega (arith, size, same, few)

pub in_source : (p : Program) (items : List Found') (i : ℕ) (x : Found') → IsProgram77 (fortran77 Wide) p → map found_of items ≡ found_in p → i < length items → x ≡ get_or items i x
    → IsOfSource (found_of x)
in_source p items i x profile is h e =
    let size : length (map found_of items) ≡ length items = length-map items found_of in
    let at : get_or (map found_of items) i (found_of x) ≡ found_of x = get_or-map found_of items i x (found_of x) h ∙ ap found_of (sym e) in
    let within : i < length (map found_of items) = omega (arith, h, size) in
    record {
      program = p;
      profile = profile;
      among = subst (λ (fs : List Found). Contains fs (found_of x)) is (i, within, at);
    }

-- ---- all answers

answers-push : (fs : List Found) (as' : List Answer) (f : Found) (a : Answer) → AreAnswersTo fs as' → IsAnswerTo f a → AreAnswersTo (fs ++ f ∷ []) (as' ++ a ∷ [])
answers-push [] [] f a h k = (k, tt)
answers-push [] (b ∷ as') f a h k = absurd h
answers-push (g ∷ fs) [] f a h k = absurd h
answers-push (g ∷ fs) (b ∷ as') f a h k = (h.0, answers-push fs as' f a h.1 k)

pub answers_more : (items : List Found') (i : ℕ) (x : Found') (as' new : List Answer) (a : Answer) → i < length items → x ≡ get_or items i x
    → AreAnswersTo (map found_of (take i items)) as' → IsAnswerTo (found_of x) a → new ≡ as' ++ a ∷ [] → AreAnswersTo (map found_of (take (i + 1) items)) new
answers_more items i x as' new a h e are is n =
    subst (AreAnswersTo (map found_of (take (i + 1) items))) (sym n)
    (subst (λ (fs : List Found). AreAnswersTo fs (as' ++ a ∷ [])) (sym (ap (map found_of) (one_more items i x h e) ∙ map-append found_of (take i items) (x ∷ [])))
    (answers-push (map found_of (take i items)) as' (found_of x) a are is))

pub answers_all : (p : Program) (items : List Found') (i : ℕ) (as' : List Answer) → length items ≤ i → map found_of items ≡ found_in p → AreAnswersTo (map found_of (take i items)) as'
    → AreAnswersTo (found_in p) as'
answers_all p items i as' h e are = subst (λ (fs : List Found). AreAnswersTo fs as') (ap (map found_of) (take_all i items h) ∙ e) are
