-- Declarations of FORTRAN 77 are declarations of Fortran 90, and so its programs are programs of it.
use Rattle.std.proofs.Common.{◌≡◌, ◌⊎◌, inl, inr, ℕ, zero, suc, ◌^◌, ◌<◌, ◌≤◌, ℤ, pos, negsuc, neg_ℤ, ◌≤ℤ◌, ◌<ℤ◌, Bool, true, false, ◌||◌, ◌==◌, Option, Some, None, List, [], ◌∷◌, length}
use Rattle.std.proofs.Common.{refl, sym, subst, arith, Contains, IfSome, leb→le, ltb→lt}
use Rattle.std.proofs.Math.Nat.{pow-le-pow_right}
use Rattle.std.specs.Int.{w64}
use Rattle.std.specs.Prelude.{FitsSigned}
use Rattle.std.specs.List.{AllByRecursion, list_any}
use Rattle.std.proofs.lemmas.Bool.Decides.{Decides-eqb}
use Rattle.std.proofs.Math.Dec.{lit≤}
use Rattle.tree.specs.Plain.{Extent, Given, Later, Declaration, Program}
use Rattle.meaning.specs.Dialect.{Dialect}
use Rattle.tree.specs.Names.{IsSourceName}
use Rattle.tree.specs.declared.functions.Fun.{Fun}
use Rattle.tree.specs.declared.functions.Fun.TheVariants.{Abs, Mod, Max, Min}
use Rattle.tree.specs.Functions.{name_of_function}
use Rattle.meaning.specs.SymbolicNames.{is_letter, is_digit, IsSymbolicName, IsLongName}
use Rattle.meaning.specs.Typed.{dimensions, declared}
use Rattle.meaning.specs.Blocks.{outermost}
use Rattle.meaning.specs.Profile77 as source
use Rattle.meaning.specs.Profile77.{IsFixed, IsProgram77}
use Rattle.meaning.specs.Profile90 as target
use Rattle.meaning.specs.Extents as extents
use Rattle.meaning.specs.Profile90.{IsProgram90}
use Rattle.meaning_laws.proofs.profiles.Lists.{all_weaker, all_pass, cases_of, nowhere}
use Rattle.meaning_laws.proofs.profiles.Names.{each_found, found, once, not_declared}
use Rattle.meaning_laws.proofs.profiles.Targets.{Extends, block_is}
use Rattle.meaning_laws.specs.profiles.Profiles.{SourceIsTarget, AddMadeNames, SourceWithMadeNamesIsTarget}

-- ---- names

either_or : (a b c : Bool) → (a || b) ≡ true → (a || b || c) ≡ true
either_or true b c h = refl
either_or false true c h = refl
either_or false false c h = absurd cc

long_name : (x : List ℕ) → IsSymbolicName x → IsLongName x
long_name x h = record {
  begins = h.begins;
  goes_on = all_pass (λ c. is_letter c || is_digit c) (λ c. is_letter c || is_digit c || c == 95) (λ c. either_or (is_letter c) (is_digit c) (c == 95)) x h.goes_on;
  within = (let w = h.within in omega (arith, w));
}

-- ---- bounds

below : (k m : ℕ) → pos k <ℤ pos m → k < m
below k m h = ltb→lt k m h.lt

low : (k m : ℕ) → neg_ℤ (pos m) ≤ℤ negsuc k → k < m
low k zero h = absurd h.le
low k (suc m) h = (let a = leb→le k m h.le in omega (arith, a))

fits : (k m n : ℕ) → k < m → m ≡ 2 ^ n → n ≤ 63 → k < 2 ^ 63
fits k m n l e b = let c = pow-le-pow_right {n = 2} (omega arith) b in omega (arith, l, e, c)

lower : (a b : ℤ) (n : ℕ) → n ≤ 63 → neg_ℤ (pos (2 ^ n)) ≤ℤ a → a ≤ℤ b → b <ℤ pos (2 ^ n) → FitsSigned w64 a
lower (pos j) (pos k) n i h o g = record { sfits = fits j (2 ^ n) n (let x = leb→le j k o.le in let y = below k (2 ^ n) g in omega (arith, x, y)) refl i }
lower (pos j) (negsuc k) n i h o g = absurd o.le
lower (negsuc j) b n i h o g = record { sfits = fits j (2 ^ n) n (low j (2 ^ n) h) refl i }

upper : (a b : ℤ) (n : ℕ) → n ≤ 63 → neg_ℤ (pos (2 ^ n)) ≤ℤ a → a ≤ℤ b → b <ℤ pos (2 ^ n) → FitsSigned w64 b
upper a (pos k) n i h o g = record { sfits = fits k (2 ^ n) n (below k (2 ^ n) g) refl i }
upper (pos j) (negsuc k) n i h o g = absurd o.le
upper (negsuc j) (negsuc k) n i h o g = record { sfits = fits k (2 ^ n) n (let x = leb→le k j o.le in let y = low j (2 ^ n) h in omega (arith, x, y)) refl i }

dimension : (lang : Dialect) → lang.bits ≤ 63 → (b : ℤ × ℤ) → source.IsDimension lang b → extents.IsDimension b
dimension lang n b h = record {
  lower = lower b.0 b.1 lang.bits n h.above h.ordered h.below;
  upper = upper b.0 b.1 lang.bits n h.above h.ordered h.below;
}

-- ---- declarations

extent : (lang : Dialect) → lang.bits ≤ 63 → (e : Extent) → IsFixed e → length (dimensions e) ≤ 7 → AllByRecursion (source.IsDimension lang) (dimensions e) → target.IsExtent e
extent lang n (Given bs) f l h = (l, all_weaker (source.IsDimension lang) extents.IsDimension (dimension lang n) bs h)
extent lang n (Later k) f l h = absurd f

declaration : (lang : Dialect) → lang.bits ≤ 63 → (e : Declaration) → source.IsDeclaration lang e → target.IsDeclaration e
declaration lang n e h = record { name = long_name e.name h.name; extent = extent lang n e.extent h.fixed h.few h.dimension }

declarations : (lang : Dialect) → lang.bits ≤ 63 → (ds : List Declaration) → source.AreDeclarations lang ds → target.AreDeclarations ds
declarations lang n ds h = record { each = all_weaker (source.IsDeclaration lang) target.IsDeclaration (declaration lang n) ds h.each; ordered = h.ordered; elements = h.elements }

pub fixed : (lang : Dialect) (ds : List Declaration) → source.AreDeclarations lang ds → (x : List ℕ) (e : Declaration) → declared ds x ≡ Some e → IsFixed e.extent
fixed lang ds h = each_found (λ (e : Declaration). IsFixed e.extent) ds (all_weaker (source.IsDeclaration lang) (λ (e : Declaration). IsFixed e.extent) (λ e g. g.fixed) ds h.each)

-- ---- programs

title : (o : Option (List ℕ)) (P : List ℕ → Type 0) → ((x : List ℕ) → P x → IsLongName x) → IfSome o P → IfSome o IsLongName
title None P f h = tt
title (Some x) P f h = f x h

program : (lang : Dialect) (p : Program) (es : List Declaration) → IsProgram77 lang p → Extends p.declarations es → target.AreDeclarations es → IsProgram90 (record p { declarations = es })
program lang p es h ext are = record {
  name = title p.name _ (λ x q. long_name x q.0) h.name;
  declarations = are;
  statements = block_is p.declarations es ext p.body outermost h.statements;
  blocks = (let b = h.blocks in omega (arith, b));
  labels = h.labels;
  named = h.named;
  few = h.few;
}

pub as_it_stands : (lang : Dialect) (p : Program) → IsProgram77 lang p → Extends p.declarations p.declarations
as_it_stands lang p h = record { found = λ x e f. f; fixed = fixed lang p.declarations h.declarations; free = λ f g. g }

pub source_is_target : SourceIsTarget
source_is_target lang p n h = program lang p p.declarations h (as_it_stands lang p h) (declarations lang n p.declarations h.declarations)

-- ---- with made names

none_is : (n : ℕ) (xs : List ℕ) → list_any (λ c. c == n) xs ≡ false → ¬ Contains xs n
none_is n [] h c = nowhere n c
none_is n (x ∷ xs) h c = by (x == n) refl (none_is n xs) h (cases_of x xs n c)
  where
    by : (b : Bool) → (x == n) ≡ b → (list_any (λ c. c == n) xs ≡ false → ¬ Contains xs n) → (b || list_any (λ c. c == n) xs) ≡ false → (x ≡ n) ⊎ Contains xs n → ⊥
    by true q more h k = cc
    by false q more h (inl s) = let yes = (Decides-eqb x n).1 s in cc
    by false q more h (inr k) = more h k

function_is_source : (f : Fun) → IsSourceName (name_of_function f)
function_is_source Abs = record { within = lit≤ tt; plain = none_is 95 (name_of_function Abs) refl }
function_is_source Mod = record { within = lit≤ tt; plain = none_is 95 (name_of_function Mod) refl }
function_is_source Max = record { within = lit≤ tt; plain = none_is 95 (name_of_function Max) refl }
function_is_source Min = record { within = lit≤ tt; plain = none_is 95 (name_of_function Min) refl }

pub kept_declaration : (ds es : List Declaration) → AddMadeNames ds es → (x : List ℕ) (e : Declaration) → declared ds x ≡ Some e → declared es x ≡ Some e
kept_declaration ds es a x e f = let k = found ds x e f in subst (λ y. declared es y ≡ Some e) k.name (once es e a.are.ordered (a.kept e k.among))

pub source_with_made_names : SourceWithMadeNamesIsTarget
source_with_made_names lang p es h a = program lang p es h (record { found = kept_declaration p.declarations es a; fixed = fixed lang p.declarations h.declarations; free = free }) a.are
  where
    hides : (f : Fun) → declared p.declarations (name_of_function f) ≡ None → (e : Declaration) → declared es (name_of_function f) ≡ Some e → ⊥
    hides f g e q = let k = found es (name_of_function f) e q in by k.name (a.made e k.among)
      where
        by : e.name ≡ name_of_function f → Contains p.declarations e ⊎ (IsSourceName e.name → ⊥) → ⊥
        by n (inl c) = not_declared p.declarations (name_of_function f) e g c n
        by n (inr s) = s (subst IsSourceName (sym n) (function_is_source f))

    free : (f : Fun) → declared p.declarations (name_of_function f) ≡ None → declared es (name_of_function f) ≡ None
    free f g = by (declared es (name_of_function f)) refl
      where
        by : (o : Option Declaration) → declared es (name_of_function f) ≡ o → o ≡ None
        by None q = refl
        by (Some e) q = absurd (hides f g e q)
