use Rattle.std.proofs.Common.{arith, ◌≡◌, ◌+◌, ◌-◌, ℕ, ◌<◌, ◌≤◌, List, [], ◌∷◌, ◌++◌, length, refl, rules}
use Rattle.f90_grammar.specs.Blocks as grammar
use Rattle.f90_grammar.specs.Bounds.{HasManyNames}
use Rattle.f90_grammar.specs.Declared.{declarations_in, declarations_of}
use Rattle.f90_grammar.specs.Order.{Place90}
use Rattle.f90_blocks.specs.places.forms.Places.{IsPlacedOf}
use Rattle.f90_names.proofs.kinds.OfDeclarations.PlaceLaws.{unmet, go_on, stop_at, never, start, step}
use Rattle.f90_names.proofs.kinds.OfDeclarations.SizeLaws.{names_more}
use Rattle.f90_names.proofs.kinds.declarations.limits.first_beyond_names.Goals as goal

abbrev AreLeft : ℕ → List grammar.Placed → Type 0
AreLeft n ps = n + length (declarations_of ps) ≡ 100000

taken : (ps : List grammar.Placed) (p : grammar.Placed) (left here : ℕ) → AreLeft left ps
    → here ≡ length (declarations_in p.form) → here ≤ left → AreLeft (left - here) (ps ++ p ∷ [])
taken ps p left here h e l = let m = names_more ps p in omega arith

few_names : (q : Place90) (left here : ℕ) → AreLeft left q.before → here ≡ length (declarations_in q.here.form)
    → here ≤ left → HasManyNames q → ⊥
few_names q left here h e l m = let n = names_more q.before q.here in absurd (omega arith)

many_names : (q : Place90) (left here : ℕ) → AreLeft left q.before → here ≡ length (declarations_in q.here.form)
    → left < here → HasManyNames q
many_names q left here h e l = let n = names_more q.before q.here in omega arith

pub loop-i-init : goal.loop-i-init
loop-i-init c = record {
  left =
      λ ps a. start IsPlacedOf (AreLeft 100000) ps refl a;
  unmet = λ ps a. unmet ps HasManyNames;
}

pub loop-i-preserved : goal.loop-i-preserved
loop-i-preserved c =
    let l : c.loop-i.i < length c.args.text.now = first_of (omega arith, search rules) in
    let k = c.index-text-i.result in
    let few : c.names_here-here.result ≤ c.loop-i.left = omega arith in
    record {
      left = step IsPlacedOf (AreLeft c.loop-i.left)
          (AreLeft (c.loop-i.left - c.names_here-here.result)) c.args.text.now c.loop-i.i k l c.index-text-i.is
          (λ ps p h g. taken ps p c.loop-i.left c.names_here-here.result h
          (c.names_here-here.ensures p.form g.is) few) c.loop-i.invariant.left;
      unmet = λ ps a.
          go_on c.args.text.now ps c.loop-i.i k HasManyNames l c.index-text-i.is a
          (λ q t m. few_names q c.loop-i.left c.names_here-here.result (c.loop-i.invariant.left q.before t.of_before)
          (c.names_here-here.ensures q.here.form t.of_here.is) few m)
          (c.loop-i.invariant.unmet ps a);
    }

pub returns-then-here-left : goal.returns-then-here-left
returns-then-here-left c ps a =
    let l : c.loop-i.i < length c.args.text.now = first_of (omega arith, search rules) in
    let k = c.index-text-i.result in
    let more : c.loop-i.left < c.names_here-here.result = omega arith in
    stop_at c.args.text.now ps c.loop-i.i k HasManyNames l c.index-text-i.is a
    (λ q t. many_names q c.loop-i.left c.names_here-here.result (c.loop-i.invariant.left q.before t.of_before)
    (c.names_here-here.ensures q.here.form t.of_here.is) more)
    (c.loop-i.invariant.unmet ps a)

pub returns : goal.returns
returns c ps a =
    let l : length c.args.text.now ≤ c.loop-i.i = first_of (omega arith, search rules) in
    never c.args.text.now ps HasManyNames c.loop-i.i l a (c.loop-i.invariant.unmet ps a)
