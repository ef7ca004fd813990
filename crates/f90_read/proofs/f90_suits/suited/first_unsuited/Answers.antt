use Rattle.std.proofs.Common.{arith, ◌≡◌, ◌<◌, ◌≤◌, true, false, length, get_or, sym, ◌∙◌, rules}
use Rattle.f90_grammar.specs.Suited.{Suits}
use Rattle.f90_blocks.specs.places.forms.Places.{IsPlacedOf}
use Rattle.f90_blocks.proofs.StatementTrees.LoopLaws.{one_of}
use Rattle.f90_read.proofs.F90Suits.Walks.{begun, passed, all_good, none_bad, first_bad, differ}
use Rattle.f90_read.proofs.f90_suits.suited.first_unsuited.Goals as goal

pub loop-place-init : goal.loop-place-init
loop-place-init c ps ds a n r = begun ps (Suits ds)

pub is_suited-requires : goal.is_suited-requires
is_suited-requires c =
    let l : c.loop-place.place < length c.args.text.now = first_of (omega arith, search rules) in
    let g : get_or c.args.text.now c.loop-place.place c.index-text-place.result ≡ c.index-text-place.result = first_of
    (cc, search rules) in
    one_of IsPlacedOf c.args.text.now c.loop-place.place c.index-text-place.result c.requires.all l g c.requires.are_of

pub loop-place-preserved : goal.loop-place-preserved
loop-place-preserved c ps ds a n r =
    let l : c.loop-place.place < length c.args.text.now = first_of (omega arith, search rules) in
    let g : get_or c.args.text.now c.loop-place.place c.index-text-place.result ≡ c.index-text-place.result = first_of
    (cc, search rules) in
    let e : c.in_ok-is_suited.field-0 ≡ true = first_of (cc, search rules) in
    passed c.args.text.now ps (Suits ds) c.loop-place.place c.index-text-place.result a l g
    (λ p s. (c.in_ok-is_suited.ensures p.here ds s.is n r.of_text (r.each p s.in_text)).0 e)
    (c.loop-place.invariant ps ds a n r)

pub returns-then-not-branch-clause-first : goal.returns-then-not-branch-clause-first
returns-then-not-branch-clause-first c ps ds a n r =
    let l : c.loop-place.place < length c.args.text.now = first_of (omega arith, search rules) in
    let g : get_or c.args.text.now c.loop-place.place c.index-text-place.result ≡ c.index-text-place.result = first_of
    (cc, search rules) in
    let e : c.in_ok-is_suited.field-0 ≡ false = first_of (cc, search rules) in
    first_bad c.args.text.now ps (Suits ds) c.loop-place.place c.index-text-place.result a l g
    (λ p s h. differ _ ((c.in_ok-is_suited.ensures p.here ds s.is n r.of_text (r.each p s.in_text)).1 h) e)
    (c.loop-place.invariant ps ds a n r)

pub returns-clause-first : goal.returns-clause-first
returns-clause-first c ps ds a n r =
    let l : length c.args.text.now ≤ c.loop-place.place = first_of (omega arith, search rules) in
    none_bad ps (Suits ds) (all_good c.args.text.now ps (Suits ds) c.loop-place.place a l
    (c.loop-place.invariant ps ds a n r))

pub returns-clause-all : goal.returns-clause-all
returns-clause-all c ps ds a n r none =
    let l : length c.args.text.now ≤ c.loop-place.place = first_of (omega arith, search rules) in
    all_good c.args.text.now ps (Suits ds) c.loop-place.place a l (c.loop-place.invariant ps ds a n r)
