-- Passes one after another.
use Rattle.std.proofs.Common.{◌≡◌, sym, ap, ◌∙◌, subst, None}
use Rattle.tree.specs.Plain.{Program}
use Rattle.meaning.specs.Dialect.{fortran77}
use Rattle.tree.specs.declared.width.Width.{Width}
use Rattle.meaning.specs.Run.{State, does_all}
use Rattle.meaning.specs.Store.{Agree, Store, cell_in}
use Rattle.rewrite.specs.Following.{IsSound}
use Rattle.nest_steps.specs.Keeping.{GoOnAlike, OneAfterAnother, WhatStandsKeepsAgreement}

agree_on : (p : Program) (s t u : Store) → Agree p s t → Agree p t u → Agree p s u
agree_on p s t u a b = record {
  bounds = λ x n. a.bounds x n ∙ b.bounds x n;
  held = λ c n here. a.held c n here ∙ b.held c n (ap (λ b. cell_in b c.name c.subscripts) (sym (a.bounds c.name n)) ∙ here);
  kinds = λ c n. a.kinds c n ∙ b.kinds c n;
}

agree_back : (p : Program) (s t : Store) → Agree p s t → Agree p t s
agree_back p s t a = record {
  bounds = λ x n. sym (a.bounds x n);
  held = λ c n here. sym (a.held c n (ap (λ b. cell_in b c.name c.subscripts) (a.bounds c.name n) ∙ here));
  kinds = λ c n. sym (a.kinds c n);
}

joined : (p : Program) (s t r : State) → GoOnAlike p s t → GoOnAlike p t r → GoOnAlike p s r
joined p s t r a b = record {
  going = a.going;
  agree = agree_on p s.store t.store r.store a.agree b.agree;
  rest = b.rest ∙ ap (λ (x : State). record x { store = r.store; steps = r.steps }) a.rest;
}

turned : (p : Program) (s t : State) → GoOnAlike p s t → GoOnAlike p t s
turned p s t a = record {
  going = ap (λ (x : State). x.way) a.rest ∙ a.going;
  agree = agree_back p s.store t.store a.agree;
  rest = sym (ap (λ (x : State). record x { store = s.store; steps = s.steps }) a.rest);
}

pub one_after_another : (width : Width) → OneAfterAnother width
one_after_another width p v w x b c d begin f g s t starts ends alike sound =
    let m = begin s starts in
    let one = f s m.state starts m.starts m.alike sound in
    let there : (does_all (fortran77 width) None c m.state).way ≡ (does_all (fortran77 width) None b s).way = ap (λ (t : State). t.way) one.rest in
    let two = g m.state t m.starts ends (joined p m.state s t (turned p s m.state m.alike) alike) (subst IsSound (sym there) sound) in
    joined p (does_all (fortran77 width) None b s) (does_all (fortran77 width) None c m.state) (does_all (fortran77 width) None d t) one two

pub what_stands_keeps_agreement : (width : Width) → WhatStandsKeepsAgreement width
what_stands_keeps_agreement width p w x b c f s t u starts at bt a e sound =
    joined p (does_all (fortran77 width) None c t) (does_all (fortran77 width) None b s) (does_all (fortran77 width) None c u)
    (turned p (does_all (fortran77 width) None b s) (does_all (fortran77 width) None c t) (f s t starts at a sound)) (f s u starts bt e sound)
