use Rattle.std.proofs.Common.{◌≡◌, ◌<◌, ◌≤◌, ◌∙◌, [], length, refl, sym, ap, subst, arith}
use Rattle.std.specs.Option.{is_some}
use Rattle.std.proofs.lemmas.List.{get_or_read}
use Rattle.components.specs.declared.rest.Rest.{Rest}
use Rattle.components.specs.Classes.{IsClass}
use Rattle.components.specs.Counts.{times}
use Rattle.components.specs.Labels.{at}
use Rattle.components.specs.Rest.{AreFilled, Releases}
use Rattle.components.specs.Targets.{row}
use Rattle.components.proofs.Coming.{few, is_taken, next_here, next_rest, none_comes}
use Rattle.components.proofs.rest.Rest.next_class.Goals as goal

pub returns-in_default : goal.returns-in_default
returns-in_default c n count done is =
    none_comes n count c.args.labels.now c.args.tables.now done c.args.self.now is (record c.args.self.now { ready = c.take_least.new.self }) (c.take_least.ensures.none (ap is_some c.in_default.is))

pub bounds-labels-least : goal.bounds-labels-least
bounds-labels-least c =
    let some = c.requires in
    let is = some.3 in
    let here = is_taken some.0 some.1 c.args.labels.now c.args.tables.now some.2 c.args.self.now is c.in-Some.least c.in-Some.ensures.member in
    subst (λ z. c.in-Some.least < z) (sym is.tables.size) here.inside

pub offset_bounds-labels-least : goal.offset_bounds-labels-least
offset_bounds-labels-least c =
    let some = c.requires in
    let is = some.3 in
    let here = is_taken some.0 some.1 c.args.labels.now c.args.tables.now some.2 c.args.self.now is c.in-Some.least c.in-Some.ensures.member in
    let inside : c.in-Some.least < length c.args.labels.now = subst (λ z. c.in-Some.least < z) (sym is.tables.size) here.inside in
    omega arith

pub index-requires : goal.index-requires
index-requires c =
    let some = c.requires in
    let is = some.3 in
    let here = is_taken some.0 some.1 c.args.labels.now c.args.tables.now some.2 c.args.self.now is c.in-Some.least c.in-Some.ensures.member in
    let inside : at c.args.labels.now c.in-Some.least < length c.args.tables.now.onward.items =
    subst (λ z. at c.args.labels.now c.in-Some.least < z) (sym is.tables.onward) here.small in
    omega (arith, c.args.tables.now.onward.ok)

pub release-requires-clause-tables : goal.release-requires-clause-tables
release-requires-clause-tables c = let is = c.requires.3 in subst (λ z. AreFilled z c.args.tables.now) (sym is.width) is.tables.filled

pub release-requires-clause-few : goal.release-requires-clause-few
release-requires-clause-few c =
    let some = c.requires in
    let is = some.3 in
    let t = c.args.tables.now in
    let class = at c.args.labels.now c.in-Some.least in
    let here = is_taken some.0 some.1 c.args.labels.now t some.2 c.args.self.now is c.in-Some.least c.in-Some.ensures.member in
    let inside : class < length t.onward.items = subst (λ z. class < z) (sym is.tables.onward) here.small in
    let targets : c.as_slice.result.now ≡ row t.onward.items class = c.as_slice.ensures ∙ get_or_read t.onward.items class c.index.result.now inside c.index.ensures [] in
    λ k. subst (λ z. times k z ≤ at c.args.self.now.counts.items k) (sym targets)
    (few some.0 some.1 c.args.labels.now t some.2 c.args.self.now is c.in-Some.least c.in-Some.ensures.member k)

pub index-requires-2 : goal.index-requires-2
index-requires-2 c =
    let some = c.requires in
    let is = some.3 in
    let here = is_taken some.0 some.1 c.args.labels.now c.args.tables.now some.2 c.args.self.now is c.in-Some.least c.in-Some.ensures.member in
    let inside : at c.args.labels.now c.in-Some.least < length c.args.tables.now.members.items =
    subst (λ z. at c.args.labels.now c.in-Some.least < z) (sym is.tables.members.size) here.small in
    omega (arith, c.args.tables.now.members.ok)

pub returns : goal.returns
returns c n count done is =
    let old = c.args.self.now in
    let t = c.args.tables.now in
    let labels = c.args.labels.now in
    let v = c.in-Some.least in
    let taken = c.in-Some.ensures.member in
    let class = at labels v in
    let here = is_taken n count labels t done old is v taken in
    let inside : class < length t.onward.items = subst (λ z. class < z) (sym is.tables.onward) here.small in
    let listed : class < length t.members.items = subst (λ z. class < z) (sym is.tables.members.size) here.small in
    let targets : c.as_slice.result.now ≡ row t.onward.items class = c.as_slice.ensures ∙ get_or_read t.onward.items class c.index.result.now inside c.index.ensures [] in
    let members : c.in_ok-copied.field-0 ≡ row t.members.items class =
    c.in_ok-copied.ensures ∙ (c.as_slice-2.ensures ∙ get_or_read t.members.items class c.index-2.result.now listed c.index-2.ensures []) in
    let mid : Rest = record old { ready = c.take_least.new.self } in
    let rel = subst (λ z. Releases t z mid c.release.new.self) targets c.in_ok-release.ensures in (
      class,
      next_here n count labels t done old is v taken c.in-Some.ensures.least,
      subst (IsClass n labels class) (sym members) (is.tables.members.each class),
      next_rest n count labels t done old is v taken mid c.release.new.self refl c.in-Some.ensures.others rel,
    )
