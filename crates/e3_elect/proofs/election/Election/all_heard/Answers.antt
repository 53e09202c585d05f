-- as many as the group has are the whole group
use Rattle.std.proofs.Common.{◌∙◌, ap, length, sym, subst, map, List, ℕ}
use Rattle.e3_world.specs.declared.elections.Named.{Named}
use Rattle.e3_world.specs.Gatherings.{Election}
use Rattle.e3_elect.specs.Calling.{IsWhole}
use Rattle.e3_elect.proofs.Members.{mapped_length}
use Rattle.e3_elect.proofs.election.Election.all_heard.Goals as goal

pub returns-clause-whole : goal.returns-clause-whole
returns-clause-whole c =
    let P : Election → Type 0 = λ e. IsWhole e.group (map (λ (x : Named). x.site) e.heard) c.is_as_many.result in
    let came : List ℕ = map (λ (x : Named). x.site) c.self.inside.heard.items in
    let many = mapped_length (λ (x : Named). x.site) c.self.inside.heard.items ∙ sym (ap (λ (l : List Named). length l) c.as_slice.ensures.value) in
    subst P c.self.view_is (c.is_as_many.ensures.whole came many c.self.invariant.2)
