use Rattle.std.proofs.Common.{rules, Bool, Err, ◌≡◌, ◌<◌, ◌+◌, ◌++◌, ◌∷◌, [], ℕ, List, Option, length, refl, sym, subst, ap, ◌∙◌, arith}
use Rattle.std.specs.Prelude.{IfSome, None}
use Rattle.e3_node.specs.declared.batching.Batch.{Batch}
use Rattle.e3_node.specs.declared.batching.Lengthened.{Lengthened}
use Rattle.e3_site.proofs.Steps.{steps_are_few}
use Rattle.e3_site.specs.SiteView.{SiteView, Stands, entry_of_plan}
use Rattle.e3_site.specs.StandsAlike.{now_with}
use Rattle.e3_types.specs.declared.entries.Entry.{Entry}
use Rattle.e3_types.specs.declared.entries.Input.{Input}
use Rattle.e3_wire.specs.Marks.{last_owner, most_of, used_of}
use Rattle.e3_wire.specs.declared.marks.Mark.TheVariants as mark
use Rattle.e3_node.specs.site_log.Ends.{HasRoomUnlessShort}
use Rattle.e3_node.specs.Batched.{IsLonger}
use Rattle.e3_node.specs.Batches.{stepped}
use Rattle.e3_node.proofs.Bundles.{stepped_long}
use Rattle.e3_node.proofs.Adding.{batch_added, batch_same, err_so, no_more_room}
use Rattle.e3_node.proofs.Several.{most_push, owners_push, used_push}
use Rattle.e3_node.proofs.batching.add_one.Goals as goal

pub planned-requires : goal.planned-requires
planned-requires g c =
    let h : List Entry = stepped g.at.scenario g.at.history g.at.site g.at.done in
    let alike = c.requires.1.1.1.0.stands in
    let fewer = steps_are_few g.at.scenario h g.at.site in
    let long = stepped_long g.at.scenario g.at.history g.at.site g.at.done in
    let few = c.requires.1.1.1.1.1.1.1.1 in
    let P : ℕ → Type 0 = λ n. Stands (now_with g.at.rose g.at.scenario h n) c.args.site.now in
    let Q : ℕ → Type 0 = λ n. length (now_with g.at.rose g.at.scenario h n).since < 4000000000 in
    (subst P (sym alike.site_is) alike.stands, subst Q (sym alike.site_is) (omega (arith, fewer, long, few)))

pub returns-in-Some-clause-added : goal.returns-in-Some-clause-added
returns-in-Some-clause-added g c = λ yes.
    let d = c.in_ok-draft.draft in
    let b : Batch = record c.args.batch.now { steps = c.reserve.new.steps } in
    let is : IsLonger g.D.Disk.meaning.meters c.args.log.now b c.planned.new.site d c.in-Some.longer =
    subst (λ (r : Option Lengthened). IfSome r (IsLonger g.D.Disk.meaning.meters c.args.log.now b c.planned.new.site d)) c.in-Some.is c.in-Ok.ensures.longer in
    let claimed : c.one_more.new.shared ≡ c.args.shared.now ++ mark.Place c.args.number (length d.plan.step.outs) ∷ [] =
    subst (λ (r : Option Lengthened). IfSome r (λ _. c.one_more.new.shared ≡ c.args.shared.now ++ mark.Place c.args.number (length d.plan.step.outs) ∷ [])) c.in-Some.is c.in-Ok.ensures.claimed in
    batch_added g.D.Disk.meaning.meters c.args.log.now g.at.scenario g.at.history g.at.site g.at.rose g.at.marks g.at.first g.at.done c.args.batch.now c.lengthen.new.batch c.args.site.now c.planned.new.site
    c.step_with-step.new.site c.args.shared.now c.one_more.new.shared (length d.plan.step.outs) c.args.input.now d c.in_ok-draft.draft.plan.step c.step_with-step.result c.in-Some.longer.short c.requires.1.1.1.0 c.requires.1.1.1.1.1.0
    c.requires.1.1.1.1.1.1.0 c.in_ok-draft.ensures.ready c.planned.ensures.still refl c.step_with-step.ensures.stand
    (ap (λ (v : SiteView). v.weights) c.step_with-step.ensures.done) (ap (λ (v : SiteView). v.site) c.step_with-step.ensures.done)
    (ap (λ (v : SiteView). v.inputs) c.step_with-step.ensures.done)
    (c.step_with-step.ensures.entry ∙ ap (λ (i : Input). entry_of_plan c.args.number i c.in_ok-draft.draft.plan.step) c.copy.ensures ∙ ap (λ (n : ℕ). entry_of_plan n c.args.input.now c.in_ok-draft.draft.plan.step) c.requires.1.1.0)
    refl
    (ap (λ (b : Batch). b.steps.items) c.lengthen.ensures ∙ c.push_reserved.ensures.items ∙ ap (λ (l : List Entry). l ++ c.step_with-step.result ∷ []) c.reserve.ensures.items)
    (ap (λ (b : Batch). b.records) c.lengthen.ensures ∙ is.records)
    (ap (λ (b : Batch). b.body) c.lengthen.ensures ∙ is.body)
    (ap (λ (b : Batch). b.short) c.lengthen.ensures)
    is.short is.has_body
    (λ l brief some none.
    let D : ℕ → Type 0 = λ n. HasRoomUnlessShort g.D.Disk.meaning.meters c.args.log.now l c.in-Some.longer.short n in
    subst D (sym (ap (λ (b : Batch). length b.body) c.lengthen.ensures))
    (is.due l brief (λ empty. some (ap (λ (b : Batch). b.records) c.lengthen.ensures ∙ empty)) none))
    (claimed ∙ ap (λ (n : ℕ). c.args.shared.now ++ mark.Place n (length d.plan.step.outs) ∷ []) c.requires.1.1.0)

pub returns-in-None-clause-full : goal.returns-in-None-clause-full
returns-in-None-clause-full g c = λ no.
    let is : c.in-Ok.more ≡ None = search rules in
    let full = c.in-Ok.ensures.full is in (
      batch_same g.D.Disk.meaning.meters c.args.log.now g.at.scenario g.at.history g.at.site g.at.rose g.at.marks g.at.first g.at.done c.args.batch.now
          (record c.args.batch.now { steps = c.reserve.new.steps }) c.args.site.now c.planned.new.site
          c.args.shared.now c.one_more.new.shared c.requires.1.1.1.0 c.reserve.ensures.items refl refl refl c.planned.ensures.still full.1,
      no_more_room g.D.Disk.meaning.meters c.args.log.now g.at.scenario g.at.history g.at.site g.at.rose g.at.marks g.at.first g.at.done c.args.batch.now c.args.site.now c.planned.new.site
          c.args.shared.now c.args.input.now c.in_ok-draft.draft (c.args.batch.now.body ++ c.in_ok-draft.draft.body) c.requires.1.1.1.0 c.requires.1.1.1.1.1.0 c.in_ok-draft.ensures.ready
          refl full.0.0 full.0.1 full.0.2,
    )

pub returns-in-Some-clause-most : goal.returns-in-Some-clause-most
returns-in-Some-clause-most g c = ap most_of (subst (λ (r : Option Lengthened). IfSome r (λ _. c.one_more.new.shared ≡ c.args.shared.now ++ mark.Place c.args.number (length c.in_ok-draft.draft.plan.step.outs) ∷ [])) c.in-Some.is c.in-Ok.ensures.claimed) ∙ most_push c.args.shared.now c.args.number (length c.in_ok-draft.draft.plan.step.outs)

pub returns-in-Some-clause-used : goal.returns-in-Some-clause-used
returns-in-Some-clause-used g c =
    let more : used_of c.one_more.new.shared ≡ used_of c.args.shared.now + 1 = ap used_of (subst (λ (r : Option Lengthened). IfSome r (λ _. c.one_more.new.shared ≡ c.args.shared.now ++ mark.Place c.args.number (length c.in_ok-draft.draft.plan.step.outs) ∷ [])) c.in-Some.is c.in-Ok.ensures.claimed) ∙ used_push c.args.shared.now c.args.number (length c.in_ok-draft.draft.plan.step.outs) c.requires.1.0 in
    omega (arith, more)

pub returns-in-Some-clause-owners : goal.returns-in-Some-clause-owners
returns-in-Some-clause-owners g c = ap last_owner (subst (λ (r : Option Lengthened). IfSome r (λ _. c.one_more.new.shared ≡ c.args.shared.now ++ mark.Place c.args.number (length c.in_ok-draft.draft.plan.step.outs) ∷ [])) c.in-Some.is c.in-Ok.ensures.claimed) ∙ owners_push c.args.shared.now c.args.number (length c.in_ok-draft.draft.plan.step.outs)

pub returns-in_err-reserve-clause-kept : goal.returns-in_err-reserve-clause-kept
returns-in_err-reserve-clause-kept g c =
    err_so c.from_residual.result _
    (batch_same g.D.Disk.meaning.meters c.args.log.now g.at.scenario g.at.history g.at.site g.at.rose g.at.marks g.at.first g.at.done c.args.batch.now (record c.args.batch.now { steps = c.reserve.new.steps }) c.args.site.now c.args.site.now
    c.args.shared.now c.args.shared.now c.requires.1.1.1.0 c.reserve.ensures.items refl refl refl (record { same = refl; stands = λ sc h site rose stands. stands }) refl)

pub returns-in_err-draft-clause-kept : goal.returns-in_err-draft-clause-kept
returns-in_err-draft-clause-kept g c =
    err_so c.from_residual-in_err-draft.result _
    (batch_same g.D.Disk.meaning.meters c.args.log.now g.at.scenario g.at.history g.at.site g.at.rose g.at.marks g.at.first g.at.done c.args.batch.now (record c.args.batch.now { steps = c.reserve.new.steps }) c.args.site.now c.planned.new.site
    c.args.shared.now c.args.shared.now c.requires.1.1.1.0 c.reserve.ensures.items refl refl refl c.planned.ensures.still refl)

pub returns-in-Err-clause-kept : goal.returns-in-Err-clause-kept
returns-in-Err-clause-kept g c =
    err_so {A = Bool} (Err c.in-Err.fault) _
    (batch_same g.D.Disk.meaning.meters c.args.log.now g.at.scenario g.at.history g.at.site g.at.rose g.at.marks g.at.first g.at.done c.args.batch.now (record c.args.batch.now { steps = c.reserve.new.steps }) c.args.site.now c.planned.new.site
    c.args.shared.now c.one_more.new.shared c.requires.1.1.1.0 c.reserve.ensures.items refl refl refl c.planned.ensures.still c.in-Err.ensures.kept)
