use Rattle.std.proofs.Common.{rules, ◌≡◌, ◌≤◌, ◌++◌, ◌∷◌, [], ℕ, List, Option, length, refl, sym, subst, ap, ◌∙◌, arith}
use Rattle.std.specs.Prelude.{Result, Err}
use Rattle.e3_types.specs.declared.records.Record.{Record}
use Rattle.e3_wire.specs.Marks.{most_of, used_of}
use Rattle.e3_wire.specs.declared.marks.Mark.TheVariants as mark
use Rattle.e3_node.specs.site_log.Ends.{HasRoom, HasRoomUnlessShort, IsShortIf}
use Rattle.e3_node.specs.declared.site_log.writing.Short.{Short}
use Rattle.e3_node.specs.Batched.{IfReady}
use Rattle.e3_node.specs.Briefing.{HasBody}
use Rattle.e3_node.specs.declared.briefing.Room.{Room}
use Rattle.e3_node.specs.declared.briefing.Room.TheVariants.{Full}
use Rattle.e3_wire.specs.declared.fault.WireFault.{WireFault}
use Rattle.e3_node.proofs.Adding.{claim_refused}
use Rattle.e3_node.proofs.batching.one_more.Goals as goal

pub returns-clause-longer : goal.returns-clause-longer
returns-clause-longer g c =
    let ready : (P : Option Short → Type 0) → IfReady c.in_ok-short.field-0 P → P c.in-Ready.short =
    λ P is. subst (λ (r : Room). IfReady r P) c.in-Ready.is is in
    let body : c.in_ok-body.body ≡ c.args.batch.now.body ++ c.args.draft.now.body =
    c.in_ok-body.ensures ∙ ap (λ (l : List ℕ). l ++ c.as_slice-3.result.now) c.as_slice-2.ensures ∙ ap (λ (l : List ℕ). c.args.batch.now.body ++ l) c.as_slice-3.ensures in
    record {
      records = c.in_ok-records.ensures ∙ ap (λ (l : List Record). l ++ c.records.result.now) c.as_slice.ensures ∙ ap (λ (l : List Record). c.args.batch.now.records ++ l) c.records.ensures;
      body = body;
      short = λ l brief. ready (IsShortIf c.args.site.now.site l) (c.in_ok-short.ensures.short l brief);
      has_body = ready HasBody c.in_ok-short.ensures.body;
      due = λ l brief some none.
          let D : ℕ → Type 0 = λ n. HasRoomUnlessShort g.D.Disk.meaning.meters c.args.log.now l c.in-Ready.short n in
          subst D c.len.ensures (ready (λ s. HasRoomUnlessShort g.D.Disk.meaning.meters c.args.log.now l s c.len.result)
          (c.in_ok-short.ensures.due l brief c.requires.sound (λ empty. some (sym c.as_slice-4.ensures ∙ empty)) none));
    }

pub returns-in_default-clause-full : goal.returns-in_default-clause-full
returns-in_default-clause-full g c = λ no.
    let is : c.in_ok-short.field-0 ≡ Full = search rules in
    let full = c.in_ok-short.ensures.full is in
    let L : ℕ → Type 0 = λ n. HasRoom g.D.Disk.meaning.meters c.args.log.now n → ⊥ in
    let M : List ℕ → Type 0 = λ l. HasRoom g.D.Disk.meaning.meters c.args.log.now (length l) → ⊥ in
    let body : c.in_ok-body.body ≡ c.args.batch.now.body ++ c.args.draft.now.body =
    c.in_ok-body.ensures ∙ ap (λ (l : List ℕ). l ++ c.as_slice-3.result.now) c.as_slice-2.ensures ∙ ap (λ (l : List ℕ). c.args.batch.now.body ++ l) c.as_slice-3.ensures in
    ((full.0, full.1, subst M body (subst L c.len.ensures full.2)), refl)

pub returns-clause-claimed : goal.returns-clause-claimed
returns-clause-claimed g c =
    c.in_ok-claim.ensures.ok ∙ ap (λ (n : ℕ). c.args.shared.now ++ mark.Place c.args.number n ∷ []) (c.room_for.ensures ∙ ap length c.outs.ensures)

pub returns-in_err-claim-clause-refused : goal.returns-in_err-claim-clause-refused
returns-in_err-claim-clause-refused g c = λ left.
    claim_refused c.in_err-claim.field-0.0 c.from_residual-in_err-claim.result c.from_residual-in_err-claim.ensures.1
    (λ is.
    let full : most_of c.args.shared.now ≤ used_of c.args.shared.now =
    c.in_err-claim.ensures.full.0 (ap (λ (w : WireFault). let r : Result (Unit {0}) WireFault = Err w in r) is) in
    omega (arith, left, full))
