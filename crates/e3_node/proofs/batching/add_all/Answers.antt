use Rattle.std.proofs.Common.{rules, true, false, ◌≡◌, ◌≢◌, ◌<◌, ◌≤◌, ◌+◌, ◌++◌, ◌∷◌, [], ℕ, List, length, take, ap, sym, subst, ◌∙◌, arith}
use Rattle.std.proofs.lemmas.List.{length-take-le, take_more}
use Rattle.e3_site.specs.StandsAlike.{IsLogInOrder}
use Rattle.e3_node.specs.Batched.{HasNoMoreRoom, IsBatchAt}
use Rattle.e3_node.specs.Batches.{inputs_in, stepped}
use Rattle.e3_node.specs.Briefing.{BriefsAreTold}
use Rattle.e3_types.specs.declared.entries.Input.{Input}
use Rattle.e3_wire.specs.Marks.{most_of, used_of}
use Rattle.e3_world.specs.Moves.{log_of}
use Rattle.e3_node.proofs.Adding.{count_so_far, inputs_so_far}
use Rattle.e3_node.proofs.Planning.{added_all, added_before, added_some}
use Rattle.e3_node.proofs.batching.add_all.Goals as goal

pub add_one-requires : goal.add_one-requires
add_one-requires g c = λ lives live.
    let inv = c.loop-input.invariant in
    let at : ℕ = c.loop-input.input-index in
    let low : at < length c.args.inputs.now = c.loop-input-test.true in
    let most : most_of c.loop-input.shared ≡ most_of c.args.shared.now = inv.most in
    let used : used_of c.loop-input.shared ≤ used_of c.args.shared.now + at = inv.used in
    let left : used_of c.args.shared.now + length c.args.inputs.now ≤ most_of c.args.shared.now = c.requires.1.1.1.1.1.1.1.0 in
    let few = c.requires.1.1.1.1.1.1.1.1 in
    let long : length (take at c.args.inputs.now) ≡ at = length-take-le at c.args.inputs.now (omega (arith, low)) in
    let F : List Input → Type 0 = λ l. length g.at.history + length l < 4000000000 in
    let far : inputs_in c.loop-input.batch.steps.items ≡ take at c.args.inputs.now =
    inputs_so_far g.D.Disk.meaning.meters c.args.log.now g.at.scenario g.at.history g.at.site g.at.rose g.at.marks g.at.first (take at c.args.inputs.now) c.loop-input.batch c.loop-input.site
    c.loop-input.shared inv.added in
    let O : List Input → Type 0 = λ l. IsLogInOrder g.at.site (log_of g.at.scenario (stepped g.at.scenario g.at.history g.at.site l) g.at.site) in
    let B : List Input → Type 0 = λ l. BriefsAreTold g.at.scenario (stepped g.at.scenario g.at.history g.at.site l) g.at.site g.at.rose in
    let P : List Input → Type 0 = λ l. IsBatchAt g.D.Disk.meaning.meters c.args.log.now (record g.at { done = l }) c.loop-input.batch c.loop-input.site c.loop-input.shared in (
      live,
      (
        subst (λ (n : ℕ). c.args.number ≤ n) (sym inv.owners) c.requires.1.0,
        (
          c.requires.1.1.0,
          (
            subst P (sym far) inv.added,
            (
              c.requires.1.1.1.1.0,
              (
                subst O (sym far) (c.requires.1.1.1.1.1.0 at (omega (arith, low))),
                (subst B (sym far) (c.requires.1.1.1.1.1.1.0 at (omega (arith, low))), (omega (arith, low, most, used, left), subst F (sym far) (omega (arith, low, long, few)))),
              ),
            ),
          ),
        ),
      ),
    )

pub returns-in_err-add_one-clause-added : goal.returns-in_err-add_one-clause-added
returns-in_err-add_one-clause-added g c =
    let inv = c.loop-input.invariant in
    let at : ℕ = c.loop-input.input-index in
    let low : at < length c.args.inputs.now = c.loop-input-test.true in
    let P : List Input → Type 0 = λ l. IsBatchAt g.D.Disk.meaning.meters c.args.log.now (record g.at { done = l }) c.add_one.new.batch c.add_one.new.site c.add_one.new.shared in (
      at,
      added_before g.D.Disk.meaning.meters c.args.log.now g.at.scenario g.at.history g.at.site c.args.inputs.now c.from_residual.result _ at c.from_residual.ensures.1 low,
      subst P (inputs_so_far g.D.Disk.meaning.meters c.args.log.now g.at.scenario g.at.history g.at.site g.at.rose g.at.marks g.at.first (take at c.args.inputs.now) c.loop-input.batch c.loop-input.site c.loop-input.shared inv.added) c.in_err-add_one.ensures.kept,
    )

pub loop-input-preserved : goal.loop-input-preserved
loop-input-preserved g c =
    let inv = c.loop-input.invariant in
    let at : ℕ = c.loop-input.input-index in
    let P : List Input → Type 0 = λ l. IsBatchAt g.D.Disk.meaning.meters c.args.log.now (record g.at { done = l }) c.add_one.new.batch c.add_one.new.site c.add_one.new.shared in
    let added : c.in_ok-add_one.field-0 ≡ true = search rules in
    record {
      owners = c.add_one.ensures.owners ∙ inv.owners;
      most = c.add_one.ensures.most ∙ inv.most;
      used =
          (let more : used_of c.add_one.new.shared ≤ used_of c.loop-input.shared + 1 = c.add_one.ensures.used in
          let before : used_of c.loop-input.shared ≤ used_of c.args.shared.now + at = inv.used in
          omega (arith, more, before));
      added =
          subst P (ap (λ (l : List Input). l ++ c.input-item.result ∷ []) (inputs_so_far g.D.Disk.meaning.meters c.args.log.now g.at.scenario g.at.history g.at.site g.at.rose g.at.marks g.at.first (take at c.args.inputs.now) c.loop-input.batch c.loop-input.site c.loop-input.shared inv.added)
          ∙ sym (take_more c.args.inputs.now at c.input-item.result c.loop-input-test.true ∙ ap (λ (x : Input). take at c.args.inputs.now ++ x ∷ []) (sym c.input-item.is)))
          (c.in_ok-add_one.ensures.added added);
    }

-- the frame has no room for this one
pub returns-then-not-branch-clause-added : goal.returns-then-not-branch-clause-added
returns-then-not-branch-clause-added g c =
    let inv = c.loop-input.invariant in
    let at : ℕ = c.loop-input.input-index in
    let inputs : List Input = c.args.inputs.now in
    let low : at < length inputs = c.loop-input-test.true in
    let no : c.in_ok-add_one.field-0 ≡ false = search rules in
    let full = c.in_ok-add_one.ensures.full no in
    let far : inputs_in c.loop-input.batch.steps.items ≡ take at inputs =
    inputs_so_far g.D.Disk.meaning.meters c.args.log.now g.at.scenario g.at.history g.at.site g.at.rose g.at.marks g.at.first (take at inputs) c.loop-input.batch c.loop-input.site c.loop-input.shared inv.added in
    let P : List Input → Type 0 = λ l. IsBatchAt g.D.Disk.meaning.meters c.args.log.now (record g.at { done = l }) c.add_one.new.batch c.add_one.new.site c.add_one.new.shared in
    let R : List Input → Type 0 = λ l. HasNoMoreRoom g.D.Disk.meaning.meters c.args.log.now (record g.at { done = l }) c.input-item.result in
    let made : P (take at inputs) = subst P far full.0 in
    let count : c.steps_in.result ≡ at =
    c.steps_in.ensures ∙ count_so_far g.D.Disk.meaning.meters c.args.log.now g.at.scenario g.at.history g.at.site g.at.rose g.at.marks g.at.first (take at inputs) c.add_one.new.batch c.add_one.new.site c.add_one.new.shared made
    ∙ length-take-le at inputs (omega (arith, low)) in
    let logged : log_of g.at.scenario g.at.history g.at.site ≢ [] =
    (c.requires.1.1.1.1.1.1.0 0 (omega arith) c.args.site.now c.requires.1.1.1.0.stands).some in (
      at,
      added_some g.D.Disk.meaning.meters c.args.log.now g.at.scenario g.at.history g.at.site inputs g.at.rose g.at.marks g.at.first c.steps_in.result at c.input-item.result logged count low
          (take_more inputs at c.input-item.result low ∙ ap (λ (x : Input). take at inputs ++ x ∷ []) (sym c.input-item.is)) (subst R far full.1),
      made,
    )

pub returns-clause-added : goal.returns-clause-added
returns-clause-added g c =
    let inv = c.loop-input.invariant in
    let at : ℕ = c.loop-input.input-index in
    let inputs : List Input = c.args.inputs.now in
    let low : at ≤ length inputs = c.loop-input.auto.input-index-end in
    let end : length inputs ≤ at = c.loop-input-test.false in
    let same : at ≡ length inputs = omega (arith, low, end) in
    let P : ℕ → Type 0 = λ n. IsBatchAt g.D.Disk.meaning.meters c.args.log.now (record g.at { done = take n inputs }) c.loop-input.batch c.loop-input.site c.loop-input.shared in
    let count : c.steps_in-2.result ≡ at =
    c.steps_in-2.ensures ∙ count_so_far g.D.Disk.meaning.meters c.args.log.now g.at.scenario g.at.history g.at.site g.at.rose g.at.marks g.at.first (take at inputs) c.loop-input.batch c.loop-input.site c.loop-input.shared inv.added
    ∙ length-take-le at inputs low in (
      length inputs,
      added_all g.D.Disk.meaning.meters c.args.log.now g.at.scenario g.at.history g.at.site inputs c.steps_in-2.result (count ∙ same),
      subst P same inv.added,
    )
