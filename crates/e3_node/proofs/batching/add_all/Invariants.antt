-- the inputs so far are added
use Rattle.std.proofs.Common.{◌≡◌, ◌≤◌, ◌+◌, take}
use Rattle.e3_node.specs.Batched.{IsBatchAt}
use Rattle.e3_node.specs.Batches.{inputs_in}
use Rattle.e3_wire.specs.Marks.{last_owner, most_of, used_of}
use Rattle.e3_node.proofs.batching.add_all.Given as goal

abbrev pub ghost-add_one : goal.ghost-add_one
ghost-add_one g a = record g.at { done = inputs_in a.batch.now.steps.items }

abbrev pub invariant-loop-input : goal.invariant-loop-input
invariant-loop-input g l = record {
  owners : last_owner l.shared ≡ last_owner l.initial.shared;
  most : most_of l.shared ≡ most_of l.initial.shared;
  used : used_of l.shared ≤ used_of l.initial.shared + l.input-index;
  added : IsBatchAt g.D.Disk.meaning.meters l.log (record g.at { done = take l.input-index l.inputs }) l.batch l.site l.shared;
}
