use Rattle.std.proofs.Common.{◌≡◌, ◌++◌, ◌∷◌, [], List, ap, arith, length, length-append, refl, sym, ◌∙◌}
use Rattle.e3_fleet.specs.declared.crew.worker.Worker.{Worker}
use Rattle.e3_fleet.specs.Fleets.{disks_of, nodes_of}
use Rattle.e3_fleet.proofs.seating.unseat_all.Goals as goal
use Rattle.e3_node.specs.NodeView.{NodeView, disk_of}

-- the disk of the last worker comes before those that came back
last_first : {D : Type 0} (ws : List (Worker D)) (w : Worker D) (ds : List D) →
    disks_of (nodes_of ws) ++ (disk_of w.node.state ∷ ds) ≡ disks_of (nodes_of (ws ++ w ∷ [])) ++ ds
last_first [] w ds = refl
last_first {D} (v ∷ ws) w ds = ap (λ (l : List D). disk_of v.node.state ∷ l) (last_first ws w ds)

pub loop-worker-preserved : goal.loop-worker-preserved
loop-worker-preserved g c = record {
  joined =
      ap (λ (l : List g.row.D.Denot). disks_of (nodes_of c.pop.new.self.items) ++ l)
      (c.put_first.ensures.items ∙ ap (λ (d : g.row.D.Denot). d ∷ c.loop-worker.disks.items) (c.into_disk.ensures.is ∙ ap (λ (n : NodeView g.row.D.Denot). disk_of n.state) c.into_node.ensures))
      ∙ last_first c.pop.new.self.items c.in-Some.worker c.loop-worker.disks.items
      ∙ ap (λ (ws : List (Worker g.row.D.Denot)). disks_of (nodes_of ws) ++ c.loop-worker.disks.items) (sym c.in-Some.ensures.items)
      ∙ c.loop-worker.invariant.joined;
  room =
      let put = ap length c.put_first.ensures.items in
      let new = c.put_first.new.items.ok.0 in
      let old = c.loop-worker.disks.ok.0 in
      let popped = ap length c.in-Some.ensures.items in
      let sum = length-append c.pop.new.self.items (c.in-Some.worker ∷ []) in
      let was = c.loop-worker.invariant.room in
      let grown = c.put_first.ensures.room in
      omega (arith, put, new, old, popped, sum, was, grown);
}
