-- A round of packets.
use Rattle.std.proofs.Common.{◌<◌, ℕ, List, length, sym, subst}
use Rattle.std.specs.Prelude.{slice_index_or}
use Rattle.atomic_table.specs.Seated.{TableId}
use Rattle.e3_fleet.specs.crew.Crews.{IsCrew}
use Rattle.e3_fleet.specs.crew.Workers.{CanTakePackets, IsDealt}
use Rattle.e3_fleet.specs.declared.crew.worker.Worker.{Worker}
use Rattle.e3_fleet.proofs.crew.Growing.{through_meanwhile}
use Rattle.e3_fleet.proofs.crew.Items.{knows_dealt}
use Rattle.e3_fleet.proofs.crew.Rounding.{Round, same_scenario}
use Rattle.e3_fleet.proofs.crew.Turning.{meanwhile_foreign}
use Rattle.e3_disk.specs.Meaning.{Meaning}
use Rattle.e3_node.specs.Claims.{NodesKeptByOthers}
use Rattle.e3_node.specs.Turns.{history_seen, scenario_seen}
use Rattle.e3_turn.specs.Passes.{seen_by}
use Rattle.e3_types.specs.declared.entries.Entry.{Entry}
use Rattle.e3_types.specs.declared.scenarios.Scenario.{Scenario}
use Rattle.e3_wire.specs.Claims.{APass}
use Rattle.e3_wire.specs.declared.marks.Mark.{Mark}
use Rattle.e3_wire.specs.Marks.{entries_of, scenario_of}
use Rattle.e3_world.specs.Legal.{IsLegal}
use Rattle.e3_world.specs.Progress.{Delivering, Through}

module _ {D : Type 0} (meaning : Meaning D) where
  pub can_take : (wire : TableId) (p : APass) (olds : List (Worker D)) (after : Worker D) (i : ℕ) (d : Worker D) → IsCrew meaning wire p olds → i < length olds →
      IsDealt wire (seen_by p) (slice_index_or olds i d) after → Through (scenario_seen p) (history_seen p) → CanTakePackets meaning wire after
  can_take wire p olds after i d crew low dealt through = record {
    pass = dealt.pass;
    knows = knows_dealt meaning wire p olds after i d crew low dealt;
    through = (let P : List Mark → Type 0 = λ l. Through (scenario_of l) (entries_of l) in subst P (sym dealt.seen) through);
  }

  module _ (law : NodesKeptByOthers meaning) (wire : TableId) (p q : APass) (olds dealts turned news : List (Worker D))
      (r : Round meaning law wire p q olds dealts turned news) where
    abbrev sc : Scenario
    sc = scenario_seen p

    abbrev last : List Entry
    last = history_seen q

    legal : IsLegal sc last
    legal = let P : Scenario → Type 0 = λ k. IsLegal k last in subst P (same_scenario meaning law wire p q olds dealts turned news r) r.played.legal

    pub still_delivering : Through sc (history_seen p) → Delivering sc last
    still_delivering through = record {
      legal = legal;
      done = through_meanwhile sc 0 (history_seen p) last r.was.played.given legal
          (meanwhile_foreign 0 (seen_by p) r.driver.0 (seen_by q) r.played r.driver.2 r.driver.1) through;
    }
