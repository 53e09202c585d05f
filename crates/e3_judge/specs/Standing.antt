-- What a site's own entries come to, read off them one by one: its incarnation, and the tail that is open.
use Rattle.std.specs.Prelude.{◌++◌, ◌∷◌, [], ℕ, Bool, true, List, map, Option, Some, None}
use Rattle.e3_types.specs.declared.entries.Act.{Act}
use Rattle.e3_types.specs.declared.entries.Act.TheVariants.{Step, Fall, Rise, RiseFall}
use Rattle.e3_types.specs.declared.entries.Input.{Input}
use Rattle.e3_types.specs.declared.entries.Told.{Told}
use Rattle.e3_types.specs.declared.messages.Packet.{Packet}
use Rattle.e3_types.specs.declared.records.Record.{Record}
use Rattle.e3_types.specs.declared.scenarios.Scenario.{Scenario}
use Rattle.e3_world.specs.declared.lives.Incarnation.{Incarnation}
use Rattle.e3_world.specs.Lives.{present_log}
use Rattle.e3_world.specs.Moves.{Tail, left_by, unnumbered, unnumbered_input, rise_records}
use Rattle.e3_judge.specs.declared.sites.Standing.{Standing}

-- before the first entry
abbrev pub nothing_yet : Standing
nothing_yet = record { incarnation = record { rose = []; since = [] }; tail = None }

-- the incarnation behind one more step
abbrev pub stepped : Incarnation → Input → List Record → List Packet → List Told → Incarnation
stepped now i records outs events = record {
  rose = now.rose;
  since = now.since ++ record { input = unnumbered_input i; records = records; outs = map unnumbered outs; told = events } ∷ [];
}

-- the incarnation behind a tail: one that is kept goes into the log with which the site rises
abbrev pub kept_in : Incarnation → Bool → Option Tail → Incarnation
kept_in now true (Some tail) = record { rose = present_log now ++ tail.records; since = [] }
kept_in now _ _ = now

-- what the entries come to with one more, of this act
abbrev pub standing_by : Scenario → ℕ → Standing → Act → Standing
standing_by sc site was (Step i records outs events) =
    record { incarnation = stepped was.incarnation i records outs events; tail = was.tail }
standing_by sc site was (Fall inputs records why) =
    record { incarnation = was.incarnation; tail = left_by why (map unnumbered_input inputs) records }
standing_by sc site was (Rise kept inc) = risen (kept_in was.incarnation kept was.tail)
  where
    risen : Incarnation → Standing
    risen now = record {
      incarnation = record { rose = present_log now ++ rise_records sc site inc (present_log now); since = [] };
      tail = None;
    }
standing_by sc site was (RiseFall kept inc why) = fell (kept_in was.incarnation kept was.tail)
  where
    fell : Incarnation → Standing
    fell now = record { incarnation = now; tail = left_by why [] (rise_records sc site inc (present_log now)) }
standing_by sc site was _ = was
