-- What a site knows of itself while it is up: the log that it rose with and its steps since, and what these come to.
use Rattle.std.specs.Prelude.{◌++◌, ◌∷◌, [], List, fold}
use Rattle.std.specs.List.{flat_map}
use Rattle.e3_types.specs.declared.records.Record.{Record}
use Rattle.e3_world.specs.declared.lives.Incarnation.{Incarnation}
use Rattle.e3_world.specs.declared.lives.Life.{Life}
use Rattle.e3_world.specs.declared.lives.SiteStep.{SiteStep}
use Rattle.e3_world.specs.Logs.{logged_inc}
use Rattle.e3_world.specs.Moves.{Move, Did, Stepped, Silent, Rose}

-- the log at present: the one that the site rose with, and the records of its steps since
abbrev pub present_log : Incarnation → List Record
present_log i = i.rose ++ flat_map (λ s. s.records) i.since

-- the incarnation behind one more move: a step is one more since the rise; a tail that is kept and a rise go into the
-- log that the site rises with
abbrev pub incarnation_by : Incarnation → Move → Incarnation
incarnation_by was m = by m.did
  where
    by : Did → Incarnation
    by (Stepped s) = record { rose = was.rose; since = was.since ++ s ∷ [] }
    by (Silent inputs records) = record { rose = present_log was ++ records; since = [] }
    by (Rose inc records) = record { rose = present_log was ++ records; since = [] }

-- the present incarnation of a site that made these moves
abbrev pub incarnation_of : List Move → Incarnation
incarnation_of mine = fold incarnation_by (record { rose = []; since = [] }) mine

-- the life behind one more step, which is kept with the log before it
abbrev pub life_by : Life → SiteStep → Life
life_by life s = record {
  log = life.log ++ s.records;
  inc = life.inc;
  steps = life.steps ++ record { before = life.log; input = s.input; records = s.records; outs = s.outs; told = s.told } ∷ [];
}

-- the life of an incarnation: its log, its number, and its steps
abbrev pub life_of : Incarnation → Life
life_of i = fold life_by (record { log = i.rose; inc = logged_inc i.rose; steps = [] }) i.since

-- the life of a site that made these moves
abbrev pub life_at : List Move → Life
life_at mine = life_of (incarnation_of mine)
