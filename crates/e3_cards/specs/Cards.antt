-- The card of a transaction: all that the rules of a step read of it, kept beside each other; and what one more step makes
-- of a card. The step is told by the card alone, so a site need not keep its log and its steps.
use Rattle.std.specs.Prelude.{◌++◌, [], ℕ, List, Option, length, fold, None, unwrap_or}
use Rattle.std.specs.List.{flat_map}
use Rattle.e3_types.specs.declared.transactions.Call.{Call}
use Rattle.e3_types.specs.declared.transactions.Txn.{Txn}
use Rattle.e3_world.specs.Gatherings.{Rounds}
use Rattle.e3_world.specs.declared.lives.Life.{Life}
use Rattle.e3_world.specs.declared.lives.Moment.{Moment}
use Rattle.e3_world.specs.declared.lives.SiteStep.{SiteStep}
use Rattle.e3_world.specs.Elections.{election_in_progress}
use Rattle.e3_world.specs.Operations.{issued, issued_in, kept_reason, reason_in}
use Rattle.e3_world.specs.Rounds.{round_by}
use Rattle.e3_world.specs.Votes.{yes_votes}
use Rattle.e3_readings.specs.Gathering.{missing_yes, votes_by}
use Rattle.e3_cards.specs.declared.card.Card.{Card}
use Rattle.e3_cards.specs.Seeing.{seen_of, seen_by, unseen}
use Rattle.e3_cards.specs.Issued.{numbers_told, number_told, counted_of, counted_in}
use Rattle.e3_cards.specs.Arriving.{came_of, came_by, heard_of, heard_in, taken_of}
use Rattle.e3_cards.specs.Electing.{election_now}

-- the group and the round of a transaction at a site
abbrev pub rounds_of : ℕ → Txn → List Moment → Rounds
rounds_of site t steps = fold (round_by site t) (record { group = []; now = None }) steps

-- what is read of a life for a transaction
abbrev pub card_of : ℕ → Txn → Life → Card
card_of site t life = record {
  seen = seen_of t life.log;
  issued = issued t life.steps;
  answered = numbers_told t life.steps;
  counted = counted_of t life.steps;
  reasons = kept_reason t life.steps;
  came = came_of site t life.steps;
  heard = heard_of t life.steps;
  votes = missing_yes site t (yes_votes t life.steps);
  election = election_in_progress site life.inc t life.steps;
  rounds = rounds_of site t life.steps;
}

-- the card of a transaction of which nothing is known
abbrev pub blank : Card
blank = record {
  seen = unseen;
  issued = [];
  answered = [];
  counted = [];
  reasons = [];
  came = [];
  heard = [];
  votes = None;
  election = None;
  rounds = record { group = []; now = None };
}

-- what is kept of a transaction that may have no card
abbrev pub kept : Option Card → Card
kept card = unwrap_or card blank

-- a step as a moment of which the log before it is not read
abbrev pub moment_of : SiteStep → Moment
moment_of s = record { before = []; input = s.input; records = s.records; outs = s.outs; told = s.told }

-- what a step makes of the card of a transaction; an Elect of it would have this call
abbrev pub card_by : ℕ → Call → Txn → Card → SiteStep → Card
card_by site call t was s = record {
  seen = fold (seen_by t) was.seen s.records;
  issued = was.issued ++ issued_in t s.input s.told;
  answered = was.answered ++ flat_map (number_told t) s.told;
  counted = was.counted ++ counted_in t s.input s.told;
  reasons = was.reasons ++ flat_map (reason_in t) s.told;
  came = came_by was.seen was.came (taken_of site t (length was.issued) s.input s.told);
  heard = was.heard ++ heard_in t s.told s.outs;
  votes = votes_by site t was.votes s.input s.told;
  election = election_now site call t was.seen was.election s;
  rounds = round_by site t was.rounds (moment_of s);
}
