-- The site's own report, and the number of its last election, serve in place of the log before a step.
use Rattle.std.specs.Prelude.{◌≡◌, if◌then◌else◌, ℕ, Bool, true, false, Option, Some, None, MatchOption}
use Rattle.std.proofs.Common.{refl, ap, sym, ◌∙◌}
use Rattle.e3_types.specs.declared.messages.Message.{Message}
use Rattle.e3_types.specs.declared.messages.Message.TheVariants as msg
use Rattle.e3_types.specs.declared.messages.Packet.{Packet}
use Rattle.e3_types.specs.declared.transactions.Txn.{Txn}
use Rattle.e3_types.specs.Same.{same_txn}
use Rattle.e3_world.specs.Gatherings.{Election}
use Rattle.e3_world.specs.declared.lives.Moment.{Moment}
use Rattle.e3_world.specs.Elections.{all_heard, hear, joined_in, after_heard, heard_more, election_with}
use Rattle.e3_readings.specs.Electing.{election_behind, election_taking, heard_all, heard_one, report_by}

pub heard_all_is : (site : ℕ) (t : Txn) (m : Moment) (e : Election) → after_heard site t m e ≡ heard_all t (report_by site t m.before) m.records e
heard_all_is site t m e = by (all_heard e) (joined_in t m.records) refl refl
  where
    by : (b : Bool) (j : Option ℕ) → all_heard e ≡ b → joined_in t m.records ≡ j → after_heard site t m e ≡ heard_all t (report_by site t m.before) m.records e
    by false j p q = rw p refl
    by true None p q = rw (p, q) refl
    by true (Some n) p q = rw (p, q) refl

heard_one_is : (site : ℕ) (t : Txn) (m : Moment) (e : Election) (more : Option Election) → heard_more site t m e more ≡ heard_one t (report_by site t m.before) m.records e more
heard_one_is site t m e None = refl
heard_one_is site t m e (Some more) = heard_all_is site t m more

pub taking_is : (site : ℕ) (t : Txn) (m : Moment) (e : Election) (f : ℕ) (k : Message)
    → election_with site t m e f k ≡ election_taking t (report_by site t m.before) m.records f k e
taking_is site t m e f (msg.LastElected u call n) =
    ap (λ (o : Option Election). if same_txn t u then o else Some e) (heard_one_is site t m e (hear e f call n))
taking_is site t m e f _ = refl

-- a step that takes a packet
pub behind_is : (site : ℕ) (t : Txn) (m : Moment) (packet : Packet) (now r : Option Election) → r ≡ election_behind t (report_by site t m.before) m.records packet now
    → MatchOption now (r ≡ None) (λ e. r ≡ election_with site t m e packet.«from» packet.msg)
behind_is site t m packet None r is = is
behind_is site t m packet (Some e) r is = is ∙ sym (taking_is site t m e packet.«from» packet.msg)
