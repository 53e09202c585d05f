-- The logs of a sound trail are ordered, where its decisions agree and its commits have all votes.
use Rattle.std.proofs.Common.{◌≡◌, inl, ◌++◌, ◌∷◌, ℕ, suc, true, List, take, drop, refl, sym, subst, ◌∙◌}
use Rattle.std.proofs.lemmas.Bool.{and_parts}
use Rattle.e3_types.specs.declared.records.Record.{Record}
use Rattle.e3_types.specs.declared.records.Record.TheVariants as log
use Rattle.e3_types.specs.declared.scenarios.Scenario.{Scenario}
use Rattle.e3_types.specs.declared.transactions.Dir.{Dir}
use Rattle.e3_types.specs.declared.transactions.Dir.TheVariants.{Abort, Commit}
use Rattle.e3_types.specs.declared.transactions.Txn.{Txn}
use Rattle.e3_types.specs.Sets.{has_site}
use Rattle.e3_laws.specs.agreement.Logs.{IsIn}
use Rattle.e3_world.specs.Logs.{has_voted}
use Rattle.e3_laws.proofs.serial.Lists.Entries.{In}
use Rattle.e3_laws.proofs.serial.Lists.Members.{in_back}
use Rattle.e3_laws.proofs.serial.Lists.Facts.{vote_has}
use Rattle.e3_laws.proofs.serial.Site.Keeping.{RecordStands, LogStands}
use Rattle.e3_world.specs.Moves.{Move, moves_at, log_by, all_records}
use Rattle.e3_world.specs.Sound.{IsSound}
use Rattle.e3_world.proofs.Pushes.{life_log_at}
use Rattle.e3_laws.proofs.serial.Site.Sites.{Born, all_keep}
use Rattle.e3_laws.proofs.serial.Lists.Placing.{at_split, logged_place, logged_all}
use Rattle.e3_world.specs.Safe.{Agrees, AllVoted}
use Rattle.e3_laws.specs.serial.Ordered.{Follows, IsOrdered}
use Rattle.e3_laws.proofs.serial.Lists.Facts.{at_contains, contains_at, has_in_sites}
use Rattle.e3_laws.proofs.serial.Lists.Placing.{at_logged}
use Rattle.e3_laws.proofs.serial.Lists.Members.{in_at}
use Rattle.e3_types.specs.declared.entries.Entry.{Entry}
use Rattle.e3_laws.specs.steps.Trails.{RecordsSuitTheirSite, LogsAreOfTrails, records_at, tail_records}
use Rattle.e3_world.specs.Given.{IsGiven}
use Rattle.e3_world.specs.Legal.{IsLegal}
use Rattle.e3_world.specs.Moves.{log_of, open_tail, trail_of}
use Rattle.e3_laws.proofs.agreement.Refinement.Lists.{in_left}
use Rattle.e3_laws.proofs.agreement.Refinement.Voting.{contains_from_in}
use Rattle.e3_laws.proofs.serial.Lists.Facts.{in_is}
use Rattle.e3_laws.proofs.agreement.Refinement.Agreeing.{put}

-- whoever decides is a site of the transaction
abbrev pub DecidersAreMembers : List Move → Type 0
DecidersAreMembers trail = (site : ℕ) (t : Txn) (dir : Dir) → In (log.Decision t dir) (log_by (moves_at site trail)) → has_site t.sites site ≡ true

module _ (sc : Scenario) (trail : List Move) (sound : IsSound sc trail) (agree : Agrees trail) (voted : AllVoted trail) (members : DecidersAreMembers trail) where
  stands : (site : ℕ) → LogStands site (log_by (moves_at site trail))
  stands site = subst (λ l. LogStands site l) (life_log_at (moves_at site trail)) ((all_keep sc trail sound site).keeps).stands

  -- a commit stands behind its own site's vote
  own_vote : (site : ℕ) (before after : List Record) (t : Txn) → log_by (moves_at site trail) ≡ before ++ log.Decision t Commit ∷ after → has_voted t before ≡ true
  own_vote site before after t e =
      let p = logged_place (all_records trail) site before after (log.Decision t Commit) (sym (logged_all site trail) ∙ e) in
      let m = in_at t.sites site (has_in_sites t.sites site (members site t Commit (subst (λ l. In (log.Decision t Commit) l) (sym e) (in_back before (log.Decision t Commit ∷ after) (log.Decision t Commit) (inl refl))))) in
      let v = voted site t (take p.0 (all_records trail)) (drop (suc p.0) (all_records trail)) (at_split (all_records trail) p.0 (put site (log.Decision t Commit)) p.1) site (at_contains t.sites m.0 site m.1) in
      let q = contains_at (take p.0 (all_records trail)) (put site (log.Vote t v.0)) v.1 in
      vote_has t v.0 before (subst (λ l. In (log.Vote t v.0) l) p.2 (at_logged (take p.0 (all_records trail)) q.0 site (log.Vote t v.0) q.1))

  follows : (site : ℕ) (before after : List Record) (r : Record) → log_by (moves_at site trail) ≡ before ++ r ∷ after → RecordStands site before r → Born sc site before r → Follows sc site before r
  follows site before after (log.Vote t ops) e s b = record {
    born = b;
    first = s.first;
    undecided = s.undecided;
    ascending = s.ascending;
    free = s.free;
    here = s.here;
    member = s.member;
  }
  follows site before after (log.Decision t Commit) e s b = record { born = b; undecided = s; voted = λ is. own_vote site before after t e }
  follows site before after (log.Decision t Abort) e s b = record { born = b; undecided = s; voted = λ is. absurd (cc) }
  follows site before after (log.Birth f n w rows) e s b = b
  follows site before after (log.Inc n) e s b = b
  follows site before after (log.Join t n) e s b = b
  follows site before after (log.Attempt t n d) e s b = b

  pub ordered : IsOrdered sc trail
  ordered = record {
    logs = λ site before after r e. follows site before after r e (stands site before after r e) ((all_keep sc trail sound site).born before after r e);
    agree = agree;
    voted = voted;
  }

-- in a legal history whoever decides is a site of the transaction
pub legal_members : RecordsSuitTheirSite → LogsAreOfTrails → (sc : Scenario) (h : List Entry) → IsGiven sc → IsLegal sc h → DecidersAreMembers (trail_of sc h)
legal_members suits logs sc h given legal site t dir k =
    let here : IsIn (log.Decision t dir) (log_of sc h site) = in_is (log.Decision t dir) (log_of sc h site) (subst (λ l. In (log.Decision t dir) l) (logs sc h site) k) in
    let at = contains_from_in (records_at sc h site) (log.Decision t dir) (in_left (log.Decision t dir) (log_of sc h site) (tail_records (open_tail sc h site)) here) in
    (and_parts (has_site t.sites site) _ (suits sc h site (log.Decision t dir) given legal at)).0
