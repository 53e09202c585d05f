-- What a step records may follow the log of its site.
use Rattle.std.proofs.Common.{◌≡◌, ◌==◌, ℕ, Bool, true, false, refl}
use Rattle.e3_places.specs.Standing.{follow, may_follow}
use Rattle.e3_types.specs.declared.messages.Message.{Message}
use Rattle.e3_types.specs.declared.records.Record.{Record}
use Rattle.e3_types.specs.declared.transactions.Txn.{Txn}
use Rattle.e3_world.specs.declared.lives.At.{At}
use Rattle.e3_world.specs.declared.lives.Made.{Made}
use Rattle.e3_world.specs.Logs.{is_undecided}
use Rattle.e3_world.specs.Making.{and_send, open_now}
use Rattle.e3_site.specs.past.Claims.{StepsMayFollow}
use Rattle.e3_laws.proofs.steps.Adding.{Preserves}
use Rattle.e3_laws.proofs.steps.Lists.{one_more}
use Rattle.e3_laws.proofs.steps.Whatever.{AnySent, AnyTold, keep_whole}
use Rattle.e3_laws.proofs.steps.Undecided.{open_before}

-- what is undecided with the step's own records is so in the log
open_log : (a : At) (t : Txn) (made : Made) → open_now a t made ≡ true → is_undecided t a.life.log ≡ true
open_log a t made is = open_before t a.life.log made.records is

-- the records of a step so far may follow the log
record Follows (a : At) (made : Made) : Type 0 where
  pub records : follow a.life.log made.records ≡ true

-- the record may follow it
abbrev MayFollow : At → Record → Type 0
MayFollow a r = may_follow a.life.log r ≡ true

sent : (a : At) (to : ℕ) (m : Message) (made : Made) → Follows a made → Follows a (and_send a to m made)
sent a to m made so_far = by (to == a.site) refl
  where
    by : (b : Bool) → (to == a.site) ≡ b → Follows a (and_send a to m made)
    by true is = rw is (record { records = so_far.records })
    by false is = rw is (record { records = so_far.records })

kept : (a : At) → Preserves a (MayFollow a) AnyTold AnySent (Follows a)
kept a = record {
  records = λ r made may so_far. record { records = one_more (may_follow a.life.log) made.records r so_far.records may };
  tells = λ e made any so_far. record { records = so_far.records };
  sends = λ to m made any so_far. sent a to m made so_far;
}

-- a step
pub steps_may_follow : StepsMayFollow
steps_may_follow a = (keep_whole a (MayFollow a) (Follows a)
    (record { vote = open_log a; join = λ t n. refl; attempt = λ t n dir made free. refl; decision = λ t dir made free. open_log a t made free })
    (kept a) (λ made so_far. record { records = so_far.records }) (record { records = refl })).records
