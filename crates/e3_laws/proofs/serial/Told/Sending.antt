-- What a step sends: answers of this incarnation to other sites, requests for votes behind the own vote, and operations that
-- were issued.
use Rattle.std.proofs.Common.{◌≡◌, inl, inr, ◌==◌, ◌++◌, ◌∷◌, [], ℕ, suc, Bool, true, false, List, None, length, fold, drop, refl, sym, subst, ◌∙◌}
use Rattle.std.specs.List.{list_any, AllByRecursion as Each}
use Rattle.std.proofs.lemmas.Bool.{or_left}
use Rattle.std.proofs.lemmas.List.Folds.{list_any-append}
use Rattle.e3_types.specs.declared.entries.Input.TheVariants as input
use Rattle.e3_types.specs.declared.messages.Message.{Message}
use Rattle.e3_types.specs.declared.messages.Message.TheVariants as msg
use Rattle.e3_types.specs.declared.messages.Packet.{Packet}
use Rattle.e3_types.specs.declared.records.Record.{Record}
use Rattle.e3_types.specs.declared.records.Record.TheVariants as log
use Rattle.e3_types.specs.declared.transactions.Txn.{Txn}
use Rattle.e3_world.specs.declared.lives.Asked.{Asked}
use Rattle.e3_world.specs.declared.lives.At.{At}
use Rattle.e3_world.specs.declared.lives.Made.{Made}
use Rattle.e3_world.specs.Logs.{has_voted}
use Rattle.e3_world.specs.Making.{nothing, and_send, grants_after, decides, and_grant, and_grants}
use Rattle.e3_world.specs.Operations.{issued, expected}
use Rattle.e3_world.specs.Steps.{refuse, step_at}
use Rattle.e3_laws.proofs.serial.Step.Rules.{IsWord, Commits, Ruled, Start, Notes, Decides, Votes, Tells, Says, Asks, Issues, Rule, Otherwise, Hears, Locks, Repeats}
use Rattle.e3_laws.proofs.serial.Lists.Entries.{In}
use Rattle.e3_laws.proofs.serial.Step.Shapes.{FromAway, step_shape}
use Rattle.e3_laws.proofs.serial.Step.Answering.{in_each}
use Rattle.e3_laws.proofs.steps.Each.{each-push}

-- what a message of a step to another site is
abbrev pub MessageIs : At → List Record → ℕ → Message → Type 0
MessageIs a records to (msg.Done t n inc v) = (inc ≡ a.life.inc) × ((t.site == a.site) ≡ false)
MessageIs a records to (msg.VoteReq t inc count) = Commits a t × (has_voted t records ≡ true) × (inc ≡ (expected a.site a.life.inc t a.life.steps to).inc)
    × (count ≡ (expected a.site a.life.inc t a.life.steps to).count) × ((to == a.site) ≡ false)
MessageIs a records to (msg.Do t n op) = (a.input ≡ input.Do t op) × (refuse a t false nothing ≡ None) × (n ≡ suc (length (issued t a.life.steps)))
MessageIs a records to m = Unit {0}

abbrev pub PacketIs : At → List Record → Packet → Type 0
PacketIs a records p = (p.«from» ≡ a.site) × MessageIs a records p.to p.msg

abbrev pub AllSent : At → Made → Type 0
AllSent a made = Each (PacketIs a made.records) made.outs

word_is : (a : At) (records : List Record) (to : ℕ) (m : Message) → IsWord m → MessageIs a records to m
word_is a records to (msg.Done t n inc v) word = absurd word
word_is a records to (msg.VoteReq t inc count) word = absurd word
word_is a records to (msg.Do t n op) word = absurd word
word_is a records to (msg.Died t n older) word = tt
word_is a records to (msg.Ask t call) word = tt
word_is a records to (msg.LastElected t call elected) word = tt
word_is a records to (msg.Elected t n) word = tt
word_is a records to (msg.Report t n st attempt) word = tt
word_is a records to (msg.Vote t said) word = tt
word_is a records to (msg.Pre t n dir) word = tt
word_is a records to (msg.Ack t n dir) word = tt
word_is a records to (msg.Decide t dir) word = tt

voted_more : (t : Txn) (rs : List Record) (r : Record) → has_voted t rs ≡ true → has_voted t (rs ++ r ∷ []) ≡ true
voted_more t rs r h = list_any-append (Rattle.e3_world.specs.Logs.is_vote t) rs (r ∷ []) ∙ or_left (has_voted t rs) _ h

message_more : (a : At) (rs : List Record) (r : Record) (to : ℕ) (m : Message) → MessageIs a rs to m → MessageIs a (rs ++ r ∷ []) to m
message_more a rs r to (msg.VoteReq t inc count) h = (h.0, voted_more t rs r h.1, h.2, h.3, h.4)
message_more a rs r to (msg.Done t n inc v) h = h
message_more a rs r to (msg.Do t n op) h = h
message_more a rs r to (msg.Died t n older) h = tt
message_more a rs r to (msg.Ask t call) h = tt
message_more a rs r to (msg.LastElected t call elected) h = tt
message_more a rs r to (msg.Elected t n) h = tt
message_more a rs r to (msg.Report t n st attempt) h = tt
message_more a rs r to (msg.Vote t said) h = tt
message_more a rs r to (msg.Pre t n dir) h = tt
message_more a rs r to (msg.Ack t n dir) h = tt
message_more a rs r to (msg.Decide t dir) h = tt

packets_more : (a : At) (rs : List Record) (r : Record) (ps : List Packet) → Each (PacketIs a rs) ps → Each (PacketIs a (rs ++ r ∷ [])) ps
packets_more a rs r [] all = tt
packets_more a rs r (p ∷ ps) all = ((all.0.0, message_more a rs r p.to p.msg all.0.1), packets_more a rs r ps all.1)

send_sent : (a : At) (to : ℕ) (m : Message) (made : Made) → AllSent a made → ((to == a.site) ≡ false → MessageIs a made.records to m) → AllSent a (and_send a to m made)
send_sent a to m made all this = by (to == a.site) refl
  where
    by : (b : Bool) → (to == a.site) ≡ b → AllSent a (and_send a to m made)
    by true is = rw is all
    by false is = rw is (each-push (PacketIs a made.records) made.outs (record { number = 0; «from» = a.site; to = to; msg = m }) all (refl, this is))

ruled_sent : (a : At) (made : Made) → Ruled a made → AllSent a made
ruled_sent a _ Start = tt
ruled_sent a _ (Notes r made note k) = packets_more a made.records r made.outs (ruled_sent a made k)
ruled_sent a _ (Decides t dir made still k) = packets_more a made.records (log.Decision t dir) made.outs (ruled_sent a made k)
ruled_sent a _ (Votes t idle cause) = tt
ruled_sent a _ (Tells e made news k) = ruled_sent a made k
ruled_sent a _ (Says to m made away word k) = send_sent a to m made (ruled_sent a made k) (λ is. word_is a made.records to m word)
ruled_sent a _ (Asks to t made away commits voted k) = send_sent a to _ made (ruled_sent a made k) (λ is. (commits, voted, refl, refl, away))
ruled_sent a _ (Issues to t op away takes allowed) = send_sent a to _ nothing tt (λ is. (takes, allowed, refl))

rule_sent : (a : At) (rule : Made) → Rule a rule → AllSent a rule
rule_sent a _ (Otherwise made k) = ruled_sent a made k
rule_sent a _ (Hears t n v k) = tt
rule_sent a _ (Locks t n op k) = send_sent a t.site _ nothing tt (λ is. (refl, is))
rule_sent a _ (Repeats t n v k) = send_sent a t.site _ nothing tt (λ is. (refl, is))

granted_sent : (a : At) (qs : List Asked) (made : Made) → AllSent a made → AllSent a (fold (and_grant a) made qs)
granted_sent a [] made all = all
granted_sent a (q ∷ qs) made all = granted_sent a qs (and_grant a made q) (send_sent a q.txn.site _ made all (λ is. (refl, is)))

grants_sent : (a : At) (made : Made) → AllSent a made → AllSent a (and_grants a 0 made)
grants_sent a made all = by (list_any decides (drop 0 made.records)) refl
  where
    by : (b : Bool) → list_any decides (drop 0 made.records) ≡ b → AllSent a (and_grants a 0 made)
    by true is = rw is (granted_sent a (grants_after a made) made all)
    by false is = rw is all

-- what a step sends
pub step_sent : (a : At) → FromAway a.site a.input → (p : Packet) → In p (step_at a).outs → PacketIs a (step_at a).records p
step_sent a away p h = elim (step_shape a away) [
  | inl r ↦ absurd (subst (λ l. In p l) r.outs h)
  | inr s ↦ (
      let all = grants_sent a s.rule (rule_sent a s.rule s.ruled) in
      subst (λ rs. PacketIs a rs p) (sym s.records) (in_each (PacketIs a (and_grants a 0 s.rule).records) (and_grants a 0 s.rule).outs p all (subst (λ l. In p l) s.outs h)))
]
