-- What is added to a step mentions only what may be mentioned.
use Rattle.std.proofs.Common.{◌≡◌, ◌==◌, ℕ, Bool, true, false, refl}
use Rattle.std.specs.List.{AllByRecursion as Each}
use Rattle.e3_types.specs.declared.entries.Told.{Told}
use Rattle.e3_types.specs.declared.messages.Message.{Message}
use Rattle.e3_types.specs.declared.messages.Packet.{Packet}
use Rattle.e3_types.specs.declared.transactions.Op.{Op}
use Rattle.e3_types.specs.declared.transactions.Op.TheVariants.{Read, Write}
use Rattle.e3_types.specs.declared.transactions.Txn.{Txn}
use Rattle.e3_world.specs.declared.lives.At.{At}
use Rattle.e3_world.specs.declared.lives.Made.{Made}
use Rattle.e3_world.specs.Items.{began_in}
use Rattle.e3_world.specs.Logs.{table_of, row_value}
use Rattle.e3_world.specs.Making.{log_now, steps_now, and_send, answer_now}
use Rattle.e3_world.specs.Operations.{done}
use Rattle.e3_laws.proofs.steps.Adding.{Preserves}
use Rattle.e3_laws.proofs.steps.Each.{each-append, each-push, each-weaker}
use Rattle.e3_laws.specs.steps.Mentions.{Mention, of_input}
use Rattle.e3_laws.proofs.steps.Begun.Reading.{AnswerIs, RecordIs, MessageIs, PacketIs, EventIs, MomentIs, InputIs, done_is, table_is, value_is, owns_are}

-- a packet of the site
abbrev pub Goes : (Mention → Type 0) → ℕ → Packet → Type 0
Goes P site p = PacketIs P p × (p.«from» ≡ site)

-- an event, where a transaction that begins meets B
abbrev pub Tells : (Mention → Type 0) → (Txn → Type 0) → Told → Type 0
Tells P B e = EventIs P e × Each B (began_in e)

-- all that a step made so far
pub record Keeps (P : Mention → Type 0) (B : Txn → Type 0) (site : ℕ) (made : Made) : Type 0 where
  pub own : Each (MessageIs P) made.own
  pub outs : Each (Goes P site) made.outs
  pub records : Each (RecordIs P) made.records
  pub told : Each (Tells P B) made.told

-- what a site did in this incarnation, what it takes, and its log
pub record Ready (P : Mention → Type 0) (a : At) : Type 0 where
  pub steps : Each (MomentIs P) a.life.steps
  pub input : Each P (of_input a.input)
  pub log : Each (RecordIs P) a.life.log

pub inputs_are : (P : Mention → Type 0) (a : At) → Ready P a → Each (InputIs P) a.life.steps
inputs_are P a ready = each-weaker (MomentIs P) (InputIs P) (λ m this. this.input) a.life.steps ready.steps

pub inputs_now : (P : Mention → Type 0) (a : At) (made : Made) → Ready P a → Each (InputIs P) (steps_now a made)
inputs_now P a made ready = each-push (InputIs P) a.life.steps _ (inputs_are P a ready) ready.input

pub log_is : (P : Mention → Type 0) (B : Txn → Type 0) (a : At) (made : Made) → Ready P a → Keeps P B a.site made → Each (RecordIs P) (log_now a made)
log_is P B a made ready k = each-append (RecordIs P) a.life.log made.records ready.log k.records

-- a message of which nothing but what it mentions matters
abbrev pub Sends : (Mention → Type 0) → ℕ → Message → Type 0
Sends P to m = MessageIs P m

module _ (P : Mention → Type 0) (B : Txn → Type 0) where
  sent : (a : At) (to : ℕ) (m : Message) (made : Made) → MessageIs P m → Keeps P B a.site made → Keeps P B a.site (and_send a to m made)
  sent a to m made this k = by (to == a.site) refl
    where
      by : (b : Bool) → (to == a.site) ≡ b → Keeps P B a.site (and_send a to m made)
      by true is = rw is (record { own = each-push (MessageIs P) made.own m k.own this; outs = k.outs; records = k.records; told = k.told })
      by false is = rw is (record {
        own = k.own;
        outs = each-push (Goes P a.site) made.outs (record { number = 0; «from» = a.site; to = to; msg = m }) k.outs (this, refl);
        records = k.records;
        told = k.told;
      })

  pub kept : (a : At) → Preserves a (RecordIs P) (Tells P B) (Sends P) (Keeps P B a.site)
  kept a = record {
    records = λ r made this k. record { own = k.own; outs = k.outs; records = each-push (RecordIs P) made.records r k.records this; told = k.told };
    tells = λ e made this k. record { own = k.own; outs = k.outs; records = k.records; told = each-push (Tells P B) made.told e k.told this };
    sends = λ to m made this k. sent a to m made this k;
  }

  pub answer_is : (a : At) (t : Txn) (op : Op) (made : Made) → Ready P a → Keeps P B a.site made → AnswerIs P (answer_now a t op made)
  answer_is a t (Write key val) made ready k = tt
  answer_is a t (Read key) made ready k =
      owns_are P key.name (row_value key.name (table_of (log_now a made))) (done a.site t (steps_now a made))
      (value_is P key.name (table_of (log_now a made)) (table_is P (log_now a made) (log_is P B a made ready k)))
      (done_is P a.site t (steps_now a made) (inputs_now P a made ready))
