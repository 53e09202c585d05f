-- The operation that a step takes up is the one that its input brings.
use Rattle.std.specs.Prelude.{◌≡◌, ◌==◌, ℕ, Bool, true, false, List}
use Rattle.std.specs.List.{list_any}
use Rattle.std.proofs.Common.{refl}
use Rattle.e3_types.specs.declared.entries.Input.{Input}
use Rattle.e3_types.specs.declared.entries.Input.TheVariants as input
use Rattle.e3_types.specs.declared.messages.Message.{Message}
use Rattle.e3_types.specs.declared.messages.Message.TheVariants as msg
use Rattle.e3_types.specs.declared.messages.Packet.{Packet}
use Rattle.e3_types.specs.declared.transactions.Op.{Op}
use Rattle.e3_types.specs.declared.transactions.Txn.{Txn}
use Rattle.e3_world.specs.declared.lives.Moment.{Moment}
use Rattle.e3_world.specs.Logs.{key_of}
use Rattle.e3_world.specs.Operations.{is_refusal, taken_up}
use Rattle.e3_readings.specs.Bringing.{brought, issued_before}
use Rattle.e3_readings.proofs.Equal.{same_txn_refl}

pub taken_is : (site : ℕ) (steps : List Moment) (m : Moment) → taken_up site steps m ≡ brought site (issued_before m.input steps) m.input m.told
taken_is site steps m = by m.input
  where
    told_by : (u : Txn) (op : Op) (r k : Bool) → list_any is_refusal m.told ≡ r → ((key_of op).site == site) ≡ k
        → taken_up site steps (record m { input = input.Do u op }) ≡ brought site (issued_before (input.Do u op) steps) (input.Do u op) m.told
    told_by u op true k e g = rw (same_txn_refl u, e) refl
    told_by u op false true e g = rw (same_txn_refl u, e, g) refl
    told_by u op false false e g = rw (same_txn_refl u, e, g) refl

    sent_by : (packet : Packet) (k : Message)
        → taken_up site steps (record m { input = input.Deliver (record packet { msg = k }) })
        ≡ brought site (issued_before (input.Deliver (record packet { msg = k })) steps) (input.Deliver (record packet { msg = k })) m.told
    sent_by packet (msg.Do u n op) = refl
    sent_by packet _ = refl

    by : (i : Input) → taken_up site steps (record m { input = i }) ≡ brought site (issued_before i steps) i m.told
    by (input.Do u op) = told_by u op (list_any is_refusal m.told) ((key_of op).site == site) refl refl
    by (input.Deliver packet) = sent_by packet packet.msg
    by _ = refl
