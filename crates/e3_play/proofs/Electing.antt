-- What is entered for a round: its Elect, and the packets behind it.
use Rattle.std.proofs.Common.{◌≡◌, ◌≢◌, ◌∙◌, ◌++◌, ◌∷◌, [], ◌≤◌, inl, inr, true, false, List, Some, refl, sym, subst, ap, append-nil}
use Rattle.std.specs.List.{flat_map}
use Rattle.e3_play.specs.Delivered.{Delivers, Nothing, Then}
use Rattle.e3_play.specs.Entering.{AfterInput, AfterPacket, fall_of}
use Rattle.e3_play.proofs.Packets.{guard_fall}
use Rattle.e3_types.specs.declared.entries.Act.TheVariants.{Drop}
use Rattle.e3_types.specs.declared.entries.Entry.{Entry}
use Rattle.e3_types.specs.declared.entries.Input.TheVariants as input
use Rattle.e3_types.specs.declared.messages.Packet.{Packet}
use Rattle.e3_types.specs.declared.scenarios.Item.{Item}
use Rattle.e3_types.specs.declared.scenarios.Scenario.{Scenario}
use Rattle.e3_types.specs.declared.transactions.Txn.{Txn}
use Rattle.e3_world.specs.Items.{RecoveryRound, due_round, elected_txn, inputs_of, is_up_at}
use Rattle.e3_world.specs.Legal.{IsDue, entry_of}
use Rattle.e3_world.specs.Packets.{is_line, lines, pending, present_items, step_items}
use Rattle.e3_world.specs.Progress.{Delivering}
use Rattle.e3_world.proofs.Guards.{guard_step, up_some}
use Rattle.e3_world.proofs.Lines.{made_push, made_txns}
use Rattle.e3_world.proofs.Pushes.{legal_push}
use Rattle.e3_world.proofs.Turns.{through_push}

-- a round that is due may have its Elect
pub round_due : (sc : Scenario) (h : List Entry) (r : RecoveryRound) → due_round sc h ≡ Some r → pending sc h ≡ [] →
    IsDue sc h r.elector (input.Elect r.txn r.members)
round_due sc h r due none = inr (record { due = due; settled = none })

-- one more entry, which has an Elect of this transaction
pub record IsElected (sc : Scenario) (h next : List Entry) (t : Txn) : Type 0 where
  pub entry : Entry
  pub entered : next ≡ h ++ entry ∷ []
  pub stays : is_line entry ≡ false
  pub elects : flat_map elected_txn (inputs_of entry.act) ≡ t ∷ []
  pub delivering : Delivering sc next

pub elected : (sc : Scenario) (h next : List Entry) (r : RecoveryRound) → Delivering sc h → is_up_at h r.elector ≡ true → due_round sc h ≡ Some r →
    pending sc h ≡ [] → AfterInput sc h r.elector (input.Elect r.txn r.members) next → IsElected sc h next r.txn
elected sc h next r was up due none after = by after
  where
    P : List Entry → Type 0
    P l = Delivering sc l

    one : 1 ≤ r.elector
    one = up_some sc h r.elector was.legal up

    is_due : IsDue sc h r.elector (input.Elect r.txn r.members)
    is_due = round_due sc h r due none

    by : AfterInput sc h r.elector (input.Elect r.txn r.members) next → IsElected sc h next r.txn
    by (inl stepped) = record {
      entry = entry_of sc h r.elector (input.Elect r.txn r.members);
      entered = stepped;
      stays = refl;
      elects = refl;
      delivering = subst P (sym stepped) (record {
        legal = legal_push sc h _ was.legal (guard_step sc h r.elector (input.Elect r.txn r.members) one up is_due);
        done = through_push sc h (entry_of sc h r.elector (input.Elect r.txn r.members)) refl (λ b is. is) was.done;
      });
    }
    by (inr fell) = record {
      entry = fall_of sc h r.elector (input.Elect r.txn r.members) fell.why;
      entered = fell.entered;
      stays = refl;
      elects = refl;
      delivering = subst P (sym fell.entered) (record {
        legal = legal_push sc h _ was.legal (guard_fall sc h r.elector (input.Elect r.txn r.members) fell.why one up is_due fell.some);
        done = through_push sc h (fall_of sc h r.elector (input.Elect r.txn r.members) fell.why) refl (λ b is. absurd cc) was.done;
      });
    }

-- a packet has no Elect
packet_quiet : (sc : Scenario) (h next : List Entry) (p : Packet) → AfterPacket sc h p next → made_txns next ≡ made_txns h
packet_quiet sc h next p (inr dropped) =
    ap made_txns dropped.after ∙ made_push h (record { owner = 0; act = Drop p.number }) refl ∙ append-nil (made_txns h)
packet_quiet sc h next p (inl delivered) = by delivered.after
  where
    by : AfterInput sc h p.to (input.Deliver p) next → made_txns next ≡ made_txns h
    by (inl stepped) = ap made_txns stepped ∙ made_push h (entry_of sc h p.to (input.Deliver p)) refl ∙ append-nil (made_txns h)
    by (inr fell) = ap made_txns fell.entered ∙ made_push h (fall_of sc h p.to (input.Deliver p) fell.why) refl ∙ append-nil (made_txns h)

pub quiet : (sc : Scenario) (start now : List Entry) → Delivers sc start now → made_txns now ≡ made_txns start
quiet sc start now Nothing = refl
quiet sc start now (Then h more p before first after) = packet_quiet sc h now p after ∙ quiet sc start h before

-- a recovery step has its line
pub has_line : (sc : Scenario) (h : List Entry) (it : Item) → present_items sc h ≡ it ∷ [] → lines h ≢ 0
has_line sc h it step none = absurd (let nothing : present_items sc h ≡ [] = ap (step_items sc) none in let both : it ∷ [] ≡ [] = sym step ∙ nothing in cc)
