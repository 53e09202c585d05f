-- An entry of a site stays allowed behind entries of others.
use Rattle.std.proofs.Common.{◌≡◌, ◌≤◌, ◌++◌, ◌∷◌, [], ℕ, zero, suc, false, List, arith, append-nil, append_assoc, sym, subst}
use Rattle.e3_types.specs.declared.entries.Act.{Act}
use Rattle.e3_types.specs.declared.entries.Act.TheVariants.{Step, Fall, Rise, RiseFall, Miss, Cut, Drop, Parts, Line}
use Rattle.e3_types.specs.declared.entries.Entry.{Entry}
use Rattle.e3_types.specs.declared.scenarios.Scenario.{Scenario}
use Rattle.e3_world.specs.Items.{inputs_of}
use Rattle.e3_world.specs.Legal.{LegalAfter}
use Rattle.e3_world.specs.Packets.{is_calm, present_items}
use Rattle.e3_world.proofs.Pushes.{legal_push}
use Rattle.e3_laws.specs.local.Claims.{Local, LocalKeepsLegal}
use Rattle.e3_laws.specs.local.Others.{numbered_on, Allows, AreWaiting}
use Rattle.e3_laws.proofs.local.Alike.{Alike, all_on}
use Rattle.e3_laws.proofs.local.Due.{step_stays, fall_stays}
use Rattle.e3_laws.proofs.local.Rises.{SameRises, rises_on, rising_on, rise_on, cut_on}

-- the entries behind a beginning of a legal history are legal behind it
pub legal_behind : (sc : Scenario) (before h more : List Entry) → LegalAfter sc before (h ++ more) → LegalAfter sc (before ++ h) more
legal_behind sc before [] more legal = let P : List Entry → Type 0 = λ l. LegalAfter sc l more in subst P (sym (append-nil before)) legal
legal_behind sc before (e ∷ h) more legal =
    let P : List Entry → Type 0 = λ l. LegalAfter sc l more in
    subst P (append_assoc before (e ∷ []) h) (legal_behind sc (before ++ e ∷ []) h more legal.1)

stays : (sc : Scenario) (p h : List Entry) (o : ℕ) (act : Act) → 1 ≤ o → Alike sc o p h → SameRises o p h → is_calm (present_items sc p) ≡ false →
    AreWaiting sc h o (inputs_of act) → Allows sc p (record { owner = o; act = act }) → Allows sc h (record { owner = o; act = act })
stays sc p h zero act some a rises calm waits was = absurd (omega (arith, some))
stays sc p h (suc s) (Step i records outs events) some a rises calm waits was = step_stays sc (suc s) p h i records outs events a calm waits.0 was
stays sc p h (suc s) (Fall inputs records why) some a rises calm waits was = fall_stays sc (suc s) p h inputs records a calm waits was
stays sc p h (suc s) Cut some a rises calm waits was = cut_on sc (suc s) p h a was
stays sc p h (suc s) (Rise kept inc) some a rises calm waits was = rise_on sc (suc s) p h kept inc a rises was
stays sc p h (suc s) (RiseFall kept inc why) some a rises calm waits was = rise_on sc (suc s) p h kept inc a rises was
stays sc p h (suc s) Miss some a rises calm waits was = rising_on sc (suc s) p h a rises was
stays sc p h (suc s) (Drop packet) some a rises calm waits was = was
stays sc p h (suc s) (Parts parts) some a rises calm waits was = was
stays sc p h (suc s) (Line number) some a rises calm waits was = was

pub local : Local
local sc h more e given legal some calm others was waits =
    stays sc h (h ++ more) e.owner e.act some (all_on sc e.owner h more given (legal_behind sc [] h more legal) others) (rises_on e.owner h more others) calm waits was

pub local_keeps_legal : LocalKeepsLegal
local_keeps_legal sc h more e given legal some calm others was waits =
    legal_push sc (h ++ more) (numbered_on (h ++ more) e) legal (local sc h more e given legal some calm others was waits)
