-- A step that decides: behind what its rule makes come answers to operations that the decision frees, and nothing else.
use Rattle.std.proofs.Common.{◌≡◌, ◌==◌, ◌&&◌, ◌||◌, ◌∷◌, ◌++◌, [], ℕ, zero, suc, Bool, true, false, List, refl, ap, sym, subst, ◌∙◌, append-nil, append_assoc, if◌then◌else◌, fold, length, drop}
use Rattle.std.specs.List.{list_all, list_any}
use Rattle.std.proofs.lemmas.Bool.{and_parts}
use Rattle.e3_types.specs.declared.entries.Told.{Told}
use Rattle.e3_types.specs.declared.entries.Told.TheVariants as told
use Rattle.e3_types.specs.declared.messages.Message.{Message}
use Rattle.e3_types.specs.declared.messages.Message.TheVariants as msg
use Rattle.e3_types.specs.declared.messages.Packet.{Packet}
use Rattle.e3_types.specs.declared.transactions.Answer.{Answer}
use Rattle.e3_types.specs.declared.transactions.Txn.{Txn}
use Rattle.e3_world.specs.declared.lives.Asked.{Asked}
use Rattle.e3_world.specs.declared.lives.At.{At}
use Rattle.e3_world.specs.declared.lives.Expected.{Expected}
use Rattle.e3_world.specs.declared.lives.Made.{Made}
use Rattle.e3_world.specs.declared.lives.Performed.{Performed}
use Rattle.e3_world.specs.Making.{nothing, is_coordinator, is_present, open_now, and_grant, and_grants, and_send, and_tell, answer_now, decides, grants_after}
use Rattle.e3_world.specs.Operations.{done, expected}
use Rattle.e3_world.specs.Steps.{handled, on_input, settle, step_at}
use Rattle.e3_world.proofs.Turns.{self}
use Rattle.e3_laws.proofs.steps.Lists.{dropped, one_more}
use Rattle.e3_laws.proofs.steps.Tests.{both_ways, or_true}
use Rattle.e3_laws.specs.steps.Waiting.{is_answer}

-- an answer of this incarnation
abbrev pub is_own_answer : ℕ → Message → Bool
is_own_answer here (msg.Done t n inc answer) = inc == here
is_own_answer here _ = false

-- the event tells the answer to an operation
abbrev pub tells_answer : Told → Bool
tells_answer (told.Op t n answer) = true
tells_answer _ = false

-- a packet from this site with an answer
abbrev pub is_answer_from : ℕ → Packet → Bool
is_answer_from site p = (p.«from» == site) && is_answer p.msg

-- behind what was made come answers and what they tell; what waits are answers too
pub record AddsAnswers (a : At) (was made : Made) : Type 0 where
  pub records : made.records ≡ was.records
  pub dones : List Packet
  pub outs : made.outs ≡ was.outs ++ dones
  pub are_answers : list_all (is_answer_from a.site) dones ≡ true
  pub ops : List Told
  pub told : made.told ≡ was.told ++ ops
  pub tell_answers : list_all tells_answer ops ≡ true
  pub own : list_all (is_own_answer a.life.inc) made.own ≡ true

answers_send : (a : At) (was made : Made) (to : ℕ) (t : Txn) (n : ℕ) (answer : Answer) → AddsAnswers a was made → AddsAnswers a was (and_send a to (msg.Done t n a.life.inc answer) made)
answers_send a was made to t n answer f = by (to == a.site) refl
  where
    m : Message
    m = msg.Done t n a.life.inc answer

    q : Packet
    q = record { number = 0; «from» = a.site; to = to; msg = m }

    by : (b : Bool) → (to == a.site) ≡ b → AddsAnswers a was (and_send a to m made)
    by true is = rw is (record {
      records = f.records;
      dones = f.dones;
      outs = f.outs;
      are_answers = f.are_answers;
      ops = f.ops;
      told = f.told;
      tell_answers = f.tell_answers;
      own = one_more (is_own_answer a.life.inc) made.own m f.own (self a.life.inc);
    })
    by false is = rw is (record {
      records = f.records;
      dones = f.dones ++ q ∷ [];
      outs = ap (λ l. l ++ q ∷ []) f.outs ∙ append_assoc was.outs f.dones (q ∷ []);
      are_answers = one_more (is_answer_from a.site) f.dones q f.are_answers (rw (self a.site) refl);
      ops = f.ops;
      told = f.told;
      tell_answers = f.tell_answers;
      own = f.own;
    })

answers_tell : (a : At) (was made : Made) (t : Txn) (n : ℕ) (answer : Answer) → AddsAnswers a was made → AddsAnswers a was (and_tell (told.Op t n answer) made)
answers_tell a was made t n answer f = record {
  records = f.records;
  dones = f.dones;
  outs = f.outs;
  are_answers = f.are_answers;
  ops = f.ops ++ told.Op t n answer ∷ [];
  told = ap (λ l. l ++ told.Op t n answer ∷ []) f.told ∙ append_assoc was.told f.ops (told.Op t n answer ∷ []);
  tell_answers = one_more tells_answer f.ops (told.Op t n answer) f.tell_answers refl;
  own = f.own;
}

answers_granted : (a : At) (was : Made) (qs : List Asked) (made : Made) → AddsAnswers a was made → AddsAnswers a was (fold (and_grant a) made qs)
answers_granted a was [] made f = f
answers_granted a was (q ∷ qs) made f = answers_granted a was qs (and_grant a made q) (answers_send a was made q.txn.site q.txn q.n (answer_now a q.txn q.op made) f)

answers_grants : (a : At) (was : Made) (seen : ℕ) (made : Made) → AddsAnswers a was made → AddsAnswers a was (and_grants a seen made)
answers_grants a was seen made f = by (list_any decides (drop seen made.records)) refl
  where
    by : (b : Bool) → list_any decides (drop seen made.records) ≡ b → AddsAnswers a was (and_grants a seen made)
    by true is = rw is (answers_granted a was (grants_after a made) made f)
    by false is = rw is f

pub present : (a : At) (t : Txn) (inc : ℕ) → (inc == a.life.inc) ≡ true →
    ((expected a.site a.life.inc t a.life.steps a.site).count == 0 || (expected a.site a.life.inc t a.life.steps a.site).inc == inc) ≡ true
present a t inc is = rw (self a.site) (by (done a.site t a.life.steps) refl)
  where
    own_answers : List Performed → Expected
    own_answers [] = record { inc = 0; count = 0 }
    own_answers (p ∷ ps) = record { inc = a.life.inc; count = length (p ∷ ps) }

    by : (ps : List Performed) → done a.site t a.life.steps ≡ ps → ((own_answers ps).count == 0 || (own_answers ps).inc == inc) ≡ true
    by [] none = refl
    by (p ∷ ps) some = rw (both_ways inc a.life.inc is) (or_true (length (p ∷ ps) == 0))

pub no_grants : (a : At) (made now : Made) → now.records ≡ made.records → and_grants a (length made.records) now ≡ now
no_grants a made now same = rw (same, dropped made.records) refl

answers_done : (a : At) (was made : Made) (t : Txn) (n inc : ℕ) (answer : Answer) → (inc == a.life.inc) ≡ true → AddsAnswers a was made →
    AddsAnswers a was (handled a made (msg.Done t n inc answer))
answers_done a was made t n inc answer is f = by (is_coordinator a t && is_present a t && open_now a t made) refl
  where
    told_it : Made
    told_it = and_tell (told.Op t n answer) made

    choice : (b : Bool) → AddsAnswers a was (and_grants a (length made.records) (if b then told_it else made))
    choice true = rw (no_grants a made told_it refl) (answers_tell a was made t n answer f)
    choice false = rw (no_grants a made made refl) f

    by : (b : Bool) → (is_coordinator a t && is_present a t && open_now a t made) ≡ b → AddsAnswers a was (handled a made (msg.Done t n inc answer))
    by true known = rw (known, present a t inc is) (choice _)
    by false known = rw known (rw (no_grants a made made refl) f)

answers_each : (a : At) (was : Made) (ms : List Message) (made : Made) → list_all (is_own_answer a.life.inc) ms ≡ true → AddsAnswers a was made →
    AddsAnswers a was (fold (handled a) made ms)
answers_each a was [] made all f = f
answers_each a was (msg.Done t n inc answer ∷ ms) made all f =
    let parts = and_parts (inc == a.life.inc) (list_all (is_own_answer a.life.inc) ms) all in
    answers_each a was ms (handled a made (msg.Done t n inc answer)) parts.1 (answers_done a was made t n inc answer parts.0 f)
answers_each a was (msg.Do t n op ∷ ms) made all f = absurd cc
answers_each a was (msg.Died t n older ∷ ms) made all f = absurd cc
answers_each a was (msg.Ask t call ∷ ms) made all f = absurd cc
answers_each a was (msg.LastElected t call elected ∷ ms) made all f = absurd cc
answers_each a was (msg.Elected t n ∷ ms) made all f = absurd cc
answers_each a was (msg.Report t n st attempt ∷ ms) made all f = absurd cc
answers_each a was (msg.VoteReq t inc count ∷ ms) made all f = absurd cc
answers_each a was (msg.Vote t said ∷ ms) made all f = absurd cc
answers_each a was (msg.Pre t n dir ∷ ms) made all f = absurd cc
answers_each a was (msg.Ack t n dir ∷ ms) made all f = absurd cc
answers_each a was (msg.Decide t dir ∷ ms) made all f = absurd cc

emptied : (a : At) (was made : Made) → AddsAnswers a was made → AddsAnswers a was (record made { own = [] })
emptied a was made f = record {
  records = f.records;
  dones = f.dones;
  outs = f.outs;
  are_answers = f.are_answers;
  ops = f.ops;
  told = f.told;
  tell_answers = f.tell_answers;
  own = refl;
}

answers_settled : (k : ℕ) (a : At) (was made : Made) → AddsAnswers a was made → AddsAnswers a was (settle k a made)
answers_settled zero a was made f = f
answers_settled (suc k) a was made f = answers_settled k a was _ (answers_each a was made.own (record made { own = [] }) f.own (emptied a was made f))

answers_itself : (a : At) (made : Made) → made.own ≡ [] → AddsAnswers a made made
answers_itself a made none = record {
  records = refl;
  dones = [];
  outs = sym (append-nil made.outs);
  are_answers = refl;
  ops = [];
  told = sym (append-nil made.told);
  tell_answers = refl;
  own = rw none refl;
}

-- so does every step whose rule leaves no message waiting, whether it decides or not
pub step_adds_answers : (a : At) (made : Made) → on_input a a.input nothing ≡ made → made.own ≡ [] → AddsAnswers a made (step_at a)
step_adds_answers a made is none =
    subst (λ x. AddsAnswers a made (settle 3 a (and_grants a 0 x))) (sym is)
    (answers_settled 3 a made (and_grants a 0 made) (answers_grants a made 0 made (answers_itself a made none)))
