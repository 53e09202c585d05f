-- What a step leaves of a transaction beside what its rule makes: answers to operations of other transactions alone, as none of
-- its own waits.
use Rattle.std.proofs.Common.{◌≡◌, ◌==◌, ◌&&◌, ◌∷◌, ◌++◌, [], ℕ, zero, suc, Bool, true, false, not, List, None, refl, ap, sym, subst, ◌∙◌, append-nil, append_assoc, if◌then◌else◌, fold, length, drop, true≢false, filter, inl, inr}
use Rattle.std.specs.List.{list_all, list_any, flat_map}
use Rattle.std.proofs.lemmas.Bool.{and_parts, and_from, not_from_false}
use Rattle.e3_types.specs.declared.entries.Input.{Input}
use Rattle.e3_types.specs.declared.entries.Input.TheVariants as input
use Rattle.e3_types.specs.declared.entries.Told.{Told}
use Rattle.e3_types.specs.declared.entries.Told.TheVariants as told
use Rattle.e3_types.specs.declared.messages.Message.{Message}
use Rattle.e3_types.specs.declared.messages.Message.TheVariants as msg
use Rattle.e3_types.specs.declared.messages.Packet.{Packet}
use Rattle.e3_types.specs.declared.records.Record.{Record}
use Rattle.e3_types.specs.declared.transactions.Answer.{Answer}
use Rattle.e3_types.specs.declared.transactions.Txn.{Txn}
use Rattle.e3_types.specs.Same.{same_txn}
use Rattle.e3_world.specs.declared.lives.Asked.{Asked}
use Rattle.e3_world.specs.declared.lives.At.{At}
use Rattle.e3_world.specs.declared.lives.Made.{Made}
use Rattle.e3_world.specs.declared.lives.Moment.{Moment}
use Rattle.e3_world.specs.Logs.{is_undecided}
use Rattle.e3_world.specs.Making.{nothing, is_coordinator, is_present, log_now, open_now, steps_now, and_grant, and_grants, and_send, and_tell, answer_now, decides, grants_after}
use Rattle.e3_world.specs.Operations.{and_arrived, arrivals, done, is_answered, performed_by, taken_up, waiting}
use Rattle.e3_world.specs.Steps.{handled, on_input, settle, step_at}
use Rattle.e3_world.proofs.Turns.{self}
use Rattle.e3_laws.proofs.serial.Lists.Entries.{In}
use Rattle.e3_laws.proofs.serial.Step.Arrivals.{answered_more, arrivals_push, performed_more}
use Rattle.e3_laws.proofs.serial.Step.Steadying.{any_in, in_any}
use Rattle.e3_laws.proofs.serial.Step.Stepping.{granted_waits, waits_parts}
use Rattle.e3_laws.proofs.rounds.Tail.{decided_more}
use Rattle.e3_laws.proofs.steps.Tests.{same_is}
use Rattle.e3_laws.proofs.steps.Lists.{one_more}
use Rattle.e3_laws.proofs.steps.Deciding.{present, no_grants}

-- the message is an answer or a decision of another transaction
abbrev pub is_other : Txn → Message → Bool
is_other t (msg.Done u n inc answer) = not (same_txn t u)
is_other t (msg.Decide u dir) = not (same_txn t u)
is_other t _ = false

abbrev pub other_packet : Txn → Packet → Bool
other_packet t p = is_other t p.msg

-- the event tells the answer to an operation of another transaction
abbrev pub other_told : Txn → Told → Bool
other_told t (told.Op u n answer) = not (same_txn t u)
other_told t _ = false

-- an answer of this incarnation, of another transaction
abbrev own_other : Txn → ℕ → Message → Bool
own_other t here (msg.Done u n inc answer) = inc == here && not (same_txn t u)
own_other t here _ = false

abbrev pub other_asked : Txn → Asked → Bool
other_asked t q = not (same_txn t q.txn)

pub record Beside (t : Txn) (a : At) (was made : Made) : Type 0 where
  pub records : made.records ≡ was.records
  pub dones : List Packet
  pub outs : made.outs ≡ was.outs ++ dones
  pub are_others : list_all (other_packet t) dones ≡ true
  pub ops : List Told
  pub told : made.told ≡ was.told ++ ops
  pub tell_others : list_all (other_told t) ops ≡ true
  pub own : list_all (own_other t a.life.inc) made.own ≡ true

beside_send : (t : Txn) (a : At) (was made : Made) (to : ℕ) (u : Txn) (n : ℕ) (answer : Answer) → not (same_txn t u) ≡ true → Beside t a was made →
    Beside t a was (and_send a to (msg.Done u n a.life.inc answer) made)
beside_send t a was made to u n answer other f = by (to == a.site) refl
  where
    m : Message
    m = msg.Done u n a.life.inc answer

    q : Packet
    q = record { number = 0; «from» = a.site; to = to; msg = m }

    by : (b : Bool) → (to == a.site) ≡ b → Beside t a was (and_send a to m made)
    by true is = rw is (record {
      records = f.records;
      dones = f.dones;
      outs = f.outs;
      are_others = f.are_others;
      ops = f.ops;
      told = f.told;
      tell_others = f.tell_others;
      own = one_more (own_other t a.life.inc) made.own m f.own (rw (self a.life.inc, other) refl);
    })
    by false is = rw is (record {
      records = f.records;
      dones = f.dones ++ q ∷ [];
      outs = ap (λ l. l ++ q ∷ []) f.outs ∙ append_assoc was.outs f.dones (q ∷ []);
      are_others = one_more (other_packet t) f.dones q f.are_others other;
      ops = f.ops;
      told = f.told;
      tell_others = f.tell_others;
      own = f.own;
    })

beside_tell : (t : Txn) (a : At) (was made : Made) (u : Txn) (n : ℕ) (answer : Answer) → not (same_txn t u) ≡ true → Beside t a was made →
    Beside t a was (and_tell (told.Op u n answer) made)
beside_tell t a was made u n answer other f = record {
  records = f.records;
  dones = f.dones;
  outs = f.outs;
  are_others = f.are_others;
  ops = f.ops ++ told.Op u n answer ∷ [];
  told = ap (λ l. l ++ told.Op u n answer ∷ []) f.told ∙ append_assoc was.told f.ops (told.Op u n answer ∷ []);
  tell_others = one_more (other_told t) f.ops (told.Op u n answer) f.tell_others other;
  own = f.own;
}

beside_granted : (t : Txn) (a : At) (was : Made) (qs : List Asked) (made : Made) → list_all (other_asked t) qs ≡ true → Beside t a was made →
    Beside t a was (fold (and_grant a) made qs)
beside_granted t a was [] made all f = f
beside_granted t a was (q ∷ qs) made all f =
    let parts = and_parts (other_asked t q) (list_all (other_asked t) qs) all in
    beside_granted t a was qs (and_grant a made q) parts.1 (beside_send t a was made q.txn.site q.txn q.n (answer_now a q.txn q.op made) parts.0 f)

beside_grants : (t : Txn) (a : At) (was : Made) (seen : ℕ) (made : Made) → list_all (other_asked t) (grants_after a made) ≡ true → Beside t a was made →
    Beside t a was (and_grants a seen made)
beside_grants t a was seen made free f = by (list_any decides (drop seen made.records)) refl
  where
    by : (b : Bool) → list_any decides (drop seen made.records) ≡ b → Beside t a was (and_grants a seen made)
    by true is = rw is (beside_granted t a was (grants_after a made) made free f)
    by false is = rw is f

beside_done : (t : Txn) (a : At) (was made : Made) (u : Txn) (n inc : ℕ) (answer : Answer) → (inc == a.life.inc) ≡ true → not (same_txn t u) ≡ true → Beside t a was made →
    Beside t a was (handled a made (msg.Done u n inc answer))
beside_done t a was made u n inc answer is other f = by (is_coordinator a u && is_present a u && open_now a u made) refl
  where
    told_it : Made
    told_it = and_tell (told.Op u n answer) made

    choice : (b : Bool) → Beside t a was (and_grants a (length made.records) (if b then told_it else made))
    choice true = rw (no_grants a made told_it refl) (beside_tell t a was made u n answer other f)
    choice false = rw (no_grants a made made refl) f

    by : (b : Bool) → (is_coordinator a u && is_present a u && open_now a u made) ≡ b → Beside t a was (handled a made (msg.Done u n inc answer))
    by true known = rw (known, present a u inc is) (choice _)
    by false known = rw known (rw (no_grants a made made refl) f)

beside_each : (t : Txn) (a : At) (was : Made) (ms : List Message) (made : Made) → list_all (own_other t a.life.inc) ms ≡ true → Beside t a was made →
    Beside t a was (fold (handled a) made ms)
beside_each t a was [] made all f = f
beside_each t a was (msg.Done u n inc answer ∷ ms) made all f =
    let parts = and_parts (inc == a.life.inc && not (same_txn t u)) (list_all (own_other t a.life.inc) ms) all in
    let first = and_parts (inc == a.life.inc) (not (same_txn t u)) parts.0 in
    beside_each t a was ms (handled a made (msg.Done u n inc answer)) parts.1 (beside_done t a was made u n inc answer first.0 first.1 f)
beside_each t a was (msg.Do u n op ∷ ms) made all f = absurd cc
beside_each t a was (msg.Died u n older ∷ ms) made all f = absurd cc
beside_each t a was (msg.Ask u call ∷ ms) made all f = absurd cc
beside_each t a was (msg.LastElected u call elected ∷ ms) made all f = absurd cc
beside_each t a was (msg.Elected u n ∷ ms) made all f = absurd cc
beside_each t a was (msg.Report u n st attempt ∷ ms) made all f = absurd cc
beside_each t a was (msg.VoteReq u inc count ∷ ms) made all f = absurd cc
beside_each t a was (msg.Vote u said ∷ ms) made all f = absurd cc
beside_each t a was (msg.Pre u n dir ∷ ms) made all f = absurd cc
beside_each t a was (msg.Ack u n dir ∷ ms) made all f = absurd cc
beside_each t a was (msg.Decide u dir ∷ ms) made all f = absurd cc

emptied : (t : Txn) (a : At) (was made : Made) → Beside t a was made → Beside t a was (record made { own = [] })
emptied t a was made f = record {
  records = f.records;
  dones = f.dones;
  outs = f.outs;
  are_others = f.are_others;
  ops = f.ops;
  told = f.told;
  tell_others = f.tell_others;
  own = refl;
}

beside_settled : (k : ℕ) (t : Txn) (a : At) (was made : Made) → Beside t a was made → Beside t a was (settle k a made)
beside_settled zero t a was made f = f
beside_settled (suc k) t a was made f = beside_settled k t a was _ (beside_each t a was made.own (record made { own = [] }) f.own (emptied t a was made f))

beside_itself : (t : Txn) (a : At) (made : Made) → made.own ≡ [] → Beside t a made made
beside_itself t a made none = record {
  records = refl;
  dones = [];
  outs = sym (append-nil made.outs);
  are_others = refl;
  ops = [];
  told = sym (append-nil made.told);
  tell_others = refl;
  own = rw none refl;
}

step_beside : (t : Txn) (a : At) (made : Made) → on_input a a.input nothing ≡ made → made.own ≡ [] → list_all (other_asked t) (grants_after a made) ≡ true → Beside t a made (step_at a)
step_beside t a made is none free =
    subst (λ x. Beside t a made (settle 3 a (and_grants a 0 x))) (sym is)
    (beside_settled 3 t a made (and_grants a 0 made) (beside_grants t a made 0 made free (beside_itself t a made none)))

-- no operation of the transaction waits
abbrev pub Still : Txn → ℕ → List Record → List Moment → Type 0
Still t site l steps = list_any (λ q. same_txn t q.txn) (waiting site l steps) ≡ false

-- the input brings no operation
abbrev pub brings_none : Input → Bool
brings_none (input.Do t op) = false
brings_none (input.Deliver p) = by p.msg
  where
    by : Message → Bool
    by (msg.Do t n op) = false
    by _ = true
brings_none _ = true

pub taken_none : (site : ℕ) (steps : List Moment) (m : Moment) → brings_none m.input ≡ true → taken_up site steps m ≡ None
taken_none site steps m brings = by m.input refl brings
  where
    said : (p : Packet) (x : Message) → m.input ≡ input.Deliver p → p.msg ≡ x → brings_none (input.Deliver p) ≡ true → taken_up site steps m ≡ None
    said p (msg.Do t n op) is same brings = absurd (let off : brings_none (input.Deliver p) ≡ false = rw same refl in true≢false (sym brings ∙ off))
    said p x is same brings = rw (is, same) refl

    by : (i : Input) → m.input ≡ i → brings_none i ≡ true → taken_up site steps m ≡ None
    by (input.Deliver p) is brings = said p p.msg is refl brings
    by (input.Do t op) is brings = absurd cc
    by i is brings = rw is refl

pub same_arrivals : (site : ℕ) (steps : List Moment) (m : Moment) → brings_none m.input ≡ true → arrivals site (steps ++ m ∷ []) ≡ arrivals site steps
same_arrivals site steps m brings = arrivals_push site steps m ∙ ap (and_arrived (arrivals site steps) m) (taken_none site steps m brings)

filtered : {X : Type 0} (p : X → Bool) (xs : List X) (x : X) → In x xs → p x ≡ true → In x (filter p xs)
filtered p [] x h is = absurd h
filtered p (y ∷ xs) x h is = by (p y) refl h (λ k. filtered p xs x k is)
  where
    by : (b : Bool) → p y ≡ b → In x (y ∷ xs) → (In x xs → In x (filter p xs)) → In x (filter p (y ∷ xs))
    by true holds (inl e) more = rw holds (inl e)
    by true holds (inr k) more = rw holds (inr (more k))
    by false brings (inl e) more = absurd (let clash : true ≡ false = sym is ∙ ap p (sym e) ∙ brings in cc)
    by false brings (inr k) more = rw brings (more k)

not_both : (b : Bool) → (b ≡ true → ⊥) → b ≡ false
not_both true brings = absurd (brings refl)
not_both false brings = refl

-- a step that brings no operation leaves it so
pub still_push : (t : Txn) (site : ℕ) (l rs : List Record) (steps : List Moment) (m : Moment) → brings_none m.input ≡ true → Still t site l steps → Still t site (l ++ rs) (steps ++ m ∷ [])
still_push t site l rs steps m brings was = not_both (list_any (λ q. same_txn t q.txn) (waiting site (l ++ rs) (steps ++ m ∷ []))) none
  where
    none : list_any (λ q. same_txn t q.txn) (waiting site (l ++ rs) (steps ++ m ∷ [])) ≡ true → ⊥
    none some =
        let q = any_in (λ (q : Asked). same_txn t q.txn) (waiting site (l ++ rs) (steps ++ m ∷ [])) some in
        let parts = waits_parts site (l ++ rs) (steps ++ m ∷ []) q.0 q.1 in
        let came : In q.0 (arrivals site steps) = subst (λ z. In q.0 z) (same_arrivals site steps m brings) parts.0 in
        let unanswered : is_answered steps q.0 ≡ false = not_both (is_answered steps q.0) (λ holds. true≢false (sym (answered_more steps m q.0 holds) ∙ parts.2)) in
        let open_then : is_undecided q.0.txn l ≡ true = open_before q.0.txn (is_undecided q.0.txn l) refl parts.1 in
        let waits : In q.0 (waiting site l steps) = filtered (λ (a : Asked). is_undecided a.txn l && not (is_answered steps a)) (arrivals site steps) q.0 came
        (and_from (is_undecided q.0.txn l) (not (is_answered steps q.0)) open_then (not_from_false (is_answered steps q.0) unanswered)) in
        true≢false (sym (in_any (λ (q : Asked). same_txn t q.txn) (waiting site l steps) q.0 waits q.2) ∙ was)
      where
        open_before : (u : Txn) (b : Bool) → is_undecided u l ≡ b → is_undecided u (l ++ rs) ≡ true → is_undecided u l ≡ true
        open_before u true is later = is
        open_before u false is later = absurd (true≢false (sym later ∙ decided_more u l rs is))

-- so what a step grants is for other transactions
pub free_grants : (t : Txn) (a : At) (made : Made) → brings_none a.input ≡ true → Still t a.site a.life.log a.life.steps → list_all (other_asked t) (grants_after a made) ≡ true
free_grants t a made brings was = all_others (grants_after a made) (λ q k. not_both (same_txn t q.txn) (λ same. true≢false (sym (in_any (λ (q : Asked). same_txn t q.txn) _ q (granted_waits a made q k) same) ∙ after)))
  where
    after : Still t a.site (log_now a made) (steps_now a made)
    after = still_push t a.site a.life.log made.records a.life.steps (record { before = a.life.log; input = a.input; records = made.records; outs = made.outs; told = made.told }) brings was

    all_others : (qs : List Asked) → ((q : Asked) → In q qs → same_txn t q.txn ≡ false) → list_all (other_asked t) qs ≡ true
    all_others [] each = refl
    all_others (q ∷ qs) each = and_from (other_asked t q) (list_all (other_asked t) qs) (not_from_false (same_txn t q.txn) (each q (inl refl))) (all_others qs (λ x k. each x (inr k)))

-- a step of a site where none of its operations waits, and that brings none
pub step_of_site : (t : Txn) (a : At) (made : Made) → on_input a a.input nothing ≡ made → made.own ≡ [] → brings_none a.input ≡ true → Still t a.site a.life.log a.life.steps →
    Beside t a made (step_at a)
step_of_site t a made is none brings was = step_beside t a made is none (free_grants t a made brings was)

-- and what it has done stays, while the transaction is undecided
pub done_push : (t : Txn) (site : ℕ) (l : List Record) (steps : List Moment) (m : Moment) → brings_none m.input ≡ true → Still t site l steps → is_undecided t l ≡ true →
    done site t (steps ++ m ∷ []) ≡ done site t steps
done_push t site l steps m brings was undecided =
    ap (λ qs. flat_map (performed_by (steps ++ m ∷ [])) (filter (λ a. same_txn t a.txn) qs)) (same_arrivals site steps m brings)
    ∙ same_all (arrivals site steps) (λ q k. k)
  where
    answered : (q : Asked) → In q (arrivals site steps) → same_txn t q.txn ≡ true → is_answered steps q ≡ true
    answered q k same = by (is_answered steps q) refl
      where
        by : (b : Bool) → is_answered steps q ≡ b → is_answered steps q ≡ true
        by true is = is
        by false is = absurd (
            let open_q : is_undecided q.txn l ≡ true = subst (λ (u : Txn). is_undecided u l ≡ true) (same_is t q.txn same) undecided in
            let waits : In q (waiting site l steps) = filtered (λ (a : Asked). is_undecided a.txn l && not (is_answered steps a)) (arrivals site steps) q k
            (and_from (is_undecided q.txn l) (not (is_answered steps q)) open_q (not_from_false (is_answered steps q) is)) in
            true≢false (sym (in_any (λ (q : Asked). same_txn t q.txn) (waiting site l steps) q waits same) ∙ was))

    same_all : (qs : List Asked) → ((q : Asked) → In q qs → In q (arrivals site steps)) →
        flat_map (performed_by (steps ++ m ∷ [])) (filter (λ a. same_txn t a.txn) qs) ≡ flat_map (performed_by steps) (filter (λ a. same_txn t a.txn) qs)
    same_all [] each = refl
    same_all (q ∷ qs) each = by (same_txn t q.txn) refl (same_all qs (λ x k. each x (inr k)))
      where
        by : (b : Bool) → same_txn t q.txn ≡ b →
            flat_map (performed_by (steps ++ m ∷ [])) (filter (λ a. same_txn t a.txn) qs) ≡ flat_map (performed_by steps) (filter (λ a. same_txn t a.txn) qs) →
            flat_map (performed_by (steps ++ m ∷ [])) (filter (λ a. same_txn t a.txn) (q ∷ qs)) ≡ flat_map (performed_by steps) (filter (λ a. same_txn t a.txn) (q ∷ qs))
        by true same rest = rw same (ap (λ l. l ++ flat_map (performed_by (steps ++ m ∷ [])) (filter (λ a. same_txn t a.txn) qs)) (performed_more steps m q (answered q (each q (inl refl)) same))
            ∙ ap (λ l. performed_by steps q ++ l) rest)
        by false same rest = rw same rest
