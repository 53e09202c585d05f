-- A client keeps what its coordinator's steps say, behind an answer that is taken.
use Rattle.std.specs.Prelude.{◌≡◌, ◌==◌, ◌&&◌, ◌||◌, ◌++◌, ◌∷◌, [], ◌+◌, ◌-◌, if◌then◌else◌, ℕ, zero, suc, Bool, true, false, not, List, length, map, fold, Option, Some, None, slice_get, slice_set}
use Rattle.std.specs.List.{list_any}
use Rattle.std.proofs.Common.{refl, ap, sym, subst, ◌∙◌, arith}
use Rattle.std.proofs.lemmas.Bool.{and_parts}
use Rattle.std.proofs.lemmas.Grind.{common_steps}
use Rattle.e3_types.specs.declared.entries.Input.{Input}
use Rattle.e3_types.specs.declared.entries.Input.TheVariants as input
use Rattle.e3_types.specs.declared.entries.Refusal.{Refusal}
use Rattle.e3_types.specs.declared.entries.Told.{Told}
use Rattle.e3_types.specs.declared.entries.Told.TheVariants as told
use Rattle.e3_types.specs.declared.messages.Message.{Message}
use Rattle.e3_types.specs.declared.messages.Message.TheVariants as msg
use Rattle.e3_types.specs.declared.messages.Packet.{Packet}
use Rattle.e3_types.specs.declared.transactions.Answer.{Answer}
use Rattle.e3_types.specs.declared.transactions.Op.{Op}
use Rattle.e3_types.specs.declared.transactions.Txn.{Txn}
use Rattle.e3_types.specs.Same.{same_txn}
use Rattle.e3_world.proofs.Turns.{true_not_false}
use Rattle.e3_world.specs.declared.lives.Expected.{Expected}
use Rattle.e3_world.specs.declared.lives.Moment.{Moment}
use Rattle.e3_world.specs.Logs.{key_of}
use Rattle.e3_world.specs.Operations.{expected_by, expected_with as counted_with, kept_reason, op_told, tells_op}
use Rattle.e3_client.specs.declared.client.Issued.{Issued}
use Rattle.e3_client.specs.Clients.{Kept, expected_with, is_awaited, is_awaited_from, is_issued_to, unanswered, unanswered_from, with_answer}
use Rattle.e3_client.specs.Rule.{IsKept, and_told, brings, is_answer, is_answer_of, is_answered}
use Rattle.e3_client.proofs.Beside.{any_push, expected_push, nil_end, reasons_more, same_self, still_issued, told_more, told_push, zeros}
use Rattle.e3_client.proofs.Numbered.{answered_set, expected_set, not_answered, sites_set, unanswered_set}

-- the operation as it is answered by this site under this incarnation
abbrev answered_by : ℕ → ℕ → Issued
answered_by f inc = record { site = f; answered = Some inc }

-- what a message counts, with one more event that answers operation n: nothing more where it is no answer to that
off_more : (t : Txn) (n : ℕ) (x : Answer) (was : Expected) (events : List Told) (u : Txn) (j i : ℕ) (y : Answer) → (j == n && same_txn t u) ≡ false
    → counted_with t was (events ++ told.Op t n x ∷ []) (msg.Done u j i y) ≡ counted_with t was events (msg.Done u j i y)
off_more t n x was events u j i y off = by (same_txn t u) refl
  where
    by : (b : Bool) → same_txn t u ≡ b → counted_with t was (events ++ told.Op t n x ∷ []) (msg.Done u j i y) ≡ counted_with t was events (msg.Done u j i y)
    by true is =
        let other : (j == n) ≡ false = grind (arith, common_steps, off, is) in
        let none : tells_op t j (told.Op t n x) ≡ false = rw other refl in
        let same : list_any (tells_op t j) (events ++ told.Op t n x ∷ []) ≡ list_any (tells_op t j) events = any_push (tells_op t j) events (told.Op t n x)
        ∙ (let left : (list_any (tells_op t j) events || tells_op t j (told.Op t n x)) ≡ list_any (tells_op t j) events = grind (arith, common_steps, none) in left) in
        ap (λ (b : Bool). if same_txn t u && b then record { inc = i; count = suc was.count } else was) same
    by false is = rw is refl

-- and one where it is, and was not counted yet
on_more : (t : Txn) (n : ℕ) (x : Answer) (was : Expected) (events : List Told) (u : Txn) (i : ℕ) (y : Answer) → same_txn t u ≡ true
    → counted_with t was (events ++ told.Op t n x ∷ []) (msg.Done u n i y) ≡ record { inc = i; count = suc was.count }
on_more t n x was events u i y is =
    let self : same_txn t t ≡ true = same_self t in
    let number : (n == n) ≡ true = grind (arith, common_steps) in
    let tells : tells_op t n (told.Op t n x) ≡ true = rw (number, self) refl in
    let all : list_any (tells_op t n) (events ++ told.Op t n x ∷ []) ≡ true = any_push (tells_op t n) events (told.Op t n x)
    ∙ (let right : (list_any (tells_op t n) events || tells_op t n (told.Op t n x)) ≡ true = grind (arith, common_steps, tells) in right) in
    rw (is, all) refl

-- what is expected of another site, where an own operation is answered
own_more : (t : Txn) (n site : ℕ) (x : Answer) (was : Expected) (m : Moment) → is_answer t n m.input ≡ false
    → expected_by t site was (and_told m (told.Op t n x)) ≡ expected_by t site was m
own_more t n site x was m off = by m.input refl
  where
    by_msg : (k : Message) → (is_answer t n (input.Deliver (record { number = 0; «from» = 0; to = 0; msg = k })) ≡ false)
        → counted_with t was (m.told ++ told.Op t n x ∷ []) k ≡ counted_with t was m.told k
    by_msg (msg.Done u j i y) off = off_more t n x was m.told u j i y off
    by_msg (msg.Do u j op) off = refl
    by_msg (msg.Died u j older) off = refl
    by_msg (msg.Ask u call) off = refl
    by_msg (msg.LastElected u call j) off = refl
    by_msg (msg.Elected u j) off = refl
    by_msg (msg.Report u j st n2) off = refl
    by_msg (msg.VoteReq u inc count) off = refl
    by_msg (msg.Vote u says) off = refl
    by_msg (msg.Pre u j dir) off = refl
    by_msg (msg.Ack u j dir) off = refl
    by_msg (msg.Decide u dir) off = refl

    by : (i : Input) → m.input ≡ i → expected_by t site was (and_told m (told.Op t n x)) ≡ expected_by t site was m
    by (input.Deliver packet) is =
        let none : is_answer t n (input.Deliver packet) ≡ false = ap (is_answer t n) (sym is) ∙ off in
        rw is (ap (λ (e : Expected). if packet.«from» == site then e else was) (by_msg packet.msg none))
    by (input.Begin sites) is = rw is refl
    by (input.Do u op) is = rw is refl
    by (input.Commit u) is = rw is refl
    by (input.Cancel u) is = rw is refl
    by (input.Expire u) is = rw is refl
    by (input.Elect u group) is = rw is refl

-- and where an operation of site f is answered, which was told of before in no event of the step
other_more : (t : Txn) (f n inc site : ℕ) (x : Answer) (was : Expected) (m : Moment) → is_answer_of f inc t n m.input ≡ true → list_any (tells_op t n) m.told ≡ false
    → expected_by t site was (and_told m (told.Op t n x)) ≡ expected_with site (expected_by t site was m) (answered_by f inc)
other_more t f n inc site x was m on unheard = by m.input refl
  where
    by_site : (packet : Packet) (u : Txn) (y : Answer) → packet.msg ≡ msg.Done u n inc y → packet.«from» ≡ f → same_txn t u ≡ true → (b : Bool) → (f == site) ≡ b
        → (if packet.«from» == site then counted_with t was (m.told ++ told.Op t n x ∷ []) packet.msg else was)
        ≡ expected_with site (if packet.«from» == site then counted_with t was m.told packet.msg else was) (answered_by f inc)
    by_site packet u y is at same true e =
        let less : counted_with t was m.told (msg.Done u n inc y) ≡ was = rw (same, unheard) refl in
        rw (at, e, is, on_more t n x was m.told u inc y same, less) refl
    by_site packet u y is at same false e = rw (at, e) refl

    by_msg : (packet : Packet) (k : Message) → packet.msg ≡ k → is_answer_of f inc t n (input.Deliver packet) ≡ true
        → (if packet.«from» == site then counted_with t was (m.told ++ told.Op t n x ∷ []) packet.msg else was)
        ≡ expected_with site (if packet.«from» == site then counted_with t was m.told packet.msg else was) (answered_by f inc)
    by_msg packet (msg.Done u j i y) is holds =
        let all : (packet.«from» == f && i == inc && (j == n && same_txn t u)) ≡ true = sym (rw is refl) ∙ holds in
        let front = and_parts (packet.«from» == f && i == inc) (j == n && same_txn t u) all in
        let rest = and_parts (j == n) (same_txn t u) front.1 in
        let from_f : packet.«from» ≡ f = (let p = and_parts (packet.«from» == f) (i == inc) front.0 in let q = p.0 in grind (arith, common_steps, q)) in
        let under : i ≡ inc = (let p = and_parts (packet.«from» == f) (i == inc) front.0 in let q = p.1 in grind (arith, common_steps, q)) in
        let number : j ≡ n = (let q = rest.0 in grind (arith, common_steps, q)) in
        let said : packet.msg ≡ msg.Done u n inc y = is ∙ ap (λ (a : ℕ). msg.Done u a i y) number ∙ ap (λ (a : ℕ). msg.Done u n a y) under in
        by_site packet u y said from_f rest.1 (f == site) refl
    by_msg packet (msg.Do u j op) is holds = absurd (true_not_false (sym holds ∙ rw is refl))
    by_msg packet (msg.Died u j older) is holds = absurd (true_not_false (sym holds ∙ rw is refl))
    by_msg packet (msg.Ask u call) is holds = absurd (true_not_false (sym holds ∙ rw is refl))
    by_msg packet (msg.LastElected u call j) is holds = absurd (true_not_false (sym holds ∙ rw is refl))
    by_msg packet (msg.Elected u j) is holds = absurd (true_not_false (sym holds ∙ rw is refl))
    by_msg packet (msg.Report u j st n2) is holds = absurd (true_not_false (sym holds ∙ rw is refl))
    by_msg packet (msg.VoteReq u i count) is holds = absurd (true_not_false (sym holds ∙ rw is refl))
    by_msg packet (msg.Vote u says) is holds = absurd (true_not_false (sym holds ∙ rw is refl))
    by_msg packet (msg.Pre u j dir) is holds = absurd (true_not_false (sym holds ∙ rw is refl))
    by_msg packet (msg.Ack u j dir) is holds = absurd (true_not_false (sym holds ∙ rw is refl))
    by_msg packet (msg.Decide u dir) is holds = absurd (true_not_false (sym holds ∙ rw is refl))

    by : (i : Input) → m.input ≡ i → expected_by t site was (and_told m (told.Op t n x)) ≡ expected_with site (expected_by t site was m) (answered_by f inc)
    by (input.Deliver packet) is = rw is (by_msg packet packet.msg refl (ap (is_answer_of f inc t n) (sym is) ∙ on))
    by (input.Begin sites) is = absurd (true_not_false (sym (ap (is_answer_of f inc t n) (sym is) ∙ on)))
    by (input.Do u op) is = absurd (true_not_false (sym (ap (is_answer_of f inc t n) (sym is) ∙ on)))
    by (input.Commit u) is = absurd (true_not_false (sym (ap (is_answer_of f inc t n) (sym is) ∙ on)))
    by (input.Cancel u) is = absurd (true_not_false (sym (ap (is_answer_of f inc t n) (sym is) ∙ on)))
    by (input.Expire u) is = absurd (true_not_false (sym (ap (is_answer_of f inc t n) (sym is) ∙ on)))
    by (input.Elect u group) is = absurd (true_not_false (sym (ap (is_answer_of f inc t n) (sym is) ∙ on)))

-- both
heard_more : (coordinator f n inc site : ℕ) (t : Txn) (x : Answer) (was : Expected) (m : Moment) → (coordinator == site) ≡ false → brings coordinator f inc t n m.input ≡ true
    → list_any (tells_op t n) m.told ≡ false
    → expected_by t site was (and_told m (told.Op t n x)) ≡ expected_with site (expected_by t site was m) (answered_by f inc)
heard_more coordinator f n inc site t x was m other on unheard = by (coordinator == f) refl
  where
    by : (b : Bool) → (coordinator == f) ≡ b → expected_by t site was (and_told m (told.Op t n x)) ≡ expected_with site (expected_by t site was m) (answered_by f inc)
    by true is =
        let off : is_answer t n m.input ≡ false = (let open_is : not (is_answer t n m.input) ≡ true = sym (rw is refl) ∙ on in grind (arith, common_steps, open_is)) in
        let away : (f == site) ≡ false = (let same : coordinator ≡ f = grind (arith, common_steps, is) in ap (λ (s : ℕ). s == site) (sym same) ∙ other) in
        own_more t n site x was m off ∙ rw away refl
    by false is = other_more t f n inc site x was m (sym (rw is refl) ∙ on) unheard

-- the operation that is awaited is unanswered
awaited : (n : ℕ) (o : Option ℕ) → is_awaited n o ≡ true → o ≡ Some n
awaited n None e = absurd (true_not_false (sym e))
awaited n (Some k) e = let same : k ≡ n = grind (arith, common_steps, e) in ap (λ (a : ℕ). Some a) same

-- an answer that is taken
pub answers : (coordinator f n inc : ℕ) (steps : List Moment) (k : Kept) (m : Moment) (x : Answer) → IsKept coordinator (steps ++ m ∷ []) k → is_awaited_from f n k.ops ≡ true
    → brings coordinator f inc k.txn n m.input ≡ true → IsKept coordinator (steps ++ and_told m (told.Op k.txn n x) ∷ []) (record k { ops = with_answer f n inc k.ops })
answers coordinator f zero inc steps k m x kept due on = absurd (let parts = and_parts (is_awaited 0 (unanswered k.ops)) false due in true_not_false (sym parts.1))
answers coordinator f (suc i) inc steps k m x kept due on =
    let number : suc i - 1 ≡ i = omega arith in
    subst (λ (j : ℕ). IsKept coordinator (steps ++ and_told m (told.Op k.txn (suc i) x) ∷ []) (record k { ops = slice_set k.ops j (answered_by f inc) })) (sym number) (record {
      sites = sites_set f i k.ops (answered_by f inc) parts.1 refl ∙ kept.sites
          ∙ ap (λ (ops : List Op). map (λ o. (key_of o).site) ops) (sym (still_issued k.txn steps m (told.Op k.txn (suc i) x) refl));
      told = λ j. answered_set 1 i j k.ops (answered_by f inc) (omega (arith, long)) refl ∙ ap (λ (n : ℕ). j == n || is_answered j k.ops) one
          ∙ ap (λ (b : Bool). j == suc i || b) (kept.told j)
          ∙ (let self = same_self k.txn in
          let tells : tells_op k.txn j (told.Op k.txn (suc i) x) ≡ (j == suc i) = grind (arith, common_steps, self) in
          ap (λ (b : Bool). b || op_told k.txn j (steps ++ m ∷ [])) (sym tells))
          ∙ sym (told_more k.txn j steps m (told.Op k.txn (suc i) x));
      last = λ j e. absurd (let none = unanswered_set 1 i k.ops (answered_by f inc) open_is (sym long) refl in let both : None ≡ Some j = sym none ∙ e in cc);
      heard = λ site other.
          expected_set site 1 i zeros k.ops (answered_by f inc) open_is (sym long)
          ∙ ap (λ (w : Expected). expected_with site w (answered_by f inc)) (kept.heard site other ∙ expected_push k.txn site steps m)
          ∙ sym (expected_push k.txn site steps (and_told m (told.Op k.txn (suc i) x))
          ∙ heard_more coordinator f (suc i) inc site k.txn x (fold (expected_by k.txn site) zeros steps) m other on unheard);
      why = kept.why ∙ ap (λ (l : List Refusal). slice_get l 0)
          (sym (reasons_more k.txn steps m (told.Op k.txn (suc i) x) ∙ nil_end (kept_reason k.txn (steps ++ m ∷ []))));
    })
  where
    one : 1 + i ≡ suc i
    one = omega arith

    parts : (is_awaited (suc i) (unanswered k.ops) ≡ true) × (is_issued_to f (suc i) k.ops ≡ true)
    parts = and_parts (is_awaited (suc i) (unanswered k.ops)) (is_issued_to f (suc i) k.ops) due

    free : unanswered k.ops ≡ Some (suc i)
    free = awaited (suc i) (unanswered k.ops) parts.0

    open_is : unanswered_from 1 k.ops ≡ Some (1 + i)
    open_is = free ∙ ap (λ (a : ℕ). Some a) (sym one)

    long : length k.ops ≡ suc i
    long = sym (kept.last (suc i) free)

    unheard : list_any (tells_op k.txn (suc i)) m.told ≡ false
    unheard =
        let none : op_told k.txn (suc i) (steps ++ m ∷ []) ≡ false = sym (kept.told (suc i)) ∙ not_answered 1 (suc i) k.ops free in
        let both : (op_told k.txn (suc i) steps || list_any (tells_op k.txn (suc i)) m.told) ≡ false = sym (told_push k.txn (suc i) steps m) ∙ none in
        grind (arith, common_steps, both)
