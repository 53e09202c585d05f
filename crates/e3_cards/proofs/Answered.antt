-- What is done and what waits, as a card has it.
use Rattle.std.specs.Prelude.{◌≡◌, ◌==◌, ◌&&◌, ◌++◌, ◌∷◌, [], if◌then◌else◌, ℕ, Bool, true, false, not, List, map, filter}
use Rattle.std.specs.List.{list_any, flat_map}
use Rattle.std.proofs.Common.{refl, ap, sym, ◌∙◌, arith}
use Rattle.std.proofs.lemmas.Grind.{common_steps}
use Rattle.e3_types.specs.declared.entries.Told.{Told}
use Rattle.e3_types.specs.declared.messages.Message.{Message}
use Rattle.e3_types.specs.declared.messages.Packet.{Packet}
use Rattle.e3_types.specs.declared.records.Record.{Record}
use Rattle.e3_types.specs.declared.transactions.Answer.{Answer}
use Rattle.e3_types.specs.declared.transactions.Txn.{Txn}
use Rattle.e3_types.specs.declared.entries.Told.TheVariants as told
use Rattle.e3_types.specs.declared.messages.Message.TheVariants as msg
use Rattle.e3_types.specs.Same.{same_txn}
use Rattle.e3_world.proofs.Turns.{true_not_false}
use Rattle.e3_world.specs.declared.lives.Asked.{Asked}
use Rattle.e3_world.specs.declared.lives.Moment.{Moment}
use Rattle.e3_world.specs.declared.lives.Performed.{Performed}
use Rattle.e3_world.specs.Logs.{is_undecided}
use Rattle.e3_world.specs.Operations.{answers, answer_told, answer_sent, is_answered, performed_by, done, arrivals, same_asked}
use Rattle.e3_readings.proofs.Equal.{same_txn_eq}
use Rattle.e3_cards.specs.declared.card.Heard.{Heard}
use Rattle.e3_cards.specs.Arriving.{came_of, heard_of, heard_in, heard_told, heard_sent, performed_in, has_heard, answer_in}
use Rattle.e3_readings.specs.Awaiting.{first_of}

abbrev theirs : Asked → List Heard → List Answer
theirs a hs = map (λ h. h.answer) (filter (λ h. a.n == h.n) hs)

theirs_append : (a : Asked) (xs ys : List Heard) → theirs a (xs ++ ys) ≡ theirs a xs ++ theirs a ys
theirs_append a [] ys = refl
theirs_append a (x ∷ xs) ys = let ih = theirs_append a xs ys in grind (arith, common_steps, ih)

-- part by part
theirs_of : {X : Type 0} (a : Asked) (f : X → List Answer) (g : X → List Heard) → ((x : X) → f x ≡ theirs a (g x)) → (xs : List X) → flat_map f xs ≡ theirs a (flat_map g xs)
theirs_of a f g h [] = refl
theirs_of a f g h (x ∷ xs) =
    ap (λ (l : List Answer). l ++ flat_map f xs) (h x) ∙ ap (λ (l : List Answer). theirs a (g x) ++ l) (theirs_of a f g h xs)
    ∙ sym (theirs_append a (g x) (flat_map g xs))

one : (a : Asked) (n : ℕ) (answer : Answer) (b c : Bool) → (a.n == n) ≡ b → (if b && c then answer ∷ [] else []) ≡ theirs a (if c then record { n = n; answer = answer } ∷ [] else [])
one a n answer true true e = rw e refl
one a n answer true false e = refl
one a n answer false true e = rw e refl
one a n answer false false e = refl

told_is : (a : Asked) (e : Told) → answer_told a e ≡ theirs a (heard_told a.txn e)
told_is a (told.Op u n answer) = one a n answer (a.n == n) (same_txn a.txn u) refl
told_is a _ = refl

sent_is : (a : Asked) (p : Packet) → answer_sent a p ≡ theirs a (heard_sent a.txn p)
sent_is a p = by p.msg
  where
    by : (k : Message) → answer_sent a (record p { msg = k }) ≡ theirs a (heard_sent a.txn (record p { msg = k }))
    by (msg.Done u n inc answer) = one a n answer (a.n == n) (same_txn a.txn u) refl
    by _ = refl

moment_is : (a : Asked) (m : Moment) → flat_map (answer_told a) m.told ++ flat_map (answer_sent a) m.outs ≡ theirs a (heard_in a.txn m.told m.outs)
moment_is a m =
    ap (λ (l : List Answer). l ++ flat_map (answer_sent a) m.outs) (theirs_of a (answer_told a) (heard_told a.txn) (told_is a) m.told)
    ∙ ap (λ (l : List Answer). theirs a (flat_map (heard_told a.txn) m.told) ++ l) (theirs_of a (answer_sent a) (heard_sent a.txn) (sent_is a) m.outs)
    ∙ sym (theirs_append a (flat_map (heard_told a.txn) m.told) (flat_map (heard_sent a.txn) m.outs))

-- the answers to an operation are those of its number among its transaction's
pub answers_are : (a : Asked) (steps : List Moment) → answers a steps ≡ theirs a (heard_of a.txn steps)
answers_are a steps = theirs_of a (λ m. flat_map (answer_told a) m.told ++ flat_map (answer_sent a) m.outs) (λ m. heard_in a.txn m.told m.outs) (moment_is a) steps

performed_own : (a : Asked) (steps : List Moment) → performed_by steps a ≡ performed_in (heard_of a.txn steps) a
performed_own a steps = by (filter (λ h. a.n == h.n) (heard_of a.txn steps)) refl
  where
    by : (hs : List Heard) → filter (λ h. a.n == h.n) (heard_of a.txn steps) ≡ hs → performed_by steps a ≡ performed_in (heard_of a.txn steps) a
    by [] is = rw (answers_are a steps, is) refl
    by (h ∷ hs) is = rw (answers_are a steps, is) refl

-- where the operation is the transaction's
performed_is : (t : Txn) (steps : List Moment) (a : Asked) → same_txn t a.txn ≡ true → performed_by steps a ≡ performed_in (heard_of t steps) a
performed_is t steps a e = performed_own a steps ∙ ap (λ (u : Txn). performed_in (heard_of u steps) a) (sym (same_txn_eq t a.txn e))

is_filtered : (a : Asked) (hs : List Heard) (fs : List Heard) → filter (λ h. a.n == h.n) hs ≡ fs → list_any (λ h. a.n == h.n) hs ≡ list_any (λ h. true) fs
is_filtered a [] fs e = ap (λ (l : List Heard). list_any (λ h. true) l) e
is_filtered a (h ∷ hs) fs e = by (is_filtered a hs (filter (λ h. a.n == h.n) hs) refl) (a.n == h.n) refl
  where
    by : list_any (λ h. a.n == h.n) hs ≡ list_any (λ h. true) (filter (λ h. a.n == h.n) hs) → (b : Bool) → (a.n == h.n) ≡ b → list_any (λ h. a.n == h.n) (h ∷ hs) ≡ list_any (λ h. true) fs
    by ih true is =
        let front : fs ≡ h ∷ filter (λ h. a.n == h.n) hs = sym e ∙ rw is refl in
        rw (front, is) refl
    by ih false is =
        let front : fs ≡ filter (λ h. a.n == h.n) hs = sym e ∙ rw is refl in
        rw (front, is) ih

pub answered_own : (a : Asked) (steps : List Moment) → is_answered steps a ≡ has_heard (heard_of a.txn steps) a
answered_own a steps = by (filter (λ h. a.n == h.n) (heard_of a.txn steps)) refl
  where
    by : (hs : List Heard) → filter (λ h. a.n == h.n) (heard_of a.txn steps) ≡ hs → is_answered steps a ≡ has_heard (heard_of a.txn steps) a
    by [] is = rw (answers_are a steps, is) (sym (is_filtered a (heard_of a.txn steps) [] is))
    by (h ∷ hs) is = rw (answers_are a steps, is) (sym (is_filtered a (heard_of a.txn steps) (h ∷ hs) is))

pub answered_is : (t : Txn) (steps : List Moment) (a : Asked) → same_txn t a.txn ≡ true → is_answered steps a ≡ has_heard (heard_of t steps) a
answered_is t steps a e = answered_own a steps ∙ ap (λ (u : Txn). has_heard (heard_of u steps) a) (sym (same_txn_eq t a.txn e))

own_alike : (t : Txn) (f g : Asked → List Performed) → ((a : Asked) → same_txn t a.txn ≡ true → f a ≡ g a) → (xs : List Asked)
    → flat_map f (filter (λ a. same_txn t a.txn) xs) ≡ flat_map g (filter (λ a. same_txn t a.txn) xs)
own_alike t f g h [] = refl
own_alike t f g h (x ∷ xs) = by (own_alike t f g h xs) (same_txn t x.txn) refl
  where
    by : flat_map f (filter (λ a. same_txn t a.txn) xs) ≡ flat_map g (filter (λ a. same_txn t a.txn) xs) → (b : Bool) → same_txn t x.txn ≡ b
        → flat_map f (filter (λ a. same_txn t a.txn) (x ∷ xs)) ≡ flat_map g (filter (λ a. same_txn t a.txn) (x ∷ xs))
    by ih true is = rw is (ap (λ (l : List Performed). l ++ flat_map f (filter (λ a. same_txn t a.txn) xs)) (h x is) ∙ ap (λ (l : List Performed). g x ++ l) ih)
    by ih false is = rw is ih

-- what is done, by the card
pub done_is : (site : ℕ) (t : Txn) (steps : List Moment) → flat_map (performed_in (heard_of t steps)) (came_of site t steps) ≡ done site t steps
done_is site t steps = sym (own_alike t (performed_by steps) (performed_in (heard_of t steps)) (performed_is t steps) (arrivals site steps))

-- whether an operation waits, by the card
pub waits_is : (t : Txn) (log : List Record) (steps : List Moment) (asked : List Asked)
    → (is_undecided t log && list_any (λ a. not (has_heard (heard_of t steps) a)) (filter (λ a. same_txn t a.txn) asked))
    ≡ list_any (λ q. same_txn t q.txn) (filter (λ a. is_undecided a.txn log && not (is_answered steps a)) asked)
waits_is t log steps [] = grind (arith, common_steps)
waits_is t log steps (x ∷ xs) = by (waits_is t log steps xs) (same_txn t x.txn) refl
  where
    by : (is_undecided t log && list_any (λ a. not (has_heard (heard_of t steps) a)) (filter (λ a. same_txn t a.txn) xs))
        ≡ list_any (λ q. same_txn t q.txn) (filter (λ a. is_undecided a.txn log && not (is_answered steps a)) xs) → (b : Bool) → same_txn t x.txn ≡ b
        → (is_undecided t log && list_any (λ a. not (has_heard (heard_of t steps) a)) (filter (λ a. same_txn t a.txn) (x ∷ xs)))
        ≡ list_any (λ q. same_txn t q.txn) (filter (λ a. is_undecided a.txn log && not (is_answered steps a)) (x ∷ xs))
    by ih true is =
        let heard = answered_is t steps x is in
        let open_is : is_undecided x.txn log ≡ is_undecided t log = ap (λ (u : Txn). is_undecided u log) (sym (same_txn_eq t x.txn is)) in
        grind (arith, common_steps, ih, is, heard, open_is)
    by ih false is = grind (arith, common_steps, ih, is)

-- the first answer is the first of its number
first_answer : (a : Asked) (hs : List Heard) → first_of (theirs a hs) ≡ answer_in hs a.n
first_answer a [] = refl
first_answer a (h ∷ hs) = by (first_answer a hs) (a.n == h.n) refl
  where
    by : first_of (theirs a hs) ≡ answer_in hs a.n → (b : Bool) → (a.n == h.n) ≡ b → first_of (theirs a (h ∷ hs)) ≡ answer_in (h ∷ hs) a.n
    by ih true is = rw is refl
    by ih false is = rw is ih

-- the first answer to an operation, by its card
pub answer_is : (a : Asked) (steps : List Moment) → first_of (answers a steps) ≡ answer_in (heard_of a.txn steps) a.n
answer_is a steps = ap (λ (l : List Answer). first_of l) (answers_are a steps) ∙ first_answer a (heard_of a.txn steps)

-- operations of one number and transaction are answered alike
heard_alike : (heard : List Heard) (a b : Asked) → same_asked a b ≡ true → has_heard heard b ≡ has_heard heard a
heard_alike heard a b e = let n : a.n ≡ b.n = grind (arith, common_steps, e) in ap (λ (k : ℕ). list_any (λ h. k == h.n) heard) (sym n)

-- whether an operation waits, by its card
pub waiting_is : (q : Asked) (log : List Record) (steps : List Moment) (asked : List Asked)
    → (is_undecided q.txn log && (list_any (same_asked q) (filter (λ a. same_txn q.txn a.txn) asked) && not (has_heard (heard_of q.txn steps) q)))
    ≡ list_any (same_asked q) (filter (λ a. is_undecided a.txn log && not (is_answered steps a)) asked)
waiting_is q log steps [] = grind (arith, common_steps)
waiting_is q log steps (x ∷ xs) = by (waiting_is q log steps xs) (same_txn q.txn x.txn) (same_asked q x) refl refl
  where
    by : (is_undecided q.txn log && (list_any (same_asked q) (filter (λ a. same_txn q.txn a.txn) xs) && not (has_heard (heard_of q.txn steps) q)))
        ≡ list_any (same_asked q) (filter (λ a. is_undecided a.txn log && not (is_answered steps a)) xs) → (b c : Bool) → same_txn q.txn x.txn ≡ b → same_asked q x ≡ c
        → (is_undecided q.txn log && (list_any (same_asked q) (filter (λ a. same_txn q.txn a.txn) (x ∷ xs)) && not (has_heard (heard_of q.txn steps) q)))
        ≡ list_any (same_asked q) (filter (λ a. is_undecided a.txn log && not (is_answered steps a)) (x ∷ xs))
    by ih true true is same =
        let heard = answered_is q.txn steps x is in
        let alike = heard_alike (heard_of q.txn steps) q x same in
        let open_is : is_undecided x.txn log ≡ is_undecided q.txn log = ap (λ (u : Txn). is_undecided u log) (sym (same_txn_eq q.txn x.txn is)) in
        grind (arith, common_steps, ih, is, same, heard, alike, open_is)
    by ih true false is same = grind (arith, common_steps, ih, is, same)
    by ih false true is same = absurd (let off : same_asked q x ≡ false = grind (arith, common_steps, is) in true_not_false (sym same ∙ off))
    by ih false false is same = grind (arith, common_steps, ih, is, same)
