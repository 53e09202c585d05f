-- A client keeps what its coordinator's steps say, behind each call.
use Rattle.std.specs.Prelude.{◌≡◌, ◌==◌, ◌&&◌, ◌||◌, ◌++◌, ◌∷◌, [], ◌+◌, if◌then◌else◌, ℕ, suc, Bool, true, false, not, List, length, map, fold, Option, None, slice_get}
use Rattle.std.specs.List.{list_any, flat_map}
use Rattle.std.proofs.Common.{refl, ap, sym, ◌∙◌, arith, length-append}
use Rattle.std.proofs.lemmas.Grind.{common_steps, flat_map-append}
use Rattle.std.proofs.lemmas.List.Folds.{list_any-append}
use Rattle.std.proofs.lemmas.List.Sums.{fold-append}
use Rattle.e3_types.specs.declared.entries.Input.{Input}
use Rattle.e3_types.specs.declared.entries.Input.TheVariants as input
use Rattle.e3_types.specs.declared.entries.Refusal.{Refusal}
use Rattle.e3_types.specs.declared.entries.Told.{Told}
use Rattle.e3_types.specs.declared.entries.Told.TheVariants as told
use Rattle.e3_types.specs.declared.messages.Message.{Message}
use Rattle.e3_types.specs.declared.messages.Message.TheVariants as msg
use Rattle.e3_types.specs.declared.messages.Packet.{Packet}
use Rattle.e3_types.specs.declared.transactions.Op.{Op}
use Rattle.e3_types.specs.declared.transactions.Txn.{Txn}
use Rattle.e3_types.specs.Same.{same_txn}
use Rattle.e3_types.proofs.SameSites.{same_numbers_refl}
use Rattle.e3_world.specs.declared.lives.Expected.{Expected}
use Rattle.e3_world.specs.declared.lives.Moment.{Moment}
use Rattle.e3_world.specs.Logs.{key_of}
use Rattle.e3_world.specs.Operations.{expected_by, expected_with as counted_with, is_refusal, issued, issued_in, kept_reason, op_told, reason_in, tells_op}
use Rattle.e3_client.specs.declared.client.Issued.{Issued}
use Rattle.e3_client.specs.Clients.{Kept, expected, expected_with, or_kept, unanswered}
use Rattle.e3_client.specs.Rule.{IsKept, IsQuiet, and_told}
use Rattle.e3_client.proofs.Numbered.{answered_push, none_counts, unanswered_push}

or_false : (b : Bool) → (b || false) ≡ b
or_false true = refl
or_false false = refl

pub nil_end : {X : Type 0} (xs : List X) → xs ++ [] ≡ xs
nil_end [] = refl
nil_end {X} (x ∷ xs) = ap (λ (l : List X). x ∷ l) (nil_end xs)

map_push : {X Y : Type 0} (f : X → Y) (xs : List X) (x : X) → map f (xs ++ x ∷ []) ≡ map f xs ++ f x ∷ []
map_push f [] x = refl
map_push {X} {Y} f (y ∷ xs) x = ap (λ (l : List Y). f y ∷ l) (map_push f xs x)

flat_push : {X Y : Type 0} (f : X → List Y) (xs : List X) (x : X) → flat_map f (xs ++ x ∷ []) ≡ flat_map f xs ++ f x
flat_push {X} {Y} f xs x = flat_map-append f xs (x ∷ []) ∙ ap (λ (l : List Y). flat_map f xs ++ l) (nil_end (f x))

pub any_push : {X : Type 0} (p : X → Bool) (xs : List X) (x : X) → list_any p (xs ++ x ∷ []) ≡ (list_any p xs || p x)
any_push p xs x = list_any-append p xs (x ∷ []) ∙ ap (λ (b : Bool). list_any p xs || b) (or_false (p x))

pub same_self : (t : Txn) → same_txn t t ≡ true
same_self t = let e = same_numbers_refl t.sites in grind (arith, common_steps, e)

-- what the definitions read of the transaction, with one more step
pub told_push : (t : Txn) (n : ℕ) (steps : List Moment) (m : Moment) → op_told t n (steps ++ m ∷ []) ≡ (op_told t n steps || list_any (tells_op t n) m.told)
told_push t n steps m = any_push (λ s. list_any (tells_op t n) s.told) steps m

issued_push : (t : Txn) (steps : List Moment) (m : Moment) → issued t (steps ++ m ∷ []) ≡ issued t steps ++ issued_in t m.input m.told
issued_push t steps m = flat_push (λ s. issued_in t s.input s.told) steps m

pub reasons_push : (t : Txn) (steps : List Moment) (m : Moment) → kept_reason t (steps ++ m ∷ []) ≡ kept_reason t steps ++ flat_map (reason_in t) m.told
reasons_push t steps m = flat_push (λ s. flat_map (reason_in t) s.told) steps m

abbrev pub zeros : Expected
zeros = record { inc = 0; count = 0 }

pub expected_push : (t : Txn) (site : ℕ) (steps : List Moment) (m : Moment)
    → fold (expected_by t site) zeros (steps ++ m ∷ []) ≡ expected_by t site (fold (expected_by t site) zeros steps) m
expected_push t site steps m = fold-append (expected_by t site) zeros steps (m ∷ [])

-- a message with a step that tells no answer counts nothing
with_quiet : (t : Txn) (was : Expected) (events : List Told) (k : Message) → ((n : ℕ) → list_any (tells_op t n) events ≡ false) → counted_with t was events k ≡ was
with_quiet t was events (msg.Done u n inc answer) quiet = by (same_txn t u) refl
  where
    by : (b : Bool) → same_txn t u ≡ b → counted_with t was events (msg.Done u n inc answer) ≡ was
    by true is = rw (is, quiet n) refl
    by false is = rw is refl
with_quiet t was events (msg.Do u n op) quiet = refl
with_quiet t was events (msg.Died u n older) quiet = refl
with_quiet t was events (msg.Ask u call) quiet = refl
with_quiet t was events (msg.LastElected u call n) quiet = refl
with_quiet t was events (msg.Elected u n) quiet = refl
with_quiet t was events (msg.Report u n st n2) quiet = refl
with_quiet t was events (msg.VoteReq u inc count) quiet = refl
with_quiet t was events (msg.Vote u says) quiet = refl
with_quiet t was events (msg.Pre u n dir) quiet = refl
with_quiet t was events (msg.Ack u n dir) quiet = refl
with_quiet t was events (msg.Decide u dir) quiet = refl

by_quiet : (t : Txn) (site : ℕ) (was : Expected) (m : Moment) → ((n : ℕ) → list_any (tells_op t n) m.told ≡ false) → expected_by t site was m ≡ was
by_quiet t site was m quiet = by m.input refl
  where
    by_site : (packet : Packet) (b : Bool) → (packet.«from» == site) ≡ b → (if packet.«from» == site then counted_with t was m.told packet.msg else was) ≡ was
    by_site packet true is = rw is (with_quiet t was m.told packet.msg quiet)
    by_site packet false is = rw is refl

    by : (i : Input) → m.input ≡ i → expected_by t site was m ≡ was
    by (input.Deliver packet) is = rw is (by_site packet (packet.«from» == site) refl)
    by (input.Begin sites) is = rw is refl
    by (input.Do u op) is = rw is refl
    by (input.Commit u) is = rw is refl
    by (input.Cancel u) is = rw is refl
    by (input.Expire u) is = rw is refl
    by (input.Elect u group) is = rw is refl

-- a step that says nothing of the transaction
pub passes : (coordinator : ℕ) (steps : List Moment) (k : Kept) (m : Moment) → IsKept coordinator steps k → IsQuiet k.txn m → IsKept coordinator (steps ++ m ∷ []) k
passes coordinator steps k m kept quiet = record {
  sites = kept.sites ∙ ap (λ (ops : List Op). map (λ op. (key_of op).site) ops)
      (sym (issued_push k.txn steps m ∙ ap (λ (ops : List Op). issued k.txn steps ++ ops) quiet.issues ∙ nil_end (issued k.txn steps)));
  told = λ n. kept.told n ∙ sym (told_push k.txn n steps m ∙ ap (λ (b : Bool). op_told k.txn n steps || b) (quiet.tells n) ∙ or_false (op_told k.txn n steps));
  last = kept.last;
  heard = λ site other. kept.heard site other
      ∙ sym (expected_push k.txn site steps m ∙ by_quiet k.txn site (fold (expected_by k.txn site) zeros steps) m quiet.tells);
  why = kept.why ∙ ap (λ (l : List Refusal). slice_get l 0)
      (sym (reasons_push k.txn steps m ∙ ap (λ (l : List Refusal). kept_reason k.txn steps ++ l) quiet.reasons ∙ nil_end (kept_reason k.txn steps)));
}

-- the operation that a step issues, before the step tells anything
pub issues : (coordinator site : ℕ) (steps : List Moment) (k : Kept) (m : Moment) (op : Op) → IsKept coordinator steps k → unanswered k.ops ≡ None → m.told ≡ []
    → issued_in k.txn m.input [] ≡ op ∷ [] → (key_of op).site ≡ site
    → IsKept coordinator (steps ++ m ∷ []) (record k { ops = k.ops ++ record { site = site; answered = None } ∷ [] })
issues coordinator site steps k m op kept free silent made at = record {
  sites = map_push (λ o. o.site) k.ops new ∙ ap (λ (l : List ℕ). l ++ site ∷ []) kept.sites
      ∙ ap (λ (s : ℕ). map (λ o. (key_of o).site) (issued k.txn steps) ++ s ∷ []) (sym at)
      ∙ sym (map_push (λ o. (key_of o).site) (issued k.txn steps) op)
      ∙ ap (λ (ops : List Op). map (λ o. (key_of o).site) ops) (sym (issued_push k.txn steps m ∙ ap (λ (ops : List Op). issued k.txn steps ++ ops) now));
  told = λ n. answered_push 1 n k.ops new refl ∙ kept.told n
      ∙ sym (told_push k.txn n steps m ∙ ap (λ (b : Bool). op_told k.txn n steps || b) (tells n) ∙ or_false (op_told k.txn n steps));
  last = λ n e.
      let number : 1 + length k.ops ≡ n = (let first = unanswered_push 1 k.ops new free refl in cc) in
      let long = length-append k.ops (new ∷ []) in
      omega (arith, number, long);
  heard = λ s other. fold-append (expected_with s) zeros k.ops (new ∷ []) ∙ none_counts s (expected s k.ops) new refl ∙ kept.heard s other
      ∙ sym (expected_push k.txn s steps m ∙ by_quiet k.txn s (fold (expected_by k.txn s) zeros steps) m tells);
  why = kept.why ∙ ap (λ (l : List Refusal). slice_get l 0)
      (sym (reasons_push k.txn steps m ∙ ap (λ (l : List Refusal). kept_reason k.txn steps ++ l) reasons ∙ nil_end (kept_reason k.txn steps)));
}
  where
    new : Issued
    new = record { site = site; answered = None }

    tells : (n : ℕ) → list_any (tells_op k.txn n) m.told ≡ false
    tells n = ap (λ (events : List Told). list_any (tells_op k.txn n) events) silent

    reasons : flat_map (reason_in k.txn) m.told ≡ []
    reasons = ap (λ (events : List Told). flat_map (reason_in k.txn) events) silent

    now : issued_in k.txn m.input m.told ≡ op ∷ []
    now = ap (λ (events : List Told). issued_in k.txn m.input events) silent ∙ made

-- what a step issues, with one more event that is no refusal
issued_more : (t : Txn) (i : Input) (events : List Told) (e : Told) → is_refusal e ≡ false → issued_in t i (events ++ e ∷ []) ≡ issued_in t i events
issued_more t (input.Do u op) events e off =
    let same : list_any is_refusal (events ++ e ∷ []) ≡ list_any is_refusal events =
    any_push is_refusal events e ∙ ap (λ (b : Bool). list_any is_refusal events || b) off ∙ or_false (list_any is_refusal events) in
    ap (λ (b : Bool). if same_txn t u && not b then op ∷ [] else []) same
issued_more t (input.Begin sites) events e off = refl
issued_more t (input.Commit u) events e off = refl
issued_more t (input.Cancel u) events e off = refl
issued_more t (input.Expire u) events e off = refl
issued_more t (input.Elect u group) events e off = refl
issued_more t (input.Deliver packet) events e off = refl

-- the operations that were issued, with one more event in the last step
pub still_issued : (t : Txn) (steps : List Moment) (m : Moment) (e : Told) → is_refusal e ≡ false → issued t (steps ++ and_told m e ∷ []) ≡ issued t (steps ++ m ∷ [])
still_issued t steps m e off =
    issued_push t steps (and_told m e) ∙ ap (λ (ops : List Op). issued t steps ++ ops) (issued_more t m.input m.told e off) ∙ sym (issued_push t steps m)

-- the numbers that were told, with one more event in the last step
pub told_more : (t : Txn) (n : ℕ) (steps : List Moment) (m : Moment) (e : Told)
    → op_told t n (steps ++ and_told m e ∷ []) ≡ (tells_op t n e || op_told t n (steps ++ m ∷ []))
told_more t n steps m e =
    told_push t n steps (and_told m e) ∙ ap (λ (b : Bool). op_told t n steps || b) (any_push (tells_op t n) m.told e)
    ∙ turn (op_told t n steps) (list_any (tells_op t n) m.told) (tells_op t n e)
    ∙ ap (λ (b : Bool). tells_op t n e || b) (sym (told_push t n steps m))
  where
    turn : (a b c : Bool) → (a || (b || c)) ≡ (c || (a || b))
    turn true b true = refl
    turn true b false = refl
    turn false true true = refl
    turn false true false = refl
    turn false false true = refl
    turn false false false = refl

-- the reasons that were told, with one more event in the last step
pub reasons_more : (t : Txn) (steps : List Moment) (m : Moment) (e : Told)
    → kept_reason t (steps ++ and_told m e ∷ []) ≡ kept_reason t (steps ++ m ∷ []) ++ reason_in t e
reasons_more t steps m e =
    reasons_push t steps (and_told m e) ∙ ap (λ (l : List Refusal). kept_reason t steps ++ l) (flat_push (reason_in t) m.told e)
    ∙ assoc (kept_reason t steps) (flat_map (reason_in t) m.told) (reason_in t e)
    ∙ ap (λ (l : List Refusal). l ++ reason_in t e) (sym (reasons_push t steps m))
  where
    assoc : (xs ys zs : List Refusal) → xs ++ (ys ++ zs) ≡ (xs ++ ys) ++ zs
    assoc [] ys zs = refl
    assoc (x ∷ xs) ys zs = ap (λ (l : List Refusal). x ∷ l) (assoc xs ys zs)

-- an event that is a reason tells no answer, and is no refusal
reason_quiet : (t : Txn) (why : Refusal) (e : Told) → reason_in t e ≡ why ∷ [] → ((n : ℕ) → tells_op t n e ≡ false) × (is_refusal e ≡ false)
reason_quiet t why (told.Died u older) is = (λ n. refl, refl)
reason_quiet t why (told.Doomed u site had now) is = (λ n. refl, refl)
reason_quiet t why (told.Began u) is = absurd cc
reason_quiet t why (told.Op u n answer) is = absurd cc
reason_quiet t why (told.Ended u dir) is = absurd cc
reason_quiet t why (told.Refused u refusal) is = absurd cc
reason_quiet t why (told.Kept u st) is = absurd cc
reason_quiet t why (told.Verdict u n v) is = absurd cc

-- a message with one more event that tells no answer
with_more : (t : Txn) (was : Expected) (events : List Told) (e : Told) (k : Message) → ((n : ℕ) → tells_op t n e ≡ false)
    → counted_with t was (events ++ e ∷ []) k ≡ counted_with t was events k
with_more t was events e (msg.Done u n inc answer) quiet =
    let same : list_any (tells_op t n) (events ++ e ∷ []) ≡ list_any (tells_op t n) events =
    any_push (tells_op t n) events e ∙ ap (λ (b : Bool). list_any (tells_op t n) events || b) (quiet n) ∙ or_false (list_any (tells_op t n) events) in
    ap (λ (b : Bool). if same_txn t u && b then record { inc = inc; count = suc was.count } else was) same
with_more t was events e (msg.Do u n op) quiet = refl
with_more t was events e (msg.Died u n older) quiet = refl
with_more t was events e (msg.Ask u call) quiet = refl
with_more t was events e (msg.LastElected u call n) quiet = refl
with_more t was events e (msg.Elected u n) quiet = refl
with_more t was events e (msg.Report u n st n2) quiet = refl
with_more t was events e (msg.VoteReq u inc count) quiet = refl
with_more t was events e (msg.Vote u says) quiet = refl
with_more t was events e (msg.Pre u n dir) quiet = refl
with_more t was events e (msg.Ack u n dir) quiet = refl
with_more t was events e (msg.Decide u dir) quiet = refl

by_more : (t : Txn) (site : ℕ) (was : Expected) (m : Moment) (e : Told) → ((n : ℕ) → tells_op t n e ≡ false) → expected_by t site was (and_told m e) ≡ expected_by t site was m
by_more t site was m e quiet = by m.input refl
  where
    by : (i : Input) → m.input ≡ i → expected_by t site was (and_told m e) ≡ expected_by t site was m
    by (input.Deliver packet) is = rw is (ap (λ (x : Expected). if packet.«from» == site then x else was) (with_more t was m.told e packet.msg quiet))
    by (input.Begin sites) is = rw is refl
    by (input.Do u op) is = rw is refl
    by (input.Commit u) is = rw is refl
    by (input.Cancel u) is = rw is refl
    by (input.Expire u) is = rw is refl
    by (input.Elect u group) is = rw is refl

-- the reason for which a transaction is ended, which its last step tells
pub ends : (coordinator : ℕ) (steps : List Moment) (k : Kept) (m : Moment) (e : Told) (why : Refusal) → IsKept coordinator (steps ++ m ∷ []) k → reason_in k.txn e ≡ why ∷ []
    → IsKept coordinator (steps ++ and_told m e ∷ []) (record k { why = or_kept k.why why })
ends coordinator steps k m e why kept is = record {
  sites = kept.sites ∙ ap (λ (ops : List Op). map (λ op. (key_of op).site) ops) (sym (still_issued k.txn steps m e quiet.1));
  told = λ n. kept.told n ∙ sym (told_more k.txn n steps m e ∙ ap (λ (b : Bool). b || op_told k.txn n (steps ++ m ∷ [])) (quiet.0 n));
  last = kept.last;
  heard = λ site other. kept.heard site other ∙ expected_push k.txn site steps m
      ∙ sym (expected_push k.txn site steps (and_told m e) ∙ by_more k.txn site (fold (expected_by k.txn site) zeros steps) m e quiet.0);
  why = ap (λ (o : Option Refusal). or_kept o why) kept.why ∙ first (kept_reason k.txn (steps ++ m ∷ []))
      ∙ ap (λ (l : List Refusal). slice_get l 0) (sym (reasons_more k.txn steps m e ∙ ap (λ (l : List Refusal). kept_reason k.txn (steps ++ m ∷ []) ++ l) is));
}
  where
    quiet : ((n : ℕ) → tells_op k.txn n e ≡ false) × (is_refusal e ≡ false)
    quiet = reason_quiet k.txn why e is

    first : (reasons : List Refusal) → or_kept (slice_get reasons 0) why ≡ slice_get (reasons ++ why ∷ []) 0
    first [] = refl
    first (r ∷ rs) = refl
